-- Inputs of which the script's part is accepted, and what was written of them.
use Rattle.std.proofs.Common.{◌≡◌, ℕ, ◌≤◌, ◌<◌, inl, inr, List, length, Option, IfSome, arith, refl, subst, sym, true}
use Rattle.std.specs.Prelude.{IfOk, IsSomeAnd, Result, Ok, Err}
use Rattle.edge_io.specs.Written.{Wrote, WrotePrefix}
use Rattle.entry_log.specs.declared.entry.Entry.{Entry}
use Rattle.history_check.specs.Checks.{IsTextOf}
use Rattle.history_check.specs.InputParts.{history_part, script_part}
use Rattle.history_check.specs.Legality.{IsAnswer}
use Rattle.history_check.specs.declared.check.Checked.{Checked}
use Rattle.machine_safe.specs.Safe.{IsSafeIn}
use Rattle.script_grammar.specs.Accepted.{IsAccepted}
use Rattle.script_read.proofs.SourceLaws.{one_accepted}
use Rattle.script_read.specs.FirstBad.{IsFirstBad}
use Rattle.script_read.specs.Refusal.{refusal_text}
use Rattle.script_read.specs.declared.fault.RunFault.{RunFault}
use Rattle.script_read.specs.declared.reason.Reason.{Reason}
use Rattle.script_types.specs.declared.script.Script.{Script}
use Rattle.runner.proofs.Judged.{of_input, of_told}
use Rattle.runner.specs.Checking.{IsBadCheckInput, IsCheckedAs, IsLargeCheckInput, WroteAnswerFront, WroteVerdict, WroteVerdictFront, verdict_text}

-- what holds of an answer that a check ended with
pub ok_is : (P : Checked → Type 0) (r : Result Checked RunFault) (checked : Checked) → IfOk r P → r ≡ Ok checked → P checked
ok_is P (Ok x) checked holds same = let e : x ≡ checked = cc in subst P e holds
ok_is P (Err f) checked holds same = absurd (cc)

-- an input that was read, and its parts
module _ (left : Option (List ℕ)) (items script_bytes text : List ℕ) (whole : IfSome left (λ bytes. bytes ≡ items))
    (few : length items ≤ 16777216) (script_is : script_bytes ≡ script_part items)
    (text_is : text ≡ history_part items) where
  -- its script's part is accepted
  pub checked_as : (script : Script) (checked : Checked) → IsAccepted script_bytes script → IsAnswer script text checked → IsCheckedAs items script checked
  checked_as script checked accepted answer = record {
    input = record { few = few; accepted = subst (λ (b : List ℕ). IsAccepted b script) script_is accepted };
    answer = subst (λ (t : List ℕ). IsAnswer script t checked) text_is answer;
  }

  pub wrote_verdict : (script : Script) (checked : Checked) (old new : Option (List ℕ)) → IsAccepted script_bytes script
      → IsAnswer script text checked → Wrote old new (verdict_text checked)
      → ((history : List Entry) → IsTextOf script history text → IsSafeIn true script history)
      → WroteVerdict checked left old new
  wrote_verdict script checked old new accepted answer wrote safe = record {
    script = script;
    is = of_told (λ bytes. IsCheckedAs bytes script checked) left items whole (checked_as script checked accepted answer);
    wrote = wrote;
    safe =
        λ history is. safe history (subst (λ (t : List ℕ). IsTextOf script history t) (sym text_is)
        (of_input (λ bytes. IsTextOf script history (history_part bytes)) left items whole is));
  }

  pub verdict_front : (script : Script) (old new : Option (List ℕ)) → IsAccepted script_bytes script
      → WroteAnswerFront script text old new → WroteVerdictFront left old new
  verdict_front script old new accepted front = record {
    text = verdict_text front.checked;
    called_for =
        inl (record {
          script = script;
          checked = front.checked;
          is = of_told (λ bytes. IsCheckedAs bytes script front.checked) left items whole
              (checked_as script front.checked accepted front.answer);
          same = refl;
        });
    wrote = front.wrote;
  }

  -- whatever is known of the input's answer is known of this script's
  pub known_answer : (script other : Script) (checked : Checked) → IsAccepted script_bytes script
      → IsSomeAnd left (λ bytes. IsCheckedAs bytes other checked) → IsAnswer script text checked
  known_answer script other checked accepted holds =
      let known = of_input (λ bytes. IsCheckedAs bytes other checked) left items whole holds in
      let same : script ≡ other = one_accepted script_bytes script other accepted
      (subst (λ (b : List ℕ). IsAccepted b other) (sym script_is) known.input.accepted) in
      subst (λ (s : Script). IsAnswer s text checked) (sym same) (subst (λ (t : List ℕ). IsAnswer other t checked) (sym text_is) known.answer)

  pub known_accepted : (other : Script) (checked : Checked) → IsSomeAnd left (λ bytes. IsCheckedAs bytes other checked) → IsAccepted script_bytes other
  known_accepted other checked holds =
      subst (λ (b : List ℕ). IsAccepted b other) (sym script_is)
      (of_input (λ bytes. IsCheckedAs bytes other checked) left items whole holds).input.accepted

  -- or it has a first bad line
  pub bad_check : (line : ℕ) (why : Reason) → IsFirstBad script_bytes line why → IfSome left (λ bytes. IsBadCheckInput bytes line why)
  bad_check line why bad =
      of_told (λ bytes. IsBadCheckInput bytes line why) left items whole
      (record { few = few; bad = subst (λ (b : List ℕ). IsFirstBad b line why) script_is bad })

  pub known_bad : (line : ℕ) (why : Reason) → IsSomeAnd left (λ bytes. IsBadCheckInput bytes line why) → IsFirstBad script_bytes line why
  known_bad line why holds =
      subst (λ (b : List ℕ). IsFirstBad b line why) (sym script_is)
      (of_input (λ bytes. IsBadCheckInput bytes line why) left items whole holds).bad

  pub refusal_front : (line : ℕ) (why : Reason) (old new : Option (List ℕ)) → IsFirstBad script_bytes line why
      → WrotePrefix old new (refusal_text line why) → WroteVerdictFront left old new
  refusal_front line why old new bad wrote = record {
    text = refusal_text line why;
    called_for = inr (record { line = line; why = why; bad = bad_check line why bad; same = refl });
    wrote = wrote;
  }

  -- it isn't too large
  pub not_large_check : IsSomeAnd left IsLargeCheckInput → ⊥
  not_large_check large = let big : 16777216 < length items = of_input IsLargeCheckInput left items whole large in absurd (omega arith)
