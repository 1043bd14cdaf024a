-- What a check answers, by how far the text goes on.
use Rattle.entry_log.specs.EntryLine.{entry_line}
use Rattle.entry_log.specs.HistoryText.{history_text}
use Rattle.entry_log.specs.IsEntry.{IsStep}
use Rattle.entry_log.specs.declared.entry.Entry.{Entry}
use Rattle.machine.specs.FinalRows.{final_rows}
use Rattle.machine.specs.History.{after, after_in, IsLegal, IsShared}
use Rattle.machine_safe.proofs.SharedReadings.{shared-too}
use Rattle.plain_machine.specs.PlainView.{PlainView}
use Rattle.script_types.specs.Source.{IsWellFormed}
use Rattle.script_types.specs.declared.script.Script.{Script}
use Rattle.std.proofs.Common.{◌≡◌, ◌⊎◌, inl, inr, ℕ, ◌+◌, ◌<◌, ◌≤◌, Bool, true, false, ◌||◌, nat_eq, List, [], ◌∷◌, ◌++◌, length, length-append, codes, refl, sym, ap, subst, ◌∙◌, append_assoc, append-nil, arith}
use Rattle.std.proofs.lemmas.Bool.{eqb-true}
use Rattle.std.proofs.lemmas.List.{nil_from_length}
use Rattle.std.specs.List.{flat_map, AllByRecursion}
use Rattle.std.specs.Prelude.{IsTrue}
use Rattle.history_check.specs.declared.check.Checked.{Checked}
use Rattle.history_check.specs.declared.check.Checked.TheVariants.{Legal, Illegal, NoMemory}
use Rattle.history_check.specs.Checks.{IsTextOf}
use Rattle.history_check.specs.FirstLines.{Begins}
use Rattle.history_check.specs.Followed.{GoesNowhere, IsFollowed}
use Rattle.history_check.specs.Legality.{IsAnswer, IsEnd, IsIllegalText, IsLegalText}
use Rattle.history_check.specs.Rows.{lines_left, row_lines}
use Rattle.history_check.proofs.Following.{HasName}
use Rattle.history_check.proofs.GoodLines.{IsSoFar, ended, illegal_next}
use Rattle.history_check.proofs.RowLines.{illegal_end, legal_end}

-- before the first entry
pub so_start : (script : Script) (text : List ℕ) → IsSoFar script [] text text
so_start script text = record { shared = tt; few = omega arith; known = tt; text_is = refl }

-- one entry on
lines_push : (es : List Entry) (e : Entry) (rest : List ℕ) → flat_map entry_line es ++ (entry_line e ++ rest) ≡ flat_map entry_line (es ++ e ∷ []) ++ rest
lines_push [] e rest = ap (λ (xs : List ℕ). xs ++ rest) (sym (append-nil (entry_line e)))
lines_push (x ∷ xs) e rest =
    append_assoc (entry_line x) (flat_map entry_line xs) (entry_line e ++ rest)
    ∙ ap (λ (text : List ℕ). entry_line x ++ text) (lines_push xs e rest)
    ∙ sym (append_assoc (entry_line x) (flat_map entry_line (xs ++ e ∷ [])) rest)

known_push : (es : List Entry) (e : Entry) → AllByRecursion HasName es → IsStep e.step → AllByRecursion HasName (es ++ e ∷ [])
known_push [] e known named = (named, tt)
known_push (x ∷ xs) e known named = (known.0, known_push xs e known.1 named)

pub so_next : (script : Script) (old new : PlainView) (text rest behind : List ℕ) → new.script ≡ script
    → length old.history < 131072 → IsSoFar script old.history text rest → IsFollowed old new rest behind
    → IsSoFar script new.history text behind
so_next script old new text rest behind scripts few so next = record {
  shared = subst (λ (s : Script). IsShared s new.history) scripts next.legal;
  few = omega (arith, ap length next.history, length-append old.history (next.entry ∷ []));
  known = subst (AllByRecursion HasName) (sym next.history) (known_push old.history next.entry so.known next.named);
  text_is =
      so.text_is ∙ ap (λ (xs : List ℕ). flat_map entry_line old.history ++ xs) next.line ∙ lines_push old.history next.entry behind
      ∙ ap (λ (es : List Entry). flat_map entry_line es ++ behind) (sym next.history);
}

pub count_next : (old new : PlainView) (rest behind : List ℕ) (n : ℕ) → length old.history ≡ n → IsFollowed old new rest behind → length new.history ≡ n + 1
count_next old new rest behind n count next = omega (arith, ap length next.history, length-append old.history (next.entry ∷ []))

pub split_next : (old new : PlainView) (rest behind : List ℕ) → IsFollowed old new rest behind → IsTrue (new.shared || nat_eq (length new.history) 0)
split_next old new rest behind next = ap (λ (b : Bool). b || nat_eq (length new.history) 0) next.shared

-- a machine on which nothing happened has the same objects left in either mode
left-by : (script : Script) (shared : Bool) (history : List Entry) → (shared || nat_eq (length history) 0) ≡ true
    → final_rows (after_in shared script history) ≡ final_rows (after_in true script history)
left-by script true history split = refl
left-by script false history split =
    let none : history ≡ [] = nil_from_length history (eqb-true (length history) 0 split) in
    ap (λ (es : List Entry). final_rows (after_in false script es)) none
    ∙ sym (shared-too script [] tt).left
    ∙ ap (λ (es : List Entry). final_rows (after_in true script es)) (sym none)

pub lines_same : (plain : PlainView) → IsTrue (plain.shared || nat_eq (length plain.history) 0)
    → lines_left plain ≡ row_lines (final_rows (after_in true plain.script plain.history))
lines_same plain split = ap row_lines (left-by plain.script plain.shared plain.history split)

-- at the line `objects`
module _ (script : Script) (es : List Entry) (text left : List ℕ) (valid : IsWellFormed script) (so : IsSoFar script es text (codes "objects\n" ++ left)) where
  pub answer_end : (result : Checked) → IsEnd (row_lines (final_rows (after_in true script es))) left (length es) result → IsAnswer script text result
  answer_end (Legal entries) is = record { history = es; is = legal_end script es text left valid so is.1; count = sym is.0 }
  answer_end (Illegal line) is = illegal_end script es text left valid so line is
  answer_end NoMemory is = absurd is

  -- a history of this text is this one
  pub only_this : (history : List Entry) → IsTextOf script history text → history ≡ es
  only_this history is = ended script es text (codes "objects\n" ++ left) valid so history left is.reach.shared (sym is.same ∙ so.text_is)

  pub only_one : (one other : List Entry) → IsTextOf script one text → IsTextOf script other text → one ≡ other
  only_one one other is too = only_this one is ∙ sym (only_this other too)

-- where no entry goes on
pub answer_next : (script : Script) (es : List Entry) (text rest : List ℕ) → IsWellFormed script
    → IsSoFar script es text rest → (Begins rest (codes "objects\n") → ⊥) → GoesNowhere script es rest
    → IsIllegalText script text (length es + 1)
answer_next script es text rest valid so no_end nowhere =
    illegal_next script es text rest valid so no_end (λ e later more next few one. nowhere e more next one)

-- and where none may
pub answer_last : (script : Script) (es : List Entry) (text rest : List ℕ) → IsWellFormed script
    → IsSoFar script es text rest → (Begins rest (codes "objects\n") → ⊥) → 131072 ≤ length es
    → IsIllegalText script text (length es + 1)
answer_last script es text rest valid so no_end all = illegal_next script es text rest valid so no_end (λ e later more next few one. absurd (omega arith))

-- there is one history at most whose text it is
abbrev pub IsOne : Script → List ℕ → Type 0
IsOne script text = (one other : List Entry) → IsTextOf script one text → IsTextOf script other text → one ≡ other

pub so_begun : (script : Script) (history : List Entry) (text : List ℕ) → history ≡ [] → IsSoFar script history text text
so_begun script history text none = subst (λ (es : List Entry). IsSoFar script es text text) (sym none) (so_start script text)

or_true : (b : Bool) → (b || true) ≡ true
or_true true = refl
or_true false = refl

pub split_begun : (shared : Bool) (history : List Entry) → history ≡ [] → IsTrue (shared || nat_eq (length history) 0)
split_begun shared history none = subst (λ (es : List Entry). IsTrue (shared || nat_eq (length es) 0)) (sym none) (or_true shared)

-- a machine on which the entries so far were made, so many
module _ (script : Script) (plain : PlainView) (text rest : List ℕ) (entries : ℕ) (valid : IsWellFormed script)
    (scripts : plain.script ≡ script) (so : IsSoFar script plain.history text rest) (count : length plain.history ≡ entries) where
  -- at the line `objects`
  so_here : (rows : List ℕ) → rest ≡ codes "objects\n" ++ rows → IsSoFar script plain.history text (codes "objects\n" ++ rows)
  so_here rows is = subst (IsSoFar script plain.history text) is so

  left_here : IsTrue (plain.shared || nat_eq (length plain.history) 0) → lines_left plain ≡ row_lines (final_rows (after_in true script plain.history))
  left_here split = lines_same plain split ∙ ap (λ (s : Script). row_lines (final_rows (after_in true s plain.history))) scripts

  pub checked_end : (rows : List ℕ) (result : Checked) → IsTrue (plain.shared || nat_eq (length plain.history) 0)
      → rest ≡ codes "objects\n" ++ rows → IsEnd (lines_left plain) rows entries result → IsAnswer script text result
  checked_end rows result split is end =
      let here : IsEnd (row_lines (final_rows (after_in true script plain.history))) rows entries result =
      subst (λ (lines : List (List ℕ)). IsEnd lines rows entries result) (left_here split) end in
      answer_end script plain.history text rows valid (so_here rows is) result
      (subst (λ (n : ℕ). IsEnd (row_lines (final_rows (after_in true script plain.history))) rows n result)
      (sym count) here)

  pub checked_one : (rows : List ℕ) → rest ≡ codes "objects\n" ++ rows → IsOne script text
  checked_one rows is = only_one script plain.history text rows valid (so_here rows is)

  -- where no entry goes on
  pub checked_next : (Begins rest (codes "objects\n") → ⊥) → GoesNowhere plain.script plain.history rest → IsIllegalText script text (entries + 1)
  checked_next no_end nowhere =
      subst (λ (n : ℕ). IsIllegalText script text (n + 1)) count
      (answer_next script plain.history text rest valid so no_end
      (subst (λ (s : Script). GoesNowhere s plain.history rest) scripts nowhere))

  -- and where none may
  pub checked_last : (Begins rest (codes "objects\n") → ⊥) → 131072 ≤ entries → IsIllegalText script text (entries + 1)
  checked_last no_end all =
      subst (λ (n : ℕ). IsIllegalText script text (n + 1)) count
      (answer_last script plain.history text rest valid so no_end (omega arith))

-- an answer is decided by the text

pub decides_legal : (script : Script) (text : List ℕ) (result : Checked) (entries : ℕ) → IsAnswer script text result
    → ((n : ℕ) → result ≡ Legal n → IsOne script text) → IsLegalText script text entries
    → (result ≡ Legal entries) ⊎ (result ≡ NoMemory)
decides_legal script text (Legal n) entries is one legal =
    let same = one n refl is.history legal.history is.is legal.is in
    inl (ap Legal (sym is.count ∙ ap length same ∙ legal.count))
decides_legal script text (Illegal line) entries is one legal = absurd (is.none (record { history = legal.history; is = legal.is }))
decides_legal script text NoMemory entries is one legal = inr refl

apart : (a b : ℕ) → (a < b → ⊥) → (b < a → ⊥) → a ≡ b
apart a b below above = omega arith

pub decides_illegal : (script : Script) (text : List ℕ) (result : Checked) (line : ℕ) → IsAnswer script text result
    → IsIllegalText script text line → (result ≡ Illegal line) ⊎ (result ≡ NoMemory)
decides_illegal script text (Legal n) line is illegal = absurd (illegal.none (record { history = is.history; is = is.is }))
decides_illegal script text (Illegal other) line is illegal =
    inl (ap Illegal (apart other line (λ below. is.first.bad (illegal.first.before other below))
    (λ above. illegal.first.bad (is.first.before line above))))
decides_illegal script text NoMemory line is illegal = inr refl

-- the text of a history that one caller makes alone
pub alone_is_legal : (script : Script) (history : List Entry) (text : List ℕ) → IsLegal script history
    → length history ≤ 131072 → text ≡ history_text history (final_rows (after script history))
    → IsLegalText script text (length history)
alone_is_legal script history text legal few is =
    let too = shared-too script history legal in
    record {
      history = history;
      is = record { reach = record { shared = too.shared; few = few }; same = is ∙ ap (history_text history) (sym too.left) };
      count = refl;
    }
