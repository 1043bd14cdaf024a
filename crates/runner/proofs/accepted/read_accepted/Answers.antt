use Rattle.std.proofs.Common.{◌≤◌, ℕ, List, length, refl, sym, subst, arith, inl}
use Rattle.script_read.specs.FirstBad.{IsFirstBad}
use Rattle.script_read.specs.Refusal.{refusal_text}
use Rattle.script_grammar.specs.Accepted.{IsAccepted}
use Rattle.runner.specs.Inputs.{IsInput, IsBadInput}
use Rattle.runner.specs.Outputs.{WroteRefusalOf}
use Rattle.runner.proofs.Judged.{of_told, of_input, same_refusal}
use Rattle.runner.proofs.accepted.read_accepted.Goals as goal

pub returns-in-Script-clause-bad : goal.returns-in-Script-clause-bad
returns-in-Script-clause-bad g c = λ line why holds reads writes.
    let input = of_input (λ bytes. IsBadInput bytes line why) _ c.in_ok-input.input.items c.in_ok-input.ensures.whole holds in
    absurd (c.in-Script.ensures.first_bad line why (subst (λ (b : List ℕ). IsFirstBad b line why) (sym c.as_slice.ensures.value) input.bad))

pub returns-in-Ok-clause-refused : goal.returns-in-Ok-clause-refused
returns-in-Ok-clause-refused g c = λ line why same.
    let within = c.in_ok-input.ensures.within in
    let few : length c.in_ok-input.input.items ≤ 1048576 = omega arith in
    let bad = subst (λ (b : List ℕ). IsFirstBad b c.in-Refused.line c.in-Refused.reason) c.as_slice.ensures.value c.in-Refused.ensures.answer in
    same_refusal (λ l r. WroteRefusalOf l r (g.S.Source.left c.args.source.now) (g.K.Sink.written c.args.sink.now)
    (g.K.Sink.written c.write_refusal.new.sink)) c.in-Refused.line line c.in-Refused.reason why same (record {
      bad =
          of_told (λ bytes. IsBadInput bytes c.in-Refused.line c.in-Refused.reason) _ c.in_ok-input.input.items
          c.in_ok-input.ensures.whole (record { few = few; bad = bad });
      wrote = c.in-Ok.ensures.whole;
    })

pub returns-in-Ok-clause-accepted : goal.returns-in-Ok-clause-accepted
returns-in-Ok-clause-accepted g c = λ script holds reads writes.
    let input = of_input (λ bytes. IsInput bytes script) _ c.in_ok-input.input.items c.in_ok-input.ensures.whole holds in
    absurd (c.in-Refused.ensures.only script (subst (λ (b : List ℕ). IsAccepted b script) (sym c.as_slice.ensures.value) input.accepted))

pub returns-in-Ok-clause-bad : goal.returns-in-Ok-clause-bad
returns-in-Ok-clause-bad g c = λ line why holds reads writes.
    let input = of_input (λ bytes. IsBadInput bytes line why) _ c.in_ok-input.input.items c.in_ok-input.ensures.whole holds in
    let same = c.in-Refused.ensures.first_bad line why (subst (λ (b : List ℕ). IsFirstBad b line why) (sym c.as_slice.ensures.value) input.bad) in
    let at = same.0 in
    let reason = same.1 in
    inl (cc)

pub returns-in-Refused-clause-front : goal.returns-in-Refused-clause-front
returns-in-Refused-clause-front g c = λ same.
    let within = c.in_ok-input.ensures.within in
    let few : length c.in_ok-input.input.items ≤ 1048576 = omega arith in
    let bad = subst (λ (b : List ℕ). IsFirstBad b c.in-Refused.line c.in-Refused.reason) c.as_slice.ensures.value c.in-Refused.ensures.answer in
    record {
      text = refusal_text c.in-Refused.line c.in-Refused.reason;
      called_for = record {
        line = c.in-Refused.line;
        why = c.in-Refused.reason;
        bad =
            of_told (λ bytes. IsBadInput bytes c.in-Refused.line c.in-Refused.reason) _ c.in_ok-input.input.items
            c.in_ok-input.ensures.whole (record { few = few; bad = bad });
        same = refl;
      };
      wrote = c.in-Err.ensures.front;
    }
