use Rattle.std.proofs.Common.{◌≤◌, ◌∙◌, length, ap, arith, inl}
use Rattle.edge_io.specs.Written.{Wrote}
use Rattle.history_check.specs.InputParts.{history_part, script_part}
use Rattle.history_check.specs.Legality.{IsAnswer}
use Rattle.history_check.specs.declared.check.Checked.{Checked}
use Rattle.history_check.specs.declared.check.Checked.TheVariants.{Legal, Illegal}
use Rattle.runner.specs.Checking.{WroteCheckRefusal, verdict_text}
use Rattle.runner.proofs.CheckedInputs.{bad_check, known_accepted, known_answer, known_bad, ok_is, refusal_front, verdict_front, wrote_verdict}
use Rattle.runner.proofs.Judged.{same_refusal}
use Rattle.runner.proofs.ScriptPart.{script_shorter}
use Rattle.runner.proofs.check.run_check.Goals as goal

-- the script's part is no longer than the input
pub read_script-requires : goal.read_script-requires
read_script-requires g c =
    let items = c.in_ok-input.input.items in
    let within = c.in_ok-input.ensures.within in
    let short = script_shorter items in
    let same = ap length (c.parts_of.ensures.script ∙ ap script_part c.as_slice.ensures.value) in omega arith

-- the parts of the input that was read
pub returns-in-Script-clause-legal : goal.returns-in-Script-clause-legal
returns-in-Script-clause-legal g c = λ entries same.
    let items = c.in_ok-input.input.items in
    let within = c.in_ok-input.ensures.within in
    let few : length items ≤ 16777216 = omega arith in
    wrote_verdict (g.S.Source.left c.args.source.now) items _ _ c.in_ok-input.ensures.whole few
    (c.parts_of.ensures.script ∙ ap script_part c.as_slice.ensures.value)
    (c.parts_of.ensures.history ∙ ap history_part c.as_slice.ensures.value)
    c.in-Script.script (Legal entries) _ _ c.in-Script.ensures.answer
    (ok_is (IsAnswer c.in-Script.script _) c.check_text.result _ c.check_text.ensures.answer same)
    (ok_is (λ (checked : Checked). Wrote (g.K.Sink.written c.args.sink.now) (g.K.Sink.written c.check_text.new.sink)
    (verdict_text checked)) c.check_text.result _ c.check_text.ensures.whole same) c.check_text.ensures.safe

pub returns-in-Script-clause-illegal : goal.returns-in-Script-clause-illegal
returns-in-Script-clause-illegal g c = λ line same.
    let items = c.in_ok-input.input.items in
    let within = c.in_ok-input.ensures.within in
    let few : length items ≤ 16777216 = omega arith in
    wrote_verdict (g.S.Source.left c.args.source.now) items _ _ c.in_ok-input.ensures.whole few
    (c.parts_of.ensures.script ∙ ap script_part c.as_slice.ensures.value)
    (c.parts_of.ensures.history ∙ ap history_part c.as_slice.ensures.value)
    c.in-Script.script (Illegal line) _ _ c.in-Script.ensures.answer
    (ok_is (IsAnswer c.in-Script.script _) c.check_text.result _ c.check_text.ensures.answer same)
    (ok_is (λ (checked : Checked). Wrote (g.K.Sink.written c.args.sink.now) (g.K.Sink.written c.check_text.new.sink)
    (verdict_text checked)) c.check_text.result _ c.check_text.ensures.whole same) c.check_text.ensures.safe

pub returns-in-Script-clause-front : goal.returns-in-Script-clause-front
returns-in-Script-clause-front g c = λ same.
    let items = c.in_ok-input.input.items in
    let within = c.in_ok-input.ensures.within in
    let few : length items ≤ 16777216 = omega arith in
    verdict_front (g.S.Source.left c.args.source.now) items _ _ c.in_ok-input.ensures.whole few
    (c.parts_of.ensures.script ∙ ap script_part c.as_slice.ensures.value)
    (c.parts_of.ensures.history ∙ ap history_part c.as_slice.ensures.value)
    c.in-Script.script _ _ c.in-Script.ensures.answer (c.check_text.ensures.front same)

pub returns-in-Script-clause-decided_legal : goal.returns-in-Script-clause-decided_legal
returns-in-Script-clause-decided_legal g c = λ script entries holds reads writes.
    let items = c.in_ok-input.input.items in
    let within = c.in_ok-input.ensures.within in
    let few : length items ≤ 16777216 = omega arith in
    c.check_text.ensures.legal entries (known_answer
    (g.S.Source.left c.args.source.now) items _ _ c.in_ok-input.ensures.whole few
    (c.parts_of.ensures.script ∙ ap script_part c.as_slice.ensures.value)
    (c.parts_of.ensures.history ∙ ap history_part c.as_slice.ensures.value) c.in-Script.script script
    (Legal entries) c.in-Script.ensures.answer holds) writes

pub returns-in-Script-clause-decided_illegal : goal.returns-in-Script-clause-decided_illegal
returns-in-Script-clause-decided_illegal g c = λ script line holds reads writes.
    let items = c.in_ok-input.input.items in
    let within = c.in_ok-input.ensures.within in
    let few : length items ≤ 16777216 = omega arith in
    c.check_text.ensures.illegal line (known_answer
    (g.S.Source.left c.args.source.now) items _ _ c.in_ok-input.ensures.whole few
    (c.parts_of.ensures.script ∙ ap script_part c.as_slice.ensures.value)
    (c.parts_of.ensures.history ∙ ap history_part c.as_slice.ensures.value) c.in-Script.script script
    (Illegal line) c.in-Script.ensures.answer holds) writes

pub returns-in-Script-clause-bad : goal.returns-in-Script-clause-bad
returns-in-Script-clause-bad g c = λ line why holds reads writes.
    let items = c.in_ok-input.input.items in
    let within = c.in_ok-input.ensures.within in
    let few : length items ≤ 16777216 = omega arith in
    absurd (c.in-Script.ensures.first_bad line why
    (known_bad (g.S.Source.left c.args.source.now) items _ _ c.in_ok-input.ensures.whole few
    (c.parts_of.ensures.script ∙ ap script_part c.as_slice.ensures.value)
    (c.parts_of.ensures.history ∙ ap history_part c.as_slice.ensures.value) line why holds))

pub returns-in-Ok-clause-refused : goal.returns-in-Ok-clause-refused
returns-in-Ok-clause-refused g c = λ line why same.
    let items = c.in_ok-input.input.items in
    let within = c.in_ok-input.ensures.within in
    let few : length items ≤ 16777216 = omega arith in
    same_refusal (λ l r. WroteCheckRefusal l r (g.S.Source.left c.args.source.now) (g.K.Sink.written c.args.sink.now)
    (g.K.Sink.written c.write_refusal.new.sink)) c.in-Refused.line line c.in-Refused.reason why same (record {
      bad =
          bad_check (g.S.Source.left c.args.source.now) items _ _ c.in_ok-input.ensures.whole few
          (c.parts_of.ensures.script ∙ ap script_part c.as_slice.ensures.value)
          (c.parts_of.ensures.history ∙ ap history_part c.as_slice.ensures.value) c.in-Refused.line c.in-Refused.reason
          c.in-Refused.ensures.answer;
      wrote = c.in-Ok.ensures.whole;
    })

pub returns-in-Ok-clause-bad : goal.returns-in-Ok-clause-bad
returns-in-Ok-clause-bad g c = λ line why holds reads writes.
    let items = c.in_ok-input.input.items in
    let within = c.in_ok-input.ensures.within in
    let few : length items ≤ 16777216 = omega arith in
    let same = c.in-Refused.ensures.first_bad line why
    (known_bad (g.S.Source.left c.args.source.now) items _ _ c.in_ok-input.ensures.whole few
    (c.parts_of.ensures.script ∙ ap script_part c.as_slice.ensures.value)
    (c.parts_of.ensures.history ∙ ap history_part c.as_slice.ensures.value) line why holds) in
    let at = same.0 in
    let reason = same.1 in
    inl (cc)

pub returns-in-Ok-clause-decided_legal : goal.returns-in-Ok-clause-decided_legal
returns-in-Ok-clause-decided_legal g c = λ script entries holds reads writes.
    let items = c.in_ok-input.input.items in
    let within = c.in_ok-input.ensures.within in
    let few : length items ≤ 16777216 = omega arith in
    absurd (c.in-Refused.ensures.only script
    (known_accepted (g.S.Source.left c.args.source.now) items _ _ c.in_ok-input.ensures.whole few
    (c.parts_of.ensures.script ∙ ap script_part c.as_slice.ensures.value)
    (c.parts_of.ensures.history ∙ ap history_part c.as_slice.ensures.value) script (Legal entries) holds))

pub returns-in-Ok-clause-decided_illegal : goal.returns-in-Ok-clause-decided_illegal
returns-in-Ok-clause-decided_illegal g c = λ script line holds reads writes.
    let items = c.in_ok-input.input.items in
    let within = c.in_ok-input.ensures.within in
    let few : length items ≤ 16777216 = omega arith in
    absurd (c.in-Refused.ensures.only script
    (known_accepted (g.S.Source.left c.args.source.now) items _ _ c.in_ok-input.ensures.whole few
    (c.parts_of.ensures.script ∙ ap script_part c.as_slice.ensures.value)
    (c.parts_of.ensures.history ∙ ap history_part c.as_slice.ensures.value) script (Illegal line) holds))

pub returns-in-Refused-clause-front : goal.returns-in-Refused-clause-front
returns-in-Refused-clause-front g c = λ same.
    let items = c.in_ok-input.input.items in
    let within = c.in_ok-input.ensures.within in
    let few : length items ≤ 16777216 = omega arith in
    refusal_front (g.S.Source.left c.args.source.now) items _ _ c.in_ok-input.ensures.whole few
    (c.parts_of.ensures.script ∙ ap script_part c.as_slice.ensures.value)
    (c.parts_of.ensures.history ∙ ap history_part c.as_slice.ensures.value) c.in-Refused.line c.in-Refused.reason _ _
    c.in-Refused.ensures.answer c.in-Err.ensures.front
