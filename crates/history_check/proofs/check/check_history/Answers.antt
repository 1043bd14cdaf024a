use Rattle.std.proofs.Common.{◌≡◌, true, ap, length, subst}
use Rattle.machine_safe.proofs.LegalSafety.{legal_safety}
use Rattle.plain_machine.specs.PlainView.{PlainView}
use Rattle.script_types.specs.declared.script.Script.{Script}
use Rattle.history_check.specs.Legality.{IsAnswer}
use Rattle.history_check.proofs.Answering.{IsOne, alone_is_legal, decides_illegal, decides_legal}
use Rattle.history_check.proofs.check.check_history.Goals as goal

pub returns-in-Ok-clause-answer : goal.returns-in-Ok-clause-answer
returns-in-Ok-clause-answer c =
    let same : c.in-Ok.plain.script ≡ c.args.script = ap (λ (p : PlainView). p.script) c.in-Ok.ensures in
    subst (λ (s : Script). IsAnswer s c.args.text.now c.check_text.result) same c.check_text.ensures.answer

pub returns-in-Ok-clause-only_legal : goal.returns-in-Ok-clause-only_legal
returns-in-Ok-clause-only_legal c = λ entries legal.
    let same : c.in-Ok.plain.script ≡ c.args.script = ap (λ (p : PlainView). p.script) c.in-Ok.ensures in
    decides_legal c.args.script c.args.text.now c.check_text.result entries
    (subst (λ (s : Script). IsAnswer s c.args.text.now c.check_text.result) same c.check_text.ensures.answer)
    (λ n is. subst (λ (s : Script). IsOne s c.args.text.now) same (c.check_text.ensures.one n is)) legal

pub returns-in-Ok-clause-only_illegal : goal.returns-in-Ok-clause-only_illegal
returns-in-Ok-clause-only_illegal c = λ line illegal.
    let same : c.in-Ok.plain.script ≡ c.args.script = ap (λ (p : PlainView). p.script) c.in-Ok.ensures in
    decides_illegal c.args.script c.args.text.now c.check_text.result line
    (subst (λ (s : Script). IsAnswer s c.args.text.now c.check_text.result) same c.check_text.ensures.answer) illegal

pub returns-in-Ok-clause-one : goal.returns-in-Ok-clause-one
returns-in-Ok-clause-one c = λ entries is.
    let same : c.in-Ok.plain.script ≡ c.args.script = ap (λ (p : PlainView). p.script) c.in-Ok.ensures in
    subst (λ (s : Script). IsOne s c.args.text.now) same (c.check_text.ensures.one entries is)

pub returns-in-Ok-clause-safe : goal.returns-in-Ok-clause-safe
returns-in-Ok-clause-safe c = λ history is. legal_safety true c.args.script history c.requires.valid is.reach.shared

pub returns-in-Ok-clause-alone : goal.returns-in-Ok-clause-alone
returns-in-Ok-clause-alone c = λ history legal few is.
    let same : c.in-Ok.plain.script ≡ c.args.script = ap (λ (p : PlainView). p.script) c.in-Ok.ensures in
    decides_legal c.args.script c.args.text.now c.check_text.result (length history)
    (subst (λ (s : Script). IsAnswer s c.args.text.now c.check_text.result) same c.check_text.ensures.answer)
    (λ n said. subst (λ (s : Script). IsOne s c.args.text.now) same (c.check_text.ensures.one n said))
    (alone_is_legal c.args.script history c.args.text.now legal few is)

pub returns-in-Err-clause-safe : goal.returns-in-Err-clause-safe
returns-in-Err-clause-safe c = λ history is. legal_safety true c.args.script history c.requires.valid is.reach.shared
