use Rattle.std.proofs.Common.{true, List, IfNone, ap, subst, ◌∙◌}
use Rattle.entry_log.specs.declared.entry.Entry.{Entry}
use Rattle.machine.specs.History.{after_in, CanAct}
use Rattle.plain_machine.specs.PlainView.{PlainView}
use Rattle.plain_machine.specs.SharedActions.{IsBarred}
use Rattle.plain_machine.proofs.plain.Plain.shared.Goals as goal

pub returns-in-None-clause-refused : goal.returns-in-None-clause-refused
returns-in-None-clause-refused c =
    let plain = c.self.inside in
    let barred : IsBarred plain.script plain.history c.acted_shared.new.history c.args.actor =
    subst (λ answer. IfNone answer (IsBarred plain.script plain.history c.acted_shared.new.history c.args.actor))
    c.in-None.is c.in_ok-made.ensures.barred in
    let view : List Entry → PlainView = λ es. record { script = plain.script; history = es; shared = plain.state.value.mode.shared } in (
      ap view barred.history ∙ c.self.view_is,
      subst (λ (v : PlainView). CanAct v.script (after_in true v.script v.history) c.args.actor → ⊥) c.self.view_is barred.cannot,
    )
