use Rattle.std.proofs.Common.{◌∙◌, false, subst, sym}
use Rattle.std.specs.Prelude.{IsTrue}
use Rattle.machine.specs.History.{CanAct}
use Rattle.machine_laws.proofs.Reached.Idleness.{chosen_idle, idle_chosen}
use Rattle.plain_machine.proofs.stepped.can_act.Goals as goal

never : {A : Type 0} → IsTrue false → A
never h = absurd (cc)

pub returns-in-Idle-matches-clause-able : goal.returns-in-Idle-matches-clause-able
returns-in-Idle-matches-clause-able c = λ is.
    subst (CanAct c.args.script.now c.args.state.now) (sym c.in-Idle.is)
    (chosen_idle c.args.script.now c.args.state.now c.args.ready.now c.requires.formed (sym c.in-Idle-matches.ensures))

pub returns-in_default : goal.returns-in_default
returns-in_default c = record {
  able = never;
  only =
      λ can. absurd (c.in_default.not-Idle (c.chosen.ensures
      ∙ idle_chosen c.args.script.now c.args.state.now c.args.ready.now c.requires.formed
      (subst (CanAct c.args.script.now c.args.state.now) c.in-Idle.is can)));
}
