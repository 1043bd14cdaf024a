use Rattle.std.proofs.Common.{◌∙◌, ◌+◌, ℕ, length, arith, ap, refl}
use Rattle.entry_log.specs.declared.entry.Actor.TheVariants.{Thread}
use Rattle.entry_log.specs.declared.entry.Entry.{Entry}
use Rattle.machine.specs.declared.state.State.{State}
use Rattle.machine.specs.History.{entry_of}
use Rattle.machine.specs.Steps.{decision_of}
use Rattle.machine.specs.Transition.{act}
use Rattle.machine_laws.proofs.Reached.Choices.{decision-same}
use Rattle.kcore.specs.Told.{told_in}
use Rattle.kcore.proofs.ActionsDone.{planned_does}
use Rattle.kcore.proofs.LastEntry.{told_as}
use Rattle.kcore.proofs.going.go_back.Goals as goal

pub come_back-requires-clause-empty : goal.come_back-requires-clause-empty
come_back-requires-clause-empty g c = ap (λ (e : Entry). e.effects) c.new_entry-entry.ensures

pub push_reserved-requires : goal.push_reserved-requires
push_reserved-requires g c = let room = c.requires.room c.come_back.ensures.was_out in omega (arith, c.args.history.now.ok.0)

pub returns-clause-went : goal.returns-clause-went
unfolding act
returns-clause-went g c =
    let script = c.args.script.now in
    let old = c.args.core.now in
    let new = c.come_back.new.core in
    let t = c.args.thread in
    let e = c.come_back.new.entry in
    let at = ap length c.as_slice-at.ensures.value in
    let told = told_as c.new_entry-entry.result c.new_entry-entry.result e ((length c.as_slice-at.result.now) + 1)
    (Thread t) _ refl c.new_entry-entry.ensures c.come_back.ensures.told in
    record {
      entry = e;
      longer = c.push_reserved.ensures.items;
      told = told ∙ ap (λ (n : ℕ). entry_of (n + 1) (Thread t) (told_in e)) at;
      does =
          planned_does script t old.state new.state old.ready new.ready (told_in e) (λ (S : State). decision_of script S t)
          (decision-same script old.state t new.state.mode.keep c.requires.runs.shaped c.requires.runs.rows)
          c.come_back.ensures.does;
    }
