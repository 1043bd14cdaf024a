use Rattle.entry_log.specs.declared.entry.Actor.TheVariants.{Thread}
use Rattle.kernel_tests.proofs.CallersKeep.{callers-on, own-thread}
use Rattle.kernel_tests.proofs.callers.Callers.acts.Goals as goal

pub invariant_of-self : goal.invariant_of-self
invariant_of-self c =
    let old = c.self.inside.kernel in
    let new = c.act_out-note.new.self in
    let acted = c.act_out-note.ensures in
    callers-on old.script old new (Thread c.args.thread) 1000 c.self.inside.notes.items c.keep.new.notes.items c.args.thread c.act_out-note.result
    _ _ c.self.invariant acted.entry acted.notes acted.note c.notes_out-out.ensures.notes acted.mode acted.room (own-thread c.args.thread) c.keep.ensures
