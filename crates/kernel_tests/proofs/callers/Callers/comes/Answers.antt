use Rattle.std.proofs.Common.{◌≡◌, ◌∙◌, true}
use Rattle.sym_base.specs.declared.number.ObjNo.{ObjNo}
use Rattle.entry_log.specs.declared.entry.Actor.TheVariants.{Thread}
use Rattle.machine.specs.Arrived.{arrived_in}
use Rattle.machine.specs.History.{after_in}
use Rattle.machine.specs.Run.{slot_actor}
use Rattle.kernel_tests.proofs.CallersKeep.{callers-on, last-actor}
use Rattle.kernel_tests.proofs.callers.Callers.comes.Goals as goal

pub invariant_of-self : goal.invariant_of-self
invariant_of-self c =
    let old = c.self.inside.kernel in
    let new = c.slot_out-note.new.self in
    let actor = slot_actor (after_in true old.script old.history) (arrived_in true old.script old.history) c.args.slot in
    let more = c.slot_out-note.ensures.entry.more in
    let acts : (u : ObjNo) → actor ≡ Thread u → c.last_thread-thread.result ≡ u = λ u is.
    c.last_thread-thread.ensures old.history more.entry u (c.history.ensures.entries ∙ more.longer)
    (last-actor old.script old.history new.history actor more ∙ is) in
    let came = c.slot_out-note.ensures in
    callers-on old.script old new actor 1000 c.self.inside.notes.items c.keep.new.notes.items c.last_thread-thread.result c.slot_out-note.result
    _ _ c.self.invariant came.entry came.notes came.note c.notes_out-out.ensures.notes came.mode came.room acts c.keep.ensures
