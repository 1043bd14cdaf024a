use Rattle.std.proofs.Common.{sym, subst}
use Rattle.table_moves.specs.Notes.{IsNoteOut, Notes}
use Rattle.kernel_tests.specs.Callers.{AreCallers}
use Rattle.kernel_tests.proofs.CallersKeep.{callers-back, callers-less, noted-split}
use Rattle.kernel_tests.proofs.callers.Callers.returns.Goals as goal

pub invariant_of-self : goal.invariant_of-self
invariant_of-self c =
    subst (AreCallers 1000 c.self.inside.kernel) (sym c.take.ensures.left)
    (callers-less 1000 c.self.inside.kernel c.self.inside.notes.items c.args.thread.0 c.self.invariant)

pub come_back-requires-clause-mode : goal.come_back-requires-clause-mode
come_back-requires-clause-mode c =
    let own = c.self.invariant.each c.args.thread.0 c.in-Some.note c.in-Some.ensures.taken in
    noted-split c.in-Some.note.number c.args.thread c.self.inside.kernel.history c.self.inside.kernel.mode c.has_room.ensures.mode own.its

pub come_back-requires-clause-fits : goal.come_back-requires-clause-fits
come_back-requires-clause-fits c =
    let own = c.self.invariant.each c.args.thread.0 c.in-Some.note c.in-Some.ensures.taken in
    subst (λ (x : Notes). IsNoteOut x c.in-Some.note) c.has_room.ensures.notes own.noted

pub come_back-requires-clause-its : goal.come_back-requires-clause-its
come_back-requires-clause-its c = (c.self.invariant.each c.args.thread.0 c.in-Some.note c.in-Some.ensures.taken).its

pub invariant_of-self-2 : goal.invariant_of-self-2
invariant_of-self-2 c =
    let old = c.self.inside.kernel in
    let new = c.come_back.new.self in
    let back = c.come_back.ensures in
    let kept =
    callers-back old.script old new 1000 c.self.inside.notes.items c.args.thread c.in-Some.note c.self.invariant c.in-Some.ensures.taken
    back.entry back.notes back.mode back.room in
    subst (AreCallers 1000 new) (sym c.take.ensures.left) kept
