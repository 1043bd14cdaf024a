use Rattle.std.proofs.Common.{◌≡◌, [], ap, refl, subst, sym}
use Rattle.sym_base.specs.declared.number.ObjNo.{ObjNo}
use Rattle.script_types.specs.declared.script.Script.{Script}
use Rattle.machine.specs.declared.mode.Mode.{Mode}
use Rattle.machine.specs.declared.moves.Move.{Move}
use Rattle.machine.specs.declared.moves.Move.TheVariants.{Open}
use Rattle.machine.specs.History.{keeping}
use Rattle.kernel_tables.specs.Moved.{AreKnown, MoveRuns, chosen_state}
use Rattle.kernel_tables.specs.declared.tables.Tables.{Tables}
use Rattle.kernel_tables.specs.StateOf.{state_of}
use Rattle.kernel_tables.proofs.Performing.{performed_one, still_kept}
use Rattle.kernel_tables.proofs.kernel_core.Core.open_back.Goals as goal

-- the move leaves the choice as it was
runs_chosen : {W N : Type 0} (script : Script) (t : ObjNo) (m : Move) (old new : Tables W N) → new.mode ≡ old.mode
    → MoveRuns script t m (state_of old) → MoveRuns script t m (chosen_state old new)
runs_chosen script t m old new same runs = subst (MoveRuns script t m) (sym (ap (λ (mode : Mode). keeping mode.keep (state_of old)) same)) runs

pub open_noted-requires-clause-sought : goal.open_noted-requires-clause-sought
open_noted-requires-clause-sought g c = rw (← c.self.view_is) at c.requires.sought

pub arrive_touched-requires-clause-known : goal.arrive_touched-requires-clause-known
arrive_touched-requires-clause-known g c =
    let m = Open c.args.thread c.args.object c.args.part in
    let moved = c.open_noted.ensures.moved c.args.thread in
    let asked = (rw (← c.self.view_is) at c.requires.runs) c.open_noted.ensures.was_out in
    let runs = runs_chosen c.args.script.now c.args.thread m c.self.inside.tables c.open_noted.new.tables moved.mode asked in
    subst AreKnown (sym moved.state) runs.known

pub invariant_of-self : goal.invariant_of-self
invariant_of-self g c =
    let m = Open c.args.thread c.args.object c.args.part in
    let moved = c.open_noted.ensures.moved c.args.thread in
    let asked = (rw (← c.self.view_is) at c.requires.runs) c.open_noted.ensures.was_out in
    let runs = runs_chosen c.args.script.now c.args.thread m c.self.inside.tables c.open_noted.new.tables moved.mode asked in
    record {
      kept = still_kept c.args.script.now c.args.thread m c.self.inside.tables c.open_noted.new.tables refl runs c.self.invariant.kept moved;
      size = c.arrive_touched.ensures.size;
    }

pub returns-clause-performed : goal.returns-clause-performed
returns-clause-performed g c =
    let m = Open c.args.thread c.args.object c.args.part in
    let moved = c.open_noted.ensures.moved c.args.thread in
    let asked = (rw (← c.self.view_is) at c.requires.runs) c.open_noted.ensures.was_out in
    let runs = runs_chosen c.args.script.now c.args.thread m c.self.inside.tables c.open_noted.new.tables moved.mode asked in
    let follow = rw c.touched.ensures at c.arrive_touched.ensures.queues in
    rw (← c.self.view_is) (rw (c.push.ensures, c.requires.empty)
    (performed_one c.args.script.now c.args.thread m c.self.inside.tables c.open_noted.new.tables c.self.inside.ready
    c.self.inside.ready c.arrive_touched.new.ready [] runs moved (λ rank qs ready. ready) follow))

pub returns-clause-notes : goal.returns-clause-notes
returns-clause-notes g c = rw (← c.self.view_is) (c.open_noted.ensures.moved c.args.thread).notes
