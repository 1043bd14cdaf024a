-- How many objects were made: an entry makes one at most.
use Rattle.std.proofs.Common.{◌≡◌, ℕ, ◌+◌, ◌≤◌, Bool, List, [], ◌∷◌, length, arith, refl}
use Rattle.std.specs.Prelude.{◌&&◌}
use Rattle.sym_base.specs.declared.number.ObjNo.{ObjNo}
use Rattle.script_types.specs.declared.script.Script.{Script}
use Rattle.script_types.specs.Shape.{IsShaped}
use Rattle.script_types.specs.Source.{IsWellFormed as IsWellFormedScript}
use Rattle.script_types.proofs.ShapeLaws.{formed_is_shaped}
use Rattle.entry_log.specs.declared.entry.Actor.{Actor}
use Rattle.entry_log.specs.declared.entry.Actor.TheVariants.{Thread, Irq, Idfc, Tick, Idle}
use Rattle.entry_log.specs.declared.entry.Entry.{Entry}
use Rattle.state_rows.specs.declared.duty.Owed.TheVariants.{Close, Sweep}
use Rattle.state_rows.specs.Deferred.{next_immediate}
use Rattle.machine.specs.declared.moves.Move.{Move}
use Rattle.machine.specs.declared.moves.Move.TheVariants.{Make, Pay}
use Rattle.machine.specs.declared.plan.Body.TheVariants.{Interrupt}
use Rattle.machine.specs.declared.plan.Plan.TheVariants.{Runs}
use Rattle.machine.specs.declared.state.State.{State}
use Rattle.machine.specs.Arrived.{arrived_by_entry}
use Rattle.machine.specs.Bodies.{decision_by}
use Rattle.machine.specs.Boot.{boot_in, boot_of, ready_at_boot}
use Rattle.machine.specs.History.{after_from, after_in, choosing, is_deathless, next, next_by}
use Rattle.machine.specs.Interrupts.{immediate, immediate_plan, interrupt, supervisor}
use Rattle.machine.specs.Moves.{moved, perform}
use Rattle.machine.specs.References.{total}
use Rattle.machine.specs.Steps.{decision_of}
use Rattle.machine.specs.Transition.{act}
use Rattle.machine.specs.WellFormed.{AreRows, IsWellFormed}
use Rattle.machine.proofs.BornFew.{born_few}
use Rattle.machine_laws.proofs.AtBoot.BootRows.{well_formed-boot}
use Rattle.machine_laws.proofs.Fitting.Actions.{regular-action}
use Rattle.machine_laws.proofs.Fitting.Bodies.{light_loses}
use Rattle.machine_laws.proofs.Fitting.Interrupts.{light-immediate, light-interrupt}
use Rattle.machine_laws.proofs.Fitting.Regular.{once_bit}
use Rattle.machine_laws.proofs.Reached.AfterHistory.{rows-keeping, well_formed-by}

made-move : (t : ObjNo) (m : Move) (S : State) → (moved t m S).references.made ≤ S.references.made + once_bit m
made-move t (Make kind name h) S = omega arith
made-move t (Pay (Close h o)) S = omega arith
made-move t _ S = omega arith

-- moves make as many objects at most as the bit counts, and unmake none
made-perform : (t : ObjNo) (ms : List Move) (S : State) → (perform t ms S).references.made ≤ S.references.made + total once_bit ms
made-perform t [] S = omega arith
made-perform t (m ∷ ms) S = let first = made-move t m S in let rest = made-perform t ms (moved t m S) in omega arith

made-act : (script : Script) (S : State) (t : ObjNo) → IsShaped script → AreRows script S → (act script S t).state.references.made ≤ S.references.made + 1
unfolding act
made-act script S t shaped rows =
    let few = (regular-action script S t shaped rows).1.loses in
    let made = made-perform t (decision_of script S t).moves S in omega arith

made-interrupt : (script : Script) (S : State) (k : ℕ) → IsShaped script → AreRows script S
    → (interrupt script S k).state.references.made ≤ S.references.made
unfolding interrupt
made-interrupt script S k shaped rows =
    let none = light_loses (light-interrupt script S k shaped rows) refl in
    let made = made-perform supervisor (decision_by script supervisor S (Runs (Interrupt k))).moves S in omega arith

made-immediate : (script : Script) (S : State) → IsShaped script → AreRows script S
    → (immediate script S).state.references.made ≤ S.references.made
unfolding immediate
made-immediate script S shaped rows =
    let found = next_immediate S.synchronization.deferred in
    let none = light_loses (light-immediate script S found shaped rows refl) refl in
    let made = made-perform supervisor (decision_by script supervisor S (immediate_plan script S found)).moves S in omega arith

pub made-next : (script : Script) (S : State) (actor : Actor) → IsShaped script → AreRows script S
    → (next script S actor).references.made ≤ S.references.made + 1
made-next script S (Thread t) shaped rows = made-act script S t shaped rows
made-next script S (Irq k) shaped rows = let same = made-interrupt script S k shaped rows in omega arith
made-next script S Idfc shaped rows = let same = made-immediate script S shaped rows in omega arith
made-next script S Tick shaped rows = omega arith
made-next script S Idle shaped rows = omega arith

-- and so after a history there are as many at most as it has entries, beside those at boot
made-by : (script : Script) (S : State) (e : Entry) → IsShaped script → AreRows script S
    → (next_by script S e).references.made ≤ S.references.made + 1
made-by script S e shaped rows =
    made-next script (choosing e S) e.actor shaped (rows-keeping script S (S.mode.shared && is_deathless e.effects) rows)

made-after_from : (script : Script) (S : State) (qs : List ObjNo) (es : List Entry) → IsShaped script → IsWellFormed script S qs
    → (after_from script S es).references.made ≤ S.references.made + length es
made-after_from script S qs [] shaped h = omega arith
made-after_from script S qs (e ∷ es) shaped h =
    let one = made-by script S e shaped h.rows in
    let rest = made-after_from script (next_by script S e) (arrived_by_entry script S e qs) es shaped (well_formed-by script S qs e shaped h) in
    omega arith

made-boot : (shared : Bool) (script : Script) → IsShaped script → (boot_in shared script).references.made ≤ 81
unfolding boot_of
made-boot shared script shaped = born_few script shaped

pub made-after : (shared : Bool) (script : Script) (history : List Entry) → IsWellFormedScript script
    → (after_in shared script history).references.made ≤ length history + 81
made-after shared script history valid =
    let shaped = formed_is_shaped script valid in
    let first = made-boot shared script shaped in
    let rest = made-after_from script (boot_in shared script) (ready_at_boot script) history shaped (well_formed-boot shared script valid) in
    omega arith
