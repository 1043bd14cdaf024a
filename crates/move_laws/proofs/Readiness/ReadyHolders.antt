-- The holder of a fast mutex is ready, and whoever is chosen is able to act.
use Rattle.std.proofs.Common.{◌≡◌, ℕ, [], refl, ap, ◌∙◌, Option, Some, None, Bool, true, false}
use Rattle.std.specs.Prelude.{not, ◌&&◌, ◌==◌, is_some, is_none, option_and_then}
use Rattle.std.proofs.lemmas.Bool.{and_from, and_right, or_left, not_from_true, not_from_false}
use Rattle.sym_base.specs.declared.number.ObjNo.{ObjNo}
use Rattle.script_types.specs.declared.instruction.Instr.{Instr}
use Rattle.script_types.specs.declared.script.Script.{Script}
use Rattle.state_rows.specs.declared.deferred.DeferredRows.{DeferredRows}
use Rattle.state_rows.specs.declared.duty.Owed.{Owed}
use Rattle.state_rows.specs.declared.nano.NanoRows.{NanoRows}
use Rattle.state_rows.specs.Nano.{suspend_count, critical_count, holder_of, held_by, want_of, is_protected, in_place_of, or_self, wanted_holder}
use Rattle.state_rows.proofs.Soundness.{held_none}
use Rattle.state_rows.specs.declared.thread.Role.{Role}
use Rattle.state_rows.specs.declared.thread.Role.TheVariants.{Supervisor, Queue, Declared}
use Rattle.state_rows.specs.declared.thread.Stage.{Stage}
use Rattle.state_rows.specs.declared.thread.Stage.TheVariants.{Live}
use Rattle.state_rows.specs.declared.thread.ThreadRow.{ThreadRow}
use Rattle.state_rows.specs.declared.thread.Waiting.TheVariants as waiting
use Rattle.machine.specs.declared.state.State.{State}
use Rattle.machine.specs.Rows.{first_owed, thread_of}
use Rattle.machine.specs.declared.task.Task.TheVariants.{End}
use Rattle.machine.specs.Task.{instruction, next_call, by_stage, live_task, pay_or, return_or, served_queue, task_of, is_waiting, is_waiting_row, is_live_row, is_stopped, is_unspent, is_unspent_row, is_ready, is_able}
use Rattle.machine.specs.Out.{is_returning}
use Rattle.machine.specs.WellFormed.{AreRows}
use Rattle.move_laws.proofs.Readiness.HasTask.{has_task, task_is}
use Rattle.move_laws.proofs.Readiness.ReadyParts.{parts_ready}

-- a live thread that serves no queue has a task
live_has_task : (script : Script) (calls : DeferredRows) (first : Option Owed) (row : ThreadRow) → row.stage ≡ Live
    → served_queue row.role ≡ None → has_task script calls first (Some row) ≡ true
live_has_task script calls first row live serves = by (is_returning row.part) (instruction script row) first row.stage live
  where
    own : (role : Role) (call : Option ℕ) → served_queue role ≡ None → is_some (live_task role call End) ≡ true
    own Supervisor call none = absurd (cc)
    own (Queue queue) call none = absurd (cc)
    own (Declared k) call none = refl

    at_stage : (stage : Stage) → stage ≡ Live → is_some (by_stage stage [] (live_task row.role (next_call calls row.role) End)) ≡ true
    at_stage Live is = own row.role (next_call calls row.role) serves
    at_stage _ is = absurd (cc)

    by : (returns : Bool) (at : Option Instr) (first : Option Owed) (stage : Stage) → stage ≡ Live
        → is_some (return_or returns at (pay_or first
        (by_stage stage [] (live_task row.role (next_call calls row.role) End)))) ≡ true
    by true (Some instr) first stage is = refl
    by true None (Some what) stage is = refl
    by true None None stage is = at_stage stage is
    by false at (Some what) stage is = refl
    by false at None stage is = at_stage stage is

holds_some : (r : NanoRows) (f : ℕ) (u : ObjNo) → holder_of r f ≡ Some u → is_some (held_by r u) ≡ true
holds_some r f u is = by (held_by r u) refl
  where
    by : (held : Option ℕ) → held_by r u ≡ held → is_some held ≡ true
    by None none = absurd (held_none r u f none is)
    by (Some g) some = refl

goes_on : (shared : Bool) (row : ThreadRow) → row.waiting ≡ waiting.Nothing → is_returning row.part ≡ false → is_waiting_row shared (Some row) ≡ false
goes_on shared row waits going = rw waits (rw going (and_false shared))
  where
    and_false : (b : Bool) → (b && false) ≡ false
    and_false true = refl
    and_false false = refl

-- the holder of a fast mutex waits for nothing and isn't out, is protected from being stopped, and has a task
pub holder_ready : (script : Script) (S : State) (f : ℕ) (u : ObjNo) → AreRows script S
    → holder_of S.synchronization.nano f ≡ Some u → is_ready script S u ≡ true
holder_ready script S f u rows is =
    let held = rows.synchronization.nano.holders f u is in
    let protected : is_protected S.synchronization.nano u
    ≡ true = or_left (is_some (held_by S.synchronization.nano u)) (not (critical_count S.synchronization.nano u == 0))
    (holds_some S.synchronization.nano f u is) in
    let waits : is_waiting S u ≡ false = ap (is_waiting_row S.mode.shared) held.is ∙ goes_on S.mode.shared held.row held.waits held.going in
    let stopped : is_stopped S u ≡ false = and_right (is_live_row (thread_of S u) && not (suspend_count S.synchronization.nano u == 0))
    (not (is_protected S.synchronization.nano u)) (not_from_true (is_protected S.synchronization.nano u) protected) in
    let task : is_some (task_of script S u) ≡ true = task_is script S u (thread_of S u)
    ∙ ap (has_task script S.synchronization.deferred (first_owed S u)) held.is
    ∙ live_has_task script S.synchronization.deferred (first_owed S u) held.row held.live held.serves in
    parts_ready script S u (record {
      unspent = ap is_unspent_row held.is ∙ ap is_unspent held.live;
      waits = not_from_false (is_waiting S u) waits;
      stopped = not_from_false (is_stopped S u) stopped;
      task = task;
    })

-- a thread that is wanted to give a fast mutex up holds one
holds_wanted : (r : NanoRows) (want : Option ℕ) (u : ObjNo) → option_and_then (holder_of r) want ≡ Some u → (f : ℕ) × (holder_of r f ≡ Some u)
holds_wanted r None u e = absurd (cc)
holds_wanted r (Some f) u e = (f, e)

-- whoever acts in the place of a thread that is ready is able
pub place_able : (script : Script) (S : State) (t : ObjNo) → AreRows script S → is_ready script S t ≡ true
    → is_able script S (in_place_of S.synchronization.nano t) ≡ true
place_able script S t rows ready = by (wanted_holder S.synchronization.nano t) refl
  where
    by : (holder : Option ObjNo) → wanted_holder S.synchronization.nano t ≡ holder → is_able script S (or_self t holder) ≡ true
    by None e = and_from (is_ready script S t) (is_none (wanted_holder S.synchronization.nano t)) ready (ap is_none e)
    by (Some u) e =
        let holds = holds_wanted S.synchronization.nano (want_of S.synchronization.nano t) u e in
        let held = rows.synchronization.nano.holders holds.0 u holds.1 in
        let wants : is_none (wanted_holder S.synchronization.nano u) ≡ true =
        ap (λ (want : Option ℕ). is_none (option_and_then (holder_of S.synchronization.nano) want)) held.wants in
        and_from (is_ready script S u) (is_none (wanted_holder S.synchronization.nano u)) (holder_ready script S holds.0 u rows holds.1) wants
