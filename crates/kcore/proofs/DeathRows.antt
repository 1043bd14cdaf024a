-- Whoever is to be reaped or to end may be: what a thread's next action says of its row, for a thread that is able.
use Rattle.std.proofs.Common.{◌≡◌, Option, Some, None, true, ap}
use Rattle.std.specs.Prelude.{IsTrue, is_none, is_some}
use Rattle.std.proofs.lemmas.Bool.{and_parts}
use Rattle.sym_base.specs.declared.number.ObjNo.{ObjNo}
use Rattle.script_types.specs.declared.script.Script.{Script}
use Rattle.state_rows.specs.Nano.{wanted_holder}
use Rattle.state_rows.specs.declared.thread.ThreadRow.{ThreadRow}
use Rattle.machine.specs.declared.state.State.{State}
use Rattle.machine.specs.Rows.{thread_of}
use Rattle.machine.specs.Task.{is_able, is_ready, task_of, task_of_row}
use Rattle.move_laws.proofs.Readiness.ReadyParts.{ready_parts}
use Rattle.next_actions.specs.NextActions.{Suits}
use Rattle.next_actions.specs.declared.tasks.NextAction.TheVariants.{Dies, Ends}
use Rattle.death.specs.Dying.{IsReapable, MayEnd}

-- whoever is able has a task
able_task : (script : Script) (S : State) (t : ObjNo) → IsTrue (is_able script S t) → is_some (task_of script S t) ≡ true
able_task script S t able =
    let ready = (and_parts (is_ready script S t) (is_none (wanted_holder S.synchronization.nano t)) able).0 in
    (ready_parts script S t ready).task

-- and so has a row
no_row : (script : Script) (S : State) (t : ObjNo) → IsTrue (is_able script S t) → thread_of S t ≡ None → ⊥
no_row script S t able is =
    let none : task_of script S t ≡ None = ap (task_of_row script S t) is in
    let some = able_task script S t able in
    absurd (cc)

pub may_reap : (script : Script) (S : State) (t : ObjNo) (row : Option ThreadRow) → thread_of S t ≡ row
    → IsTrue (is_able script S t) → Suits script S t row Dies → IsReapable script S t
may_reap script S t None is able suits = absurd (no_row script S t able is)
may_reap script S t (Some row) is able suits = record { able = able; row = row; is = is; doomed = suits.0; apart = suits.1 }

pub may_end : (script : Script) (S : State) (t : ObjNo) (row : Option ThreadRow) → thread_of S t ≡ row
    → IsTrue (is_able script S t) → Suits script S t row Ends → MayEnd S t
may_end script S t None is able suits = absurd (no_row script S t able is)
may_end script S t (Some row) is able suits = record { row = row; is = is; live = suits.0.0; free = suits.0.1 }
