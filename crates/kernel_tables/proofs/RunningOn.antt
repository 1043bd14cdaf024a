-- Who runs on is ready.
use Rattle.std.proofs.Common.{◌≡◌, ℕ, Bool, true, false, not, ◌&&◌, ◌||◌, ◌==◌, List, Option, Some, None, refl, ap, ◌∙◌}
use Rattle.std.specs.Prelude.{is_some}
use Rattle.std.proofs.lemmas.Bool.{and_parts, not-true}
use Rattle.sym_base.specs.declared.number.ObjNo.{ObjNo}
use Rattle.script_types.specs.declared.script.Script.{Script}
use Rattle.state_rows.specs.declared.duty.Owed.{Owed}
use Rattle.state_rows.specs.declared.thread.Role.{Role}
use Rattle.state_rows.specs.declared.thread.Role.TheVariants.{Supervisor, Queue, Declared}
use Rattle.state_rows.specs.declared.thread.Stage.{Stage}
use Rattle.state_rows.specs.declared.thread.Stage.TheVariants.{Live, Doomed, Cleaned, Buried}
use Rattle.state_rows.specs.declared.thread.ThreadRow.{ThreadRow}
use Rattle.state_rows.specs.Nano.{is_protected, suspend_count}
use Rattle.machine.specs.declared.holding.Holding.{Holding}
use Rattle.machine.specs.declared.state.State.{State}
use Rattle.machine.specs.declared.task.Task.{Task}
use Rattle.machine.specs.Out.{is_returning}
use Rattle.machine.specs.Rows.{first_owed, thread_of}
use Rattle.machine.specs.Task.{by_stage, is_live_row, is_ready, is_unspent, is_unspent_row, is_wait, live_task, pay_or}
use Rattle.move_laws.proofs.Readiness.ReadyParts.{parts_ready}
use Rattle.kernel_tables.specs.RunsOn.{is_busy, runs_on}

-- who is busy has something to do, whatever comes before it
busy_some : (stage : Stage) (role : Role) (owed : Option Owed) (has : List Holding) (call : Option ℕ) (own : Task) → is_busy stage role ≡ true
    → is_some (pay_or owed (by_stage stage has (live_task role call own))) ≡ true
busy_some stage role (Some what) has call own busy = refl
busy_some Live (Declared k) None has call own busy = refl
busy_some Live Supervisor None has call own busy = absurd (cc)
busy_some Live (Queue queue) None has call own busy = absurd (cc)
busy_some Doomed role None has call own busy = refl
busy_some Cleaned role None has call own busy = absurd (cc)
busy_some Buried role None has call own busy = absurd (cc)

-- and is live or doomed
busy_unspent : (stage : Stage) (role : Role) → is_busy stage role ≡ true → is_unspent stage ≡ true
busy_unspent Live role busy = refl
busy_unspent Doomed role busy = refl
busy_unspent Cleaned role busy = absurd (cc)
busy_unspent Buried role busy = absurd (cc)

-- whoever isn't suspended isn't stopped, and whoever waits for nothing doesn't wait, whether callers share the kernel or not
not_stopped : (live protected : Bool) → not (live && not (0 == 0) && not protected) ≡ true
not_stopped true protected = refl
not_stopped false protected = refl

not_waiting : (shared : Bool) → not (false || (shared && false)) ≡ true
not_waiting true = refl
not_waiting false = refl

-- a thread that runs on and isn't suspended is ready
pub runs_ready : (script : Script) (S : State) (t : ObjNo) (row : ThreadRow) → thread_of S t ≡ Some row → runs_on row ≡ true
    → suspend_count S.synchronization.nano t ≡ 0 → is_ready script S t ≡ true
runs_ready script S t row there runs none =
    let parts = and_parts (is_busy row.stage row.role && not (is_wait row.waiting)) (not (is_returning row.part)) runs in
    let first = and_parts (is_busy row.stage row.role) (not (is_wait row.waiting)) parts.0 in
    let here : is_returning row.part ≡ false = not-true (is_returning row.part) parts.1 in
    let awake : is_wait row.waiting ≡ false = not-true (is_wait row.waiting) first.1 in
    parts_ready script S t (record {
      unspent = ap is_unspent_row there ∙ busy_unspent row.stage row.role first.0;
      waits = rw (there, awake, here) (not_waiting S.mode.shared);
      stopped = rw none (not_stopped (is_live_row (thread_of S t)) (is_protected S.synchronization.nano t));
      task = rw (there, here) (busy_some row.stage row.role (first_owed S t) _ _ _ first.0);
    })
