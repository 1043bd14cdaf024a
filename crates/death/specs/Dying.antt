-- When a thread may be doomed, reaped, or bury another, and what reaping comes to.
use Rattle.std.specs.Prelude.{◌≡◌, ℕ, IsTrue, if◌then◌else◌, List, Option, Some, None, false}
use Rattle.sym_base.specs.declared.number.ObjNo.{ObjNo}
use Rattle.sym_base.specs.declared.kind.Exit.{Exit}
use Rattle.script_types.specs.declared.script.Script.{Script}
use Rattle.entry_log.specs.declared.step.Step.TheVariants.{End}
use Rattle.state_rows.specs.Nano.{is_protected}
use Rattle.state_rows.specs.declared.duty.Owed.{Owed}
use Rattle.state_rows.specs.declared.thread.Stage.TheVariants.{Live, Doomed}
use Rattle.state_rows.specs.declared.thread.ThreadRow.{ThreadRow}
use Rattle.machine.specs.declared.decision.Decision.{Decision}
use Rattle.machine.specs.declared.holding.Holding.{Holding}
use Rattle.machine.specs.declared.state.State.{State}
use Rattle.machine.specs.declared.task.Task.TheVariants.{Bury}
use Rattle.machine.specs.Dooms.{doom}
use Rattle.machine.specs.Rows.{thread_of}
use Rattle.machine.specs.Task.{is_able, task_of}
use Rattle.next_actions.specs.NextActions.{IsApart, has_any}
use Rattle.death.specs.declared.decide.Reaped.{Reaped}
use Rattle.death.specs.declared.decide.Reaped.TheVariants as reaped

-- a thread that may end: it is live, and nothing protects it
pub record MayEnd (S : State) (t : ObjNo) : Type 0 where
  pub row : ThreadRow
  pub is : thread_of S t ≡ Some row
  pub live : row.stage ≡ Live
  pub free : is_protected S.synchronization.nano t ≡ false

-- a thread that may be reaped: it is able, doomed, and not between a find and its return
pub record IsReapable (script : Script) (S : State) (t : ObjNo) : Type 0 where
  pub able : IsTrue (is_able script S t)
  pub row : ThreadRow
  pub is : thread_of S t ≡ Some row
  pub doomed : row.stage ≡ Doomed
  pub apart : IsApart script row

-- a thread that may bury: it is able, and the next call of its queue is this burial
pub record MayBury (script : Script) (S : State) (t : ObjNo) (dfc : ℕ) : Type 0 where
  pub able : IsTrue (is_able script S t)
  pub next : task_of script S t ≡ Some (Bury dfc)

-- a thread ends with an exit
abbrev pub ends_with : ObjNo → Exit → Decision
ends_with t exit = record { step = End; moves = doom t exit; answer = None }

-- nothing is left exactly where it owes nothing and has nothing
abbrev pub reaped_of : Option Owed → List Holding → Reaped
reaped_of (Some what) has = reaped.Step
reaped_of None has = if has_any has then reaped.Step else reaped.NothingLeft

-- what holds where something was paid or given up, and what holds where nothing was left
abbrev pub IfStep : Reaped → Type 0 → Type 0
IfStep reaped.Step P = P
IfStep reaped.NothingLeft P = Unit {0}

abbrev pub IfNothingLeft : Reaped → Type 0 → Type 0
IfNothingLeft reaped.Step P = Unit {0}
IfNothingLeft reaped.NothingLeft P = P
