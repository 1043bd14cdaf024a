-- The steps of each instruction fit, and so do its returns.
use Rattle.std.proofs.Common.{◌≡◌, length, refl, Option, Some, true, false}
use Rattle.sym_base.specs.declared.kind.ExitKind.TheVariants as kind
use Rattle.sym_base.specs.declared.word.Word.TheVariants as word
use Rattle.sym_base.specs.declared.number.ObjNo.{ObjNo}
use Rattle.script_types.specs.declared.script.Script.{Script}
use Rattle.script_types.specs.declared.instruction.Instr.{Instr}
use Rattle.script_types.specs.declared.instruction.Instr.TheVariants as instr
use Rattle.entry_log.specs.declared.step.Part.{Part}
use Rattle.entry_log.specs.declared.step.Part.TheVariants as part
use Rattle.machine.specs.declared.decision.Decision.{Decision}
use Rattle.state_rows.specs.declared.thread.ThreadRow.{ThreadRow}
use Rattle.machine.specs.declared.state.State.{State}
use Rattle.machine.specs.Dooms.{plain_exit}
use Rattle.machine.specs.Steps.{step_of, return_of}
use Rattle.machine.specs.Out.{is_returning}
use Rattle.machine.specs.Rows.{thread_of}
use Rattle.machine.specs.WellFormed.{AreRows}
use Rattle.machine_laws.proofs.Fitting.Servers.{fits-complete, fits-function, fits-receive, fits-server}
use Rattle.machine_laws.proofs.Fitting.Sessions.{fits-call, fits-connect, fits-send}
use Rattle.machine_laws.proofs.Fitting.Shared.{fits-return}
use Rattle.machine_laws.proofs.Fitting.Stepping.{FitsDecision, FitsStep, IsStepping, by_kinds, fits-nothing}
use Rattle.machine_laws.proofs.Fitting.KernelThreads.{fits-flock, fits-fswait, fits-fssignal, fits-enter, fits-suspend, fits-resume, fits-priority}
use Rattle.machine_laws.proofs.Fitting.Regular.{Kinds, kind_of, looking}
use Rattle.machine_laws.proofs.Fitting.Deaths.{fits-exit, fits-exit_step, fits-exittype, fits-logon}
use Rattle.machine_laws.proofs.Fitting.Dooms.{fits-funlock, fits-leave}
use Rattle.machine_laws.proofs.Fitting.Requests.{fits-queue, fits-request, fits-cancel, fits-waitany, fits-waitfor, fits-status}
use Rattle.machine_laws.proofs.Fitting.Locks.{fits-lock, fits-unlock, fits-wait, fits-signal}
use Rattle.machine_laws.proofs.Fitting.Copying.{fits-read, fits-write}
use Rattle.machine_laws.proofs.Fitting.MemoryCalls.{fits-fill, fits-peek}
use Rattle.machine_laws.proofs.Fitting.Steps.{fits-create_mutex, fits-create_semaphore, fits-dup, fits-duplocal, fits-open, fits-close}

-- what the kinds of moves say
pub few : {k : Kinds} {script : Script} {S : State} {t : ObjNo} {d : Decision} → FitsDecision k script t S d → FitsStep k script t S d
few {script = script} {S = S} {t = t} {d = d} fits = by_kinds script S t d fits

-- the steps of instructions fit
pub fits-step : (script : Script) (S : State) (t : ObjNo) (row : ThreadRow) (instr : Instr) (p : Option Part)
    → IsStepping script S t row instr → is_returning row.part ≡ false → row.part ≡ p
    → FitsStep (kind_of instr p) script t S (step_of script S t row instr p)
fits-step script S t row (instr.CreateMutex name x) p h going at = few (fits-create_mutex name x h)
fits-step script S t row (instr.CreateSemaphore name count x) p h going at = few (fits-create_semaphore name count x h)
fits-step script S t row (instr.Open kind name x) p h going at = few (fits-open kind name x p h h.registers.0 at)
fits-step script S t row (instr.Dup x y) p h going at = few (fits-dup x y p h h.registers.1.0 at)
fits-step script S t row (instr.DupLocal x y) p h going at = few (fits-duplocal x y p h h.registers.1.0 at)
fits-step script S t row (instr.Close x) p h going at = fits-close x h going
fits-step script S t row (instr.Lock x) p h going at = few (fits-lock x p h going at)
fits-step script S t row (instr.Unlock x) p h going at = few (fits-unlock x p h going at)
fits-step script S t row (instr.Wait x) p h going at = few (fits-wait x p h going at)
fits-step script S t row (instr.Signal x) p h going at = few (fits-signal x p h at)
fits-step script S t row (instr.Flock f) p h going at = few (fits-flock f p h going)
fits-step script S t row (instr.Funlock f) p h going at = few (fits-funlock f h going)
fits-step script S t row instr.Fswait p h going at = few (fits-fswait p h going)
fits-step script S t row (instr.Fssignal name) p h going at = few (fits-fssignal name h)
fits-step script S t row instr.Enter p h going at = few (fits-enter h)
fits-step script S t row instr.Leave p h going at = few (fits-leave h going)
fits-step script S t row (instr.Suspend x) p h going at = few (fits-suspend x p h at)
fits-step script S t row (instr.Resume x) p h going at = few (fits-resume x p h at)
fits-step script S t row (instr.Priority x priority) p h going at = few (fits-priority x priority p h at)
fits-step script S t row (instr.Queue name) p h going at = few (fits-queue name h)
fits-step script S t row (instr.Request d s) p h going at = few (fits-request d s h going)
fits-step script S t row (instr.Cancel d) p h going at = few (fits-cancel d h)
fits-step script S t row instr.WaitAny p h going at = few (fits-waitany p h going)
fits-step script S t row (instr.WaitFor s) p h going at = few (fits-waitfor s p h going)
fits-step script S t row (instr.Status s) p h going at = few (fits-status s h)
fits-step script S t row (instr.Fill at length byte) p h going is = few (fits-fill at length byte h)
fits-step script S t row (instr.Peek at) p h going is = few (fits-peek at h)
fits-step script S t row (instr.Kill x reason) p h going at = few (fits-exit_step word.Kill refl x (plain_exit kind.Kill reason) p h at)
fits-step script S t row (instr.Terminate x reason) p h going at = few (fits-exit_step word.Terminate refl x (plain_exit kind.Terminate reason) p h at)
fits-step script S t row (instr.Panic x category reason) p h going at =
    few (fits-exit_step word.Panic refl x (record { kind = kind.Panic; category = category; reason = reason }) p h at)
fits-step script S t row (instr.ExitType x) p h going at = few (fits-exittype x p h at)
fits-step script S t row (instr.Logon x s) p h going at = few (fits-logon x s p h going at)
fits-step script S t row (instr.Exit reason) p h going at = few (fits-exit reason h going)
fits-step script S t row (instr.Server name x) p h going at = few (fits-server name x h going)
fits-step script S t row (instr.Connect name slots x) p h going at = few (fits-connect name slots x p h going at)
fits-step script S t row (instr.Send x n y args) p h going at = few (fits-send x n y args p h going at)
fits-step script S t row (instr.Call x n args) p h going at = few (fits-call x n args p h going at)
fits-step script S t row (instr.Receive x y) p h going at = few (fits-receive x y p h going at)
fits-step script S t row (instr.Complete y code) p h going at = few (fits-complete y code h going)
fits-step script S t row (instr.Function y) p h going at = few (fits-function y h)
fits-step script S t row (instr.Read y arg offset size from) p h going at = few (fits-read y arg offset size from p h at)
fits-step script S t row (instr.Write y arg offset size from) p h going at = few (fits-write y arg offset size from p h at)

-- and so do their returns
pub fits-returning : (script : Script) (S : State) (t : ObjNo) (row : ThreadRow) (instr : Instr) → AreRows script S
    → thread_of S t ≡ Some row → is_returning row.part ≡ true
    → FitsDecision looking script t S (return_of S t row instr)
fits-returning script S t row (instr.Open kind name x) rows is returns = fits-return script S t row word.Open part.Do refl refl rows is returns refl
fits-returning script S t row (instr.Connect name slots x) rows is returns = fits-return script S t row word.Connect part.Make refl refl rows is returns refl
fits-returning script S t row _ rows is returns = fits-nothing script S t
