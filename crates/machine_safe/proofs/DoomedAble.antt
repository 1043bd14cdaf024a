-- After each history of a well-formed script whoever is doomed and isn't out is able to act.
use Rattle.std.proofs.Common.{Bool, List, None, Option, Some, ap, false, not, refl, sym, true, ℕ, ◌∙◌, ◌≡◌}
use Rattle.std.specs.Prelude.{is_none, is_some, option_and_then, ◌&&◌, ◌==◌, ◌||◌}
use Rattle.std.proofs.lemmas.Bool.{and_from}
use Rattle.sym_base.specs.declared.number.ObjNo.{ObjNo}
use Rattle.script_types.specs.Source.{IsWellFormed}
use Rattle.script_types.specs.declared.instruction.Instr.{Instr}
use Rattle.script_types.specs.declared.script.Script.{Script}
use Rattle.entry_log.specs.declared.entry.Entry.{Entry}
use Rattle.state_rows.specs.Nano.{holder_of, is_protected, suspend_count, wanted_holder}
use Rattle.state_rows.specs.declared.duty.Owed.{Owed}
use Rattle.state_rows.specs.declared.thread.Stage.{Stage}
use Rattle.state_rows.specs.declared.thread.Stage.TheVariants.{Buried, Cleaned, Doomed, Live}
use Rattle.state_rows.specs.declared.thread.ThreadRow.{ThreadRow}
use Rattle.state_rows.specs.declared.thread.Waiting.{Waiting}
use Rattle.machine.specs.History.{after_in}
use Rattle.machine.specs.Holdings.{holdings}
use Rattle.machine.specs.Out.{is_out, is_returning, part_of}
use Rattle.machine.specs.Rows.{first_owed, thread_of}
use Rattle.machine.specs.ThreadCalls.{is_live}
use Rattle.machine.specs.Task.{by_stage, instruction, is_able, is_live_row, is_ready, is_stopped, is_unspent, is_unspent_row, is_wait, is_waiting, is_waiting_row, pay_or, return_or, task_of, task_of_row}
use Rattle.machine.specs.declared.holding.Holding.{Holding}
use Rattle.machine.specs.declared.state.State.{State}
use Rattle.machine.specs.declared.task.Task.{Task}
use Rattle.machine_safe.specs.DoomedAble.{AreDoomedAble}
use Rattle.machine_safe.proofs.LeftNothing.{steady-after}
use Rattle.machine_safe.proofs.Serving.DoomedWaits.{AreFreed}
use Rattle.move_laws.proofs.Readiness.ReadyParts.{parts_ready}

-- a doomed thread has something to do
returned-some : (b : Bool) (at : Option Instr) (other : Option Task) → is_some other ≡ true → is_some (return_or b at other) ≡ true
returned-some true (Some instr) other some = refl
returned-some true None other some = some
returned-some false at other some = some

paid-some : (owed : Option Owed) (other : Option Task) → is_some other ≡ true → is_some (pay_or owed other) ≡ true
paid-some None other some = some
paid-some (Some what) other some = refl

staged-some : (stage : Stage) (has : List Holding) (own : Option Task) → stage ≡ Doomed → is_some (by_stage stage has own) ≡ true
staged-some Live has own doomed = absurd (cc)
staged-some Doomed has own doomed = refl
staged-some Cleaned has own doomed = absurd (cc)
staged-some Buried has own doomed = absurd (cc)

dying-some : (script : Script) (S : State) (t : ObjNo) (row : ThreadRow) → row.stage ≡ Doomed → is_some (task_of_row script S t (Some row)) ≡ true
dying-some script S t row doomed =
    returned-some (is_returning row.part) (instruction script row) _
    (paid-some (first_owed S t) _ (staged-some row.stage (holdings S t row) _ doomed))

freed-able : (script : Script) (S : State) (t : ObjNo) (row : ThreadRow) → AreFreed S → thread_of S t ≡ Some row → row.stage ≡ Doomed
    → is_out S t ≡ false → is_able script S t ≡ true
freed-able script S t row freed is doomed out =
    let free = freed t row is doomed in
    let returns : (S.mode.shared && is_returning row.part) ≡ false =
    sym (ap (λ (r : Option ThreadRow). S.mode.shared && is_returning (part_of r)) is) ∙ out in
    let waits : is_waiting S t ≡ false =
    ap (is_waiting_row S.mode.shared) is
    ∙ (ap (λ (what : Waiting). is_wait what || (S.mode.shared && is_returning row.part)) free.0 ∙ returns) in
    let live : is_live_row (thread_of S t) ≡ false = ap is_live_row is ∙ ap is_live doomed in
    let stopped : is_stopped S t ≡ false =
    ap (λ (b : Bool). b && not (suspend_count S.synchronization.nano t == 0) && not (is_protected S.synchronization.nano t)) live in
    let busy : is_some (task_of script S t) ≡ true =
    ap (λ (r : Option ThreadRow). is_some (task_of_row script S t r)) is ∙ dying-some script S t row doomed in
    let wants : is_none (wanted_holder S.synchronization.nano t) ≡ true =
    ap (λ (want : Option ℕ). is_none (option_and_then (holder_of S.synchronization.nano) want)) free.1.wants in
    and_from (is_ready script S t) (is_none (wanted_holder S.synchronization.nano t))
    (parts_ready script S t (record {
      unspent = ap is_unspent_row is ∙ ap is_unspent doomed;
      waits = ap not waits;
      stopped = ap not stopped;
      task = busy;
    })) wants

pub doomed_able : (shared : Bool) (script : Script) (history : List Entry) → IsWellFormed script → AreDoomedAble shared script history
doomed_able shared script history valid t row is doomed out =
    freed-able script (after_in shared script history) t row (steady-after shared script history valid).freed is doomed out
