-- Who awaits the end of no message, and which statuses no message has.
use Rattle.std.proofs.Common.{◌≡◌, ℕ, ◌<◌, arith, ap, ◌∙◌, Some, true, false}
use Rattle.sym_base.specs.declared.number.ObjNo.{ObjNo}
use Rattle.script_types.specs.declared.script.Script.{Script}
use Rattle.script_types.specs.declared.instruction.Instr.{Instr}
use Rattle.state_rows.specs.Locks.{is_among, waiters_at}
use Rattle.state_rows.specs.Requests.{is_pending}
use Rattle.state_rows.specs.declared.thread.Stage.TheVariants.{Live}
use Rattle.state_rows.specs.declared.thread.Waiting.TheVariants as waiting
use Rattle.state_rows.specs.declared.thread.ThreadRow.{ThreadRow}
use Rattle.machine.specs.declared.state.State.{State}
use Rattle.machine.specs.FitsServers.{IsUncalled}
use Rattle.machine.specs.Rows.{thread_of}
use Rattle.machine.specs.Serving.{times_called, times_sent}
use Rattle.machine.specs.Out.{is_returning}
use Rattle.machine.specs.WellFormed.{AreRows, times_logged}
use Rattle.move_laws.proofs.Lives.LivesMove.{zero_or}
use Rattle.machine_laws.proofs.Fitting.Stepping.{IsStepping}

-- a live thread that doesn't wait for a reply awaits the end of no message
pub uncalled : (script : Script) (S : State) (u : ObjNo) (row : ThreadRow) → AreRows script S → thread_of S u ≡ Some row
    → (row.waiting ≡ waiting.Reply → ⊥) → row.stage ≡ Live → times_called S.serving.messages.outstanding u ≡ 0
uncalled script S u row rows is other live =
    zero_or (times_called S.serving.messages.outstanding u)
    (λ some. other (rows.serving.messages.replies u row some is live))

pub is_uncalled : (script : Script) (S : State) (u : ObjNo) (row : ThreadRow) → AreRows script S
    → thread_of S u ≡ Some row → (row.waiting ≡ waiting.Reply → ⊥) → IsUncalled S u
is_uncalled script S u row rows is other = λ r at live.
    let same_row : row ≡ r = let a = is in cc in
    uncalled script S u row rows is other (ap (λ (x : ThreadRow). x.stage) same_row ∙ live)

pub stepping_uncalled : {script : Script} {S : State} {t : ObjNo} {row : ThreadRow} {instr : Instr}
    → IsStepping script S t row instr → is_returning row.part ≡ false
    → times_called S.serving.messages.outstanding t ≡ 0
stepping_uncalled {script = script} {S = S} {t = t} {row = row} h going =
    uncalled script S t row h.rows h.is (λ e. let nothing = h.waits in absurd (cc)) (h.live)

-- no message has a status that isn't pending, nor one that a logon has
pub not_sent : (script : Script) (S : State) (t : ObjNo) (s : ℕ) → AreRows script S
    → is_pending S.synchronization.requests t s ≡ false → times_sent S.serving.messages.outstanding t s ≡ 0
not_sent script S t s rows done =
    zero_or (times_sent S.serving.messages.outstanding t s)
    (λ some. let waits = (rows.serving.messages.awaited t s some).0.waits in absurd (cc))

pub logged_unsent : (script : Script) (S : State) (u : ObjNo) (s : ℕ) → AreRows script S
    → 0 < times_logged S.synchronization.logons u s → times_sent S.serving.messages.outstanding u s ≡ 0
logged_unsent script S u s rows logged =
    zero_or (times_sent S.serving.messages.outstanding u s)
    (λ some. let none = (rows.serving.messages.awaited u s some).1 in absurd (omega arith))

-- nor does one that stands among waiters
pub waiter_uncalled : (script : Script) (S : State) (o w : ObjNo) → AreRows script S → is_among w (waiters_at S.synchronization.locks o) ≡ true → IsUncalled S w
waiter_uncalled script S o w rows among =
    let awaits = rows.synchronization.locks.waiters w o among in
    is_uncalled script S w awaits.row rows awaits.is (λ e. let waits = awaits.waits in absurd (cc))
