-- Safe busy answers: a `send` answers that its server is busy exactly where all slots of its session are used. This is read off the
-- history alone.
use Rattle.std.specs.Prelude.{◌≡◌, ℕ, ℤ, pos, ◌==◌, ◌||◌, not, Bool, true, false, List, Option, Some, None}
use Rattle.sym_base.specs.declared.error.Error.TheVariants.{ServerBusy, ServerTerminated}
use Rattle.sym_base.specs.declared.kind.Slots.{Slots}
use Rattle.sym_base.specs.declared.number.ObjNo.{ObjNo}
use Rattle.sym_base.specs.ErrorCode.{error_code}
use Rattle.script_types.specs.declared.script.Script.{Script}
use Rattle.entry_log.specs.declared.entry.Actor.TheVariants.{Thread}
use Rattle.entry_log.specs.declared.entry.Entry.{Entry}
use Rattle.state_rows.specs.MessageRows.{all_slots}
use Rattle.machine_safe.specs.SafeDeaths.{StandsAt}
use Rattle.machine_safe.specs.Sent.{accepts}
use Rattle.machine_safe.specs.Served.{is_closing_in, is_remade, server_in}
use Rattle.machine_safe.specs.Slotted.{looked_in, slots_in, used_in}
use Rattle.machine.specs.EntryWords.{is_send}

-- whether a session's server accepts messages: it isn't closing, and its number isn't another's since
abbrev pub is_there : List Entry → ObjNo → Option ObjNo → Bool
is_there before s None = false
is_there before s (Some v) = not (is_closing_in before v || is_remade before s v)

abbrev pub accepts_in : List Entry → ObjNo → Bool
accepts_in before s = is_there before s (server_in before s)

-- whether all slots are used that a session has
abbrev pub is_full_in : Script → List Entry → ObjNo → Option Slots → Bool
is_full_in script before s None = false
is_full_in script before s (Some slots) = used_in script before s slots == all_slots script.pool slots

-- what a `send` answers: to a closing server terminated, with all slots used busy, and else 0; and how many messages are accepted then
abbrev pub answer_of : Bool → Bool → ℤ
answer_of false full = error_code ServerTerminated
answer_of true true = error_code ServerBusy
answer_of true false = pos 0

abbrev pub accepted_of : Bool → Bool → ℕ
accepted_of true false = 1
accepted_of _ _ = 0

-- the second step of a `send` of a thread, over a session: its answer, and what it accepts
pub record IsSendAnswer (script : Script) (before : List Entry) (e : Entry) : Type 0 where
  pub thread : ObjNo
  pub actor : e.actor ≡ Thread thread
  pub session : ObjNo
  pub looked : looked_in before thread ≡ Some session
  pub answer : e.answer ≡ Some (answer_of (accepts_in before session) (is_full_in script before session (slots_in script before session)))
  pub accepted : accepts e.effects ≡ accepted_of (accepts_in before session)
      (is_full_in script before session (slots_in script before session))

pub record IsSafeBusy (script : Script) (history : List Entry) : Type 0 where
  pub answers : (before : List Entry) (e : Entry) (later : List Entry) → StandsAt history before e later → is_send e.step ≡ true → IsSendAnswer script before e
