-- Safe messages: each is accepted by a server that isn't closing, and finished once, by that server's owner; and its client is told so
-- where it lives. A server ends once, where it is closing. All of it is read off the history alone.
use Rattle.std.specs.Prelude.{◌≡◌, ℤ, ◌+◌, ◌<◌, Bool, true, false, nat_lt, List, [], ◌∷◌, Option, Some, None}
use Rattle.sym_base.specs.declared.error.Error.TheVariants.{ServerTerminated}
use Rattle.sym_base.specs.declared.number.MsgNo.{MsgNo}
use Rattle.sym_base.specs.declared.number.ObjNo.{ObjNo}
use Rattle.sym_base.specs.declared.word.Word.TheVariants as word
use Rattle.sym_base.specs.ErrorCode.{error_code}
use Rattle.script_types.specs.declared.instruction.Instr.{Instr}
use Rattle.script_types.specs.declared.instruction.Instr.TheVariants as instr
use Rattle.script_types.specs.declared.script.Script.{Script}
use Rattle.entry_log.specs.declared.effect.Effect.{Effect}
use Rattle.entry_log.specs.declared.effect.Effect.TheVariants as effect
use Rattle.entry_log.specs.declared.effect.StatusNo.{StatusNo}
use Rattle.entry_log.specs.declared.entry.Actor.TheVariants.{Thread}
use Rattle.entry_log.specs.declared.entry.Entry.{Entry}
use Rattle.entry_log.specs.declared.step.Step.{Step}
use Rattle.entry_log.specs.declared.step.Step.TheVariants as step
use Rattle.machine_safe.specs.CountAfter.{effects_of, is_by}
use Rattle.machine_safe.specs.SafeDeaths.{StandsAt, dooms}
use Rattle.machine_safe.specs.Sent.{Accepts, WasAccepted, accepts, accepts_by, finishes, instruction_in, status_by}
use Rattle.machine_safe.specs.Served.{ends, ends_in, is_closing_in, is_remade, owner_in, server_in}

-- An acceptance: messages are numbered 1, 2 and so on, an entry accepts one at most, which the acting thread sends, in a step that accepts, with
-- the status that its instruction names; and the session's server isn't closing before it, and has not ended, and its number isn't another's since.
pub record IsAcceptance (script : Script) (before : List Entry) (e : Entry) : Type 0 where
  pub message : MsgNo
  pub by : Accepts e message
  pub number : message.0 ≡ accepts (effects_of before) + 1
  pub only : accepts by.rest ≡ 0
  pub client : is_by by.client e.actor ≡ true
  pub step : accepts_by e.step (status_by e.step (instruction_in script before by.client)) ≡ true
  pub server : ObjNo
  pub linked : server_in before by.session ≡ Some server
  pub same : is_remade before by.session server ≡ false
  pub accepting : is_closing_in before server ≡ false
  pub lasts : ends_in before server ≡ 0

-- the code that an entry may finish a message with: that of its `complete`, and that of a server which is closing
abbrev pub code_of_complete : Option Instr → Option ℤ
code_of_complete (Some (instr.Complete y code)) = Some code
code_of_complete _ = None

abbrev pub code_by : Step → Bool → Option Instr → Option ℤ
code_by (step.Of word.Complete part) closing at = code_of_complete at
code_by step.Finish true at = Some (error_code ServerTerminated)
code_by _ closing at = None

-- what a client is told: the code, by the status that it sent the message with, unless it was doomed since the message was accepted
abbrev pub notice : Option StatusNo → Bool → ObjNo → ℤ → List Effect
notice (Some status) false client code = effect.Signal client status code ∷ []
notice _ doomed client code = []

-- The end of a message: it was accepted and isn't finished yet, the owner of the server that its session was at then, whose number isn't another's
-- since, finishes it, with the code of its instruction or as the server is closing; and beside it stands what its client is told, and nothing else.
pub record IsFinish (script : Script) (before : List Entry) (e : Entry) (m : MsgNo) : Type 0 where
  pub accepted : WasAccepted before m
  pub once : finishes (effects_of before) m ≡ 0
  pub server : ObjNo
  pub linked : server_in accepted.before accepted.by.session ≡ Some server
  pub same : owner_in (accepted.at ∷ accepted.later) server ≡ None
  pub owner : ObjNo
  pub owns : owner_in before server ≡ Some owner
  pub actor : e.actor ≡ Thread owner
  pub code : ℤ
  pub cause : code_by e.step (is_closing_in before server) (instruction_in script before owner) ≡ Some code
  pub told : e.effects ≡ effect.Finish m code ∷
      notice (status_by accepted.at.step (instruction_in script accepted.before accepted.by.client))
      (nat_lt 0 (dooms (effects_of (accepted.at ∷ accepted.later)) accepted.by.client)) accepted.by.client code

-- nothing is left of a server: each message is finished whose session was at it as that was accepted
abbrev pub NothingLeft : List Entry → ObjNo → Type 0
NothingLeft before v =
    (m : MsgNo) (accepted : WasAccepted before m) → server_in accepted.before accepted.by.session ≡ Some v
    → finishes (effects_of before) m ≡ 1

-- The end of a server: it is closing and has not ended, nothing is left of it, and nothing is accepted beside it.
pub record IsEnd (before : List Entry) (e : Entry) (v : ObjNo) : Type 0 where
  pub closing : is_closing_in before v ≡ true
  pub first : ends_in before v ≡ 0
  pub once : ends e.effects v ≡ 1
  pub alone : accepts e.effects ≡ 0
  pub left : NothingLeft before v

pub record IsSafeMessages (script : Script) (history : List Entry) : Type 0 where
  pub acceptances : (before : List Entry) (e : Entry) (later : List Entry) → StandsAt history before e later
      → 0 < accepts e.effects → IsAcceptance script before e
  pub finished : (before : List Entry) (e : Entry) (later : List Entry) (m : MsgNo) → StandsAt history before e later
      → 0 < finishes e.effects m → IsFinish script before e m
  -- a server ends where it is closing and nothing is left of it, once
  pub ended : (before : List Entry) (e : Entry) (later : List Entry) (v : ObjNo) → StandsAt history before e later → 0 < ends e.effects v → IsEnd before e v
