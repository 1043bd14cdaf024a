-- What the entries of a history tell of messages: how many were accepted, which were finished, who sent one and how, and at which
-- instruction a thread was.
use Rattle.std.specs.Prelude.{◌≡◌, ℕ, ◌+◌, ◌==◌, ◌&&◌, Bool, true, false, is_some, if◌then◌else◌, List, [], ◌∷◌, Option, Some, None}
use Rattle.sym_base.specs.declared.number.MsgNo.{MsgNo}
use Rattle.sym_base.specs.declared.number.ObjNo.{ObjNo}
use Rattle.sym_base.specs.declared.word.Word.TheVariants as word
use Rattle.script_types.specs.declared.instruction.Instr.{Instr}
use Rattle.script_types.specs.declared.instruction.Instr.TheVariants as instr
use Rattle.script_types.specs.declared.script.Script.{Script}
use Rattle.entry_log.specs.declared.effect.Effect.{Effect}
use Rattle.entry_log.specs.declared.effect.Effect.TheVariants as effect
use Rattle.entry_log.specs.declared.effect.Holder.TheVariants as holder
use Rattle.entry_log.specs.declared.effect.StatusNo.{StatusNo}
use Rattle.entry_log.specs.declared.effect.StatusNo.TheVariants.{Async, Sync}
use Rattle.entry_log.specs.declared.entry.Entry.{Entry}
use Rattle.entry_log.specs.declared.step.Part.TheVariants as part
use Rattle.entry_log.specs.declared.step.Step.{Step}
use Rattle.entry_log.specs.declared.step.Step.TheVariants.{Of, Shut}
use Rattle.state_rows.specs.declared.thread.ThreadRow.{ThreadRow}
use Rattle.machine.specs.Boot.{boot}
use Rattle.machine.specs.Rows.{thread_of}
use Rattle.machine.specs.Task.{instruction}
use Rattle.machine_safe.specs.CountAfter.{is_by}
use Rattle.machine_safe.specs.SafeDeaths.{StandsAt}

-- how many messages are accepted, and how often one is finished
abbrev pub accepts : List Effect → ℕ
accepts [] = 0
accepts (effect.Accept m ∷ rest) = 1 + accepts rest
accepts (_ ∷ rest) = accepts rest

abbrev pub finishes : List Effect → MsgNo → ℕ
finishes [] m = 0
finishes (effect.Finish n code ∷ rest) m = (if n.0 == m.0 then 1 else 0) + finishes rest m
finishes (_ ∷ rest) m = finishes rest m

-- an entry accepts a message of a client over a session: the message gets a reference to the session, and then to the client
pub record Accepts (e : Entry) (m : MsgNo) : Type 0 where
  pub session : ObjNo
  pub client : ObjNo
  pub rest : List Effect
  pub told : e.effects ≡ effect.Accept m ∷ effect.Plus (holder.Message m) session ∷ effect.Plus (holder.Message m) client ∷ rest

-- a message that was accepted: the entry that did it, and what is before it and behind it
pub record WasAccepted (history : List Entry) (m : MsgNo) : Type 0 where
  pub before : List Entry
  pub at : Entry
  pub later : List Entry
  pub stands : StandsAt history before at later
  pub by : Accepts at m

-- how often a thread was answered, which is its place in its list
abbrev pub answers : List Entry → ObjNo → ℕ
answers [] t = 0
answers (e ∷ es) t = (if is_by t e.actor && is_some e.answer then 1 else 0) + answers es t

-- the instruction that a thread is at after entries
abbrev pub at_place : Script → ℕ → Option ThreadRow → Option Instr
at_place script place None = None
at_place script place (Some row) = instruction script (record row { next_instruction = place })

abbrev pub instruction_in : Script → List Entry → ObjNo → Option Instr
instruction_in script es t = at_place script (answers es t) (thread_of (boot script) t)

-- The status that a message's client is signalled by: that of the `send` at which the client is, and the one of synchronous messages where it is
-- at a `connect` or `call`. A message that disconnects has none.
abbrev pub status_by : Step → Option Instr → Option StatusNo
status_by (Of word.Send part) (Some (instr.Send x function status args)) = Some (Async status)
status_by (Of word.Call part) (Some (instr.Call x function args)) = Some Sync
status_by (Of word.Connect part) (Some (instr.Connect name slots x)) = Some Sync
status_by _ at = None

-- Whether a step accepts a message whose client is signalled by this status: a `connect`, `send` or `call` does with one, and the close of a
-- session's handle with none.
abbrev pub accepts_by : Step → Option StatusNo → Bool
accepts_by (Of word.Connect part.Send) (Some status) = true
accepts_by (Of word.Send part.Do) (Some status) = true
accepts_by (Of word.Call part.Do) (Some status) = true
accepts_by (Of word.Close part.Do) None = true
accepts_by Shut None = true
accepts_by _ status = false
