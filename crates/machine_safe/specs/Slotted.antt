-- What the entries of a history tell of message slots: which session a thread's `send` is over, which slots a session has, and which
-- messages take them.
use Rattle.std.specs.Prelude.{ℕ, ◌==◌, Bool, false, is_some, filter, length, if◌then◌else◌, List, [], ◌∷◌, ◌++◌, Option, Some, None, true, ◌&&◌}
use Rattle.sym_base.specs.declared.kind.Slots.{Slots}
use Rattle.sym_base.specs.declared.kind.Slots.TheVariants.{Own, Pool}
use Rattle.sym_base.specs.declared.number.MsgNo.{MsgNo}
use Rattle.sym_base.specs.declared.number.ObjNo.{ObjNo}
use Rattle.script_types.specs.declared.instruction.Instr.{Instr}
use Rattle.script_types.specs.declared.instruction.Instr.TheVariants as instr
use Rattle.script_types.specs.declared.script.Script.{Script}
use Rattle.entry_log.specs.declared.effect.Effect.{Effect}
use Rattle.entry_log.specs.declared.effect.Effect.TheVariants as effect
use Rattle.entry_log.specs.declared.effect.Holder.TheVariants.{Temp}
use Rattle.entry_log.specs.declared.entry.Actor.{Actor}
use Rattle.entry_log.specs.declared.entry.Actor.TheVariants.{Thread}
use Rattle.entry_log.specs.declared.entry.Entry.{Entry}
use Rattle.entry_log.specs.declared.step.Part.TheVariants as part
use Rattle.entry_log.specs.declared.step.Step.{Step}
use Rattle.entry_log.specs.declared.step.Step.TheVariants as step
use Rattle.sym_base.specs.declared.word.Word.TheVariants as word
use Rattle.state_rows.specs.MessageRows.{is_pool}
use Rattle.machine.specs.EntryWords.{is_send}
use Rattle.machine_safe.specs.CountAfter.{effects_of, is_by}
use Rattle.machine_safe.specs.Sent.{finishes, instruction_in}
use Rattle.machine_safe.specs.Served.{link_by, one_if, or_before}

-- the object that effects say a thread came to use last
abbrev pub used_told : List Effect → ObjNo → Option ObjNo
used_told [] t = None
used_told (effect.Plus (Temp u) o ∷ rest) t = or_before (used_told rest t) (one_if (u.0 == t.0) o)
used_told (_ ∷ rest) t = used_told rest t

-- the session that a thread's `send` is over: the one that its last look for a `send` came to use
abbrev pub looks_to_send : Step → Bool
looks_to_send (step.Of word.Send part.Look) = true
looks_to_send _ = false

abbrev pub looked_in : List Entry → ObjNo → Option ObjNo
looked_in [] t = None
looked_in (e ∷ es) t = or_before (looked_in es t) (if is_by t e.actor && looks_to_send e.step then used_told e.effects t else None)

-- the slots of a session: those that the `connect` names which made it
abbrev pub slots_of_connect : Option Instr → Option Slots
slots_of_connect (Some (instr.Connect name slots x)) = Some slots
slots_of_connect _ = None

abbrev pub slots_before : Option Slots → Option Slots → Option Slots
slots_before None earlier = earlier
slots_before (Some slots) earlier = Some slots

abbrev pub slots_by : Script → List Entry → Actor → Option Slots
slots_by script before (Thread t) = slots_of_connect (instruction_in script before t)
slots_by script before _ = None

abbrev pub slots_from : Script → List Entry → List Entry → ObjNo → Option Slots
slots_from script before [] s = None
slots_from script before (e ∷ es) s =
    slots_before (slots_from script (before ++ e ∷ []) es s) (if is_some (link_by e s) then slots_by script before e.actor else None)

abbrev pub slots_in : Script → List Entry → ObjNo → Option Slots
slots_in script es s = slots_from script [] es s

-- a message that a `send` sent over a session
pub record SentOver : Type 0 where
  pub number : MsgNo
  pub session : ObjNo

-- those that entries tell of, in order, and of these the ones that aren't finished
abbrev pub sent_told : List Effect → List SentOver
sent_told (effect.Accept m ∷ effect.Plus h s ∷ rest) = record { number = m; session = s } ∷ []
sent_told _ = []

abbrev pub sends_in : List Entry → List SentOver
sends_in [] = []
sends_in (e ∷ es) = (if is_send e.step then sent_told e.effects else []) ++ sends_in es

abbrev pub is_open_in : List Effect → SentOver → Bool
is_open_in effects sent = finishes effects sent.number == 0

abbrev pub outstanding_in : List Entry → List SentOver
outstanding_in es = filter (is_open_in (effects_of es)) (sends_in es)

-- whether a message takes one of the slots that a session has: it is over that session, or the slots are the pool's and so are those of its own
abbrev pub is_pooled : Option Slots → Bool
is_pooled None = false
is_pooled (Some slots) = is_pool slots

abbrev pub takes_of : Script → List Entry → ObjNo → Slots → SentOver → Bool
takes_of script es s (Own n) sent = sent.session.0 == s.0
takes_of script es s Pool sent = is_pooled (slots_in script es sent.session)

-- how many slots of a session are used after entries
abbrev pub used_in : Script → List Entry → ObjNo → Slots → ℕ
used_in script es s slots = length (filter (takes_of script es s slots) (outstanding_in es))
