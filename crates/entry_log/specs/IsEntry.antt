-- What every entry keeps: its numbers fit their types, and its names are name text.
use Rattle.entry_log.specs.declared.effect.Effect.{Effect}
use Rattle.entry_log.specs.declared.effect.Effect.TheVariants.{Plus, Minus, Dead, Swept, Seek, Missed, Accept, Finish, Signal, Take, Give, Terminated, Doom, Bury}
use Rattle.entry_log.specs.declared.effect.Holder.{Holder}
use Rattle.entry_log.specs.declared.effect.Holder.TheVariants.{InProcess, InThread, Temp, Own, Link, Message, Kernel}
use Rattle.entry_log.specs.declared.effect.LockNo.{LockNo}
use Rattle.entry_log.specs.declared.effect.LockNo.TheVariants.{Object, Fast}
use Rattle.entry_log.specs.declared.effect.StatusNo.{StatusNo}
use Rattle.entry_log.specs.declared.effect.StatusNo.TheVariants.{Async, Sync}
use Rattle.entry_log.specs.declared.entry.Actor.{Actor}
use Rattle.entry_log.specs.declared.entry.Actor.TheVariants.{Thread, Irq}
use Rattle.entry_log.specs.declared.entry.Entry.{Entry}
use Rattle.entry_log.specs.declared.step.Step.{Step}
use Rattle.entry_log.specs.declared.step.Step.TheVariants.{RunOf, MoveOf}
use Rattle.std.specs.Int.{w32}
use Rattle.std.specs.List.{list_all}
use Rattle.std.specs.Prelude.{ℕ, ℤ, ◌^◌, ◌<◌, All, IfSome, IsTrue, FitsSigned}
use Rattle.sym_base.specs.NameText.{name_byte}
use Rattle.sym_base.specs.declared.number.MsgNo.{MsgNo}
use Rattle.sym_base.specs.declared.number.ObjNo.{ObjNo}

-- the number of an object, in 16 bits
abbrev pub IsObject : ObjNo → Type 0
IsObject object = object.0 < 2 ^ 16

-- the number of a message, in 32 bits
abbrev pub IsMessage : MsgNo → Type 0
IsMessage message = message.0 < 2 ^ 32

-- an index of a table, and a number of a status, a fast mutex or an interrupt, in 8 bits
abbrev pub IsSmall : ℕ → Type 0
IsSmall number = number < 2 ^ 8

-- a code, in 32 bits with a sign
abbrev pub IsCode : ℤ → Type 0
IsCode code = FitsSigned w32 code

-- the numbers of a holder
unfoldable pub IsHolder : Holder → Type 0
IsHolder (InProcess process index) = IsObject process × IsSmall index
IsHolder (InThread thread index) = IsObject thread × IsSmall index
IsHolder (Temp thread) = IsObject thread
IsHolder (Own thread) = IsObject thread
IsHolder (Link object) = IsObject object
IsHolder (Message message) = IsMessage message
IsHolder Kernel = Unit {0}

-- the number of a status
unfoldable pub IsStatus : StatusNo → Type 0
IsStatus (Async number) = IsSmall number
IsStatus Sync = Unit {0}

-- the number of a lock
unfoldable pub IsLock : LockNo → Type 0
IsLock (Object object) = IsObject object
IsLock (Fast number) = IsSmall number

-- the numbers of an effect
unfoldable pub IsEffect : Effect → Type 0
IsEffect (Plus holder object) = IsHolder holder × IsObject object
IsEffect (Minus holder object) = IsHolder holder × IsObject object
IsEffect (Dead object) = IsObject object
IsEffect (Swept object) = IsObject object
IsEffect (Seek object) = IsObject object
IsEffect (Missed object) = IsObject object
IsEffect (Accept message) = IsMessage message
IsEffect (Finish message code) = IsMessage message × IsCode code
IsEffect (Signal thread status code) = IsObject thread × IsStatus status × IsCode code
IsEffect (Take thread lock) = IsObject thread × IsLock lock
IsEffect (Give thread lock) = IsObject thread × IsLock lock
IsEffect (Terminated server) = IsObject server
IsEffect (Doom thread) = IsObject thread
IsEffect (Bury thread) = IsObject thread

-- the number of an actor
unfoldable pub IsActor : Actor → Type 0
IsActor (Thread thread) = IsObject thread
IsActor (Irq number) = IsSmall number
IsActor _ = Unit {0}

-- the name of a deferred function call is name text
unfoldable pub IsStep : Step → Type 0
IsStep (RunOf name) = IsTrue (list_all name_byte name)
IsStep (MoveOf name) = IsTrue (list_all name_byte name)
IsStep _ = Unit {0}

-- all of an entry
pub record IsEntry (entry : Entry) : Type 0 where
  pub place : entry.place < 2 ^ 32
  pub actor : IsActor entry.actor
  pub step : IsStep entry.step
  pub effects : All IsEffect entry.effects
  pub answer : IfSome entry.answer IsCode
