-- What a draw does: the entry of the next slot.
use Rattle.std.specs.Prelude.{◌≡◌, ℕ, List, length, Option, Some, option_map, slice_get, true}
use Rattle.script_types.specs.declared.script.Script.{Script}
use Rattle.entry_log.specs.declared.entry.Actor.{Actor}
use Rattle.entry_log.specs.declared.entry.Entry.{Entry}
use Rattle.machine.specs.Arrived.{arrived_in}
use Rattle.machine.specs.History.{after_in}
use Rattle.machine.specs.Run.{slot_actor}
use Rattle.machine.specs.SharedRun.{slots_taken}
use Rattle.turn_lock.specs.declared.view.Sight.{Sight}
use Rattle.shared_kernel.specs.declared.answers.Drew.{Drew}
use Rattle.shared_kernel.specs.declared.answers.Drew.TheVariants.{Entry as DrewEntry, Seek as DrewSeek, NoSlot}
use Rattle.shared_kernel.specs.declared.base.KernelBase.{KernelBase}
use Rattle.shared_kernel.specs.Acts.{MakesEntry, MakesFind, Refuses}
use Rattle.shared_kernel.specs.Turned.{Turned}

-- whom the next slot lets act after a history: the slot whose number is one more than that of the entries that aren't returns
abbrev pub next_actor : Script → List Entry → Option Actor
next_actor script history =
    option_map (slot_actor (after_in true script history) (arrived_in true script history))
    (slice_get script.slots (slots_taken history))

-- no slot is left
pub record NoneLeft (script : Script) (old new : List Entry) (place : ℕ) : Type 0 where
  pub refuses : Refuses old new place
  pub none : slots_taken old ≡ length script.slots

abbrev pub Draws : KernelBase → Drew → List Entry → List Entry → Type 0
Draws b (DrewEntry place) old new = (actor : Actor) × (next_actor b.script old ≡ Some actor) × MakesEntry b old new actor place
Draws b (DrewSeek place thread ticket) old new = (actor : Actor) × (next_actor b.script old ≡ Some actor) × MakesFind b old new actor place thread ticket
Draws b (NoSlot place) old new = NoneLeft b.script old new place

-- what a caller sees who drew
abbrev pub DrewBy : KernelBase → Sight KernelBase → Sight KernelBase → Drew → Type 0
DrewBy b old new result = Turned old new (Draws b result)
