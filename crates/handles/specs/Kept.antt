-- What a handle table keeps.
use Rattle.std.specs.Prelude.{◌≡◌, ℕ, ◌<◌, is_none, if◌then◌else◌, List}
use Rattle.state_rows.specs.declared.handle_slot.HandleSlot.{HandleSlot}
use Rattle.handles.specs.Bits.{bit_of}
use Rattle.sym_base.specs.declared.limits.TheConstants.Limits.{HANDLES}
use Rattle.state_rows.specs.HandleSlots.{IsTable, slot_at}

-- the bit of a place is 1 where it is free, else 0
pub record AreKept (slots : List HandleSlot) (words : List ℕ) : Type 0 where
  pub table : IsTable slots
  pub marked : (i : ℕ) → i < HANDLES → bit_of words i ≡ (if is_none (slot_at slots i).object then 1 else 0)
