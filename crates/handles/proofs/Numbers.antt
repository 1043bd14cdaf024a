-- Handles by the index of their places.
use Rattle.std.proofs.Common.{◌≡◌, ℕ, ◌<◌, true, eq-eqb, refl, is_some}
use Rattle.state_rows.specs.HandleNumbers.{index_of}
use Rattle.state_rows.specs.HandleSlots.{slot_at, look}
use Rattle.handles.specs.HandleTable.{HandleTable}
use Rattle.handles.specs.Table.{number_at, slots_removed, table_removed}
use Rattle.handles.proofs.Places.{index_of-handle_number}

-- the number of the handle at an index has that index
pub index_of-number_at : (t : HandleTable) (index : ℕ) → index < 65536 → index_of (number_at t index) ≡ index
index_of-number_at t index low = index_of-handle_number t.local index (slot_at t.slots index).instance low

-- and names what stands there
pub look-number_at : (t : HandleTable) (index : ℕ) → index < 65536 → look t.local t.slots (number_at t index) ≡ (slot_at t.slots index).object
look-number_at t index low =
    let number = number_at t index in
    rw (index_of-number_at t index low, eq-eqb number number refl) refl

-- so its removal frees exactly the place of the index, where an object stands there
pub removed-number_at : (t : HandleTable) (index : ℕ) → index < 65536 → is_some (slot_at t.slots index).object ≡ true
    → table_removed t (number_at t index) ≡ record t { slots = slots_removed t.slots index }
removed-number_at t index low some = rw (look-number_at t index low, some, index_of-number_at t index low) refl
