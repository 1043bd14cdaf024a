-- What a state needs so that the numbers of decisions and moves fit their types. It only serves proofs: every state
-- that a history leaves has it.
use Rattle.std.specs.Prelude.{◌≡◌, ℕ, ◌+◌, ◌≤◌, List, [], length, Option, Some, None}
use Rattle.std.specs.List.{slice_index_or}
use Rattle.state_rows.specs.declared.handle_slot.HandleSlot.{HandleSlot}
use Rattle.state_rows.specs.declared.thread.ThreadRow.{ThreadRow}
use Rattle.machine.specs.declared.state.State.{State}
use Rattle.state_rows.specs.HandleSlots.{slot_at}

-- a handle table is small, and its instances are in their range
pub record IsSmallTable (table : List HandleSlot) : Type 0 where
  pub size : length table ≤ 256
  pub instances : (i : ℕ) → (slot_at table i).instance ≤ 16383

abbrev pub AreSmallTables : List (List HandleSlot) → Type 0
AreSmallTables tables = (k : ℕ) → IsSmallTable (slice_index_or tables k [])

-- each thread may still go on by so many instructions
abbrev pub MayAdvance : ℕ → List (Option ThreadRow) → Type 0
MayAdvance n threads = (k : ℕ) (row : ThreadRow) → slice_index_or threads k None ≡ Some row → row.next_instruction + n ≤ 4294967295

-- so many further moves have room, and the number of each thread has 16 bits
pub record HasRoom (n : ℕ) (S : State) : Type 0 where
  pub objects : length S.references.objects + n ≤ 65535
  pub made : S.references.made + n ≤ 18446744073709551615
  pub threads : length S.references.threads ≤ 65535
  pub instructions : MayAdvance n S.references.threads
  pub tables : AreSmallTables S.references.handles
  pub messages : S.serving.messages.accepted + n ≤ 2147483647
