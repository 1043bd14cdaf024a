-- The memory of processes, of which bytes are copied to another place.
use Rattle.std.specs.Prelude.{ℕ, ◌+◌, List, [], ◌++◌, Option, None, length, map, option_map, take, drop, slice_index, slice_index_or, slice_set, unwrap_or}
use Rattle.std.specs.List.{range_with_len}
use Rattle.sym_base.specs.declared.number.ObjNo.{ObjNo}
use Rattle.copy_rules.specs.declared.job.Place.{Place}

-- a byte of a process, 0 past the end of its memory
abbrev pub byte_of : List (Option (List ℕ)) → ObjNo → ℕ → ℕ
byte_of memories p at = slice_index (unwrap_or (slice_index_or memories p.0 None) []) at

-- so many bytes of a process, from a place on
abbrev pub bytes_from : List (Option (List ℕ)) → Place → ℕ → List ℕ
bytes_from memories from count = map (byte_of memories from.process) (range_with_len from.at count)

-- bytes, of which those from an offset on are others
abbrev pub overwritten : ℕ → List ℕ → List ℕ → List ℕ
overwritten at piece bytes = take at bytes ++ piece ++ drop (at + length piece) bytes

-- the memories, with a change of one
abbrev pub with_memory : List (Option (List ℕ)) → ObjNo → (List ℕ → List ℕ) → List (Option (List ℕ))
with_memory memories p change = slice_set memories p.0 (option_map change (slice_index_or memories p.0 None))

-- the memories after a piece of so many bytes: they are those that stood there before it, also where both places are in
-- one process, and every other byte stays
abbrev pub copied : List (Option (List ℕ)) → Place → Place → ℕ → List (Option (List ℕ))
copied memories from to count = with_memory memories to.process (overwritten to.at (bytes_from memories from count))
