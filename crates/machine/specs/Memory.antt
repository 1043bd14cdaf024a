-- The memory of processes: 1,024 bytes each.
use Rattle.std.specs.Prelude.{ℕ, ◌+◌, List, [], ◌++◌, Option, None, option_map, replicate, take, drop, slice_index, slice_set, unwrap_or}
use Rattle.std.specs.List.{slice_index_or}
use Rattle.sym_base.specs.declared.number.ObjNo.{ObjNo}

-- bytes, of which so many from an offset on have a value
abbrev pub filled : ℕ → ℕ → ℕ → List ℕ → List ℕ
filled at length byte bytes = take at bytes ++ replicate length byte ++ drop (at + length) bytes

-- the memories, with a change of one
abbrev pub with_memory : List (Option (List ℕ)) → ObjNo → (List ℕ → List ℕ) → List (Option (List ℕ))
with_memory memories p change = slice_set memories p.0 (option_map change (slice_index_or memories p.0 None))

-- a byte of a process
abbrev pub byte_of : List (Option (List ℕ)) → ObjNo → ℕ → ℕ
byte_of memories p at = slice_index (unwrap_or (slice_index_or memories p.0 None) []) at
