-- A handle's number is its index + 65536 × its instance, and 1073741824 more in a thread's table.
use Rattle.std.specs.Prelude.{ℕ, ◌+◌, ◌*◌, ◌%◌, Bool, not, nat_lt, ◌==◌, if◌then◌else◌}

-- the instance after this one: they count from 1 to 16,383, then from 1 again
abbrev pub next_instance : ℕ → ℕ
next_instance n = if n == 16383 then 1 else n + 1

-- the number of the handle with an index and an instance, in a thread's table or a process's
abbrev pub handle_number : Bool → ℕ → ℕ → ℕ
handle_number local index instance = index + 65536 * instance + (if local then 1073741824 else 0)

-- the index in a handle's number: a handle is by its format the number index + 65536 × instance, so the index is what is left of it below 65536
abbrev pub index_of : ℕ → ℕ
index_of handle = handle % 65536

-- whether a number is that of a handle in a thread's table: bit 30 tells it
abbrev pub is_local : ℕ → Bool
is_local handle = not (nat_lt handle 1073741824)
