-- The order of names, and the list of those that have objects.
use Rattle.std.specs.Prelude.{◌≡◌, ℕ, ◌+◌, ◌<◌, ◌≤◌, Bool, true, false, not, if◌then◌else◌, List, [], ◌∷◌, Option, Some, None, Result, Ok, Err, IsTrue, length, slice_index}
use Rattle.std.specs.declared.cmp.Ordering.{Ordering}
use Rattle.std.specs.declared.cmp.Ordering.TheVariants.{Less, Equal, Greater}
use Rattle.std.specs.Ordering.{nat_cmp, ordering_then}
use Rattle.std.specs.Cmp.Lexicographic.{slice_cmp}
use Rattle.sym_base.specs.KindNumber.{kind_number}
use Rattle.sym_base.specs.declared.kind.Kind.{Kind}
use Rattle.sym_base.specs.declared.kind.Kind.TheVariants.{Process}
use Rattle.state_rows.specs.declared.object.ObjectRow.{ObjectRow}
use Rattle.state_rows.specs.ObjectRows.{is_session, is_taken}
use Rattle.objects.specs.Rows.{row_at}

-- what an object is found by
pub record Key : Type 0 where
  pub kind : Kind
  pub name : List ℕ

-- keys are in order by kind, and those of a kind by name, byte by byte
abbrev pub key_order : Key → Key → Ordering
key_order one other = ordering_then (nat_cmp (kind_number one.kind) (kind_number other.kind)) (slice_cmp nat_cmp one.name other.name)

-- the key of a row; where there is no row it is never asked for
abbrev pub key_of : Option ObjectRow → Key
key_of None = record { kind = Process; name = [] }
key_of (Some row) = record { kind = row.kind; name = row.name }

-- whether an object isn't swept and has a name, as no session has
abbrev pub is_named : Option ObjectRow → Bool
is_named None = false
is_named (Some row) = not (is_session row.kind)

-- the key at a place of a list of numbers
abbrev pub key_at : List (Option ObjectRow) → List ℕ → ℕ → Key
key_at rows numbers place = key_of (row_at rows (slice_index numbers place))

-- how many rows have names
abbrev pub named_bit : Option ObjectRow → ℕ
named_bit row = if is_named row then 1 else 0

abbrev pub names_in : List (Option ObjectRow) → ℕ
names_in [] = 0
names_in (row ∷ rest) = named_bit row + names_in rest

-- the numbers of exactly the unswept objects that have names, each key less than the next
pub record AreListed (rows : List (Option ObjectRow)) (numbers : List ℕ) : Type 0 where
  pub few : length numbers ≤ names_in rows
  pub named : (i : ℕ) → i < length numbers → IsTrue (is_named (row_at rows (slice_index numbers i)))
  pub rising : (i j : ℕ) → i < j → j < length numbers → key_order (key_at rows numbers i) (key_at rows numbers j) ≡ Less
  pub complete : (o : ℕ) → IsTrue (is_named (row_at rows o)) → (i : ℕ) × (i < length numbers) × (slice_index numbers i ≡ o)

-- where a key isn't listed: what stands before the place is less, and the rest is greater
pub record IsGap (rows : List (Option ObjectRow)) (numbers : List ℕ) (key : Key) (place : ℕ) : Type 0 where
  pub within : place ≤ length numbers
  pub before : (i : ℕ) → i < place → key_order (key_at rows numbers i) key ≡ Less
  pub behind : (i : ℕ) → place ≤ i → i < length numbers → key_order (key_at rows numbers i) key ≡ Greater

-- the place of a key: where it is listed, or else where it would come
abbrev pub IsPlace : List (Option ObjectRow) → List ℕ → Key → Result ℕ ℕ → Type 0
IsPlace rows numbers key (Ok place) = (place < length numbers) × (key_order (key_at rows numbers place) key ≡ Equal)
IsPlace rows numbers key (Err place) = IsGap rows numbers key place

-- the place where a new object is listed: none exactly where its name is taken, and any for a session
abbrev pub IsNewPlace : List (Option ObjectRow) → List ℕ → Kind → List ℕ → Option ℕ → Type 0
IsNewPlace rows numbers kind name None = is_taken kind name rows ≡ true
IsNewPlace rows numbers kind name (Some place) =
    (is_taken kind name rows ≡ false) × (is_session kind ≡ false
    → IsGap rows numbers (record { kind = kind; name = name }) place)
