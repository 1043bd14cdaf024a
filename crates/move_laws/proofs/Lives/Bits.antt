-- Whether an object is dead, gone, or swept, as numbers that effects add to.
use Rattle.std.proofs.Common.{◌≡◌, ℕ, suc, zero, ◌+◌, ◌<◌, ◌≤◌, List, [], ◌∷◌, length, get_or, arith, refl, ap, Option, Some, None, Bool, true, false}
use Rattle.std.specs.Prelude.{is_some}
use Rattle.sym_base.specs.declared.number.ObjNo.{ObjNo}
use Rattle.sym_base.specs.declared.kind.Kind.TheVariants.{Mutex}
use Rattle.state_rows.specs.declared.object.ObjectRow.{ObjectRow}
use Rattle.machine.specs.WellFormed.{IsAlive, dead_bit, is_dead}

-- what stands past the last object: a row that isn't dead
abbrev pub unmade : Option ObjectRow
unmade = Some (record { kind = Mutex; name = []; dead = false; place = 0 })

-- 1 where a row is dead or swept
abbrev pub gone_bit : Option ObjectRow → ℕ
gone_bit None = 1
gone_bit (Some row) = dead_bit row.dead

-- 1 where a row is swept
abbrev pub swept_bit : Option ObjectRow → ℕ
swept_bit None = 1
swept_bit (Some row) = 0

-- 1 where an object was made and is dead or swept
abbrev pub gone : List (Option ObjectRow) → ObjNo → ℕ
gone objects o = gone_bit (get_or objects o.0 unmade)

-- 1 where an object was made and is swept
abbrev pub swept : List (Option ObjectRow) → ObjNo → ℕ
swept objects o = swept_bit (get_or objects o.0 unmade)

dead_bit_le : (b : Bool) → dead_bit b ≤ 1
dead_bit_le true = omega arith
dead_bit_le false = omega arith

gone_bit_le : (row : Option ObjectRow) → gone_bit row ≤ 1
gone_bit_le None = omega arith
gone_bit_le (Some row) = dead_bit_le row.dead

pub gone_le : (objects : List (Option ObjectRow)) (o : ObjNo) → gone objects o ≤ 1
gone_le objects o = gone_bit_le (get_or objects o.0 unmade)

swept_bit_le : (row : Option ObjectRow) → swept_bit row ≤ 1
swept_bit_le None = omega arith
swept_bit_le (Some row) = omega arith

pub swept_le : (objects : List (Option ObjectRow)) (o : ObjNo) → swept objects o ≤ 1
swept_le objects o = swept_bit_le (get_or objects o.0 unmade)

bits_one : (row : Option ObjectRow) → is_dead row + swept_bit row ≡ gone_bit row
bits_one None = refl
bits_one (Some row) = omega arith

bits_at : (objects : List (Option ObjectRow)) (i : ℕ)
    → is_dead (get_or objects i None) + swept_bit (get_or objects i unmade) ≡ gone_bit (get_or objects i unmade)
bits_at [] i = refl
bits_at (x ∷ xs) zero = bits_one x
bits_at (x ∷ xs) (suc i) = bits_at xs i

-- what is gone is dead or swept
pub gone_is : (objects : List (Option ObjectRow)) (o : ObjNo) → is_dead (get_or objects o.0 None) + swept objects o ≡ gone objects o
gone_is objects o = bits_at objects o.0

alive_bit : (row : Option ObjectRow) → IsAlive row → gone_bit row ≡ 0
alive_bit None h = absurd h
alive_bit (Some row) h = ap dead_bit h

alive_at : (objects : List (Option ObjectRow)) (i : ℕ) → IsAlive (get_or objects i None) → (gone_bit (get_or objects i unmade) ≡ 0) × (i < length objects)
alive_at [] i h = absurd h
alive_at (x ∷ xs) zero h = (alive_bit x h, omega arith)
alive_at (x ∷ xs) (suc i) h = let r = alive_at xs i h in (r.0, omega arith)

-- an alive object was made and isn't gone
pub alive_not_gone : (objects : List (Option ObjectRow)) (o : ObjNo) → IsAlive (get_or objects o.0 None) → (gone objects o ≡ 0) × (o.0 < length objects)
alive_not_gone objects o h = alive_at objects o.0 h

bit_alive_by : (row : ObjectRow) (b : Bool) → row.dead ≡ b → dead_bit b ≡ 0 → IsAlive (Some row)
bit_alive_by row true e h = absurd (omega arith)
bit_alive_by row false e h = e

bit_alive : (row : Option ObjectRow) → gone_bit row ≡ 0 → IsAlive row
bit_alive None h = absurd (omega arith)
bit_alive (Some row) h = bit_alive_by row row.dead refl h

not_gone_at : (objects : List (Option ObjectRow)) (i : ℕ) → i < length objects → gone_bit (get_or objects i unmade) ≡ 0 → IsAlive (get_or objects i None)
not_gone_at [] i lt h = absurd (omega arith)
not_gone_at (x ∷ xs) zero lt h = bit_alive x h
not_gone_at (x ∷ xs) (suc i) lt h = not_gone_at xs i (omega arith) h

-- and the other way round
pub not_gone_alive : (objects : List (Option ObjectRow)) (o : ObjNo) → o.0 < length objects → gone objects o ≡ 0 → IsAlive (get_or objects o.0 None)
not_gone_alive objects o lt h = not_gone_at objects o.0 lt h

default_at : (objects : List (Option ObjectRow)) (i : ℕ) → i < length objects → get_or objects i unmade ≡ get_or objects i None
default_at [] i h = absurd (omega arith)
default_at (x ∷ xs) zero h = refl
default_at (x ∷ xs) (suc i) h = default_at xs i (omega arith)

-- the row of an object that was made
pub row_made : (objects : List (Option ObjectRow)) (o : ObjNo) → o.0 < length objects → get_or objects o.0 unmade ≡ get_or objects o.0 None
row_made objects o h = default_at objects o.0 h

-- whether it is dead is 1 or 0, and 0 of one that is alive
pub dead_le : (row : Option ObjectRow) → is_dead row ≤ 1
dead_le None = omega arith
dead_le (Some row) = dead_bit_le row.dead

pub alive_undead : (row : Option ObjectRow) → IsAlive row → is_dead row ≡ 0
alive_undead None h = absurd h
alive_undead (Some row) h = ap dead_bit h

-- one that is there and isn't dead is alive
there_by : (row : ObjectRow) (b : Bool) → row.dead ≡ b → dead_bit b ≡ 0 → row.dead ≡ false
there_by row true e h = absurd (omega arith)
there_by row false e h = e

pub there_alive : (row : Option ObjectRow) → is_some row ≡ true → is_dead row ≡ 0 → IsAlive row
there_alive None h none = absurd (cc)
there_alive (Some row) h none = there_by row row.dead refl none

-- what is alive or dead is there
pub alive_there : (row : Option ObjectRow) → IsAlive row → is_some row ≡ true
alive_there None h = absurd h
alive_there (Some row) h = refl

pub dead_there : (row : Option ObjectRow) → 0 < is_dead row → is_some row ≡ true
dead_there None h = absurd (omega arith)
dead_there (Some row) h = refl

-- its number is one of the list's
pub there_inside : (objects : List (Option ObjectRow)) (i : ℕ) → is_some (get_or objects i None) ≡ true → i < length objects
there_inside [] i h = absurd (cc)
there_inside (x ∷ xs) zero h = omega arith
there_inside (x ∷ xs) (suc i) h = let r = there_inside xs i h in omega arith
