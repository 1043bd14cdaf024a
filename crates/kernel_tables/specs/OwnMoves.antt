-- Moves that touch no thread but the one that acts.
use Rattle.std.specs.Prelude.{◌≡◌, ◌==◌, ◌<◌, ◌||◌, nat_le, Bool, true, List, [], ◌∷◌}
use Rattle.std.specs.List.{list_all}
use Rattle.sym_base.specs.declared.limits.TheConstants.Limits.{BOOT_OBJECTS}
use Rattle.sym_base.specs.declared.number.ObjNo.{ObjNo}
use Rattle.machine.specs.declared.moves.Move.{Move}
use Rattle.machine.specs.Arrivals.{is_listed, taken_out, touched}

-- a number is that of thread t, or lies past those of threads
abbrev pub is_own_number : ObjNo → ObjNo → Bool
is_own_number t u = (u.0 == t.0) || nat_le BOOT_OBJECTS u.0

-- threads alone stand in a list
abbrev pub AreThreads : List ObjNo → Type 0
AreThreads qs = (u : ObjNo) → is_listed qs u ≡ true → u.0 < BOOT_OBJECTS

-- a move of thread t touches no other thread, and takes nobody out of the list of ready threads
abbrev pub IsOwn : ObjNo → Move → Type 0
IsOwn t m = (list_all (is_own_number t) (touched t m) ≡ true) × ((qs : List ObjNo) → AreThreads qs → taken_out m qs ≡ qs)

-- so does each of these
abbrev pub AreOwn : ObjNo → List Move → Type 0
AreOwn t [] = Unit
AreOwn t (m ∷ ms) = IsOwn t m × AreOwn t ms
