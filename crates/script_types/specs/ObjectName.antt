-- The names that a script gives: 1 to 16 lower-case letters, digits and `_`, a letter first.
use Rattle.std.specs.List.{list_all}
use Rattle.std.specs.Prelude.{ℕ, Bool, false, ◌&&◌, ◌||◌, ◌==◌, nat_le, List, [], ◌∷◌, length}

-- a lower-case letter
abbrev pub is_lower_case : ℕ → Bool
is_lower_case c = nat_le 97 c && nat_le c 122

-- a lower-case letter, a digit or `_`
abbrev pub is_object_byte : ℕ → Bool
is_object_byte c = is_lower_case c || (nat_le 48 c && nat_le c 57) || (c == 95)

-- a name of an object
abbrev pub is_object_name : List ℕ → Bool
is_object_name [] = false
is_object_name (first ∷ rest) = is_lower_case first && nat_le (length rest) 15 && list_all is_object_byte rest
