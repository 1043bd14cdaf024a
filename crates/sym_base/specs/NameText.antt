-- Names: 1 to 16 letters, digits, `_` and `-`.
use Rattle.std.specs.List.{list_all}
use Rattle.std.specs.Prelude.{ℕ, Bool, ◌&&◌, ◌||◌, ◌==◌, nat_le, if◌then◌else◌, List, length, Option, Some, None}

-- a letter, a digit, `_` or `-`
abbrev pub name_byte : ℕ → Bool
name_byte c = (nat_le 97 c && nat_le c 122) || (nat_le 65 c && nat_le c 90) || (nat_le 48 c && nat_le c 57) || (c == 95) || (c == 45)

-- the name that a word spells
abbrev pub name_of : List ℕ → Option (List ℕ)
name_of word = if nat_le 1 (length word) && nat_le (length word) 16 && list_all name_byte word then Some word else None
