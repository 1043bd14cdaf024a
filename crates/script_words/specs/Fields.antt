-- Reading the parts of a line: words and numbers.
use Rattle.std.specs.Prelude.{ℕ, Bool, ◌&&◌, ◌||◌, ◌==◌, nat_lt, nat_le, not, slice_index, if◌then◌else◌, List, [], ◌∷◌, length, Option, Some, None, option_map}
use Rattle.std.specs.Char.{is_ascii_digit}
use Rattle.std.specs.List.{list_all}
use Rattle.std.specs.Str.Parse.{digits_value}

-- the bytes before the first that is this one, and those after it
abbrev pub cut_of : ℕ → List ℕ → Option (List ℕ × List ℕ)
cut_of at [] = None
cut_of at (b ∷ bs) = if b == at then Some ([], bs) else option_map (λ parts. (b ∷ parts.0, parts.1)) (cut_of at bs)

-- digits, one at least, and no zero before another
abbrev pub is_number : List ℕ → Bool
is_number word = nat_lt 0 (length word) && list_all is_ascii_digit word && (length word == 1 || not (slice_index word 0 == 48))

-- the number that a word spells, where it is at most the greatest that may stand there
unfoldable pub number_of : ℕ → List ℕ → Option ℕ
number_of max word = if is_number word && nat_le (digits_value 10 word) max then Some (digits_value 10 word) else None
