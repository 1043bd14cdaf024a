-- The script's part of an input isn't longer than the input.
use Rattle.std.proofs.Common.{ℕ, ◌+◌, ◌≤◌, Bool, true, false, List, [], ◌∷◌, length, length-append, arith}
use Rattle.std.specs.Prelude.{◌==◌, if◌then◌else◌}
use Rattle.script_types.specs.SourceText.{in_first, split}
use Rattle.history_check.specs.InputParts.{is_end, script_part, to_end}

-- the bytes of lines, with a line feed between a line and the next
abbrev bytes_of : List (List ℕ) → ℕ
bytes_of [] = 0
bytes_of (line ∷ []) = length line
bytes_of (line ∷ next ∷ lines) = length line + (1 + bytes_of (next ∷ lines))

-- a line more, or a byte more in the first
feed_more : (lines : List (List ℕ)) → bytes_of ([] ∷ lines) ≤ 1 + bytes_of lines
feed_more [] = omega arith
feed_more (line ∷ lines) = omega arith

byte_more : (b : ℕ) (lines : List (List ℕ)) → bytes_of (in_first b lines) ≤ 1 + bytes_of lines
byte_more b [] = omega arith
byte_more b (line ∷ []) = omega arith
byte_more b (line ∷ next ∷ lines) = omega arith

split_more : (feed : Bool) (b : ℕ) (lines : List (List ℕ)) → bytes_of (if feed then [] ∷ lines else in_first b lines) ≤ 1 + bytes_of lines
split_more true b lines = feed_more lines
split_more false b lines = byte_more b lines

split_bytes : (text : List ℕ) → bytes_of (split (λ byte. byte == 10) text) ≤ length text
split_bytes [] = omega arith
split_bytes (b ∷ bs) = let more = split_more (b == 10) b (split (λ byte. byte == 10) bs) in let rest = split_bytes bs in omega arith

-- up to the line `end`
if_shorter : (ends : Bool) (xs : List ℕ) → length (if ends then [] else xs) ≤ length xs
if_shorter true xs = omega arith
if_shorter false xs = omega arith

end_shorter : (lines : List (List ℕ)) → length (to_end lines) ≤ bytes_of lines
end_shorter [] = omega arith
end_shorter (line ∷ []) = omega arith
end_shorter (line ∷ next ∷ lines) =
    let behind = if is_end line then [] else to_end (next ∷ lines) in
    let rest = end_shorter (next ∷ lines) in
    let some = if_shorter (is_end line) (to_end (next ∷ lines)) in
    let both = length-append line (10 ∷ behind) in omega arith

pub script_shorter : (input : List ℕ) → length (script_part input) ≤ length input
script_shorter input = let front = end_shorter (split (λ byte. byte == 10) input) in let lines = split_bytes input in omega arith
