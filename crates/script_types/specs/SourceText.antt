-- A text as lines, and a line as words.
use Rattle.std.specs.List.{filter, list_all}
use Rattle.std.specs.Prelude.{ℕ, Bool, true, false, ◌==◌, ◌&&◌, nat_le, not, if◌then◌else◌, List, [], ◌∷◌, length, map}

-- one more item in the first part
abbrev pub in_first : {A : Type 0} → A → List (List A) → List (List A)
in_first x [] = (x ∷ []) ∷ []
in_first x (part ∷ parts) = (x ∷ part) ∷ parts

-- the parts of a list between the items that pass a test
abbrev pub split : {A : Type 0} → (A → Bool) → List A → List (List A)
split ends [] = [] ∷ []
split ends (x ∷ xs) = if ends x then [] ∷ split ends xs else in_first x (split ends xs)

-- without the last part, where that is empty
abbrev pub without_empty_end : {A : Type 0} → List (List A) → List (List A)
without_empty_end [] = []
without_empty_end ([] ∷ []) = []
without_empty_end (part ∷ parts) = part ∷ without_empty_end parts

-- the lines of a text, each without its line feed, which is 10. A last line may lack it, and one that has
-- it has no line behind it
unfoldable pub text_lines : List ℕ → List (List ℕ)
text_lines text = without_empty_end (split (λ byte. byte == 10) text)

abbrev pub is_empty : {A : Type 0} → List A → Bool
is_empty [] = true
is_empty (x ∷ xs) = false

-- the words of a line: between them, and at both ends, stand spaces, which are 32
unfoldable pub words_of : List ℕ → List (List ℕ)
words_of line = filter (λ word. not (is_empty word)) (split (λ byte. byte == 32) line)

-- a line without words, or one whose first word begins with `#`, which is 35, is skipped
abbrev pub is_skipped : List (List ℕ) → Bool
is_skipped [] = true
is_skipped ([] ∷ words) = false
is_skipped ((first ∷ rest) ∷ words) = first == 35

-- the words of each line that isn't skipped
abbrev pub told_words : List (List ℕ) → List (List (List ℕ))
told_words lines = filter (λ words. not (is_skipped words)) (map words_of lines)

-- each byte of a line is 32 to 126
abbrev pub is_printed : List ℕ → Bool
is_printed line = list_all (λ byte. nat_le 32 byte && nat_le byte 126) line

-- a line has at most 200 bytes
abbrev pub is_short : List ℕ → Bool
is_short line = nat_le (length line) 200
