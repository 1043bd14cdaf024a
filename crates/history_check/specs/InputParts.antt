-- The two parts of an input: a script, and a history behind it.
use Rattle.std.specs.Prelude.{ℕ, Bool, false, ◌==◌, if◌then◌else◌, List, [], ◌∷◌, ◌++◌, codes}
use Rattle.std.specs.Str.{bytes_eq}
use Rattle.entry_log.specs.Joined.{joined}
use Rattle.script_types.specs.SourceText.{split, words_of}

-- words are the one word `end`
abbrev pub are_end : List (List ℕ) → Bool
are_end (word ∷ []) = bytes_eq word (codes "end")
are_end _ = false

-- a line has that word alone
abbrev pub is_end : List ℕ → Bool
is_end line = are_end (words_of line)

-- the text of lines up to and with the first such line: a line feed, which is 10, stands between a line and the next
abbrev pub to_end : List (List ℕ) → List ℕ
to_end [] = []
to_end (line ∷ []) = line
to_end (line ∷ next ∷ lines) = line ++ 10 ∷ (if is_end line then [] else to_end (next ∷ lines))

-- and the text behind it
abbrev pub behind_end : List (List ℕ) → List ℕ
behind_end [] = []
behind_end (line ∷ []) = []
behind_end (line ∷ next ∷ lines) = if is_end line then joined 10 (next ∷ lines) else behind_end (next ∷ lines)

-- the script's part of an input, which is all of it if no line is `end`; and the history
abbrev pub script_part : List ℕ → List ℕ
script_part input = to_end (split (λ byte. byte == 10) input)

abbrev pub history_part : List ℕ → List ℕ
history_part input = behind_end (split (λ byte. byte == 10) input)
