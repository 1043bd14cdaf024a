-- Whether a line tells a death.
use Rattle.std.specs.Prelude.{ℕ, Bool, ◌==◌, List, codes, take}
use Rattle.std.specs.List.{list_any}
use Rattle.std.specs.Str.{bytes_eq}
use Rattle.script_types.specs.SourceText.{split}

-- the text of a death begins so
abbrev pub is_death_text : List ℕ → Bool
is_death_text word = bytes_eq (take 5 word) (codes "dead:")

-- whether a word of a line is the text of a death; words stand between spaces, which are 32
abbrev pub tells_death : List ℕ → Bool
tells_death line = list_any is_death_text (split (λ byte. byte == 32) line)
