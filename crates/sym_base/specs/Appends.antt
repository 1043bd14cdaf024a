-- How a text call leaves its buffer of 512 bytes.
use Rattle.std.specs.Prelude.{◌≡◌, ℕ, ◌+◌, ◌<◌, ◌≤◌, Bool, true, false, List, ◌++◌, length}

-- true: the text stands at the end; false: it doesn't fit, and nothing changed
abbrev pub Appends : Bool → List ℕ → List ℕ → List ℕ → Type 0
Appends true old new text = (new ≡ old ++ text) × (length old + length text ≤ 512)
Appends false old new text = (new ≡ old) × (512 < length old + length text)
