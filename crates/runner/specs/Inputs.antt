-- What the bytes of an input are to this program.
use Rattle.std.specs.Prelude.{◌≡◌, ℕ, ◌<◌, ◌≤◌, List, [], Option, IfSome, length}
use Rattle.edge_io.specs.Left.{preceded}
use Rattle.script_read.specs.FirstBad.{IsFirstBad}
use Rattle.script_read.specs.declared.reason.Reason.{Reason}
use Rattle.script_grammar.specs.Accepted.{IsAccepted}
use Rattle.script_types.specs.declared.script.Script.{Script}

-- at most 1,048,576 bytes, which are accepted as the script
pub record IsInput (bytes : List ℕ) (script : Script) : Type 0 where
  pub few : length bytes ≤ 1048576
  pub accepted : IsAccepted bytes script

-- at most 1,048,576 bytes, of which this is the first bad line and its reason
pub record IsBadInput (bytes : List ℕ) (line : ℕ) (why : Reason) : Type 0 where
  pub few : length bytes ≤ 1048576
  pub bad : IsFirstBad bytes line why

-- more bytes than a script may have
abbrev pub IsLargeInput : List ℕ → Type 0
IsLargeInput bytes = 1048576 < length bytes

-- nothing is left, where the source tells what is left
abbrev pub IsAtEnd : Option (List ℕ) → Type 0
IsAtEnd left = IfSome left (λ bytes. bytes ≡ [])

-- at most so many bytes were taken, from the front of what was left
pub record TookAtMost (limit : ℕ) (old new : Option (List ℕ)) : Type 0 where
  pub bytes : List ℕ
  pub few : length bytes ≤ limit
  pub front : preceded bytes new ≡ old

-- exactly so many bytes were taken, from the front of what was left
pub record Took (count : ℕ) (old new : Option (List ℕ)) : Type 0 where
  pub bytes : List ℕ
  pub many : length bytes ≡ count
  pub front : preceded bytes new ≡ old
