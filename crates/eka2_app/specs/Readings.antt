-- The commands, and which words are one.
use Rattle.std.specs.Fmt.{decimal}
use Rattle.std.specs.Prelude.{◌≡◌, ◌⊎◌, ℕ, ◌<◌, ◌≤◌, ◌^◌, List, [], ◌∷◌, ◌++◌, codes}
use Rattle.eka2_app.specs.declared.words.Command.{Command}
use Rattle.eka2_app.specs.declared.words.Command.TheVariants as command

-- the words of a command, in which a number is its decimal: digits alone, and no zero before another digit
abbrev pub AreWordsOf : Command → List (List ℕ) → Type 0
AreWordsOf command.Run words = words ≡ codes "run" ∷ []
AreWordsOf command.Brief words = words ≡ codes "brief" ∷ []
AreWordsOf (command.Share workers) words = (words ≡ codes "share" ∷ codes "--workers" ∷ decimal workers ∷ []) ⊎ (words ≡ codes "share" ∷ (codes "--workers=" ++ decimal workers) ∷ [])
AreWordsOf command.Check words = words ≡ codes "check" ∷ []
AreWordsOf (command.Make seed size) words = words ≡ codes "make" ∷ decimal seed ∷ decimal size ∷ []
AreWordsOf (command.Load seed size) words = words ≡ codes "load" ∷ decimal seed ∷ decimal size ∷ []

-- there are 1 to 8 workers
pub record AreFewWorkers (workers : ℕ) : Type 0 where
  pub some : 1 ≤ workers
  pub few : workers ≤ 8

-- a seed has 64 bits, and each client of a made script has 1 to 500 rounds
pub record IsInRange (seed size : ℕ) : Type 0 where
  pub fits : seed < 2 ^ 64
  pub some : 1 ≤ size
  pub few : size ≤ 500

abbrev pub HasNumbers : Command → Type 0
HasNumbers command.Run = Unit {0}
HasNumbers command.Brief = Unit {0}
HasNumbers (command.Share workers) = AreFewWorkers workers
HasNumbers command.Check = Unit {0}
HasNumbers (command.Make seed size) = IsInRange seed size
HasNumbers (command.Load seed size) = IsInRange seed size

-- the words are those of the command, whose numbers are in their ranges
pub record IsReading (words : List (List ℕ)) (command : Command) : Type 0 where
  pub same : AreWordsOf command words
  pub numbers : HasNumbers command

-- the most bytes that a command reads: a script, or a script with a history behind it
abbrev pub most_bytes : Command → ℕ
most_bytes command.Check = 16777216
most_bytes _ = 1048576
