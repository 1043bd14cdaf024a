-- The log: the entries in the order in which they were made, each with the number of the caller that made it.
use Rattle.std.specs.Prelude.{◌≡◌, ℕ, ◌==◌, Bool, true, false, List, [], ◌∷◌, ◌++◌, map, length, drop, nat_lt, if◌then◌else◌, ◌<◌, All}
use Rattle.entry_log.specs.declared.entry.Entry.{Entry}
use Rattle.turn_lock.specs.declared.view.Logged.{Logged}

-- the second list begins with the first, and has the rest after it
pub record Begins {A : Type 0} (front whole : List A) : Type 0 where
  pub rest : List A
  pub is : front ++ rest ≡ whole

-- an entry under the number of the caller that made it
abbrev pub logged : ℕ → Entry → Logged
logged caller entry = record { caller = caller; entry = entry }

-- the entries of a log
abbrev pub entries_of : List Logged → List Entry
entries_of log = map (λ x. x.entry) log

-- the entry, if it is this caller's
abbrev pub entry_if : Bool → Entry → List Entry
entry_if true entry = entry ∷ []
entry_if false entry = []

-- the entries that a caller made, in the order in which it made them
abbrev pub made_by : ℕ → List Logged → List Entry
made_by caller [] = []
made_by caller (x ∷ log) = entry_if (x.caller == caller) x.entry ++ made_by caller log

-- entries under a caller's number
abbrev pub under : ℕ → List Entry → List Logged
under caller entries = map (logged caller) entries

-- what a list of entries has beyond those of a log
abbrev pub gained : List Logged → List Entry → List Entry
gained known entries = drop (length known) entries

-- the longer of two logs
abbrev pub longer : List Logged → List Logged → List Logged
longer one other = if nat_lt (length one) (length other) then other else one

-- the entries of a log were made by callers whose numbers are below this one
abbrev pub MadeBelow : ℕ → List Logged → Type 0
MadeBelow count log = All (λ x. x.caller < count) log
