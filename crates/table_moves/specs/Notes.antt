-- The notes of a table's objects that are out, and what a note that is sent out or comes back leaves.
use Rattle.std.specs.List.{list_any}
use Rattle.std.specs.Prelude.{ℕ, ◌+◌, ◌==◌, List, [], ◌∷◌, ◌++◌, length, IsTrue}
use Rattle.ref_words.specs.declared.slip.Slip.{Slip}
use Rattle.ref_words.specs.Words.{Words, same_slip, without}

-- the notes that are out, how many were made, and the identity of the words that made them, with for how many objects these have places
pub record Notes : Type 0 where
  pub out : List Slip
  pub made : ℕ
  pub identity : List ℕ
  pub places : ℕ

-- those of count words
abbrev pub notes_of : Words → Notes
notes_of w = record { out = w.out; made = w.made; identity = w.identity; places = length w.own }

-- no note was made yet
abbrev pub no_notes : List ℕ → ℕ → Notes
no_notes identity places = record { out = []; made = 0; identity = identity; places = places }

-- this note is out, and one of a place is
abbrev pub IsNoteOut : Notes → Slip → Type 0
IsNoteOut notes s = IsTrue (list_any (λ other. same_slip other s) notes.out)

abbrev pub HasNoteOf : Notes → ℕ → Type 0
HasNoteOf notes p = IsTrue (list_any (λ s. s.place == p) notes.out)

-- one more note is out, and has the next number
abbrev pub next_slip : Notes → ℕ → Slip
next_slip notes p = record { place = p; number = notes.made + 1 }

abbrev pub notes_sent : Notes → ℕ → Notes
notes_sent notes p = record notes { out = notes.out ++ next_slip notes p ∷ []; made = notes.made + 1 }

-- a note is out no longer
abbrev pub notes_back : Slip → Notes → Notes
notes_back s notes = record notes { out = without s notes.out }
