-- Notes where the words count more or fewer references.
use Rattle.std.proofs.Common.{◌≡◌, ◌+◌, ◌-◌, ℕ, ap, length-set, refl, set}
use Rattle.ref_words.specs.declared.answer.Closed.{Closed}
use Rattle.ref_words.specs.declared.answer.Closed.TheVariants.{Last, Stays}
use Rattle.ref_words.specs.declared.answer.Found.{Found}
use Rattle.ref_words.specs.declared.answer.Found.TheVariants.{Dead, Held}
use Rattle.ref_words.specs.declared.slip.Slip.{Slip}
use Rattle.ref_words.specs.Words.{Words, closed, opened, own_at, taken_back}
use Rattle.objects.specs.Calls.{words_made}
use Rattle.objects.specs.declared.objects.Made.{Made}
use Rattle.objects.specs.declared.objects.Made.TheVariants.{Made as MadeObject, NameTaken, Full}
use Rattle.table_moves.specs.Notes.{Notes, notes_back, notes_of}

-- one count is written anew
written : (w : Words) (p n : ℕ) → notes_of (record w { own = set w.own p n }) ≡ notes_of w
written w p n = ap (λ (k : ℕ). let l : Notes = record { out = w.out; made = w.made; identity = w.identity; places = k } in l) (length-set w.own p n)

-- a making, and where none was made
pub notes-made : (answer : Made) (made : ℕ) (w : Words) → notes_of (words_made answer made w) ≡ notes_of w
notes-made (MadeObject o) made w = written w made 1
notes-made NameTaken made w = refl
notes-made Full made w = refl

pub notes-opened : (w : Words) (p : ℕ) → notes_of (opened w p) ≡ notes_of w
notes-opened w p = written w p (own_at w p + 1)

pub notes-closed : (left : Closed) (w : Words) (p : ℕ) → notes_of (closed left w p) ≡ notes_of w
notes-closed Stays w p = written w p (own_at w p - 1)
notes-closed Last w p = written w p (own_at w p - 1)

pub notes-taken_back : (found : Found) (w : Words) (s : Slip) → notes_of (taken_back found w s) ≡ notes_back s (notes_of w)
notes-taken_back Held w s = ap (notes_back s) (written w s.place (own_at w s.place + 1))
notes-taken_back Dead w s = refl
