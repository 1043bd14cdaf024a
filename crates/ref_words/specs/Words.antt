-- Reference counts by place, the stages of the places, and the notes that are out.
use Rattle.std.specs.List.{list_any}
use Rattle.std.specs.Prelude.{◌≡◌, ◌≢◌, ℕ, ◌+◌, ◌-◌, ◌<◌, Bool, not, ◌&&◌, ◌==◌, List, [], ◌∷◌, ◌++◌, length, filter, IsTrue, slice_index, slice_index_or, slice_set}
use Rattle.ref_words.specs.declared.answer.Stage.{Stage}
use Rattle.ref_words.specs.declared.answer.Stage.TheVariants.{Fresh, InUse, Gone}
use Rattle.ref_words.specs.declared.answer.Found.{Found}
use Rattle.ref_words.specs.declared.answer.Found.TheVariants.{Held, Dead}
use Rattle.ref_words.specs.declared.answer.Closed.{Closed}
use Rattle.ref_words.specs.declared.answer.Closed.TheVariants.{Stays, Last}
use Rattle.ref_words.specs.declared.slip.Slip.{Slip}

-- all that counts and notes are: the references that the kernel itself counted and the stage, by place;
-- the notes that are out; how many were made; and an identity, which no call changes
pub record Words : Type 0 where
  pub own : List ℕ
  pub stages : List Stage
  pub out : List Slip
  pub made : ℕ
  pub identity : List ℕ

-- a place's own count, 0 where there is no such place
abbrev pub own_at : Words → ℕ → ℕ
own_at w p = slice_index w.own p

-- a place's stage, fresh where there is no such place
abbrev pub stage_at : Words → ℕ → Stage
stage_at w p = slice_index_or w.stages p Fresh

-- there is such a place, and it was never created
abbrev pub IsFresh : Words → ℕ → Type 0
IsFresh w p = (p < length w.own) × (p < length w.stages) × (stage_at w p ≡ Fresh)

-- the place was created
abbrev pub IsCreated : Words → ℕ → Type 0
IsCreated w p = stage_at w p ≢ Fresh

-- no place was created
abbrev pub NoneCreated : Words → Type 0
NoneCreated w = (p : ℕ) → stage_at w p ≡ Fresh

-- the place's last reference went
abbrev pub IsGone : Words → ℕ → Type 0
IsGone w p = stage_at w p ≡ Gone

-- whether two notes are one
abbrev pub same_slip : Slip → Slip → Bool
same_slip a b = (a.place == b.place) && (a.number == b.number)

-- the note is out
abbrev pub IsOut : Words → Slip → Type 0
IsOut w s = IsTrue (list_any (λ other. same_slip other s) w.out)

-- a note of the place is out
abbrev pub HasNoteOut : Words → ℕ → Type 0
HasNoteOut w p = IsTrue (list_any (λ s. s.place == p) w.out)

-- the notes but for one
abbrev pub without : Slip → List Slip → List Slip
without s out = filter (λ other. not (same_slip other s)) out

-- a fresh place is put in use, with one reference
abbrev pub created : Words → ℕ → Words
created w p = record w { own = slice_set w.own p 1; stages = slice_set w.stages p InUse }

-- one more reference
abbrev pub opened : Words → ℕ → Words
opened w p = record w { own = slice_set w.own p (own_at w p + 1) }

-- one more note is out, and has the next number
abbrev pub sent_out : Words → ℕ → Words
sent_out w p = record w { out = w.out ++ record { place = p; number = w.made + 1 } ∷ []; made = w.made + 1 }

-- the own counts once a note came back: one more reference where it found its object held
abbrev pub own_found : Found → Words → ℕ → List ℕ
own_found Held w p = slice_set w.own p (own_at w p + 1)
own_found Dead w p = w.own

-- the note is no longer out, and opened its object where it found it held
abbrev pub taken_back : Found → Words → Slip → Words
taken_back found w s = record w { own = own_found found w s.place; out = without s w.out }

-- the stages once a reference went: at the last the place is gone
abbrev pub stages_closed : Closed → Words → ℕ → List Stage
stages_closed Stays w p = w.stages
stages_closed Last w p = slice_set w.stages p Gone

-- one reference less, and at the last the place is gone
abbrev pub closed : Closed → Words → ℕ → Words
closed left w p = record w { own = slice_set w.own p (own_at w p - 1); stages = stages_closed left w p }
