-- Reference counts that nobody but the kernel changes.
use Rattle.std.specs.Prelude.{◌≡◌, ℕ, ◌+◌, ◌<◌, ◌≤◌, ◌==◌, List, [], ◌∷◌, length, filter, replicate}
use Rattle.ref_words.specs.declared.answer.Stage.TheVariants.{Fresh, InUse}
use Rattle.ref_words.specs.declared.slip.Slip.{Slip}
use Rattle.ref_words.specs.Words.{Words, own_at, stage_at, IsCreated, IsOut, NoneCreated, same_slip}

-- so many places, none of them created, and no note
abbrev pub fresh_words : ℕ → Words
fresh_words n = record { own = replicate n 0; stages = replicate n Fresh; out = []; made = 0; identity = 0 ∷ [] }

-- how many notes of a place are out
abbrev pub notes_of : ℕ → List Slip → ℕ
notes_of p out = length (filter (λ s. s.place == p) out)

-- how often a note is out
abbrev pub copies_of : Slip → List Slip → ℕ
copies_of s out = length (filter (λ other. same_slip other s) out)

-- a place is in use exactly where its count isn't 0; only created places have notes out, each once and
-- with a number of those that were given; while no place is created none was made; and no count comes near its
-- type's end
pub record IsSound (w : Words) : Type 0 where
  pub sizes : length w.stages ≡ length w.own
  pub in_use : (p : ℕ) → 0 < own_at w p → stage_at w p ≡ InUse
  pub counted : (p : ℕ) → stage_at w p ≡ InUse → 0 < own_at w p
  pub few : length w.out ≤ 64
  pub out_created : (s : Slip) → IsOut w s → IsCreated w s.place
  pub numbered : (s : Slip) → w.made < s.number → copies_of s w.out ≡ 0
  pub once : (s : Slip) → copies_of s w.out ≤ 1
  pub unmade : NoneCreated w → w.made ≡ 0
  pub small : (p : ℕ) → own_at w p + notes_of p w.out ≤ 2147483712
