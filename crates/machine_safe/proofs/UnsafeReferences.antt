-- The definition of safe references, tried on histories, changed by hand, that aren't safe.
use Rattle.std.proofs.Common.{Bool, false, inl, inr, ◌≡◌, ℕ, ◌<◌, ◌≤◌, List, [], ◌∷◌, None, refl, arith}
use Rattle.sym_base.specs.declared.number.ObjNo.{ObjNo}
use Rattle.sym_base.specs.declared.word.Word.TheVariants as word
use Rattle.script_types.specs.declared.script.Script.{Script}
use Rattle.entry_log.specs.declared.effect.Effect.{Effect}
use Rattle.entry_log.specs.declared.effect.Effect.TheVariants.{Plus, Minus, Dead, Seek, Swept}
use Rattle.entry_log.specs.declared.effect.Holder.TheVariants.{InProcess}
use Rattle.entry_log.specs.declared.entry.Actor.TheVariants.{Thread}
use Rattle.entry_log.specs.declared.entry.Entry.{Entry}
use Rattle.entry_log.specs.declared.step.Part.TheVariants as part
use Rattle.entry_log.specs.declared.step.Step.TheVariants.{Of}
use Rattle.machine.specs.Boot.{boot, uses_again}
use Rattle.machine.specs.References.{count_of}
use Rattle.machine_safe.specs.SafeReferences.{IsSafeReferences}

-- thread 3 opens object 5 by place 0 of the table of process 2, and closes that
abbrev pub number : ℕ → ObjNo
number n = record { 0 = n }

abbrev pub acts : ℕ → List Effect → Entry
acts place effects = record { place = place; actor = Thread (number 3); step = Of word.Close part.Do; effects = effects; answer = None }

abbrev pub opens : ℕ → Entry
opens place = acts place (Plus (InProcess (number 2) 0) (number 5) ∷ [])

abbrev pub closes : ℕ → Entry
closes place = acts place (Minus (InProcess (number 2) 0) (number 5) ∷ [])

abbrev pub ends : ℕ → Entry
ends place = acts place (Minus (InProcess (number 2) 0) (number 5) ∷ Dead (number 5) ∷ [])

abbrev pub sweeps : ℕ → Entry
sweeps place = acts place (Swept (number 5) ∷ [])

-- it doesn't die twice, where numbers aren't used again
died_twice : (shared : Bool) (script : Script) → uses_again script.version ≡ false → IsSafeReferences shared script (ends 1 ∷ ends 2 ∷ []) → ⊥
died_twice shared script first safe = let few : 2 ≤ 1 = (safe.once first (number 5)).dies in omega arith

-- nor twice in one life
died_again : (shared : Bool) (script : Script) → IsSafeReferences shared script (ends 1 ∷ ends 2 ∷ []) → ⊥
died_again shared script safe = let few : 2 ≤ 1 = (safe.lives (number 5)).dies (ends 1 ∷ []) (ends 2) [] refl in omega arith

-- nor without a reference that goes
died_held : (shared : Bool) (script : Script) → IsSafeReferences shared script (acts 1 (Dead (number 5) ∷ []) ∷ []) → ⊥
died_held shared script safe = let some : 0 < 0 = (safe.only (number 5) [] (acts 1 (Dead (number 5) ∷ [])) [] refl (omega arith)).0 in omega arith

-- where the last goes, it dies
lived_on : (script : Script) → count_of (boot script) (number 5) ≡ 0 → IsSafeReferences false script (opens 1 ∷ closes 2 ∷ []) → ⊥
lived_on script none safe = elim (safe.always (number 5) (opens 1 ∷ []) (closes 2) [] refl (omega arith) (omega arith)) [
  | inl some ↦ let died : 0 < 0 = some in omega arith
  | inr excused ↦ excused
]

-- nobody opens it before it is swept, nor afterwards
opened_late : (shared : Bool) (script : Script) → IsSafeReferences shared script (ends 1 ∷ opens 2 ∷ []) → ⊥
opened_late shared script safe =
    let none : ◌≡◌ {A = ℕ} 1 0 = (safe.lives (number 5)).closed [] (ends 1) (opens 2 ∷ []) [] refl (omega arith) refl in
    omega arith

opened_swept : (shared : Bool) (script : Script) → uses_again script.version ≡ false
    → IsSafeReferences shared script (ends 1 ∷ sweeps 2 ∷ opens 3 ∷ []) → ⊥
opened_swept shared script first safe =
    let none : ◌≡◌ {A = ℕ} 1 0 = (safe.once first (number 5)).closed [] (ends 1) (sweeps 2 ∷ opens 3 ∷ []) refl
    (omega arith) in
    omega arith

-- and who found it before its sweep doesn't open what has its number since
opened_next : (shared : Bool) (script : Script)
    → IsSafeReferences shared script (acts 1 (Seek (number 5) ∷ []) ∷ record (sweeps 2) { actor = Thread (number 4) } ∷ opens 3 ∷ []) → ⊥
opened_next shared script safe =
    let none : ◌≡◌ {A = ℕ} 1 0 = safe.missed (number 5) [] (acts 1 (Seek (number 5) ∷ [])) (record (sweeps 2) { actor = Thread (number 4) } ∷ [])
    (opens 3) [] (number 3) refl refl (omega arith) refl refl (omega arith) (number 5) in
    omega arith

-- its row goes once, and not before
swept_twice : (shared : Bool) (script : Script) → IsSafeReferences shared script (ends 1 ∷ sweeps 2 ∷ sweeps 3 ∷ []) → ⊥
swept_twice shared script safe = let few : 2 ≤ 1 = (safe.lives (number 5)).swept (ends 1 ∷ sweeps 2 ∷ []) (sweeps 3) [] refl in omega arith

swept_alive : (shared : Bool) (script : Script) → IsSafeReferences shared script (sweeps 1 ∷ []) → ⊥
swept_alive shared script safe = let few : 1 ≤ 0 = (safe.lives (number 5)).swept [] (sweeps 1) [] refl in omega arith

-- and a holder doesn't get it twice
opened_twice : (shared : Bool) (script : Script) → IsSafeReferences shared script (opens 1 ∷ opens 2 ∷ []) → ⊥
opened_twice shared script safe = let none = safe.holders.1.0 in omega arith

-- nor gives up one that it hasn't
closed_unheld : (shared : Bool) (script : Script) → IsSafeReferences shared script (closes 1 ∷ []) → ⊥
closed_unheld shared script safe = let held = safe.holders.0 in omega arith
