-- The definition of safe references, tried on histories of callers who share the kernel, changed by hand, that aren't safe.
use Rattle.std.proofs.Common.{◌≡◌, ◌<◌, inl, inr, ℕ, ◌+◌, List, [], ◌∷◌, ◌++◌, None, arith, refl, ap, subst, sym, ◌∙◌, Bool, true, false}
use Rattle.std.specs.Prelude.{is_none, if◌then◌else◌}
use Rattle.sym_base.specs.declared.number.ObjNo.{ObjNo}
use Rattle.sym_base.specs.declared.word.Word.TheVariants as word
use Rattle.script_types.specs.declared.script.Script.{Script}
use Rattle.entry_log.specs.declared.effect.Effect.{Effect}
use Rattle.entry_log.specs.declared.effect.Effect.TheVariants.{Minus, Missed, Plus, Seek}
use Rattle.entry_log.specs.declared.effect.Holder.TheVariants.{Temp}
use Rattle.entry_log.specs.declared.entry.Actor.{Actor}
use Rattle.entry_log.specs.declared.entry.Actor.TheVariants.{Thread}
use Rattle.entry_log.specs.declared.entry.Entry.{Entry}
use Rattle.entry_log.specs.declared.step.Part.TheVariants as part
use Rattle.entry_log.specs.declared.step.Step.TheVariants.{Of}
use Rattle.machine.specs.Boot.{boot}
use Rattle.machine.specs.References.{count_of}
use Rattle.machine.specs.Told.{finds}
use Rattle.move_laws.proofs.References.Same.{if_is}
use Rattle.machine_safe.specs.CountAfter.{first_by}
use Rattle.machine_safe.specs.LeftOut.{IsLeftOut}
use Rattle.machine_safe.specs.SafeReferences.{IsSafeReferences}
use Rattle.machine_safe.proofs.UnsafeReferences.{closes, ends, number, opens, sweeps}

-- a thread finds object 5, comes back and opens it, misses it, or closes what it opened
abbrev does : ℕ → ℕ → List Effect → Entry
does place t effects = record { place = place; actor = Thread (number t); step = Of word.Open part.Return; effects = effects; answer = None }

abbrev found_by : ℕ → ℕ → Entry
found_by place t = does place t (Seek (number 5) ∷ [])

abbrev opened_by : ℕ → ℕ → Entry
opened_by place t = does place t (Plus (Temp (number t)) (number 5) ∷ [])

abbrev missed_by : ℕ → ℕ → Entry
missed_by place t = does place t (Missed (number 5) ∷ [])

abbrev closed_by : ℕ → ℕ → Entry
closed_by place t = does place t (Minus (Temp (number t)) (number 5) ∷ [])

-- how many finds of an object leave somebody out
abbrev has_left : Actor → List Entry → Bool
has_left (Thread t) es = is_none (first_by t es)
has_left _ es = false

abbrev left_outs : List Entry → List Entry → ObjNo → ℕ
left_outs [] later o = 0
left_outs (e ∷ es) later o = (if has_left e.actor (es ++ later) then finds e.effects o else 0) + left_outs es later o

left-counted : (before : List Entry) (find : Entry) (between later : List Entry) (w o : ObjNo) → find.actor ≡ Thread w
    → 0 < finds find.effects o → first_by w (between ++ later) ≡ None → 0 < left_outs (before ++ find ∷ between) later o
left-counted [] find between later w o by found gone =
    let counted = if_is (has_left find.actor (between ++ later)) (finds find.effects o)
    (ap (λ (a : Actor). has_left a (between ++ later)) by ∙ ap is_none gone) in
    omega arith
left-counted (x ∷ before) find between later w o by found gone = let rest = left-counted before find between later w o by found gone in omega arith

left-some : (first later : List Entry) (o : ObjNo) → IsLeftOut first later o → 0 < left_outs first later o
left-some first later o out =
    subst (λ (l : List Entry). 0 < left_outs l later o) (sym out.stands)
    (left-counted out.before out.find out.between later out.thread o out.actor out.found out.gone)

-- its last reference goes while nobody is out on it, and no death is told: nobody ever found it
kept_unfound : (script : Script) → count_of (boot script) (number 5) ≡ 0 → IsSafeReferences true script (opens 1 ∷ closes 2 ∷ []) → ⊥
kept_unfound script none safe = elim (safe.always (number 5) (opens 1 ∷ []) (closes 2) [] refl (omega arith) (omega arith)) [
  | inl some ↦ let died : 0 < 0 = some in omega arith
  | inr out ↦ let some : 0 < 0 = left-some (opens 1 ∷ closes 2 ∷ []) [] (number 5) out in omega arith
]

-- or whoever found it is back, and has closed what he opened
kept_back : (script : Script) → count_of (boot script) (number 5) ≡ 0
    → IsSafeReferences true script (opens 1 ∷ found_by 2 4 ∷ opened_by 3 4 ∷ closed_by 4 4 ∷ closes 5 ∷ []) → ⊥
kept_back script none safe =
    elim (safe.always (number 5) (opens 1 ∷ found_by 2 4 ∷ opened_by 3 4 ∷ closed_by 4 4 ∷ []) (closes 5) [] refl
    (omega arith) (omega arith)) [
      | inl some ↦ let died : 0 < 0 = some in omega arith
      | inr out ↦ let some : 0 < 0 = left-some (opens 1 ∷ found_by 2 4 ∷ opened_by 3 4 ∷ closed_by 4 4 ∷ closes 5 ∷ []) [] (number 5) out in omega arith
    ]

-- it is kept for thread 4, which misses it; thread 6 finds it meanwhile, and opens it
kept_found : (script : Script) → count_of (boot script) (number 5) ≡ 0
    → IsSafeReferences true script (opens 1 ∷ found_by 2 4 ∷ closes 3 ∷ found_by 4 6 ∷ opened_by 5 6 ∷ missed_by 6 4 ∷
    [])
    → ⊥
kept_found script none safe =
    elim (safe.always (number 5) (opens 1 ∷ found_by 2 4 ∷ []) (closes 3)
    (found_by 4 6 ∷ opened_by 5 6 ∷ missed_by 6 4 ∷ []) refl (omega arith) (omega arith)) [
      | inl some ↦ let died : 0 < 0 = some in omega arith
      | inr out ↦
          let some : 0 < 0 = left-some (opens 1 ∷ found_by 2 4 ∷ closes 3 ∷ [])
          (found_by 4 6 ∷ opened_by 5 6 ∷ missed_by 6 4 ∷ []) (number 5) out in
          omega arith
    ]

-- a return opens what died, before its row goes and afterwards
opened_dead : (shared : Bool) (script : Script) → IsSafeReferences shared script (opens 1 ∷ found_by 2 4 ∷ ends 3 ∷ opened_by 4 4 ∷ []) → ⊥
opened_dead shared script safe =
    let none : ◌≡◌ {A = ℕ} 1 0 = safe.missed (number 5) (opens 1 ∷ []) (found_by 2 4) (ends 3 ∷ []) (opened_by 4 4) []
    (number 4) refl refl (omega arith) refl refl (omega arith) (number 5) in
    omega arith

opened_swept : (shared : Bool) (script : Script) → IsSafeReferences shared script (opens 1 ∷ found_by 2 4 ∷ ends 3 ∷ sweeps 4 ∷ opened_by 5 4 ∷ []) → ⊥
opened_swept shared script safe =
    let none : ◌≡◌ {A = ℕ} 1 0 = safe.missed (number 5) (opens 1 ∷ []) (found_by 2 4) (ends 3 ∷ sweeps 4 ∷ [])
    (opened_by 5 4) [] (number 4) refl refl (omega arith) refl refl (omega arith) (number 5) in
    omega arith

-- a thread comes back twice
opened_again : (shared : Bool) (script : Script) → IsSafeReferences shared script (opens 1 ∷ found_by 2 4 ∷ opened_by 3 4 ∷ opened_by 4 4 ∷ []) → ⊥
opened_again shared script safe = let none = safe.holders.1.1.1.0 in omega arith

-- it dies while a thread is out on it that opens it later
died_early : (shared : Bool) (script : Script) → IsSafeReferences shared script (opens 1 ∷ found_by 2 4 ∷ ends 3 ∷ opened_by 4 4 ∷ []) → ⊥
died_early shared script safe =
    let zero = (safe.only (number 5) (opens 1 ∷ found_by 2 4 ∷ []) (ends 3) (opened_by 4 4 ∷ []) refl
    (omega arith)).1 in
    omega arith
