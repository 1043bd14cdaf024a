-- What is said of one reference an entry and of returns, tried on histories changed by hand.
use Rattle.std.proofs.Common.{◌≡◌, ℕ, List, [], ◌∷◌, arith, refl, None, true, false}
use Rattle.sym_base.specs.declared.number.ObjNo.{ObjNo}
use Rattle.sym_base.specs.declared.word.Word.TheVariants as word
use Rattle.entry_log.specs.declared.effect.Effect.{Effect}
use Rattle.entry_log.specs.declared.effect.Effect.TheVariants.{Minus, Seek}
use Rattle.entry_log.specs.declared.effect.Holder.TheVariants.{Temp}
use Rattle.entry_log.specs.declared.entry.Actor.TheVariants.{Thread}
use Rattle.entry_log.specs.declared.entry.Entry.{Entry}
use Rattle.entry_log.specs.declared.step.Part.{Part}
use Rattle.entry_log.specs.declared.step.Part.TheVariants as part
use Rattle.entry_log.specs.declared.step.Step.TheVariants.{Of}
use Rattle.machine_safe.specs.FindsAndReturns.{ComesBackNext}
use Rattle.machine_safe.specs.Losses.{TakesOneAway}

abbrev number : ℕ → ObjNo
number n = record { 0 = n }

-- an entry of thread 4, at this part of an `open`
abbrev opens : ℕ → Part → List Effect → Entry
opens place at effects = record { place = place; actor = Thread (number 4); step = Of word.Open at; effects = effects; answer = None }

-- two references go in one entry
two_go : TakesOneAway (opens 1 part.Do (Minus (Temp (number 4)) (number 5) ∷ Minus (Temp (number 4)) (number 6) ∷ []) ∷ []) → ⊥
two_go law = let few = law.once [] (opens 1 part.Do (Minus (Temp (number 4)) (number 5) ∷ Minus (Temp (number 4)) (number 6) ∷ [])) [] refl in omega arith

-- a return takes one away
return_takes : TakesOneAway (opens 1 part.Return (Minus (Temp (number 4)) (number 5) ∷ []) ∷ []) → ⊥
return_takes law = let none = law.none [] (opens 1 part.Return (Minus (Temp (number 4)) (number 5) ∷ [])) [] refl refl in omega arith

-- a thread that found something finds something else before it comes back, or goes on
finds_again : ComesBackNext (opens 1 part.Seek (Seek (number 5) ∷ []) ∷ opens 2 part.Seek (Seek (number 6) ∷ []) ∷ []) → ⊥
finds_again law = let back : false ≡ true = law [] _ [] _ [] (number 4) (number 5) refl refl (omega arith) refl refl in cc

goes_on : ComesBackNext (opens 1 part.Seek (Seek (number 5) ∷ []) ∷ opens 2 part.Do [] ∷ []) → ⊥
goes_on law = let back : false ≡ true = law [] _ [] _ [] (number 4) (number 5) refl refl (omega arith) refl refl in cc
