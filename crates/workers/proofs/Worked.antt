-- What a worker's draw and its return add to what it made.
use Rattle.std.proofs.Common.{◌≡◌, ◌≤◌, ◌∙◌, sym, ap, refl, arith, ℕ, ◌+◌, List, [], ◌∷◌, ◌++◌, Bool, true, false, Option, Some, None}
use Rattle.std.proofs.lemmas.List.{append-nil}
use Rattle.std.specs.Prelude.{if◌then◌else◌, option_map}
use Rattle.sym_base.specs.declared.number.ObjNo.{ObjNo}
use Rattle.script_types.specs.Source.{IsWellFormed}
use Rattle.entry_log.specs.declared.effect.Effect.{Effect}
use Rattle.entry_log.specs.declared.effect.Effect.TheVariants.{Seek}
use Rattle.entry_log.specs.declared.entry.Entry.{Entry}
use Rattle.machine.specs.History.{IsShared}
use Rattle.machine.specs.SharedRun.{is_return, slots_taken}
use Rattle.machine_safe.specs.FindsAndReturns.{finds_in, returns_in, times_found}
use Rattle.machine_safe.proofs.FindsCounted.{finds_in-append, returns_in-append}
use Rattle.count_rule.specs.Seats.{Note}
use Rattle.turn_lock.specs.declared.pass.Pass.{Pass}
use Rattle.turn_lock.specs.LockId.{LockId}
use Rattle.turn_lock.specs.Log.{entries_of}
use Rattle.turn_lock.specs.Passes.{caller_of, known_of, own_of, sight_of, IsFree}
use Rattle.kcore.specs.Finds.{found_in}
use Rattle.shared_kernel.specs.declared.answers.Drew.TheVariants as drew
use Rattle.shared_kernel.specs.declared.base.KernelBase.{KernelBase}
use Rattle.shared_kernel.specs.Draws.{DrewBy}
use Rattle.shared_kernel.specs.Returns.{GaveBackBy, IsFound}
use Rattle.shared_kernel.specs.Turned.{Turned}
use Rattle.shared_kernel.proofs.Turning.{turned-entries, turned-own}
use Rattle.workers.specs.Rested.{IsRested, IsThrough}
use Rattle.workers.proofs.FindsLittle.{last-finds}

-- what effects find tells how often they find
none-found : (effects : List Effect) → found_in effects ≡ None → times_found effects ≡ 0
none-found [] none = refl
none-found (Seek o ∷ rest) none = absurd (cc)
none-found (_ ∷ rest) none = let more = none-found rest none in omega arith

some-found : (effects : List Effect) (o : ObjNo) → found_in effects ≡ Some o → 1 ≤ times_found effects
some-found [] o some = absurd (cc)
some-found (Seek x ∷ rest) o some = omega arith
some-found (_ ∷ rest) o some = let more = some-found rest o some in omega arith

module _ {A B : Type 0} (f : A → B) where
  mapped-none : (r : Option A) → None ≡ option_map f r → r ≡ None
  mapped-none None is = refl
  mapped-none (Some x) is = absurd (cc)

  mapped-some : (r : Option A) (y : B) → Some y ≡ option_map f r → (x : A) × (r ≡ Some x)
  mapped-some None y is = absurd (cc)
  mapped-some (Some x) y is = (x, refl)

-- what comes behind the same front is the same
same-rest : (front one other : List Entry) → front ++ one ≡ front ++ other → one ≡ other
same-rest [] one other is = is
same-rest (e ∷ front) one other is = same-rest front one other (let rest : front ++ one ≡ front ++ other = cc in rest)

-- a caller's turn that adds an entry adds it to what the caller made
module _ (lock : LockId KernelBase) (old new : Pass KernelBase) (caller : caller_of new ≡ caller_of old)
    (Did : List Entry → List Entry → Type 0) (t : Turned (sight_of lock old) (sight_of lock new) Did) where
  gain-is : (e : Entry) → entries_of (known_of new) ≡ entries_of t.log ++ e ∷ [] → t.gain ≡ e ∷ []
  gain-is e longer = same-rest (entries_of t.log) t.gain (e ∷ []) (sym (turned-entries (sight_of lock old) (sight_of lock new) Did t) ∙ longer)

  own-more : (e : Entry) → entries_of (known_of new) ≡ entries_of t.log ++ e ∷ [] → own_of new ≡ own_of old ++ e ∷ []
  own-more e longer = turned-own lock old new Did caller t ∙ ap (λ (l : List Entry). own_of old ++ l) (gain-is e longer)

  returns-more : (e : Entry) → entries_of (known_of new) ≡ entries_of t.log ++ e ∷ []
      → returns_in (own_of new) ≡ returns_in (own_of old) + (if is_return e.step then 1 else 0)
  returns-more e longer = let all = ap returns_in (own-more e longer) ∙ returns_in-append (own_of old) (e ∷ []) in omega arith

  finds-more : (e : Entry) → entries_of (known_of new) ≡ entries_of t.log ++ e ∷ [] → finds_in (own_of new) ≡ finds_in (own_of old) + times_found e.effects
  finds-more e longer = let all = ap finds_in (own-more e longer) ∙ finds_in-append (own_of old) (e ∷ []) in omega arith

bit-none : (b : Bool) → b ≡ false → ◌≡◌ {A = ℕ} (if b then 1 else 0) 0
bit-none true is = absurd (cc)
bit-none false is = refl

bit-one : (b : Bool) → b ≡ true → ◌≡◌ {A = ℕ} (if b then 1 else 0) 1
bit-one true is = refl
bit-one false is = absurd (cc)

-- an entry that finds nothing leaves a worker rested
pub rested-entry : (lock : LockId KernelBase) (old new : Pass KernelBase) (place : ℕ) → IsRested lock old → IsFree lock new → caller_of new ≡ caller_of old
    → DrewBy lock.base (sight_of lock old) (sight_of lock new) (drew.Entry place) → IsRested lock new
rested-entry lock old new place rested free caller t =
    let made = t.did.2.made in
    let e = made.more.entry in
    let none : times_found e.effects ≡ 0 = none-found e.effects (mapped-none _ (found_in e.effects) made.note) in
    let bit = bit-none (is_return e.step) made.forth in
    let returns = returns-more lock old new caller _ t e made.more.longer in
    let finds = finds-more lock old new caller _ t e made.more.longer in
    let back = rested.back in
    record { valid = rested.valid; free = free; back = omega arith }

-- after a find one return is owed
pub rested-find : (lock : LockId KernelBase) (old new : Pass KernelBase) (place : ℕ) (thread : ObjNo) (ticket : Note)
    → IsRested lock old → caller_of new ≡ caller_of old → IsShared lock.base.script (entries_of (known_of new))
    → DrewBy lock.base (sight_of lock old) (sight_of lock new) (drew.Seek place thread ticket) → returns_in (own_of new) + 1 ≡ finds_in (own_of new)
rested-find lock old new place thread ticket rested caller legal t =
    let made = t.did.2.made in
    let e = made.more.entry in
    let found = mapped-some _ (found_in e.effects) ticket.slip made.note in
    let some : 1 ≤ times_found e.effects = some-found e.effects found.0 found.1 in
    let few = last-finds lock.base.script (entries_of t.log) (entries_of (known_of new)) e rested.valid legal made.more.longer in
    let bit = bit-none (is_return e.step) made.forth in
    let returns = returns-more lock old new caller _ t e made.more.longer in
    let finds = finds-more lock old new caller _ t e made.more.longer in
    let back = rested.back in
    omega arith

-- and its ticket is one that may be opened and given back
pub found-drawn : (lock : LockId KernelBase) (old new : Pass KernelBase) (place : ℕ) (thread : ObjNo) (ticket : Note)
    → DrewBy lock.base (sight_of lock old) (sight_of lock new) (drew.Seek place thread ticket) → IsFound lock.base (entries_of (known_of new)) thread ticket
found-drawn lock old new place thread ticket t = let find = t.did.2 in record { unopened = find.unopened; same_words = find.same_words; its = find.its }

-- which the return pays
pub rested-back : (lock : LockId KernelBase) (old new : Pass KernelBase) (thread : ObjNo) (place : ℕ)
    → IsWellFormed lock.base.script → returns_in (own_of old) + 1 ≡ finds_in (own_of old) → IsFree lock new
    → caller_of new ≡ caller_of old
    → IsShared lock.base.script (entries_of (known_of new)) → GaveBackBy lock.base (sight_of lock old) (sight_of lock new) thread place → IsRested lock new
rested-back lock old new thread place valid owed free caller legal t =
    let made = t.did.made in
    let e = made.more.entry in
    let few = last-finds lock.base.script (entries_of t.log) (entries_of (known_of new)) e valid legal made.more.longer in
    let bit = bit-one (is_return e.step) made.back in
    let returns = returns-more lock old new caller _ t e made.more.longer in
    let finds = finds-more lock old new caller _ t e made.more.longer in
    record { valid = valid; free = free; back = omega arith }

-- a worker that is told that no slot is left is through
pub through-none : (lock : LockId KernelBase) (old new : Pass KernelBase) (place : ℕ) → IsRested lock old → IsFree lock new → caller_of new ≡ caller_of old
    → DrewBy lock.base (sight_of lock old) (sight_of lock new) (drew.NoSlot place) → IsThrough lock new
through-none lock old new place rested free caller t =
    let none = t.did in
    let same : t.gain ≡ [] = same-rest (entries_of t.log) t.gain []
    (sym (turned-entries (sight_of lock old) (sight_of lock new) _ t) ∙ none.refuses.same
    ∙ sym (append-nil (entries_of t.log))) in
    let own : own_of new ≡ own_of old = turned-own lock old new _ caller t ∙ ap (λ (l : List Entry). own_of old ++ l) same ∙ append-nil (own_of old) in
    record {
      rested = record { valid = rested.valid; free = free; back = ap returns_in own ∙ rested.back ∙ sym (ap finds_in own) };
      none = ap slots_taken none.refuses.same ∙ none.none;
    }
