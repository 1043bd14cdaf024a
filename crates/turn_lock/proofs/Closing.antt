-- Once all passes are put together, the value is in its slot, and what they know fits the whole log.
use Rattle.std.proofs.Common.{◌≡◌, ℕ, zero, suc, ◌<◌, ◌≤◌, eqb, List, [], ◌∷◌, map, length, get_or, sym, refl, ap, ◌∙◌, subst, arith}
use Rattle.std.specs.Prelude.{Option, Some, All, Contains}
use Rattle.std.proofs.lemmas.List.Elements.{All-nil, All-cons, All-weaker}
use mathlib.Core.Logic.{dite}
use mathlib.Core.Option.{Option as Home, some, some-injective}
use native.Mathlib.Decide.{ℕ_discrete}
use lib.ListN.{get_elem?}
use Rattle.atomic_table.specs.Table.{State, Final, Seen}
use Rattle.entry_log.specs.declared.entry.Entry.{Entry}
use Rattle.turn_lock.specs.declared.view.Logged.{Logged}
use Rattle.turn_lock.specs.declared.view.Sight.{Sight}
use Rattle.turn_lock.specs.declared.view.View.{View}
use Rattle.turn_lock.specs.declared.view.View.TheVariants.{Free, Drawn, Up, Holding, Lent, Left}
use Rattle.turn_lock.specs.declared.pass.Pass.{Pass}
use Rattle.turn_lock.specs.Log.{Begins, entries_of, made_by}
use Rattle.turn_lock.specs.LockId.{LockId}
use Rattle.turn_lock.specs.Steps.{Mine}
use Rattle.turn_lock.specs.Passes.{caller_of, known_of, own_of, sight_of, IsWhole}
use Rattle.turn_lock.specs.Weights.{total, one_if, times_of, keeps_slot}
use Rattle.turn_lock.specs.Rule.{Each, Knows, IsThere, Fits, Kept}
use Rattle.turn_lock.proofs.Totals.{one_if-same, total_two, total_none}

module _ {B : Type 0} where
  -- a caller that is among the passes' callers is known for
  pub among : (lock : LockId B) (ps : List (Pass B)) (caller i : ℕ) → i < length (map caller_of ps) → get_or (map caller_of ps) i caller ≡ caller
      → 1 ≤ total (λ a. one_if (eqb a.caller caller)) (map (sight_of lock) ps)
  among lock [] caller i h e = absurd (omega arith)
  among lock (p ∷ ps) caller zero h e = let a = one_if-same (caller_of p) caller e in omega arith
  among lock (p ∷ ps) caller (suc i) h e = let a = among lock ps caller i (omega arith) e in omega arith

pub all_mapped : {A C : Type 0} (g : A → C) (P : C → Type 0) (Q : A → Type 0) → ((x : A) → P (g x) → Q x) → (xs : List A) → Each P (map g xs) → All Q xs
all_mapped g P Q f [] e = All-nil Q
all_mapped g P Q f (x ∷ xs) e = All-cons Q x xs (f x e.0) (all_mapped g P Q f xs e.1)

module _ {V B : Type 0} (entries : V → List Entry) (base_in : V → B) (base : B) (count : ℕ) where
  abbrev St : Type 0
  St = State (Option V) (View B)

  abbrev Rule : St → Type 0
  Rule = Kept entries base_in base count

  -- a view that knows for none of the callers doesn't keep the slot
  keeps_none : (s : St) (r : Rule s) (u : View B) → Fits entries base_in base count s.homes r.log r.next r.serving u
      → ((caller : ℕ) → caller < count → times_of caller u ≡ 0) → keeps_slot u ≡ 0
  keeps_none s r (Holding x a) f h = let z = h a.caller f.knows.0.numbered in let o = one_if-same a.caller a.caller refl in absurd (omega arith)
  keeps_none s r (Lent x a) f h = let z = h a.caller f.knows.0.numbered in let o = one_if-same a.caller a.caller refl in absurd (omega arith)
  keeps_none s r (Left x a gain) f h = let z = h a.caller f.knows.0.numbered in let o = one_if-same a.caller a.caller refl in absurd (omega arith)
  keeps_none s r _ f h = refl

  -- where one view knows for all callers, the value is in the slot
  pub there_at_last : (s : St) (r : Rule s) (id : ℕ) (all : List (Sight B)) → get_elem? s.views id ≡ some (Free all)
      → ((caller : ℕ) → caller < count → 1 ≤ times_of caller (Free all))
      → IsThere entries base_in base count s.homes (entries_of r.log)
  there_at_last s r id all at covers = r.there (total_none keeps_slot s.views (λ j u e. dite (ℕ_discrete j id)
      (λ same. ap keeps_slot (some-injective u (Free all) (sym e ∙ (ap (λ i. get_elem? s.views i) same ∙ at))))
      (λ other. keeps_none s r u (r.each j u e)
      (λ caller low. (let t = total_two (times_of caller) s.views id j (Free all) u other at e in
      let o = r.once caller in let c = covers caller low in omega arith)))))

  -- what the passes know fits the whole log
  pub whole_at_last : (lock : LockId B) (s : St) (r : Rule s) (id : ℕ) (ps : List (Pass B))
      → get_elem? s.views id ≡ some (Free (map (sight_of lock) ps))
      → ((caller : ℕ) → caller < count → Contains (map caller_of ps) caller)
      → IsWhole ps r.log
  whole_at_last lock s r id ps at all = let knows = (r.each id (Free (map (sight_of lock) ps)) at).knows in record {
    begins = all_mapped (sight_of lock) (Knows entries base_in base count r.log) (λ p. Begins (known_of p) r.log) (λ p k. k.known) ps knows;
    own = all_mapped (sight_of lock) (Knows entries base_in base count r.log) (λ p. made_by (caller_of p) r.log ≡ own_of p) (λ p k. k.own) ps knows;
    callers = All-weaker (λ x. x.caller < count) (λ x. Contains (map caller_of ps) x.caller) (λ x low. all x.caller low) r.log r.made;
  }

  -- what is in the slot once the lock is closed
  pub record Came (lock : LockId B) (ps : List (Pass B)) (slot : Option V) : Type 0 where
    pub value : V
    pub slot_is : slot ≡ Some value
    pub base_is : base_in value ≡ lock.base
    pub log : List Logged
    pub list : entries value ≡ entries_of log
    pub whole : IsWhole ps log

  pub came : (lock : LockId B) → lock.base ≡ base → lock.passes ≡ count → (ps : List (Pass B)) (id : ℕ) (me : Mine V B)
      → me ≡ (Free (map (sight_of lock) ps), [])
      → ((caller : ℕ) → caller < lock.passes → Contains (map caller_of ps) caller)
      → (words : List ℕ) (slots : List (Option V)) → Final (Seen Rule id me.0) words slots
      → (slot : Option V) → get_elem? slots 0 ≡ some slot → Came lock ps slot
  came lock b n ps id me e all words slots final slot found =
      let s : St = final.0 in let r : Rule s = final.1.0 in
      let view : me.0 ≡ Free (map (sight_of lock) ps) = ap (λ (m : Mine V B). m.0) e in
      let at : get_elem? s.views id ≡ some (Free (map (sight_of lock) ps)) = final.1.1 ∙ ap some view in
      let every = λ (caller : ℕ) (low : caller < count). all caller (subst (λ (k : ℕ). caller < k) (sym n) low) in
      let there = there_at_last s r id (map (sight_of lock) ps) at (λ caller low. (let m = every caller low in among lock ps caller m.0 m.1 m.2)) in
      let home : get_elem? s.homes 0 ≡ some (some (Some there.value)) = ap (λ (h : List (Home (Option V))). get_elem? h 0) there.slot in record {
        value = there.value;
        slot_is = some-injective slot (Some there.value) (sym found ∙ final.4 0 (Some there.value) home);
        base_is = there.base_is ∙ sym b;
        log = r.log;
        list = there.list;
        whole = whole_at_last lock s r id ps at every;
      }
