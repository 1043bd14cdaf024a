-- What a step that changes one view has to show, so that the rule holds after it, and what the rule says of the others.
use Rattle.std.proofs.Common.{◌≡◌, ◌≢◌, ℕ, ◌+◌, ◌%◌, ◌^◌, ◌≤◌, eqb, List, [], ◌∷◌, ◌++◌, set, sym, refl, ap, ◌∙◌, subst, ⊎_elim, arith}
use Rattle.std.specs.Prelude.{Option}
use mathlib.Core.Logic.{dite}
use mathlib.Core.Option.{Option as Home, some, some-injective}
use native.Mathlib.Decide.{ℕ_discrete}
use lib.ListN.{get_elem?}
use Rattle.atomic_table.specs.Table.{State}
use Rattle.atomic_table.proofs.Lists.{at_set}
use Rattle.entry_log.specs.declared.entry.Entry.{Entry}
use Rattle.turn_lock.specs.declared.view.Logged.{Logged}
use Rattle.turn_lock.specs.declared.view.Sight.{Sight}
use Rattle.turn_lock.specs.declared.view.View.{View}
use Rattle.turn_lock.specs.declared.view.View.TheVariants.{Free, Drawn, Up, Holding, Lent, Left}
use Rattle.turn_lock.specs.Log.{entries_of, made_by, under, MadeBelow}
use Rattle.turn_lock.specs.Views.{sights}
use Rattle.turn_lock.specs.Weights.{total, one_if, callers_in, times_of, is_drawn, has_ticket, keeps_slot}
use Rattle.turn_lock.specs.Rule.{Each, Knows, IsThere, Fits, Kept}
use Rattle.std.proofs.lemmas.List.{append-nil}
use Rattle.turn_lock.proofs.Logs.{begins_on, begins_longer, made_by-append, made_by-under_other}
use Rattle.turn_lock.proofs.Totals.{one_if-other, one_if-same, total_set, total_at, total_two, total_none, total_le}

pub each_append : {A : Type 0} (P : A → Type 0) (xs ys : List A) → Each P xs → Each P ys → Each P (xs ++ ys)
each_append P [] ys a b = b
each_append P (x ∷ xs) ys a b = (a.0, each_append P xs ys a.1 b)

module _ {B : Type 0} where
  -- two views know for the same callers
  pub record SameCallers (v w : View B) : Type 0 where
    pub count : callers_in w ≡ callers_in v
    pub times : (caller : ℕ) → times_of caller w ≡ times_of caller v

  pub fewer_drawn : (v : View B) → is_drawn v ≤ callers_in v
  fewer_drawn (Free all) = omega arith
  fewer_drawn _ = omega arith

module _ {V B : Type 0} where
  module _ (entries : V → List Entry) (base_in : V → B) (base : B) (count : ℕ) where
    abbrev St : Type 0
    St = State (Option V) (View B)

    abbrev Rule : St → Type 0
    Rule = Kept entries base_in base count

    abbrev FitsAt : List (Home (Option V)) → List Logged → ℕ → ℕ → View B → Type 0
    FitsAt = Fits entries base_in base count

    -- a caller knows still what it knew once others made entries
    knows_longer : (log : List Logged) (n : ℕ) (es : List Entry) (a : Sight B) → a.caller ≢ n
        → Knows entries base_in base count log a → Knows entries base_in base count (log ++ under n es) a
    knows_longer log n es a other k = record {
      base_is = k.base_is;
      passes_are = k.passes_are;
      numbered = k.numbered;
      known = begins_on a.known log (log ++ under n es) k.known (begins_longer log (under n es));
      own =
          made_by-append a.caller log (under n es)
          ∙ (ap (λ l. made_by a.caller log ++ l) (made_by-under_other a.caller n es other)
          ∙ (append-nil (made_by a.caller log) ∙ k.own));
    }

    pub each_longer : (log : List Logged) (n : ℕ) (es : List Entry) (ss : List (Sight B)) → total (λ a. one_if (eqb a.caller n)) ss ≡ 0
        → Each (Knows entries base_in base count log) ss → Each (Knows entries base_in base count (log ++ under n es)) ss
    each_longer log n es [] unnamed k = tt
    each_longer log n es (a ∷ ss) unnamed k =
        (knows_longer log n es a (λ e. (let h = one_if-same a.caller n e in omega arith)) k.0, each_longer log n es ss (omega arith) k.1)

    -- at most sixteen numbers are out
    pub few_out : (s : St) (r : Rule s) → r.next ≤ r.serving + 16
    few_out s r = let a = total_le is_drawn callers_in fewer_drawn s.views in let b = r.known_for in let c = r.few in let d = r.drawn in omega arith

    -- the state once one view has changed
    pub changed : (s : St) (r : Rule s) (id : ℕ) (v w : View B) → get_elem? s.views id ≡ some v
        → (words : List ℕ) (homes : List (Home (Option V))) (log : List Logged) (next serving : ℕ)
        → words ≡ next % 2 ^ 64 ∷ serving % 2 ^ 64 ∷ [] → SameCallers v w
        → ((ticket : ℕ) → total (has_ticket ticket) (set s.views id w) ≤ 1)
        → serving + total is_drawn (set s.views id w) ≡ next
        → (total keeps_slot (set s.views id w) ≡ 0 → IsThere entries base_in base count homes (entries_of log))
        → FitsAt homes log next serving w
        → ((j : ℕ) (u : View B) → j ≢ id → get_elem? s.views j ≡ some u → FitsAt homes log next serving u)
        → MadeBelow count log
        → Rule record { words = words; homes = homes; views = set s.views id w }
    changed s r id v w at words homes log next serving spell same apart drawn there mine others made = record {
      log = log;
      next = next;
      serving = serving;
      few = r.few;
      words = spell;
      known_for = (let t = total_set callers_in s.views id v w at in let c = same.count in let k = r.known_for in omega arith);
      once = λ caller. (let t = total_set (times_of caller) s.views id v w at in let c = same.times caller in let k = r.once caller in omega arith);
      apart = apart;
      drawn = drawn;
      there = there;
      each =
          λ j u e. ⊎_elim (λ (t : (j ≡ id) × (w ≡ u)). subst (FitsAt homes log next serving) t.1 mine)
          (λ (t : (j ≢ id) × (get_elem? s.views j ≡ some u)). others j u t.0 t.1)
          (at_set s.views id j w u e);
      made = made;
    }

    -- where one view's number has its turn, no other view has that number
    pub others_wait : (s : St) (r : Rule s) (id : ℕ) (v : View B) → get_elem? s.views id ≡ some v → has_ticket r.serving v ≡ 1
        → (j : ℕ) (u : View B) → j ≢ id → get_elem? s.views j ≡ some u → has_ticket r.serving u ≡ 0
    others_wait s r id v at mine j u n e = let t = total_two (has_ticket r.serving) s.views id j v u n at e in let a = r.apart r.serving in omega arith

    -- a view whose number doesn't have its turn doesn't keep the slot
    pub slot_elsewhere : (homes : List (Home (Option V))) (log : List Logged) (next serving : ℕ) (u : View B)
        → FitsAt homes log next serving u → has_ticket serving u ≡ 0 → keeps_slot u ≡ 0
    slot_elsewhere homes log next serving (Free all) f h = refl
    slot_elsewhere homes log next serving (Drawn x a) f h = refl
    slot_elsewhere homes log next serving (Up x a) f h = refl
    slot_elsewhere homes log next serving (Holding x a) f h = let e = one_if-same x serving f.stands.0.turn in absurd (omega arith)
    slot_elsewhere homes log next serving (Lent x a) f h = let e = one_if-same x serving f.stands.0.turn in absurd (omega arith)
    slot_elsewhere homes log next serving (Left x a gain) f h = let e = one_if-same x serving f.stands.0.turn in absurd (omega arith)

    -- a view fits still once a further number is drawn
    pub fits_later : (homes : List (Home (Option V))) (log : List Logged) (next serving : ℕ) (u : View B)
        → FitsAt homes log next serving u → FitsAt homes log (next + 1) serving u
    fits_later homes log next serving (Free all) f = record { knows = f.knows; stands = tt }
    fits_later homes log next serving (Drawn x a) f = let s = f.stands in record { knows = f.knows; stands = (s.0, omega (arith, s.1)) }
    fits_later homes log next serving (Up x a) f = record { knows = f.knows; stands = f.stands }
    fits_later homes log next serving (Holding x a) f = record { knows = f.knows; stands = f.stands }
    fits_later homes log next serving (Lent x a) f = record { knows = f.knows; stands = f.stands }
    fits_later homes log next serving (Left x a gain) f = record { knows = f.knows; stands = f.stands }

    -- a view whose number doesn't have its turn fits still, whatever the slot is, if what it knows does, also where the next number has its turn
    pub fits_aside : (homes homes' : List (Home (Option V))) (log log' : List Logged) (next serving serving' : ℕ)
        (u : View B) → FitsAt homes log next serving u → has_ticket serving u ≡ 0
        → serving' ≤ serving + 1 → Each (Knows entries base_in base count log') (sights u) → FitsAt homes' log' next serving' u
    fits_aside homes homes' log log' next serving serving' (Free all) f h up k = record { knows = k; stands = tt }
    fits_aside homes homes' log log' next serving serving' (Drawn x a) f h up k = let s = f.stands in
        let apart : x ≢ serving = λ e. (let z = one_if-same x serving e in omega arith) in record { knows = k; stands = (omega (arith, s.0), s.1) }
    fits_aside homes homes' log log' next serving serving' (Up x a) f h up k = let e = one_if-same x serving f.stands.0.turn in absurd (omega arith)
    fits_aside homes homes' log log' next serving serving' (Holding x a) f h up k = let e = one_if-same x serving f.stands.0.turn in absurd (omega arith)
    fits_aside homes homes' log log' next serving serving' (Lent x a) f h up k = let e = one_if-same x serving f.stands.0.turn in absurd (omega arith)
    fits_aside homes homes' log log' next serving serving' (Left x a gain) f h up k = let e = one_if-same x serving f.stands.0.turn in absurd (omega arith)

    -- no view has the number yet that is drawn next
    pub next_unused : (s : St) (r : Rule s) → total (has_ticket r.next) s.views ≡ 0
    next_unused s r = total_none (has_ticket r.next) s.views (λ j u e. unused u (r.each j u e) (total_at is_drawn s.views j u e))
      where
        turn_below : (x : ℕ) → x ≡ r.serving → 1 ≤ total is_drawn s.views → one_if (eqb x r.next) ≡ 0
        turn_below x e d = let k = r.drawn in one_if-other x r.next (λ z. omega arith)

        unused : (u : View B) → FitsAt s.homes r.log r.next r.serving u → is_drawn u ≤ total is_drawn s.views → has_ticket r.next u ≡ 0
        unused (Free all) f d = refl
        unused (Drawn x a) f d = let b = f.stands in one_if-other x r.next (λ z. omega (arith, b.1))
        unused (Up x a) f d = turn_below x f.stands.0.turn d
        unused (Holding x a) f d = turn_below x f.stands.0.turn d
        unused (Lent x a) f d = turn_below x f.stands.0.turn d
        unused (Left x a gain) f d = turn_below x f.stands.0.turn d

    -- whose number has its turn, and who doesn't keep the slot, finds the value in it
    pub there_in_turn : (s : St) (r : Rule s) (id : ℕ) (v : View B) → get_elem? s.views id ≡ some v → has_ticket r.serving v ≡ 1 → keeps_slot v ≡ 0
        → IsThere entries base_in base count s.homes (entries_of r.log)
    there_in_turn s r id v at mine none_kept = r.there (total_none keeps_slot s.views (λ j u e. dite (ℕ_discrete j id)
        (λ same. (let z : v ≡ u = some-injective v u (sym at ∙ (ap (λ i. get_elem? s.views i) (sym same) ∙ e)) in sym (ap keeps_slot z) ∙ none_kept))
        (λ other. slot_elsewhere s.homes r.log r.next r.serving u (r.each j u e) (others_wait s r id v at mine j u other e))))
