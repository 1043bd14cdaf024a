-- The lock at its start, and each kind of step that shares what passes know, keep the rule.
use Rattle.std.proofs.Common.{◌≡◌, ◌≢◌, ℕ, zero, suc, ◌+◌, ◌<◌, ◌≤◌, eqb, List, [], ◌∷◌, ◌++◌, length, set, sym, refl, ap, ◌∙◌, subst, ⊎_elim, length-append, arith}
use Rattle.std.specs.Prelude.{Option, Some}
use Rattle.std.proofs.lemmas.List.Elements.{All-nil}
use mathlib.Core.Logic.{dite}
use mathlib.Core.Option.{some, some-ne-none}
use native.Mathlib.Decide.{ℕ_discrete}
use lib.ListN.{get_elem?}
use Rattle.atomic_table.specs.Table.{State, keeps, Allows, Splits, Joins, opening}
use Rattle.atomic_table.proofs.Lists.{at_set, at_snoc}
use Rattle.entry_log.specs.declared.entry.Entry.{Entry}
use Rattle.turn_lock.specs.declared.view.Logged.{Logged}
use Rattle.turn_lock.specs.declared.view.Sight.{Sight}
use Rattle.turn_lock.specs.declared.view.View.{View}
use Rattle.turn_lock.specs.declared.view.View.TheVariants.{Free}
use Rattle.turn_lock.specs.Log.{longer, MadeBelow}
use Rattle.turn_lock.specs.Views.{sight, newcomers}
use Rattle.turn_lock.specs.Weights.{total, one_if, callers_in, times_of, is_drawn, has_ticket, keeps_slot}
use Rattle.turn_lock.specs.Rule.{Each, Knows, Fits, Kept}
use Rattle.turn_lock.specs.Shares.{first_of, others_of, both_of, spent}
use Rattle.turn_lock.specs.Steps.{Mine, Met, met}
use Rattle.turn_lock.proofs.Logs.{begins_itself, made_between, made_before, longer_begins}
use Rattle.turn_lock.proofs.Totals.{one_if-other, one_if-same, total_set, total_append}
use Rattle.turn_lock.proofs.Keeping.{each_append}
use Rattle.turn_lock.proofs.Turning.{still}

-- the totals of a list in which one view is cut in two, or two are joined
module _ {B : Type 0} (f : View B → ℕ) (views : List (View B)) where
  total_split : (id : ℕ) (v left right : View B) → get_elem? views id ≡ some v → f left + f right ≡ f v
      → total f (set views id left ++ right ∷ []) ≡ total f views
  total_split id v left right at e = let a = total_append f (set views id left) (right ∷ []) in let t = total_set f views id v left at in omega arith

  total_join : (id other : ℕ) (v w both gone : View B) → get_elem? views id ≡ some v
      → get_elem? (set views id both) other ≡ some w → f both ≡ f v + f w → f gone ≡ 0
      → total f (set (set views id both) other gone) ≡ total f views
  total_join id other v w both gone at there e z =
      let a = total_set f views id v both at in
      let b = total_set f (set views id both) other w gone there in
      omega arith

module _ {B : Type 0} where
  pub length-newcomers : (base : B) (passes from n : ℕ) → length (newcomers base passes from n) ≡ n
  length-newcomers base passes from zero = refl
  length-newcomers base passes from (suc n) = ap suc (length-newcomers base passes (from + 1) n)

  below_newcomers : (base : B) (passes caller from n : ℕ) → caller < from → total (λ a. one_if (eqb a.caller caller)) (newcomers base passes from n) ≡ 0
  below_newcomers base passes caller from zero h = refl
  below_newcomers base passes caller from (suc n) h =
      let a = one_if-other from caller (λ e. omega arith) in
      let b = below_newcomers base passes caller (from + 1) n (omega arith) in
      omega arith

  newcomers_once : (base : B) (passes caller from n : ℕ) → total (λ a. one_if (eqb a.caller caller)) (newcomers base passes from n) ≤ 1
  newcomers_once base passes caller from zero = omega arith
  newcomers_once base passes caller from (suc n) = dite (ℕ_discrete from caller)
      (λ e. (let a = one_if-same from caller e in let b = below_newcomers base passes caller (from + 1) n (omega arith) in omega arith))
      (λ e. (let a = one_if-other from caller e in let b = newcomers_once base passes caller (from + 1) n in omega arith))

module _ {V B : Type 0} (entries : V → List Entry) (base_in : V → B) (base : B) (count : ℕ) where
  abbrev St : Type 0
  St = State (Option V) (View B)

  abbrev Rule : St → Type 0
  Rule = Kept entries base_in base count

  abbrev Known : List Logged → List (Sight B) → Type 0
  Known log = Each (Knows entries base_in base count log)

  newcomers_know : (from n : ℕ) → from + n ≤ count → Known [] (newcomers base count from n)
  newcomers_know from zero h = tt
  newcomers_know from (suc n) h = (
    record { base_is = refl; passes_are = refl; numbered = omega arith; known = begins_itself []; own = refl },
    newcomers_know (from + 1) n (omega arith),
  )

  pub splits : (id : ℕ) (a : Sight B) (all : List (Sight B)) → Splits Rule id (Free (a ∷ all)) (Free (a ∷ [])) (Free all)
  splits id a all s r at = let v : View B = Free (a ∷ all) in let left : View B = Free (a ∷ []) in let right : View B = Free all in
      let tickets = λ (ticket : ℕ). total_split (has_ticket ticket) s.views id v left right at refl in let fits = r.each id v at in record {
        log = r.log;
        next = r.next;
        serving = r.serving;
        few = r.few;
        words = r.words;
        known_for = total_split callers_in s.views id v left right at (omega arith) ∙ r.known_for;
        once = λ caller. (let t = total_split (times_of caller) s.views id v left right at (omega arith) in let o = r.once caller in omega arith);
        apart = λ ticket. (let t = tickets ticket in let o = r.apart ticket in omega arith);
        drawn = (let t = total_split is_drawn s.views id v left right at refl in let d = r.drawn in omega arith);
        there = λ none_kept. r.there (let t = total_split keeps_slot s.views id v left right at refl in omega arith);
        each = λ j u e. ⊎_elim
            (λ (h : get_elem? (set s.views id left) j ≡ some u). ⊎_elim
            (λ (t : (j ≡ id) × (left ≡ u)). subst (Fits entries base_in base count s.homes r.log r.next r.serving) t.1
            (record { knows = (fits.knows.0, tt); stands = tt }))
            (λ (t : (j ≢ id) × (get_elem? s.views j ≡ some u)). r.each j u t.1) (at_set s.views id j left u h))
            (λ (h : right ≡ u). subst (Fits entries base_in base count s.homes r.log r.next r.serving) h (record { knows = fits.knows.1; stands = tt }))
            (at_snoc (set s.views id left) right u j e);
        made = r.made;
      }

  pub joins : (id other : ℕ) (one all : List (Sight B)) → Joins Rule id (Free one) other (Free all) (Free (one ++ all)) (Free [])
  joins id other one all s r at apart there =
      let v : View B = Free one in
      let w : View B = Free all in
      let both : View B = Free (one ++ all) in
      let gone : View B = Free [] in
      let FitsNow : View B → Type 0 = Fits entries base_in base count s.homes r.log r.next r.serving in
      let second : FitsNow w = ⊎_elim (λ (t : (other ≡ id) × (both ≡ w)). absurd (apart t.0))
      (λ (t : (other ≢ id) × (get_elem? s.views other ≡ some w)). r.each other w t.1)
      (at_set s.views id other both w there) in
      record {
        log = r.log;
        next = r.next;
        serving = r.serving;
        few = r.few;
        words = r.words;
        known_for = total_join callers_in s.views id other v w both gone at there (length-append one all) refl ∙ r.known_for;
        once =
            λ caller. (let t = total_join (times_of caller) s.views id other v w both gone at there
            (total_append (λ a. one_if (eqb a.caller caller)) one all) refl in let o = r.once caller in omega arith);
        apart = λ ticket. (let t = total_join (has_ticket ticket) s.views id other v w both gone at there refl refl in let o = r.apart ticket in omega arith);
        drawn = (let t = total_join is_drawn s.views id other v w both gone at there refl refl in let d = r.drawn in omega arith);
        there = λ none_kept. r.there (let t = total_join keeps_slot s.views id other v w both gone at there refl refl in omega arith);
        each = λ j u e. ⊎_elim (λ (t : (j ≡ other) × (gone ≡ u)). subst FitsNow t.1 (record { knows = tt; stands = tt }))
            (λ (t : (j ≢ other) × (get_elem? (set s.views id both) j ≡ some u)). ⊎_elim
            (λ (h : (j ≡ id) × (both ≡ u)). subst FitsNow h.1
            (record {
              knows = each_append (Knows entries base_in base count r.log) one all
                  (r.each id v at).knows second.knows;
              stands = tt;
            }))
            (λ (h : (j ≢ id) × (get_elem? s.views j ≡ some u)). r.each j u h.1) (at_set s.views id j both u t.1))
            (at_set (set s.views id both) other j spent u e);
        made = r.made;
      }

  pub opens : (value : V) → base_in value ≡ base → entries value ≡ [] → count ≤ 16
      → Rule (opening (0 ∷ 0 ∷ []) (Some value ∷ []) (Free (newcomers base count 0 count)))
  opens value base_is list few = let v : View B = Free (newcomers base count 0 count) in record {
    log = [];
    next = 0;
    serving = 0;
    few = few;
    words = refl;
    known_for = (let l = length-newcomers base count 0 count in omega arith);
    once = λ caller. (let o = newcomers_once base count caller 0 count in omega arith);
    apart = λ ticket. omega arith;
    drawn = refl;
    there = λ _. record { value = value; slot = refl; list = list; base_is = base_is };
    each = λ j u e. ⊎_elim (λ (h : get_elem? [] j ≡ some u). absurd (some-ne-none u (sym h)))
        (λ (h : v ≡ u). subst (Fits entries base_in base count (some (Some value) ∷ []) [] 0 0) h
        (record { knows = newcomers_know 0 count (omega arith); stands = tt })) (at_snoc [] v u j e);
    made = All-nil (λ x. x.caller < count);
  }

  knows_longer_of : (log : List Logged) (a b : Sight B) → MadeBelow count log → Knows entries base_in base count log a → Knows entries base_in base count log b
      → Met a b × Knows entries base_in base count log (sight a.base a.passes a.caller (longer a.known b.known))
      × Knows entries base_in base count log (sight b.base b.passes b.caller (longer a.known b.known))
  knows_longer_of log a b made k l = let long = longer_begins a.known b.known log k.known l.known in
      let mine = made_between a.caller a.known (longer a.known b.known) log long.0 long.2 k.own in
      let theirs = made_between b.caller b.known (longer a.known b.known) log long.1 long.2 l.own in (
        record {
          one = long.0;
          other = long.1;
          one_own = mine;
          other_own = theirs;
          made =
              subst (λ n. MadeBelow n (longer a.known b.known)) (sym k.passes_are)
              (made_before count (longer a.known b.known) log long.2 made);
        },
        record { base_is = k.base_is; passes_are = k.passes_are; numbered = k.numbered; known = long.2; own = k.own ∙ sym mine },
        record { base_is = l.base_is; passes_are = l.passes_are; numbered = l.numbered; known = long.2; own = l.own ∙ sym theirs },
      )

  of_two : (a b c d : Sight B) → Free (a ∷ b ∷ []) ≡ Free (c ∷ d ∷ []) → (a ≡ c) × (b ≡ d)
  of_two a b c d e = (cc, cc)

  pub meets : (slots id : ℕ) (a b : Sight B) → Allows Rule slots id (Free (a ∷ b ∷ []), []) 1 (λ n. n) (met (Free (a ∷ b ∷ []), []))
  meets slots id a b s r _ at _ = let knows = (r.each id (Free (a ∷ b ∷ [])) at).knows in let both = knows_longer_of r.log a b r.made knows.0 knows.1.0 in (
    Free (sight a.base a.passes a.caller (longer a.known b.known) ∷ sight b.base b.passes b.caller (longer a.known b.known) ∷ []),
    keeps,
    tt,
    still entries base_in base count s r id (Free (a ∷ b ∷ []))
        (Free (sight a.base a.passes a.caller (longer a.known b.known) ∷ sight b.base b.passes b.caller
        (longer a.known b.known) ∷ [])) at
        (record { count = refl; times = λ _. refl }) (λ _. refl) refl refl (record { knows = (both.1, (both.2, tt)); stands = tt }),
    λ c d same. let e = of_two a b c d (ap (λ (m : Mine V B). m.0) same) in
        subst (λ (z : Sight B × Sight B). Met z.0 z.1
        × (◌≡◌ {A = Mine V B} (
          Free (sight a.base a.passes a.caller
              (longer a.known b.known) ∷ sight b.base b.passes b.caller (longer a.known b.known) ∷ []),
          [],
        ) (
          Free (sight z.0.base z.0.passes z.0.caller (longer z.0.known z.1.known) ∷ sight z.1.base z.1.passes z.1.caller
              (longer z.0.known z.1.known) ∷ []),
          [],
        ))) (λ i. (e.0 i, e.1 i)) (both.0, refl),
  )

  -- the same, for a pass that is known to be in no turn
  pub meets_at : (slots id : ℕ) (me : Mine V B) (a b : Sight B) → me ≡ (Free (a ∷ b ∷ []), []) → Allows Rule slots id me 1 (λ n. n) (met me)
  meets_at slots id me a b e = subst (λ (m : Mine V B). Allows Rule slots id m 1 (λ n. n) (met m)) (sym e) (meets slots id a b)

  pub splits_at : (id : ℕ) (me : Mine V B) (a : Sight B) (all : List (Sight B)) → me ≡ (Free (a ∷ all), [])
      → Splits Rule id me.0 (first_of me.0) (others_of me.0)
  splits_at id me a all e = subst (λ (m : Mine V B). Splits Rule id m.0 (first_of m.0) (others_of m.0)) (sym e) (splits id a all)

  pub joins_at : (id : ℕ) (me : Mine V B) (other : ℕ) (them : Mine V B) (one all : List (Sight B)) → me ≡ (Free one, []) → them ≡ (Free all, [])
      → Joins Rule id me.0 other them.0 (both_of me.0 them.0) spent
  joins_at id me other them one all e f =
      subst (λ (m : Mine V B × Mine V B). Joins Rule id m.0.0 other m.1.0 (both_of m.0.0 m.1.0) spent)
      (λ i. (sym e i, sym f i)) (joins id other one all)
