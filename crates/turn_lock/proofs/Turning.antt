-- Each kind of step on a turn keeps the rule.
use Rattle.std.proofs.Common.{◌≡◌, ◌≢◌, ℕ, ◌+◌, ◌%◌, ◌^◌, List, [], ◌∷◌, ◌++◌, get_or, set, sym, refl, ap, ◌∙◌, subst, arith}
use Rattle.std.specs.Prelude.{Option, Some, None}
use mathlib.Core.Logic.{dite}
use mathlib.Core.Option.{Option as Home, none, some}
use native.Mathlib.Decide.{ℕ_discrete}
use lib.ListN.{get_elem?}
use Rattle.atomic_table.specs.Table.{State, keeps, takes, gives, Allows}
use Rattle.atomic_table.proofs.Lists.{one_turn}
use Rattle.entry_log.specs.declared.entry.Entry.{Entry}
use Rattle.turn_lock.specs.declared.view.Logged.{Logged}
use Rattle.turn_lock.specs.declared.view.Sight.{Sight}
use Rattle.turn_lock.specs.declared.view.View.{View}
use Rattle.turn_lock.specs.declared.view.View.TheVariants.{Free, Drawn, Up, Holding, Lent, Left}
use Rattle.turn_lock.specs.Log.{entries_of, made_by, under, MadeBelow}
use Rattle.turn_lock.specs.Views.{sight, sights}
use Rattle.turn_lock.specs.Weights.{total, times_of, is_drawn, has_ticket, keeps_slot}
use Rattle.turn_lock.specs.Rule.{Knows, Fits, Kept}
use Rattle.turn_lock.specs.Steps.{KnowsMore, Mine, drew, looked, took, lent, retook, gave_back, published}
use Rattle.std.proofs.lemmas.List.{append-nil, append_cancel_left}
use Rattle.turn_lock.proofs.Logs.{begins_itself, entries_of-append, entries_of-under, made_more}
use Rattle.turn_lock.proofs.Totals.{one_if-other, one_if-same, total_set, total_at, total_two}
use Rattle.turn_lock.proofs.Keeping.{SameCallers, few_out, changed, others_wait, fits_later, fits_aside, next_unused, there_in_turn, each_longer}

module _ {B : Type 0} where
  -- what holds of the number and the caller of one view holds of those of an equal one
  both_same : (P : ℕ → Sight B → Type 0) (x y : ℕ) (a b : Sight B) → (x ≡ y) × (a ≡ b) → P x a → P y b
  both_same P x y a b e p = subst (λ (z : ℕ × Sight B). P z.0 z.1) (λ i. (e.0 i, e.1 i)) p

  of_free : (a b : Sight B) → Free (a ∷ []) ≡ Free (b ∷ []) → a ≡ b
  of_free a b e = cc

  of_drawn : (x y : ℕ) (a b : Sight B) → Drawn x a ≡ Drawn y b → (x ≡ y) × (a ≡ b)
  of_drawn x y a b e = (cc, cc)

  of_up : (x y : ℕ) (a b : Sight B) → Up x a ≡ Up y b → (x ≡ y) × (a ≡ b)
  of_up x y a b e = (cc, cc)

  of_holding : (x y : ℕ) (a b : Sight B) → Holding x a ≡ Holding y b → (x ≡ y) × (a ≡ b)
  of_holding x y a b e = (cc, cc)

  of_lent : (x y : ℕ) (a b : Sight B) → Lent x a ≡ Lent y b → (x ≡ y) × (a ≡ b)
  of_lent x y a b e = (cc, cc)

  of_left : (x y : ℕ) (a b : Sight B) (gain more : List Entry) → Left x a gain ≡ Left y b more → (x ≡ y) × (a ≡ b) × (gain ≡ more)
  of_left x y a b gain more e = (cc, cc, cc)

-- the list of the value that a pass has in hand
abbrev entries_in : {V : Type 0} → (V → List Entry) → List (ℕ × Option V) → List Entry
entries_in entries [] = []
entries_in entries ((k, Some v) ∷ more) = entries v
entries_in entries ((k, None) ∷ more) = []

module _ {V B : Type 0} (entries : V → List Entry) (base_in : V → B) (base : B) (count : ℕ) where
  abbrev St : Type 0
  St = State (Option V) (View B)

  abbrev Rule : St → Type 0
  Rule = Kept entries base_in base count

  abbrev FitsAt : List (Home (Option V)) → List Logged → ℕ → ℕ → View B → Type 0
  FitsAt = Fits entries base_in base count

  abbrev Is : Mine V B → Mine V B → Type 0
  Is m n = m ≡ n

  up_by_one : (n : ℕ) → (n % 2 ^ 64 + 1) % 2 ^ 64 ≡ (n + 1) % 2 ^ 64
  up_by_one n = omega arith

  pub draws : (slots id : ℕ) (a : Sight B) → Allows Rule slots id (Free (a ∷ []), []) 0 (λ n. (n + 1) % 2 ^ 64) (drew (Free (a ∷ []), []))
  draws slots id a s r _ at _ = let w : View B = Drawn r.next a in let fits = r.each id (Free (a ∷ [])) at in let drawn = r.drawn in (
    w,
    keeps,
    tt,
    changed entries base_in base count s r id (Free (a ∷ [])) w at (set s.words 0 ((get_or s.words 0 0 + 1) % 2 ^ 64)) s.homes r.log (r.next + 1) r.serving
        (ap (λ ws. set ws 0 ((get_or ws 0 0 + 1) % 2 ^ 64)) r.words ∙ ap (λ n. n ∷ r.serving % 2 ^ 64 ∷ []) (up_by_one r.next))
        (record { count = refl; times = λ _. refl })
        (λ ticket. let t = total_set (has_ticket ticket) s.views id (Free (a ∷ [])) w at in let k = r.apart ticket in dite (ℕ_discrete r.next ticket)
        (λ e. (let z : total (has_ticket ticket) s.views
        ≡ 0 = subst (λ n. total (has_ticket n) s.views ≡ 0) e (next_unused entries base_in base count s r) in
        let h = one_if-same r.next ticket e in omega arith))
        (λ n. (let h = one_if-other r.next ticket n in omega arith)))
        (let t = total_set is_drawn s.views id (Free (a ∷ [])) w at in omega arith)
        (λ none_kept. r.there (let t = total_set keeps_slot s.views id (Free (a ∷ [])) w at in omega arith))
        (record { knows = fits.knows; stands = (omega arith, omega arith) })
        (λ j u _ e. fits_later entries base_in base count s.homes r.log r.next r.serving u (r.each j u e))
        r.made,
    λ b same. let f : a ≡ b = of_free a b (ap (λ (m : Mine V B). m.0) same) in
        (r.next, ap (λ (c : Sight B). (Drawn r.next c, [])) f, ap (λ ws. get_or ws 0 0) (sym r.words)),
  )

  -- what the rule knows of the view of one pass, once the pass has seen the whole log
  abbrev seen : List Logged → Sight B → Sight B
  seen log a = sight a.base a.passes a.caller log

  knows_all : (log : List Logged) (a : Sight B) → Knows entries base_in base count log a → Knows entries base_in base count log (seen log a)
  knows_all log a k = record { base_is = k.base_is; passes_are = k.passes_are; numbered = k.numbered; known = begins_itself log; own = refl }

  knows_more : (log : List Logged) (a : Sight B) → Knows entries base_in base count log a → KnowsMore a (seen log a)
  knows_more log a k = record { base = refl; passes = refl; caller = refl; known = k.known; own = k.own }

  -- a step that changes no word and no slot, and no number that is out
  pub still : (s : St) (r : Rule s) (id : ℕ) (v w : View B) → get_elem? s.views id ≡ some v → SameCallers v w
      → ((ticket : ℕ) → has_ticket ticket w ≡ has_ticket ticket v) → is_drawn w ≡ is_drawn v
      → keeps_slot w ≡ keeps_slot v → FitsAt s.homes r.log r.next r.serving w
      → Rule record { words = set s.words 1 (get_or s.words 1 0); homes = s.homes; views = set s.views id w }
  still s r id v w at same tickets drawn kept fits =
      changed entries base_in base count s r id v w at
      (set s.words 1 (get_or s.words 1 0)) s.homes r.log r.next r.serving
      (ap (λ ws. set ws 1 (get_or ws 1 0)) r.words) same
      (λ ticket. let t = total_set (has_ticket ticket) s.views id v w at in let k = r.apart ticket in let h = tickets ticket in omega arith)
      (let t = total_set is_drawn s.views id v w at in let d = r.drawn in omega arith)
      (λ none_kept. r.there (let t = total_set keeps_slot s.views id v w at in omega arith))
      fits (λ j u _ e. r.each j u e) r.made

  pub looks : (slots id : ℕ) (x : ℕ) (a : Sight B) → Allows Rule slots id (Drawn x a, []) 1 (λ n. n) (looked (Drawn x a, []))
  looks slots id x a s r _ at _ =
      let fits = r.each id (Drawn x a) at in
      let b : Sight B = seen r.log a in
      let knows = knows_all r.log a fits.knows.0 in
      let more = knows_more r.log a fits.knows.0 in
      let made : MadeBelow b.passes b.known = subst (λ n. MadeBelow n r.log) (sym fits.knows.0.passes_are) r.made in
      let second : get_or s.words 1 0 ≡ r.serving % 2 ^ 64 = ap (λ ws. get_or ws 1 0) r.words in dite (ℕ_discrete (x % 2 ^ 64) (r.serving % 2 ^ 64))
      (λ here. let few = few_out entries base_in base count s r in let low = fits.stands in
      let is : x ≡ r.serving = sym (one_turn r.serving x (2 ^ 64) low.0 (omega (arith, low.1)) (sym here)) in (
        Up x b,
        keeps,
        tt,
        still s r id (Drawn x a) (Up x b) at (record { count = refl; times = λ _. refl }) (λ _. refl) refl refl
            (record {
              knows = (knows, tt);
              stands = (
                record { turn = is; whole = refl },
                there_in_turn entries base_in base count s r id (Drawn x a) at (one_if-same x r.serving is) refl,
              );
            }),
        λ y c same. both_same (λ y c. (b' : Sight B) × KnowsMore c b' × MadeBelow b'.passes b'.known
            × (y % 2 ^ 64 ≡ get_or s.words 1 0 → Is (Up x b, []) (Up y b', []))
            × (y % 2 ^ 64 ≢ get_or s.words 1 0 → Is (Up x b, []) (Drawn y b', []))) x y a c
            (of_drawn x y a c (ap (λ (m : Mine V B). m.0) same)) (b, more, made, (λ _. refl), λ n. absurd (n (here ∙ sym second))),
      ))
      (λ apart. (
        Drawn x b,
        keeps,
        tt,
        still s r id (Drawn x a) (Drawn x b) at (record { count = refl; times = λ _. refl }) (λ _. refl) refl refl
            (record { knows = (knows, tt); stands = fits.stands }),
        λ y c same. both_same (λ y c. (b' : Sight B) × KnowsMore c b' × MadeBelow b'.passes b'.known
            × (y % 2 ^ 64 ≡ get_or s.words 1 0 → Is (Drawn x b, []) (Up y b', []))
            × (y % 2 ^ 64 ≢ get_or s.words 1 0 → Is (Drawn x b, []) (Drawn y b', []))) x y a c
            (of_drawn x y a c (ap (λ (m : Mine V B). m.0) same)) (b, more, made, (λ e. absurd (apart (e ∙ second))), λ _. refl),
      ))

  -- a step of the pass whose turn it is, which changes the slot
  slot_moved : (s : St) (r : Rule s) (id : ℕ) (v w : View B) → get_elem? s.views id ≡ some v → SameCallers v w
      → ((ticket : ℕ) → has_ticket ticket w ≡ has_ticket ticket v) → is_drawn w ≡ is_drawn v
      → has_ticket r.serving v ≡ 1 → keeps_slot w ≡ 1 → (homes : List (Home (Option V))) → FitsAt homes r.log r.next r.serving w
      → Rule record { words = set s.words 1 (get_or s.words 1 0); homes = homes; views = set s.views id w }
  slot_moved s r id v w at same tickets drawn mine kept homes fits =
      changed entries base_in base count s r id v w at (set s.words 1 (get_or s.words 1 0)) homes r.log r.next r.serving
      (ap (λ ws. set ws 1 (get_or ws 1 0)) r.words) same
      (λ ticket. let t = total_set (has_ticket ticket) s.views id v w at in let k = r.apart ticket in let h = tickets ticket in omega arith)
      (let t = total_set is_drawn s.views id v w at in let d = r.drawn in omega arith)
      (λ none_kept. (let t = total_set keeps_slot s.views id v w at in let h = total_at keeps_slot s.views id v at in absurd (omega arith)))
      fits
      (λ j u n e. fits_aside entries base_in base count s.homes homes r.log r.log r.next r.serving r.serving u
      (r.each j u e) (others_wait entries base_in base count s r id v at mine j u n e) (omega arith)
      (r.each j u e).knows)
      r.made

  pub takes_value : (slots id : ℕ) (x : ℕ) (a : Sight B) → Allows Rule slots id (Up x a, []) 1 (λ n. n) (took entries base_in (Up x a, []))
  takes_value slots id x a s r _ at _ = let fits = r.each id (Up x a) at in let up = fits.stands.0 in let there = fits.stands.1 in let v : V = there.value in (
    Holding x a,
    takes 0 (Some v),
    ap (λ (h : List (Home (Option V))). get_elem? h 0) there.slot,
    slot_moved s r id (Up x a) (Holding x a) at (record { count = refl; times = λ _. refl }) (λ _. refl) refl
        (one_if-same x r.serving up.turn) refl (set s.homes 0 none)
        (record { knows = fits.knows; stands = (up, ap (λ (h : List (Home (Option V))). set h 0 none) there.slot) }),
    λ y c same. both_same (λ y c. (u : V) × (Is (Holding x a, (0, Some v) ∷ []) (Holding y c, (0, Some u) ∷ []))
        × (entries u ≡ entries_of c.known) × (base_in u ≡ c.base)) x y a c
        (of_up x y a c (ap (λ (m : Mine V B). m.0) same)) (v, refl, there.list ∙ sym (ap entries_of up.whole), there.base_is ∙ sym fits.knows.0.base_is),
  )

  pub lends : (slots id : ℕ) (x : ℕ) (a : Sight B) → Allows Rule slots id (Holding x a, (0, None) ∷ []) 1 (λ n. n) (lent (Holding x a, (0, None) ∷ []))
  lends slots id x a s r _ at _ = let fits = r.each id (Holding x a) at in let up = fits.stands.0 in (
    Lent x a,
    gives,
    tt,
    slot_moved s r id (Holding x a) (Lent x a) at (record { count = refl; times = λ _. refl }) (λ _. refl) refl
        (one_if-same x r.serving up.turn) refl (set s.homes 0 (some None))
        (record { knows = fits.knows; stands = (up, ap (λ (h : List (Home (Option V))). set h 0 (some None)) fits.stands.1) }),
    λ y c same. both_same (λ y c. Is (Lent x a, []) (Lent y c, [])) x y a c (of_holding x y a c (ap (λ (m : Mine V B). m.0) same)) refl,
  )

  pub retakes : (slots id : ℕ) (x : ℕ) (a : Sight B) → Allows Rule slots id (Lent x a, []) 1 (λ n. n) (retook (Lent x a, []))
  retakes slots id x a s r _ at _ = let fits = r.each id (Lent x a) at in let up = fits.stands.0 in (
    Holding x a,
    takes 0 None,
    ap (λ (h : List (Home (Option V))). get_elem? h 0) fits.stands.1,
    slot_moved s r id (Lent x a) (Holding x a) at (record { count = refl; times = λ _. refl }) (λ _. refl) refl
        (one_if-same x r.serving up.turn) refl (set s.homes 0 none)
        (record { knows = fits.knows; stands = (up, ap (λ (h : List (Home (Option V))). set h 0 none) fits.stands.1) }),
    λ y c same. both_same (λ y c. Is (Holding x a, (0, None) ∷ []) (Holding y c, (0, None) ∷ [])) x y a c
        (of_lent x y a c (ap (λ (m : Mine V B). m.0) same)) refl,
  )

  pub gives_back : (slots id : ℕ) (x : ℕ) (a : Sight B) (v : V) (gain : List Entry) → entries v ≡ entries_of a.known ++ gain → base_in v ≡ a.base
      → Allows Rule slots id (Holding x a, (0, Some v) ∷ []) 1 (λ n. n) (gave_back entries base_in (Holding x a, (0, Some v) ∷ []))
  gives_back slots id x a v gain list base_is s r _ at _ = let fits = r.each id (Holding x a) at in let up = fits.stands.0 in (
    Left x a gain,
    gives,
    tt,
    slot_moved s r id (Holding x a) (Left x a gain) at (record { count = refl; times = λ _. refl }) (λ _. refl) refl
        (one_if-same x r.serving up.turn) refl (set s.homes 0 (some (Some v)))
        (record {
          knows = fits.knows;
          stands = (
            up,
            record {
              value = v;
              slot = ap (λ (h : List (Home (Option V))). set h 0 (some (Some v))) fits.stands.1;
              list = list ∙ ap (λ l. entries_of l ++ gain) up.whole;
              base_is = base_is ∙ fits.knows.0.base_is;
            },
          );
        }),
    λ y c u more same list'. (let e = of_holding x y a c (ap (λ (m : Mine V B). m.0) same) in
        let f : entries v ≡ entries u = ap (λ (m : Mine V B). entries_in entries m.1) same in
        let g : gain ≡ more = append_cancel_left (entries_of a.known) gain more
        (sym list ∙ (f ∙ (list' ∙ ap (λ (d : Sight B). entries_of d.known ++ more) (sym e.1)))) in
        λ i. (Left (e.0 i) (e.1 i) (g i), [])),
  )

  pub publishes : (slots id : ℕ) (x : ℕ) (a : Sight B) (gain : List Entry)
      → Allows Rule slots id (Left x a gain, []) 1 (λ n. (n + 1) % 2 ^ 64) (published (Left x a gain, []))
  publishes slots id x a gain s r _ at _ =
      let fits = r.each id (Left x a gain) at in let up = fits.stands.0 in let there = fits.stands.1 in let knows = fits.knows.0 in
      let more : List Logged = under a.caller gain in
      let b : Sight B = sight a.base a.passes a.caller (a.known ++ more) in
      let v : View B = Left x a gain in
      let w : View B = Free (b ∷ []) in
      let whole : a.known ++ more ≡ r.log ++ more = ap (λ l. l ++ more) up.whole in let drawn = r.drawn in
      let grown = made_more count r.log a.caller gain knows.numbered r.made in
      let made : MadeBelow a.passes (a.known ++ more) = subst (λ (z : ℕ × List Logged). MadeBelow z.0 z.1)
      (λ i. (sym knows.passes_are i, sym whole i)) grown in (
        w,
        keeps,
        tt,
        changed entries base_in base count s r id v w at (set s.words 1 ((get_or s.words 1 0 + 1) % 2 ^ 64)) s.homes (r.log ++ more) r.next (r.serving + 1)
            (ap (λ ws. set ws 1 ((get_or ws 1 0 + 1) % 2 ^ 64)) r.words ∙ ap (λ n. r.next % 2 ^ 64 ∷ n ∷ []) (up_by_one r.serving))
            (record { count = refl; times = λ _. refl })
            (λ ticket. let t = total_set (has_ticket ticket) s.views id v w at in let k = r.apart ticket in omega arith)
            (let t = total_set is_drawn s.views id v w at in omega arith)
            (λ _. record {
              value = there.value;
              slot = there.slot;
              list = there.list ∙ sym (entries_of-append r.log more ∙ ap (λ l. entries_of r.log ++ l) (entries_of-under a.caller gain));
              base_is = there.base_is;
            })
            (record {
              knows = (
                record {
                  base_is = knows.base_is;
                  passes_are = knows.passes_are;
                  numbered = knows.numbered;
                  known = record { rest = []; is = append-nil (a.known ++ more) ∙ whole };
                  own = ap (made_by a.caller) (sym whole);
                },
                tt,
              );
              stands = tt;
            })
            (λ j u n e. fits_aside entries base_in base count s.homes s.homes r.log (r.log ++ more) r.next r.serving (r.serving + 1) u (r.each j u e)
            (others_wait entries base_in base count s r id v at (one_if-same x r.serving up.turn) j u n e) (omega arith)
            (each_longer entries base_in base count r.log a.caller gain (sights u)
            (let t = total_two (times_of a.caller) s.views id j v u n at e in let o = r.once a.caller in
            let h = one_if-same a.caller a.caller refl in omega arith) (r.each j u e).knows))
            grown,
        λ y c gain' same. let e = of_left x y a c gain gain' (ap (λ (m : Mine V B). m.0) same) in (
          (λ i. (Free (sight (e.1 i).base (e.1 i).passes (e.1 i).caller ((e.1 i).known ++ under (e.1 i).caller (e.2 i)) ∷ []), [])),
          subst (λ (z : Sight B × List Entry). MadeBelow z.0.passes (z.0.known ++ under z.0.caller z.1)) (λ i. (e.1 i, e.2 i)) made,
        ),
      )

  -- the same, for a pass that is known to be at this point of its turn
  module _ (slots id : ℕ) (me : Mine V B) where
    pub draws_at : (a : Sight B) → me ≡ (Free (a ∷ []), []) → Allows Rule slots id me 0 (λ n. (n + 1) % 2 ^ 64) (drew me)
    draws_at a e = subst (λ (m : Mine V B). Allows Rule slots id m 0 (λ n. (n + 1) % 2 ^ 64) (drew m)) (sym e) (draws slots id a)

    pub looks_at : (x : ℕ) (a : Sight B) → me ≡ (Drawn x a, []) → Allows Rule slots id me 1 (λ n. n) (looked me)
    looks_at x a e = subst (λ (m : Mine V B). Allows Rule slots id m 1 (λ n. n) (looked m)) (sym e) (looks slots id x a)

    pub takes_value_at : (x : ℕ) (a : Sight B) → me ≡ (Up x a, []) → Allows Rule slots id me 1 (λ n. n) (took entries base_in me)
    takes_value_at x a e = subst (λ (m : Mine V B). Allows Rule slots id m 1 (λ n. n) (took entries base_in m)) (sym e) (takes_value slots id x a)

    pub lends_at : (x : ℕ) (a : Sight B) → me ≡ (Holding x a, (0, None) ∷ []) → Allows Rule slots id me 1 (λ n. n) (lent me)
    lends_at x a e = subst (λ (m : Mine V B). Allows Rule slots id m 1 (λ n. n) (lent m)) (sym e) (lends slots id x a)

    pub retakes_at : (x : ℕ) (a : Sight B) → me ≡ (Lent x a, []) → Allows Rule slots id me 1 (λ n. n) (retook me)
    retakes_at x a e = subst (λ (m : Mine V B). Allows Rule slots id m 1 (λ n. n) (retook m)) (sym e) (retakes slots id x a)

    pub gives_back_at : (x : ℕ) (a : Sight B) (v : V) (gain : List Entry) → me ≡ (Holding x a, (0, Some v) ∷ [])
        → entries v ≡ entries_of a.known ++ gain → base_in v ≡ a.base
        → Allows Rule slots id me 1 (λ n. n) (gave_back entries base_in me)
    gives_back_at x a v gain e list base_is = subst
        (λ (m : Mine V B). Allows Rule slots id m 1 (λ n. n) (gave_back entries base_in m)) (sym e)
        (gives_back slots id x a v gain list base_is)

    pub publishes_at : (x : ℕ) (a : Sight B) (gain : List Entry) → me ≡ (Left x a gain, []) → Allows Rule slots id me 1 (λ n. (n + 1) % 2 ^ 64) (published me)
    publishes_at x a gain e = subst (λ (m : Mine V B). Allows Rule slots id m 1 (λ n. (n + 1) % 2 ^ 64) (published m)) (sym e) (publishes slots id x a gain)
