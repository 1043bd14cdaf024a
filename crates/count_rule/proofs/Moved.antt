-- The steps of the kernel's seat on one word, but for the last close: create, known open, close, and the look after a join.
use native.Mathlib.Decide.{ℕ_discrete}
use mathlib.Core.Logic.{dite}
use Rattle.std.proofs.Common.{◌≡◌, ℕ, ◌+◌, ◌-◌, ◌%◌, ◌^◌, ◌<◌, ◌≤◌, List, [], ◌∷◌, length, set, sym, refl, ap, ◌∙◌, subst, arith, Some, None, IfSome, length-set, get_or, get_or-set_other, get_or-set_same, mod-eq_of_lt}
use mathlib.Core.Option.{none, some, some-injective, some-ne-none}
use lib.ListN.{get_elem?}
use lib.Seq.{set-get_or}
use Rattle.atomic_table.specs.Table.{State, Me, step, keeps, Allows}
use Rattle.ref_words.specs.declared.answer.Stage.TheVariants.{Fresh, InUse}
use Rattle.ref_words.specs.Words.{IsFresh}
use Rattle.count_rule.specs.declared.view.Counted.{Counted}
use Rattle.count_rule.specs.declared.view.View.{View}
use Rattle.count_rule.specs.declared.view.View.TheVariants.{Kernel}
use Rattle.count_rule.specs.Views.{words_of, own_of}
use Rattle.count_rule.specs.Shows.{IsStillHeld, WasOut, Shows, Holds}
use Rattle.count_rule.specs.Moves.{counted_of, creating, opening_known, closing_one, looking, creates, opens_known, closes, looks}
use Rattle.count_rule.specs.Seats.{IsCalm}
use Rattle.count_rule.proofs.Tickets.{tickets_kernel}
use Rattle.count_rule.proofs.Kept.{kept_created, kept_opened, kept_closed, known_placed}
use Rattle.count_rule.proofs.Shown.{none_if, shows_views, shown_set, shown_as, in_use_small}

pub first_set : (views : List View) (v w : View) → get_elem? views 0 ≡ some v → get_elem? (set views 0 w) 0 ≡ some w
first_set [] v w at = absurd (some-ne-none v (sym at))
first_set (x ∷ xs) v w at = refl

module _ {S : Type 0} where
  -- what the kernel's seat sees at a step
  pub sees : (s : State S View) (k : Counted) → Holds s → get_elem? s.views 0 ≡ some (Kernel k) → Shows k s.words s.views
  sees s k r at = subst (λ (x : Counted). Shows x s.words s.views) (ap counted_of (some-injective (Kernel r.kernel) (Kernel k) (sym r.seated ∙ at))) r.shows

  -- the kernel's view and the words change
  pub kernel_moves : (s : State S View) (k new : Counted) (words : List ℕ) → get_elem? s.views 0 ≡ some (Kernel k) → Shows new words s.views
      → Holds (let t : State S View = record { words = words; homes = s.homes; views = set s.views 0 (Kernel new) } in t)
  kernel_moves s k new words at shows = record {
    kernel = new;
    seated = first_set s.views (Kernel k) (Kernel new) at;
    shows = shows_views new words s.views (set s.views 0 (Kernel new)) (λ test. tickets_kernel test s.views 0 k new at) shows;
  }

  -- a step of the kernel's seat is allowed, where the words show its new view
  pub allowed : (slots id : ℕ) (me : Me S View) (p : ℕ) (f : ℕ → ℕ) (then : ℕ → Me S View → Type 0) (new : ℕ → Counted)
      → id ≡ 0 → me ≡ (Kernel (counted_of me.0), [])
      → ((words : List ℕ) (views : List View) → Shows (counted_of me.0) words views
      → get_or words p 0 < 18446744073709551616
      → Shows (new (get_or words p 0)) (set words p (f (get_or words p 0))) views
      × then (get_or words p 0) (Kernel (new (get_or words p 0)), me.1))
      → Allows Holds slots id me p f then
  allowed slots id me p f then new first is moves s r deep at fits =
      let k : Counted = counted_of me.0 in let n : ℕ = get_or s.words p 0 in
      let at0 : get_elem? s.views 0 ≡ some (Kernel k) = subst (λ (j : ℕ). get_elem? s.views j ≡ some (Kernel k)) first
      (at ∙ ap (λ (m : Me S View). some m.0) is) in
      let moved = moves s.words s.views (sees s k r at0) fits in (
        Kernel (new n),
        keeps,
        tt,
        subst (λ (j : ℕ). Holds (let t : State S View = record
            { words = set s.words p (f n); homes = s.homes; views = set s.views j (Kernel (new n)) } in t)) (sym first)
            (kernel_moves s k (new n) (set s.words p (f n)) at0 moved.0),
        moved.1,
      )

created : (k : Counted) (words : List ℕ) (views : List View) (p : ℕ) → Shows k words views → IsFresh (words_of [] k) p
    → IsCalm k → Shows (creating p k) (set words p 1) views
created k words views p r fresh calm = record {
  as_many = length-set words p 1 ∙ (r.as_many ∙ sym (length-set k.own p 1));
  late_sizes = r.late_sizes ∙ sym (length-set k.own p 1);
  shown = shown_set k (creating p k) words views p 1 (λ q ne. get_or-set_other k.stages p q InUse Fresh ne) (λ q ne. get_or-set_other k.own p q 1 0 ne)
      (λ inside. let was = shown_as k words views p Fresh r inside fresh.2 in
      rw (get_or-set_same k.stages p InUse Fresh fresh.1, get_or-set_same k.own p 1 0 fresh.0)
      (omega (arith, was.2), omega arith, was.3)) refl r.shown;
  are_notes = r.are_notes;
  kept = kept_created (words_of [] k) p r.kept fresh;
  few_late = r.few_late;
  few_made = r.few_made;
  closing = none_if k.closing (IsStillHeld (creating p k) (set words p 1)) calm.0;
  joined = none_if k.joined (WasOut (creating p k)) calm.1;
}

opened : (k : Counted) (words : List ℕ) (views : List View) (p n : ℕ) → Shows k words views → 0 < own_of k p
    → own_of k p < 2147483648 → IsCalm k → n ≡ get_or words p 0 + 1 → Shows (opening_known p k) (set words p n) views
opened k words views p n r known low calm is = record {
  as_many = length-set words p n ∙ (r.as_many ∙ sym (length-set k.own p (own_of k p + 1)));
  late_sizes = r.late_sizes ∙ sym (length-set k.own p (own_of k p + 1));
  shown = shown_set k (opening_known p k) words views p n (λ q ne. refl) (λ q ne. get_or-set_other k.own p q (own_of k p + 1) 0 ne)
      (λ inside. let used = r.kept.in_use p known in let was = shown_as k words views p InUse r inside used in
      rw (used, get_or-set_same k.own p (own_of k p + 1) 0 (known_placed k.own p known))
      (omega (arith, was.0, is), omega (arith, was.0, is), was.2)) refl r.shown;
  are_notes = r.are_notes;
  kept = kept_opened (words_of [] k) p r.kept known low;
  few_late = r.few_late;
  few_made = r.few_made;
  closing = none_if k.closing (IsStillHeld (opening_known p k) (set words p n)) calm.0;
  joined = none_if k.joined (WasOut (opening_known p k)) calm.1;
}

closed : (k : Counted) (words : List ℕ) (views : List View) (p n : ℕ) → Shows k words views → 0 < own_of k p
    → 2 ≤ get_or words p 0 → k.joined ≡ None → n + 1 ≡ get_or words p 0 → Shows (closing_one p k) (set words p n) views
closed k words views p n r known two looked is = record {
  as_many = length-set words p n ∙ (r.as_many ∙ sym (length-set k.own p (own_of k p - 1)));
  late_sizes = r.late_sizes ∙ sym (length-set k.own p (own_of k p - 1));
  shown = shown_set k (closing_one p k) words views p n (λ q ne. refl) (λ q ne. get_or-set_other k.own p q (own_of k p - 1) 0 ne)
      (λ inside. let used = r.kept.in_use p known in let was = shown_as k words views p InUse r inside used in
      rw (used, get_or-set_same k.own p (own_of k p - 1) 0 (known_placed k.own p known))
      (omega (arith, was.0, is), omega (arith, two, is), was.2)) refl r.shown;
  are_notes = r.are_notes;
  kept = kept_closed (words_of [] k) p r.kept known;
  few_late = r.few_late;
  few_made = r.few_made;
  closing = tt;
  joined = none_if k.joined (WasOut (closing_one p k)) looked;
}

looked_for : (k : Counted) (words : List ℕ) (views : List View) → Shows k words views → Shows (looking k) words views
looked_for k words views r = record {
  as_many = r.as_many;
  late_sizes = r.late_sizes;
  shown = r.shown;
  are_notes = r.are_notes;
  kept = r.kept;
  few_late = r.few_late;
  few_made = r.few_made;
  closing = r.closing;
  joined = tt;
}

-- a place with an own count is one of the words
pub inside_words : (k : Counted) (words : List ℕ) (views : List View) (p : ℕ) → Shows k words views → 0 < own_of k p → p < length words
inside_words k words views p r known = let inside = known_placed k.own p known in omega (arith, r.as_many)

-- a word that a close may count down
two_there : (k : Counted) (words : List ℕ) (views : List View) (p : ℕ) → Shows k words views → 0 < own_of k p
    → (own_of k p ≡ 1 → k.closing ≡ Some p) → 2 ≤ get_or words p 0
two_there k words views p r known failed =
    let inside = inside_words k words views p r known in let was = shown_as k words views p InUse r inside (r.kept.in_use p known) in
    dite (ℕ_discrete (own_of k p) 1)
    (λ one. let held : IsStillHeld k words p = subst (λ x. IfSome x (IsStillHeld k words)) (failed one) r.closing in held.2)
    (λ more. omega (arith, was.0))

module _ {S : Type 0} where
  pub creates_allowed : (slots id : ℕ) (me : Me S View) (p : ℕ) → id ≡ 0 → me ≡ (Kernel (counted_of me.0), [])
      → IsCalm (counted_of me.0) → IsFresh (words_of [] (counted_of me.0)) p
      → Allows Holds slots id me p (λ _. 1) (λ _. creates (step slots p 1 0 none) me 1)
  creates_allowed slots id me p first is calm fresh =
      allowed slots id me p (λ _. 1) (λ _. creates (step slots p 1 0 none) me 1)
      (λ _. creating p (counted_of me.0)) first is
      (λ words views shows fits. (created (counted_of me.0) words views p shows fresh calm, refl))

  pub opens_known_allowed : (slots id : ℕ) (me : Me S View) (p : ℕ) → id ≡ 0 → me ≡ (Kernel (counted_of me.0), [])
      → IsCalm (counted_of me.0) → 0 < own_of (counted_of me.0) p → own_of (counted_of me.0) p < 2147483648
      → Allows Holds slots id me p (λ n. (n + 1) % 2 ^ 64) (opens_known (step slots p 1 0 none) me)
  opens_known_allowed slots id me p first is calm known low =
      allowed slots id me p (λ n. (n + 1) % 2 ^ 64) (opens_known (step slots p 1 0 none) me)
      (λ _. opening_known p (counted_of me.0)) first is
      (λ words views shows fits.
      let k : Counted = counted_of me.0 in
      let few = in_use_small k words views p shows (inside_words k words views p shows known)
      (shows.kept.in_use p known) in
      let n : ℕ = get_or words p 0 in let lt : n + 1 < 2 ^ 64 = omega arith in
      (opened k words views p ((n + 1) % 2 ^ 64) shows known low calm (mod-eq_of_lt lt), refl))

  pub closes_allowed : (slots id : ℕ) (me : Me S View) (p : ℕ) → id ≡ 0 → me ≡ (Kernel (counted_of me.0), [])
      → (counted_of me.0).joined ≡ None → 0 < own_of (counted_of me.0) p
      → (own_of (counted_of me.0) p ≡ 1 → (counted_of me.0).closing ≡ Some p)
      → Allows Holds slots id me p (λ n. (n + (2 ^ 64 - 1)) % 2 ^ 64) (closes (step slots p 1 0 none) me)
  closes_allowed slots id me p first is looked known failed =
      allowed slots id me p (λ n. (n + (2 ^ 64 - 1)) % 2 ^ 64) (closes (step slots p 1 0 none) me)
      (λ _. closing_one p (counted_of me.0)) first is
      (λ words views shows fits.
      let k : Counted = counted_of me.0 in let two = two_there k words views p shows known failed in
      let n : ℕ = get_or words p 0 in let less : (n + (2 ^ 64 - 1)) % 2 ^ 64 + 1 ≡ n = omega arith in
      (closed k words views p ((n + (2 ^ 64 - 1)) % 2 ^ 64) shows known two looked less, refl))

  pub looks_allowed : (slots id : ℕ) (me : Me S View) (p : ℕ) → id ≡ 0 → me ≡ (Kernel (counted_of me.0), [])
      → Allows Holds slots id me p (λ n. n) (looks (step slots p 0 0 none) me)
  looks_allowed slots id me p first is = allowed slots id me p (λ n. n) (looks (step slots p 0 0 none) me) (λ _. looking (counted_of me.0)) first is
      (λ words views shows fits.
      let k : Counted = counted_of me.0 in
      (subst (λ (ws : List ℕ). Shows (looking k) ws views) (sym (set-get_or words p 0)) (looked_for k words views shows), (refl, shows.joined)))
