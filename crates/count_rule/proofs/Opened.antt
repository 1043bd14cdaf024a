-- The step of a ticket: open.
use Rattle.std.proofs.Common.{◌≡◌, ◌≢◌, ℕ, ◌+◌, ◌%◌, ◌^◌, ◌<◌, ◌≤◌, ◌↔◌, true, false, ◌&&◌, eqb, ltb, List, [], length, set, sym, refl, ap, ◌∙◌, subst, arith, Option, Some, None, IfSome, length-set, get_or, get_or-set_other, get_or-set_same, mod-eq_of_lt, lt-ltb, le-ltb}
use mathlib.Core.Logic.{dite}
use mathlib.Core.Option.{none, some, some-injective}
use native.Mathlib.Decide.{ℕ_discrete}
use lib.ListN.{get_elem?}
use Rattle.atomic_table.specs.Table.{State, Me, step, keeps, Allows}
use Rattle.atomic_table.proofs.Lists.{set_else}
use Rattle.ref_words.specs.declared.answer.Found.{Found}
use Rattle.ref_words.specs.declared.answer.Found.TheVariants.{Held, Dead}
use Rattle.ref_words.specs.declared.answer.Stage.{Stage}
use Rattle.ref_words.specs.declared.answer.Stage.TheVariants.{Fresh, InUse, Gone}
use Rattle.ref_words.specs.declared.slip.Slip.{Slip}
use Rattle.ref_words.specs.Words.{IsOut, same_slip}
use Rattle.ref_words.proofs.Notes.{same_slip-itself, out_copies}
use Rattle.count_rule.specs.declared.view.Counted.{Counted}
use Rattle.count_rule.specs.declared.view.View.{View}
use Rattle.count_rule.specs.declared.view.View.TheVariants.{Kernel, Ticket}
use Rattle.count_rule.specs.Views.{words_of, own_of, stage_of, late_of, ticket_bit, holds_open, found_dead, holding, too_late}
use Rattle.count_rule.specs.Shows.{IsShown, IsShownAt, IsStillHeld, Shows, Holds}
use Rattle.count_rule.specs.Moves.{found_at, slip_of, opens}
use Rattle.count_rule.proofs.Tickets.{tickets_set, tickets_at, bit_here, bit_else}
use Rattle.count_rule.proofs.Kept.{created_placed}
use Rattle.count_rule.proofs.Shown.{shown_as, in_use_small, gone_small}

if_some : {X : Type 0} (o : Option X) (P Q : X → Type 0) → ((x : X) → P x → Q x) → IfSome o P → IfSome o Q
if_some (Some x) P Q turns h = turns x h
if_some None P Q turns h = tt

-- the note of a ticket is out
pub ticket_out : (k : Counted) (words : List ℕ) (views : List View) (id : ℕ) (slip : Slip) (found : Option Found)
    → Shows k words views → get_elem? views id ≡ some (Ticket slip found) → IsOut (words_of [] k) slip
ticket_out k words views id slip found r at =
    let there = tickets_at (λ s f. same_slip s slip) views id (Ticket slip found) at in
    let one : ticket_bit (λ s f. same_slip s slip) (Ticket slip found) ≡ 1 = rw (same_slip-itself slip slip refl) refl in
    let notes = r.are_notes (λ s. same_slip s slip) in
    out_copies k.out slip (omega arith)

-- a place that a raised word shows, where the ticket's view tells what it found
module _ (k : Counted) (words : List ℕ) (views : List View) (id p n : ℕ) (slip : Slip) (found : Found) where
  abbrev after : List View
  after = set views id (Ticket slip (Some found))

  raised : Shows k words views → get_elem? views id ≡ some (Ticket slip None) → slip.place ≡ p → n ≡ get_or words p 0 + 1
      → (p < length words → IsShown (stage_of k p) n (own_of k p) (holding p after) (late_of k p + too_late p after)) → Shows k (set words p n) after
  raised r at here is shown = record {
    as_many = length-set words p n ∙ r.as_many;
    late_sizes = r.late_sizes;
    shown = λ q inside.
        let within : q < length words = omega (arith, length-set words p n) in
        dite (ℕ_discrete q p)
        (λ e. let back : p ≡ q = sym e in let lt : p < length words = omega arith in
        let now : IsShownAt k (set words p n) after p = subst
        (λ (x : ℕ). IsShown (stage_of k p) x (own_of k p) (holding p after) (late_of k p + too_late p after))
        (sym (get_or-set_same words p n 0 lt)) (shown lt) in
        subst (λ (z : ℕ). IsShownAt k (set words p n) after z) back now)
        (λ ne.
        let there : slip.place ≢ q = λ e. ne (sym e ∙ here) in
        let holds = tickets_set (λ s f. eqb s.place q && holds_open f) views id (Ticket slip None) (Ticket slip (Some found)) at in
        let late = tickets_set (λ s f. eqb s.place q && found_dead f) views id (Ticket slip None) (Ticket slip (Some found)) at in
        let as_many : holding q views ≡ holding q after = omega
        (arith, holds, bit_else holds_open q slip None there, bit_else holds_open q slip (Some found) there) in
        let as_late : too_late q views ≡ too_late q after = omega
        (arith, late, bit_else found_dead q slip None there, bit_else found_dead q slip (Some found) there) in
        subst (λ (x : ℕ × ℕ × ℕ). IsShown (stage_of k q) x.0 (own_of k q) x.1 (late_of k q + x.2))
        (λ i. (sym (get_or-set_other words p q n 0 ne) i, as_many i, as_late i)) (r.shown q within));
    are_notes =
        λ test. let same = tickets_set (λ s f. test s) views id (Ticket slip None) (Ticket slip (Some found)) at in
        let notes = r.are_notes test in omega arith;
    kept = r.kept;
    few_late = r.few_late;
    few_made = r.few_made;
    closing = if_some k.closing (IsStillHeld k words) (IsStillHeld k (set words p n))
        (λ c h. dite (ℕ_discrete c p)
        (λ e. let back : p ≡ c = sym e in let lt : p < length words = omega (arith, h.0) in
        let two : 2 ≤ n = omega (arith, h.2, is, ap (λ (z : ℕ). get_or words z 0) e) in
        let now : 2 ≤ get_or (set words p n) p 0 = rw (get_or-set_same words p n 0 lt) two in
        (omega (arith, h.0, length-set words p n), h.1, subst (λ (z : ℕ). 2 ≤ get_or (set words p n) z 0) back now))
        (λ ne. (omega (arith, h.0, length-set words p n), h.1, rw (get_or-set_other words p c n 0 ne) h.2)))
        r.closing;
    joined = r.joined;
  }

raised_held : (k : Counted) (words : List ℕ) (views : List View) (id p n : ℕ) (slip : Slip) → Shows k words views
    → get_elem? views id ≡ some (Ticket slip None) → slip.place ≡ p → n ≡ get_or words p 0 + 1 → stage_of k p ≡ InUse
    → Shows k (set words p n) (set views id (Ticket slip (Some Held)))
raised_held k words views id p n slip r at here is used = raised k words views id p n slip Held r at here is
    (λ inside.
    let was = shown_as k words views p InUse r inside used in
    let holds = tickets_set (λ s f. eqb s.place p && holds_open f) views id (Ticket slip None) (Ticket slip (Some Held)) at in
    let late = tickets_set (λ s f. eqb s.place p && found_dead f) views id (Ticket slip None) (Ticket slip (Some Held)) at in
    let more : holding p (set views id (Ticket slip (Some Held))) ≡ holding p views + 1 =
    omega (arith, holds, bit_here holds_open p slip None here, bit_here holds_open p slip (Some Held) here) in
    let as_late : too_late p (set views id (Ticket slip (Some Held))) ≡ too_late p views =
    omega (arith, late, bit_here found_dead p slip None here, bit_here found_dead p slip (Some Held) here) in
    rw used (omega (arith, was.0), omega (arith, was.0), omega (arith, was.2)))

raised_dead : (k : Counted) (words : List ℕ) (views : List View) (id p n : ℕ) (slip : Slip) → Shows k words views
    → get_elem? views id ≡ some (Ticket slip None) → slip.place ≡ p → n ≡ get_or words p 0 + 1 → stage_of k p ≡ Gone
    → Shows k (set words p n) (set views id (Ticket slip (Some Dead)))
raised_dead k words views id p n slip r at here is gone = raised k words views id p n slip Dead r at here is
    (λ inside.
    let was = shown_as k words views p Gone r inside gone in
    let holds = tickets_set (λ s f. eqb s.place p && holds_open f) views id (Ticket slip None) (Ticket slip (Some Dead)) at in
    let late = tickets_set (λ s f. eqb s.place p && found_dead f) views id (Ticket slip None) (Ticket slip (Some Dead)) at in
    let as_many : holding p (set views id (Ticket slip (Some Dead))) ≡ holding p views =
    omega (arith, holds, bit_here holds_open p slip None here, bit_here holds_open p slip (Some Dead) here) in
    let more : too_late p (set views id (Ticket slip (Some Dead))) ≡ too_late p views + 1 =
    omega (arith, late, bit_here found_dead p slip None here, bit_here found_dead p slip (Some Dead) here) in
    rw gone (omega (arith, was.0), was.1, omega (arith, was.2)))

-- the ticket finds what its place's stage tells, and the word doesn't go round
raised_by_stage : (k : Counted) (words : List ℕ) (views : List View) (id p : ℕ) (slip : Slip) (stage : Stage)
    → Shows k words views → get_elem? views id ≡ some (Ticket slip None) → slip.place ≡ p
    → p < length words → stage_of k p ≡ stage → stage ≢ Fresh
    → Shows k (set words p ((get_or words p 0 + 1) % 2 ^ 64))
    (set views id (Ticket slip (Some (found_at (get_or words p 0)))))
raised_by_stage k words views id p slip Fresh r at here inside is made = absurd (made refl)
raised_by_stage k words views id p slip InUse r at here inside is made =
    let n : ℕ = get_or words p 0 in let few = in_use_small k words views p r inside is in
    let held : ltb n 9223372036854775808 ≡ true = lt-ltb n 9223372036854775808 (omega arith) in
    let fits : n + 1 < 2 ^ 64 = omega arith in
    rw held (raised_held k words views id p ((n + 1) % 2 ^ 64) slip r at here (mod-eq_of_lt fits) is)
raised_by_stage k words views id p slip Gone r at here inside is made =
    let n : ℕ = get_or words p 0 in let few = gone_small k words views p r inside is in
    let was = shown_as k words views p Gone r inside is in
    let dead : ltb n 9223372036854775808 ≡ false = le-ltb n 9223372036854775808 (omega (arith, was.0)) in
    let fits : n + 1 < 2 ^ 64 = omega arith in
    rw dead (raised_dead k words views id p ((n + 1) % 2 ^ 64) slip r at here (mod-eq_of_lt fits) is)

-- the old word tells whether its place is gone
word_tells : (k : Counted) (words : List ℕ) (views : List View) (p : ℕ) (stage : Stage) → Shows k words views
    → p < length words → stage_of k p ≡ stage → stage ≢ Fresh
    → (found_at (get_or words p 0) ≡ Dead) ↔ (stage_of k p ≡ Gone)
word_tells k words views p Fresh r inside is made = absurd (made refl)
word_tells k words views p InUse r inside is made =
    let few = in_use_small k words views p r inside is in
    let held : ltb (get_or words p 0) 9223372036854775808 ≡ true = lt-ltb (get_or words p 0) 9223372036854775808 (omega arith) in
    rw (held, is) ((λ e. absurd (cc)), λ e. absurd (cc))
word_tells k words views p Gone r inside is made =
    let was = shown_as k words views p Gone r inside is in
    let dead : ltb (get_or words p 0) 9223372036854775808 ≡ false = le-ltb (get_or words p 0) 9223372036854775808 (omega (arith, was.0)) in
    rw (dead, is) ((λ e. refl), λ e. refl)

module _ {S : Type 0} where
  -- a ticket's seat isn't the first
  pub not_first : (s : State S View) (r : Holds s) (id : ℕ) (slip : Slip) (found : Option Found) → get_elem? s.views id ≡ some (Ticket slip found) → 0 ≢ id
  not_first s r id slip found at first =
      let clash : Kernel r.kernel ≡ Ticket slip found = some-injective (Kernel r.kernel) (Ticket slip found)
      (sym r.seated ∙ (ap (λ (j : ℕ). get_elem? s.views j) first ∙ at)) in
      absurd (cc)

  pub opens_allowed : (slots id : ℕ) (me : Me S View) (p : ℕ) → me ≡ (Ticket (slip_of me.0) None, [])
      → (slip_of me.0).place ≡ p → Allows Holds slots id me p (λ n. (n + 1) % 2 ^ 64) (opens (step slots p 1 0 none) me)
  opens_allowed slots id me p is here s r deep at fits =
      let slip : Slip = slip_of me.0 in let n : ℕ = get_or s.words p 0 in let k : Counted = r.kernel in
      let mine : get_elem? s.views id ≡ some (Ticket slip None) = at ∙ ap (λ (m : Me S View). some m.0) is in
      let out = ticket_out k s.words s.views id slip None r.shows mine in
      let made : stage_of k p ≢ Fresh = subst (λ (z : ℕ). stage_of k z ≢ Fresh) here (r.shows.kept.out_created slip out) in
      let inside : p < length s.words = omega (arith, created_placed (words_of [] k) p r.shows.kept made, r.shows.as_many) in
      let w : View = Ticket slip (Some (found_at n)) in (
        w,
        keeps,
        tt,
        record {
          kernel = k;
          seated = set_else s.views id 0 w (not_first s r id slip None mine) ∙ r.seated;
          shows = raised_by_stage k s.words s.views id p slip (stage_of k p) r.shows mine here inside refl made;
        },
        (
          refl,
          record {
            kernel = k;
            words = s.words;
            views = s.views;
            seat = id;
            shows = r.shows;
            ticket = mine;
            dead = rw here (word_tells k s.words s.views p (stage_of k p) r.shows inside refl made);
          },
        ),
      )
