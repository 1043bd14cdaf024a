-- The join, by which a ticket comes back.
use Rattle.std.proofs.Common.{◌≡◌, ◌≢◌, ℕ, ◌+◌, ◌<◌, ◌≤◌, Bool, true, false, ◌&&◌, eqb, if◌then◌else◌, List, [], ◌∷◌, length, filter, set, sym, refl, ap, ◌∙◌, subst, inl, inr, arith, Option, Some, get_or, length-set, get_or-set_other, get_or-set_same}
use Rattle.std.proofs.lemmas.Bool.{cases_Bool}
use mathlib.Core.Logic.{dite}
use mathlib.Core.Option.{some}
use native.Mathlib.Decide.{ℕ_discrete}
use lib.ListN.{get_elem?}
use Rattle.atomic_table.specs.Table.{State, Joins}
use Rattle.atomic_table.proofs.Lists.{set_else}
use Rattle.ref_words.specs.declared.answer.Found.{Found}
use Rattle.ref_words.specs.declared.answer.Found.TheVariants.{Held, Dead}
use Rattle.ref_words.specs.declared.answer.Stage.{Stage}
use Rattle.ref_words.specs.declared.answer.Stage.TheVariants.{Fresh, InUse, Gone}
use Rattle.ref_words.specs.declared.slip.Slip.{Slip}
use Rattle.ref_words.specs.Words.{IsOut, same_slip, without}
use Rattle.ref_words.specs.Plain.{notes_of, copies_of}
use Rattle.ref_words.proofs.Notes.{same_slip-true, copies_out, notes_without, notes_without_itself}
use Rattle.count_rule.specs.declared.view.Counted.{Counted}
use Rattle.count_rule.specs.declared.view.View.{View}
use Rattle.count_rule.specs.declared.view.View.TheVariants.{Kernel, Ticket, Spent}
use Rattle.count_rule.specs.Views.{words_of, own_of, stage_of, late_of, ticket_bit, tickets, holds_open, found_dead, holding, too_late}
use Rattle.count_rule.specs.Shows.{IsShown, IsStillHeld, Shows, Holds}
use Rattle.count_rule.specs.Moves.{counted_of, slip_of, found_of, joining, joined_with}
use Rattle.count_rule.specs.Seats.{IsCalm}
use Rattle.count_rule.proofs.Tickets.{tickets_set, tickets_kernel, bit_here, bit_else}
use Rattle.count_rule.proofs.Kept.{kept_held, kept_dead, placed}
use Rattle.count_rule.proofs.Shown.{none_if, shown_as}
use Rattle.count_rule.proofs.Moved.{sees, first_set}
use Rattle.count_rule.proofs.Opened.{ticket_out}

-- a note that came back is counted no more
filter_without : (test : Slip → Bool) (s : Slip) (out : List Slip)
    → length (filter test (without s out)) + (if test s then copies_of s out else 0) ≡ length (filter test out)
filter_without test s [] = elim (cases_Bool (test s)) [ inl passes ↦ rw passes refl | inr fails ↦ rw fails refl ]
filter_without test s (x ∷ xs) =
    let rest = filter_without test s xs in
    elim (cases_Bool (same_slip x s)) [
      | inl same ↦
          let is : x ≡ s = same_slip-true x s same in
          elim (cases_Bool (test s)) [
            | inl passes ↦
                let here : test x ≡ true = ap test is ∙ passes in
                let old = rw passes at rest in
                rw (passes, same, here) (omega arith)
            | inr fails ↦
                let here : test x ≡ false = ap test is ∙ fails in
                let old = rw fails at rest in
                rw (fails, same, here) old
          ]
      | inr differs ↦
          elim (cases_Bool (test s)) [
            | inl passes ↦
                let old = rw passes at rest in
                elim (cases_Bool (test x)) [ inl x_passes ↦ rw (passes, differs, x_passes) (omega arith) | inr x_fails ↦ rw (passes, differs, x_fails) old ]
            | inr fails ↦
                let old = rw fails at rest in
                elim (cases_Bool (test x)) [ inl x_passes ↦ rw (fails, differs, x_passes) (omega arith) | inr x_fails ↦ rw (fails, differs, x_fails) old ]
          ]
    ]

filter_back : (test : Slip → Bool) (s : Slip) (found : Option Found) (out : List Slip) → copies_of s out ≡ 1
    → length (filter test (without s out)) + ticket_bit (λ slip f. test slip) (Ticket s found)
    ≡ length (filter test out)
filter_back test s found out one =
    let all = filter_without test s out in
    elim (cases_Bool (test s)) [
      | inl passes ↦ let old = rw passes at all in rw passes (omega arith)
      | inr fails ↦ let old = rw fails at all in rw fails old
    ]

held_in_use : (stage : Stage) (word own holds late : ℕ) → IsShown stage word own holds late → 0 < holds → stage ≡ InUse
held_in_use Fresh word own holds late h some_held = absurd (omega (arith, h.2))
held_in_use InUse word own holds late h some_held = refl
held_in_use Gone word own holds late h some_held = absurd (omega (arith, h.2))

late_gone : (stage : Stage) (word own holds late : ℕ) → IsShown stage word own holds late → 0 < late → stage ≡ Gone
late_gone Fresh word own holds late h some_late = absurd (omega (arith, h.3))
late_gone InUse word own holds late h some_late = absurd (omega (arith, h.2))
late_gone Gone word own holds late h some_late = refl

-- the views have lost one ticket
abbrev HasLost : List View → List View → View → Type 0
HasLost views others ticket = (test : Slip → Option Found → Bool) → tickets test others + ticket_bit test ticket ≡ tickets test views

notes_back : (k : Counted) (words : List ℕ) (views others : List View) (slip : Slip) (found : Option Found)
    → Shows k words views → IsOut (words_of [] k) slip → HasLost views others (Ticket slip found) → (test : Slip → Bool)
    → tickets (λ s f. test s) others ≡ length (filter test (without slip k.out))
notes_back k words views others slip found r out lost test =
    let one : copies_of slip k.out ≡ 1 = omega (arith, r.kept.once slip, copies_out k.out slip out) in
    omega (arith, lost (λ s f. test s), r.are_notes test, filter_back test slip found k.out one)

back_held : (k : Counted) (words : List ℕ) (views others : List View) (slip : Slip) → Shows k words views → IsCalm k
    → IsOut (words_of [] k) slip → HasLost views others (Ticket slip (Some Held))
    → Shows (joining slip Held k) words others
back_held k words views others slip r calm out lost =
    let p : ℕ = slip.place in
    let inside : p < length words = omega (arith, placed (words_of [] k) slip r.kept out, r.as_many) in
    let less : holding p others + 1 ≡ holding p views = omega
    (arith, lost (λ s f. eqb s.place p && holds_open f), bit_here holds_open p slip (Some Held) refl) in
    let used : stage_of k p ≡ InUse = held_in_use (stage_of k p) _ _ _ _ (r.shown p inside) (omega arith) in
    record {
      as_many = r.as_many ∙ sym (length-set k.own p (own_of k p + 1));
      late_sizes = r.late_sizes ∙ sym (length-set k.own p (own_of k p + 1));
      shown = λ q within.
          let as_late : too_late q views ≡ too_late q others = dite (ℕ_discrete p q)
          (λ e. omega (arith, lost (λ s f. eqb s.place q && found_dead f), bit_here found_dead q slip (Some Held) e))
          (λ ne. omega (arith, lost (λ s f. eqb s.place q && found_dead f), bit_else found_dead q slip (Some Held) ne)) in
          dite (ℕ_discrete p q)
          (λ e.
          let was = shown_as k words views p InUse r inside used in
          let one_more : get_or (set k.own p (own_of k p + 1)) p 0 ≡ own_of k p + 1 = get_or-set_same k.own p (own_of k p + 1) 0 (omega (arith, r.as_many)) in
          let late_here : too_late p views ≡ too_late p others = subst (λ (z : ℕ). too_late z views ≡ too_late z others) (sym e) as_late in
          subst (λ (z : ℕ). IsShown (stage_of k z) (get_or words z 0) (get_or (set k.own p (own_of k p + 1)) z 0)
          (holding z others) (late_of k z + too_late z others)) e
          (rw (used, one_more) (omega (arith, was.0), was.1, omega (arith, was.2))))
          (λ ne.
          let as_many : holding q views ≡ holding q others = omega
          (arith, lost (λ s f. eqb s.place q && holds_open f), bit_else holds_open q slip (Some Held) ne) in
          subst (λ (x : ℕ × ℕ × ℕ). IsShown (stage_of k q) (get_or words q 0) x.0 x.1 (late_of k q + x.2))
          (λ i. (sym (get_or-set_other k.own p q (own_of k p + 1) 0 (λ e. ne (sym e))) i, as_many i, as_late i))
          (r.shown q within));
      are_notes = notes_back k words views others slip (Some Held) r out lost;
      kept = kept_held (words_of [] k) slip r.kept out used;
      few_late = λ q. omega (arith, r.few_late q, notes_without q slip k.out);
      few_made = r.few_made;
      closing = none_if k.closing (IsStillHeld (joining slip Held k) words) calm.0;
      joined = (out, ((λ e. absurd (cc)), λ gone. absurd (cc)));
    }

back_dead : (k : Counted) (words : List ℕ) (views others : List View) (slip : Slip) → Shows k words views → IsCalm k
    → IsOut (words_of [] k) slip → HasLost views others (Ticket slip (Some Dead))
    → Shows (joining slip Dead k) words others
back_dead k words views others slip r calm out lost =
    let p : ℕ = slip.place in
    let inside : p < length words = omega (arith, placed (words_of [] k) slip r.kept out, r.as_many) in
    let sized : p < length k.late = omega (arith, r.as_many, r.late_sizes) in
    let less : too_late p others + 1 ≡ too_late p views = omega
    (arith, lost (λ s f. eqb s.place p && found_dead f), bit_here found_dead p slip (Some Dead) refl) in
    let gone : stage_of k p ≡ Gone = late_gone (stage_of k p) _ _ _ _ (r.shown p inside) (omega arith) in
    let one_more : get_or (set k.late p (late_of k p + 1)) p 0 ≡ late_of k p + 1 = get_or-set_same k.late p (late_of k p + 1) 0 sized in
    record {
      as_many = r.as_many;
      late_sizes = length-set k.late p (late_of k p + 1) ∙ r.late_sizes;
      shown = λ q within.
          let as_many : holding q views ≡ holding q others = dite (ℕ_discrete p q)
          (λ e. omega (arith, lost (λ s f. eqb s.place q && holds_open f), bit_here holds_open q slip (Some Dead) e))
          (λ ne. omega (arith, lost (λ s f. eqb s.place q && holds_open f), bit_else holds_open q slip (Some Dead) ne)) in
          dite (ℕ_discrete p q)
          (λ e.
          let was = shown_as k words views p Gone r inside gone in
          let many_here : holding p views ≡ holding p others = subst (λ (z : ℕ). holding z views ≡ holding z others) (sym e) as_many in
          subst (λ (z : ℕ). IsShown (stage_of k z) (get_or words z 0) (own_of k z) (holding z others)
          (get_or (set k.late p (late_of k p + 1)) z 0 + too_late z others)) e
          (rw (gone, one_more) (omega (arith, was.0), was.1, omega (arith, was.2))))
          (λ ne.
          let as_late : too_late q views ≡ too_late q others = omega
          (arith, lost (λ s f. eqb s.place q && found_dead f), bit_else found_dead q slip (Some Dead) ne) in
          subst (λ (x : ℕ × ℕ × ℕ). IsShown (stage_of k q) (get_or words q 0) (own_of k q) x.0 (x.1 + x.2))
          (λ i. (as_many i, sym (get_or-set_other k.late p q (late_of k p + 1) 0 (λ e. ne (sym e))) i, as_late i))
          (r.shown q within));
      are_notes = notes_back k words views others slip (Some Dead) r out lost;
      kept = kept_dead (words_of [] k) slip r.kept;
      few_late = λ q. dite (ℕ_discrete p q)
          (λ e.
          let few = r.few_late p in let fewer = notes_without_itself slip k.out out in
          let here : get_or (set k.late p (late_of k p + 1)) p 0 + notes_of p (without slip k.out) ≤ k.made = omega arith in
          subst (λ (z : ℕ). get_or (set k.late p (late_of k p + 1)) z 0 + notes_of z (without slip k.out) ≤ k.made) e here)
          (λ ne. omega (arith, r.few_late q, notes_without q slip k.out, get_or-set_other k.late p q (late_of k p + 1) 0 (λ e. ne (sym e))));
      few_made = r.few_made;
      closing = none_if k.closing (IsStillHeld (joining slip Dead k) words) calm.0;
      joined = (out, ((λ e. gone), λ e. refl));
    }

back : (k : Counted) (words : List ℕ) (views others : List View) (slip : Slip) (found : Found) → Shows k words views
    → IsCalm k → IsOut (words_of [] k) slip → HasLost views others (Ticket slip (Some found))
    → Shows (joining slip found k) words others
back k words views others slip Held r calm out lost = back_held k words views others slip r calm out lost
back k words views others slip Dead r calm out lost = back_dead k words views others slip r calm out lost

module _ {S : Type 0} where
  pub joins_allowed : (id : ℕ) (v : View) (other : ℕ) (w : View) → id ≡ 0 → v ≡ Kernel (counted_of v)
      → IsCalm (counted_of v) → w ≡ Ticket (slip_of w) (Some (found_of w))
      → Joins {S = S} Holds id v other w (joined_with v w) Spent
  joins_allowed id v other w first is calm ticket s r at apart there =
      let k : Counted = counted_of v in let slip : Slip = slip_of w in let found : Found = found_of w in let new : Counted = joining slip found k in
      let at0 : get_elem? s.views 0 ≡ some (Kernel k) = subst (λ (j : ℕ). get_elem? s.views j ≡ some (Kernel k)) first (at ∙ ap (λ (x : View). some x) is) in
      let one : List View = set s.views 0 (Kernel new) in
      let not_first : other ≢ 0 = λ e. apart (e ∙ sym first) in
      let there0 : get_elem? one other ≡ some (Ticket slip (Some found)) =
      subst (λ (j : ℕ). get_elem? (set s.views j (Kernel new)) other ≡ some (Ticket slip (Some found))) first
      (there ∙ ap (λ (x : View). some x) ticket) in
      let before : get_elem? s.views other ≡ some (Ticket slip (Some found)) = sym (set_else s.views 0 other (Kernel new) not_first) ∙ there0 in
      let shows = sees s k r at0 in
      let out = ticket_out k s.words s.views other slip (Some found) shows before in
      let lost : HasLost s.views (set one other Spent) (Ticket slip (Some found)) =
      λ test. omega (arith, tickets_set test one other (Ticket slip (Some found)) Spent there0, tickets_kernel test s.views 0 k new at0) in
      subst (λ (j : ℕ). Holds (let t : State S View = record
      { words = s.words; homes = s.homes; views = set (set s.views j (Kernel new)) other Spent } in t)) (sym first)
      record {
        kernel = new;
        seated = set_else one other 0 Spent (λ e. not_first (sym e)) ∙ first_set s.views (Kernel k) (Kernel new) at0;
        shows = back k s.words s.views (set one other Spent) slip found shows calm out lost;
      }
