-- What threads owe, where that or a thread's row changes.
use Rattle.std.proofs.Common.{◌≡◌, ◌⊎◌, inl, inr, ℕ, ◌+◌, ◌*◌, ◌≤◌, List, [], ◌∷◌, ◌++◌, length, get_or, arith, refl, sym, subst, ap, ◌∙◌, Option, Some, None, true, false}
use Rattle.std.specs.Prelude.{slice_set, drop, ◌==◌, option_map}
use Rattle.std.proofs.lemmas.Bool.{cases_eq, cases_Bool}
use Rattle.sym_base.specs.declared.number.ObjNo.{ObjNo}
use Rattle.entry_log.specs.declared.effect.Holder.{Holder}
use Rattle.entry_log.specs.declared.effect.Holder.TheVariants.{Temp, Own, Link, Message, Kernel}
use Rattle.state_rows.specs.declared.duty.Owed.{Owed}
use Rattle.state_rows.specs.declared.duty.Owed.TheVariants.{Close, Sweep}
use Rattle.state_rows.specs.declared.servers.ServerRows.{ServerRows}
use Rattle.state_rows.specs.declared.thread.ThreadRow.{ThreadRow}
use Rattle.machine.specs.Rows.{with_row, owing, without_first}
use Rattle.machine.specs.References.{total, same}
use Rattle.machine.specs.Holding.{same_pair}
use Rattle.machine.specs.HeldIn.{owed_by}
use Rattle.machine.specs.Out.{is_returning, part_of}
use Rattle.machine.specs.WellFormed.{MayOwe, EachMayOwe, AreDuties, owed_sweeps, weight}
use Rattle.move_laws.proofs.Holders.ThreadRows.{row-here, row-other}
use Rattle.move_laws.proofs.RowLaws.Threads.{length-with_row, none-with_row}
use Rattle.move_laws.proofs.Lists.Sets.{set_either}
use Rattle.move_laws.proofs.Lists.Totals.{total-append, total-drop, total_at_most}
use Rattle.move_laws.proofs.References.Same.{if_not, eqb_apart, same_object}

-- as many other rows of threads, of which none is new, and in which thread k isn't between a find and its return where it wasn't
pub record IsPaidIn (threads other : List (Option ThreadRow)) (k : ℕ) : Type 0 where
  pub long : length other ≡ length threads
  pub none : (j : ℕ) → get_or threads j None ≡ None → get_or other j None ≡ None
  pub going : is_returning (part_of (get_or threads k None)) ≡ false → is_returning (part_of (get_or other k None)) ≡ false

part_going : (f : ThreadRow → ThreadRow) (x : Option ThreadRow)
    → ((row : ThreadRow) → is_returning row.part ≡ false → is_returning (f row).part ≡ false)
    → is_returning (part_of x) ≡ false → is_returning (part_of (option_map f x)) ≡ false
part_going f None keeps h = h
part_going f (Some row) keeps h = keeps row h

-- a change of a row that begins no return
pub paid-with_row : (threads : List (Option ThreadRow)) (t : ObjNo) (f : ThreadRow → ThreadRow)
    → ((row : ThreadRow) → is_returning row.part ≡ false → is_returning (f row).part ≡ false) → (k : ℕ)
    → IsPaidIn threads (with_row threads t f) k
paid-with_row threads t f keeps k = record {
  long = length-with_row threads t f;
  none = none-with_row threads t f;
  going = λ h. elim (cases_eq t.0 k) as (λ _. is_returning (part_of (get_or (with_row threads t f) k None)) ≡ false) [
    | inl at ↦
        let old : is_returning (part_of (get_or threads t.0 None)) ≡ false = ap (λ (n : ℕ). is_returning (part_of (get_or threads n None))) at ∙ h in
        ap (λ (x : Option ThreadRow). is_returning (part_of x)) (row-here threads t f k at) ∙ part_going f (get_or threads t.0 None) keeps old
    | inr apart ↦ ap (λ (x : Option ThreadRow). is_returning (part_of x)) (row-other threads t f k apart) ∙ h
  ];
}

may_owe-kept : (threads other : List (Option ThreadRow)) (r : ServerRows) (accepted k : ℕ) (h : Holder) (o : ObjNo)
    (later : List Owed)
    → IsPaidIn threads other k → MayOwe threads r accepted k h o later → MayOwe other r accepted k h o later
may_owe-kept threads other r accepted k (Temp u) o later stays own = own
may_owe-kept threads other r accepted k (Own u) o later stays own = own
may_owe-kept threads other r accepted k (Link x) o later stays own = ((stays.none o.0 own.0.0, own.0.1), own.1)
may_owe-kept threads other r accepted k (Message m) o later stays own = own
may_owe-kept threads other r accepted k Kernel o later stays own = tt
may_owe-kept threads other r accepted k _ o later stays own = absurd own

each_may_owe-kept : (threads other : List (Option ThreadRow)) (r : ServerRows) (accepted k : ℕ) (what : List Owed)
    → IsPaidIn threads other k → EachMayOwe threads r accepted k what → EachMayOwe other r accepted k what
each_may_owe-kept threads other r accepted k [] stays own = tt
each_may_owe-kept threads other r accepted k (Close h o ∷ rest) stays own = (
  may_owe-kept threads other r accepted k h o rest stays own.0,
  each_may_owe-kept threads other r accepted k rest stays own.1,
)
each_may_owe-kept threads other r accepted k (Sweep o ∷ rest) stays own = each_may_owe-kept threads other r accepted k rest stays own

-- a thread that owes nothing may owe that
pub duties-threads : (threads other : List (Option ThreadRow)) (r : ServerRows) (accepted : ℕ) (owed : List (List Owed))
    → ((k : ℕ) → (get_or owed k [] ≡ []) ⊎ IsPaidIn threads other k) → AreDuties threads r accepted owed
    → AreDuties other r accepted owed
duties-threads threads other r accepted owed stays h = record {
  own = λ k. elim (stays k) as (λ _. EachMayOwe other r accepted k (get_or owed k [])) [
    | inl nothing ↦ subst (EachMayOwe other r accepted k) (sym nothing) tt
    | inr paid ↦ each_may_owe-kept threads other r accepted k (get_or owed k []) paid (h.own k)
  ];
  few = h.few;
  returns = λ k now. elim (stays k) as (λ _. get_or owed k [] ≡ []) [
    | inl nothing ↦ nothing
    | inr paid ↦ elim (cases_Bool (is_returning (part_of (get_or threads k None)))) as (λ _. get_or owed k [] ≡ []) [
      | inl before ↦ h.returns k before
      | inr going ↦ let still = paid.going going in cc
    ]
  ];
}

-- what may be owed with something behind it, with more behind that
may_owe-more : (threads : List (Option ThreadRow)) (r : ServerRows) (accepted k : ℕ) (h : Holder) (o : ObjNo) (later more : List Owed)
    → MayOwe threads r accepted k h o later → MayOwe threads r accepted k h o (later ++ more)
may_owe-more threads r accepted k (Temp u) o later more own = own
may_owe-more threads r accepted k (Own u) o later more own = own
may_owe-more threads r accepted k (Link x) o later more own = (own.0, let a = total-append (owed_sweeps x) later more in let b = own.1 in omega arith)
may_owe-more threads r accepted k (Message m) o later more own = own
may_owe-more threads r accepted k Kernel o later more own = tt
may_owe-more threads r accepted k _ o later more own = absurd own

may_owe-append : (threads : List (Option ThreadRow)) (r : ServerRows) (accepted k : ℕ) (xs ys : List Owed)
    → EachMayOwe threads r accepted k xs → EachMayOwe threads r accepted k ys
    → EachMayOwe threads r accepted k (xs ++ ys)
may_owe-append threads r accepted k [] ys h g = g
may_owe-append threads r accepted k (Close j o ∷ rest) ys h g =
    (may_owe-more threads r accepted k j o rest ys h.0, may_owe-append threads r accepted k rest ys h.1 g)
may_owe-append threads r accepted k (Sweep o ∷ rest) ys h g = may_owe-append threads r accepted k rest ys h g

-- what one thread owes changes
duties-set : (threads : List (Option ThreadRow)) (r : ServerRows) (accepted : ℕ) (owed : List (List Owed)) (t : ObjNo)
    (what : List Owed)
    → EachMayOwe threads r accepted t.0 what → total weight what ≤ 12
    → (is_returning (part_of (get_or threads t.0 None)) ≡ true → what ≡ []) → AreDuties threads r accepted owed
    → AreDuties threads r accepted (slice_set owed t.0 what)
duties-set threads r accepted owed t what own few paid h = record {
  own = λ k. elim (set_either owed t.0 what k []) as (λ _. EachMayOwe threads r accepted k (get_or (slice_set owed t.0 what) k [])) [
    | inl at ↦ subst (EachMayOwe threads r accepted k) (sym at.1) (subst (λ (n : ℕ). EachMayOwe threads r accepted n what) (sym at.0) own)
    | inr e ↦ subst (EachMayOwe threads r accepted k) (sym e) (h.own k)
  ];
  few = λ k. elim (set_either owed t.0 what k []) as (λ _. total weight (get_or (slice_set owed t.0 what) k []) ≤ 12) [
    | inl at ↦ let a = ap (total weight) at.1 in omega arith
    | inr e ↦ let a = ap (total weight) e in let b = h.few k in omega arith
  ];
  returns = λ k now. elim (set_either owed t.0 what k []) as (λ _. get_or (slice_set owed t.0 what) k [] ≡ []) [
    | inl at ↦ at.1 ∙ paid (ap (λ (n : ℕ). is_returning (part_of (get_or threads n None))) (sym at.0) ∙ now)
    | inr e ↦ e ∙ h.returns k now
  ];
}

pub duties-owing : (threads : List (Option ThreadRow)) (r : ServerRows) (accepted : ℕ) (owed : List (List Owed))
    (t : ObjNo) (more : List Owed)
    → EachMayOwe threads r accepted t.0 more → total weight (get_or owed t.0 []) + total weight more ≤ 12
    → is_returning (part_of (get_or threads t.0 None)) ≡ false → AreDuties threads r accepted owed
    → AreDuties threads r accepted (owing owed t more)
duties-owing threads r accepted owed t more own few going h =
    let both = total-append weight (get_or owed t.0 []) more in
    duties-set threads r accepted owed t (get_or owed t.0 [] ++ more)
    (may_owe-append threads r accepted t.0 (get_or owed t.0 []) more (h.own t.0) own) (omega arith) (λ now. cc) h

may_owe-drop : (threads : List (Option ThreadRow)) (r : ServerRows) (accepted k : ℕ) (what : List Owed)
    → EachMayOwe threads r accepted k what → EachMayOwe threads r accepted k (drop 1 what)
may_owe-drop threads r accepted k [] h = tt
may_owe-drop threads r accepted k (Close j o ∷ rest) h = h.1
may_owe-drop threads r accepted k (Sweep o ∷ rest) h = h

pub duties-without_first : (threads : List (Option ThreadRow)) (r : ServerRows) (accepted : ℕ) (owed : List (List Owed))
    (t : ObjNo)
    → AreDuties threads r accepted owed → AreDuties threads r accepted (without_first owed t)
duties-without_first threads r accepted owed t h =
    let less = total-drop weight (get_or owed t.0 []) in
    let few = h.few t.0 in
    duties-set threads r accepted owed t (drop 1 (get_or owed t.0 []))
    (may_owe-drop threads r accepted t.0 (get_or owed t.0 []) (h.own t.0)) (omega arith)
    (λ now. ap (drop 1) (h.returns t.0 now)) h

-- what a thread owes after it owes more weighs what both weigh
pub weight-owing : (owed : List (List Owed)) (t : ObjNo) (more : List Owed)
    → total weight (get_or (owing owed t more) t.0 []) ≤ total weight (get_or owed t.0 []) + total weight more
weight-owing owed t more =
    elim (set_either owed t.0 (get_or owed t.0 [] ++ more) t.0 []) as
    (λ _. total weight (get_or (owing owed t more) t.0 []) ≤ total weight (get_or owed t.0 []) + total weight more) [
      | inl at ↦ let a = ap (total weight) at.1 in let b = total-append weight (get_or owed t.0 []) more in omega arith
      | inr e ↦ let a = ap (total weight) e in omega arith
    ]

pair_apart : (threads : List (Option ThreadRow)) (r : ServerRows) (accepted k : ℕ) (h g : Holder) (o x : ObjNo) (later : List Owed)
    → MayOwe threads r accepted k h o later → ((y : ObjNo) → MayOwe threads r accepted k g y later → ⊥) → same_pair h o g x ≡ 0
pair_apart threads r accepted k (Temp u) (Temp v) o x later own apart = if_not (u.0 == v.0) (same o x) (eqb_apart u.0 v.0 (λ e. apart o (sym e ∙ own)))
pair_apart threads r accepted k (Own u) (Own v) o x later own apart = if_not (u.0 == v.0) (same o x) (eqb_apart u.0 v.0 (λ e. apart o (sym e ∙ own)))
pair_apart threads r accepted k (Link u) (Link v) o x later own apart =
    if_not (u.0 == v.0) (same o x) (eqb_apart u.0 v.0
    (λ e. apart o (subst (λ (y : ObjNo). MayOwe threads r accepted k (Link y) o later) (same_object u v e) own)))
pair_apart threads r accepted k (Message m) (Message n) o x later own apart =
    if_not (m.0 == n.0) (same o x) (eqb_apart m.0 n.0 (λ e. apart o (omega arith)))
pair_apart threads r accepted k (Temp u) _ o x later own apart = refl
pair_apart threads r accepted k (Own u) _ o x later own apart = refl
pair_apart threads r accepted k (Link u) _ o x later own apart = refl
pair_apart threads r accepted k (Message m) _ o x later own apart = refl
pair_apart threads r accepted k Kernel Kernel o x later own apart = absurd (apart o own)
pair_apart threads r accepted k Kernel _ o x later own apart = refl
pair_apart threads r accepted k _ g o x later own apart = absurd own

-- what stands behind something in what is owed: each sweep of it is one of all
abbrev pub IsBehind : List Owed → List Owed → Type 0
IsBehind what later = (x : ObjNo) → total (owed_sweeps x) later ≤ total (owed_sweeps x) what

not_owed : (threads : List (Option ThreadRow)) (r : ServerRows) (accepted k : ℕ) (what : List Owed) (g : Holder)
    (x : ObjNo)
    → EachMayOwe threads r accepted k what
    → ((y : ObjNo) (later : List Owed) → IsBehind what later → MayOwe threads r accepted k g y later → ⊥)
    → total (owed_by g x) what ≡ 0
not_owed threads r accepted k [] g x h apart = refl
not_owed threads r accepted k (Close j o ∷ rest) g x h apart =
    let a = pair_apart threads r accepted k j g o x rest h.0 (λ y. apart y rest (λ z. omega arith)) in
    let r = not_owed threads r accepted k rest g x h.1 (λ y later behind. apart y later (λ z. let b = behind z in omega arith)) in
    omega arith
not_owed threads r accepted k (Sweep o ∷ rest) g x h apart =
    let r = not_owed threads r accepted k rest g x h (λ y later behind. apart y later (λ z. let b = behind z in omega arith)) in omega arith

-- no close is owed of a holder whose references nobody may owe
pub none_owed : (threads : List (Option ThreadRow)) (r : ServerRows) (accepted : ℕ) (owed : List (List Owed))
    (g : Holder) (x : ObjNo)
    → AreDuties threads r accepted owed
    → ((k : ℕ) (y : ObjNo) (later : List Owed) → IsBehind (get_or owed k []) later → MayOwe threads r accepted k g y later → ⊥)
    → total (total (owed_by g x)) owed ≡ 0
none_owed threads r accepted owed g x h apart =
    let few : total (total (owed_by g x)) owed
    ≤ 0 * length owed = total_at_most (total (owed_by g x)) 0 owed []
    (λ k inside. let a = not_owed threads r accepted k (get_or owed k []) g x (h.own k) (apart k) in omega arith) in
    omega arith

-- no close is owed of a holder whose references only a thread may owe that owes none
pub none_owed_by : (threads : List (Option ThreadRow)) (r : ServerRows) (accepted : ℕ) (owed : List (List Owed))
    (t : ObjNo) (g : Holder) (x : ObjNo)
    → AreDuties threads r accepted owed → ((k : ℕ) (y : ObjNo) (later : List Owed) → MayOwe threads r accepted k g y later → t.0 ≡ k)
    → total (owed_by g x) (get_or owed t.0 []) ≡ 0 → total (total (owed_by g x)) owed ≡ 0
none_owed_by threads r accepted owed t g x h only paid =
    let few : total (total (owed_by g x)) owed ≤ 0 * length owed = total_at_most (total (owed_by g x)) 0 owed [] (λ k inside.
    elim (cases_eq t.0 k) as (λ _. total (owed_by g x) (get_or owed k []) ≤ 0) [
      | inl at ↦ let e : total (owed_by g x) (get_or owed k []) ≡ 0 = ap (λ (n : ℕ). total (owed_by g x) (get_or owed n [])) (sym at) ∙ paid in omega arith
      | inr apart ↦ let a = not_owed threads r accepted k (get_or owed k []) g x (h.own k) (λ y later behind own. apart (only k y later own)) in omega arith
    ]) in
    omega arith
