-- Who may come to stand among waiters, and who stands nowhere once it is struck.
use Rattle.std.proofs.Common.{◌≡◌, inl, inr, ℕ, ◌<◌, List, [], ◌∷◌, length, get_or, refl, sym, ap, subst, ◌∙◌, Option, Some, None, Bool, true, false}
use Rattle.std.specs.Prelude.{not, ◌==◌, if◌then◌else◌, nat_lt, slice_set}
use Rattle.std.proofs.lemmas.Bool.{cases_eq, cases_lt, or_from, false_from_ne_true}
use Rattle.std.proofs.lemmas.List.{get_or-set_same, get_or-set_other, get_or_past}
use Rattle.sym_base.specs.declared.number.ObjNo.{ObjNo}
use Rattle.script_types.specs.declared.script.Script.{Script}
use Rattle.script_types.specs.declared.instruction.Instr.{Instr}
use Rattle.state_rows.specs.Locks.{is_among, waiters_at, without}
use Rattle.state_rows.specs.LockChanges.{passed, signal_answer, unlock_answer}
use Rattle.state_rows.specs.declared.locks.Owner.{Owner}
use Rattle.state_rows.specs.declared.locks.Signalled.TheVariants.{Counted, Woke, Overflow}
use Rattle.state_rows.specs.declared.locks.Unlocked.TheVariants.{Level, Passed, NotOwner}
use Rattle.state_rows.specs.declared.thread.Waiting.TheVariants as waiting
use Rattle.state_rows.specs.declared.thread.ThreadRow.{ThreadRow}
use Rattle.machine.specs.declared.state.State.{State}
use Rattle.machine.specs.Rows.{thread_of}
use Rattle.machine.specs.Fits.{WaitsNowhere}
use Rattle.machine.specs.WellFormed.{AreRows}
use Rattle.machine_laws.proofs.Fitting.Stepping.{IsStepping}

-- a thread that waits for no object stands among no waiters
pub waits_nowhere : (script : Script) (S : State) (u : ObjNo) (row : ThreadRow) → AreRows script S
    → thread_of S u ≡ Some row → ((o : ObjNo) → row.waiting ≡ waiting.Lock o → ⊥) → WaitsNowhere S u
waits_nowhere script S u row rows is not_for o = false_from_ne_true (is_among u (waiters_at S.synchronization.locks o)) (λ among.
    let awaits = rows.synchronization.locks.waiters u o among in
    let there = awaits.is in
    let same : row ≡ awaits.row = cc in
    not_for o (ap (λ (r : ThreadRow). r.waiting) same ∙ awaits.waits))

pub stepping_nowhere : {script : Script} {S : State} {t : ObjNo} {row : ThreadRow} {instr : Instr} → IsStepping script S t row instr → WaitsNowhere S t
stepping_nowhere {script = script} {S = S} {t = t} {row = row} h = waits_nowhere script S t row h.rows h.is (λ o e. let nothing = h.waits in absurd (cc))

-- a mutex is passed to the best waiter, and a signal wakes it
pub passed_is : (owner : Option Owner) (t : ObjNo) (best : Option ObjNo) (w : ObjNo) → unlock_answer owner t best ≡ Passed w → best ≡ Some w
passed_is None t best w e = absurd (cc)
passed_is (Some owner) t best w e = by_owner (owner.thread.0 == t.0) e
  where
    by_best : (x : Option ObjNo) → passed x ≡ Passed w → x ≡ Some w
    by_best None e = absurd (cc)
    by_best (Some x) e = let same : x ≡ w = cc in ap Some same

    by_level : (b : Bool) → (if b then Level else passed best) ≡ Passed w → best ≡ Some w
    by_level true e = absurd (cc)
    by_level false e = by_best best e

    by_owner : (b : Bool) → (if b then (if nat_lt 1 owner.level then Level else passed best) else NotOwner) ≡ Passed w → best ≡ Some w
    by_owner true e = by_level (nat_lt 1 owner.level) e
    by_owner false e = absurd (cc)

pub woke_is : (best : Option ObjNo) (count : ℕ) (w : ObjNo) → signal_answer best count ≡ Woke w → best ≡ Some w
woke_is (Some x) count w e = let same : x ≡ w = cc in ap Some same
woke_is None count w e = absurd (by (nat_lt count 2147483647) e)
  where
    by : (b : Bool) → (if b then Counted else Overflow) ≡ Woke w → ⊥
    by true e = cc
    by false e = cc

-- a list of waiters without one hasn't that one
without_step : (w x : ObjNo) (xs : List ObjNo) (b : Bool) → (x.0 == w.0) ≡ b → is_among w xs ≡ false → is_among w (if not b then x ∷ xs else xs) ≡ false
without_step w x xs true e h = h
without_step w x xs false e h = or_from (x.0 == w.0) (is_among w xs) e h

pub without_apart : (w : ObjNo) (queue : List ObjNo) → is_among w (without w queue) ≡ false
without_apart w [] = refl
without_apart w (x ∷ xs) = without_step w x (without w xs) (x.0 == w.0) refl (without_apart w xs)

-- where there are waiters there is an object
among_inside : (lists : List (List ObjNo)) (k : ℕ) (w : ObjNo) → is_among w (get_or lists k []) ≡ true → k < length lists
among_inside lists k w among = elim (cases_lt k (length lists)) [
  | inl lt ↦ lt
  | inr past ↦
      let none = get_or_past lists k [] past in
      let e : is_among w [] ≡ true = subst (λ (l : List ObjNo). is_among w l ≡ true) none among in
      absurd (cc)
]

-- whoever is struck where it stood among the waiters of an object stands nowhere
pub struck_nowhere : (script : Script) (S : State) (o w : ObjNo) → AreRows script S
    → is_among w (waiters_at S.synchronization.locks o) ≡ true → (x : ObjNo)
    → is_among w (get_or (slice_set S.synchronization.locks.waiters o.0
    (without w (waiters_at S.synchronization.locks o))) x.0 []) ≡ false
struck_nowhere script S o w rows among x =
    let lists = S.synchronization.locks.waiters in
    let struck = without w (waiters_at S.synchronization.locks o) in
    elim (cases_eq o.0 x.0) as (λ _. is_among w (get_or (slice_set lists o.0 struck) x.0 []) ≡ false) [
      | inl same ↦ subst (λ (k : ℕ). is_among w (get_or (slice_set lists o.0 struck) k []) ≡ false) same
          (ap (is_among w) (get_or-set_same lists o.0 struck [] (among_inside lists o.0 w among)) ∙ without_apart w (waiters_at S.synchronization.locks o))
      | inr apart ↦
          ap (is_among w) (get_or-set_other lists o.0 x.0 struck [] (λ e. apart (sym e)))
          ∙ false_from_ne_true (is_among w (waiters_at S.synchronization.locks x)) (λ elsewhere.
          let here = rows.synchronization.locks.waiters w o among in
          let there = rows.synchronization.locks.waiters w x elsewhere in
          let one = here.is in
          let other = there.is in
          let row : here.row ≡ there.row = cc in
          let waits : waiting.Lock o ≡ waiting.Lock x = sym here.waits ∙ ap (λ (r : ThreadRow). r.waiting) row ∙ there.waits in
          let object : o ≡ x = cc in
          apart (ap (λ (y : ObjNo). y.0) object))
    ]
