-- Lists of threads: who stands in one after a thread came or left, and each once.
use Rattle.std.proofs.Common.{◌≡◌, inl, inr, ◌⊎◌, ℕ, Bool, true, false, List, [], ◌∷◌, ◌++◌, refl, sym, ap, ◌∙◌}
use Rattle.std.specs.Prelude.{◌==◌, ◌||◌, not, filter, if◌then◌else◌}
use Rattle.std.proofs.lemmas.Bool.{cases_Bool, eq-eqb, eqb-true, or_parts, or_from, or_left, or_right, not-true}
use Rattle.sym_base.specs.declared.number.ObjNo.{ObjNo}
use Rattle.script_types.specs.declared.script.Script.{Script}
use Rattle.machine.specs.declared.moves.Move.{Move}
use Rattle.state_rows.specs.declared.duty.Owed.TheVariants.{Sweep}
use Rattle.machine.specs.declared.moves.Move.TheVariants.{SetPriority, Pay}
use Rattle.machine.specs.declared.state.State.{State}
use Rattle.machine.specs.Arrivals.{is_listed, unlisted, touched, taken_out}
use Rattle.machine.specs.Task.{is_ready}
use Rattle.kernel_tables.specs.Moved.{is_set}
use Rattle.kernel_tables.specs.ReadyQueues.{leave, leave_along}

-- threads of one number are one
pub one_thread : (x y : ObjNo) → (x.0 == y.0) ≡ true → x ≡ y
one_thread x y e = let named : ℕ → ObjNo = λ n. record { 0 = n } in ap named (eqb-true x.0 y.0 e)

-- who stands in a list with one more
pub listed_behind : (qs : List ObjNo) (u t : ObjNo) → is_listed (qs ++ u ∷ []) t ≡ true → is_listed qs t ≡ true ⊎ (u ≡ t)
listed_behind [] u t h = elim (cases_Bool (u.0 == t.0)) [
  | inl same ↦ inr (one_thread u t same)
  | inr other ↦ let clash : false ≡ true = rw other at h in absurd (cc)
]
listed_behind (q ∷ qs) u t h = elim (cases_Bool (q.0 == t.0)) [
  | inl same ↦ inl (or_left (q.0 == t.0) (is_listed qs t) same)
  | inr other ↦ elim (listed_behind qs u t (rw other at h)) [
    | inl before ↦ inl (or_right (q.0 == t.0) (is_listed qs t) before)
    | inr new ↦ inr new
  ]
]

-- who stands in a filtered list stands in the whole, and passes
pub filtered_listed : (p : ObjNo → Bool) (qs : List ObjNo) (t : ObjNo) → is_listed (filter p qs) t ≡ true → (is_listed qs t ≡ true) × (p t ≡ true)
filtered_listed p [] t h = let clash : false ≡ true = h in absurd (cc)
filtered_listed p (q ∷ qs) t h = elim (cases_Bool (p q)) as (λ _. (is_listed (q ∷ qs) t ≡ true) × (p t ≡ true)) [
  | inl passes ↦ elim (cases_Bool (q.0 == t.0)) as (λ _. (is_listed (q ∷ qs) t ≡ true) × (p t ≡ true)) [
    | inl same ↦ (or_left (q.0 == t.0) (is_listed qs t) same, ap p (sym (one_thread q t same)) ∙ passes)
    | inr other ↦
        let rest = filtered_listed p qs t (rw (passes, other) at h) in
        (or_right (q.0 == t.0) (is_listed qs t) rest.0, rest.1)
  ]
  | inr fails ↦
      let rest = filtered_listed p qs t (rw fails at h) in
      (or_right (q.0 == t.0) (is_listed qs t) rest.0, rest.1)
]

-- where all pass, the filtered list is the whole
filter_all : (p : ObjNo → Bool) (qs : List ObjNo) → ((t : ObjNo) → is_listed qs t ≡ true → p t ≡ true) → filter p qs ≡ qs
filter_all p [] all = refl
filter_all p (q ∷ qs) all =
    let first : p q ≡ true = all q (or_left (q.0 == q.0) (is_listed qs q) (eq-eqb q.0 q.0 refl)) in
    rw first (ap (λ l. q ∷ l) (filter_all p qs (λ t listed. all t (or_right (q.0 == t.0) (is_listed qs t) listed))))

-- a thread that doesn't pass may leave before
filter_without : (p : ObjNo → Bool) (u : ObjNo) (qs : List ObjNo) → p u ≡ false → filter p (unlisted u qs) ≡ filter p qs
filter_without p u [] none = refl
filter_without p u (q ∷ qs) none = elim (cases_Bool (q.0 == u.0)) [
  | inl same ↦ let fails : p q ≡ false = ap p (one_thread q u same) ∙ none in rw (same, fails) (filter_without p u qs none)
  | inr other ↦ elim (cases_Bool (p q)) [
    | inl passes ↦ rw (other, passes) (ap (λ l. q ∷ l) (filter_without p u qs none))
    | inr fails ↦ rw (other, fails) (filter_without p u qs none)
  ]
]

-- those that leave aren't ready
leave_filter : (script : Script) (S : State) (us qs : List ObjNo) → filter (is_ready script S) (leave script S us qs) ≡ filter (is_ready script S) qs
leave_filter script S [] qs = refl
leave_filter script S (u ∷ us) qs = elim (cases_Bool (is_ready script S u)) [
  | inl ready ↦ rw ready (leave_filter script S us qs)
  | inr done ↦ rw done (leave_filter script S us (unlisted u qs) ∙ filter_without (is_ready script S) u qs done)
]

-- who stays was there, and is ready where it was asked
leave_listed : (script : Script) (S : State) (us qs : List ObjNo) (t : ObjNo)
    → is_listed (leave script S us qs) t ≡ true
    → (is_listed qs t ≡ true) × (is_listed us t ≡ true → is_ready script S t ≡ true)
leave_listed script S [] qs t h = (h, λ clash. absurd (cc))
leave_listed script S (u ∷ us) qs t h =
    elim (cases_Bool (is_ready script S u)) as
    (λ _. (is_listed qs t ≡ true) × (is_listed (u ∷ us) t ≡ true → is_ready script S t ≡ true)) [
      | inl ready ↦
          let rest = leave_listed script S us qs t (rw ready at h) in (
            rest.0,
            λ listed. elim (cases_Bool (u.0 == t.0)) as (λ _. is_ready script S t ≡ true) [
              | inl same ↦ ap (is_ready script S) (sym (one_thread u t same)) ∙ ready
              | inr other ↦ rest.1 (rw other at listed)
            ],
          )
      | inr done ↦
          let rest = leave_listed script S us (unlisted u qs) t (rw done at h) in
          let was = filtered_listed (λ q. not (q.0 == u.0)) qs t rest.0 in (
            was.0,
            λ listed. elim (cases_Bool (u.0 == t.0)) as (λ _. is_ready script S t ≡ true) [
              | inl same ↦ let e = eq-eqb t.0 u.0 (sym (eqb-true u.0 t.0 same)) in let clash : false ≡ true = rw e at was.1 in absurd (cc)
              | inr other ↦ rest.1 (rw other at listed)
            ],
          )
    ]

-- whether some of these moves touches a thread
abbrev pub is_touched : ObjNo → List Move → ObjNo → Bool
is_touched t [] u = false
is_touched t (m ∷ ms) u = is_listed (touched t m) u || is_touched t ms u

-- where all others are ready, those that leave along the moves are those that aren't ready
pub leave_is_filter : (script : Script) (S : State) (t : ObjNo) (ms : List Move) (qs : List ObjNo)
    → ((u : ObjNo) → is_listed qs u ≡ true → is_touched t ms u ≡ false → is_ready script S u ≡ true)
    → leave_along script S t ms qs ≡ filter (is_ready script S) qs
leave_is_filter script S t [] qs others = sym (filter_all (is_ready script S) qs (λ u listed. others u listed refl))
leave_is_filter script S t (m ∷ ms) qs others =
    leave_is_filter script S t ms (leave script S (touched t m) qs) (λ u listed apart.
    let was = leave_listed script S (touched t m) qs u listed in
    elim (cases_Bool (is_listed (touched t m) u)) as (λ _. is_ready script S u ≡ true) [
      | inl asked ↦ was.1 asked
      | inr not_asked ↦ others u was.0 (or_from (is_listed (touched t m) u) (is_touched t ms u) not_asked apart)
    ])
    ∙ leave_filter script S (touched t m) qs

-- no thread is another than itself
pub itself_stays : (t : ObjNo) → not (t.0 == t.0) ≡ true → ⊥
itself_stays t h = let e = eq-eqb t.0 t.0 refl in let clash : false ≡ true = rw e at h in absurd (cc)

-- without a thread that isn't listed the list is the same
pub without_unlisted : (t : ObjNo) (qs : List ObjNo) → is_listed qs t ≡ false → unlisted t qs ≡ qs
without_unlisted t [] none = refl
without_unlisted t (q ∷ qs) none =
    let parts = or_parts (q.0 == t.0) (is_listed qs t) none in
    rw parts.0 (ap (λ (l : List ObjNo). q ∷ l) (without_unlisted t qs parts.1))

-- those of two lists leave one list after the other
pub leave_append : (script : Script) (S : State) (us vs qs : List ObjNo) → leave script S (us ++ vs) qs ≡ leave script S vs (leave script S us qs)
leave_append script S [] vs qs = refl
leave_append script S (u ∷ us) vs qs = leave_append script S us vs (if is_ready script S u then qs else unlisted u qs)

-- who is listed once a move took a thread out was listed, and its priority isn't set
pub taken_listed : (m : Move) (qs : List ObjNo) (u : ObjNo) → is_listed (taken_out m qs) u ≡ true → is_listed qs u ≡ true
taken_listed (SetPriority v priority) qs u listed = (filtered_listed (λ q. not (q.0 == v.0)) qs u listed).0
taken_listed (Pay (Sweep o)) qs u listed = (filtered_listed (λ q. not (q.0 == o.0)) qs u listed).0
taken_listed _ qs u listed = listed

pub taken_unset : (m : Move) (qs : List ObjNo) (u : ObjNo) → is_listed (taken_out m qs) u ≡ true → is_set m u ≡ false
taken_unset (SetPriority v priority) qs u listed = not-true (u.0 == v.0) (filtered_listed (λ q. not (q.0 == v.0)) qs u listed).1
taken_unset (Pay (Sweep o)) qs u listed = not-true (u.0 == o.0) (filtered_listed (λ q. not (q.0 == o.0)) qs u listed).1
taken_unset _ qs u listed = refl
