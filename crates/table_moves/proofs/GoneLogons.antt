-- The logons that a thread made go status by status from each thread's list, and list by list.
use Rattle.std.proofs.Common.{◌≡◌, ℕ, zero, suc, ◌+◌, ◌<◌, ◌≤◌, Bool, true, false, List, [], ◌∷◌, ◌++◌, length, map, take, drop, get_or, set, arith, inl, inr, refl, sym, ap, ◌∙◌, Option, Some, None}
use Rattle.std.specs.Prelude.{filter, not, ◌==◌, ◌&&◌, ◌||◌, if◌then◌else◌, is_some, nat_lt, slice_get}
use Rattle.std.proofs.lemmas.Bool.{cases_lt, cases_eq, eq-eqb, le-ltb, lt-ltb, ne_eqb}
use Rattle.std.proofs.lemmas.List.{drop_more, get_or-set_same, get_or_at, get_or_default, length-map, length-take, set-get_or, set-set}
use Rattle.std.proofs.lemmas.List.Edits.{map_over_more}
use Rattle.sym_base.specs.declared.number.ObjNo.{ObjNo}
use Rattle.machine.specs.LogonMoves.{is_logon, is_made_by, logons_on, without_logon, without_maker}
use Rattle.machine.specs.References.{total}
use Rattle.machine.specs.WellFormed.{logon_names, times_logged}

-- a logon that a thread made with a status below a number
abbrev pub is_below : ObjNo → ℕ → ObjNo × ℕ → Bool
is_below u s logon = nat_lt logon.1 s && is_made_by u logon

-- some logons without those
abbrev pub without_below : ObjNo → ℕ → List (ObjNo × ℕ) → List (ObjNo × ℕ)
without_below u s logons = filter (λ (logon : ObjNo × ℕ). not (is_below u s logon)) logons

-- a filter over another is the filter by both
filter_both : {A : Type 0} (p q r : A → Bool) (xs : List A) → ((x : A) → (if q x then p x else false) ≡ r x) → filter p (filter q xs) ≡ filter r xs
filter_both p q r [] h = refl
filter_both {A = A} p q r (x ∷ xs) h = by (q x) (h x) (filter_both p q r xs h)
  where
    by : (b : Bool) → (if b then p x else false) ≡ r x → filter p (filter q xs) ≡ filter r xs
        → filter p (if b then x ∷ filter q xs else filter q xs) ≡ (if r x then x ∷ filter r xs else filter r xs)
    by true e later = ap (λ (b : Bool). if b then x ∷ filter p (filter q xs) else filter p (filter q xs)) e
        ∙ ap (λ (l : List A). if r x then x ∷ l else l) later
    by false e later = later ∙ ap (λ (b : Bool). if b then x ∷ filter r xs else filter r xs) e

-- none has a status below 0
pub below_none : (u : ObjNo) (xs : List (ObjNo × ℕ)) → without_below u 0 xs ≡ xs
below_none u [] = refl
below_none u (x ∷ xs) =
    let kept : not (is_below u 0 x) ≡ true = ap (λ (b : Bool). not (b && is_made_by u x)) (le-ltb x.1 0 (omega arith)) in
    ap (λ (b : Bool). if b then x ∷ without_below u 0 xs else without_below u 0 xs) kept ∙ ap (λ (l : List (ObjNo × ℕ)). x ∷ l) (below_none u xs)

-- a number below the next is below this, or it is this
lt_step : (n s : ℕ) → nat_lt n (s + 1) ≡ (nat_lt n s || n == s)
lt_step n s = elim (cases_lt n s) as (λ _. nat_lt n (s + 1) ≡ (nat_lt n s || n == s)) [
  | inl lt ↦ lt-ltb n (s + 1) (omega arith) ∙ sym (ap (λ (b : Bool). b || n == s) (lt-ltb n s lt))
  | inr past ↦ elim (cases_eq n s) as (λ _. nat_lt n (s + 1) ≡ (nat_lt n s || n == s)) [
    | inl same ↦ lt-ltb n (s + 1) (omega arith) ∙ sym (ap (λ (b : Bool). b || n == s) (le-ltb n s past) ∙ eq-eqb n s same)
    | inr apart ↦ le-ltb n (s + 1) (omega arith) ∙ sym (ap (λ (b : Bool). b || n == s) (le-ltb n s past) ∙ ne_eqb n s apart)
  ]
]

-- the status after those below it
more_below : (lt eq made : Bool) → (if not (lt && made) then not (made && eq) else false) ≡ not ((lt || eq) && made)
more_below true eq true = refl
more_below true eq false = refl
more_below false true true = refl
more_below false true false = refl
more_below false false true = refl
more_below false false false = refl

below_more : (u : ObjNo) (s : ℕ) (xs : List (ObjNo × ℕ)) → without_logon u s (without_below u s xs) ≡ without_below u (s + 1) xs
below_more u s xs =
    filter_both (λ (x : ObjNo × ℕ). not (is_logon u s x)) (λ (x : ObjNo × ℕ). not (is_below u s x)) (λ (x : ObjNo × ℕ). not (is_below u (s + 1) x)) xs
    (λ x. more_below (nat_lt x.1 s) (x.1 == s) (is_made_by u x) ∙ ap (λ (b : Bool). not (b && is_made_by u x)) (sym (lt_step x.1 s)))

-- in the list of a thread, where that of another status goes too
pub list_more : (lists : List (List (ObjNo × ℕ))) (t u : ObjNo) (s : ℕ) → t.0 < length lists
    → set (set lists t.0 (without_below u s (logons_on lists t))) t.0
    (without_logon u s (logons_on (set lists t.0 (without_below u s (logons_on lists t))) t))
    ≡ set lists t.0 (without_below u (s + 1) (logons_on lists t))
list_more lists t u s inside =
    let these = without_below u s (logons_on lists t) in
    set-set lists t.0 these _
    ∙ ap (λ (l : List (ObjNo × ℕ)). set lists t.0 (without_logon u s l)) (get_or-set_same lists t.0 these [] inside)
    ∙ ap (set lists t.0) (below_more u s (logons_on lists t))

-- and where none went yet
pub list_none : (lists : List (List (ObjNo × ℕ))) (t u : ObjNo) → lists ≡ set lists t.0 (without_below u 0 (logons_on lists t))
list_none lists t u = sym (ap (set lists t.0) (below_none u (logons_on lists t)) ∙ set-get_or lists t.0 [])

-- what is said to be nothing
pub none_is : {A : Type 0} (x : Option A) → is_some x ≡ false → x ≡ None
none_is None is = refl
none_is (Some x) is = absurd (cc)

-- where a thread's list is empty, none is left of it
pub none_here : (lists : List (List (ObjNo × ℕ))) (t u : ObjNo) → slice_get (logons_on lists t) 0 ≡ None
    → lists ≡ set lists t.0 (without_maker u (logons_on lists t))
none_here lists t u none = by (logons_on lists t) refl none
  where
    by : (these : List (ObjNo × ℕ)) → logons_on lists t ≡ these → slice_get these 0 ≡ None → lists ≡ set lists t.0 (without_maker u (logons_on lists t))
    by [] is first = sym (ap (λ (l : List (ObjNo × ℕ)). set lists t.0 (without_maker u l)) is ∙ (ap (set lists t.0) (sym is) ∙ set-get_or lists t.0 []))
    by (x ∷ rest) is first = absurd (cc)

-- one that the thread made counts
made_counts : (u : ObjNo) (x : ObjNo × ℕ) → is_made_by u x ≡ true → logon_names u x.1 x ≡ 1
made_counts u x made = ap (λ (b : Bool). if b && x.1 == x.1 then 1 else 0) made ∙ ap (λ (b : Bool). if b then 1 else 0) (eq-eqb x.1 x.1 refl)

none_of_both : (b : Bool) → (b && false) ≡ false
none_of_both true = refl
none_of_both false = refl

-- those below 16, or a greater number, are all, where all that it made are below 16
pub below_all : (u : ObjNo) (n : ℕ) (xs : List (ObjNo × ℕ)) → 16 ≤ n
    → ((s : ℕ) → 0 < total (logon_names u s) xs → s < 16) → without_below u n xs ≡ without_maker u xs
below_all u n [] past few = refl
below_all u n (x ∷ xs) past few =
    ap (λ (b : Bool). if b then x ∷ without_below u n xs else without_below u n xs) (here (is_made_by u x) refl)
    ∙ ap (λ (l : List (ObjNo × ℕ)). if not (is_made_by u x) then x ∷ l else l) (below_all u n xs past (λ s some. few s (omega arith)))
  where
    here : (made : Bool) → is_made_by u x ≡ made → not (is_below u n x) ≡ not (is_made_by u x)
    here true made =
        let one = made_counts u x made in
        let small = few x.1 (omega arith) in
        ap (λ (b : Bool). not (b && is_made_by u x)) (lt-ltb x.1 n (omega arith))
    here false made = ap (λ (b : Bool). not (nat_lt x.1 n && b)) made ∙ (ap not (none_of_both (nat_lt x.1 n)) ∙ sym (ap not made))

-- what a thread's list counts is counted of all
pub counts_here : (u : ObjNo) (s : ℕ) (lists : List (List (ObjNo × ℕ))) (i : ℕ) → total (logon_names u s) (get_or lists i []) ≤ times_logged lists u s
counts_here u s [] i = omega arith
counts_here u s (x ∷ rest) zero = omega arith
counts_here u s (x ∷ rest) (suc i) = let later = counts_here u s rest i in omega arith

-- a list that wasn't come to is as it was, and another is done then
pub list_later : (f : List (ObjNo × ℕ) → List (ObjNo × ℕ)) (lists : List (List (ObjNo × ℕ))) (i : ℕ)
    (other : List (ObjNo × ℕ))
    → i < length lists → get_or (map f (take i lists) ++ drop i lists) i other ≡ get_or lists i other
list_later f lists i other inside =
    let front = map f (take i lists) in
    let long : length front ≡ i = length-map (take i lists) f ∙ omega (arith, length-take i lists) in
    ap (λ (l : List (List (ObjNo × ℕ))). get_or (front ++ l) i other) (drop_more lists i other inside) ∙ get_or_at front _ _ other i long

pub list_done : (f : List (ObjNo × ℕ) → List (ObjNo × ℕ)) (lists : List (List (ObjNo × ℕ))) (i : ℕ) → i < length lists
    → set (map f (take i lists) ++ drop i lists) i (f (get_or (map f (take i lists) ++ drop i lists) i []))
    ≡ map f (take (i + 1) lists) ++ drop (i + 1) lists
list_done f lists i inside =
    let now = map f (take i lists) ++ drop i lists in
    let these = get_or now i [] in
    map_over_more f lists now i these inside refl
    (list_later f lists i [] inside ∙ (get_or_default lists i [] these inside
    ∙ sym (list_later f lists i these inside)))
