-- Sums and lengths of lists where one thing goes, comes or changes.
use Rattle.std.proofs.Common.{◌≡◌, ℕ, zero, suc, ◌+◌, ◌<◌, ◌≤◌, List, [], ◌∷◌, ◌++◌, length, arith, refl, sym, ap, subst, Bool, true, false}
use Rattle.std.specs.Prelude.{not, ◌==◌, if◌then◌else◌, filter, map, slice_set, Contains}
use Rattle.std.proofs.lemmas.Bool.{eqb-true}
use Rattle.sym_base.specs.declared.number.ObjNo.{ObjNo}
use Rattle.state_rows.specs.ServerChanges.{without}
use Rattle.machine.specs.References.{mutex_names, same, total}
use Rattle.move_laws.proofs.Lists.Contents.{contains_cases, none_contained}
use Rattle.move_laws.proofs.References.Same.{same_object, same_self}
use Rattle.move_laws.proofs.Lists.Totals.{total-filter}

-- an item that is set adds its number at most
pub total-set_most : {A : Type 0} (f : A → ℕ) (xs : List A) (i : ℕ) (y : A) → total f (slice_set xs i y) ≤ total f xs + f y
total-set_most f [] i y = omega arith
total-set_most f (x ∷ xs) zero y = omega arith
total-set_most f (x ∷ xs) (suc i) y = let r = total-set_most f xs i y in omega arith

-- what is filtered is shorter, and its sum less
pub filter-shorter : {A : Type 0} (p : A → Bool) (xs : List A) → length (filter p xs) ≤ length xs
filter-shorter p [] = omega arith
filter-shorter p (x ∷ xs) = by (p x) (filter-shorter p xs)
  where
    by : (b : Bool) → length (filter p xs) ≤ length xs → length (if b then x ∷ filter p xs else filter p xs) ≤ length (x ∷ xs)
    by true r = omega arith
    by false r = omega arith

-- so it is of what was filtered before
pub filter-both : {A : Type 0} (p q : A → Bool) (xs : List A) → length (filter p (filter q xs)) ≤ length (filter p xs)
filter-both p q [] = omega arith
filter-both {A = A} p q (x ∷ xs) = by (q x) (p x) refl (filter-both p q xs)
  where
    one : (b : Bool) (ys zs : List A) → length ys ≤ length zs → length (if b then x ∷ ys else ys) ≤ length (if b then x ∷ zs else zs)
    one true ys zs le = omega arith
    one false ys zs le = le

    more : (b : Bool) (ys zs : List A) → length ys ≤ length zs → length ys ≤ length (if b then x ∷ zs else zs)
    more true ys zs le = omega arith
    more false ys zs le = le

    by : (b c : Bool) → p x ≡ c → length (filter p (filter q xs)) ≤ length (filter p xs)
        → length (filter p (if b then x ∷ filter q xs else filter q xs))
        ≤ length (if c then x ∷ filter p xs else filter p xs)
    by true c e r = subst (λ (d : Bool). length (if d then x ∷ filter p (filter q xs) else filter p (filter q xs))
        ≤ length (if c then x ∷ filter p xs else filter p xs)) (sym e) (one c (filter p (filter q xs)) (filter p xs) r)
    by false c e r = more c (filter p (filter q xs)) (filter p xs) r

-- and shorter where one of those that pass went
pub filter-gone : {A : Type 0} (p q : A → Bool) (xs : List A) (x : A) → Contains (filter p xs) x → q x ≡ false
    → length (filter p (filter q xs)) + 1 ≤ length (filter p xs)
filter-gone p q [] x there gone = absurd (none_contained x there)
filter-gone {A = A} p q (y ∷ xs) x there gone = by (q y) (p y) refl refl there (λ z at gone_too. filter-gone p q xs z at gone_too)
  where
    kept : (c : Bool) → p y ≡ c → length (filter p (y ∷ filter q xs)) ≡ length (if c then y ∷ filter p (filter q xs) else filter p (filter q xs))
    kept c e = ap (λ (d : Bool). length (if d then y ∷ filter p (filter q xs) else filter p (filter q xs))) e

    by : (b c : Bool) → q y ≡ b → p y ≡ c → Contains (if c then y ∷ filter p xs else filter p xs) x
        → ((z : A) → Contains (filter p xs) z → q z ≡ false → length (filter p (filter q xs)) + 1 ≤ length (filter p xs))
        → length (filter p (if b then y ∷ filter q xs else filter q xs)) + 1 ≤ length (if c then y ∷ filter p xs else filter p xs)
    by true false e f at rest = let r = rest x at gone in let same = kept false f in omega arith
    by false false e f at rest = rest x at gone
    by false true e f at rest = let r = filter-both p q xs in omega arith
    by true true e f at rest =
        let same = kept true f in
        let r = contains_cases (λ (z : A). q z ≡ false → length (filter p (filter q xs)) + 1 ≤ length (filter p xs)) y
        (filter p xs) x at (λ same. absurd (cc)) (λ z in_rest gone_too. rest z in_rest gone_too) gone in
        omega arith

-- items that change without what is tested
pub filter-mapped : {A : Type 0} (p : A → Bool) (g : A → A) (xs : List A) → ((x : A) → p (g x) ≡ p x) → length (filter p (map g xs)) ≡ length (filter p xs)
filter-mapped p g [] same = refl
filter-mapped {A = A} p g (x ∷ xs) same_test =
    subst (λ (b : Bool). length (if b then g x ∷ filter p (map g xs) else filter p (map g xs))
    ≡ length (if p x then x ∷ filter p xs else filter p xs)) (sym (same_test x))
    (by (p x) (filter-mapped p g xs same_test))
  where
    by : (b : Bool) → length (filter p (map g xs)) ≡ length (filter p xs)
        → length (if b then g x ∷ filter p (map g xs) else filter p (map g xs))
        ≡ length (if b then x ∷ filter p xs else filter p xs)
    by true r = ap suc r
    by false r = r

-- one that comes behind the others, and doesn't pass
pub filter-behind : {A : Type 0} (p : A → Bool) (xs : List A) (y : A) → p y ≡ false → filter p (xs ++ y ∷ []) ≡ filter p xs
filter-behind p [] y fails = ap (λ (b : Bool). if b then y ∷ [] else []) fails
filter-behind {A = A} p (x ∷ xs) y fails = ap (λ (l : List A). if p x then x ∷ l else l) (filter-behind p xs y fails)

-- a sum that is less at each object of a list
pub total-less : (f g : ObjNo → ℕ) (xs : List ObjNo) → ((o : ObjNo) → 0 < total (mutex_names o) xs → f o ≤ g o) → total f xs ≤ total g xs
total-less f g [] less = omega arith
total-less f g (x ∷ xs) less =
    let self = same_self x in
    let here = less x (omega arith) in
    let rest = total-less f g xs (λ o some. less o (omega arith)) in omega arith

-- and less by so much at one
pub total-less_one : (f g : ObjNo → ℕ) (n : ℕ) (o : ObjNo) (xs : List ObjNo) → 0 < total (mutex_names o) xs
    → f o + n ≤ g o → ((x : ObjNo) → f x ≤ g x) → total f xs + n ≤ total g xs
total-less_one f g n o [] some at less = absurd (omega arith)
total-less_one f g n o (x ∷ xs) some at less = by (x.0 == o.0) refl (λ more. total-less_one f g n o xs more at less)
  where
    by : (b : Bool) → (x.0 == o.0) ≡ b → (0 < total (mutex_names o) xs → total f xs + n ≤ total g xs) → f x + total f xs + n ≤ g x + total g xs
    by true e more =
        let here : f x + n ≤ g x = subst (λ (y : ObjNo). f y + n ≤ g y) (sym (same_object x o (eqb-true x.0 o.0 e))) at in
        let rest = total-less f g xs (λ y _. less y) in omega arith
    by false e more =
        let none : same x o ≡ 0 = ap (λ (c : Bool). if c then 1 else 0) e in
        let here = less x in
        let rest = more (omega arith) in omega arith

-- objects without one of them
pub without-length : (o : ObjNo) (xs : List ObjNo) → length (without o xs) + total (mutex_names o) xs ≡ length xs
without-length o [] = refl
without-length o (x ∷ xs) = by (x.0 == o.0) (without-length o xs)
  where
    by : (b : Bool) → length (without o xs) + total (mutex_names o) xs ≡ length xs
        → length (if not b then x ∷ without o xs else without o xs) + ((if b then 1 else 0) + total (mutex_names o) xs)
        ≡ length (x ∷ xs)
    by true r = omega arith
    by false r = omega arith

pub without-total : (f : ObjNo → ℕ) (o : ObjNo) (xs : List ObjNo) → 0 < total (mutex_names o) xs → total f (without o xs) + f o ≤ total f xs
without-total f o [] some = absurd (omega arith)
without-total f o (x ∷ xs) some = by (x.0 == o.0) refl (λ more. without-total f o xs more)
  where
    less : total f (without o xs) ≤ total f xs
    less = total-filter f (λ (other : ObjNo). not (other.0 == o.0)) xs

    by : (b : Bool) → (x.0 == o.0) ≡ b → (0 < total (mutex_names o) xs → total f (without o xs) + f o ≤ total f xs)
        → total f (if not b then x ∷ without o xs else without o xs) + f o ≤ f x + total f xs
    by true e more = let own = ap f (same_object x o (eqb-true x.0 o.0 e)) in let r = less in omega arith
    by false e more =
        let none : same x o ≡ 0 = ap (λ (c : Bool). if c then 1 else 0) e in
        let rest = more (omega arith) in omega arith
