-- The number that a new object gets, and the rows with it.
use Rattle.std.proofs.Common.{◌≡◌, ◌≢◌, ℕ, ◌+◌, ◌<◌, ◌≤◌, zero, suc, Bool, true, false, List, [], ◌∷◌, ◌++◌, length, get_or, arith, refl, subst, Option, Some, None}
use Rattle.std.specs.Prelude.{nat_lt}
use Rattle.std.proofs.lemmas.Bool.{ltb-true, ltb-false}
use Rattle.std.proofs.lemmas.List.{get_or-set_same, get_or-set_other, get_or_past, length-set, length_push}
use Rattle.sym_base.specs.declared.limits.TheConstants.Limits.{OBJECTS}
use Rattle.state_rows.specs.ObjectRows.{first_free, next_number, with_object}
use Rattle.state_rows.specs.declared.object.ObjectRow.{ObjectRow}
use Rattle.move_laws.proofs.Lists.Cases.{if_cases}

first_free_is : (rows : List (Option ObjectRow)) → (first_free rows ≤ length rows) × (get_or rows (first_free rows) None ≡ None)
first_free_is [] = (omega arith, refl)
first_free_is (None ∷ rest) = (omega arith, refl)
first_free_is (Some row ∷ rest) =
    let r = first_free_is rest in
    let le = r.0 in
    let next : suc (first_free rest) ≡ 1 + first_free rest = omega arith in
    (omega arith, subst (λ (n : ℕ). get_or (Some row ∷ rest) n None ≡ None) next r.1)

-- it is one of the list's, or comes next, and has no row
pub next_number_is : (reuse : Bool) (rows : List (Option ObjectRow))
    → (next_number reuse rows ≤ length rows) × (get_or rows (next_number reuse rows) None ≡ None)
next_number_is true rows = first_free_is rows
next_number_is false rows = (omega arith, get_or_past rows (length rows) None (omega arith))

-- where it comes next the new row stands there, and the others stand where they stood
pushed-own : (rows : List (Option ObjectRow)) (n : ℕ) (row : ObjectRow) → n ≡ length rows → get_or (rows ++ Some row ∷ []) n None ≡ Some row
pushed-own [] zero row at = refl
pushed-own [] (suc n) row at = absurd (omega arith)
pushed-own (x ∷ xs) zero row at = absurd (omega arith)
pushed-own (x ∷ xs) (suc n) row at = pushed-own xs n row (omega arith)

pub pushed-other : (rows : List (Option ObjectRow)) (k : ℕ) (row : ObjectRow) → k ≢ length rows → get_or (rows ++ Some row ∷ []) k None ≡ get_or rows k None
pushed-other [] zero row apart = absurd (apart refl)
pushed-other [] (suc k) row apart = refl
pushed-other (x ∷ xs) zero row apart = refl
pushed-other (x ∷ xs) (suc k) row apart = pushed-other xs k row (λ at. apart (omega arith))

pub made-own : (rows : List (Option ObjectRow)) (n : ℕ) (row : ObjectRow) → n ≤ length rows → get_or (with_object rows n row) n None ≡ Some row
made-own rows n row le =
    if_cases (λ (l : List (Option ObjectRow)). get_or l n None ≡ Some row) (nat_lt n (length rows)) _ _
    (λ within. get_or-set_same rows n (Some row) None (ltb-true n (length rows) within))
    (λ past. let at = ltb-false n (length rows) past in pushed-own rows n row (omega arith))

pub made-other : (rows : List (Option ObjectRow)) (n k : ℕ) (row : ObjectRow) → n ≤ length rows → k ≢ n
    → get_or (with_object rows n row) k None ≡ get_or rows k None
made-other rows n k row le apart =
    if_cases (λ (l : List (Option ObjectRow)). get_or l k None ≡ get_or rows k None) (nat_lt n (length rows)) _ _
    (λ within. get_or-set_other rows n k (Some row) None apart)
    (λ past. let at = ltb-false n (length rows) past in pushed-other rows k row (λ e. apart (omega arith)))

-- the list is as long, or longer by one, and has the number
pub record IsLonger (rows more : List (Option ObjectRow)) (n : ℕ) : Type 0 where
  pub least : length rows ≤ length more
  pub most : length more ≤ length rows + 1
  pub within : n < length more
  pub grows : length rows ≤ n → length more ≡ length rows + 1

pub made-long : (rows : List (Option ObjectRow)) (n : ℕ) (row : ObjectRow) → n ≤ length rows → IsLonger rows (with_object rows n row) n
made-long rows n row le =
    if_cases (λ (l : List (Option ObjectRow)). IsLonger rows l n) (nat_lt n (length rows)) _ _
    (λ within. let long = length-set rows n (Some row) in let lt = ltb-true n (length rows) within in
    record { least = omega arith; most = omega arith; within = omega arith; grows = λ past. absurd (omega arith) })
    (λ past. let long = length_push rows (Some row) in let at = ltb-false n (length rows) past in
    record { least = omega arith; most = omega arith; within = omega arith; grows = λ e. omega arith })

-- where the number is one that may be given, no more objects are there than may be
pub new_few : (rows : List (Option ObjectRow)) (n : ℕ) (row : ObjectRow) → n ≤ length rows → n < OBJECTS → length rows ≤ OBJECTS
    → length (with_object rows n row) ≤ OBJECTS
new_few rows n row le room few =
    if_cases (λ (l : List (Option ObjectRow)). length l ≤ OBJECTS) (nat_lt n (length rows)) _ _
    (λ within. let long = length-set rows n (Some row) in omega arith)
    (λ past. let long = length_push rows (Some row) in let at = ltb-false n (length rows) past in omega arith)
