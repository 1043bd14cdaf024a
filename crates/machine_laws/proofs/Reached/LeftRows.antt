-- The rows of the objects that are left, one number on.
use Rattle.std.proofs.Common.{◌≡◌, ℕ, zero, suc, ◌+◌, List, [], ◌∷◌, Some, None, drop, ap, add-one}
use Rattle.std.specs.Prelude.{slice_get}
use Rattle.state_rows.specs.declared.object.ObjectRow.{ObjectRow}
use Rattle.machine.specs.declared.state.State.{State}
use Rattle.machine.specs.FinalRows.{final_row, rows_of, rows_from}

drop_got : {A : Type 0} (xs : List A) (i : ℕ) (x : A) → slice_get xs i ≡ Some x → drop i xs ≡ x ∷ drop (suc i) xs
drop_got [] i x h = absurd (cc)
drop_got (y ∷ ys) zero x h = let e : y ≡ x = cc in ap (λ z. z ∷ ys) e
drop_got (y ∷ ys) (suc i) x h = drop_got ys i x h

drop_got_one : {A : Type 0} (xs : List A) (i : ℕ) (x : A) → slice_get xs i ≡ Some x → drop i xs ≡ x ∷ drop (i + 1) xs
drop_got_one xs i x h = rw add-one (drop_got xs i x h)

-- a swept object has no row
pub rows_from_swept : (S : State) (n : ℕ) → slice_get S.references.objects n ≡ Some None → rows_from S n ≡ rows_from S (n + 1)
rows_from_swept S n h = ap (rows_of S n) (drop_got_one S.references.objects n None h)

-- an object that isn't swept has one
pub rows_from_left : (S : State) (n : ℕ) (row : ObjectRow) → slice_get S.references.objects n ≡ Some (Some row)
    → rows_from S n ≡ final_row S n row ∷ rows_from S (n + 1)
rows_from_left S n row h = ap (rows_of S n) (drop_got_one S.references.objects n (Some row) h)
