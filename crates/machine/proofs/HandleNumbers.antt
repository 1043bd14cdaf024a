-- The number of a handle that names an object is below 2 ^ 31.
use Rattle.std.proofs.Common.{◌≡◌, ℕ, ◌<◌, ◌≤◌, Bool, true, false, Option, Some, None, refl, sym, subst, arith, List}
use Rattle.std.specs.Prelude.{◌==◌, if◌then◌else◌, IfSome}
use Rattle.std.proofs.lemmas.Bool.{eqb-true}
use Rattle.sym_base.specs.declared.number.ObjNo.{ObjNo}
use Rattle.state_rows.specs.declared.handle_slot.HandleSlot.{HandleSlot}
use Rattle.state_rows.specs.HandleNumbers.{handle_number, index_of}
use Rattle.state_rows.specs.HandleSlots.{slot_at, look}

number_small : (local : Bool) (handle instance : ℕ) → instance ≤ 16383 → handle_number local (index_of handle) instance ≡ handle → handle < 2147483648
number_small true handle instance few is = omega arith
number_small false handle instance few is = omega arith

named_small : (local : Bool) (handle : ℕ) (slot : HandleSlot) (named : Bool) → slot.instance ≤ 16383
    → (handle_number local (index_of handle) slot.instance == handle) ≡ named
    → IfSome (if named then slot.object else None) (λ o. handle < 2147483648)
named_small local handle slot false few is = tt
named_small local handle slot true few is = object_small slot.object (number_small local handle slot.instance few (eqb-true _ _ is))
  where
    object_small : (object : Option ObjNo) → handle < 2147483648 → IfSome object (λ o. handle < 2147483648)
    object_small None small = tt
    object_small (Some o) small = small

pub look_small : (local : Bool) (slots : List HandleSlot) (handle : ℕ) (found : Option ObjNo)
    → found ≡ look local slots handle → ((i : ℕ) → (slot_at slots i).instance ≤ 16383)
    → IfSome found (λ o. handle < 2147483648)
look_small local slots handle found is few =
    subst (λ (x : Option ObjNo). IfSome x (λ o. handle < 2147483648)) (sym is)
    (named_small local handle (slot_at slots (index_of handle)) _ (few (index_of handle)) refl)
