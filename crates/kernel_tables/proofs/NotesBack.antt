-- Notes that come back.
use Rattle.std.proofs.Common.{◌≡◌, ◌∙◌, ℕ, List, ap, refl, subst, sym}
use Rattle.std.specs.Prelude.{IsTrue, Option, Some, None}
use Rattle.std.specs.List.{slice_index_or}
use Rattle.sym_base.specs.declared.number.ObjNo.{ObjNo}
use Rattle.state_rows.specs.ObjectRows.{place_of}
use Rattle.std.proofs.lemmas.Bool.{not-true}
use Rattle.ref_words.specs.declared.answer.Found.{Found}
use Rattle.ref_words.specs.declared.answer.Found.TheVariants.{Held, Dead}
use Rattle.state_rows.specs.declared.object.ObjectRow.{ObjectRow}
use Rattle.objects.specs.Rows.{HasAlive, StandsAt, is_alive}
use Rattle.machine.specs.WellFormed.{IsAlive}

-- what is alive is told so, and the other way round
pub alive_is : (row : Option ObjectRow) → IsAlive row → IsTrue (is_alive row)
alive_is None alive = absurd alive
alive_is (Some row) alive = rw alive refl

pub alive_from : (row : Option ObjectRow) → IsTrue (is_alive row) → IsAlive row
alive_from None alive = absurd (cc)
alive_from (Some row) alive = not-true row.dead alive

-- an object of a place that has one number only isn't alive, if that isn't
pub held_by_none : (rows : List (Option ObjectRow)) (p : ℕ) (o : ObjNo) → StandsAt rows p o.0
    → (IsAlive (slice_index_or rows o.0 None) → place_of (slice_index_or rows o.0 None) ≡ p → ⊥) → HasAlive rows p → ⊥
held_by_none rows p o stands over held =
    let row = alive_row (slice_index_or rows held.0 None) held.1 in
    let here : held.0 ≡ o.0 = stands held.0 row.0 row.1 (ap place_of (sym row.1) ∙ held.2) in
    over (subst (λ (k : ℕ). IsAlive (slice_index_or rows k None)) here (alive_from (slice_index_or rows held.0 None) held.1))
    (subst (λ (k : ℕ). place_of (slice_index_or rows k None) ≡ p) here held.2)
  where
    alive_row : (row : Option ObjectRow) → IsTrue (is_alive row) → (r : ObjectRow) × (row ≡ Some r)
    alive_row None alive = absurd (cc)
    alive_row (Some r) alive = (r, refl)

-- what isn't held is dead
pub is_dead : (found : Found) → (found ≡ Held → ⊥) → found ≡ Dead
is_dead Dead none = refl
is_dead Held none = absurd (none refl)
