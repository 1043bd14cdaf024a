-- The table's find is the definitions' one where the kept counts are those of the state.
use Rattle.std.proofs.Common.{◌≡◌, inl, inr, arith, ℕ, List, refl, ap, ◌∙◌, Bool, true, false, Option, Some, None}
use Rattle.std.specs.Prelude.{position, not, ◌||◌, ◌==◌, nat_lt, if◌then◌else◌}
use Rattle.std.proofs.lemmas.Bool.{cases_lt, eqb-true, eq-eqb, lt-ltb, ltb-true}
use Rattle.machine.specs.Rows.{object_of}
use Rattle.sym_base.specs.declared.kind.Kind.{Kind}
use Rattle.sym_base.specs.declared.number.ObjNo.{ObjNo}
use Rattle.state_rows.specs.ObjectRows.{is_session, has_name, is_dead_row, numbered}
use Rattle.objects.specs.Calls.{found, found_at}
use Rattle.machine.specs.declared.state.State.{State}
use Rattle.machine.specs.References.{count_of}
use Rattle.machine.specs.Find.{findable, find_object}
use Rattle.kernel_tables.specs.Counts.{Agrees}

not_none : (n : ℕ) → (n == 0) ≡ false → nat_lt 0 n ≡ false → ⊥
not_none n e f = elim (cases_lt 0 n) [
  | inl some ↦ cc (lt-ltb 0 n some)
  | inr none ↦ cc (eq-eqb n 0 (omega arith))
]

counted_test : (n : ℕ) (dead : Bool) (none some : Bool) → (n == 0) ≡ none → nat_lt 0 n ≡ some → (not none || dead) ≡ (dead || some)
counted_test n true true some e f = refl
counted_test n true false some e f = refl
counted_test n false true true e f = let z = eqb-true n 0 e in let p = ltb-true 0 n f in absurd (omega arith)
counted_test n false true false e f = refl
counted_test n false false true e f = refl
counted_test n false false false e f = absurd (not_none n e f)

counted_or_dead : (n : ℕ) (dead : Bool) → (not (n == 0) || dead) ≡ (dead || nat_lt 0 n)
counted_or_dead n dead = counted_test n dead (n == 0) (nat_lt 0 n) refl refl

found_seen : (S : State) (counts : List ℕ) (p : Option ℕ) → Agrees counts S → found_at S.references.objects counts p ≡ findable S (numbered p)
found_seen S counts None agree = refl
found_seen S counts (Some n) agree =
    let o : ObjNo = record { 0 = n } in
    let dead : Bool = is_dead_row (object_of S o) in
    ap (λ (b : Bool). if b then Some o else None) (ap (λ (c : ℕ). not (c == 0) || dead) (agree o) ∙ counted_or_dead (count_of S o) dead)

found_step : (b : Bool) (x y : Option ObjNo) → x ≡ y → (if b then None else x) ≡ (if b then None else y)
found_step b x y e = ap (λ (z : Option ObjNo). if b then None else z) e

pub found_is : (S : State) (counts : List ℕ) (kind : Kind) (name : List ℕ) → Agrees counts S
    → found kind name S.references.objects counts ≡ find_object S kind name
found_is S counts kind name agree = found_step (is_session kind) _ _ (found_seen S counts (position (has_name kind name) S.references.objects) agree)
