-- Objects of one number are one.
use Rattle.std.proofs.Common.{◌≡◌, inl, inr, ℕ, ◌<◌, ◌≤◌, arith, refl, ap, Bool, true, false}
use Rattle.std.specs.Prelude.{◌==◌, if◌then◌else◌}
use Rattle.std.proofs.lemmas.Bool.{eq-eqb, eqb-true, cases_eq}
use Rattle.sym_base.specs.declared.number.ObjNo.{ObjNo}
use Rattle.machine.specs.References.{same}

pub same_object : (x y : ObjNo) → x.0 ≡ y.0 → x ≡ y
same_object x y e = let named : ℕ → ObjNo = λ n. record { 0 = n } in ap named e

pub same_self : (o : ObjNo) → same o o ≡ 1
same_self o = rw (eq-eqb o.0 o.0 refl) refl

eqb_apart_by : (a b : ℕ) (test : Bool) → (a == b) ≡ test → (a ≡ b → ⊥) → test ≡ false
eqb_apart_by a b true e apart = absurd (apart (eqb-true a b e))
eqb_apart_by a b false e apart = refl

pub eqb_apart : (a b : ℕ) → (a ≡ b → ⊥) → (a == b) ≡ false
eqb_apart a b apart = eqb_apart_by a b (a == b) refl apart

-- a choice between a number and 0, where the test is known
pub if_is : (b : Bool) (n : ℕ) → b ≡ true → (if b then n else 0) ≡ n
if_is true n e = refl
if_is false n e = cc

pub if_not : (b : Bool) (n : ℕ) → b ≡ false → (if b then n else 0) ≡ 0
if_not true n e = cc
if_not false n e = refl

pub if_zero : (b : Bool) (n : ℕ) → n ≡ 0 → (if b then n else 0) ≡ 0
if_zero true n e = e
if_zero false n e = refl

pub if_le : (b : Bool) (n : ℕ) → (if b then n else 0) ≤ n
if_le true n = omega arith
if_le false n = omega arith

pub same_other : (x o : ObjNo) → (x.0 ≡ o.0 → ⊥) → same x o ≡ 0
same_other x o apart = if_not (x.0 == o.0) 1 (eqb_apart x.0 o.0 apart)

pub same_le : (x o : ObjNo) → same x o ≤ 1
same_le x o = if_le (x.0 == o.0) 1

-- where two are counted as one object, they are one
pub same_is : (x o : ObjNo) → 0 < same x o → x ≡ o
same_is x o h = elim (cases_eq x.0 o.0) as (λ _. x ≡ o) [
  | inl at ↦ same_object x o at
  | inr apart ↦ let a = same_other x o apart in absurd (omega arith)
]
