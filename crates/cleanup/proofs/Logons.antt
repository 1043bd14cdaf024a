-- The nodes of logons: sixteen to a thread, one for each status.
use Rattle.std.proofs.Common.{◌≡◌, ℕ, ◌+◌, ◌*◌, ◌/◌, ◌%◌, ◌<◌, eqb, refl, arith, inl, inr}
use Rattle.std.proofs.lemmas.Bool.{cases_eq, eq-eqb, ne_eqb}
use Rattle.sym_base.specs.declared.number.ObjNo.{ObjNo}
use Rattle.cleanup.specs.Lists.{is_logon}
use Rattle.cleanup.specs.Nodes.{logon}

-- a node stands for its thread and status
pub logon_at : (u : ObjNo) (s : ℕ) → s < 16 → logon (16 * u.0 + s) ≡ (u, s)
logon_at u s low =
    let maker : (16 * u.0 + s) / 16 ≡ u.0 = omega arith in
    let status : (16 * u.0 + s) % 16 ≡ s = omega arith in
    rw (maker, status) refl

-- and no other node for both
pub logon_tells : (u : ObjNo) (s : ℕ) → s < 16 → (m : ℕ) → is_logon u s (logon m) ≡ eqb m (16 * u.0 + s)
logon_tells u s low m =
    elim (cases_eq (m / 16) u.0) [
      | inl maker ↦ elim (cases_eq (m % 16) s) [
        | inl status ↦ rw (eq-eqb (m / 16) u.0 maker, eq-eqb (m % 16) s status, eq-eqb m (16 * u.0 + s) (omega arith)) refl
        | inr other ↦ rw (eq-eqb (m / 16) u.0 maker, ne_eqb (m % 16) s other, ne_eqb m (16 * u.0 + s) (λ e. other (omega arith))) refl
      ]
      | inr other ↦ rw (ne_eqb (m / 16) u.0 other, ne_eqb m (16 * u.0 + s) (λ e. other (omega arith))) refl
    ]
