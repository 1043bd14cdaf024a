-- When a move in the rows of logons that fits can be made in the lists.
use Rattle.std.proofs.Common.{◌≡◌, ℕ, ◌<◌, List, [], ◌∷◌, length, arith, refl, ap, Bool, true, false}
use Rattle.std.specs.Prelude.{◌||◌, if◌then◌else◌}
use Rattle.std.specs.List.{list_any}
use Rattle.sym_base.specs.declared.number.ObjNo.{ObjNo}
use Rattle.script_types.specs.declared.script.Script.{Script}
use Rattle.cleanup.specs.Lists.{is_logon}
use Rattle.machine.specs.declared.logon_move.LogonMove.{LogonMove}
use Rattle.machine.specs.declared.logon_move.LogonMove.TheVariants.{Add, Remove, Drop}
use Rattle.machine.specs.declared.state.State.{State}
use Rattle.machine.specs.Fits.{FitsLogons}
use Rattle.machine.specs.References.{total}
use Rattle.machine.specs.WellFormed.{AreRows, logon_names, times_logged}
use Rattle.table_moves.specs.LogonMoved.{CanLogon}

-- a logon that stands in some list is counted
one_names : (u : ObjNo) (s : ℕ) (logons : List (ObjNo × ℕ)) → list_any (is_logon u s) logons ≡ true → 0 < total (logon_names u s) logons
one_names u s [] some = absurd (cc)
one_names u s (x ∷ rest) some = by (is_logon u s x) refl some (one_names u s rest)
  where
    by : (b : Bool) → is_logon u s x ≡ b → (b || list_any (is_logon u s) rest) ≡ true
        → (list_any (is_logon u s) rest ≡ true → 0 < total (logon_names u s) rest) → 0 < total (logon_names u s) (x ∷ rest)
    by true at some later = let one : logon_names u s x ≡ 1 = ap (λ (b : Bool). if b then 1 else 0) at in omega arith
    by false at some later = let more = later some in omega arith

some_logged : (u : ObjNo) (s : ℕ) (lists : List (List (ObjNo × ℕ))) → list_any (list_any (is_logon u s)) lists ≡ true → 0 < times_logged lists u s
some_logged u s [] some = absurd (cc)
some_logged u s (logons ∷ rest) some = by (list_any (is_logon u s) logons) refl some (some_logged u s rest)
  where
    by : (b : Bool) → list_any (is_logon u s) logons ≡ b → (b || list_any (list_any (is_logon u s)) rest) ≡ true
        → (list_any (list_any (is_logon u s)) rest ≡ true → 0 < times_logged rest u s)
        → 0 < times_logged (logons ∷ rest) u s
    by true here some later = let one = one_names u s logons here in omega arith
    by false here some later = let more = later some in omega arith

pub can_logon : (script : Script) (S : State) (m : LogonMove) → AreRows script S → FitsLogons m S
    → CanLogon m (length S.references.owed) S.synchronization.logons
can_logon script S (Add t u s) rows fits =
    let duties = rows.references.sized.duties in
    let signals = rows.synchronization.requests.sized in
    let known = fits.1.thread in
    let on = fits.0 in (
      omega arith,
      omega arith,
      fits.1.status,
      λ some. let one = some_logged u s S.synchronization.logons some in
          let none = fits.2 in omega arith,
    )
can_logon script S (Remove t u s) rows fits =
    let duties = rows.references.sized.duties in
    let on = fits.0 in
    let by = fits.1 in
    (omega arith, omega arith, fits.2)
can_logon script S (Drop u) rows fits =
    let duties = rows.references.sized.duties in
    let few = rows.references.sized.threads_few in
    let long = rows.synchronization.logons.sized in
    (omega arith, omega arith, omega arith, λ s some. (rows.synchronization.logons.waits u s some).status)
