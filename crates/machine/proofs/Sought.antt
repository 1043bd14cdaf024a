-- Somebody is out on an object exactly where one of the rows of threads seeks it.
use Rattle.std.proofs.Common.{◌≡◌, ℕ, ◌+◌, List, [], ◌∷◌, Option, arith, refl, ap, sym, ◌∙◌}
use Rattle.std.specs.Prelude.{nat_lt, ◌||◌, if◌then◌else◌, Bool, true}
use Rattle.std.specs.List.{list_any}
use Rattle.sym_base.specs.declared.number.ObjNo.{ObjNo}
use Rattle.state_rows.specs.ObjectRows.{place_of}
use Rattle.state_rows.specs.declared.thread.ThreadRow.{ThreadRow}
use Rattle.machine.specs.declared.state.State.{State}
use Rattle.machine.specs.Out.{outs_of, seeks}
use Rattle.machine.specs.References.{total}
use Rattle.machine.specs.Rows.{object_of}

one_or_more : (a b : ℕ) → (nat_lt 0 a || nat_lt 0 b) ≡ nat_lt 0 (a + b)
one_or_more a b = grind arith

any_is_total : (o : ObjNo) (place : ℕ) (rows : List (Option ThreadRow))
    → list_any (λ row. nat_lt 0 (seeks o place row)) rows ≡ nat_lt 0 (total (seeks o place) rows)
any_is_total o place [] = refl
any_is_total o place (row ∷ rows) =
    ap (λ (b : Bool). nat_lt 0 (seeks o place row) || b) (any_is_total o place rows)
    ∙ one_or_more (seeks o place row) (total (seeks o place) rows)

pub any_is_out : (S : State) (o : ObjNo) → S.mode.shared ≡ true
    → list_any (λ row. nat_lt 0 (seeks o (place_of (object_of S o)) row)) S.references.threads ≡ nat_lt 0 (outs_of S o)
any_is_out S o shared =
    let place : ℕ = place_of (object_of S o) in
    any_is_total o place S.references.threads
    ∙ ap (λ (b : Bool). nat_lt 0 (if b then total (seeks o place) S.references.threads else 0)) (sym shared)
