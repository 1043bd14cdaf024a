-- The servers of a thread that is doomed are closing.
use Rattle.std.proofs.Common.{◌≡◌, inl, inr, ◌<◌, List, [], ◌∷◌, arith, refl, ap, ◌∙◌, Option, Some, None, Bool, true}
use Rattle.std.specs.Prelude.{is_some, option_map, if◌then◌else◌}
use Rattle.std.proofs.lemmas.Bool.{cases_eq}
use Rattle.sym_base.specs.declared.number.ObjNo.{ObjNo}
use Rattle.script_types.specs.declared.script.Script.{Script}
use Rattle.state_rows.specs.ServerChanges.{after_closing, closing}
use Rattle.state_rows.specs.ServerRows.{IsServer, closes, is_closing, server_at}
use Rattle.state_rows.specs.declared.servers.ServerRow.{ServerRow}
use Rattle.state_rows.specs.declared.servers.ServerRows.{ServerRows}
use Rattle.machine.specs.declared.state.State.{State}
use Rattle.machine.specs.References.{mutex_names, total}
use Rattle.machine.specs.ServerMoves.{all_closing}
use Rattle.machine.specs.Serving.{times_owned}
use Rattle.machine.specs.WellFormed.{AreRows}
use Rattle.move_laws.proofs.Lists.Mapped.{made-here, made-other, mapped-some}
use Rattle.move_laws.proofs.References.Same.{eqb_apart}
use Rattle.move_laws.proofs.RowLaws.Servers.{closing_closes}

-- each server that a thread owns is one
pub owned_server : (script : Script) (S : State) (u : ObjNo) → AreRows script S → (o : ObjNo)
    → 0 < times_owned S.serving.owned u o → IsServer S.serving.servers o
owned_server script S u rows o some = ap is_some (rows.serving.servers.owners u o some).is

-- a server that begins to close is closing then
closed_there : (x : Option ServerRow) → is_some x ≡ true → closes (option_map closing x) ≡ true
closed_there None is = absurd (cc)
closed_there (Some row) is = refl

-- and one that is closing stays so
still_closing : (r : ServerRows) (x o : ObjNo) → is_closing r o ≡ true → is_closing (after_closing r x) o ≡ true
still_closing r x o is = elim (cases_eq x.0 o.0) as (λ _. is_closing (after_closing r x) o ≡ true) [
  | inl at ↦ ap closes (made-here (option_map closing) None r.servers x.0 o.0 refl at) ∙ closing_closes (server_at r o) is
  | inr apart ↦ ap closes (made-other (option_map closing) None r.servers x.0 o.0 apart) ∙ is
]

all_still_closing : (os : List ObjNo) (r : ServerRows) (o : ObjNo) → is_closing r o ≡ true → is_closing (all_closing os r) o ≡ true
all_still_closing [] r o is = is
all_still_closing (x ∷ xs) r o is = all_still_closing xs (after_closing r x) o (still_closing r x o is)

-- each of those that begin to close is closing then
pub closed_all : (os : List ObjNo) (r : ServerRows) (o : ObjNo) → IsServer r o → 0 < total (mutex_names o) os → is_closing (all_closing os r) o ≡ true
closed_all [] r o is some = absurd (omega arith)
closed_all (x ∷ xs) r o is some = elim (cases_eq x.0 o.0) as (λ _. is_closing (all_closing xs (after_closing r x)) o ≡ true) [
  | inl at ↦
      all_still_closing xs (after_closing r x) o
      (ap closes (made-here (option_map closing) None r.servers x.0 o.0 refl at) ∙ closed_there (server_at r o) is)
  | inr apart ↦
      let none : mutex_names o x ≡ 0 = ap (λ (b : Bool). if b then 1 else 0) (eqb_apart x.0 o.0 apart) in
      closed_all xs (after_closing r x) o (mapped-some closing r.servers x.0 o.0 ∙ is) (omega arith)
]
