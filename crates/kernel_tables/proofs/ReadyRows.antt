-- A thread that is ready has a row.
use Rattle.std.proofs.Common.{◌≡◌, ◌∙◌, true, false, refl, sym, ap}
use Rattle.std.specs.Prelude.{not, ◌&&◌, Option, Some, None, is_some}
use Rattle.sym_base.specs.declared.number.ObjNo.{ObjNo}
use Rattle.script_types.specs.declared.script.Script.{Script}
use Rattle.machine.specs.declared.state.State.{State}
use Rattle.state_rows.specs.declared.thread.ThreadRow.{ThreadRow}
use Rattle.machine.specs.Rows.{thread_of}
use Rattle.machine.specs.Task.{is_ready, is_stopped, is_unspent_row, is_waiting, task_of}

-- a number without a row isn't ready
pub rowless_unready : (script : Script) (S : State) (t : ObjNo) → thread_of S t ≡ None → is_ready script S t ≡ false
rowless_unready script S t none =
    ap (λ (x : Option ThreadRow). is_unspent_row x && not (is_waiting S t) && not (is_stopped S t) && is_some (task_of script S t)) none

row_of : (script : Script) (S : State) (t : ObjNo) (row : Option ThreadRow) → thread_of S t ≡ row
    → is_ready script S t ≡ true → (r : ThreadRow) × (thread_of S t ≡ Some r)
row_of script S t (Some r) is ready = (r, is)
row_of script S t None is ready =
    let clash : false ≡ true = sym (rowless_unready script S t is) ∙ ready in
    absurd (cc)

pub ready_row : (script : Script) (S : State) (t : ObjNo) → is_ready script S t ≡ true → (r : ThreadRow) × (thread_of S t ≡ Some r)
ready_row script S t ready = row_of script S t (thread_of S t) refl ready
