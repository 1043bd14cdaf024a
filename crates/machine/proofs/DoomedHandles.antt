-- A doomed thread gives up its process's handles where it is the only thread of that which isn't cleaned.
use Rattle.std.proofs.Common.{◌≡◌, ℕ, [], refl, ap, ◌∙◌, Some, Bool}
use Rattle.std.specs.Prelude.{◌==◌, if◌then◌else◌}
use Rattle.std.proofs.lemmas.Bool.{eq-eqb}
use Rattle.sym_base.specs.declared.number.ObjNo.{ObjNo}
use Rattle.entry_log.specs.declared.effect.Holder.TheVariants.{InProcess}
use Rattle.state_rows.specs.declared.thread.Stage.TheVariants.{Doomed}
use Rattle.state_rows.specs.declared.thread.ThreadRow.{ThreadRow}
use Rattle.machine.specs.declared.state.State.{State}
use Rattle.machine.specs.Holdings.{has_one_left, held_handles, left_of, process_handles, stage_left}
use Rattle.machine.specs.References.{total}
use Rattle.machine.specs.Rows.{table_of, thread_of}

pub doomed_handles : (S : State) (t : ObjNo) (row : ThreadRow) → thread_of S t ≡ Some row → row.stage ≡ Doomed
    → process_handles S t row.process ≡ (if has_one_left S row.process then held_handles (InProcess row.process) 0
    (table_of S row.process) else [])
doomed_handles S t row is doomed =
    let own : left_of row.process (thread_of S t) ≡ 1 = ap (left_of row.process) is
    ∙ (ap (λ (b : Bool). if b then stage_left row.stage else 0) (eq-eqb row.process.0 row.process.0 refl)
    ∙ ap stage_left doomed) in
    ap (λ (n : ℕ). if total (left_of row.process) S.references.threads == n then held_handles (InProcess row.process) 0 (table_of S row.process) else []) own
