-- The rows of the objects that are left: their numbers, and how many there are.
use Rattle.std.proofs.Common.{Bool, ◌≡◌, ℕ, ◌+◌, ◌<◌, ◌≤◌, List, [], ◌∷◌, length, drop, suc, arith, ap, Option, Some, None}
use Rattle.std.proofs.lemmas.List.{length-drop}
use Rattle.entry_log.specs.declared.entry.Entry.{Entry}
use Rattle.entry_log.specs.declared.entry.FinalRow.{FinalRow}
use Rattle.machine_laws.proofs.Reached.AfterHistory.{well_formed-after}
use Rattle.machine.specs.FinalRows.{final_row, final_rows, rows_of, rows_from}
use Rattle.machine.specs.History.{after_in}
use Rattle.state_rows.specs.declared.object.ObjectRow.{ObjectRow}
use Rattle.machine.specs.declared.state.State.{State}
use Rattle.script_types.specs.Source.{IsWellFormed}
use Rattle.script_types.specs.declared.script.Script.{Script}

-- a row's number lies among those of the list, which then isn't empty
pub record IsAmong (number n size : ℕ) : Type 0 where
  pub below : number < n + size
  pub some : 0 < size

among_later : (number n size : ℕ) → IsAmong number (n + 1) size → IsAmong number n (suc size)
among_later number n size h = record { below = omega arith; some = omega arith }

row_among : (S : State) (n : ℕ) (objects : List (Option ObjectRow)) (row : FinalRow) (rest : List FinalRow)
    → rows_of S n objects ≡ row ∷ rest → IsAmong row.object.0 n (length objects)
row_among S n [] row rest e = cc
row_among S n (None ∷ objects) row rest e = among_later row.object.0 n (length objects) (row_among S (n + 1) objects row rest e)
row_among S n (Some object ∷ objects) row rest e =
    let first : row ≡ final_row S n object = cc in
    let same : row.object.0 ≡ n = ap (λ (r : FinalRow). r.object.0) first in
    record { below = omega arith; some = omega arith }

-- so it is below 4,096
pub row_number : (shared : Bool) (script : Script) (history : List Entry) (n : ℕ) (row : FinalRow)
    (rest : List FinalRow)
    → IsWellFormed script → rows_from (after_in shared script history) n ≡ row ∷ rest → row.object.0 < 4096
row_number shared script history n row rest valid e =
    let among = row_among (after_in shared script history) n (drop n (after_in shared script history).references.objects) row rest e in
    let few = (well_formed-after shared script history valid).rows.references.sized.objects_few in
    omega (arith, length-drop n (after_in shared script history).references.objects)

-- and there are at most so many of them
length-rows : (S : State) (n : ℕ) (objects : List (Option ObjectRow)) → length (rows_of S n objects) ≤ length objects
length-rows S n [] = omega arith
length-rows S n (None ∷ objects) = omega (arith, length-rows S (n + 1) objects)
length-rows S n (Some object ∷ objects) = omega (arith, length-rows S (n + 1) objects)

pub few_rows : (shared : Bool) (script : Script) (history : List Entry) → IsWellFormed script → length (final_rows (after_in shared script history)) ≤ 4096
few_rows shared script history valid =
    omega (
      arith,
      length-rows (after_in shared script history) 0 (after_in shared script history).references.objects,
      (well_formed-after shared script history valid).rows.references.sized.objects_few,
    )
