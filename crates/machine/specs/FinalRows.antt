-- The objects that are left, in order of number, with their counts.
use Rattle.std.specs.Prelude.{◌≡◌, ℕ, ◌+◌, List, [], ◌∷◌, Option, Some, None, drop}
use Rattle.entry_log.specs.declared.entry.FinalRow.{FinalRow}
use Rattle.state_rows.specs.declared.object.ObjectRow.{ObjectRow}
use Rattle.machine.specs.declared.state.State.{State}
use Rattle.machine.specs.References.{count_of}
use Rattle.machine.specs.Rows.{thread_of}
use Rattle.sym_base.specs.declared.kind.Exit.{Exit}
use Rattle.state_rows.specs.declared.thread.ThreadRow.{ThreadRow}

-- the exit of a thread that is doomed or dead; nothing else has one
abbrev pub exit_of_row : Option ThreadRow → Option Exit
exit_of_row None = None
exit_of_row (Some row) = row.exit

-- an object's row
abbrev pub final_row : State → ℕ → ObjectRow → FinalRow
final_row S n row = record {
  object = record { 0 = n };
  kind = row.kind;
  name = row.name;
  count = count_of S (record { 0 = n });
  exit = exit_of_row (thread_of S (record { 0 = n }));
}

-- the rows of objects that aren't swept, from number n on
abbrev pub rows_of : State → ℕ → List (Option ObjectRow) → List FinalRow
rows_of S n [] = []
rows_of S n (None ∷ rest) = rows_of S (n + 1) rest
rows_of S n (Some row ∷ rest) = final_row S n row ∷ rows_of S (n + 1) rest

abbrev pub rows_from : State → ℕ → List FinalRow
rows_from S n = rows_of S n (drop n S.references.objects)

abbrev pub final_rows : State → List FinalRow
final_rows S = rows_of S 0 S.references.objects

-- the first of the rows from a number on, None where there is none
abbrev pub IsNextRow : (ℕ → List FinalRow) → ℕ → Option FinalRow → Type 0
IsNextRow rows from None = rows from ≡ []
IsNextRow rows from (Some row) = rows from ≡ row ∷ rows (row.object.0 + 1)
