-- The rows of mutexes and semaphores in the table.
use Rattle.std.proofs.Common.{◌≡◌, ◌∙◌, ℕ, List, [], ◌∷◌, refl, ap, arith}
use Rattle.std.specs.Prelude.{if◌then◌else◌, nat_lt, Option, Some, None}
use Rattle.sym_base.specs.Greatest.{first_of_greatest, unless_greater}
use Rattle.sym_base.specs.declared.number.ObjNo.{ObjNo}
use Rattle.state_rows.specs.Locks.{best_waiter, waiters_at}
use Rattle.kern_sync.specs.KernelLocks.{best_of, priority_of as rank_of}
use Rattle.machine.specs.Choice.{priority_of}
use Rattle.kernel_tables.specs.declared.tables.Tables.{Tables}
use Rattle.kernel_tables.specs.Noted.{AreKept, TiedTables}
use Rattle.table_moves.specs.ObjectsView.{IsHeld}
use Rattle.kernel_tables.specs.Referred.{IsReferred}
use Rattle.kernel_tables.specs.StateOf.{state_of}

-- the same is the first of the greatest by weights that are the same
unless_same : (f g : ObjNo → ℕ) (x : ObjNo) (later : Option ObjNo) → ((u : ObjNo) → f u ≡ g u) → unless_greater f x later ≡ unless_greater g x later
unless_same f g x None same = refl
unless_same f g x (Some y) same =
    ap (λ (n : ℕ). if nat_lt n (f y) then Some y else Some x) (same x)
    ∙ ap (λ (n : ℕ). if nat_lt (g x) n then Some y else Some x) (same y)

pub greatest_same : (f g : ObjNo → ℕ) (qs : List ObjNo) → ((u : ObjNo) → f u ≡ g u) → first_of_greatest f qs ≡ first_of_greatest g qs
greatest_same f g [] same = refl
greatest_same f g (x ∷ rest) same = ap (unless_greater f x) (greatest_same f g rest same) ∙ unless_same f g x (first_of_greatest g rest) same

-- the best waiter by the priorities of the table is the one of the state
pub best_same : {W N : Type 0} (tables : Tables W N) (o : ObjNo) → TiedTables tables
    → best_of tables.locks o ≡ best_waiter (priority_of (state_of tables)) (state_of tables).synchronization.locks o
best_same tables o tied = greatest_same (rank_of tables.locks) (priority_of (state_of tables)) (waiters_at tables.locks.rows o) tied.ranks

-- an object that is referred to is held
pub held_by_count : {W N : Type 0} (tables : Tables W N) (o : ObjNo) → AreKept tables → IsReferred (state_of tables) o → IsHeld tables.objects o
held_by_count tables o kept referred = record {
  there = referred.there;
  known = let a = kept.counts o in let b = referred.known in omega arith;
  few = let a = kept.counts o in let b = referred.few in omega arith;
}
