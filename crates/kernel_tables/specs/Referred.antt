-- What a move needs of an object and of a thread.
use Rattle.std.specs.Prelude.{ℕ, ◌+◌, ◌<◌, ◌≤◌, length}
use Rattle.sym_base.specs.declared.number.ObjNo.{ObjNo}
use Rattle.machine.specs.declared.state.State.{State}
use Rattle.machine.specs.References.{count_of}
use Rattle.machine.specs.Rows.{object_of, owed_of}
use Rattle.table_moves.specs.ObjectsView.{IsThere}

-- an object that isn't swept and has references, so many that one more may come
pub record IsReferred (S : State) (o : ObjNo) : Type 0 where
  pub there : IsThere (object_of S o)
  pub known : 0 < count_of S o
  pub few : count_of S o < 65536

-- a thread has places left for so many duties more
abbrev pub HasPlaces : ℕ → State → ObjNo → Type 0
HasPlaces n S t = length (owed_of S t) + n ≤ 16
