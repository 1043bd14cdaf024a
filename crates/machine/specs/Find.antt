-- The first two steps of the instructions that find an object by its kind and name: the find, and the return,
-- which opens what was found. The object may die in between.
use Rattle.std.specs.Prelude.{ℕ, nat_lt, ◌==◌, ◌&&◌, ◌||◌, Bool, true, false, not, if◌then◌else◌, List, [], ◌∷◌, Option, Some, None}
use Rattle.sym_base.specs.declared.error.Error.TheVariants.{NotFound}
use Rattle.sym_base.specs.declared.kind.Kind.{Kind}
use Rattle.sym_base.specs.declared.number.ObjNo.{ObjNo}
use Rattle.sym_base.specs.declared.word.Word.{Word}
use Rattle.sym_base.specs.ErrorCode.{error_code}
use Rattle.entry_log.specs.declared.step.Step.TheVariants.{Of}
use Rattle.entry_log.specs.declared.step.Part.{Part}
use Rattle.entry_log.specs.declared.step.Part.TheVariants.{Seek, Return}
use Rattle.state_rows.specs.declared.object.ObjectRow.{ObjectRow}
use Rattle.state_rows.specs.ObjectRows.{is_dead_row, is_session, named}
use Rattle.machine.specs.declared.decision.Decision.{Decision}
use Rattle.machine.specs.declared.moves.Move.TheVariants.{Find, Miss, Open}
use Rattle.state_rows.specs.declared.thread.ThreadRow.{ThreadRow}
use Rattle.machine.specs.declared.state.State.{State}
use Rattle.machine.specs.Rows.{object_of}
use Rattle.machine.specs.References.{count_of}
use Rattle.machine.specs.ThreadCalls.{is_live}
use Rattle.machine.specs.Decide.{answer, one_move, refuse}

-- an object that isn't dead and has no reference isn't found
abbrev pub findable : State → Option ObjNo → Option ObjNo
findable S None = None
findable S (Some o) = if is_dead_row (object_of S o) || nat_lt 0 (count_of S o) then Some o else None

-- the object that a find by kind and name finds; nobody finds a session
abbrev pub find_object : State → Kind → List ℕ → Option ObjNo
find_object S kind name = if is_session kind then None else findable S (named kind name S.references.objects)

-- no such object: it isn't found; else the return comes next
abbrev pub seek_object : ObjNo → Word → Option ObjNo → Decision
seek_object t word None = refuse t (Of word Seek) NotFound
seek_object t word (Some o) = one_move (Of word Seek) (Find t o)

-- the find of an object of a kind and name
abbrev pub seek : State → ObjNo → Word → Kind → List ℕ → Decision
seek S t word kind name = seek_object t word (find_object S kind name)

-- whether the object of a place may be opened: it is there and isn't dead. At its number another object may stand since
abbrev pub is_open : ℕ → Option ObjectRow → Bool
is_open place None = false
is_open place (Some row) = not row.dead && row.place == place

-- the object died: it is missed, and isn't found; else the thread uses it from now on, and another step comes. A doomed thread
-- comes back without an answer
abbrev pub miss : ObjNo → Word → ObjNo → Bool → Decision
miss t word o true = answer t (Of word Return) (Miss t o ∷ []) (error_code NotFound)
miss t word o false = one_move (Of word Return) (Miss t o)

abbrev pub return_to : State → ObjNo → ThreadRow → Word → Part → Decision
return_to S t row word part =
    if is_open row.sought_place (object_of S row.sought) then one_move (Of word Return) (Open t row.sought part)
    else miss t word row.sought (is_live row.stage)
