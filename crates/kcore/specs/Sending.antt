-- Notes that are sent out and taken back.
use Rattle.std.specs.Prelude.{◌≡◌, ℕ, ◌+◌, ◌<◌, false, List, length, Option, Some, None, option_map, slice_get}
use Rattle.sym_base.specs.declared.number.ObjNo.{ObjNo}
use Rattle.sym_base.specs.declared.word.Word.{Word}
use Rattle.script_types.specs.declared.script.Script.{Script}
use Rattle.entry_log.specs.declared.step.Part.{Part}
use Rattle.entry_log.specs.declared.step.Part.TheVariants.{Do}
use Rattle.ref_words.specs.declared.slip.Slip.{Slip}
use Rattle.objects.specs.Rows.{is_alive}
use Rattle.state_rows.specs.ObjectRows.{place_of}
use Rattle.machine.specs.declared.moves.Move.{Move}
use Rattle.machine.specs.declared.moves.Move.TheVariants.{Open}
use Rattle.machine.specs.declared.state.State.{State}
use Rattle.machine.specs.Find.{return_to}
use Rattle.machine.specs.Fits.{ComesBack}
use Rattle.machine.specs.References.{count_of}
use Rattle.machine.specs.Rows.{object_of}
use Rattle.machine.specs.Steps.{decision_of}
use Rattle.table_moves.specs.Notes.{Notes, IsNoteOut, notes_back, notes_sent}
use Rattle.table_moves.specs.ObjectsView.{IsThere}
use Rattle.kernel_tables.specs.Choosing.{MayChoose}

-- the step to which a decided return goes on
abbrev pub part_of_move : Move → Part
part_of_move (Open u o part) = part
part_of_move _ = Do

abbrev pub part_of_first : Option Move → Part
part_of_first None = Do
part_of_first (Some m) = part_of_move m

abbrev pub part_in : List Move → Part
part_in ms = part_of_first (slice_get ms 0)

-- the note that is sent out where an object was found: it has the object's place, and the next number
abbrev pub slip_after : State → Option ObjNo → Notes → Option Slip
slip_after S found notes = option_map (λ (o : ObjNo). record { place = place_of (object_of S o); number = notes.made + 1 }) found

-- the notes then
abbrev pub notes_after : Option Slip → Notes → Notes
notes_after None notes = notes
notes_after (Some s) notes = notes_sent notes s.place

-- a note of an object may be sent out: it is there, and has a reference or isn't alive; and there is room for the note
pub record MaySend (notes : Notes) (S : State) (o : ObjNo) : Type 0 where
  pub there : IsThere (object_of S o)
  pub known : count_of S o ≡ 0 → is_alive (object_of S o) ≡ false
  pub small : count_of S o < 65536
  pub few_out : length notes.out < 64
  pub few_made : notes.made < 4294967295

-- a thread comes back to the object of a place, which it opens, if that is alive, by an instruction of this word, and goes on to this step
pub record ReturnsTo (script : Script) (S : State) (t : ObjNo) (place : ℕ) : Type 0 where
  pub found : ObjNo
  pub back : ComesBack S t found
  pub sought : back.row.sought_place ≡ place
  pub word : Word
  pub part : Part
  pub decides : decision_of script S t ≡ return_to S t back.row word part

-- a thread may come back with this note, if that is out: the thread is on its place, and whoever else is out has the other notes
pub record MayComeBack (script : Script) (s : Slip) (t : ObjNo) (notes : Notes) (S : State) : Type 0 where
  pub out : IsNoteOut notes s → ReturnsTo script S t s.place
  pub rest : IsNoteOut notes s → MayChoose t (notes_back s notes) S
