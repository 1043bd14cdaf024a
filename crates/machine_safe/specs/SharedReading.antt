-- A legal history read as one of callers who share the kernel: its entries are legal there, and it leaves the same rows.
use Rattle.std.specs.Prelude.{◌≡◌, ◌&&◌, ◌||◌, not, true, List}
use Rattle.sym_base.specs.declared.number.ObjNo.{ObjNo}
use Rattle.script_types.specs.declared.script.Script.{Script}
use Rattle.entry_log.specs.declared.entry.Entry.{Entry}
use Rattle.machine.specs.declared.state.State.{State}
use Rattle.machine.specs.FinalRows.{final_rows}
use Rattle.machine.specs.History.{after, after_in, IsShared}
use Rattle.machine.specs.Out.{is_out}
use Rattle.machine.specs.Task.{is_able, may_act}

-- A state of one caller alone, and one of callers who share the kernel, that have the same rows. Who is out isn't able to act, and may come back;
-- each other thread is able to act in both states or in none.
pub record HasSameRows (script : Script) (S T : State) : Type 0 where
  pub references : T.references ≡ S.references
  pub synchronization : T.synchronization ≡ S.synchronization
  pub serving : T.serving ≡ S.serving
  pub services : T.services ≡ S.services
  pub able : (t : ObjNo) → is_able script T t ≡ (is_able script S t && not (is_out T t))
  pub may : (t : ObjNo) → may_act script T t ≡ (is_able script S t || is_out T t)

-- a history is one of callers who share the kernel, and read so it leaves the same rows, so that also its text is the same
pub record IsSharedToo (script : Script) (history : List Entry) : Type 0 where
  pub shared : IsShared script history
  pub rows : HasSameRows script (after script history) (after_in true script history)
  pub left : final_rows (after_in true script history) ≡ final_rows (after script history)
