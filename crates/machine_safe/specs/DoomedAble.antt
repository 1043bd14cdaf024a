-- A doomed thread can act: it waits for nothing, isn't stopped, wants nothing that is held, and has something to give up or is cleaned.
use Rattle.std.specs.Prelude.{◌≡◌, Bool, true, false, List, Some}
use Rattle.sym_base.specs.declared.number.ObjNo.{ObjNo}
use Rattle.script_types.specs.declared.script.Script.{Script}
use Rattle.entry_log.specs.declared.entry.Entry.{Entry}
use Rattle.state_rows.specs.declared.thread.Stage.TheVariants.{Doomed}
use Rattle.state_rows.specs.declared.thread.ThreadRow.{ThreadRow}
use Rattle.machine.specs.History.{after_in}
use Rattle.machine.specs.Out.{is_out}
use Rattle.machine.specs.Rows.{thread_of}
use Rattle.machine.specs.Task.{is_able}

-- after a history, whoever is doomed is able to act, unless he is out, as he may be where callers share the kernel
abbrev pub AreDoomedAble : Bool → Script → List Entry → Type 0
AreDoomedAble shared script history =
    (t : ObjNo) (row : ThreadRow) → thread_of (after_in shared script history) t ≡ Some row → row.stage ≡ Doomed
    → is_out (after_in shared script history) t ≡ false → is_able script (after_in shared script history) t ≡ true
