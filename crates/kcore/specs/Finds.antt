-- The finds of a history, which number the notes: the k-th, counted from 1, sends the note of number k out.
use Rattle.std.specs.Prelude.{ℕ, zero, suc, List, [], ◌∷◌, ◌++◌, length, Option, Some, None, option_map, slice_get}
use Rattle.sym_base.specs.declared.number.ObjNo.{ObjNo}
use Rattle.entry_log.specs.declared.effect.Effect.{Effect}
use Rattle.entry_log.specs.declared.effect.Effect.TheVariants.{Seek}
use Rattle.entry_log.specs.declared.entry.Actor.{Actor}
use Rattle.entry_log.specs.declared.entry.Actor.TheVariants.{Thread}
use Rattle.entry_log.specs.declared.entry.Entry.{Entry}
use Rattle.ref_words.specs.declared.slip.Slip.{Slip}
use Rattle.state_rows.specs.ObjectRows.{place_of}
use Rattle.machine.specs.declared.state.State.{State}
use Rattle.machine.specs.Rows.{object_of}

-- the object that an effect finds by its name, and the first one that effects do
abbrev pub seek_in : Effect → Option ObjNo
seek_in (Seek o) = Some o
seek_in _ = None

abbrev pub found_in : List Effect → Option ObjNo
found_in [] = None
found_in (Seek o ∷ rest) = Some o
found_in (_ ∷ rest) = found_in rest

-- the threads that find objects, in order
abbrev pub finders_by : Actor → Option ObjNo → List ObjNo
finders_by (Thread t) (Some o) = t ∷ []
finders_by _ _ = []

abbrev pub finders : List Entry → List ObjNo
finders [] = []
finders (e ∷ es) = finders_by e.actor (found_in e.effects) ++ finders es

-- the thread of the find of a number
abbrev pub finder : ℕ → List Entry → Option ObjNo
finder zero history = None
finder (suc k) history = slice_get (finders history) k

-- the note that the last entry of a history sends out: it has the place, in this state, of the object that these effects of it find, and the number
-- of the find
abbrev pub note_of : State → List Entry → List Effect → Option Slip
note_of S history effects =
    option_map (λ (o : ObjNo). record { place = place_of (object_of S o); number = length (finders history) }) (found_in effects)
