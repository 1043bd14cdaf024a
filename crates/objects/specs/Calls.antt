-- What the calls on the table of objects answer and leave.
use Rattle.std.specs.Prelude.{ℕ, ◌+◌, Bool, false, not, ◌||◌, ◌==◌, if◌then◌else◌, List, Option, Some, None, length, position, slice_index, slice_set}
use Rattle.sym_base.specs.declared.kind.Kind.{Kind}
use Rattle.sym_base.specs.declared.limits.TheConstants.Limits.{OBJECTS}
use Rattle.sym_base.specs.declared.number.ObjNo.{ObjNo}
use Rattle.ref_words.specs.declared.answer.Closed.{Closed}
use Rattle.ref_words.specs.declared.answer.Closed.TheVariants.{Stays, Last}
use Rattle.ref_words.specs.declared.answer.Found.{Found}
use Rattle.ref_words.specs.declared.answer.Found.TheVariants.{Held, Dead}
use Rattle.ref_words.specs.Words.{Words, created}
use Rattle.state_rows.specs.declared.object.ObjectRow.{ObjectRow}
use Rattle.objects.specs.declared.row.ObjRow.{ObjRow}
use Rattle.objects.specs.declared.objects.Made.{Made}
use Rattle.objects.specs.declared.objects.Made.TheVariants.{Made as MadeObject, NameTaken, Full}
use Rattle.objects.specs.Rows.{row_at, kept_name}
use Rattle.state_rows.specs.ObjectRows.{is_session, has_name, is_taken, is_dead_row, dead_row, next_number, with_object}

-- the answer of a making: the next number, unless the name is taken or no number is left
abbrev pub made_answer : Bool → Kind → List ℕ → List (Option ObjectRow) → Made
made_answer reuse kind name rows =
    if is_taken kind name rows then NameTaken
    else (if next_number reuse rows == OBJECTS then Full else MadeObject (record { 0 = next_number reuse rows }))

-- the row of an object that is made, where so many were made before it
abbrev pub new_row : Kind → List ℕ → ℕ → ObjectRow
new_row kind name made = record { kind = kind; name = kept_name kind name; dead = false; place = made }

-- the place of the next object: how many were made before it, and where numbers aren't used again its number
abbrev pub next_place : Bool → List (Option ObjectRow) → ℕ → ℕ
next_place reuse rows made = if reuse then made else length rows

-- the rows after a making
abbrev pub rows_made : Made → Kind → List ℕ → ℕ → List (Option ObjectRow) → List (Option ObjectRow)
rows_made (MadeObject o) kind name made rows = with_object rows o.0 (new_row kind name made)
rows_made NameTaken kind name made rows = rows
rows_made Full kind name made rows = rows

-- the counts after it, the makings, and the words
abbrev pub counts_made : Made → List ℕ → List ℕ
counts_made (MadeObject o) counts = slice_set counts o.0 1
counts_made NameTaken counts = counts
counts_made Full counts = counts

abbrev pub makings_made : Made → ℕ → ℕ
makings_made (MadeObject o) made = made + 1
makings_made NameTaken made = made
makings_made Full made = made

abbrev pub words_made : Made → ℕ → Words → Words
words_made (MadeObject o) made w = created w made
words_made NameTaken made w = w
words_made Full made w = w

-- whether an object is found: it has a reference, or its last one went
abbrev pub is_findable : List (Option ObjectRow) → List ℕ → ℕ → Bool
is_findable rows counts o = not (slice_index counts o == 0) || is_dead_row (row_at rows o)

-- the object at a place, if it is found
abbrev pub found_at : List (Option ObjectRow) → List ℕ → Option ℕ → Option ObjNo
found_at rows counts None = None
found_at rows counts (Some o) = if is_findable rows counts o then Some (record { 0 = o }) else None

-- the object of a kind with a name. Nobody finds a session
abbrev pub found : Kind → List ℕ → List (Option ObjectRow) → List ℕ → Option ObjNo
found kind name rows counts = if is_session kind then None else found_at rows counts (position (has_name kind name) rows)

-- what is told of a row and its count
abbrev pub told : Option ObjectRow → ℕ → Option ObjRow
told None count = None
told (Some row) count = Some (record { kind = row.kind; name = row.name; count = count; dead = row.dead; place = row.place })

-- what is told of an object
abbrev pub row_told : List (Option ObjectRow) → List ℕ → ℕ → Option ObjRow
row_told rows counts o = told (row_at rows o) (slice_index counts o)

-- the rows after a close
abbrev pub rows_closed : Closed → List (Option ObjectRow) → ℕ → List (Option ObjectRow)
rows_closed Stays rows o = rows
rows_closed Last rows o = slice_set rows o (dead_row (row_at rows o))

-- the rows after a sweep
abbrev pub rows_swept : List (Option ObjectRow) → ℕ → List (Option ObjectRow)
rows_swept rows o = slice_set rows o None

-- the counts once a note came back: one reference more where it found its object held
abbrev pub counts_found : Found → List ℕ → ℕ → List ℕ
counts_found Held counts o = slice_set counts o (slice_index counts o + 1)
counts_found Dead counts o = counts
