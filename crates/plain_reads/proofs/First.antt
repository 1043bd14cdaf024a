-- The first handle of a table, and the first of a list that passes a test.
use Rattle.std.proofs.Common.{◌≡◌, ℕ, ◌+◌, ◌<◌, ◌≤◌, Bool, true, false, List, [], ◌∷◌, cond, filter, length, get_or, drop, Option, Some, None, refl, ap, ◌∙◌}
use Rattle.std.specs.Prelude.{slice_get}
use Rattle.std.specs.List.{find}
use Rattle.std.proofs.lemmas.List.{at_drop_more, at_drop_all}
use Rattle.sym_base.specs.declared.number.ObjNo.{ObjNo}
use Rattle.state_rows.specs.declared.messages.Message.{Message}
use Rattle.state_rows.specs.declared.messages.MessageRows.{MessageRows}
use Rattle.state_rows.specs.MessageRows.{waits_at}
use Rattle.state_rows.specs.MessageChanges.{number_of, next_of}
use Rattle.state_rows.specs.declared.handle_slot.HandleSlot.{HandleSlot}
use Rattle.machine.specs.Holdings.{first_here, first_used}

-- the first of those that pass a test is the first that passes it
kept_if : {A : Type 0} (kept : Bool) (x : A) (later : Option A) (ys : List A) → slice_get ys 0 ≡ later
    → slice_get (cond kept (x ∷ ys) ys) 0 ≡ cond kept (Some x) later
kept_if true x later ys is = refl
kept_if false x later ys is = is

first_kept : {A : Type 0} (test : A → Bool) (xs : List A) → slice_get (filter test xs) 0 ≡ find test xs
first_kept test [] = refl
first_kept test (x ∷ xs) = kept_if (test x) x (find test xs) (filter test xs) (first_kept test xs)

pub kept_as : {A : Type 0} (test : A → Bool) (xs : List A) (found : Option A) → find test xs ≡ found → slice_get (filter test xs) 0 ≡ found
kept_as test xs found is = first_kept test xs ∙ is

-- so the next message of a server is found by going over the messages
pub next_as : (rows : MessageRows) (server : ObjNo) (found : Option Message)
    → find (waits_at server.0) rows.outstanding ≡ found → next_of rows server ≡ number_of found
next_as rows server found is = ap number_of (kept_as (waits_at server.0) rows.outstanding found is)

-- the slots of a table from one on: that one has an object, or the next ones are left, or none
pub used_here : (slots : List HandleSlot) (i : ℕ) (d : HandleSlot) (o : ObjNo) → i < length slots
    → (get_or slots i d).object ≡ Some o → first_used i (drop i slots) ≡ Some (i, o)
used_here slots i d o inside is =
    at_drop_more (first_used i) slots i d inside
    ∙ ap (λ (x : Option ObjNo). first_here i x (first_used (i + 1) (drop (i + 1) slots))) is

pub used_later : (slots : List HandleSlot) (i : ℕ) (d : HandleSlot) → i < length slots
    → (get_or slots i d).object ≡ None → first_used i (drop i slots) ≡ first_used (i + 1) (drop (i + 1) slots)
used_later slots i d inside is =
    at_drop_more (first_used i) slots i d inside
    ∙ ap (λ (x : Option ObjNo). first_here i x (first_used (i + 1) (drop (i + 1) slots))) is

pub used_never : (slots : List HandleSlot) (i : ℕ) → length slots ≤ i → first_used i (drop i slots) ≡ None
used_never slots i past = at_drop_all (first_used i) slots i past
