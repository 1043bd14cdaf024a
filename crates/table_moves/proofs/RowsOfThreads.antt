-- Rows of threads in the table, one of which changes.
use Rattle.std.proofs.Common.{◌≡◌, ◌∙◌, get_or, set, refl, sym, ap, false, true}
use Rattle.std.specs.Prelude.{IsTrue, is_some, Option, Some, None, option_map, unwrap_or}
use Rattle.std.proofs.lemmas.List.{set-get_or}
use Rattle.sym_base.specs.declared.number.ObjNo.{ObjNo}
use Rattle.state_rows.specs.declared.thread.ThreadRow.{ThreadRow}
use Rattle.state_rows.specs.ThreadRows.{new_thread}
use Rattle.procs.specs.ProcsRows.{ProcsRows}
use Rattle.procs.specs.Rows.{is_thread, row_of, with_row as with_one}
use Rattle.machine.specs.Rows.{with_row}
use Rattle.table_moves.specs.ThreadRows.{with_threads}

-- the row of a thread changes
pub row_set : (rows : ProcsRows) (t : ObjNo) (f : ThreadRow → ThreadRow) → IsTrue (is_thread rows t)
    → with_one rows t (f (row_of rows t)) ≡ with_threads rows (with_row rows.threads t f)
row_set rows t f there = by_row (get_or rows.threads t.0 None) refl
  where
    by_row : (x : Option ThreadRow) → get_or rows.threads t.0 None ≡ x → with_one rows t (f (row_of rows t)) ≡ with_threads rows (with_row rows.threads t f)
    by_row None is = let clash : false ≡ true = ap (λ (x : Option ThreadRow). is_some x) (sym is) ∙ there in absurd (cc)
    by_row (Some row) is =
        let other = new_thread t in
        let put : Option ThreadRow → ProcsRows = λ x. with_threads rows (set rows.threads t.0 x) in
        ap put (ap (λ (x : Option ThreadRow). Some (f (unwrap_or x other))) is ∙ sym (ap (option_map f) is))

-- a number without a row stays without one
pub row_none : (rows : ProcsRows) (t : ObjNo) (f : ThreadRow → ThreadRow) → is_thread rows t ≡ false → rows ≡ with_threads rows (with_row rows.threads t f)
row_none rows t f none = by_row (get_or rows.threads t.0 None) refl
  where
    by_row : (x : Option ThreadRow) → get_or rows.threads t.0 None ≡ x → rows ≡ with_threads rows (with_row rows.threads t f)
    by_row (Some row) is = let clash : true ≡ false = ap (λ (x : Option ThreadRow). is_some x) (sym is) ∙ none in absurd (cc)
    by_row None is =
        ap (with_threads rows) (sym (ap (λ (x : Option ThreadRow). set rows.threads t.0 (option_map f x)) is
        ∙ (ap (set rows.threads t.0) (sym is) ∙ set-get_or rows.threads t.0 None)))

-- a thread that is there has a row
pub record HasRow (x : Option ThreadRow) : Type 0 where
  pub row : ThreadRow
  pub is : x ≡ Some row

pub has_row : (x : Option ThreadRow) → is_some x ≡ true → HasRow x
has_row None there = absurd (cc)
has_row (Some row) there = record { row = row; is = refl }
