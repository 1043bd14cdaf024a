-- Rows of threads, where one changes.
use Rattle.std.proofs.Common.{◌≡◌, inl, inr, ℕ, ◌+◌, List, length, get_or, refl, sym, subst, ap, ◌∙◌, Option, Some, None, false}
use Rattle.std.specs.Prelude.{option_map, is_some}
use Rattle.std.proofs.lemmas.Bool.{cases_eq}
use Rattle.std.proofs.lemmas.List.{length-set}
use Rattle.sym_base.specs.declared.number.ObjNo.{ObjNo}
use Rattle.script_types.specs.declared.script.Script.{Script}
use Rattle.state_rows.specs.declared.thread.Role.{Role}
use Rattle.state_rows.specs.declared.thread.ThreadRow.{ThreadRow}
use Rattle.machine.specs.Rows.{with_row}
use Rattle.machine.specs.Task.{served_queue}
use Rattle.machine.specs.WellFormed.{IsThread, AreThreads}
use Rattle.move_laws.proofs.Holders.ThreadRows.{row-here, row-other}

-- what a change of a thread's row keeps
pub record KeepsThread (script : Script) (count : ℕ) (old new : ThreadRow) : Type 0 where
  pub thread : IsThread script count new
  pub process : new.process ≡ old.process
  pub role : new.role ≡ old.role

pub length-with_row : (threads : List (Option ThreadRow)) (t : ObjNo) (f : ThreadRow → ThreadRow) → length (with_row threads t f) ≡ length threads
length-with_row threads t f = length-set threads t.0 (option_map f (get_or threads t.0 None))

-- where there is no thread, there is none then
pub none-with_row : (threads : List (Option ThreadRow)) (t : ObjNo) (f : ThreadRow → ThreadRow) (k : ℕ)
    → get_or threads k None ≡ None → get_or (with_row threads t f) k None ≡ None
none-with_row threads t f k none = elim (cases_eq t.0 k) as (λ _. get_or (with_row threads t f) k None ≡ None) [
  | inl at ↦ row-here threads t f k at ∙ ap (λ (n : ℕ). option_map f (get_or threads n None)) at ∙ ap (option_map f) none
  | inr apart ↦ row-other threads t f k apart ∙ none
]

pub map_some : {A : Type 0} (f : A → A) (x : Option A) (row : A) → option_map f x ≡ Some row → (old : A) × (x ≡ Some old) × (f old ≡ row)
map_some f None row e = absurd (cc)
map_some f (Some old) row e = (old, refl, cc)

-- a row after the change is the changed one, or was there before
pub was_row : (threads : List (Option ThreadRow)) (t : ObjNo) (f : ThreadRow → ThreadRow) (P : ℕ → ThreadRow → Type 0)
    → ((old : ThreadRow) → get_or threads t.0 None ≡ Some old → P t.0 (f old))
    → ((k : ℕ) (row : ThreadRow) → get_or threads k None ≡ Some row → P k row) → (k : ℕ) (row : ThreadRow)
    → get_or (with_row threads t f) k None ≡ Some row → P k row
was_row threads t f P here there k row is = elim (cases_eq t.0 k) as (λ _. P k row) [
  | inl at ↦
      let was = map_some f (get_or threads t.0 None) row (sym (row-here threads t f k at) ∙ is) in
      subst (λ (n : ℕ). P n row) at (subst (P t.0) was.2 (here was.0 was.1))
  | inr apart ↦ there k row (sym (row-other threads t f k apart) ∙ is)
]

pub threads-with_row : (script : Script) (threads : List (Option ThreadRow)) (t : ObjNo) (f : ThreadRow → ThreadRow)
    → ((row : ThreadRow) → get_or threads t.0 None ≡ Some row → IsThread script (length threads) row
    → KeepsThread script (length threads) row (f row))
    → AreThreads script threads → AreThreads script (with_row threads t f)
threads-with_row script threads t f keeps h = record {
  rows = λ k row is. subst (λ (n : ℕ). IsThread script n row) (sym (length-with_row threads t f))
      (was_row threads t f (λ (n : ℕ). IsThread script (length threads)) (λ old is. (keeps old is (h.rows t.0 old is)).thread) h.rows k row is);
  processes = λ k row is. none-with_row threads t f row.process.0
      (was_row threads t f (λ (n : ℕ) (r : ThreadRow). get_or threads r.process.0 None ≡ None)
      (λ old is. subst (λ (p : ObjNo). get_or threads p.0 None ≡ None) (sym (keeps old is (h.rows t.0 old is)).process)
      (h.processes t.0 old is)) h.processes k row is);
  servers = λ k queue row is. was_row threads t f (λ (n : ℕ) (r : ThreadRow). served_queue r.role ≡ Some queue → n ≡ 1 + queue)
      (λ old was serves. h.servers t.0 queue old was (subst (λ (role : Role). served_queue role ≡ Some queue) (keeps old was (h.rows t.0 old was)).role serves))
      (λ n old was. h.servers n queue old was) k row is;
}

none_by : (x : Option ThreadRow) → is_some x ≡ false → x ≡ None
none_by None e = refl
none_by (Some row) e = cc

-- where no thread is counted, there is none
pub is_none_by : (threads : List (Option ThreadRow)) (k : ℕ) → is_some (get_or threads k None) ≡ false → get_or threads k None ≡ None
is_none_by threads k e = none_by (get_or threads k None) e

-- a thread that is there is there still, with what the change keeps
pub row-kept : (threads : List (Option ThreadRow)) (u : ObjNo) (f : ThreadRow → ThreadRow) (k : ℕ) (row : ThreadRow)
    (P : ThreadRow → Type 0)
    → ((r : ThreadRow) → P r → P (f r)) → get_or threads k None ≡ Some row → P row
    → (new : ThreadRow) × (get_or (with_row threads u f) k None ≡ Some new) × P new
row-kept threads u f k row P keeps is p = elim (cases_eq u.0 k) as (λ _. (new : ThreadRow) × (get_or (with_row threads u f) k None ≡ Some new) × P new) [
  | inl at ↦ (f row, row-here threads u f k at ∙ ap (λ (n : ℕ). option_map f (get_or threads n None)) at ∙ ap (option_map f) is, keeps row p)
  | inr apart ↦ (row, row-other threads u f k apart ∙ is, p)
]
