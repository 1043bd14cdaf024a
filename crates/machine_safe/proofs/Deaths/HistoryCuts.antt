-- A legal history, cut at an entry.
use Rattle.std.proofs.Common.{◌≡◌, ℕ, ◌+◌, List, [], ◌∷◌, ◌++◌, refl, sym, ap, subst, ◌∙◌, Bool, Option, Some, None}
use Rattle.sym_base.specs.declared.number.ObjNo.{ObjNo}
use Rattle.script_types.specs.declared.script.Script.{Script}
use Rattle.script_types.specs.Source.{IsWellFormed}
use Rattle.script_types.proofs.ShapeLaws.{formed_is_shaped}
use Rattle.entry_log.specs.declared.effect.LockNo.{LockNo}
use Rattle.entry_log.specs.declared.effect.LockNo.TheVariants.{Object, Fast}
use Rattle.entry_log.specs.declared.entry.Entry.{Entry}
use Rattle.state_rows.specs.declared.thread.ThreadRow.{ThreadRow}
use Rattle.machine.specs.declared.state.State.{State}
use Rattle.machine.specs.Boot.{boot, boot_in, boot_of, born}
use Rattle.machine.specs.History.{after_from, after_in, choosing, next_by, IsLegalFrom, IsLegalIn, IsNext}
use Rattle.machine.specs.References.{mutex_names, option_names, stage_holds, total}
use Rattle.machine.specs.Rows.{thread_of}
use Rattle.machine.specs.WellFormed.{AreRows}
use Rattle.machine_laws.proofs.AtBoot.BootLocks.{nothing_at}
use Rattle.machine_laws.proofs.AtBoot.BootRows.{rows-boot}
use Rattle.machine_laws.proofs.AtBoot.Born.{born_row, each_born}
use Rattle.machine_laws.proofs.Reached.AfterHistory.{well_formed-after}
use Rattle.move_laws.proofs.Lists.Copies.{copy_at}
use Rattle.machine_safe.specs.CountAfter.{effects_of}
use Rattle.machine_safe.proofs.Deaths.DeathsTold.{Dies, lock_bit}
use Rattle.machine_safe.proofs.Deaths.Rows.{row_bit, stage_live}
use Rattle.machine_safe.proofs.Deaths.Runs.{dies-by, dies-run}
use Rattle.machine_safe.proofs.Done.{IsDone, done-next, rows-by, rows-choosing}

-- the entries that stand first, and those behind them
pub legal-front : (script : Script) (S : State) (place : ℕ) (xs ys : List Entry) → IsLegalFrom script S place (xs ++ ys) → IsLegalFrom script S place xs
legal-front script S place [] ys h = tt
legal-front script S place (x ∷ xs) ys h = (h.0, legal-front script (next_by script S x) (place + 1) xs ys h.1)

pub legal-rest : (script : Script) (S : State) (place : ℕ) (xs ys : List Entry) → IsLegalFrom script S place (xs ++ ys)
    → (n : ℕ) × IsLegalFrom script (after_from script S xs) n ys
legal-rest script S place [] ys h = (place, h)
legal-rest script S place (x ∷ xs) ys h = legal-rest script (next_by script S x) (place + 1) xs ys h.1

-- a legal history up to an entry, the entry, and what is behind it
pub record IsCut (shared : Bool) (script : Script) (before : List Entry) (e : Entry) (later : List Entry) : Type 0 where
  pub rows : AreRows script (after_in shared script before)
  pub front : Dies (boot_in shared script) (after_in shared script before) (effects_of before)
  pub legal_before : IsLegalIn shared script before
  pub place : ℕ
  pub done : IsDone script (choosing e (after_in shared script before)) place e
  pub rows_done : AreRows script (choosing e (after_in shared script before))
  pub here : IsNext script (after_in shared script before) place e
  pub step : Dies (after_in shared script before) (next_by script (after_in shared script before) e) e.effects
  pub rows_next : AreRows script (next_by script (after_in shared script before) e)
  pub legal : IsLegalFrom script (next_by script (after_in shared script before) e) (place + 1) later
  pub rest : Dies (next_by script (after_in shared script before) e)
      (after_from script (next_by script (after_in shared script before) e) later) (effects_of later)

pub dies-history : (shared : Bool) (script : Script) (history : List Entry) → IsWellFormed script
    → IsLegalIn shared script history
    → Dies (boot_in shared script) (after_in shared script history) (effects_of history)
dies-history shared script history valid legal =
    dies-run script (boot_in shared script) 1 history (formed_is_shaped script valid)
    (rows-boot shared script valid) legal

pub cut : (shared : Bool) (script : Script) (history before : List Entry) (e : Entry) (later : List Entry)
    → IsWellFormed script → IsLegalIn shared script history → history ≡ before ++ e ∷ later
    → IsCut shared script before e later
cut shared script history before e later valid legal is =
    let shaped = formed_is_shaped script valid in
    let all : IsLegalIn shared script (before ++ e ∷ later) = subst (IsLegalIn shared script) is legal in
    let S = after_in shared script before in
    let rows = (well_formed-after shared script before valid).rows in
    let first = legal-front script (boot_in shared script) 1 before (e ∷ later) all in
    let behind = legal-rest script (boot_in shared script) 1 before (e ∷ later) all in
    let rows_next = rows-by script S e shaped rows in
    record {
      rows = rows;
      front = dies-history shared script before valid first;
      legal_before = first;
      place = behind.0;
      done = done-next script S behind.0 e behind.1.0;
      rows_done = rows-choosing script S e rows;
      here = behind.1.0;
      step = dies-by script S behind.0 e shaped rows behind.1.0;
      rows_next = rows_next;
      legal = behind.1.1;
      rest = dies-run script (next_by script S e) (behind.0 + 1) later shaped rows_next behind.1.1;
    }

-- at boot each thread is live, and nobody has a lock
pub live-boot : (script : Script) (t : ObjNo) → IsWellFormed script
    → row_bit stage_holds (thread_of (boot script) t) ≡ row_bit stage_live (thread_of (boot script) t)
unfolding boot_of
live-boot script t valid = by (thread_of (boot script) t) refl
  where
    by : (x : Option ThreadRow) → thread_of (boot script) t ≡ x → row_bit stage_holds x ≡ row_bit stage_live x
    by None is = refl
    by (Some row) is = let new = born_row script _ (born script) t.0 row
        (each_born script (formed_is_shaped script valid)) is in ap stage_holds new.live
        ∙ sym (ap stage_live new.live)

pub unlocked-boot : (script : Script) (t : ObjNo) (lock : LockNo)
    → lock_bit (boot script).synchronization.nano.holders (boot script).synchronization.mutexes t lock ≡ 0
unfolding boot_of
unlocked-boot script t (Object o) = nothing_at (born script) (λ (l : List ObjNo). total (mutex_names o) l ≡ 0) t.0 refl
unlocked-boot script t (Fast f) = ap (option_names t) (copy_at {A = Option ObjNo} None script.fast f)
