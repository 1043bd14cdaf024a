-- A kernel without entries may yet be called in both ways.
use Rattle.std.proofs.Common.{◌≡◌, ◌∙◌, ℕ, ◌+◌, ◌≤◌, Bool, true, false, List, [], ◌∷◌, ◌++◌, length, arith, refl, sym, ap, subst, Option, Some, None}
use Rattle.std.specs.Prelude.{◌&&◌, ◌||◌, IsTrue, if◌then◌else◌, is_none, is_some, not, drop}
use Rattle.std.specs.List.{list_any}
use Rattle.sym_base.specs.declared.number.ObjNo.{ObjNo}
use Rattle.script_types.specs.declared.script.Script.{Script}
use Rattle.script_types.specs.Source.{IsWellFormed}
use Rattle.entry_log.specs.declared.entry.Entry.{Entry}
use Rattle.entry_log.specs.declared.entry.FinalRow.{FinalRow}
use Rattle.ref_words.specs.declared.slip.Slip.{Slip}
use Rattle.ref_words.specs.Words.{same_slip}
use Rattle.state_rows.specs.Nano.{wanted_holder}
use Rattle.state_rows.specs.declared.object.ObjectRow.{ObjectRow}
use Rattle.state_rows.specs.declared.thread.ThreadRow.{ThreadRow}
use Rattle.machine.specs.declared.mode.Mode.{Mode}
use Rattle.machine.specs.declared.state.State.{State}
use Rattle.machine.specs.Boot.{boot, boot_in, ready_at_boot, uses_again}
use Rattle.machine.specs.Choice.{priority_of}
use Rattle.machine.specs.FinalRows.{final_row, rows_from, rows_of, IsNextRow}
use Rattle.machine.specs.History.{after_in, IsLegalIn}
use Rattle.machine.specs.Out.{is_returning, part_of}
use Rattle.machine.specs.Rows.{thread_of}
use Rattle.machine.specs.Task.{is_able, is_stopped, is_unspent_row, is_wait, is_waiting_row, task_of}
use Rattle.machine_safe.proofs.FindsCounted.{finds-counted}
use Rattle.kernel_tables.specs.Choosing.{sharing}
use Rattle.kernel_tables.specs.CoreView.{CoreView}
use Rattle.kernel_tables.specs.ReadyQueues.{AreReady}
use Rattle.table_moves.specs.Notes.{IsNoteOut, Notes, no_notes}
use Rattle.kcore.specs.KernelMode.{Split, Suits, Whole, mode_of}
use Rattle.kcore.specs.KernelView.{IsKernel, Stands, places_for}
use Rattle.kcore.specs.Outgoing.{AreNone, AreNotes}
use Rattle.kcore.proofs.Goes.{Begins, Follows, begins-fresh, begins-split}

-- a kernel that one caller may call alone is called so
pub alone-of : (shared : Bool) (history : List Entry) → (history ≡ [] → shared ≡ false) → Suits false (mode_of shared history) → shared ≡ false
alone-of false history fresh suits = refl
alone-of true [] fresh suits = fresh refl
alone-of true (e ∷ es) fresh suits = absurd (suits refl)

-- and one that is split is shared
pub split-of : (shared : Bool) (history : List Entry) → mode_of shared history ≡ Split → shared ≡ true
split-of true history split = refl
split-of false [] split = absurd (cc)
split-of false (e ∷ es) split = absurd (cc)

-- the mode once there is an entry
pub mode-push : (shared : Bool) (history : List Entry) (e : Entry) → mode_of shared (history ++ e ∷ []) ≡ (if shared then Split else Whole)
mode-push false [] e = refl
mode-push true [] e = refl
mode-push false (x ∷ xs) e = refl
mode-push true (x ∷ xs) e = refl

pub never-empty : (history : List Entry) (e : Entry) → history ++ e ∷ [] ≡ [] → ⊥
never-empty [] e none = cc
never-empty (x ∷ xs) e none = cc

-- what holds of the way that a kernel is called in, holds of the one that suits it
pub both-ways : (P : Bool → Type 0) (called shared : Bool) (history : List Entry)
    → Suits shared (mode_of called history) → P called → (history ≡ [] → P called → P shared) → P shared
both-ways P called shared [] suits here fresh = fresh refl here
both-ways P false false (e ∷ es) suits here fresh = here
both-ways P true true (e ∷ es) suits here fresh = here
both-ways P false true (e ∷ es) suits here fresh = absurd (suits refl)
both-ways P true false (e ∷ es) suits here fresh = absurd (suits refl)

pub same-mode : (called shared : Bool) (history : List Entry) → Suits shared (mode_of called history) → mode_of called history ≡ mode_of shared history
same-mode called shared history suits =
    both-ways (λ (b : Bool). mode_of called history ≡ mode_of b history) called shared history suits refl
    (λ none same. ap (mode_of called) none ∙ sym (ap (mode_of shared) none))

pub legal-in : (script : Script) (called shared : Bool) (history : List Entry) → Suits shared (mode_of called history)
    → IsLegalIn called script history → IsLegalIn shared script history
legal-in script called shared history suits legal =
    both-ways (λ (b : Bool). IsLegalIn b script history) called shared history suits legal
    (λ none _. subst (IsLegalIn shared script) (sym none) tt)

-- at boot nobody is between a find and its return
back-at-boot : (script : Script) (t : ObjNo) → IsWellFormed script → is_returning (part_of (thread_of (boot_in true script) t)) ≡ false
back-at-boot script t valid = (finds-counted script [] valid tt).back refl t

waiting-same : (row : Option ThreadRow) (a b : Bool) → is_returning (part_of row) ≡ false → is_waiting_row a row ≡ is_waiting_row b row
waiting-same None a b back = refl
waiting-same (Some row) a b back = none a ∙ sym (none b)
  where
    none : (shared : Bool) → (is_wait row.waiting || (shared && is_returning row.part)) ≡ (is_wait row.waiting || false)
    none true = ap (λ (r : Bool). is_wait row.waiting || r) back
    none false = refl

-- so who is able there is able in both ways
pub able-at-boot : (script : Script) (a b : Bool) (t : ObjNo) → IsWellFormed script → is_able script (boot_in a script) t ≡ is_able script (boot_in b script) t
able-at-boot script a b t valid =
    let S = boot_in a script in
    ap (λ (waits : Bool). (is_unspent_row (thread_of S t) && not waits && not (is_stopped S t) && is_some (task_of script S t)) && is_none
    (wanted_holder S.synchronization.nano t)) (waiting-same (thread_of S t) a b (back-at-boot script t valid))

pub able-in : (script : Script) (called shared : Bool) (history : List Entry) (t : ObjNo) (able : Bool)
    → IsWellFormed script → Suits shared (mode_of called history)
    → able ≡ is_able script (after_in called script history) t
    → able ≡ is_able script (after_in shared script history) t
able-in script called shared history t able valid suits is =
    both-ways (λ (b : Bool). able ≡ is_able script (after_in b script history) t) called shared history suits is
    (λ none here. here ∙ (ap (λ (es : List Entry). is_able script (after_in called script es) t) none
    ∙ (able-at-boot script called shared t valid
    ∙ ap (λ (es : List Entry). is_able script (after_in shared script es) t) (sym none))))

-- what is left there is left in both ways
rows-same : (S : State) (a b : Mode) (n : ℕ) (rows : List (Option ObjectRow)) → rows_of (record S { mode = a }) n rows ≡ rows_of (record S { mode = b }) n rows
rows-same S a b n [] = refl
rows-same S a b n (None ∷ rest) = rows-same S a b (n + 1) rest
rows-same S a b n (Some row ∷ rest) = ap (λ (l : List FinalRow). final_row (record S { mode = a }) n row ∷ l) (rows-same S a b (n + 1) rest)

rows-at-boot : (script : Script) (a b : Bool) (n : ℕ) → rows_from (boot_in a script) n ≡ rows_from (boot_in b script) n
rows-at-boot script a b n =
    rows-same (boot_in a script) (record { shared = a; keep = false; reuse = uses_again script.version })
    (record { shared = b; keep = false; reuse = uses_again script.version }) n
    (drop n (boot_in a script).references.objects)

next-same : (f g : ℕ → List FinalRow) → ((n : ℕ) → f n ≡ g n) → (from : ℕ) (row : Option FinalRow) → IsNextRow f from row → IsNextRow g from row
next-same f g same from None next = sym (same from) ∙ next
next-same f g same from (Some row) next = sym (same from) ∙ (next ∙ ap (λ (l : List FinalRow). row ∷ l) (same (row.object.0 + 1)))

pub next-row-in : (script : Script) (called shared : Bool) (history : List Entry) (from : ℕ) (row : Option FinalRow)
    → Suits shared (mode_of called history) → IsNextRow (rows_from (after_in called script history)) from row
    → IsNextRow (rows_from (after_in shared script history)) from row
next-row-in script called shared history from row suits next =
    both-ways (λ (b : Bool). IsNextRow (rows_from (after_in b script history)) from row) called shared history suits
    next
    (λ none here. next-same (rows_from (after_in called script history)) (rows_from (after_in shared script history))
    (λ n. ap (λ (es : List Entry). rows_from (after_in called script es) n) none
    ∙ (rows-at-boot script called shared n ∙ ap (λ (es : List Entry). rows_from (after_in shared script es) n)
    (sym none))) from row here)

-- no note is out, and so it is as where nobody is
none-out : (notes : Notes) (s : Slip) → AreNone notes → IsNoteOut notes s → ⊥
none-out notes s none out =
    let clash : IsTrue (list_any (λ other. same_slip other s) []) =
    subst (λ (l : List Slip). IsTrue (list_any (λ other. same_slip other s) l)) none.out out in
    cc

none-notes : (script : Script) (notes : Notes) → IsWellFormed script → AreNone notes → AreNotes [] (boot_in true script) notes
none-notes script notes valid none =
    let counted = (finds-counted script [] valid tt).counted in
    record {
      made = none.made;
      many = let long = ap length none.out in omega arith;
      each = λ s out. absurd (none-out notes s none out);
      once = λ s r out other same. absurd (none-out notes s none out);
    }

-- a core that stands for its history follows it
pub follows-of : {W : Type 0} (shared : Bool) (script : Script) (history : List Entry) (core : CoreView W)
    → Stands shared script history core → Follows shared script history core
follows-of shared script history core h = record { legal = h.legal; state = h.state; queues = h.queues }

-- where callers may share the kernel, its notes are those of who is out
pub notes-out : {W : Type 0} (called : Bool) (script : Script) (history : List Entry) (core : CoreView W)
    → Stands called script history core → Suits true (mode_of called history)
    → AreNotes history (after_in true script history) core.notes
notes-out true script history core h suits = subst (λ (S : State). AreNotes history S core.notes) h.state h.notes
notes-out false script [] core h suits = none-notes script core.notes h.valid h.notes
notes-out false script (e ∷ es) core h suits = absurd (suits refl)

-- and an action begins in the core once it is told so
pub begins-out : {W : Type 0} (called : Bool) (script : Script) (history : List Entry) (old mid : CoreView W)
    → Stands called script history old → Suits true (mode_of called history) → mid.state ≡ sharing old.state
    → mid.ready ≡ old.ready → Begins true script history mid
begins-out true script history old mid h suits state ready = begins-split script history old mid h.valid (follows-of true script history old h) state ready
begins-out false script [] old mid h suits state ready = begins-fresh false script old mid h.valid (follows-of false script [] old h) state ready
begins-out false script (e ∷ es) old mid h suits state ready = absurd (suits refl)

-- at boot a core stands for no entry
pub boot-kernel : {W : Type 0} (script : Script) (core : CoreView W) (room capacity : ℕ) (identity : List ℕ) (places : ℕ)
    → places ≡ places_for script.version room → IsWellFormed script → room ≤ 131072 → room ≤ capacity → core.state ≡ boot script
    → AreReady (priority_of (boot script)) (ready_at_boot script) core.ready → core.notes ≡ no_notes identity places
    → IsKernel script [] core 0 false room capacity
boot-kernel script core room capacity identity places enough valid few fits state queues notes =
    let alone : core.state.mode.shared ≡ false = ap (λ (S : State). S.mode.shared) state in
    record {
      fits = fits;
      few = few;
      places = ap (λ (n : Notes). n.places) notes ∙ enough;
      short = omega arith;
      stands = subst (λ (b : Bool). Stands b script [] core) (sym alone) (record {
        valid = valid;
        legal = tt;
        state = state;
        queues = subst (λ (S : State). AreReady (priority_of S) (ready_at_boot script) core.ready) (sym state) queues;
        notes = record { made = ap (λ (n : Notes). n.made) notes; out = ap (λ (n : Notes). n.out) notes };
      });
      counted = sym (ap (λ (n : Notes). length n.out) notes);
      rests = λ idle. absurd (cc);
      fresh = λ _. alone;
    }
