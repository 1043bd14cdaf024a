-- The ready threads of a well-formed state, one after another.
use Rattle.std.proofs.Common.{◌≡◌, ℕ, zero, suc, ◌+◌, ◌<◌, List, [], ◌∷◌, take, arith, refl, sym, subst, ap, ◌∙◌, true, false, Some}
use Rattle.std.specs.Prelude.{◌==◌, slice_get}
use Rattle.std.specs.List.{list_any}
use Rattle.std.proofs.lemmas.Bool.{eq-eqb, or_from, or_left, or_right}
use Rattle.sym_base.specs.declared.limits.TheConstants.Limits.{BOOT_OBJECTS}
use Rattle.sym_base.specs.declared.number.ObjNo.{ObjNo}
use Rattle.script_types.specs.declared.script.Script.{Script}
use Rattle.ready_list.specs.Queue.{holds}
use Rattle.ready_list.specs.Ready.{Ready, added, no_threads}
use Rattle.machine.specs.declared.state.State.{State}
use Rattle.state_rows.specs.declared.thread.ThreadRow.{ThreadRow}
use Rattle.machine.specs.Arrivals.{is_listed}
use Rattle.machine.specs.Choice.{priority_of, priority_of_row}
use Rattle.machine.specs.Rows.{thread_of}
use Rattle.machine.specs.WellFormed.{AreApart, IsWellFormed}
use Rattle.move_laws.proofs.Lists.Totals.{inside}
use Rattle.kernel_tables.specs.ReadyQueues.{AreReady}
use Rattle.kcore.proofs.ListSteps.{take_get}
use Rattle.kernel_tables.proofs.ReadyChanges.{ready_behind}
use Rattle.kernel_tables.proofs.ReadyQueues.{nobody_queued, ready_queued, other_thread}
use Rattle.kernel_tables.proofs.ReadyRows.{ready_row}

-- a listed thread has a row
listed_row : (script : Script) (S : State) (qs : List ObjNo) (t : ObjNo) → IsWellFormed script S qs
    → is_listed qs t ≡ true → (row : ThreadRow) × (thread_of S t ≡ Some row)
listed_row script S qs t h listed = ready_row script S t (sym (h.ready.exact t) ∙ listed)

pub listed_known : (script : Script) (S : State) (qs : List ObjNo) → IsWellFormed script S qs → (t : ObjNo) → is_listed qs t ≡ true → t.0 < BOOT_OBJECTS
listed_known script S qs h t listed =
    let r = listed_row script S qs t h listed in
    let within = inside S.references.threads t.0 r.0 r.1 in
    let few = h.rows.references.sized.threads_few in omega arith

pub listed_ranged : (script : Script) (S : State) (qs : List ObjNo) → IsWellFormed script S qs → (t : ObjNo) → is_listed qs t ≡ true → priority_of S t < 64
listed_ranged script S qs h t listed =
    let r = listed_row script S qs t h listed in
    let is : priority_of S t ≡ r.0.priority = ap priority_of_row r.1 in
    let low = (h.rows.references.threads.rows t.0 r.0 r.1).priority in omega arith

-- a thread of a list is listed
pub got_listed : (qs : List ObjNo) (k : ℕ) (q : ObjNo) → slice_get qs k ≡ Some q → is_listed qs q ≡ true
got_listed [] k q at = absurd (cc)
got_listed (x ∷ xs) zero q at =
    let same : x ≡ q = cc in
    or_left (x.0 == q.0) (is_listed xs q) (eq-eqb x.0 q.0 (ap (λ (y : ObjNo). y.0) same))
got_listed (x ∷ xs) (suc k) q at = or_right (x.0 == q.0) (is_listed xs q) (got_listed xs k q at)

-- and isn't listed before
not_before : (qs : List ObjNo) (k : ℕ) (q : ObjNo) → AreApart qs → slice_get qs k ≡ Some q → is_listed (take k qs) q ≡ false
not_before [] k q apart at = absurd (cc)
not_before (x ∷ xs) zero q apart at = refl
not_before (x ∷ xs) (suc k) q apart at =
    let other = other_thread x q xs apart.0 (got_listed xs k q at) in
    or_from (x.0 == q.0) (is_listed (take k xs) q) other (not_before xs k q apart.1 at)

-- so it isn't ready yet when those before it are
pub not_ready_yet : (rank : ObjNo → ℕ) (qs : List ObjNo) (k : ℕ) (q : ObjNo) (r : Ready) → AreApart qs
    → AreReady rank (take k qs) r → slice_get qs k ≡ Some q → list_any (holds q) r.queues ≡ true → ⊥
not_ready_yet rank qs k q r once are at ready =
    let clash : true ≡ false = sym ready ∙ (ready_queued rank (take k qs) r q are.queues ∙ not_before qs k q once at) in
    cc

-- nobody is ready
pub none_ready : (rank : ObjNo → ℕ) → AreReady rank [] (no_threads BOOT_OBJECTS)
none_ready rank = record { queues = nobody_queued rank BOOT_OBJECTS; once = tt; known = λ t listed. absurd (cc); size = refl }

-- one thread more
pub one_more_ready : (rank : ObjNo → ℕ) (qs : List ObjNo) (k : ℕ) (q : ObjNo) (r : Ready) → q.0 < BOOT_OBJECTS
    → rank q < 64 → AreApart qs → AreReady rank (take k qs) r → slice_get qs k ≡ Some q
    → AreReady rank (take (k + 1) qs) (added r q (rank q))
one_more_ready rank qs k q r known low once are at =
    subst (λ (l : List ObjNo). AreReady rank l (added r q (rank q))) (sym (take_get qs k q at))
    (ready_behind rank (take k qs) r q known low (not_before qs k q once at) are)
