-- A move changes the readiness of no other threads than those that it touches.
use Rattle.std.proofs.Common.{◌≡◌, ◌≢◌, inl, inr, ℕ, ◌+◌, arith, List, [], ◌∷◌, get_or, refl, sym, ap, ◌∙◌, Option, Some, None, Bool, true, false}
use Rattle.std.specs.Prelude.{option_and_then, option_map, is_some, not, ◌&&◌, ◌==◌, if◌then◌else◌, slice_set}
use Rattle.std.proofs.lemmas.Bool.{cases_eq, eqb-false, or_parts}
use Rattle.std.proofs.lemmas.List.{get_or-set_other}
use Rattle.sym_base.specs.Greatest.{first_of_greatest}
use Rattle.sym_base.specs.declared.number.ObjNo.{ObjNo}
use Rattle.script_types.specs.declared.script.Script.{Script}
use Rattle.entry_log.specs.declared.effect.Holder.{Holder}
use Rattle.entry_log.specs.declared.effect.Holder.TheVariants.{Temp}
use Rattle.state_rows.specs.Deferred.{is_queued, next_of, priority_of, queue_of}
use Rattle.state_rows.specs.declared.deferred.DeferredRows.{DeferredRows}
use Rattle.state_rows.specs.declared.deferred.Item.TheVariants as item
use Rattle.state_rows.specs.declared.duty.Owed.{Owed}
use Rattle.state_rows.specs.declared.duty.Owed.TheVariants.{Close, Sweep}
use Rattle.state_rows.specs.declared.nano.NanoRows.{NanoRows}
use Rattle.state_rows.specs.Nano.{suspend_count, critical_count, held_by, is_protected}
use Rattle.state_rows.specs.NanoChanges.{after_suspend}
use Rattle.state_rows.proofs.OtherThreads.{held_by-after_take, held_by-after_give, count-other}
use Rattle.machine.specs.declared.moves.Move.{Move}
use Rattle.machine.specs.declared.moves.Move.TheVariants.{Make, Gain, Lose, Find, Open, Miss, GoOn, Keep, Write, WriteMessage, PutDown, Advance, Wait, Wake, SetPriority, Nano, Deferred, Requests, Locks, Logons, Death, Servers, Messages, Fill, Copies, Pay}
use Rattle.machine.specs.declared.deferred_move.DeferredMove.{DeferredMove}
use Rattle.machine.specs.declared.deferred_move.DeferredMove.TheVariants.{Add, Take as TakeCall}
use Rattle.machine.specs.declared.lock_move.LockMove.{LockMove}
use Rattle.machine.specs.declared.lock_move.LockMove.TheVariants.{Unlock, Free}
use Rattle.machine.specs.declared.message_move.MessageMove.TheVariants.{Finish}
use Rattle.machine.specs.declared.nano_move.NanoMove.{NanoMove}
use Rattle.machine.specs.declared.nano_move.NanoMove.TheVariants.{Take, Give, Enter, Leave, LeaveAll, Suspend, Resume, Release}
use Rattle.state_rows.specs.declared.thread.Waiting.TheVariants as waiting
use Rattle.state_rows.specs.declared.thread.ThreadRow.{ThreadRow}
use Rattle.state_rows.specs.declared.locks.Unlocked.TheVariants.{Freed, Level, NotOwner, Passed}
use Rattle.machine.specs.declared.state.State.{State}
use Rattle.state_rows.specs.ObjectRows.{place_of}
use Rattle.machine.specs.Rows.{object_of, thread_of, first_of, first_owed, with_row}
use Rattle.machine.specs.Moves.{moved, threads_gain, threads_lose, threads_closed, next_object, with_use, unlinked, with_found, with_kept, with_missed, with_opened, with_message, with_part, with_register, with_waiting, with_priority, advanced}
use Rattle.machine.specs.declared.death_move.DeathMove.TheVariants.{Note, Doom, Clean, Bury}
use Rattle.machine.specs.DeathMoves.{death_row}
use Rattle.machine.specs.LockMoves.{owed_moved}
use Rattle.machine.specs.NanoMoves.{nano_moved, nano_thread}
use Rattle.machine.specs.DeferredMoves.{deferred_moved, deferred_threads, thread_of_queue}
use Rattle.machine.specs.Kept.{dies}
use Rattle.machine.specs.Arrivals.{is_listed, touched}
use Rattle.machine.specs.declared.task.Task.TheVariants.{End}
use Rattle.machine.specs.Task.{instruction, is_live_row, is_unspent_row, is_waiting_row, is_ready, next_call, by_stage, live_task, pay_or, return_or, served_queue}
use Rattle.machine.specs.Out.{is_returning}
use Rattle.machine.specs.WellFormed.{AreThreads}
use Rattle.move_laws.proofs.Holders.ThreadRows.{row-here, row-other}
use Rattle.move_laws.proofs.Readiness.HasTask.{has_task, task_is}

-- whether a thread of this row would be ready, with these rows of deferred function calls and of threads that synchronize, and owing this first
abbrev ready_row : Bool → Script → DeferredRows → NanoRows → ObjNo → Option Owed → Option ThreadRow → Bool
ready_row shared script calls r u first row =
    is_unspent_row row && not (is_waiting_row shared row)
    && not (is_live_row row && not (suspend_count r u == 0) && not (is_protected r u)) && has_task script calls first row

-- and whether a thread of a state is
abbrev ready_of : Script → State → ObjNo → Bool
ready_of script S u = ready_row S.mode.shared script S.synchronization.deferred S.synchronization.nano u (first_owed S u) (thread_of S u)

ready_is : (script : Script) (S : State) (u : ObjNo) → is_ready script S u ≡ ready_of script S u
ready_is script S u =
    ap (λ (some : Bool). is_unspent_row (thread_of S u) && not (is_waiting_row S.mode.shared (thread_of S u)) && not
    (is_live_row (thread_of S u) && not (suspend_count S.synchronization.nano u == 0) && not (is_protected S.synchronization.nano u)) && some)
    (task_is script S u (thread_of S u))

-- a change of a row that leaves what the thread waits for, how far its death is, and where its instruction is
record KeepsTask (f : ThreadRow → ThreadRow) : Type 0 where
  pub stage : (row : ThreadRow) → (f row).stage ≡ row.stage
  pub waiting : (shared : Bool) (row : ThreadRow) → is_waiting_row shared (Some (f row)) ≡ is_waiting_row shared (Some row)
  pub task : (script : Script) (calls : DeferredRows) (first : Option Owed) (row : ThreadRow)
      → has_task script calls first (Some (f row)) ≡ has_task script calls first (Some row)

same_ready : (shared : Bool) (script : Script) (calls : DeferredRows) (r : NanoRows) (u : ObjNo) (first : Option Owed)
    (f : ThreadRow → ThreadRow) (x : Option ThreadRow)
    → KeepsTask f → ready_row shared script calls r u first (option_map f x) ≡ ready_row shared script calls r u first x
same_ready shared script calls r u first f None keeps = refl
same_ready shared script calls r u first f (Some row) keeps = rw (keeps.waiting shared row, keeps.task script calls first row, keeps.stage row) refl

-- the row of any thread, where that of one changes
ready-with_row : (shared : Bool) (script : Script) (calls : DeferredRows) (r : NanoRows) (first : Option Owed)
    (threads : List (Option ThreadRow)) (v : ObjNo) (f : ThreadRow → ThreadRow) (u : ObjNo)
    → KeepsTask f
    → ready_row shared script calls r u first (get_or (with_row threads v f) u.0 None)
    ≡ ready_row shared script calls r u first (get_or threads u.0 None)
ready-with_row shared script calls r first threads v f u keeps = elim (cases_eq v.0 u.0) [
  | inl at ↦
      ap (ready_row shared script calls r u first) (row-here threads v f u.0 at)
      ∙ same_ready shared script calls r u first f (get_or threads v.0 None) keeps
      ∙ ap (λ (n : ℕ). ready_row shared script calls r u first (get_or threads n None)) at
  | inr apart ↦ ap (ready_row shared script calls r u first) (row-other threads v f u.0 apart)
]

keeps_use : (uses : Option ObjNo) → KeepsTask (with_use uses)
keeps_use uses = record { stage = λ row. refl; waiting = λ shared row. refl; task = λ script calls first row. refl }

ready-gain : (shared : Bool) (script : Script) (calls : DeferredRows) (r : NanoRows) (first : Option Owed)
    (threads : List (Option ThreadRow)) (h : Holder) (o u : ObjNo)
    → ready_row shared script calls r u first (get_or (threads_gain h o threads) u.0 None)
    ≡ ready_row shared script calls r u first (get_or threads u.0 None)
ready-gain shared script calls r first threads (Temp v) o u = ready-with_row shared script calls r first threads v (with_use (Some o)) u (keeps_use (Some o))
ready-gain shared script calls r first threads _ o u = refl

ready-lose : (shared : Bool) (script : Script) (calls : DeferredRows) (r : NanoRows) (first : Option Owed)
    (threads : List (Option ThreadRow)) (h : Holder) (u : ObjNo)
    → ready_row shared script calls r u first (get_or (threads_lose h threads) u.0 None)
    ≡ ready_row shared script calls r u first (get_or threads u.0 None)
ready-lose shared script calls r first threads (Temp v) u = ready-with_row shared script calls r first threads v (with_use None) u (keeps_use None)
ready-lose shared script calls r first threads _ u = refl

ready-closed : (shared : Bool) (script : Script) (calls : DeferredRows) (r : NanoRows) (first : Option Owed)
    (threads : List (Option ThreadRow)) (last : Bool) (o u : ObjNo)
    → ready_row shared script calls r u first (get_or (threads_closed last o threads) u.0 None)
    ≡ ready_row shared script calls r u first (get_or threads u.0 None)
ready-closed shared script calls r first threads true o u =
    ready-with_row shared script calls r first threads o unlinked u
    (record { stage = λ row. refl; waiting = λ shared row. refl; task = λ script calls first row. refl })
ready-closed shared script calls r first threads false o u = refl

-- what another thread owes
owed-other : (owed : List (List Owed)) (t u : ObjNo) (what : List Owed) → (t.0 ≡ u.0 → ⊥) → get_or (slice_set owed t.0 what) u.0 [] ≡ get_or owed u.0 []
owed-other owed t u what apart = get_or-set_other owed t.0 u.0 what [] (λ e. apart (sym e))

apart_of : (t u : ObjNo) → is_listed (t ∷ []) u ≡ false → t.0 ≡ u.0 → ⊥
apart_of t u none = eqb-false t.0 u.0 (or_parts (t.0 == u.0) false none).0

-- also where a mutex is given up
owed-locks : (owed : List (List Owed)) (t : ObjNo) (m : LockMove) (u : ObjNo)
    → is_listed (touched t (Locks m)) u ≡ false → get_or (owed_moved m owed) u.0 [] ≡ get_or owed u.0 []
owed-locks owed t (Unlock o v Freed) u none = owed-other owed v u _ (apart_of v u none)
owed-locks owed t (Unlock o v (Passed w)) u none = owed-other owed v u _ (apart_of v u none)
owed-locks owed t (Unlock o v Level) u none = refl
owed-locks owed t (Unlock o v NotOwner) u none = refl
owed-locks owed t (Free o v best) u none = owed-other owed v u _ (apart_of v u none)
owed-locks owed t _ u none = refl

-- the same duties of a thread, and a row with which it is as ready
ready-by : (script : Script) (S T : State) (u : ObjNo) → T.mode.shared ≡ S.mode.shared
    → T.synchronization.deferred ≡ S.synchronization.deferred → T.synchronization.nano ≡ S.synchronization.nano
    → get_or T.references.owed u.0 [] ≡ get_or S.references.owed u.0 []
    → ready_row S.mode.shared script S.synchronization.deferred S.synchronization.nano u (first_owed S u)
    (thread_of T u) ≡ ready_row S.mode.shared script S.synchronization.deferred S.synchronization.nano u
    (first_owed S u) (thread_of S u)
    → ready_of script T u ≡ ready_of script S u
ready-by script S T u mode calls nano owed threads =
    ap (λ (shared : Bool). ready_row shared script T.synchronization.deferred T.synchronization.nano u (first_owed T u)
    (thread_of T u)) mode
    ∙ ap (λ (c : DeferredRows). ready_row S.mode.shared script c T.synchronization.nano u (first_owed T u)
    (thread_of T u)) calls
    ∙ ap (λ (r : NanoRows). ready_row S.mode.shared script S.synchronization.deferred r u (first_owed T u)
    (thread_of T u)) nano
    ∙ ap (λ (what : List Owed). ready_row S.mode.shared script S.synchronization.deferred S.synchronization.nano u
    (first_of what) (thread_of T u)) owed
    ∙ threads

-- what other threads hold, and how often they are suspended and in a critical section
record SameRows (r new : NanoRows) (u : ObjNo) : Type 0 where
  pub suspensions : suspend_count new u ≡ suspend_count r u
  pub sections : critical_count new u ≡ critical_count r u
  pub holds : held_by new u ≡ held_by r u

suspensions-other : (r : NanoRows) (t u : ObjNo) → u ≢ t → suspend_count (after_suspend r t) u ≡ suspend_count r u
suspensions-other r t u apart = by (suspend_count r t == 127)
  where
    by : (b : Bool) → get_or (if b then r.suspensions else slice_set r.suspensions t.0 (suspend_count r t + 1)) u.0 0 ≡ suspend_count r u
    by true = refl
    by false = count-other r.suspensions t u _ apart

nano-other : (r : NanoRows) (m : NanoMove) (u : ObjNo) → u ≢ nano_thread m → SameRows r (nano_moved m r) u
nano-other r (Take t f) u apart = record { suspensions = refl; sections = refl; holds = held_by-after_take r t u f apart }
nano-other r (Give t f) u apart = record { suspensions = refl; sections = refl; holds = held_by-after_give r t u f apart }
nano-other r (Enter t) u apart = record { suspensions = refl; sections = count-other r.sections t u _ apart; holds = refl }
nano-other r (Leave t) u apart = record { suspensions = refl; sections = count-other r.sections t u _ apart; holds = refl }
nano-other r (LeaveAll t) u apart = record { suspensions = refl; sections = count-other r.sections t u _ apart; holds = refl }
nano-other r (Suspend t) u apart = record { suspensions = suspensions-other r t u apart; sections = refl; holds = refl }
nano-other r (Resume t) u apart = record { suspensions = count-other r.suspensions t u _ apart; sections = refl; holds = refl }
nano-other r (Release t) u apart = record { suspensions = count-other r.suspensions t u _ apart; sections = refl; holds = refl }
nano-other r _ u apart = record { suspensions = refl; sections = refl; holds = refl }

ready-nano : (script : Script) (S : State) (m : NanoMove) (u : ObjNo) → u ≢ nano_thread m
    → ready_row S.mode.shared script S.synchronization.deferred (nano_moved m S.synchronization.nano) u (first_owed S u)
    (thread_of S u) ≡ ready_row S.mode.shared script S.synchronization.deferred S.synchronization.nano u
    (first_owed S u) (thread_of S u)
ready-nano script S m u apart =
    let same = nano-other S.synchronization.nano m u apart in
    let protected : is_protected (nano_moved m S.synchronization.nano) u ≡ is_protected S.synchronization.nano u = rw (same.holds, same.sections) refl in
    rw (same.suspensions, protected) refl

-- a call joins its own queue
abbrev pub JoinsOwnQueue : Move → State → Type 0
JoinsOwnQueue (Deferred (Add dfc queue)) S = queue ≡ queue_of S.synchronization.deferred dfc
JoinsOwnQueue _ S = Unit {0}

-- another queue, where one changes
queue-other : (queues : List (List ℕ)) (i q : ℕ) (x : List ℕ) (same : Bool) → q ≢ i
    → get_or (if same then queues else slice_set queues i x) q [] ≡ get_or queues q []
queue-other queues i q x true apart = refl
queue-other queues i q x false apart = get_or-set_other queues i q x [] apart

-- the call that comes next in the queue of a thread that a move doesn't touch
next-other : (S : State) (t : ObjNo) (m : DeferredMove) (u : ObjNo) (q : ℕ) → JoinsOwnQueue (Deferred m) S → u.0 ≡ 1 + q
    → is_listed (deferred_threads m) u ≡ false
    → next_of (deferred_moved m S.synchronization.deferred) q ≡ next_of S.synchronization.deferred q
next-other S t (Add dfc queue) u q joins own none =
    let apart = apart_of (thread_of_queue queue) u none in
    ap (first_of_greatest (priority_of S.synchronization.deferred))
    (queue-other S.synchronization.deferred.queues (queue_of S.synchronization.deferred dfc) q _
    (is_queued S.synchronization.deferred (item.Move dfc)) (λ e. apart (omega arith)))
next-other S t (TakeCall queue) u q joins own none =
    let apart = apart_of (thread_of_queue queue) u none in
    ap (first_of_greatest (priority_of S.synchronization.deferred)) (get_or-set_other S.synchronization.deferred.queues queue q _ [] (λ e. apart (omega arith)))
next-other S t _ u q joins own none = refl

ready-deferred : (script : Script) (S : State) (t : ObjNo) (m : DeferredMove) (u : ObjNo)
    → AreThreads script S.references.threads → JoinsOwnQueue (Deferred m) S → is_listed (deferred_threads m) u ≡ false
    → ready_of script (moved t (Deferred m) S) u ≡ ready_of script S u
ready-deferred script S t m u threads joins none = by (thread_of S u) refl
  where
    next : (served : Option ℕ) → ((q : ℕ) → served ≡ Some q → u.0 ≡ 1 + q)
        → option_and_then (next_of (deferred_moved m S.synchronization.deferred)) served
        ≡ option_and_then (next_of S.synchronization.deferred) served
    next None own = refl
    next (Some q) own = next-other S t m u q joins (own q refl) none

    by : (row : Option ThreadRow) → thread_of S u ≡ row
        → ready_row S.mode.shared script (deferred_moved m S.synchronization.deferred) S.synchronization.nano u
        (first_owed S u) row ≡ ready_row S.mode.shared script S.synchronization.deferred S.synchronization.nano u
        (first_owed S u) row
    by None is = refl
    by (Some row) is =
        let same : next_call (deferred_moved m S.synchronization.deferred) row.role
        ≡ next_call S.synchronization.deferred row.role =
        next (served_queue row.role) (λ q serves. threads.servers u.0 q row is serves) in
        ap (λ (call : Option ℕ). is_unspent_row (Some row) && not (is_waiting_row S.mode.shared (Some row)) && not
        (is_live_row (Some row) && not (suspend_count S.synchronization.nano u == 0) && not (is_protected S.synchronization.nano u)) && is_some
        (return_or (is_returning row.part) (instruction script row)
        (pay_or (first_owed S u) (by_stage row.stage [] (live_task row.role call End))))) same

ready-untouched : (script : Script) (S : State) (t : ObjNo) (m : Move) (u : ObjNo)
    → AreThreads script S.references.threads → JoinsOwnQueue m S → is_listed (touched t m) u ≡ false
    → ready_of script (moved t m S) u ≡ ready_of script S u
ready-untouched script S t (Make kind name h) u threads joins none =
    ready-gain S.mode.shared script S.synchronization.deferred S.synchronization.nano
    (first_owed S u) S.references.threads h (next_object S) u
ready-untouched script S t (Gain h o) u threads joins none =
    ready-gain S.mode.shared script S.synchronization.deferred S.synchronization.nano
    (first_owed S u) S.references.threads h o u
ready-untouched script S t (Lose h o) u threads joins none =
    ready-by script S (moved t (Lose h o) S) u refl refl refl (owed-other S.references.owed t u _ (apart_of t u none))
    (ready-closed S.mode.shared script S.synchronization.deferred S.synchronization.nano (first_owed S u)
    (threads_lose h S.references.threads) (dies S o) o u
    ∙ ready-lose S.mode.shared script S.synchronization.deferred S.synchronization.nano
    (first_owed S u) S.references.threads h u)
ready-untouched script S t (Find v o) u threads joins none =
    ap (ready_row S.mode.shared script S.synchronization.deferred S.synchronization.nano u (first_owed S u))
    (row-other S.references.threads v (with_found o (place_of (object_of S o))) u.0 (apart_of v u none))
ready-untouched script S t (Open v o part) u threads joins none =
    ap (ready_row S.mode.shared script S.synchronization.deferred S.synchronization.nano u (first_owed S u))
    (row-other S.references.threads v (with_opened o part) u.0 (apart_of v u none))
ready-untouched script S t (Miss v o) u threads joins none =
    ap (ready_row S.mode.shared script S.synchronization.deferred S.synchronization.nano u (first_owed S u))
    (row-other S.references.threads v with_missed u.0 (apart_of v u none))
ready-untouched script S t (GoOn v part) u threads joins none =
    ap (ready_row S.mode.shared script S.synchronization.deferred S.synchronization.nano u (first_owed S u))
    (row-other S.references.threads v (with_part part) u.0 (apart_of v u none))
ready-untouched script S t (Keep v number) u threads joins none =
    ready-with_row S.mode.shared script S.synchronization.deferred S.synchronization.nano
    (first_owed S u) S.references.threads v (with_kept number) u
    (record { stage = λ row. refl; waiting = λ shared row. refl; task = λ script calls first row. refl })
ready-untouched script S t (WriteMessage v y number) u threads joins none =
    ready-with_row S.mode.shared script S.synchronization.deferred S.synchronization.nano
    (first_owed S u) S.references.threads v (with_message y number) u
    (record { stage = λ row. refl; waiting = λ shared row. refl; task = λ script calls first row. refl })
ready-untouched script S t (PutDown v) u threads joins none =
    ready-by script S (moved t (PutDown v) S) u refl refl refl (owed-other S.references.owed v u _ (apart_of v u none))
    (ap (ready_row S.mode.shared script S.synchronization.deferred S.synchronization.nano u (first_owed S u))
    (row-other S.references.threads v (with_use None) u.0 (apart_of v u none)))
ready-untouched script S t (Servers m) u threads joins none = refl
ready-untouched script S t (Messages (Finish m code)) u threads joins none =
    ready-by script S (moved t (Messages (Finish m code)) S) u refl refl refl
    (owed-other S.references.owed t u _ (apart_of t u none)) refl
ready-untouched script S t (Messages m) u threads joins none = refl
ready-untouched script S t (Write v x value) u threads joins none =
    ready-with_row S.mode.shared script S.synchronization.deferred S.synchronization.nano
    (first_owed S u) S.references.threads v (with_register x value) u
    (record { stage = λ row. refl; waiting = λ shared row. refl; task = λ script calls first row. refl })
ready-untouched script S t (Advance v) u threads joins none =
    ready-by script S (moved t (Advance v) S) u refl refl refl (owed-other S.references.owed v u _ (apart_of v u none))
    (ap (ready_row S.mode.shared script S.synchronization.deferred S.synchronization.nano u (first_owed S u))
    (row-other S.references.threads v advanced u.0 (apart_of v u none)))
ready-untouched script S t (Wait v what) u threads joins none =
    ap (ready_row S.mode.shared script S.synchronization.deferred S.synchronization.nano u (first_owed S u))
    (row-other S.references.threads v (with_waiting what) u.0 (apart_of v u none))
ready-untouched script S t (Wake v) u threads joins none =
    ap (ready_row S.mode.shared script S.synchronization.deferred S.synchronization.nano u (first_owed S u))
    (row-other S.references.threads v (with_waiting waiting.Nothing) u.0 (apart_of v u none))
ready-untouched script S t (SetPriority v priority) u threads joins none =
    ap (ready_row S.mode.shared script S.synchronization.deferred S.synchronization.nano u (first_owed S u))
    (row-other S.references.threads v (with_priority priority) u.0 (apart_of v u none))
ready-untouched script S t (Nano m) u threads joins none = ready-nano script S m u (λ at. apart_of (nano_thread m) u none (ap (λ (v : ObjNo). v.0) (sym at)))
ready-untouched script S t (Deferred m) u threads joins none = ready-deferred script S t m u threads joins none
ready-untouched script S t (Requests m) u threads joins none = refl
ready-untouched script S t (Locks m) u threads joins none =
    ready-by script S (moved t (Locks m) S) u refl refl refl (owed-locks S.references.owed t m u none) refl
ready-untouched script S t (Logons m) u threads joins none = refl
ready-untouched script S t (Death (Bury v)) u threads joins none =
    let parts = or_parts (t.0 == u.0) (is_listed (v ∷ []) u) none in
    ready-by script S (moved t (Death (Bury v)) S) u refl refl refl (owed-other S.references.owed t u _ (eqb-false t.0 u.0 parts.0))
    (ap (ready_row S.mode.shared script S.synchronization.deferred S.synchronization.nano u (first_owed S u))
    (row-other S.references.threads v (death_row (Bury v)) u.0 (apart_of v u parts.1)))
ready-untouched script S t (Death (Note v exit)) u threads joins none =
    ap (ready_row S.mode.shared script S.synchronization.deferred S.synchronization.nano u (first_owed S u))
    (row-other S.references.threads v (death_row (Note v exit)) u.0 (apart_of v u none))
ready-untouched script S t (Death (Doom v exit)) u threads joins none =
    ap (ready_row S.mode.shared script S.synchronization.deferred S.synchronization.nano u (first_owed S u))
    (row-other S.references.threads v (death_row (Doom v exit)) u.0 (apart_of v u none))
ready-untouched script S t (Death (Clean v)) u threads joins none =
    ap (ready_row S.mode.shared script S.synchronization.deferred S.synchronization.nano u (first_owed S u))
    (row-other S.references.threads v (death_row (Clean v)) u.0 (apart_of v u none))
ready-untouched script S t (Fill p at long byte) u threads joins none = refl
ready-untouched script S t (Copies m) u threads joins none = refl
ready-untouched script S t (Pay (Close h o)) u threads joins none =
    let apart = apart_of t u none in
    ready-by script S (moved t (Pay (Close h o)) S) u refl refl refl
    (get_or-set_other _ t.0 u.0 _ [] (λ e. apart (sym e)) ∙ owed-other S.references.owed t u _ apart)
    (ready-closed S.mode.shared script S.synchronization.deferred S.synchronization.nano (first_owed S u) S.references.threads (dies S o) o u)
ready-untouched script S t (Pay (Sweep o)) u threads joins none =
    let parts = or_parts (t.0 == u.0) (is_listed (o ∷ []) u) none in
    ready-by script S (moved t (Pay (Sweep o)) S) u refl refl refl (owed-other S.references.owed t u _ (eqb-false t.0 u.0 parts.0))
    (ap (ready_row S.mode.shared script S.synchronization.deferred S.synchronization.nano u (first_owed S u))
    (get_or-set_other S.references.threads o.0 u.0 None None (λ e. apart_of o u parts.1 (sym e))))

pub untouched : (script : Script) (S : State) (t : ObjNo) (m : Move) (u : ObjNo)
    → AreThreads script S.references.threads → JoinsOwnQueue m S → is_listed (touched t m) u ≡ false
    → is_ready script (moved t m S) u ≡ is_ready script S u
untouched script S t m u threads joins none = ready_is script (moved t m S) u ∙ ready-untouched script S t m u threads joins none ∙ sym (ready_is script S u)
