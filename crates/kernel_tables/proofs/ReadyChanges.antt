-- The queues of ready threads change as the list of the definitions does: when a thread comes, when one leaves, and at
-- the end of a time slice.
use Rattle.std.proofs.Common.{◌≡◌, ◌∙◌, inl, inr, ℕ, ◌<◌, ◌≤◌, Bool, true, false, List, [], ◌∷◌, ◌++◌, arith, refl, sym, ap, subst}
use Rattle.std.specs.Prelude.{Option, Some, None, option_map, option_and_then, is_some, if◌then◌else◌}
use Rattle.std.specs.List.{list_any}
use Rattle.std.proofs.lemmas.Bool.{cases_Bool, false_from_ne_true}
use Rattle.sym_base.specs.declared.limits.TheConstants.Limits.{BOOT_OBJECTS}
use Rattle.sym_base.specs.declared.number.ObjNo.{ObjNo}
use Rattle.sym_base.specs.Greatest.{first_of_greatest}
use Rattle.script_types.specs.declared.script.Script.{Script}
use Rattle.ready_list.specs.Queue.{holds}
use Rattle.ready_list.specs.Ready.{Ready, added, removed, rotated, first_of_highest, priority_of}
use Rattle.ready_list.specs.Arrival.{AreQueuesOf}
use Rattle.state_rows.specs.declared.nano.NanoRows.{NanoRows}
use Rattle.state_rows.specs.declared.deferred.DeferredRows.{DeferredRows}
use Rattle.state_rows.specs.Deferred.{next_immediate}
use Rattle.state_rows.specs.Nano.{held_by, in_place_of, turned, actor_of, item_or}
use Rattle.machine.specs.declared.state.State.{State}
use Rattle.state_rows.specs.declared.thread.ThreadRow.{ThreadRow}
use Rattle.machine.specs.Arrivals.{is_listed, unlisted, arrive}
use Rattle.machine.specs.Rows.{thread_of}
use Rattle.machine.specs.Task.{is_ready}
use Rattle.machine.specs.Tick.{moved_behind}
use Rattle.nano.specs.Choice.{chosen, after_tick, rotated_at}
use Rattle.kernel_tables.specs.Moved.{AreKnown}
use Rattle.kernel_tables.specs.ReadyQueues.{AreReady, Follow, pairs, leave}
use Rattle.kernel_tables.proofs.ReadyLists.{listed_behind, filtered_listed, without_unlisted, itself_stays}
use Rattle.kernel_tables.proofs.ReadyRows.{rowless_unready}
use Rattle.kernel_tables.proofs.ReadyQueues.{picked_queued, turned_queued, removed_queued, added_queued, ready_queued, chosen_priority}
use Rattle.move_laws.proofs.Readiness.ReadyLists.{apart-push, apart-filter}
use Rattle.move_laws.proofs.Readiness.FirstReady.{greatest_listed}

-- a thread that stands in no queue isn't listed, and one that stands in some is
absent_listed : (rank : ObjNo → ℕ) (qs : List ObjNo) (r : Ready) (t : ObjNo) → AreReady rank qs r
    → (list_any (holds t) r.queues ≡ true → ⊥) → is_listed qs t ≡ false
absent_listed rank qs r t h absent = false_from_ne_true (is_listed qs t) (λ listed. absent (ready_queued rank qs r t h.queues ∙ listed))

-- the list with one thread more
pub ready_behind : (rank : ObjNo → ℕ) (qs : List ObjNo) (r : Ready) (t : ObjNo) → t.0 < BOOT_OBJECTS → rank t < 64
    → is_listed qs t ≡ false → AreReady rank qs r → AreReady rank (qs ++ t ∷ []) (added r t (rank t))
ready_behind rank qs r t known low none h = record {
  queues = added_queued rank qs r t low h.queues;
  once = apart-push qs t h.once none;
  known = λ u listed. elim (listed_behind qs t u listed) as (λ _. u.0 < BOOT_OBJECTS) [
    | inl before ↦ h.known u before
    | inr is ↦ subst (λ (o : ObjNo). o.0 < BOOT_OBJECTS) is known
  ];
  size = h.size;
}

-- a ready thread that stands in no queue comes
pub comes : (script : Script) (S : State) (rank : ObjNo → ℕ) (r : Ready) (t : ObjNo) (p : ℕ)
    → is_ready script S t ≡ true → (list_any (holds t) r.queues ≡ true → ⊥) → t.0 < BOOT_OBJECTS → rank t ≡ p → p < 64
    → Follow rank (arrive script S (t ∷ [])) r (added r t p)
comes script S rank r t p ready absent known own low qs h =
    let none = absent_listed rank qs r t h absent in
    let here : rank t < 64 = rw own low in
    rw (ready, none) (subst (λ (n : ℕ). AreReady rank (qs ++ t ∷ []) (added r t n)) own (ready_behind rank qs r t known here none h))

-- one that stands in a queue stays
pub stays_listed : (script : Script) (S : State) (rank : ObjNo → ℕ) (r : Ready) (t : ObjNo)
    → ((list_any (holds t) r.queues ≡ true → ⊥) → ⊥) → Follow rank (arrive script S (t ∷ [])) r r
stays_listed script S rank r t stands qs h =
    elim (cases_Bool (is_listed qs t)) [
      | inl listed ↦ elim (cases_Bool (is_ready script S t)) [ inl ready ↦ rw (ready, listed) h | inr unready ↦ rw unready h ]
      | inr none ↦ absurd (stands (λ held. let clash : true ≡ false = sym held ∙ (ready_queued rank qs r t h.queues ∙ none) in cc))
    ]

-- and one that isn't ready doesn't come
pub stays_unready : (script : Script) (S : State) (rank : ObjNo → ℕ) (r : Ready) (t : ObjNo)
    → is_ready script S t ≡ false → Follow rank (arrive script S (t ∷ [])) r r
stays_unready script S rank r t unready qs h = rw unready h

-- a number past those of threads is no thread's
pub past_row : (script : Script) (S : State) (t : ObjNo) (row : Option ThreadRow) → AreKnown S → BOOT_OBJECTS ≤ t.0
    → thread_of S t ≡ row → is_ready script S t ≡ false
past_row script S t None known past is = rowless_unready script S t is
past_row script S t (Some row) known past is = let low = known t row is in absurd (omega arith)

pub stays_past : (script : Script) (S : State) (rank : ObjNo → ℕ) (r : Ready) (t : ObjNo) → AreKnown S
    → BOOT_OBJECTS ≤ t.0 → Follow rank (arrive script S (t ∷ [])) r r
stays_past script S rank r t known past = stays_unready script S rank r t (past_row script S t (thread_of S t) known past refl)

-- nor is a number without a row
pub stays_rowless : (script : Script) (S : State) (rank : ObjNo → ℕ) (r : Ready) (t : ObjNo) → thread_of S t ≡ None → Follow rank (arrive script S (t ∷ [])) r r
stays_rowless script S rank r t none = stays_unready script S rank r t (rowless_unready script S t none)

-- who isn't in a list leaves it as it is
leaves_absent : (rank : ObjNo → ℕ) (qs : List ObjNo) (r : Ready) (t : ObjNo) → is_listed qs t ≡ false → AreReady rank qs r → AreReady rank (unlisted t qs) r
leaves_absent rank qs r t none h = subst (λ (l : List ObjNo). AreReady rank l r) (sym (without_unlisted t qs none)) h

-- a number past those of threads
pub past_leaves : (rank : ObjNo → ℕ) (r : Ready) (t : ObjNo) → BOOT_OBJECTS ≤ t.0 → Follow rank (unlisted t) r r
past_leaves rank r t past qs h =
    leaves_absent rank qs r t (false_from_ne_true (is_listed qs t)
    (λ listed. let low = h.known t listed in absurd (omega arith))) h

-- a thread that stands in no queue
pub absent_leaves : (rank : ObjNo → ℕ) (r : Ready) (t : ObjNo) → (list_any (holds t) r.queues ≡ true → ⊥) → Follow rank (unlisted t) r r
absent_leaves rank r t absent qs h = leaves_absent rank qs r t (absent_listed rank qs r t h absent) h

-- a thread that stands in one
pub thread_leaves : (rank : ObjNo → ℕ) (r : Ready) (t : ObjNo) → Follow rank (unlisted t) r (removed r t)
thread_leaves rank r t qs h = record {
  queues = removed_queued rank qs r t h.queues;
  once = apart-filter _ qs h.once;
  known = λ u listed. h.known u (filtered_listed _ qs u listed).0;
  size = h.size;
}

-- a thread that isn't ready leaves
pub leaves_unready : (script : Script) (S : State) (rank : ObjNo → ℕ) (r new : Ready) (t : ObjNo)
    → is_ready script S t ≡ false → Follow rank (unlisted t) r new → Follow rank (leave script S (t ∷ [])) r new
leaves_unready script S rank r new t unready follow qs h = rw unready (follow qs h)

pub leaves_ready : (script : Script) (S : State) (rank : ObjNo → ℕ) (r : Ready) (t : ObjNo) → is_ready script S t ≡ true
    → Follow rank (leave script S (t ∷ [])) r r
leaves_ready script S rank r t ready qs h = rw ready h

-- one that stands in no queue can't leave
pub leaves_unqueued : (script : Script) (S : State) (rank : ObjNo → ℕ) (r : Ready) (t : ObjNo)
    → (t.0 < BOOT_OBJECTS → list_any (holds t) r.queues ≡ true → ⊥) → Follow rank (leave script S (t ∷ [])) r r
leaves_unqueued script S rank r t absent qs h =
    let none = false_from_ne_true (is_listed qs t) (λ listed. absent (h.known t listed) (ready_queued rank qs r t h.queues ∙ listed)) in
    elim (cases_Bool (is_ready script S t)) [ inl ready ↦ rw ready h | inr unready ↦ rw unready (leaves_absent rank qs r t none h) ]

-- the thread of the highest queue is the chosen one
chosen_by : (rank : ObjNo → ℕ) (qs : List ObjNo) (r : Ready) (t : ObjNo) → AreReady rank qs r
    → Some t ≡ first_of_highest r.queues → first_of_greatest rank qs ≡ Some t
chosen_by rank qs r t h is = sym (is ∙ picked_queued rank qs r h.queues)

pub chosen_follows : (sync : NanoRows) (calls : DeferredRows) (rank : ObjNo → ℕ) (r : Ready) (qs : List ObjNo)
    → AreQueuesOf (pairs rank qs) r
    → chosen r sync calls ≡ item_or (next_immediate calls)
    (actor_of (option_map (in_place_of sync) (first_of_greatest rank qs)))
chosen_follows sync calls rank r qs are =
    ap (λ (found : Option ObjNo). item_or (next_immediate calls) (actor_of (option_map (in_place_of sync) found)))
    (picked_queued rank qs r are)

-- a time slice ends, and nobody is ready
pub nobody_turns : (nano : NanoRows) (rank : ObjNo → ℕ) (r : Ready) → None ≡ first_of_highest r.queues
    → Follow rank (λ qs. moved_behind qs (turned nano (first_of_greatest rank qs))) r r
nobody_turns nano rank r none qs h =
    let nobody : first_of_greatest rank qs ≡ None = sym (none ∙ picked_queued rank qs r h.queues) in
    rw nobody h

-- one that holds a fast mutex is spared
pub holder_spared : (nano : NanoRows) (rank : ObjNo → ℕ) (r : Ready) (t : ObjNo) → is_some (held_by nano t) ≡ true
    → Some t ≡ first_of_highest r.queues
    → Follow rank (λ qs. moved_behind qs (turned nano (first_of_greatest rank qs))) r r
holder_spared nano rank r t holds is qs h =
    let chosen = chosen_by rank qs r t h is in
    rw (chosen, holds) h

-- another turns, and the queue of its priority with it
pub queue_turns : (nano : NanoRows) (rank : ObjNo → ℕ) (r : Ready) (t : ObjNo) (p : ℕ)
    → is_some (held_by nano t) ≡ false → Some t ≡ first_of_highest r.queues → Some p ≡ priority_of r t
    → Follow rank (λ qs. moved_behind qs (turned nano (first_of_greatest rank qs))) r (rotated r p)
queue_turns nano rank r t p free is at qs h =
    let chosen = chosen_by rank qs r t h is in
    let own : Some p ≡ Some (rank t) = at ∙ chosen_priority rank qs r t h.once h.queues chosen in
    let same : p ≡ rank t = cc in
    let listed = greatest_listed rank qs t chosen in
    let behind : AreReady rank (moved_behind qs (Some t)) (rotated r (rank t)) = record {
      queues = turned_queued rank qs r t h.once h.queues chosen;
      once = apart-push (unlisted t qs) t (apart-filter _ qs h.once) (gone qs t);
      known = λ u again. elim (listed_behind (unlisted t qs) t u again) as (λ _. u.0 < BOOT_OBJECTS) [
        | inl before ↦ h.known u (filtered_listed _ qs u before).0
        | inr here ↦ subst (λ (o : ObjNo). o.0 < BOOT_OBJECTS) here (h.known t listed)
      ];
      size = h.size;
    } in
    rw (chosen, free, same) behind
  where
    gone : (qs : List ObjNo) (t : ObjNo) → is_listed (unlisted t qs) t ≡ false
    gone qs t = false_from_ne_true (is_listed (unlisted t qs) t) (λ listed. let was = filtered_listed _ qs t listed in itself_stays t was.1)

-- the chosen thread has a priority
pub chosen_stands : (nano : NanoRows) (rank : ObjNo → ℕ) (r : Ready) (t : ObjNo) → Some t ≡ first_of_highest r.queues
    → None ≡ priority_of r t → Follow rank (λ qs. moved_behind qs (turned nano (first_of_greatest rank qs))) r r
chosen_stands nano rank r t is none qs h =
    let clash : None ≡ Some (rank t) = none ∙ chosen_priority rank qs r t h.once h.queues (chosen_by rank qs r t h is) in
    absurd (cc)

-- the queues stay those of as many threads
pub rotated_size : (r : Ready) (p : Option ℕ) → (rotated_at r p).threads ≡ r.threads
rotated_size r None = refl
rotated_size r (Some p) = refl

-- what the end of a time slice does to the queues it does to the list
pub tick_follows : (sync : NanoRows) (rank : ObjNo → ℕ) (r : Ready)
    → Follow rank (λ qs. moved_behind qs (turned sync (first_of_greatest rank qs))) r (after_tick r sync)
tick_follows sync rank r = by (first_of_highest r.queues) refl
  where
    at : (t : ObjNo) (p : Option ℕ) → is_some (held_by sync t) ≡ false → Some t ≡ first_of_highest r.queues → p
        ≡ priority_of r t → Follow rank (λ qs. moved_behind qs (turned sync (first_of_greatest rank qs))) r (rotated_at r p)
    at t None free is stands = chosen_stands sync rank r t is stands
    at t (Some p) free is stands = queue_turns sync rank r t p free is stands

    held : (t : ObjNo) (b : Bool) → is_some (held_by sync t) ≡ b → Some t ≡ first_of_highest r.queues
        → Follow rank (λ qs. moved_behind qs (turned sync (first_of_greatest rank qs))) r
        (rotated_at r (option_and_then (priority_of r) (if b then None else Some t)))
    held t true holds is = holder_spared sync rank r t holds is
    held t false free is = at t (priority_of r t) free is refl

    by : (found : Option ObjNo) → found ≡ first_of_highest r.queues
        → Follow rank (λ qs. moved_behind qs (turned sync (first_of_greatest rank qs))) r
        (rotated_at r (option_and_then (priority_of r) (turned sync found)))
    by None none = nobody_turns sync rank r none
    by (Some t) is = held t (is_some (held_by sync t)) refl is
