-- The moves of each action go through: they can be made in the tables, and keep priorities and the readiness of those that
-- they don't touch.
use Rattle.std.proofs.Common.{◌≡◌, ◌⊎◌, inl, inr, ℕ, ◌+◌, ◌<◌, ◌≤◌, List, [], ◌∷◌, length, get_or, arith, refl, sym, ap, subst, ◌∙◌, Bool, true, false}
use Rattle.std.specs.Prelude.{◌==◌, IsTrue, is_some, Option, Some, None}
use Rattle.std.proofs.lemmas.Bool.{cases_Bool, cases_lt, eq-eqb, or_left}
use Rattle.std.proofs.lemmas.List.{get_or_past}
use Rattle.sym_base.specs.declared.kind.Kind.{Kind}
use Rattle.sym_base.specs.declared.number.ObjNo.{ObjNo}
use Rattle.script_types.specs.declared.script.Script.{Script}
use Rattle.script_types.specs.Shape.{IsShaped}
use Rattle.entry_log.specs.declared.effect.Holder.{Holder}
use Rattle.entry_log.specs.declared.step.Part.{Part}
use Rattle.state_rows.specs.declared.duty.Owed.{Owed}
use Rattle.state_rows.specs.declared.duty.Owed.TheVariants.{Close, Sweep}
use Rattle.state_rows.specs.declared.object.ObjectRow.{ObjectRow}
use Rattle.state_rows.specs.ObjectRows.{is_dead_row, is_session, place_of}
use Rattle.objects.specs.Rows.{kept_name}
use Rattle.machine.specs.declared.moves.Move.{Move}
use Rattle.machine.specs.declared.moves.Move.TheVariants.{Make, Gain, Lose, Find, Open, Miss, GoOn, Keep, Write, WriteMessage, PutDown, Advance, Wait, Wake, SetPriority, Nano, Deferred, Requests, Locks, Logons, Death, Servers, Messages, Fill, Copies, Pay}
use Rattle.machine.specs.declared.mode.Mode.{Mode}
use Rattle.machine.specs.declared.nano_move.NanoMove.{NanoMove}
use Rattle.machine.specs.declared.nano_move.NanoMove.TheVariants as nano
use Rattle.machine.specs.declared.request_move.RequestMove.{RequestMove}
use Rattle.machine.specs.declared.request_move.RequestMove.TheVariants as request
use Rattle.state_rows.specs.declared.requests.RequestRows.{RequestRows}
use Rattle.machine.specs.declared.state.State.{State}
use Rattle.state_rows.specs.declared.thread.Waiting.TheVariants as waiting
use Rattle.state_rows.specs.declared.thread.ThreadRow.{ThreadRow}
use Rattle.machine.specs.Choice.{priority_of, priority_of_row}
use Rattle.machine.specs.DeathMoves.{death_row, death_thread}
use Rattle.machine.specs.NanoMoves.{nano_thread}
use Rattle.machine.specs.Fits.{ComesBack, FitsNano, FitsRequests, HasName, FitsMove, EachFits, Sane, most_owed}
use Rattle.machine.specs.Moves.{moved, told, closed_effects, threads_lose, with_found, with_opened, with_missed, with_kept, with_message, with_use, with_part, with_register, with_waiting, with_priority, advanced, next_object, use_of_row}
use Rattle.machine.specs.Out.{outs_of}
use Rattle.machine.specs.References.{total, same, count_of, option_names, pluses, minuses, session_names, RefsMove}
use Rattle.machine.specs.Serving.{is_over}
use Rattle.state_rows.specs.ServerChanges.{IsAlone}
use Rattle.state_rows.specs.ServerRows.{holds, link_of, linked_at, server_of, session_at}
use Rattle.state_rows.specs.declared.servers.ServerRows.{ServerRows}
use Rattle.state_rows.specs.declared.servers.SessionRow.{SessionRow}
use Rattle.machine.specs.Rows.{object_of, thread_of, owed_of}
use Rattle.machine.specs.WellFormed.{IsAlive, AreRows, AreRequests, is_dead, dead_bit, owed_sweeps, weight}
use Rattle.move_laws.proofs.Holders.ThreadRows.{row-other}
use Rattle.move_laws.proofs.Lists.Totals.{inside, total_any, total_at_least}
use Rattle.move_laws.proofs.Lives.NewObjects.{next_number_is}
use Rattle.move_laws.proofs.Lives.Places.{Renews}
use Rattle.move_laws.proofs.MoveLaws.Pays.{sweep-over, sweep-uncounted}
use Rattle.move_laws.proofs.MoveLaws.RowMoves.{returning_before}
use Rattle.move_laws.proofs.MoveLaws.Run.{sound-move, sound-pay, sane-after, refs-of, weight-move}
use Rattle.move_laws.proofs.Numbers.CountSmall.{count_small}
use Rattle.move_laws.proofs.Numbers.Instructions.{few_instructions}
use Rattle.move_laws.proofs.Readiness.ReadyActions.{joins_own}
use Rattle.move_laws.proofs.Readiness.Touched.{untouched}
use Rattle.move_laws.proofs.References.Same.{same_self}
use Rattle.machine_laws.proofs.Fitting.Regular.{coming_bit}
use Rattle.machine_laws.proofs.Reached.Modes.{mode-moved}
use Rattle.machine_laws.proofs.Sharing.Seekers.{seeks-pay, seeks-same}
use Rattle.kernel_tables.specs.Moved.{CanMove, AreKnown, MoveGoes, MoveRuns, MovesGo, MovesRun, UsesNothing, is_set}
use Rattle.kernel_tables.specs.Referred.{IsReferred}
use Rattle.kernel_tables.proofs.GoingHolders.{few_places, one_place, may_gain, takes_least, may_make, makes_least, may_lose}
use Rattle.kernel_tables.proofs.GoingLocks.{can_lock}
use Rattle.kernel_tables.proofs.GoingServers.{can_message, can_serve}
use Rattle.kernel_tables.proofs.GoingLogons.{can_logon}
use Rattle.kernel_tables.proofs.DyingRows.{death_priority}
use Rattle.kernel_tables.proofs.Ranks.{rank-with_row, rank-gain, rank-lose, rank-closed, rank-other}
use Rattle.table_moves.specs.NanoMoved.{CanNano}
use Rattle.table_moves.specs.ObjectsView.{IsThere}
use Rattle.table_moves.specs.RequestMoved.{CanRequest}

-- an object that is alive isn't swept
alive_there : (row : Option ObjectRow) → IsAlive row → IsThere row
alive_there None h = absurd h
alive_there (Some row) h = refl

-- an object that is referred to is alive, and few refer to it
referred : (script : Script) (S : State) (o : ObjNo) → AreRows script S → 0 < count_of S o → IsReferred S o
referred script S o rows some = record {
  there = alive_there (object_of S o) (rows.lives.alive o some);
  known = some;
  few = count_small script S rows o;
}

-- whoever gives a reference up has one
closed_minus : (last : Bool) (h : Holder) (o : ObjNo) → (minuses (closed_effects last h o) o ≡ 1) × (pluses (closed_effects last h o) o ≡ 0)
closed_minus true h o = let one = same_self o in (omega arith, refl)
closed_minus false h o = let one = same_self o in (omega arith, refl)

was_held : (S T : State) (last : Bool) (h : Holder) (o : ObjNo) → RefsMove S T (closed_effects last h o) → 0 < count_of S o
was_held S T last h o refs = let moves = refs.each o in let one = closed_minus last h o in omega arith

-- the next object isn't referred to yet
next_fresh : (script : Script) (S : State) → AreRows script S → count_of S (next_object S) ≡ 0
next_fresh script S rows = elim (cases_lt 0 (count_of S (next_object S))) [
  | inl some ↦
      let alive = rows.lives.alive (next_object S) some in
      absurd (subst IsAlive (next_number_is S.mode.reuse S.references.objects).1 alive)
  | inr none_is_left ↦ omega arith
]

-- an object whose sweep is owed is dead
bit_true : (b : Bool) → 0 < dead_bit b → b ≡ true
bit_true true h = refl
bit_true false h = absurd (omega arith)

counted_dead : (row : Option ObjectRow) → 0 < is_dead row → IsTrue (is_dead_row row)
counted_dead None h = absurd (omega arith)
counted_dead (Some row) h = bit_true row.dead h

swept_dead : (script : Script) (S : State) (t o : ObjNo) (rest : List Owed) → AreRows script S
    → t.0 < length S.references.owed → owed_of S t ≡ Sweep o ∷ rest → IsTrue (is_dead_row (object_of S o))
swept_dead script S t o rest rows lt is =
    let at = total_at_least (total (owed_sweeps o)) S.references.owed t.0 [] lt in
    let was : total (owed_sweeps o) (owed_of S t) ≡ same o o + total (owed_sweeps o) rest = ap (total (owed_sweeps o)) is in
    let self = same_self o in
    let dead = rows.lives.sweeps o in
    counted_dead (object_of S o) (omega arith)

-- so its number is one of the tables', and it is linked to nothing
swept_inside : (objects : List (Option ObjectRow)) (o : ℕ) → IsTrue (is_dead_row (get_or objects o None)) → o < length objects
swept_inside objects o dead = elim (cases_lt o (length objects)) [
  | inl there ↦ there
  | inr past ↦ let none = get_or_past objects o None past in absurd (cc (rw none at dead))
]

dead_over : (row : Option ObjectRow) → IsTrue (is_dead_row row) → is_over row ≡ true
dead_over None dead = refl
dead_over (Some row) dead = dead

-- an object that nothing refers to has no sessions
unlisted : (r : ServerRows) (o : ObjNo) → ((s : ObjNo) → holds s (linked_at r o) ≡ true → ⊥) → linked_at r o ≡ []
unlisted r o none = by (linked_at r o) refl
  where
    by : (l : List ObjNo) → linked_at r o ≡ l → linked_at r o ≡ []
    by [] is = is
    by (s ∷ rest) is =
        let first : holds s (s ∷ rest) ≡ true = or_left (s.0 == s.0) (holds s rest) (eq-eqb s.0 s.0 refl) in
        absurd (none s (ap (holds s) is ∙ first))

linked_counts : (r : ServerRows) (s o : ObjNo) → server_of r s ≡ Some o → 0 < total (session_names o) r.sessions
linked_counts r s o is =
    let within = total_any (session_names o) r.sessions s.0 None refl in
    let named = link_counts (session_at r s) o is in
    omega arith
  where
    link_counts : (x : Option SessionRow) (o : ObjNo) → link_of x ≡ Some o → session_names o x ≡ 1
    link_counts None o is = absurd (cc)
    link_counts (Some row) o is = ap (option_names o) is ∙ same_self o

swept_alone : (script : Script) (S : State) (o : ObjNo) → AreRows script S → IsTrue (is_dead_row (object_of S o)) → count_of S o ≡ 0
    → IsAlone S.serving.servers o
swept_alone script S o rows dead none = record {
  no_session = unlisted S.serving.servers o (λ s listed.
      let some = linked_counts S.serving.servers s o (rows.serving.servers.linked s o listed) in absurd (omega arith));
  no_server = rows.serving.servers.sessions_over o (dead_over (object_of S o) dead);
}

-- and uses nothing
swept_unused : (script : Script) (S : State) (t o : ObjNo) (rest : List Owed) (row : Option ThreadRow) → Sane script t S
    → owed_of S t ≡ Sweep o ∷ rest → thread_of S o ≡ row → use_of_row (thread_of S o) ≡ None
swept_unused script S t o rest None s owes is = ap use_of_row is
swept_unused script S t o rest (Some row) s owes is =
    let over = sweep-over script S t o rest row owes s.inside s.rows is in
    ap use_of_row over.is ∙ over.spent.unused

-- a move in the rows of threads that synchronize is one of a thread and of a fast mutex that are there
sized_at : (threads : List (Option ThreadRow)) (t : ObjNo) (row : Option ThreadRow) → get_or threads t.0 None ≡ row
    → is_some (get_or threads t.0 None) ≡ true → t.0 < length threads
sized_at threads t (Some row) is some = inside threads t.0 row is
sized_at threads t None is some = let clash : false ≡ true = ap (λ (x : Option ThreadRow). is_some x) (sym is) ∙ some in absurd (cc)

can_nano : (script : Script) (S : State) (m : NanoMove) → AreRows script S
    → is_some (thread_of S (nano_thread m)) ≡ true → FitsNano m S → CanNano m S.synchronization.nano
can_nano script S m rows there fits =
    let long = rows.synchronization.nano.sized in
    let at = sized_at S.references.threads (nano_thread m) (thread_of S (nano_thread m)) refl there in
    by_kind m (omega arith) fits
  where
    by_kind : (m : NanoMove) → (nano_thread m).0 < length S.synchronization.nano.signals → FitsNano m S → CanNano m S.synchronization.nano
    by_kind (nano.Take t f) at fits = (at, fits.0, fits.2.holds)
    by_kind (nano.Give t f) at fits = (at, fits.0)
    by_kind (nano.Want t None) at fits = (at, λ wanted is. absurd (cc))
    by_kind (nano.Want t (Some f)) at fits = (
      at,
      λ wanted is. let same : f ≡ wanted = cc in
          subst (λ (n : ℕ). n < length S.synchronization.nano.holders) same fits.0,
    )
    by_kind (nano.Enter t) at fits = at
    by_kind (nano.Leave t) at fits = at
    by_kind (nano.LeaveAll t) at fits = at
    by_kind (nano.Suspend t) at fits = at
    by_kind (nano.Resume t) at fits = at
    by_kind (nano.Release t) at fits = at
    by_kind (nano.Raise t) at fits = at
    by_kind (nano.Lower t) at fits = at

-- a move in the rows of requests names what is there, and completes what is pending
can_request : (count : ℕ) (r : RequestRows) (m : RequestMove) (logons : List (List (ObjNo × ℕ))) → AreRequests count r
    → FitsRequests m r logons → CanRequest m r
can_request count r (request.Begin d t s) logons rows fits = (fits.device, fits.thread, fits.status)
can_request count r (request.Complete d t s code) logons rows fits =
    let known = rows.rows.requests_known d _ fits.1 in
    ((fits.0, known.0, known.1), rows.pending d _ fits.1)
can_request count r (request.SetPending t s) logons rows fits = fits
can_request count r (request.Signal t s code) logons rows fits = (fits.0.thread, fits.0.status, fits.0.waits)
can_request count r (request.DropAll t) logons rows fits = fits
can_request count r (request.TakeSignal t) logons rows fits = fits
can_request count r (request.Reply t code) logons rows fits = fits

-- threads have the least numbers, and priorities in their range
known : (script : Script) (S : State) → AreRows script S → AreKnown S
known script S rows u row is =
    let there = inside S.references.threads u.0 row is in
    let few = rows.references.sized.threads_few in
    let low = (rows.references.threads.rows u.0 row is).priority in
    (omega arith, omega arith)

-- a name is kept where it is a session's, which is empty
named : (kind : Kind) (name : List ℕ) → HasName kind name → kept_name kind name ≡ name
named kind name none = elim (cases_Bool (is_session kind)) [
  | inl session ↦ rw session (sym (none session))
  | inr other ↦ rw other refl
]

-- where one caller alone calls the kernel, something refers to each object that is alive
known_alone : (S : State) (o : ObjNo) → S.mode.shared ≡ false → 0 < count_of S o + outs_of S o → 0 < count_of S o
known_alone S o alone counted =
    let none : outs_of S o ≡ 0 = rw alone refl in
    omega arith

-- 1 for a move by which a thread opens what it found
abbrev pub opening_bit : Move → ℕ
opening_bit (Open u o part) = 1
opening_bit _ = 0

opens_le : (m : Move) → opening_bit m ≤ coming_bit m
opens_le (Open u o part) = omega arith
opens_le m = omega arith

-- so no move opens anything where none comes back
pub opens_none : (ms : List Move) → total coming_bit ms ≡ 0 → total opening_bit ms ≡ 0
opens_none [] none = refl
opens_none (m ∷ ms) none = let here = opens_le m in let rest = opens_none ms (omega arith) in omega arith

-- one caller alone calls the kernel, or a move opens nothing: who shares it comes back with a note
abbrev OpensAlone : State → Move → Type 0
OpensAlone S m = (S.mode.shared ≡ false) ⊎ (opening_bit m ≡ 0)

known_opened : (S : State) (u o : ObjNo) (part : Part) → OpensAlone S (Open u o part) → 0 < count_of S o + outs_of S o → 0 < count_of S o
known_opened S u o part (inl alone) counted = known_alone S o alone counted
known_opened S u o part (inr none) counted = absurd (omega arith)

-- who comes back uses nothing yet
pub back_unused : (script : Script) (S : State) (u o : ObjNo) → AreRows script S → ComesBack S u o → UsesNothing (thread_of S u)
back_unused script S u o rows back = record {
  row = back.row;
  is = back.is;
  unused = (rows.references.threads.rows u.0 back.row back.is).unused (returning_before back.row.part back.returns);
}

-- when a move that fits can be made
can_move : (script : Script) (S : State) (t : ObjNo) (m : Move) → IsShaped script → FitsMove script t m S
    → S.serving.messages.accepted < 4294967295 → RefsMove S (moved t m S) (told m S) → Sane script t S → OpensAlone S m
    → CanMove t m S
can_move script S t (Make kind name h) shaped fits numbers refs s alone = (
  named kind name fits.2,
  fits.0.new,
  record { room = fits.0.room; fresh = next_fresh script S s.rows },
  may_make S h fits.1,
  makes_least S h fits.1,
)
can_move script S t (Gain h o) shaped fits numbers refs s alone = (referred script S o s.rows fits.1, may_gain S h fits.0, takes_least S h fits.0)
can_move script S t (Lose h o) shaped fits numbers refs s alone = (
  referred script S o s.rows (was_held S (moved t (Lose h o) S) _ h o refs),
  few_places script S t s.rows,
  may_lose script S h o s.rows fits.1,
)
can_move script S t (Find u o) shaped fits numbers refs s alone = tt
can_move script S t (Open u o part) shaped fits numbers refs s alone = (
  referred script S o s.rows (known_opened S u o part alone (s.rows.lives.counted o fits.0.alive)),
  back_unused script S u o s.rows fits.0.back,
  tt,
)
can_move script S t (Miss u o) shaped fits numbers refs s alone = tt
can_move script S t (GoOn u part) shaped fits numbers refs s alone = tt
can_move script S t (Keep u number) shaped fits numbers refs s alone = tt
can_move script S t (Write u x value) shaped fits numbers refs s alone = fits
can_move script S t (WriteMessage u y number) shaped fits numbers refs s alone = fits
can_move script S t (PutDown u) shaped fits numbers refs s alone = one_place script S u s.rows
can_move script S t (Advance u) shaped fits numbers refs s alone = (
  λ k row is. let next = (s.rows.references.threads.rows k row is).next_instruction in let few = few_instructions script row.role shaped in omega arith,
  one_place script S u s.rows,
)
can_move script S t (Wait u what) shaped fits numbers refs s alone = tt
can_move script S t (Wake u) shaped fits numbers refs s alone = tt
can_move script S t (SetPriority u priority) shaped fits numbers refs s alone = known script S s.rows
can_move script S t (Nano m) shaped fits numbers refs s alone = can_nano script S m s.rows fits.0 fits.1
can_move script S t (Deferred m) shaped fits numbers refs s alone = fits
can_move script S t (Requests m) shaped fits numbers refs s alone =
    can_request (length S.references.threads) S.synchronization.requests m S.synchronization.logons
    s.rows.synchronization.requests fits.0
can_move script S t (Locks m) shaped fits numbers refs s alone =
    can_lock script S s.rows (known script S s.rows) (λ o. referred script S o s.rows)
    (λ u. few_places script S u s.rows) t m fits
can_move script S t (Logons m) shaped fits numbers refs s alone = can_logon script S m s.rows fits
can_move script S t (Death m) shaped fits numbers refs s alone = one_place script S t s.rows
can_move script S t (Servers m) shaped fits numbers refs s alone = can_serve script S s.rows (λ o. referred script S o s.rows) m fits
can_move script S t (Messages m) shaped fits numbers refs s alone =
    can_message script S s.rows (λ o. referred script S o s.rows) t m
    (few_places script S t s.rows) fits.0 fits.2 numbers
can_move script S t (Fill p at size byte) shaped fits numbers refs s alone = fits
can_move script S t (Copies m) shaped fits numbers refs s alone = fits
can_move script S t (Pay what) shaped fits numbers refs s alone = absurd fits

-- priorities stay that aren't set
set_other : (u v : ObjNo) → (u.0 == v.0) ≡ false → v.0 ≡ u.0 → ⊥
set_other u v other same = let is : (u.0 == v.0) ≡ true = eq-eqb u.0 v.0 (sym same) in cc

ranks_move : (script : Script) (S : State) (t : ObjNo) (m : Move) (u : ObjNo) → FitsMove script t m S
    → is_set m u ≡ false → priority_of (moved t m S) u ≡ priority_of S u
ranks_move script S t (Wait v what) u fits unset = rank-with_row S.references.threads v (with_waiting what) u (λ r. refl)
ranks_move script S t (Wake v) u fits unset = rank-with_row S.references.threads v (with_waiting waiting.Nothing) u (λ r. refl)
ranks_move script S t (SetPriority v priority) u fits unset =
    ap priority_of_row (row-other S.references.threads v (with_priority priority) u.0 (set_other u v unset))
ranks_move script S t (Nano m) u fits unset = refl
ranks_move script S t (Deferred m) u fits unset = refl
ranks_move script S t (Requests m) u fits unset = refl
ranks_move script S t (Locks m) u fits unset = refl
ranks_move script S t (Logons m) u fits unset = refl
ranks_move script S t (Death m) u fits unset = rank-with_row S.references.threads (death_thread m) (death_row m) u (death_priority m)
ranks_move script S t (Fill p at size byte) u fits unset = refl
ranks_move script S t (Copies m) u fits unset = refl
ranks_move script S t (Make kind name h) u fits unset = rank-gain S.references.threads h (next_object S) u
ranks_move script S t (Gain h o) u fits unset = rank-gain S.references.threads h o u
ranks_move script S t (Lose h o) u fits unset = rank-closed (threads_lose h S.references.threads) _ o u ∙ rank-lose S.references.threads h u
ranks_move script S t (Find v o) u fits unset = rank-with_row S.references.threads v (with_found o (place_of (object_of S o))) u (λ r. refl)
ranks_move script S t (Open v o part) u fits unset = rank-with_row S.references.threads v (with_opened o part) u (λ r. refl)
ranks_move script S t (Miss v o) u fits unset = rank-with_row S.references.threads v with_missed u (λ r. refl)
ranks_move script S t (GoOn v part) u fits unset = rank-with_row S.references.threads v (with_part part) u (λ r. refl)
ranks_move script S t (Keep v number) u fits unset = rank-with_row S.references.threads v (with_kept number) u (λ r. refl)
ranks_move script S t (WriteMessage v y number) u fits unset = rank-with_row S.references.threads v (with_message y number) u (λ r. refl)
ranks_move script S t (PutDown v) u fits unset = rank-with_row S.references.threads v (with_use None) u (λ r. refl)
ranks_move script S t (Servers m) u fits unset = refl
ranks_move script S t (Messages m) u fits unset = refl
ranks_move script S t (Write v x value) u fits unset = rank-with_row S.references.threads v (with_register x value) u (λ r. refl)
ranks_move script S t (Advance v) u fits unset = rank-with_row S.references.threads v advanced u (λ r. refl)
ranks_move script S t (Pay what) u fits unset = absurd fits

-- an object whose place was given stood at its number
stays-at : (S T : State) → Renews S T → (o : ObjNo) (row : ObjectRow) → object_of T o ≡ Some row → row.place < S.references.made
    → IsThere (object_of S o) × (place_of (object_of S o) ≡ row.place)
stays-at S T renews o row is low = elim (renews.stood o.0 row is) as (λ _. IsThere (object_of S o) × (place_of (object_of S o) ≡ row.place)) [
  | inl stood ↦ (rw stood.1 refl, rw stood.1 stood.2)
  | inr new ↦ absurd (omega arith)
]

-- what a move that fits leaves is in order
move_runs : (script : Script) (S : State) (t : ObjNo) (m : Move) → FitsMove script t m S
    → total weight (owed_of S t) + most_owed m ≤ 12 → Sane script t S → MoveRuns script t m S
move_runs script S t m fits few s =
    let T = moved t m S in
    let sound = sound-move script S t m fits few s in
    let after = sound.rows.serving.messages.numbered in
    record {
      refs = refs-of script S T (told m S) sound;
      known = known script T sound.rows;
      numbered = omega arith;
      ranks = λ u unset. ranks_move script S t m u fits unset;
      apart = λ u none. untouched script S t m u s.rows.references.threads (joins_own script S t m fits) none;
      out = λ u o p apart seeking. let same = seeks-same script S t m fits u o p (λ at. absurd (apart (sym at))) in omega arith;
      stays = stays-at S T sound.lives.renews;
    }

pub each_runs : (script : Script) (S : State) (t : ObjNo) (ms : List Move) → EachFits script t ms S
    → total weight (owed_of S t) + total most_owed ms ≤ 12 → Sane script t S → MovesRun script t ms S
each_runs script S t [] fits few s = tt
each_runs script S t (m ∷ ms) fits few s =
    let T = moved t m S in
    let sound = sound-move script S t m fits.0 (omega arith) s in
    let w = weight-move script S t m fits.0 in
    (move_runs script S t m fits.0 (omega arith) s, each_runs script T t ms fits.1 (omega arith) (sane-after script S T t (told m S) s sound))

-- each of the moves that fit goes through
pub each_goes : (script : Script) (S : State) (t : ObjNo) (ms : List Move) → IsShaped script → EachFits script t ms S
    → total weight (owed_of S t) + total most_owed ms ≤ 12 → Sane script t S
    → (S.mode.shared ≡ false) ⊎ (total opening_bit ms ≡ 0) → MovesGo script t ms S
each_goes script S t [] shaped fits few s alone = tt
each_goes script S t (m ∷ ms) shaped fits few s alone =
    let T = moved t m S in
    let sound = sound-move script S t m fits.0 (omega arith) s in
    let refs = refs-of script S T (told m S) sound in
    let w = weight-move script S t m fits.0 in
    let before = s.rows.serving.messages.numbered in
    let goes : MoveGoes script t m S = record {
      can = can_move script S t m shaped fits.0 (omega arith) refs s (here alone);
      runs = move_runs script S t m fits.0 (omega arith) s;
    } in
    (goes, each_goes script T t ms shaped fits.1 (omega arith) (sane-after script S T t (told m S) s sound) (later alone))
  where
    here : (S.mode.shared ≡ false) ⊎ (total opening_bit (m ∷ ms) ≡ 0) → OpensAlone S m
    here (inl alone) = inl alone
    here (inr none) = inr (omega arith)

    later : (S.mode.shared ≡ false) ⊎ (total opening_bit (m ∷ ms) ≡ 0) → ((moved t m S).mode.shared ≡ false) ⊎ (total opening_bit ms ≡ 0)
    later (inl alone) = inl (ap (λ (mode : Mode). mode.shared) (mode-moved S t m) ∙ alone)
    later (inr none) = inr (omega arith)

-- so does the payment of what is owed
can_pay : (script : Script) (S : State) (t : ObjNo) (what : Owed) (rest : List Owed) → owed_of S t ≡ what ∷ rest
    → RefsMove S (moved t (Pay what) S) (told (Pay what) S) → Sane script t S → CanMove t (Pay what) S
can_pay script S t (Close h o) rest owes refs s =
    (referred script S o s.rows (was_held S (moved t (Pay (Close h o)) S) _ h o refs), few_places script S t s.rows)
can_pay script S t (Sweep o) rest owes refs s =
    let here : t.0 < length S.references.owed = let long = s.rows.references.sized.duties in let there = s.inside in omega arith in
    let dead = swept_dead script S t o rest s.rows here owes in
    let inside = swept_inside S.references.objects o.0 dead in
    let few = s.rows.references.sized.objects_few in
    let none = sweep-uncounted script S t o rest owes here s.rows in
    record {
      dead = dead;
      unused = swept_unused script S t o rest (thread_of S o) s owes refl;
      locks = let sized = s.rows.synchronization.locks.owners_sized in omega arith;
      servers = let sized = s.rows.serving.servers.servers_sized in omega arith;
      alone = swept_alone script S o s.rows dead none;
    }

ranks_pay : (script : Script) (S : State) (t : ObjNo) (what : Owed) (u : ObjNo) → is_set (Pay what) u ≡ false
    → priority_of (moved t (Pay what) S) u ≡ priority_of S u
ranks_pay script S t (Close h o) u unset = rank-closed S.references.threads _ o u
ranks_pay script S t (Sweep o) u unset = rank-other S.references.threads o u (λ at. set_other u o unset (sym at))

pub pay_goes : (script : Script) (S : State) (t : ObjNo) (what : Owed) (rest : List Owed) → owed_of S t ≡ what ∷ rest
    → Sane script t S → MoveGoes script t (Pay what) S
pay_goes script S t what rest owes s =
    let T = moved t (Pay what) S in
    let sound = sound-pay script S t what rest owes s in
    let refs = refs-of script S T (told (Pay what) S) sound in
    let can = can_pay script S t what rest owes refs s in
    record {
      can = can;
      runs = record {
        refs = refs;
        known = known script T sound.rows;
        numbered = let few = sound.rows.serving.messages.numbered in omega arith;
        ranks = λ u unset. ranks_pay script S t what u unset;
        apart = λ u none. untouched script S t (Pay what) u s.rows.references.threads tt none;
        out = λ u o p apart seeking. let same = seeks-pay script S t what rest owes s.rows u o p in omega arith;
        stays = stays-at S T sound.lives.renews;
      };
    }
