-- The moves of an action, one after the other.
use Rattle.std.proofs.Common.{◌≡◌, ◌⊎◌, inl, inr, ℕ, Bool, true, false, ◌+◌, ◌<◌, ◌≤◌, List, [], ◌∷◌, ◌++◌, length, get_or, drop, suc, drop-cons, add-one, arith, refl, sym, ap, subst, ◌∙◌, append_assoc, append-nil, length-append}
use Rattle.std.specs.Prelude.{◌==◌, ◌&&◌, if◌then◌else◌, Option, Some, None}
use Rattle.std.proofs.Math.ListN.{drop_of_length-le}
use Rattle.std.proofs.lemmas.Bool.{cases_lt, eq-eqb, or_left, or_right}
use Rattle.sym_base.specs.declared.limits.TheConstants.Limits.{OBJECTS}
use Rattle.sym_base.specs.declared.number.ObjNo.{ObjNo}
use Rattle.script_types.specs.declared.script.Script.{Script}
use Rattle.entry_log.specs.declared.effect.Effect.{Effect}
use Rattle.entry_log.specs.declared.effect.Effect.TheVariants.{Dead}
use Rattle.entry_log.specs.declared.effect.Holder.{Holder}
use Rattle.state_rows.specs.declared.duty.Owed.TheVariants.{Close, Sweep}
use Rattle.ready_list.specs.Ready.{Ready}
use Rattle.ready_list.specs.Arrival.{AreQueuesOf}
use Rattle.machine.specs.declared.mode.Mode.{Mode}
use Rattle.machine.specs.declared.moves.Move.{Move}
use Rattle.machine.specs.declared.moves.Move.TheVariants.{Lose, Make, Pay}
use Rattle.machine.specs.declared.state.State.{State}
use Rattle.machine.specs.Arrivals.{is_listed, arrive, arrivals, taken_out, touched}
use Rattle.machine.specs.Choice.{priority_of}
use Rattle.machine.specs.History.{is_deathless, keeping}
use Rattle.machine.specs.Kept.{dies}
use Rattle.machine.specs.Moves.{closed_effects, moved, told, perform, tell}
use Rattle.machine.specs.Out.{seeks}
use Rattle.machine.specs.References.{count_of, total, RefsMove}
use Rattle.machine.specs.Rows.{object_of, thread_of}
use Rattle.state_rows.specs.declared.object.ObjectRow.{ObjectRow}
use Rattle.state_rows.specs.ObjectRows.{next_number, place_of}
use Rattle.objects.specs.Calls.{next_place}
use Rattle.move_laws.proofs.Lists.Totals.{total-append}
use Rattle.machine_laws.proofs.Reached.Choices.{blind-all, close_bit}
use Rattle.machine_laws.proofs.Reached.Modes.{mode-moved, mode-perform}
use Rattle.readings.specs.Dying.{dead_by, dead_told, told_alive}
use Rattle.readings.proofs.Telling.{told_dead}
use Rattle.table_moves.specs.Notes.{Notes, HasNoteOf}
use Rattle.table_moves.specs.ObjectsView.{IsThere}
use Rattle.kernel_tables.specs.declared.tables.Tables.{Tables}
use Rattle.kernel_tables.specs.Counts.{Agrees}
use Rattle.kernel_tables.specs.Noted.{AreKept}
use Rattle.kernel_tables.specs.Choosing.{AreNotesMade, AreSoughtBeside, IsSoughtBy, closing_bit, mode_after}
use Rattle.kernel_tables.specs.Moved.{CanMove, IsMoved, IsMovedTo, MoveGoes, MoveRuns, MovesGo, chosen_state, making_bit}
use Rattle.kernel_tables.specs.Performed.{IsPerformed}
use Rattle.kernel_tables.specs.ReadyQueues.{AreReady, Follow, pair, pairs, leave, leave_along}
use Rattle.kernel_tables.specs.StateOf.{state_of}
use Rattle.kernel_tables.proofs.ReadyLists.{taken_unset}
use Rattle.std.proofs.Math.Bool.{and_assoc, and-true, and-false}
use Rattle.machine_laws.proofs.Sharing.Moved.{tell-both}
use Rattle.machine_laws.proofs.Fitting.Stepping.{perform-append}

-- threads of the same priorities
pairs_same : (rank other : ObjNo → ℕ) (qs : List ObjNo) → ((t : ObjNo) → is_listed qs t ≡ true → other t ≡ rank t) → pairs rank qs ≡ pairs other qs
pairs_same rank other [] same = refl
pairs_same rank other (q ∷ qs) same =
    let named : ℕ → ObjNo × ℕ = λ n. (q, n) in
    let first = same q (or_left (q.0 == q.0) (is_listed qs q) (eq-eqb q.0 q.0 refl)) in
    ap (λ (n : ℕ). named n ∷ pairs rank qs) (sym first)
    ∙ ap (λ l. pair other q ∷ l) (pairs_same rank other qs
    (λ t listed. same t (or_right (q.0 == t.0) (is_listed qs t) listed)))

-- are as ready by one as by the other
pub ranks_same : (rank other : ObjNo → ℕ) (qs : List ObjNo) (r : Ready)
    → ((t : ObjNo) → is_listed qs t ≡ true → other t ≡ rank t) → AreReady rank qs r → AreReady other qs r
ranks_same rank other qs r same h = record {
  queues = subst (λ (l : List (ObjNo × ℕ)). AreQueuesOf l r) (pairs_same rank other qs same) h.queues;
  once = h.once;
  known = h.known;
  size = h.size;
}

arrivals_append : (script : Script) (t : ObjNo) (ms ns : List Move) (S : State) (qs : List ObjNo)
    → arrivals script t (ms ++ ns) S qs ≡ arrivals script t ns (perform t ms S) (arrivals script t ms S qs)
arrivals_append script t [] ns S qs = refl
arrivals_append script t (m ∷ ms) ns S qs = arrivals_append script t ms ns (moved t m S) (arrive script (moved t m S) (touched t m) (taken_out m qs))

pub moves_part : (script : Script) (t : ObjNo) (ms ns : List Move) (S : State) → MovesGo script t (ms ++ ns) S
    → MovesGo script t ms S × MovesGo script t ns (perform t ms S)
moves_part script t [] ns S go = (tt, go)
moves_part script t (m ∷ ms) ns S go = let parts = moves_part script t ms ns (moved t m S) go.1 in ((go.0, parts.0), parts.1)

deathless_both : (xs ys : List Effect) → is_deathless (xs ++ ys) ≡ (is_deathless xs && is_deathless ys)
deathless_both [] ys = refl
deathless_both (Dead o ∷ xs) ys = refl
deathless_both (_ ∷ xs) ys = deathless_both xs ys

-- the moves that give a reference up are the same here as in the laws
closes_same : (m : Move) → closing_bit m ≡ close_bit m
closes_same (Lose h o) = refl
closes_same (Pay (Close h o)) = refl
closes_same m = refl

pub closes_all : (ms : List Move) → total closing_bit ms ≡ total close_bit ms
closes_all [] = refl
closes_all (m ∷ ms) = let here = closes_same m in let rest = closes_all ms in omega arith

pub closes_append : (ms ns : List Move) → total closing_bit (ms ++ ns) ≡ total closing_bit ms + total closing_bit ns
closes_append [] ns = omega arith
closes_append (m ∷ ms) ns = let rest = closes_append ms ns in omega arith

-- moves of which none gives a reference up tell of no death
silent : (script : Script) (t : ObjNo) (ms : List Move) (S : State) → total closing_bit ms ≡ 0 → is_deathless (tell t ms S) ≡ true
silent script t ms S none = (blind-all script t ms S (sym (closes_all ms) ∙ none)).silent

-- so they leave the choice as it was
pub unchosen : (script : Script) (t : ObjNo) (ms : List Move) (old new : State) (before after : Ready)
    (was is : List Effect)
    → total closing_bit ms ≡ 0 → IsPerformed script t ms old new before after was is → new.mode.keep ≡ old.mode.keep
unchosen script t ms old new before after was is none done =
    done.keeps ∙ ap (λ (b : Bool). old.mode.keep && b) (silent script t ms (keeping new.mode.keep old) none) ∙ and-true old.mode.keep

-- no move
pub performed_none : (script : Script) (t : ObjNo) (S : State) (r : Ready) (was : List Effect) → IsPerformed script t [] S S r r was was
performed_none script t S r was = record { state = refl; told = sym (append-nil was); queues = λ qs ready. ready; keeps = sym (and-true S.mode.keep) }

-- and the state is the one that they leave of the old one
pub calm_state : (script : Script) (t : ObjNo) (ms : List Move) (old new : State) (before after : Ready)
    (was is : List Effect)
    → total closing_bit ms ≡ 0 → IsPerformed script t ms old new before after was is → new ≡ perform t ms old
calm_state script t ms old new before after was is none done =
    done.state
    ∙ ap (λ (b : Bool). perform t ms (keeping b old)) (unchosen script t ms old new before after was is none done)

-- moves that were made with one choice come to the same with another, where none of them gives a reference up or both are one
record ComesTo (script : Script) (t : ObjNo) (ms : List Move) (old mid : State) (keep : Bool) : Type 0 where
  pub moves : perform t ms (keeping keep old) ≡ keeping keep mid
  pub tells : tell t ms (keeping keep old) ≡ tell t ms (keeping mid.mode.keep old)
  pub arrives : (qs : List ObjNo) → arrivals script t ms (keeping keep old) qs ≡ arrivals script t ms (keeping mid.mode.keep old) qs

comes_to : (script : Script) (t : ObjNo) (ms : List Move) (old mid : State) (keep : Bool)
    → mid ≡ perform t ms (keeping mid.mode.keep old) → (total closing_bit ms ≡ 0) ⊎ (keep ≡ mid.mode.keep)
    → ComesTo script t ms old mid keep
comes_to script t ms old mid keep is (inl none) =
    let blind = blind-all script t ms old (sym (closes_all ms) ∙ none) in
    record {
      moves = blind.moves keep ∙ sym (ap (keeping keep) (is ∙ blind.moves mid.mode.keep));
      tells = blind.tells keep ∙ sym (blind.tells mid.mode.keep);
      arrives = λ qs. blind.arrives keep qs ∙ sym (blind.arrives mid.mode.keep qs);
    }
comes_to script t ms old mid keep is (inr same) = record {
  moves = ap (λ (b : Bool). perform t ms (keeping b old)) same ∙ sym is ∙ sym (ap (λ (b : Bool). keeping b mid) same);
  tells = ap (λ (b : Bool). tell t ms (keeping b old)) same;
  arrives = λ qs. ap (λ (b : Bool). arrivals script t ms (keeping b old) qs) same;
}

-- of two lists one gives no reference up, where both give one up at most
one_of_two : (a b : ℕ) → a + b ≤ 1 → (a ≡ 0) ⊎ (b ≡ 0)
one_of_two a b few = elim (cases_lt 0 a) as (λ _. (a ≡ 0) ⊎ (b ≡ 0)) [
  | inl some ↦ inr (omega arith)
  | inr none ↦ inl (omega arith)
]

-- moves, and then others
pub performed_then : (script : Script) (t : ObjNo) (ms ns : List Move) (old mid new : State)
    (before between after : Ready) (was es is : List Effect)
    → total closing_bit (ms ++ ns) ≤ 1 → IsPerformed script t ms old mid before between was es
    → IsPerformed script t ns mid new between after es is → IsPerformed script t (ms ++ ns) old new before after was is
performed_then script t ms ns old mid new before between after was es is once first second =
    let keep = new.mode.keep in
    let S = keeping keep old in
    let T = perform t ms S in
    let sum = closes_append ms ns in
    let way : (total closing_bit ms ≡ 0) ⊎ (keep ≡ mid.mode.keep) =
    elim (one_of_two (total closing_bit ms) (total closing_bit ns) (omega arith)) as
    (λ _. (total closing_bit ms ≡ 0) ⊎ (keep ≡ mid.mode.keep)) [
      | inl none ↦ inl none
      | inr none ↦ inr (unchosen script t ns mid new between after es is none second)
    ] in
    let comes = comes_to script t ms old mid keep first.state way in
    let here = sym comes.moves in
    let tells : es ≡ was ++ tell t ms S = first.told ∙ ap (λ (l : List Effect). was ++ l) (sym comes.tells) in
    let deaths : is_deathless (tell t (ms ++ ns) S)
    ≡ (is_deathless (tell t ms (keeping mid.mode.keep old)) && is_deathless (tell t ns (keeping keep mid))) =
    ap is_deathless (tell-both t ms ns S)
    ∙ deathless_both (tell t ms S) (tell t ns T)
    ∙ ap (λ (l : List Effect). is_deathless l && is_deathless (tell t ns T)) comes.tells
    ∙ ap (λ (U : State). is_deathless (tell t ms (keeping mid.mode.keep old)) && is_deathless (tell t ns U))
    comes.moves in
    record {
      state = second.state ∙ (ap (perform t ns) here ∙ sym (perform-append t ms ns S));
      told = second.told ∙ (ap (λ (U : State). es ++ tell t ns U) here ∙ (ap (λ (l : List Effect). l ++ tell t ns T) tells
          ∙ (append_assoc was (tell t ms S) (tell t ns T) ∙ ap (λ (l : List Effect). was ++ l) (sym (tell-both t ms ns S)))));
      queues = λ qs ready.
          let at : arrivals script t ms (keeping mid.mode.keep old) qs ≡ arrivals script t ms S qs = sym (comes.arrives qs) in
          subst (λ (l : List ObjNo). AreReady (priority_of new) l after)
          (ap (λ (l : List ObjNo). arrivals script t ns (keeping keep mid) l) at
          ∙ ap (λ (U : State). arrivals script t ns U (arrivals script t ms S qs)) here
          ∙ sym (arrivals_append script t ms ns S qs))
          (second.queues (arrivals script t ms (keeping mid.mode.keep old) qs) (first.queues qs ready));
      keeps =
          second.keeps
          ∙ ap (λ (b : Bool). b && is_deathless (tell t ns (keeping keep mid))) first.keeps
          ∙ and_assoc old.mode.keep (is_deathless (tell t ms (keeping mid.mode.keep old)))
          (is_deathless (tell t ns (keeping keep mid)))
          ∙ sym (ap (λ (b : Bool). old.mode.keep && b) deaths);
    }

-- the counts are still those of the state, and what threads use is noted still
still_agree : {W N : Type 0} {notes : Notes} (t : ObjNo) (m : Move) (old new : Tables W N)
    → Agrees old.objects.counts (state_of old)
    → RefsMove (chosen_state old new) (moved t m (chosen_state old new)) (told m (chosen_state old new))
    → IsMovedTo notes t m old new → Agrees new.objects.counts (state_of new)
still_agree t m old new agree refs is o =
    let S = chosen_state old new in
    let was = agree o in
    let before : count_of S o ≡ count_of (state_of old) o = refl in
    let counts = is.counts o in
    let counted = refs.each o in
    let same : count_of (state_of new) o ≡ count_of (moved t m S) o = ap (λ (T : State). count_of T o) is.state in
    omega arith

-- a move that gives no reference up is of no object's death
pub none_dead : (m : Move) (S : State) → closing_bit m ≡ 0 → dead_by m S ≡ None
none_dead (Lose h o) S none = absurd (omega arith)
none_dead (Pay (Close h o)) S none = absurd (omega arith)
none_dead (Pay (Sweep o)) S none = refl
none_dead m S none = refl

-- the choice that a move leaves is still open where it tells of no death
keeps_closed : (dying : Bool) (h : Holder) (o : ObjNo) (mode : Mode)
    → (mode_after (if dying then Some o else None) mode).keep
    ≡ (mode.keep && is_deathless (closed_effects dying h o ++ []))
keeps_closed true h o mode = sym (and-false mode.keep)
keeps_closed false h o mode = sym (and-true mode.keep)

keeps_by : (script : Script) (t : ObjNo) (m : Move) (S : State) (mode : Mode)
    → (mode_after (dead_by m S) mode).keep ≡ (mode.keep && is_deathless (told m S ++ []))
keeps_by script t (Lose h o) S mode = keeps_closed (dies S o) h o mode
keeps_by script t (Pay (Close h o)) S mode = keeps_closed (dies S o) h o mode
keeps_by script t (Pay (Sweep o)) S mode = sym (and-true mode.keep)
keeps_by script t m S mode = sym (and-true mode.keep) ∙ sym (ap (λ (b : Bool). mode.keep && b) (silent script t (m ∷ []) S refl))

-- what is told but for a death doesn't ask the choice
alive_same : (m : Move) (keep : Bool) (S : State) → told_alive m (keeping keep S) ≡ told_alive m S
alive_same (Pay (Close h o)) keep S = refl
alive_same m keep S = refl

pub told_both : {W N : Type 0} (m : Move) (old new : Tables W N)
    → told_alive m (state_of old) ++ dead_told (dead_by m (chosen_state old new)) ≡ told m (chosen_state old new)
told_both m old new =
    ap (λ (l : List Effect). l ++ dead_told (dead_by m (chosen_state old new)))
    (sym (alive_same m new.mode.keep (state_of old)))
    ∙ sym (told_dead m (chosen_state old new))

-- one move
pub performed_one : {W N : Type 0} {notes : Notes} (script : Script) (t : ObjNo) (m : Move) (old new : Tables W N)
    (before between after : Ready) (was : List Effect)
    → MoveRuns script t m (chosen_state old new) → IsMovedTo notes t m old new
    → ((rank : ObjNo → ℕ) → Follow rank (taken_out m) before between)
    → Follow (priority_of (state_of new)) (arrive script (state_of new) (touched t m)) between after
    → IsPerformed script t (m ∷ []) (state_of old) (state_of new) before after was
    (was ++ told m (chosen_state old new))
performed_one script t m old new before between after was goes is out follow =
    let S = chosen_state old new in
    record {
      state = is.state;
      told = ap (λ (l : List Effect). was ++ l) (sym (append-nil (told m S)));
      queues = λ qs ready.
          let left = taken_out m qs in
          let ranks : (u : ObjNo) → is_listed left u ≡ true → priority_of (state_of new) u ≡ priority_of S u =
          λ u listed. ap (λ (U : State). priority_of U u) is.state ∙ goes.ranks u (taken_unset m qs u listed) in
          subst (λ (U : State). AreReady (priority_of (state_of new)) (arrive script U (touched t m) left) after) is.state
          (follow left (ranks_same (priority_of S) (priority_of (state_of new)) left between ranks (out (priority_of S) qs ready)));
      keeps = ap (λ (mode : Mode). mode.keep) is.mode ∙ keeps_by script t m S old.mode;
    }

-- a choice leaves the numbers used again or not
reuse_after : (dead : Option ObjNo) (mode : Mode) → (mode_after dead mode).reuse ≡ mode.reuse
reuse_after None mode = refl
reuse_after (Some o) mode = refl

-- what the tables keep beside the rows is kept
pub still_kept : {W N : Type 0} {notes : Notes} (script : Script) (t : ObjNo) (m : Move) (old new : Tables W N)
    → notes.places ≡ old.objects.notes.places → MoveRuns script t m (chosen_state old new) → AreKept old → IsMovedTo notes t m old new → AreKept new
still_kept script t m old new same goes kept is = record {
  counts = still_agree t m old new kept.counts goes.refs is;
  tied = is.tied;
  numbered = subst (λ (U : State). U.serving.messages.accepted < 2147483648) (sym is.state) goes.numbered;
  reuses = is.reuse ∙ kept.reuses ∙ sym (ap (λ (mode : Mode). mode.reuse) is.mode ∙ reuse_after (dead_by m (chosen_state old new)) old.mode);
  placed = λ first.
      let most = kept.placed (sym is.reuse ∙ first) in
      let left = ap (λ (n : Notes). n.places) is.notes in
      omega arith;
}

-- how many objects were made
made_moved : (t : ObjNo) (m : Move) (S : State) → (moved t m S).references.made ≡ S.references.made + making_bit m
made_moved t (Make kind name h) S = omega arith
made_moved t (Pay (Close h o)) S = omega arith
made_moved t _ S = omega arith

pub made_performed : (t : ObjNo) (ms : List Move) (S : State) → (perform t ms S).references.made ≡ S.references.made + total making_bit ms
made_performed t [] S = omega arith
made_performed t (m ∷ ms) S = let first = made_moved t m S in let rest = made_performed t ms (moved t m S) in omega arith

-- a move that makes an object has a number for it
can_room : (t : ObjNo) (m : Move) (S : State) → CanMove t m S → 0 < making_bit m → next_number S.mode.reuse S.references.objects < OBJECTS
can_room t (Make kind name h) S can some = can.2.room
can_room t (Pay (Close h o)) S can some = absurd (omega arith)
can_room t _ S can some = absurd (omega arith)

-- and so a place in the words
place_in : (reuse : Bool) (rows : List (Option ObjectRow)) (made places : ℕ) → (reuse ≡ true → made < places)
    → (reuse ≡ false → OBJECTS ≤ places) → next_number reuse rows < OBJECTS → next_place reuse rows made < places
place_in true rows made places again most room = again refl
place_in false rows made places again most room = let all = most refl in omega arith

-- notes are still of places of objects that were made
pub made-move : (t : ObjNo) (m : Move) (notes : Notes) (S : State) → AreNotesMade notes S → AreNotesMade notes (moved t m S)
made-move t m notes S made p noted = let low = made p noted in let more = made_moved t m S in omega arith

-- and others who are out account for them
pub sought-move : (script : Script) (t : ObjNo) (m : Move) (notes : Notes) (S : State) → MoveRuns script t m S → AreNotesMade notes S
    → AreSoughtBeside t notes S → AreSoughtBeside t notes (moved t m S)
sought-move script t m notes S goes made sought o there noted = by (object_of (moved t m S) o) refl there
  where
    by : (x : Option ObjectRow) → object_of (moved t m S) o ≡ x → IsThere x → (u : ObjNo) × IsSoughtBy (moved t m S) u o × (u.0 ≡ t.0 → ⊥)
    by None at none = absurd (cc)
    by (Some row) at some =
        let place : place_of (object_of (moved t m S) o) ≡ row.place = ap place_of at in
        let of_place : HasNoteOf notes row.place = subst (HasNoteOf notes) place noted in
        let stood = goes.stays o row at (made row.place of_place) in
        let was = sought o stood.0 (subst (HasNoteOf notes) (sym stood.1) of_place) in
        let u = was.0 in
        let out : 0 < seeks o row.place (thread_of S u) = subst (λ (p : ℕ). 0 < seeks o p (thread_of S u)) stood.1 was.1.out in
        let now = goes.out u o row.place was.2 out in (
          u,
          record {
            shared = ap (λ (mode : Mode). mode.shared) (mode-moved S t m) ∙ was.1.shared;
            out = subst (λ (p : ℕ). 0 < seeks o p (thread_of (moved t m S) u)) (sym place) now;
          },
          was.2,
        )

-- the same of tables
pub still_made : {W N : Type 0} (t : ObjNo) (m : Move) (old new : Tables W N) → IsMoved t m old new
    → AreNotesMade old.objects.notes (state_of old) → AreNotesMade new.objects.notes (state_of new)
still_made t m old new is made =
    let S = chosen_state old new in
    subst (AreNotesMade new.objects.notes) (sym is.state)
    (subst (λ (n : Notes). AreNotesMade n (moved t m S)) (sym is.notes) (made-move t m old.objects.notes S made))

pub still_sought : {W N : Type 0} (script : Script) (t : ObjNo) (m : Move) (old new : Tables W N)
    → MoveRuns script t m (chosen_state old new) → IsMoved t m old new → AreNotesMade old.objects.notes (state_of old)
    → AreSoughtBeside t old.objects.notes (state_of old) → AreSoughtBeside t new.objects.notes (state_of new)
still_sought script t m old new goes is made sought =
    let S = chosen_state old new in
    let here : AreSoughtBeside t old.objects.notes S = λ o there noted.
    let was = sought o there noted in (was.0, record { shared = was.1.shared; out = was.1.out }, was.2) in
    subst (AreSoughtBeside t new.objects.notes) (sym is.state)
    (subst (λ (n : Notes). AreSoughtBeside t n (moved t m S)) (sym is.notes) (sought-move script t m old.objects.notes S goes made here))

-- on the way: some of the moves were made, and the rest aren't yet
pub record OnTheWay (script : Script) (t : ObjNo) (ms : List Move) (old : State) (before : Ready) (was : List Effect)
    (rest : List Move) (S : State) (r : Ready) (effects : List Effect) : Type 0 where
  pub made : List Move
  pub performed : IsPerformed script t made old S before r was effects
  pub whole : made ++ rest ≡ ms

-- before the first
pub way_begins : (script : Script) (t : ObjNo) (ms : List Move) (S : State) (r : Ready) (was : List Effect) → OnTheWay script t ms S r was ms S r was
way_begins script t ms S r was = record { made = []; performed = performed_none script t S r was; whole = refl }

-- what the whole list asks, of a move on the way and of the choice that it leaves
module _ (script : Script) (t : ObjNo) (ms : List Move) (old : State) (before : Ready) (was : List Effect) (m : Move)
    (rest : List Move) (S : State) (r : Ready) (effects : List Effect) (once : total closing_bit ms ≤ 1)
    (h : OnTheWay script t ms old before was (m ∷ rest) S r effects) where
  once_here : total closing_bit h.made + (closing_bit m + total closing_bit rest) ≤ 1
  once_here = let all = ap (total closing_bit) h.whole in let sum = closes_append h.made (m ∷ rest) in omega arith

  way_comes : (keep : Bool) → (closing_bit m ≡ 0 → keep ≡ S.mode.keep) → ComesTo script t h.made old S keep
  way_comes keep leaves =
      comes_to script t h.made old S keep h.performed.state
      (elim (cases_lt 0 (closing_bit m)) as (λ _. (total closing_bit h.made ≡ 0) ⊎ (keep ≡ S.mode.keep)) [
        | inl some ↦ inl (let few = once_here in omega arith)
        | inr none ↦ inr (leaves (omega arith))
      ])

  -- it goes through
  pub way_goes : ((keep : Bool) → MovesGo script t ms (keeping keep old)) → (keep : Bool)
      → (closing_bit m ≡ 0 → keep ≡ S.mode.keep) → MoveGoes script t m (keeping keep S)
  way_goes go keep leaves =
      let all = subst (λ (l : List Move). MovesGo script t l (keeping keep old)) (sym h.whole) (go keep) in
      subst (MoveGoes script t m) (way_comes keep leaves).moves (moves_part script t h.made (m ∷ rest) (keeping keep old) all).1.0

  -- there is room for what it tells
  pub way_few : ((keep : Bool) → length was + length (tell t ms (keeping keep old)) ≤ 4) → (keep : Bool)
      → (closing_bit m ≡ 0 → keep ≡ S.mode.keep) → length effects + length (told m (keeping keep S)) ≤ 4
  way_few few keep leaves =
      let comes = way_comes keep leaves in
      let U = keeping keep old in
      let T = perform t h.made U in
      let most = few keep in
      let all : length (tell t h.made U ++ tell t (m ∷ rest) T) ≡ length (tell t ms U) =
      ap length (sym (tell-both t h.made (m ∷ rest) U)) ∙ ap (λ (l : List Move). length (tell t l U)) h.whole in
      let outer = length-append (tell t h.made U) (tell t (m ∷ rest) T) in
      let inner = length-append (told m T) (tell t rest (moved t m T)) in
      let here : length (told m (keeping keep S)) ≡ length (told m T) = ap (λ (V : State). length (told m V)) (sym comes.moves) in
      let so_far : length effects ≡ length (was ++ tell t h.made U) = ap length (h.performed.told ∙ ap (λ (l : List Effect). was ++ l) (sym comes.tells)) in
      let sum = length-append was (tell t h.made U) in
      omega arith

  -- the words have a place for what it makes
  pub way_place : (places : ℕ) → total making_bit ms ≤ 1 → (old.mode.reuse ≡ true → old.references.made < places)
      → (S.mode.reuse ≡ false → OBJECTS ≤ places) → CanMove t m S → 0 < making_bit m
      → next_place S.mode.reuse S.references.objects S.references.made < places
  way_place places makes room most can some =
      let U = keeping S.mode.keep old in
      let all = ap (total making_bit) h.whole in
      let sum = total-append making_bit h.made (m ∷ rest) in
      let came = made_performed t h.made U in
      let now : S.references.made ≡ (perform t h.made U).references.made = ap (λ (V : State). V.references.made) h.performed.state in
      let same : S.mode.reuse ≡ old.mode.reuse =
      ap (λ (V : State). V.mode.reuse) h.performed.state ∙ ap (λ (mode : Mode). mode.reuse) (mode-perform U t h.made) in
      place_in S.mode.reuse S.references.objects S.references.made places
      (λ again. let left = room (sym same ∙ again) in omega arith) most (can_room t m S can some)

  -- where it gives a reference up, nothing is chosen yet
  pub way_may : old.mode.keep ≡ old.mode.shared → closing_bit m ≡ 1 → S.mode.keep ≡ S.mode.shared
  way_may free closes =
      let none : total closing_bit h.made ≡ 0 = let few = once_here in omega arith in
      unchosen script t h.made old S before r was effects none h.performed
      ∙ free
      ∙ sym (ap (λ (U : State). U.mode.shared) h.performed.state
      ∙ ap (λ (mode : Mode). mode.shared) (mode-perform (keeping S.mode.keep old) t h.made))

  -- it is made
  pub way_goes_on : (new : State) (after : Ready) (more : List Effect)
      → IsPerformed script t (m ∷ []) S new r after effects more
      → OnTheWay script t ms old before was rest new after more
  way_goes_on new after more next = record {
    made = h.made ++ m ∷ [];
    performed =
        performed_then script t h.made (m ∷ []) old S new before r after was effects more
        (let few = once_here in let sum = closes_append h.made (m ∷ []) in omega arith) h.performed next;
    whole = append_assoc h.made (m ∷ []) rest ∙ h.whole;
  }

-- the same of several moves on the way, where none of the list gives a reference up
module _ (script : Script) (t : ObjNo) (ms : List Move) (old : State) (before : Ready) (was : List Effect)
    (ns rest : List Move) (S : State) (r : Ready) (effects : List Effect) (none : total closing_bit ms ≡ 0)
    (h : OnTheWay script t ms old before was (ns ++ rest) S r effects) where
  none_made : total closing_bit h.made ≡ 0
  none_made = let all = ap (total closing_bit) h.whole in let sum = closes_append h.made (ns ++ rest) in omega arith

  part_comes : (keep : Bool) → ComesTo script t h.made old S keep
  part_comes keep = comes_to script t h.made old S keep h.performed.state (inl none_made)

  pub part_goes : ((keep : Bool) → MovesGo script t ms (keeping keep old)) → (keep : Bool) → MovesGo script t ns (keeping keep S)
  part_goes go keep =
      let all = subst (λ (l : List Move). MovesGo script t l (keeping keep old)) (sym h.whole) (go keep) in
      let later = (moves_part script t h.made (ns ++ rest) (keeping keep old) all).1 in
      (moves_part script t ns rest (keeping keep S) (subst (MovesGo script t (ns ++ rest)) (part_comes keep).moves later)).0

  pub part_few : ((keep : Bool) → length was + length (tell t ms (keeping keep old)) ≤ 4) → (keep : Bool)
      → length effects + length (tell t ns (keeping keep S)) ≤ 4
  part_few few keep =
      let comes = part_comes keep in
      let U = keeping keep old in
      let T = perform t h.made U in
      let most = few keep in
      let all : length (tell t h.made U ++ tell t (ns ++ rest) T) ≡ length (tell t ms U) =
      ap length (sym (tell-both t h.made (ns ++ rest) U)) ∙ ap (λ (l : List Move). length (tell t l U)) h.whole in
      let outer = length-append (tell t h.made U) (tell t (ns ++ rest) T) in
      let split = ap length (tell-both t ns rest T) in
      let inner = length-append (tell t ns T) (tell t rest (perform t ns T)) in
      let here : length (tell t ns (keeping keep S)) ≡ length (tell t ns T) = ap (λ (V : State). length (tell t ns V)) (sym comes.moves) in
      let so_far : length effects ≡ length (was ++ tell t h.made U) = ap length (h.performed.told ∙ ap (λ (l : List Effect). was ++ l) (sym comes.tells)) in
      let sum = length-append was (tell t h.made U) in
      omega arith

  pub part_goes_on : (new : State) (after : Ready) (more : List Effect)
      → IsPerformed script t ns S new r after effects more → OnTheWay script t ms old before was rest new after more
  part_goes_on new after more next = record {
    made = h.made ++ ns;
    performed =
        performed_then script t h.made ns old S new before r after was effects more
        (let all = ap (total closing_bit) h.whole in let sum = closes_append h.made (ns ++ rest) in
        let part = closes_append ns rest in let here = closes_append h.made ns in omega arith) h.performed next;
    whole = append_assoc h.made ns rest ∙ h.whole;
  }

-- after the last
pub way_ends : (script : Script) (t : ObjNo) (ms : List Move) (old S : State) (before r : Ready)
    (was effects : List Effect)
    → OnTheWay script t ms old before was [] S r effects → IsPerformed script t ms old S before r was effects
way_ends script t ms old S before r was effects h =
    subst (λ (l : List Move). IsPerformed script t l old S before r was effects) (sym (append-nil h.made) ∙ h.whole) h.performed

-- the threads that are left so far, those of the queues, and without those that leave with the rest they are all that are
-- left
pub record Left (rank : ObjNo → ℕ) (script : Script) (S : State) (t : ObjNo) (rest : List Move) (r : Ready) (all : List ObjNo) : Type 0 where
  pub now : List ObjNo
  pub ready : AreReady rank now r
  pub others : leave_along script S t rest now ≡ all

pub left_goes_on : (rank : ObjNo → ℕ) (script : Script) (S : State) (t : ObjNo) (m : Move) (rest : List Move)
    (r after : Ready) (all : List ObjNo)
    → Left rank script S t (m ∷ rest) r all → Follow rank (leave script S (touched t m)) r after
    → Left rank script S t rest after all
left_goes_on rank script S t m rest r after all h follow = record {
  now = leave script S (touched t m) h.now;
  ready = follow h.now h.ready;
  others = h.others;
}

pub left_ends : (rank : ObjNo → ℕ) (script : Script) (S : State) (t : ObjNo) (r : Ready) (all : List ObjNo)
    → Left rank script S t [] r all → AreReady rank all r
left_ends rank script S t r all h = subst (λ (l : List ObjNo). AreReady rank l r) h.others h.ready

-- the item whose turn it is, and the rest
pub next_item : {A : Type 0} (xs : List A) (i : ℕ) (x : A) → i < length xs → x ≡ get_or xs i x → drop i xs ≡ x ∷ drop (i + 1) xs
next_item xs i x inside is = rw (add-one, drop-cons xs i x) (ap (λ y. y ∷ drop (suc i) xs) (sym is))

-- after the last item there is no rest
pub none_left : {A : Type 0} (xs : List A) (i : ℕ) → length xs ≤ i → drop i xs ≡ []
none_left xs i past = drop_of_length-le xs past
