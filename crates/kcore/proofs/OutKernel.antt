-- A kernel that callers share: what its actions ask, and what they leave.
use Rattle.std.proofs.Common.{◌≡◌, ◌∙◌, ℕ, ◌<◌, ◌≤◌, Bool, true, false, List, [], ◌∷◌, ◌++◌, length, length-append, inl, inr, arith, refl, sym, ap, subst, Option, Some, None}
use Rattle.std.specs.Prelude.{◌&&◌, ◌||◌, ◌==◌, IfSome, IsTrue, option_map, is_some}
use Rattle.std.specs.List.{list_any}
use Rattle.sym_base.specs.declared.number.ObjNo.{ObjNo}
use Rattle.sym_base.specs.declared.word.Word.TheVariants as word
use Rattle.script_types.specs.declared.instruction.Instr.{Instr}
use Rattle.script_types.specs.declared.instruction.Instr.TheVariants as instr
use Rattle.script_types.specs.declared.script.Script.{Script}
use Rattle.script_types.specs.declared.script.Slot.{Slot}
use Rattle.script_types.specs.declared.script.Slot.TheVariants as slot
use Rattle.script_types.specs.Shape.{IsShaped}
use Rattle.script_types.specs.Source.{IsWellFormed}
use Rattle.script_types.proofs.ShapeLaws.{formed_is_shaped}
use Rattle.entry_log.specs.declared.effect.Effect.{Effect}
use Rattle.entry_log.specs.declared.entry.Actor.{Actor}
use Rattle.entry_log.specs.declared.entry.Actor.TheVariants.{Thread, Irq, Idfc, Tick, Idle}
use Rattle.entry_log.specs.declared.entry.Entry.{Entry}
use Rattle.entry_log.specs.declared.step.Part.TheVariants as part
use Rattle.objects.specs.Rows.{is_alive}
use Rattle.ref_words.specs.declared.slip.Slip.{Slip}
use Rattle.ref_words.specs.Words.{same_slip}
use Rattle.state_rows.specs.declared.object.ObjectRow.{ObjectRow}
use Rattle.state_rows.specs.declared.thread.ThreadRow.{ThreadRow}
use Rattle.machine.specs.declared.moves.Move.{Move}
use Rattle.machine.specs.declared.moves.Move.TheVariants.{Find}
use Rattle.machine.specs.declared.state.State.{State}
use Rattle.machine.specs.Boot.{boot_in}
use Rattle.machine.specs.Fits.{ComesBack, EachFits}
use Rattle.machine.specs.History.{after_in, choosing, keeping, transition, CanAct, IsShared}
use Rattle.machine.specs.Moves.{moved, perform}
use Rattle.machine.specs.Out.{is_out, is_returning, part_of}
use Rattle.machine.specs.References.{count_of}
use Rattle.machine.specs.Run.{slot_actor}
use Rattle.machine.specs.Rows.{object_of, thread_of}
use Rattle.machine.specs.Steps.{decision_of, decision_of_row, decision_where, return_of}
use Rattle.machine.specs.Task.{instruction, is_able, task_of, task_of_row}
use Rattle.machine.specs.Told.{finds}
use Rattle.machine.specs.Transition.{act}
use Rattle.machine.specs.WellFormed.{AreRows, IsAlive, IsWellFormed as IsWellFormedState}
use Rattle.move_laws.proofs.Numbers.CountSmall.{count_small}
use Rattle.machine_laws.proofs.Fitting.Actions.{fits-action}
use Rattle.machine_laws.proofs.Fitting.Regular.{finds_by_name}
use Rattle.machine_laws.proofs.Reached.AfterHistory.{rows-keeping, well_formed-after}
use Rattle.machine_laws.proofs.Reached.Histories.{after-push}
use Rattle.machine_laws.proofs.Reached.Modes.{shared-after}
use Rattle.machine_laws.proofs.Sharing.Parts.{able-back, of-chosen}
use Rattle.machine_safe.specs.FindsAndReturns.{is_out_actor}
use Rattle.machine_safe.proofs.Finders.Actions.{AtFinds, finding, out-on, return-first}
use Rattle.machine_safe.proofs.Finders.Dormant.{finds-tell}
use Rattle.machine_safe.proofs.Finders.Runs.{stands-rest}
use Rattle.machine_safe.proofs.LegalReferences.{stands-boot}
use Rattle.state_rows.specs.ObjectRows.{place_of}
use Rattle.table_moves.specs.Notes.{HasNoteOf, IsNoteOut, Notes, notes_back}
use Rattle.table_moves.specs.ObjectsView.{IsThere}
use Rattle.kernel_tables.specs.Choosing.{AreNotesMade, AreSoughtBeside, HasRoom, MayChoose}
use Rattle.kernel_tables.specs.CoreView.{CoreView}
use Rattle.kernel_tables.specs.Moved.{MovesRun}
use Rattle.kernel_tables.proofs.GoingActions.{action_runs}
use Rattle.kcore.specs.Acting.{acting}
use Rattle.kcore.specs.Finds.{finder, finders, finders_by, found_in, note_of}
use Rattle.kcore.specs.OneMore.{IsFinder}
use Rattle.kcore.specs.Outgoing.{AreNone, AreNotes}
use Rattle.kcore.specs.Sending.{MayComeBack, MaySend, ReturnsTo, notes_after, slip_after}
use Rattle.kcore.proofs.Alone.{alone_after}
use Rattle.kcore.proofs.FindsOnce.{found-some}
use Rattle.kcore.proofs.Goes.{Begins}
use Rattle.kcore.proofs.NotesOut.{append-none, away-found, find, finder-sent, note-out, notes-kept, notes-sent, out-of}
use Rattle.kcore.proofs.Sought.{back-made, few-away, notes-made, sought, sought-back}

-- who is out is asked of no choice
pub out-keeping : (S : State) (keep : Bool) (actor : Actor) → is_out_actor (keeping keep S) actor ≡ is_out_actor S actor
out-keeping S keep (Thread t) = refl
out-keeping S keep (Irq k) = refl
out-keeping S keep Idfc = refl
out-keeping S keep Tick = refl
out-keeping S keep Idle = refl

-- whoever is out may act
or-true : (b : Bool) → (b || true) ≡ true
or-true true = refl
or-true false = refl

pub out-may : (script : Script) (S : State) (t : ObjNo) → is_out S t ≡ true → CanAct script S (Thread t)
out-may script S t out = ap (λ (b : Bool). is_able script S t || b) out ∙ or-true (is_able script S t)

-- nobody is out whom a slot lets act, or who is able
pub able-apart : (script : Script) (S : State) (t : ObjNo) → S.mode.shared ≡ true → is_able script S t ≡ true → is_out S t ≡ false
able-apart script S t shared able = ap (λ (s : Bool). s && is_returning (part_of (thread_of S t))) shared ∙ able-back script S t shared able

pub slot-apart : (script : Script) (S : State) (qs : List ObjNo) (s : Slot) → S.mode.shared ≡ true
    → IsWellFormedState script S qs → is_out_actor S (slot_actor S qs s) ≡ false
slot-apart script S qs slot.Go shared formed =
    of-chosen script S qs (λ (actor : Actor). is_out_actor S actor ≡ false) formed refl refl
    (λ u able. able-apart script S u shared able)
slot-apart script S qs (slot.Irq k) shared formed = refl
slot-apart script S qs slot.Tick shared formed = refl

-- what asks for the choice, in a core in which an action begins
pub may-in : {W : Type 0} (script : Script) (history : List Entry) (core : CoreView W) (t : ObjNo) (notes : Notes)
    → Begins true script history core → HasRoom notes (after_in true script history)
    → AreNotesMade notes (after_in true script history)
    → AreSoughtBeside t notes (after_in true script history) → MayChoose t notes core.state
may-in script history core t notes h room made beside =
    let S = after_in true script history in
    let shared : S.mode.shared ≡ true = shared-after script (boot_in true script) history in
    record {
      unchosen = ap (λ (T : State). T.mode.keep) h.state ∙ sym (ap (λ (T : State). T.mode.shared) h.state ∙ shared);
      room = subst (HasRoom notes) (sym h.state) room;
      made = subst (AreNotesMade notes) (sym h.state) made;
      sought = subst (AreSoughtBeside t notes) (sym h.state) (λ o there has.
          let was = beside o there has in (was.0, record { shared = was.1.shared; out = was.1.out }, was.2));
    }

pub may-shared : {W : Type 0} (script : Script) (history : List Entry) (core : CoreView W) (notes : Notes)
    (actor : Actor)
    → Begins true script history core → HasRoom notes (after_in true script history)
    → AreNotes history (after_in true script history) notes
    → is_out_actor (after_in true script history) actor ≡ false → MayChoose (acting actor) notes core.state
may-shared script history core notes actor h room are stays =
    may-in script history core (acting actor) notes h room (notes-made script history h.valid h.legal notes are)
    (sought script history h.valid h.legal notes actor are stays)

-- no note is out where there is none
no-note : (notes : Notes) → AreNone notes → (p : ℕ) → HasNoteOf notes p → ⊥
no-note notes none p has =
    let clash : IsTrue (list_any (λ (s : Slip). s.place == p) []) = subst (λ (l : List Slip). IsTrue (list_any (λ s. s.place == p) l)) none.out has in
    cc

pub may-alone : {W : Type 0} (script : Script) (history : List Entry) (core : CoreView W) (notes : Notes) (t : ObjNo)
    → Begins false script history core → HasRoom notes core.state → AreNone notes → MayChoose t notes core.state
may-alone script history core notes t h room none = record {
  unchosen = ap (λ (T : State). T.mode.keep) h.state ∙ sym (ap (λ (T : State). T.mode.shared) h.state ∙ alone_after script history);
  room = room;
  made = λ p has. absurd (no-note notes none p has);
  sought = λ o there has. absurd (no-note notes none (place_of (object_of core.state o)) has);
}

-- whoever is out returns next
at-after : (script : Script) (history : List Entry) → IsWellFormed script → IsShared script history → AtFinds script (after_in true script history)
at-after script history valid legal =
    (stands-rest script (formed_is_shaped script valid) (boot_in true script) 1 history []
    (stands-boot true script (history ++ []) valid (subst (IsShared script) (sym (append-none history)) legal))).1.at

returns-by : (script : Script) (S : State) (t o : ObjNo) (back : ComesBack S t o) (i : Instr)
    → finds_by_name (Some i) ≡ true → decision_of script S t ≡ return_of S t back.row i → ReturnsTo script S t back.row.sought_place
returns-by script S t o back (instr.Open kind name x) by_name is =
    record { found = o; back = back; sought = refl; word = word.Open; part = part.Do; decides = is }
returns-by script S t o back (instr.Connect name slots x) by_name is =
    record { found = o; back = back; sought = refl; word = word.Connect; part = part.Make; decides = is }
returns-by script S t o back i by_name is = absurd (cc)

returns-to : (script : Script) (S : State) (t o : ObjNo) → AtFinds script S → is_out S t ≡ true
    → (back : ComesBack S t o) → ReturnsTo script S t back.row.sought_place
returns-to script S t o at out back = by (instruction script back.row) refl
  where
    by : (x : Option Instr) → instruction script back.row ≡ x → ReturnsTo script S t back.row.sought_place
    by None e = let found = at t back.row back.is back.returns in let none = ap finds_by_name e in absurd (cc)
    by (Some i) e =
        let acts : decision_of script S t ≡ decision_of_row script S t (thread_of S t) (task_of script S t) =
        ap (λ (b : Bool). decision_where script b S t (task_of script S t)) (out-may script S t out) in
        let there : decision_of_row script S t (thread_of S t) (task_of script S t)
        ≡ decision_of_row script S t (Some back.row) (task_of_row script S t (Some back.row)) =
        ap (λ (x : Option ThreadRow). decision_of_row script S t x (task_of_row script S t x)) back.is in
        returns-by script S t o back i (sym (ap finds_by_name e) ∙ at t back.row back.is back.returns)
        (acts ∙ (there ∙ return-first script S t back.row (is_returning back.row.part)
        (instruction script back.row) _ i back.returns e))

-- so a thread comes back with its note
pub may-come : {W : Type 0} (script : Script) (history : List Entry) (core : CoreView W) (notes : Notes) (s : Slip)
    (t : ObjNo)
    → Begins true script history core → HasRoom notes (after_in true script history)
    → AreNotes history (after_in true script history) notes
    → finder s.number history ≡ Some t → MayComeBack script s t notes core.state
may-come script history core notes s t h room are its =
    let S = after_in true script history in
    let shared : S.mode.shared ≡ true = shared-after script (boot_in true script) history in
    record {
      out = λ noted.
          let on = note-out history S notes s t are noted its in
          let o = on.0 in
          let row = out-on S t o s.place on.1 in
          let T = keeping true S in
          let back : ComesBack T t o = record { row = row.row; is = row.is; returns = row.returns; found = row.found } in
          subst (λ (U : State). ReturnsTo script U t s.place) (sym h.state)
          (subst (ReturnsTo script T t) row.sought
          (returns-to script T t o (at-after script history h.valid h.legal) (out-of S t o s.place shared on.1) back));
      rest = λ noted. may-in script history core t (notes_back s notes) h room (back-made script history h.valid h.legal notes s are)
          (sought-back script history h.valid h.legal notes s t are noted its);
    }

pub was-out : (script : Script) (history : List Entry) (notes : Notes) (s : Slip) (t : ObjNo)
    → AreNotes history (after_in true script history) notes → finder s.number history ≡ Some t → IsNoteOut notes s
    → is_out (after_in true script history) t ≡ true
was-out script history notes s t are its noted =
    let on = note-out history (after_in true script history) notes s t are noted its in
    out-of (after_in true script history) t on.0 s.place (shared-after script (boot_in true script) history) on.1

-- a note that is out is one at least
pub one-noted : (out : List Slip) (s : Slip) → IsTrue (list_any (λ other. same_slip other s) out) → 1 ≤ length out
one-noted [] s noted = absurd (cc)
one-noted (x ∷ xs) s noted = omega arith

-- there are no more finds than entries
finders-one : (actor : Actor) (found : Option ObjNo) → length (finders_by actor found) ≤ 1
finders-one (Thread t) (Some o) = omega arith
finders-one actor found = omega arith

pub finders-few : (history : List Entry) → length (finders history) ≤ length history
finders-few [] = omega arith
finders-few (e ∷ es) =
    let rest = finders-few es in
    let one = finders-one e.actor (found_in e.effects) in
    let sum = length-append (finders_by e.actor (found_in e.effects)) (finders es) in
    omega arith

-- an object that is there is told so
some-there : (row : Option ObjectRow) → is_some row ≡ true → IsThere row
some-there None some = absurd (cc)
some-there (Some row) some = refl

-- what has no reference isn't alive, if whatever is alive has one
not-alive : (row : Option ObjectRow) (n : ℕ) → (IsAlive row → 0 < n) → n ≡ 0 → is_alive row ≡ false
not-alive None n counted none = refl
not-alive (Some row) n counted none = by row.dead refl
  where
    by : (dead : Bool) → row.dead ≡ dead → is_alive (Some row) ≡ false
    by true e = rw e refl
    by false e = let some = counted e in absurd (omega arith)

-- a note of what was found, with a number
abbrev named : State → ℕ → Option ObjNo → Option Slip
named S n x = option_map (λ (o : ObjNo). record { place = place_of (object_of S o); number = n }) x

module _ (script : Script) (history : List Entry) (e : Entry) (valid : IsWellFormed script)
    (legal : IsShared script history) (more : IsShared script (history ++ e ∷ []))
    (told : e.effects ≡ (transition script (choosing e (after_in true script history)) e.actor).outcome.effects)
    (notes : Notes) (are : AreNotes history (after_in true script history) notes)
    (stays : is_out_actor (after_in true script history) e.actor ≡ false) where
  abbrev S : State
  S = after_in true script history

  abbrev X : State
  X = choosing e S

  abbrev T : State
  T = after_in true script (history ++ e ∷ [])

  shaped : IsShaped script
  shaped = formed_is_shaped script valid

  rows : AreRows script X
  rows = rows-keeping script S _ (well_formed-after true script history valid).rows

  -- what the find of a thread leaves
  record Found (o : ObjNo) : Type 0 where
    pub there : IsThere (object_of T o)
    pub place : place_of (object_of T o) ≡ place_of (object_of S o)
    pub known : count_of T o ≡ 0 → is_alive (object_of T o) ≡ false

  found-by : (t o : ObjNo) → e.actor ≡ Thread t → 0 < finds (act script X t).outcome.effects o → Found o
  unfolding act
  found-by t o acts some =
      let d = decision_of script X t in
      let bits = finds-tell t d.moves X o in
      let f = finding script X t shaped rows o (omega arith) in
      let Y = moved t (Find t o) X in
      let left : T ≡ Y = after-push true script history e
      ∙ (ap (λ (a : Actor). (transition script X a).state) acts ∙ ap (λ (ms : List Move). perform t ms X) f.moves) in
      let runs : MovesRun script t (Find t o ∷ []) X = subst (λ (ms : List Move). MovesRun script t ms X) f.moves (action_runs script X t shaped rows) in
      let refs = runs.0.refs.each o in
      let there : IsThere (object_of X o) = elim (fits-action script X t shaped rows) as (λ _. IsThere (object_of X o)) [
        | inl fits ↦ (let each = subst (λ (ms : List Move). EachFits script t ms X) f.moves fits.each in some-there (object_of X o) each.0.0.object)
        | inr pays ↦ (let clash = sym f.moves ∙ pays.moves in absurd (cc))
      ] in
      record {
        there = subst (λ (U : State). IsThere (object_of U o)) (sym left) there;
        place = ap (λ (U : State). place_of (object_of U o)) left;
        known =
            subst (λ (U : State). count_of U o ≡ 0 → is_alive (object_of U o) ≡ false) (sym left)
            (λ none. not-alive (object_of X o) (count_of X o) f.counted (omega arith));
      }

  found-next : (o : ObjNo) → found_in e.effects ≡ Some o → Found o
  found-next o is =
      let f = find script history e valid legal more o is in
      let some = found-some e.effects o is in
      let acts : e.effects ≡ (act script X f.thread).outcome.effects = told ∙ ap (λ (a : Actor). (transition script X a).outcome.effects) f.acts in
      found-by f.thread o f.acts (subst (λ (l : List Effect). 0 < finds l o) acts some)

  -- a note may be sent out of what was found
  may-send-one : (o : ObjNo) → length history < 131072 → found_in e.effects ≡ Some o → MaySend notes T o
  may-send-one o short is =
      let found = found-next o is in
      let out = away-found script history e valid legal more o is stays in
      let few = few-away script (history ++ e ∷ []) valid more in
      let many = are.many in
      let made = are.made in
      let finds_few = finders-few history in
      record {
        there = found.there;
        known = found.known;
        small = count_small script T (well_formed-after true script (history ++ e ∷ []) valid).rows o;
        few_out = omega arith;
        few_made = omega arith;
      }

  pub may-send : length history < 131072 → (found : Option ObjNo) → found ≡ found_in e.effects → IfSome found (λ o. MaySend notes T o)
  may-send short None is = tt
  may-send short (Some o) is = may-send-one o short (sym is)

  -- the notes behind the entry
  pub notes-next : (found : Option ObjNo) → found ≡ found_in e.effects → AreNotes (history ++ e ∷ []) T (notes_after (slip_after T found notes) notes)
  notes-next None is = notes-kept script history e valid legal more notes (sym is) stays are
  notes-next (Some o) is = notes-sent script history e valid legal more notes o (place_of (object_of T o)) (sym is) (found-next o (sym is)).place stays are

  -- the note that went out is that of the entry's find
  pub note-next : (found : Option ObjNo) → found ≡ found_in e.effects → slip_after T found notes ≡ note_of T (history ++ e ∷ []) e.effects
  note-next found is = by found is (notes-next found is)
    where
      by : (x : Option ObjNo) → x ≡ found_in e.effects
          → AreNotes (history ++ e ∷ []) T (notes_after (slip_after T x notes) notes) → slip_after T x notes
          ≡ note_of T (history ++ e ∷ []) e.effects
      by None is h = ap (named T (length (finders (history ++ e ∷ [])))) is
      by (Some o) is h = ap (λ (n : ℕ). named T n (Some o)) h.made ∙ ap (named T (length (finders (history ++ e ∷ [])))) is

  pub finder-next : (found : Option ObjNo) → found ≡ found_in e.effects → IfSome (slip_after T found notes) (IsFinder (history ++ e ∷ []) e.actor)
  finder-next None is = tt
  finder-next (Some o) is = finder-sent script history e valid legal more notes o (place_of (object_of T o)) (sym is) are
