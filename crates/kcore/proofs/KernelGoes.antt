-- What a kernel keeps over an action, where one caller calls it alone and where callers share it.
use Rattle.std.proofs.Common.{◌≡◌, ◌∙◌, ℕ, ◌+◌, ◌<◌, ◌≤◌, Bool, true, false, List, [], ◌∷◌, ◌++◌, length, length-append, arith, sym, ap, subst, Option, Some}
use Rattle.std.specs.Prelude.{IfSome, if◌then◌else◌}
use Rattle.sym_base.specs.declared.limits.TheConstants.Limits.{OBJECTS}
use Rattle.sym_base.specs.declared.number.ObjNo.{ObjNo}
use Rattle.script_types.specs.declared.script.Script.{Script}
use Rattle.entry_log.specs.declared.entry.Actor.{Actor}
use Rattle.entry_log.specs.declared.entry.Actor.TheVariants.{Thread, Idle}
use Rattle.entry_log.specs.declared.entry.Entry.{Entry}
use Rattle.ready_list.specs.Ready.{Ready}
use Rattle.ref_words.specs.declared.slip.Slip.{Slip}
use Rattle.ref_words.specs.Words.{without}
use Rattle.machine.specs.declared.state.State.{State}
use Rattle.machine.specs.Arrived.{arrived_in}
use Rattle.machine.specs.Boot.{boot_in, uses_again}
use Rattle.machine.specs.Choice.{priority_of}
use Rattle.machine.specs.History.{after, after_in, choosing, entry_by, next, transition, CanAct, IsIdle, IsShared}
use Rattle.machine.specs.Out.{is_out}
use Rattle.machine.specs.SharedRun.{is_return}
use Rattle.machine_laws.proofs.Reached.Makings.{made-after}
use Rattle.machine_laws.proofs.Reached.Modes.{reuse-after, shared-after}
use Rattle.script_types.specs.Source.{IsWellFormed}
use Rattle.machine_safe.specs.FindsAndReturns.{is_out_actor}
use Rattle.kernel_tables.specs.Choosing.{HasRoom, sharing}
use Rattle.kernel_tables.specs.CoreView.{CoreView}
use Rattle.kernel_tables.specs.ReadyQueues.{AreReady}
use Rattle.table_moves.specs.Notes.{IsNoteOut, Notes, notes_back}
use Rattle.kcore.specs.Acting.{Went}
use Rattle.kcore.specs.Finds.{finder, found_in, note_of}
use Rattle.kcore.specs.KernelMode.{Split, Suits, Whole, mode_of}
use Rattle.kcore.specs.KernelView.{IsKernel, Stands, places_for}
use Rattle.kcore.specs.OneMore.{IsFinder, OneMore, ReturnsBy, SendsOut}
use Rattle.kcore.specs.Outgoing.{AreNone, AreNotes}
use Rattle.kcore.specs.Sending.{MaySend, notes_after, slip_after}
use Rattle.kcore.proofs.Alone.{after_longer, alone_after, no_choice}
use Rattle.kcore.proofs.BothWays.{alone-of, begins-out, follows-of, mode-push, never-empty, notes-out}
use Rattle.kcore.proofs.Goes.{Begins, Follows, begins-alone, follows, tale}
use Rattle.kcore.proofs.NotesOut.{back, notes-taken, return-finds-none}
use Rattle.kcore.proofs.OutKernel.{finder-next, may-send, note-next, notes-next, out-may, was-out}

-- the words have a place for what the next entry makes
pub place-left : (shared : Bool) (script : Script) (history : List Entry) (notes : Notes) (room : ℕ) → IsWellFormed script
    → length history ≤ room → notes.places ≡ places_for script.version room → HasRoom notes (after_in shared script history)
place-left shared script history notes room valid short places again =
    let few = made-after shared script history valid in
    let mode : uses_again script.version ≡ true = sym (reuse-after script (boot_in shared script) history) ∙ again in
    let enough : notes.places ≡ room + 128 = places ∙ ap (λ (b : Bool). if b then room + 128 else OBJECTS) mode in
    omega arith

-- where one caller calls the kernel alone
module _ {W : Type 0} (script : Script) (history : List Entry) (old : CoreView W) (out room capacity : ℕ) {idle : Bool}
    (k : IsKernel script history old out idle room capacity) (suits : Suits false (mode_of old.state.mode.shared history)) where
  pub is-alone : old.state.mode.shared ≡ false
  is-alone = alone-of old.state.mode.shared history k.fresh suits

  pub alone-stands : Stands false script history old
  alone-stands = subst (λ (b : Bool). Stands b script history old) is-alone k.stands

  pub alone-begins : Begins false script history old
  alone-begins = begins-alone script history old alone-stands.valid (follows-of false script history old alone-stands)

  module _ (new : List Entry) (core : CoreView W) (actor : Actor) (can : CanAct script (after script history) actor)
      (went : Went script history new old core actor) where
    pub alone-follows : Follows false script new core
    alone-follows = follows false script history old alone-begins new core actor went can

    pub alone-shared : core.state.mode.shared ≡ false
    alone-shared = ap (λ (S : State). S.mode.shared) alone-follows.state ∙ alone_after script new

    pub alone-mode : mode_of core.state.mode.shared new ≡ Whole
    alone-mode = ap (λ (b : Bool). mode_of b new) alone-shared ∙ (ap (mode_of false) went.longer ∙ mode-push false history went.entry)

    pub alone-entry : new ≡ history ++ entry_by script (after script history) (length history + 1) actor ∷ []
    alone-entry =
        went.longer
        ∙ ap (λ (e : Entry). history ++ e ∷ [])
        (tale false script history old alone-begins new core actor went
        ∙ ap (λ (S : State). entry_by script S (length history + 1) actor) (no_choice script history went.entry))

    -- where nobody acts nobody could, nor can afterwards
    alone-idle : actor ≡ Idle → IsIdle script core.state
    alone-idle rests =
        let acts : went.entry.actor ≡ Idle = ap (λ (e : Entry). e.actor) went.told ∙ rests in
        let same : core.state ≡ after script history =
        alone-follows.state ∙ ap (after script) went.longer ∙ after_longer script history went.entry
        ∙ ap (next script (after script history)) acts in
        subst (IsIdle script) (sym same) (subst (CanAct script (after script history)) rests can)

    pub alone-kernel : (rests : Bool) → (rests ≡ true → actor ≡ Idle) → (more : ℕ) → capacity ≤ more → core.notes ≡ old.notes → length history < room
        → IsKernel script new core out rests room more
    alone-kernel rests nobody more larger notes left = record {
      fits = let fits = k.fits in omega arith;
      few = k.few;
      places = ap (λ (n : Notes). n.places) notes ∙ k.places;
      short = let long = ap length went.longer ∙ length-append history (went.entry ∷ []) in omega arith;
      stands =
          subst (λ (b : Bool). Stands b script new core) (sym alone-shared)
          (record {
            valid = alone-stands.valid;
            legal = alone-follows.legal;
            state = alone-follows.state;
            queues = alone-follows.queues;
            notes = subst AreNone (sym notes) alone-stands.notes;
          });
      counted = k.counted ∙ ap (λ (n : Notes). length n.out) (sym notes);
      rests = λ is. alone-idle (nobody is);
      fresh = λ _. alone-shared;
    }

-- where callers share it, and it is told so
module _ {W : Type 0} (script : Script) (history : List Entry) (old mid : CoreView W) (out room capacity : ℕ) {idle : Bool}
    (k : IsKernel script history old out idle room capacity) (suits : Suits true (mode_of old.state.mode.shared history))
    (state : mid.state ≡ sharing old.state) (ready : mid.ready ≡ old.ready) (notes : mid.notes ≡ old.notes) where
  abbrev S : State
  S = after_in true script history

  pub out-begins : Begins true script history mid
  out-begins = begins-out old.state.mode.shared script history old mid k.stands suits state ready

  pub out-notes : AreNotes history S mid.notes
  out-notes = subst (AreNotes history S) (sym notes) (notes-out old.state.mode.shared script history old k.stands suits)

  module _ (new : List Entry) (core : CoreView W) (actor : Actor) (can : CanAct script S actor) (went : Went script history new mid core actor) where
    pub out-follows : Follows true script new core
    out-follows = follows true script history mid out-begins new core actor went can

    acts : went.entry.actor ≡ actor
    acts = ap (λ (e : Entry). e.actor) went.told

    more : IsShared script (history ++ went.entry ∷ [])
    more = subst (IsShared script) went.longer out-follows.legal

    told : went.entry.effects ≡ (transition script (choosing went.entry S) went.entry.actor).outcome.effects
    told =
        ap (λ (e : Entry). e.effects) (tale true script history mid out-begins new core actor went)
        ∙ ap (λ (a : Actor). (transition script (choosing went.entry S) a).outcome.effects) (sym acts)

    abbrev out-more : OneMore script history new actor
    out-more = record { entry = went.entry; longer = went.longer; told = tale true script history mid out-begins new core actor went }

    out-shared : core.state.mode.shared ≡ true
    out-shared = ap (λ (T : State). T.mode.shared) out-follows.state ∙ shared-after script (boot_in true script) new

    is-split : (b : Bool) → b ≡ true → mode_of b new ≡ Split
    is-split b shared = ap (λ (x : Bool). mode_of x new) shared ∙ (ap (mode_of true) went.longer ∙ mode-push true history went.entry)

    pub out-mode : (last : CoreView W) → last.state ≡ core.state → mode_of last.state.mode.shared new ≡ Split
    out-mode last same = is-split last.state.mode.shared (ap (λ (T : State). T.mode.shared) same ∙ out-shared)

    -- it stands for the longer history, with these notes
    pub out-kernel : (last : CoreView W) (n larger : ℕ) → last.state ≡ core.state → last.ready ≡ core.ready
        → AreNotes new (after_in true script new) last.notes → n ≡ length last.notes.out → last.notes.places ≡ mid.notes.places → capacity ≤ larger
        → length history < room → IsKernel script new last n false room larger
    out-kernel last n larger same_state same_ready are counted same_places more_room left =
        let shared : last.state.mode.shared ≡ true = ap (λ (T : State). T.mode.shared) same_state ∙ out-shared in
        let at : last.state ≡ after_in true script new = same_state ∙ out-follows.state in
        let here : AreReady (priority_of last.state) (arrived_in true script new) core.ready =
        subst (λ (T : State). AreReady (priority_of T) (arrived_in true script new) core.ready)
        (sym same_state) out-follows.queues in
        record {
          fits = let fits = k.fits in omega arith;
          few = k.few;
          places = same_places ∙ ap (λ (n : Notes). n.places) notes ∙ k.places;
          short = let long = ap length went.longer ∙ length-append history (went.entry ∷ []) in omega arith;
          stands = subst (λ (b : Bool). Stands b script new last) (sym shared) (record {
            valid = k.stands.valid;
            legal = out-follows.legal;
            state = at;
            queues = subst (λ (r : Ready). AreReady (priority_of last.state) (arrived_in true script new) r) (sym same_ready) here;
            notes = subst (λ (T : State). AreNotes new T last.notes) (sym at) are;
          });
          counted = counted;
          rests = λ is. absurd (cc);
          fresh = λ none. absurd (never-empty history went.entry (sym went.longer ∙ none));
        }

    -- an actor that isn't out
    module _ (stays : is_out_actor S actor ≡ false) (kept : core.notes ≡ mid.notes) where
      stays-there : is_out_actor S went.entry.actor ≡ false
      stays-there = ap (is_out_actor S) acts ∙ stays

      pub out-may-send : length history < 131072 → (found : Option ObjNo) → found ≡ found_in went.entry.effects
          → IfSome found (λ o. MaySend core.notes core.state o)
      out-may-send short found is =
          let here = may-send script history went.entry k.stands.valid out-begins.legal more told mid.notes out-notes stays-there short found is in
          let there = subst (λ (es : List Entry). IfSome found (λ o. MaySend mid.notes (after_in true script es) o)) (sym went.longer) here in
          let same = subst (λ (T : State). IfSome found (λ o. MaySend mid.notes T o)) (sym out-follows.state) there in
          subst (λ (n : Notes). IfSome found (λ o. MaySend n core.state o)) (sym kept) same

      pub out-notes-next : (found : Option ObjNo) → found ≡ found_in went.entry.effects
          → AreNotes new (after_in true script new) (notes_after (slip_after core.state found core.notes) core.notes)
      out-notes-next found is =
          let here = notes-next script history went.entry k.stands.valid out-begins.legal more told mid.notes out-notes stays-there found is in
          let there = subst (λ (es : List Entry). AreNotes es (after_in true script es)
          (notes_after (slip_after (after_in true script es) found mid.notes) mid.notes)) (sym went.longer) here in
          subst (λ (T : State). AreNotes new (after_in true script new) (notes_after (slip_after T found core.notes) core.notes)) (sym out-follows.state)
          (subst (λ (n : Notes). AreNotes new (after_in true script new) (notes_after (slip_after (after_in true script new) found n) n)) (sym kept) there)

      pub out-sends : (found : Option ObjNo) (sent : Option Slip) → found ≡ found_in went.entry.effects → sent
          ≡ slip_after core.state found core.notes → SendsOut script history new actor sent
      out-sends found sent is slip =
          let T : State = after_in true script (history ++ went.entry ∷ []) in
          let same : core.state ≡ T = out-follows.state ∙ ap (after_in true script) went.longer in
          let slips : sent ≡ slip_after T found mid.notes = slip ∙ ap (slip_after core.state found) kept
          ∙ ap (λ (U : State). slip_after U found mid.notes) same in
          let note = note-next script history went.entry k.stands.valid out-begins.legal more told mid.notes out-notes stays-there found is in
          let finder = finder-next script history went.entry k.stands.valid out-begins.legal more told mid.notes out-notes stays-there found is in
          record {
            more = out-more;
            forth = back script history went.entry k.stands.valid out-begins.legal more ∙ stays-there;
            note = slips ∙ (note ∙ ap (λ (es : List Entry). note_of (after_in true script es) es went.entry.effects) (sym went.longer));
            finder =
                subst (λ (s : Option Slip). IfSome s (IsFinder new actor)) (sym slips)
                (subst (λ (a : Actor). IfSome (slip_after T found mid.notes) (IsFinder new a)) acts
                (subst (λ (es : List Entry). IfSome (slip_after T found mid.notes) (IsFinder es went.entry.actor))
                (sym went.longer) finder));
          }

  -- a thread that comes back with its note
  module _ (new : List Entry) (core : CoreView W) (s : Slip) (t : ObjNo) (noted : IsNoteOut mid.notes s)
      (its : finder s.number history ≡ Some t) (went : Went script history new mid core (Thread t)) where
    pub back-out : is_out S t ≡ true
    back-out = was-out script history mid.notes s t out-notes its noted

    pub back-can : CanAct script S (Thread t)
    back-can = out-may script S t back-out

    back-acts : went.entry.actor ≡ Thread t
    back-acts = ap (λ (e : Entry). e.actor) went.told

    back-more : IsShared script (history ++ went.entry ∷ [])
    back-more = subst (IsShared script) went.longer (out-follows new core (Thread t) back-can went).legal

    returns : is_return went.entry.step ≡ true
    returns = back script history went.entry k.stands.valid out-begins.legal back-more ∙ (ap (is_out_actor S) back-acts ∙ back-out)

    pub back-returns : ReturnsBy script history new t
    back-returns = record { more = out-more new core (Thread t) back-can went; back = returns }

    pub back-notes : length (without s mid.notes.out) + 1 ≡ length mid.notes.out → AreNotes new (after_in true script new) (notes_back s mid.notes)
    back-notes fewer =
        let none = return-finds-none script history went.entry k.stands.valid out-begins.legal back-more returns in
        let here = notes-taken script history went.entry k.stands.valid out-begins.legal back-more mid.notes s t back-acts none noted its fewer out-notes in
        subst (λ (es : List Entry). AreNotes es (after_in true script es) (notes_back s mid.notes)) (sym went.longer) here
