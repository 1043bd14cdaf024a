-- What a history tells of servers and messages is so after each of its entries.
use Rattle.entry_log.specs.declared.entry.Actor.{Actor}
use Rattle.entry_log.specs.declared.entry.Actor.TheVariants.{Idfc, Idle, Irq, Thread, Tick}
use Rattle.entry_log.specs.declared.entry.Entry.{Entry}
use Rattle.machine.specs.Bodies.{decision_by, run_idfc}
use Rattle.machine.specs.Boot.{boot_in, boot_of, born}
use Rattle.machine.specs.Decide.{answer}
use Rattle.machine.specs.History.{entry_by, entry_of, next}
use Rattle.machine_safe.proofs.Done.{IsDone}
use Rattle.machine.specs.Interrupts.{done_by, immediate, immediate_plan, interrupt, supervisor, step_of_move}
use Rattle.machine.specs.Moves.{perform, tell}
use Rattle.machine.specs.References.{total}
use Rattle.machine.specs.Rows.{thread_of}
use Rattle.machine.specs.Tick.{tick}
use Rattle.machine.specs.Transition.{act, idle}
use Rattle.machine.specs.WellFormed.{AreRows}
use Rattle.machine.specs.declared.decision.Decision.{Decision}
use Rattle.machine.specs.declared.plan.Body.TheVariants.{Interrupt}
use Rattle.machine.specs.declared.plan.Plan.{Plan}
use Rattle.machine.specs.declared.plan.Plan.TheVariants.{Runs}
use Rattle.machine.specs.declared.state.State.{State}
use Rattle.machine_laws.proofs.AtBoot.BootServing.{no_session}
use Rattle.machine_laws.proofs.AtBoot.Born.{born_row, each_born}
use Rattle.machine_laws.proofs.Fitting.Bodies.{Goes}
use Rattle.machine_laws.proofs.Fitting.Interrupts.{goes-immediate, goes-interrupt, light-immediate, light-interrupt}
use Rattle.machine_laws.proofs.Fitting.Regular.{IsRegular, IsTame, Kinds, advance_bit, plain}
use Rattle.machine_laws.proofs.Fitting.Tame.{tame-moves}
use Rattle.machine_safe.proofs.Deaths.Rows.{row_bit, stage_live}
use Rattle.machine_safe.proofs.Serving.ServerActions.{Looked, OfEach, SendsOver, calm}
use Rattle.machine_safe.proofs.Serving.ActionMoves.{Doing, doing, doing-by, keeps-doing, lost-doing, quiet-doing}
use Rattle.machine_safe.proofs.Serving.DoomsTold.{doom-among, doom-told}
use Rattle.machine_safe.proofs.Serving.FinishedMessages.{turn-finishes}
use Rattle.machine_safe.proofs.Serving.KeptServers.{changing-none, lost-none, message-none, steps_of, detach-none}
use Rattle.machine_safe.proofs.Serving.OutstandingMessages.{letters-quiet, no-front}
use Rattle.machine_safe.proofs.Serving.SentMessages.{turn-sends}
use Rattle.machine_safe.proofs.Serving.ServerReading.{further, reading, same-entry}
use Rattle.machine_safe.proofs.Serving.ServersAsTold.{served-keeps, served-made, served-same}
use Rattle.machine_safe.proofs.Serving.MadeServers.{turn-makes}
use Rattle.machine_safe.proofs.Serving.JoinedSessions.{turn-joins}
use Rattle.machine_safe.proofs.Serving.StoppedServers.{turn-closes, turn-stops}
use Rattle.machine_safe.proofs.Serving.ActionsTold.{at-instruction, Book, IsTurn, entry_for, turn-keeps, unmade-by, unrenewed, unserving}
use Rattle.machine_safe.specs.CountAfter.{effects_of, is_by}
use Rattle.machine_safe.specs.SafeDeaths.{dooms}
use Rattle.machine_safe.specs.Sent.{instruction_in}
use Rattle.move_laws.proofs.Lists.Contents.{none_contained}
use Rattle.move_laws.proofs.Lists.Copies.{copy_at}
use Rattle.move_laws.proofs.MoveLaws.RowMoves.{silent}
use Rattle.script_types.specs.Shape.{IsShaped}
use Rattle.script_types.specs.declared.script.Script.{Script}
use Rattle.state_rows.specs.Deferred.{next_immediate}
use Rattle.state_rows.specs.ServerRows.{link_of}
use Rattle.state_rows.specs.declared.deferred.Item.{Item}
use Rattle.state_rows.specs.declared.servers.ServerRow.{ServerRow}
use Rattle.state_rows.specs.declared.thread.ThreadRow.{ThreadRow}
use Rattle.std.proofs.Common.{Bool, List, None, Option, Some, [], arith, false, inr, refl, subst, sym, ℕ, ◌++◌, ◌+◌, ◌∷◌, ◌≡◌, ap, ℤ, true}
use Rattle.std.specs.Prelude.{if◌then◌else◌, is_some, slice_get, ◌&&◌, ◌==◌}
use Rattle.sym_base.specs.declared.limits.TheConstants.Limits.{OBJECTS}
use Rattle.sym_base.specs.declared.number.ObjNo.{ObjNo}
use Rattle.entry_log.specs.declared.step.Step.TheVariants as step
use Rattle.state_rows.specs.declared.deferred.Item.TheVariants as item
use Rattle.machine_safe.proofs.Serving.GivingUp.{deed-of}
use Rattle.machine.specs.declared.moves.Move.{Move}
use Rattle.machine_safe.proofs.Serving.SessionSlots.{slotted-keeps}
use Rattle.script_types.specs.declared.declaration.DfcDecl.{DfcDecl}
use Rattle.script_types.specs.declared.declaration.IdfcDecl.{IdfcDecl}
use Rattle.machine.specs.EntryWords.{is_send}
use Rattle.machine_laws.proofs.Fitting.Actions.{regular-action}
use Rattle.machine_safe.proofs.Serving.Connecting.{KeepHandles}

-- such an action ends nobody's instruction
unanswered : (t : ObjNo) (actor : Actor) (ms : List Move) (answer : Option ℤ) (k : ObjNo) → total advance_bit ms ≡ 0
    → is_by k actor ≡ false → steps_of t ms k.0 ≡ (if is_by k actor && is_some answer then 1 else 0) + 0
unanswered t actor ms answer k none nobody = by (t.0 == k.0) (is_by k actor) nobody
  where
    by : (b c : Bool) → c ≡ false → (if b then total advance_bit ms else 0) ≡ (if c && is_some answer then 1 else 0) + 0
    by true false e = none
    by false false e = refl
    by b true e = absurd (cc)

-- an action of which no thread is the actor: it answers nothing, and serves nobody
pub turn-without : (script : Script) (before : List Entry) (S : State) (place : ℕ) (t : ObjNo) (actor : Actor)
    (d : Decision)
    → AreRows script S → Book script before S → ((u : ObjNo) → is_by u actor ≡ false) → d.answer ≡ None
    → is_send d.step ≡ false → IsTame plain 0 d.moves → Doing script S t d.moves
    → IsTurn script before (entry_of place actor (record { step = d.step; effects = tell t d.moves S; answer = d.answer })) (perform t d.moves S)
turn-without script before S place t actor d rows book nobody silent unsent calm does =
    let e = entry_of place actor (record { step = d.step; effects = tell t d.moves S; answer = d.answer }) in
    let fs = tell t d.moves S in
    let k = keeps-doing script S t d.moves does rows (served-made script (reading before) S book.served) (changing-none d.moves (calm.calm refl)) in
    let q = quiet-doing script S t d.moves does (message-none d.moves (calm.calm refl)) in
    let unmade = unmade-by e (λ _. k.unowned (calm.mutexes refl)) in
    record {
      book = record {
        served = served-same script (further (reading before) d.step fs (steps_of t d.moves)) (reading (before ++ e ∷ [])) (perform t d.moves S)
            (same-entry before e (steps_of t d.moves) (λ n. unanswered t actor d.moves d.answer (record { 0 = n }) calm.advances (nobody (record { 0 = n }))))
            (served-keeps script (reading before) S (perform t d.moves S) t d.moves d.step fs book.served k
            (λ v. let a = calm.dooms v in let b = doom-told t d.moves S v in omega arith) (λ v. doom-among t d.moves S v)
            (λ v row there. let most = lost-doing script S t d.moves v does rows in let none = lost-none v d.moves (calm.calm refl) in omega arith)
            (λ _. calm.mutexes refl) (λ v some. let none = detach-none v d.moves (calm.calm refl) in absurd (omega arith)));
        letters = letters-quiet script before S (perform t d.moves S) e book.letters (λ p among. k.unlinked p.session) q
            (λ p among. k.unended p.server) (λ p among. unmade p.server);
        slotted = slotted-keeps script before e S (perform t d.moves S) book.slotted k.unlinked k.slots q.pool;
      };
      lawful = unserving script before e q.accepts q.finishes k.unended (λ sends. absurd (cc)) (unrenewed before e unmade);
    }

-- each thread that is there is live, or was doomed once
abbrev pub IsFated : List Entry → State → Type 0
IsFated before S = (u : ObjNo) (row : ThreadRow) → thread_of S u ≡ Some row → row_bit stage_live (Some row) + dooms (effects_of before) u ≡ 1

module _ (script : Script) (before : List Entry) (S : State) (place : ℕ) (shaped : IsShaped script)
    (rows : AreRows script S) (book : Book script before S) (looked : Looked script before S) (kept : KeepHandles script S)
    (over : SendsOver script S) (fate : IsFated before S) where
  -- an action of a thread
  each-turn : (t : ObjNo)
      → OfEach S t (instruction_in script before t)
      (λ (d : Decision). (k : Kinds) → IsRegular k script S t d → Doing script S t d.moves
      → IsTurn script before (entry_for place t S d) (perform t d.moves S))
  each-turn t = record {
    keeps = λ d is k regular. turn-keeps script before S place t rows book d regular looked over is;
    sends = λ d is k regular does. turn-sends script before S place t rows book looked d regular is does fate;
    finishes = λ d is k regular does. turn-finishes script before S place t rows book d regular is does fate;
    makes = λ d is k regular. turn-makes script before S place t rows book d regular is;
    joins = λ d is k regular. turn-joins script before S place t rows book d regular is;
    closes = λ d is k regular. turn-closes script before S place t rows book d regular is;
    stops = λ d is k regular. turn-stops script before S place t rows book d regular is;
  }

  turn-act : (t : ObjNo) → IsTurn script before (entry_of place (Thread t) (act script S t).outcome) (act script S t).state
  unfolding act
  turn-act t =
      deed-of script S t (instruction_in script before t) _ (each-turn t) shaped rows kept
      (λ row is. at-instruction script before S t row book is) (regular-action script S t shaped rows).0
      (regular-action script S t shaped rows).1 (doing script S t shaped rows)

  turn-done : (actor : Actor) (plan : Plan) → ((u : ObjNo) → is_by u actor ≡ false)
      → (decision_by script supervisor S plan).answer ≡ None
      → is_send (decision_by script supervisor S plan).step ≡ false
      → IsTame plain 0 (decision_by script supervisor S plan).moves
      → Goes script supervisor S (decision_by script supervisor S plan).moves
      → IsTurn script before (entry_of place actor (done_by script S plan).outcome) (done_by script S plan).state
  turn-done actor plan nobody silent unsent calm goes =
      turn-without script before S place supervisor actor
      (decision_by script supervisor S plan) rows book nobody silent unsent calm (doing-by script S plan rows goes)

  turn-interrupt : (k : ℕ) → IsTurn script before (entry_of place (Irq k) (interrupt script S k).outcome) (interrupt script S k).state
  unfolding interrupt
  turn-interrupt k =
      turn-done (Irq k) (Runs (Interrupt k)) (λ u. refl) refl refl (light-interrupt script S k shaped rows).calm
      (goes-interrupt script S k shaped rows)

  silent-plan : (found : Option Item) → (decision_by script supervisor S (immediate_plan script S found)).answer ≡ None
  silent-plan None = refl
  silent-plan (Some (item.Idfc call)) = refl
  silent-plan (Some (item.Move dfc)) = refl

  unsent-idfc : (found : Option IdfcDecl) → is_send (run_idfc found) ≡ false
  unsent-idfc None = refl
  unsent-idfc (Some call) = refl

  unsent-move : (found : Option DfcDecl) → is_send (step_of_move found) ≡ false
  unsent-move None = refl
  unsent-move (Some dfc) = refl

  unsent-plan : (found : Option Item) → is_send (decision_by script supervisor S (immediate_plan script S found)).step ≡ false
  unsent-plan None = refl
  unsent-plan (Some (item.Idfc call)) = unsent-idfc (slice_get script.idfcs call)
  unsent-plan (Some (item.Move dfc)) = unsent-move (slice_get script.dfcs dfc)

  turn-immediate : IsTurn script before (entry_of place Idfc (immediate script S).outcome) (immediate script S).state
  unfolding immediate
  turn-immediate =
      let found = next_immediate S.synchronization.deferred in
      turn-done Idfc (immediate_plan script S found) (λ u. refl) (silent-plan found) (unsent-plan found)
      (light-immediate script S found shaped rows refl).calm (goes-immediate script S found shaped rows refl)

  turn-tick : IsTurn script before (entry_of place Tick (tick S).outcome) (tick S).state
  turn-tick =
      turn-without script before S place supervisor Tick
      (record { step = step.Turn; moves = []; answer = None }) rows book (λ u. refl) refl refl (tame-moves [] refl refl)
      (inr (inr refl))

  turn-idle : IsTurn script before (entry_of place Idle (idle S).outcome) (idle S).state
  turn-idle =
      turn-without script before S place supervisor Idle
      (record { step = step.Wait; moves = []; answer = None }) rows book (λ u. refl) refl refl (tame-moves [] refl refl)
      (inr (inr refl))

  turn-next : (actor : Actor) → IsTurn script before (entry_by script S place actor) (next script S actor)
  turn-next (Thread t) = turn-act t
  turn-next (Irq k) = turn-interrupt k
  turn-next Idfc = turn-immediate
  turn-next Tick = turn-tick
  turn-next Idle = turn-idle

  -- and of whichever actor
  pub turn-entry : (e : Entry) → IsDone script S place e → IsTurn script before e (next script S e.actor)
  turn-entry e here = subst (λ (x : Entry). IsTurn script before x (next script S e.actor)) (sym here.told) (turn-next e.actor)

-- at boot nothing was told
pub book-boot : (shared : Bool) (script : Script) → IsShaped script → Book script [] (boot_in shared script)
unfolding boot_of
book-boot shared script shaped = record {
  served = record {
    rows = λ o row is. let none = copy_at {A = Option ServerRow} None OBJECTS o.0 in absurd (cc);
    links = λ s o is. let none = ap link_of (no_session OBJECTS s) in absurd (cc);
    same = λ s o is. refl;
    ended = λ o row is some. absurd (omega arith);
    over = λ u o some. absurd (omega arith);
    made = λ t o is. absurd (cc);
    told_linked = λ s v row is there alive. absurd (cc);
    places =
        λ k row is. record {
          first = row;
          is = is;
          role = refl;
          place = (born_row script _ (born script) k row (each_born script shaped) is).next_instruction;
        };
  };
  letters = record {
    accepted = refl;
    known = λ p among. absurd (none_contained p among);
    all = λ m a. absurd (no-front a.before a.later a.at a.stands);
    later = λ m above. refl;
    sends = refl;
  };
  slotted = record { sessions = λ s row is. let none = no_session OBJECTS s in absurd (cc); pool = refl; servers = λ s. refl };
}
