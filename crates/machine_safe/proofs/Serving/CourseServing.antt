-- What each way in which steps that send, receive and copy decide comes to.
use Rattle.machine_safe.proofs.Serving.Course.{IsMet, Met, asks}
use Rattle.machine_safe.proofs.Serving.Proper.{AreProper, IsTaking, MayHave, posted, proper-any, proper-then, receiving, stepping}
use Rattle.machine_safe.proofs.Serving.ProperLists.{handle-holder, made-in-thread, open-accepts, proper-wake}
use Rattle.machine_safe.proofs.Serving.ProperGiving.{proper-finish}
use Rattle.machine.specs.declared.moves.Move.TheVariants.{Advance}
use Rattle.std.proofs.Common.{[]}
use Rattle.machine.specs.Messaging.{finish, wake_receiver}
use Rattle.machine_safe.proofs.Serving.Course.{has_step, uses_at, unused, pending, serverless, unkept, empty, Course, answers, idles, goes}
use Rattle.sym_base.specs.declared.error.Error.TheVariants.{InUse}
use Rattle.state_rows.specs.MessageChanges.{next_of}
use Rattle.sym_base.specs.declared.word.Word.TheVariants as word
use Rattle.state_rows.specs.declared.thread.Waiting.TheVariants as waiting
use Rattle.machine_safe.proofs.Serving.LaterSteps.{part-after}
use Rattle.std.proofs.Common.{Bool, List, None, Option, Some, ap, arith, false, inl, inr, refl, subst, sym, true, ℕ, ℤ, ◌∙◌, ◌∷◌, ◌≡◌}
use Rattle.std.specs.Prelude.{if◌then◌else◌, is_some, pos, ◌&&◌}
use Rattle.script_types.specs.declared.instruction.Instr.{Instr}
use Rattle.script_types.specs.declared.script.Script.{Script}
use Rattle.machine.specs.declared.state.State.{State}
use Rattle.state_rows.specs.declared.thread.ThreadRow.{ThreadRow}
use Rattle.sym_base.specs.declared.number.ObjNo.{ObjNo}
use Rattle.entry_log.specs.declared.step.Part.{Part}
use Rattle.script_types.specs.declared.instruction.Instr.TheVariants as instr
use Rattle.entry_log.specs.declared.step.Part.TheVariants as part
use Rattle.machine.specs.WellFormed.{AreRows}
use Rattle.machine.specs.Rows.{thread_of}
use Rattle.machine.specs.declared.decision.Decision.{Decision}
use Rattle.machine_laws.proofs.Fitting.Regular.{acts, Kinds, plain, going_bit}
use Rattle.sym_base.specs.declared.word.Word.{Word}
use Rattle.machine.specs.Moves.{moved, with_part, with_waiting, perform, next_object, no_number_left}
use Rattle.machine_laws.proofs.Fitting.Actions.{FitsAction}
use Rattle.machine.specs.declared.moves.Move.{Move}
use Rattle.sym_base.specs.declared.kind.Kind.TheVariants as kind
use Rattle.machine.specs.Handles.{thread_handle}
use Rattle.machine_safe.proofs.Serving.OtherThreads.{carries-each}
use Rattle.machine.specs.References.{total}
use Rattle.machine.specs.declared.handles.NewHandle.{NewHandle}
use Rattle.move_laws.proofs.Lists.Cases.{if_cases}
use Rattle.state_rows.specs.Nano.{held_by}
use Rattle.state_rows.specs.ServerRows.{server_at, owner_of}
use Rattle.state_rows.specs.declared.servers.ServerRow.{ServerRow}
use Rattle.entry_log.specs.declared.step.Step.TheVariants.{Of}
use Rattle.state_rows.specs.Requests.{is_pending, reply_of}
use Rattle.machine.specs.SessionCalls.{send_to, send_do, call_to, call_do, make_session, connect_to, connect_make, send_connect, connect_send, connect_done, session_made}
use Rattle.state_rows.specs.MessageRows.{is_full}
use Rattle.machine.specs.Messaging.{slots_of, open_server, server_to_open}
use Rattle.machine_safe.proofs.Serving.SendingSteps.{to-open-is}
use Rattle.sym_base.specs.declared.kind.Arg.{Arg}
use Rattle.script_types.specs.declared.instruction.Args.{Args}
use Rattle.machine.specs.Fits.{EachFits}
use Rattle.machine_laws.proofs.Fitting.SentMessages.{tame-wake}
use Rattle.sym_base.specs.declared.number.MsgNo.{MsgNo}
use Rattle.machine.specs.ServerCalls.{receive_next, receive_do, receive_came, receive_done}
use Rattle.machine.specs.declared.moves.Move.TheVariants.{GoOn, Wait}
use Rattle.sym_base.specs.declared.kind.Slots.{Slots}
use Rattle.std.specs.Ordering.{int_eq}
use Rattle.state_rows.specs.declared.messages.Message.{Message}
use Rattle.copy_rules.specs.declared.job.CopyMove.{CopyMove}
use Rattle.copy_rules.specs.declared.job.Piece.{Piece}
use Rattle.copy_rules.specs.declared.job.Piece.TheVariants as piece
use Rattle.machine.specs.Copying.{copy_piece, read_from, write_from}
use Rattle.machine.specs.ServerCalls.{complete_message, function_of, is_owner, make_server, taken_by}
use Rattle.entry_log.specs.declared.effect.Holder.{Holder}
use Rattle.entry_log.specs.declared.effect.Holder.TheVariants.{InThread}
use Rattle.machine.specs.Rows.{table_of}
use Rattle.machine.specs.Task.{instruction}
use Rattle.machine_laws.proofs.Fitting.Finishing.{at_number}
use Rattle.state_rows.specs.MessageRows.{message_of}
use Rattle.state_rows.specs.declared.thread.Stage.TheVariants.{Live}
use Rattle.std.proofs.lemmas.Bool.{and_parts}
use Rattle.machine.specs.Moves.{with_kept}
use Rattle.machine_safe.proofs.Serving.CourseBlocks.{either, on-two, tests}

module _ (script : Script) (S : State) (t : ObjNo) (old : ThreadRow) (here : thread_of S t ≡ Some old) (rows : AreRows script S) where
  abbrev Comes : Instr → Option Part → Decision → Type 0
  Comes i p d = Course script S t old i p d

  -- messages
  pub sends-to : {i : Instr} {p : Option Part} (s : ObjNo) (function : ℤ) (y : ℕ) (args : List Arg)
      (server : Option ObjNo)
      → open_server S s ≡ server → Comes i p (send_to S t s function y args server)
  sends-to s function y args None opens = answers _ refl refl (tt, tt)
  sends-to s function y args (Some o) opens =
      either script S t old here rows (is_full S.serving.messages s (slots_of S s)) _ _ (answers _ refl refl (tt, tt))
      (answers _ refl refl (
        tt,
        (
          refl,
          (
            open-accepts S s o opens,
            proper-then script (Some t, S, Some (posted o)) (wake_receiver S o (owner_of S.serving.servers o)) (Advance t ∷ []) refl
                (proper-any script t S (Some (posted o)) _ (proper-wake script S o (owner_of S.serving.servers o))) (tt, tt),
          ),
        ),
      ))

  pub sends : (x n y : ℕ) (args : Args) (function : ℤ) (more : List Arg) (uses : Option ObjNo) → old.uses ≡ uses
      → Comes (instr.Send x n y args) (Some part.Do) (send_do S t function y more uses)
  sends x n y args function more None e = idles (unused refl e) refl
  sends x n y args function more (Some s) e =
      if_cases (Comes (instr.Send x n y args) (Some part.Do)) (is_pending S.synchronization.requests t y) _ _
      (λ is. idles (pending y refl is) refl) (λ _. sends-to s function y more (open_server S s) refl)

  -- moves behind the step that goes on leave it there
  pub behind-part : (q : Part) (rest : List Move) → EachFits script t rest (moved t (GoOn t q) S)
      → total going_bit rest ≡ 0 → (row : ThreadRow) → is_some row.part ≡ true
      → thread_of (perform t rest (moved t (GoOn t q) S)) t ≡ Some row → row.part ≡ Some q
  behind-part q rest fits still row later is =
      let c = carries-each script (moved t (GoOn t q) S) t rest fits t row (λ _. still) later is in
      sym c.mid.part ∙ part-after S.references.threads t (with_part q) (Some q) (λ r. refl) c.mid.old c.mid.was

  pub sent : {k : Kinds} {p : Option Part} (i : Instr) (d : Decision) (rest : List Move)
      → d.moves ≡ GoOn t part.Done ∷ rest → d.answer ≡ None → acts d.step ≡ true → total going_bit rest ≡ 0
      → has_step i part.Done ≡ true → uses_at i part.Done ≡ false → asks i (Some part.Done) ≡ false
      → AreProper script (stepping S t) d.moves → FitsAction k script S t d → Comes i p d
  sent i d rest moves silent does still has early calm proper fits = goes part.Done has silent does proper (λ row is later.
      let each = subst (λ (l : List Move). EachFits script t l S) moves fits.goes.each in
      record {
        part = behind-part part.Done rest each.1 still row later
            (ap (λ (l : List Move). thread_of (perform t l S) t) (sym moves) ∙ is);
        uses = λ needs. absurd (cc);
        met = λ own had asked. absurd (cc);
      })

  pub calls-to : {k : Kinds} (x n : ℕ) (args : Args) (s : ObjNo) (function : ℤ) (more : List Arg)
      (server : Option ObjNo)
      → open_server S s ≡ server → FitsAction k script S t (call_to S t s function more server)
      → Comes (instr.Call x n args) (Some part.Do) (call_to S t s function more server)
  calls-to x n args s function more None opens fits = answers _ refl refl (tt, tt)
  calls-to x n args s function more (Some o) opens fits =
      let none = (tame-wake {k = plain} S o (owner_of S.serving.servers o)).goes refl in
      sent (instr.Call x n args) (call_to S t s function more (Some o)) _ refl refl refl (omega arith) refl refl refl (
        tt,
        (
          refl,
          (
            open-accepts S s o opens,
            proper-any script t S (Some (posted o)) _
                (proper-wake script S o (owner_of S.serving.servers o)),
          ),
        ),
      ) fits

  pub calls-over : {k : Kinds} (x n : ℕ) (args : Args) (function : ℤ) (more : List Arg) (uses : Option ObjNo)
      → old.uses ≡ uses → FitsAction k script S t (call_do S t function more uses)
      → Comes (instr.Call x n args) (Some part.Do) (call_do S t function more uses)
  calls-over x n args function more None e fits = idles (unused refl e) refl
  calls-over x n args function more (Some s) e fits =
      tests script S t old here rows (is_some (held_by S.synchronization.nano t)) word.Call part.Do InUse
      (call_to S t s function more (open_server S s))
      (λ no f. calls-to x n args s function more (open_server S s) refl f) fits

  -- a thread that waits for a message uses the server still, and owns it
  module _ (x y : ℕ) (live : old.stage ≡ Live) (at : instruction script old ≡ Some (instr.Receive x y)) where
    taking : (o : ObjNo) → old.uses ≡ Some o → receiving (Some (instr.Receive x y)) old.part ≡ true → IsTaking script (stepping S t) o
    taking o e stands = record {
      thread = t;
      on = refl;
      row = old;
      is = here;
      live = live;
      uses = e;
      at = ap (λ (i : Option Instr). receiving i old.part) at ∙ stands;
    }

    waits-on : (o : ObjNo) → old.uses ≡ Some o → IsMet S t old (instr.Receive x y) (Some part.Do)
        → Met (perform t (GoOn t part.Done ∷ Wait t (waiting.Receive o) ∷ []) S) t
        (with_waiting (waiting.Receive o) (with_part part.Done old)) (instr.Receive x y) (Some part.Done)
    waits-on o e had = record {
      unset = λ s is. absurd (cc);
      wanted = λ is. absurd (cc);
      used = λ k u is used. absurd (cc);
      found = λ k is. absurd (cc);
      owned = λ u is used. (had refl).owned u refl used;
      came = λ u is used. let same : o ≡ u = cc in inl (ap Some same);
    }

    receives-next : (o : ObjNo) (m : Option MsgNo) → old.uses ≡ Some o → old.part ≡ Some part.Do
        → Comes (instr.Receive x y) (Some part.Do) (receive_next t o y m)
    receives-next o None e stands = goes part.Done refl refl refl (tt, (refl, tt))
        (on-two script S t old here rows (instr.Receive x y) part.Done (with_part part.Done)
        (with_waiting (waiting.Receive o)) refl (λ needs. ap is_some e) (λ own had asked. waits-on o e had))
    receives-next o (Some m) e stands = answers _ refl refl (taking o e (ap (receiving (Some (instr.Receive x y))) stands), (tt, (tt, tt)))

    pub receives : {k : Kinds} (uses : Option ObjNo) → old.uses ≡ uses → old.part ≡ Some part.Do
        → FitsAction k script S t (receive_do S t y uses)
        → Comes (instr.Receive x y) (Some part.Do) (receive_do S t y uses)
    receives None e stands fits = idles (unused refl e) refl
    receives (Some o) e stands fits = tests script S t old here rows
        (is_some (held_by S.synchronization.nano t)) word.Receive part.Do InUse
        (receive_next t o y (next_of S.serving.messages o))
        (λ no f. receives-next o (next_of S.serving.messages o) e stands) fits

    received : (o : ObjNo) (m : Option MsgNo) → old.uses ≡ Some o → old.part ≡ Some part.Done
        → next_of S.serving.messages o ≡ m → Comes (instr.Receive x y) (Some part.Done) (receive_came t o y m)
    received o None e stands is = idles (empty o refl e is) refl
    received o (Some m) e stands is = answers _ refl refl (taking o e (ap (receiving (Some (instr.Receive x y))) stands), (tt, (tt, tt)))

    pub receives-last : (uses : Option ObjNo) → old.uses ≡ uses → old.part ≡ Some part.Done
        → Comes (instr.Receive x y) (Some part.Done) (receive_done S t y uses)
    receives-last None e stands = idles (unused refl e) refl
    receives-last (Some o) e stands = received o (next_of S.serving.messages o) e stands refl

  -- a message that is completed was taken
  took : (found : Option Message) (message : Message) → taken_by S t found ≡ Some message → (found ≡ Some message) × (message.row.taken ≡ true)
  took None message e = absurd (cc)
  took (Some first) message e = by (first.row.taken && is_owner t (owner_of S.serving.servers first.row.server)) refl e
    where
      by : (b : Bool) → (first.row.taken && is_owner t (owner_of S.serving.servers first.row.server)) ≡ b
          → (if b then Some first else None) ≡ Some message → (Some first ≡ Some message) × (message.row.taken ≡ true)
      by false is e = absurd (cc)
      by true is e =
          let own : first ≡ message = cc in
          (e, subst (λ (x : Message). x.row.taken ≡ true) own (and_parts first.row.taken (is_owner t (owner_of S.serving.servers first.row.server)) is).0)

  pub completes : {i : Instr} {p : Option Part} (m : MsgNo) (code : ℤ) (found : Option Message)
      → taken_by S t (message_of S.serving.messages m) ≡ found → Comes i p (complete_message S t code found)
  completes m code None e = answers _ refl refl (tt, tt)
  completes m code (Some message) e =
      let is = took (message_of S.serving.messages m) message e in
      answers _ refl refl (proper-then script (stepping S t) (finish S message code) (Advance t ∷ []) refl
      (proper-any script t S None (finish S message code)
      (proper-finish script S rows message code (at_number S m message is.0) (inl is.1))) (tt, tt))

  pub functions : {i : Instr} {p : Option Part} (message : Option Message) → Comes i p (function_of t message)
  functions None = answers _ refl refl (tt, tt)
  functions (Some message) = answers _ refl refl (tt, tt)

  -- servers and sessions
  pub makes-server : {i : Instr} {p : Option Part} (name : List ℕ) (x : ℕ) (handle : Option NewHandle)
      → thread_handle S t ≡ handle → Comes i p (make_server t (next_object S) name x handle)
  makes-server name x None is = answers _ refl refl (tt, tt)
  makes-server name x (Some handle) is =
      let own : MayHave (stepping S t) handle.holder (next_object S) =
      subst (λ (h : Holder). MayHave (stepping S t) h (next_object S))
      (sym (handle-holder true (InThread t) (table_of S t) handle is)) (inr (refl, refl)) in
      answers _ refl refl ((refl, refl, refl), (((refl, refl), omega arith, λ session. absurd (cc)), (own, (tt, (tt, tt)))))

  module _ (name : List ℕ) (slots : Slots) (x : ℕ) where
    abbrev pub connects-as : Instr
    connects-as = instr.Connect name slots x

    pub joins : (o : ObjNo) (handle : Option NewHandle) → thread_handle S t ≡ handle
        → Comes connects-as (Some part.Make) (make_session t o slots (next_object S) handle)
    joins o None is = answers _ refl refl (tt, tt)
    joins o (Some handle) is = goes part.Send refl refl refl
        ((made-in-thread (stepping S t) S t kind.Session handle refl refl is, omega arith, λ session. refl), (refl, (tt, (tt, (tt, tt)))))
        (λ row at later. record {
          part = part-after _ t (with_part part.Send) (Some part.Send) (λ r. refl) row at;
          uses = λ needs. absurd (cc);
          met = λ own had asked. absurd (cc);
        })

    pub makes : (o : ObjNo) (server : Option ServerRow) → old.uses ≡ Some o → server_at S.serving.servers o ≡ server
        → Comes connects-as (Some part.Make) (connect_to S t slots o server)
    makes o None e is = idles (serverless o refl e is) refl
    makes o (Some server) e is = either script S t old here rows server.is_closing _ _ (answers _ refl refl (tt, tt))
        (either script S t old here rows (no_number_left S) _ _ (answers _ refl refl (tt, tt))
        (joins o (thread_handle S t) refl))

    pub makes-at : (uses : Option ObjNo) → old.uses ≡ uses → Comes connects-as (Some part.Make) (connect_make S t slots uses)
    makes-at None e = idles (unused refl e) refl
    makes-at (Some o) e = makes o (server_at S.serving.servers o) e refl

    pub connects-to : {k : Kinds} (s : ObjNo) (server : Option ObjNo) → server_to_open S s ≡ server
        → FitsAction k script S t (send_connect S t old s server)
        → Comes connects-as (Some part.Send) (send_connect S t old s server)
    connects-to s None opens fits = answers _ refl refl (tt, (tt, tt))
    connects-to s (Some o) opens fits =
        let none = (tame-wake {k = plain} S o (owner_of S.serving.servers o)).goes refl in
        sent connects-as (send_connect S t old s (Some o)) _ refl refl refl (omega arith) refl refl refl (
          tt,
          (
            tt,
            (
              refl,
              (
                open-accepts S s o (to-open-is S s o opens),
                proper-any script t S (Some (posted o)) _ (proper-wake script S o (owner_of S.serving.servers o)),
              ),
            ),
          ),
        ) fits

    pub connects-over : {k : Kinds} (session : Option ObjNo) → session_made S t old ≡ session
        → FitsAction k script S t (connect_send S t old session)
        → Comes connects-as (Some part.Send) (connect_send S t old session)
    connects-over None e fits = idles (unkept refl e) refl
    connects-over (Some s) e fits = tests script S t old here rows
        (is_some (held_by S.synchronization.nano t)) word.Connect part.Send InUse (send_connect S t old s (server_to_open S s))
        (λ no f. connects-to s (server_to_open S s) refl f) fits

    pub connected : (session : Option ObjNo) → session_made S t old ≡ session → Comes connects-as (Some part.Done) (connect_done S t old x session)
    connected None e = idles (unkept refl e) refl
    connected (Some s) e = either script S t old here rows (int_eq (reply_of S.synchronization.requests t) (pos 0)) _ _
        (answers _ refl refl (tt, (tt, tt))) (answers _ refl refl (tt, (tt, tt)))

  -- copies
  pub pieces : {i : Instr} {p : Option Part} (w : Word) (copy : CopyMove) (piece : Piece) → has_step i part.Piece ≡ true
      → uses_at i part.Piece ≡ false → asks i (Some part.Piece) ≡ false
      → Comes i p (copy_piece t (Of w part.Piece) copy piece)
  pieces {i} w copy (piece.More done) has early calm =
      goes part.Piece has refl refl (tt, (tt, (tt, tt)))
      (on-two script S t old here rows i part.Piece (with_part part.Piece) (with_kept done) refl (λ needs. absurd (cc))
      (λ own had asked. absurd (cc)))
  pieces w copy (piece.Whole size) has early calm = answers _ refl refl (tt, (tt, tt))
  pieces w copy piece.BadDescriptor has early calm = answers _ refl refl (tt, tt)
  pieces w copy piece.Argument has early calm = answers _ refl refl (tt, tt)
  pieces w copy piece.Overflow has early calm = answers _ refl refl (tt, tt)
  pieces w copy piece.Died has early calm = answers _ refl refl (tt, tt)

  pub reads : {i : Instr} {p : Option Part} (arg offset len at : ℕ) (message : Option Message)
      → has_step i part.Piece ≡ true → uses_at i part.Piece ≡ false → asks i (Some part.Piece) ≡ false
      → Comes i p (read_from S t old arg offset len at message)
  reads arg offset len at None has early calm = answers _ refl refl (tt, tt)
  reads arg offset len at (Some message) has early calm = pieces word.Read _ _ has early calm

  pub writes : {i : Instr} {p : Option Part} (arg offset len at : ℕ) (message : Option Message)
      → has_step i part.Piece ≡ true → uses_at i part.Piece ≡ false → asks i (Some part.Piece) ≡ false
      → Comes i p (write_from S t old arg offset len at message)
  writes arg offset len at None has early calm = answers _ refl refl (tt, tt)
  writes arg offset len at (Some message) has early calm = pieces word.Write _ _ has early calm
