-- What an action of a thread does to servers and messages, by what it does.
use Rattle.entry_log.specs.declared.effect.Holder.TheVariants.{InProcess, InThread}
use Rattle.entry_log.specs.declared.step.Part.{Part}
use Rattle.machine.specs.Close.{close_handle}
use Rattle.machine.specs.Closing.{before_close, close_moves, close_or, connected_to, disconnect}
use Rattle.machine.specs.Handles.{holder_of, thread_handle}
use Rattle.machine.specs.Messaging.{disconnects, no_args, open_server, post, wake_receiver}
use Rattle.machine.specs.Moves.{next_object, no_number_left}
use Rattle.machine.specs.References.{same, total}
use Rattle.machine.specs.ServerCalls.{complete_message, is_owner, make_server, server_do, taken_by}
use Rattle.machine.specs.Steps.{step_of}
use Rattle.machine.specs.declared.decision.Decision.{Decision}
use Rattle.machine.specs.declared.handles.NewHandle.{NewHandle}
use Rattle.machine.specs.declared.moves.Move.{Move}
use Rattle.machine.specs.declared.moves.Move.TheVariants.{Advance, Lose, Servers, Write}
use Rattle.machine.specs.declared.server_move.ServerMove.TheVariants.{SetOpen}
use Rattle.machine.specs.declared.state.State.{State}
use Rattle.machine_laws.proofs.Fitting.Finishing.{at_number}
use Rattle.machine_safe.proofs.Serving.ServerActions.{ClosesOthers, OfEach, behind, calm}
use Rattle.machine_safe.proofs.Serving.KeptServers.{changing_bit, lost-none, lost_bit, message_bit, detach_bit}
use Rattle.machine_safe.proofs.Serving.SendingSteps.{deed-call, deed-connect, deed-send, sending}
use Rattle.machine_safe.specs.CountAfter.{opens}
use Rattle.machine_safe.specs.SafeMessages.{code_of_complete}
use Rattle.machine_safe.specs.Sent.{accepts_by, status_by}
use Rattle.move_laws.proofs.Lists.Cases.{if_cases}
use Rattle.move_laws.proofs.Lists.Totals.{total-append}
use Rattle.move_laws.proofs.MoveLaws.RowMoves.{silent}
use Rattle.move_laws.proofs.References.Same.{same_is, same_object}
use Rattle.script_types.specs.declared.instruction.Instr.{Instr}
use Rattle.script_types.specs.declared.script.Script.{Script}
use Rattle.state_rows.specs.HandleNumbers.{is_local}
use Rattle.state_rows.specs.MessageRows.{message_of}
use Rattle.state_rows.specs.ObjectRows.{is_taken}
use Rattle.state_rows.specs.ServerRows.{owner_of, server_at, session_at, was_opened}
use Rattle.state_rows.specs.declared.messages.Way.TheVariants.{Disconnect}
use Rattle.state_rows.specs.declared.servers.ServerRow.{ServerRow}
use Rattle.state_rows.specs.declared.thread.ThreadRow.{ThreadRow}
use Rattle.std.proofs.Common.{Bool, List, None, Option, Some, [], ap, append_assoc, arith, false, refl, true, ℤ, ◌++◌, ◌∙◌, ◌∷◌, ◌≡◌, ◌≤◌, ℕ, subst}
use Rattle.std.proofs.lemmas.Bool.{and_parts, eqb-true}
use Rattle.std.specs.Prelude.{if◌then◌else◌, ◌&&◌}
use Rattle.sym_base.specs.declared.number.MsgNo.{MsgNo}
use Rattle.sym_base.specs.declared.kind.Kind.TheVariants as kind
use Rattle.script_types.specs.declared.instruction.Instr.TheVariants as instr
use Rattle.entry_log.specs.declared.effect.Holder.{Holder}
use Rattle.state_rows.specs.declared.messages.Message.{Message}
use Rattle.sym_base.specs.declared.number.ObjNo.{ObjNo}
use Rattle.machine.specs.Rows.{thread_of}
use Rattle.machine.specs.EntryWords.{is_handle, is_send, makes_server}
use Rattle.machine_laws.proofs.Fitting.Regular.{IsRegular, kind_of, plain}
use Rattle.machine_laws.proofs.Fitting.SentMessages.{tame-wake}
use Rattle.state_rows.specs.declared.thread.Stage.TheVariants.{Live}
use Rattle.machine_safe.proofs.Serving.Connecting.{keeps_handle, KeepsHandle, session-other}
use Rattle.machine.specs.Out.{is_returning}

-- a server is made
deed-made_server : (S : State) (t : ObjNo) (at : Option Instr) (P : Decision → Type 0) (name : List ℕ) (x : ℕ)
    (handle : Option NewHandle)
    → OfEach S t at P → P (make_server t (next_object S) name x handle)
deed-made_server S t at P name x None each = calm each _ refl refl
deed-made_server S t at P name x (Some handle) each = each.makes _ (record {
  name = name;
  holder = handle.holder;
  back = Write t x handle.number ∷ Advance t ∷ [];
  moves = refl;
  quiet = refl;
  makes = refl;
  unsent = refl;
})

deed-server : (S : State) (t : ObjNo) (at : Option Instr) (P : Decision → Type 0) (name : List ℕ) (x : ℕ) → OfEach S t at P → P (server_do S t name x)
deed-server S t at P name x each = if_cases P (is_taken kind.Server name S.references.objects) _ _
    (λ _. calm each _ refl refl)
    (λ _. if_cases P (no_number_left S) _ _
    (λ _. calm each _ refl refl)
    (λ _. deed-made_server S t at P name x (thread_handle S t) each))

-- a message is finished: its server is the thread's
owner-is : (t : ObjNo) (owner : Option ObjNo) → is_owner t owner ≡ true → owner ≡ Some t
owner-is t None e = absurd (cc)
owner-is t (Some u) e = ap Some (same_object u t (eqb-true u.0 t.0 e))

taken-is : (S : State) (t : ObjNo) (found : Option Message) (message : Message) → taken_by S t found ≡ Some message
    → (found ≡ Some message) × (owner_of S.serving.servers message.row.server ≡ Some t)
taken-is S t None message e = absurd (cc)
taken-is S t (Some first) message e = by (first.row.taken && is_owner t (owner_of S.serving.servers first.row.server)) refl e
  where
    by : (b : Bool) → (first.row.taken && is_owner t (owner_of S.serving.servers first.row.server)) ≡ b
        → (if b then Some first else None) ≡ Some message → (Some first ≡ Some message)
        × (owner_of S.serving.servers message.row.server ≡ Some t)
    by false is e = absurd (cc)
    by true is e =
        let own : first ≡ message = cc in
        let parts = and_parts first.row.taken (is_owner t (owner_of S.serving.servers first.row.server)) is in
        (e, subst (λ (x : Message). owner_of S.serving.servers x.row.server ≡ Some t) own (owner-is t (owner_of S.serving.servers first.row.server) parts.1))

deed-complete : (S : State) (t : ObjNo) (at : Option Instr) (P : Decision → Type 0) (y : ℕ) (code : ℤ) (m : MsgNo)
    (message : Option Message)
    → at ≡ Some (instr.Complete y code) → taken_by S t (message_of S.serving.messages m) ≡ message → OfEach S t at P
    → P (complete_message S t code message)
deed-complete S t at P y code m None here e each = calm each _ refl refl
deed-complete S t at P y code m (Some message) here e each =
    let is = taken-is S t (message_of S.serving.messages m) message e in
    each.finishes _ (record {
      message = message;
      code = code;
      answers = true;
      there = at_number S m message is.0;
      moves = refl;
      owner = is.1;
      cause = ap code_of_complete here;
      unsent = refl;
    })

-- a handle is closed
pub behind-still : (answers : Bool) (t : ObjNo) → (total changing_bit (behind answers t) ≡ 0) × (total message_bit (behind answers t) ≡ 0)
behind-still true t = (refl, refl)
behind-still false t = (refl, refl)

pub lost-behind : (answers : Bool) (t v : ObjNo) → total (lost_bit v) (behind answers t) ≡ 0
lost-behind true t v = refl
lost-behind false t v = refl

pub undetached : (h : Holder) (o v : ObjNo) → is_handle h ≡ true → detach_bit v (Lose h o) ≡ 0
undetached (InProcess p i) o v is = refl
undetached (InThread u i) o v is = refl
undetached _ o v is = absurd (cc)

pub undetached-behind : (answers : Bool) (t v : ObjNo) → total (detach_bit v) (behind answers t) ≡ 0
undetached-behind true t v = refl
undetached-behind false t v = refl

lost-handle : (h : Holder) (o v : ObjNo) → lost_bit v (Lose h o) ≤ same o v
lost-handle h o v = if_cases (λ (n : ℕ). n ≤ same o v) (is_handle h) (same o v) 0 (λ _. omega arith) (λ _. omega arith)

pub changing-handle : (h : Holder) (o : ObjNo) → is_handle h ≡ true → changing_bit (Lose h o) ≡ 0
changing-handle (InProcess p i) o is = refl
changing-handle (InThread u i) o is = refl
changing-handle _ o is = absurd (cc)

connected-is : (S : State) (s o : ObjNo) → connected_to S s ≡ Some o → open_server S s ≡ Some o
connected-is S s o e = by (was_opened (session_at S.serving.servers s)) e
  where
    by : (b : Bool) → (if b then open_server S s else None) ≡ Some o → open_server S s ≡ Some o
    by true e = e
    by false e = absurd (cc)

module _ (S : State) (t : ObjNo) (at : Option Instr) (P : Decision → Type 0) (h : Holder) (o : ObjNo) (answers : Bool)
    (d : Decision) (handle : is_handle h ≡ true) (makes : makes_server d.step ≡ false) (unsent : is_send d.step ≡ false)
    (told : status_by d.step at ≡ None) (named : accepts_by d.step None ≡ true) (each : OfEach S t at P) where
  -- the handle of what is no server
  others : (ms : List Move) → d.moves ≡ ms ++ Lose h o ∷ behind answers t → ((v : ObjNo) → total (lost_bit v) ms ≡ 0)
      → server_at S.serving.servers o ≡ None → ClosesOthers S d
  others ms moves silent none v some =
      let all = ap (total (lost_bit v)) moves in
      let parts = total-append (lost_bit v) ms (Lose h o ∷ behind answers t) in
      let first = silent v in
      let last = lost-behind answers t v in
      let most = lost-handle h o v in
      let own : o ≡ v = same_is o v (omega arith) in
      subst (λ (x : ObjNo). server_at S.serving.servers x ≡ None) own none

  loses : d.moves ≡ Lose h o ∷ behind answers t → server_at S.serving.servers o ≡ None → P d
  loses moves none =
      let still = behind-still answers t in
      each.keeps d (record {
        changing = let a = ap (total changing_bit) moves in let b = still.0 in let c = changing-handle h o handle in omega arith;
        still = let a = ap (total message_bit) moves in let b = still.1 in omega arith;
        detaches =
            λ v some. let a = ap (total (detach_bit v)) moves in let b = undetached-behind answers t v in
            let c = undetached h o v handle in absurd (omega arith);
        send = λ sends. absurd (cc);
        closed = others [] moves (λ v. refl) none;
      })

  sends : (v : ObjNo)
      → d.moves ≡ Servers (SetOpen o false) ∷ post S t o v disconnects no_args Disconnect ++ Lose h o ∷ behind answers t
      → open_server S o ≡ Some v → server_at S.serving.servers o ≡ None → P d
  sends v moves opens none =
      let still = behind-still answers t in
      each.sends d (sending d (Servers (SetOpen o false) ∷ []) (Lose h o ∷ behind answers t) o v disconnects no_args Disconnect moves refl refl
      (let a = still.0 in let b = changing-handle h o handle in omega arith) (let a = still.1 in omega arith) opens told (λ e. absurd (cc)) named
      (others (Servers (SetOpen o false) ∷ post S t o v disconnects no_args Disconnect) moves
      (λ x. let wakes = lost-none x (wake_receiver S v (owner_of S.serving.servers v))
      ((tame-wake {k = plain} S v (owner_of S.serving.servers v)).calm refl) in omega arith) none)
      (λ x. let b = undetached-behind answers t x in let c = undetached h o x handle in omega arith) unsent
      (λ sends. absurd (cc)))

  unconnected : (server : Option ObjNo) → d.moves ≡ disconnect S t o server ++ Lose h o ∷ behind answers t
      → connected_to S o ≡ server → server_at S.serving.servers o ≡ None → P d
  unconnected None moves e none = loses moves none
  unconnected (Some v) moves e none = sends v moves (connected-is S o v e) none

  closing : (server : Option ServerRow)
      → d.moves ≡ close_or o server (disconnect S t o (connected_to S o)) ++ Lose h o ∷ behind answers t
      → server_at S.serving.servers o ≡ server → P d
  closing None moves e = unconnected (connected_to S o) moves refl e
  closing (Some row) moves e =
      each.closes d (record {
        server = o;
        row = row;
        is = e;
        holder = h;
        handle = handle;
        answers = answers;
        moves = moves;
        makes = makes;
        unsent = unsent;
      })

  pub deed-handle : d.moves ≡ close_moves S t h o ++ behind answers t → P d
  deed-handle moves = closing (server_at S.serving.servers o) (moves ∙ append_assoc (before_close S t o) (Lose h o ∷ []) (behind answers t)) refl

holder-handle : (t : ObjNo) (row : ThreadRow) (handle : ℕ) → is_handle (holder_of t row handle) ≡ true
holder-handle t row handle = if_cases (λ (h : Holder). is_handle h ≡ true) (is_local handle) _ _ (λ _. refl) (λ _. refl)

deed-close : (S : State) (t : ObjNo) (at : Option Instr) (P : Decision → Type 0) (row : ThreadRow) (handle : ℕ)
    (found : Option ObjNo)
    → OfEach S t at P → P (close_handle S t row handle found)
deed-close S t at P row handle None each = calm each _ refl refl
deed-close S t at P row handle (Some o) each =
    deed-handle S t at P (holder_of t row handle) o true (close_handle S t row handle (Some o))
    (holder-handle t row handle) refl refl refl refl each refl

-- each step of an instruction
pub deed-step : (script : Script) (S : State) (t : ObjNo) (at : Option Instr) (P : Decision → Type 0) (row : ThreadRow)
    (i : Instr) (p : Option Part)
    → IsRegular (kind_of i p) script S t (step_of script S t row i p) → thread_of S t ≡ Some row → row.stage ≡ Live
    → is_returning p ≡ false → row.part ≡ p → (keeps_handle (Some i) p ≡ true → KeepsHandle S t row) → at ≡ Some i → OfEach S t at P
    → P (step_of script S t row i p)
deed-step script S t at P row (instr.Close x) p regular is live going begun kept here each = deed-close S t at P row _ _ each
deed-step script S t at P row (instr.Server name x) p regular is live going begun kept here each = deed-server S t at P name x each
deed-step script S t at P row (instr.Connect name slots x) (Some p) regular is live going begun kept here each =
    deed-connect S t at (record { row = row; is = is; live = live }) P row name slots x p going
    (λ keeps s made. session-other S t row s (kept keeps) made) here each
deed-step script S t at P row (instr.Send x function y args) (Some p) regular is live going begun kept here each =
    deed-send S t at (record { row = row; is = is; live = live }) P row x function y args p is live begun here each
deed-step script S t at P row (instr.Call x function args) (Some p) regular is live going begun kept here each =
    deed-call S t at (record { row = row; is = is; live = live }) P row x function args p here each
deed-step script S t at P row (instr.Complete y code) p regular is live going begun kept here each = deed-complete S t at P y code _ _ here refl each
deed-step script S t at P row i p regular is live going begun kept here each = calm each _ (regular.calm refl) (regular.sends refl)
