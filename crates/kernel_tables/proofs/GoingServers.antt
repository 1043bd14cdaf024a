-- When a move in the rows of servers, sessions and messages that fits can be made in the tables.
use Rattle.std.proofs.Common.{◌≡◌, ◌∙◌, ℕ, zero, suc, ◌+◌, ◌<◌, ◌≤◌, Bool, true, false, List, [], ◌∷◌, get_or, set, arith, refl, sym, ap, inl, inr}
use Rattle.std.specs.Prelude.{Option, Some, None, IfSome, IsSome, slice_index, slice_set}
use Rattle.std.specs.List.{find}
use Rattle.std.proofs.lemmas.Bool.{cases_Bool, eqb-true}
use Rattle.sym_base.specs.declared.kind.Slots.{Slots}
use Rattle.sym_base.specs.declared.number.MsgNo.{MsgNo}
use Rattle.sym_base.specs.declared.number.ObjNo.{ObjNo}
use Rattle.entry_log.specs.declared.effect.Holder.TheVariants.{Message as OfMessage}
use Rattle.script_types.specs.declared.script.Script.{Script}
use Rattle.state_rows.specs.declared.duty.Owed.TheVariants.{Close}
use Rattle.state_rows.specs.declared.messages.Message.{Message}
use Rattle.state_rows.specs.declared.messages.MessageRows.{MessageRows}
use Rattle.state_rows.specs.declared.messages.MsgRow.{MsgRow}
use Rattle.state_rows.specs.MessageChanges.{added, new_row}
use Rattle.state_rows.specs.MessageRows.{has_number, message_of, most_messages}
use Rattle.state_rows.specs.ServerRows.{is_to_open, link_of, server_at, session_at}
use Rattle.state_rows.specs.declared.servers.ServerRow.{ServerRow}
use Rattle.state_rows.specs.declared.servers.SessionRow.{SessionRow}
use Rattle.messages.specs.Calls.{after_accept, finished_of, is_busy}
use Rattle.messages.specs.declared.answers.Finished.{Finished}
use Rattle.machine.specs.declared.message_move.MessageMove.{MessageMove}
use Rattle.machine.specs.declared.message_move.MessageMove.TheVariants.{Accept, Take, Finish}
use Rattle.machine.specs.declared.server_move.ServerMove.{ServerMove}
use Rattle.machine.specs.declared.server_move.ServerMove.TheVariants.{Start, Join, Close as Closing, CloseAll, SetOpen, End}
use Rattle.machine.specs.declared.state.State.{State}
use Rattle.machine.specs.FitsServers.{FitsMessages, FitsServers, HasSlot, MayAccept}
use Rattle.machine.specs.MessageMoves.{closes_of}
use Rattle.machine.specs.References.{count_of, mutex_names}
use Rattle.machine.specs.Rows.{object_of}
use Rattle.machine.specs.ServerMoves.{owned_by}
use Rattle.machine.specs.WellFormed.{AreRows}
use Rattle.move_laws.proofs.Lists.Totals.{total_at_least}
use Rattle.move_laws.proofs.Lives.Bits.{alive_there, there_inside}
use Rattle.move_laws.proofs.Lives.NewObjects.{next_number_is}
use Rattle.move_laws.proofs.References.Same.{same_self}
use Rattle.move_laws.proofs.RowLaws.FewMessages.{room_for_message}
use Rattle.kernel_tables.specs.Referred.{HasPlaces, IsReferred}
use Rattle.kernel_tables.specs.ServerMoved.{CanAccept, CanMessage, CanServe}

-- a message that is found has the number that was looked for
found_named : (m : MsgNo) (xs : List Message) (x : Message) → find (has_number m) xs ≡ Some x → x.number.0 ≡ m.0
found_named m [] x is = absurd (cc)
found_named m (y ∷ xs) x is =
    elim (cases_Bool (has_number m y)) [
      | inl here ↦
          let some = rw here at is in
          let same : y ≡ x = cc in
          ap (λ (z : Message). z.number.0) (sym same) ∙ eqb-true y.number.0 m.0 here
      | inr there ↦ found_named m xs x (rw there at is)
    ]

-- what is owed of a finished message
pub finished_owes : (r : MessageRows) (m : MsgNo) (told : Finished) (x : Option Message) → message_of r m ≡ x → IsSome x
    → IfSome x (λ message. told ≡ finished_of message)
    → closes_of (message_of r m) ≡ Close (OfMessage m) told.session ∷ Close (OfMessage m) told.client ∷ []
finished_owes r m told None is some finished = absurd (cc)
finished_owes r m told (Some message) is some finished =
    let named : ℕ → MsgNo = λ n. record { 0 = n } in
    let number : message.number ≡ m = ap named (found_named m r.outstanding message is) in
    rw (is, finished, number) refl

-- a message that isn't turned away is added
pub accepted_rows : (r : MessageRows) (slots : Slots) (row : MsgRow) → row.taken ≡ false → is_busy r slots row ≡ false
    → after_accept r slots (new_row row.session row.server row.client row.function row.args row.way) ≡ added r slots row
accepted_rows r slots row untaken free =
    let fresh : new_row row.session row.server row.client row.function row.args row.way ≡ row =
    ap (λ (taken : Bool). record row { taken = taken }) (sym untaken) in
    rw (fresh, free) refl

-- a count that gets one more, or another one
pub one_more : (counts : List ℕ) (x y : ObjNo) → let first = slice_set counts x.0 (slice_index counts x.0 + 1) in
    (slice_index counts y.0 ≤ slice_index first y.0) × (slice_index first y.0 ≤ slice_index counts y.0 + 1)
one_more counts x y = more counts x.0 y.0
  where
    more : (xs : List ℕ) (i k : ℕ) → (get_or xs k 0 ≤ get_or (set xs i (get_or xs i 0 + 1)) k 0)
        × (get_or (set xs i (get_or xs i 0 + 1)) k 0 ≤ get_or xs k 0 + 1)
    more [] i k = (omega arith, omega arith)
    more (n ∷ xs) zero zero = (omega arith, omega arith)
    more (n ∷ xs) zero (suc k) = (omega arith, omega arith)
    more (n ∷ xs) (suc i) zero = (omega arith, omega arith)
    more (n ∷ xs) (suc i) (suc k) = more xs i k

-- a server that a thread owns is one
some_server : (row : Option ServerRow) (server : ServerRow) → row ≡ Some server → IsSome row
some_server None server is = absurd (cc)
some_server (Some row) server is = refl

-- a session that can be opened is one
opening_session : (row : Option SessionRow) → is_to_open row ≡ true → IsSome row
opening_session None opens = absurd (cc)
opening_session (Some row) opens = refl

module _ (script : Script) (S : State) (rows : AreRows script S) (referred : (o : ObjNo) → 0 < count_of S o → IsReferred S o) where
  pub can_serve : (m : ServerMove) → FitsServers m S → CanServe m S
  can_serve (Start o u) fits =
      let sized = rows.serving.servers.servers_sized in
      let next = ap (λ (x : ObjNo). x.0) fits.next in
      let room = fits.room in
      let none : object_of S o ≡ None = ap (object_of S) fits.next ∙ (next_number_is S.mode.reuse S.references.objects).1 in (
        omega arith,
        record {
          no_session = rows.serving.servers.linked_made o none;
          no_server = ap link_of (rows.serving.servers.sessions_made o none);
        },
      )
  can_serve (Join s o slots u) fits =
      let sized = rows.serving.servers.servers_sized in
      let few = rows.references.sized.objects_few in
      let made = there_inside S.references.objects s.0 (alive_there (object_of S s) fits.alive) in
      (omega arith, fits.alone, fits.server, fits.accepts, referred o fits.counted)
  can_serve (Closing o) fits = fits
  can_serve (CloseAll u) fits = λ k d inside.
      let o = get_or (owned_by S.serving.owned u) k d in
      let at = total_at_least (mutex_names o) (owned_by S.serving.owned u) k d inside in
      let one = same_self o in
      let owns = rows.serving.servers.owners u o (omega arith) in
      some_server (server_at S.serving.servers o) owns.row owns.is
  can_serve (SetOpen s true) fits = opening_session (session_at S.serving.servers s) fits.0
  can_serve (SetOpen s false) fits = fits
  can_serve (End o) fits = tt

  accepts : (slots : Slots) (row : MsgRow) → MayAccept S row → is_busy S.serving.messages slots row ≡ false
      → S.serving.messages.accepted < 4294967295 → CanAccept S slots row
  unfolding most_messages
  accepts slots row fits left numbers = record {
    server = let sized = rows.serving.messages.objects in let small = fits.server in omega arith;
    untaken = fits.untaken;
    session = referred row.session fits.session;
    client = referred row.client fits.client;
    room = room_for_message script S slots row fits rows;
    slot = left;
    number = numbers;
  }

  pub can_message : (t : ObjNo) (m : MessageMove) → HasPlaces 2 S t → FitsMessages m S → HasSlot m S
      → S.serving.messages.accepted < 4294967295 → CanMessage t m S
  can_message t (Accept slots row) places fits left numbers = accepts slots row fits left numbers
  can_message t (Take o) places fits left numbers = let sized = rows.serving.messages.objects in omega arith
  can_message t (Finish m code) places fits left numbers = (fits, places)
