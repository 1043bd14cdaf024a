-- Moves in the rows of messages. A message refers to its session and its client; whoever finishes it owes the closes of these.
use Rattle.std.proofs.Common.{◌≡◌, inl, inr, ℕ, ℤ, ◌+◌, ◌<◌, ◌≤◌, Bool, true, false, List, [], ◌∷◌, length, get_or, arith, refl, sym, ap, subst, ◌∙◌, Option, Some, None}
use Rattle.std.specs.Prelude.{◌==◌, if◌then◌else◌, is_some}
use Rattle.std.proofs.lemmas.Bool.{cases_lt, eqb-true}
use Rattle.std.proofs.lemmas.List.{length-set}
use Rattle.sym_base.specs.declared.kind.Slots.{Slots}
use Rattle.sym_base.specs.declared.number.MsgNo.{MsgNo}
use Rattle.sym_base.specs.declared.number.ObjNo.{ObjNo}
use Rattle.script_types.specs.declared.script.Script.{Script}
use Rattle.entry_log.specs.declared.effect.Effect.TheVariants as effect
use Rattle.entry_log.specs.declared.effect.Holder.{Holder}
use Rattle.entry_log.specs.declared.effect.Holder.TheVariants.{Message as OfMessage}
use Rattle.state_rows.specs.MessageChanges.{added, after_finish, next_number, next_of, taken, taken_row}
use Rattle.state_rows.specs.MessageRows.{has_number, message_of}
use Rattle.state_rows.specs.ServerRows.{session_at}
use Rattle.state_rows.specs.declared.duty.Owed.{Owed}
use Rattle.state_rows.specs.declared.messages.Message.{Message}
use Rattle.state_rows.specs.declared.messages.MsgRow.{MsgRow}
use Rattle.machine.specs.Fits.{FitsMove, MayOweMore, message_owes}
use Rattle.machine.specs.FitsServers.{MayAccept}
use Rattle.machine.specs.HeldIn.{held_in, message_holds, owed_by}
use Rattle.machine.specs.Holding.{is_holder, same_pair}
use Rattle.machine.specs.MessageMoves.{closes_of, message_owed, message_told}
use Rattle.machine.specs.Moves.{moved, told}
use Rattle.machine.specs.References.{message_names, owed_names, same, total}
use Rattle.machine.specs.Rows.{object_of, owed_of, owing}
use Rattle.machine.specs.Told.{removals}
use Rattle.machine.specs.WellFormed.{AreRows, IsAlive, IsUntold, owed_sweeps, weight}
use Rattle.machine.specs.declared.message_move.MessageMove.{MessageMove}
use Rattle.machine.specs.declared.message_move.MessageMove.TheVariants.{Accept, Take, Finish}
use Rattle.machine.specs.declared.moves.Move.TheVariants.{Messages}
use Rattle.machine.specs.declared.state.State.{State}
use Rattle.move_laws.proofs.Holders.HoldersMove.{holders-none}
use Rattle.move_laws.proofs.Holders.Serving.{holds-finished, holds-message, holds-same}
use Rattle.move_laws.proofs.Lists.Contents.{found_there, total_some}
use Rattle.move_laws.proofs.Lists.Totals.{total-append}
use Rattle.move_laws.proofs.Lives.Places.{outs-found}
use Rattle.move_laws.proofs.Lives.Kinds.{lives-none, lives-quiet, quiet_of}
use Rattle.move_laws.proofs.Lives.LivesMove.{zero_or}
use Rattle.move_laws.proofs.MoveLaws.Groups.{synchronization-left, synchronization-same, synchronization-then}
use Rattle.move_laws.proofs.MoveLaws.Sound.{Sound, sound-none, sound-of}
use Rattle.move_laws.proofs.References.Counts.{total-owing}
use Rattle.move_laws.proofs.References.Same.{if_zero, same_is}
use Rattle.move_laws.proofs.RowLaws.Duties.{duties-owing, none_owed, weight-owing}
use Rattle.move_laws.proofs.RowLaws.Locks.{leaves-owing, thread_inside}
use Rattle.move_laws.proofs.RowLaws.Messages.{edited-total, messages-accepted, messages-edited, messages-finished}
use Rattle.move_laws.proofs.RowLaws.Rising.{one_goes}
use Rattle.move_laws.proofs.RowLaws.ServerDuties.{duties-servers}

-- a message is taken, which changes no reference
sound-taken : (script : Script) (S : State) (m : Option MsgNo) → AreRows script S
    → Sound script S (record S { serving = record S.serving { messages = taken S.serving.messages m } }) []
sound-taken script S None rows = sound-none script S rows
sound-taken script S (Some m) rows =
    let T : State = record S { serving = record S.serving { messages = taken S.serving.messages (Some m) } } in
    let stays : (f : Message → ℕ) → ((message : Message) → f (record message { row = taken_row message.row })
    ≡ f message) → total f T.serving.messages.outstanding ≡ total f S.serving.messages.outstanding =
    λ f keeps.
    edited-total (IsUntold S.synchronization.requests S.synchronization.logons) S.references.threads S.serving.servers
    S.serving.messages m taken_row (λ row. refl) (λ row. refl) (λ row. refl) f keeps in
    sound-of script S T [] rows (record {
      handles_long = refl;
      threads_long = refl;
      owed_long = refl;
      objects_few = rows.references.sized.objects_few;
      tables = rows.references.tables;
      threads = rows.references.threads;
      duties = rows.references.duties;
      synchronization = rows.synchronization;
      services = rows.services;
      spent = rows.references.spent;
      serving = record {
        servers = rows.serving.servers;
        messages =
            messages-edited (IsUntold S.synchronization.requests S.synchronization.logons) S.references.threads
            S.serving.servers S.serving.messages m taken_row (λ row. refl) (λ row. refl) (λ row. refl) rows.serving.messages;
      };
    })
    (lives-none S T (refl, refl, refl) (λ o. let a = stays (message_names o) (λ x. refl) in omega arith) (λ o. refl) (λ o place. refl))
    (holders-none S T (λ g x. let a = holds-same S.serving.owned S.serving.servers.sessions
    S.serving.messages.outstanding T.serving.messages.outstanding g x (λ n. stays (message_holds n x) (λ y. refl)) in
    omega arith))

-- no message has the next number
unheld_next : (script : Script) (S : State) (x : ObjNo) → AreRows script S → held_in S (OfMessage (next_number S.serving.messages)) x ≡ 0
unheld_next script S x rows =
    let n = next_number S.serving.messages in
    let a = none_owed S.references.threads S.serving.servers S.serving.messages.accepted S.references.owed
    (OfMessage n) x rows.references.duties (λ k y later behind own. absurd (omega arith)) in
    let b : total (message_holds n x) S.serving.messages.outstanding ≡ 0 = zero_or (total (message_holds n x) S.serving.messages.outstanding) (λ some.
    let one = total_some (message_holds n x) S.serving.messages.outstanding some in
    let at = numbered n x one.0 one.2 in
    let given = rows.serving.messages.given one.0 one.1 in absurd (omega arith)) in omega arith
  where
    numbered : (n : MsgNo) (x : ObjNo) (message : Message) → 0 < message_holds n x message → message.number.0 ≡ n.0
    numbered n x message some = by (message.number.0 == n.0) refl some
      where
        by : (b : Bool) → (message.number.0 == n.0) ≡ b → 0 < (if b then message_names x message else 0) → message.number.0 ≡ n.0
        by true is some = eqb-true message.number.0 n.0 is
        by false is some = absurd (omega arith)

-- a message is accepted
sound-accept : (script : Script) (S : State) (slots : Slots) (row : MsgRow) → MayAccept S row → AreRows script S
    → Sound script S (record S { serving = record S.serving { messages = added S.serving.messages slots row } })
    (message_told (Accept slots row) S.serving.messages)
sound-accept script S slots row may rows =
    sound-of script S T (message_told (Accept slots row) S.serving.messages) rows (record {
      handles_long = refl;
      threads_long = refl;
      owed_long = refl;
      objects_few = rows.references.sized.objects_few;
      tables = rows.references.tables;
      threads = rows.references.threads;
      duties =
          duties-servers S.references.threads S.serving.servers S.serving.servers S.serving.messages.accepted
          (S.serving.messages.accepted + 1) S.references.owed (omega arith) (λ x _ none. none)
          rows.references.duties;
      synchronization = rows.synchronization;
      services = rows.services;
      spent = rows.references.spent;
      serving = record { servers = rows.serving.servers; messages = messages-accepted S slots row may rows.serving.messages };
    })
    (lives-quiet S T (message_told (Accept slots row) S.serving.messages) (refl, refl, refl)
    (quiet_of (λ o. refl))
    (λ o. let a = total-append (message_names o) S.serving.messages.outstanding (new ∷ []) in omega arith) (λ o. refl) (λ o alive. omega arith)
    (outs-found S T (λ o place. refl))
    (λ o some. elim (cases_lt 0 (same row.session o)) as (λ _. IsAlive (object_of S o)) [
      | inl session ↦ subst (λ (y : ObjNo). IsAlive (object_of S y)) (same_is row.session o session) (rows.lives.alive row.session may.session)
      | inr other ↦ subst (λ (y : ObjNo). IsAlive (object_of S y)) (same_is row.client o (omega arith)) (rows.lives.alive row.client may.client)
    ]) (λ o some. absurd (omega arith)))
    (record {
      fits = (
        tt,
        (
          unheld_next script S row.session rows,
          (
            let a = unheld_next script S row.client rows in
                let b = if_zero (is_holder (OfMessage (next_number S.serving.messages))
                (OfMessage (next_number S.serving.messages))) (same row.session row.client) apart in omega arith,
            tt,
          ),
        ),
      );
      moves = λ g x. sym (holds g x);
    })
  where
    new : Message
    new = record { number = next_number S.serving.messages; slots = slots; row = row }

    T : State
    T = record S { serving = record S.serving { messages = added S.serving.messages slots row } }

    holds : (g : Holder) (x : ObjNo) → held_in T g x
        ≡ held_in S g x + same_pair (OfMessage (next_number S.serving.messages)) row.session g x + same_pair
        (OfMessage (next_number S.serving.messages)) row.client g x
    holds g x = let a = holds-message S.serving.owned S.serving.servers.sessions S.serving.messages.outstanding new g x in omega arith

    -- no session is a thread
    apart : same row.session row.client ≡ 0
    apart = zero_or (same row.session row.client) (λ some.
        let none = rows.serving.servers.sessions_apart row.client may.thread in
        let known = may.known in
        let own = same_is row.session row.client some in
        let lost : is_some (session_at S.serving.servers row.session)
        ≡ false = ap (λ (x : ObjNo). is_some (session_at S.serving.servers x)) own ∙ ap is_some none in cc)

-- a message is finished
sound-finished : (script : Script) (S : State) (t : ObjNo) (m : MsgNo) (code : ℤ) (message : Message)
    → message_of S.serving.messages m ≡ Some message → MayOweMore S t → total weight (owed_of S t) + 8 ≤ 12
    → AreRows script S
    → Sound script S (record S {
      serving = record S.serving { messages = after_finish S.serving.messages m };
      references = record S.references { owed = owing S.references.owed t (closes_of (Some message)) };
    })
    (effect.Finish m code ∷ [])
sound-finished script S t m code message found may few rows =
    sound-of script S T (effect.Finish m code ∷ []) rows (record {
      handles_long = refl;
      threads_long = refl;
      owed_long = length-set S.references.owed t.0 _;
      objects_few = rows.references.sized.objects_few;
      tables = rows.references.tables;
      threads = rows.references.threads;
      duties =
          duties-owing S.references.threads S.serving.servers S.serving.messages.accepted S.references.owed t more
          (given, (given, tt)) (omega arith) may.going rows.references.duties;
      synchronization = synchronization-left script S S.references.objects S.references.threads (owing S.references.owed t more) (λ k none. none)
          (synchronization-then script S S.references.threads S.references.owed (owing S.references.owed t more)
          (synchronization-same script S rows) (leaves-owing S.references.threads S.references.owed t more
          S.synchronization.locks (λ u x. refl))) rows;
      services = rows.services;
      spent = rows.references.spent;
      serving = record {
        servers = rows.serving.servers;
        messages =
            messages-finished (IsUntold S.synchronization.requests S.synchronization.logons) S.references.threads
            S.serving.servers S.serving.messages m rows.serving.messages;
      };
    })
    (lives-quiet S T (effect.Finish m code ∷ []) (refl, refl, refl) (quiet_of (λ o. refl))
    (λ o. let a = one_goes (message_names o) m S.serving.messages.outstanding message rows.serving.messages.rising
    found in let b = total-owing (owed_names o) S.references.owed t more here in omega arith)
    (λ o. let b = total-owing (owed_sweeps o) S.references.owed t more here in omega arith)
    (λ o alive. omega arith) (outs-found S T (λ o place. refl)) (λ o some. absurd (omega arith)) (λ o some. absurd (omega arith)))
    (record {
      fits = (tt, tt);
      moves = λ g x. let a = holds-finished S.serving.owned S.serving.servers.sessions
          S.serving.messages.outstanding m message rows.serving.messages.rising found g x in
          let b = total-owing (owed_by g x) S.references.owed t more here in omega arith;
    })
  where
    more : List Owed
    more = closes_of (Some message)

    T : State
    T = record S {
      serving = record S.serving { messages = after_finish S.serving.messages m };
      references = record S.references { owed = owing S.references.owed t more };
    }

    here : t.0 < length S.references.owed
    here = let inside = thread_inside S.references.threads t.0 may.thread in let sized = rows.references.sized.duties in omega arith

    given : message.number.0 ≤ S.serving.messages.accepted
    given = rows.serving.messages.given message (found_there (has_number m) S.serving.messages.outstanding message found).0

sound-finish : (script : Script) (S : State) (t : ObjNo) (m : MsgNo) (code : ℤ) (found : Option Message)
    → message_of S.serving.messages m ≡ found → is_some found ≡ true → MayOweMore S t
    → total weight (owed_of S t) + 8 ≤ 12 → AreRows script S
    → Sound script S (record S {
      serving = record S.serving { messages = after_finish S.serving.messages m };
      references = record S.references { owed = owing S.references.owed t (closes_of found) };
    })
    (effect.Finish m code ∷ [])
sound-finish script S t m code None at some may few rows = absurd (cc)
sound-finish script S t m code (Some message) at some may few rows = sound-finished script S t m code message at may few rows

pub sound-messages : (script : Script) (S : State) (t : ObjNo) (m : MessageMove) → FitsMove script t (Messages m) S
    → total weight (owed_of S t) + message_owes m ≤ 12 → AreRows script S
    → Sound script S (moved t (Messages m) S) (told (Messages m) S)
sound-messages script S t (Accept slots row) fits few rows = sound-accept script S slots row fits.0 rows
sound-messages script S t (Take o) fits few rows = sound-taken script S (next_of S.serving.messages o) rows
sound-messages script S t (Finish m code) fits few rows = sound-finish script S t m code (message_of S.serving.messages m) refl fits.0 fits.1 few rows

-- it sweeps nothing
pub message_removes : (m : MessageMove) (S : State) (p : ObjNo) → removals (message_told m S.serving.messages) p ≡ 0
message_removes (Accept slots row) S p = refl
message_removes _ S p = refl

-- what it adds to the weight of what its thread owes
closes_weight : (found : Option Message) → total weight (closes_of found) ≤ 8
closes_weight None = omega arith
closes_weight (Some message) = omega arith

pub message_weight : (S : State) (t : ObjNo) (m : MessageMove)
    → total weight (get_or (message_owed t m S.serving.messages S.references.owed) t.0 [])
    ≤ total weight (owed_of S t) + message_owes m
message_weight S t (Finish m code) =
    let a = weight-owing S.references.owed t (closes_of (message_of S.serving.messages m)) in
    let b = closes_weight (message_of S.serving.messages m) in
    omega arith
message_weight S t _ = omega arith
