-- Pieces of copies. A piece changes the memory of one process, and the last one of a write how many bytes a message's descriptor has. It changes
-- no reference.
use Rattle.std.proofs.Common.{◌≡◌, ℕ, ◌+◌, ◌≤◌, Bool, true, false, List, [], length, arith, refl, ◌∙◌, Option, Some, None}
use Rattle.std.specs.Prelude.{nat_lt, if◌then◌else◌}
use Rattle.std.specs.List.{range_with_len}
use Rattle.std.proofs.lemmas.List.{length-append, length-drop, length-map, length-take}
use Rattle.std.proofs.lemmas.List.FromFn.{length-range_with_len}
use Rattle.sym_base.specs.declared.number.MsgNo.{MsgNo}
use Rattle.sym_base.specs.declared.number.ObjNo.{ObjNo}
use Rattle.script_types.specs.declared.script.Script.{Script}
use Rattle.state_rows.specs.MessageChanges.{after_set_length, resized}
use Rattle.state_rows.specs.declared.messages.Message.{Message}
use Rattle.state_rows.specs.declared.messages.MessageRows.{MessageRows}
use Rattle.state_rows.specs.declared.thread.ThreadRow.{ThreadRow}
use Rattle.copy_rules.specs.Ends.{ends_of}
use Rattle.copy_rules.specs.Memory.{byte_of, bytes_from, copied, overwritten}
use Rattle.copy_rules.specs.Pieces.{caller_place, client_place, unless_refused, with_length_set}
use Rattle.copy_rules.specs.Refusals.{read_refusal, write_refusal}
use Rattle.copy_rules.specs.Sizes.{done_after, piece_size, read_size, write_size}
use Rattle.copy_rules.specs.declared.ends.Ends.{Ends}
use Rattle.copy_rules.specs.declared.job.CopyMove.{CopyMove}
use Rattle.copy_rules.specs.declared.job.CopyMove.TheVariants.{Read, Write}
use Rattle.copy_rules.specs.declared.job.Piece.{Piece}
use Rattle.copy_rules.specs.declared.job.Place.{Place}
use Rattle.copy_rules.proofs.Within.{read_within, write_within}
use Rattle.machine.specs.CopyMoves.{messages_copied}
use Rattle.machine.specs.Fits.{FitsMove}
use Rattle.machine.specs.HeldIn.{message_holds}
use Rattle.machine.specs.Moves.{moved, told}
use Rattle.machine.specs.References.{message_names, total}
use Rattle.machine.specs.WellFormed.{AreMemories, AreRows, IsUntold}
use Rattle.machine.specs.declared.moves.Move.TheVariants.{Copies}
use Rattle.machine.specs.declared.state.State.{State}
use Rattle.move_laws.proofs.Holders.HoldersMove.{holders-none}
use Rattle.move_laws.proofs.Holders.Serving.{holds-same}
use Rattle.move_laws.proofs.Lives.Kinds.{lives-none}
use Rattle.move_laws.proofs.MoveLaws.RowMoves.{sound-services}
use Rattle.move_laws.proofs.MoveLaws.Sound.{Sound, sound-none, sound-of}
use Rattle.move_laws.proofs.RowLaws.Memories.{memories-changed}
use Rattle.move_laws.proofs.RowLaws.Messages.{edited-total, messages-edited}

-- a piece has as many bytes as are copied
bytes_long : (memories : List (Option (List ℕ))) (from : Place) (count : ℕ) → length (bytes_from memories from count) ≡ count
bytes_long memories from count = length-map (range_with_len from.at count) (byte_of memories from.process) ∙ length-range_with_len from.at count

-- a memory of which a piece is overwritten has as many bytes as before
length-overwritten : (at : ℕ) (piece bytes : List ℕ) → at + length piece ≤ length bytes → length (overwritten at piece bytes) ≡ length bytes
length-overwritten at piece bytes within = simp (length-append, length-take, length-drop) (omega arith)

-- a piece is copied
pub memories-copied : (threads : List (Option ThreadRow)) (memories : List (Option (List ℕ))) (from to : Place)
    (count : ℕ)
    → to.at + count ≤ 1024 → AreMemories threads memories → AreMemories threads (copied memories from to count)
memories-copied threads memories from to count within h =
    let piece : List ℕ = bytes_from memories from count in
    let few = bytes_long memories from count in
    memories-changed threads memories to.process (overwritten to.at piece)
    (λ bytes long. let same = length-overwritten to.at piece bytes (omega arith) in omega arith) h

-- the memories change, and the length of a message's argument
sound-resized : (script : Script) (S : State) (memories : List (Option (List ℕ))) (m : MsgNo) (arg size : ℕ)
    → AreMemories S.references.threads memories → AreRows script S
    → Sound script S (record S {
      services = record S.services { memories = memories };
      serving = record S.serving { messages = after_set_length S.serving.messages m arg size };
    }) []
sound-resized script S memories m arg size kept rows =
    let T : State = record S {
      services = record S.services { memories = memories };
      serving = record S.serving { messages = after_set_length S.serving.messages m arg size };
    } in
    let stays : (f : Message → ℕ) → ((message : Message) → f (record message { row = resized arg size message.row })
    ≡ f message) → total f T.serving.messages.outstanding ≡ total f S.serving.messages.outstanding =
    λ f keeps.
    edited-total (IsUntold S.synchronization.requests S.synchronization.logons) S.references.threads S.serving.servers
    S.serving.messages m (resized arg size) (λ row. refl) (λ row. refl) (λ row. refl) f keeps in
    sound-of script S T [] rows (record {
      handles_long = refl;
      threads_long = refl;
      owed_long = refl;
      objects_few = rows.references.sized.objects_few;
      tables = rows.references.tables;
      threads = rows.references.threads;
      duties = rows.references.duties;
      synchronization = rows.synchronization;
      services = record { memories = kept };
      spent = rows.references.spent;
      serving = record {
        servers = rows.serving.servers;
        messages =
            messages-edited (IsUntold S.synchronization.requests S.synchronization.logons) S.references.threads
            S.serving.servers S.serving.messages m (resized arg size) (λ row. refl) (λ row. refl)
            (λ row. refl) rows.serving.messages;
      };
    })
    (lives-none S T (refl, refl, refl) (λ o. let a = stays (message_names o) (λ x. refl) in omega arith) (λ o. refl) (λ o place. refl))
    (holders-none S T (λ g x. let a = holds-same S.serving.owned S.serving.servers.sessions
    S.serving.messages.outstanding T.serving.messages.outstanding g x (λ n. stays (message_holds n x) (λ y. refl)) in
    omega arith))

pub sound-copies : (script : Script) (S : State) (t : ObjNo) (m : CopyMove) → FitsMove script t (Copies m) S
    → AreRows script S → Sound script S (moved t (Copies m) S) (told (Copies m) S)
sound-copies script S t (Read job) fits rows = by (read_refusal ends job) refl
  where
    ends : Ends
    ends = ends_of S.references.threads S.serving.messages job

    after : List (Option (List ℕ))
    after = copied S.services.memories (client_place ends job) (caller_place ends job) (piece_size (read_size ends job) job.done)

    by : (refusal : Option Piece) → read_refusal ends job ≡ refusal
        → Sound script S (record S {
          services = record S.services
              { memories = unless_refused refusal S.services.memories after };
        }) []
    by (Some refusal) is = sound-none script S rows
    by None is = sound-services script S (record S.services { memories = after })
        (record {
          memories = memories-copied S.references.threads S.services.memories (client_place ends job)
              (caller_place ends job) (piece_size (read_size ends job) job.done)
              (read_within ends job is fits.done) rows.services.memories;
        }) rows
sound-copies script S t (Write job) fits rows = by (write_refusal ends job) refl
  where
    ends : Ends
    ends = ends_of S.references.threads S.serving.messages job

    after : List (Option (List ℕ))
    after = copied S.services.memories (caller_place ends job) (client_place ends job) (piece_size (write_size job) job.done)

    last : (goes_on : Bool) → AreMemories S.references.threads after
        → Sound script S (record S {
          services = record S.services { memories = after };
          serving = record S.serving {
            messages = if goes_on then S.serving.messages else after_set_length S.serving.messages
                job.m job.arg (job.offset + job.len);
          };
        }) []
    last true kept = sound-services script S (record S.services { memories = after }) (record { memories = kept }) rows
    last false kept = sound-resized script S after job.m job.arg (job.offset + job.len) kept rows

    by : (refusal : Option Piece) → write_refusal ends job ≡ refusal
        → Sound script S (record S {
          services = record S.services
              { memories = unless_refused refusal S.services.memories after };
          serving = record S.serving {
            messages = unless_refused refusal S.serving.messages
                (with_length_set S.serving.messages job);
          };
        }) []
    by (Some refusal) is = sound-none script S rows
    by None is = last (nat_lt (done_after (write_size job) job.done) (write_size job))
        (memories-copied S.references.threads S.services.memories (caller_place ends job) (client_place ends job)
        (piece_size (write_size job) job.done) (write_within ends job is fits.done) rows.services.memories)

-- a piece accepts no message
pub copy_accepts : (m : CopyMove) (threads : List (Option ThreadRow)) (r : MessageRows) → (messages_copied m threads r).accepted ≡ r.accepted
copy_accepts (Read job) threads r = refl
copy_accepts (Write job) threads r = by (write_refusal (ends_of threads r job) job) (nat_lt (done_after (write_size job) job.done) (write_size job))
  where
    by : (refusal : Option Piece) (goes_on : Bool)
        → (unless_refused refusal r (if goes_on then r else after_set_length r job.m job.arg
        (job.offset + job.len))).accepted ≡ r.accepted
    by (Some refusal) goes_on = refl
    by None true = refl
    by None false = refl
