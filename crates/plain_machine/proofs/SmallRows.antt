-- The rows of threads that synchronize stay small: a change keeps the number of fast mutexes, and no suspend count
-- rises above 127. So do the numbers of messages, while there is room.
use Rattle.std.proofs.Common.{◌≡◌, ℕ, ◌+◌, ◌-◌, ◌<◌, ◌≤◌, List, length, get_or, arith, refl, sym, subst, Bool, true, false, not, Option, Some, None}
use Rattle.std.specs.Prelude.{◌==◌, if◌then◌else◌, nat_lt, slice_set}
use Rattle.std.proofs.lemmas.List.Elements.{All-push, All-weaker, All-map, All-filter}
use Rattle.std.proofs.lemmas.List.{length-set}
use Rattle.sym_base.specs.declared.number.ObjNo.{ObjNo}
use Rattle.state_rows.specs.declared.duty.Owed.TheVariants.{Close, Sweep}
use Rattle.state_rows.specs.declared.nano.NanoRows.{NanoRows}
use Rattle.state_rows.specs.Nano.{suspend_count, is_free, is_holder}
use Rattle.sym_base.specs.declared.kind.Slots.{Slots}
use Rattle.sym_base.specs.declared.number.MsgNo.{MsgNo}
use Rattle.state_rows.specs.declared.messages.Message.{Message}
use Rattle.state_rows.specs.declared.messages.MessageRows.{MessageRows}
use Rattle.state_rows.specs.declared.messages.MsgRow.{MsgRow}
use Rattle.state_rows.specs.MessageChanges.{next_number, next_of, added, after_set_length, edited, resized, taken, taken_row, with_edited}
use Rattle.state_rows.specs.declared.thread.ThreadRow.{ThreadRow}
use Rattle.state_rows.specs.MessageRows.{has_number}
use Rattle.copy_rules.specs.Ends.{ends_of}
use Rattle.copy_rules.specs.Pieces.{unless_refused}
use Rattle.copy_rules.specs.Refusals.{write_refusal}
use Rattle.copy_rules.specs.Sizes.{done_after, write_size}
use Rattle.copy_rules.specs.declared.job.CopyMove.{CopyMove}
use Rattle.copy_rules.specs.declared.job.CopyMove.TheVariants.{Read, Write as WriteCopy}
use Rattle.copy_rules.specs.declared.job.Piece.{Piece}
use Rattle.machine.specs.CopyMoves.{messages_copied}
use Rattle.readings.specs.Readable.{AreSmallRows, AreSmallNumbers}
use Rattle.machine.specs.declared.message_move.MessageMove.{MessageMove}
use Rattle.machine.specs.declared.message_move.MessageMove.TheVariants.{Accept, Take as TakeMessage, Finish}
use Rattle.machine.specs.MessageMoves.{messages_moved}
use Rattle.machine.specs.Room.{HasRoom}
use Rattle.plain_machine.specs.Allowed.{IsSmall}
use Rattle.machine.specs.declared.moves.Move.{Move}
use Rattle.machine.specs.declared.moves.Move.TheVariants.{Make, Gain, Lose, Find, Open, Miss, GoOn, Keep, Write, WriteMessage, PutDown, Advance, Wait, Wake, SetPriority, Nano, Deferred, Requests, Locks, Logons, Death, Servers, Messages, Copies, Fill, Pay}
use Rattle.machine.specs.declared.nano_move.NanoMove.{NanoMove}
use Rattle.machine.specs.declared.nano_move.NanoMove.TheVariants.{Take, Give, Want, Enter, Leave, LeaveAll, Suspend, Resume, Release, Raise, Lower}
use Rattle.machine.specs.declared.state.State.{State}
use Rattle.machine.specs.Moves.{moved}
use Rattle.machine.specs.NanoMoves.{nano_moved}
use Rattle.move_laws.proofs.Lists.Sets.{set_keeps}

length_where : {A : Type 0} (changes : Bool) (xs : List A) (k : ℕ) (x : A) → length (if changes then slice_set xs k x else xs) ≡ length xs
length_where true xs k x = length-set xs k x
length_where false xs k x = refl

-- a message whose number has 31 bits
abbrev pub IsSmallNumber : Message → Type 0
IsSmallNumber message = message.number.0 < 2147483648

-- counts of at most 127
abbrev AreLimited : List ℕ → Type 0
AreLimited counts = (k : ℕ) → get_or counts k 0 ≤ 127

limited_set : (counts : List ℕ) (k count : ℕ) → count ≤ 127 → AreLimited counts → AreLimited (slice_set counts k count)
limited_set counts k count few limited = set_keeps (λ (n : ℕ). n ≤ 127) counts k count 0 few limited

limited_more : (counts : List ℕ) (k : ℕ) (ends : Bool) → (get_or counts k 0 == 127) ≡ ends → AreLimited counts
    → AreLimited (if ends then counts else slice_set counts k (get_or counts k 0 + 1))
limited_more counts k true e limited = limited
limited_more counts k false e limited = limited_set counts k (get_or counts k 0 + 1) (let few = limited k in grind arith) limited

by_number : (r : NanoRows) → AreSmallRows r → AreLimited r.suspensions
by_number r small k = small.suspensions (record { 0 = k })

small_nano : (m : NanoMove) (r : NanoRows) → AreSmallRows r → AreSmallRows (nano_moved m r)
small_nano (Take t f) r small = record {
  mutexes = let same = length_where (is_free r f) r.holders f (Some t) in let few = small.mutexes in omega arith;
  suspensions = small.suspensions;
}
small_nano (Give t f) r small = record {
  mutexes = let same = length_where (is_holder r t f) r.holders f None in let few = small.mutexes in omega arith;
  suspensions = small.suspensions;
}
small_nano (Want t f) r small = record { mutexes = small.mutexes; suspensions = small.suspensions }
small_nano (Enter t) r small = record { mutexes = small.mutexes; suspensions = small.suspensions }
small_nano (Leave t) r small = record { mutexes = small.mutexes; suspensions = small.suspensions }
small_nano (LeaveAll t) r small = record { mutexes = small.mutexes; suspensions = small.suspensions }
small_nano (Suspend t) r small = record {
  mutexes = small.mutexes;
  suspensions = λ u. limited_more r.suspensions t.0 (suspend_count r t == 127) refl (by_number r small) u.0;
}
small_nano (Resume t) r small = record {
  mutexes = small.mutexes;
  suspensions =
      λ u. limited_set r.suspensions t.0 (suspend_count r t - 1) (let few = small.suspensions t in omega arith)
      (by_number r small) u.0;
}
small_nano (Release t) r small = record { mutexes = small.mutexes; suspensions = λ u. limited_set r.suspensions t.0 0 (omega arith) (by_number r small) u.0 }
small_nano (Raise t) r small = record { mutexes = small.mutexes; suspensions = small.suspensions }
small_nano (Lower t) r small = record { mutexes = small.mutexes; suspensions = small.suspensions }

-- The numbers of messages stay small: the next one has room.
small_added : (n : ℕ) (r : MessageRows) (slots : Slots) (row : MsgRow) → r.accepted + (n + 1) ≤ 2147483647
    → AreSmallNumbers r.outstanding → AreSmallNumbers (added r slots row).outstanding
small_added n r slots row room small =
    let message : Message = record { number = next_number r; slots = slots; row = row } in
    All-push IsSmallNumber r.outstanding message small (omega arith)

small_edited : (m : MsgNo) (change : MsgRow → MsgRow) (message : Message) → IsSmallNumber message → IsSmallNumber (edited m change message)
small_edited m change message few = small_where (has_number m message)
  where
    small_where : (same : Bool) → IsSmallNumber (if same then record message { row = change message.row } else message)
    small_where true = few
    small_where false = few

small_changed : (r : MessageRows) (m : MsgNo) (change : MsgRow → MsgRow) → AreSmallNumbers r.outstanding → AreSmallNumbers (with_edited r m change).outstanding
small_changed r m change small =
    All-map IsSmallNumber (edited m change) r.outstanding
    (All-weaker IsSmallNumber (λ (message : Message). IsSmallNumber (edited m change message))
    (small_edited m change) r.outstanding small)

small_taken : (r : MessageRows) (found : Option MsgNo) → AreSmallNumbers r.outstanding → AreSmallNumbers (taken r found).outstanding
small_taken r None small = small
small_taken r (Some m) small = small_changed r m taken_row small

small_messages : (m : MessageMove) (n : ℕ) (r : MessageRows) → r.accepted + (n + 1) ≤ 2147483647
    → AreSmallNumbers r.outstanding → AreSmallNumbers (messages_moved m r).outstanding
small_messages (Accept slots row) n r room small = small_added n r slots row room small
small_messages (TakeMessage o) n r room small = small_taken r (next_of r o) small
small_messages (Finish m code) n r room small = All-filter (λ (message : Message). not (has_number m message)) IsSmallNumber r.outstanding small

small_copied : (m : CopyMove) (threads : List (Option ThreadRow)) (r : MessageRows) → AreSmallNumbers r.outstanding
    → AreSmallNumbers (messages_copied m threads r).outstanding
small_copied (Read job) threads r small = small
small_copied (WriteCopy job) threads r small = by (write_refusal (ends_of threads r job) job) (nat_lt (done_after (write_size job) job.done) (write_size job))
  where
    by : (refusal : Option Piece) (goes_on : Bool)
        → AreSmallNumbers (unless_refused refusal r
        (if goes_on then r else after_set_length r job.m job.arg (job.offset + job.len))).outstanding
    by (Some refusal) goes_on = small
    by None true = small
    by None false = small_changed r job.m (resized job.arg (job.offset + job.len)) small

-- so both stay after each move
same_rows : (S T : State) → T.synchronization.nano ≡ S.synchronization.nano → T.serving.messages ≡ S.serving.messages → IsSmall S → IsSmall T
same_rows S T same messages small = record {
  nano = subst AreSmallRows (sym same) small.nano;
  messages = subst (λ (r : MessageRows). AreSmallNumbers r.outstanding) (sym messages) small.messages;
}

pub small_moved : (t : ObjNo) (m : Move) (n : ℕ) (S : State) → HasRoom (n + 1) S → IsSmall S → IsSmall (moved t m S)
small_moved t (Nano m) n S room small = record { nano = small_nano m S.synchronization.nano small.nano; messages = small.messages }
small_moved t (Messages m) n S room small = record { nano = small.nano; messages = small_messages m n S.serving.messages room.messages small.messages }
small_moved t (Copies m) n S room small = record { nano = small.nano; messages = small_copied m S.references.threads S.serving.messages small.messages }
small_moved t (Pay (Close h o)) n S room small = same_rows S (moved t (Pay (Close h o)) S) refl refl small
small_moved t (Pay (Sweep o)) n S room small = same_rows S (moved t (Pay (Sweep o)) S) refl refl small
small_moved t (Make kind name h) n S room small = same_rows S (moved t (Make kind name h) S) refl refl small
small_moved t (Gain h o) n S room small = same_rows S (moved t (Gain h o) S) refl refl small
small_moved t (Lose h o) n S room small = same_rows S (moved t (Lose h o) S) refl refl small
small_moved t (Find u o) n S room small = same_rows S (moved t (Find u o) S) refl refl small
small_moved t (Open u o part) n S room small = same_rows S (moved t (Open u o part) S) refl refl small
small_moved t (Miss u o) n S room small = same_rows S (moved t (Miss u o) S) refl refl small
small_moved t (GoOn u part) n S room small = same_rows S (moved t (GoOn u part) S) refl refl small
small_moved t (Keep u number) n S room small = same_rows S (moved t (Keep u number) S) refl refl small
small_moved t (Write u x value) n S room small = same_rows S (moved t (Write u x value) S) refl refl small
small_moved t (WriteMessage u y number) n S room small = same_rows S (moved t (WriteMessage u y number) S) refl refl small
small_moved t (PutDown u) n S room small = same_rows S (moved t (PutDown u) S) refl refl small
small_moved t (Advance u) n S room small = same_rows S (moved t (Advance u) S) refl refl small
small_moved t (Wait u what) n S room small = same_rows S (moved t (Wait u what) S) refl refl small
small_moved t (Wake u) n S room small = same_rows S (moved t (Wake u) S) refl refl small
small_moved t (SetPriority u priority) n S room small = same_rows S (moved t (SetPriority u priority) S) refl refl small
small_moved t (Deferred m) n S room small = same_rows S (moved t (Deferred m) S) refl refl small
small_moved t (Requests m) n S room small = same_rows S (moved t (Requests m) S) refl refl small
small_moved t (Locks m) n S room small = same_rows S (moved t (Locks m) S) refl refl small
small_moved t (Logons m) n S room small = same_rows S (moved t (Logons m) S) refl refl small
small_moved t (Death m) n S room small = same_rows S (moved t (Death m) S) refl refl small
small_moved t (Servers m) n S room small = same_rows S (moved t (Servers m) S) refl refl small
small_moved t (Fill p at long byte) n S room small = same_rows S (moved t (Fill p at long byte) S) refl refl small
