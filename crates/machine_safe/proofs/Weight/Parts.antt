-- What a change of rows does to each part of a weight.
use Rattle.std.proofs.Common.{◌≡◌, inl, inr, ℕ, zero, suc, ◌+◌, ◌≤◌, List, [], ◌∷◌, length, get_or, set, arith, refl, sym, ap, subst, Bool, true, false, Option, Some, None}
use Rattle.std.specs.Prelude.{not, nat_lt, ◌==◌, if◌then◌else◌, map}
use Rattle.std.proofs.lemmas.Bool.{eq-eqb}
use Rattle.std.proofs.lemmas.List.{get_or-set_other, length-append}
use Rattle.sym_base.specs.declared.number.MsgNo.{MsgNo}
use Rattle.sym_base.specs.declared.number.ObjNo.{ObjNo}
use Rattle.sym_base.specs.declared.kind.Slots.{Slots}
use Rattle.copy_rules.specs.Ends.{ends_of}
use Rattle.copy_rules.specs.Pieces.{unless_refused, with_length_set}
use Rattle.copy_rules.specs.Refusals.{write_refusal}
use Rattle.copy_rules.specs.Sizes.{done_after, write_size}
use Rattle.copy_rules.specs.declared.job.Piece.{Piece}
use Rattle.copy_rules.specs.declared.job.CopyMove.{CopyMove}
use Rattle.copy_rules.specs.declared.job.CopyMove.TheVariants.{Read, Write}
use Rattle.entry_log.specs.declared.effect.Holder.{Holder}
use Rattle.entry_log.specs.declared.effect.Holder.TheVariants.{Own, Link}
use Rattle.state_rows.specs.HandleSlots.{fresh_slot, slot_at}
use Rattle.state_rows.specs.MessageChanges.{added, after_finish, after_set_length, after_take, edited, next_of, resized, taken, taken_row, with_edited}
use Rattle.state_rows.specs.MessageRows.{has_number, is_at, messages_at}
use Rattle.state_rows.specs.ServerChanges.{after_add_session, after_closing, unlisted, without}
use Rattle.state_rows.specs.ServerRows.{linked_at, server_of}
use Rattle.state_rows.specs.declared.handle_slot.HandleSlot.{HandleSlot}
use Rattle.state_rows.specs.declared.messages.Message.{Message}
use Rattle.state_rows.specs.declared.messages.MessageRows.{MessageRows}
use Rattle.state_rows.specs.declared.messages.MsgRow.{MsgRow}
use Rattle.state_rows.specs.declared.servers.ServerRows.{ServerRows}
use Rattle.state_rows.specs.declared.thread.ThreadRow.{ThreadRow}
use Rattle.machine.specs.CopyMoves.{messages_copied}
use Rattle.machine.specs.Handles.{freed_slot, taken_slot, with_slot}
use Rattle.machine.specs.LogonMoves.{logons_moved, logons_on, without_maker, is_logon, is_made_by}
use Rattle.machine.specs.References.{same, total}
use Rattle.machine.specs.ServerMoves.{all_closing, owned_by, owned_lose, servers_closed, servers_lose}
use Rattle.machine.specs.declared.logon_move.LogonMove.{LogonMove}
use Rattle.machine.specs.declared.logon_move.LogonMove.TheVariants.{Add, Remove, Drop}
use Rattle.move_laws.proofs.Lists.Sets.{set_either}
use Rattle.move_laws.proofs.Lists.Totals.{get-with, total-with, total-filter}
use Rattle.move_laws.proofs.References.Same.{if_is}
use Rattle.machine_safe.proofs.Weight.Lists.{filter-behind, filter-both, filter-mapped, filter-shorter, total-set_most}
use Rattle.machine_safe.specs.Weight.{handle_bit, handles_in, use_bit}

-- an item is the one that was set, or the one that stood there
either : {A : Type 0} (P : A → Type 0) (xs : List A) (i : ℕ) (y : A) (j : ℕ) (d : A) → (j ≡ i → P y) → P (get_or xs j d) → P (get_or (set xs i y) j d)
either P xs i y j d new old = elim (set_either xs i y j d) as (λ _. P (get_or (set xs i y) j d)) [
  | inl at ↦ subst P (sym at.1) (new at.0)
  | inr other ↦ subst P (sym other) old
]

-- a handle that comes, and one that goes
pub table-taken : (tables : List (List HandleSlot)) (q p : ObjNo) (i : ℕ) (o : ObjNo)
    → handles_in (get_or (with_slot tables q i (taken_slot o)) p.0 []) ≤ handles_in (get_or tables p.0 []) + same q p
table-taken tables q p i o = either (λ (table : List HandleSlot). handles_in table ≤ handles_in (get_or tables p.0 []) + same q p) tables q.0 _ p.0 []
    (λ at.
    let one = if_is (q.0 == p.0) 1 (eq-eqb q.0 p.0 (sym at)) in
    let own : handles_in (get_or tables q.0 []) ≡ handles_in (get_or tables p.0 []) = ap (λ (n : ℕ). handles_in (get_or tables n [])) (sym at) in
    let most = total-set_most handle_bit (get_or tables q.0 []) i (taken_slot o (slot_at (get_or tables q.0 []) i)) in omega arith)
    (omega arith)

freed-slot : (slot : HandleSlot) → handle_bit (freed_slot slot) ≡ 0
freed-slot slot = refl

pub slots-freed : (table : List HandleSlot) (i : ℕ) → handles_in (set table i (freed_slot (slot_at table i))) + handle_bit (slot_at table i) ≡ handles_in table
slots-freed table i = let a = total-with handle_bit freed_slot fresh_slot table i refl in let b = freed-slot (slot_at table i) in omega arith

pub table-freed : (tables : List (List HandleSlot)) (q p : ObjNo) (i : ℕ)
    → handles_in (get_or (with_slot tables q i freed_slot) p.0 []) ≤ handles_in (get_or tables p.0 [])
table-freed tables q p i = either (λ (table : List HandleSlot). handles_in table ≤ handles_in (get_or tables p.0 [])) tables q.0 _ p.0 []
    (λ at.
    let own : handles_in (get_or tables q.0 []) ≡ handles_in (get_or tables p.0 []) = ap (λ (n : ℕ). handles_in (get_or tables n [])) (sym at) in
    let freed = slots-freed (get_or tables q.0 []) i in omega arith)
    (omega arith)

-- one fewer where there was one
pub table-freed_one : (tables : List (List HandleSlot)) (q : ObjNo) (i : ℕ) (o : ObjNo)
    → (slot_at (get_or tables q.0 []) i).object ≡ Some o
    → handles_in (get_or (with_slot tables q i freed_slot) q.0 []) + 1 ≤ handles_in (get_or tables q.0 [])
table-freed_one tables q i o is =
    let new = ap handles_in (get-with (λ (table : List HandleSlot). set table i (freed_slot (slot_at table i))) [] tables q.0 refl) in
    let freed = slots-freed (get_or tables q.0 []) i in
    let bit : handle_bit (slot_at (get_or tables q.0 []) i) ≡ 1 = ap use_bit is in omega arith

-- messages of a server: one that is finished, some that change, and one that comes to another server
pub messages-finished : (r : MessageRows) (m : MsgNo) (o : ObjNo) → length (messages_at (after_finish r m) o) ≤ length (messages_at r o)
messages-finished r m o = filter-both (is_at o.0) (λ (message : Message). not (has_number m message)) r.outstanding

edited-at : (m : MsgNo) (change : MsgRow → MsgRow) (o : ObjNo) → ((row : MsgRow) → (change row).server ≡ row.server)
    → (message : Message) → is_at o.0 (edited m change message) ≡ is_at o.0 message
edited-at m change o keeps message = by (has_number m message)
  where
    by : (b : Bool) → is_at o.0 (if b then record message { row = change message.row } else message) ≡ is_at o.0 message
    by true = ap (λ (v : ObjNo). v.0 == o.0) (keeps message.row)
    by false = refl

pub messages-edited : (r : MessageRows) (m : MsgNo) (change : MsgRow → MsgRow) (o : ObjNo)
    → ((row : MsgRow) → (change row).server ≡ row.server)
    → length (messages_at (with_edited r m change) o) ≡ length (messages_at r o)
messages-edited r m change o keeps = filter-mapped (is_at o.0) (edited m change) r.outstanding (edited-at m change o keeps)

pub messages-taken : (r : MessageRows) (v o : ObjNo) → length (messages_at (after_take r v) o) ≡ length (messages_at r o)
messages-taken r v o = by (next_of r v)
  where
    by : (m : Option MsgNo) → length (messages_at (taken r m) o) ≡ length (messages_at r o)
    by None = refl
    by (Some m) = messages-edited r m taken_row o (λ row. refl)

pub messages-copied : (m : CopyMove) (threads : List (Option ThreadRow)) (r : MessageRows) (o : ObjNo)
    → length (messages_at (messages_copied m threads r) o) ≡ length (messages_at r o)
messages-copied (Read job) threads r o = refl
messages-copied (Write job) threads r o = by (write_refusal (ends_of threads r job) job)
  where
    whole : (b : Bool) → length (messages_at (if b then r else after_set_length r job.m job.arg (job.offset + job.len)) o) ≡ length (messages_at r o)
    whole true = refl
    whole false = messages-edited r job.m (resized job.arg (job.offset + job.len)) o (λ row. refl)

    by : (refusal : Option Piece) → length (messages_at (unless_refused refusal r (with_length_set r job)) o) ≡ length (messages_at r o)
    by (Some piece) = refl
    by None = whole (nat_lt (done_after (write_size job) job.done) (write_size job))

pub messages-accepted : (r : MessageRows) (slots : Slots) (row : MsgRow) (o : ObjNo) → (row.server.0 == o.0) ≡ false
    → length (messages_at (added r slots row) o) ≡ length (messages_at r o)
messages-accepted r slots row o other = ap length (filter-behind (is_at o.0) r.outstanding _ other)

-- sessions of a server: one that goes, and one that comes to another server
links-unlisted : (server : Option ObjNo) (s : ObjNo) (linked : List (List ObjNo)) (o : ObjNo)
    → length (get_or (unlisted server s linked) o.0 []) ≤ length (get_or linked o.0 [])
links-unlisted None s linked o = omega arith
links-unlisted (Some v) s linked o = either (λ (l : List ObjNo). length l ≤ length (get_or linked o.0 [])) linked v.0 _ o.0 []
    (λ at. subst (λ (n : ℕ). length (without s (get_or linked v.0 [])) ≤ length (get_or linked n [])) (sym at)
    (filter-shorter (λ (other : ObjNo). not (other.0 == s.0)) (get_or linked v.0 []))) (omega arith)

links-lost : (h : Holder) (r : ServerRows) (o : ObjNo) → length (linked_at (servers_lose h r) o) ≤ length (linked_at r o)
links-lost (Link s) r o = links-unlisted (server_of r s) s r.linked o
links-lost _ r o = omega arith

links-closed : (dying : Bool) (x : ObjNo) (r : ServerRows) (o : ObjNo) → length (linked_at (servers_closed dying x r) o) ≤ length (linked_at r o)
links-closed true x r o = links-unlisted (server_of r x) x r.linked o
links-closed false x r o = omega arith

pub links-gone : (dying : Bool) (h : Holder) (x : ObjNo) (r : ServerRows) (o : ObjNo)
    → length (linked_at (servers_closed dying x (servers_lose h r)) o) ≤ length (linked_at r o)
links-gone dying h x r o = let a = links-closed dying x (servers_lose h r) o in let b = links-lost h r o in omega arith

pub links-paid : (dying : Bool) (x : ObjNo) (r : ServerRows) (o : ObjNo) → length (linked_at (servers_closed dying x r) o) ≤ length (linked_at r o)
links-paid dying x r o = links-closed dying x r o

pub links-joined : (r : ServerRows) (s v : ObjNo) (slots : Slots) (client o : ObjNo) → (o.0 ≡ v.0 → ⊥)
    → linked_at (after_add_session r s v slots client) o ≡ linked_at r o
links-joined r s v slots client o other = get_or-set_other r.linked v.0 o.0 _ [] other

pub closing-linked : (os : List ObjNo) (r : ServerRows) → (all_closing os r).linked ≡ r.linked
closing-linked [] r = refl
closing-linked (o ∷ os) r = closing-linked os (after_closing r o)

-- the servers that a thread owns, where an ownership goes
pub servers-fewer : (h : Holder) (o : ObjNo) (owned : List (List ObjNo)) (t : ObjNo) → length (owned_by (owned_lose h o owned) t) ≤ length (owned_by owned t)
servers-fewer (Own u) o owned t = either (λ (l : List ObjNo). length l ≤ length (owned_by owned t)) owned u.0 _ t.0 []
    (λ at. subst (λ (n : ℕ). length (without o (get_or owned u.0 [])) ≤ length (get_or owned n [])) (sym at)
    (filter-shorter (λ (other : ObjNo). not (other.0 == o.0)) (get_or owned u.0 []))) (omega arith)
servers-fewer _ o owned t = omega arith

pub servers-less : (f : ObjNo → ℕ) (h : Holder) (o : ObjNo) (owned : List (List ObjNo)) (t : ObjNo)
    → total f (owned_by (owned_lose h o owned) t) ≤ total f (owned_by owned t)
servers-less f (Own u) o owned t = either (λ (l : List ObjNo). total f l ≤ total f (owned_by owned t)) owned u.0 _ t.0 []
    (λ at. subst (λ (n : ℕ). total f (without o (get_or owned u.0 [])) ≤ total f (get_or owned n [])) (sym at)
    (total-filter f (λ (other : ObjNo). not (other.0 == o.0)) (get_or owned u.0 []))) (omega arith)
servers-less f _ o owned t = omega arith

-- 1 for a logon on a thread that is made; and how many logons there are then
abbrev pub logon_bit : ObjNo → LogonMove → ℕ
logon_bit t (Add u v s) = same u t
logon_bit t m = 0

dropped : (u : ObjNo) (logons : List (List (ObjNo × ℕ))) (k : ℕ) → length (get_or (map (without_maker u) logons) k []) ≤ length (get_or logons k [])
dropped u [] k = omega arith
dropped u (x ∷ xs) zero = filter-shorter (λ (logon : ObjNo × ℕ). not (is_made_by u logon)) x
dropped u (x ∷ xs) (suc k) = dropped u xs k

pub logons-moved : (m : LogonMove) (logons : List (List (ObjNo × ℕ))) (t : ObjNo)
    → length (logons_on (logons_moved m logons) t) ≤ length (logons_on logons t) + logon_bit t m
logons-moved (Add u v s) logons t = either (λ (l : List (ObjNo × ℕ)). length l ≤ length (logons_on logons t) + same u t) logons u.0 _ t.0 []
    (λ at.
    let one = if_is (u.0 == t.0) 1 (eq-eqb u.0 t.0 (sym at)) in
    let own : length (logons_on logons u) ≡ length (logons_on logons t) = ap (λ (n : ℕ). length (get_or logons n [])) (sym at) in
    let long = length-append (logons_on logons u) ((v, s) ∷ []) in omega arith)
    (omega arith)
logons-moved (Remove u v s) logons t = either (λ (l : List (ObjNo × ℕ)). length l ≤ length (logons_on logons t) + 0) logons u.0 _ t.0 []
    (λ at.
    let own : length (logons_on logons u) ≡ length (logons_on logons t) = ap (λ (n : ℕ). length (get_or logons n [])) (sym at) in
    let fewer = filter-shorter (λ (logon : ObjNo × ℕ). not (is_logon v s logon)) (logons_on logons u) in omega arith)
    (omega arith)
logons-moved (Drop u) logons t = let fewer = dropped u logons t.0 in omega arith
