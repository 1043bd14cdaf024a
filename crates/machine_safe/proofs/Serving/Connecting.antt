-- The handle that a `connect` keeps from the step that makes its session on is in the thread's own table, and of no server.
use Rattle.state_rows.specs.ObjectRows.{place_of}
use Rattle.machine_safe.proofs.Serving.ServerOwners.{Owned}
use Rattle.machine_safe.proofs.Serving.NextActions.{IsProperly}
use Rattle.machine_safe.proofs.Serving.NoServers.{none-each, server-joined, slot_made}
use Rattle.machine_safe.proofs.Serving.LaterSteps.{Facts, FactThen, IsFact, StepsGive, answered-fact, boot-fact, early-fact, idle-fact, next-fact, other-fact, part-after}
use Rattle.state_rows.specs.declared.duty.Owed.TheVariants as duty
use Rattle.machine.specs.Find.{is_open, miss, seek_object, find_object}
use Rattle.machine.specs.Decide.{nothing, one_move}
use Rattle.std.proofs.Common.{eq-eqb, Bool, List, None, Option, Some, [], ap, arith, false, get_or, refl, subst, sym, true, ℕ, ℤ, ◌+◌, ◌*◌, ◌<◌, ◌∙◌, ◌∷◌, ◌≡◌, length, not, le-ltb, get_or-set_same, pos}
use Rattle.std.specs.Prelude.{if◌then◌else◌, is_some, slice_set}
use Rattle.script_types.specs.declared.instruction.Instr.{Instr}
use Rattle.sym_base.specs.declared.number.ObjNo.{ObjNo}
use Rattle.script_types.specs.declared.script.Script.{Script}
use Rattle.state_rows.specs.declared.servers.ServerRow.{ServerRow}
use Rattle.machine.specs.declared.state.State.{State}
use Rattle.state_rows.specs.declared.thread.ThreadRow.{ThreadRow}
use Rattle.state_rows.specs.HandleNumbers.{handle_number, is_local, index_of}
use Rattle.state_rows.specs.HandleSlots as place
use Rattle.machine.specs.WellFormed.{AreRows}
use Rattle.script_types.specs.Shape.{IsShaped}
use Rattle.machine.specs.declared.moves.Move.{Move}
use Rattle.entry_log.specs.declared.step.Part.{Part}
use Rattle.machine.specs.Rows.{thread_of, with_row, table_of, object_of}
use Rattle.machine.specs.Fits.{EachFits}
use Rattle.state_rows.specs.ServerRows.{server_at, owner_of}
use Rattle.state_rows.specs.HandleSlots.{slot_at, is_full, free_index, new_handle, new_instance, fresh_slot, look}
use Rattle.machine_laws.proofs.Fitting.Regular.{Kinds, going_bit, calling, kind_of, looking, plain}
use Rattle.move_laws.proofs.RowLaws.Threads.{map_some}
use Rattle.machine.specs.Moves.{moved, next_object, perform, with_part, with_kept, with_use, with_found, with_missed, with_opened, no_number_left}
use Rattle.machine.specs.References.{total}
use Rattle.machine.specs.declared.decision.Decision.{Decision}
use Rattle.machine.specs.Task.{instruction}
use Rattle.move_laws.proofs.Holders.ThreadRows.{row-here}
use Rattle.machine_laws.proofs.Fitting.Actions.{FitsAction}
use Rattle.script_types.specs.declared.instruction.Instr.TheVariants as instr
use Rattle.entry_log.specs.declared.step.Part.TheVariants as part
use Rattle.machine.specs.declared.moves.Move.TheVariants.{Servers, Pay, GoOn, Wait, Messages, Open}
use Rattle.machine_safe.proofs.Serving.OtherThreads.{Carries, carries-each}
use Rattle.entry_log.specs.declared.effect.Holder.TheVariants.{InThread}
use Rattle.state_rows.specs.declared.handle_slot.HandleSlot.{HandleSlot}
use Rattle.machine.specs.declared.server_move.ServerMove.TheVariants.{SetOpen}
use Rattle.sym_base.specs.declared.kind.Slots.{Slots}
use Rattle.machine.specs.SessionCalls.{make_session, connect_done, connect_send, connect_step, connect_to, send_connect, connect_make, session_made}
use Rattle.move_laws.proofs.Lists.Totals.{inside}
use Rattle.move_laws.proofs.RowLaws.Tables.{free_index_inside, object_of_is}
use Rattle.machine.specs.Handles.{taken_slot}
use Rattle.state_rows.specs.declared.duty.Owed.{Owed}
use Rattle.machine.specs.Steps.{return_of, step_of}
use Rattle.sym_base.specs.declared.word.Word.TheVariants as word
use Rattle.move_laws.proofs.Lists.Cases.{if_cases}
use Rattle.machine.specs.Messaging.{wake_receiver, server_to_open, slots_of, connects, no_args}
use Rattle.state_rows.specs.Nano.{held_by}
use Rattle.sym_base.specs.declared.kind.Kind.TheVariants as kind
use Rattle.machine.specs.ThreadCalls.{is_live}
use Rattle.state_rows.specs.Requests.{reply_of}
use Rattle.state_rows.specs.declared.thread.Waiting.TheVariants as waiting
use Rattle.entry_log.specs.declared.step.Step.TheVariants.{Of}
use Rattle.machine.specs.declared.message_move.MessageMove.TheVariants.{Accept}
use Rattle.state_rows.specs.MessageChanges.{new_row}
use Rattle.state_rows.specs.declared.messages.Way.TheVariants.{Sync}
use Rattle.machine_laws.proofs.Fitting.SentMessages.{tame-wake}
use Rattle.entry_log.specs.declared.entry.Actor.{Actor}
use Rattle.machine.specs.History.{next}
use Rattle.machine.specs.Boot.{boot_in}
use Rattle.std.specs.Ordering.{int_eq}

-- whether a thread at this step of an instruction keeps the handle of the session that its `connect` made
abbrev pub keeps_handle : Option Instr → Option Part → Bool
keeps_handle (Some (instr.Connect name slots x)) (Some part.Return) = false
keeps_handle (Some (instr.Connect name slots x)) (Some part.Make) = false
keeps_handle (Some (instr.Connect name slots x)) (Some p) = true
keeps_handle at p = false

pub record KeepsHandle (S : State) (u : ObjNo) (row : ThreadRow) : Type 0 where
  pub own : is_local row.found ≡ true
  pub there : is_some (look true (table_of S u) row.found) ≡ true
  pub other : (s : ObjNo) → (slot_at (table_of S u) (index_of row.found)).object ≡ Some s → is_some (server_at S.serving.servers s) ≡ false

-- each live thread that keeps one does so
abbrev pub KeepHandles : Script → State → Type 0
KeepHandles script S = Facts script keeps_handle KeepsHandle S

-- such a thread is at a later step
kept-later : (at : Option Instr) (p : Option Part) → keeps_handle at p ≡ true → is_some p ≡ true
kept-later (Some (instr.Connect name slots x)) None e = absurd (cc)
kept-later at None e = absurd (cc)
kept-later at (Some p) e = refl

-- moves that carry a thread leave it with the handle
kept-on : (script : Script) (S : State) (t : ObjNo) (ms : List Move) → EachFits script t ms S
    → (u : ObjNo) (row : ThreadRow) (c : Carries S (perform t ms S) u row)
    → ((s : ObjNo) → (slot_at (table_of S u) (index_of c.mid.old.found)).object ≡ Some s
    → is_some (object_of S s) ≡ true)
    → KeepsHandle S u c.mid.old → KeepsHandle (perform t ms S) u row
kept-on script S t ms fits u row c made was = record {
  own = ap is_local (sym c.mid.found) ∙ was.own;
  there =
      ap (λ (l : List HandleSlot). is_some (look true l row.found)) c.table
      ∙ (ap (λ (n : ℕ). is_some (look true (table_of S u) n)) (sym c.mid.found) ∙ was.there);
  other = λ s slot.
      let before : (slot_at (table_of S u) (index_of c.mid.old.found)).object ≡ Some s =
      ap (λ (n : ℕ). (slot_at (table_of S u) (index_of n)).object) c.mid.found
      ∙ (ap (λ (l : List HandleSlot). (slot_at l (index_of row.found)).object) (sym c.table) ∙ slot) in
      none-each script S t ms fits s (made s before) (was.other s before);
}

-- neither the return nor the step that makes a session keeps a handle
kept-return : (at : Option Instr) → keeps_handle at (Some part.Return) ≡ false
kept-return (Some (instr.Connect name slots x)) = refl
kept-return at = refl

kept-none : (at : Option Instr) → keeps_handle at None ≡ false
kept-none (Some (instr.Connect name slots x)) = refl
kept-none at = refl

kept-make : (at : Option Instr) → keeps_handle at (Some part.Make) ≡ false
kept-make (Some (instr.Connect name slots x)) = refl
kept-make at = refl

-- the number of a thread's handle
local-number : (i n : ℕ) → is_local (i + 65536 * n + 1073741824) ≡ true
local-number i n = ap not (le-ltb (i + 65536 * n + 1073741824) 1073741824 (omega arith))

low-index : (i n : ℕ) → i < 65536 → index_of (i + 65536 * n + 1073741824) ≡ i
low-index i n low = omega arith

paid-none : (S : State) (t : ObjNo) (what : Owed) (s : ObjNo) → is_some (server_at S.serving.servers s) ≡ false
    → is_some (server_at (moved t (Pay what) S).serving.servers s) ≡ false
paid-none S t (duty.Close h o) s none = none
paid-none S t (duty.Sweep o) s none = server-joined S.serving.servers.servers o.0 s.0 none

paid-slot : (S : State) (t : ObjNo) (what : Owed) (u : ObjNo) (i : ℕ)
    → (slot_at (table_of S u) i).object ≡ (slot_at (table_of (moved t (Pay what) S) u) i).object
paid-slot S t (duty.Close h o) u i = refl
paid-slot S t (duty.Sweep o) u i = refl

paid-table : (S : State) (t : ObjNo) (what : Owed) (u : ObjNo) → table_of (moved t (Pay what) S) u ≡ table_of S u
paid-table S t (duty.Close h o) u = refl
paid-table S t (duty.Sweep o) u = refl

-- a handle's number names what its place has now
named-by : (o : ObjNo) (slot : HandleSlot) (i n handle : ℕ) → handle ≡ i + 65536 * n + 1073741824 → index_of handle ≡ i
    → slot.instance ≡ n → slot.object ≡ Some o → is_some (place.object_of true slot handle) ≡ true
named-by o slot i n handle number index instance object =
    let same : handle_number true (index_of handle) slot.instance ≡ handle =
    ap (λ (k : ℕ). handle_number true k slot.instance) index ∙ (ap (handle_number true i) instance ∙ sym number) in
    ap (λ (b : Bool). is_some (if b then slot.object else None)) (eq-eqb (handle_number true (index_of handle) slot.instance) handle same) ∙ ap is_some object

kept-fact : (script : Script) → IsFact script keeps_handle KeepsHandle
kept-fact script = record {
  later = kept-later;
  carried =
      λ S t ms rows has u row is c passes was. kept-on script S t ms passes.goes.each u row c
      (λ s slot. slot_made script S u (index_of c.mid.old.found) s rows slot) was;
  paid = λ S t what rows dead u row is mid was. record {
    own = ap is_local (sym mid.found) ∙ was.own;
    there =
        ap (λ (l : List HandleSlot). is_some (look true l row.found)) (paid-table S t what u)
        ∙ (ap (λ (n : ℕ). is_some (look true (table_of S u) n)) (sym mid.found) ∙ was.there);
    other =
        λ s slot. paid-none S t what s (was.other s
        (ap (λ (n : ℕ). (slot_at (table_of S u) (index_of n)).object) mid.found
        ∙ (paid-slot S t what u (index_of row.found) ∙ slot)));
  };
}

module _ (script : Script) (S : State) (t : ObjNo) (rows : AreRows script S) (own : Owned S)
    (kept : KeepHandles script S) (unmade : is_some (server_at S.serving.servers (next_object S)) ≡ false) where
  abbrev KeptThen : Decision → Type 0
  KeptThen d = FactThen script keeps_handle KeepsHandle S t d

  answered-kept : {k : Kinds} (d : Decision) (code : ℤ) → d.answer ≡ Some code → FitsAction k script S t d → KeptThen d
  answered-kept d code e fits = answered-fact script keeps_handle KeepsHandle (kept-fact script) S rows own kept t d code e fits

  other-kept : {k : Kinds} (d : Decision) (old : ThreadRow) (i : Instr) → thread_of S t ≡ Some old
      → instruction script old ≡ Some i → ((p : Option Part) → keeps_handle (Some i) p ≡ false)
      → FitsAction k script S t d → KeptThen d
  other-kept d old i here at other fits = other-fact script keeps_handle KeepsHandle (kept-fact script) S rows own kept t d old i here at other fits

  early-kept : (d : Decision) (p : Option Part)
      → ((row : ThreadRow) → thread_of (perform t d.moves S) t ≡ Some row → row.part ≡ p)
      → ((at : Option Instr) → keeps_handle at p ≡ false) → KeptThen d
  early-kept d p part early = early-fact script keeps_handle KeepsHandle (kept-fact script) S rows own kept t d p part early

  -- the session is made with its handle, and that is kept
  made-kept_handle : (o : ObjNo) (slots : Slots) (full : Bool) → is_full (table_of S t) ≡ full
      → FitsAction calling script S t (make_session t o slots (next_object S)
      (if full then None else Some (record {
        holder = InThread t (free_index (table_of S t));
        number = new_handle true (table_of S t);
      })))
      → KeptThen (make_session t o slots (next_object S)
      (if full then None else Some (record {
        holder = InThread t (free_index (table_of S t));
        number = new_handle true (table_of S t);
      })))
  made-kept_handle o slots true e fits = answered-kept _ _ refl fits
  made-kept_handle o slots false e fits = λ row is live keeps.
      let table = table_of S t in
      let i = free_index table in
      let number = new_handle true table in
      let threads = S.references.threads in
      let third = map_some (with_part part.Send)
      (get_or (with_row (with_row threads t (with_kept number)) t (with_use None)) t.0 None) row
      (sym (row-here (with_row (with_row threads t (with_kept number)) t (with_use None)) t
      (with_part part.Send) t.0 refl) ∙ is) in
      let second = map_some (with_use None) (get_or (with_row threads t (with_kept number)) t.0 None) third.0
      (sym (row-here (with_row threads t (with_kept number)) t (with_use None) t.0 refl) ∙ third.1) in
      let first = map_some (with_kept number) (get_or threads t.0 None) second.0 (sym (row-here threads t (with_kept number) t.0 refl) ∙ second.1) in
      let found : row.found ≡ number = ap (λ (r : ThreadRow). r.found) (sym third.2)
      ∙ (ap (λ (r : ThreadRow). r.found) (sym second.2) ∙ ap (λ (r : ThreadRow). r.found) (sym first.2)) in
      let within = inside threads t.0 first.0 first.1 in
      let sized = rows.references.sized.tables in
      let listed : t.0 < length S.references.handles = omega arith in
      let size = (rows.references.tables t.0 listed).size in
      let free = free_index_inside table e in
      let index : index_of row.found ≡ i = ap index_of found ∙ low-index i (new_instance table) (omega arith) in
      let after = slice_set table i (taken_slot (next_object S) (slot_at table i)) in
      let placed : slot_at after i ≡ taken_slot (next_object S) (slot_at table i) = get_or-set_same table i _ fresh_slot free in
      let kept_slot : slot_at after (index_of row.found) ≡ taken_slot (next_object S) (slot_at table i) = ap (slot_at after) index ∙ placed in
      let held : table_of (perform t (make_session t o slots (next_object S)
      (Some (record { holder = InThread t i; number = number }))).moves S) t ≡ after =
      get_or-set_same S.references.handles t.0 _ [] listed in
      record {
        own = ap is_local found ∙ local-number i (new_instance table);
        there =
            ap (λ (l : List HandleSlot). is_some (look true l row.found)) held
            ∙ named-by (next_object S) (slot_at after (index_of row.found)) i (new_instance table) row.found found index
            (ap (λ (x : HandleSlot). x.instance) kept_slot) (ap (λ (x : HandleSlot). x.object) kept_slot);
        other = λ s slot.
            let here : table_of (perform t (make_session t o slots (next_object S)
            (Some (record { holder = InThread t i; number = number }))).moves S) t
            ≡ slice_set table i (taken_slot (next_object S) (slot_at table i)) =
            get_or-set_same S.references.handles t.0 _ [] listed in
            let there : slot_at (slice_set table i (taken_slot (next_object S) (slot_at table i))) i
            ≡ taken_slot (next_object S) (slot_at table i) =
            get_or-set_same table i _ fresh_slot free in
            let both : Some s ≡ Some (next_object S) = sym slot
            ∙ (ap (λ (l : List HandleSlot). (slot_at l (index_of row.found)).object) here
            ∙ (ap (λ (n : ℕ). (slot_at (slice_set table i (taken_slot (next_object S) (slot_at table i))) n).object)
            index ∙ ap (λ (x : HandleSlot). x.object) there)) in
            let own : s ≡ next_object S = cc in
            subst (λ (x : ObjNo). is_some (server_at
            (perform t (make_session t o slots (next_object S)
            (Some (record { holder = InThread t i; number = number }))).moves S).serving.servers x) ≡ false) (sym own)
            (server-joined S.serving.servers.servers (next_object S).0 (next_object S).0 unmade);
      }

  idle-kept : KeptThen nothing
  idle-kept = idle-fact script keeps_handle KeepsHandle (kept-fact script) S rows own kept t

  seek-kept : (found : Option ObjNo) → FitsAction looking script S t (seek_object t word.Connect found) → KeptThen (seek_object t word.Connect found)
  seek-kept None fits = answered-kept (seek_object t word.Connect None) _ refl fits
  seek-kept (Some o) fits =
      early-kept (seek_object t word.Connect (Some o)) (Some part.Return)
      (λ row is. part-after S.references.threads t (with_found o (place_of (object_of S o))) (Some part.Return) (λ r. refl) row is) kept-return

  make-kept : (slots : Slots) (o : ObjNo) (server : Option ServerRow)
      → FitsAction calling script S t (connect_to S t slots o server) → KeptThen (connect_to S t slots o server)
  make-kept slots o None fits = idle-kept
  make-kept slots o (Some server) fits =
      if_cases (λ (d : Decision). FitsAction calling script S t d → KeptThen d) server.is_closing _ _
      (λ _ f. answered-kept _ _ refl f)
      (λ _ f. if_cases (λ (d : Decision). FitsAction calling script S t d → KeptThen d) (no_number_left S) _ _ (λ _ g. answered-kept _ _ refl g)
      (λ _ g. made-kept_handle o slots (is_full (table_of S t)) refl g) f) fits

  -- the message that connects is sent: the thread goes on, and is carried then
  sent-kept : (old : ThreadRow) (s : ObjNo) (server : Option ObjNo) → thread_of S t ≡ Some old → KeepsHandle S t old
      → FitsAction calling script S t (send_connect S t old s server) → KeptThen (send_connect S t old s server)
  sent-kept old s None here had fits = answered-kept _ _ refl fits
  sent-kept old s (Some o) here had fits = λ row is live keeps.
      let U = moved t (GoOn t part.Done) S in
      let wakes = wake_receiver S o (owner_of S.serving.servers o) in
      let rest : List Move = Servers (SetOpen s true) ∷ Wait t waiting.Reply ∷ Messages (Accept (slots_of S s) (new_row s o t connects no_args Sync)) ∷ wakes in
      let none = (tame-wake {k = plain} S o (owner_of S.serving.servers o)).goes refl in
      let all : total going_bit rest ≡ 0 = omega arith in
      let c = carries-each script U t rest fits.goes.each.1 t row (λ _. all) (kept-later (instruction script row) row.part keeps) is in
      let first = map_some (with_part part.Done) (thread_of S t) c.mid.old (sym (row-here S.references.threads t (with_part part.Done) t.0 refl) ∙ c.mid.was) in
      let same : old ≡ first.0 = (let a = first.1 in cc) in
      let now : KeepsHandle U t (with_part part.Done old) = record { own = had.own; there = had.there; other = had.other } in
      kept-on script U t rest fits.goes.each.1 t row c (λ x slot. slot_made script S t (index_of c.mid.old.found) x rows slot)
      (subst (KeepsHandle U t) (ap (with_part part.Done) same ∙ first.2) now)

  send-kept : (old : ThreadRow) (session : Option ObjNo) → thread_of S t ≡ Some old → KeepsHandle S t old
      → FitsAction calling script S t (connect_send S t old session) → KeptThen (connect_send S t old session)
  send-kept old None here had fits = idle-kept
  send-kept old (Some s) here had fits =
      if_cases (λ (d : Decision). FitsAction calling script S t d → KeptThen d)
      (is_some (held_by S.synchronization.nano t)) _ _ (λ _ f. answered-kept _ _ refl f)
      (λ _ f. sent-kept old s (server_to_open S s) here had f) fits

  done-kept : (old : ThreadRow) (x : ℕ) (session : Option ObjNo)
      → FitsAction calling script S t (connect_done S t old x session) → KeptThen (connect_done S t old x session)
  done-kept old x None fits = idle-kept
  done-kept old x (Some s) fits =
      if_cases (λ (d : Decision). FitsAction calling script S t d → KeptThen d)
      (int_eq (reply_of S.synchronization.requests t) (pos 0)) _ _ (λ _ f. answered-kept _ _ refl f)
      (λ _ f. answered-kept _ _ refl f) fits

  connect-kept : (old : ThreadRow) (name : List ℕ) (slots : Slots) (x : ℕ) (p : Option Part) → thread_of S t ≡ Some old
      → (keeps_handle (Some (instr.Connect name slots x)) p ≡ true → KeepsHandle S t old)
      → FitsAction (kind_of (instr.Connect name slots x) p) script S t (connect_step S t old name slots x p)
      → KeptThen (connect_step S t old name slots x p)
  connect-kept old name slots x None here had fits =
      if_cases (λ (d : Decision). FitsAction looking script S t d → KeptThen d)
      (is_some (held_by S.synchronization.nano t)) _ _ (λ _ f. answered-kept _ _ refl f)
      (λ _ f. seek-kept (find_object S kind.Server name) f) fits
  connect-kept old name slots x (Some part.Make) here had fits = uses old.uses fits
    where
      uses : (o : Option ObjNo) → FitsAction calling script S t (connect_make S t slots o) → KeptThen (connect_make S t slots o)
      uses None f = idle-kept
      uses (Some o) f = make-kept slots o (server_at S.serving.servers o) f
  connect-kept old name slots x (Some part.Send) here had fits = send-kept old (session_made S t old) here (had refl) fits
  connect-kept old name slots x (Some p) here had fits = done-kept old x (session_made S t old) fits

  step-kept : (old : ThreadRow) (i : Instr) (p : Option Part) → thread_of S t ≡ Some old
      → instruction script old ≡ Some i → (keeps_handle (Some i) p ≡ true → KeepsHandle S t old)
      → FitsAction (kind_of i p) script S t (step_of script S t old i p) → KeptThen (step_of script S t old i p)
  step-kept old (instr.Connect name slots x) p here at had fits = connect-kept old name slots x p here had fits
  step-kept old i p here at had fits = other-kept (step_of script S t old i p) old i here at (λ q. refl) fits

  return-kept : (old : ThreadRow) (i : Instr) → thread_of S t ≡ Some old → instruction script old ≡ Some i
      → FitsAction looking script S t (return_of S t old i) → KeptThen (return_of S t old i)
  return-kept old (instr.Connect name slots x) here at fits =
      let o = old.sought in
      if_cases (λ (d : Decision). FitsAction looking script S t d → KeptThen d) (is_open old.sought_place (object_of S o)) _ _
      (λ _ f. early-kept (one_move (Of word.Connect part.Return) (Open t o part.Make)) (Some part.Make)
      (λ row is. part-after S.references.threads t (with_opened o part.Make) (Some part.Make) (λ r. refl) row is)
      kept-make)
      (λ _ f. missed (is_live old.stage) f) fits
    where
      missed : (live : Bool) → FitsAction looking script S t (miss t word.Connect old.sought live)
          → KeptThen (miss t word.Connect old.sought live)
      missed true f = answered-kept (miss t word.Connect old.sought true) _ refl f
      missed false f = early-kept (miss t word.Connect old.sought false) None
          (λ row is. part-after S.references.threads t with_missed None (λ r. refl) row is) kept-none
  return-kept old i here at fits = other-kept (return_of S t old i) old i here at (λ q. refl) fits

  kept-gives : StepsGive script keeps_handle KeepsHandle S t
  kept-gives = record {
    steps = λ old i here live going at was fits. step-kept old i old.part here at was fits;
    returns = λ old i here live back at was fits. return-kept old i here at fits;
  }

-- each action leaves them, and at boot there are none
pub kept-next : (script : Script) (S : State) → IsShaped script → AreRows script S → Owned S → IsProperly script S
    → KeepHandles script S → is_some (server_at S.serving.servers (next_object S)) ≡ false → (actor : Actor)
    → KeepHandles script (next script S actor)
kept-next script S shaped rows own properly kept unmade actor =
    next-fact script keeps_handle KeepsHandle (kept-fact script) S rows own kept shaped properly
    (λ t. kept-gives script S t rows own kept unmade) actor

pub kept-boot : (shared : Bool) (script : Script) → IsShaped script → KeepHandles script (boot_in shared script)
kept-boot shared script shaped = boot-fact shared script keeps_handle KeepsHandle (kept-fact script) shaped

-- the session that a `connect` made is no server
pub session-other : (S : State) (t : ObjNo) (row : ThreadRow) (s : ObjNo) → KeepsHandle S t row
    → session_made S t row ≡ Some s → server_at S.serving.servers s ≡ None
session-other S t row s kept is = none-is (server_at S.serving.servers s) (kept.other s (by (is_local row.found) kept.own is))
  where
    by : (b : Bool) → b ≡ true → look b (table_of S (if b then t else row.process)) row.found ≡ Some s
        → (slot_at (table_of S t) (index_of row.found)).object ≡ Some s
    by true e is = object_of_is true (slot_at (table_of S t) (index_of row.found)) row.found s is
    by false e is = absurd (cc)

    none-is : (x : Option ServerRow) → is_some x ≡ false → x ≡ None
    none-is None e = refl
    none-is (Some row) e = absurd (cc)
