-- A thread's row goes that has given up all.
use Rattle.std.proofs.Common.{◌≡◌, ℕ, Bool, false, List, [], get_or, set, arith, refl, sym, ap, subst, ◌∙◌, inl, inr, Option, Some, None}
use Rattle.std.specs.Prelude.{◌==◌, ◌&&◌, is_some, not}
use Rattle.std.proofs.lemmas.Bool.{cases_eq}
use Rattle.std.proofs.lemmas.List.{get_or-set_other, length-set}
use Rattle.sym_base.specs.declared.number.ObjNo.{ObjNo}
use Rattle.script_types.specs.declared.script.Script.{Script}
use Rattle.entry_log.specs.declared.effect.Holder.{Holder}
use Rattle.entry_log.specs.declared.effect.Holder.TheVariants.{InProcess, InThread, Temp, Own, Link, Message, Kernel}
use Rattle.state_rows.specs.HandleSlots.{slot_at}
use Rattle.state_rows.specs.Nano.{holder_of}
use Rattle.state_rows.proofs.SoundChanges.{set_item}
use Rattle.state_rows.specs.declared.duty.Owed.{Owed}
use Rattle.state_rows.specs.declared.handle_slot.HandleSlot.{HandleSlot}
use Rattle.state_rows.specs.declared.locks.LockRows.{LockRows}
use Rattle.state_rows.specs.declared.nano.NanoRows.{NanoRows}
use Rattle.state_rows.specs.declared.servers.ServerRows.{ServerRows}
use Rattle.state_rows.specs.declared.thread.ThreadRow.{ThreadRow}
use Rattle.state_rows.specs.declared.thread.Waiting.TheVariants as waiting
use Rattle.machine.specs.HeldIn.{own_slot, rows_hold, use_names}
use Rattle.machine.specs.Holding.{link_names}
use Rattle.machine.specs.References.{kernel_holds, option_names, same, stage_holds, thread_names, total}
use Rattle.machine.specs.Out.{is_returning, part_of, seeks}
use Rattle.machine.specs.WellFormed.{AreDuties, AreMemories, AreSynchronized, AreThreads, IsSpent, IsThread}
use Rattle.move_laws.proofs.Lists.Totals.{inside, total-set}
use Rattle.move_laws.proofs.References.Same.{if_not}
use Rattle.move_laws.proofs.RowLaws.Duties.{duties-threads}
use Rattle.move_laws.proofs.RowLaws.Locks.{LeavesLocks}
use Rattle.move_laws.proofs.RowLaws.Synchronized.{synchronized-threads}

-- a thread whose row may go: it has given up all, has no link, and the kernel doesn't hold it
pub record IsOver (tables : List (List HandleSlot)) (threads : List (Option ThreadRow)) (o : ℕ) : Type 0 where
  pub row : ThreadRow
  pub is : get_or threads o None ≡ Some row
  pub spent : IsSpent tables o row
  pub unlinked : row.link ≡ None
  pub unheld : stage_holds row.stage ≡ 0

-- what is there without a row was there with it, and what wasn't there isn't
was-there : (threads : List (Option ThreadRow)) (o k : ℕ) (row : ThreadRow) → get_or (set threads o None) k None ≡ Some row → get_or threads k None ≡ Some row
was-there threads o k row =
    set_item (λ (x : Option ThreadRow). x ≡ Some row → get_or threads k None ≡ Some row) threads o k None None
    (λ at e. absurd (cc)) (λ e. e)

none-there : (threads : List (Option ThreadRow)) (o k : ℕ) → get_or threads k None ≡ None → get_or (set threads o None) k None ≡ None
none-there threads o k = set_item (λ (x : Option ThreadRow). x ≡ None) threads o k None None (λ at. refl)

pub threads-swept : (script : Script) (threads : List (Option ThreadRow)) (o : ℕ) → AreThreads script threads → AreThreads script (set threads o None)
threads-swept script threads o h = record {
  rows = λ k row is. subst (λ (n : ℕ). IsThread script n row) (sym (length-set threads o None)) (h.rows k row (was-there threads o k row is));
  processes = λ k row is. none-there threads o row.process.0 (h.processes k row (was-there threads o k row is));
  servers = λ k queue row is serves. h.servers k queue row (was-there threads o k row is) serves;
}

pub duties-swept : (threads : List (Option ThreadRow)) (r : ServerRows) (accepted : ℕ) (owed : List (List Owed)) (o : ℕ)
    → AreDuties threads r accepted owed → AreDuties (set threads o None) r accepted owed
duties-swept threads r accepted owed o h = duties-threads threads (set threads o None) r accepted owed (λ k. inr (record {
  long = length-set threads o None;
  none = λ j none. none-there threads o j none;
  going = λ going. set_item (λ (x : Option ThreadRow). is_returning (part_of x) ≡ false) threads o k None None (λ at. refl) going;
})) h

pub memories-swept : (threads : List (Option ThreadRow)) (memories : List (Option (List ℕ))) (o : ℕ)
    → AreMemories threads memories → AreMemories (set threads o None) memories
memories-swept threads memories o h = record {
  sized = h.sized ∙ sym (length-set threads o None);
  bytes = h.bytes;
  processes = λ k row is. h.processes k row (was-there threads o k row is);
}

-- the holders of fast mutexes are others
pub synchronized-swept : (script : Script) (threads : List (Option ThreadRow)) (o : ObjNo) (r : NanoRows)
    → ((f : ℕ) (u : ObjNo) → holder_of r f ≡ Some u → u.0 ≡ o.0 → ⊥) → AreSynchronized script threads r
    → AreSynchronized script (set threads o.0 None) r
synchronized-swept script threads o r apart h = synchronized-threads script threads (set threads o.0 None) r (length-set threads o.0 None)
    (λ f u is held. record {
      row = held.row;
      is = get_or-set_other threads o.0 u.0 None None (apart f u is) ∙ held.is;
      live = held.live;
      serves = held.serves;
      waits = held.waits;
      going = held.going;
      wants = held.wants;
    }) h

-- it waits for nothing
pub leaves-swept : (tables : List (List HandleSlot)) (threads : List (Option ThreadRow)) (owed : List (List Owed))
    (o : ℕ) (r : LockRows)
    → IsOver tables threads o → LeavesLocks threads (set threads o None) owed owed r
leaves-swept tables threads owed o r over = record {
  long = length-set threads o None;
  waits = λ t x among h. elim (cases_eq t.0 o) [
    | inl at ↦
        let same : Some over.row ≡ Some h.row = sym over.is ∙ ap (λ (n : ℕ). get_or threads n None) (sym at) ∙ h.is in
        let own : over.row ≡ h.row = cc in
        let waits = over.spent.waits in
        let still : h.row.waiting ≡ waiting.Nothing = ap (λ (row : ThreadRow). row.waiting) (sym own) ∙ waits in
        let other = h.waits in absurd (cc)
    | inr apart ↦ record { row = h.row; is = get_or-set_other threads o t.0 None None apart ∙ h.is; waits = h.waits }
  ];
  owes = λ t x h. h;
}

-- it refers to nothing
names-none : (row : ThreadRow) (p : ObjNo) → row.link ≡ None → row.uses ≡ None → thread_names p (Some row) ≡ 0
names-none row p link uses =
    let a : option_names p row.link ≡ 0 = ap (option_names p) link in
    let b : option_names p row.uses ≡ 0 = ap (option_names p) uses in
    omega arith

pub counts-swept : (tables : List (List HandleSlot)) (threads : List (Option ThreadRow)) (o : ℕ) (p : ObjNo)
    → IsOver tables threads o → total (thread_names p) (set threads o None) ≡ total (thread_names p) threads
counts-swept tables threads o p over =
    let moved = total-set (thread_names p) threads o None None (inside threads o over.row over.is) in
    let was : thread_names p (get_or threads o None) ≡ 0 = ap (thread_names p) over.is ∙ names-none over.row p over.unlinked over.spent.unused in omega arith

-- it is out on nothing
pub seeks-swept : (tables : List (List HandleSlot)) (threads : List (Option ThreadRow)) (o : ℕ) (p : ObjNo) (place : ℕ)
    → IsOver tables threads o → total (seeks p place) (set threads o None) ≡ total (seeks p place) threads
seeks-swept tables threads o p place over =
    let moved = total-set (seeks p place) threads o None None (inside threads o over.row over.is) in
    let back : (is_returning over.row.part && over.row.sought_place == place) ≡ false =
    ap (λ (b : Bool). b && over.row.sought_place == place) over.spent.going in
    let was : seeks p place (get_or threads o None) ≡ 0 = ap (seeks p place) over.is
    ∙ if_not (is_returning over.row.part && over.row.sought_place == place) (same over.row.sought p) back in
    omega arith

-- a number of each row that is 0 of this and where there is none
same-number : (q : Option ThreadRow → ℕ) (threads : List (Option ThreadRow)) (o k : ℕ) (row : ThreadRow)
    → get_or threads o None ≡ Some row → q None ≡ 0 → q (Some row) ≡ 0
    → q (get_or (set threads o None) k None) ≡ q (get_or threads k None)
same-number q threads o k row is none this =
    set_item (λ (x : Option ThreadRow). q x ≡ q (get_or threads k None)) threads o k None None
    (λ at. none ∙ sym (ap (λ (n : ℕ). q (get_or threads n None)) at ∙ ap q is ∙ this)) refl

pub kernel-swept : (tables : List (List HandleSlot)) (threads : List (Option ThreadRow)) (o : ℕ) (p : ObjNo)
    → IsOver tables threads o
    → kernel_holds (get_or (set threads o None) p.0 None) ≡ kernel_holds (get_or threads p.0 None)
kernel-swept tables threads o p over = same-number kernel_holds threads o p.0 over.row over.is refl over.unheld

-- a table that has no handle
slot-empty : (tables : List (List HandleSlot)) (threads : List (Option ThreadRow)) (o k i : ℕ) (x : ObjNo)
    → IsOver tables threads o → k ≡ o → own_slot false x (slot_at (get_or tables k []) i) ≡ 0
slot-empty tables threads o k i x over at = ap (option_names x) (ap (λ (n : ℕ). (slot_at (get_or tables n []) i).object) at ∙ over.spent.empty i)

pub rows-swept : (tables : List (List HandleSlot)) (threads : List (Option ThreadRow)) (mutexes : List (List ObjNo))
    (o : ℕ) (g : Holder) (x : ObjNo)
    → IsOver tables threads o → rows_hold tables (set threads o None) mutexes g x ≡ rows_hold tables threads mutexes g x
rows-swept tables threads mutexes o (InProcess p i) x over =
    set_item (λ (y : Option ThreadRow). own_slot (is_some y) x (slot_at (get_or tables p.0 []) i)
    ≡ own_slot (is_some (get_or threads p.0 None)) x (slot_at (get_or tables p.0 []) i)) threads o p.0 None None
    (λ at. slot-empty tables threads o p.0 i x over at
    ∙ sym (ap (λ (n : ℕ). own_slot (is_some (get_or threads n None)) x (slot_at (get_or tables p.0 []) i)) at
    ∙ ap (λ (y : Option ThreadRow). own_slot (is_some y) x (slot_at (get_or tables p.0 []) i)) over.is)) refl
rows-swept tables threads mutexes o (InThread t i) x over =
    set_item (λ (y : Option ThreadRow). own_slot (not (is_some y)) x (slot_at (get_or tables t.0 []) i)
    ≡ own_slot (not (is_some (get_or threads t.0 None))) x (slot_at (get_or tables t.0 []) i)) threads o t.0 None None
    (λ at. sym (ap (λ (n : ℕ). own_slot (not (is_some (get_or threads n None))) x (slot_at (get_or tables t.0 []) i)) at
    ∙ ap (λ (y : Option ThreadRow). own_slot (not (is_some y)) x (slot_at (get_or tables t.0 []) i)) over.is
    ∙ slot-empty tables threads o t.0 i x over at)) refl
rows-swept tables threads mutexes o (Temp t) x over = same-number (use_names x) threads o t.0 over.row over.is refl (ap (option_names x) over.spent.unused)
rows-swept tables threads mutexes o (Link t) x over = same-number (link_names x) threads o t.0 over.row over.is refl (ap (option_names x) over.unlinked)
rows-swept tables threads mutexes o Kernel x over = kernel-swept tables threads o x over
rows-swept tables threads mutexes o (Own t) x over = refl
rows-swept tables threads mutexes o (Message m) x over = refl
