-- Threads that have given up all, where a row, a slot of a table or an object changes.
use Rattle.std.proofs.Common.{◌≡◌, ℕ, ◌≤◌, true, false, List, [], length, get_or, set, arith, refl, sym, ap, subst, ◌∙◌, inl, inr, Option, Some, None}
use Rattle.std.proofs.lemmas.Bool.{cases_eq}
use Rattle.std.proofs.lemmas.List.{get_or-set_other}
use Rattle.sym_base.specs.declared.number.ObjNo.{ObjNo}
use Rattle.state_rows.specs.HandleSlots.{fresh_slot, slot_at}
use Rattle.state_rows.specs.ObjectRows.{dead_row, with_object}
use Rattle.state_rows.proofs.SoundChanges.{set_item}
use Rattle.state_rows.specs.declared.handle_slot.HandleSlot.{HandleSlot}
use Rattle.state_rows.specs.declared.object.ObjectRow.{ObjectRow}
use Rattle.state_rows.specs.declared.thread.ThreadRow.{ThreadRow}
use Rattle.state_rows.specs.declared.thread.Waiting.TheVariants as waiting
use Rattle.machine.specs.Handles.{freed_slot, with_slot}
use Rattle.machine.specs.Moves.{unlinked}
use Rattle.machine.specs.Rows.{with_row}
use Rattle.machine.specs.Out.{is_returning}
use Rattle.machine.specs.WellFormed.{AreSpent, IsSpent, dead_bit, is_dead, is_spent}
use Rattle.move_laws.proofs.Holders.ThreadRows.{row-here}
use Rattle.move_laws.proofs.Lists.Mapped.{made-here}
use Rattle.move_laws.proofs.Lists.Sets.{set_default}
use Rattle.move_laws.proofs.Lives.NewObjects.{made-other, made-own}
use Rattle.move_laws.proofs.RowLaws.Locks.{HasThose}
use Rattle.move_laws.proofs.RowLaws.Threads.{map_some, none-with_row, was_row}

-- a change of a row, after which the thread has given up all if its death came so far
pub spent-with_row : (objects : List (Option ObjectRow)) (tables : List (List HandleSlot))
    (threads : List (Option ThreadRow)) (u : ObjNo) (f : ThreadRow → ThreadRow)
    → ((row : ThreadRow) → get_or threads u.0 None ≡ Some row → is_spent (f row).stage ≡ true
    → (is_spent row.stage ≡ true → IsSpent tables u.0 row) → IsSpent tables u.0 (f row))
    → ((row : ThreadRow) → row.link ≡ None → (f row).link ≡ None) → AreSpent objects tables threads
    → AreSpent objects tables (with_row threads u f)
spent-with_row objects tables threads u f here link h = record {
  rows =
      λ k row is. was_row threads u f (λ (n : ℕ) (r : ThreadRow). is_spent r.stage ≡ true → IsSpent tables n r)
      (λ old was after. here old was after (h.rows u.0 old was)) h.rows k row is;
  unlinked =
      λ k row is. was_row threads u f (λ (n : ℕ) (r : ThreadRow). is_dead (get_or objects n None) ≡ 1 → r.link ≡ None)
      (λ old was dead. link old (h.unlinked u.0 old was dead)) h.unlinked k row is;
  threads_made = λ k none. none-with_row threads u f k (h.threads_made k none);
}

-- a change of a row that gives nothing back, and begins no wait and no return
pub record KeepsSpent (f : ThreadRow → ThreadRow) : Type 0 where
  pub stage : (row : ThreadRow) → (f row).stage ≡ row.stage
  pub unused : (row : ThreadRow) → row.uses ≡ None → (f row).uses ≡ None
  pub waits : (row : ThreadRow) → row.waiting ≡ waiting.Nothing → (f row).waiting ≡ waiting.Nothing
  pub going : (row : ThreadRow) → is_returning row.part ≡ false → is_returning (f row).part ≡ false
  pub link : (row : ThreadRow) → row.link ≡ None → (f row).link ≡ None

pub spent-kept : (objects : List (Option ObjectRow)) (tables : List (List HandleSlot))
    (threads : List (Option ThreadRow)) (u : ObjNo) (f : ThreadRow → ThreadRow)
    → KeepsSpent f → AreSpent objects tables threads → AreSpent objects tables (with_row threads u f)
spent-kept objects tables threads u f keeps h = spent-with_row objects tables threads u f
    (λ row is after had. let was = had (sym (ap is_spent (keeps.stage row)) ∙ after) in
    record {
      unused = keeps.unused row was.unused;
      waits = keeps.waits row was.waits;
      going = keeps.going row was.going;
      empty = was.empty;
    }) keeps.link h

-- any change of a row that isn't one of a thread that has given up all, and keeps its link
pub spent-going : (objects : List (Option ObjectRow)) (tables : List (List HandleSlot))
    (threads : List (Option ThreadRow)) (u : ObjNo) (f : ThreadRow → ThreadRow)
    → ((row : ThreadRow) → get_or threads u.0 None ≡ Some row → is_spent (f row).stage ≡ false)
    → ((row : ThreadRow) → row.link ≡ None → (f row).link ≡ None) → AreSpent objects tables threads
    → AreSpent objects tables (with_row threads u f)
spent-going objects tables threads u f going link h =
    spent-with_row objects tables threads u f (λ row is after had. let no = going row is in absurd (cc)) link h

-- a slot of the table of one that isn't such a thread
pub spent-slot : (objects : List (Option ObjectRow)) (tables : List (List HandleSlot))
    (threads : List (Option ThreadRow)) (p : ObjNo) (i : ℕ) (change : HandleSlot → HandleSlot)
    → ((row : ThreadRow) → get_or threads p.0 None ≡ Some row → is_spent row.stage ≡ false)
    → AreSpent objects tables threads → AreSpent objects (with_slot tables p i change) threads
spent-slot objects tables threads p i change going h = record {
  rows = λ k row is after. elim (cases_eq p.0 k) as (λ _. IsSpent (with_slot tables p i change) k row) [
    | inl at ↦ let no = going row (subst (λ (n : ℕ). get_or threads n None ≡ Some row) (sym at) is) in absurd (cc)
    | inr apart ↦
        let s = h.rows k row is after in
        let same : get_or (with_slot tables p i change) k [] ≡ get_or tables k [] = get_or-set_other tables p.0 k _ [] (λ e. apart (sym e)) in
        record { unused = s.unused; waits = s.waits; going = s.going; empty = λ j. ap (λ (table : List HandleSlot). (slot_at table j).object) same ∙ s.empty j }
  ];
  unlinked = h.unlinked;
  threads_made = h.threads_made;
}

-- a slot of any table that becomes free
pub spent-freed : (objects : List (Option ObjectRow)) (tables : List (List HandleSlot))
    (threads : List (Option ThreadRow)) (p : ObjNo) (i : ℕ)
    → AreSpent objects tables threads → AreSpent objects (with_slot tables p i freed_slot) threads
spent-freed objects tables threads p i h = record {
  rows = λ k row is after. let s = h.rows k row is after in record {
    unused = s.unused;
    waits = s.waits;
    going = s.going;
    empty = λ j. set_item (λ (table : List HandleSlot). (slot_at table j).object ≡ None) tables p.0 k _ []
        (λ at. set_item (λ (slot : HandleSlot). slot.object ≡ None) (get_or tables p.0 []) i j
        (freed_slot (slot_at (get_or tables p.0 []) i)) fresh_slot (λ _. refl)
        (subst (λ (n : ℕ). (slot_at (get_or tables n []) j).object ≡ None) at (s.empty j))) (s.empty j);
  };
  unlinked = h.unlinked;
  threads_made = h.threads_made;
}

-- other objects, of which no more are dead and none went
pub spent-objects : (objects other : List (Option ObjectRow)) (tables : List (List HandleSlot))
    (threads : List (Option ThreadRow))
    → ((k : ℕ) → is_dead (get_or other k None) ≡ 1 → is_dead (get_or objects k None) ≡ 1)
    → HasThose objects other → AreSpent objects tables threads → AreSpent other tables threads
spent-objects objects other tables threads fewer those h = record {
  rows = h.rows;
  unlinked = λ k row is dead. h.unlinked k row is (fewer k dead);
  threads_made = λ k none. h.threads_made k (those k none);
}

-- such are those with a new one that is alive
pub made-dead : (objects : List (Option ObjectRow)) (n : ℕ) (new : ObjectRow) → n ≤ length objects → new.dead ≡ false → (k : ℕ)
    → is_dead (get_or (with_object objects n new) k None) ≡ 1 → is_dead (get_or objects k None) ≡ 1
made-dead objects n new le alive k dead = elim (cases_eq k n) as (λ _. is_dead (get_or objects k None) ≡ 1) [
  | inl at ↦
      let a : is_dead (get_or (with_object objects n new) k None) ≡ 0 = ap (λ (i : ℕ). is_dead (get_or (with_object objects n new) i None)) at
      ∙ ap is_dead (made-own objects n new le) ∙ ap dead_bit alive in absurd (omega arith)
  | inr apart ↦ ap is_dead (sym (made-other objects n k new le apart)) ∙ dead
]

pub made-those : (objects : List (Option ObjectRow)) (n : ℕ) (new : ObjectRow) → n ≤ length objects → HasThose objects (with_object objects n new)
made-those objects n new le k none = elim (cases_eq k n) as (λ _. get_or objects k None ≡ None) [
  | inl at ↦
      let a : get_or (with_object objects n new) k None ≡ Some new = ap (λ (i : ℕ). get_or (with_object objects n new) i None) at ∙ made-own objects n new le in
      absurd (cc)
  | inr apart ↦ sym (made-other objects n k new le apart) ∙ none
]

-- and those without one
pub swept-dead : (objects : List (Option ObjectRow)) (o k : ℕ) → is_dead (get_or (set objects o None) k None) ≡ 1 → is_dead (get_or objects k None) ≡ 1
swept-dead objects o k =
    set_item (λ (row : Option ObjectRow). is_dead row ≡ 1 → is_dead (get_or objects k None) ≡ 1) objects o k None None
    (λ at dead. absurd (omega arith)) (λ dead. dead)

-- and those of which one died
pub died-those : (objects : List (Option ObjectRow)) (o : ℕ) → HasThose objects (set objects o (dead_row (get_or objects o None)))
died-those objects o k none =
    elim (cases_eq o k) as (λ _. get_or objects k None ≡ None) [
      | inl at ↦ none_dead (get_or objects k None) (sym (get-with-at at) ∙ none)
      | inr apart ↦ sym (get_or-set_other objects o k (dead_row (get_or objects o None)) None (λ e. apart (sym e))) ∙ none
    ]
  where
    none_dead : (row : Option ObjectRow) → dead_row row ≡ None → row ≡ None
    none_dead None e = refl
    none_dead (Some row) e = absurd (cc)

    get-with-at : o ≡ k → get_or (set objects o (dead_row (get_or objects o None))) k None ≡ dead_row (get_or objects k None)
    get-with-at at = made-here dead_row None objects o k refl at

-- an object dies, and its link is taken off its row
pub spent-died : (objects : List (Option ObjectRow)) (tables : List (List HandleSlot))
    (threads : List (Option ThreadRow)) (o : ObjNo)
    → AreSpent objects tables threads
    → AreSpent (set objects o.0 (dead_row (get_or objects o.0 None))) tables (with_row threads o unlinked)
spent-died objects tables threads o h = record {
  rows = kept.rows;
  unlinked = λ k row is gone. elim (cases_eq o.0 k) as (λ _. row.link ≡ None) [
    | inl at ↦
        let was = map_some unlinked (get_or threads o.0 None) row (sym (row-here threads o unlinked k at) ∙ is) in
        sym (ap (λ (r : ThreadRow). r.link) was.2)
    | inr apart ↦
        kept.unlinked k row is (ap is_dead (sym
        (get_or-set_other objects o.0 k (dead_row (get_or objects o.0 None)) None (λ e. apart (sym e)))) ∙ gone)
  ];
  threads_made = λ k none. elim (cases_eq o.0 k) as (λ _. get_or (with_row threads o unlinked) k None ≡ None) [
    | inl at ↦ kept.threads_made k (died-those objects o.0 k none)
    | inr apart ↦ kept.threads_made k (sym (get_or-set_other objects o.0 k (dead_row (get_or objects o.0 None)) None (λ e. apart (sym e))) ∙ none)
  ];
}
  where
    kept : AreSpent objects tables (with_row threads o unlinked)
    kept =
        spent-kept objects tables threads o unlinked
        (record { stage = λ row. refl; unused = λ row e. e; waits = λ row e. e; going = λ row e. e; link = λ row e. refl })
        h

-- a thread's row goes with its object
pub spent-swept : (objects : List (Option ObjectRow)) (tables : List (List HandleSlot))
    (threads : List (Option ThreadRow)) (o : ℕ)
    → AreSpent objects tables threads → AreSpent (set objects o None) tables (set threads o None)
spent-swept objects tables threads o h = record {
  rows = λ k row is. h.rows k row (there k row is);
  unlinked = λ k row is gone. h.unlinked k row (there k row is) (swept-dead objects o k gone);
  threads_made = λ k none. elim (cases_eq k o) as (λ _. get_or (set threads o None) k None ≡ None) [
    | inl at ↦ set_default threads o k None at
    | inr apart ↦ get_or-set_other threads o k None None apart ∙ h.threads_made k (sym (get_or-set_other objects o k None None apart) ∙ none)
  ];
}
  where
    there : (k : ℕ) (row : ThreadRow) → get_or (set threads o None) k None ≡ Some row → get_or threads k None ≡ Some row
    there k row = set_item (λ (x : Option ThreadRow). x ≡ Some row → get_or threads k None ≡ Some row) threads o k None None (λ at e. absurd (cc)) (λ e. e)
