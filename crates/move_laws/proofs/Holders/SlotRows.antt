-- What changing a slot of a handle table does to who holds what.
use Rattle.std.proofs.Common.{◌≡◌, inl, inr, ℕ, ◌+◌, ◌<◌, List, [], length, get_or, arith, refl, sym, ap, ◌∙◌, Option, Bool, true, false}
use Rattle.std.specs.Prelude.{slice_set, is_some, not, ◌==◌, ◌&&◌, if◌then◌else◌, None}
use Rattle.std.proofs.lemmas.List.{get_or-set_same, get_or-set_other}
use Rattle.std.proofs.lemmas.Bool.{cases_eq, eq-eqb, and_right}
use Rattle.sym_base.specs.declared.number.ObjNo.{ObjNo}
use Rattle.entry_log.specs.declared.effect.Holder.{Holder}
use Rattle.entry_log.specs.declared.effect.Holder.TheVariants.{InProcess, InThread}
use Rattle.state_rows.specs.declared.handle_slot.HandleSlot.{HandleSlot}
use Rattle.state_rows.specs.declared.thread.ThreadRow.{ThreadRow}
use Rattle.state_rows.specs.HandleSlots.{slot_at, fresh_slot}
use Rattle.machine.specs.Handles.{with_slot}
use Rattle.machine.specs.References.{slot_names}
use Rattle.machine.specs.Holding.{is_holder}
use Rattle.machine.specs.HeldIn.{own_slot, rows_hold}
use Rattle.move_laws.proofs.References.Same.{if_is, if_not, eqb_apart}

-- the slot that is changed, and the others
slot_same : (tables : List (List HandleSlot)) (owner : ObjNo) (i : ℕ) (f : HandleSlot → HandleSlot) (p j : ℕ)
    → owner.0 < length tables → i < length (get_or tables owner.0 []) → owner.0 ≡ p → i ≡ j
    → slot_at (get_or (with_slot tables owner i f) p []) j ≡ f (slot_at (get_or tables owner.0 []) i)
slot_same tables owner i f p j h k at ij =
    let table = get_or tables owner.0 [] in
    let slot = f (slot_at table i) in
    ap (λ (n : ℕ). slot_at (get_or (with_slot tables owner i f) n []) j) (sym at)
    ∙ ap (λ (l : List HandleSlot). slot_at l j) (get_or-set_same tables owner.0 (slice_set table i slot) [] h)
    ∙ ap (λ (n : ℕ). slot_at (slice_set table i slot) n) (sym ij)
    ∙ get_or-set_same table i slot fresh_slot k

slot_beside : (tables : List (List HandleSlot)) (owner : ObjNo) (i : ℕ) (f : HandleSlot → HandleSlot) (p j : ℕ)
    → owner.0 < length tables → owner.0 ≡ p → (i ≡ j → ⊥)
    → slot_at (get_or (with_slot tables owner i f) p []) j ≡ slot_at (get_or tables p []) j
slot_beside tables owner i f p j h at apart =
    let table = get_or tables owner.0 [] in
    let slot = f (slot_at table i) in
    ap (λ (n : ℕ). slot_at (get_or (with_slot tables owner i f) n []) j) (sym at)
    ∙ ap (λ (l : List HandleSlot). slot_at l j) (get_or-set_same tables owner.0 (slice_set table i slot) [] h)
    ∙ get_or-set_other table i j slot fresh_slot (λ e. apart (sym e))
    ∙ ap (λ (n : ℕ). slot_at (get_or tables n []) j) at

slot_other : (tables : List (List HandleSlot)) (owner : ObjNo) (i : ℕ) (f : HandleSlot → HandleSlot) (p j : ℕ)
    → (owner.0 ≡ p → ⊥) → slot_at (get_or (with_slot tables owner i f) p []) j ≡ slot_at (get_or tables p []) j
slot_other tables owner i f p j apart =
    ap (λ (l : List HandleSlot). slot_at l j)
    (get_or-set_other tables owner.0 p (slice_set (get_or tables owner.0 []) i
    (f (slot_at (get_or tables owner.0 []) i))) [] (λ e. apart (sym e)))

pub own_slot_false : (c : Bool) (x : ObjNo) (slot : HandleSlot) → c ≡ false → own_slot c x slot ≡ slot_names x slot
own_slot_false true x slot e = cc
own_slot_false false x slot e = refl

own_slot_true : (c : Bool) (x : ObjNo) (slot : HandleSlot) → c ≡ true → own_slot c x slot ≡ 0
own_slot_true true x slot e = refl
own_slot_true false x slot e = cc

-- a slot of the holder's own table
own_slot_set : (tables : List (List HandleSlot)) (owner : ObjNo) (i : ℕ) (f : HandleSlot → HandleSlot) (p : ObjNo)
    (j : ℕ) (x : ObjNo) (c : Bool)
    → owner.0 < length tables → i < length (get_or tables owner.0 []) → (owner.0 ≡ p.0 → c ≡ false)
    → own_slot c x (slot_at (get_or (with_slot tables owner i f) p.0 []) j) +
    (if owner.0 == p.0 && i == j then slot_names x (slot_at (get_or tables owner.0 []) i) else 0)
    ≡ own_slot c x (slot_at (get_or tables p.0 []) j) +
    (if owner.0 == p.0 && i == j then slot_names x (f (slot_at (get_or tables owner.0 []) i)) else 0)
own_slot_set tables owner i f p j x c h k own =
    let old = slot_at (get_or tables owner.0 []) i in
    let test = owner.0 == p.0 && i == j in
    let Kept : Type 0 = own_slot c x (slot_at (get_or (with_slot tables owner i f) p.0 []) j) +
    (if test then slot_names x old else 0) ≡ own_slot c x (slot_at (get_or tables p.0 []) j) +
    (if test then slot_names x (f old) else 0) in
    let elsewhere : test ≡ false → slot_at (get_or (with_slot tables owner i f) p.0 []) j ≡ slot_at (get_or tables p.0 []) j → Kept = λ no same_slot.
    let a = if_not test (slot_names x old) no in
    let b = if_not test (slot_names x (f old)) no in
    let d = ap (own_slot c x) same_slot in omega arith in
    elim (cases_eq owner.0 p.0) as (λ _. Kept) [
      | inr apart ↦ elsewhere (ap (λ (s : Bool). s && i == j) (eqb_apart owner.0 p.0 apart)) (slot_other tables owner i f p.0 j apart)
      | inl at ↦ elim (cases_eq i j) as (λ _. Kept) [
        | inr apart ↦ elsewhere (and_right (owner.0 == p.0) (i == j) (eqb_apart i j apart)) (slot_beside tables owner i f p.0 j h at apart)
        | inl ij ↦
            let yes : test ≡ true = rw (eq-eqb owner.0 p.0 at, eq-eqb i j ij) refl in
            let a = if_is test (slot_names x old) yes in
            let b = if_is test (slot_names x (f old)) yes in
            let d = own_slot_false c x (slot_at (get_or (with_slot tables owner i f) p.0 []) j) (own at)
            ∙ ap (slot_names x) (slot_same tables owner i f p.0 j h k at ij) in
            let g : own_slot c x (slot_at (get_or tables p.0 []) j) ≡ slot_names x old =
            own_slot_false c x (slot_at (get_or tables p.0 []) j) (own at)
            ∙ ap (λ (n : ℕ). slot_names x (slot_at (get_or tables n []) j)) (sym at)
            ∙ ap (λ (n : ℕ). slot_names x (slot_at (get_or tables owner.0 []) n)) (sym ij) in
            omega arith
      ]
    ]

-- a slot of another kind of table
own_slot_stays : (tables : List (List HandleSlot)) (owner : ObjNo) (i : ℕ) (f : HandleSlot → HandleSlot) (p : ObjNo)
    (j : ℕ) (x : ObjNo) (c : Bool)
    → (owner.0 ≡ p.0 → c ≡ true)
    → own_slot c x (slot_at (get_or (with_slot tables owner i f) p.0 []) j)
    ≡ own_slot c x (slot_at (get_or tables p.0 []) j)
own_slot_stays tables owner i f p j x c own = elim (cases_eq owner.0 p.0) [
  | inl at ↦
      own_slot_true c x (slot_at (get_or (with_slot tables owner i f) p.0 []) j) (own at)
      ∙ sym (own_slot_true c x (slot_at (get_or tables p.0 []) j) (own at))
  | inr apart ↦ ap (own_slot c x) (slot_other tables owner i f p.0 j apart)
]

-- whose reference a slot of a table is, `thread` telling whether the owner is a thread
abbrev pub slot_holder : Bool → ObjNo → ℕ → Holder
slot_holder false owner i = InProcess owner i
slot_holder true owner i = InThread owner i

pub rows-with_slot : (tables : List (List HandleSlot)) (threads : List (Option ThreadRow)) (mutexes : List (List ObjNo))
    (owner : ObjNo) (i : ℕ) (f : HandleSlot → HandleSlot) (thread : Bool)
    → is_some (get_or threads owner.0 None) ≡ thread → owner.0 < length tables → i < length (get_or tables owner.0 [])
    → (g : Holder) (x : ObjNo)
    → rows_hold (with_slot tables owner i f) threads mutexes g x +
    (if is_holder (slot_holder thread owner i) g then slot_names x (slot_at (get_or tables owner.0 []) i) else 0)
    ≡ rows_hold tables threads mutexes g x +
    (if is_holder (slot_holder thread owner i) g then slot_names x (f (slot_at (get_or tables owner.0 []) i)) else 0)
rows-with_slot tables threads mutexes owner i f false e h k (InProcess p j) x =
    own_slot_set tables owner i f p j x (is_some (get_or threads p.0 None)) h k
    (λ at. ap (λ (n : ℕ). is_some (get_or threads n None)) (sym at) ∙ e)
rows-with_slot tables threads mutexes owner i f false e h k (InThread p j) x =
    let a = own_slot_stays tables owner i f p j x (not (is_some (get_or threads p.0 None)))
    (λ at. ap (λ (n : ℕ). not (is_some (get_or threads n None))) (sym at) ∙ ap not e) in
    omega arith
rows-with_slot tables threads mutexes owner i f true e h k (InProcess p j) x =
    let a = own_slot_stays tables owner i f p j x (is_some (get_or threads p.0 None))
    (λ at. ap (λ (n : ℕ). is_some (get_or threads n None)) (sym at) ∙ e) in
    omega arith
rows-with_slot tables threads mutexes owner i f true e h k (InThread p j) x =
    own_slot_set tables owner i f p j x (not (is_some (get_or threads p.0 None))) h k
    (λ at. ap (λ (n : ℕ). not (is_some (get_or threads n None))) (sym at) ∙ ap not e)
rows-with_slot tables threads mutexes owner i f false e h k _ x = refl
rows-with_slot tables threads mutexes owner i f true e h k _ x = refl
