-- Who holds what at boot: threads their processes, and the kernel the threads.
use Rattle.std.proofs.Common.{◌≡◌, ◌⊎◌, inl, inr, ℕ, suc, List, [], ◌∷◌, length, get_or, arith, refl, ap, ◌∙◌, Option, Some, None, Bool, true, false, map, replicate}
use Rattle.std.specs.Prelude.{is_some, not}
use Rattle.sym_base.specs.declared.number.ObjNo.{ObjNo}
use Rattle.entry_log.specs.declared.effect.Holder.{Holder}
use Rattle.entry_log.specs.declared.effect.Holder.TheVariants.{InProcess, InThread, Temp, Own, Link, Message, Kernel}
use Rattle.script_types.specs.declared.script.Script.{Script}
use Rattle.script_types.specs.Shape.{IsShaped}
use Rattle.machine.specs.declared.boot.Born.{Born}
use Rattle.sym_base.specs.declared.limits.TheConstants.Limits.{OBJECTS}
use Rattle.state_rows.specs.ServerChanges.{no_rows}
use Rattle.state_rows.specs.declared.handle_slot.HandleSlot.{HandleSlot}
use Rattle.state_rows.specs.declared.thread.ThreadRow.{ThreadRow}
use Rattle.machine.specs.Boot.{boot, boot_of, born}
use Rattle.state_rows.specs.HandleSlots.{slot_at, fresh_slot}
use Rattle.machine.specs.HeldIn.{own_slot, use_names, rows_hold, servers_hold, owed_by, held_in}
use Rattle.machine.specs.Holding.{held_at_boot}
use Rattle.machine.specs.References.{total, option_names, mutex_names, session_names}
use Rattle.machine.specs.Rows.{object_of}
use Rattle.machine.specs.WellFormed.{is_dead}
use Rattle.machine_laws.proofs.AtBoot.BootLocks.{nothing_at}
use Rattle.machine_laws.proofs.AtBoot.BootObjects.{born_dead}
use Rattle.machine_laws.proofs.AtBoot.BootServing.{no_session}
use Rattle.machine_laws.proofs.AtBoot.BootRows.{total-const, const_either}
use Rattle.machine_laws.proofs.AtBoot.Born.{EachBorn, each_born, born_row}

fresh_own_slot : (c : Bool) (n i : ℕ) (x : ObjNo) → own_slot c x (slot_at (replicate n fresh_slot) i) ≡ 0
fresh_own_slot false (suc n) (suc i) x = fresh_own_slot false n i x
fresh_own_slot _ _ _ x = refl

empty_own_slot : (c : Bool) (i : ℕ) (x : ObjNo) → own_slot c x (slot_at [] i) ≡ 0
empty_own_slot true i x = refl
empty_own_slot false i x = refl

own_slot_of : (c : Bool) (table : List HandleSlot) (i : ℕ) (x : ObjNo) → (table ≡ replicate 256 fresh_slot) ⊎ (table ≡ []) → own_slot c x (slot_at table i) ≡ 0
own_slot_of c table i x (inl e) = ap (λ (l : List HandleSlot). own_slot c x (slot_at l i)) e ∙ fresh_own_slot c 256 i x
own_slot_of c table i x (inr e) = ap (λ (l : List HandleSlot). own_slot c x (slot_at l i)) e ∙ empty_own_slot c i x

nothing_used_by : (script : Script) (n : ℕ) (bs : List Born) (i : ℕ) (x : ObjNo) (thread : Option ThreadRow)
    → EachBorn script n bs → get_or (map (λ b. b.thread) bs) i None ≡ thread → use_names x thread ≡ 0
nothing_used_by script n bs i x None h is = refl
nothing_used_by script n bs i x (Some row) h is = ap (option_names x) (born_row script n bs i row h is).uses

-- at boot the references are the links of threads to their processes, and the kernel's own to threads
pub held-boot : (script : Script) → IsShaped script → (g : Holder) (x : ObjNo) → held_in (boot script) g x ≡ held_at_boot script g x
unfolding boot_of
held-boot script shaped g x = let a = rows g in let b = owed in let c = served g in omega arith
  where
    bs : List Born
    bs = born script

    tables : List (List HandleSlot)
    tables = map (λ _. replicate 256 fresh_slot) bs

    owed : total (total (owed_by g x)) (map (λ _. []) bs) ≡ 0
    owed = total-const (total (owed_by g x)) [] bs refl

    rows : (g : Holder) → rows_hold tables (map (λ b. b.thread) bs) (map (λ _. []) bs) g x ≡ held_at_boot script g x
    rows (InProcess p i) = own_slot_of (is_some (get_or (map (λ b. b.thread) bs) p.0 None)) (get_or tables p.0 []) i x
        (const_either (replicate 256 fresh_slot) [] bs p.0)
    rows (InThread t i) = own_slot_of (not (is_some (get_or (map (λ b. b.thread) bs) t.0 None)))
        (get_or tables t.0 []) i x (const_either (replicate 256 fresh_slot) [] bs t.0)
    rows (Temp t) = nothing_used_by script (length bs) bs t.0 x (get_or (map (λ b. b.thread) bs) t.0 None) (each_born script shaped) refl
    rows (Own t) = nothing_at bs (λ (l : List ObjNo). total (mutex_names x) l ≡ 0) t.0 refl
    rows (Link t) = refl
    rows (Message m) = refl
    rows Kernel = refl

    served : (g : Holder) → servers_hold (map (λ _. []) bs) (no_rows OBJECTS).sessions [] g x ≡ 0
    served (Own t) = nothing_at bs (λ (l : List ObjNo). total (mutex_names x) l ≡ 0) t.0 refl
    served (Link s) = ap (session_names x) (no_session OBJECTS s)
    served (Message m) = refl
    served _ = refl

-- nothing is dead at boot
pub not_dead-boot : (script : Script) → IsShaped script → (o : ObjNo) → is_dead (object_of (boot script) o) ≡ 0
unfolding boot_of
not_dead-boot script shaped o = born_dead script (length (born script)) 0 (born script) o.0 (each_born script shaped)
