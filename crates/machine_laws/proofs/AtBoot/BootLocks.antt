-- Mutexes, semaphores and memory at boot: nobody owns or waits, and a process has 1,024 bytes.
use Rattle.std.proofs.Common.{◌≡◌, ℕ, suc, zero, ◌<◌, ◌≤◌, List, [], ◌∷◌, length, get_or, map, replicate, arith, refl, sym, ap, subst, ◌∙◌, Option, Some, None, true, false}
use Rattle.std.specs.Prelude.{is_some}
use Rattle.std.proofs.lemmas.List.{length-map, length-replicate}
use Rattle.sym_base.specs.declared.limits.TheConstants.Limits.{OBJECTS}
use Rattle.sym_base.specs.declared.number.ObjNo.{ObjNo}
use Rattle.script_types.specs.declared.script.Script.{Script}
use Rattle.script_types.specs.Shape.{IsShaped}
use Rattle.state_rows.specs.Locks.{is_among}
use Rattle.state_rows.specs.LockChanges.{new_rows}
use Rattle.state_rows.specs.declared.locks.Owner.{Owner}
use Rattle.state_rows.specs.declared.object.ObjectRow.{ObjectRow}
use Rattle.state_rows.specs.declared.thread.ThreadRow.{ThreadRow}
use Rattle.machine.specs.declared.boot.Born.{Born}
use Rattle.machine.specs.Boot.{born, memory_of, memory_of_row}
use Rattle.machine.specs.References.{total, mutex_names}
use Rattle.machine.specs.WellFormed.{AreLocks, AreMemories}
use Rattle.move_laws.proofs.Lists.Copies.{copy_at}
use Rattle.machine_laws.proofs.AtBoot.BootLinks.{each_linked, linked_at}
use Rattle.machine_laws.proofs.AtBoot.Born.{each_born, born_row}

-- each has nothing
pub nothing_at : {A : Type 0} (bs : List Born) (P : List A → Type 0) (k : ℕ) → P [] → P (get_or (map (λ _. []) bs) k [])
nothing_at [] P k h = h
nothing_at (b ∷ bs) P zero h = h
nothing_at (b ∷ bs) P (suc k) h = nothing_at bs P k h

abbrev nobody : Option Owner
nobody = None

nobody_owns : (n : ℕ) (o : ObjNo) → get_or (replicate n nobody) o.0 None ≡ nobody
nobody_owns n o = copy_at {A = Option Owner} None n o.0

nobody_waits : (n : ℕ) (t o : ObjNo) → is_among t (get_or (replicate n []) o.0 []) ≡ false
nobody_waits n t o = ap (is_among t) (copy_at {A = List ObjNo} [] n o.0)

pub locks-boot : (objects : List (Option ObjectRow)) (n : ℕ) (bs : List Born) → n ≡ OBJECTS
    → AreLocks objects (map (λ b. b.thread) bs) (map (λ _. []) bs) (map (λ _. []) bs) (new_rows n)
locks-boot objects n bs size = record {
  owners_sized = length-replicate {A = Option Owner} n None ∙ size;
  counts_sized = length-replicate n 0 ∙ size;
  waiters_sized = length-replicate {A = List ObjNo} n [] ∙ size;
  mutexes_sized = length-map bs (λ _. []) ∙ sym (length-map bs (λ b. b.thread));
  counts = λ o. subst (λ (k : ℕ). k ≤ 2147483647) (sym (copy_at {A = ℕ} 0 n o.0)) (omega arith);
  owned = λ o owner is. let none = nobody_owns n o in absurd (cc);
  held = λ t o some. let none = nothing_at bs (λ (l : List ObjNo). total (mutex_names o) l ≡ 0) t.0 refl in absurd (omega arith);
  waiters = λ t o among. let none = nobody_waits n t o in absurd (cc);
  paid = λ t o among. let none = nobody_waits n t o in absurd (cc);
  owners_made = λ o past. nobody_owns n o;
  waiters_made = λ o past. copy_at {A = List ObjNo} [] n o.0;
  counts_made = λ o past. copy_at {A = ℕ} 0 n o.0;
}

memory_size : (thread : Option ThreadRow) (bytes : List ℕ) → memory_of_row thread ≡ Some bytes → length bytes ≡ 1024
memory_size None bytes is = let same : replicate 1024 0 ≡ bytes = cc in ap length (sym same) ∙ length-replicate {A = ℕ} 1024 0
memory_size (Some row) bytes is = absurd (cc)

memory_bytes : (bs : List Born) (k : ℕ) (bytes : List ℕ) → get_or (map memory_of bs) k None ≡ Some bytes → length bytes ≡ 1024
memory_bytes [] k bytes is = absurd (cc)
memory_bytes (b ∷ bs) zero bytes is = memory_size b.thread bytes is
memory_bytes (b ∷ bs) (suc k) bytes is = memory_bytes bs k bytes is

memory_there : (bs : List Born) (k : ℕ) → k < length bs → get_or (map (λ b. b.thread) bs) k None ≡ None → is_some (get_or (map memory_of bs) k None) ≡ true
memory_there [] k within none = absurd (omega arith)
memory_there (b ∷ bs) zero within none = ap (λ (thread : Option ThreadRow). is_some (memory_of_row thread)) none
memory_there (b ∷ bs) (suc k) within none = memory_there bs k (omega arith) none

pub memories-boot : (script : Script) → IsShaped script → AreMemories (map (λ b. b.thread) (born script)) (map memory_of (born script))
memories-boot script shaped =
    let bs = born script in
    record {
      sized = length-map bs memory_of ∙ sym (length-map bs (λ b. b.thread));
      bytes = memory_bytes bs;
      processes =
          λ k row is. let new = born_row script (length bs) bs k row (each_born script shaped) is in
          memory_there bs row.process.0 new.process (linked_at bs bs k row (each_linked script) is);
    }
