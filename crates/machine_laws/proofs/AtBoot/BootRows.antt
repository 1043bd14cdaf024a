-- The state at boot is well-formed.
use Rattle.std.proofs.Common.{Bool, ◌≡◌, ◌⊎◌, inl, inr, ℕ, suc, zero, ◌+◌, ◌<◌, ◌≤◌, List, [], ◌∷◌, length, get_or, arith, refl, sym, subst, ap, ◌∙◌, Option, Some, None, map, replicate, false}
use Rattle.std.proofs.lemmas.List.{length-map, length-replicate, get_or_past}
use Rattle.std.proofs.lemmas.Bool.{cases_lt}
use Rattle.sym_base.specs.declared.number.ObjNo.{ObjNo}
use Rattle.script_types.specs.declared.script.Script.{Script}
use Rattle.script_types.specs.Shape.{IsShaped}
use Rattle.script_types.specs.Source.{IsWellFormed as IsWellFormedScript}
use Rattle.script_types.proofs.ShapeLaws.{formed_is_shaped}
use Rattle.sym_base.specs.declared.limits.TheConstants.Limits.{DEVICES, OBJECTS}
use Rattle.state_rows.specs.RequestChanges.{new_rows as request_rows}
use Rattle.state_rows.specs.LockChanges.{new_rows as lock_rows}
use Rattle.state_rows.specs.ServerChanges.{no_rows}
use Rattle.state_rows.specs.declared.duty.Owed.{Owed}
use Rattle.machine.specs.declared.boot.Born.{Born}
use Rattle.state_rows.specs.declared.handle_slot.HandleSlot.{HandleSlot}
use Rattle.state_rows.specs.declared.thread.ThreadRow.{ThreadRow}
use Rattle.machine.specs.Boot.{boot, boot_in, boot_of, born, objects_from, ready_at_boot}
use Rattle.state_rows.specs.HandleSlots.{fresh_slot, slot_at}
use Rattle.machine.specs.References.{total, option_names, slot_names, thread_names, kernel_names, owed_names, mutex_names, count_of, kernel_holds}
use Rattle.machine.specs.Rows.{thread_of}
use Rattle.state_rows.specs.HandleSlots.{IsTable}
use Rattle.machine.specs.WellFormed.{EachMayOwe, AreLogons, AreRequests, AreRows, IsWellFormed, IsUntold, owed_sweeps, weight, is_spent}
use Rattle.machine_laws.proofs.AtBoot.BootCounts.{counted-boot}
use Rattle.machine_laws.proofs.AtBoot.BootLinks.{each_linked, linked_at}
use Rattle.machine_laws.proofs.AtBoot.BootLocks.{locks-boot, memories-boot, nothing_at}
use Rattle.machine_laws.proofs.AtBoot.BootNano.{synchronized-boot}
use Rattle.machine_laws.proofs.AtBoot.BootObjects.{born_alive, born_dead, inside_at, length-from, no_thread_at, none_seek, place_at}
use Rattle.machine_laws.proofs.AtBoot.BootReady.{ready-boot}
use Rattle.machine_laws.proofs.AtBoot.BootRequests.{no_request, requests-boot}
use Rattle.machine_laws.proofs.AtBoot.BootServers.{servers-boot}
use Rattle.machine_laws.proofs.AtBoot.BootServing.{messages-boot, rows_of_servers-boot, total-replicate}
use Rattle.machine.proofs.BornFew.{born_few}
use Rattle.machine_laws.proofs.AtBoot.Born.{IsNewThread, EachBorn, each_born, born_role, born_row}
use Rattle.move_laws.proofs.RowLaws.Logons.{logons-boot, none_logged}
use Rattle.move_laws.proofs.Lists.Copies.{copy_at}
use Rattle.move_laws.proofs.References.Same.{same_other}

pub total-const : {A B : Type 0} (f : B → ℕ) (y : B) (xs : List A) → f y ≡ 0 → total f (map (λ _. y) xs) ≡ 0
total-const f y [] h = refl
total-const f y (x ∷ xs) h = let r = total-const f y xs h in omega arith

pub const_either : {A B : Type 0} (y d : B) (xs : List A) (i : ℕ) → (get_or (map (λ _. y) xs) i d ≡ y) ⊎ (get_or (map (λ _. y) xs) i d ≡ d)
const_either y d [] i = inr refl
const_either y d (x ∷ xs) zero = inl refl
const_either y d (x ∷ xs) (suc i) = const_either y d xs i

const_at : {A B : Type 0} (y d : B) (xs : List A) (i : ℕ) → i < length xs → get_or (map (λ _. y) xs) i d ≡ y
const_at y d [] i h = absurd (omega arith)
const_at y d (x ∷ xs) zero h = refl
const_at y d (x ∷ xs) (suc i) h = const_at y d xs i (omega arith)

-- no row names an object past those at boot
thread_names_past : (n : ℕ) (o : ObjNo) (thread : Option ThreadRow) → n ≤ o.0
    → ((row : ThreadRow) → thread ≡ Some row → IsNewThread n row) → thread_names o thread ≡ 0
thread_names_past n o None le rows = refl
thread_names_past n o (Some row) le rows =
    let new = rows row refl in
    let before = new.process in
    let link : option_names o row.link ≡ 0 = ap (option_names o) new.link ∙ same_other row.process o (λ e. absurd (omega arith)) in
    let used : option_names o row.uses ≡ 0 = ap (option_names o) new.uses in
    omega arith

born_threads_past : (script : Script) (n : ℕ) (o : ObjNo) (bs : List Born) → n ≤ o.0 → EachBorn script n bs
    → total (thread_names o) (map (λ b. b.thread) bs) ≡ 0
born_threads_past script n o [] le h = refl
born_threads_past script n o (b ∷ bs) le h =
    let a = thread_names_past n o b.thread le h.0.row in
    let r = born_threads_past script n o bs le h.1 in omega arith

-- a count at boot is of an object that stands there
pub boot_count_inside : (script : Script) → IsShaped script → (o : ObjNo) → length (born script) ≤ o.0 → count_of (boot script) o ≡ 0
unfolding boot_of
boot_count_inside script shaped o le =
    let handles = total-const (total (slot_names o)) (replicate 256 fresh_slot) (born script) (total-replicate (slot_names o) fresh_slot 256 refl) in
    let threads = born_threads_past script (length (born script)) o (born script) le (each_born script shaped) in
    let none : thread_of (boot script) o ≡ None = get_or_past (map (λ b. b.thread) (born script)) o.0 None (simp length-map le) in
    let kernel : kernel_names (boot script) o ≡ 0 = ap kernel_holds none in
    let owed = total-const (total (owed_names o)) [] (born script) refl in
    let mutexes = total-const (total (mutex_names o)) [] (born script) refl in
    omega arith

fresh_instances : (n i : ℕ) → (slot_at (replicate n fresh_slot) i).instance ≤ 16383
fresh_instances zero i = omega arith
fresh_instances (suc n) zero = omega arith
fresh_instances (suc n) (suc i) = fresh_instances n i

fresh_table : IsTable (replicate 256 fresh_slot)
fresh_table = record {
  size = length-replicate 256 fresh_slot;
  instances = fresh_instances 256;
  counted =
      λ i o is. let none = copy_at fresh_slot 256 i in let object = ap (λ (slot : HandleSlot). slot.object) none in
      absurd (cc);
}

pub rows-boot : (shared : Bool) (script : Script) → IsWellFormedScript script → AreRows script (boot_in shared script)
unfolding boot_of
rows-boot shared script valid =
    let shaped = formed_is_shaped script valid in
    let bs = born script in
    let few = born_few script shaped in
    let each = each_born script shaped in
    let objects = length-from 0 bs in
    let threads = length-map bs (λ b. b.thread) in
    record {
      references = record {
        sized = record {
          tables = length-map bs (λ _. replicate 256 fresh_slot) ∙ sym threads;
          duties = length-map bs (λ _. []) ∙ sym threads;
          first = omega arith;
          supervised = omega arith;
          threads_few = omega arith;
          objects_few = omega arith;
        };
        places = record {
          below = λ k row is. let at = place_at 0 bs k row is in let inside = inside_at 0 bs k row is in omega arith;
          apart = λ j k one other is there same. let a = place_at 0 bs j one is in let b = place_at 0 bs k other there in omega arith;
          sought = λ o place some. let none = none_seek script (length bs) bs o place each in absurd (omega arith);
          found = λ o k row is some. let none = none_seek script (length bs) bs o row.place each in absurd (omega arith);
          makings = λ fresh. sym objects;
          numbers = λ fresh k row is. let at = place_at 0 bs k row is in omega arith;
        };
        tables =
            λ k inside. subst IsTable (sym (const_at (replicate 256 fresh_slot) [] bs k
            (let a = length-map bs (λ _. replicate 256 fresh_slot) in omega arith))) fresh_table;
        threads = record {
          rows = λ k row is. let new = born_row script (length bs) bs k row each is in
              let process = new.process in
              let next = new.next_instruction in
              record {
                process = omega arith;
                link = λ p at. let same : Some row.process ≡ Some p = sym new.link ∙ at in let e : row.process ≡ p = cc in ap (λ (x : ObjNo). x.0) (sym e);
                priority = new.priority;
                next_instruction = omega arith;
                unused = λ _. new.uses;
                registers = new.registers;
                declared = born_role script (length bs) bs k row each is;
                returns = λ e. let first = new.part in absurd (cc);
              };
          processes = λ k row is. linked_at bs bs k row (each_linked script) is;
          servers = λ k queue row is serves. servers-boot script k queue row is serves;
        };
        duties = record {
          own = λ k. nothing_at bs (EachMayOwe (map (λ b. b.thread) bs) (no_rows OBJECTS) 0 k) k tt;
          few = λ k. nothing_at bs (λ (l : List Owed). total weight l ≤ 12) k (omega arith);
          returns = λ k _. nothing_at bs (λ (l : List Owed). l ≡ []) k refl;
        };
        spent = record {
          rows =
              λ k row is after. let new = born_row script (length bs) bs k row each is in
              let no : is_spent row.stage ≡ false = ap is_spent new.live in absurd (cc);
          unlinked = λ k row is dead. let none = born_dead script (length bs) 0 bs k each in absurd (omega arith);
          threads_made = λ k none. no_thread_at 0 bs k none;
        };
      };
      synchronization = record {
        nano = synchronized-boot script shaped;
        deferred = record { idfcs = refl; places = refl; queues = length-replicate {A = List ℕ} (1 + length script.queues) []; known = tt };
        requests = subst (λ (n : ℕ). AreRequests n (request_rows (length bs) DEVICES)) (sym threads) (requests-boot (length bs));
        locks = locks-boot (objects_from 0 bs) OBJECTS bs refl;
        logons =
            subst (λ (n : ℕ). AreLogons n (request_rows (length bs) DEVICES) (map (λ _. []) bs)) (sym threads)
            (logons-boot bs (length bs) (request_rows (length bs) DEVICES) refl);
        awaited = record {
          requests = λ d request is. absurd (no_request (length bs) d request is);
          logons = λ u s some. let none = none_logged u s bs in absurd (omega arith);
          waits = λ k row o is waits. (born_row script (length bs) bs k row each is).live;
        };
      };
      serving = record {
        servers = rows_of_servers-boot (λ row. is_spent row.stage) (objects_from 0 bs) OBJECTS (lock_rows OBJECTS) bs refl;
        messages = messages-boot script (IsUntold (request_rows (length bs) DEVICES) (map (λ _. []) bs)) OBJECTS script.pool shaped refl;
      };
      services = record {
        memories = memories-boot script shaped;
      };
      lives = record {
        alive = λ o c. elim (cases_lt o.0 (length bs)) [
          | inl lt ↦ born_alive script (length bs) 0 bs o.0 each lt
          | inr le ↦ let z = boot_count_inside script shaped o le in absurd (omega arith)
        ];
        counted = λ o alive. let some = counted-boot script valid o alive in omega arith;
        sweeps = λ o. total-const (total (owed_sweeps o)) [] bs refl ∙ sym (born_dead script (length bs) 0 bs o.0 each);
      };
    }

pub well_formed-boot : (shared : Bool) (script : Script) → IsWellFormedScript script → IsWellFormed script (boot_in shared script) (ready_at_boot script)
well_formed-boot shared script valid = record { rows = rows-boot shared script valid; ready = ready-boot shared script (formed_is_shaped script valid) }
