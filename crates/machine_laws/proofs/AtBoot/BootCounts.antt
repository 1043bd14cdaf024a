-- Each object that stands at boot has a reference: a thread the kernel's own, a process its threads'.
use Rattle.std.proofs.Common.{◌≡◌, inl, inr, ℕ, suc, zero, ◌+◌, ◌<◌, ◌≤◌, List, [], ◌∷◌, ◌++◌, length, get_or, arith, refl, subst, ap, ◌∙◌, Option, Some, None, Bool, true, false, map}
use Rattle.std.specs.Prelude.{if◌then◌else◌, ◌||◌}
use Rattle.std.specs.List.{list_any}
use Rattle.std.proofs.lemmas.Bool.{eq-eqb, or_left, or_right}
use Rattle.sym_base.specs.declared.number.ObjNo.{ObjNo}
use Rattle.script_types.specs.declared.declaration.ProcessDecl.{ProcessDecl}
use Rattle.script_types.specs.declared.declaration.QueueDecl.{QueueDecl}
use Rattle.script_types.specs.declared.declaration.ThreadDecl.{ThreadDecl}
use Rattle.script_types.specs.declared.script.Script.{Script}
use Rattle.script_types.specs.Source.{IsWellFormed}
use Rattle.script_types.proofs.ProcessThreads.{HasThread, formed_has_thread}
use Rattle.machine.specs.declared.boot.Born.{Born}
use Rattle.state_rows.specs.declared.thread.ThreadRow.{ThreadRow}
use Rattle.machine.specs.Boot.{boot, boot_of, objects_from, born, born_kernel, born_queues, born_thread, born_threads, born_processes, is_of}
use Rattle.machine.specs.Rows.{object_of}
use Rattle.machine.specs.WellFormed.{IsAlive}
use Rattle.machine.specs.References.{total, thread_names, count_of, kernel_holds}
use Rattle.machine_laws.proofs.AtBoot.BootObjects.{length-from}
use Rattle.machine_laws.proofs.Fitting.LiveObjects.{alive_inside}
use Rattle.move_laws.proofs.References.Same.{same_object, same_self}

-- how often the threads of a list refer to an object
abbrev links : ObjNo → List Born → ℕ
links o bs = total (thread_names o) (map (λ b. b.thread) bs)

links-append : (o : ObjNo) (xs ys : List Born) → links o (xs ++ ys) ≡ links o xs + links o ys
links-append o [] ys = omega arith
links-append o (x ∷ xs) ys = let r = links-append o xs ys in omega arith

-- how often the threads of a list and the kernel refer to the object of number n
abbrev held : List Born → ℕ → Option ThreadRow → ℕ
held all n thread = links (record { 0 = n }) all + kernel_holds thread

-- each of a list has a reference, n being the number of the first
abbrev EachHeld : List Born → ℕ → List Born → Type 0
EachHeld all n [] = Unit {0}
EachHeld all n (b ∷ bs) = (0 < held all n b.thread) × EachHeld all (n + 1) bs

each_held-append : (all : List Born) (n m : ℕ) (xs ys : List Born) → m ≡ n + length xs → EachHeld all n xs → EachHeld all m ys → EachHeld all n (xs ++ ys)
each_held-append all n m [] ys e h k = let at : m ≡ n = omega arith in subst (λ (i : ℕ). EachHeld all i ys) at k
each_held-append all n m (x ∷ xs) ys e h k = (h.0, each_held-append all (n + 1) m xs ys (omega arith) h.1 k)

each_held_step : (all : List Born) (n p k : ℕ) (d : ThreadDecl) (rest : List Born) (own : Bool)
    → ((m : ℕ) → EachHeld all m rest) → EachHeld all n (if own then born_thread p k d ∷ rest else rest)
each_held_step all n p k d rest true more = (omega arith, more (n + 1))
each_held_step all n p k d rest false more = more n

-- the kernel holds each thread
each_held_threads : (all : List Born) (j : Option ℕ) (p k : ℕ) (ds : List ThreadDecl) (n : ℕ) → EachHeld all n (born_threads j p k ds)
each_held_threads all j p k [] n = tt
each_held_threads all j p k (d ∷ ds) n =
    each_held_step all n p k d (born_threads j p (k + 1) ds) (is_of j d.process)
    (λ m. each_held_threads all j p (k + 1) ds m)

each_held_queues : (all : List Born) (q : ℕ) (ds : List QueueDecl) (n : ℕ) → EachHeld all n (born_queues q ds)
each_held_queues all q [] n = tt
each_held_queues all q (d ∷ ds) n = (omega arith, each_held_queues all (q + 1) ds (n + 1))

-- whether the j-th process, or the kernel, has a thread
abbrev has_thread : Option ℕ → List ThreadDecl → Bool
has_thread j ds = list_any (λ d. is_of j d.process) ds

linked_step : (p k : ℕ) (d : ThreadDecl) (rest : List Born) (own more : Bool) → (own || more) ≡ true
    → (more ≡ true → 0 < links (record { 0 = p }) rest)
    → 0 < links (record { 0 = p }) (if own then born_thread p k d ∷ rest else rest)
linked_step p k d rest true more any h = let one = same_self (record { 0 = p }) in omega arith
linked_step p k d rest false more any h = h any

-- a thread refers to its process
linked : (j : Option ℕ) (p k : ℕ) (ds : List ThreadDecl) → has_thread j ds ≡ true → 0 < links (record { 0 = p }) (born_threads j p k ds)
linked j p k [] any = absurd (cc)
linked j p k (d ∷ ds) any = linked_step p k d (born_threads j p (k + 1) ds) (is_of j d.process) (has_thread j ds) any (linked j p (k + 1) ds)

each_held_processes : (all : List Born) (threads : List ThreadDecl) (j p : ℕ) (ds : List ProcessDecl)
    → ((i : ℕ) → j ≤ i → i < j + length ds → has_thread (Some i) threads ≡ true)
    → ((o : ObjNo) → links o (born_processes threads j p ds) ≤ links o all)
    → EachHeld all p (born_processes threads j p ds)
each_held_processes all threads j p [] some part = tt
each_held_processes all threads j p (d ∷ ds) some part =
    let own = born_threads (Some j) p 0 threads in
    let rest = born_processes threads (j + 1) (p + 1 + length own) ds in (
      let a = part (record { 0 = p }) in
          let b = links-append (record { 0 = p }) own rest in
          let c = linked (Some j) p 0 threads (some j (omega arith) (omega arith)) in omega arith,
      each_held-append all (p + 1) (p + 1 + length own) own rest refl (each_held_threads all (Some j) p 0 threads (p + 1))
          (each_held_processes all threads (j + 1) (p + 1 + length own) ds
          (λ i above below. some i (omega arith) (omega arith))
          (λ o. let a = part o in let b = links-append o own rest in omega arith)),
    )

-- a process that has a thread has one in the list
has_one : (i : ℕ) (ds : List ThreadDecl) → HasThread i ds → has_thread (Some i) ds ≡ true
has_one i [] h = absurd h
has_one i (d ∷ ds) (inl here) = or_left (is_of (Some i) d.process) (has_thread (Some i) ds) (ap (is_of (Some i)) here ∙ eq-eqb i i refl)
has_one i (d ∷ ds) (inr later) = or_right (is_of (Some i) d.process) (has_thread (Some i) ds) (has_one i ds later)

valid_has : (script : Script) → IsWellFormed script → (i : ℕ) → i < length script.processes → has_thread (Some i) script.threads ≡ true
valid_has script valid i below = has_one i script.threads (formed_has_thread script valid i below)

born_held : (script : Script) → IsWellFormed script → EachHeld (born script) 0 (born script)
born_held script valid =
    let all = born script in
    let queues = born_queues 1 script.queues in
    let own = born_threads None 0 0 script.threads in
    let behind = 2 + length queues in
    let first = length (born_kernel script) in
    let rest = born_processes script.threads 0 first script.processes in
    each_held-append all 0 first (born_kernel script) rest (omega arith) (
      omega arith,
      (
        omega arith,
        each_held-append all 2 behind queues own refl (each_held_queues all 1 script.queues 2)
            (each_held_threads all None 0 0 script.threads behind),
      ),
    )
    (each_held_processes all script.threads 0 first script.processes
    (λ i above below. valid_has script valid i (omega arith))
    (λ o. let a = links-append o (born_kernel script) rest in omega arith))

held_at : (all : List Born) (n : ℕ) (bs : List Born) (i : ℕ) (o : ObjNo) → o.0 ≡ n + i → EachHeld all n bs
    → i < length bs → 0 < links o all + kernel_holds (get_or (map (λ b. b.thread) bs) i None)
held_at all n [] i o at h inside = absurd (omega arith)
held_at all n (b ∷ bs) zero o at h inside = subst (λ (x : ObjNo). 0 < links x all + kernel_holds b.thread) (same_object (record { 0 = n }) o (omega arith)) h.0
held_at all n (b ∷ bs) (suc i) o at h inside = held_at all (n + 1) bs i o (omega arith) h.1 (omega arith)

-- each object that stands at boot has a reference
pub counted-boot : (script : Script) → IsWellFormed script → (o : ObjNo) → IsAlive (object_of (boot script) o) → 0 < count_of (boot script) o
unfolding boot_of
counted-boot script valid o alive =
    let bs = born script in
    let there = alive_inside (objects_from 0 bs) o.0 alive in
    let long = length-from 0 bs in
    let some = held_at bs 0 bs o.0 o (omega arith) (born_held script valid) (omega arith) in
    omega arith
