-- How many stand at boot.
use Rattle.std.proofs.Common.{◌≡◌, ℕ, ◌+◌, ◌≤◌, List, [], ◌∷◌, length, arith, refl, Option, Some, None, Bool, true, false}
use Rattle.std.specs.Prelude.{if◌then◌else◌, nat_le}
use Rattle.std.proofs.lemmas.List.{length-append}
use Rattle.script_types.specs.declared.script.Script.{Script}
use Rattle.script_types.specs.declared.declaration.ThreadDecl.{ThreadDecl}
use Rattle.script_types.specs.declared.declaration.ProcessDecl.{ProcessDecl}
use Rattle.script_types.specs.declared.declaration.QueueDecl.{QueueDecl}
use Rattle.script_types.specs.Shape.{IsShaped}
use Rattle.machine.specs.declared.boot.Born.{Born}
use Rattle.machine.specs.Boot.{born, born_kernel, born_queues, born_thread, born_threads, born_processes, is_of}

pub length_queues : (q : ℕ) (ds : List QueueDecl) → length (born_queues q ds) ≡ length ds
length_queues q [] = refl
length_queues q (d ∷ ds) = let r = length_queues (q + 1) ds in omega arith

-- Threads stand in groups: the kernel threads, and then those of each process. This is the number of the process
-- whose threads are the group behind one
next : Option ℕ → ℕ
next None = 0
next (Some j) = j + 1

-- 1 where a thread is of this group or a later one
from_group : Option ℕ → Option ℕ → ℕ
from_group None process = 1
from_group (Some j) None = 0
from_group (Some j) (Some i) = if nat_le j i then 1 else 0

pub count_from : Option ℕ → List ThreadDecl → ℕ
count_from j [] = 0
count_from j (d ∷ ds) = from_group j d.process + count_from j ds

one_of_step : (j process : Option ℕ) → (if is_of j process then 1 else 0) + from_group (Some (next j)) process ≤ from_group j process
unfolding from_group next
one_of_step None None = omega arith
one_of_step None (Some i) = grind arith
one_of_step (Some j) None = omega arith
one_of_step (Some j) (Some i) = grind arith

length_if : (b : Bool) (x : Born) (rest : List Born) → length (if b then x ∷ rest else rest) ≡ (if b then 1 else 0) + length rest
length_if true x rest = omega arith
length_if false x rest = omega arith

threads_of_group : (j : Option ℕ) (p k : ℕ) (ds : List ThreadDecl) → length (born_threads j p k ds) + count_from (Some (next j)) ds ≤ count_from j ds
unfolding count_from
threads_of_group j p k [] = omega arith
threads_of_group j p k (d ∷ ds) =
    let r = threads_of_group j p (k + 1) ds in
    let one = one_of_step j d.process in
    let e = length_if (is_of j d.process) (born_thread p k d) (born_threads j p (k + 1) ds) in omega arith

pub threads_of_process : (j p : ℕ) (ds : List ThreadDecl) → length (born_threads (Some j) p 0 ds) + count_from (Some (j + 1)) ds ≤ count_from (Some j) ds
unfolding next
threads_of_process j p ds = threads_of_group (Some j) p 0 ds

pub kernel_threads : (ds : List ThreadDecl) → length (born_threads None 0 0 ds) + count_from (Some 0) ds ≤ count_from None ds
unfolding next
kernel_threads ds = threads_of_group None 0 0 ds

processes_length : (threads : List ThreadDecl) (j p : ℕ) (ds : List ProcessDecl)
    → length (born_processes threads j p ds) ≤ length ds + count_from (Some j) threads
processes_length threads j p [] = omega arith
processes_length threads j p (d ∷ ds) =
    let own = born_threads (Some j) p 0 threads in
    let r = processes_length threads (j + 1) (p + 1 + length own) ds in
    let t = threads_of_process j p threads in
    let e = length-append own (born_processes threads (j + 1) (p + 1 + length own) ds) in
    omega arith

pub count_from_all : (ds : List ThreadDecl) → count_from None ds ≡ length ds
unfolding count_from from_group
count_from_all [] = refl
count_from_all (d ∷ ds) = let r = count_from_all ds in omega arith

-- at most 81 stand at boot
pub born_few : (script : Script) → IsShaped script → length (born script) ≤ 81
born_few script h =
    let first = length (born_kernel script) in
    let a = processes_length script.threads 0 first script.processes in
    let b = kernel_threads script.threads in
    let c = h.processes in
    let d = h.count in
    let e = count_from_all script.threads in
    let f = length-append (born_kernel script) (born_processes script.threads 0 first script.processes) in
    let g = length-append (born_queues 1 script.queues) (born_threads None 0 0 script.threads) in
    let i = length_queues 1 script.queues in omega arith
