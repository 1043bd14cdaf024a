-- At most 64 threads stand at boot, the supervisor and those of queues among them.
use Rattle.std.proofs.Common.{◌≡◌, ℕ, ◌+◌, ◌≤◌, List, [], ◌∷◌, ◌++◌, length, map, arith, Option, Some, None}
use Rattle.script_types.specs.declared.declaration.ProcessDecl.{ProcessDecl}
use Rattle.script_types.specs.declared.declaration.ThreadDecl.{ThreadDecl}
use Rattle.script_types.specs.declared.script.Script.{Script}
use Rattle.script_types.specs.Shape.{IsShaped}
use Rattle.state_rows.specs.declared.thread.ThreadRow.{ThreadRow}
use Rattle.machine.specs.declared.boot.Born.{Born}
use Rattle.machine.specs.Boot.{born, born_kernel, born_processes, born_queues, born_threads}
use Rattle.machine.specs.References.{total}
use Rattle.machine.specs.Serving.{thread_bit}
use Rattle.machine.proofs.BornFew.{count_from, count_from_all, kernel_threads, length_queues, threads_of_process}

-- how many of a list are threads
abbrev bits : List Born → ℕ
bits bs = total thread_bit (map (λ b. b.thread) bs)

bits-append : (xs ys : List Born) → bits (xs ++ ys) ≡ bits xs + bits ys
bits-append [] ys = omega arith
bits-append (x ∷ xs) ys = let r = bits-append xs ys in omega arith

bit_le : (row : Option ThreadRow) → thread_bit row ≤ 1
bit_le None = omega arith
bit_le (Some row) = omega arith

bits_le : (bs : List Born) → bits bs ≤ length bs
bits_le [] = omega arith
bits_le (b ∷ bs) = let one = bit_le b.thread in let r = bits_le bs in omega arith

bits_processes : (threads : List ThreadDecl) (j p : ℕ) (ds : List ProcessDecl) → bits (born_processes threads j p ds) ≤ count_from (Some j) threads
bits_processes threads j p [] = omega arith
bits_processes threads j p (d ∷ ds) =
    let own = born_threads (Some j) p 0 threads in
    let rest = born_processes threads (j + 1) (p + 1 + length own) ds in
    let both = bits-append own rest in
    let here = bits_le own in
    let later = bits_processes threads (j + 1) (p + 1 + length own) ds in
    let group = threads_of_process j p threads in omega arith

pub threads_few : (script : Script) → IsShaped script → total thread_bit (map (λ b. b.thread) (born script)) ≤ 64
threads_few script h =
    let first = length (born_kernel script) in
    let queues = born_queues 1 script.queues in
    let own = born_threads None 0 0 script.threads in
    let rest = born_processes script.threads 0 first script.processes in
    let all = bits-append (born_kernel script) rest in
    let kernel = bits-append queues own in
    let of_queues = bits_le queues in
    let of_own = bits_le own in
    let later = bits_processes script.threads 0 first script.processes in
    let length_of = length_queues 1 script.queues in
    let group = kernel_threads script.threads in
    let whole = count_from_all script.threads in
    let few = h.count in omega arith
