-- What holds of each thread and each process that is declared holds of all that are born of them.
use Rattle.std.proofs.Common.{ℕ, ◌+◌, List, [], ◌∷◌, length, Option, Some}
use Rattle.std.specs.List.{AllByRecursion}
use Rattle.script_types.specs.declared.declaration.ProcessDecl.{ProcessDecl}
use Rattle.script_types.specs.declared.declaration.ThreadDecl.{ThreadDecl}
use Rattle.machine.specs.declared.boot.Born.{Born}
use Rattle.machine.specs.Boot.{born_process, born_thread, born_threads, born_processes, is_of}
use Rattle.move_laws.proofs.Lists.Cases.{if_cases}
use Rattle.move_laws.proofs.Lists.Each.{all-both}

pub all_threads : (P : Born → Type 0) → ((p k : ℕ) (d : ThreadDecl) → P (born_thread p k d))
    → (j : Option ℕ) (p k : ℕ) (ds : List ThreadDecl) → AllByRecursion P (born_threads j p k ds)
all_threads P thread j p k [] = tt
all_threads P thread j p k (d ∷ ds) =
    let more = all_threads P thread j p (k + 1) ds in
    if_cases (AllByRecursion P) (is_of j d.process) (born_thread p k d ∷ born_threads j p (k + 1) ds)
    (born_threads j p (k + 1) ds) (λ _. (thread p k d, more)) (λ _. more)

pub all_processes : (P : Born → Type 0) → ((p k : ℕ) (d : ThreadDecl) → P (born_thread p k d))
    → ((name : List ℕ) → P (born_process name)) → (threads : List ThreadDecl) (j p : ℕ) (ds : List ProcessDecl)
    → AllByRecursion P (born_processes threads j p ds)
all_processes P thread process threads j p [] = tt
all_processes P thread process threads j p (d ∷ ds) =
    let own = born_threads (Some j) p 0 threads in
    let rest = born_processes threads (j + 1) (p + 1 + length own) ds in
    (process d.name, all-both P own rest (all_threads P thread (Some j) p 0 threads) (all_processes P thread process threads (j + 1) (p + 1 + length own) ds))
