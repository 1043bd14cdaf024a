-- At boot no process is a thread.
use Rattle.std.proofs.Common.{◌≡◌, ℕ, suc, zero, ◌+◌, List, [], ◌∷◌, ◌++◌, length, get_or, arith, refl, sym, subst, ap, ◌∙◌, Option, Some, None, Bool, true, false, map}
use Rattle.std.specs.Prelude.{if◌then◌else◌}
use Rattle.std.proofs.lemmas.List.{length-append, append_assoc}
use Rattle.script_types.specs.declared.script.Script.{Script}
use Rattle.script_types.specs.declared.declaration.ProcessDecl.{ProcessDecl}
use Rattle.script_types.specs.declared.declaration.QueueDecl.{QueueDecl}
use Rattle.script_types.specs.declared.declaration.ThreadDecl.{ThreadDecl}
use Rattle.machine.specs.declared.boot.Born.{Born}
use Rattle.state_rows.specs.declared.thread.Role.{Role}
use Rattle.state_rows.specs.declared.thread.Role.TheVariants.{Supervisor, Queue, Declared}
use Rattle.state_rows.specs.declared.thread.ThreadRow.{ThreadRow}
use Rattle.machine.specs.Boot.{born, born_kernel, born_process, born_queues, born_thread, born_threads, born_processes, new_thread, is_of}
use Rattle.machine_laws.proofs.AtBoot.Born.{none_some}

at_seam : (pre : List Born) (b : Born) (bs : List Born) → get_or (map (λ x. x.thread) (pre ++ b ∷ bs)) (length pre) None ≡ b.thread
at_seam [] b bs = refl
at_seam (x ∷ xs) b bs = at_seam xs b bs

-- each thread's process is none of the threads
abbrev pub EachLinked : List Born → List Born → Type 0
EachLinked all [] = Unit {0}
EachLinked all (b ∷ bs) = ((row : ThreadRow) → b.thread ≡ Some row → get_or (map (λ x. x.thread) all) row.process.0 None ≡ None) × EachLinked all bs

each_linked-append : (all xs ys : List Born) → EachLinked all xs → EachLinked all ys → EachLinked all (xs ++ ys)
each_linked-append all [] ys h k = k
each_linked-append all (x ∷ xs) ys h k = (h.0, each_linked-append all xs ys h.1 k)

-- one whose process is no thread
linked_thread : (all : List Born) (p : ℕ) (role : Role) (priority : ℕ) → get_or (map (λ x. x.thread) all) p None ≡ None
    → (row : ThreadRow) → Some (new_thread p role priority) ≡ Some row
    → get_or (map (λ x. x.thread) all) row.process.0 None ≡ None
linked_thread all p role priority none row is =
    let e : new_thread p role priority ≡ row = cc in
    subst (λ (r : ThreadRow). get_or (map (λ x. x.thread) all) r.process.0 None ≡ None) e none

linked_threads_step : (all : List Born) (p k : ℕ) (d : ThreadDecl) (rest : List Born) (own : Bool)
    → get_or (map (λ x. x.thread) all) p None ≡ None → EachLinked all rest
    → EachLinked all (if own then born_thread p k d ∷ rest else rest)
linked_threads_step all p k d rest true none h = (linked_thread all p (Declared k) d.priority none, h)
linked_threads_step all p k d rest false none h = h

linked_threads : (all : List Born) (j : Option ℕ) (p k : ℕ) (ds : List ThreadDecl)
    → get_or (map (λ x. x.thread) all) p None ≡ None → EachLinked all (born_threads j p k ds)
linked_threads all j p k [] none = tt
linked_threads all j p k (d ∷ ds) none =
    linked_threads_step all p k d (born_threads j p (k + 1) ds) (is_of j d.process) none
    (linked_threads all j p (k + 1) ds none)

linked_queues : (all : List Born) (q : ℕ) (ds : List QueueDecl) → get_or (map (λ x. x.thread) all) 0 None ≡ None → EachLinked all (born_queues q ds)
linked_queues all q [] none = tt
linked_queues all q (d ∷ ds) none = (linked_thread all 0 (Queue q) d.priority none, linked_queues all (q + 1) ds none)

linked_processes : (all pre : List Born) (threads : List ThreadDecl) (j p : ℕ) (ds : List ProcessDecl) → length pre ≡ p
    → all ≡ pre ++ born_processes threads j p ds → EachLinked all (born_processes threads j p ds)
linked_processes all pre threads j p [] at e = tt
linked_processes all pre threads j p (d ∷ ds) at e =
    let own = born_threads (Some j) p 0 threads in
    let rest = born_processes threads (j + 1) (p + 1 + length own) ds in
    let more = pre ++ born_process d.name ∷ own in
    let none : get_or (map (λ x. x.thread) all) p None ≡ None =
    ap (λ (n : ℕ). get_or (map (λ x. x.thread) all) n None) (sym at)
    ∙ ap (λ (l : List Born). get_or (map (λ x. x.thread) l) (length pre) None) e
    ∙ at_seam pre (born_process d.name) (own ++ rest) in
    let long : length more ≡ p + 1 + length own = let a = length-append pre (born_process d.name ∷ own) in omega arith in
    let again : all ≡ more ++ rest = e ∙ sym (append_assoc pre (born_process d.name ∷ own) rest) in (
      λ row is. absurd (none_some None row refl is),
      each_linked-append all own rest (linked_threads all (Some j) p 0 threads none)
          (linked_processes all more threads (j + 1) (p + 1 + length own) ds long again),
    )

pub each_linked : (script : Script) → EachLinked (born script) (born script)
each_linked script =
    let all = born script in
    let queues = born_queues 1 script.queues in
    let own = born_threads None 0 0 script.threads in
    let first = length (born_kernel script) in
    each_linked-append all (born_kernel script) (born_processes script.threads 0 first script.processes) (
      λ row is. absurd (none_some None row refl is),
      (
        linked_thread all 0 Supervisor 48 refl,
        each_linked-append all queues own (linked_queues all 1 script.queues refl)
            (linked_threads all None 0 0 script.threads refl),
      ),
    )
    (linked_processes all (born_kernel script) script.threads 0 first script.processes refl refl)

pub linked_at : (all bs : List Born) (i : ℕ) (row : ThreadRow) → EachLinked all bs
    → get_or (map (λ x. x.thread) bs) i None ≡ Some row → get_or (map (λ x. x.thread) all) row.process.0 None ≡ None
linked_at all [] i row h is = cc
linked_at all (b ∷ bs) zero row h is = h.0 row is
linked_at all (b ∷ bs) (suc i) row h is = linked_at all bs i row h.1 is
