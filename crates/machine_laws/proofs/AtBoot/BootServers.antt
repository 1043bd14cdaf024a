-- At boot whoever serves a queue has the number of its thread.
use Rattle.std.proofs.Common.{◌≡◌, ℕ, suc, zero, ◌+◌, List, [], ◌∷◌, ◌++◌, length, get_or, arith, refl, sym, subst, ap, ◌∙◌, Option, Some, None, map}
use Rattle.std.specs.List.{AllByRecursion}
use Rattle.std.proofs.lemmas.List.{append_assoc}
use Rattle.script_types.specs.declared.declaration.QueueDecl.{QueueDecl}
use Rattle.script_types.specs.declared.declaration.ThreadDecl.{ThreadDecl}
use Rattle.script_types.specs.declared.script.Script.{Script}
use Rattle.machine.specs.declared.boot.Born.{Born}
use Rattle.state_rows.specs.declared.thread.ThreadRow.{ThreadRow}
use Rattle.machine.specs.Boot.{born, born_kernel, born_queues, born_thread, born_threads, born_processes}
use Rattle.machine.specs.Task.{served_queue}
use Rattle.machine_laws.proofs.AtBoot.Declared.{all_threads, all_processes}
use Rattle.move_laws.proofs.Lists.Each.{all-both}

-- the queue that a thread serves, None also where there is no thread
abbrev served_by : Option ThreadRow → Option ℕ
served_by None = None
served_by (Some row) = served_queue row.role

-- each of a list that serves a queue has the number of its thread, n being the number of the first
abbrev EachServes : ℕ → List Born → Type 0
EachServes n [] = Unit {0}
EachServes n (b ∷ bs) = ((queue : ℕ) → served_by b.thread ≡ Some queue → n ≡ 1 + queue) × EachServes (n + 1) bs

-- one that serves none
abbrev ServesNone : Born → Type 0
ServesNone b = served_by b.thread ≡ None

no_server : (p k : ℕ) (d : ThreadDecl) → ServesNone (born_thread p k d)
no_server p k d = refl

serve_none : (n : ℕ) (bs : List Born) → AllByRecursion ServesNone bs → EachServes n bs
serve_none n [] h = tt
serve_none n (b ∷ bs) h = (λ queue is. let none = h.0 in absurd (cc), serve_none (n + 1) bs h.1)

-- the thread of queue q has the number behind it
serve_queues : (n q : ℕ) (ds : List QueueDecl) (bs : List Born) → n ≡ 1 + q → AllByRecursion ServesNone bs → EachServes n (born_queues q ds ++ bs)
serve_queues n q [] bs at h = serve_none n bs h
serve_queues n q (d ∷ ds) bs at h = (λ queue is. let e : q ≡ queue = cc in omega arith, serve_queues (n + 1) (q + 1) ds bs (omega arith) h)

each_serves : (script : Script) → EachServes 0 (born script)
each_serves script =
    let own = born_threads None 0 0 script.threads in
    let first = length (born_kernel script) in
    let rest = born_processes script.threads 0 first script.processes in
    let others = all-both ServesNone own rest (all_threads ServesNone no_server None 0 0 script.threads)
    (all_processes ServesNone no_server (λ name. refl) script.threads 0 first script.processes) in (
      λ queue is. absurd (cc),
      (
        λ queue is. let e : 0 ≡ queue = cc in omega arith,
        subst (λ (l : List Born). EachServes 2 l) (sym (append_assoc (born_queues 1 script.queues) own rest))
            (serve_queues 2 1 script.queues (own ++ rest) refl others),
      ),
    )

serves_at : (n : ℕ) (bs : List Born) (i queue : ℕ) (row : ThreadRow) → EachServes n bs
    → get_or (map (λ b. b.thread) bs) i None ≡ Some row → served_queue row.role ≡ Some queue → n + i ≡ 1 + queue
serves_at n [] i queue row h is serves = absurd (cc)
serves_at n (b ∷ bs) zero queue row h is serves = let at = h.0 queue (ap served_by is ∙ serves) in omega arith
serves_at n (b ∷ bs) (suc i) queue row h is serves = let at = serves_at (n + 1) bs i queue row h.1 is serves in omega arith

pub servers-boot : (script : Script) (i queue : ℕ) (row : ThreadRow)
    → get_or (map (λ b. b.thread) (born script)) i None ≡ Some row → served_queue row.role ≡ Some queue → i ≡ 1 + queue
servers-boot script i queue row is serves = let at = serves_at 0 (born script) i queue row (each_serves script) is serves in omega arith
