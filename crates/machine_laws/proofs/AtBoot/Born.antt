-- What holds of each that stands at boot.
use Rattle.std.proofs.Common.{◌≡◌, ℕ, suc, zero, ◌+◌, ◌<◌, ◌≤◌, List, [], ◌∷◌, ◌++◌, length, get_or, map, arith, refl, sym, subst, ap, ◌∙◌, Option, Some, None, Bool, true, false}
use Rattle.std.specs.Prelude.{codes, slice_get, is_some, option_map, not, ◌&&◌, if◌then◌else◌, nat_le, IsTrue}
use Rattle.std.specs.List.{list_all}
use Rattle.std.proofs.lemmas.Bool.{and_parts, leb-true}
use Rattle.std.proofs.lemmas.List.{length-append, append_assoc}
use Rattle.script_types.specs.declared.script.Script.{Script}
use Rattle.script_types.specs.declared.declaration.ThreadDecl.{ThreadDecl}
use Rattle.script_types.specs.declared.declaration.ProcessDecl.{ProcessDecl}
use Rattle.script_types.specs.declared.declaration.QueueDecl.{QueueDecl}
use Rattle.script_types.specs.Shape.{IsShaped}
use Rattle.state_rows.specs.Deferred.{next_of, priority_of}
use Rattle.sym_base.specs.Greatest.{first_of_greatest}
use Rattle.machine.specs.declared.boot.Born.{Born}
use Rattle.state_rows.specs.declared.thread.Role.{Role}
use Rattle.state_rows.specs.declared.thread.Role.TheVariants.{Supervisor, Queue, Declared}
use Rattle.state_rows.specs.declared.thread.ThreadRow.{ThreadRow}
use Rattle.state_rows.specs.declared.thread.Waiting.TheVariants as waiting
use Rattle.state_rows.specs.DeclaredCalls.{calls_of}
use Rattle.machine.specs.Boot.{born, born_kernel, born_process, born_queues, born_thread, born_threads, born_processes, new_thread, is_of}
use Rattle.machine.specs.Task.{call_task}
use Rattle.machine.specs.WellFormed.{IsRole}
use Rattle.move_laws.proofs.Lists.Copies.{copy_at}
use Rattle.move_laws.proofs.Readiness.HasTask.{has_task}
use Rattle.state_rows.specs.declared.thread.Stage.TheVariants.{Live}
use Rattle.std.proofs.Math.Bool.{and-true}

-- a thread's row, n being the number of those that stand at boot: it has made no step, and is linked to its process
pub record IsNewThread (n : ℕ) (row : ThreadRow) : Type 0 where
  pub process : row.process.0 < n
  pub link : row.link ≡ Some row.process
  pub priority : row.priority ≤ 63
  pub waiting : row.waiting ≡ waiting.Nothing
  pub next_instruction : row.next_instruction ≡ 0
  pub part : row.part ≡ None
  pub uses : row.uses ≡ None
  pub live : row.stage ≡ Live
  pub registers : length row.registers ≡ 8

-- an object is alive, and works exactly where it isn't held and is a thread that has something to do
pub record IsBorn (script : Script) (n : ℕ) (b : Born) : Type 0 where
  pub alive : b.object.dead ≡ false
  pub row : (row : ThreadRow) → b.thread ≡ Some row → IsNewThread n row
  pub declared : (row : ThreadRow) → b.thread ≡ Some row → IsRole script row.role
  pub works : b.works ≡ (not b.held && has_task script (calls_of script) None b.thread)

abbrev pub EachBorn : Script → ℕ → List Born → Type 0
EachBorn script n [] = Unit {0}
EachBorn script n (b ∷ bs) = IsBorn script n b × EachBorn script n bs

each_born-append : (script : Script) (n : ℕ) (xs ys : List Born) → EachBorn script n xs → EachBorn script n ys → EachBorn script n (xs ++ ys)
each_born-append script n [] ys h k = k
each_born-append script n (x ∷ xs) ys h k = (h.0, each_born-append script n xs ys h.1 k)

slice_get-behind : (pre : List ThreadDecl) (d : ThreadDecl) (ds : List ThreadDecl) → slice_get (pre ++ d ∷ ds) (length pre) ≡ Some d
slice_get-behind [] d ds = refl
slice_get-behind (x ∷ xs) d ds = slice_get-behind xs d ds

is_new_thread : (n p : ℕ) (role : Role) (priority : ℕ) → p < n → priority ≤ 63 → (row : ThreadRow)
    → Some (new_thread p role priority) ≡ Some row → IsNewThread n row
is_new_thread n p role priority lt few row is =
    let e : new_thread p role priority ≡ row = cc in
    subst (λ (r : ThreadRow). IsNewThread n r) e
    (record {
      process = lt;
      link = refl;
      priority = few;
      waiting = refl;
      next_instruction = refl;
      part = refl;
      uses = refl;
      live = refl;
      registers = refl;
    })

-- and has its role
has_role : (script : Script) (p : ℕ) (role : Role) (priority : ℕ) → IsRole script role → (row : ThreadRow)
    → Some (new_thread p role priority) ≡ Some row → IsRole script row.role
has_role script p role priority declared row is = let e : new_thread p role priority ≡ row = cc in subst (λ (r : ThreadRow). IsRole script r.role) e declared

is_born_thread : (script : Script) (n p k : ℕ) (d : ThreadDecl) → p < n → d.priority ≤ 63 → k < length script.threads → IsBorn script n (born_thread p k d)
is_born_thread script n p k d lt few declared = record {
  alive = refl;
  row = λ row is. is_new_thread n p (Declared k) d.priority lt few row is;
  declared = λ row is. has_role script p (Declared k) d.priority declared row is;
  works = sym (and-true (not d.held));
}

each_born_threads_step : (script : Script) (n p : ℕ) (k : ℕ) (d : ThreadDecl) (rest : List Born) (b : Bool)
    → IsBorn script n (born_thread p k d) → EachBorn script n rest
    → EachBorn script n (if b then born_thread p k d ∷ rest else rest)
each_born_threads_step script n p k d rest true one more = (one, more)
each_born_threads_step script n p k d rest false one more = more

each_born_threads : (script : Script) → IsShaped script → (n : ℕ) (j : Option ℕ) (p : ℕ) (pre ds : List ThreadDecl)
    → p < n → script.threads ≡ pre ++ ds → EachBorn script n (born_threads j p (length pre) ds)
each_born_threads script shaped n j p pre [] lt e = tt
each_born_threads script shaped n j p pre (d ∷ ds) lt e =
    let more : EachBorn script n (born_threads j p (length (pre ++ d ∷ [])) ds) =
    each_born_threads script shaped n j p (pre ++ d ∷ []) ds lt (e ∙ sym (append_assoc pre (d ∷ []) ds)) in
    let long : length (pre ++ d ∷ []) ≡ length pre + 1 = length-append pre (d ∷ []) in
    let at : slice_get script.threads (length pre) ≡ Some d = ap (λ l. slice_get l (length pre)) e ∙ slice_get-behind pre d ds in
    let count : length script.threads ≡ length (pre ++ d ∷ ds) = ap length e in
    let both = length-append pre (d ∷ ds) in
    each_born_threads_step script n p (length pre) d (born_threads j p (length pre + 1) ds) (is_of j d.process)
    (is_born_thread script n p (length pre) d lt (shaped.threads (length pre) d at).priority (omega arith))
    (subst (λ (k : ℕ). EachBorn script n (born_threads j p k ds)) long more)

pub none_some : (x : Option ThreadRow) (row : ThreadRow) → x ≡ None → x ≡ Some row → ⊥
none_some x row e h = cc

is_born_process : (script : Script) (n : ℕ) (name : List ℕ) → IsBorn script n (born_process name)
is_born_process script n name = record {
  alive = refl;
  row = λ row is. absurd (none_some None row refl is);
  declared = λ row is. absurd (none_some None row refl is);
  works = refl;
}

each_born_processes : (script : Script) → IsShaped script → (n j p : ℕ) (ds : List ProcessDecl)
    → p + length (born_processes script.threads j p ds) ≤ n → EachBorn script n (born_processes script.threads j p ds)
each_born_processes script shaped n j p [] le = tt
each_born_processes script shaped n j p (d ∷ ds) le =
    let threads = born_threads (Some j) p 0 script.threads in
    let rest = born_processes script.threads (j + 1) (p + 1 + length threads) ds in
    let long = length-append threads rest in (
      is_born_process script n d.name,
      each_born-append script n threads rest
          (each_born_threads script shaped n (Some j) p [] script.threads (omega arith) refl)
          (each_born_processes script shaped n (j + 1) (p + 1 + length threads) ds (omega arith)),
    )

-- no call is queued
no_call : (script : Script) (q : ℕ) → next_of (calls_of script) q ≡ None
no_call script q = ap (first_of_greatest (priority_of (calls_of script))) (copy_at {A = List ℕ} [] (1 + length script.queues) q)

no_work : (script : Script) (q : ℕ) → false ≡ is_some (option_map call_task (next_of (calls_of script) q))
no_work script q = ap (λ (call : Option ℕ). is_some (option_map call_task call)) (sym (no_call script q))

each_born_queues : (script : Script) (n q : ℕ) (ds : List QueueDecl) → 0 < n → q + length ds ≤ 1 + length script.queues
    → IsTrue (list_all (λ (d : QueueDecl). nat_le d.priority 63) ds) → EachBorn script n (born_queues q ds)
each_born_queues script n q [] lt declared few = tt
each_born_queues script n q (d ∷ ds) lt declared few =
    let parts = and_parts (nat_le d.priority 63) (list_all (λ (x : QueueDecl). nat_le x.priority 63) ds) few in (
      record {
        alive = refl;
        row = λ row is. is_new_thread n 0 (Queue q) d.priority lt (leb-true d.priority 63 parts.0) row is;
        declared = λ row is. has_role script 0 (Queue q) d.priority (omega arith) row is;
        works = no_work script q;
      },
      each_born_queues script n (q + 1) ds lt (omega arith) parts.1,
    )

each_born_kernel : (script : Script) → IsShaped script → (n : ℕ) → 0 < n → EachBorn script n (born_kernel script)
each_born_kernel script shaped n some = (
  is_born_process script n (codes "kernel"),
  (
    record {
      alive = refl;
      row = λ row is. is_new_thread n 0 Supervisor 48 some (omega arith) row is;
      declared = λ row is. has_role script 0 Supervisor 48 tt row is;
      works = no_work script 0;
    },
    each_born-append script n (born_queues 1 script.queues) (born_threads None 0 0 script.threads)
        (each_born_queues script n 1 script.queues some (omega arith) shaped.numbers.queues)
        (each_born_threads script shaped n None 0 [] script.threads some refl),
  ),
)

pub each_born : (script : Script) → IsShaped script → EachBorn script (length (born script)) (born script)
each_born script shaped =
    let n = length (born script) in
    let first = length (born_kernel script) in
    let rest = born_processes script.threads 0 first script.processes in
    let long = length-append (born_kernel script) rest in
    each_born-append script n (born_kernel script) rest (each_born_kernel script shaped n (omega arith))
    (each_born_processes script shaped n 0 first script.processes (omega arith))

-- each row at boot is a new thread's
pub born_row : (script : Script) (n : ℕ) (bs : List Born) (i : ℕ) (row : ThreadRow) → EachBorn script n bs
    → get_or (map (λ b. b.thread) bs) i None ≡ Some row → IsNewThread n row
born_row script n [] i row h is = cc
born_row script n (b ∷ bs) zero row h is = h.0.row row is
born_row script n (b ∷ bs) (suc i) row h is = born_row script n bs i row h.1 is

-- and has a role that the script declares
pub born_role : (script : Script) (n : ℕ) (bs : List Born) (i : ℕ) (row : ThreadRow) → EachBorn script n bs
    → get_or (map (λ b. b.thread) bs) i None ≡ Some row → IsRole script row.role
born_role script n [] i row h is = cc
born_role script n (b ∷ bs) zero row h is = h.0.declared row is
born_role script n (b ∷ bs) (suc i) row h is = born_role script n bs i row h.1 is
