-- In every well-formed script no two processes have one name, and no two threads.
use Rattle.std.proofs.Common.{◌≡◌, ℕ, ◌∙◌, inr, true, false, List, [], ◌∷◌, ◌++◌, map, sym, ap, subst, refl, append-nil}
use Rattle.std.specs.List.{list_any}
use Rattle.std.specs.Prelude.{◌||◌, not, codes}
use Rattle.std.specs.Str.{bytes_eq}
use Rattle.std.proofs.lemmas.Bool.{or_parts, or_from, not-true}
use Rattle.std.proofs.lemmas.List.{append_assoc, map-append}
use Rattle.std.proofs.lemmas.List.Folds.{list_any-append}
use Rattle.script_types.specs.Context.{start, after, after_all, with_instr}
use Rattle.script_types.specs.Names.{Declared, is_process_name, is_thread_name}
use Rattle.script_types.specs.Source.{IsWellFormed}
use Rattle.script_types.specs.Stands.{Stands, AllStand}
use Rattle.script_types.specs.declared.context.Context.{Context}
use Rattle.script_types.specs.declared.declaration.ProcessDecl.{ProcessDecl}
use Rattle.script_types.specs.declared.declaration.QueueDecl.{QueueDecl}
use Rattle.script_types.specs.declared.declaration.ThreadDecl.{ThreadDecl}
use Rattle.script_types.specs.declared.instruction.Instr.{Instr}
use Rattle.script_types.specs.declared.script.Script.{Script}
use Rattle.script_types.specs.declared.source_line.SourceLine.{SourceLine}
use Rattle.script_types.specs.declared.source_line.SourceLine.TheVariants as line
use Rattle.script_types.proofs.NamesApart.{AreNamesApart, IsPut, put_behind, apart_put}

abbrev pub process_names : List ProcessDecl → List (List ℕ)
process_names processes = map (λ (p : ProcessDecl). p.name) processes

abbrev pub queue_names : List QueueDecl → List (List ℕ)
queue_names queues = map (λ (q : QueueDecl). q.name) queues

abbrev pub thread_names : List ThreadDecl → List (List ℕ)
thread_names threads = map (λ (t : ThreadDecl). t.name) threads

-- no two processes have one name, the kernel's own among them, and no two threads, its own and those of queues among them
pub record AreNamesNew (script : Script) : Type 0 where
  pub processes : AreNamesApart (codes "kernel" ∷ process_names script.processes)
  pub threads : AreNamesApart (codes "supervisor" ∷ queue_names script.queues ++ thread_names script.threads)

-- a test of names is one of what has them
any_name : {A : Type 0} (name_of : A → List ℕ) (name : List ℕ) (xs : List A)
    → list_any (bytes_eq name) (map name_of xs) ≡ list_any (λ x. bytes_eq name (name_of x)) xs
any_name name_of name [] = refl
any_name name_of name (x ∷ xs) = ap (λ b. bytes_eq name (name_of x) || b) (any_name name_of name xs)

-- what is new stands behind the others
put_last : {A : Type 0} (name_of : A → List ℕ) (xs : List A) (x : A) → IsPut (name_of x) (map name_of xs) (map name_of (xs ++ x ∷ []))
put_last name_of xs x = inr (map name_of xs, [], sym (append-nil (map name_of xs)), map-append name_of xs (x ∷ []))

process_more : (s : Script) (p : ProcessDecl) → not (is_process_name s p.name) ≡ true
    → AreNamesApart (codes "kernel" ∷ process_names s.processes)
    → AreNamesApart (codes "kernel" ∷ process_names (s.processes ++ p ∷ []))
process_more s p h new =
    let apart = or_parts (bytes_eq p.name (codes "kernel"))
    (list_any (λ (q : ProcessDecl). bytes_eq p.name q.name) s.processes) (not-true (is_process_name s p.name) h) in
    apart_put p.name (codes "kernel" ∷ process_names s.processes) (codes "kernel" ∷ process_names (s.processes ++ p ∷ []))
    (put_behind p.name (codes "kernel" ∷ []) (process_names s.processes) (process_names (s.processes ++ p ∷ []))
    (put_last (λ (q : ProcessDecl). q.name) s.processes p))
    (or_from (bytes_eq p.name (codes "kernel")) (list_any (bytes_eq p.name) (process_names s.processes)) apart.0
    (any_name (λ (q : ProcessDecl). q.name) p.name s.processes ∙ apart.1))
    new

-- the names of threads
abbrev all_threads : Script → List (List ℕ)
all_threads s = codes "supervisor" ∷ queue_names s.queues ++ thread_names s.threads

no_thread_named : (s : Script) (name : List ℕ) → not (is_thread_name s name) ≡ true → list_any (bytes_eq name) (all_threads s) ≡ false
no_thread_named s name h =
    let queues = list_any (λ (q : QueueDecl). bytes_eq name q.name) s.queues in
    let threads = list_any (λ (u : ThreadDecl). bytes_eq name u.name) s.threads in
    let apart = or_parts (bytes_eq name (codes "supervisor") || queues) threads (not-true (is_thread_name s name) h) in
    let first = or_parts (bytes_eq name (codes "supervisor")) queues apart.0 in
    or_from (bytes_eq name (codes "supervisor")) (list_any (bytes_eq name) (queue_names s.queues ++ thread_names s.threads)) first.0
    (list_any-append (bytes_eq name) (queue_names s.queues) (thread_names s.threads)
    ∙ or_from (list_any (bytes_eq name) (queue_names s.queues)) (list_any (bytes_eq name) (thread_names s.threads))
    (any_name (λ (q : QueueDecl). q.name) name s.queues ∙ first.1) (any_name (λ (t : ThreadDecl). t.name) name s.threads ∙ apart.1))

queue_more : (s : Script) (q : QueueDecl) → not (is_thread_name s q.name) ≡ true → AreNamesApart (all_threads s)
    → AreNamesApart (codes "supervisor" ∷ queue_names (s.queues ++ q ∷ []) ++ thread_names s.threads)
queue_more s q h new =
    let names = thread_names s.threads in
    let put : queue_names (s.queues ++ q ∷ []) ++ names ≡ queue_names s.queues ++ q.name ∷ names =
    ap (λ (l : List (List ℕ)). l ++ names) (map-append (λ (d : QueueDecl). d.name) s.queues (q ∷ []))
    ∙ append_assoc (queue_names s.queues) (q.name ∷ []) names in
    apart_put q.name (all_threads s) (codes "supervisor" ∷ queue_names (s.queues ++ q ∷ []) ++ names)
    (inr (codes "supervisor" ∷ queue_names s.queues, names, refl, ap (λ (l : List (List ℕ)). codes "supervisor" ∷ l) put)) (no_thread_named s q.name h) new

thread_more : (s : Script) (t : ThreadDecl) → not (is_thread_name s t.name) ≡ true → AreNamesApart (all_threads s)
    → AreNamesApart (codes "supervisor" ∷ queue_names s.queues ++ thread_names (s.threads ++ t ∷ []))
thread_more s t h new = apart_put t.name (all_threads s) (codes "supervisor" ∷ queue_names s.queues ++ thread_names (s.threads ++ t ∷ []))
    (put_behind t.name (codes "supervisor" ∷ queue_names s.queues) (thread_names s.threads)
    (thread_names (s.threads ++ t ∷ [])) (put_last (λ (u : ThreadDecl). u.name) s.threads t))
    (no_thread_named s t.name h) new

instr_names : (threads : List ThreadDecl) (what : Instr) → thread_names (with_instr threads what) ≡ thread_names threads
instr_names [] what = refl
instr_names (t ∷ []) what = refl
instr_names (t ∷ u ∷ ts) what = ap (λ (l : List (List ℕ)). t.name ∷ l) (instr_names (u ∷ ts) what)

new-after : (file : List Declared) (c : Context) (l : SourceLine) → Stands file c l → AreNamesNew c.script → AreNamesNew (after c l).script
new-after file c (line.Process name) h n = record { processes = process_more c.script (record { name = name }) h.new n.processes; threads = n.threads }
new-after file c (line.Queue name priority) h n = record {
  processes = n.processes;
  threads = queue_more c.script (record { name = name; priority = priority }) h.new n.threads;
}
new-after file c (line.KernelThread name priority held) h n = record { processes = n.processes; threads = thread_more c.script _ h.new n.threads }
new-after file c (line.Thread name priority held) h n = record { processes = n.processes; threads = thread_more c.script _ h.new n.threads }
new-after file c (line.Instr what) h n = record {
  processes = n.processes;
  threads =
      subst (λ (l : List (List ℕ)). AreNamesApart (codes "supervisor" ∷ queue_names c.script.queues ++ l))
      (sym (instr_names c.script.threads what)) n.threads;
}
new-after file c _ h n = record { processes = n.processes; threads = n.threads }

new-all : (file : List Declared) (c : Context) (lines : List SourceLine) → AllStand file c lines → AreNamesNew c.script → AreNamesNew (after_all c lines).script
new-all file c [] stand n = n
new-all file c (l ∷ ls) stand n = new-all file (after c l) ls stand.1 (new-after file c l stand.0 n)

pub formed_names_new : (script : Script) → IsWellFormed script → AreNamesNew script
formed_names_new script a =
    subst AreNamesNew (sym a.same) (new-all _ start a.lines a.are.stand (record { processes = (refl, tt); threads = (refl, tt) }))
