-- The lines of threads and processes, as threads, instructions and processes come.
use Rattle.std.proofs.Common.{◌≡◌, ℕ, suc, ◌+◌, ◌<◌, true, false, List, [], ◌∷◌, ◌++◌, append_assoc, length, map, refl, ap, sym, ◌∙◌, Option, Some, None, arith}
use Rattle.std.proofs.lemmas.Bool.Decides.{nat_tests}
use Rattle.std.proofs.lemmas.List.{append-nil, map-append}
use Rattle.std.proofs.lemmas.List.Concat.{flat_map-append}
use Rattle.std.proofs.lemmas.List.Elements.{filter-append}
use Rattle.std.specs.List.{AllByRecursion, flat_map}
use Rattle.std.specs.Prelude.{◌==◌}
use Rattle.script_print.specs.CanonicalText.{thread_line, thread_lines, is_same, threads_of, process_lines, processes_lines}
use Rattle.script_types.specs.Context.{with_instr}
use Rattle.script_types.specs.declared.declaration.ProcessDecl.{ProcessDecl}
use Rattle.script_types.specs.declared.declaration.ThreadDecl.{ThreadDecl}
use Rattle.script_types.specs.declared.instruction.Instr.{Instr}
use Rattle.script_types.specs.declared.source_line.SourceLine.{SourceLine}
use Rattle.script_types.specs.declared.source_line.SourceLine.TheVariants as line
use Rattle.script_types.proofs.LimitLaws.{IsHeld}

-- the lines of the threads of a process, or of those of none
abbrev pub owned_lines : Option ℕ → List ThreadDecl → List SourceLine
owned_lines owner ts = flat_map thread_lines (threads_of owner ts)

-- those of threads and processes, behind others
abbrev pub thread_groups : List SourceLine → List ProcessDecl → List ThreadDecl → List SourceLine
thread_groups front ps ts = front ++ owned_lines None ts ++ processes_lines ts 0 ps

-- the process of the last thread: none before the first process
abbrev pub last_owner : List ProcessDecl → Option ℕ
last_owner [] = None
last_owner (p ∷ ps) = Some (length ps)

-- one thread more, of another process or of this one
one_stays : (owner : Option ℕ) (ts : List ThreadDecl) (t : ThreadDecl) → is_same owner t.process ≡ false → threads_of owner (ts ++ t ∷ []) ≡ threads_of owner ts
one_stays owner ts t apart =
    let one : threads_of owner (t ∷ []) ≡ [] = rw apart refl in
    filter-append (λ (u : ThreadDecl). is_same owner u.process) ts (t ∷ [])
    ∙ ap (λ (us : List ThreadDecl). threads_of owner ts ++ us) one
    ∙ append-nil (threads_of owner ts)

one_grows : (owner : Option ℕ) (ts : List ThreadDecl) (t : ThreadDecl) → is_same owner t.process ≡ true
    → owned_lines owner (ts ++ t ∷ []) ≡ owned_lines owner ts ++ thread_lines t
one_grows owner ts t same =
    let one : threads_of owner (t ∷ []) ≡ t ∷ [] = rw same refl in
    let grown : threads_of owner (ts ++ t ∷ []) ≡ threads_of owner ts ++ t ∷ [] =
    filter-append (λ (u : ThreadDecl). is_same owner u.process) ts (t ∷ [])
    ∙ ap (λ (us : List ThreadDecl). threads_of owner ts ++ us) one in
    ap (flat_map thread_lines) grown
    ∙ flat_map-append thread_lines (threads_of owner ts) (t ∷ [])
    ∙ ap (λ (ls : List SourceLine). owned_lines owner ts ++ ls) (append-nil (thread_lines t))

apart_by : (one other : ℕ) → one < other → (one == other) ≡ false
apart_by one other h = grind (arith, nat_tests)

equal_by : (one other : ℕ) → other ≡ one → (one == other) ≡ true
equal_by one other h = grind (arith, nat_tests)

processes_grow : (n m : ℕ) (p : ProcessDecl) (ps : List ProcessDecl) (ts : List ThreadDecl) (t : ThreadDecl)
    → t.process ≡ Some m → m ≡ n + length ps
    → processes_lines (ts ++ t ∷ []) n (p ∷ ps) ≡ processes_lines ts n (p ∷ ps) ++ thread_lines t
processes_grow n m p [] ts t is last =
    let same : is_same (Some n) t.process ≡ true = ap (is_same (Some n)) is ∙ equal_by n m (omega arith) in
    append-nil (process_lines (ts ++ t ∷ []) n p) ∙ ap (λ (ls : List SourceLine). line.Process p.name ∷ ls) (one_grows (Some n) ts t same)
    ∙ ap (λ (ls : List SourceLine). ls ++ thread_lines t) (sym (append-nil (process_lines ts n p)))
processes_grow n m p (q ∷ qs) ts t is last =
    let apart : is_same (Some n) t.process ≡ false = ap (is_same (Some n)) is ∙ apart_by n m (omega arith) in
    let here : process_lines (ts ++ t ∷ []) n p ≡ process_lines ts n p =
    ap (λ (us : List ThreadDecl). line.Process p.name ∷ flat_map thread_lines us) (one_stays (Some n) ts t apart) in
    ap (λ (ls : List SourceLine). ls ++ processes_lines (ts ++ t ∷ []) (suc n) (q ∷ qs)) here
    ∙ ap (λ (ls : List SourceLine). process_lines ts n p ++ ls) (processes_grow (suc n) m q qs ts t is (omega arith))
    ∙ sym (append_assoc (process_lines ts n p) (processes_lines ts (suc n) (q ∷ qs)) (thread_lines t))

-- one thread more, of the last process, or of none where there are none
pub thread_push : (front : List SourceLine) (ps : List ProcessDecl) (ts : List ThreadDecl) (t : ThreadDecl)
    → t.process ≡ last_owner ps → thread_groups front ps (ts ++ t ∷ []) ≡ thread_groups front ps ts ++ thread_lines t
thread_push front [] ts t is =
    let regroup : (a b c : List SourceLine) → a ++ (b ++ c) ++ [] ≡ a ++ b ++ [] ++ c = λ a b c. simp (append_assoc, append-nil) in
    ap (λ (ls : List SourceLine). front ++ ls ++ []) (one_grows None ts t (ap (is_same None) is)) ∙ regroup front (owned_lines None ts) (thread_lines t)
thread_push front (p ∷ ps) ts t is =
    ap (λ (us : List ThreadDecl). front ++ flat_map thread_lines us ++ processes_lines (ts ++ t ∷ []) 0 (p ∷ ps)) (one_stays None ts t (ap (is_same None) is))
    ∙ ap (λ (ls : List SourceLine). front ++ owned_lines None ts ++ ls) (processes_grow 0 (length ps) p ps ts t is (omega arith))
    ∙ sym (append_assoc (front ++ owned_lines None ts) (processes_lines ts 0 (p ∷ ps)) (thread_lines t))

-- one instruction more of the last thread
abbrev pub grown : ThreadDecl → Instr → ThreadDecl
grown t what = record t { instrs = t.instrs ++ what ∷ [] }

line_stays : (process : Option ℕ) (t : ThreadDecl) (what : Instr) → thread_line process (grown t what) ≡ thread_line process t
line_stays None t what = refl
line_stays (Some number) t what = refl

thread_grows : (t : ThreadDecl) (what : Instr) → thread_lines (grown t what) ≡ thread_lines t ++ line.Instr what ∷ []
thread_grows t what =
    ap (λ (l : SourceLine). l ∷ map line.Instr (t.instrs ++ what ∷ [])) (line_stays t.process t what)
    ∙ ap (λ (ls : List SourceLine). thread_line t.process t ∷ ls) (map-append line.Instr t.instrs (what ∷ []))

pub instr_last : (ts : List ThreadDecl) (t : ThreadDecl) (what : Instr) → with_instr (ts ++ t ∷ []) what ≡ ts ++ grown t what ∷ []
instr_last [] t what = refl
instr_last (u ∷ []) t what = refl
instr_last (u ∷ v ∷ us) t what = ap (λ (ds : List ThreadDecl). u ∷ ds) (instr_last (v ∷ us) t what)

-- the last thread, which is one of this process
pub record EndsIn (owner : Option ℕ) (ts : List ThreadDecl) : Type 0 where
  pub before : List ThreadDecl
  pub last : ThreadDecl
  pub are : ts ≡ before ++ last ∷ []
  pub is : last.process ≡ owner

pub ends_again : (owner : Option ℕ) (ts : List ThreadDecl) (what : Instr) → EndsIn owner ts → EndsIn owner (with_instr ts what)
ends_again owner ts what e = record {
  before = e.before;
  last = grown e.last what;
  are = ap (λ (us : List ThreadDecl). with_instr us what) e.are ∙ instr_last e.before e.last what;
  is = e.is;
}

pub instr_push : (front : List SourceLine) (ps : List ProcessDecl) (ts : List ThreadDecl) (what : Instr)
    → EndsIn (last_owner ps) ts
    → thread_groups front ps (with_instr ts what) ≡ thread_groups front ps ts ++ line.Instr what ∷ []
unfolding ends_again
instr_push front ps ts what e =
    let more = ends_again (last_owner ps) ts what e in
    ap (thread_groups front ps) more.are ∙ thread_push front ps e.before (grown e.last what) e.is
    ∙ ap (λ (ls : List SourceLine). thread_groups front ps e.before ++ ls) (thread_grows e.last what)
    ∙ sym (append_assoc (thread_groups front ps e.before) (thread_lines e.last) (line.Instr what ∷ []))
    ∙ ap (λ (ls : List SourceLine). ls ++ line.Instr what ∷ []) (sym (ap (thread_groups front ps) e.are ∙ thread_push front ps e.before e.last e.is))

-- one process more, which has no thread yet
not_owner : (number : ℕ) (process : Option ℕ) → ((p : ℕ) → process ≡ Some p → p < number) → is_same (Some number) process ≡ false
not_owner number None below = refl
not_owner number (Some p) below = let lt = below p refl in grind (arith, nat_tests)

no_threads : (count : ℕ) (ts : List ThreadDecl) → AllByRecursion (IsHeld count) ts → threads_of (Some count) ts ≡ []
no_threads count [] all = refl
no_threads count (t ∷ ts) all = rw (not_owner count t.process all.0.process, no_threads count ts all.1) refl

processes_push : (ts : List ThreadDecl) (n m : ℕ) (ps : List ProcessDecl) (p : ProcessDecl) → m ≡ n + length ps
    → processes_lines ts n (ps ++ p ∷ []) ≡ processes_lines ts n ps ++ process_lines ts m p
processes_push ts n m [] p e =
    let same : n ≡ m = omega arith in
    append-nil (process_lines ts n p) ∙ ap (λ (k : ℕ). process_lines ts k p) same
processes_push ts n m (q ∷ qs) p e =
    let more = processes_push ts (suc n) m qs p (omega arith) in
    ap (λ (ls : List SourceLine). process_lines ts n q ++ ls) more
    ∙ sym (append_assoc (process_lines ts n q) (processes_lines ts (suc n) qs) (process_lines ts m p))

pub process_push : (front : List SourceLine) (ps : List ProcessDecl) (p : ProcessDecl) (ts : List ThreadDecl)
    → AllByRecursion (IsHeld (length ps)) ts
    → thread_groups front (ps ++ p ∷ []) ts ≡ thread_groups front ps ts ++ line.Process p.name ∷ []
process_push front ps p ts all =
    let groups = processes_push ts 0 (length ps) ps p (omega arith)
    ∙ ap (λ (us : List ThreadDecl). processes_lines ts 0 ps ++ line.Process p.name ∷ flat_map thread_lines us)
    (no_threads (length ps) ts all) in
    ap (λ (ls : List SourceLine). front ++ owned_lines None ts ++ ls) groups
    ∙ sym (append_assoc (front ++ owned_lines None ts) (processes_lines ts 0 ps) (line.Process p.name ∷ []))
