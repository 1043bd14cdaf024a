-- A process with one thread may stand behind others, and what it adds to the script.
use Rattle.std.proofs.Common.{◌≡◌, ℕ, ◌+◌, ◌<◌, ◌≤◌, Bool, true, false, List, [], ◌∷◌, ◌++◌, append_assoc, append-nil, length, length-append, map, refl, ap, sym, subst, ◌∙◌, Some, arith}
use Rattle.std.proofs.lemmas.Bool.{le-leb, lt-ltb, ltb-true}
use Rattle.std.proofs.lemmas.List.Sums.{fold-append}
use Rattle.std.specs.Prelude.{nat_le, nat_lt, ◌&&◌, not}
use Rattle.load_maker.proofs.Allowed.{IsAllowed, AreAllowed}
use Rattle.script_print.proofs.Front.{so_far}
use Rattle.script_print.proofs.ScheduleAgain.{stand_append, after_append}
use Rattle.script_print.proofs.ThreadGroups.{grown, instr_last}
use Rattle.script_types.specs.Context.{empty_script, after, after_all, last_of}
use Rattle.script_types.specs.Names.{Declared, is_thread_name, is_process_name}
use Rattle.script_types.specs.ObjectName.{is_object_name}
use Rattle.script_types.specs.Stands.{Stands, AllStand, all_instrs, last_instrs}
use Rattle.script_types.specs.declared.context.Context.{Context}
use Rattle.script_types.specs.declared.declaration.ProcessDecl.{ProcessDecl}
use Rattle.script_types.specs.declared.declaration.ThreadDecl.{ThreadDecl}
use Rattle.script_types.specs.declared.instruction.Instr.{Instr}
use Rattle.script_types.specs.declared.script.Script.{Script}
use Rattle.script_types.specs.declared.source_line.SourceLine.{SourceLine}
use Rattle.script_types.specs.declared.source_line.SourceLine.TheVariants as line

-- lines that may stand behind others, and what they make
pub record Makes (file : List Declared) (c : Context) (lines : List SourceLine) (made : Context) : Type 0 where
  pub stand : AllStand file c lines
  pub makes : after_all c lines ≡ made

pub makes_more : (file : List Declared) (c middle made : Context) (xs ys : List SourceLine) → Makes file c xs middle
    → Makes file middle ys made → Makes file c (xs ++ ys) made
makes_more file c middle made xs ys one other = record {
  stand = stand_append file c xs ys one.stand (subst (λ (d : Context). AllStand file d ys) (sym one.makes) other.stand);
  makes = after_append c xs ys ∙ ap (λ (d : Context). after_all d ys) one.makes ∙ other.makes;
}

-- a script of these processes and threads, and what is made behind its last thread
abbrev pub script_of : List ProcessDecl → List ThreadDecl → Script
script_of ps ts = record empty_script { processes = ps; threads = ts }

abbrev pub behind : List ProcessDecl → List ThreadDecl → Context
behind ps ts = so_far (script_of ps ts) 8 false

-- a thread with further instructions
abbrev pub with_instrs : ThreadDecl → List Instr → ThreadDecl
with_instrs t instrs = record t { instrs = t.instrs ++ instrs }

-- the instructions of all threads and of the last one, where one more thread stands last
all_last : (ts : List ThreadDecl) (t : ThreadDecl) → all_instrs (ts ++ t ∷ []) ≡ all_instrs ts + length t.instrs
all_last ts t = fold-append (λ n (u : ThreadDecl). n + length u.instrs) 0 ts (t ∷ [])

last_last : (ts : List ThreadDecl) (t : ThreadDecl) → last_instrs (ts ++ t ∷ []) ≡ length t.instrs
last_last [] t = refl
last_last (u ∷ []) t = refl
last_last (u ∷ v ∷ us) t = last_last (v ∷ us) t

one_stands : (file : List Declared) (ps : List ProcessDecl) (ts : List ThreadDecl) (t : ThreadDecl) (what : Instr)
    → IsAllowed what → length t.instrs < 16384 → all_instrs ts + length t.instrs < 65536
    → Stands file (behind ps (ts ++ t ∷ [])) (line.Instr what)
one_stands file ps ts t what allowed short few = record {
  order = refl;
  ranges = allowed.ranges;
  kind = rw allowed.kind refl;
  new = refl;
  known = allowed.known file 0;
  within = rw (last_last ts t, all_last ts t, lt-ltb (length t.instrs) 16384 short, lt-ltb (all_instrs ts + length t.instrs) 65536 few) refl;
}

-- the instructions of a thread
instrs_stand : (file : List Declared) (ps : List ProcessDecl) (ts : List ThreadDecl) (t : ThreadDecl)
    (instrs : List Instr)
    → AreAllowed instrs → length t.instrs + length instrs ≤ 16384
    → all_instrs ts + length t.instrs + length instrs ≤ 65536
    → Makes file (behind ps (ts ++ t ∷ [])) (map line.Instr instrs) (behind ps (ts ++ with_instrs t instrs ∷ []))
instrs_stand file ps ts t [] all short few = record {
  stand = tt;
  makes = ap (λ (is : List Instr). behind ps (ts ++ record t { instrs = is } ∷ [])) (sym (append-nil t.instrs));
}
instrs_stand file ps ts t (what ∷ instrs) all short few =
    let here = one_stands file ps ts t what all.0 (omega arith) (omega arith) in
    let size : length (t.instrs ++ what ∷ []) ≡ length t.instrs + 1 = simp length-append in
    let later = instrs_stand file ps ts (grown t what) instrs all.1 (omega arith) (omega arith) in
    let same : after (behind ps (ts ++ t ∷ [])) (line.Instr what) ≡ behind ps (ts ++ grown t what ∷ []) =
    ap (λ (us : List ThreadDecl). behind ps us) (instr_last ts t what) in
    let joined : with_instrs (grown t what) instrs ≡ with_instrs t (what ∷ instrs) =
    ap (λ (is : List Instr). record t { instrs = is }) (append_assoc t.instrs (what ∷ []) instrs) in
    record {
      stand = (here, subst (λ (d : Context). AllStand file d (map line.Instr instrs)) (sym same) later.stand);
      makes = ap (λ (d : Context). after_all d (map line.Instr instrs)) same ∙ later.makes ∙ ap (λ (u : ThreadDecl). behind ps (ts ++ u ∷ [])) joined;
    }

-- the lines of a process with one thread, and that thread
abbrev pub block : List ℕ → List ℕ → ℕ → List Instr → List SourceLine
block process name priority instrs = line.Process process ∷ line.Thread name priority false ∷ map line.Instr instrs

abbrev pub thread_in : ℕ → List ℕ → ℕ → List Instr → ThreadDecl
thread_in process name priority instrs = record { name = name; priority = priority; held = false; process = Some process; instrs = instrs }

-- the names and the priority of a block may stand behind these processes and threads
abbrev pub is_placed : List ProcessDecl → List ThreadDecl → List ℕ → List ℕ → ℕ → Bool
is_placed ps ts process name priority =
    is_object_name process
    && is_object_name name
    && nat_le priority 63
    && not (is_process_name (script_of ps ts) process)
    && not (is_thread_name (script_of ps ts) name)
    && nat_lt (length ps) 16
    && nat_lt (length ts) 63

record Placed (ps : List ProcessDecl) (ts : List ThreadDecl) (process name : List ℕ) (priority : ℕ) : Type 0 where
  process_name : is_object_name process ≡ true
  thread_name : is_object_name name ≡ true
  priority_in : nat_le priority 63 ≡ true
  new_process : not (is_process_name (script_of ps ts) process) ≡ true
  new_thread : not (is_thread_name (script_of ps ts) name) ≡ true
  process_room : nat_lt (length ps) 16 ≡ true
  thread_room : nat_lt (length ts) 63 ≡ true

seven : (a b c d e f g : Bool) → (a && b && c && d && e && f && g) ≡ true
    → (a ≡ true) × (b ≡ true) × (c ≡ true) × (d ≡ true) × (e ≡ true) × (f ≡ true) × (g ≡ true)
seven true true true true true true true h = (refl, refl, refl, refl, refl, refl, refl)
seven _ _ _ _ _ _ _ h = grind arith

placed : (ps : List ProcessDecl) (ts : List ThreadDecl) (process name : List ℕ) (priority : ℕ)
    → is_placed ps ts process name priority ≡ true → Placed ps ts process name priority
placed ps ts process name priority h =
    let p = seven (is_object_name process) (is_object_name name) (nat_le priority 63)
    (not (is_process_name (script_of ps ts) process)) (not (is_thread_name (script_of ps ts) name))
    (nat_lt (length ps) 16) (nat_lt (length ts) 63) h in
    record { process_name = p.0; thread_name = p.1; priority_in = p.2; new_process = p.3; new_thread = p.4; process_room = p.5; thread_room = p.6 }

pub block_stands : (file : List Declared) (rank : ℕ) (ps : List ProcessDecl) (ts : List ThreadDecl)
    (process name : List ℕ) (priority : ℕ) (instrs : List Instr)
    → nat_le rank 8 ≡ true → is_placed ps ts process name priority ≡ true → AreAllowed instrs → length instrs ≤ 16384
    → all_instrs ts + length instrs ≤ 65536
    → Makes file (so_far (script_of ps ts) rank false) (block process name priority instrs)
    (behind (ps ++ record { name = process } ∷ [])
    (ts ++ thread_in (last_of (ps ++ record { name = process } ∷ [])) name priority instrs ∷ []))
block_stands file rank ps ts process name priority instrs order place allowed short few =
    let all_ps : List ProcessDecl = ps ++ record { name = process } ∷ [] in
    let t : ThreadDecl = thread_in (last_of all_ps) name priority [] in
    let p = placed ps ts process name priority place in
    let low : nat_le 0 priority ≡ true = le-leb 0 priority (omega arith) in
    let room : nat_lt (0 + length ts) 63 ≡ true = let less = ltb-true (length ts) 63 p.thread_room in lt-ltb (0 + length ts) 63 (omega arith) in
    let rest = instrs_stand file all_ps ts t instrs allowed (omega (arith, short)) (omega (arith, few)) in
    record {
      stand = (
        record { order = order; ranges = rw p.process_name refl; kind = refl; new = p.new_process; known = refl; within = p.process_room },
        (
          record { order = refl; ranges = rw (p.thread_name, low, p.priority_in) refl; kind = refl; new = p.new_thread; known = refl; within = room },
          rest.stand,
        ),
      );
      makes = rest.makes;
    }
