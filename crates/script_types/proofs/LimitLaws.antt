-- Every well-formed script keeps the limits that the kernel needs.
use Rattle.std.proofs.Common.{◌≡◌, ◌⊎◌, inl, inr, ℕ, zero, suc, ◌+◌, ◌<◌, ◌≤◌, Bool, true, false, List, [], ◌∷◌, ◌++◌, length, sym, ap, subst, ◌∙◌, refl, arith, length-append, Option, Some, None}
use Rattle.std.proofs.lemmas.Bool.{eqb-true, ltb-true, leb-true}
use Rattle.std.proofs.lemmas.List.{length-replicate}
use Rattle.std.specs.List.{AllByRecursion, list_all, slice_get}
use Rattle.std.specs.Prelude.{◌&&◌, ◌||◌, ◌==◌, not, if◌then◌else◌, nat_lt, nat_le, IsTrue}
use Rattle.script_types.specs.Context.{start, after, after_all, with_instr, last_of, may_stand, is_thread, rank_of, rank_or}
use Rattle.script_types.specs.Names.{Declared}
use Rattle.script_types.specs.Forms.{Form, form_of, instr_form, instr_operands, operands_of, body_of}
use Rattle.script_types.specs.Operands.{Value, Values, is_value, are_values}
use Rattle.script_types.specs.Ranges.{is_body, is_form, is_source_line}
use Rattle.script_types.specs.Shape.{HasRegisters, IsShapedThread, register_in, registers_in}
use Rattle.script_types.specs.Source.{IsWellFormed}
use Rattle.script_types.specs.Stands.{Stands, AllStand, last_instrs, all_instrs}
use Rattle.script_types.specs.declared.context.Context.{Context}
use Rattle.script_types.specs.declared.declaration.ThreadDecl.{ThreadDecl}
use Rattle.script_types.specs.declared.instruction.Instr.{Instr}
use Rattle.script_types.specs.declared.keyword.Keyword.{Keyword}
use Rattle.script_types.specs.declared.keyword.Keyword.TheVariants as key
use Rattle.script_types.specs.declared.operand.Operand.{Operand}
use Rattle.script_types.specs.declared.operand.Operand.TheVariants as operand
use Rattle.script_types.specs.declared.script.Script.{Script}
use Rattle.script_types.specs.declared.source_line.LineKind.{LineKind}
use Rattle.script_types.specs.declared.source_line.LineKind.TheVariants as of
use Rattle.script_types.specs.declared.source_line.SourceLine.{SourceLine}
use Rattle.script_types.specs.declared.source_line.SourceLine.TheVariants as line
use Rattle.sym_base.specs.declared.word.Word.{Word}
use Rattle.sym_base.specs.declared.word.Word.TheVariants as word

-- what holds of each holds at each place
pub at_place : {A : Type 0} (P : A → Type 0) (xs : List A) → AllByRecursion P xs → (k : ℕ) (x : A) → slice_get xs k ≡ Some x → P x
at_place P [] all k x h = absurd (cc)
at_place P (y ∷ ys) all zero x h = let e : y ≡ x = cc in subst P e all.0
at_place P (y ∷ ys) all (suc k) x h = at_place P ys all.1 k x h

-- and of two lists' elements
all_append : {A : Type 0} (P : A → Type 0) (xs ys : List A) → AllByRecursion P xs → AllByRecursion P ys → AllByRecursion P (xs ++ ys)
all_append P [] ys all more = more
all_append P (x ∷ xs) ys all more = (all.0, all_append P xs ys all.1 more)

pub both : (a b : Bool) → (a && b) ≡ true → (a ≡ true) × (b ≡ true)
both true b h = (refl, h)
both false b h = absurd (cc)

pub or_true : (a b : Bool) → (a || b) ≡ true → (a ≡ true) ⊎ (b ≡ true)
or_true true b h = inl refl
or_true false b h = inr h

-- operands in their ranges
abbrev pub AreIn : (operands : List Operand) → Values operands → Type 0
AreIn [] values = Unit {0}
AreIn (what ∷ operands) values = (is_value what values.0 ≡ true) × AreIn operands values.1

pub are_in : (operands : List Operand) (values : Values operands) → are_values operands values ≡ true → AreIn operands values
are_in [] values h = tt
are_in (what ∷ operands) values h =
    let parts = both (is_value what values.0) (are_values operands values.1) h in
    (parts.0, are_in operands values.1 parts.1)

-- a line in range
pub in_form : (f : Form) → is_form f ≡ true → AreIn (operands_of f.keyword f.second) f.values × (is_body (body_of f.keyword f.second) f.body ≡ true)
in_form f h =
    let parts = both (are_values (operands_of f.keyword f.second) f.values) (is_body (body_of f.keyword f.second) f.body) h in
    (are_in (operands_of f.keyword f.second) f.values parts.0, parts.1)

-- an instruction in range
pub instr_in : (what : Instr) → is_source_line (line.Instr what) ≡ true
    → AreIn (operands_of (instr_form what).keyword (instr_form what).second) (instr_form what).values
instr_in what h = (in_form (instr_form what) h).0

pub number_in : (low high n : ℕ) → (nat_le low n && nat_le n high) ≡ true → (low ≤ n) × (n ≤ high)
number_in low high n h = let parts = both (nat_le low n) (nat_le n high) h in (leb-true low n parts.0, leb-true n high parts.1)

-- no form has a register behind the eighth
is_eighth_last : Operand → Bool
is_eighth_last (operand.Lettered letter last) = not (letter == 114 || letter == 109) || last == 7
is_eighth_last what = true

instr_eighth : (w : Word) (second : Bool) → list_all is_eighth_last (instr_operands w second) ≡ true
unfolding is_eighth_last
instr_eighth word.Create false = refl
instr_eighth word.Create true = refl
instr_eighth w second = refl

form_eighth : (k : Keyword) (second : Bool) → list_all is_eighth_last (operands_of k second) ≡ true
unfolding is_eighth_last
form_eighth (key.Instr w) second = instr_eighth w second
form_eighth key.Kthread false = refl
form_eighth key.Kthread true = refl
form_eighth key.Thread false = refl
form_eighth key.Thread true = refl
form_eighth k second = refl

eighth : (is : Bool) (last x : ℕ) → (not is || last == 7) ≡ true → nat_le x last ≡ true → AllByRecursion (λ y. y < 8) (if is then x ∷ [] else [])
eighth true last x eight small = let seven = eqb-true last 7 eight in let le = leb-true x last small in (omega arith, tt)
eighth false last x eight small = tt

-- so each register in range is one of the eight
register_small : (what : Operand) (value : Value what) → is_eighth_last what ≡ true → is_value what value ≡ true
    → AllByRecursion (λ x. x < 8) (register_in what value)
unfolding is_eighth_last
register_small (operand.Lettered letter last) x eight small = eighth (letter == 114 || letter == 109) last x eight small
register_small what value eight small = tt

registers_small : (operands : List Operand) (values : Values operands) → list_all is_eighth_last operands ≡ true
    → AreIn operands values → AllByRecursion (λ x. x < 8) (registers_in operands values)
registers_small [] values eight are = tt
registers_small (what ∷ operands) values eight are =
    let parts = both (is_eighth_last what) (list_all is_eighth_last operands) eight in
    all_append (λ x. x < 8) (register_in what values.0) (registers_in operands values.1)
    (register_small what values.0 parts.0 are.0) (registers_small operands values.1 parts.1 are.1)

registers : (what : Instr) → is_source_line (line.Instr what) ≡ true → HasRegisters what
registers what h =
    let f = instr_form what in
    registers_small (operands_of f.keyword f.second) f.values (form_eighth f.keyword f.second) (instr_in what h)

-- a thread of a script with so many processes
pub record IsHeld (processes : ℕ) (thread : ThreadDecl) : Type 0 where
  pub priority : thread.priority ≤ 63
  pub process : (p : ℕ) → thread.process ≡ Some p → p < processes
  pub instrs : AllByRecursion HasRegisters thread.instrs
  pub size : length thread.instrs ≤ 16384

-- what holds of the lines so far
pub record IsSound (c : Context) : Type 0 where
  pub processes : length c.script.processes ≤ 16
  pub count : length c.script.queues + length c.script.threads ≤ 63
  pub threads : AllByRecursion (IsHeld (length c.script.processes)) c.script.threads
  pub slots : length c.script.slots ≤ 65536
  pub some : c.rank ≡ Some 8 → 0 < length c.script.processes
  pub awaited : c.awaits_thread ≡ true → 0 < length c.script.processes
  pub front : rank_or c.rank < 7 → length c.script.threads ≡ 0

all_more : {A : Type 0} (P : A → Type 0) (xs : List A) (x : A) → AllByRecursion P xs → P x → AllByRecursion P (xs ++ x ∷ [])
all_more P xs x all h = all_append P xs (x ∷ []) all (h, tt)

-- more processes
held_wider : (less more : ℕ) (threads : List ThreadDecl) → less ≤ more → AllByRecursion (IsHeld less) threads → AllByRecursion (IsHeld more) threads
held_wider less more [] le all = tt
held_wider less more (t ∷ ts) le all =
    let process = all.0.process in (
      record {
        priority = all.0.priority;
        process = λ p e. let lt = process p e in omega arith;
        instrs = all.0.instrs;
        size = all.0.size;
      },
      held_wider less more ts le all.1,
    )

-- one more instruction of the last thread
held_instr : (processes : ℕ) (threads : List ThreadDecl) (what : Instr) → HasRegisters what
    → last_instrs threads < 16384 → AllByRecursion (IsHeld processes) threads
    → AllByRecursion (IsHeld processes) (with_instr threads what)
held_instr processes [] what r lt all = tt
held_instr processes (t ∷ []) what r lt all = (
  record {
    priority = all.0.priority;
    process = all.0.process;
    instrs = all_more HasRegisters t.instrs what all.0.instrs r;
    size = simp length-append (omega arith);
  },
  tt,
)
held_instr processes (t ∷ u ∷ ts) what r lt all = (all.0, held_instr processes (u ∷ ts) what r lt all.1)

with_instr_length : (threads : List ThreadDecl) (what : Instr) → length (with_instr threads what) ≡ length threads
with_instr_length [] what = refl
with_instr_length (t ∷ []) what = refl
with_instr_length (t ∷ u ∷ ts) what = ap suc (with_instr_length (u ∷ ts) what)

last_below : {A : Type 0} (xs : List A) → 0 < length xs → last_of xs < length xs
last_below [] h = absurd (omega arith)
last_below (x ∷ xs) h = omega arith

-- a thread stands behind a process
pub thread_needs : (c : Context) (rank : Option ℕ) (awaits : Bool) → c.rank ≡ rank → c.awaits_thread ≡ awaits
    → may_stand rank awaits of.Thread ≡ true → IsSound c → 0 < length c.script.processes
thread_needs c None awaits e f h s = absurd (cc)
thread_needs c (Some rank) true e f h s = s.awaited f
thread_needs c (Some rank) false e f h s = let eight : rank ≡ 8 = eqb-true rank 8 h in s.some (e ∙ ap Some eight)

rank_stays : (rank : Option ℕ) → Some (rank_or rank) ≡ Some 8 → rank ≡ Some 8
rank_stays None h = absurd (cc)
rank_stays (Some rank) h = h

-- ranks don't fall
pub earlier : (rank : Option ℕ) (awaits : Bool) (kind : LineKind) → is_thread kind ≡ false
    → may_stand rank awaits kind ≡ true → rank_or rank ≤ rank_of (rank_or rank) kind
earlier None awaits kind other h = omega arith
earlier (Some rank) true kind other h = absurd (cc)
earlier (Some rank) false of.Header other h = absurd (cc)
earlier (Some rank) false of.Thread other h = absurd (cc)
earlier (Some rank) false of.Instr other h = omega arith
earlier (Some rank) false of.Schedule other h = let le = leb-true rank 8 h in omega arith
earlier (Some rank) false of.Slot other h =
    elim (or_true (rank == 9) (rank == 10) h) as
    (λ _. rank ≤ 10) [
      | inl e ↦ (let is : rank ≡ 9 = eqb-true rank 9 e in omega arith)
      | inr e ↦
          (let is : rank ≡ 10 = eqb-true rank 10 e in omega arith)
    ]
earlier (Some rank) false of.End other h = let le = leb-true rank 10 h in omega arith
earlier (Some rank) false of.Pool other h = leb-true rank 1 h
earlier (Some rank) false of.Fast other h = leb-true rank 2 h
earlier (Some rank) false of.Queue other h = leb-true rank 3 h
earlier (Some rank) false of.Dfc other h = leb-true rank 4 h
earlier (Some rank) false of.Idfc other h = leb-true rank 5 h
earlier (Some rank) false of.IrqBody other h = leb-true rank 6 h
earlier (Some rank) false of.KernelThread other h = leb-true rank 7 h
earlier (Some rank) false of.Process other h = leb-true rank 8 h

-- an instruction stands in a thread
pub in_thread : (rank : Option ℕ) (awaits : Bool) → may_stand rank awaits of.Instr ≡ true → 7 ≤ rank_or rank
in_thread None awaits h = absurd (cc)
in_thread (Some rank) true h = absurd (cc)
in_thread (Some rank) false h =
    elim (or_true (rank == 7) (rank == 8) h) as
    (λ _. 7 ≤ rank) [
      | inl e ↦ (let is : rank ≡ 7 = eqb-true rank 7 e in omega arith)
      | inr e ↦
          (let is : rank ≡ 8 = eqb-true rank 8 e in omega arith)
    ]

-- the priority of a thread's line
pub kernel_priority : (name : List ℕ) (p : ℕ) (held : Bool) → is_source_line (line.KernelThread name p held) ≡ true → p ≤ 63
kernel_priority name p true h = let v = in_form (form_of (line.KernelThread name p true)) h in (number_in 0 63 p v.0.1.0).1
kernel_priority name p false h = let v = in_form (form_of (line.KernelThread name p false)) h in (number_in 0 63 p v.0.1.0).1

pub thread_priority : (name : List ℕ) (p : ℕ) (held : Bool) → is_source_line (line.Thread name p held) ≡ true → p ≤ 63
thread_priority name p true h = let v = in_form (form_of (line.Thread name p true)) h in (number_in 0 63 p v.0.1.0).1
thread_priority name p false h = let v = in_form (form_of (line.Thread name p false)) h in (number_in 0 63 p v.0.1.0).1

pub sound-after : (file : List Declared) (c : Context) (l : SourceLine) → Stands file c l → IsSound c → IsSound (after c l)
sound-after file c (line.Header version) h s = record {
  processes = s.processes;
  count = s.count;
  threads = s.threads;
  slots = s.slots;
  some = λ e. absurd (cc);
  awaited = λ e. absurd (cc);
  front = λ e. let before = earlier c.rank c.awaits_thread of.Header refl h.order in s.front (omega arith);
}
sound-after file c (line.Pool n) h s = record {
  processes = s.processes;
  count = s.count;
  threads = s.threads;
  slots = s.slots;
  some = λ e. absurd (cc);
  awaited = λ e. absurd (cc);
  front = λ e. let before = earlier c.rank c.awaits_thread of.Pool refl h.order in s.front (omega arith);
}
sound-after file c (line.Fast n) h s = record {
  processes = s.processes;
  count = s.count;
  threads = s.threads;
  slots = s.slots;
  some = λ e. absurd (cc);
  awaited = λ e. absurd (cc);
  front = λ e. let before = earlier c.rank c.awaits_thread of.Fast refl h.order in s.front (omega arith);
}
sound-after file c (line.Dfc name queue p body) h s = record {
  processes = s.processes;
  count = s.count;
  threads = s.threads;
  slots = s.slots;
  some = λ e. absurd (cc);
  awaited = λ e. absurd (cc);
  front = λ e. let before = earlier c.rank c.awaits_thread of.Dfc refl h.order in s.front (omega arith);
}
sound-after file c (line.Idfc name body) h s = record {
  processes = s.processes;
  count = s.count;
  threads = s.threads;
  slots = s.slots;
  some = λ e. absurd (cc);
  awaited = λ e. absurd (cc);
  front = λ e. let before = earlier c.rank c.awaits_thread of.Idfc refl h.order in s.front (omega arith);
}
sound-after file c (line.IrqBody k body) h s = record {
  processes = s.processes;
  count = s.count;
  threads = s.threads;
  slots = s.slots;
  some = λ e. absurd (cc);
  awaited = λ e. absurd (cc);
  front = λ e. let before = earlier c.rank c.awaits_thread of.IrqBody refl h.order in s.front (omega arith);
}
sound-after file c line.Schedule h s = record {
  processes = s.processes;
  count = s.count;
  threads = s.threads;
  slots = s.slots;
  some = λ e. absurd (cc);
  awaited = λ e. absurd (cc);
  front = λ e. let before = earlier c.rank c.awaits_thread of.Schedule refl h.order in s.front (omega arith);
}
sound-after file c line.End h s = record {
  processes = s.processes;
  count = s.count;
  threads = s.threads;
  slots = s.slots;
  some = λ e. absurd (cc);
  awaited = λ e. absurd (cc);
  front = λ e. let before = earlier c.rank c.awaits_thread of.End refl h.order in s.front (omega arith);
}
sound-after file c (line.Queue name p) h s =
    let room = ltb-true (length c.script.queues) 7 h.within in
    let size : length (after c (line.Queue name p)).script.queues ≡ suc (length c.script.queues) = simp length-append (omega arith) in
    let before = earlier c.rank c.awaits_thread of.Queue refl h.order in
    let none = s.front (omega arith) in
    record {
      processes = s.processes;
      count = omega arith;
      threads = s.threads;
      slots = s.slots;
      some = λ e. absurd (cc);
      awaited = λ e. absurd (cc);
      front = λ e. none;
    }
sound-after file c (line.KernelThread name p held) h s =
    let room = ltb-true (length c.script.queues + length c.script.threads) 63 h.within in
    let small = kernel_priority name p held h.ranges in
    let size : length (after c (line.KernelThread name p held)).script.threads ≡ suc (length c.script.threads) = simp length-append (omega arith) in
    record {
      processes = s.processes;
      count = omega arith;
      threads =
          all_more (IsHeld (length c.script.processes)) c.script.threads _ s.threads
          (record { priority = small; process = λ q e. absurd (cc); instrs = tt; size = omega arith });
      slots = s.slots;
      some = λ e. absurd (cc);
      awaited = λ e. absurd (cc);
      front = λ e. absurd (omega arith);
    }
sound-after file c (line.Process name) h s =
    let room = ltb-true (length c.script.processes) 16 h.within in
    let size : length (after c (line.Process name)).script.processes ≡ suc (length c.script.processes) = simp length-append (omega arith) in
    record {
      processes = omega arith;
      count = s.count;
      threads =
          held_wider (length c.script.processes) (length (after c (line.Process name)).script.processes) c.script.threads
          (omega arith) s.threads;
      slots = s.slots;
      some = λ e. omega arith;
      awaited = λ e. omega arith;
      front = λ e. absurd (omega arith);
    }
sound-after file c (line.Thread name p held) h s =
    let room = ltb-true (length c.script.queues + length c.script.threads) 63 h.within in
    let least = thread_needs c c.rank c.awaits_thread refl refl h.order s in
    let small = thread_priority name p held h.ranges in
    let below = last_below c.script.processes least in
    let size : length (after c (line.Thread name p held)).script.threads ≡ suc (length c.script.threads) = simp length-append (omega arith) in
    record {
      processes = s.processes;
      count = omega arith;
      threads =
          all_more (IsHeld (length c.script.processes)) c.script.threads _ s.threads
          (record {
            priority = small;
            process = λ q e. let same : last_of c.script.processes ≡ q = cc in omega arith;
            instrs = tt;
            size = omega arith;
          });
      slots = s.slots;
      some = λ e. least;
      awaited = λ e. least;
      front = λ e. absurd (omega arith);
    }
sound-after file c (line.Instr what) h s =
    let room = both (nat_lt (last_instrs c.script.threads) 16384) (nat_lt (all_instrs c.script.threads) 65536) h.within in
    let size = with_instr_length c.script.threads what in
    let count = s.count in
    let late = in_thread c.rank c.awaits_thread h.order in
    record {
      processes = s.processes;
      count = omega arith;
      threads =
          held_instr (length c.script.processes) c.script.threads what (registers what h.ranges)
          (ltb-true (last_instrs c.script.threads) 16384 room.0) s.threads;
      slots = s.slots;
      some = λ e. s.some (rank_stays c.rank e);
      awaited = λ e. absurd (cc);
      front = λ e. absurd (omega arith);
    }
sound-after file c (line.Go count) h s =
    let room = leb-true (length c.script.slots + count) 65536 h.within in
    let size : length (after c (line.Go count)).script.slots ≡ length c.script.slots + count = simp (length-append, length-replicate) refl in
    record {
      processes = s.processes;
      count = s.count;
      threads = s.threads;
      slots = omega arith;
      some = λ e. absurd (cc);
      awaited = λ e. absurd (cc);
      front = λ e. absurd (omega arith);
    }
sound-after file c line.Tick h s =
    let room = ltb-true (length c.script.slots) 65536 h.within in
    let size : length (after c line.Tick).script.slots ≡ suc (length c.script.slots) = simp length-append (omega arith) in
    record {
      processes = s.processes;
      count = s.count;
      threads = s.threads;
      slots = omega arith;
      some = λ e. absurd (cc);
      awaited = λ e. absurd (cc);
      front = λ e. absurd (omega arith);
    }
sound-after file c (line.IrqSlot k) h s =
    let room = ltb-true (length c.script.slots) 65536 h.within in
    let size : length (after c (line.IrqSlot k)).script.slots ≡ suc (length c.script.slots) = simp length-append (omega arith) in
    record {
      processes = s.processes;
      count = s.count;
      threads = s.threads;
      slots = omega arith;
      some = λ e. absurd (cc);
      awaited = λ e. absurd (cc);
      front = λ e. absurd (omega arith);
    }

pub sound-all : (file : List Declared) (c : Context) (lines : List SourceLine) → AllStand file c lines → IsSound c → IsSound (after_all c lines)
sound-all file c [] stand s = s
sound-all file c (l ∷ ls) stand s = sound-all file (after c l) ls stand.1 (sound-after file c l stand.0 s)

pub sound-start : IsSound start
sound-start = record {
  front = λ e. refl;
  processes = omega arith;
  count = omega arith;
  threads = tt;
  slots = omega arith;
  some = λ e. absurd (cc);
  awaited = λ e. absurd (cc);
}

shaped_thread : (processes : ℕ) (thread : ThreadDecl) → IsHeld processes thread → IsShapedThread processes thread
shaped_thread processes thread h = record {
  priority = h.priority;
  process = h.process;
  registers = at_place HasRegisters thread.instrs h.instrs;
  size = h.size;
}

-- the limits that a script keeps
pub record KeepsLimits (script : Script) : Type 0 where
  pub processes : length script.processes ≤ 16
  pub count : length script.threads + length script.queues ≤ 63
  pub threads : (k : ℕ) (thread : ThreadDecl) → slice_get script.threads k ≡ Some thread → IsShapedThread (length script.processes) thread
  pub slots : length script.slots ≤ 65536

sound_limits : (c : Context) → IsSound c → KeepsLimits c.script
sound_limits c s =
    let count = s.count in
    record {
      processes = s.processes;
      count = omega arith;
      threads =
          λ k thread h. shaped_thread (length c.script.processes) thread
          (at_place (IsHeld (length c.script.processes)) c.script.threads s.threads k thread h);
      slots = s.slots;
    }

pub formed_keeps_limits : (script : Script) → IsWellFormed script → KeepsLimits script
formed_keeps_limits script f = subst KeepsLimits (sym f.same) (sound_limits (after_all start f.lines) (sound-all _ start f.lines f.are.stand sound-start))
