-- In every well-formed script the numbers are in their ranges.
use Rattle.std.proofs.Common.{◌≡◌, ℕ, ◌≤◌, Bool, true, false, List, [], ◌∷◌, ◌++◌, replicate, zero, suc, sym, subst, refl, arith, Option, Some, None}
use Rattle.std.proofs.lemmas.Bool.{leb-true, le-leb, and_from}
use Rattle.std.specs.List.{list_all}
use Rattle.std.specs.Prelude.{◌&&◌, nat_le, IsTrue}
use Rattle.script_types.specs.Context.{start, after, after_all, with_instr}
use Rattle.script_types.specs.Forms.{form_of}
use Rattle.script_types.specs.Names.{Declared}
use Rattle.script_types.specs.Ranges.{is_body, is_source_line}
use Rattle.script_types.specs.Resolves.{AreNumbersInRange}
use Rattle.script_types.specs.Source.{IsWellFormed}
use Rattle.script_types.specs.Stands.{Stands, AllStand}
use Rattle.script_types.specs.declared.context.Context.{Context}
use Rattle.script_types.specs.declared.declaration.DfcDecl.{DfcDecl}
use Rattle.script_types.specs.declared.declaration.IdfcDecl.{IdfcDecl}
use Rattle.script_types.specs.declared.declaration.IrqBody.{IrqBody}
use Rattle.script_types.specs.declared.declaration.QueueDecl.{QueueDecl}
use Rattle.script_types.specs.declared.declaration.ThreadDecl.{ThreadDecl}
use Rattle.script_types.specs.declared.instruction.Instr.{Instr}
use Rattle.script_types.specs.declared.operand.BodyKind.TheVariants as body
use Rattle.script_types.specs.declared.script.Script.{Script}
use Rattle.script_types.specs.declared.source_line.SourceLine.{SourceLine}
use Rattle.script_types.specs.declared.source_line.SourceLine.TheVariants as line
use Rattle.script_types.proofs.LimitLaws.{both, in_form, number_in, kernel_priority, thread_priority}

-- one item more
pub all_push : {A : Type 0} (test : A → Bool) (xs : List A) (x : A) → list_all test xs ≡ true → test x ≡ true → list_all test (xs ++ x ∷ []) ≡ true
all_push test [] x all h = rw h refl
all_push test (y ∷ ys) x all h = let parts = both (test y) (list_all test ys) all in rw (parts.0, all_push test ys x parts.1 h) refl

-- one instruction more of the last thread
pub instr_push : (test : Instr → Bool) (ts : List ThreadDecl) (what : Instr)
    → list_all (λ (t : ThreadDecl). list_all test t.instrs) ts ≡ true → test what ≡ true
    → list_all (λ (t : ThreadDecl). list_all test t.instrs) (with_instr ts what) ≡ true
instr_push test [] what all h = refl
instr_push test (t ∷ []) what all h = let parts = both (list_all test t.instrs) true all in rw (all_push test t.instrs what parts.0 h) refl
instr_push test (t ∷ u ∷ ts) what all h =
    let parts = both (list_all test t.instrs) (list_all (λ (v : ThreadDecl). list_all test v.instrs) (u ∷ ts)) all in
    rw (parts.0, instr_push test (u ∷ ts) what parts.1 h) refl

priorities_stay : (ts : List ThreadDecl) (what : Instr) → list_all (λ (t : ThreadDecl). nat_le t.priority 63) ts ≡ true
    → list_all (λ (t : ThreadDecl). nat_le t.priority 63) (with_instr ts what) ≡ true
priorities_stay [] what all = refl
priorities_stay (t ∷ []) what all = all
priorities_stay (t ∷ u ∷ ts) what all =
    let parts = both (nat_le t.priority 63) (list_all (λ (v : ThreadDecl). nat_le v.priority 63) (u ∷ ts)) all in
    rw (parts.0, priorities_stay (u ∷ ts) what parts.1) refl

small : (low high n : ℕ) → (nat_le low n && nat_le n high) ≡ true → nat_le n high ≡ true
small low high n h = (both (nat_le low n) (nat_le n high) h).1

numbers-after : (file : List Declared) (c : Context) (l : SourceLine) → Stands file c l → AreNumbersInRange c.script → AreNumbersInRange (after c l).script
numbers-after file c (line.Pool k) h n =
    let v = in_form (form_of (line.Pool k)) h.ranges in
    record {
      pool = (number_in 0 255 k v.0.0).1;
      fast = n.fast;
      queues = n.queues;
      dfcs = n.dfcs;
      idfcs = n.idfcs;
      irqs = n.irqs;
      threads = n.threads;
      instrs = n.instrs;
    }
numbers-after file c (line.Fast k) h n =
    let v = in_form (form_of (line.Fast k)) h.ranges in
    record {
      pool = n.pool;
      fast = (number_in 0 16 k v.0.0).1;
      queues = n.queues;
      dfcs = n.dfcs;
      idfcs = n.idfcs;
      irqs = n.irqs;
      threads = n.threads;
      instrs = n.instrs;
    }
numbers-after file c (line.Queue name p) h n =
    let v = in_form (form_of (line.Queue name p)) h.ranges in
    record {
      pool = n.pool;
      fast = n.fast;
      queues = all_push (λ (q : QueueDecl). nat_le q.priority 63) c.script.queues _ n.queues (small 0 63 p v.0.1.0);
      dfcs = n.dfcs;
      idfcs = n.idfcs;
      irqs = n.irqs;
      threads = n.threads;
      instrs = n.instrs;
    }
numbers-after file c (line.Dfc name queue p ops) h n =
    let v = in_form (form_of (line.Dfc name queue p ops)) h.ranges in
    record {
      pool = n.pool;
      fast = n.fast;
      queues = n.queues;
      dfcs =
          all_push (λ (d : DfcDecl). nat_le d.priority 7 && is_body (Some body.Call) d.body) c.script.dfcs _ n.dfcs
          (and_from (nat_le p 7) (is_body (Some body.Call) ops) (small 0 7 p v.0.1.1.0) v.1);
      idfcs = n.idfcs;
      irqs = n.irqs;
      threads = n.threads;
      instrs = n.instrs;
    }
numbers-after file c (line.Idfc name ops) h n =
    let v = in_form (form_of (line.Idfc name ops)) h.ranges in
    record {
      pool = n.pool;
      fast = n.fast;
      queues = n.queues;
      dfcs = n.dfcs;
      idfcs = all_push (λ (d : IdfcDecl). is_body (Some body.Call) d.body) c.script.idfcs _ n.idfcs v.1;
      irqs = n.irqs;
      threads = n.threads;
      instrs = n.instrs;
    }
numbers-after file c (line.IrqBody k ops) h n =
    let v = in_form (form_of (line.IrqBody k ops)) h.ranges in
    record {
      pool = n.pool;
      fast = n.fast;
      queues = n.queues;
      dfcs = n.dfcs;
      idfcs = n.idfcs;
      irqs =
          all_push (λ (i : IrqBody). nat_le i.number 31 && is_body (Some body.Interrupt) i.body) c.script.irqs _ n.irqs
          (and_from (nat_le k 31) (is_body (Some body.Interrupt) ops) (small 0 31 k v.0.0) v.1);
      threads = n.threads;
      instrs = n.instrs;
    }
numbers-after file c (line.KernelThread name p held) h n =
    let le = le-leb p 63 (kernel_priority name p held h.ranges) in
    record {
      pool = n.pool;
      fast = n.fast;
      queues = n.queues;
      dfcs = n.dfcs;
      idfcs = n.idfcs;
      irqs = n.irqs;
      threads = all_push (λ (t : ThreadDecl). nat_le t.priority 63) c.script.threads _ n.threads le;
      instrs =
          all_push (λ (t : ThreadDecl). list_all (λ w. is_source_line (line.Instr w)) t.instrs) c.script.threads _ n.instrs
          refl;
    }
numbers-after file c (line.Thread name p held) h n =
    let le = le-leb p 63 (thread_priority name p held h.ranges) in
    record {
      pool = n.pool;
      fast = n.fast;
      queues = n.queues;
      dfcs = n.dfcs;
      idfcs = n.idfcs;
      irqs = n.irqs;
      threads = all_push (λ (t : ThreadDecl). nat_le t.priority 63) c.script.threads _ n.threads le;
      instrs =
          all_push (λ (t : ThreadDecl). list_all (λ w. is_source_line (line.Instr w)) t.instrs) c.script.threads _ n.instrs
          refl;
    }
numbers-after file c (line.Instr what) h n = record {
  pool = n.pool;
  fast = n.fast;
  queues = n.queues;
  dfcs = n.dfcs;
  idfcs = n.idfcs;
  irqs = n.irqs;
  threads = priorities_stay c.script.threads what n.threads;
  instrs = instr_push (λ w. is_source_line (line.Instr w)) c.script.threads what n.instrs h.ranges;
}
numbers-after file c _ h n = record {
  pool = n.pool;
  fast = n.fast;
  queues = n.queues;
  dfcs = n.dfcs;
  idfcs = n.idfcs;
  irqs = n.irqs;
  threads = n.threads;
  instrs = n.instrs;
}

numbers-all : (file : List Declared) (c : Context) (lines : List SourceLine) → AllStand file c lines
    → AreNumbersInRange c.script → AreNumbersInRange (after_all c lines).script
numbers-all file c [] stand n = n
numbers-all file c (l ∷ ls) stand n = numbers-all file (after c l) ls stand.1 (numbers-after file c l stand.0 n)

numbers-start : AreNumbersInRange start.script
numbers-start = record { pool = omega arith; fast = omega arith; queues = refl; dfcs = refl; idfcs = refl; irqs = refl; threads = refl; instrs = refl }

pub formed_numbers_in_range : (script : Script) → IsWellFormed script → AreNumbersInRange script
formed_numbers_in_range script f = subst AreNumbersInRange (sym f.same) (numbers-all _ start f.lines f.are.stand numbers-start)
