-- What lines of a rank leave empty: each group of declarations of a later rank.
use Rattle.std.proofs.Common.{◌≡◌, ℕ, ◌<◌, ◌≤◌, Bool, true, false, List, [], ◌∷◌, length, refl, ap, sym, Some, None, arith}
use Rattle.std.proofs.lemmas.Bool.Decides.{nat_tests}
use Rattle.script_print.proofs.ThreadGroups.{last_owner, EndsIn, ends_again}
use Rattle.script_types.specs.Context.{empty_script, last_of, may_stand, kind_of, rank_of, told, is_process}
use Rattle.script_types.specs.Names.{Declared}
use Rattle.script_types.specs.Stands.{Stands}
use Rattle.script_types.specs.declared.context.Context.{Context}
use Rattle.script_types.specs.declared.declaration.ProcessDecl.{ProcessDecl}
use Rattle.script_types.specs.declared.script.Script.{Script}
use Rattle.script_types.specs.declared.source_line.LineKind.TheVariants as of
use Rattle.script_types.specs.declared.source_line.SourceLine.{SourceLine}
use Rattle.script_types.specs.declared.source_line.SourceLine.TheVariants as line
use Rattle.script_types.proofs.LimitLaws.{IsSound, earlier, in_thread, thread_needs}

-- behind lines that make this script, the last of them of this rank
abbrev pub so_far : Script → ℕ → Bool → Context
so_far s rank awaits = record { script = s; rank = Some rank; awaits_thread = awaits }

-- each group of a later rank is empty
pub record IsFront (s : Script) (rank : ℕ) : Type 0 where
  pub pool : rank < 1 → s.pool ≡ 0
  pub fast : rank < 2 → s.fast ≡ 0
  pub queues : rank < 3 → s.queues ≡ []
  pub dfcs : rank < 4 → s.dfcs ≡ []
  pub idfcs : rank < 5 → s.idfcs ≡ []
  pub irqs : rank < 6 → s.irqs ≡ []
  pub threads : rank < 7 → s.threads ≡ []
  pub processes : rank < 8 → s.processes ≡ []
  pub slots : rank < 9 → s.slots ≡ []

pub front_start : (version : ℕ) → IsFront (record empty_script { version = version }) 0
front_start version = record {
  pool = λ e. refl;
  fast = λ e. refl;
  queues = λ e. refl;
  dfcs = λ e. refl;
  idfcs = λ e. refl;
  irqs = λ e. refl;
  threads = λ e. refl;
  processes = λ e. refl;
  slots = λ e. refl;
}

later : (s : Script) (less more : ℕ) → less ≤ more → IsFront s less → IsFront s more
later s less more le f = record {
  pool = λ e. f.pool (omega arith);
  fast = λ e. f.fast (omega arith);
  queues = λ e. f.queues (omega arith);
  dfcs = λ e. f.dfcs (omega arith);
  idfcs = λ e. f.idfcs (omega arith);
  irqs = λ e. f.irqs (omega arith);
  threads = λ e. f.threads (omega arith);
  processes = λ e. f.processes (omega arith);
  slots = λ e. f.slots (omega arith);
}

-- where a thread stands, the last line is of rank 8
pub thread_rank : (awaits : Bool) (rank : ℕ) → (awaits ≡ true → rank ≡ 8) → may_stand (Some rank) awaits of.Thread ≡ true → rank ≡ 8
thread_rank true rank at h = at refl
thread_rank false rank at h = grind (arith, nat_tests)

pub front_after : (file : List Declared) (s : Script) (rank : ℕ) (awaits : Bool) (l : SourceLine)
    → Stands file (so_far s rank awaits) l → (awaits ≡ true → rank ≡ 8) → IsFront s rank
    → IsFront (told s l) (rank_of rank (kind_of l))
front_after file s rank awaits (line.Header version) h at f =
    let w = later s rank 0 (earlier (Some rank) awaits of.Header refl h.order) f in
    record {
      pool = w.pool;
      fast = w.fast;
      queues = w.queues;
      dfcs = w.dfcs;
      idfcs = w.idfcs;
      irqs = w.irqs;
      threads = w.threads;
      processes = w.processes;
      slots = w.slots;
    }
front_after file s rank awaits (line.Pool n) h at f =
    let w = later s rank 1 (earlier (Some rank) awaits of.Pool refl h.order) f in
    record {
      pool = λ e. absurd (omega arith);
      fast = w.fast;
      queues = w.queues;
      dfcs = w.dfcs;
      idfcs = w.idfcs;
      irqs = w.irqs;
      threads = w.threads;
      processes = w.processes;
      slots = w.slots;
    }
front_after file s rank awaits (line.Fast n) h at f =
    let w = later s rank 2 (earlier (Some rank) awaits of.Fast refl h.order) f in
    record {
      pool = w.pool;
      fast = λ e. absurd (omega arith);
      queues = w.queues;
      dfcs = w.dfcs;
      idfcs = w.idfcs;
      irqs = w.irqs;
      threads = w.threads;
      processes = w.processes;
      slots = w.slots;
    }
front_after file s rank awaits (line.Queue name p) h at f =
    let w = later s rank 3 (earlier (Some rank) awaits of.Queue refl h.order) f in
    record {
      pool = w.pool;
      fast = w.fast;
      queues = λ e. absurd (omega arith);
      dfcs = w.dfcs;
      idfcs = w.idfcs;
      irqs = w.irqs;
      threads = w.threads;
      processes = w.processes;
      slots = w.slots;
    }
front_after file s rank awaits (line.Dfc name queue p ops) h at f =
    let w = later s rank 4 (earlier (Some rank) awaits of.Dfc refl h.order) f in
    record {
      pool = w.pool;
      fast = w.fast;
      queues = w.queues;
      dfcs = λ e. absurd (omega arith);
      idfcs = w.idfcs;
      irqs = w.irqs;
      threads = w.threads;
      processes = w.processes;
      slots = w.slots;
    }
front_after file s rank awaits (line.Idfc name ops) h at f =
    let w = later s rank 5 (earlier (Some rank) awaits of.Idfc refl h.order) f in
    record {
      pool = w.pool;
      fast = w.fast;
      queues = w.queues;
      dfcs = w.dfcs;
      idfcs = λ e. absurd (omega arith);
      irqs = w.irqs;
      threads = w.threads;
      processes = w.processes;
      slots = w.slots;
    }
front_after file s rank awaits (line.IrqBody k ops) h at f =
    let w = later s rank 6 (earlier (Some rank) awaits of.IrqBody refl h.order) f in
    record {
      pool = w.pool;
      fast = w.fast;
      queues = w.queues;
      dfcs = w.dfcs;
      idfcs = w.idfcs;
      irqs = λ e. absurd (omega arith);
      threads = w.threads;
      processes = w.processes;
      slots = w.slots;
    }
front_after file s rank awaits (line.KernelThread name p held) h at f =
    let w = later s rank 7 (earlier (Some rank) awaits of.KernelThread refl h.order) f in
    record {
      pool = w.pool;
      fast = w.fast;
      queues = w.queues;
      dfcs = w.dfcs;
      idfcs = w.idfcs;
      irqs = w.irqs;
      threads = λ e. absurd (omega arith);
      processes = w.processes;
      slots = w.slots;
    }
front_after file s rank awaits (line.Process name) h at f =
    let w = later s rank 8 (earlier (Some rank) awaits of.Process refl h.order) f in
    record {
      pool = w.pool;
      fast = w.fast;
      queues = w.queues;
      dfcs = w.dfcs;
      idfcs = w.idfcs;
      irqs = w.irqs;
      threads = w.threads;
      processes = λ e. absurd (omega arith);
      slots = w.slots;
    }
front_after file s rank awaits (line.Thread name p held) h at f =
    let is = thread_rank awaits rank at h.order in
    let w = later s rank 8 (omega arith) f in
    record {
      pool = w.pool;
      fast = w.fast;
      queues = w.queues;
      dfcs = w.dfcs;
      idfcs = w.idfcs;
      irqs = w.irqs;
      threads = λ e. absurd (omega arith);
      processes = w.processes;
      slots = w.slots;
    }
front_after file s rank awaits (line.Instr what) h at f =
    let late = in_thread (Some rank) awaits h.order in
    record {
      pool = f.pool;
      fast = f.fast;
      queues = f.queues;
      dfcs = f.dfcs;
      idfcs = f.idfcs;
      irqs = f.irqs;
      threads = λ e. absurd (omega arith);
      processes = f.processes;
      slots = f.slots;
    }
front_after file s rank awaits line.Schedule h at f = later s rank 9 (earlier (Some rank) awaits of.Schedule refl h.order) f
front_after file s rank awaits line.End h at f = later s rank 11 (earlier (Some rank) awaits of.End refl h.order) f
front_after file s rank awaits _ h at f =
    let w = later s rank 10 (earlier (Some rank) awaits of.Slot refl h.order) f in
    record {
      pool = w.pool;
      fast = w.fast;
      queues = w.queues;
      dfcs = w.dfcs;
      idfcs = w.idfcs;
      irqs = w.irqs;
      threads = w.threads;
      processes = w.processes;
      slots = λ e. absurd (omega arith);
    }

-- A process that awaits its thread is of rank 8. Where an instruction may stand, the last thread is one of the last
-- process, or of none where there are no processes.
pub record HasLast (s : Script) (rank : ℕ) (awaits : Bool) : Type 0 where
  pub awaited : awaits ≡ true → rank ≡ 8
  pub last : 7 ≤ rank → rank ≤ 8 → awaits ≡ false → EndsIn (last_owner s.processes) s.threads

pub last_start : (version : ℕ) → HasLast (record empty_script { version = version }) 0 false
last_start version = record { awaited = λ e. absurd (cc); last = λ e f g. absurd (omega arith) }

pub owner_is : (ps : List ProcessDecl) → 0 < length ps → Some (last_of ps) ≡ last_owner ps
owner_is [] h = absurd (omega arith)
owner_is (p ∷ ps) h = refl

-- an instruction stands in the last thread
pub in_last : (s : Script) (rank : ℕ) (awaits : Bool) → may_stand (Some rank) awaits of.Instr ≡ true
    → HasLast s rank awaits → EndsIn (last_owner s.processes) s.threads
in_last s rank true h o = absurd (cc)
in_last s rank false h o =
    let low : 7 ≤ rank = in_thread (Some rank) false h in
    let high : rank ≤ 8 = grind (arith, nat_tests) in
    o.last low high refl

pub last_after : (file : List Declared) (s : Script) (rank : ℕ) (awaits : Bool) (l : SourceLine)
    → Stands file (so_far s rank awaits) l → IsSound (so_far s rank awaits) → IsFront s rank → HasLast s rank awaits
    → HasLast (told s l) (rank_of rank (kind_of l)) (is_process (kind_of l))
last_after file s rank awaits (line.KernelThread name p held) h sound f o =
    let le = earlier (Some rank) awaits of.KernelThread refl h.order in
    let none : last_owner s.processes ≡ None = ap last_owner (f.processes (omega arith)) in
    record { awaited = λ e. absurd (cc); last = λ a b e. record { before = s.threads; last = _; are = refl; is = sym none } }
last_after file s rank awaits (line.Thread name p held) h sound f o =
    let least = thread_needs (so_far s rank awaits) (Some rank) awaits refl refl h.order sound in
    record { awaited = λ e. absurd (cc); last = λ a b e. record { before = s.threads; last = _; are = refl; is = owner_is s.processes least } }
last_after file s rank awaits (line.Instr what) h sound f o =
    record { awaited = λ e. absurd (cc); last = λ a b e. ends_again (last_owner s.processes) s.threads what (in_last s rank awaits h.order o) }
last_after file s rank awaits (line.Process name) h sound f o = record { awaited = λ e. refl; last = λ a b e. absurd (cc) }
last_after file s rank awaits _ h sound f o = record { awaited = λ e. absurd (cc); last = λ a b e. absurd (omega arith) }
