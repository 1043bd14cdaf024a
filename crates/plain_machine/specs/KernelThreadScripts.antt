-- The scripts of the tests of kernel threads, and what happens in them.
use Rattle.std.specs.Prelude.{ℕ, ℤ, pos, codes, false, List, [], ◌∷◌, Option, Some, None, replicate}
use Rattle.sym_base.specs.declared.kind.Kind.TheVariants as kind
use Rattle.sym_base.specs.declared.word.Word.TheVariants as word
use Rattle.entry_log.specs.declared.effect.Effect.{Effect}
use Rattle.entry_log.specs.declared.effect.Effect.TheVariants as effect
use Rattle.entry_log.specs.declared.effect.Holder.TheVariants.{InProcess, Temp}
use Rattle.entry_log.specs.declared.effect.LockNo.TheVariants.{Fast}
use Rattle.entry_log.specs.declared.entry.Actor.TheVariants.{Thread, Idle}
use Rattle.entry_log.specs.declared.entry.Entry.{Entry}
use Rattle.entry_log.specs.declared.step.Part.TheVariants.{Look, Seek, Return, Do, Done}
use Rattle.entry_log.specs.declared.step.Step.{Step}
use Rattle.entry_log.specs.declared.step.Step.TheVariants.{Of, Wait, Drop}
use Rattle.script_types.specs.declared.declaration.ThreadDecl.{ThreadDecl}
use Rattle.script_types.specs.declared.instruction.Instr.{Instr}
use Rattle.script_types.specs.declared.instruction.Instr.TheVariants as instr
use Rattle.script_types.specs.declared.script.Script.{Script}
use Rattle.script_types.specs.declared.script.Slot.TheVariants.{Go}

-- a kernel thread, and a script of such threads with so many fast mutexes and slots
abbrev pub kernel_thread : List ℕ → ℕ → List Instr → ThreadDecl
kernel_thread name priority instrs = record { name = name; priority = priority; held = false; process = None; instrs = instrs }

abbrev pub kernel_script : ℕ → List ThreadDecl → ℕ → Script
kernel_script fast threads slots = record {
  version = 1;
  pool = 0;
  fast = fast;
  queues = [];
  dfcs = [];
  idfcs = [];
  irqs = [];
  processes = [];
  threads = threads;
  slots = replicate slots Go;
}

-- what a thread does, and what nobody does
abbrev by_thread : ℕ → ℕ → Step → List Effect → Option ℤ → Entry
by_thread place t step effects answer = record { place = place; actor = Thread (record { 0 = t }); step = step; effects = effects; answer = answer }

abbrev by_nobody : ℕ → Entry
by_nobody place = record { place = place; actor = Idle; step = Wait; effects = []; answer = None }

-- thread `l` holds the fast mutex that `hh` comes to want, and signals `mm` meanwhile
abbrev pub low_instrs : List Instr
low_instrs = instr.Flock 0 ∷ instr.Fssignal (codes "hh") ∷ instr.Fssignal (codes "mm") ∷ instr.Funlock 0 ∷ []

abbrev pub middle_instrs : List Instr
middle_instrs = instr.Fswait ∷ []

abbrev pub high_instrs : List Instr
high_instrs = instr.Fswait ∷ instr.Flock 0 ∷ instr.Funlock 0 ∷ []

unfoldable pub holder_runs : Script
holder_runs =
    kernel_script 1 (kernel_thread (codes "l") 10 low_instrs ∷ kernel_thread
    (codes "mm") 20 middle_instrs ∷ kernel_thread (codes "hh") 30 high_instrs ∷ []) 10

-- so `l` runs in the place of `hh`, although `mm` is ready and has a greater priority
unfoldable pub holder_runs_history : List Entry
holder_runs_history =
    by_thread 1 4 (Of word.Fswait Do) [] None
    ∷ by_thread 2 3 (Of word.Fswait Do) [] None
    ∷ by_thread 3 2 (Of word.Flock Do) (effect.Take (record { 0 = 2 }) (Fast 0) ∷ []) (Some (pos 0))
    ∷ by_thread 4 2 (Of word.Fssignal Do) [] (Some (pos 0))
    ∷ by_thread 5 4 (Of word.Fswait Done) [] (Some (pos 0))
    ∷ by_thread 6 4 (Of word.Flock Do) [] None
    ∷ by_thread 7 2 (Of word.Fssignal Do) [] (Some (pos 0))
    ∷ by_thread 8 2 (Of word.Funlock Do) (effect.Give (record { 0 = 2 }) (Fast 0) ∷ []) (Some (pos 0))
    ∷ by_thread 9 4 (Of word.Flock Done) (effect.Take (record { 0 = 4 }) (Fast 0) ∷ []) (Some (pos 0))
    ∷ by_thread 10 4 (Of word.Funlock Do) (effect.Give (record { 0 = 4 }) (Fast 0) ∷ []) (Some (pos 0))
    ∷ []

-- thread `a` suspends `b`, which hasn't begun yet and so isn't in its critical section
abbrev pub suspending_instrs : List Instr
suspending_instrs = instr.Open kind.Thread (codes "b") 0 ∷ instr.Suspend 0 ∷ instr.Fswait ∷ []

abbrev pub entering_instrs : List Instr
entering_instrs = instr.Enter ∷ []

unfoldable pub suspended_before : Script
suspended_before = kernel_script 0 (kernel_thread (codes "a") 20 suspending_instrs ∷ kernel_thread (codes "b") 10 entering_instrs ∷ []) 9

-- so `b` never enters it
unfoldable pub suspended_before_history : List Entry
suspended_before_history =
    by_thread 1 2 (Of word.Open Seek) (effect.Seek (record { 0 = 3 }) ∷ []) None
    ∷ by_thread 2 2 (Of word.Open Return) (effect.Plus (Temp (record { 0 = 2 })) (record { 0 = 3 }) ∷ []) None
    ∷ by_thread 3 2 (Of word.Open Do) (effect.Plus (InProcess (record { 0 = 0 }) 0) (record { 0 = 3 }) ∷ []) (Some (pos 65536))
    ∷ by_thread 4 2 Drop (effect.Minus (Temp (record { 0 = 2 })) (record { 0 = 3 }) ∷ []) None
    ∷ by_thread 5 2 (Of word.Suspend Look) (effect.Plus (Temp (record { 0 = 2 })) (record { 0 = 3 }) ∷ []) None
    ∷ by_thread 6 2 (Of word.Suspend Do) [] (Some (pos 0))
    ∷ by_thread 7 2 Drop (effect.Minus (Temp (record { 0 = 2 })) (record { 0 = 3 }) ∷ []) None
    ∷ by_thread 8 2 (Of word.Fswait Do) [] None
    ∷ by_nobody 9
    ∷ []
