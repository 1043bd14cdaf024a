-- The script of the test: a thread makes a mutex and a second handle of it, closes both, and closes the
-- second once more; and at its list's end it dies.
use Rattle.std.specs.Prelude.{ℕ, ℤ, pos, codes, false, List, [], ◌∷◌, Option, Some, None, replicate}
use Rattle.sym_base.specs.declared.error.Error.TheVariants.{BadHandle}
use Rattle.sym_base.specs.declared.number.ObjNo.{ObjNo}
use Rattle.sym_base.specs.declared.word.Word.TheVariants as word
use Rattle.sym_base.specs.ErrorCode.{error_code}
use Rattle.entry_log.specs.declared.effect.Effect.{Effect}
use Rattle.entry_log.specs.declared.effect.Effect.TheVariants.{Plus, Minus, Dead, Swept, Doom}
use Rattle.entry_log.specs.declared.effect.Holder.TheVariants.{InProcess, Temp}
use Rattle.entry_log.specs.declared.entry.Actor.TheVariants.{Thread}
use Rattle.entry_log.specs.declared.entry.Entry.{Entry}
use Rattle.entry_log.specs.declared.step.Part.TheVariants.{Do, Look}
use Rattle.entry_log.specs.declared.step.Step.{Step}
use Rattle.entry_log.specs.declared.step.Step.TheVariants.{Of, Drop, Sweep, End, Clean}
use Rattle.script_types.specs.declared.declaration.ThreadDecl.{ThreadDecl}
use Rattle.script_types.specs.declared.instruction.Instr.TheVariants.{CreateMutex, Dup, Close}
use Rattle.script_types.specs.declared.script.Script.{Script}
use Rattle.script_types.specs.declared.script.Slot.TheVariants.{Go}

-- thread `a` and what it does with mutex `m`
abbrev pub two_handles_thread : ThreadDecl
two_handles_thread = record {
  name = codes "a";
  priority = 10;
  held = false;
  process = Some 0;
  instrs = CreateMutex (codes "m") 0 ∷ Dup 0 1 ∷ Close 0 ∷ Close 1 ∷ Close 1 ∷ [];
}

-- process `p` with that thread, and ten slots
unfoldable pub two_handles : Script
two_handles = record {
  version = 1;
  pool = 0;
  fast = 0;
  queues = [];
  dfcs = [];
  idfcs = [];
  irqs = [];
  processes = record { name = codes "p" } ∷ [];
  threads = two_handles_thread ∷ [];
  slots = replicate 10 Go;
}

-- its thread, the thread's process, and the mutex that it makes
abbrev the_thread : ObjNo
the_thread = record { 0 = 3 }

abbrev the_process : ObjNo
the_process = record { 0 = 2 }

abbrev the_mutex : ObjNo
the_mutex = record { 0 = 4 }

abbrev by_thread : ℕ → Step → List Effect → Option ℤ → Entry
by_thread place step effects answer = record { place = place; actor = Thread the_thread; step = step; effects = effects; answer = answer }

-- what happens
unfoldable pub two_handles_history : List Entry
two_handles_history =
    by_thread 1 (Of word.Create Do) (Plus (InProcess the_process 0) the_mutex ∷ []) (Some (pos 65536))
    ∷ by_thread 2 (Of word.Dup Look) (Plus (Temp the_thread) the_mutex ∷ []) None
    ∷ by_thread 3 (Of word.Dup Do) (Plus (InProcess the_process 1) the_mutex ∷ []) (Some (pos 65537))
    ∷ by_thread 4 Drop (Minus (Temp the_thread) the_mutex ∷ []) None
    ∷ by_thread 5 (Of word.Close Do) (Minus (InProcess the_process 0) the_mutex ∷ []) (Some (pos 0))
    ∷ by_thread 6 (Of word.Close Do) (Minus (InProcess the_process 1) the_mutex ∷ Dead the_mutex ∷ []) (Some (pos 0))
    ∷ by_thread 7 Sweep (Swept the_mutex ∷ []) None
    ∷ by_thread 8 (Of word.Close Do) [] (Some (error_code BadHandle))
    ∷ by_thread 9 End (Doom the_thread ∷ []) None
    ∷ by_thread 10 Clean [] None
    ∷ []
