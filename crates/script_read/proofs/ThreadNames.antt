-- An instruction more changes the name of no thread.
use Rattle.std.proofs.Common.{◌≡◌, ℕ, Bool, List, [], ◌∷◌, refl, ap}
use Rattle.std.specs.Prelude.{◌||◌}
use Rattle.std.specs.Str.{bytes_eq}
use Rattle.script_read.specs.NameNumbers.{any_named, has_thread}
use Rattle.script_types.specs.Context.{told, kind_of, with_instr}
use Rattle.script_types.specs.declared.declaration.QueueDecl.{QueueDecl}
use Rattle.script_types.specs.declared.declaration.ThreadDecl.{ThreadDecl}
use Rattle.script_types.specs.declared.instruction.Instr.{Instr}
use Rattle.script_types.specs.declared.script.Script.{Script}
use Rattle.script_types.specs.declared.source_line.LineKind.TheVariants as of
use Rattle.script_types.specs.declared.source_line.SourceLine.{SourceLine}
use Rattle.script_types.specs.declared.source_line.SourceLine.TheVariants as line

-- the name of a thread
abbrev thread_name : ThreadDecl → List ℕ
thread_name t = t.name

named_same : (threads : List ThreadDecl) (what : Instr) (name : List ℕ)
    → any_named thread_name (with_instr threads what) name ≡ any_named thread_name threads name
named_same [] what name = refl
named_same (t ∷ []) what name = refl
named_same (t ∷ u ∷ ts) what name = ap (λ (b : Bool). bytes_eq name t.name || b) (named_same (u ∷ ts) what name)

pub threads_same : (s : Script) (l : SourceLine) (name : List ℕ) → kind_of l ≡ of.Instr → has_thread (told s l) name ≡ has_thread s name
threads_same s (line.Instr what) name is =
    ap (λ (b : Bool). any_named (λ (q : QueueDecl). q.name) s.queues name || b) (named_same s.threads what name)
threads_same s _ name is = absurd (cc)
