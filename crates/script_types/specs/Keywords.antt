-- The words that begin a line.
use Rattle.std.specs.List.{find}
use Rattle.std.specs.Prelude.{ℕ, Bool, true, false, List, [], ◌∷◌, ◌++◌, map, Option, codes}
use Rattle.std.specs.Str.{bytes_eq}
use Rattle.script_types.specs.declared.keyword.Keyword.{Keyword}
use Rattle.script_types.specs.declared.keyword.Keyword.TheVariants as key
use Rattle.script_types.specs.declared.source_line.LineKind.{LineKind}
use Rattle.script_types.specs.declared.source_line.LineKind.TheVariants as of
use Rattle.sym_base.specs.WordText.{all_words, word_text}

-- each word
abbrev pub keyword_text : Keyword → List ℕ
keyword_text key.Eka2 = codes "eka2"
keyword_text key.Pool = codes "pool"
keyword_text key.Fast = codes "fast"
keyword_text key.Dfcq = codes "dfcq"
keyword_text key.Dfc = codes "dfc"
keyword_text key.Idfc = codes "idfc"
keyword_text key.Irq = codes "irq"
keyword_text key.Kthread = codes "kthread"
keyword_text key.Process = codes "process"
keyword_text key.Thread = codes "thread"
keyword_text key.Schedule = codes "schedule"
keyword_text key.Go = codes "go"
keyword_text key.Tick = codes "tick"
keyword_text key.End = codes "end"
keyword_text (key.Instr w) = word_text w

-- those that begin no instruction
abbrev pub line_keywords : List Keyword
line_keywords =
    key.Eka2 ∷ key.Pool ∷ key.Fast ∷ key.Dfcq ∷ key.Dfc ∷ key.Idfc ∷ key.Irq ∷ key.Kthread ∷ key.Process ∷ key.Thread ∷
    key.Schedule ∷ key.Go ∷ key.Tick ∷ key.End ∷ []

-- all of them: instructions first, of which a script has most
abbrev pub keywords : List Keyword
keywords = map key.Instr all_words ++ line_keywords

-- what a word begins
unfoldable pub keyword_of : List ℕ → Option Keyword
keyword_of word = find (λ k. bytes_eq word (keyword_text k)) keywords

-- The kind of line that a word begins. An `irq` behind `schedule` is a slot.
abbrev pub keyword_kind : Bool → Keyword → LineKind
keyword_kind scheduled key.Eka2 = of.Header
keyword_kind scheduled key.Pool = of.Pool
keyword_kind scheduled key.Fast = of.Fast
keyword_kind scheduled key.Dfcq = of.Queue
keyword_kind scheduled key.Dfc = of.Dfc
keyword_kind scheduled key.Idfc = of.Idfc
keyword_kind true key.Irq = of.Slot
keyword_kind false key.Irq = of.IrqBody
keyword_kind scheduled key.Kthread = of.KernelThread
keyword_kind scheduled key.Process = of.Process
keyword_kind scheduled key.Thread = of.Thread
keyword_kind scheduled key.Schedule = of.Schedule
keyword_kind scheduled key.Go = of.Slot
keyword_kind scheduled key.Tick = of.Slot
keyword_kind scheduled key.End = of.End
keyword_kind scheduled (key.Instr w) = of.Instr
