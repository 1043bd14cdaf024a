-- The instruction and the line that words are, where their first word is known.
use Rattle.std.proofs.Common.{◌≡◌, ℕ, Bool, true, false, List, sym, ap, ◌∙◌}
use Rattle.script_words.specs.LineAt.{natural, values_at, body_at, instr_at, line_as}
use Rattle.script_words.specs.LineSigns.{word_at}
use Rattle.script_types.specs.Forms.{operands_of, line_of}
use Rattle.script_types.specs.declared.instruction.Instr.{Instr}
use Rattle.script_types.specs.declared.keyword.Keyword.{Keyword}
use Rattle.script_types.specs.declared.keyword.Keyword.TheVariants as key
use Rattle.script_types.specs.declared.source_line.SourceLine.{SourceLine}
use Rattle.script_types.specs.declared.source_line.SourceLine.TheVariants as line
use Rattle.sym_base.specs.declared.word.Word.{Word}

pub at_keyword : {k : Keyword} {l : SourceLine} (v : Keyword) (second : Bool) (words : List (List ℕ)) → k ≡ v
    → l ≡ line_of v second (values_at (operands_of v second) words 1) (body_at v second words)
    → l ≡ line_as k second words
unfolding line_as
at_keyword {k} {l} v second words is h = h ∙ ap (λ (u : Keyword). line_of u second (values_at (operands_of u second) words 1) (body_at u second words)) (sym is)

pub instr_line : (w : Word) (k : Keyword) (second : Bool) (words : List (List ℕ)) (what : Instr) → k ≡ key.Instr w
    → what ≡ instr_at w second words → line.Instr what ≡ line_as k second words
unfolding instr_at line_as
instr_line w k second words what is h =
    ap line.Instr h
    ∙ ap (λ (u : Keyword). line_of u second (values_at (operands_of u second) words 1) (body_at u second words))
    (sym is)

pub kernel_line : (second : Bool) (words : List (List ℕ)) (name : List ℕ) (p : ℕ) → name ≡ word_at words 1
    → p ≡ natural (word_at words 2) → line.KernelThread name p second ≡ line_as key.Kthread second words
unfolding line_as
kernel_line true words name p h e = ap (λ (n : List ℕ). line.KernelThread n p true) h ∙ ap (λ (q : ℕ). line.KernelThread (word_at words 1) q true) e
kernel_line false words name p h e = ap (λ (n : List ℕ). line.KernelThread n p false) h ∙ ap (λ (q : ℕ). line.KernelThread (word_at words 1) q false) e

pub thread_line : (second : Bool) (words : List (List ℕ)) (name : List ℕ) (p : ℕ) → name ≡ word_at words 1
    → p ≡ natural (word_at words 2) → line.Thread name p second ≡ line_as key.Thread second words
unfolding line_as
thread_line true words name p h e = ap (λ (n : List ℕ). line.Thread n p true) h ∙ ap (λ (q : ℕ). line.Thread (word_at words 1) q true) e
thread_line false words name p h e = ap (λ (n : List ℕ). line.Thread n p false) h ∙ ap (λ (q : ℕ). line.Thread (word_at words 1) q false) e
