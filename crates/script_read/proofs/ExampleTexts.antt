-- Texts, and the first bad line of each: one for each reason, in the order in which reasons are tried.
use Rattle.std.proofs.Common.{◌≡◌, ℕ, List, [], ◌∷◌, ◌++◌, refl, Option, Some, None}
use Rattle.std.specs.Prelude.{codes, replicate, Result, Ok, Err}
use Rattle.script_read.specs.LineByLine.{read_text}
use Rattle.script_read.specs.Reasons.{first_reason, after_text}
use Rattle.script_types.specs.Keywords.{keyword_of}
use Rattle.script_words.specs.LineAt.{line_as}
use Rattle.sym_base.specs.WordText.{word_text}
use Rattle.script_read.specs.declared.reason.Reason.{Reason}
use Rattle.script_read.specs.declared.reason.Reason.TheVariants as reason
use Rattle.script_types.specs.declared.context.Context.{Context}
use Rattle.script_types.specs.SourceText.{text_lines, words_of}

-- lines as a text
abbrev text_of : List (List ℕ) → List ℕ
text_of [] = []
text_of (line ∷ lines) = line ++ 10 ∷ text_of lines

-- the number and the reason of the first bad line
abbrev bad_line : Result Context (ℕ × Reason) → Option (ℕ × Reason)
bad_line (Ok c) = None
bad_line (Err place) = Some place

abbrev first_bad : List (List ℕ) → Option (ℕ × Reason)
first_bad lines = bad_line (read_text (text_of lines))

-- no line is bad
accepted : first_bad (codes "# a comment" ∷ codes "eka2 1" ∷ codes "" ∷ codes "  process   p  " ∷ codes "thread a 10" ∷
    codes "create mutex m r0" ∷ codes "schedule" ∷ codes "go 3" ∷ codes "end" ∷ []) ≡ None
unfolding read_text text_lines first_reason after_text words_of keyword_of line_as word_text
accepted = refl

-- a byte that may not stand in a line, in a comment
bad_byte : first_bad (codes "eka2 1" ∷ (codes "# " ++ 9 ∷ []) ∷ []) ≡ Some (2, reason.Byte)
unfolding read_text text_lines first_reason after_text words_of keyword_of line_as word_text
bad_byte = refl

-- 201 spaces
bad_long : first_bad (codes "eka2 1" ∷ (replicate 201 32) ∷ []) ≡ Some (2, reason.Long)
unfolding read_text text_lines first_reason after_text words_of keyword_of line_as word_text
bad_long = refl

-- no line begins so
bad_word : first_bad (codes "eka2 1" ∷ codes "clone r1 r2 r3" ∷ []) ≡ Some (2, reason.Word)
unfolding read_text text_lines first_reason after_text words_of keyword_of line_as word_text
bad_word = refl

-- an instruction without a thread
bad_order : first_bad (codes "eka2 1" ∷ codes "close 1 2" ∷ []) ≡ Some (2, reason.Order)
unfolding read_text text_lines first_reason after_text words_of keyword_of line_as word_text
bad_order = refl

-- a word is missing
bad_count : first_bad (codes "eka2 1" ∷ codes "process p" ∷ codes "thread a 10" ∷ codes "dup r9" ∷ []) ≡ Some (4, reason.Count)
unfolding read_text text_lines first_reason after_text words_of keyword_of line_as word_text
bad_count = refl

-- a register with a zero before it
bad_form : first_bad (codes "eka2 1" ∷ codes "process p" ∷ codes "thread a 10" ∷ codes "dup r9 r00" ∷ []) ≡ Some (4, reason.Form)
unfolding read_text text_lines first_reason after_text words_of keyword_of line_as word_text
bad_form = refl

-- a fast mutex past the last
bad_range : first_bad (codes "eka2 1" ∷ codes "process p" ∷ codes "thread a 10" ∷ codes "flock f16" ∷ []) ≡ Some (4, reason.Range)
unfolding read_text text_lines first_reason after_text words_of keyword_of line_as word_text
bad_range = refl

-- a fast mutex in a thread of a process
bad_kind : first_bad (codes "eka2 1" ∷ codes "process p" ∷ codes "thread a 10" ∷ codes "flock f3" ∷ []) ≡ Some (4, reason.Kind)
unfolding read_text text_lines first_reason after_text words_of keyword_of line_as word_text
bad_kind = refl

-- the kernel has this name
bad_twice : first_bad (codes "eka2 1" ∷ codes "process kernel" ∷ []) ≡ Some (2, reason.Twice)
unfolding read_text text_lines first_reason after_text words_of keyword_of line_as word_text
bad_twice = refl

-- a queue that no line declares
bad_unknown : first_bad (codes "eka2 1" ∷ codes "dfc a q 0 queue b" ∷ []) ≡ Some (2, reason.Unknown)
unfolding read_text text_lines first_reason after_text words_of keyword_of line_as word_text
bad_unknown = refl

-- five operations
bad_limit : first_bad (codes "eka2 1" ∷ codes "dfc a supervisor 0 queue a ; queue a ; queue a ; queue a ; queue a" ∷ []) ≡ Some (2, reason.Limit)
unfolding read_text text_lines first_reason after_text words_of keyword_of line_as word_text
bad_limit = refl

-- no last line
bad_end : first_bad (codes "eka2 1" ∷ codes "schedule" ∷ []) ≡ Some (3, reason.End)
unfolding read_text text_lines first_reason after_text words_of keyword_of line_as word_text
bad_end = refl
