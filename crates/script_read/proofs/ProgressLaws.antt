-- How far a text is read, from its first line to behind its last.
use Rattle.std.proofs.Common.{◌≡◌, ℕ, ◌+◌, ◌≤◌, List, [], ◌∷◌, length, length-append, sym, ap, ◌∙◌, refl, arith, Result}
use Rattle.std.proofs.lemmas.Bool.{ltb-true}
use Rattle.std.specs.Prelude.{IsTrue}
use Rattle.script_read.specs.LineByLine.{read_from, read_text, at_end}
use Rattle.script_read.specs.NameNumbers.{ListsNames}
use Rattle.script_read.specs.Progress.{IsSteady}
use Rattle.script_read.specs.declared.progress.Progress.{Progress}
use Rattle.script_read.specs.declared.reason.Reason.{Reason}
use Rattle.script_types.specs.Context.{start, after, is_ended}
use Rattle.script_types.specs.Names.{Declared, file_declares}
use Rattle.script_types.specs.SourceText.{text_lines}
use Rattle.script_types.specs.Stands.{is_within}
use Rattle.script_types.specs.declared.context.Context.{Context}
use Rattle.script_types.specs.declared.source_line.SourceLine.{SourceLine}
use Rattle.script_types.specs.declared.source_line.SourceLine.TheVariants as line

-- The text is read up to here: what is left decides what the whole text is, and its first line has this number.
pub record IsReadTo (whole rest : List ℕ) (number : ℕ) (p : Progress) : Type 0 where
  pub steady : IsSteady p
  pub listed : ListsNames p.taken p.context.script
  pub text : p.names.text.now ≡ whole
  pub count : number + length rest ≤ length whole + 1
  pub same : read_from (file_declares (text_lines whole)) p.context number (text_lines rest) ≡ read_text whole

-- before the first line
pub read_to_start : (whole : List ℕ) (p : Progress) → p.context ≡ start → IsSteady p → ListsNames p.taken p.context.script
    → p.names.text.now ≡ whole → IsReadTo whole whole 1 p
unfolding read_text
read_to_start whole p e s l t = record {
  steady = s;
  listed = l;
  text = t;
  count = omega arith;
  same = ap (λ (c : Context). read_from (file_declares (text_lines whole)) c 1 (text_lines whole)) e;
}

-- one more line keeps the processes within their limit
pub processes_after : (c : Context) (l : SourceLine) → length c.script.processes ≤ 16 → IsTrue (is_within c l) → length (after c l).script.processes ≤ 16
processes_after c (line.Process name) few within =
    let room = ltb-true (length c.script.processes) 16 within in
    omega (arith, length-append c.script.processes (record { name = name } ∷ []))
processes_after c _ few within = few

-- behind the last line
no_lines : text_lines [] ≡ []
unfolding text_lines
no_lines = refl

pub read_to_end : (whole rest : List ℕ) (number : ℕ) (p : Progress) (made : Result Context (ℕ × Reason))
    → IsReadTo whole rest number p → rest ≡ [] → made ≡ at_end p.context number (is_ended p.context)
    → made ≡ read_text whole
read_to_end whole rest number p made r none end =
    let file : List Declared = file_declares (text_lines whole) in
    let lines : [] ≡ text_lines rest = sym (ap text_lines none ∙ no_lines) in
    end ∙ ap (λ (ls : List (List ℕ)). read_from file p.context number ls) lines ∙ r.same
