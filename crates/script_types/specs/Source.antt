-- Which lines a script is written in.
use Rattle.std.specs.List.{AllByRecursion}
use Rattle.std.specs.Prelude.{◌≡◌, ℕ, IsTrue, List, map}
use Rattle.script_types.specs.Context.{start, after_all, is_ended}
use Rattle.script_types.specs.Names.{file_declares}
use Rattle.script_types.specs.SourceText.{text_lines, told_words, is_printed, is_short}
use Rattle.script_types.specs.SourceWords.{source_words}
use Rattle.script_types.specs.Stands.{AllStand}
use Rattle.script_types.specs.declared.script.Script.{Script}
use Rattle.script_types.specs.declared.source_line.SourceLine.{SourceLine}

-- a line has no byte that may not stand in it, and not too many
pub record IsClean (text : List ℕ) : Type 0 where
  pub printed : IsTrue (is_printed text)
  pub short : IsTrue (is_short text)

-- Texts are lines: each is clean, and the words of those that aren't skipped are the words of the lines, which
-- may stand where they do in a file with these lines.
pub record AreLines (file texts : List (List ℕ)) (lines : List SourceLine) : Type 0 where
  pub clean : AllByRecursion IsClean texts
  pub spelled : told_words texts ≡ map source_words lines
  pub stand : AllStand (file_declares file) start lines

-- A script is well formed where some bytes are lines, the last of them `end`, that make it.
pub record IsWellFormed (script : Script) : Type 0 where
  pub bytes : List ℕ
  pub lines : List SourceLine
  pub are : AreLines (text_lines bytes) (text_lines bytes) lines
  pub ended : IsTrue (is_ended (after_all start lines))
  pub same : script ≡ (after_all start lines).script
