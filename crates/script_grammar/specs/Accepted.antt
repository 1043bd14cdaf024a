-- Which bytes are accepted as which script, and which scripts are valid.
use Rattle.std.specs.Prelude.{◌≡◌, ℕ, IsTrue, List}
use Rattle.script_types.specs.Context.{start, after_all, is_ended}
use Rattle.script_types.specs.Source.{AreLines}
use Rattle.script_types.specs.SourceText.{text_lines}
use Rattle.script_types.specs.declared.script.Script.{Script}
use Rattle.script_types.specs.declared.source_line.SourceLine.{SourceLine}

-- The bytes are accepted as the script: they are lines, the last of them `end`, and the lines make the script.
pub record IsAccepted (bytes : List ℕ) (script : Script) : Type 0 where
  pub lines : List SourceLine
  pub are : AreLines (text_lines bytes) (text_lines bytes) lines
  pub ended : IsTrue (is_ended (after_all start lines))
  pub same : script ≡ (after_all start lines).script

-- a script is valid where some bytes are accepted as it
pub record IsValid (script : Script) : Type 0 where
  pub bytes : List ℕ
  pub accepted : IsAccepted bytes script
