-- A valid script is well formed, so that all holds of it that holds of those.
use Rattle.script_types.specs.Source.{IsWellFormed}
use Rattle.script_types.specs.declared.script.Script.{Script}
use Rattle.script_grammar.specs.Accepted.{IsValid}

pub valid_is_formed : (script : Script) → IsValid script → IsWellFormed script
valid_is_formed script valid = let a = valid.accepted in record { bytes = valid.bytes; lines = a.lines; are = a.are; ended = a.ended; same = a.same }
