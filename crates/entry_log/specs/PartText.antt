-- How a part of an instruction is printed.
use Rattle.entry_log.specs.declared.step.Part.{Part}
use Rattle.entry_log.specs.declared.step.Part.TheVariants.{Seek, Return, Look, Make, Send, Do, Done, Piece}
use Rattle.std.specs.Prelude.{ℕ, List, codes}

-- its word
unfoldable pub part_text : Part → List ℕ
part_text Seek = codes "seek"
part_text Return = codes "return"
part_text Look = codes "look"
part_text Make = codes "make"
part_text Send = codes "send"
part_text Do = codes "do"
part_text Done = codes "done"
part_text Piece = codes "piece"
