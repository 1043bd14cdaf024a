-- The whole text of a history.
use Rattle.entry_log.specs.EntryLine.{entry_line}
use Rattle.entry_log.specs.FinalLine.{final_line}
use Rattle.entry_log.specs.declared.entry.Entry.{Entry}
use Rattle.entry_log.specs.declared.entry.FinalRow.{FinalRow}
use Rattle.std.specs.List.{filter, flat_map}
use Rattle.std.specs.Prelude.{ℕ, List, ◌++◌, codes, is_some}

-- each entry's line, the line `objects`, the line of each object that is left, and the line `end`
unfoldable pub history_text : List Entry → List FinalRow → List ℕ
history_text entries rows = flat_map entry_line entries ++ codes "objects\n" ++ flat_map final_line rows ++ codes "end\n"

-- the same with only the entries that have an answer, which keep their places
unfoldable pub brief_text : List Entry → List FinalRow → List ℕ
brief_text entries rows = history_text (filter (λ entry. is_some entry.answer) entries) rows
