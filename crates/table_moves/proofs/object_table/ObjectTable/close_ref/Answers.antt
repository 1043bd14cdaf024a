use Rattle.table_moves.proofs.NotesKept.{notes-closed}
use Rattle.table_moves.proofs.object_table.ObjectTable.close_ref.Goals as goal

pub returns-clause-notes : goal.returns-clause-notes
returns-clause-notes g c =
    rw (← c.self.view_is, c.close_ref.ensures.words)
    (notes-closed c.close_ref.result (g.W.RefWords.meaning c.self.inside.table.words) _)
