use Rattle.table_moves.proofs.NotesKept.{notes-opened}
use Rattle.table_moves.proofs.object_table.ObjectTable.add_ref.Goals as goal

pub returns-clause-notes : goal.returns-clause-notes
returns-clause-notes g c =
    rw (← c.self.view_is, c.add_ref.ensures.words) (notes-opened (g.W.RefWords.meaning c.self.inside.table.words) _)
