use Rattle.table_moves.proofs.NotesKept.{notes-made}
use Rattle.table_moves.proofs.object_table.ObjectTable.make.Goals as goal

pub returns-clause-notes : goal.returns-clause-notes
returns-clause-notes g c =
    rw (← c.self.view_is, c.make.ensures.words)
    (notes-made c.make.result c.self.inside.table.made (g.W.RefWords.meaning c.self.inside.table.words))
