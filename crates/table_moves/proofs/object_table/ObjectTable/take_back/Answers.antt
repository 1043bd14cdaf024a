use Rattle.table_moves.proofs.NotesKept.{notes-taken_back}
use Rattle.table_moves.proofs.object_table.ObjectTable.take_back.Goals as goal

pub returns-clause-notes : goal.returns-clause-notes
returns-clause-notes g c = rw (← c.self.view_is, c.take_back.ensures.words) (notes-taken_back c.take_back.result _ (g.W.RefWords.slip c.args.note))

pub returns-clause-counts : goal.returns-clause-counts
returns-clause-counts g c = rw (← c.self.view_is) c.take_back.ensures.counts

pub returns-clause-inside : goal.returns-clause-inside
returns-clause-inside g c = rw (← c.self.view_is) c.take_back.ensures.inside
