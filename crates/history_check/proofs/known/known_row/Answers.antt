use Rattle.history_check.proofs.RowBytes.{row_is_line}
use Rattle.history_check.proofs.known.known_row.Goals as goal

pub returns : goal.returns
returns c = row_is_line c.args.row.now c.known_name.ensures c.known_exit.ensures
