use Rattle.std.proofs.Common.{sym, ◌∙◌}
use Rattle.history_check.proofs.FirstLines.{other_front}
use Rattle.history_check.proofs.pieces.behind.Goals as goal

pub returns-else-eq : goal.returns-else-eq
returns-else-eq c = λ begins. other_front c.args.text.now c.args.piece.now _ c.split_at.ensures.front (sym c.eq.ensures ∙ c.if-eq.false) begins
