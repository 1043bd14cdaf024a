use Rattle.std.proofs.Common.{◌≡◌, ℕ, true, false, List, ap, sym, ◌∙◌}
use Rattle.messages.proofs.Queueing.{unheld_stay}
use Rattle.messages.proofs.table.leave.Goals as goal

pub returns-else-is_linked : goal.returns-else-is_linked
returns-else-is_linked c =
    ap (λ (lists : List (List ℕ)). record c.args.queue.now { lists = lists })
    (unheld_stay c.args.node c.args.queue.now.lists
    (λ held. let no : false ≡ true = sym c.if-is_linked.false ∙ c.is_linked.ensures.linked.1 held in absurd (cc)))
