use Rattle.shared_kernel.proofs.Finding.{opened-found}
use Rattle.sharing_tests.proofs.calls.opened.Goals as goal

pub returns : goal.returns
returns c = λ b history t found. opened-found b history t c.args.ticket c.open-found.new.self c.open-found.result c.open-found.ensures.settled found
