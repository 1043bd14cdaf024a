use Rattle.std.proofs.Common.{◌∙◌, sym}
use Rattle.machine.specs.ServerMoves.{owned_by}
use Rattle.plain_reads.proofs.Work.{first_of_closing}
use Rattle.kernel_tables.specs.StateOf.{state_of}
use Rattle.kernel_tables.proofs.work.first_work.Goals as goal

pub returns : goal.returns
returns g c =
    let S = state_of c.args.tables.now in
    c.first_of.ensures
    ∙ sym (first_of_closing S (owned_by S.serving.owned c.args.thread) c.in_ok-server.server
    (sym c.first_closing.ensures.first ∙ c.in_ok-server.was))
