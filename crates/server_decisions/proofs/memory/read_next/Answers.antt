use Rattle.std.proofs.Common.{◌≤◌, arith}
use Rattle.copy_rules.specs.Refusals.{read_refusal}
use Rattle.copy_rules.specs.Sizes.{read_size}
use Rattle.server_decisions.proofs.GoingOn.{goes_on}
use Rattle.server_decisions.proofs.memory.read_next.Goals as goal

pub read_answer-piece-requires : goal.read_answer-piece-requires
read_answer-piece-requires c =
    let ends = c.args.ends.now in
    let next = c.next_job-next.result in
    let few : next.done ≤ read_size ends next = rw (c.next_job-next.ensures.job, c.read_size.ensures) (omega arith) in
    goes_on (read_refusal ends next) (read_size ends next) next.done few
