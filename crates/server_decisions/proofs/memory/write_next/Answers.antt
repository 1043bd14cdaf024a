use Rattle.std.proofs.Common.{◌≤◌, arith}
use Rattle.copy_rules.specs.Refusals.{write_refusal}
use Rattle.server_decisions.proofs.GoingOn.{goes_on}
use Rattle.server_decisions.proofs.memory.write_next.Goals as goal

pub write_answer-piece-requires : goal.write_answer-piece-requires
write_answer-piece-requires c =
    let ends = c.args.ends.now in
    let next = c.next_job-next.result in
    let few : next.done ≤ next.len = rw c.next_job-next.ensures.job (omega arith) in
    goes_on (write_refusal ends next) next.len next.done few
