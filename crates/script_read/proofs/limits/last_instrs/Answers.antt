use Rattle.std.proofs.Common.{◌<◌, ◌∙◌, length, arith}
use Rattle.std.proofs.lemmas.Bool.Decides.{nat_tests}
use Rattle.script_read.proofs.LastThread.{last_instrs_at}
use Rattle.script_read.proofs.limits.last_instrs.Goals as goal

pub returns : goal.returns
returns c =
    let some : 0 < length c.args.threads.now = grind (arith, nat_tests) in
    c.len.ensures ∙ last_instrs_at c.args.threads.now c.index-threads-threads.result some
