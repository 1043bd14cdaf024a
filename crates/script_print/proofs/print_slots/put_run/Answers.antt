use Rattle.std.proofs.Common.{◌<◌, arith}
use Rattle.std.proofs.lemmas.List.{append-nil}
use Rattle.std.proofs.lemmas.Bool.Decides.{nat_tests}
use Rattle.script_print.proofs.PartLaws.{run_lines}
use Rattle.script_print.proofs.print_slots.put_run.Goals as goal

pub returns : goal.returns
returns c =
    let some : 0 < c.args.count = grind (arith, nat_tests) in
    rw (run_lines c.args.count some, append-nil) c.put_line.ensures
