use Rattle.script_print.proofs.PartLaws.{body_texts}
use Rattle.script_print.proofs.print_bodies.put_body.Goals as goal

pub loop-number-preserved : goal.loop-number-preserved
loop-number-preserved c =
    body_texts c.args.out.now.items c.loop-number.out.items c.put_separator.new.out.items c.put_op.new.out.items
    c.args.ops.now c.loop-number.number c.index-ops-number.result c.loop-number-test.true c.index-ops-number.is
    c.loop-number.invariant c.in_ok-put_separator.ensures c.in_ok-put_op.ensures
