use Rattle.std.proofs.Common.{◌∙◌, ◌+◌, length, drop, ap, arith, refl}
use Rattle.machine.specs.Bodies.{op_moves, ops_moves}
use Rattle.machine.specs.Moves.{perform}
use Rattle.kernel_tables.proofs.Performing.{part_few, part_goes, next_item, none_left}
use Rattle.kcore.proofs.ActionsDone.{same-moves}
use Rattle.kcore.proofs.RunningOps.{ops_begin, ops_calm, ops_go_on, ops_end}
use Rattle.kcore.proofs.bodies.run_ops.Goals as goal

pub loop-op-init : goal.loop-op-init
loop-op-init g c = record {
  ops = ops_begin c.args.script.now c.args.thread c.args.ops.now c.args.core.now.state c.args.core.now.ready c.args.effects.now c.args.made.now;
  may = c.requires.may;
  notes = refl;
}

pub run_op-requires-clause-may : goal.run_op-requires-clause-may
run_op-requires-clause-may g c = c.loop-op.invariant.may

pub run_op-requires-clause-go : goal.run_op-requires-clause-go
run_op-requires-clause-go g c =
    let script = c.args.script.now in
    let t = c.args.thread in
    let first = c.args.core.now in
    let S = c.loop-op.core.state in
    let o = c.op-item.result in
    let ns = op_moves script S o in
    let h = rw (next_item c.args.ops.now c.loop-op.op-index o c.loop-op-test.true c.op-item.is) at c.loop-op.invariant.ops in
    part_goes script t (ops_moves script t first.state c.args.ops.now) first.state first.ready c.args.effects.now ns
    (ops_moves script t (perform t ns S) (drop (c.loop-op.op-index + 1) c.args.ops.now)) S c.loop-op.core.ready
    c.loop-op.effects (ops_calm script t first.state c.args.ops.now) h.way c.requires.go

pub run_op-requires-clause-few : goal.run_op-requires-clause-few
run_op-requires-clause-few g c =
    let script = c.args.script.now in
    let t = c.args.thread in
    let first = c.args.core.now in
    let S = c.loop-op.core.state in
    let o = c.op-item.result in
    let ns = op_moves script S o in
    let h = rw (next_item c.args.ops.now c.loop-op.op-index o c.loop-op-test.true c.op-item.is) at c.loop-op.invariant.ops in
    part_few script t (ops_moves script t first.state c.args.ops.now) first.state first.ready c.args.effects.now ns
    (ops_moves script t (perform t ns S) (drop (c.loop-op.op-index + 1) c.args.ops.now)) S c.loop-op.core.ready
    c.loop-op.effects (ops_calm script t first.state c.args.ops.now) h.way c.requires.few

pub add_moves-requires : goal.add_moves-requires
add_moves-requires g c =
    let h = rw (next_item c.args.ops.now c.loop-op.op-index c.op-item.result c.loop-op-test.true c.op-item.is) at c.loop-op.invariant.ops in
    let few = h.few in
    let short = c.run_op.ensures.short in
    let all = c.requires.short in
    let same = ap length (c.as_slice.ensures.moves ∙ (same-moves _ _ c.core.view_is ∙ c.run_op.ensures.moves)) in
    omega arith

pub loop-op-preserved : goal.loop-op-preserved
loop-op-preserved g c =
    let script = c.args.script.now in
    let t = c.args.thread in
    let S = c.loop-op.core.state in
    let o = c.op-item.result in
    let i = c.loop-op.op-index in
    let h = rw (next_item c.args.ops.now i o c.loop-op-test.true c.op-item.is) at c.loop-op.invariant.ops in
    let new = c.run_op.new.core in
    let added = c.as_slice.ensures.moves ∙ (same-moves _ _ c.core.view_is ∙ c.run_op.ensures.moves) in
    record {
      ops =
          rw (c.add_moves.ensures, added) (ops_go_on script t c.args.ops.now c.args.core.now.state c.args.core.now.ready
          c.args.effects.now c.args.made.now o (drop (i + 1) c.args.ops.now) S new.state c.loop-op.core.ready new.ready
          c.loop-op.effects c.run_op.new.effects c.loop-op.made h c.run_op.ensures.performed c.run_op.ensures.short);
      may = c.run_op.ensures.may;
      notes = c.run_op.ensures.notes ∙ c.loop-op.invariant.notes;
    }

pub returns-clause-performed : goal.returns-clause-performed
returns-clause-performed g c =
    let h = rw (none_left c.args.ops.now c.loop-op.op-index c.loop-op-test.false) at c.loop-op.invariant.ops in
    (ops_end c.args.script.now c.args.thread c.args.ops.now c.args.core.now.state c.loop-op.core.state
    c.args.core.now.ready c.loop-op.core.ready c.args.effects.now c.loop-op.effects c.args.made.now c.loop-op.made h).0

pub returns-clause-made : goal.returns-clause-made
returns-clause-made g c =
    let h = rw (none_left c.args.ops.now c.loop-op.op-index c.loop-op-test.false) at c.loop-op.invariant.ops in
    (ops_end c.args.script.now c.args.thread c.args.ops.now c.args.core.now.state c.loop-op.core.state
    c.args.core.now.ready c.loop-op.core.ready c.args.effects.now c.loop-op.effects c.args.made.now c.loop-op.made h).1
