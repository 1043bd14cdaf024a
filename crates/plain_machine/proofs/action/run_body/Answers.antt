use Rattle.std.proofs.Common.{◌≤◌, List, length, ap, subst, sym, arith}
use Rattle.script_types.specs.declared.declaration.Op.{Op}
use Rattle.machine.specs.declared.moves.Move.{Move}
use Rattle.machine_laws.proofs.Fitting.Bodies.{short_body}
use Rattle.plain_machine.proofs.Performing.{room_for_body}
use Rattle.plain_machine.proofs.action.run_body.Goals as goal

pub run_operations-requires-clause-room : goal.run_operations-requires-clause-room
run_operations-requires-clause-room c =
    let leave = ap (λ (ms : List Move). length ms) c.as_slice.ensures.moves in
    let few = c.leave_queue.ensures.few in
    let short = subst (λ (ops : List Op). length ops ≤ 4) (sym c.ops_of.ensures) (short_body c.args.script.now c.args.body c.requires.shaped) in
    room_for_body c.args.thread c.as_slice.result.now c.args.state.now c.make_moves.new.state c.ops_of.result.now
    (omega arith) short c.requires.room c.in_ok-make_moves.ensures.state
