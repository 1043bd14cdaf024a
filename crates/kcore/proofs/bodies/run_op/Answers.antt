use Rattle.std.proofs.Common.{◌∙◌, ap, arith}
use Rattle.machine.specs.declared.decision.Decision.{Decision}
use Rattle.machine.specs.Bodies.{op_moves}
use Rattle.kernel_tables.specs.StateOf.{state_of}
use Rattle.kcore.proofs.RunningOps.{op_calm, op_unmaking, may_after}
use Rattle.kcore.proofs.bodies.run_op.Goals as goal

pub perform-requires-clause-go : goal.perform-requires-clause-go
perform-requires-clause-go g c = rw c.op_moves.ensures.moves (rw (← c.core.view_is) at c.requires.go)

pub perform-requires-clause-few : goal.perform-requires-clause-few
perform-requires-clause-few g c = rw c.op_moves.ensures.moves (rw (← c.core.view_is) at c.requires.few)

pub perform-requires-clause-once : goal.perform-requires-clause-once
perform-requires-clause-once g c =
    let none = op_calm c.args.script.now (state_of c.core.inside.tables) c.args.op.now in
    rw c.op_moves.ensures.moves (omega arith)

pub perform-requires-clause-makes : goal.perform-requires-clause-makes
perform-requires-clause-makes g c =
    let none = op_unmaking c.args.script.now (state_of c.core.inside.tables) c.args.op.now in
    rw c.op_moves.ensures.moves (omega arith)

pub perform-requires-clause-may : goal.perform-requires-clause-may
perform-requires-clause-may g c = rw (← c.core.view_is) at c.requires.may

pub returns-clause-moves : goal.returns-clause-moves
returns-clause-moves g c = rw (← c.core.view_is) (ap (λ (d : Decision). d.moves) c.perform.ensures.decision ∙ c.op_moves.ensures.moves)

pub returns-clause-short : goal.returns-clause-short
returns-clause-short g c = rw (← c.core.view_is, ← c.op_moves.ensures.moves) c.op_moves.ensures.few

pub returns-clause-performed : goal.returns-clause-performed
returns-clause-performed g c = rw (← c.core.view_is) (rw c.op_moves.ensures.moves at c.perform.ensures.performed)

pub returns-clause-may : goal.returns-clause-may
returns-clause-may g c =
    let S = state_of c.core.inside.tables in
    let notes = c.core.inside.tables.objects.notes in
    let done = rw c.op_moves.ensures.moves at c.perform.ensures.performed in
    rw c.perform.ensures.notes (may_after c.args.script.now c.args.thread
    (op_moves c.args.script.now (state_of c.core.inside.tables) c.args.op.now) notes S c.perform.new.self.state
    c.core.inside.ready c.perform.new.self.ready c.args.effects.now c.perform.new.effects
    (rw (← c.core.view_is) at c.requires.go)
    (op_calm c.args.script.now (state_of c.core.inside.tables) c.args.op.now)
    (op_unmaking c.args.script.now (state_of c.core.inside.tables) c.args.op.now) done
    (rw (← c.core.view_is) at c.requires.may))
