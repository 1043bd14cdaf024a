use Rattle.std.proofs.Common.{◌≡◌, ◌∙◌, ◌++◌, [], length, length-append, ap, arith, refl}
use Rattle.machine.specs.declared.state.State.{State}
use Rattle.machine.specs.Bodies.{leave_queue, ops_moves, ops_of, run_body}
use Rattle.machine.specs.History.{keeping}
use Rattle.machine.specs.Moves.{perform, tell}
use Rattle.machine_laws.proofs.Fitting.Bodies.{short_body}
use Rattle.machine_laws.proofs.Sharing.Moved.{tell-both}
use Rattle.kernel_tables.proofs.Performing.{calm_state, moves_part}
use Rattle.kcore.proofs.ActionsDone.{carried_does, go-run, same-moves}
use Rattle.kcore.proofs.RunningOps.{body_performed, leave_calm, ops_few, ops_go}
use Rattle.kcore.proofs.bodies.run_body.Goals as goal

pub leave_own_queue-requires-clause-go : goal.leave_own_queue-requires-clause-go
leave_own_queue-requires-clause-go g c =
    let script = c.args.script.now in
    let t = c.args.thread in
    let S = c.args.core.now.state in
    let ms = leave_queue S c.args.body in
    λ keep. (moves_part script t ms (ops_moves script t (perform t ms S) (ops_of script c.args.body)) (keeping keep S) (c.requires.goes.each keep)).0

pub leave_own_queue-requires-clause-few : goal.leave_own_queue-requires-clause-few
leave_own_queue-requires-clause-few g c =
    let script = c.args.script.now in
    let t = c.args.thread in
    let S = c.args.core.now.state in
    let ms = leave_queue S c.args.body in
    let ns = ops_moves script t (perform t ms S) (ops_of script c.args.body) in
    λ keep.
    let X = keeping keep S in
    let all : length (tell t (ms ++ ns) X) ≡ length (tell t ms X ++ tell t ns (perform t ms X)) = ap length (tell-both t ms ns X) in
    let long = length-append (tell t ms X) (tell t ns (perform t ms X)) in
    let few = c.requires.goes.few keep in
    rw c.requires.empty (omega arith)

pub run_ops-requires-clause-go : goal.run_ops-requires-clause-go
run_ops-requires-clause-go g c =
    let script = c.args.script.now in
    let t = c.args.thread in
    let old = c.args.core.now in
    let mid = c.leave_own_queue.new.core in
    let ms = leave_queue old.state c.args.body in
    let none = leave_calm old.state c.args.body in
    let left = calm_state script t ms old.state mid.state old.ready mid.ready c.args.entry.now.effects
    c.leave_own_queue.new.effects none c.leave_own_queue.ensures.performed in
    rw c.ops_of-ops.ensures (ops_go script t ms (ops_of script c.args.body) old.state mid.state none left c.requires.goes.each)

pub run_ops-requires-clause-few : goal.run_ops-requires-clause-few
run_ops-requires-clause-few g c =
    let script = c.args.script.now in
    let t = c.args.thread in
    let old = c.args.core.now in
    let mid = c.leave_own_queue.new.core in
    let ms = leave_queue old.state c.args.body in
    let none = leave_calm old.state c.args.body in
    let did = rw c.requires.empty at c.leave_own_queue.ensures.performed in
    let left = calm_state script t ms old.state mid.state old.ready mid.ready [] c.leave_own_queue.new.effects none did in
    rw c.ops_of-ops.ensures (ops_few script t ms
    (ops_of script c.args.body) old.state mid.state c.leave_own_queue.new.effects none left did.told
    c.requires.goes.few)

pub run_ops-requires-clause-may : goal.run_ops-requires-clause-may
run_ops-requires-clause-may g c = c.leave_own_queue.ensures.may

pub add_moves-requires : goal.add_moves-requires
add_moves-requires g c =
    let short = c.leave_own_queue.ensures.short in
    let same = ap length (c.as_slice.ensures.moves ∙ (same-moves _ _ c.core.view_is ∙ c.leave_own_queue.ensures.moves)) in
    let none = ap length c.new-made.ensures in
    omega arith

pub run_ops-requires-clause-short : goal.run_ops-requires-clause-short
run_ops-requires-clause-short g c =
    let short = short_body c.args.script.now c.args.body c.requires.shaped in
    let first = c.leave_own_queue.ensures.short in
    let moves = c.as_slice.ensures.moves ∙ (same-moves _ _ c.core.view_is ∙ c.leave_own_queue.ensures.moves) in
    let made : length c.add_moves.new.made ≡ length (leave_queue c.args.core.now.state c.args.body) =
    ap length (rw (c.new-made.ensures, moves) at c.add_moves.ensures) in
    rw c.ops_of-ops.ensures (omega arith)

-- the moves that were made are those of the body
pub returns-clause-does : goal.returns-clause-does
returns-clause-does g c =
    let script = c.args.script.now in
    let t = c.args.thread in
    let old = c.args.core.now in
    let mid = c.leave_own_queue.new.core in
    let last = c.run_ops.new.core in
    let S = old.state in
    let d = run_body script t S c.args.body in
    let ms = leave_queue S c.args.body in
    let ops = ops_of script c.args.body in
    let none = leave_calm S c.args.body in
    let first = rw c.requires.empty at c.leave_own_queue.ensures.performed in
    let second = rw c.ops_of-ops.ensures at c.run_ops.ensures.performed in
    let did = body_performed script t ms ops S mid.state last.state old.ready mid.ready last.ready []
    c.leave_own_queue.new.effects c.run_ops.new.effects none first second in
    let left = calm_state script t ms S mid.state old.ready mid.ready [] c.leave_own_queue.new.effects none first in
    let own = c.as_slice.ensures.moves ∙ (same-moves _ _ c.core.view_is ∙ c.leave_own_queue.ensures.moves) in
    let noted : c.as_slice-2.result.now ≡ ms ++ ops_moves script t mid.state ops =
    rw (c.add_moves.ensures, c.new-made.ensures, own, c.ops_of-ops.ensures) at
    (c.as_slice-2.ensures ∙ c.run_ops.ensures.made) in
    let moves : c.as_slice-2.result.now ≡ d.moves = noted ∙ ap (λ (U : State). ms ++ ops_moves script t U ops) left in
    let follow = rw moves at c.leave_along.ensures.queues in
    let runs = go-run script t d.moves (keeping last.state.mode.keep S) (c.requires.goes.each last.state.mode.keep) in
    carried_does script t d old last c.leave_along.new.self _ c.run_ops.new.effects runs did c.leave_along.ensures.state
    follow (rw c.step_of_body-entry.ensures refl)

pub returns-clause-notes : goal.returns-clause-notes
returns-clause-notes g c = c.leave_along.ensures.notes ∙ c.run_ops.ensures.notes ∙ c.leave_own_queue.ensures.notes
