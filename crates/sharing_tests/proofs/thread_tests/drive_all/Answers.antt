use Rattle.std.proofs.Common.{rules, arith}
use Rattle.turn_lock.specs.Passes.{caller_of, IsFree}
use Rattle.workers.proofs.Jobs.{all-given, both-ok, same-given}
use Rattle.sharing_tests.proofs.thread_tests.drive_all.Goals as goal

pub returns-clause-free : goal.returns-clause-free
returns-clause-free g c =
    both-ok _ _ _ c.map_vec.result
    (λ v many each. all-given _ _ (IsFree c.args.kernel.now) c.args.passes.items v.items
    (omega (arith, many, v.ok.0, c.args.passes.ok.0)) (λ j r call. search rules) each)
    c.map_vec.ensures.len c.map_vec.ensures.each

pub returns-clause-callers : goal.returns-clause-callers
returns-clause-callers g c =
    both-ok _ _ _ c.map_vec.result
    (λ v many each. same-given _ _ caller_of caller_of c.args.passes.items v.items
    (omega (arith, many, v.ok.0, c.args.passes.ok.0)) (λ j r call. search rules) each)
    c.map_vec.ensures.len c.map_vec.ensures.each
