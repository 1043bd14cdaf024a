use Rattle.std.proofs.Common.{rules, arith}
use Rattle.turn_lock.specs.Passes.{caller_of}
use Rattle.workers.specs.Rested.{IsThrough}
use Rattle.workers.proofs.Jobs.{all-given, both-ok, same-given}
use Rattle.workers.proofs.share.work_all.Goals as goal

pub returns-clause-through : goal.returns-clause-through
returns-clause-through g c =
    both-ok _ _ _ c.map_vec.result
    (λ v many each. all-given _ _ (IsThrough c.args.kernel.now) c.args.passes.items v.items
    (omega (arith, many, v.ok.0, c.args.passes.ok.0)) (λ j r call. search rules) each)
    c.map_vec.ensures.len c.map_vec.ensures.each

pub returns-clause-callers : goal.returns-clause-callers
returns-clause-callers g c =
    both-ok _ _ _ c.map_vec.result
    (λ v many each. same-given _ _ caller_of caller_of c.args.passes.items v.items
    (omega (arith, many, v.ok.0, c.args.passes.ok.0)) (λ j r call. search rules) each)
    c.map_vec.ensures.len c.map_vec.ensures.each
