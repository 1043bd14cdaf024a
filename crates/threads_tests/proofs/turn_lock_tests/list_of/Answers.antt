use Rattle.std.proofs.Common.{rules, ◌≡◌, ◌<◌, map, ◌∙◌}
use Rattle.turn_lock.specs.Passes.{caller_of, numbers}
use Rattle.turn_lock.proofs.Dealing.{contains_number, mapped_each}
use Rattle.threads_tests.proofs.turn_lock_tests.list_of.Goals as goal

pub close-requires-clause-all : goal.close-requires-clause-all
close-requires-clause-all g c caller low = let dealt : map caller_of c.in_ok-lock.passes.items ≡ numbers 0 c.args.callers = search rules in
    let low' : caller < c.args.callers = search rules in
    contains_number _ c.args.callers caller (mapped_each caller_of _ _ (search rules) (search rules) ∙ dealt) low'
