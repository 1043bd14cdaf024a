-- What a call that decides gives: a decision in its place, and a body where one is to run in place of it.
use Rattle.std.specs.Prelude.{Option, Some, None}
use Rattle.machine.specs.declared.decision.Decision.{Decision}
use Rattle.machine.specs.declared.plan.Body.{Body}
use Rattle.machine.specs.declared.plan.Plan.{Plan}
use Rattle.machine.specs.declared.plan.Plan.TheVariants.{Decided, Runs}

-- the plan of both: the body where there is one, else the decision
abbrev pub planned : Decision → Option Body → Plan
planned decision None = Decided decision
planned decision (Some body) = Runs body
