use Rattle.std.proofs.Common.{◌∙◌}
use Rattle.kcore.proofs.ActionsDone.{was-made}
use Rattle.kcore.proofs.plans.carry_out.Goals as goal

pub finish-requires : goal.finish-requires
finish-requires g c = record { own = rw c.make-own.ensures.made.decided c.make-own.ensures.own }

pub returns-clause-does : goal.returns-clause-does
returns-clause-does g c =
    let old = c.args.core.now in
    c.finish.ensures.does old.decision old
    (was-made c.args.script.now c.args.thread old.decision old c.make-own.new.self c.make-own.new.effects c.make-own.ensures.made)

pub returns-clause-notes : goal.returns-clause-notes
returns-clause-notes g c = c.finish.ensures.notes ∙ c.make-own.ensures.made.notes
