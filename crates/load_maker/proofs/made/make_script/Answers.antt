use Rattle.std.proofs.Common.{refl, sym, subst, ◌∙◌}
use Rattle.load_maker.proofs.Valid.{made_by, made_well_formed}
use Rattle.load_maker.proofs.made.make_script.Goals as goal
use Rattle.script_types.specs.Source.{IsWellFormed}

pub returns-clause-made : goal.returns-clause-made
returns-clause-made c =
    made_by c.args.seed c.args.size _ refl refl refl (c.new-2.ensures ∙ c.new.ensures.items)
    (c.new-4.ensures ∙ c.new-3.ensures.items) (c.new-6.ensures ∙ c.new-5.ensures.items)
    (c.new-8.ensures ∙ c.new-7.ensures.items) (c.new-9.ensures ∙ c.in_ok-processes.ensures)
    (c.new-10.ensures ∙ c.in_ok-threads.ensures)
    (c.new-11.ensures ∙ c.in_ok-slots.ensures.items_if_clones_equal (λ y e. e))

pub returns-clause-well_formed : goal.returns-clause-well_formed
returns-clause-well_formed c = subst IsWellFormed (sym (returns-clause-made c)) (made_well_formed c.args.seed c.args.size c.requires.few)
