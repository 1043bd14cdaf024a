use Rattle.count_rule.proofs.state_seat.StateSeatRefWords.places.Goals as goal

pub returns-clause-unmade : goal.returns-clause-unmade
returns-clause-unmade c = rw (← c.self.view_is) c.self.invariant.seated.kept.unmade
