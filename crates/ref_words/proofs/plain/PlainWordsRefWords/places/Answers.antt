use Rattle.ref_words.proofs.plain.PlainWordsRefWords.places.Goals as goal

pub returns-clause-unmade : goal.returns-clause-unmade
returns-clause-unmade c = rw (← c.self.view_is) c.self.invariant.0.unmade
