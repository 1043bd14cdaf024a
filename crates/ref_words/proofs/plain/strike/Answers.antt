use Rattle.std.proofs.Common.{not, rules}
use Rattle.std.proofs.lemmas.Fn.{filter_same}
use Rattle.ref_words.specs.Words.{same_slip}
use Rattle.ref_words.proofs.plain.strike.Goals as goal

pub returns-clause-items : goal.returns-clause-items
returns-clause-items c = filter_same _ (λ other. not (same_slip other c.args.slip)) _ (λ x b f' k. search rules) _ _ c.retain.ensures.filtered
