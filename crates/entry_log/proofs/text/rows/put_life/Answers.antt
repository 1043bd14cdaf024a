use Rattle.std.proofs.Common.{◌≡◌, Option, [], refl, append-nil}
use Rattle.entry_log.specs.FinalLine.{life_words}
use Rattle.entry_log.specs.Joined.{preceded}
use Rattle.sym_base.specs.declared.kind.Exit.{Exit}
use Rattle.sym_base.specs.declared.kind.Kind.{Kind}
use Rattle.sym_base.specs.declared.kind.Kind.TheVariants.{Thread}
use Rattle.entry_log.proofs.text.rows.put_life.Goals as goal

no_life : (kind : Kind) (exit : Option Exit) → (kind ≡ Thread → ⊥) → preceded 32 (life_words kind exit) ≡ []
unfolding life_words preceded
no_life Thread exit other = absurd (other refl)
no_life kind exit other = refl

pub returns-in_default-clause-text : goal.returns-in_default-clause-text
returns-in_default-clause-text c = rw (no_life _ _ c.in_default.not-Thread, append-nil) refl
