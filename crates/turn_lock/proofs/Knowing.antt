-- A caller that knows more, and then more again.
use Rattle.std.proofs.Common.{refl, ◌∙◌}
use Rattle.turn_lock.specs.declared.view.Sight.{Sight}
use Rattle.turn_lock.specs.Steps.{KnowsMore}
use Rattle.turn_lock.proofs.Logs.{begins_itself, begins_on}

module _ {B : Type 0} where
  pub knows_itself : (a : Sight B) → KnowsMore a a
  knows_itself a = record { base = refl; passes = refl; caller = refl; known = begins_itself a.known; own = refl }

  pub knows_on : (a b c : Sight B) → KnowsMore a b → KnowsMore b c → KnowsMore a c
  knows_on a b c k l = record {
    base = l.base ∙ k.base;
    passes = l.passes ∙ k.passes;
    caller = l.caller ∙ k.caller;
    known = begins_on a.known b.known c.known k.known l.known;
    own = l.own ∙ k.own;
  }
