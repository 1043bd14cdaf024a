use Rattle.std.proofs.Common.{rules, ◌≡◌, [], ◌∷◌, sym, ap, subst}
use Rattle.std.specs.Prelude.{Some}
use Rattle.atomic_table.specs.Table.{opening}
use Rattle.turn_lock.specs.declared.view.View.TheVariants.{Free}
use Rattle.turn_lock.specs.Rule.{Kept}
use Rattle.turn_lock.specs.Views.{newcomers}
use Rattle.turn_lock.proofs.Sharing.{opens}
use Rattle.turn_lock.proofs.turns.Turns.new.Goals as goal

pub new-requires : goal.new-requires
new-requires g c = let base = g.V.History.base c.of.result.value in let items : c.push.new.self.items ≡ Some c.args.value ∷ [] = search rules in
    subst (λ xs. Kept g.V.History.entries g.V.History.base base c.args.passes
    (opening (0 ∷ 0 ∷ []) xs (Free (newcomers base c.args.passes 0 c.args.passes)))) (sym items)
    (opens g.V.History.entries g.V.History.base base c.args.passes c.args.value (ap g.V.History.base (sym c.of.ensures)) c.requires.empty c.requires.few)
