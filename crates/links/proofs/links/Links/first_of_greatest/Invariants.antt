use Rattle.std.proofs.Common.{◌≡◌, ◌<◌, ◌+◌, get_or, drop}
use Rattle.std.specs.Prelude.{Some, slice_get}
use Rattle.sym_base.specs.Greatest.{unless_greater, first_of_greatest}
use Rattle.links.specs.Linked.{list_at, IsLinked}
use Rattle.links.proofs.links.Links.first_of_greatest.Given as goal

abbrev pub invariant-loop-place : goal.invariant-loop-place
invariant-loop-place l = record {
  at : slice_get (list_at l.self l.list) l.place ≡ Some l.node;
  linked : IsLinked l.self l.best;
  node_below : l.node < l.self.nodes;
  below : l.best < l.self.nodes;
  rest : first_of_greatest (λ node. get_or l.weights node 0) (list_at l.self l.list)
      ≡ unless_greater (λ node. get_or l.weights node 0) l.best
      (first_of_greatest (λ node. get_or l.weights node 0) (drop (l.place + 1) (list_at l.self l.list)));
}
