use Rattle.std.proofs.Common.{ℕ, List, take, ap, ◌∙◌}
use Rattle.std.specs.Ordering.{nat_cmp}
use Rattle.std.specs.Int.{w128, from_be_bytes}
use Rattle.std.specs.Cmp.Lexicographic.{slice_cmp}
use Rattle.sym_base.proofs.NameOrder.{name_order}
use Rattle.sym_base.proofs.name.Name.order.Goals as goal

pub returns : goal.returns
returns c =
    c.cmp.ensures
    ∙ ap (λ n. nat_cmp n c.from_be_bytes-2.result) c.from_be_bytes.ensures
    ∙ ap (λ n. nat_cmp (from_be_bytes w128 c.self.inside.bytes) n) c.from_be_bytes-2.ensures
    ∙ name_order c.self.inside.bytes c.other.inside.bytes c.self.inside.len c.other.inside.len c.self.invariant c.other.invariant
    ∙ ap (λ (l : List ℕ). slice_cmp nat_cmp l (take c.other.inside.len c.other.inside.bytes)) c.self.view_is
    ∙ ap (λ (l : List ℕ). slice_cmp nat_cmp c.args.self.now l) c.other.view_is
