use Rattle.std.proofs.Common.{◌≡◌, refl, sym, ◌∙◌, arith}
use Rattle.std.specs.Prelude.{Some, None}
use Rattle.std.proofs.lemmas.List.{get_or_past, get_or_read}
use Rattle.objects.specs.Rows.{row_at}
use Rattle.objects.proofs.objects.Objects.place_at.Goals as goal

pub returns-then-o-len : goal.returns-then-o-len
returns-then-o-len g c = rw (← c.self.view_is, get_or_past c.self.inside.rows.items c.args.o.0 None (omega arith)) refl

pub returns-in-Some : goal.returns-in-Some
returns-in-Some g c =
    let row : row_at c.self.inside.rows.items c.args.o.0 ≡ Some c.in-Some.row =
    sym (get_or_read c.self.inside.rows.items c.args.o.0 c.index.result.now (omega arith) c.index.ensures None) ∙ c.in-Some.is in
    let low = c.self.invariant.0.below c.args.o.0 c.in-Some.row row in
    rw (← c.self.view_is, row) (omega (arith, low, c.self.invariant.0.few))

pub returns-in-None : goal.returns-in-None
returns-in-None g c =
    let row : row_at c.self.inside.rows.items c.args.o.0 ≡ None =
    sym (get_or_read c.self.inside.rows.items c.args.o.0 c.index.result.now (omega arith) c.index.ensures None) ∙ c.in-None.is in
    rw (← c.self.view_is, row) refl
