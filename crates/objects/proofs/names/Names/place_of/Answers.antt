use Rattle.std.proofs.Common.{◌<◌, ◌+◌, ◌-◌, ◌/◌, length, sym, ◌∙◌, ap, arith}
use Rattle.std.proofs.lemmas.List.{get_or_read}
use Rattle.objects.specs.Names.{Key, key_order, key_of}
use Rattle.objects.proofs.Order.{listed_made, row_read, less_before, greater_behind}
use Rattle.objects.proofs.names.Names.place_of.Goals as goal

pub bounds-rows-index : goal.bounds-rows-index
bounds-rows-index c =
    let middle = c.loop-low.low + (c.loop-low.high - c.loop-low.low) / 2 in
    let inside : middle < length c.args.self.now = omega arith in
    let number = rw c.self.view_is at c.index.ensures in
    rw (get_or_read c.args.self.now middle c.index.result.now inside number 0) (listed_made c.args.rows.now c.args.self.now middle c.requires inside)

pub order-requires : goal.order-requires
order-requires c =
    let middle = c.loop-low.low + (c.loop-low.high - c.loop-low.low) / 2 in
    let inside : middle < length c.args.self.now = omega arith in
    let number = rw c.self.view_is at c.index.ensures in
    let row = row_read c.args.rows.now c.args.self.now middle c.index.result.now c.index-rows-index.result c.requires inside number c.index-rows-index.is in
    rw row (c.requires.named middle inside)

pub loop-low-preserved-in-Less : goal.loop-low-preserved-in-Less
loop-low-preserved-in-Less c =
    let key : Key = record { kind = c.args.kind; name = c.args.name.now } in
    let middle = c.loop-low.low + (c.loop-low.high - c.loop-low.low) / 2 in
    let inside : middle < length c.args.self.now = omega arith in
    let number = rw c.self.view_is at c.index.ensures in
    let row = row_read c.args.rows.now c.args.self.now middle c.index.result.now c.index-rows-index.result c.requires inside number c.index-rows-index.is in
    let less = ap (λ r. key_order (key_of r) key) (sym row) ∙ sym c.order.ensures ∙ c.in-Less.is in
    record {
      ordered = omega arith;
      within = c.loop-low.invariant.within;
      before = less_before c.args.rows.now c.args.self.now key middle c.requires inside less;
      behind = c.loop-low.invariant.behind;
    }

pub loop-low-preserved : goal.loop-low-preserved
loop-low-preserved c =
    let key : Key = record { kind = c.args.kind; name = c.args.name.now } in
    let middle = c.loop-low.low + (c.loop-low.high - c.loop-low.low) / 2 in
    let inside : middle < length c.args.self.now = omega arith in
    let number = rw c.self.view_is at c.index.ensures in
    let row = row_read c.args.rows.now c.args.self.now middle c.index.result.now c.index-rows-index.result c.requires inside number c.index-rows-index.is in
    let greater = ap (λ r. key_order (key_of r) key) (sym row) ∙ sym c.order.ensures ∙ c.in-Greater.is in
    record {
      ordered = omega arith;
      within = omega arith;
      before = c.loop-low.invariant.before;
      behind = greater_behind c.args.rows.now c.args.self.now key middle c.requires greater;
    }
