use Rattle.std.proofs.Common.{◌≡◌, ◌<◌, sym, ◌∙◌, length, arith}
use Rattle.std.specs.Prelude.{slice_index}
use Rattle.std.proofs.lemmas.Cmp.{tied_itself}
use Rattle.std.proofs.lemmas.List.{get_or_read}
use Rattle.objects.specs.Rows.{row_at}
use Rattle.objects.specs.Names.{key_of}
use Rattle.objects.proofs.Order.{key_order_total}
use Rattle.objects.proofs.names.Names.place_listed.Goals as goal

pub returns-then-index-number : goal.returns-then-index-number
returns-then-index-number c =
    let place = c.self.inside.last in
    let listed : place < length c.self.inside.numbers.items = omega arith in
    let inside = rw c.self.view_is at listed in
    let number = rw c.self.view_is at c.index.ensures in
    let same : c.index.result.now ≡ c.args.number = omega arith in
    let here : slice_index c.args.self.now place ≡ c.args.number =
    sym (get_or_read c.args.self.now place c.index.result.now inside number 0) ∙ same in
    (inside, rw here (tied_itself key_order_total (key_of (row_at c.args.rows.now c.args.number))))
