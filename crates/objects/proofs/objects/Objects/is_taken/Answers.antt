use Rattle.objects.proofs.Finding.{told_taken}
use Rattle.objects.proofs.objects.Objects.is_taken.Goals as goal

pub returns : goal.returns
returns g c =
    let place = rw c.deref.ensures.value at c.new_place.ensures in
    rw (← c.self.view_is) (told_taken c.self.inside.rows.items c.self.inside.names c.args.kind c.args.name.now
    c.new_place.result c.is_none.result c.is_none.ensures place)
