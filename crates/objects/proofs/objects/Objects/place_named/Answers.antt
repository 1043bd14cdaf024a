use Rattle.std.specs.Prelude.{Some, slice_index}
use Rattle.objects.proofs.Keeping.{named_alone}
use Rattle.objects.proofs.Finding.{found_position, gap_position}
use Rattle.objects.proofs.objects.Objects.place_named.Goals as goal

pub returns-in-Ok-clause-place : goal.returns-in-Ok-clause-place
returns-in-Ok-clause-place g c =
    let found = rw c.deref.ensures.value at c.in-Ok.ensures in
    rw (← c.self.view_is, c.number_at.ensures)
    (found_position c.self.inside.rows.items _ _ _ _ _ c.self.inside.names c.args.kind
    c.args.name.now c.in-Ok.place c.self.invariant.0 c.self.invariant.3 c.requires found.0 found.1)

pub returns-in-Ok-clause-alone : goal.returns-in-Ok-clause-alone
returns-in-Ok-clause-alone g c =
    let found = rw c.deref.ensures.value at c.in-Ok.ensures in
    let is = found_position c.self.inside.rows.items _ _ _ _ _ c.self.inside.names c.args.kind
    c.args.name.now c.in-Ok.place c.self.invariant.0 c.self.invariant.3 c.requires found.0 found.1 in
    rw (← c.self.view_is, c.number_at.ensures)
    (named_alone _ _ _ _ _ _ c.self.invariant.0 c.args.kind c.args.name.now
    (Some (slice_index c.self.inside.names c.in-Ok.place)) c.requires is)

pub returns-in-Err-clause-place : goal.returns-in-Err-clause-place
returns-in-Err-clause-place g c =
    let gap = rw c.deref.ensures.value at c.in-Err.ensures in
    rw (← c.self.view_is) (gap_position c.self.inside.rows.items c.self.inside.names c.args.kind c.args.name.now
    c.in-Err.field-0 c.self.invariant.3 c.requires gap)
