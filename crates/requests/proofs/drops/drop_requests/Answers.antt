use Rattle.std.proofs.Common.{◌<◌, length, get_or, arith}
use Rattle.std.specs.Prelude.{None}
use Rattle.std.proofs.lemmas.List.{get_or_default}
use Rattle.std.proofs.lemmas.List.Edits.{map_over_more}
use Rattle.state_rows.specs.RequestChanges.{without}
use Rattle.requests.proofs.drops.drop_requests.Goals as goal

pub loop-slot-preserved : goal.loop-slot-preserved
loop-slot-preserved c =
    let within : c.loop-slot.slot-index < length c.loop-slot.devices = omega arith in
    let slot = get_or c.loop-slot.devices c.loop-slot.slot-index None in
    rw c.drop_request.ensures (map_over_more
    (without c.args.t) c.args.devices.now c.loop-slot.devices c.loop-slot.slot-index slot c.loop-slot-test.true
    c.loop-slot.invariant (get_or_default c.loop-slot.devices c.loop-slot.slot-index None slot within))
