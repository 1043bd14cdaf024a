use Rattle.std.proofs.Common.{arith}
use Rattle.machine_laws.proofs.ValidSlots.{valid_slots_few}
use Rattle.kernel_tests.proofs.alone.alone_by.Goals as goal

pub places_for-requires : goal.places_for-requires
places_for-requires g c = rw (c.len-room.ensures, c.in_ok-slots.ensures) (omega (arith, valid_slots_few c.args.script c.requires))

pub boot-requires-clause-room : goal.boot-requires-clause-room
boot-requires-clause-room g c = rw (c.len-room.ensures, c.in_ok-slots.ensures) (omega (arith, valid_slots_few c.args.script c.requires))
