use Rattle.std.proofs.Common.{refl}
use Rattle.machine.proofs.boot_state.synchronization_of.Goals as goal

pub returns : goal.returns
returns c = rw (c.in_ok-nano.ensures, c.in_ok-requests.ensures, c.in_ok-locks.ensures, c.in_ok-mutexes.ensures, c.in_ok-logons.ensures) refl
