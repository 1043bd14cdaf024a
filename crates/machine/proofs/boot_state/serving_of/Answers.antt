use Rattle.std.proofs.Common.{refl}
use Rattle.machine.proofs.boot_state.serving_of.Goals as goal

pub returns : goal.returns
returns c = rw (c.in_ok-servers.ensures, c.in_ok-owned.ensures, c.no_messages-messages.ensures) refl
