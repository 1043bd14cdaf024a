use Rattle.std.proofs.Common.{refl}
use Rattle.kernel_tables.proofs.closings.pay.Goals as goal

pub pay_close-requires-clause-may : goal.pay_close-requires-clause-may
pay_close-requires-clause-may g c = (rw c.in-Close.is at c.requires.may) refl
