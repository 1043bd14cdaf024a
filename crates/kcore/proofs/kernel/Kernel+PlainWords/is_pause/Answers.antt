use Rattle.std.proofs.Common.{subst}
use Rattle.machine.specs.History.{IsIdle}
use Rattle.kcore.proofs.KernelGoes.{alone-stands}
use Rattle.kcore.proofs.kernel.Kernel+PlainWords.is_pause.Goals as goal

pub returns-in-Go-clause-idle : goal.returns-in-Go-clause-idle
returns-in-Go-clause-idle c =
    let k = c.self.inside in
    rw (← c.self.view_is) (λ idle suits.
    subst (IsIdle k.script) (alone-stands k.script k.history.items k.core k.out k.room _ c.self.invariant suits).state
    (c.self.invariant.rests idle))
