use Rattle.machine_safe.proofs.LegalSafety.{legal_safety}
use Rattle.machine_safe.proofs.ReadyHolders.{holders_ready}
use Rattle.kcore.proofs.BothWays.{legal-in, same-mode}
use Rattle.kcore.proofs.kernel.Kernel.history.Goals as goal

pub returns-clause-mode : goal.returns-clause-mode
returns-clause-mode g c =
    let k = c.self.inside in
    rw (← c.self.view_is) (λ shared suits. same-mode k.core.state.mode.shared shared k.history.items suits)

pub returns-clause-legal : goal.returns-clause-legal
returns-clause-legal g c =
    let k = c.self.inside in
    rw (← c.self.view_is) (λ shared suits. legal-in k.script k.core.state.mode.shared shared k.history.items suits c.self.invariant.stands.legal)

pub returns-clause-safe : goal.returns-clause-safe
returns-clause-safe g c =
    let k = c.self.inside in
    rw (← c.self.view_is) (λ shared suits. legal_safety shared k.script k.history.items c.self.invariant.stands.valid
    (legal-in k.script k.core.state.mode.shared shared k.history.items suits c.self.invariant.stands.legal))

pub returns-clause-holders : goal.returns-clause-holders
returns-clause-holders g c =
    let k = c.self.inside in
    rw (← c.self.view_is) (λ shared suits. holders_ready shared k.script k.history.items c.self.invariant.stands.valid)
