use Rattle.std.proofs.Common.{false, arith, [], ap, refl}
use Rattle.machine.specs.Boot.{uses_again}
use Rattle.machine_safe.proofs.LegalSafety.{legal_safety}
use Rattle.machine_safe.proofs.ReadyHolders.{holders_ready}
use Rattle.table_moves.specs.Notes.{Notes}
use Rattle.kcore.proofs.BootPlaces.{each, enough}
use Rattle.kcore.proofs.BothWays.{boot-kernel}
use Rattle.kcore.proofs.kernel.Kernel.boot.Goals as goal

pub invariant_of-result : goal.invariant_of-result
invariant_of-result g c =
    let core = c.in_ok-core.ensures in
    rw c.in_ok-history.ensures.items (boot-kernel c.args.script c.in_ok-core.core c.args.room _ _ _ c.requires.places c.requires.valid
    c.requires.room (let room = c.in_ok-history.ensures.exact in omega arith) core.state core.queues core.notes)

pub boot-requires-clause-places : goal.boot-requires-clause-places
boot-requires-clause-places g c = rw c.requires.places (enough (uses_again c.args.script.version) c.args.room)

pub boot-requires-clause-numbers : goal.boot-requires-clause-numbers
boot-requires-clause-numbers g c = rw c.requires.places (each (uses_again c.args.script.version) c.args.room)

pub returns-clause-kernel : goal.returns-clause-kernel
returns-clause-kernel g c = rw c.in_ok-history.ensures.items refl

pub returns-clause-none_out : goal.returns-clause-none_out
returns-clause-none_out g c = ap (λ (n : Notes). n.out) c.in_ok-core.ensures.notes

pub returns-clause-unmade : goal.returns-clause-unmade
returns-clause-unmade g c = ap (λ (n : Notes). n.made) c.in_ok-core.ensures.notes

pub returns-clause-identity : goal.returns-clause-identity
returns-clause-identity g c = ap (λ (n : Notes). n.identity) c.in_ok-core.ensures.notes

pub returns-clause-legal : goal.returns-clause-legal
returns-clause-legal g c = rw c.in_ok-history.ensures.items tt

pub returns-clause-safe : goal.returns-clause-safe
returns-clause-safe g c = rw c.in_ok-history.ensures.items (legal_safety false c.args.script [] c.requires.valid tt)

pub returns-clause-holders : goal.returns-clause-holders
returns-clause-holders g c = rw c.in_ok-history.ensures.items (holders_ready false c.args.script [] c.requires.valid)
