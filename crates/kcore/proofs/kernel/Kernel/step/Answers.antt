use Rattle.std.proofs.Common.{arith, false, subst, sym}
use Rattle.machine_safe.proofs.LegalSafety.{legal_safety}
use Rattle.machine_safe.proofs.ReadyHolders.{holders_ready}
use Rattle.kernel_tables.specs.Choosing.{HasRoom}
use Rattle.kcore.specs.Acting.{acting}
use Rattle.kcore.proofs.Alone.{none_out}
use Rattle.kcore.proofs.Goes.{may, runs}
use Rattle.kcore.proofs.KernelGoes.{alone-begins, alone-entry, alone-follows, alone-kernel, alone-mode, alone-stands, is-alone, place-left}
use Rattle.kcore.proofs.OutKernel.{may-alone}
use Rattle.kcore.proofs.kernel.Kernel.step.Goals as goal

pub go-requires-clause-runs : goal.go-requires-clause-runs
go-requires-clause-runs g c =
    let k = c.self.inside in
    let suits = rw (← c.self.view_is) at c.requires.mode in
    runs false k.script k.history.items k.core (alone-begins k.script k.history.items k.core k.out k.room _ c.self.invariant suits)

pub go-requires-clause-may : goal.go-requires-clause-may
go-requires-clause-may g c =
    let k = c.self.inside in
    let suits = rw (← c.self.view_is) at c.requires.mode in
    may-alone k.script k.history.items k.core k.core.notes (acting c.args.actor)
    (alone-begins k.script k.history.items k.core k.out k.room _ c.self.invariant suits)
    (let begins = alone-begins k.script k.history.items k.core k.out k.room _ c.self.invariant suits in
    let left = place-left false k.script k.history.items k.core.notes k.room begins.valid c.self.invariant.short c.self.invariant.places in
    subst (HasRoom k.core.notes) (sym begins.state) left)
    (alone-stands k.script k.history.items k.core k.out k.room _ c.self.invariant suits).notes

pub go-requires-clause-can : goal.go-requires-clause-can
go-requires-clause-can g c =
    let k = c.self.inside in
    let suits = rw (← c.self.view_is) at c.requires.mode in
    may false k.script k.history.items k.core
    (alone-begins k.script k.history.items k.core k.out k.room _ c.self.invariant suits) c.args.actor
    (rw (← c.self.view_is) at c.requires.can)

pub go-requires-clause-stays : goal.go-requires-clause-stays
go-requires-clause-stays g c =
    let k = c.self.inside in
    let suits = rw (← c.self.view_is) at c.requires.mode in
    none_out k.core.state c.args.actor (is-alone k.script k.history.items k.core k.out k.room _ c.self.invariant suits)

pub go-requires-clause-few : goal.go-requires-clause-few
go-requires-clause-few g c = let room = rw (← c.self.view_is) at c.requires.room in let few = c.self.invariant.few in omega arith

pub go-requires-clause-room : goal.go-requires-clause-room
go-requires-clause-room g c = let room = rw (← c.self.view_is) at c.requires.room in let fits = c.self.invariant.fits in omega arith

pub invariant_of-self : goal.invariant_of-self
invariant_of-self g c =
    let k = c.self.inside in
    let suits = rw (← c.self.view_is) at c.requires.mode in
    alone-kernel k.script k.history.items k.core k.out k.room _ c.self.invariant suits c.go.new.history.items
    c.go.new.core c.args.actor (rw (← c.self.view_is) at c.requires.can) c.go.ensures.went _ c.is_nobody-self-inside.ensures.nobody _
    c.go.ensures.capacity c.go.ensures.notes (rw (← c.self.view_is) at c.requires.room)

pub returns-clause-mode : goal.returns-clause-mode
returns-clause-mode g c =
    let k = c.self.inside in
    let suits = rw (← c.self.view_is) at c.requires.mode in
    alone-mode k.script k.history.items k.core k.out k.room _ c.self.invariant suits c.go.new.history.items
    c.go.new.core c.args.actor (rw (← c.self.view_is) at c.requires.can) c.go.ensures.went

pub returns-clause-entry : goal.returns-clause-entry
returns-clause-entry g c =
    let k = c.self.inside in
    let suits = rw (← c.self.view_is) at c.requires.mode in
    rw (← c.self.view_is) (alone-entry k.script k.history.items k.core k.out k.room _ c.self.invariant suits
    c.go.new.history.items c.go.new.core c.args.actor (rw (← c.self.view_is) at c.requires.can) c.go.ensures.went)

pub returns-clause-legal : goal.returns-clause-legal
returns-clause-legal g c =
    let k = c.self.inside in
    let suits = rw (← c.self.view_is) at c.requires.mode in
    (alone-follows k.script k.history.items k.core k.out k.room _ c.self.invariant suits c.go.new.history.items
    c.go.new.core c.args.actor (rw (← c.self.view_is) at c.requires.can) c.go.ensures.went).legal

pub returns-clause-safe : goal.returns-clause-safe
returns-clause-safe g c = legal_safety false c.self.inside.script c.go.new.history.items c.self.invariant.stands.valid (returns-clause-legal g c)

pub returns-clause-holders : goal.returns-clause-holders
returns-clause-holders g c = holders_ready false c.self.inside.script c.go.new.history.items c.self.invariant.stands.valid
