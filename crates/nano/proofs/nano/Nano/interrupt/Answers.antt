use Rattle.std.proofs.Common.{sym, ap, ◌∙◌}
use Rattle.state_rows.specs.DeferredChanges.{after_items}
use Rattle.nano.proofs.Known.{items_found}
use Rattle.nano.proofs.nano.Nano.interrupt.Goals as goal

pub interrupt-requires : goal.interrupt-requires
interrupt-requires c =
    let found = rw c.as_slice-interrupts.ensures at (sym c.place_of.ensures ∙ c.in-Some.is) in
    let same = items_found c.args.self.now.interrupts c.args.k c.in-Some.place c.index-interrupts-place.result found in
    let listed = rw c.as_slice-interrupts.ensures at c.as_slice.ensures in
    rw (listed ∙ sym same) c.requires

pub returns-in-Some-clause-deferred : goal.returns-in-Some-clause-deferred
returns-in-Some-clause-deferred c =
    let found = rw c.as_slice-interrupts.ensures at (sym c.place_of.ensures ∙ c.in-Some.is) in
    let same = items_found c.args.self.now.interrupts c.args.k c.in-Some.place c.index-interrupts-place.result found in
    let listed = rw c.as_slice-interrupts.ensures at c.as_slice.ensures in
    c.interrupt.ensures ∙ ap (after_items c.args.self.now.deferred) (listed ∙ sym same)
