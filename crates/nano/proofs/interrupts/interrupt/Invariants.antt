use Rattle.std.proofs.Common.{◌≡◌, drop}
use Rattle.state_rows.specs.DeferredChanges.{after_items}
use Rattle.nano.proofs.interrupts.interrupt.Given as goal

abbrev pub invariant-loop-item : goal.invariant-loop-item
invariant-loop-item l = record {
  rest : after_items l.deferred (drop l.item-index l.items) ≡ after_items l.initial.deferred l.items;
  idfcs : l.deferred.idfcs ≡ l.initial.deferred.idfcs;
  places : l.deferred.places ≡ l.initial.deferred.places;
}
