use Rattle.std.proofs.Common.{◌≡◌, ◌-◌, ℕ, ◌<◌, ◌≤◌, length}
use Rattle.std.specs.declared.cmp.Ordering.TheVariants.{Less, Greater}
use Rattle.objects.specs.Names.{key_order, key_at}
use Rattle.objects.proofs.names.Names.place_of.Given as goal

abbrev pub invariant-loop-low : goal.invariant-loop-low
invariant-loop-low l = record {
  ordered : l.low ≤ l.high;
  within : l.high ≤ length l.self;
  before : (i : ℕ) → i < l.low → key_order (key_at l.rows l.self i) (record { kind = l.kind; name = l.name }) ≡ Less;
  behind : (i : ℕ) → l.high ≤ i → i < length l.self → key_order (key_at l.rows l.self i) (record { kind = l.kind; name = l.name }) ≡ Greater;
}

abbrev pub decreases-loop-low : goal.decreases-loop-low
decreases-loop-low l = l.high - l.low
