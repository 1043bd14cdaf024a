use Rattle.std.proofs.Common.{arith}
use Rattle.state_rows.specs.MessageRows.{most_messages}
use Rattle.messages.proofs.Storing.{kept_none}
use Rattle.messages.proofs.records.Records.new.Goals as goal

pub invariant_of-result : goal.invariant_of-result
unfolding most_messages
invariant_of-result c = (
  rw (c.in_ok-numbers.ensures.items, c.in_ok-keys.ensures.items) (kept_none c.in_ok-slab.slab c.in_ok-slab.ensures.empty (omega arith)),
  c.in_ok-numbers.ensures.capacity,
  c.in_ok-keys.ensures.capacity,
  c.in_ok-slab.ensures.capacity,
)
