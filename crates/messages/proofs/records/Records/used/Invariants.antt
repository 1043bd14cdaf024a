use Rattle.std.proofs.Common.{◌≡◌, take, count_by}
use Rattle.state_rows.specs.MessageRows.{takes_slot}
use Rattle.messages.specs.Kept.{stored_at}
use Rattle.messages.proofs.records.Records.used.Given as goal

-- those among the keys passed so far are counted
abbrev pub invariant-loop-key : goal.invariant-loop-key
invariant-loop-key l =
    l.used ≡ count_by (λ key. takes_slot l.s l.slots (stored_at l.self-inside.slab key).message) (take l.key-index l.self-inside.keys.items)
