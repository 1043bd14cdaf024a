-- When a move in the table of threads that synchronize can be made.
use Rattle.std.specs.Prelude.{◌≡◌, ◌<◌, length, None}
use Rattle.std.specs.Option.{ForSome}
use Rattle.state_rows.specs.declared.nano.NanoRows.{NanoRows}
use Rattle.state_rows.specs.Nano.{held_by}
use Rattle.machine.specs.declared.nano_move.NanoMove.{NanoMove}
use Rattle.machine.specs.declared.nano_move.NanoMove.TheVariants.{Take, Give, Want}
use Rattle.machine.specs.NanoMoves.{nano_thread}

-- the thread and the fast mutex are the table's, and who takes one holds none
abbrev pub CanNano : NanoMove → NanoRows → Type 0
CanNano (Take t f) r = (t.0 < length r.signals) × (f < length r.holders) × (held_by r t ≡ None)
CanNano (Give t f) r = (t.0 < length r.signals) × (f < length r.holders)
CanNano (Want t f) r = (t.0 < length r.signals) × ForSome f (λ wanted. wanted < length r.holders)
CanNano m r = (nano_thread m).0 < length r.signals
