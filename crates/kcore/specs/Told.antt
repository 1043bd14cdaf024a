-- What an entry tells of its action.
use Rattle.std.specs.Prelude.{◌≡◌}
use Rattle.entry_log.specs.declared.entry.Entry.{Entry}
use Rattle.machine.specs.declared.decision.Outcome.{Outcome}
use Rattle.machine.specs.History.{entry_of}

-- the outcome that an entry tells
abbrev pub told_in : Entry → Outcome
told_in e = record { step = e.step; effects = e.effects; answer = e.answer }

-- an entry tells something, and its place and its actor stay
abbrev pub IsTold : Entry → Entry → Type 0
IsTold old new = new ≡ entry_of old.place old.actor (told_in new)
