-- What a caller's turn is: when it came, the caller learned the log so far, and then did something to it.
use Rattle.std.specs.Prelude.{◌≡◌, List, ◌++◌}
use Rattle.entry_log.specs.declared.entry.Entry.{Entry}
use Rattle.turn_lock.specs.declared.view.Logged.{Logged}
use Rattle.turn_lock.specs.declared.view.Sight.{Sight}
use Rattle.turn_lock.specs.Log.{entries_of, made_by, under, Begins}

-- The log, when the turn came, begins with what the caller knew, and has no entry of its own beyond that. What the caller knows then is that
-- log, and behind it what its turn gained, under its number. `Did` says what the turn did to the entries.
pub record Turned {B : Type 0} (old new : Sight B) (Did : List Entry → List Entry → Type 0) : Type 0 where
  pub log : List Logged
  pub begins : Begins old.known log
  pub own : made_by old.caller log ≡ made_by old.caller old.known
  pub gain : List Entry
  pub longer : new.known ≡ log ++ under old.caller gain
  pub did : Did (entries_of log) (entries_of new.known)
