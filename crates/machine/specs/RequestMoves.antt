-- Moves in the rows of requests: what each changes, and what it tells.
use Rattle.std.specs.Prelude.{List, [], ◌∷◌}
use Rattle.entry_log.specs.declared.effect.Effect.{Effect}
use Rattle.entry_log.specs.declared.effect.Effect.TheVariants as effect
use Rattle.entry_log.specs.declared.effect.StatusNo.TheVariants.{Async, Sync}
use Rattle.state_rows.specs.declared.requests.RequestRows.{RequestRows}
use Rattle.state_rows.specs.RequestChanges.{after_begin, after_drop, after_finish, after_set_pending, after_signal, after_take, after_reply}
use Rattle.machine.specs.declared.request_move.RequestMove.{RequestMove}
use Rattle.machine.specs.declared.request_move.RequestMove.TheVariants.{Begin, Complete, SetPending, Signal, DropAll, TakeSignal, Reply}

-- the rows after a move
abbrev pub request_moved : RequestMove → RequestRows → RequestRows
request_moved (Begin d t s) r = after_begin (after_set_pending r t s) d t s
request_moved (Complete d t s code) r = after_signal (after_finish r d) t s code
request_moved (SetPending t s) r = after_set_pending r t s
request_moved (Signal t s code) r = after_signal r t s code
request_moved (DropAll t) r = after_drop r t
request_moved (TakeSignal t) r = after_take r t
request_moved (Reply t code) r = after_reply r t code

-- what it tells: which status of whom got which code
abbrev pub request_told : RequestMove → List Effect
request_told (Complete d t s code) = effect.Signal t (Async s) code ∷ []
request_told (Signal t s code) = effect.Signal t (Async s) code ∷ []
request_told (Reply t code) = effect.Signal t Sync code ∷ []
request_told _ = []
