-- When a move in the lists of logons can be made.
use Rattle.std.specs.Prelude.{◌≡◌, ℕ, ◌<◌, ◌≤◌, List, length}
use Rattle.sym_base.specs.declared.limits.TheConstants.Limits.{BOOT_OBJECTS}
use Rattle.sym_base.specs.declared.number.ObjNo.{ObjNo}
use Rattle.cleanup.specs.Lists.{HasSome, is_logon}
use Rattle.machine.specs.declared.logon_move.LogonMove.{LogonMove}
use Rattle.machine.specs.declared.logon_move.LogonMove.TheVariants.{Add, Remove, Drop}
use Rattle.machine.specs.LogonMoves.{logons_on}
use Rattle.machine.specs.References.{total}
use Rattle.machine.specs.WellFormed.{logon_names, times_logged}

-- Threads are those of so many lists, and the status is one of sixteen; one that is logged on with isn't logged on with already, and all that
-- go are of the sixteen.
abbrev pub CanLogon : LogonMove → ℕ → List (List (ObjNo × ℕ)) → Type 0
CanLogon (Add t u s) threads logons = (t.0 < threads) × (u.0 < threads) × (s < 16) × (HasSome (is_logon u s) logons → ⊥)
CanLogon (Remove t u s) threads logons = (t.0 < threads) × (u.0 < threads) × (s < 16)
CanLogon (Drop u) threads logons = (u.0 < threads) × (threads ≤ BOOT_OBJECTS) × (length logons ≡ threads) × ((s : ℕ) → 0 < times_logged logons u s → s < 16)

-- The same where all logons on one thread go that another made.
abbrev pub CanDrop : ObjNo → ObjNo → ℕ → List (List (ObjNo × ℕ)) → Type 0
CanDrop t u threads logons = (t.0 < threads) × (u.0 < threads) × (t.0 < length logons) × ((s : ℕ) → 0 < total (logon_names u s) (logons_on logons t) → s < 16)
