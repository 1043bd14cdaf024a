-- The first of what a doomed thread has, of the first of each sort: its mutexes, what it has of its closing servers, what its call
-- uses, handles, and the logons on it.
use Rattle.std.specs.Prelude.{ℕ, Option, Some, None}
use Rattle.sym_base.specs.declared.number.ObjNo.{ObjNo}
use Rattle.machine.specs.declared.holding.Holding.{Holding}
use Rattle.machine.specs.declared.holding.Holding.TheVariants.{Mutex, Use, Logon}

abbrev pub first_of : Option ObjNo → Option Holding → Option ObjNo → Option Holding → Option (ObjNo × ℕ) → Option Holding
first_of (Some mutex) work used handle logon = Some (Mutex mutex)
first_of None (Some work) used handle logon = Some work
first_of None None (Some used) handle logon = Some (Use used)
first_of None None None (Some handle) logon = Some handle
first_of None None None None (Some logon) = Some (Logon logon.0 logon.1)
first_of None None None None None = None
