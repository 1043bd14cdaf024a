-- What holders get and give up goes through, and there are places for what a thread owes then.
use Rattle.std.proofs.Common.{◌≡◌, ℕ, ◌+◌, ◌<◌, ◌≤◌, List, [], ◌∷◌, length, subst, arith, Some}
use Rattle.sym_base.specs.declared.number.ObjNo.{ObjNo}
use Rattle.script_types.specs.declared.script.Script.{Script}
use Rattle.entry_log.specs.declared.effect.Holder.{Holder}
use Rattle.entry_log.specs.declared.effect.Holder.TheVariants.{InProcess, InThread, Temp, Own, Link, Message, Kernel}
use Rattle.state_rows.specs.declared.duty.Owed.{Owed}
use Rattle.state_rows.specs.declared.duty.Owed.TheVariants.{Close, Sweep}
use Rattle.state_rows.specs.ServerRows.{server_at}
use Rattle.state_rows.specs.declared.servers.ServerRow.{ServerRow}
use Rattle.machine.specs.declared.state.State.{State}
use Rattle.machine.specs.Fits.{Holds, IsFree, MayMakeWith}
use Rattle.machine.specs.References.{total}
use Rattle.machine.specs.Rows.{owed_of}
use Rattle.machine.specs.WellFormed.{AreRows, weight}
use Rattle.move_laws.proofs.Lists.Totals.{inside}
use Rattle.kernel_tables.specs.Moved.{MayGain, MayLose, TakesLeast}
use Rattle.kernel_tables.specs.Referred.{HasPlaces}

-- each duty weighs something, so those of a thread are few
weighs : (what : Owed) → 1 ≤ weight what
weighs (Sweep o) = omega arith
weighs (Close (InProcess p i) o) = omega arith
weighs (Close (InThread t i) o) = omega arith
weighs (Close (Temp t) o) = omega arith
weighs (Close (Own t) o) = omega arith
weighs (Close (Link x) o) = omega arith
weighs (Close (Message m) o) = omega arith
weighs (Close Kernel o) = omega arith

few_duties : (owed : List Owed) → length owed ≤ total weight owed
few_duties [] = omega arith
few_duties (what ∷ rest) = omega (arith, weighs what, few_duties rest)

light : (duties weights : ℕ) → duties ≤ weights → weights ≤ 12 → duties + 2 ≤ 16
light duties weights few weigh = omega arith

pub few_places : (script : Script) (S : State) (t : ObjNo) → AreRows script S → HasPlaces 2 S t
few_places script S t rows = light (length (owed_of S t)) _ (few_duties (owed_of S t)) (rows.references.duties.few t.0)

one_of_two : (duties : ℕ) → duties + 2 ≤ 16 → duties + 1 ≤ 16
one_of_two duties two = omega arith

pub one_place : (script : Script) (S : State) (t : ObjNo) → AreRows script S → HasPlaces 1 S t
one_place script S t rows = one_of_two (length (owed_of S t)) (few_places script S t rows)

-- a call that gets a reference uses nothing yet
pub may_gain : (S : State) (h : Holder) → IsFree S h → MayGain S h
may_gain S (InProcess p i) free = tt
may_gain S (InThread t i) free = tt
may_gain S (Temp t) free = record { row = free.row; is = free.is; unused = free.unused }
may_gain S (Own t) free = tt
may_gain S (Link x) free = tt
may_gain S (Message m) free = tt
may_gain S Kernel free = tt

-- a handle that comes gets the least free place
pub takes_least : (S : State) (h : Holder) → IsFree S h → TakesLeast S.references.handles h
takes_least S (InProcess p i) free = (free.1.inside, free.1.least)
takes_least S (InThread t i) free = (free.1.inside, free.1.least)
takes_least S (Temp t) free = tt
takes_least S (Own t) free = tt
takes_least S (Link x) free = tt
takes_least S (Message m) free = tt
takes_least S Kernel free = tt

-- and so they do with an object that is made
pub may_make : (S : State) (h : Holder) → MayMakeWith S h → MayGain S h
may_make S (Own t) free = tt
may_make S (InProcess p i) free = may_gain S (InProcess p i) free
may_make S (InThread t i) free = may_gain S (InThread t i) free
may_make S (Temp t) free = may_gain S (Temp t) free
may_make S (Link x) free = tt
may_make S (Message m) free = tt
may_make S Kernel free = tt

pub makes_least : (S : State) (h : Holder) → MayMakeWith S h → TakesLeast S.references.handles h
makes_least S (Own t) free = tt
makes_least S (InProcess p i) free = takes_least S (InProcess p i) free
makes_least S (InThread t i) free = takes_least S (InThread t i) free
makes_least S (Temp t) free = tt
makes_least S (Link x) free = tt
makes_least S (Message m) free = tt
makes_least S Kernel free = tt

-- what an owner gives up is a server, whose number is that of an object
small_server : (script : Script) (S : State) (o : ObjNo) (server : ServerRow) → AreRows script S → server_at S.serving.servers o ≡ Some server → o.0 < 4096
small_server script S o server rows is =
    subst (λ (n : ℕ). o.0 < n) rows.serving.servers.servers_sized (inside S.serving.servers.servers o.0 server is)

pub may_lose : (script : Script) (S : State) (h : Holder) (o : ObjNo) → AreRows script S → Holds S h o → MayLose h o
may_lose script S (Own t) o rows holds = let owns = rows.serving.servers.owners t o holds in small_server script S o owns.row rows owns.is
may_lose script S (InProcess p i) o rows holds = tt
may_lose script S (InThread t i) o rows holds = tt
may_lose script S (Temp t) o rows holds = tt
may_lose script S (Link x) o rows holds = tt
may_lose script S (Message m) o rows holds = tt
may_lose script S Kernel o rows holds = tt
