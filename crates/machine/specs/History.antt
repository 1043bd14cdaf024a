-- Histories: each entry is what its actor does in the state before it.
use Rattle.std.specs.Prelude.{◌≡◌, ℕ, ◌+◌, ◌&&◌, Bool, true, false, IsTrue, is_some, List, [], ◌∷◌, None}
use Rattle.sym_base.specs.declared.number.ObjNo.{ObjNo}
use Rattle.script_types.specs.declared.script.Script.{Script}
use Rattle.entry_log.specs.declared.effect.Effect.{Effect}
use Rattle.entry_log.specs.declared.effect.Effect.TheVariants.{Dead}
use Rattle.entry_log.specs.declared.entry.Actor.{Actor}
use Rattle.entry_log.specs.declared.entry.Actor.TheVariants.{Thread, Irq, Idfc, Tick, Idle}
use Rattle.entry_log.specs.declared.entry.Entry.{Entry}
use Rattle.state_rows.specs.Deferred.{next_immediate}
use Rattle.machine.specs.declared.decision.Outcome.{Outcome}
use Rattle.machine.specs.declared.state.State.{State}
use Rattle.machine.specs.Slots.{declares_interrupt}
use Rattle.machine.specs.Task.{is_able, may_act}
use Rattle.machine.specs.Transition.{Transition, act, idle}
use Rattle.machine.specs.Tick.{tick}
use Rattle.machine.specs.Interrupts.{immediate, interrupt}
use Rattle.machine.specs.Boot.{boot_in}

-- what an actor does
abbrev pub transition : Script → State → Actor → Transition
transition script S (Thread t) = act script S t
transition script S (Irq k) = interrupt script S k
transition script S Idfc = immediate script S
transition script S Tick = tick S
transition script S Idle = idle S

-- the state that an actor's action leaves
abbrev pub next : Script → State → Actor → State
next script S actor = (transition script S actor).state

-- the entry of an action at a place
abbrev pub entry_of : ℕ → Actor → Outcome → Entry
entry_of place actor outcome = record { place = place; actor = actor; step = outcome.step; effects = outcome.effects; answer = outcome.answer }

-- the entry that an actor's action writes
abbrev pub entry_by : Script → State → ℕ → Actor → Entry
entry_by script S place actor = entry_of place actor (transition script S actor).outcome

-- whether effects tell of no death
abbrev pub is_deathless : List Effect → Bool
is_deathless [] = true
is_deathless (Dead o ∷ rest) = false
is_deathless (_ ∷ rest) = is_deathless rest

-- The state in which an action keeps what it closes, or doesn't. Which of both is told by its entry: where callers share the kernel, one
-- that tells of no death kept what it closed, if anybody was out on that. This is the only choice that an actor has.
abbrev pub keeping : Bool → State → State
keeping keep S = record S { mode = record S.mode { keep = keep } }

abbrev pub choosing : Entry → State → State
choosing e S = keeping (S.mode.shared && is_deathless e.effects) S

-- the state that an entry leaves
abbrev pub next_by : Script → State → Entry → State
next_by script S e = next script (choosing e S) e.actor

-- the state after a history, where callers share the kernel or don't
abbrev pub after_from : Script → State → List Entry → State
after_from script S [] = S
after_from script S (e ∷ es) = after_from script (next_by script S e) es

abbrev pub after_in : Bool → Script → List Entry → State
after_in shared script history = after_from script (boot_in shared script) history

abbrev pub after : Script → List Entry → State
after script history = after_in false script history

-- nobody could act: no item waits in the immediate queue, and no thread is able. This is where the choice of the next actor,
-- which needs the ready list, is nobody
pub record IsIdle (script : Script) (S : State) : Type 0 where
  pub none : next_immediate S.synchronization.deferred ≡ None
  pub nobody : (t : ObjNo) → is_able script S t ≡ false

-- an able thread may act, one that is out may come back, and the oldest item of the immediate queue may run; a declared interrupt may
-- come and a time slice end at any time; and nobody acts where nobody could
abbrev pub CanAct : Script → State → Actor → Type 0
CanAct script S (Thread t) = IsTrue (may_act script S t)
CanAct script S Idle = IsIdle script S
CanAct script S (Irq k) = IsTrue (declares_interrupt script k)
CanAct script S Idfc = IsTrue (is_some (next_immediate S.synchronization.deferred))
CanAct script S Tick = Unit {0}

-- an entry that may stand at a place: its actor may act, and it tells what the actor does with the choice that it tells
pub record IsNext (script : Script) (S : State) (place : ℕ) (e : Entry) : Type 0 where
  pub able : CanAct script S e.actor
  pub told : e ≡ entry_by script (choosing e S) place e.actor

-- each entry may stand at its place, in the state that those before it leave
abbrev pub IsLegalFrom : Script → State → ℕ → List Entry → Type 0
IsLegalFrom script S place [] = Unit {0}
IsLegalFrom script S place (e ∷ es) = IsNext script S place e × IsLegalFrom script (next_by script S e) (place + 1) es

-- a legal history starts at boot, and its places count from 1: one that a single caller makes, and one that callers make who share the kernel
abbrev pub IsLegalIn : Bool → Script → List Entry → Type 0
IsLegalIn shared script history = IsLegalFrom script (boot_in shared script) 1 history

abbrev pub IsLegal : Script → List Entry → Type 0
IsLegal script history = IsLegalIn false script history

abbrev pub IsShared : Script → List Entry → Type 0
IsShared script history = IsLegalIn true script history
