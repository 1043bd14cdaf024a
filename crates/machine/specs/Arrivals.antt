-- The ready list along an action. It stands beside the state, which no action reads it of. A thread arrives where it becomes
-- ready, and leaves where it isn't ready when an action ends: so a thread that is ready before an action and after it keeps its
-- place, also where it wasn't for a moment.
use Rattle.std.specs.Prelude.{◌==◌, not, ◌&&◌, Bool, if◌then◌else◌, filter, List, [], ◌∷◌, ◌++◌, Option, Some, None}
use Rattle.std.specs.List.{list_any}
use Rattle.sym_base.specs.declared.number.ObjNo.{ObjNo}
use Rattle.script_types.specs.declared.script.Script.{Script}
use Rattle.state_rows.specs.declared.duty.Owed.TheVariants.{Close, Sweep}
use Rattle.machine.specs.declared.touches.TouchedThreads.{TouchedThreads}
use Rattle.machine.specs.declared.moves.Move.{Move}
use Rattle.machine.specs.declared.moves.Move.TheVariants.{Find, Open, Miss, GoOn, Advance, Wait, Wake, PutDown, SetPriority, Nano, Deferred, Locks, Death, Messages, Lose, Pay}
use Rattle.machine.specs.declared.lock_move.LockMove.TheVariants.{Unlock, Free}
use Rattle.machine.specs.declared.message_move.MessageMove.TheVariants.{Finish}
use Rattle.machine.specs.declared.state.State.{State}
use Rattle.machine.specs.NanoMoves.{nano_thread}
use Rattle.machine.specs.declared.death_move.DeathMove.TheVariants.{Bury}
use Rattle.machine.specs.DeathMoves.{death_thread}
use Rattle.machine.specs.DeferredMoves.{deferred_threads}
use Rattle.machine.specs.Moves.{moved, perform}
use Rattle.machine.specs.Task.{is_ready}

-- whether a thread stands in a list
abbrev pub is_listed : List ObjNo → ObjNo → Bool
is_listed qs t = list_any (λ q. q.0 == t.0) qs

-- a list without a thread
abbrev pub unlisted : ObjNo → List ObjNo → List ObjNo
unlisted t qs = filter (λ q. not (q.0 == t.0)) qs

-- the threads whose readiness a move in an action of thread t may change
abbrev pub touched : ObjNo → Move → List ObjNo
touched t (Lose h o) = t ∷ []
touched t (Find u o) = u ∷ []
touched t (Open u o part) = u ∷ []
touched t (Miss u o) = u ∷ []
touched t (GoOn u part) = u ∷ []
touched t (Advance u) = u ∷ []
touched t (Wait u what) = u ∷ []
touched t (Wake u) = u ∷ []
touched t (PutDown u) = u ∷ []
touched t (SetPriority u priority) = u ∷ []
touched t (Nano m) = nano_thread m ∷ []
touched t (Deferred m) = deferred_threads m
touched t (Locks (Unlock o u unlocked)) = u ∷ []
touched t (Locks (Free o u best)) = u ∷ []
touched t (Death (Bury u)) = t ∷ u ∷ []
touched t (Death m) = death_thread m ∷ []
touched t (Messages (Finish m code)) = t ∷ []
touched t (Pay (Close h o)) = t ∷ []
touched t (Pay (Sweep o)) = t ∷ o ∷ []
touched t _ = []

-- a thread whose priority is set leaves the list first, and so arrives anew; one whose row is swept leaves it
abbrev pub taken_out : Move → List ObjNo → List ObjNo
taken_out (SetPriority u priority) qs = unlisted u qs
taken_out (Pay (Sweep o)) qs = unlisted o qs
taken_out _ qs = qs

-- the threads of up to two
abbrev pub one_of : Option ObjNo → List ObjNo
one_of None = []
one_of (Some t) = t ∷ []

abbrev pub threads_of : TouchedThreads → List ObjNo
threads_of touched = one_of touched.first ++ one_of touched.second

-- threads come behind the others, those that are ready and don't stand in the list
abbrev pub arrive : Script → State → List ObjNo → List ObjNo → List ObjNo
arrive script S [] qs = qs
arrive script S (u ∷ us) qs = arrive script S us (if is_ready script S u && not (is_listed qs u) then qs ++ u ∷ [] else qs)

-- the list along the moves of an action of thread t: after each move those come that it touched
abbrev pub arrivals : Script → ObjNo → List Move → State → List ObjNo → List ObjNo
arrivals script t [] S qs = qs
arrivals script t (m ∷ ms) S qs = arrivals script t ms (moved t m S) (arrive script (moved t m S) (touched t m) (taken_out m qs))

-- the list after an action: those are left that are ready in the state that its moves leave
abbrev pub ready_after : Script → ObjNo → List Move → State → List ObjNo → List ObjNo
ready_after script t ms S qs = filter (is_ready script (perform t ms S)) (arrivals script t ms S qs)
