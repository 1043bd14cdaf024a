-- Moves tell no more effects than each of them does at most.
use Rattle.std.proofs.Common.{◌≡◌, ◌+◌, ◌≤◌, Bool, true, false, List, [], ◌∷◌, ◌++◌, length, length-append, arith, Some, None}
use Rattle.entry_log.specs.declared.effect.Holder.{Holder}
use Rattle.state_rows.specs.declared.duty.Owed.TheVariants.{Close, Sweep}
use Rattle.sym_base.specs.declared.number.ObjNo.{ObjNo}
use Rattle.state_rows.specs.declared.locks.Locked.TheVariants.{Taken}
use Rattle.state_rows.specs.declared.locks.Unlocked.TheVariants.{Freed, Passed}
use Rattle.machine.specs.declared.death_move.DeathMove.{DeathMove}
use Rattle.machine.specs.declared.death_move.DeathMove.TheVariants.{Doom, Bury}
use Rattle.machine.specs.declared.lock_move.LockMove.{LockMove}
use Rattle.machine.specs.declared.lock_move.LockMove.TheVariants.{Lock, Unlock, Free}
use Rattle.machine.specs.declared.moves.Move.{Move}
use Rattle.machine.specs.declared.moves.Move.TheVariants.{Lose, Nano, Requests, Locks, Death, Servers, Messages, Pay}
use Rattle.machine.specs.declared.nano_move.NanoMove.{NanoMove}
use Rattle.machine.specs.declared.nano_move.NanoMove.TheVariants.{Take, Give}
use Rattle.machine.specs.declared.request_move.RequestMove.{RequestMove}
use Rattle.machine.specs.declared.request_move.RequestMove.TheVariants.{Complete, Signal, Reply}
use Rattle.machine.specs.declared.message_move.MessageMove.{MessageMove}
use Rattle.machine.specs.declared.message_move.MessageMove.TheVariants.{Accept, Finish}
use Rattle.machine.specs.declared.server_move.ServerMove.{ServerMove}
use Rattle.machine.specs.declared.server_move.ServerMove.TheVariants.{Join, End}
use Rattle.machine.specs.declared.state.State.{State}
use Rattle.state_rows.specs.declared.messages.MessageRows.{MessageRows}
use Rattle.machine.specs.Fits.{nano_most, request_most, lock_most, death_most, server_most, message_most, lock_owes, most_told}
use Rattle.machine.specs.DeathMoves.{death_told}
use Rattle.machine.specs.LockMoves.{lock_told}
use Rattle.machine.specs.Moves.{moved, told, tell, closed_effects}
use Rattle.machine.specs.MessageMoves.{message_told}
use Rattle.machine.specs.NanoMoves.{nano_told}
use Rattle.machine.specs.RequestMoves.{request_told}
use Rattle.machine.specs.ServerMoves.{server_told}
use Rattle.machine.specs.References.{total}
use Rattle.machine.specs.Kept.{dies}

closed_few : (last : Bool) (h : Holder) (o : ObjNo) → length (closed_effects last h o) ≤ 2
closed_few true h o = omega arith
closed_few false h o = omega arith

nano_few : (m : NanoMove) → length (nano_told m) ≤ nano_most m
nano_few (Take t f) = omega arith
nano_few _ = omega arith

request_few : (m : RequestMove) → length (request_told m) ≤ request_most m
request_few (Complete d t s code) = omega arith
request_few _ = omega arith

lock_few : (m : LockMove) → length (lock_told m) ≤ lock_most m
lock_few (Lock o t Taken) = omega arith
lock_few (Unlock o t Freed) = omega arith
lock_few (Free o t None) = omega arith
lock_few _ = omega arith

server_few : (m : ServerMove) → length (server_told m) ≤ server_most m
server_few (Join s o slots t) = omega arith
server_few _ = omega arith

message_few : (m : MessageMove) (r : MessageRows) → length (message_told m r) ≤ message_most m
message_few (Accept slots row) r = omega arith
message_few _ r = omega arith

death_few : (m : DeathMove) → length (death_told m) ≤ death_most m
death_few (Doom t exit) = omega arith
death_few _ = omega arith

told_few : (m : Move) (S : State) → length (told m S) ≤ most_told m
told_few (Lose h o) S = closed_few (dies S o) h o
told_few (Pay (Close h o)) S = closed_few (dies S o) h o
told_few (Pay (Sweep o)) S = omega arith
told_few (Nano m) S = nano_few m
told_few (Requests m) S = request_few m
told_few (Locks m) S = lock_few m
told_few (Death m) S = death_few m
told_few (Servers m) S = server_few m
told_few (Messages m) S = message_few m S.serving.messages
told_few _ S = omega arith

pub tell_few : (t : ObjNo) (ms : List Move) (S : State) → length (tell t ms S) ≤ total most_told ms
tell_few t [] S = omega arith
tell_few t (m ∷ ms) S =
    let first = told_few m S in
    let rest = tell_few t ms (moved t m S) in
    let e : length (told m S ++ tell t ms (moved t m S)) ≡ length (told m S) + length (tell t ms (moved t m S)) =
    length-append (told m S) (tell t ms (moved t m S)) in
    omega arith

-- a move in the rows of threads that synchronize, of requests, or of mutexes and semaphores tells so many effects at most, whichever it is, and a
-- move of these adds so much to what is owed
pub nano-tells : (m : NanoMove) → nano_most m ≤ 1
nano-tells (Take t f) = omega arith
nano-tells _ = omega arith

pub request-tells : (m : RequestMove) → request_most m ≤ 1
request-tells (Complete d t s code) = omega arith
request-tells _ = omega arith

pub lock-tells : (m : LockMove) → lock_most m ≤ 3
lock-tells (Lock o t locked) = omega arith
lock-tells _ = omega arith

pub lock-owes : (m : LockMove) → lock_owes m ≤ 4
lock-owes (Unlock o t unlocked) = omega arith
lock-owes _ = omega arith
