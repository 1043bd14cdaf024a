-- What closes, finds and returns tell, counted: nothing else that is done tells of it.
use Rattle.std.proofs.Common.{◌≡◌, ℕ, List, [], ◌∷◌, arith, refl, Some, None, Bool, true, false}
use Rattle.sym_base.specs.declared.number.ObjNo.{ObjNo}
use Rattle.script_types.specs.declared.script.Script.{Script}
use Rattle.entry_log.specs.declared.effect.Effect.{Effect}
use Rattle.entry_log.specs.declared.effect.Effect.TheVariants as effect
use Rattle.entry_log.specs.declared.effect.Holder.{Holder}
use Rattle.entry_log.specs.declared.entry.Actor.{Actor}
use Rattle.entry_log.specs.declared.entry.Actor.TheVariants.{Thread, Irq, Idfc, Tick, Idle}
use Rattle.state_rows.specs.declared.duty.Owed.TheVariants.{Close, Sweep}
use Rattle.state_rows.specs.declared.locks.Locked.TheVariants.{Taken}
use Rattle.state_rows.specs.declared.locks.Unlocked.TheVariants.{Freed, Passed}
use Rattle.state_rows.specs.declared.messages.MessageRows.{MessageRows}
use Rattle.machine.specs.declared.death_move.DeathMove.{DeathMove}
use Rattle.machine.specs.declared.death_move.DeathMove.TheVariants as death
use Rattle.machine.specs.declared.lock_move.LockMove.{LockMove}
use Rattle.machine.specs.declared.lock_move.LockMove.TheVariants as lock
use Rattle.machine.specs.declared.message_move.MessageMove.{MessageMove}
use Rattle.machine.specs.declared.message_move.MessageMove.TheVariants as message
use Rattle.machine.specs.declared.moves.Move.{Move}
use Rattle.machine.specs.declared.moves.Move.TheVariants as move
use Rattle.machine.specs.declared.nano_move.NanoMove.{NanoMove}
use Rattle.machine.specs.declared.nano_move.NanoMove.TheVariants as nano
use Rattle.machine.specs.declared.request_move.RequestMove.{RequestMove}
use Rattle.machine.specs.declared.request_move.RequestMove.TheVariants as request
use Rattle.machine.specs.declared.server_move.ServerMove.{ServerMove}
use Rattle.machine.specs.declared.server_move.ServerMove.TheVariants as server
use Rattle.machine.specs.declared.state.State.{State}
use Rattle.machine.specs.DeathMoves.{death_told}
use Rattle.machine.specs.History.{transition}
use Rattle.machine.specs.Interrupts.{immediate, interrupt, supervisor}
use Rattle.machine.specs.Kept.{dies}
use Rattle.machine.specs.LockMoves.{lock_told}
use Rattle.machine.specs.MessageMoves.{message_told}
use Rattle.machine.specs.Moves.{closed_effects, moved, tell, told}
use Rattle.machine.specs.NanoMoves.{nano_told}
use Rattle.machine.specs.References.{total}
use Rattle.machine.specs.RequestMoves.{request_told}
use Rattle.machine.specs.ServerMoves.{server_told}
use Rattle.machine.specs.Steps.{decision_of}
use Rattle.machine.specs.Transition.{act}
use Rattle.move_laws.proofs.Lists.Totals.{total-append}
use Rattle.machine_laws.proofs.Sharing.Losses.{moves_of}

-- whether an effect is none of those
abbrev pub is_beside : Effect → Bool
is_beside (effect.Minus h o) = false
is_beside (effect.Seek o) = false
is_beside (effect.Missed o) = false
is_beside _ = true

-- a number of effects that is 0 of all others
pub record IsOfCloses (f : Effect → ℕ) : Type 0 where
  pub none : (e : Effect) → is_beside e ≡ true → f e ≡ 0

-- what a move tells of it
abbrev pub told_by : (Effect → ℕ) → Move → ℕ
told_by f (move.Lose h o) = f (effect.Minus h o)
told_by f (move.Pay (Close h o)) = f (effect.Minus h o)
told_by f (move.Find u o) = f (effect.Seek o)
told_by f (move.Miss u o) = f (effect.Missed o)
told_by f _ = 0

module _ (f : Effect → ℕ) (of : IsOfCloses f) where
  none-one : (e : Effect) → is_beside e ≡ true → total f (e ∷ []) ≡ 0
  none-one e beside = let a = of.none e beside in omega arith

  none-two : (d e : Effect) → is_beside d ≡ true → is_beside e ≡ true → total f (d ∷ e ∷ []) ≡ 0
  none-two d e one two = let a = of.none d one in let b = of.none e two in omega arith

  none-three : (c d e : Effect) → is_beside c ≡ true → is_beside d ≡ true → is_beside e ≡ true → total f (c ∷ d ∷ e ∷ []) ≡ 0
  none-three c d e one two three = let a = of.none c one in let b = none-two d e two three in omega arith

  closed-by : (dying : Bool) (h : Holder) (o : ObjNo) → total f (closed_effects dying h o) ≡ f (effect.Minus h o)
  closed-by true h o = let a = of.none (effect.Dead o) refl in omega arith
  closed-by false h o = omega arith

  nano-none : (m : NanoMove) → total f (nano_told m) ≡ 0
  nano-none (nano.Take t g) = none-one _ refl
  nano-none (nano.Give t g) = none-one _ refl
  nano-none _ = refl

  request-none : (m : RequestMove) → total f (request_told m) ≡ 0
  request-none (request.Complete d t s code) = none-one _ refl
  request-none (request.Signal t s code) = none-one _ refl
  request-none (request.Reply t code) = none-one _ refl
  request-none _ = refl

  lock-none : (m : LockMove) → total f (lock_told m) ≡ 0
  lock-none (lock.Lock o t Taken) = none-two _ _ refl refl
  lock-none (lock.Unlock o t Freed) = none-one _ refl
  lock-none (lock.Unlock o t (Passed w)) = none-three _ _ _ refl refl refl
  lock-none (lock.Free o t None) = none-one _ refl
  lock-none (lock.Free o t (Some w)) = none-three _ _ _ refl refl refl
  lock-none _ = refl

  death-none : (m : DeathMove) → total f (death_told m) ≡ 0
  death-none (death.Doom t exit) = none-one _ refl
  death-none (death.Bury t) = none-one _ refl
  death-none _ = refl

  server-none : (m : ServerMove) → total f (server_told m) ≡ 0
  server-none (server.Join s o slots t) = none-one _ refl
  server-none (server.End o) = none-one _ refl
  server-none _ = refl

  message-none : (m : MessageMove) (r : MessageRows) → total f (message_told m r) ≡ 0
  message-none (message.Accept slots row) r = none-three _ _ _ refl refl refl
  message-none (message.Finish n code) r = none-one _ refl
  message-none _ r = refl

  told-is : (m : Move) (S : State) → total f (told m S) ≡ told_by f m
  told-is (move.Make kind name h) S = none-one _ refl
  told-is (move.Gain h o) S = none-one _ refl
  told-is (move.Open u o part) S = none-one _ refl
  told-is (move.Find u o) S = omega arith
  told-is (move.Miss u o) S = omega arith
  told-is (move.Lose h o) S = closed-by (dies S o) h o
  told-is (move.Pay (Close h o)) S = closed-by (dies S o) h o
  told-is (move.Pay (Sweep o)) S = none-one _ refl
  told-is (move.Nano m) S = nano-none m
  told-is (move.Requests m) S = request-none m
  told-is (move.Locks m) S = lock-none m
  told-is (move.Death m) S = death-none m
  told-is (move.Servers m) S = server-none m
  told-is (move.Messages m) S = message-none m S.serving.messages
  told-is _ S = refl

  -- so do moves
  pub tell-is : (t : ObjNo) (ms : List Move) (S : State) → total f (tell t ms S) ≡ total (told_by f) ms
  tell-is t [] S = refl
  tell-is t (m ∷ ms) S =
      let both = total-append f (told m S) (tell t ms (moved t m S)) in
      let here = told-is m S in
      let rest = tell-is t ms (moved t m S) in omega arith

  act-is : (script : Script) (S : State) (t : ObjNo) → total f (act script S t).outcome.effects ≡ total (told_by f) (decision_of script S t).moves
  unfolding act
  act-is script S t = tell-is t (decision_of script S t).moves S

  interrupt-is : (script : Script) (S : State) (k : ℕ) → total f (interrupt script S k).outcome.effects ≡ total (told_by f) (moves_of script S (Irq k))
  unfolding interrupt
  interrupt-is script S k = tell-is supervisor (moves_of script S (Irq k)) S

  immediate-is : (script : Script) (S : State) → total f (immediate script S).outcome.effects ≡ total (told_by f) (moves_of script S Idfc)
  unfolding immediate
  immediate-is script S = tell-is supervisor (moves_of script S Idfc) S

  -- and an actor's action
  pub next-is : (script : Script) (S : State) (actor : Actor)
      → total f (transition script S actor).outcome.effects ≡ total (told_by f) (moves_of script S actor)
  next-is script S (Thread t) = act-is script S t
  next-is script S (Irq k) = interrupt-is script S k
  next-is script S Idfc = immediate-is script S
  next-is script S Tick = refl
  next-is script S Idle = refl

-- numbers of moves that are the same of each
pub total-same : {A : Type 0} (f g : A → ℕ) → ((x : A) → f x ≡ g x) → (xs : List A) → total f xs ≡ total g xs
total-same f g same [] = refl
total-same f g same (x ∷ xs) = let here = same x in let rest = total-same f g same xs in omega arith
