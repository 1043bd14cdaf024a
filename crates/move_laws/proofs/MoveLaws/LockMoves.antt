-- Moves in the rows of mutexes and semaphores. Whoever takes a mutex owns it: that is a reference. Whoever gives it up owes the
-- close of it.
use Rattle.std.proofs.Common.{◌≡◌, ℕ, ◌+◌, ◌<◌, ◌≤◌, List, [], ◌∷◌, ◌++◌, length, get_or, arith, refl, sym, subst, ap, Option, Some, None, Bool, true, false}
use Rattle.std.specs.Prelude.{◌==◌, if◌then◌else◌, is_some, nat_lt}
use Rattle.std.proofs.lemmas.Bool.{eqb-true}
use Rattle.std.proofs.lemmas.List.{length-set}
use Rattle.sym_base.specs.declared.number.ObjNo.{ObjNo}
use Rattle.script_types.specs.declared.script.Script.{Script}
use Rattle.entry_log.specs.declared.effect.Effect.{Effect}
use Rattle.entry_log.specs.declared.effect.Effect.TheVariants.{Give, Plus, Take}
use Rattle.entry_log.specs.declared.effect.Holder.TheVariants.{Own}
use Rattle.entry_log.specs.declared.effect.LockNo.TheVariants.{Object}
use Rattle.state_rows.specs.declared.duty.Owed.{Owed}
use Rattle.state_rows.specs.declared.duty.Owed.TheVariants.{Close}
use Rattle.state_rows.specs.declared.locks.Locked.{Locked}
use Rattle.state_rows.specs.declared.locks.Locked.TheVariants.{Taken, Again, Waits}
use Rattle.state_rows.specs.declared.locks.LockRows.{LockRows}
use Rattle.state_rows.specs.declared.locks.Owner.{Owner}
use Rattle.state_rows.specs.declared.locks.Unlocked.{Unlocked}
use Rattle.state_rows.specs.declared.locks.Unlocked.TheVariants.{Level, Freed, Passed, NotOwner}
use Rattle.state_rows.specs.LockChanges.{after_lock, after_unlock, lock_answer, owner_after_lock, owner_after_unlock, passed, unlock_answer}
use Rattle.state_rows.specs.ServerRows.{IsServer, server_at}
use Rattle.state_rows.specs.Locks.{best_waiter, is_among, owner_at, waiters_at, without}
use Rattle.machine.specs.declared.lock_move.LockMove.{LockMove}
use Rattle.machine.specs.declared.lock_move.LockMove.TheVariants.{Start, Lock, Unlock, Free, Leave, WaitOn, Signal}
use Rattle.machine.specs.declared.moves.Move.TheVariants.{Locks}
use Rattle.machine.specs.declared.state.State.{State}
use Rattle.machine.specs.Choice.{priority_of}
use Rattle.machine.specs.Fits.{lock_owes, FitsMove, MayFree, MayJoin, MayLock, MayUnlock, WaitsNowhere}
use Rattle.machine.specs.HeldIn.{held_in, owed_by}
use Rattle.machine.specs.LockMoves.{holding, lock_told, not_holding, owed_moved}
use Rattle.machine.specs.Moves.{moved, told}
use Rattle.machine.specs.References.{mutex_names, owed_names, same, total}
use Rattle.machine.specs.Rows.{object_of, owed_of, owing, thread_of}
use Rattle.machine.specs.Out.{is_returning, part_of}
use Rattle.machine.specs.Told.{removals}
use Rattle.machine.specs.WellFormed.{AreDuties, AreLocks, AreRows, IsAlive, is_spent, owed_sweeps, sweeps_of, weight}
use Rattle.move_laws.proofs.Holders.HoldersMove.{HoldersMove, holders-none, holders-plus}
use Rattle.move_laws.proofs.Holders.MutexRows.{rows-holding, rows-not_holding}
use Rattle.move_laws.proofs.Lists.Totals.{inside, total_at_least}
use Rattle.move_laws.proofs.Lives.Bits.{alive_there}
use Rattle.move_laws.proofs.Lives.Kinds.{lives-none, lives-plus}
use Rattle.move_laws.proofs.Lives.LivesMove.{LivesMove}
use Rattle.move_laws.proofs.MoveLaws.RowMoves.{IsSilent, sound-silent}
use Rattle.move_laws.proofs.MoveLaws.Sound.{Sound, sound-of, sound-then}
use Rattle.move_laws.proofs.Readiness.FirstReady.{greatest_listed}
use Rattle.move_laws.proofs.References.Counts.{total-owing}
use Rattle.move_laws.proofs.References.Mutexes.{count-holding, count-not_holding, held-not_holding}
use Rattle.move_laws.proofs.References.Same.{eqb_apart, if_not}
use Rattle.move_laws.proofs.RowLaws.Duties.{duties-owing, none_owed_by, weight-owing}
use Rattle.move_laws.proofs.RowLaws.LockChanges.{LockParts, MayStand}
use Rattle.move_laws.proofs.RowLaws.LockMoves.{given_none, held_once, locks-again, locks-freed, locks-given, locks-leave, locks-level, locks-not_owner, locks-signal, locks-start, locks-taken, locks-wait, locks-waits, none_held}
use Rattle.move_laws.proofs.RowLaws.Locks.{thread_inside}
use Rattle.move_laws.proofs.RowLaws.ServersKept.{servers-locks, unlocked-set, unowned-locked, unowned-other}
use Rattle.move_laws.proofs.MoveLaws.Silent.{silent_of}

-- the parts of a state that such a move changes
abbrev parts : State → LockParts
parts S = record { rows = S.synchronization.locks; mutexes = S.synchronization.mutexes; owed = S.references.owed }

-- that a thread takes or gives a mutex tells of no reference and no death
silent-take : (S : State) (t o : ObjNo) → IsSilent S (Take t (Object o) ∷ [])
silent-take S t o = silent_of S (λ o. refl) (λ o. refl) (tt, tt) (λ g x. refl)

silent-give : (S : State) (t o : ObjNo) → IsSilent S (Give t (Object o) ∷ [])
silent-give S t o = silent_of S (λ o. refl) (λ o. refl) (tt, tt) (λ g x. refl)

silent-pass : (S : State) (t w o : ObjNo) → IsSilent S (Give t (Object o) ∷ Take w (Object o) ∷ [])
silent-pass S t w o = silent_of S (λ o. refl) (λ o. refl) (tt, (tt, tt)) (λ g x. refl)

-- it is told before a change
sound-told : (script : Script) (S T : State) (es fs : List Effect) → IsSilent S es → ((p : ObjNo) → removals fs p ≡ 0)
    → AreRows script S → Sound script S T fs → Sound script S T (es ++ fs)
sound-told script S T es fs quiet none rows sound = sound-then script S S T es fs (sound-silent script S es quiet rows) sound quiet.quiet.removals none

-- mutexes, duties and the rows of mutexes and semaphores change
record ArePassed (script : Script) (S : State) (mutexes : List (List ObjNo)) (owed : List (List Owed)) (new : LockRows) : Type 0 where
  pub long : length owed ≡ length S.references.owed
  pub duties : AreDuties S.references.threads S.serving.servers S.serving.messages.accepted owed
  pub locks : AreLocks S.references.objects S.references.threads mutexes owed new
  pub unlocked : (o : ObjNo) → IsServer S.serving.servers o → owner_at new o ≡ None
  pub sweeps : (p : ObjNo) → total (total (owed_sweeps p)) owed ≡ sweeps_of S p

abbrev passing : State → List (List ObjNo) → List (List Owed) → LockRows → State
passing S mutexes owed new = record S {
  synchronization = record S.synchronization { mutexes = mutexes; locks = new };
  references = record S.references { owed = owed };
}

sound-passed : (script : Script) (S : State) (mutexes : List (List ObjNo)) (owed : List (List Owed)) (new : LockRows)
    (effects : List Effect)
    → ArePassed script S mutexes owed new → LivesMove S (passing S mutexes owed new) effects
    → HoldersMove S (passing S mutexes owed new) effects → AreRows script S
    → Sound script S (passing S mutexes owed new) effects
sound-passed script S mutexes owed new effects h lives holders rows = sound-of script S (passing S mutexes owed new) effects rows (record {
  handles_long = refl;
  threads_long = refl;
  owed_long = h.long;
  objects_few = rows.references.sized.objects_few;
  tables = rows.references.tables;
  threads = rows.references.threads;
  duties = h.duties;
  synchronization = record {
    nano = rows.synchronization.nano;
    deferred = rows.synchronization.deferred;
    requests = rows.synchronization.requests;
    locks = h.locks;
    logons = rows.synchronization.logons;
    awaited = rows.synchronization.awaited;
  };
  services = rows.services;
  spent = rows.references.spent;
  serving = record {
    servers =
        servers-locks (λ row. is_spent row.stage)
        S.references.objects S.references.threads S.synchronization.locks new S.serving.owned S.serving.servers
        h.unlocked rows.serving.servers;
    messages = rows.serving.messages;
  };
}) lives holders

-- the rows of mutexes and semaphores change alone
sound-alone : (script : Script) (S : State) (new : LockRows)
    → AreLocks S.references.objects S.references.threads S.synchronization.mutexes S.references.owed new
    → ((o : ObjNo) → IsServer S.serving.servers o → owner_at new o ≡ None) → AreRows script S
    → Sound script S (record S { synchronization = record S.synchronization { locks = new } }) []
sound-alone script S new locks unlocked rows =
    let T = passing S S.synchronization.mutexes S.references.owed new in
    sound-passed script S S.synchronization.mutexes S.references.owed new []
    (record { long = refl; duties = rows.references.duties; locks = locks; unlocked = unlocked; sweeps = λ p. refl })
    (lives-none S T (refl, refl, refl) (λ o. refl) (λ o. refl) (λ o place. refl)) (holders-none S T (λ g x. refl)) rows

-- a mutex is taken exactly where it is free
pub taken_free : (owner : Option Owner) (t : ObjNo) → Taken ≡ lock_answer owner t → owner ≡ None
taken_free None t e = refl
taken_free (Some w) t e = by (w.thread.0 == t.0) e
  where
    by : (b : Bool) → Taken ≡ (if b then Again else Waits) → Some w ≡ None
    by true e = absurd (cc)
    by false e = absurd (cc)

-- it is given up by its owner
pub record IsOwn (owner : Option Owner) (t : ObjNo) : Type 0 where
  pub own : Owner
  pub is : owner ≡ Some own
  pub thread : own.thread.0 ≡ t.0

-- what such a thread has to be
record Gives (S : State) (o t : ObjNo) : Type 0 where
  pub object : IsAlive (object_of S o)
  pub thread : is_some (thread_of S t) ≡ true
  pub nowhere : WaitsNowhere S t
  pub going : is_returning (part_of (thread_of S t)) ≡ false
  pub owns : IsOwn (owner_at S.synchronization.locks o) t

pub freed_by : (owner : Option Owner) (t : ObjNo) (best : Option ObjNo) → Freed ≡ unlock_answer owner t best → IsOwn owner t
freed_by None t best e = absurd (cc)
freed_by (Some w) t best e = by (w.thread.0 == t.0) refl e
  where
    by : (b : Bool) → (w.thread.0 == t.0) ≡ b → Freed ≡ (if b then (if nat_lt 1 w.level then Level else passed best) else NotOwner) → IsOwn (Some w) t
    by true at e = record { own = w; is = refl; thread = eqb-true w.thread.0 t.0 at }
    by false at e = absurd (cc)

-- and to the best waiter, where it is passed
pub passed_best : (best : Option ObjNo) (w : ObjNo) → Passed w ≡ passed best → best ≡ Some w
passed_best None w e = absurd (cc)
passed_best (Some u) w e = cc

pub passed_by : (owner : Option Owner) (t w : ObjNo) (best : Option ObjNo) → Passed w ≡ unlock_answer owner t best → IsOwn owner t × (best ≡ Some w)
passed_by None t w best e = absurd (cc)
passed_by (Some v) t w best e = by (v.thread.0 == t.0) (nat_lt 1 v.level) refl e
  where
    by : (b more : Bool) → (v.thread.0 == t.0) ≡ b → Passed w
        ≡ (if b then (if more then Level else passed best) else NotOwner) → IsOwn (Some v) t × (best ≡ Some w)
    by true true at e = absurd (cc)
    by true false at e = (record { own = v; is = refl; thread = eqb-true v.thread.0 t.0 at }, passed_best best w e)
    by false more at e = absurd (cc)

may_stand : (S : State) (t o : ObjNo) → MayJoin S o t → MayStand S.references.threads S.references.owed t o
may_stand S t o joins = record { waits = joins.waits; paid = ap (total (owed_by (Own t) o)) joins.paid }

sound-lock : (script : Script) (S : State) (t o u : ObjNo) (locked : Locked) → MayLock S o u locked → AreRows script S
    → Sound script S (moved t (Locks (Lock o u locked)) S) (lock_told (Lock o u locked))
sound-lock script S t o u Again may rows =
    sound-alone script S _ (locks-again S.references.objects S.references.threads
    (parts S) rows.synchronization.locks rows.references.sized.objects_few o
    (alive_there (object_of S o) (rows.lives.alive o may.counted)) u)
    (unlocked-set S.synchronization.locks S.serving.servers o _
    (λ is none. ap (λ (w : Option Owner). owner_after_lock w u Again) none) rows.serving.servers.unlocked) rows
sound-lock script S t o u Waits may rows =
    sound-alone script S _ (locks-waits S.references.objects S.references.threads
    (parts S) rows.synchronization.locks rows.references.sized.objects_few o
    (alive_there (object_of S o) (rows.lives.alive o may.counted)) u (may_stand S u o (may.joins refl)))
    (unlocked-set S.synchronization.locks S.serving.servers o _
    (λ is none. ap (λ (w : Option Owner). owner_after_lock w u Waits) none) rows.serving.servers.unlocked) rows
sound-lock script S t o u Taken may rows =
    let made = (alive_there (object_of S o) (rows.lives.alive o may.counted)) in
    let free = taken_free (owner_at S.synchronization.locks o) u may.answer in
    let there : u.0 < length S.synchronization.mutexes = let a = thread_inside S.references.threads u.0 may.thread in
    let b = rows.synchronization.locks.mutexes_sized in
    omega arith in
    let mutexes = holding S.synchronization.mutexes u o in
    let new = after_lock S.synchronization.locks o u Taken in
    let T = passing S mutexes S.references.owed new in
    let few = rows.references.sized.objects_few in
    let none : held_in S (Own u) o ≡ 0 =
    let a = none_held S.references.objects S.references.threads (parts S) rows.synchronization.locks few o made free u in
    let b = none_owed_by S.references.threads S.serving.servers S.serving.messages.accepted S.references.owed u
    (Own u) o rows.references.duties (λ k y later own. own) (ap (total (owed_by (Own u) o)) may.paid) in
    let c = unowned-other (λ row. is_spent row.stage)
    S.references.objects S.references.threads S.synchronization.locks S.serving.owned S.serving.servers u o
    may.other rows.serving.servers in
    omega arith in
    sound-told script S T (Take u (Object o) ∷ []) (Plus (Own u) o ∷ []) (silent-take S u o) (λ p. refl) rows
    (sound-passed script S mutexes S.references.owed new (Plus (Own u) o ∷ [])
    (record {
      long = refl;
      duties = rows.references.duties;
      locks = locks-taken S.references.objects S.references.threads
          (parts S) rows.synchronization.locks few o made u free there;
      unlocked = unlocked-set S.synchronization.locks S.serving.servers o _
          (λ is none. let no : is_some (server_at S.serving.servers o) ≡ false = ap is_some may.other in
          absurd (cc)) rows.serving.servers.unlocked;
      sweeps = λ p. refl;
    })
    (lives-plus S T (Own u) o (refl, refl, refl) (λ p. let a = count-holding S.synchronization.mutexes u o p there in omega arith)
    (λ p. refl) (λ p place. refl) (rows.lives.alive o may.counted))
    (holders-plus S T (Own u) o none (λ g x. let a = rows-holding S.references.handles S.references.threads
    S.synchronization.mutexes u o there g x in omega arith)) rows)

-- who gives a mutex up owes the close of its ownership
duties-close : (script : Script) (S : State) (t o : ObjNo) → Gives S o t → total weight (owed_of S t) + 4 ≤ 12
    → AreRows script S
    → AreDuties S.references.threads S.serving.servers S.serving.messages.accepted
    (owing S.references.owed t (Close (Own t) o ∷ []))
duties-close script S t o may few rows =
    duties-owing S.references.threads S.serving.servers S.serving.messages.accepted S.references.owed t
    (Close (Own t) o ∷ []) (refl, tt) (omega arith) may.going rows.references.duties

sound-freed : (script : Script) (S : State) (t o : ObjNo) → Gives S o t → total weight (owed_of S t) + 4 ≤ 12
    → AreRows script S → Sound script S (moved t (Locks (Unlock o t Freed)) S) (lock_told (Unlock o t Freed))
sound-freed script S t o may few rows =
    let own = may.owns in
    let inside_threads = thread_inside S.references.threads t.0 may.thread in
    let there : t.0 < length S.synchronization.mutexes = let b = rows.synchronization.locks.mutexes_sized in omega arith in
    let owes : t.0 < length S.references.owed = let a = rows.references.sized.duties in omega arith in
    let small = rows.references.sized.objects_few in
    let once = held_once S.references.objects S.references.threads
    (parts S) rows.synchronization.locks small o (alive_there (object_of S o) may.object) t own.own own.is own.thread there (may.nowhere o) in
    let mutexes = not_holding S.synchronization.mutexes t o in
    let owed = owing S.references.owed t (Close (Own t) o ∷ []) in
    let new = after_unlock S.synchronization.locks o Freed in
    let T = passing S mutexes owed new in
    let sweeps : (p : ObjNo) → total (total (owed_sweeps p)) owed ≡ sweeps_of S p =
    λ p. let a = total-owing (owed_sweeps p) S.references.owed t (Close (Own t) o ∷ []) owes in
    omega arith in
    sound-told script S T (Give t (Object o) ∷ []) [] (silent-give S t o) (λ p. refl) rows
    (sound-passed script S mutexes owed new []
    (record {
      long = length-set S.references.owed t.0 _;
      duties = duties-close script S t o may few rows;
      locks = locks-freed S.references.objects S.references.threads
          (parts S) rows.synchronization.locks small o (alive_there (object_of S o) may.object) t own.own own.is own.thread there (may.nowhere o);
      unlocked = unlocked-set S.synchronization.locks S.serving.servers o _
          (λ is none. ap (λ (w : Option Owner). owner_after_unlock w Freed) none) rows.serving.servers.unlocked;
      sweeps = sweeps;
    })
    (lives-none S T (refl, refl, refl) (λ p. let a = count-not_holding S.synchronization.mutexes t o p there once in
    let b = total-owing (owed_names p) S.references.owed t (Close (Own t) o ∷ []) owes in omega arith) sweeps
    (λ p place. refl))
    (holders-none S T (λ g x. let a = rows-not_holding S.references.handles S.references.threads
    S.synchronization.mutexes t o there once g x in
    let b = total-owing (owed_by g x) S.references.owed t (Close (Own t) o ∷ []) owes in omega arith)) rows)

sound-given : (script : Script) (S : State) (t o w : ObjNo) → Gives S o t
    → best_waiter (priority_of S) S.synchronization.locks o ≡ Some w → total weight (owed_of S t) + 4 ≤ 12
    → AreRows script S → Sound script S (moved t (Locks (Unlock o t (Passed w))) S) (lock_told (Unlock o t (Passed w)))
sound-given script S t o w may best few rows =
    let own = may.owns in
    let among : is_among w (waiters_at S.synchronization.locks o) ≡ true = greatest_listed (priority_of S) (waiters_at S.synchronization.locks o) w best in
    let awaits = rows.synchronization.locks.waiters w o among in
    let sized = rows.synchronization.locks.mutexes_sized in
    let there : t.0 < length S.synchronization.mutexes = let a = thread_inside S.references.threads t.0 may.thread in omega arith in
    let waiter : w.0 < length S.synchronization.mutexes = let a = inside S.references.threads w.0 awaits.row awaits.is in omega arith in
    let owes : t.0 < length S.references.owed = let a = rows.references.sized.duties in omega arith in
    let small = rows.references.sized.objects_few in
    let once = held_once S.references.objects S.references.threads
    (parts S) rows.synchronization.locks small o (alive_there (object_of S o) may.object) t own.own own.is own.thread there (may.nowhere o) in
    let left = not_holding S.synchronization.mutexes t o in
    let behind : w.0 < length left = let a = length-set S.synchronization.mutexes t.0 (without o (get_or S.synchronization.mutexes t.0 [])) in omega arith in
    let mutexes = holding left w o in
    let owed = owing S.references.owed t (Close (Own t) o ∷ []) in
    let new = after_unlock S.synchronization.locks o (Passed w) in
    let T = passing S mutexes owed new in
    let apart : t.0 ≡ w.0 → ⊥ = λ at. let same : is_among t (waiters_at S.synchronization.locks o)
    ≡ is_among w (waiters_at S.synchronization.locks o) = ap
    (λ (n : ℕ). is_among (record { 0 = n }) (waiters_at S.synchronization.locks o)) at in
    let nowhere = may.nowhere o in
    cc in
    let none : held_in S (Own w) o ≡ 0 =
    let a = given_none S.references.objects S.references.threads
    (parts S) rows.synchronization.locks small o (alive_there (object_of S o) may.object) t own.own own.is own.thread there (may.nowhere o) w in
    let b = held-not_holding S.synchronization.mutexes t o w o there once in
    let c = if_not (t.0 == w.0) (same o o) (eqb_apart t.0 w.0 apart) in
    let d = none_owed_by S.references.threads S.serving.servers S.serving.messages.accepted S.references.owed w
    (Own w) o rows.references.duties (λ k y later own. own) (rows.synchronization.locks.paid w o among) in
    let e = unowned-locked (λ row. is_spent row.stage)
    S.references.objects S.references.threads S.synchronization.locks S.serving.owned S.serving.servers w o
    own.own own.is rows.serving.servers in
    omega arith in
    let alive : IsAlive (object_of S o) = rows.lives.alive o
    (let a = total_at_least (total (mutex_names o)) S.synchronization.mutexes t.0 [] there in omega arith) in
    let sweeps : (p : ObjNo) → total (total (owed_sweeps p)) owed ≡ sweeps_of S p =
    λ p. let a = total-owing (owed_sweeps p) S.references.owed t (Close (Own t) o ∷ []) owes in
    omega arith in
    sound-told script S T (Give t (Object o) ∷ Take w (Object o) ∷ []) (Plus (Own w) o ∷ []) (silent-pass S t w o) (λ p. refl) rows
    (sound-passed script S mutexes owed new (Plus (Own w) o ∷ [])
    (record {
      long = length-set S.references.owed t.0 _;
      duties = duties-close script S t o may few rows;
      locks = locks-given S.references.objects S.references.threads
          (parts S) rows.synchronization.locks small o (alive_there (object_of S o) may.object) t own.own own.is own.thread there (may.nowhere o) w waiter;
      unlocked = unlocked-set S.synchronization.locks S.serving.servers o _
          (λ is none. let held = own.is in absurd (cc)) rows.serving.servers.unlocked;
      sweeps = sweeps;
    })
    (lives-plus S T (Own w) o (refl, refl, refl) (λ p. let a = count-not_holding S.synchronization.mutexes t o p there once in
    let b = count-holding left w o p behind in
    let c = total-owing (owed_names p) S.references.owed t (Close (Own t) o ∷ []) owes in omega arith) sweeps
    (λ p place. refl) alive)
    (holders-plus S T (Own w) o none (λ g x. let a = rows-not_holding S.references.handles S.references.threads
    S.synchronization.mutexes t o there once g x in
    let b = rows-holding S.references.handles S.references.threads left w o behind g x in
    let c = total-owing (owed_by g x) S.references.owed t (Close (Own t) o ∷ []) owes in omega arith)) rows)

gives : (S : State) (o t : ObjNo) (unlocked : Unlocked) → MayUnlock S o t unlocked → IsOwn (owner_at S.synchronization.locks o) t → Gives S o t
gives S o t unlocked may owns = record { object = may.object; thread = may.thread; nowhere = may.nowhere; going = may.going; owns = owns }

gives_all : (S : State) (o t : ObjNo) (best : Option ObjNo) → MayFree S o t best → Gives S o t
gives_all S o t best may = record {
  object = may.object;
  thread = may.thread;
  nowhere = may.nowhere;
  going = may.going;
  owns = record { own = may.owns.owner; is = may.owns.is; thread = may.owns.thread };
}

sound-unlock : (script : Script) (S : State) (t o : ObjNo) (unlocked : Unlocked) → MayUnlock S o t unlocked
    → total weight (owed_of S t) + 4 ≤ 12 → AreRows script S
    → Sound script S (moved t (Locks (Unlock o t unlocked)) S) (lock_told (Unlock o t unlocked))
sound-unlock script S t o Level may few rows =
    sound-alone script S _ (locks-level S.references.objects S.references.threads
    (parts S) rows.synchronization.locks rows.references.sized.objects_few o (alive_there (object_of S o) may.object))
    (unlocked-set S.synchronization.locks S.serving.servers o _
    (λ is none. ap (λ (w : Option Owner). owner_after_unlock w Level) none) rows.serving.servers.unlocked) rows
sound-unlock script S t o NotOwner may few rows =
    sound-alone script S _ (locks-not_owner S.references.objects S.references.threads
    (parts S) rows.synchronization.locks rows.references.sized.objects_few o (alive_there (object_of S o) may.object))
    (unlocked-set S.synchronization.locks S.serving.servers o _
    (λ is none. ap (λ (w : Option Owner). owner_after_unlock w NotOwner) none) rows.serving.servers.unlocked) rows
sound-unlock script S t o Freed may few rows =
    let owns = freed_by (owner_at S.synchronization.locks o) t (best_waiter (priority_of S) S.synchronization.locks o) may.answer in
    sound-freed script S t o (gives S o t Freed may owns) few rows
sound-unlock script S t o (Passed w) may few rows =
    let by = passed_by (owner_at S.synchronization.locks o) t w (best_waiter (priority_of S) S.synchronization.locks o) may.answer in
    sound-given script S t o w (gives S o t (Passed w) may by.0) by.1 few rows

-- all levels at once
sound-free : (script : Script) (S : State) (t o : ObjNo) (best : Option ObjNo) → MayFree S o t best
    → total weight (owed_of S t) + 4 ≤ 12 → AreRows script S
    → Sound script S (moved t (Locks (Free o t best)) S) (lock_told (Free o t best))
sound-free script S t o None may few rows = sound-freed script S t o (gives_all S o t None may) few rows
sound-free script S t o (Some w) may few rows = sound-given script S t o w (gives_all S o t (Some w) may) (sym may.chosen) few rows

pub sound-locks : (script : Script) (S : State) (t : ObjNo) (m : LockMove) → FitsMove script t (Locks m) S
    → total weight (owed_of S t) + lock_owes m ≤ 12 → AreRows script S
    → Sound script S (moved t (Locks m) S) (told (Locks m) S)
sound-locks script S t (Start o count) fits few rows =
    sound-alone script S _ (locks-start S.references.objects S.references.threads
    (parts S) rows.synchronization.locks rows.references.sized.objects_few o (alive_there (object_of S o) fits.object) count fits.few)
    rows.serving.servers.unlocked rows
sound-locks script S t (Lock o u locked) fits few rows = sound-lock script S t o u locked fits rows
sound-locks script S t (Unlock o u unlocked) fits few rows =
    subst (λ (y : ObjNo). Sound script S (moved t (Locks (Unlock o y unlocked)) S) (lock_told (Unlock o y unlocked)))
    (sym fits.0) (sound-unlock script S t o unlocked
    (subst (λ (y : ObjNo). MayUnlock S o y unlocked) fits.0 fits.1) few rows)
sound-locks script S t (Free o u best) fits few rows =
    subst (λ (y : ObjNo). Sound script S (moved t (Locks (Free o y best)) S) (lock_told (Free o y best))) (sym fits.0)
    (sound-free script S t o best (subst (λ (y : ObjNo). MayFree S o y best) fits.0 fits.1) few rows)
sound-locks script S t (Leave u) fits few rows =
    sound-alone script S _ (locks-leave S.references.objects S.references.threads
    (parts S) u rows.synchronization.locks) rows.serving.servers.unlocked rows
sound-locks script S t (WaitOn o u) fits few rows =
    sound-alone script S _ (locks-wait S.references.objects S.references.threads
    (parts S) rows.synchronization.locks rows.references.sized.objects_few o
    (alive_there (object_of S o) fits.alive) u (λ zero. may_stand S u o (fits.joins zero)))
    rows.serving.servers.unlocked rows
sound-locks script S t (Signal o signalled) fits few rows =
    sound-alone script S _ (locks-signal S.references.objects S.references.threads
    (parts S) rows.synchronization.locks rows.references.sized.objects_few o (alive_there (object_of S o) fits.object) signalled)
    rows.serving.servers.unlocked rows

-- what such a move adds to the weight of what its thread owes
close_weight : (owed : List (List Owed)) (t u o : ObjNo) → u ≡ t
    → total weight (get_or (owing owed u (Close (Own u) o ∷ [])) t.0 []) ≤ total weight (get_or owed t.0 []) + 4
close_weight owed t u o is =
    subst (λ (y : ObjNo). total weight (get_or (owing owed u (Close (Own u) o ∷ [])) y.0 [])
    ≤ total weight (get_or owed y.0 []) + 4) is (let a = weight-owing owed u (Close (Own u) o ∷ []) in omega arith)

pub lock_weight : (script : Script) (S : State) (t : ObjNo) (m : LockMove) → FitsMove script t (Locks m) S
    → total weight (get_or (owed_moved m S.references.owed) t.0 [])
    ≤ total weight (get_or S.references.owed t.0 []) + lock_owes m
lock_weight script S t (Unlock o u Freed) fits = close_weight S.references.owed t u o fits.0
lock_weight script S t (Unlock o u (Passed w)) fits = close_weight S.references.owed t u o fits.0
lock_weight script S t (Free o u best) fits = close_weight S.references.owed t u o fits.0
lock_weight script S t _ fits = omega arith

-- it sweeps nothing
pub lock_removes : (m : LockMove) (p : ObjNo) → removals (lock_told m) p ≡ 0
lock_removes (Lock o t Taken) p = refl
lock_removes (Unlock o t Freed) p = refl
lock_removes (Free o t None) p = refl
lock_removes _ p = refl
