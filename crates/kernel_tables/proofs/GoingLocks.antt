-- When a move in the rows of mutexes and semaphores that fits can be made in the tables.
use Rattle.std.proofs.Common.{◌≡◌, ◌∙◌, ℕ, suc, ◌<◌, List, [], ◌∷◌, length, get_or, arith, refl, sym, ap, Bool, true, false}
use Rattle.std.specs.Prelude.{◌==◌, ◌||◌, is_some, if◌then◌else◌, nat_lt, IsSome, Option, Some, None}
use Rattle.std.specs.List.{list_any}
use Rattle.std.proofs.lemmas.Bool.{eqb-true}
use Rattle.sym_base.specs.declared.number.ObjNo.{ObjNo}
use Rattle.script_types.specs.declared.script.Script.{Script}
use Rattle.state_rows.specs.declared.locks.Locked.{Locked}
use Rattle.state_rows.specs.declared.locks.Locked.TheVariants.{Taken, Again, Waits}
use Rattle.state_rows.specs.declared.locks.Owner.{Owner}
use Rattle.state_rows.specs.declared.locks.Unlocked.{Unlocked}
use Rattle.state_rows.specs.declared.locks.Unlocked.TheVariants.{Level, Freed, Passed, NotOwner}
use Rattle.state_rows.specs.LockChanges.{lock_answer, passed, unlock_answer}
use Rattle.state_rows.specs.Locks.{best_waiter, is_among, is_waiting, owner_at, waiters_at}
use Rattle.cleanup.specs.Lists.{HasSome, is_object}
use Rattle.machine.specs.declared.lock_move.LockMove.{LockMove}
use Rattle.machine.specs.declared.lock_move.LockMove.TheVariants.{Start, Lock, Unlock, Free, Leave, WaitOn, Signal}
use Rattle.machine.specs.declared.state.State.{State}
use Rattle.machine.specs.Choice.{priority_of}
use Rattle.machine.specs.Fits.{FitsLocks, MayFree, MayJoin, MayLock, MayUnlock, WaitsNowhere}
use Rattle.machine.specs.LockMoves.{not_holding}
use Rattle.machine.specs.References.{mutex_names, same, total, count_of}
use Rattle.machine.specs.Rows.{object_of, thread_of}
use Rattle.machine.specs.WellFormed.{AreRows, IsAlive, times_held}
use Rattle.move_laws.proofs.Lists.Totals.{inside, total_at_least}
use Rattle.move_laws.proofs.Lives.Bits.{alive_not_gone, alive_there}
use Rattle.move_laws.proofs.Readiness.FirstReady.{greatest_listed}
use Rattle.move_laws.proofs.RowLaws.LockChanges.{LockParts}
use Rattle.move_laws.proofs.RowLaws.LockMoves.{given_none, held_once, none_held}
use Rattle.move_laws.proofs.RowLaws.Locks.{thread_inside}
use Rattle.kernel_tables.specs.LockMoved.{CanGive, CanJoin, CanLock, CanTake, FreeMay, IsPlaced, LocksMay, UnlocksMay}
use Rattle.kernel_tables.specs.Moved.{AreKnown}
use Rattle.kernel_tables.specs.Referred.{HasPlaces, IsReferred}

-- the parts of a state that such a move changes
abbrev parts : State → LockParts
parts S = record { rows = S.synchronization.locks; mutexes = S.synchronization.mutexes; owed = S.references.owed }

-- a thread that stands in no list waits nowhere
none_waits : (waiters : List (List ObjNo)) (t : ObjNo) → ((k : ℕ) → is_among t (get_or waiters k []) ≡ false) → list_any (is_among t) waiters ≡ false
none_waits [] t none = refl
none_waits (queue ∷ rest) t none = ap (λ (b : Bool). b || list_any (is_among t) rest) (none 0) ∙ none_waits rest t (λ k. none (suc k))

waits_nowhere : (S : State) (t : ObjNo) → WaitsNowhere S t → is_waiting S.synchronization.locks t ≡ false
waits_nowhere S t nowhere = none_waits S.synchronization.locks.waiters t (λ k. nowhere (record { 0 = k }))

-- what is in some list of threads is held by a thread
held_one : (o : ObjNo) (held : List ObjNo) → list_any (is_object o) held ≡ true → 0 < total (mutex_names o) held
held_one o [] some = absurd (cc)
held_one o (x ∷ rest) some = by (x.0 == o.0) refl some (held_one o rest)
  where
    by : (b : Bool) → (x.0 == o.0) ≡ b → (b || list_any (is_object o) rest) ≡ true
        → (list_any (is_object o) rest ≡ true → 0 < total (mutex_names o) rest) → 0 < total (mutex_names o) (x ∷ rest)
    by true at some later = let one : same x o ≡ 1 = ap (λ (b : Bool). if b then 1 else 0) at in omega arith
    by false at some later = let more = later some in omega arith

pub record HeldBySome (mutexes : List (List ObjNo)) (o : ObjNo) : Type 0 where
  pub thread : ObjNo
  pub held : 0 < times_held mutexes thread o

pub held_some : (o : ObjNo) (mutexes : List (List ObjNo)) → list_any (list_any (is_object o)) mutexes ≡ true → HeldBySome mutexes o
held_some o [] some = absurd (cc)
held_some o (held ∷ rest) some = by (list_any (is_object o) held) refl some (held_some o rest)
  where
    by : (b : Bool) → list_any (is_object o) held ≡ b → (b || list_any (list_any (is_object o)) rest) ≡ true
        → (list_any (list_any (is_object o)) rest ≡ true → HeldBySome rest o) → HeldBySome (held ∷ rest) o
    by true here some later = record { thread = record { 0 = 0 }; held = held_one o held here }
    by false here some later = let more = later some in record { thread = record { 0 = suc more.thread.0 }; held = more.held }

none_has : (o : ObjNo) (mutexes : List (List ObjNo)) → ((t : ObjNo) → times_held mutexes t o ≡ 0) → HasSome (is_object o) mutexes → ⊥
none_has o mutexes none some = let v = held_some o mutexes some in let no = none v.thread in let yes = v.held in omega arith

-- a mutex is taken exactly where it is free, and given up by its owner; where it is passed, to the best waiter
taken_free : (owner : Option Owner) (t : ObjNo) → Taken ≡ lock_answer owner t → owner ≡ None
taken_free None t e = refl
taken_free (Some w) t e = by (w.thread.0 == t.0) e
  where
    by : (b : Bool) → Taken ≡ (if b then Again else Waits) → Some w ≡ None
    by true e = absurd (cc)
    by false e = absurd (cc)

record IsOwn (owner : Option Owner) (t : ObjNo) : Type 0 where
  pub own : Owner
  pub is : owner ≡ Some own
  pub thread : own.thread.0 ≡ t.0

passed_best : (best : Option ObjNo) (w : ObjNo) → Passed w ≡ passed best → best ≡ Some w
passed_best None w e = absurd (cc)
passed_best (Some u) w e = cc

passed_by : (owner : Option Owner) (t w : ObjNo) (best : Option ObjNo) → Passed w ≡ unlock_answer owner t best → IsOwn owner t × (best ≡ Some w)
passed_by None t w best e = absurd (cc)
passed_by (Some v) t w best e = by (v.thread.0 == t.0) (nat_lt 1 v.level) refl e
  where
    by : (b more : Bool) → (v.thread.0 == t.0) ≡ b → Passed w
        ≡ (if b then (if more then Level else passed best) else NotOwner) → IsOwn (Some v) t × (best ≡ Some w)
    by true true at e = absurd (cc)
    by true false at e = (record { own = v; is = refl; thread = eqb-true v.thread.0 t.0 at }, passed_best best w e)
    by false more at e = absurd (cc)

is_owned : (owner : Option Owner) (w : Owner) → owner ≡ Some w → IsSome owner
is_owned None w is = absurd (cc)
is_owned (Some v) w is = refl

module _ (script : Script) (S : State) (rows : AreRows script S) (known : AreKnown S)
    (referred : (o : ObjNo) → 0 < count_of S o → IsReferred S o) (places : (u : ObjNo) → HasPlaces 2 S u) where
  -- numbers are in range
  placed : (o : ObjNo) → o.0 < length S.references.objects → IsPlaced S o
  placed o made = let long = rows.synchronization.locks.owners_sized in let few = rows.references.sized.objects_few in omega arith

  small : (o : ObjNo) → o.0 < length S.references.objects → o.0 < 4096
  small o made = let few = rows.references.sized.objects_few in omega arith

  alive_made : (o : ObjNo) → IsAlive (object_of S o) → o.0 < length S.references.objects
  alive_made o alive = (alive_not_gone S.references.objects o alive).1

  counted_made : (o : ObjNo) → 0 < count_of S o → o.0 < length S.references.objects
  counted_made o some = alive_made o (rows.lives.alive o some)

  owes_in : (u : ObjNo) → is_some (thread_of S u) ≡ true → u.0 < length S.references.owed
  owes_in u there = let a = thread_inside S.references.threads u.0 there in let b = rows.references.sized.duties in omega arith

  in_mutexes : (u : ObjNo) → is_some (thread_of S u) ≡ true → u.0 < length S.synchronization.mutexes
  in_mutexes u there = let a = thread_inside S.references.threads u.0 there in let b = rows.synchronization.locks.mutexes_sized in omega arith

  -- a thread that may join waits nowhere yet
  joins : (o u : ObjNo) (waits : Type 0) → o.0 < length S.references.objects → (waits → MayJoin S o u) → CanJoin S o u waits
  joins o u waits made may = record {
    object = placed o made;
    thread = λ w. let j = may w in (known u j.waits.row j.waits.is).0;
    nowhere = λ w. waits_nowhere S u (may w).nowhere;
  }

  -- a lock that takes a mutex
  locks_may : (o u : ObjNo) (locked : Locked) → MayLock S o u locked → LocksMay S o u locked
  locks_may o u Again may = tt
  locks_may o u Waits may = tt
  locks_may o u Taken may =
      let alive = rows.lives.alive o may.counted in
      let free = taken_free (owner_at S.synchronization.locks o) u may.answer in
      record {
        thread = owes_in u may.thread;
        object = small o (alive_made o alive);
        free =
            none_has o S.synchronization.mutexes (none_held S.references.objects S.references.threads
            (parts S) rows.synchronization.locks rows.references.sized.objects_few o (alive_there (object_of S o) alive) free);
        referred = referred o may.counted;
      }

  -- an unlock that gives it up
  gives : (o u : ObjNo) (unlocked : Unlocked) → MayUnlock S o u unlocked → CanGive S u o
  gives o u unlocked may = record { thread = owes_in u may.thread; object = small o (alive_made o may.object); places = let two = places u in omega arith }

  -- the waiter to whom a mutex is passed may take it
  takes_passed : (o u w : ObjNo) → IsAlive (object_of S o) → is_some (thread_of S u) ≡ true → WaitsNowhere S u
      → IsOwn (owner_at S.synchronization.locks o) u → best_waiter (priority_of S) S.synchronization.locks o ≡ Some w
      → CanTake S (not_holding S.synchronization.mutexes u o) w o
  takes_passed o u w alive thread nowhere own best =
      let among : is_among w (waiters_at S.synchronization.locks o) ≡ true = greatest_listed (priority_of S) (waiters_at S.synchronization.locks o) w best in
      let awaits = rows.synchronization.locks.waiters w o among in
      let there = in_mutexes u thread in
      let made = alive_there (object_of S o) alive in
      let once = held_once S.references.objects S.references.threads
      (parts S) rows.synchronization.locks rows.references.sized.objects_few o made u own.own own.is own.thread there
      (nowhere o) in
      let none = given_none S.references.objects S.references.threads
      (parts S) rows.synchronization.locks rows.references.sized.objects_few o made u own.own own.is own.thread there
      (nowhere o) in
      let counted : 0 < count_of S o = let at = total_at_least (total (mutex_names o)) S.synchronization.mutexes u.0 [] there in omega arith in
      record {
        thread = let a = inside S.references.threads w.0 awaits.row awaits.is in let b = rows.references.sized.duties in omega arith;
        object = small o (alive_made o alive);
        free = none_has o (not_holding S.synchronization.mutexes u o) none;
        referred = referred o counted;
      }

  unlocks_may : (o u : ObjNo) (unlocked : Unlocked) → MayUnlock S o u unlocked → UnlocksMay S o u unlocked
  unlocks_may o u Level may = tt
  unlocks_may o u NotOwner may = tt
  unlocks_may o u Freed may = gives o u Freed may
  unlocks_may o u (Passed w) may =
      let by = passed_by (owner_at S.synchronization.locks o) u w (best_waiter (priority_of S) S.synchronization.locks o) may.answer in
      (gives o u (Passed w) may, takes_passed o u w may.object may.thread may.nowhere by.0 by.1)

  -- and one that gives up all levels
  frees : (o u : ObjNo) (best : Option ObjNo) → MayFree S o u best → CanGive S u o
  frees o u best may = record { thread = owes_in u may.thread; object = small o (alive_made o may.object); places = let two = places u in omega arith }

  frees_may : (o u : ObjNo) (best : Option ObjNo) → MayFree S o u best → FreeMay S o u best
  frees_may o u None may = frees o u None may
  frees_may o u (Some w) may = (
    frees o u (Some w) may,
    takes_passed o u w may.object may.thread may.nowhere
        (record { own = may.owns.owner; is = may.owns.is; thread = may.owns.thread }) (sym may.chosen),
  )

  pub can_lock : (t : ObjNo) (m : LockMove) → FitsLocks t m S → CanLock m S
  can_lock t (Start o count) fits = (placed o (alive_made o fits.object), fits.few, fits.free, fits.alone)
  can_lock t (Lock o u locked) fits = (joins o u _ (counted_made o fits.counted) fits.joins, fits.answer, locks_may o u locked fits)
  can_lock t (Unlock o u unlocked) fits = (placed o (alive_made o fits.1.object), fits.1.answer, unlocks_may o u unlocked fits.1)
  can_lock t (Free o u best) fits = (
    placed o (alive_made o fits.1.object),
    is_owned (owner_at S.synchronization.locks o) fits.1.owns.owner fits.1.owns.is,
    fits.1.chosen,
    frees_may o u best fits.1,
  )
  can_lock t (Leave u) fits = let a = thread_inside S.references.threads u.0 fits in let b = rows.references.sized.threads_few in omega arith
  can_lock t (WaitOn o u) fits = joins o u _ (alive_made o fits.alive) fits.joins
  can_lock t (Signal o signalled) fits = (placed o (alive_made o fits.object), fits.answer)
