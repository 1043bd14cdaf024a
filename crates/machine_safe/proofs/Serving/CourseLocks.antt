-- What each way in which steps that lock, wait and signal decide comes to.
use Rattle.machine_safe.proofs.Serving.Course.{Met, asks}
use Rattle.machine_safe.proofs.Serving.Proper.{awaited_by, stepping, wakes-other}
use Rattle.machine_safe.proofs.Serving.ProperLists.{proper-signal}
use Rattle.machine_safe.proofs.Serving.ProperGiving.{waiter-other}
use Rattle.machine.specs.declared.moves.Move.TheVariants.{Advance, Nano}
use Rattle.machine.specs.declared.nano_move.NanoMove.TheVariants.{Want}
use Rattle.std.proofs.Common.{get_or-set_same, []}
use Rattle.move_laws.proofs.Lists.Totals.{inside}
use Rattle.machine_safe.proofs.Serving.Course.{has_step, uses_at, needs_use, unused, served, unwanted, Course, answers, idles, goes}
use Rattle.sym_base.specs.declared.error.Error.TheVariants.{InUse}
use Rattle.sym_base.specs.declared.word.Word.TheVariants as word
use Rattle.state_rows.specs.Locks.{owner_at, count_at, best_waiter}
use Rattle.state_rows.specs.LockChanges.{lock_answer, passed, unlock_answer, signal_answer}
use Rattle.state_rows.specs.declared.locks.Owner.{Owner}
use Rattle.state_rows.specs.declared.locks.Locked.{Locked}
use Rattle.state_rows.specs.declared.locks.Locked.TheVariants.{Taken, Again, Waits}
use Rattle.state_rows.specs.declared.locks.Signalled.{Signalled}
use Rattle.state_rows.specs.declared.locks.Signalled.TheVariants as signalled
use Rattle.state_rows.specs.declared.locks.Unlocked.{Unlocked}
use Rattle.state_rows.specs.declared.locks.Unlocked.TheVariants.{Level, Freed, Passed, NotOwner}
use Rattle.state_rows.specs.declared.thread.Waiting.TheVariants as waiting
use Rattle.std.proofs.Common.{Bool, None, Option, Some, ap, arith, false, refl, sym, true, ℕ, ◌∙◌, ◌∷◌, ◌≡◌}
use Rattle.std.specs.Prelude.{is_some, if◌then◌else◌, nat_lt, ◌==◌}
use Rattle.script_types.specs.declared.instruction.Instr.{Instr}
use Rattle.script_types.specs.declared.script.Script.{Script}
use Rattle.machine.specs.declared.state.State.{State}
use Rattle.state_rows.specs.declared.thread.ThreadRow.{ThreadRow}
use Rattle.sym_base.specs.declared.number.ObjNo.{ObjNo}
use Rattle.entry_log.specs.declared.step.Part.{Part}
use Rattle.script_types.specs.declared.instruction.Instr.TheVariants as instr
use Rattle.entry_log.specs.declared.step.Part.TheVariants as part
use Rattle.machine.specs.WellFormed.{AreRows}
use Rattle.machine.specs.Rows.{thread_of}
use Rattle.machine.specs.declared.decision.Decision.{Decision}
use Rattle.machine_laws.proofs.Fitting.Regular.{Kinds}
use Rattle.sym_base.specs.declared.word.Word.{Word}
use Rattle.machine.specs.Decide.{wait_at}
use Rattle.machine.specs.Moves.{with_part, perform, with_waiting}
use Rattle.machine_laws.proofs.Fitting.Actions.{FitsAction}
use Rattle.machine.specs.Fits.{IsLive}
use Rattle.state_rows.specs.declared.thread.Stage.TheVariants.{Live}
use Rattle.machine.specs.ThreadCalls.{is_live}
use Rattle.machine.specs.SemaphoreCalls.{wait_do, signal_by, signal_do, wait_on}
use Rattle.machine.specs.MutexCalls.{lock_by, lock_do, unlock_by, unlock_do, unless_server}
use Rattle.state_rows.specs.Nano.{held_by}
use Rattle.state_rows.specs.ServerRows.{server_at}
use Rattle.state_rows.specs.declared.servers.ServerRow.{ServerRow}
use Rattle.entry_log.specs.declared.step.Step.TheVariants.{Of}
use Rattle.machine.specs.Choice.{priority_of}
use Rattle.machine.specs.declared.lock_move.LockMove.TheVariants.{WaitOn}
use Rattle.machine.specs.declared.moves.Move.TheVariants.{GoOn}
use Rattle.state_rows.specs.Nano.{want_of, is_free}
use Rattle.machine.specs.FastMutex.{flock_do, flock_done, flock_step}
use Rattle.machine.specs.FastSemaphore.{signal_found, signal_thread}
use Rattle.machine.specs.Decide.{wait_for}
use Rattle.machine.specs.declared.lock_move.LockMove.{LockMove}
use Rattle.machine.specs.declared.lock_move.LockMove.TheVariants.{Lock}
use Rattle.state_rows.specs.declared.thread.Waiting.{Waiting}
use Rattle.machine_safe.proofs.Serving.CourseBlocks.{either, on-one, on-two, tests}

module _ (script : Script) (S : State) (t : ObjNo) (old : ThreadRow) (here : thread_of S t ≡ Some old) (rows : AreRows script S) where
  abbrev Comes : Instr → Option Part → Decision → Type 0
  Comes i p d = Course script S t old i p d

  -- mutexes and semaphores
  pub waits-at : {i : Instr} {p : Option Part} (w : Word) (o : ObjNo) (lock : LockMove) → has_step i part.Done ≡ true
      → uses_at i part.Done ≡ false → asks i (Some part.Done) ≡ false → Comes i p (wait_at t (Of w part.Do) o lock)
  waits-at {i} w o lock has early calm =
      goes part.Done has refl refl (tt, (refl, (tt, tt)))
      (on-two script S t old here rows i part.Done (with_part part.Done) (with_waiting (waiting.Lock o)) refl
      (λ needs. absurd (cc)) (λ own had asked. absurd (cc)))

  pub waits-for : {i : Instr} {p : Option Part} (w : Word) (what : Waiting) → has_step i part.Done ≡ true
      → (uses_at i part.Done ≡ true → is_some old.uses ≡ true) → asks i (Some part.Done) ≡ false
      → Comes i p (wait_for t (Of w part.Do) what)
  waits-for {i} w what has uses calm =
      goes part.Done has refl refl (tt, (refl, tt))
      (on-two script S t old here rows i part.Done (with_part part.Done) (with_waiting what) refl uses
      (λ own had asked. absurd (cc)))

  pub locks-by : (x : ℕ) {p : Option Part} (o : ObjNo) (locked : Locked) → Comes (instr.Lock x) p (lock_by t o locked)
  locks-by x o Waits = waits-at word.Lock o (Lock o t Waits) refl refl refl
  locks-by x o Taken = answers _ refl refl (tt, (tt, tt))
  locks-by x o Again = answers _ refl refl (tt, (tt, tt))

  pub locks : {k : Kinds} (x : ℕ) (uses : Option ObjNo) → old.uses ≡ uses → FitsAction k script S t (lock_do S t uses)
      → Comes (instr.Lock x) (Some part.Do) (lock_do S t uses)
  locks x None e fits = idles (unused refl e) refl
  locks x (Some o) e fits =
      tests script S t old here rows (is_some (held_by S.synchronization.nano t)) word.Lock part.Do InUse
      (unless_server (server_at S.serving.servers o) (lock_by t o (lock_answer (owner_at S.synchronization.locks o) t)))
      (λ no f. by (server_at S.serving.servers o) refl) fits
    where
      by : (server : Option ServerRow) → server_at S.serving.servers o ≡ server
          → Comes (instr.Lock x) (Some part.Do)
          (unless_server server (lock_by t o (lock_answer (owner_at S.synchronization.locks o) t)))
      by None is = locks-by x o (lock_answer (owner_at S.synchronization.locks o) t)
      by (Some row) is = idles (served o row refl e is) refl

  abbrev best : ObjNo → Option ObjNo
  best o = best_waiter (priority_of S) S.synchronization.locks o

  passed-best : (o w : ObjNo) (next : Option ObjNo) → best o ≡ next → passed next ≡ Passed w → best o ≡ Some w
  passed-best o w None is e = absurd (cc)
  passed-best o w (Some v) is e = let own : v ≡ w = cc in is ∙ ap Some own

  unlocked-best : (o w : ObjNo) (owner : Option Owner) → unlock_answer owner t (best o) ≡ Passed w → best o ≡ Some w
  unlocked-best o w None e = absurd (cc)
  unlocked-best o w (Some owner) e = by (owner.thread.0 == t.0) (nat_lt 1 owner.level) e
    where
      by : (own more : Bool) → (if own then (if more then Level else passed (best o)) else NotOwner) ≡ Passed w → best o ≡ Some w
      by true true e = absurd (cc)
      by true false e = passed-best o w (best o) refl e
      by false more e = absurd (cc)

  pub unlocks-by : {i : Instr} {p : Option Part} (o : ObjNo) (unlocked : Unlocked)
      → unlock_answer (owner_at S.synchronization.locks o) t (best o) ≡ unlocked → Comes i p (unlock_by t o unlocked)
  unlocks-by o NotOwner e = answers _ refl refl (tt, tt)
  unlocks-by o (Passed w) e =
      answers _ refl refl (
        tt,
        (
          wakes-other (stepping S t) w
              (waiter-other script S rows o w (unlocked-best o w (owner_at S.synchronization.locks o) e)),
          (tt, tt),
        ),
      )
  unlocks-by o Level e = answers _ refl refl (tt, (tt, tt))
  unlocks-by o Freed e = answers _ refl refl (tt, (tt, tt))

  pub unlocks : {i : Instr} {p : Option Part} (uses : Option ObjNo) → needs_use (Some i) p ≡ true → old.uses ≡ uses → Comes i p (unlock_do S t uses)
  unlocks None needs e = idles (unused needs e) refl
  unlocks (Some o) needs e = unlocks-by o (unlock_answer (owner_at S.synchronization.locks o) t (best o)) refl

  pub waits : {k : Kinds} (x : ℕ) (uses : Option ObjNo) → old.uses ≡ uses → FitsAction k script S t (wait_do S t uses)
      → Comes (instr.Wait x) (Some part.Do) (wait_do S t uses)
  waits x None e fits = idles (unused refl e) refl
  waits x (Some o) e fits =
      tests script S t old here rows (is_some (held_by S.synchronization.nano t)) word.Wait part.Do InUse
      (wait_on t o (count_at S.synchronization.locks o))
      (λ no f. either script S t old here rows (count_at S.synchronization.locks o == 0) _ _
      (waits-at word.Wait o (WaitOn o t) refl refl refl) (answers _ refl refl (tt, (tt, tt)))) fits

  signalled-best : (o w : ObjNo) (next : Option ObjNo) (count : ℕ) → best o ≡ next → signal_answer next count ≡ signalled.Woke w → best o ≡ Some w
  signalled-best o w None count is e = by (nat_lt count 2147483647) e
    where
      by : (b : Bool) → (if b then signalled.Counted else signalled.Overflow) ≡ signalled.Woke w → best o ≡ Some w
      by true e = absurd (cc)
      by false e = absurd (cc)
  signalled-best o w (Some v) count is e = let own : v ≡ w = cc in is ∙ ap Some own

  pub signals-by : {i : Instr} {p : Option Part} (o : ObjNo) (signalled : Signalled)
      → signal_answer (best o) (count_at S.synchronization.locks o) ≡ signalled → Comes i p (signal_by t o signalled)
  signals-by o signalled.Overflow e = answers _ refl refl (tt, tt)
  signals-by o (signalled.Woke w) e =
      answers _ refl refl (
        tt,
        (
          wakes-other (stepping S t) w
              (waiter-other script S rows o w (signalled-best o w (best o) (count_at S.synchronization.locks o) refl e)),
          (tt, tt),
        ),
      )
  signals-by o signalled.Counted e = answers _ refl refl (tt, (tt, tt))

  pub signals : {i : Instr} {p : Option Part} (uses : Option ObjNo) → needs_use (Some i) p ≡ true → old.uses ≡ uses → Comes i p (signal_do S t uses)
  signals None needs e = idles (unused needs e) refl
  signals (Some o) needs e = signals-by o (signal_answer (best o) (count_at S.synchronization.locks o)) refl

  -- fast mutexes and fast semaphores
  -- a thread that comes to want a fast mutex
  wants-one : (f : ℕ) → Met (perform t (GoOn t part.Done ∷ Nano (Want t (Some f)) ∷ []) S) t (with_part part.Done old) (instr.Flock f) (Some part.Done)
  wants-one f =
      let within = inside S.references.threads t.0 old here in
      let sized = rows.synchronization.nano.sized in
      let wants = rows.synchronization.nano.rows.wants_sized in
      record {
        unset = λ s is. absurd (cc);
        wanted = λ _. ap is_some (get_or-set_same S.synchronization.nano.wants t.0 (Some f) None (omega arith));
        used = λ k o is used. absurd (cc);
        found = λ k is. absurd (cc);
        owned = λ o is used. absurd (cc);
        came = λ o is used. absurd (cc);
      }

  pub flocks : {k : Kinds} (f : ℕ) → old.stage ≡ Live → FitsAction k script S t (flock_step S t f None) → Comes (instr.Flock f) None (flock_step S t f None)
  flocks f live fits =
      tests script S t old here rows (is_some (held_by S.synchronization.nano t)) word.Flock part.Do InUse
      (flock_do S t f) (λ no h. either script S t old here rows (is_free S.synchronization.nano f) _ _
      (answers _ refl refl (refl, (tt, tt))) (goes part.Done refl refl refl (tt, ((refl, lives, refl), tt))
      (on-one script S t old here rows (instr.Flock f) part.Done (with_part part.Done) refl (λ needs. absurd (cc))
      (λ own had asked. wants-one f)))) fits
    where
      lives : IsLive S t
      lives row is = let both : Some old ≡ Some row = sym here ∙ is in let same : old ≡ row = cc in ap (λ (r : ThreadRow). r.stage) (sym same) ∙ live

  pub flocked : (f : ℕ) (want : Option ℕ) → want_of S.synchronization.nano t ≡ want → Comes (instr.Flock f) (Some part.Done) (flock_done t want)
  flocked f None e = idles (unwanted refl e) refl
  flocked f (Some g) e = answers _ refl refl (refl, (tt, tt))

  -- signals of fast semaphores
  pub signals-thread : {i : Instr} {p : Option Part} (u : ObjNo) (row : Option ThreadRow) → thread_of S u ≡ row → Comes i p (signal_thread t u row)
  signals-thread u None is = answers _ refl refl (tt, tt)
  signals-thread u (Some row) is =
      either script S t old here rows (is_live row.stage) _ _
      (answers _ refl refl (
        proper-signal script (stepping S t) u row.waiting (Advance t ∷ []) (ap awaited_by is),
        (tt, tt),
      )) (answers _ refl refl (tt, tt))

  pub signals-found : {i : Instr} {p : Option Part} (found : Option ObjNo) → Comes i p (signal_found S t found)
  signals-found None = answers _ refl refl (tt, tt)
  signals-found (Some u) = signals-thread u (thread_of S u) refl
