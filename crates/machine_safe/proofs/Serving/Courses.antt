-- What each step of an instruction, and each return, comes to.
use Rattle.machine_safe.proofs.Serving.CourseBlocks.{in-process, in-thread, may-resume, may-set, may-suspend, on-one, tests, either, looks, seeks, on-thread, exit-on, types, second, opened, creates, closes, queues, cancels, logs}
use Rattle.machine_safe.proofs.Serving.CourseLocks.{waits-for, locks, unlocks, waits, signals, flocks, flocked, signals-found}
use Rattle.machine_safe.proofs.Serving.CourseServing.{sends, calls-over, receives, receives-last, completes, functions, makes-server, makes-at, connects-over, connected, reads, writes}
use Rattle.machine_safe.proofs.Serving.Course.{FoundOf, IsMet, IsOfKind}
use Rattle.machine.specs.declared.moves.Move.TheVariants.{Advance}
use Rattle.machine.specs.Dooms.{doom_where, noted_of, killed}
use Rattle.machine.specs.CriticalSection.{is_unprotected}
use Rattle.machine.specs.Moves.{with_opened}
use Rattle.machine_safe.proofs.Serving.Course.{has_step, Course, strays, answers, stays, comes, goes}
use Rattle.machine_safe.proofs.Serving.Asked.{asks-lock, asks-logon, asks-opened, asks-receive, asks-return, asks-send}
use Rattle.machine_safe.proofs.Serving.Proper.{proper-any, proper-then, stepping}
use Rattle.machine_safe.proofs.Serving.ProperLists.{proper-doom, proper-doom_where}
use Rattle.sym_base.specs.declared.error.Error.TheVariants.{InUse, Overflow, General}
use Rattle.sym_base.specs.declared.word.Word.TheVariants as word
use Rattle.state_rows.specs.declared.thread.Waiting.TheVariants as waiting
use Rattle.machine_safe.proofs.Serving.LaterSteps.{part-after}
use Rattle.state_rows.specs.declared.object.ObjectRow.{ObjectRow}
use Rattle.std.proofs.Common.{Bool, None, Option, Some, ap, false, not, refl, subst, sym, true, ℕ, ◌∙◌, ◌∷◌, ◌≡◌, []}
use Rattle.std.proofs.lemmas.Bool.{and_parts, eqb-true}
use Rattle.std.specs.Prelude.{is_some, slice_index, ◌==◌, ◌||◌, ◌+◌, nat_lt, pos}
use Rattle.script_types.specs.declared.instruction.Instr.{Instr}
use Rattle.script_types.specs.declared.script.Script.{Script}
use Rattle.machine.specs.declared.state.State.{State}
use Rattle.state_rows.specs.declared.thread.ThreadRow.{ThreadRow}
use Rattle.sym_base.specs.declared.number.ObjNo.{ObjNo}
use Rattle.entry_log.specs.declared.step.Part.{Part}
use Rattle.script_types.specs.declared.instruction.Instr.TheVariants as instr
use Rattle.entry_log.specs.declared.step.Part.TheVariants as part
use Rattle.machine.specs.WellFormed.{AreRows}
use Rattle.machine.specs.Rows.{thread_of, object_of}
use Rattle.machine_laws.proofs.Fitting.Regular.{Kinds}
use Rattle.sym_base.specs.declared.word.Word.{Word}
use Rattle.machine.specs.Decide.{one_move}
use Rattle.machine.specs.Moves.{perform, with_missed, next_object, no_number_left}
use Rattle.machine_laws.proofs.Fitting.Actions.{FitsAction}
use Rattle.entry_log.specs.declared.step.Part.TheVariants.{Look}
use Rattle.machine.specs.Look.{of_kind, look_kind}
use Rattle.machine.specs.ThreadCalls.{suspend_move, resume_move, is_live}
use Rattle.sym_base.specs.declared.kind.Kind.{Kind}
use Rattle.sym_base.specs.declared.kind.Kind.TheVariants as kind
use Rattle.machine.specs.Task.{instruction}
use Rattle.state_rows.specs.declared.thread.Stage.TheVariants.{Live}
use Rattle.machine.specs.Handles.{object_at, process_handle, thread_handle}
use Rattle.move_laws.proofs.Lists.Cases.{if_cases}
use Rattle.state_rows.specs.Nano.{held_by}
use Rattle.entry_log.specs.declared.step.Step.TheVariants.{Of}
use Rattle.state_rows.specs.Requests.{is_pending}
use Rattle.machine.specs.SessionCalls.{session_made, args_of}
use Rattle.machine.specs.declared.moves.Move.TheVariants.{Open}
use Rattle.machine.specs.Find.{find_object, seek, miss, return_to, is_open}
use Rattle.machine.specs.Steps.{step_of, return_of}
use Rattle.state_rows.specs.Nano as nano
use Rattle.state_rows.specs.Requests as requests
use Rattle.state_rows.specs.Nano.{want_of, critical_count, is_holder, is_protected}
use Rattle.state_rows.specs.Requests.{request_at, status_of}
use Rattle.state_rows.specs.DeclaredCalls.{dfc_named}
use Rattle.state_rows.specs.ObjectRows.{is_taken}
use Rattle.machine.specs.RequestCalls.{waitany_do, waitfor_do}
use Rattle.machine.specs.FastSemaphore.{fswait_do}
use Rattle.machine.specs.ServerCalls.{message_at}
use Rattle.machine.specs.Out.{is_returning}
use Rattle.machine.specs.declared.lock_move.LockMove.TheVariants.{Start}

module _ (script : Script) (S : State) (t : ObjNo) (old : ThreadRow) (here : thread_of S t ≡ Some old) (rows : AreRows script S) where
  abbrev held : Bool
  held = is_some (held_by S.synchronization.nano t)

  abbrev named : ℕ → Option ObjNo
  named x = object_at S t old (slice_index old.registers x)

  -- the steps of instructions
  pub course : {k : Kinds} (i : Instr) (p : Option Part) → old.stage ≡ Live → instruction script old ≡ Some i
      → old.part ≡ p → FitsAction k script S t (step_of script S t old i p) → is_returning p ≡ false
      → Course script S t old i p (step_of script S t old i p)
  course (instr.CreateMutex name x) None live listed stands fits back = creates script S t old here rows kind.Mutex name None x refl refl refl
  course (instr.CreateSemaphore name count x) None live listed stands fits back =
      creates script S t old here rows kind.Semaphore name (Some (Start (next_object S) count)) x refl refl refl
  course (instr.Open kind name x) None live listed stands fits back =
      tests script S t old here rows held word.Open part.Seek InUse (seek S t word.Open kind name)
      (λ no f. seeks script S t old here rows word.Open (find_object S kind name) refl refl
      (λ o e. asks-opened script S t old rows kind name x o e)) fits
  course (instr.Open kind name x) (Some part.Do) live listed stands fits back = opened script S t old here rows kind name x old.uses refl
  course (instr.Dup x y) None live listed stands fits back = looks script S t old here rows word.Dup (named x) refl (λ names o e asked. absurd (cc))
  course (instr.Dup x y) (Some part.Do) live listed stands fits back =
      second script S t old here rows word.Dup y (process_handle S old.process) old.uses (in-process script S t old here rows) refl refl
  course (instr.DupLocal x y) None live listed stands fits back = looks script S t old here rows word.Duplocal (named x) refl (λ names o e asked. absurd (cc))
  course (instr.DupLocal x y) (Some part.Do) live listed stands fits back =
      second script S t old here rows word.Duplocal y (thread_handle S t) old.uses (in-thread script S t old here rows) refl refl
  course (instr.Close x) None live listed stands fits back = closes script S t old here rows (slice_index old.registers x) (named x)
  course (instr.Lock x) None live listed stands fits back =
      tests script S t old here rows held word.Lock part.Look InUse (look_kind S t old kind.Mutex word.Lock x)
      (λ no f. looks script S t old here rows word.Lock (of_kind S kind.Mutex (named x)) refl
      (asks-lock script S t old rows x (named x))) fits
  course (instr.Lock x) (Some part.Do) live listed stands fits back = locks script S t old here rows x old.uses refl fits
  course (instr.Lock x) (Some part.Done) live listed stands fits back = answers _ refl refl (tt, tt)
  course (instr.Unlock x) None live listed stands fits back =
      looks script S t old here rows word.Unlock (of_kind S kind.Mutex (named x)) refl (λ names o e asked. absurd (cc))
  course (instr.Unlock x) (Some part.Do) live listed stands fits back = unlocks script S t old here rows old.uses refl refl
  course (instr.Wait x) None live listed stands fits back =
      tests script S t old here rows held word.Wait part.Look InUse (look_kind S t old kind.Semaphore word.Wait x)
      (λ no f. looks script S t old here rows word.Wait (of_kind S kind.Semaphore (named x)) refl
      (λ names o e asked. absurd (cc))) fits
  course (instr.Wait x) (Some part.Do) live listed stands fits back = waits script S t old here rows x old.uses refl fits
  course (instr.Wait x) (Some part.Done) live listed stands fits back = answers _ refl refl (tt, tt)
  course (instr.Signal x) None live listed stands fits back =
      looks script S t old here rows word.Signal (of_kind S kind.Semaphore (named x)) refl
      (λ names o e asked. absurd (cc))
  course (instr.Signal x) (Some part.Do) live listed stands fits back = signals script S t old here rows old.uses refl refl
  course (instr.Flock f) None live listed stands fits back = flocks script S t old here rows f live fits
  course (instr.Flock f) (Some part.Done) live listed stands fits back = flocked script S t old here rows f (want_of S.synchronization.nano t) refl
  course (instr.Funlock f) None live listed stands fits back =
      either script S t old here rows (is_holder S.synchronization.nano t f) _ _
      (answers _ refl refl (
        tt,
        proper-then script (stepping S t)
            (doom_where (critical_count S.synchronization.nano t == 0) t (noted_of S t)) (Advance t ∷ []) refl
            (proper-any script t S None _ (proper-doom_where script S (critical_count S.synchronization.nano t == 0) t
            (noted_of S t))) (tt, tt),
      )) (answers _ refl refl (tt, tt))
  course instr.Fswait None live listed stands fits back =
      tests script S t old here rows held word.Fswait part.Do InUse (fswait_do S t)
      (λ no f. either script S t old here rows (nano.signal_count S.synchronization.nano t == 0) _ _
      (waits-for script S t old here rows word.Fswait waiting.Fast refl (λ needs. absurd (cc)) refl)
      (answers _ refl refl (tt, (tt, tt)))) fits
  course instr.Fswait (Some part.Done) live listed stands fits back = answers _ refl refl (tt, tt)
  course (instr.Fssignal name) None live listed stands fits back = signals-found script S t old here rows (find_object S kind.Thread name)
  course instr.Enter None live listed stands fits back = answers _ refl refl (tt, (tt, tt))
  course instr.Leave None live listed stands fits back =
      either script S t old here rows (critical_count S.synchronization.nano t == 0) _ _ (answers _ refl refl (tt, tt))
      (answers _ refl refl (
        tt,
        proper-then script (stepping S t) (doom_where (is_unprotected S t) t (noted_of S t))
            (Advance t ∷ []) refl (proper-any script t S None _
            (proper-doom_where script S (is_unprotected S t) t (noted_of S t))) (tt, tt),
      ))
  course (instr.Suspend x) None live listed stands fits back =
      looks script S t old here rows word.Suspend (of_kind S kind.Thread (named x)) refl
      (λ names o e asked. absurd (cc))
  course (instr.Suspend x) (Some part.Do) live listed stands fits back =
      on-thread script S t old here rows word.Suspend Overflow (suspend_move S) old.uses refl refl
      (may-suspend script S t old here rows)
  course (instr.Resume x) None live listed stands fits back =
      looks script S t old here rows word.Resume (of_kind S kind.Thread (named x)) refl (λ names o e asked. absurd (cc))
  course (instr.Resume x) (Some part.Do) live listed stands fits back =
      on-thread script S t old here rows word.Resume General (resume_move S) old.uses refl refl
      (may-resume script S t old here rows)
  course (instr.Priority x priority) None live listed stands fits back =
      looks script S t old here rows word.Priority (of_kind S kind.Thread (named x)) refl
      (λ names o e asked. absurd (cc))
  course (instr.Priority x priority) (Some part.Do) live listed stands fits back =
      on-thread script S t old here rows word.Priority General _ old.uses refl refl
      (may-set script S t old here rows priority)
  course (instr.Queue name) None live listed stands fits back = queues script S t old here rows name (dfc_named script name) refl
  course (instr.Request d s) None live listed stands fits back =
      either script S t old here rows (is_pending S.synchronization.requests t s || is_some
      (request_at S.synchronization.requests d)) _ _ (answers _ refl refl (tt, tt))
      (answers _ refl refl (refl, (tt, tt)))
  course (instr.Cancel d) None live listed stands fits back = cancels script S t old here rows d (status_of t (request_at S.synchronization.requests d))
  course instr.WaitAny None live listed stands fits back =
      tests script S t old here rows held word.Waitany part.Do InUse (waitany_do S t)
      (λ no f. either script S t old here rows (requests.signal_count S.synchronization.requests t == 0) _ _
      (waits-for script S t old here rows word.Waitany waiting.Any refl (λ needs. absurd (cc)) refl)
      (answers _ refl refl (tt, (tt, tt)))) fits
  course instr.WaitAny (Some part.Done) live listed stands fits back = answers _ refl refl (tt, (tt, tt))
  course (instr.WaitFor s) None live listed stands fits back =
      tests script S t old here rows held word.Waitfor part.Do InUse (waitfor_do S t s)
      (λ no f. either script S t old here rows
      (is_pending S.synchronization.requests t s || requests.signal_count S.synchronization.requests t == 0) _ _
      (waits-for script S t old here rows word.Waitfor (waiting.Status s) refl (λ needs. absurd (cc)) refl)
      (answers _ refl refl (tt, (tt, tt)))) fits
  course (instr.WaitFor s) (Some part.Done) live listed stands fits back = answers _ refl refl (tt, (tt, tt))
  course (instr.Status s) None live listed stands fits back = answers _ refl refl (tt, tt)
  course (instr.Fill at length byte) None live listed stands fits back =
      either script S t old here rows (nat_lt 1024 (at + length)) _ _ (answers _ refl refl (tt, tt))
      (answers _ refl refl (tt, (tt, tt)))
  course (instr.Peek at) None live listed stands fits back = answers _ refl refl (tt, tt)
  course (instr.Kill x reason) None live listed stands fits back =
      looks script S t old here rows word.Kill (of_kind S kind.Thread (named x)) refl (λ names o e asked. absurd (cc))
  course (instr.Kill x reason) (Some part.Do) live listed stands fits back = exit-on script S t old here rows word.Kill _ old.uses refl refl
  course (instr.Terminate x reason) None live listed stands fits back =
      looks script S t old here rows word.Terminate (of_kind S kind.Thread (named x)) refl
      (λ names o e asked. absurd (cc))
  course (instr.Terminate x reason) (Some part.Do) live listed stands fits back = exit-on script S t old here rows word.Terminate _ old.uses refl refl
  course (instr.Panic x category reason) None live listed stands fits back =
      looks script S t old here rows word.Panic (of_kind S kind.Thread (named x)) refl (λ names o e asked. absurd (cc))
  course (instr.Panic x category reason) (Some part.Do) live listed stands fits back = exit-on script S t old here rows word.Panic _ old.uses refl refl
  course (instr.ExitType x) None live listed stands fits back =
      looks script S t old here rows word.Exittype (of_kind S kind.Thread (named x)) refl
      (λ names o e asked. absurd (cc))
  course (instr.ExitType x) (Some part.Do) live listed stands fits back = types script S t old here rows old.uses refl refl
  course (instr.Logon x s) None live listed stands fits back =
      tests script S t old here rows (is_pending S.synchronization.requests t s) word.Logon part.Look InUse
      (look_kind S t old kind.Thread word.Logon x)
      (λ no f. looks script S t old here rows word.Logon (of_kind S kind.Thread (named x)) refl
      (asks-logon script S t old rows x s (named x) no)) fits
  course (instr.Logon x s) (Some part.Do) live listed stands fits back = logs script S t old here rows x s old.uses refl
  course (instr.Exit reason) None live listed stands fits back =
      either script S t old here rows (is_protected S.synchronization.nano t) _ _ (answers _ refl refl (tt, tt))
      (stays refl refl (proper-doom script S t (killed reason)))
  course (instr.Server name x) None live listed stands fits back =
      either script S t old here rows (is_taken kind.Server name S.references.objects) _ _
      (answers _ refl refl (tt, tt)) (either script S t old here rows (no_number_left S) _ _
      (answers _ refl refl (tt, tt)) (makes-server script S t old here rows name x (thread_handle S t) refl))
  course (instr.Connect name slots x) None live listed stands fits back =
      tests script S t old here rows held word.Connect part.Seek InUse (seek S t word.Connect kind.Server name)
      (λ no f. seeks script S t old here rows word.Connect (find_object S kind.Server name) refl refl
      (λ o e. asks-return script S t old rows name slots x o e)) fits
  course (instr.Connect name slots x) (Some part.Make) live listed stands fits back = makes-at script S t old here rows name slots x old.uses refl
  course (instr.Connect name slots x) (Some part.Send) live listed stands fits back =
      connects-over script S t old here rows name slots x (session_made S t old) refl fits
  course (instr.Connect name slots x) (Some part.Done) live listed stands fits back =
      connected script S t old here rows name slots x (session_made S t old) refl
  course (instr.Send x function y args) None live listed stands fits back =
      tests script S t old here rows (is_pending S.synchronization.requests t y) word.Send part.Look InUse
      (look_kind S t old kind.Session word.Send x)
      (λ no f. looks script S t old here rows word.Send (of_kind S kind.Session (named x)) refl
      (asks-send script S t old rows x function y args (named x) no)) fits
  course (instr.Send x function y args) (Some part.Do) live listed stands fits back =
      sends script S t old here rows x function y args (pos function) (args_of args) old.uses refl
  course (instr.Call x function args) None live listed stands fits back =
      tests script S t old here rows held word.Call part.Look InUse (look_kind S t old kind.Session word.Call x)
      (λ no f. looks script S t old here rows word.Call (of_kind S kind.Session (named x)) refl
      (λ names o e asked. absurd (cc))) fits
  course (instr.Call x function args) (Some part.Do) live listed stands fits back =
      calls-over script S t old here rows x function args (pos function) (args_of args) old.uses refl fits
  course (instr.Call x function args) (Some part.Done) live listed stands fits back = answers _ refl refl (tt, tt)
  course (instr.Receive x y) None live listed stands fits back =
      tests script S t old here rows held word.Receive part.Look InUse (look_kind S t old kind.Server word.Receive x)
      (λ no f. looks script S t old here rows word.Receive (of_kind S kind.Server (named x)) refl
      (asks-receive script S t old rows x y)) fits
  course (instr.Receive x y) (Some part.Do) live listed stands fits back = receives script S t old here rows x y live listed old.uses refl stands fits
  course (instr.Receive x y) (Some part.Done) live listed stands fits back = receives-last script S t old here rows x y live listed old.uses refl stands
  course (instr.Complete y code) None live listed stands fits back =
      completes script S t old here rows (record { 0 = slice_index old.messages y }) code (message_at S t old y) refl
  course (instr.Function y) None live listed stands fits back = functions script S t old here rows (message_at S t old y)
  course (instr.Read y arg offset length at) None live listed stands fits back =
      reads script S t old here rows arg offset length at (message_at S t old y) refl refl refl
  course (instr.Read y arg offset length at) (Some part.Piece) live listed stands fits back =
      reads script S t old here rows arg offset length at (message_at S t old y) refl refl refl
  course (instr.Write y arg offset length from) None live listed stands fits back =
      writes script S t old here rows arg offset length from (message_at S t old y) refl refl refl
  course (instr.Write y arg offset length from) (Some part.Piece) live listed stands fits back =
      writes script S t old here rows arg offset length from (message_at S t old y) refl refl refl
  course i (Some part.Return) live listed stands fits back = absurd (cc)
  course i (Some q) live listed stands fits back = strays q refl refl

  -- the returns
  missed : {i : Instr} {p : Option Part} (w : Word) (o : ObjNo) (live : Bool) → Course script S t old i p (miss t w o live)
  missed w o true = answers _ refl refl (tt, (tt, tt))
  missed w o false = comes refl (tt, tt) (λ row is. part-after S.references.threads t with_missed None (λ r. refl) row is)

  returns-to : {i : Instr} {p : Option Part} (w : Word) (to : Part) → has_step i to ≡ true
      → (is_open old.sought_place (object_of S old.sought) ≡ true → IsMet S t old i p
      → IsMet (perform t (Open t old.sought to ∷ []) S) t (with_opened old.sought to old) i (Some to))
      → Course script S t old i p (return_to S t old w to)
  returns-to {i} {p} w to has met =
      if_cases (Course script S t old i p) (is_open old.sought_place (object_of S old.sought))
      (one_move (Of w part.Return) (Open t old.sought to)) (miss t w old.sought (is_live old.stage))
      (λ opens. goes to has refl refl (tt, tt) (on-one script S t old here rows i to
      (with_opened old.sought to) refl (λ _. refl) (λ own had. met opens had)))
      (λ _. missed w old.sought (is_live old.stage))

  -- what is opened is the object that was found
  opened-kind : (k : Kind) → is_open old.sought_place (object_of S old.sought) ≡ true → FoundOf S k old.sought_place old.sought
      → IsOfKind S.references.objects k old.sought
  opened-kind k opens was = by (object_of S old.sought) refl opens
    where
      by : (x : Option ObjectRow) → object_of S old.sought ≡ x → is_open old.sought_place x ≡ true
          → IsOfKind S.references.objects k old.sought
      by None at e = absurd (cc)
      by (Some row) at e =
          let parts = and_parts (not row.dead) (row.place == old.sought_place) e in
          record {
            there = ap is_some at;
            kind = λ r is. let same : row ≡ r = cc in
                was.kind r is (sym (ap (λ (z : ObjectRow). z.place) same) ∙ eqb-true row.place old.sought_place parts.1);
          }

  pub return-course : (i : Instr) → Course script S t old i (Some part.Return) (return_of S t old i)
  return-course (instr.Open k name x) = returns-to word.Open part.Do refl (λ opens had asked. record {
    unset = λ s is. absurd (cc);
    wanted = λ is. absurd (cc);
    used =
        λ j o is used. let own : old.sought ≡ o = cc in let same : k ≡ j = cc in
        subst (λ (z : Kind). IsOfKind S.references.objects z o) same
        (subst (IsOfKind S.references.objects k) own (opened-kind k opens ((had refl).found k refl)));
    found = λ j is. absurd (cc);
    owned = λ o is used. absurd (cc);
    came = λ o is used. absurd (cc);
  })
  return-course (instr.Connect name slots x) = returns-to word.Connect part.Make refl (λ opens had asked. record {
    unset = λ s is. absurd (cc);
    wanted = λ is. absurd (cc);
    used =
        λ k o is used. let own : old.sought ≡ o = cc in
        subst (IsOfKind S.references.objects k) own (opened-kind k opens ((had refl).found k is));
    found = λ k is. absurd (cc);
    owned = λ o is used. absurd (cc);
    came = λ o is used. absurd (cc);
  })
  return-course i = strays part.Return refl refl
