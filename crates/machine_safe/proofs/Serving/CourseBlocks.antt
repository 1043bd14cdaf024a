-- What each way in which steps decide comes to.
use Rattle.machine_safe.proofs.Serving.Course.{AsksOf, IsMet, NamesOwn, opens}
use Rattle.machine_safe.proofs.Serving.Proper.{AreProper, IsOfProcess, IsOther, MayGive, is_kind, other-had, proper-any, proper-then, stepping}
use Rattle.machine_safe.proofs.Serving.ProperLists.{given-in-process, given-in-thread, made-in-process, named-declared, proper-close, proper-doom_or_note, proper-logon}
use Rattle.machine.specs.declared.moves.Move.TheVariants.{Advance, Find, Nano, SetPriority}
use Rattle.machine.specs.declared.nano_move.NanoMove.TheVariants.{Suspend, Resume}
use Rattle.std.proofs.Common.{[], arith}
use Rattle.machine.specs.Dooms.{doom_or_note}
use Rattle.machine.specs.Handles.{holder_of}
use Rattle.machine.specs.Closing.{close_moves}
use Rattle.state_rows.specs.Nano.{suspend_count}
use Rattle.machine_safe.proofs.Serving.Course.{has_step, uses_at, needs_use, unused, rowless, pending, unnamed, IsOn, Course, answers, idles, goes}
use Rattle.sym_base.specs.declared.word.Word.TheVariants as word
use Rattle.state_rows.specs.HandleNumbers.{is_local}
use Rattle.state_rows.specs.declared.object.ObjectRow.{ObjectRow}
use Rattle.entry_log.specs.declared.effect.Holder.{Holder}
use Rattle.machine.specs.EntryWords.{is_handle}
use Rattle.machine.specs.Dup.{kind_stays}
use Rattle.machine.specs.WellFormed.{IsAlive}
use Rattle.machine_laws.proofs.Fitting.LiveObjects.{use_is_alive}
use Rattle.std.proofs.Common.{Bool, List, None, Option, Some, ap, false, get_or, refl, subst, sym, true, ℕ, ◌∙◌, ◌∷◌, ◌≡◌}
use Rattle.std.specs.Prelude.{is_some, if◌then◌else◌, ◌==◌}
use Rattle.script_types.specs.declared.instruction.Instr.{Instr}
use Rattle.script_types.specs.declared.script.Script.{Script}
use Rattle.machine.specs.declared.state.State.{State}
use Rattle.state_rows.specs.declared.thread.ThreadRow.{ThreadRow}
use Rattle.sym_base.specs.declared.number.ObjNo.{ObjNo}
use Rattle.entry_log.specs.declared.step.Part.{Part}
use Rattle.script_types.specs.declared.instruction.Instr.TheVariants as instr
use Rattle.entry_log.specs.declared.step.Part.TheVariants as part
use Rattle.machine.specs.WellFormed.{AreRows}
use Rattle.machine.specs.Rows.{with_row, thread_of, object_of}
use Rattle.machine.specs.declared.decision.Decision.{Decision}
use Rattle.machine_laws.proofs.Fitting.Regular.{Kinds}
use Rattle.sym_base.specs.declared.word.Word.{Word}
use Rattle.machine.specs.Decide.{refuse, give_handle}
use Rattle.machine.specs.Moves.{with_use, with_part, perform, with_found, no_number_left}
use Rattle.sym_base.specs.declared.error.Error.{Error}
use Rattle.machine_laws.proofs.Fitting.Actions.{FitsAction}
use Rattle.move_laws.proofs.RowLaws.Threads.{map_some}
use Rattle.move_laws.proofs.Holders.ThreadRows.{row-here}
use Rattle.machine.specs.declared.moves.Move.{Move}
use Rattle.machine.specs.ExitCalls.{exit_on, exit_unless_noted, exit_unless_refused, exittype_on}
use Rattle.machine.specs.Look.{look_at}
use Rattle.machine.specs.Fits.{IsLive}
use Rattle.state_rows.specs.declared.thread.Stage.{Stage}
use Rattle.state_rows.specs.declared.thread.Stage.TheVariants.{Buried, Cleaned, Doomed, Live}
use Rattle.machine.specs.ThreadCalls.{call_on, move_or_refuse, refusal_of, refusal_of_role, unless_live, unless_refused, suspend_move, resume_move}
use Rattle.sym_base.specs.declared.kind.Kind.TheVariants as kind
use Rattle.machine.specs.Dooms.{noted_of}
use Rattle.sym_base.specs.declared.kind.Exit.{Exit}
use Rattle.machine.specs.Handles.{process_handle, thread_handle}
use Rattle.machine.specs.declared.handles.NewHandle.{NewHandle}
use Rattle.machine.specs.Dup.{dup_do, stays_with_thread}
use Rattle.machine.specs.Open.{open_do}
use Rattle.move_laws.proofs.Lists.Cases.{if_cases}
use Rattle.entry_log.specs.declared.step.Step.TheVariants.{Of}
use Rattle.machine.specs.LogonCalls.{logon_row, logon_do}
use Rattle.state_rows.specs.Requests.{is_pending}
use Rattle.machine.specs.Find.{seek_object}
use Rattle.state_rows.specs.DeclaredCalls.{dfc_named}
use Rattle.state_rows.specs.ObjectRows.{is_taken, place_of}
use Rattle.state_rows.specs.Deferred.{is_queued}
use Rattle.state_rows.specs.declared.deferred.Item.TheVariants as item
use Rattle.machine.specs.Queueing.{queue_named}
use Rattle.machine.specs.RequestCalls.{cancel_status}
use Rattle.machine.specs.Create.{create_do, make_with_handle}
use Rattle.machine.specs.Close.{close_handle}
use Rattle.machine.specs.declared.lock_move.LockMove.{LockMove}
use Rattle.sym_base.specs.declared.kind.Kind.{Kind}

-- a thread that isn't refused is live
live-called : (x : Option ThreadRow) → refusal_of x ≡ None → (row : ThreadRow) → x ≡ Some row → row.stage ≡ Live
live-called None e row is = absurd (cc)
live-called (Some old) e row is =
    let same : old ≡ row = cc in
    ap (λ (r : ThreadRow). r.stage) (sym same) ∙ by (refusal_of_role old.role) old.stage e
  where
    by : (refusal : Option Error) (stage : Stage) → unless_live stage refusal ≡ None → stage ≡ Live
    by None Live e = refl
    by None Doomed e = absurd (cc)
    by None Cleaned e = absurd (cc)
    by None Buried e = absurd (cc)
    by (Some r) stage e = absurd (cc)

module _ (script : Script) (S : State) (t : ObjNo) (old : ThreadRow) (here : thread_of S t ≡ Some old) (rows : AreRows script S) where
  abbrev pub Comes : Instr → Option Part → Decision → Type 0
  Comes i p d = Course script S t old i p d

  -- the row of a thread after one change of it, and after two
  pub on-one : {p : Option Part} {T : State} (i : Instr) (to : Part) (f : ThreadRow → ThreadRow)
      → (f old).part ≡ Some to → (needs_use (Some i) (Some to) ≡ true → is_some (f old).uses ≡ true)
      → (NamesOwn S t old → IsMet S t old i p → IsMet T t (f old) i (Some to)) → (row : ThreadRow)
      → get_or (with_row S.references.threads t f) t.0 None ≡ Some row → is_some row.part ≡ true
      → IsOn S t old i p T to row
  on-one {T = T} i to f part uses met row is later =
      let last = map_some f (thread_of S t) row (sym (row-here S.references.threads t f t.0 refl) ∙ is) in
      let same : old ≡ last.0 = (let a = last.1 in cc) in
      let whole : f old ≡ row = ap f same ∙ last.2 in
      record {
        part = ap (λ (r : ThreadRow). r.part) (sym whole) ∙ part;
        uses = λ needs. ap (λ (r : ThreadRow). is_some r.uses) (sym whole) ∙ uses needs;
        met = λ own had. subst (λ (r : ThreadRow). IsMet T t r i (Some to)) whole (met own had);
      }

  pub on-two : {p : Option Part} {T : State} (i : Instr) (to : Part) (f g : ThreadRow → ThreadRow)
      → (g (f old)).part ≡ Some to → (needs_use (Some i) (Some to) ≡ true → is_some (g (f old)).uses ≡ true)
      → (NamesOwn S t old → IsMet S t old i p → IsMet T t (g (f old)) i (Some to)) → (row : ThreadRow)
      → get_or (with_row (with_row S.references.threads t f) t g) t.0 None ≡ Some row → is_some row.part ≡ true
      → IsOn S t old i p T to row
  on-two {T = T} i to f g part uses met row is later =
      let last = map_some g (get_or (with_row S.references.threads t f) t.0 None) row (sym (row-here (with_row S.references.threads t f) t g t.0 refl) ∙ is) in
      let first = map_some f (thread_of S t) last.0 (sym (row-here S.references.threads t f t.0 refl) ∙ last.1) in
      let same : old ≡ first.0 = (let a = first.1 in cc) in
      let whole : g (f old) ≡ row = ap (λ (r : ThreadRow). g (f r)) same ∙ (ap g first.2 ∙ last.2) in
      record {
        part = ap (λ (r : ThreadRow). r.part) (sym whole) ∙ part;
        uses = λ needs. ap (λ (r : ThreadRow). is_some r.uses) (sym whole) ∙ uses needs;
        met = λ own had. subst (λ (r : ThreadRow). IsMet T t r i (Some to)) whole (met own had);
      }

  -- a test that refuses
  pub tests : {k : Kinds} {i : Instr} {p : Option Part} (b : Bool) (w : Word) (q : Part) (error : Error) (d : Decision)
      → (b ≡ false → FitsAction k script S t d → Comes i p d)
      → FitsAction k script S t (if b then refuse t (Of w q) error else d)
      → Comes i p (if b then refuse t (Of w q) error else d)
  tests {k} {i} {p} b w q error d go fits =
      if_cases (λ (x : Decision). FitsAction k script S t x → Comes i p x) b _ _ (λ _ f. answers _ refl refl (tt, tt))
      (λ no f. go no f) fits

  -- one of two answers
  pub either : {i : Instr} {p : Option Part} (b : Bool) (x y : Decision) → Comes i p x → Comes i p y → Comes i p (if b then x else y)
  either {i} {p} b x y one other = if_cases (Comes i p) b x y (λ _. one) (λ _. other)

  -- a look
  pub looks : {i : Instr} (w : Word) (found : Option ObjNo) → has_step i part.Do ≡ true → AsksOf S t old i found → Comes i None (look_at t w found)
  looks w None has met = answers _ refl refl (tt, tt)
  looks {i} w (Some o) has met =
      goes part.Do has refl refl (tt, (tt, tt))
      (on-two i part.Do (with_part part.Do) (with_use (Some o)) refl (λ _. refl) (λ own had. met own o refl))

  pub seeks : {i : Instr} (w : Word) (found : Option ObjNo) → has_step i part.Return ≡ true
      → uses_at i part.Return ≡ false
      → ((o : ObjNo) → found ≡ Some o → IsMet (perform t (Find t o ∷ []) S) t (with_found o (place_of (object_of S o)) old) i (Some part.Return))
      → Comes i None (seek_object t w found)
  seeks w None has early met = answers _ refl refl (tt, tt)
  seeks {i} w (Some o) has early met =
      goes part.Return has refl refl (tt, tt)
      (on-one i part.Return (with_found o (place_of (object_of S o))) refl (λ needs. absurd (cc)) (λ own had. met o refl))

  -- the calls on threads
  abbrev pub MayCall : Option Move → Type 0
  MayCall move = (m : Move) → move ≡ Some m → AreProper script (stepping S t) (m ∷ Advance t ∷ [])

  pub calls : {i : Instr} {p : Option Part} (w : Word) (error : Error) (move : Option Move) → MayCall move → Comes i p (move_or_refuse t w error move)
  calls w error None may = answers _ refl refl (tt, tt)
  calls w error (Some m) may = answers _ refl refl (may m refl)

  pub unrefused : {i : Instr} {p : Option Part} (w : Word) (refusal : Option Error) (error : Error) (move : Option Move)
      → (refusal ≡ None → MayCall move) → Comes i p (unless_refused t w refusal error move)
  unrefused w None error move may = calls w error move (may refl)
  unrefused w (Some r) error move may = answers _ refl refl (tt, tt)

  pub on-thread : {i : Instr} {p : Option Part} (w : Word) (error : Error) (move : ObjNo → Option Move)
      (uses : Option ObjNo)
      → needs_use (Some i) p ≡ true → old.uses ≡ uses → ((u : ObjNo) → IsLive S u → MayCall (move u))
      → Comes i p (call_on S t w error move uses)
  on-thread w error move None needs e may = idles (unused needs e) refl
  on-thread w error move (Some u) needs e may = unrefused w (refusal_of (thread_of S u)) error (move u) (λ none. may u (live-called (thread_of S u) none))

  pub may-suspend : (u : ObjNo) → IsLive S u → MayCall (suspend_move S u)
  may-suspend u live = by (suspend_count S.synchronization.nano u == 127)
    where
      by : (b : Bool) (m : Move) → (if b then None else Some (Nano (Suspend u))) ≡ Some m → AreProper script (stepping S t) (m ∷ Advance t ∷ [])
      by true m e = absurd (cc)
      by false m e =
          let same : Nano (Suspend u) ≡ m = cc in
          subst (λ (x : Move). AreProper script (stepping S t) (x ∷ Advance t ∷ [])) same ((refl, live, refl), (tt, tt))

  pub may-resume : (u : ObjNo) → IsLive S u → MayCall (resume_move S u)
  may-resume u live = by (suspend_count S.synchronization.nano u == 0)
    where
      by : (b : Bool) (m : Move) → (if b then None else Some (Nano (Resume u))) ≡ Some m → AreProper script (stepping S t) (m ∷ Advance t ∷ [])
      by true m e = absurd (cc)
      by false m e = let same : Nano (Resume u) ≡ m = cc in subst (λ (x : Move). AreProper script (stepping S t) (x ∷ Advance t ∷ [])) same (tt, (tt, tt))

  pub may-set : (priority : ℕ) (u : ObjNo) → IsLive S u → MayCall (Some (SetPriority u priority))
  may-set priority u live m e =
      let same : SetPriority u priority ≡ m = cc in
      subst (λ (x : Move). AreProper script (stepping S t) (x ∷ Advance t ∷ [])) same (tt, (tt, tt))

  pub exits : {i : Instr} {p : Option Part} (w : Word) (exit : Exit) (u : ObjNo) (noted : Option Exit) → Comes i p (exit_unless_noted S t u w exit noted)
  exits w exit u None =
      answers _ refl refl (proper-then script (stepping S t) (doom_or_note S u exit) (Advance t ∷ []) refl
      (proper-any script t S None _ (proper-doom_or_note script S S u exit)) (tt, tt))
  exits w exit u (Some e) = answers _ refl refl (tt, tt)

  pub unrefused-exit : {i : Instr} {p : Option Part} (w : Word) (exit : Exit) (u : ObjNo) (refusal : Option Error)
      → Comes i p (exit_unless_refused S t u w exit refusal)
  unrefused-exit w exit u None = exits w exit u (noted_of S u)
  unrefused-exit w exit u (Some r) = answers _ refl refl (tt, tt)

  pub exit-on : {i : Instr} {p : Option Part} (w : Word) (exit : Exit) (uses : Option ObjNo)
      → needs_use (Some i) p ≡ true → old.uses ≡ uses → Comes i p (exit_on S t w exit uses)
  exit-on w exit None needs e = idles (unused needs e) refl
  exit-on w exit (Some u) needs e = unrefused-exit w exit u (refusal_of (thread_of S u))

  pub types : {i : Instr} {p : Option Part} (uses : Option ObjNo) → needs_use (Some i) p ≡ true → old.uses ≡ uses → Comes i p (exittype_on S t uses)
  types None needs e = idles (unused needs e) refl
  types (Some u) needs e = answers _ refl refl (tt, tt)

  -- handles, each in the thread's table or in that of its process
  own-process : IsOfProcess (Some t) S old.process
  own-process = record { thread = t; goes = refl; row = old; is = here; own = refl }

  abbrev pub Given : Option NewHandle → Type 0
  Given handle = (h : NewHandle) → handle ≡ Some h → MayGive (stepping S t) h.holder

  pub in-process : Given (process_handle S old.process)
  in-process h is = given-in-process (stepping S t) S old.process h own-process is

  pub in-thread : Given (thread_handle S t)
  in-thread h is = given-in-thread (stepping S t) S t h is

  pub gives : {i : Instr} {p : Option Part} (w : Word) (q : Part) (o : ObjNo) (x : ℕ) (handle : Option NewHandle)
      → Given handle → IsOther S o → Comes i p (give_handle t (Of w q) o x handle)
  gives w q o x None given other = answers _ refl refl (tt, tt)
  gives w q o x (Some handle) given other = answers _ refl refl (other-had (stepping S t) handle.holder o (given handle refl) other, (tt, (tt, tt)))

  kind-other : (k : Kind) → kind_stays k ≡ false → is_kind kind.Server k ≡ false
  kind-other kind.Server e = absurd (cc)
  kind-other k e = refl

  stays-other : (o : ObjNo) → old.uses ≡ Some o → stays_with_thread (object_of S o) ≡ false → IsOther S o
  stays-other o e stays = by (object_of S o) refl (use_is_alive S t old o rows.lives here e) stays
    where
      by : (x : Option ObjectRow) → object_of S o ≡ x → IsAlive x → stays_with_thread x ≡ false → IsOther S o
      by None is alive stays = absurd alive
      by (Some row) is alive stays = (row, is, kind-other row.kind stays)

  pub second : {i : Instr} {p : Option Part} (w : Word) (y : ℕ) (handle : Option NewHandle) (uses : Option ObjNo)
      → Given handle → needs_use (Some i) p ≡ true → old.uses ≡ uses → Comes i p (dup_do S t w y handle uses)
  second w y handle None given needs e = idles (unused needs e) refl
  second {i} {p} w y handle (Some o) given needs e =
      if_cases (Comes i p) (stays_with_thread (object_of S o)) _ _ (λ _. answers _ refl refl (tt, tt))
      (λ other. gives w part.Do o y handle given (stays-other o e other))

  gives-opened : (k : Kind) (name : List ℕ) (x : ℕ) (o : ObjNo) (handle : Option NewHandle) → Given handle → old.uses ≡ Some o
      → Comes (instr.Open k name x) (Some part.Do) (give_handle t (Of word.Open part.Do) o x handle)
  gives-opened k name x o None given e = answers _ refl refl (tt, tt)
  gives-opened k name x o (Some handle) given e =
      opens k o _ refl e refl refl (λ other. (
        other-had (stepping S t) handle.holder o (given handle refl) other,
        (tt, (tt, tt)),
      ))

  pub opened : (k : Kind) (name : List ℕ) (x : ℕ) (uses : Option ObjNo) → old.uses ≡ uses → Comes (instr.Open k name x) (Some part.Do) (open_do S t old x uses)
  opened k name x None e = idles (unused refl e) refl
  opened k name x (Some o) e = gives-opened k name x o (process_handle S old.process) in-process e

  pub makes-object : {i : Instr} {p : Option Part} (k : Kind) (name : List ℕ) (start : Option LockMove) (x : ℕ)
      (handle : Option NewHandle)
      → is_kind kind.Server k ≡ false → is_kind kind.Thread k ≡ false → is_kind kind.Session k ≡ false → process_handle S old.process ≡ handle
      → Comes i p (make_with_handle t k name start x handle)
  makes-object k name start x None server thread session is = answers _ refl refl (tt, tt)
  makes-object k name None x (Some handle) server thread session is =
      answers _ refl refl (
        (made-in-process (stepping S t) S old.process k handle server thread own-process is, omega arith, λ other. absurd (cc)),
        (tt, (tt, tt)),
      )
  makes-object k name (Some start) x (Some handle) server thread session is =
      answers _ refl refl (
        (made-in-process (stepping S t) S old.process k handle server thread own-process is, omega arith, λ other. absurd (cc)),
        (tt, (tt, (tt, tt))),
      )

  pub creates : {i : Instr} {p : Option Part} (k : Kind) (name : List ℕ) (start : Option LockMove) (x : ℕ)
      → is_kind kind.Server k ≡ false → is_kind kind.Thread k ≡ false → is_kind kind.Session k ≡ false → Comes i p (create_do S t old k name start x)
  creates k name start x server thread session =
      either (is_taken k name S.references.objects) _ _ (answers _ refl refl (tt, tt))
      (either (no_number_left S) _ _ (answers _ refl refl (tt, tt))
      (makes-object k name start x (process_handle S old.process) server thread session refl))

  holder-handle : (handle : ℕ) → is_handle (holder_of t old handle) ≡ true
  holder-handle handle = if_cases (λ (h : Holder). is_handle h ≡ true) (is_local handle) _ _ (λ _. refl) (λ _. refl)

  pub closes : {i : Instr} {p : Option Part} (handle : ℕ) (o : Option ObjNo) → Comes i p (close_handle S t old handle o)
  closes handle None = answers _ refl refl (tt, tt)
  closes handle (Some o) =
      answers _ refl refl (proper-then script (stepping S t) (close_moves S t (holder_of t old handle) o)
      (Advance t ∷ []) refl (proper-any script t S None _
      (proper-close script S t (holder_of t old handle) o (holder-handle handle))) (tt, tt))

  -- requests, calls and logons
  pub queues : (name : List ℕ) {p : Option Part} (dfc : Option ℕ) → dfc_named script name ≡ dfc → Comes (instr.Queue name) p (queue_named S t dfc)
  queues name None e = idles (unnamed name refl e) refl
  queues name (Some dfc) e =
      either (is_queued S.synchronization.deferred (item.Move dfc)) _ _ (answers _ refl refl (tt, tt))
      (answers _ refl refl ((λ few. named-declared script name dfc e), (tt, tt)))

  pub cancels : {i : Instr} {p : Option Part} (d : ℕ) (status : Option ℕ) → Comes i p (cancel_status t d status)
  cancels d None = answers _ refl refl (tt, tt)
  cancels d (Some s) = answers _ refl refl (tt, (tt, tt))

  pub logs-row : (x s : ℕ) (u : ObjNo) (row : Option ThreadRow) → old.uses ≡ Some u → thread_of S u ≡ row
      → Comes (instr.Logon x s) (Some part.Do) (logon_row t u s row)
  logs-row x s u None e is = idles (rowless u refl e is) refl
  logs-row x s u (Some row) e is = answers _ refl refl (refl, (proper-logon script (stepping S t) t u s row.exit row.stage (Advance t ∷ []), (tt, tt)))

  pub logs : (x s : ℕ) (uses : Option ObjNo) → old.uses ≡ uses → Comes (instr.Logon x s) (Some part.Do) (logon_do S t s uses)
  logs x s None e = idles (unused refl e) refl
  logs x s (Some u) e =
      if_cases (Comes (instr.Logon x s) (Some part.Do)) (is_pending S.synchronization.requests t s) _ _
      (λ is. idles (pending s refl is) refl) (λ _. logs-row x s u (thread_of S u) e refl)
