-- The steps of each instruction.
use Rattle.std.proofs.Common.{◌≡◌, ◌≢◌, ℕ, ◌<◌, ◌≤◌, List, ◌∷◌, arith, refl, sym, ap, subst, Option, Some, None, Bool, true, false, []}
use Rattle.std.proofs.lemmas.Bool.{eq-eqb}
use Rattle.std.specs.Prelude.{pos, if◌then◌else◌, is_some, slice_index}
use Rattle.sym_base.specs.declared.error.Error.TheVariants.{AlreadyExists, Overflow, PermissionDenied, BadHandle}
use Rattle.sym_base.specs.declared.kind.Kind.{Kind}
use Rattle.sym_base.specs.declared.kind.Kind.TheVariants.{Mutex, Semaphore}
use Rattle.sym_base.specs.declared.limits.TheConstants.Limits.{OBJECTS}
use Rattle.sym_base.specs.declared.number.ObjNo.{ObjNo}
use Rattle.sym_base.specs.declared.word.Word.{Word}
use Rattle.sym_base.specs.declared.word.Word.TheVariants as word
use Rattle.script_types.specs.declared.script.Script.{Script}
use Rattle.script_types.proofs.LimitLaws.{instr_in, number_in}
use Rattle.script_types.specs.declared.instruction.Instr.{Instr}
use Rattle.script_types.specs.declared.instruction.Instr.TheVariants as instr
use Rattle.state_rows.specs.ObjectRows.{is_taken}
use Rattle.entry_log.specs.declared.effect.Holder.TheVariants.{InProcess, InThread}
use Rattle.entry_log.specs.declared.step.Part.{Part}
use Rattle.entry_log.specs.declared.step.Part.TheVariants as part
use Rattle.entry_log.specs.declared.step.Step.TheVariants.{Of}
use Rattle.machine.specs.declared.handles.NewHandle.{NewHandle}
use Rattle.machine.specs.declared.lock_move.LockMove.{LockMove}
use Rattle.machine.specs.declared.lock_move.LockMove.TheVariants.{Start}
use Rattle.machine.specs.declared.moves.Move.TheVariants.{Make}
use Rattle.state_rows.specs.declared.thread.ThreadRow.{ThreadRow}
use Rattle.machine.specs.declared.state.State.{State}
use Rattle.machine.specs.Rows.{object_of, table_of}
use Rattle.machine.specs.Handles.{object_at, holder_of}
use Rattle.state_rows.specs.HandleSlots.{slot_at}
use Rattle.state_rows.specs.HandleNumbers.{index_of, is_local}
use Rattle.machine.specs.Closing.{close_moves}
use Rattle.machine.specs.Moves.{moved, perform, next_object, new_object, no_number_left}
use Rattle.move_laws.proofs.Lives.Fresh.{next_fresh}
use Rattle.move_laws.proofs.Lives.NewObjects.{made-own, next_number_is}
use Rattle.machine.specs.References.{count_of, stage_holds, total}
use Rattle.machine.specs.Close.{close_do, close_handle}
use Rattle.machine.specs.Create.{start_moves, create_do, create_mutex_do, create_semaphore_do, make_with_handle}
use Rattle.machine.specs.Decide.{give_handle}
use Rattle.machine.specs.Dup.{dup_do, dup_step, duplocal_step, stays_with_thread}
use Rattle.machine.specs.Open.{open_do, open_step}
use Rattle.machine.specs.Out.{is_returning}
use Rattle.machine.specs.Fits.{EachFits, HasName, IsFree, most_told, most_owed}
use Rattle.machine.specs.WellFormed.{IsAlive, is_before_use}
use Rattle.move_laws.proofs.Numbers.FewEffects.{lock-tells, lock-owes}
use Rattle.move_laws.proofs.Lists.Cases.{if_cases}
use Rattle.move_laws.proofs.RowLaws.Tables.{object_of_is}
use Rattle.machine_laws.proofs.Fitting.Closing.{IsHandle, MayClose, closes, handle_of_process, handle_of_thread, stay-close}
use Rattle.machine_laws.proofs.Fitting.LiveObjects.{use_is_counted}
use Rattle.machine_laws.proofs.Fitting.KernelThreads.{fits-unless}
use Rattle.machine_laws.proofs.Fitting.Stepping.{FitsDecision, FitsStep, IsStepping, answers_step, by_kinds, fits-handle, fits-nothing, fits-refuse, ends_here}
use Rattle.machine_laws.proofs.Fitting.Staying.{stay-perform}
use Rattle.machine_laws.proofs.Fitting.Shared.{fits-look, fits-seek, fits-give, fits-give_own, of_process_handle}
use Rattle.machine_laws.proofs.Fitting.Regular.{IsTame, calling, looking, once_bit, plain}
use Rattle.machine_laws.proofs.Fitting.Tame.{may_tell, tame-both, tame-in, tame-moves, tame-going}

-- what follows the making of an object fits then, leaves the threads, and is tame
record Begins (script : Script) (t : ObjNo) (start : Option LockMove) (T : State) : Type 0 where
  pub each : EachFits script t (start_moves start) T
  pub threads : (perform t (start_moves start) T).references.threads ≡ T.references.threads
  pub calm : IsTame plain 0 (start_moves start)

start_told : (start : Option LockMove) → total most_told (start_moves start) ≤ 3
start_told None = omega arith
start_told (Some m) = let few = lock-tells m in omega arith

start_owed : (start : Option LockMove) → total most_owed (start_moves start) ≤ 4
start_owed None = omega arith
start_owed (Some m) = let few = lock-owes m in omega arith

start_once : (start : Option LockMove) → total once_bit (start_moves start) ≡ 0
start_once None = refl
start_once (Some m) = refl

-- there is room for an object where objects aren't full
pub room_left : {script : Script} {S : State} {t : ObjNo} {row : ThreadRow} {instr : Instr}
    → IsStepping script S t row instr → no_number_left S ≡ false → (next_object S).0 < OBJECTS
room_left {S = S} h room =
    let few = h.rows.references.sized.objects_few in
    let le = (next_number_is S.mode.reuse S.references.objects).0 in
    let apart : (next_object S).0 ≢ OBJECTS = λ e. cc (eq-eqb (next_object S).0 OBJECTS e) in
    omega arith

-- `create`
fits-create : {script : Script} {S : State} {t : ObjNo} {row : ThreadRow} {instr : Instr} (kind : Kind) (name : List ℕ)
    (start : Option LockMove) (x : ℕ)
    → HasName kind name → IsStepping script S t row instr → x < 8
    → ((i : ℕ) → Begins script t start (moved t (Make kind name (InProcess row.process i)) S))
    → FitsDecision looking script t S (create_do S t row kind name start x)
fits-create {script = script} {S = S} {t = t} {row = row} kind name start x named h register begins =
    if_cases (FitsDecision looking script t S) (is_taken kind name S.references.objects) _ _ (λ _. fits-refuse (Of word.Create part.Do) refl AlreadyExists h)
    (λ new. if_cases (FitsDecision looking script t S) (no_number_left S) _ _ (λ _. fits-refuse (Of word.Create part.Do) refl Overflow h)
    (λ room. of_process_handle (λ handle. FitsDecision looking script t S (make_with_handle t kind name start x handle))
    h (fits-refuse (Of word.Create part.Do) refl Overflow h) (made new (room_left h room))))
  where
    made : is_taken kind name S.references.objects ≡ false → (next_object S).0 < OBJECTS → (i number : ℕ)
        → IsFree S (InProcess row.process i) → FitsDecision looking script t S
        (make_with_handle t kind name start x (Some (record { holder = InProcess row.process i; number = number })))
    made new room i number free =
        let told = start_told start in
        let owed = start_owed start in
        fits-handle (Of word.Create part.Do) refl
        (Make kind name (InProcess row.process i) ∷ start_moves start) x number
        (tame-both (Make kind name (InProcess row.process i) ∷ []) (start_moves start)
        (let none = start_once start in omega arith) (tame-going _ refl refl refl) (tame-in (begins i).calm)) h
        register ((record { room = room; new = new }, free, named, tt), (begins i).each) (begins i).threads
        (omega arith) (omega arith)

pub fits-create_mutex : {script : Script} {S : State} {t : ObjNo} {row : ThreadRow} (name : List ℕ) (x : ℕ)
    → IsStepping script S t row (instr.CreateMutex name x)
    → FitsDecision looking script t S (create_mutex_do S t row name x)
fits-create_mutex name x h =
    fits-create Mutex name None x (λ e. absurd (cc)) h h.registers.0
    (λ i. record { each = tt; threads = refl; calm = tame-moves [] refl refl })

pub fits-create_semaphore : {script : Script} {S : State} {t : ObjNo} {row : ThreadRow} (name : List ℕ) (count x : ℕ)
    → IsStepping script S t row (instr.CreateSemaphore name count x)
    → FitsDecision looking script t S (create_semaphore_do S t row name count x)
fits-create_semaphore {script = script} {S = S} name count x h =
    fits-create Semaphore name (Some (Start (next_object S) count)) x (λ e. absurd (cc)) h h.registers.0 (λ i. record {
      each = (
        record {
          object =
              subst IsAlive (sym (made-own S.references.objects (next_object S).0 (new_object Semaphore name S.references.made)
              (next_number_is S.mode.reuse S.references.objects).0)) refl;
          few = (number_in 0 2147483647 count (instr_in (instr.CreateSemaphore name count x) h.ranges).1.1.0).1;
          free = (next_fresh script S h.rows).owner;
          alone = (next_fresh script S h.rows).waiters;
        },
        tt,
      );
      threads = refl;
      calm = tame-moves _ refl refl;
    })

-- `dup` and `duplocal`
fits-dup_do : {script : Script} {S : State} {t : ObjNo} {row : ThreadRow} {instr : Instr} (word : Word)
    (named : may_tell plain (Of word part.Do) ≡ true) (y : ℕ) (handle : Option NewHandle) (uses : Option ObjNo)
    → IsStepping script S t row instr → row.uses ≡ uses
    → ((o : ObjNo) → 0 < count_of S o → FitsDecision looking script t S (give_handle t (Of word part.Do) o y handle))
    → FitsDecision looking script t S (dup_do S t word y handle uses)
fits-dup_do {script = script} {S = S} {t = t} word named y handle None h e given = fits-nothing script S t
fits-dup_do {script = script} {S = S} {t = t} {row = row} word named y handle (Some o) h e given =
    if_cases (FitsDecision looking script t S) (stays_with_thread (object_of S o)) _ _ (λ _. fits-refuse (Of word part.Do) named PermissionDenied h)
    (λ _. given o (use_is_counted S t row o h.is e))

pub fits-dup : {script : Script} {S : State} {t : ObjNo} {row : ThreadRow} {instr : Instr} (x y : ℕ) (p : Option Part)
    → IsStepping script S t row instr → y < 8 → row.part ≡ p → FitsDecision looking script t S (dup_step S t row x y p)
fits-dup x y None h register at = fits-look word.Dup x refl refl h (ap is_before_use at)
fits-dup {row = row} x y (Some p) h register at =
    fits-dup_do word.Dup refl y _ row.uses h refl
    (λ o counted. fits-give (Of word.Dup part.Do) refl o y refl h register counted)

pub fits-duplocal : {script : Script} {S : State} {t : ObjNo} {row : ThreadRow} {instr : Instr} (x y : ℕ)
    (p : Option Part)
    → IsStepping script S t row instr → y < 8 → row.part ≡ p
    → FitsDecision looking script t S (duplocal_step S t row x y p)
fits-duplocal x y None h register at = fits-look word.Duplocal x refl refl h (ap is_before_use at)
fits-duplocal {row = row} x y (Some p) h register at =
    fits-dup_do word.Duplocal refl y _ row.uses h refl
    (λ o counted. fits-give_own (Of word.Duplocal part.Do) refl o y refl h register counted)

-- `open`
fits-open_do : {script : Script} {S : State} {t : ObjNo} {row : ThreadRow} {instr : Instr} (x : ℕ) (uses : Option ObjNo)
    → IsStepping script S t row instr → x < 8 → row.uses ≡ uses
    → FitsDecision looking script t S (open_do S t row x uses)
fits-open_do {script = script} {S = S} {t = t} x None h register e = fits-nothing script S t
fits-open_do {S = S} {t = t} {row = row} x (Some o) h register e = fits-give (Of word.Open part.Do) refl o x refl h register (use_is_counted S t row o h.is e)

pub fits-open : {script : Script} {S : State} {t : ObjNo} {row : ThreadRow} (kind : Kind) (name : List ℕ) (x : ℕ)
    (p : Option Part)
    → IsStepping script S t row (instr.Open kind name x) → x < 8 → row.part ≡ p
    → FitsDecision looking script t S (open_step S t row kind name x p)
fits-open kind name x None h register at =
    fits-unless (Of word.Open part.Seek) refl _ h
    (λ none. fits-seek word.Open kind name refl h refl (ap is_before_use at) none)
fits-open {row = row} kind name x (Some p) h register at = fits-open_do x row.uses h register refl

-- the handle of an object stands in the table of the thread or of its process
handle_by : {script : Script} {S : State} {t : ObjNo} {row : ThreadRow} {instr : Instr} (local : Bool) (i : ℕ)
    (o : ObjNo)
    → IsStepping script S t row instr → (slot_at (table_of S (if local then t else row.process)) i).object ≡ Some o
    → IsHandle S t (if local then InThread t i else InProcess row.process i) o
handle_by {S = S} {t = t} true i o h is = handle_of_thread S t i o (ap is_some h.is) is
handle_by {S = S} {t = t} {row = row} false i o h is = handle_of_process S row.process i o (h.rows.references.threads.processes t.0 row h.is) is

pub handle_named : {script : Script} {S : State} {t : ObjNo} {row : ThreadRow} {instr : Instr} (handle : ℕ) (o : ObjNo)
    → IsStepping script S t row instr → object_at S t row handle ≡ Some o → IsHandle S t (holder_of t row handle) o
handle_named handle o h is = handle_by (is_local handle) (index_of handle) o h (object_of_is _ _ _ o is)

-- `close`
pub fits-close : {script : Script} {S : State} {t : ObjNo} {row : ThreadRow} {instr : Instr} (x : ℕ)
    → IsStepping script S t row instr → is_returning row.part ≡ false → FitsStep calling script t S (close_do S t row x)
fits-close {script = script} {S = S} {t = t} {row = row} x h going = closed (slice_index row.registers x) (object_at S t row (slice_index row.registers x)) refl
  where
    may_close : MayClose script S t
    may_close = record { rows = h.rows; row = row; is = h.is; waits = h.waits; held = ap stage_holds (h.live); going = going }

    closed : (handle : ℕ) (named : Option ObjNo) → object_at S t row handle ≡ named → FitsStep calling script t S (close_handle S t row handle named)
    closed handle None e = by_kinds script S t _ (fits-refuse (Of word.Close part.Do) refl BadHandle h)
    closed handle (Some o) e =
        let holder = holder_of t row handle in
        let done = closes script S t holder o may_close (handle_named handle o h e) in
        answers_step (Of word.Close part.Do) refl (close_moves S t holder o) (pos 0) done.calm done.each
        (stay-perform script t (close_moves S t holder o) S (stay-close script S t holder o) (ends_here h)) done.told
        (let few = done.light in omega arith)
