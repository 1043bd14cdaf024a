-- The moves of bodies fit: those of each operation in the state that the earlier ones left.
use Rattle.std.proofs.Common.{◌≡◌, ℕ, ◌+◌, ◌≤◌, List, [], ◌∷◌, ◌++◌, length, get_or, arith, refl, sym, ap, ◌∙◌, Option, Some, None, Bool, true, false}
use Rattle.std.specs.Prelude.{ℤ, is_some, if◌then◌else◌, option_and_then, slice_get}
use Rattle.std.proofs.lemmas.Bool.{leb-true}
use Rattle.sym_base.specs.declared.kind.Kind.TheVariants.{Thread}
use Rattle.sym_base.specs.declared.number.ObjNo.{ObjNo}
use Rattle.script_types.specs.declared.declaration.DfcDecl.{DfcDecl}
use Rattle.script_types.specs.declared.declaration.IdfcDecl.{IdfcDecl}
use Rattle.script_types.specs.declared.declaration.IrqBody.{IrqBody}
use Rattle.script_types.specs.declared.declaration.Op.{Op}
use Rattle.script_types.specs.declared.declaration.Op.TheVariants as op
use Rattle.script_types.specs.declared.script.Script.{Script}
use Rattle.script_types.specs.Shape.{IsShaped, is_short}
use Rattle.state_rows.specs.Locks.{is_among, waiters_at}
use Rattle.state_rows.specs.Requests.{request_at}
use Rattle.state_rows.specs.declared.locks.LockRows.{LockRows}
use Rattle.state_rows.specs.declared.requests.Request.{Request}
use Rattle.machine.specs.declared.moves.Move.{Move}
use Rattle.machine.specs.declared.moves.Move.TheVariants as move
use Rattle.machine.specs.declared.plan.Body.{Body}
use Rattle.machine.specs.declared.plan.Body.TheVariants.{Interrupt, Immediate, Deferred}
use Rattle.machine.specs.declared.request_move.RequestMove.TheVariants.{Complete}
use Rattle.state_rows.specs.declared.thread.Waiting.{Waiting}
use Rattle.state_rows.specs.declared.thread.Waiting.TheVariants as waiting
use Rattle.state_rows.specs.declared.thread.ThreadRow.{ThreadRow}
use Rattle.machine.specs.declared.state.State.{State}
use Rattle.state_rows.specs.DeclaredCalls.{dfc_named, idfc_named}
use Rattle.machine.specs.Bodies.{complete, end_wait, ends_wait, irq_of, leave_queue, op_moves, ops_moves, ops_of, ops_of_dfc, ops_of_idfc, ops_of_irq, queue_call, queue_immediate, queue_to_move, run_body, signal_object, signal_row}
use Rattle.machine.specs.FastSemaphore.{signal_move}
use Rattle.machine.specs.Find.{find_object}
use Rattle.machine.specs.Fits.{EachFits, Sane, WaitsNowhere, most_owed, most_told}
use Rattle.machine.specs.FitsServers.{IsUncalled}
use Rattle.machine.specs.Moves.{perform, tell}
use Rattle.machine.specs.References.{total}
use Rattle.machine.specs.Rows.{owed_of, thread_of}
use Rattle.machine.specs.Serving.{times_called}
use Rattle.machine.specs.ThreadCalls.{is_live}
use Rattle.machine.specs.WellFormed.{AreRows, weight}
use Rattle.machine.proofs.Instructions.{all_at}
use Rattle.move_laws.proofs.Lists.Cases.{if_cases}
use Rattle.move_laws.proofs.Lists.Totals.{inside, total-append}
use Rattle.move_laws.proofs.MoveLaws.Run.{each-sound, sane-after}
use Rattle.move_laws.proofs.Numbers.FewEffects.{tell_few}
use Rattle.move_laws.proofs.RowLaws.Declared.{dfc_inside, idfc_inside, queue_inside}
use Rattle.machine_laws.proofs.Fitting.Stepping.{fits-both}
use Rattle.machine_laws.proofs.Fitting.Uncalled.{is_uncalled}
use Rattle.machine_laws.proofs.Fitting.Waiters.{waits_nowhere}
use Rattle.machine_laws.proofs.Fitting.Regular.{IsTame, Kinds, going_bit, once_bit, plain}
use Rattle.machine_laws.proofs.Fitting.Tame.{tame-both, tame-moves}

-- the moves fit one by one, what they may owe has room, and they tell at most four effects
pub record Goes (script : Script) (t : ObjNo) (S : State) (ms : List Move) : Type 0 where
  pub each : EachFits script t ms S
  pub few : total weight (owed_of S t) + total most_owed ms ≤ 12
  pub told : length (tell t ms S) ≤ 4

-- moves that fit one by one, owe nothing, tell at most so many effects, and are tame for their kind
pub record OwesNothing (k : Kinds) (script : Script) (t : ObjNo) (S : State) (ms : List Move) (most : ℕ) : Type 0 where
  pub each : EachFits script t ms S
  pub told : total most_told ms ≤ most
  pub light : total most_owed ms ≡ 0
  pub calm : IsTame k 0 ms

-- so none of them gives a reference up, or makes an object
losses-owe : (ms : List Move) → total once_bit ms ≤ total most_owed ms + total going_bit ms
losses-owe [] = omega arith
losses-owe (move.Make kind name h ∷ ms) = let rest = losses-owe ms in omega arith
losses-owe (move.Lose h o ∷ ms) = let rest = losses-owe ms in omega arith
losses-owe (m ∷ ms) = let rest = losses-owe ms in omega arith

pub light_loses : {k : Kinds} {script : Script} {t : ObjNo} {S : State} {ms : List Move} {most : ℕ} → OwesNothing k script t S ms most → k.goes ≡ false
    → total once_bit ms ≡ 0
light_loses {ms = ms} h stays = let few = losses-owe ms in let none = h.light in let rest = h.calm.goes stays in omega arith

-- there is room for what they owe
pub light_few : (script : Script) (S : State) (t : ObjNo) (ms : List Move) → AreRows script S → total most_owed ms ≡ 0
    → total weight (owed_of S t) + total most_owed ms ≤ 12
light_few script S t ms rows light = let few = rows.references.duties.few t.0 in omega arith

pub goes-light : (script : Script) (S : State) (t : ObjNo) (ms : List Move) → AreRows script S → OwesNothing plain script t S ms 4 → Goes script t S ms
goes-light script S t ms rows h = record {
  each = h.each;
  few = light_few script S t ms rows h.light;
  told = let few = h.told in let most = tell_few t ms S in omega arith;
}

-- moves, and others in the state that they leave
pub light-then : {k : Kinds} (script : Script) (S : State) (t : ObjNo) (xs ys : List Move) (n m most : ℕ) → n + m ≤ most
    → OwesNothing k script t S xs n → OwesNothing k script t (perform t xs S) ys m
    → k.goes ≡ false → OwesNothing k script t S (xs ++ ys) most
light-then script S t xs ys n m most fits h more stays =
    let told = total-append most_told xs ys in
    let owed = total-append most_owed xs ys in
    let few = h.told in
    let too = more.told in
    let light = h.light in
    let lighter = more.light in
    record {
      each = fits-both script S t xs ys h.each more.each;
      told = omega arith;
      light = omega arith;
      calm = tame-both xs ys (let none = light_loses h stays in let few = more.calm.loses in omega arith) h.calm more.calm;
    }

-- the thread that acts is there still, and the rows are rows
pub sane-light : {k : Kinds} (script : Script) (S : State) (t : ObjNo) (ms : List Move) (n : ℕ)
    → OwesNothing k script t S ms n → Sane script t S → Sane script t (perform t ms S)
sane-light script S t ms n h s =
    sane-after script S (perform t ms S) t (tell t ms S) s
    (each-sound script S t ms h.each (light_few script S t ms s.rows h.light) s)

pub no_moves : {k : Kinds} (script : Script) (S : State) (t : ObjNo) (n : ℕ) → OwesNothing k script t S [] n
no_moves script S t n = record { each = tt; told = omega arith; light = refl; calm = tame-moves [] refl refl }

-- a signal of a thread's fast semaphore
light-signal : (script : Script) (S : State) (t u : ObjNo) (row : ThreadRow) (what : Waiting) → AreRows script S
    → thread_of S u ≡ Some row → row.waiting ≡ what → OwesNothing plain script t S (signal_move u what ∷ []) 1
light-signal script S t u row waiting.Fast rows is waits = record {
  each = (
    (
      waits_nowhere script S u row rows is (λ o e. absurd (cc)),
      is_uncalled script S u row rows is (λ e. absurd (cc)),
    ),
    tt,
  );
  told = omega arith;
  light = refl;
  calm = tame-moves _ refl refl;
}
light-signal script S t u row _ rows is waits = record { each = ((ap is_some is, tt), tt); told = omega arith; light = refl; calm = tame-moves _ refl refl }

light-named : (script : Script) (S : State) (t : ObjNo) (named : Option ObjNo) → AreRows script S → OwesNothing plain script t S (signal_object S named) 1
light-named script S t None rows = no_moves script S t 1
light-named script S t (Some u) rows = by (thread_of S u) refl
  where
    by : (row : Option ThreadRow) → thread_of S u ≡ row → OwesNothing plain script t S (signal_row u row) 1
    by None is = no_moves script S t 1
    by (Some row) is = if_cases (λ (ms : List Move). OwesNothing plain script t S ms 1) (is_live row.stage) _ _
        (λ _. light-signal script S t u row row.waiting rows is refl) (λ _. no_moves script S t 1)

-- a completion, and the end of its thread's wait, which isn't one for an object
ends_no_lock : (S : State) (u : ObjNo) (s : ℕ) (what : Waiting) (o : ObjNo) → ends_wait S u s what ≡ true → what ≡ waiting.Lock o → ⊥
ends_no_lock S u s (waiting.Lock x) o ends is = cc
ends_no_lock S u s _ o ends is = cc

ends_no_reply : (S : State) (u : ObjNo) (s : ℕ) (what : Waiting) → ends_wait S u s what ≡ true → what ≡ waiting.Reply → ⊥
ends_no_reply S u s waiting.Reply ends is = cc
ends_no_reply S u s _ ends is = cc

pub light-end : {k : Kinds} (script : Script) (S T : State) (t u : ObjNo) (s : ℕ) (row : Option ThreadRow)
    → AreRows script S → T.synchronization.locks ≡ S.synchronization.locks → T.references.threads ≡ S.references.threads
    → times_called T.serving.messages.outstanding u ≤ times_called S.serving.messages.outstanding u
    → thread_of S u ≡ row → OwesNothing k script t T (end_wait S u s row) 0
light-end script S T t u s None rows same threads fewer is = no_moves script T t 0
light-end {k = k} script S T t u s (Some row) rows same threads fewer is = by (ends_wait S u s row.waiting) refl
  where
    nowhere : ends_wait S u s row.waiting ≡ true → WaitsNowhere T u
    nowhere ends o = ap (λ (r : LockRows). is_among u (waiters_at r o)) same
        ∙ waits_nowhere script S u row rows is (λ x waits. ends_no_lock S u s row.waiting x ends waits) o

    calls : ends_wait S u s row.waiting ≡ true → IsUncalled T u
    calls ends = λ r at live. let none = is_uncalled script S u row rows is
        (λ waits. ends_no_reply S u s row.waiting ends waits) r
        (ap (λ (threads : List (Option ThreadRow)). get_or threads u.0 None) (sym threads) ∙ at) live in omega arith

    by : (b : Bool) → ends_wait S u s row.waiting ≡ b → OwesNothing k script t T (if b then move.Wake u ∷ [] else []) 0
    by true ends = record { each = ((nowhere ends, calls ends), tt); told = omega arith; light = refl; calm = tame-moves _ refl refl }
    by false ends = no_moves script T t 0

light-complete : (script : Script) (S : State) (t : ObjNo) (d : ℕ) (code : ℤ) (request : Option Request)
    → AreRows script S → request_at S.synchronization.requests d ≡ request
    → OwesNothing plain script t S (complete S d code request) 1
light-complete script S t d code None rows is = no_moves script S t 1
light-complete script S t d code (Some request) rows is =
    light-then script S t (move.Requests (Complete d request.thread request.status code) ∷ []) _ 1 0 1 (omega arith)
    (record {
      each = (((inside S.synchronization.requests.devices d request is, is), tt), tt);
      told = omega arith;
      light = refl;
      calm = tame-moves _ refl refl;
    })
    (light-end script S _ t request.thread request.status (thread_of S request.thread) rows refl refl (omega arith) refl) refl

-- an operation
pub light-op : (script : Script) (S : State) (t : ObjNo) (operation : Op) → AreRows script S → OwesNothing plain script t S (op_moves script S operation) 1
light-op script S t (op.Idfc name) rows = by (idfc_named script name) refl
  where
    by : (found : Option ℕ) → idfc_named script name ≡ found → OwesNothing plain script t S (queue_immediate found) 1
    by None is = no_moves script S t 1
    by (Some call) is = record {
      each = (
        idfc_inside script S.synchronization.deferred name call
            rows.synchronization.deferred is,
        tt,
      );
      told = omega arith;
      light = refl;
      calm = tame-moves _ refl refl;
    }
light-op script S t (op.Dfc name) rows = by (dfc_named script name) refl
  where
    by : (found : Option ℕ) → dfc_named script name ≡ found → OwesNothing plain script t S (queue_to_move found) 1
    by None is = no_moves script S t 1
    by (Some dfc) is = record {
      each = (
        dfc_inside script S.synchronization.deferred name dfc
            rows.synchronization.deferred is,
        tt,
      );
      told = omega arith;
      light = refl;
      calm = tame-moves _ refl refl;
    }
light-op script S t (op.Fssignal name) rows = light-named script S t (find_object S Thread name) rows
light-op script S t (op.Device d code) rows = light-complete script S t d code (request_at S.synchronization.requests d) rows refl
light-op script S t (op.Queue name) rows = by (dfc_named script name) refl
  where
    by : (found : Option ℕ) → dfc_named script name ≡ found → OwesNothing plain script t S (queue_call S found) 1
    by None is = no_moves script S t 1
    by (Some dfc) is = record {
      each = (
        (
          dfc_inside script S.synchronization.deferred name dfc
              rows.synchronization.deferred is,
          refl,
        ),
        tt,
      );
      told = omega arith;
      light = refl;
      calm = tame-moves _ refl refl;
    }

-- operations, each in the state that the earlier ones left
pub light-ops : (script : Script) (S : State) (t : ObjNo) (ops : List Op) → Sane script t S
    → OwesNothing plain script t S (ops_moves script t S ops) (length ops)
light-ops script S t [] s = no_moves script S t 0
light-ops script S t (first ∷ rest) s =
    let ms = op_moves script S first in
    let one = light-op script S t first s.rows in
    light-then script S t ms (ops_moves script t (perform t ms S) rest) 1 (length rest) (length (first ∷ rest))
    (omega arith) one (light-ops script (perform t ms S) t rest (sane-light script S t ms 1 one s)) refl

-- a call leaves its queue
pub light-leave : (script : Script) (S : State) (t : ObjNo) (body : Body) → AreRows script S → OwesNothing plain script t S (leave_queue S body) 0
light-leave script S t (Interrupt k) rows = no_moves script S t 0
light-leave script S t (Immediate call) rows = record { each = (tt, tt); told = omega arith; light = refl; calm = tame-moves _ refl refl }
light-leave script S t (Deferred dfc) rows = record {
  each = (queue_inside script S.synchronization.deferred dfc rows.synchronization.deferred, tt);
  told = omega arith;
  light = refl;
  calm = tame-moves _ refl refl;
}

-- a body of a well-formed script has at most four operations
short_dfc : (script : Script) (k : ℕ) (found : Option DfcDecl) → IsShaped script → slice_get script.dfcs k ≡ found → length (ops_of_dfc found) ≤ 4
short_dfc script k None shaped is = omega arith
short_dfc script k (Some dfc) shaped is = leb-true (length dfc.body) 4 (all_at (λ (d : DfcDecl). is_short d.body) script.dfcs k dfc shaped.dfc_bodies is)

short_idfc : (script : Script) (k : ℕ) (found : Option IdfcDecl) → IsShaped script → slice_get script.idfcs k ≡ found → length (ops_of_idfc found) ≤ 4
short_idfc script k None shaped is = omega arith
short_idfc script k (Some idfc) shaped is = leb-true (length idfc.body) 4 (all_at (λ (d : IdfcDecl). is_short d.body) script.idfcs k idfc shaped.idfc_bodies is)

short_irq : (script : Script) (place : Option ℕ) (found : Option IrqBody) → IsShaped script
    → option_and_then (slice_get script.irqs) place ≡ found → length (ops_of_irq found) ≤ 4
short_irq script place None shaped is = omega arith
short_irq script None (Some irq) shaped is = absurd (cc)
short_irq script (Some k) (Some irq) shaped is = leb-true (length irq.body) 4 (all_at (λ (i : IrqBody). is_short i.body) script.irqs k irq shaped.irq_bodies is)

pub short_body : (script : Script) (body : Body) → IsShaped script → length (ops_of script body) ≤ 4
short_body script (Interrupt k) shaped = short_irq script _ (irq_of script k) shaped refl
short_body script (Immediate call) shaped = short_idfc script call (slice_get script.idfcs call) shaped refl
short_body script (Deferred dfc) shaped = short_dfc script dfc (slice_get script.dfcs dfc) shaped refl

-- what a body does in an action of a thread
pub light-body : (script : Script) (S : State) (t : ObjNo) (body : Body) → IsShaped script → Sane script t S
    → OwesNothing plain script t S (run_body script t S body).moves 4
light-body script S t body shaped s =
    let leave = leave_queue S body in
    let left = light-leave script S t body s.rows in
    let done = light-ops script (perform t leave S) t (ops_of script body) (sane-light script S t leave 0 left s) in
    light-then script S t leave _ 0 (length (ops_of script body)) 4 (let short = short_body script body shaped in omega arith) left done refl
