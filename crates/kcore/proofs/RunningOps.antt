-- The operations of a body, one after the other. None of them gives a reference up, so they leave the choice as it was.
use Rattle.std.proofs.Common.{◌≡◌, ℕ, ◌+◌, ◌*◌, ◌≤◌, Bool, List, [], ◌∷◌, ◌++◌, length, arith, refl, sym, ap, subst, ◌∙◌, append_assoc, append-nil, length-append, Option, Some, None, ℤ}
use Rattle.sym_base.specs.declared.number.ObjNo.{ObjNo}
use Rattle.script_types.specs.declared.declaration.Op.{Op}
use Rattle.script_types.specs.declared.declaration.Op.TheVariants as op
use Rattle.script_types.specs.declared.script.Script.{Script}
use Rattle.entry_log.specs.declared.effect.Effect.{Effect}
use Rattle.ready_list.specs.Ready.{Ready}
use Rattle.state_rows.specs.DeclaredCalls.{idfc_named, dfc_named}
use Rattle.state_rows.specs.declared.requests.Request.{Request}
use Rattle.state_rows.specs.Requests.{request_at}
use Rattle.state_rows.specs.declared.thread.ThreadRow.{ThreadRow}
use Rattle.state_rows.specs.declared.thread.Waiting.{Waiting}
use Rattle.state_rows.specs.declared.thread.Waiting.TheVariants.{Fast}
use Rattle.sym_base.specs.declared.kind.Kind.TheVariants.{Thread}
use Rattle.machine.specs.declared.mode.Mode.{Mode}
use Rattle.machine.specs.declared.moves.Move.{Move}
use Rattle.machine.specs.declared.plan.Body.{Body}
use Rattle.machine.specs.declared.plan.Body.TheVariants.{Interrupt, Immediate, Deferred}
use Rattle.machine.specs.declared.state.State.{State}
use Rattle.machine.specs.Bodies.{complete, end_wait, ends_wait, leave_queue, op_moves, ops_moves, queue_call, queue_immediate, queue_to_move, signal_object, signal_row}
use Rattle.machine.specs.FastSemaphore.{signal_move}
use Rattle.machine.specs.Find.{find_object}
use Rattle.machine.specs.History.{keeping}
use Rattle.machine.specs.Moves.{moved, perform, tell}
use Rattle.machine.specs.References.{total}
use Rattle.machine.specs.Rows.{thread_of}
use Rattle.machine.specs.ThreadCalls.{is_live}
use Rattle.move_laws.proofs.Lists.Cases.{if_cases}
use Rattle.machine_laws.proofs.Reached.Choices.{blind-all}
use Rattle.machine_laws.proofs.Reached.Modes.{mode-perform}
use Rattle.machine_laws.proofs.Sharing.Moved.{tell-both}
use Rattle.table_moves.specs.Notes.{Notes}
use Rattle.kernel_tables.specs.Choosing.{AreNotesMade, AreSoughtBeside, MayChoose, closing_bit}
use Rattle.kernel_tables.specs.Moved.{MovesGo, making_bit}
use Rattle.kernel_tables.specs.Performed.{IsPerformed}
use Rattle.kernel_tables.proofs.Performing.{OnTheWay, calm_state, closes_all, closes_append, made-move, made_performed, moves_part, part_goes_on, performed_then, sought-move, unchosen, way_begins, way_ends}

-- 1 for a move that gives a reference up or makes an object
abbrev quiet_bit : Move → ℕ
quiet_bit m = closing_bit m + making_bit m

quiet_both : (ms : List Move) → total quiet_bit ms ≡ total closing_bit ms + total making_bit ms
quiet_both [] = refl
quiet_both (m ∷ ms) = let rest = quiet_both ms in omega arith

-- no operation gives a reference up, or makes an object
calm_immediate : (found : Option ℕ) → total quiet_bit (queue_immediate found) ≡ 0
calm_immediate None = refl
calm_immediate (Some item) = refl

calm_to_move : (found : Option ℕ) → total quiet_bit (queue_to_move found) ≡ 0
calm_to_move None = refl
calm_to_move (Some dfc) = refl

calm_call : (S : State) (found : Option ℕ) → total quiet_bit (queue_call S found) ≡ 0
calm_call S None = refl
calm_call S (Some dfc) = refl

calm_signal : (u : ObjNo) (what : Waiting) → total quiet_bit (signal_move u what ∷ []) ≡ 0
calm_signal u Fast = refl
calm_signal u _ = refl

calm_row : (u : ObjNo) (row : Option ThreadRow) → total quiet_bit (signal_row u row) ≡ 0
calm_row u None = refl
calm_row u (Some row) = if_cases (λ (ms : List Move). total quiet_bit ms ≡ 0) (is_live row.stage) _ _ (λ _. calm_signal u row.waiting) (λ _. refl)

calm_object : (S : State) (found : Option ObjNo) → total quiet_bit (signal_object S found) ≡ 0
calm_object S None = refl
calm_object S (Some u) = calm_row u (thread_of S u)

calm_end : (S : State) (u : ObjNo) (s : ℕ) (row : Option ThreadRow) → total quiet_bit (end_wait S u s row) ≡ 0
calm_end S u s None = refl
calm_end S u s (Some row) = if_cases (λ (ms : List Move). total quiet_bit ms ≡ 0) (ends_wait S u s row.waiting) _ _ (λ _. refl) (λ _. refl)

calm_complete : (S : State) (d : ℕ) (code : ℤ) (request : Option Request) → total quiet_bit (complete S d code request) ≡ 0
calm_complete S d code None = refl
calm_complete S d code (Some request) = let rest = calm_end S request.thread request.status (thread_of S request.thread) in omega arith

op_quiet : (script : Script) (S : State) (o : Op) → total quiet_bit (op_moves script S o) ≡ 0
op_quiet script S (op.Idfc name) = calm_immediate (idfc_named script name)
op_quiet script S (op.Dfc name) = calm_to_move (dfc_named script name)
op_quiet script S (op.Fssignal name) = calm_object S (find_object S Thread name)
op_quiet script S (op.Device d code) = calm_complete S d code (request_at S.synchronization.requests d)
op_quiet script S (op.Queue name) = calm_call S (dfc_named script name)

pub op_calm : (script : Script) (S : State) (o : Op) → total closing_bit (op_moves script S o) ≡ 0
op_calm script S o = let none = op_quiet script S o in let both = quiet_both (op_moves script S o) in omega arith

pub op_unmaking : (script : Script) (S : State) (o : Op) → total making_bit (op_moves script S o) ≡ 0
op_unmaking script S o = let none = op_quiet script S o in let both = quiet_both (op_moves script S o) in omega arith

pub ops_calm : (script : Script) (t : ObjNo) (S : State) (ops : List Op) → total closing_bit (ops_moves script t S ops) ≡ 0
ops_calm script t S [] = refl
ops_calm script t S (o ∷ rest) =
    let ms = op_moves script S o in
    let here = op_calm script S o in
    let later = ops_calm script t (perform t ms S) rest in
    let sum = closes_append ms (ops_moves script t (perform t ms S) rest) in omega arith

pub leave_calm : (S : State) (body : Body) → total closing_bit (leave_queue S body) ≡ 0
leave_calm S (Interrupt k) = refl
leave_calm S (Immediate item) = refl
leave_calm S (Deferred dfc) = refl

pub leave_unmaking : (S : State) (body : Body) → total making_bit (leave_queue S body) ≡ 0
leave_unmaking S (Interrupt k) = refl
leave_unmaking S (Immediate item) = refl
leave_unmaking S (Deferred dfc) = refl

-- behind such moves an actor may go on as it began
sought_on : (script : Script) (t : ObjNo) (ms : List Move) (notes : Notes) (S : State) → MovesGo script t ms S → AreNotesMade notes S
    → AreSoughtBeside t notes S → AreNotesMade notes (perform t ms S) × AreSoughtBeside t notes (perform t ms S)
sought_on script t [] notes S go made sought = (made, sought)
sought_on script t (m ∷ ms) notes S go made sought =
    sought_on script t ms notes (moved t m S) go.1 (made-move t m notes S made) (sought-move script t m notes S go.0.runs made sought)

pub may_after : (script : Script) (t : ObjNo) (ms : List Move) (notes : Notes) (old new : State) (before after : Ready)
    (was is : List Effect)
    → ((keep : Bool) → MovesGo script t ms (keeping keep old)) → total closing_bit ms ≡ 0 → total making_bit ms ≡ 0
    → IsPerformed script t ms old new before after was is → MayChoose t notes old → MayChoose t notes new
may_after script t ms notes old new before after was is go none unmade done may =
    let left = calm_state script t ms old new before after was is none done in
    let on = sought_on script t ms notes old (go old.mode.keep) may.made may.sought in
    record {
      unchosen =
          unchosen script t ms old new before after was is none done
          ∙ may.unchosen
          ∙ sym (ap (λ (U : State). U.mode.shared) left ∙ ap (λ (mode : Mode). mode.shared) (mode-perform old t ms));
      room =
          let same = made_performed t ms old in
          let now : new.references.made ≡ (perform t ms old).references.made = ap (λ (U : State). U.references.made) left in
          let mode : new.mode.reuse ≡ old.mode.reuse =
          ap (λ (U : State). U.mode.reuse) left ∙ ap (λ (mode : Mode). mode.reuse) (mode-perform old t ms) in
          λ again. let room = may.room (sym mode ∙ again) in omega arith;
      made = subst (AreNotesMade notes) (sym left) on.0;
      sought = subst (AreSoughtBeside t notes) (sym left) on.1;
    }

-- some operations are done, and the others are left
pub record OpsRun (script : Script) (t : ObjNo) (ops : List Op) (old : State) (before : Ready) (was : List Effect)
    (first : List Move) (left : List Op) (S : State) (r : Ready) (effects : List Effect)
    (made : List Move) : Type 0 where
  pub way : OnTheWay script t (ops_moves script t old ops) old before was (ops_moves script t S left) S r effects
  pub noted : made ++ ops_moves script t S left ≡ first ++ ops_moves script t old ops
  pub few : length made + 2 * length left ≤ length first + 2 * length ops

-- before the first
pub ops_begin : (script : Script) (t : ObjNo) (ops : List Op) (S : State) (r : Ready) (was : List Effect)
    (first : List Move)
    → OpsRun script t ops S r was first ops S r was first
ops_begin script t ops S r was first = record { way = way_begins script t (ops_moves script t S ops) S r was; noted = refl; few = omega arith }

-- one more is done
pub ops_go_on : (script : Script) (t : ObjNo) (ops : List Op) (old : State) (before : Ready) (was : List Effect)
    (first : List Move) (o : Op) (left : List Op) (S new : State) (r after : Ready) (effects more : List Effect)
    (made : List Move) → let ns = op_moves script S o in
    OpsRun script t ops old before was first (o ∷ left) S r effects made
    → IsPerformed script t ns S new r after effects more → length ns ≤ 2
    → OpsRun script t ops old before was first left new after more (made ++ ns)
ops_go_on script t ops old before was first o left S new r after effects more made h done short =
    let ns = op_moves script S o in
    let rest = ops_moves script t (perform t ns S) left in
    let e : new ≡ perform t ns S = calm_state script t ns S new r after effects more (op_calm script S o) done in
    let whole = ops_moves script t old ops in
    record {
      way =
          subst (λ (U : State). OnTheWay script t whole old before was (ops_moves script t U left) new after more) (sym e)
          (part_goes_on script t whole old before was ns rest S r effects
          (ops_calm script t old ops) h.way new after more done);
      noted = ap (λ (U : State). (made ++ ns) ++ ops_moves script t U left) e ∙ (append_assoc made ns rest ∙ h.noted);
      few = let long = length-append made ns in let few = h.few in omega arith;
    }

-- after the last
pub ops_end : (script : Script) (t : ObjNo) (ops : List Op) (old S : State) (before r : Ready)
    (was effects : List Effect) (first made : List Move)
    → OpsRun script t ops old before was first [] S r effects made
    → IsPerformed script t (ops_moves script t old ops) old S before r was effects
    × (made ≡ first ++ ops_moves script t old ops)
ops_end script t ops old S before r was effects first made h =
    (way_ends script t (ops_moves script t old ops) old S before r was effects h.way, sym (append-nil made) ∙ h.noted)

-- operations behind other moves of which none gives a reference up go through, and there is room for what they tell
pub ops_go : (script : Script) (t : ObjNo) (ms : List Move) (ops : List Op) (old mid : State) → total closing_bit ms ≡ 0
    → mid ≡ perform t ms old
    → ((keep : Bool) → MovesGo script t (ms ++ ops_moves script t (perform t ms old) ops) (keeping keep old))
    → (keep : Bool) → MovesGo script t (ops_moves script t mid ops) (keeping keep mid)
ops_go script t ms ops old mid none left go keep =
    let T = perform t ms old in
    let blind = blind-all script t ms old (sym (closes_all ms) ∙ none) in
    let later = (moves_part script t ms (ops_moves script t T ops) (keeping keep old) (go keep)).1 in
    subst (λ (U : State). MovesGo script t (ops_moves script t U ops) (keeping keep U)) (sym left)
    (subst (MovesGo script t (ops_moves script t T ops)) (blind.moves keep) later)

pub ops_few : (script : Script) (t : ObjNo) (ms : List Move) (ops : List Op) (old mid : State) (effects : List Effect)
    → total closing_bit ms ≡ 0 → mid ≡ perform t ms old → effects ≡ tell t ms (keeping mid.mode.keep old)
    → ((keep : Bool) → length (tell t (ms ++ ops_moves script t (perform t ms old) ops) (keeping keep old)) ≤ 4)
    → (keep : Bool) → length effects + length (tell t (ops_moves script t mid ops) (keeping keep mid)) ≤ 4
ops_few script t ms ops old mid effects none left told few keep =
    let X = keeping keep old in
    let ns = ops_moves script t (perform t ms old) ops in
    let blind = blind-all script t ms old (sym (closes_all ms) ∙ none) in
    let most = few keep in
    let all : length (tell t (ms ++ ns) X) ≡ length (tell t ms X ++ tell t ns (perform t ms X)) = ap length (tell-both t ms ns X) in
    let long = length-append (tell t ms X) (tell t ns (perform t ms X)) in
    let so_far : length effects ≡ length (tell t ms X) = ap length (told ∙ (blind.tells mid.mode.keep ∙ sym (blind.tells keep))) in
    let here : length (tell t (ops_moves script t mid ops) (keeping keep mid)) ≡ length (tell t ns (perform t ms X)) =
    ap (λ (U : State). length (tell t (ops_moves script t U ops) (keeping keep U))) left
    ∙ ap (λ (U : State). length (tell t ns U)) (sym (blind.moves keep)) in
    omega arith

-- what comes before the operations, and then these
pub body_performed : (script : Script) (t : ObjNo) (ms : List Move) (ops : List Op) (old mid new : State)
    (before between after : Ready) (was es is : List Effect)
    → total closing_bit ms ≡ 0 → IsPerformed script t ms old mid before between was es
    → IsPerformed script t (ops_moves script t mid ops) mid new between after es is
    → IsPerformed script t (ms ++ ops_moves script t (perform t ms old) ops) old new before after was is
body_performed script t ms ops old mid new before between after was es is none first second =
    let left = calm_state script t ms old mid before between was es none first in
    let ns = ops_moves script t mid ops in
    let once : total closing_bit (ms ++ ns) ≤ 1 = let sum = closes_append ms ns in let calm = ops_calm script t mid ops in omega arith in
    subst (λ (U : State). IsPerformed script t (ms ++ ops_moves script t U ops) old new before after was is) left
    (performed_then script t ms ns old mid new before between after was es is once first second)
