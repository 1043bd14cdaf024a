-- Where callers share the kernel an action has one choice at most: it gives one reference up at most, and keeps the object or doesn't. So the entry that
-- it writes tells which of both it did, and what it leaves is what an action with the choice leaves that the entry tells.
use Rattle.std.proofs.Common.{◌≡◌, ◌≤◌, ◌⊎◌, ℕ, List, [], ◌∷◌, ◌++◌, Bool, true, false, Option, Some, None, arith, refl, sym, ap, subst, ◌∙◌, inl, inr}
use Rattle.std.specs.Prelude.{nat_lt, not, ◌==◌, ◌&&◌, filter, if◌then◌else◌}
use Rattle.sym_base.specs.declared.number.ObjNo.{ObjNo}
use Rattle.script_types.specs.declared.declaration.Op.{Op}
use Rattle.script_types.specs.declared.declaration.Op.TheVariants as op
use Rattle.script_types.specs.declared.script.Script.{Script}
use Rattle.script_types.specs.Shape.{IsShaped}
use Rattle.entry_log.specs.declared.effect.Effect.{Effect}
use Rattle.entry_log.specs.declared.effect.Holder.{Holder}
use Rattle.entry_log.specs.declared.entry.Actor.{Actor}
use Rattle.entry_log.specs.declared.entry.Actor.TheVariants.{Thread, Irq, Idfc, Tick, Idle}
use Rattle.state_rows.specs.Deferred.{next_immediate}
use Rattle.state_rows.specs.declared.deferred.Item.{Item}
use Rattle.state_rows.specs.declared.deferred.Item.TheVariants as item
use Rattle.state_rows.specs.declared.duty.Owed.{Owed}
use Rattle.state_rows.specs.declared.duty.Owed.TheVariants.{Close, Sweep}
use Rattle.state_rows.specs.declared.locks.Locked.TheVariants as locked
use Rattle.state_rows.specs.declared.locks.Unlocked.TheVariants as unlocked
use Rattle.state_rows.specs.declared.messages.MessageRows.{MessageRows}
use Rattle.state_rows.specs.declared.thread.ThreadRow.{ThreadRow}
use Rattle.machine.specs.declared.death_move.DeathMove.{DeathMove}
use Rattle.machine.specs.declared.death_move.DeathMove.TheVariants as death
use Rattle.machine.specs.declared.decision.Decision.{Decision}
use Rattle.machine.specs.declared.lock_move.LockMove.{LockMove}
use Rattle.machine.specs.declared.lock_move.LockMove.TheVariants as lock
use Rattle.machine.specs.declared.message_move.MessageMove.{MessageMove}
use Rattle.machine.specs.declared.message_move.MessageMove.TheVariants as message
use Rattle.machine.specs.declared.mode.Mode.{Mode}
use Rattle.machine.specs.declared.moves.Move.{Move}
use Rattle.machine.specs.declared.moves.Move.TheVariants.{Lose, Nano, Requests, Locks, Death, Servers, Messages, Pay}
use Rattle.machine.specs.declared.nano_move.NanoMove.{NanoMove}
use Rattle.machine.specs.declared.nano_move.NanoMove.TheVariants as nano
use Rattle.machine.specs.declared.plan.Body.{Body}
use Rattle.machine.specs.declared.plan.Body.TheVariants.{Interrupt, Immediate, Deferred}
use Rattle.machine.specs.declared.plan.Plan.TheVariants.{Runs}
use Rattle.machine.specs.declared.request_move.RequestMove.{RequestMove}
use Rattle.machine.specs.declared.request_move.RequestMove.TheVariants as request
use Rattle.machine.specs.declared.server_move.ServerMove.{ServerMove}
use Rattle.machine.specs.declared.server_move.ServerMove.TheVariants as server
use Rattle.machine.specs.declared.state.State.{State}
use Rattle.machine.specs.declared.task.Task.{Task}
use Rattle.machine.specs.declared.task.Task.TheVariants.{RunDfc}
use Rattle.machine.specs.Arrivals.{arrivals, arrive, is_listed, ready_after, taken_out, touched}
use Rattle.machine.specs.Arrived.{arrived_next}
use Rattle.machine.specs.Bodies.{decision_by, leave_queue, op_moves, ops_moves, ops_of, run_body, step_of_body}
use Rattle.machine.specs.DeathMoves.{death_told}
use Rattle.machine.specs.Fits.{EachFits, Sane}
use Rattle.machine.specs.History.{entry_by, entry_of, is_deathless, keeping, next, transition}
use Rattle.machine.specs.Interrupts.{immediate, immediate_plan, interrupt, supervisor}
use Rattle.machine.specs.Kept.{dies}
use Rattle.machine.specs.LockMoves.{lock_told, taker_told}
use Rattle.machine.specs.MessageMoves.{message_told}
use Rattle.machine.specs.Moves.{closed_effects, link_of, moved, objects_closed, owed_by_close, perform, tables_lose, tell, threads_closed, threads_lose, told}
use Rattle.machine.specs.NanoMoves.{nano_told}
use Rattle.machine.specs.Out.{outs_of}
use Rattle.machine.specs.References.{count_of, total}
use Rattle.machine.specs.RequestMoves.{request_told}
use Rattle.machine.specs.Rows.{owing, thread_of, without_first}
use Rattle.machine.specs.ServerMoves.{owned_lose, server_told, servers_closed, servers_lose}
use Rattle.machine.specs.Steps.{decision_of, decision_of_row, decision_of_task, decision_where}
use Rattle.machine.specs.Task.{is_ready, may_act, task_of}
use Rattle.machine.specs.Transition.{Transition, act, carried_out}
use Rattle.machine.specs.WellFormed.{AreRows}
use Rattle.move_laws.proofs.Lists.Totals.{inside}
use Rattle.machine_laws.proofs.Fitting.Actions.{fits-action, regular-action}
use Rattle.machine_laws.proofs.Fitting.Bodies.{OwesNothing, light-leave, light-op, light_loses, sane-light}
use Rattle.machine_laws.proofs.Fitting.Interrupts.{light-immediate, light-interrupt, sane-supervisor}
use Rattle.machine_laws.proofs.Fitting.Regular.{once_bit, plain}
use Rattle.machine_laws.proofs.Reached.Modes.{kept-same, mode-next}

-- 1 for a move that gives a reference up, its thread's own or one that is owed
abbrev pub close_bit : Move → ℕ
close_bit (Lose h o) = 1
close_bit (Pay (Close h o)) = 1
close_bit _ = 0

-- effects without a death, and others behind them
abbrev Silent : List Effect → Type 0
Silent effects = (more : List Effect) → is_deathless (effects ++ more) ≡ is_deathless more

silent-nano : (m : NanoMove) → Silent (nano_told m)
silent-nano (nano.Take t f) more = refl
silent-nano (nano.Give t f) more = refl
silent-nano _ more = refl

silent-request : (m : RequestMove) → Silent (request_told m)
silent-request (request.Complete d t s code) more = refl
silent-request (request.Signal t s code) more = refl
silent-request (request.Reply t code) more = refl
silent-request _ more = refl

silent-taker : (best : Option ObjNo) (o : ObjNo) → Silent (taker_told best o)
silent-taker None o more = refl
silent-taker (Some w) o more = refl

silent-lock : (m : LockMove) → Silent (lock_told m)
silent-lock (lock.Lock o t locked.Taken) more = refl
silent-lock (lock.Lock o t _) more = refl
silent-lock (lock.Unlock o t unlocked.Freed) more = refl
silent-lock (lock.Unlock o t (unlocked.Passed w)) more = refl
silent-lock (lock.Unlock o t _) more = refl
silent-lock (lock.Free o t best) more = silent-taker best o more
silent-lock _ more = refl

silent-death : (m : DeathMove) → Silent (death_told m)
silent-death (death.Doom t exit) more = refl
silent-death (death.Bury t) more = refl
silent-death _ more = refl

silent-server : (m : ServerMove) → Silent (server_told m)
silent-server (server.Join s o slots t) more = refl
silent-server (server.End o) more = refl
silent-server _ more = refl

silent-message : (m : MessageMove) (r : MessageRows) → Silent (message_told m r)
silent-message (message.Accept slots row) r more = refl
silent-message (message.Finish m code) r more = refl
silent-message _ r more = refl

-- a move that gives no reference up is made in the same way with either choice, and tells of no death
record IsBlind (t : ObjNo) (m : Move) (S : State) : Type 0 where
  pub moves : (keep : Bool) → moved t m (keeping keep S) ≡ keeping keep (moved t m S)
  pub tells : (keep : Bool) → told m (keeping keep S) ≡ told m S
  pub silent : Silent (told m S)

blind : (t : ObjNo) (m : Move) (S : State) → close_bit m ≡ 0 → IsBlind t m S
blind t (Lose h o) S none = absurd (omega arith)
blind t (Pay (Close h o)) S none = absurd (omega arith)
blind t (Nano m) S none = record { moves = λ keep. refl; tells = λ keep. refl; silent = silent-nano m }
blind t (Requests m) S none = record { moves = λ keep. refl; tells = λ keep. refl; silent = silent-request m }
blind t (Locks m) S none = record { moves = λ keep. refl; tells = λ keep. refl; silent = silent-lock m }
blind t (Death m) S none = record { moves = λ keep. refl; tells = λ keep. refl; silent = silent-death m }
blind t (Servers m) S none = record { moves = λ keep. refl; tells = λ keep. refl; silent = silent-server m }
blind t (Messages m) S none = record { moves = λ keep. refl; tells = λ keep. refl; silent = silent-message m S.serving.messages }
blind t _ S none = record { moves = λ keep. refl; tells = λ keep. refl; silent = λ more. refl }

-- threads arrive in the same way
arrive-same : (script : Script) (S : State) (keep : Bool) (us qs : List ObjNo) → arrive script (keeping keep S) us qs ≡ arrive script S us qs
arrive-same script S keep [] qs = refl
arrive-same script S keep (u ∷ us) qs = arrive-same script S keep us (if is_ready script S u && not (is_listed qs u) then qs ++ u ∷ [] else qs)

-- and so are such moves made, and threads arrive by them in the same way
pub record AreBlind (script : Script) (t : ObjNo) (ms : List Move) (S : State) : Type 0 where
  pub moves : (keep : Bool) → perform t ms (keeping keep S) ≡ keeping keep (perform t ms S)
  pub tells : (keep : Bool) → tell t ms (keeping keep S) ≡ tell t ms S
  pub silent : is_deathless (tell t ms S) ≡ true
  pub arrives : (keep : Bool) (qs : List ObjNo) → arrivals script t ms (keeping keep S) qs ≡ arrivals script t ms S qs

-- after a move that is made so
arrives-behind : (script : Script) (t : ObjNo) (m : Move) (ms : List Move) (S T : State) (keep : Bool) → moved t m S ≡ keeping keep T → (qs : List ObjNo) →
    arrivals script t (m ∷ ms) S qs ≡ arrivals script t ms (keeping keep T) (arrive script T (touched t m) (taken_out m qs))
arrives-behind script t m ms S T keep same qs =
    ap (λ (U : State). arrivals script t ms U (arrive script U (touched t m) (taken_out m qs))) same
    ∙ ap (arrivals script t ms (keeping keep T)) (arrive-same script T keep (touched t m) (taken_out m qs))

pub blind-all : (script : Script) (t : ObjNo) (ms : List Move) (S : State) → total close_bit ms ≡ 0 → AreBlind script t ms S
blind-all script t [] S none = record { moves = λ keep. refl; tells = λ keep. refl; silent = refl; arrives = λ keep qs. refl }
blind-all script t (m ∷ ms) S none =
    let first = blind t m S (omega arith) in
    let rest = blind-all script t ms (moved t m S) (omega arith) in
    record {
      moves = λ keep. ap (perform t ms) (first.moves keep) ∙ rest.moves keep;
      tells =
          λ keep. ap (λ (effects : List Effect). effects ++ tell t ms (moved t m (keeping keep S))) (first.tells keep)
          ∙ ap (λ (T : State). told m S ++ tell t ms T) (first.moves keep)
          ∙ ap (λ (effects : List Effect). told m S ++ effects) (rest.tells keep);
      silent = first.silent (tell t ms (moved t m S)) ∙ rest.silent;
      arrives =
          λ keep qs. arrives-behind script t m ms (keeping keep S) (moved t m S) keep (first.moves keep) qs
          ∙ rest.arrives keep (arrive script (moved t m S) (touched t m) (taken_out m qs));
    }

-- a move that gives a reference up asks the choice whether the object dies, and nothing else
record IsClose (t : ObjNo) (m : Move) (h : Holder) (o : ObjNo) : Type 0 where
  pub after : Bool → State → State
  pub moves : (S : State) → moved t m S ≡ after (dies S o) S
  pub tells : (S : State) → told m S ≡ closed_effects (dies S o) h o
  pub blind : (dying keep : Bool) (S : State) → after dying (keeping keep S) ≡ keeping keep (after dying S)

-- what is done with either choice: it is the same, or one keeps what the other lets die, and the effects tell that
pub record AreSame (script : Script) (t : ObjNo) (ms : List Move) (S : State) : Type 0 where
  pub moves : perform t ms (keeping true S) ≡ keeping true (perform t ms (keeping false S))
  pub tells : tell t ms (keeping true S) ≡ tell t ms (keeping false S)
  pub arrives : (qs : List ObjNo) → arrivals script t ms (keeping true S) qs ≡ arrivals script t ms (keeping false S) qs

pub record ArePart (t : ObjNo) (ms : List Move) (S : State) : Type 0 where
  pub kept : is_deathless (tell t ms (keeping true S)) ≡ true
  pub died : is_deathless (tell t ms (keeping false S)) ≡ false

-- it dies without the choice if it dies with it
dies-too : (one kept : Bool) → (one && not kept) ≡ true → (one && true) ≡ true
dies-too true kept e = refl
dies-too false kept e = e

module _ (script : Script) (t : ObjNo) (m : Move) (h : Holder) (o : ObjNo) (ms : List Move) (S : State)
    (c : IsClose t m h o) (none : total close_bit ms ≡ 0) where
  with_death : (dying : Bool) → dies (keeping true S) o ≡ dying → dies (keeping false S) o ≡ dying → AreSame script t (m ∷ ms) S
  with_death dying kept died =
      let T = c.after dying S in
      let rest = blind-all script t ms T none in
      let first : (keep : Bool) → dies (keeping keep S) o ≡ dying → moved t m (keeping keep S) ≡ keeping keep T =
      λ keep e. c.moves (keeping keep S) ∙ ap (λ (b : Bool). c.after b (keeping keep S)) e ∙ c.blind dying keep S in
      let tells : (keep : Bool) → dies (keeping keep S) o ≡ dying → tell t (m ∷ ms) (keeping keep S) ≡ closed_effects dying h o ++ tell t ms T = λ keep e.
      ap (λ (effects : List Effect). effects ++ tell t ms (moved t m (keeping keep S))) (c.tells (keeping keep S) ∙ ap (λ (b : Bool). closed_effects b h o) e)
      ∙ ap (λ (U : State). closed_effects dying h o ++ tell t ms U) (first keep e)
      ∙ ap (λ (effects : List Effect). closed_effects dying h o ++ effects) (rest.tells keep) in
      record {
        moves = ap (perform t ms) (first true kept) ∙ rest.moves true ∙ sym (ap (keeping true) (ap (perform t ms) (first false died) ∙ rest.moves false));
        tells = tells true kept ∙ sym (tells false died);
        arrives = λ qs.
            let arrives : (keep : Bool) → dies (keeping keep S) o ≡ dying
            → arrivals script t (m ∷ ms) (keeping keep S) qs
            ≡ arrivals script t ms T (arrive script T (touched t m) (taken_out m qs)) =
            λ keep e.
            arrives-behind script t m ms (keeping keep S) T keep (first keep e) qs
            ∙ rest.arrives keep (arrive script T (touched t m) (taken_out m qs)) in arrives true kept
            ∙ sym (arrives false died);
      }

  parted : dies (keeping true S) o ≡ false → dies (keeping false S) o ≡ true → ArePart t (m ∷ ms) S
  parted kept died = record {
    kept =
        ap (λ (effects : List Effect). is_deathless (effects ++ tell t ms (moved t m (keeping true S))))
        (c.tells (keeping true S) ∙ ap (λ (b : Bool). closed_effects b h o) kept)
        ∙ (blind-all script t ms (moved t m (keeping true S)) none).silent;
    died =
        ap (λ (effects : List Effect). is_deathless (effects ++ tell t ms (moved t m (keeping false S))))
        (c.tells (keeping false S) ∙ ap (λ (b : Bool). closed_effects b h o) died);
  }

  close-one : (kept died : Bool) → dies (keeping true S) o ≡ kept → dies (keeping false S) o ≡ died → AreSame script t (m ∷ ms) S ⊎ ArePart t (m ∷ ms) S
  close-one true true a b = inl (with_death true a b)
  close-one false false a b = inl (with_death false a b)
  close-one false true a b = inr (parted a b)
  close-one true false a b = let both = dies-too (count_of S o == 1) (nat_lt 0 (outs_of S o)) a in absurd (cc)

  closes-one : AreSame script t (m ∷ ms) S ⊎ ArePart t (m ∷ ms) S
  closes-one = close-one (dies (keeping true S) o) (dies (keeping false S) o) refl refl

-- a reference that is given up, and one that is owed
abbrev after_loss : ObjNo → Holder → ObjNo → Bool → State → State
after_loss t h o dying S = record S {
  references = record S.references {
    objects = objects_closed dying o S.references.objects;
    handles = tables_lose h S.references.handles;
    threads = threads_closed dying o (threads_lose h S.references.threads);
    owed = owing S.references.owed t (owed_by_close dying o (link_of S o));
  };
  serving = record S.serving {
    servers = servers_closed dying o (servers_lose h S.serving.servers);
    owned = owned_lose h o S.serving.owned;
  };
}

abbrev after_close : ObjNo → ObjNo → Bool → State → State
after_close t o dying S = record S {
  references = record S.references {
    objects = objects_closed dying o S.references.objects;
    threads = threads_closed dying o S.references.threads;
    owed = owing (without_first S.references.owed t) t (owed_by_close dying o (link_of S o));
  };
  serving = record S.serving { servers = servers_closed dying o S.serving.servers };
}

loss-closes : (t : ObjNo) (h : Holder) (o : ObjNo) → IsClose t (Lose h o) h o
loss-closes t h o = record { after = after_loss t h o; moves = λ S. refl; tells = λ S. refl; blind = λ dying keep S. refl }

pay-closes : (t : ObjNo) (h : Holder) (o : ObjNo) → IsClose t (Pay (Close h o)) h o
pay-closes t h o = record { after = after_close t o; moves = λ S. refl; tells = λ S. refl; blind = λ dying keep S. refl }

-- moves of which one at most gives a reference up
behind : (script : Script) (t : ObjNo) (m : Move) (ms : List Move) (S : State) → IsBlind t m S
    → AreSame script t ms (moved t m S) ⊎ ArePart t ms (moved t m S)
    → AreSame script t (m ∷ ms) S ⊎ ArePart t (m ∷ ms) S
behind script t m ms S first rest = elim rest as (λ _. AreSame script t (m ∷ ms) S ⊎ ArePart t (m ∷ ms) S) [
  | inl same ↦ inl (record {
    moves = ap (perform t ms) (first.moves true) ∙ same.moves ∙ ap (λ (T : State). keeping true (perform t ms T)) (sym (first.moves false));
    tells = tells true ∙ ap (λ (effects : List Effect). told m S ++ effects) same.tells ∙ sym (tells false);
    arrives =
        λ qs. arrives-behind script t m ms (keeping true S) (moved t m S) true (first.moves true) qs
        ∙ same.arrives (arrive script (moved t m S) (touched t m) (taken_out m qs))
        ∙ sym (arrives-behind script t m ms (keeping false S) (moved t m S) false (first.moves false) qs);
  })
  | inr part ↦ inr (record {
    kept = ap is_deathless (tells true) ∙ first.silent (tell t ms (keeping true (moved t m S))) ∙ part.kept;
    died = ap is_deathless (tells false) ∙ first.silent (tell t ms (keeping false (moved t m S))) ∙ part.died;
  })
]
  where
    tells : (keep : Bool) → tell t (m ∷ ms) (keeping keep S) ≡ told m S ++ tell t ms (keeping keep (moved t m S))
    tells keep = ap (λ (effects : List Effect). effects ++ tell t ms (moved t m (keeping keep S))) (first.tells keep)
        ∙ ap (λ (T : State). told m S ++ tell t ms T) (first.moves keep)

pub same-or-part : (script : Script) (t : ObjNo) (ms : List Move) (S : State) → total close_bit ms ≤ 1 → AreSame script t ms S ⊎ ArePart t ms S
same-or-part script t [] S few = inl (record { moves = refl; tells = refl; arrives = λ qs. refl })
same-or-part script t (Lose h o ∷ ms) S few = closes-one script t (Lose h o) h o ms S (loss-closes t h o) (omega arith)
same-or-part script t (Pay (Close h o) ∷ ms) S few = closes-one script t (Pay (Close h o)) h o ms S (pay-closes t h o) (omega arith)
same-or-part script t (m ∷ ms) S few = behind script t m ms S (blind t m S refl) (same-or-part script t ms (moved t m S) (omega arith))

-- an action of a thread gives one reference up at most, and makes no object then
pub no-pay : (script : Script) (t : ObjNo) (ms : List Move) (S : State) → EachFits script t ms S → total close_bit ms ≤ total once_bit ms
no-pay script t [] S fits = omega arith
no-pay script t (Pay what ∷ ms) S fits = absurd fits.0
no-pay script t (m ∷ ms) S fits = let rest = no-pay script t ms (moved t m S) fits.1 in omega arith

pay-one : (what : Owed) → total close_bit (Pay what ∷ []) ≤ 1
pay-one (Close h o) = omega arith
pay-one (Sweep o) = omega arith

pub closes-few : (script : Script) (S : State) (t : ObjNo) → IsShaped script → AreRows script S → total close_bit (decision_of script S t).moves ≤ 1
closes-few script S t shaped rows = elim (fits-action script S t shaped rows) as (λ _. total close_bit (decision_of script S t).moves ≤ 1) [
  | inl fits ↦
      (let same = no-pay script t (decision_of script S t).moves S fits.each in
      let regular = regular-action script S t shaped rows in let few = regular.1.loses in omega arith)
  | inr pays ↦ subst (λ (ms : List Move). total close_bit ms ≤ 1) (sym pays.moves) (pay-one pays.what)
]

-- what is done without a thread, or by a body, gives none up
light-blind : (script : Script) (t : ObjNo) (S : State) (ms : List Move) (n : ℕ) → OwesNothing plain script t S ms n → AreBlind script t ms S
light-blind script t S ms n light = blind-all script t ms S (let most = no-pay script t ms S light.each in let none = light_loses light refl in omega arith)

-- a body does the same with either choice
op-same : (script : Script) (S : State) (keep : Bool) (operation : Op) → op_moves script (keeping keep S) operation ≡ op_moves script S operation
op-same script S keep (op.Idfc name) = refl
op-same script S keep (op.Dfc name) = refl
op-same script S keep (op.Fssignal name) = refl
op-same script S keep (op.Device d code) = refl
op-same script S keep (op.Queue name) = refl

ops-same : (script : Script) (t : ObjNo) (keep : Bool) (S : State) (ops : List Op) → Sane script t S
    → ops_moves script t (keeping keep S) ops ≡ ops_moves script t S ops
ops-same script t keep S [] sane = refl
ops-same script t keep S (first ∷ rest) sane =
    let ms = op_moves script S first in
    let light = light-op script S t first sane.rows in
    let here = light-blind script t S ms 1 light in
    ap (λ (xs : List Move). xs ++ ops_moves script t (perform t xs (keeping keep S)) rest) (op-same script S keep first)
    ∙ ap (λ (T : State). ms ++ ops_moves script t T rest) (here.moves keep)
    ∙ ap (λ (xs : List Move). ms ++ xs) (ops-same script t keep (perform t ms S) rest (sane-light script S t ms 1 light sane))

leave-same : (S : State) (keep : Bool) (body : Body) → leave_queue (keeping keep S) body ≡ leave_queue S body
leave-same S keep (Interrupt k) = refl
leave-same S keep (Immediate item) = refl
leave-same S keep (Deferred dfc) = refl

pub body-same : (script : Script) (t : ObjNo) (S : State) (keep : Bool) (body : Body) → Sane script t S
    → run_body script t (keeping keep S) body ≡ run_body script t S body
body-same script t S keep body sane =
    let left = leave_queue S body in
    let light = light-leave script S t body sane.rows in
    let here = light-blind script t S left 0 light in
    ap (λ (xs : List Move). record { step = step_of_body script body; moves = xs; answer = None }) (
    ap (λ (xs : List Move). xs ++ ops_moves script t (perform t xs (keeping keep S)) (ops_of script body)) (leave-same S keep body)
    ∙ ap (λ (T : State). left ++ ops_moves script t T (ops_of script body)) (here.moves keep)
    ∙ ap (λ (xs : List Move). left ++ xs) (ops-same script t keep (perform t left S) (ops_of script body) (sane-light script S t left 0 light sane))
    )

-- so is what a thread decides
task-same : (script : Script) (t : ObjNo) (S : State) (keep : Bool) (row : ThreadRow) (what : Task) → Sane script t S
    → decision_of_task script (keeping keep S) t row what ≡ decision_of_task script S t row what
task-same script t S keep row (RunDfc dfc) sane = body-same script t S keep (Deferred dfc) sane
task-same script t S keep row _ sane = refl

row-same : (script : Script) (t : ObjNo) (S : State) (keep : Bool) (row : Option ThreadRow) (what : Option Task)
    → Sane script t S → decision_of_row script (keeping keep S) t row what ≡ decision_of_row script S t row what
row-same script t S keep (Some row) (Some what) sane = task-same script t S keep row what sane
row-same script t S keep _ _ sane = refl

pub decision-same : (script : Script) (S : State) (t : ObjNo) (keep : Bool) → IsShaped script → AreRows script S
    → decision_of script (keeping keep S) t ≡ decision_of script S t
decision-same script S t keep shaped rows = where-same (may_act script S t) (thread_of S t) refl (task_of script S t)
  where
    where-same : (able : Bool) (row : Option ThreadRow) → thread_of S t ≡ row → (what : Option Task)
        → decision_where script able (keeping keep S) t what ≡ decision_where script able S t what
    where-same false row is what = refl
    where-same true None is what = ap (λ (r : Option ThreadRow). decision_of_row script (keeping keep S) t r what) is
        ∙ sym (ap (λ (r : Option ThreadRow). decision_of_row script S t r what) is)
    where-same true (Some row) is what =
        ap (λ (r : Option ThreadRow). decision_of_row script (keeping keep S) t r what) is
        ∙ row-same script t S keep (Some row) what (record { rows = rows; inside = inside S.references.threads t.0 row is })
        ∙ sym (ap (λ (r : Option ThreadRow). decision_of_row script S t r what) is)

-- what an actor does with either choice, and its ready lists: the same, or one keeps what the other lets die
pub record ActSame (kept died : Transition) (here there : List ObjNo → List ObjNo) : Type 0 where
  pub state : kept.state ≡ keeping true died.state
  pub outcome : kept.outcome ≡ died.outcome
  pub ready : (qs : List ObjNo) → here qs ≡ there qs

pub record ActPart (with_choice without : Transition) : Type 0 where
  pub kept : is_deathless with_choice.outcome.effects ≡ true
  pub died : is_deathless without.outcome.effects ≡ false

abbrev Both : Transition → Transition → (List ObjNo → List ObjNo) → (List ObjNo → List ObjNo) → Type 0
Both kept died here there = ActSame kept died here there ⊎ ActPart kept died

abbrev BothOut : Script → ObjNo → State → Decision → Decision → Type 0
BothOut script t S d e =
    Both (carried_out script t (keeping true S) d) (carried_out script t (keeping false S) e)
    (λ qs. ready_after script t d.moves (keeping true S) qs) (λ qs. ready_after script t e.moves (keeping false S) qs)

carried-out : (script : Script) (t : ObjNo) (S : State) (d : Decision) → total close_bit d.moves ≤ 1 → BothOut script t S d d
carried-out script t S d few = elim (same-or-part script t d.moves S few) as (λ _. BothOut script t S d d) [
  | inl same ↦ inl (record {
    state = same.moves;
    outcome = ap (λ (effects : List Effect). record { step = d.step; effects = effects; answer = d.answer }) same.tells;
    ready =
        λ qs. ap (λ (T : State). filter (is_ready script T) (arrivals script t d.moves (keeping true S) qs)) same.moves
        ∙ ap (filter (is_ready script (perform t d.moves (keeping false S)))) (same.arrives qs);
  })
  | inr part ↦ inr (record { kept = part.kept; died = part.died })
]

-- also where the decisions are made with either choice, if those are the same
carried-by : (script : Script) (t : ObjNo) (S : State) (decide : State → Decision)
    → ((keep : Bool) → decide (keeping keep S) ≡ decide S) → total close_bit (decide S).moves ≤ 1
    → BothOut script t S (decide (keeping true S)) (decide (keeping false S))
carried-by script t S decide same few =
    subst (λ (d : Decision). BothOut script t S d (decide (keeping false S))) (sym (same true))
    (subst (λ (d : Decision). BothOut script t S (decide S) d) (sym (same false)) (carried-out script t S (decide S) few))

light-few : (script : Script) (t : ObjNo) (S : State) (ms : List Move) (n : ℕ) → OwesNothing plain script t S ms n → total close_bit ms ≤ 1
light-few script t S ms n light = let same = no-pay script t ms S light.each in let none = light_loses light refl in omega arith

pub plan-same : (script : Script) (S : State) (keep : Bool) (found : Option Item) → AreRows script S
    → decision_by script supervisor (keeping keep S) (immediate_plan script (keeping keep S) found)
    ≡ decision_by script supervisor S (immediate_plan script S found)
plan-same script S keep None rows = refl
plan-same script S keep (Some (item.Idfc call)) rows = body-same script supervisor S keep (Immediate call) (sane-supervisor script S rows)
plan-same script S keep (Some (item.Move dfc)) rows = refl

abbrev Acts : Script → State → Actor → Type 0
Acts script S actor =
    Both (transition script (keeping true S) actor) (transition script (keeping false S) actor)
    (λ qs. arrived_next script (keeping true S) actor qs) (λ qs. arrived_next script (keeping false S) actor qs)

act-acts : (script : Script) (S : State) (t : ObjNo) → IsShaped script → AreRows script S → Acts script S (Thread t)
unfolding act
act-acts script S t shaped rows =
    carried-by script t S (λ (T : State). decision_of script T t) (λ keep. decision-same script S t keep shaped rows)
    (closes-few script S t shaped rows)

interrupt-acts : (script : Script) (S : State) (k : ℕ) → IsShaped script → AreRows script S → Acts script S (Irq k)
unfolding interrupt
interrupt-acts script S k shaped rows =
    carried-by script supervisor S (λ (T : State). decision_by script supervisor T (Runs (Interrupt k)))
    (λ keep. body-same script supervisor S keep (Interrupt k) (sane-supervisor script S rows))
    (light-few script supervisor S _ 4 (light-interrupt script S k shaped rows))

immediate-acts : (script : Script) (S : State) → IsShaped script → AreRows script S → Acts script S Idfc
unfolding immediate
immediate-acts script S shaped rows =
    let found = next_immediate S.synchronization.deferred in
    carried-by script supervisor S (λ (T : State). decision_by script supervisor T (immediate_plan script T found))
    (λ keep. plan-same script S keep found rows)
    (light-few script supervisor S _ 4 (light-immediate script S found shaped rows refl))

pub each-acts : (script : Script) (S : State) (actor : Actor) → IsShaped script → AreRows script S → Acts script S actor
each-acts script S (Thread t) shaped rows = act-acts script S t shaped rows
each-acts script S (Irq k) shaped rows = interrupt-acts script S k shaped rows
each-acts script S Idfc shaped rows = immediate-acts script S shaped rows
each-acts script S Tick shaped rows = inl (record { state = refl; outcome = refl; ready = λ qs. refl })
each-acts script S Idle shaped rows = inl (record { state = refl; outcome = refl; ready = λ qs. refl })

-- an action with a choice writes the entry that it writes with the choice which that tells, and leaves the same
pub record TellsChoice (script : Script) (S : State) (place : ℕ) (actor : Actor) (keep : Bool) : Type 0 where
  pub entry : entry_by script (keeping keep S) place actor
      ≡ entry_by script (keeping (is_deathless (transition script (keeping keep S) actor).outcome.effects) S) place
      actor
  pub state : keeping (is_deathless (transition script (keeping keep S) actor).outcome.effects)
      (next script (keeping keep S) actor) ≡ next script
      (keeping (is_deathless (transition script (keeping keep S) actor).outcome.effects) S) actor
  pub ready : (qs : List ObjNo)
      → arrived_next script (keeping keep S) actor qs
      ≡ arrived_next script (keeping (is_deathless (transition script (keeping keep S) actor).outcome.effects) S) actor
      qs

next-keeps : (script : Script) (S : State) (actor : Actor) (keep : Bool)
    → keeping keep (next script (keeping keep S) actor) ≡ next script (keeping keep S) actor
next-keeps script S actor keep = kept-same keep (next script (keeping keep S) actor) (ap (λ (m : Mode). m.keep) (mode-next script (keeping keep S) actor))

pub tells-choice : (script : Script) (S : State) (place : ℕ) (actor : Actor) (keep : Bool) → IsShaped script
    → AreRows script S → TellsChoice script S place actor keep
tells-choice script S place actor keep shaped rows = by keep (is_deathless (transition script (keeping keep S) actor).outcome.effects) refl
  where
    -- of a choice that is told
    told_so : (choice : Bool) → is_deathless (transition script (keeping choice S) actor).outcome.effects ≡ choice → TellsChoice script S place actor choice
    told_so choice is = record {
      entry = ap (λ (b : Bool). entry_by script (keeping b S) place actor) (sym is);
      state =
          ap (λ (b : Bool). keeping b (next script (keeping choice S) actor)) is
          ∙ next-keeps script S actor choice
          ∙ ap (λ (b : Bool). next script (keeping b S) actor) (sym is);
      ready = λ qs. ap (λ (b : Bool). arrived_next script (keeping b S) actor qs) (sym is);
    }

    -- and of one that made no difference
    other : ActSame (transition script (keeping true S) actor) (transition script (keeping false S) actor)
        (λ qs. arrived_next script (keeping true S) actor qs) (λ qs. arrived_next script (keeping false S) actor qs)
        → (choice deathless : Bool) → is_deathless (transition script (keeping choice S) actor).outcome.effects ≡ deathless
        → TellsChoice script S place actor choice
    other same true true is = told_so true is
    other same false false is = told_so false is
    other same true false is = record {
      entry = ap (entry_of place actor) same.outcome ∙ ap (λ (b : Bool). entry_by script (keeping b S) place actor) (sym is);
      state =
          ap (λ (b : Bool). keeping b (next script (keeping true S) actor)) is
          ∙ ap (keeping false) same.state
          ∙ next-keeps script S actor false
          ∙ ap (λ (b : Bool). next script (keeping b S) actor) (sym is);
      ready = λ qs. same.ready qs ∙ ap (λ (b : Bool). arrived_next script (keeping b S) actor qs) (sym is);
    }
    other same false true is = record {
      entry = sym (ap (entry_of place actor) same.outcome) ∙ ap (λ (b : Bool). entry_by script (keeping b S) place actor) (sym is);
      state =
          ap (λ (b : Bool). keeping b (next script (keeping false S) actor)) is
          ∙ sym same.state
          ∙ ap (λ (b : Bool). next script (keeping b S) actor) (sym is);
      ready = λ qs. sym (same.ready qs) ∙ ap (λ (b : Bool). arrived_next script (keeping b S) actor qs) (sym is);
    }

    parted : ActPart (transition script (keeping true S) actor) (transition script (keeping false S) actor)
        → (choice : Bool) → TellsChoice script S place actor choice
    parted part true = told_so true part.kept
    parted part false = told_so false part.died

    by : (choice deathless : Bool) → is_deathless (transition script (keeping choice S) actor).outcome.effects
        ≡ deathless → TellsChoice script S place actor choice
    by choice deathless is = elim (each-acts script S actor shaped rows) as (λ _. TellsChoice script S place actor choice) [
      | inl same ↦ other same choice deathless is
      | inr part ↦ parted part choice
    ]
