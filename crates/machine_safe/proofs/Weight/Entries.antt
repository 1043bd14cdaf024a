-- What an action of another does to the weight of a doomed thread.
use Rattle.std.proofs.Common.{◌≡◌, inl, inr, ℕ, ◌*◌, ◌<◌, ◌≤◌, List, [], ◌∷◌, length, get_or, arith, refl, sym, ap, subst, Bool, true, false, Option, Some, None}
use Rattle.std.specs.Prelude.{ℤ}
use Rattle.std.proofs.lemmas.Bool.{cases_lt, eq-eqb}
use Rattle.std.proofs.lemmas.List.{get_or_past}
use Rattle.sym_base.specs.declared.number.ObjNo.{ObjNo}
use Rattle.script_types.specs.declared.instruction.Instr.{Instr}
use Rattle.script_types.specs.declared.declaration.Op.{Op}
use Rattle.script_types.specs.declared.declaration.Op.TheVariants as op
use Rattle.script_types.specs.declared.script.Script.{Script}
use Rattle.script_types.specs.Shape.{IsShaped}
use Rattle.entry_log.specs.declared.effect.Effect.{Effect}
use Rattle.entry_log.specs.declared.entry.Actor.{Actor}
use Rattle.entry_log.specs.declared.entry.Actor.TheVariants.{Thread, Irq, Idfc, Tick, Idle}
use Rattle.state_rows.specs.Deferred.{next_immediate}
use Rattle.state_rows.specs.Requests.{request_at}
use Rattle.state_rows.specs.ServerRows.{is_closing}
use Rattle.state_rows.specs.declared.deferred.Item.{Item}
use Rattle.state_rows.specs.declared.deferred.Item.TheVariants as item
use Rattle.state_rows.specs.declared.requests.Request.{Request}
use Rattle.state_rows.specs.declared.thread.Stage.TheVariants.{Doomed}
use Rattle.state_rows.specs.declared.thread.Waiting.{Waiting}
use Rattle.state_rows.specs.declared.thread.Waiting.TheVariants as waiting
use Rattle.state_rows.specs.declared.thread.ThreadRow.{ThreadRow}
use Rattle.machine.specs.Bodies.{complete, decision_by, end_wait, leave_queue, op_moves, ops_moves, ops_of, queue_call, queue_immediate, queue_to_move, run_body, signal_object, signal_row}
use Rattle.machine.specs.FastSemaphore.{signal_move}
use Rattle.machine.specs.Find.{find_object}
use Rattle.sym_base.specs.declared.kind.Kind.TheVariants as kind
use Rattle.state_rows.specs.DeclaredCalls.{dfc_named, idfc_named}
use Rattle.state_rows.specs.declared.duty.Owed.{Owed}
use Rattle.machine.specs.History.{next, transition}
use Rattle.machine.specs.Interrupts.{immediate, immediate_plan, interrupt, supervisor}
use Rattle.machine.specs.Messaging.{close_refused, finish, reply_to}
use Rattle.machine.specs.Moves.{moved, perform, tell}
use Rattle.machine.specs.References.{mutex_names, total}
use Rattle.machine.specs.Rows.{thread_of}
use Rattle.machine.specs.Steps.{decision_of}
use Rattle.machine.specs.Task.{instruction}
use Rattle.machine.specs.ThreadCalls.{is_live}
use Rattle.machine.specs.Transition.{act}
use Rattle.machine.specs.WellFormed.{AreRows}
use Rattle.machine.specs.declared.decision.Decision.{Decision}
use Rattle.machine.specs.declared.message_move.MessageMove.TheVariants.{Accept}
use Rattle.machine.specs.declared.moves.Move.{Move}
use Rattle.machine.specs.declared.moves.Move.TheVariants as move
use Rattle.machine.specs.declared.request_move.RequestMove.TheVariants.{Complete}
use Rattle.machine.specs.declared.plan.Body.{Body}
use Rattle.machine.specs.declared.plan.Body.TheVariants as body
use Rattle.machine.specs.declared.state.State.{State}
use Rattle.machine_laws.proofs.Fitting.Bodies.{Goes}
use Rattle.machine_laws.proofs.Fitting.Interrupts.{goes-immediate, goes-interrupt, sane-supervisor}
use Rattle.machine_laws.proofs.Fitting.Regular.{serving_bit}
use Rattle.machine_safe.specs.CountAfter.{is_by}
use Rattle.machine_safe.proofs.Serving.Connecting.{KeepHandles}
use Rattle.machine_safe.proofs.Serving.ServerActions.{behind, IsFinishing, IsSending, OfEach}
use Rattle.machine_safe.proofs.Serving.ActionMoves.{Doing, doing}
use Rattle.machine_safe.proofs.Serving.GivingUp.{deed-of}
use Rattle.machine_safe.proofs.Serving.KeptServers.{message_bit}
use Rattle.machine_safe.proofs.Serving.NextActions.{IsProperly}
use Rattle.machine_safe.proofs.Serving.Proper.{AreProper, stepping}
use Rattle.move_laws.proofs.Lists.Cases.{if_cases}
use Rattle.move_laws.proofs.Lists.Totals.{total-append}
use Rattle.machine_safe.proofs.Weight.Lighter.{Lighter, lighter-at-most, lighter-none}
use Rattle.machine_safe.proofs.Weight.Lists.{none-or}
use Rattle.machine_safe.proofs.Weight.Lowers.{are_aside, aside-quiet, lighter-each}
use Rattle.machine_safe.proofs.Weight.ProcessTables.{gains-by}
use Rattle.machine_safe.proofs.Weight.Moves.{gain_bit, made_bit, open-unowned, post_bit}
use Rattle.machine_safe.proofs.Weight.Others.{lighter-pay}
use Rattle.machine_safe.proofs.Weight.Own.{IsQuiet, quiet-both, quiet-end, quiet-none, quiet-refused, quiet-reply_to}
use Rattle.machine_safe.specs.SafeWeights.{handles_by}
use Rattle.machine_safe.specs.Weight.{servers_of}

-- moves that serve nobody send no message, nor do those by which none comes or goes
posts-serving : (own : ObjNo → ℕ) (ms : List Move) → total serving_bit ms ≡ 0 → total (post_bit own) ms ≡ 0
posts-serving own [] none = refl
posts-serving own (move.Messages (Accept slots r) ∷ ms) none = absurd (omega arith)
posts-serving own (m ∷ ms) none = let rest = posts-serving own ms (omega arith) in omega arith

posts-message : (own : ObjNo → ℕ) (ms : List Move) → total message_bit ms ≡ 0 → total (post_bit own) ms ≡ 0
posts-message own [] none = refl
posts-message own (move.Messages (Accept slots r) ∷ ms) none = absurd (omega arith)
posts-message own (m ∷ ms) none = let rest = posts-message own ms (omega arith) in omega arith

posts-behind : (own : ObjNo → ℕ) (answers : Bool) (t : ObjNo) → total (post_bit own) (behind answers t) ≡ 0
posts-behind own true t = refl
posts-behind own false t = refl

-- a thread that owes something is there
owes-inside : (owed : List (List Owed)) (u : ObjNo) (what : Owed) (rest : List Owed) → get_or owed u.0 [] ≡ what ∷ rest → u.0 < length owed
owes-inside owed u what rest owes = elim (cases_lt u.0 (length owed)) as (λ _. u.0 < length owed) [
  | inl within ↦ within
  | inr past ↦ let none = get_or_past owed u.0 [] past in absurd (cc)
]

-- what a thread is at
abbrev at_row : Script → Option ThreadRow → Option Instr
at_row script None = None
at_row script (Some row) = instruction script row

-- bodies are aside
module _ (own : ObjNo → ℕ) where
  one-quiet : (m : Move) → are_aside (m ∷ []) ≡ true → total (post_bit own) (m ∷ []) ≡ 0 → IsQuiet own (m ∷ [])
  one-quiet m aside posts = record { aside = aside; posts = posts }

  quiet-signal : (u : ObjNo) (what : Waiting) → IsQuiet own (signal_move u what ∷ [])
  quiet-signal u waiting.Fast = record { aside = refl; posts = refl }
  quiet-signal u _ = record { aside = refl; posts = refl }

  quiet-signal_row : (u : ObjNo) (row : Option ThreadRow) → IsQuiet own (signal_row u row)
  quiet-signal_row u None = quiet-none own
  quiet-signal_row u (Some row) =
      if_cases (IsQuiet own) (is_live row.stage) (signal_move u row.waiting ∷ []) [] (λ _. quiet-signal u row.waiting)
      (λ _. quiet-none own)

  quiet-object : (S : State) (found : Option ObjNo) → IsQuiet own (signal_object S found)
  quiet-object S None = quiet-none own
  quiet-object S (Some u) = quiet-signal_row u (thread_of S u)

  quiet-complete : (S : State) (d : ℕ) (code : ℤ) (request : Option Request) → IsQuiet own (complete S d code request)
  quiet-complete S d code None = quiet-none own
  quiet-complete S d code (Some request) =
      quiet-both own (move.Requests (Complete d request.thread request.status code) ∷ [])
      (end_wait S request.thread request.status (thread_of S request.thread)) (record { aside = refl; posts = refl })
      (quiet-end own S request.thread request.status (thread_of S request.thread))

  quiet-immediate : (found : Option ℕ) → IsQuiet own (queue_immediate found)
  quiet-immediate None = quiet-none own
  quiet-immediate (Some n) = record { aside = refl; posts = refl }

  quiet-to_move : (found : Option ℕ) → IsQuiet own (queue_to_move found)
  quiet-to_move None = quiet-none own
  quiet-to_move (Some n) = record { aside = refl; posts = refl }

  quiet-call : (S : State) (found : Option ℕ) → IsQuiet own (queue_call S found)
  quiet-call S None = quiet-none own
  quiet-call S (Some n) = record { aside = refl; posts = refl }

  quiet-op : (script : Script) (S : State) (what : Op) → IsQuiet own (op_moves script S what)
  quiet-op script S (op.Idfc name) = quiet-immediate (idfc_named script name)
  quiet-op script S (op.Dfc name) = quiet-to_move (dfc_named script name)
  quiet-op script S (op.Fssignal name) = quiet-object S (find_object S kind.Thread name)
  quiet-op script S (op.Device d code) = quiet-complete S d code (request_at S.synchronization.requests d)
  quiet-op script S (op.Queue name) = quiet-call S (dfc_named script name)

  quiet-ops : (script : Script) (t : ObjNo) (S : State) (ops : List Op) → IsQuiet own (ops_moves script t S ops)
  quiet-ops script t S [] = quiet-none own
  quiet-ops script t S (first ∷ rest) =
      quiet-both own (op_moves script S first) (ops_moves script t (perform t (op_moves script S first) S) rest)
      (quiet-op script S first) (quiet-ops script t (perform t (op_moves script S first) S) rest)

  quiet-leave : (S : State) (what : Body) → IsQuiet own (leave_queue S what)
  quiet-leave S (body.Interrupt k) = quiet-none own
  quiet-leave S (body.Immediate n) = record { aside = refl; posts = refl }
  quiet-leave S (body.Deferred dfc) = record { aside = refl; posts = refl }

  quiet-body : (script : Script) (t : ObjNo) (S : State) (what : Body) → IsQuiet own (run_body script t S what).moves
  quiet-body script t S what =
      quiet-both own (leave_queue S what) (ops_moves script t (perform t (leave_queue S what) S) (ops_of script what))
      (quiet-leave S what) (quiet-ops script t (perform t (leave_queue S what) S) (ops_of script what))

  quiet-plan : (script : Script) (S : State) (found : Option Item) → IsQuiet own (decision_by script supervisor S (immediate_plan script S found)).moves
  quiet-plan script S None = quiet-none own
  quiet-plan script S (Some (item.Idfc call)) = quiet-body script supervisor S (body.Immediate call)
  quiet-plan script S (Some (item.Move dfc)) = record { aside = refl; posts = refl }

-- another's action adds to a doomed thread the handles that it tells at most, if it is of a thread of its process, and logons
pub record Others (S T : State) (t : ObjNo) (row : ThreadRow) (actor : Actor) (effects : List Effect) : Type 0 where
  pub logs : ℕ
  pub lighter : Lighter S T t row 0 (4 * handles_by S row.process actor effects) logs

module _ (script : Script) (S : State) (t : ObjNo) (row : ThreadRow) (shaped : IsShaped script)
    (rows : AreRows script S) (kept : KeepHandles script S) (properly : IsProperly script S) (is : thread_of S t ≡ Some row)
    (doomed : row.stage ≡ Doomed) where
  abbrev owns : ObjNo → ℕ
  owns o = total (mutex_names o) (servers_of S t)

  -- no message is sent to a server of the thread
  unowned : (o : ObjNo) → is_closing S.serving.servers o ≡ false → owns o ≡ 0
  unowned o accepting = none-or (owns o) (λ some. open-unowned script S t t row rows is doomed o accepting some)

  abbrev Posts : Decision → Type 0
  Posts d = total (post_bit owns) d.moves ≡ 0

  posts-sent : (u : ObjNo) (at : Option Instr) (d : Decision) → IsSending S u at d → Posts d
  posts-sent u at d s =
      let all = ap (total (post_bit owns)) s.moves in
      let parts = total-append (post_bit owns) s.front (move.Messages (Accept s.slots s.row) ∷ s.back) in
      let front = posts-serving owns s.front s.quiet in
      let back = posts-message owns s.back s.still in
      let own = unowned s.row.server s.accepting in omega arith

  posts-finished : (u : ObjNo) (at : Option Instr) (d : Decision) → IsFinishing S u at d → Posts d
  posts-finished u at d s =
      let all = ap (total (post_bit owns)) s.moves in
      let parts = total-append (post_bit owns) (finish S s.message s.code) (behind s.answers u) in
      let rest = (quiet-both owns (close_refused s.message s.code)
      (reply_to S s.message.row.client s.code s.message.row.way (thread_of S s.message.row.client))
      (quiet-refused owns s.message s.code) (quiet-reply_to owns S s.message.row.client s.code s.message.row.way
      (thread_of S s.message.row.client))).posts in
      let last = posts-behind owns s.answers u in omega arith

  each-posts : (u : ObjNo) (at : Option Instr) → OfEach S u at Posts
  each-posts u at = record {
    keeps = λ d k. posts-message owns d.moves k.still;
    sends = λ d k. posts-sent u at d k;
    finishes = λ d k. posts-finished u at d k;
    makes = λ d k. let all = ap (total (post_bit owns)) k.moves in let rest = posts-serving owns k.back k.quiet in omega arith;
    joins = λ d k. let all = ap (total (post_bit owns)) k.moves in let rest = posts-serving owns k.back k.quiet in omega arith;
    closes = λ d k. let all = ap (total (post_bit owns)) k.moves in let last = posts-behind owns k.answers u in omega arith;
    stops = λ d k. ap (total (post_bit owns)) k.moves;
  }

  posts-of : (u : ObjNo) → Posts (decision_of script S u)
  posts-of u =
      deed-of script S u (at_row script (thread_of S u)) Posts
      (each-posts u (at_row script (thread_of S u))) shaped rows kept (λ r at. ap (at_row script) at)

  abbrev Adds : Actor → State → List Effect → Type 0
  Adds actor T effects = Others S T t row actor effects

  -- as many logons, and so many handles
  adds : (u : ObjNo) (actor : Actor) (ms : List Move)
      → Lighter S (perform u ms S) t row 0 (4 * total (gain_bit row.process) ms) (total (made_bit t) ms)
      → total (gain_bit row.process) ms ≤ handles_by S row.process actor (tell u ms S)
      → Adds actor (perform u ms S) (tell u ms S)
  adds u actor ms all few = record {
    logs = total (made_bit t) ms;
    lighter =
        lighter-at-most S (perform u ms S) t row 0 (4 * total (gain_bit row.process) ms) (total (made_bit t) ms) 0
        (4 * handles_by S row.process actor (tell u ms S)) (total (made_bit t) ms) all (omega arith) (omega arith)
        (omega arith);
  }

  -- and nothing
  adds-none : (actor : Actor) (T : State) (effects : List Effect) → Lighter S T t row 0 0 0 → Adds actor T effects
  adds-none actor T effects h = record {
    logs = 0;
    lighter =
        lighter-at-most S T t row 0 0 0 0 (4 * handles_by S row.process actor effects) 0 h (omega arith) (omega arith)
        (omega arith);
  }

  others-doing : (u : ObjNo) (ms : List Move) → (u.0 ≡ t.0 → ⊥) → total (post_bit owns) ms ≡ 0
      → AreProper script (stepping S u) ms → Doing script S u ms → Adds (Thread u) (perform u ms S) (tell u ms S)
  others-doing u ms apart posts proper does = elim does as (λ _. Adds (Thread u) (perform u ms S) (tell u ms S)) [
    | inl goes ↦
        adds u (Thread u) ms (lighter-each script S u t row owns ms is doomed goes.each goes.few goes.sane
        (λ o. omega arith) posts (inl apart)) (gains-by script S u row.process ms proper)
    | inr other ↦ elim other as (λ _. Adds (Thread u) (perform u ms S) (tell u ms S)) [
      | inl pays ↦
          let paid = lighter-pay script S u t row rows is doomed pays.what pays.rest pays.owes
          (owes-inside S.references.owed u pays.what pays.rest pays.owes) apart in
          subst (λ (l : List Move). Adds (Thread u) (perform u l S) (tell u l S)) (sym pays.moves)
          (adds-none (Thread u) (moved u (move.Pay pays.what) S) (tell u (move.Pay pays.what ∷ []) S) paid)
      | inr nothing ↦
          subst (λ (l : List Move). Adds (Thread u) (perform u l S) (tell u l S)) (sym nothing)
          (adds-none (Thread u) S [] (lighter-none S t row is))
    ]
  ]

  others-act : (u : ObjNo) → (u.0 ≡ t.0 → ⊥) → Adds (Thread u) (act script S u).state (act script S u).outcome.effects
  unfolding act
  others-act u apart = others-doing u (decision_of script S u).moves apart (posts-of u) (properly.acts u) (doing script S u shaped rows)

  -- what is done without a thread
  others-quiet : (actor : Actor) (ms : List Move) → IsQuiet owns ms → Goes script supervisor S ms → Adds actor (perform supervisor ms S) (tell supervisor ms S)
  others-quiet actor ms quiet goes =
      let none = aside-quiet t row.process ms quiet.aside in
      adds supervisor actor ms (lighter-each script S supervisor t row owns ms is doomed goes.each goes.few
      (sane-supervisor script S rows) (λ o. omega arith) quiet.posts (inr quiet.aside)) (let a = none.0 in omega arith)

  others-interrupt : (k : ℕ) → Adds (Irq k) (interrupt script S k).state (interrupt script S k).outcome.effects
  unfolding interrupt
  others-interrupt k = others-quiet (Irq k) _ (quiet-body owns script supervisor S (body.Interrupt k)) (goes-interrupt script S k shaped rows)

  others-immediate : Adds Idfc (immediate script S).state (immediate script S).outcome.effects
  unfolding immediate
  others-immediate =
      let found = next_immediate S.synchronization.deferred in
      others-quiet Idfc _ (quiet-plan owns script S found) (goes-immediate script S found shaped rows refl)

  -- any actor but the thread itself
  pub others-next : (actor : Actor) → is_by t actor ≡ false → Adds actor (next script S actor) (transition script S actor).outcome.effects
  others-next (Thread u) other = others-act u (λ at. let own = eq-eqb u.0 t.0 at in absurd (cc))
  others-next (Irq k) other = others-interrupt k
  others-next Idfc other = others-immediate
  others-next Tick other = adds-none Tick S [] (lighter-none S t row is)
  others-next Idle other = adds-none Idle S [] (lighter-none S t row is)
