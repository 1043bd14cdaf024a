-- Returns of threads that are out.
use Rattle.std.proofs.Common.{◌≡◌, ◌∙◌, ℕ, ◌<◌, Bool, true, false, List, [], ◌∷◌, inr, arith, refl, sym, ap, subst, Option, Some, None}
use Rattle.std.specs.Prelude.{◌&&◌, ◌==◌, not, slice_get}
use Rattle.std.specs.List.{slice_index_or}
use Rattle.std.proofs.lemmas.Bool.{and_from, and_parts, eq-eqb, eqb-true, not-true}
use Rattle.sym_base.specs.declared.number.ObjNo.{ObjNo}
use Rattle.sym_base.specs.declared.word.Word.{Word}
use Rattle.script_types.specs.declared.script.Script.{Script}
use Rattle.script_types.specs.Shape.{IsShaped}
use Rattle.script_types.specs.declared.declaration.DfcDecl.{DfcDecl}
use Rattle.script_types.specs.declared.declaration.IdfcDecl.{IdfcDecl}
use Rattle.entry_log.specs.declared.effect.Effect.{Effect}
use Rattle.entry_log.specs.declared.step.Part.{Part}
use Rattle.entry_log.specs.declared.step.Part.TheVariants as part
use Rattle.entry_log.specs.declared.step.Step.TheVariants.{Of}
use Rattle.objects.specs.Rows.{HasAlive, StandsAt, is_alive}
use Rattle.state_rows.specs.ObjectRows.{place_of}
use Rattle.state_rows.specs.declared.object.ObjectRow.{ObjectRow}
use Rattle.state_rows.specs.declared.thread.ThreadRow.{ThreadRow}
use Rattle.machine.specs.declared.decision.Decision.{Decision}
use Rattle.machine.specs.declared.moves.Move.{Move}
use Rattle.machine.specs.declared.moves.Move.TheVariants.{Open}
use Rattle.machine.specs.declared.plan.Body.{Body}
use Rattle.machine.specs.declared.plan.Body.TheVariants.{Interrupt, Immediate, Deferred}
use Rattle.machine.specs.declared.state.State.{State}
use Rattle.machine.specs.Bodies.{decision_by, run_dfc, run_idfc, step_of_body}
use Rattle.machine.specs.Find.{is_open, miss, return_to}
use Rattle.machine.specs.History.{keeping}
use Rattle.machine.specs.Out.{seeks}
use Rattle.machine.specs.References.{total}
use Rattle.machine.specs.Rows.{object_of}
use Rattle.machine.specs.Steps.{decision_of}
use Rattle.machine.specs.ThreadCalls.{is_live}
use Rattle.machine.specs.WellFormed.{AreRows, IsAlive}
use Rattle.move_laws.proofs.Lists.Cases.{if_cases}
use Rattle.move_laws.proofs.Lists.Totals.{total_any}
use Rattle.machine_laws.proofs.Sharing.Seekers.{seeks-one}
use Rattle.machine_laws.proofs.Reached.AfterHistory.{rows-keeping}
use Rattle.machine_laws.proofs.Reached.Choices.{decision-same}
use Rattle.next_actions.specs.Planned.{planned}
use Rattle.kernel_tables.specs.CoreView.{CoreView}
use Rattle.kernel_tables.specs.Moved.{MoveRuns, MovesRun}
use Rattle.kernel_tables.specs.Performed.{ActionGoes, IsPerformed}
use Rattle.kernel_tables.proofs.GoingActions.{action_goes, action_runs}
use Rattle.kernel_tables.proofs.GoingMoves.{opening_bit}
use Rattle.kcore.specs.Done.{WasMade}
use Rattle.kcore.specs.Sending.{ReturnsTo, part_in}

-- what may be opened is alive and has the place
pub open_alive : (place : ℕ) (row : Option ObjectRow) → is_open place row ≡ true → IsAlive row × (place_of row ≡ place)
open_alive place None opened = absurd (cc)
open_alive place (Some row) opened =
    let parts = and_parts (not row.dead) (row.place == place) opened in
    (not-true row.dead parts.0, eqb-true row.place place parts.1)

-- an object of a place that has one number only isn't alive, if what has that number isn't alive or has another place
pub none_held : (rows : List (Option ObjectRow)) (p : ℕ) (o : ObjNo) → StandsAt rows p o.0
    → is_open p (slice_index_or rows o.0 None) ≡ false → HasAlive rows p → ⊥
none_held rows p o stands shut held = by (slice_index_or rows held.0 None) refl
  where
    by : (x : Option ObjectRow) → slice_index_or rows held.0 None ≡ x → ⊥
    by None is = let alive : is_alive None ≡ true = ap is_alive (sym is) ∙ held.1 in absurd (cc)
    by (Some row) is =
        let place : row.place ≡ p = ap place_of (sym is) ∙ held.2 in
        let alive : not row.dead ≡ true = ap is_alive (sym is) ∙ held.1 in
        let here : held.0 ≡ o.0 = stands held.0 row is place in
        let opened : is_open p (Some row) ≡ true = and_from (not row.dead) (row.place == p) alive (eq-eqb row.place p place) in
        let at : slice_index_or rows o.0 None ≡ Some row = ap (λ (k : ℕ). slice_index_or rows k None) (sym here) ∙ is in
        let closed : is_open p (Some row) ≡ false = ap (is_open p) (sym at) ∙ shut in
        absurd (cc)

-- a return's step tells that it is one, and no body's does
return_step : (S : State) (t : ObjNo) (row : ThreadRow) (word : Word) (p : Part) → (return_to S t row word p).step ≡ Of word part.Return
return_step S t row word p =
    if_cases (λ (d : Decision). d.step ≡ Of word part.Return) (is_open row.sought_place (object_of S row.sought)) _ _
    (λ _. refl) (λ _. missed (is_live row.stage))
  where
    missed : (live : Bool) → (miss t word row.sought live).step ≡ Of word part.Return
    missed true = refl
    missed false = refl

idfc_apart : (item : Option IdfcDecl) (word : Word) → run_idfc item ≡ Of word part.Return → ⊥
idfc_apart None word same = cc
idfc_apart (Some idfc) word same = cc

dfc_apart : (dfc : Option DfcDecl) (word : Word) → run_dfc dfc ≡ Of word part.Return → ⊥
dfc_apart None word same = cc
dfc_apart (Some dfc) word same = cc

body_apart : (script : Script) (body : Body) (word : Word) → step_of_body script body ≡ Of word part.Return → ⊥
body_apart script (Interrupt k) word same = cc
body_apart script (Immediate item) word same = idfc_apart (slice_get script.idfcs item) word same
body_apart script (Deferred dfc) word same = dfc_apart (slice_get script.dfcs dfc) word same

-- so a return is decided at once
pub return_decided : (script : Script) (S : State) (t : ObjNo) (row : ThreadRow) (word : Word) (p : Part)
    (decision : Decision) (body : Option Body)
    → decision_by script t S (planned decision body) ≡ decision_of script S t
    → decision_of script S t ≡ return_to S t row word p → decision ≡ decision_of script S t
return_decided script S t row word p decision None is returns = is
return_decided script S t row word p decision (Some body) is returns =
    absurd (body_apart script body word (ap (λ (d : Decision). d.step) (is ∙ returns) ∙ return_step S t row word p))

-- its moves: it opens what is alive and has the place that it found, or opens nothing
pub opens : (script : Script) (S : State) (t : ObjNo) (p : ℕ) (object : ObjNo) (h : ReturnsTo script S t p) → object ≡ h.back.row.sought
    → is_open p (object_of S object) ≡ true → (decision_of script S t).moves ≡ Open t object h.part ∷ []
opens script S t p object h is opened =
    let row = h.back.row in
    let here : is_open row.sought_place (object_of S row.sought) ≡ true =
    ap (λ (n : ℕ). is_open n (object_of S row.sought)) h.sought
    ∙ ap (λ (x : ObjNo). is_open p (object_of S x)) (sym is)
    ∙ opened in
    ap (λ (d : Decision). d.moves) h.decides
    ∙ if_cases (λ (d : Decision). d.moves ≡ Open t row.sought h.part ∷ [])
    (is_open row.sought_place (object_of S row.sought)) _ _ (λ _. refl) (λ shut. absurd (cc))
    ∙ ap (λ (x : ObjNo). Open t x h.part ∷ []) (sym is)

pub opens_nothing : (script : Script) (S : State) (t : ObjNo) (p : ℕ) (object : ObjNo) (h : ReturnsTo script S t p) → object ≡ h.back.row.sought
    → is_open p (object_of S object) ≡ false → total opening_bit (decision_of script S t).moves ≡ 0
opens_nothing script S t p object h is shut =
    let row = h.back.row in
    let here : is_open row.sought_place (object_of S row.sought) ≡ false =
    ap (λ (n : ℕ). is_open n (object_of S row.sought)) h.sought
    ∙ ap (λ (x : ObjNo). is_open p (object_of S x)) (sym is)
    ∙ shut in
    ap (λ (d : Decision). total opening_bit d.moves) h.decides
    ∙ if_cases (λ (d : Decision). total opening_bit d.moves ≡ 0) (is_open row.sought_place (object_of S row.sought)) _ _
    (λ opened. absurd (cc)) (λ _. missed (is_live row.stage))
  where
    missed : (live : Bool) → total opening_bit (miss t h.word h.back.row.sought live).moves ≡ 0
    missed true = refl
    missed false = refl

-- an object of the place that a thread found has the number that it found
pub stands-at : (script : Script) (S : State) (t : ObjNo) (p : ℕ) (object : ObjNo) → AreRows script S → (h : ReturnsTo script S t p)
    → object ≡ h.back.row.sought → StandsAt S.references.objects p object.0
stands-at script S t p object rows h is k row at place =
    let one = seeks-one S t h.found h.back in
    let most = total_any (seeks h.found h.back.row.sought_place) S.references.threads t.0 None refl in
    let here : 0 < total (seeks h.found row.place) S.references.threads =
    subst (λ (n : ℕ). 0 < total (seeks h.found n) S.references.threads) (h.sought ∙ sym place) (omega arith) in
    rows.references.places.found h.found k row at here ∙ ap (λ (x : ObjNo). x.0) (sym h.back.found ∙ sym is)

-- what moves leave is in order with either choice
pub runs_keeping : (script : Script) (S : State) (t : ObjNo) (keep : Bool) → IsShaped script → AreRows script S
    → MovesRun script t (decision_of script S t).moves (keeping keep S)
runs_keeping script S t keep shaped rows =
    subst (λ (d : Decision). MovesRun script t d.moves (keeping keep S)) (decision-same script S t keep shaped rows)
    (action_runs script (keeping keep S) t shaped (rows-keeping script S keep rows))

-- what was made in a core that is like another
pub made-like : {W : Type 0} (script : Script) (t : ObjNo) (d e : Decision) (a b new : CoreView W)
    (effects : List Effect)
    → a.state ≡ b.state → a.ready ≡ b.ready → d ≡ e → WasMade script t d a new effects
    → WasMade script t e b new effects
made-like script t d e a b new effects state ready same made = record {
  decided = made.decided ∙ same;
  runs =
      subst (λ (S : State). MovesRun script t e.moves (keeping new.state.mode.keep S)) state
      (subst (λ (x : Decision). MovesRun script t x.moves (keeping new.state.mode.keep a.state)) same made.runs);
  performed =
      subst (λ (x : Decision). IsPerformed script t x.moves b.state new.state b.ready new.ready [] effects) same
      (subst (λ r. IsPerformed script t d.moves b.state new.state r new.ready [] effects) ready
      (subst (λ (S : State). IsPerformed script t d.moves S new.state a.ready new.ready [] effects) state
      made.performed));
}

-- what was decided opens the note's object
pub open-moves : (script : Script) (S : State) (t : ObjNo) (p : ℕ) (object : ObjNo) (q : Part) (decision : Decision)
    (h : ReturnsTo script S t p) → object ≡ h.back.row.sought → is_open p (object_of S object) ≡ true
    → decision ≡ decision_of script S t → q ≡ part_in decision.moves → decision.moves ≡ Open t object q ∷ []
open-moves script S t p object q decision h number opened is parts =
    let moves : decision.moves ≡ Open t object h.part ∷ [] = ap (λ (d : Decision). d.moves) is ∙ opens script S t p object h number opened in
    let part_same : q ≡ h.part = parts ∙ ap part_in moves in
    moves ∙ ap (λ (r : Part). Open t object r ∷ []) (sym part_same)

pub open-runs : (script : Script) (S : State) (t object : ObjNo) (q : Part) (decision : Decision) → IsShaped script
    → AreRows script S → decision ≡ decision_of script S t → decision.moves ≡ Open t object q ∷ []
    → MoveRuns script t (Open t object q) S
open-runs script S t object q decision shaped rows is moves =
    let runs = subst (λ (d : Decision). MovesRun script t d.moves S) (sym is) (action_runs script S t shaped rows) in
    (subst (λ (ms : List Move). MovesRun script t ms S) moves runs).0

-- what was decided opens nothing, if that is gone
pub miss-goes : (script : Script) (S : State) (t : ObjNo) (p : ℕ) (object : ObjNo) (decision : Decision) → IsShaped script → AreRows script S
    → (h : ReturnsTo script S t p) → object ≡ h.back.row.sought → is_open p (object_of S object) ≡ false
    → decision ≡ decision_of script S t → ActionGoes script t decision.moves S
miss-goes script S t p object decision shaped rows h number shut is =
    subst (λ (d : Decision). ActionGoes script t d.moves S) (sym is)
    (action_goes script S t shaped rows (inr (opens_nothing script S t p object h number shut)))
