-- What an action leaves in the core is what the definitions say.
use Rattle.std.proofs.Common.{◌≡◌, ◌∙◌, inl, inr, ℕ, Bool, true, false, List, [], ◌∷◌, ◌++◌, refl, sym, ap, subst}
use Rattle.std.specs.Prelude.{◌==◌, not, ◌&&◌, filter, if◌then◌else◌, None}
use Rattle.std.proofs.lemmas.Bool.{cases_Bool, or_parts, eq-eqb}
use Rattle.sym_base.specs.declared.number.ObjNo.{ObjNo}
use Rattle.script_types.specs.declared.script.Script.{Script}
use Rattle.entry_log.specs.declared.effect.Effect.{Effect}
use Rattle.entry_log.specs.declared.entry.Actor.TheVariants.{Tick, Idle}
use Rattle.entry_log.specs.declared.step.Step.TheVariants.{Turn, Wait}
use Rattle.machine.specs.declared.decision.Decision.{Decision}
use Rattle.machine.specs.declared.decision.Outcome.{Outcome}
use Rattle.machine.specs.declared.moves.Move.{Move}
use Rattle.machine.specs.declared.state.State.{State}
use Rattle.machine.specs.Arrivals.{is_listed, touched, taken_out, arrive, arrivals, ready_after}
use Rattle.machine.specs.Choice.{priority_of}
use Rattle.machine.specs.History.{is_deathless, keeping, transition}
use Rattle.machine.specs.Moves.{moved, perform, tell}
use Rattle.machine.specs.Task.{is_ready}
use Rattle.machine.specs.Tick.{after_tick}
use Rattle.machine.specs.Transition.{carried_out, left}
use Rattle.machine_laws.proofs.Reached.Modes.{mode-perform}
use Rattle.ready_list.specs.Ready.{Ready}
use Rattle.ref_words.specs.Words.{Words}
use Rattle.table_moves.specs.Notes.{Notes, notes_of}
use Rattle.kernel_tables.specs.Choosing.{MayChoose}
use Rattle.kernel_tables.specs.CoreView.{CoreView}
use Rattle.kernel_tables.specs.Moved.{MovesGo, MovesRun}
use Rattle.kernel_tables.specs.OwnMoves.{AreOwn}
use Rattle.kernel_tables.specs.Performed.{IsMade, IsPerformed}
use Rattle.kcore.specs.Done.{Acts, CarriesOut, Does, WasMade}
use Rattle.kernel_tables.specs.ReadyQueues.{AreReady, Follow, leave_along}
use Rattle.kernel_tables.proofs.ReadyLists.{is_touched, leave_is_filter, listed_behind, taken_listed}

-- who came, or was there
arrive_listed : (script : Script) (S : State) (us qs : List ObjNo) (u : ObjNo)
    → is_listed (arrive script S us qs) u ≡ true → is_listed us u ≡ false → is_listed qs u ≡ true
arrive_listed script S [] qs u listed none = listed
arrive_listed script S (v ∷ us) qs u listed none =
    let parts = or_parts (v.0 == u.0) (is_listed us u) none in
    let before = arrive_listed script S us (if is_ready script S v && not (is_listed qs v) then qs ++ v ∷ [] else qs) u listed parts.1 in
    elim (cases_Bool (is_ready script S v && not (is_listed qs v))) as (λ _. is_listed qs u ≡ true) [
      | inl comes ↦ elim (listed_behind qs v u (rw comes at before)) [
        | inl there ↦ there
        | inr is ↦ let same : (v.0 == u.0) ≡ true = is_same v u is in absurd (cc)
      ]
      | inr stays ↦ rw stays at before
    ]
  where
    is_same : (v u : ObjNo) → v ≡ u → (v.0 == u.0) ≡ true
    is_same v u is = eq-eqb v.0 u.0 (ap (λ (o : ObjNo). o.0) is)

-- who isn't touched, and was ready where it stood in the list, is ready still
stays_ready : (script : Script) (t : ObjNo) (ms : List Move) (S : State) (qs : List ObjNo) (u : ObjNo)
    → MovesRun script t ms S → (is_listed qs u ≡ true → is_ready script S u ≡ true)
    → is_listed (arrivals script t ms S qs) u ≡ true → is_touched t ms u ≡ false
    → is_ready script (perform t ms S) u ≡ true
stays_ready script t [] S qs u go was listed apart = was listed
stays_ready script t (m ∷ ms) S qs u go was listed apart =
    let parts = or_parts (is_listed (touched t m) u) (is_touched t ms u) apart in
    stays_ready script t ms (moved t m S) (arrive script (moved t m S) (touched t m) (taken_out m qs)) u go.1
    (λ there. go.0.apart u parts.0 ∙ was (taken_listed m qs u
    (arrive_listed script (moved t m S) (touched t m) (taken_out m qs) u there parts.0))) listed parts.1

-- moves that go through leave what is in order
pub go-run : (script : Script) (t : ObjNo) (ms : List Move) (S : State) → MovesGo script t ms S → MovesRun script t ms S
go-run script t [] S go = tt
go-run script t (m ∷ ms) S go = (go.0.runs, go-run script t ms (moved t m S) go.1)

-- an action that the core made was made
pub was-made : {W : Type 0} (script : Script) (t : ObjNo) (d : Decision) (old new : CoreView W) (effects : List Effect)
    → IsMade script t d old new effects → WasMade script t d old new effects
was-made script t d old new effects made = record {
  decided = made.decided;
  runs = go-run script t d.moves (keeping new.state.mode.keep old.state) made.went;
  performed = made.performed;
}

-- so it was in a core that was lent
pub made-in : {W : Type 0} (script : Script) (t : ObjNo) (d : Decision) (old lent new : CoreView W)
    (effects : List Effect)
    → IsMade script t d old lent effects → lent ≡ new → WasMade script t d old new effects
made-in {W} script t d old lent new effects made same =
    was-made script t d old new effects (subst (λ (v : CoreView W). IsMade script t d old v effects) same made)

-- so are moves known there for the thread's own
pub own-in : (t : ObjNo) (ms lent new : List Move) (own : Bool) → (own ≡ true → AreOwn t ms) → lent ≡ ms → lent ≡ new → own ≡ true → AreOwn t new
own-in t ms lent new own known decided same is = subst (AreOwn t) same (subst (AreOwn t) (sym decided) (known is))

-- what was kept in a core that was lent is kept in the one that lent it
pub kept-in : (last new lent old : Notes) → last ≡ new → lent ≡ old → lent ≡ new → last ≡ old
kept-in last new lent old ends kept same = ends ∙ (sym same ∙ kept)

-- and the choice is open there still, if no move was made
pub may-in-lent : (t : ObjNo) (old lent new : State) (before between after : Notes) → lent ≡ old → between ≡ before
    → lent ≡ new → between ≡ after → MayChoose t before old → MayChoose t after new
may-in-lent t old lent new before between after state notes same_state same_notes may =
    subst (λ (S : State). MayChoose t after S) (sym state ∙ same_state)
    (subst (λ (n : Notes). MayChoose t n old) (sym notes ∙ same_notes) may)

-- parts of a core that is another
pub same-state : {W : Type 0} (a b : CoreView W) → a ≡ b → a.state ≡ b.state
same-state {W} a b same = ap (λ (v : CoreView W). v.state) same

pub same-kept : {W : Type 0} (a b : CoreView W) → a ≡ b → a.notes ≡ b.notes
same-kept {W} a b same = ap (λ (v : CoreView W). v.notes) same

pub same-notes : {W : Type 0} (meaning : W → Words) (a b : CoreView W) → a ≡ b → a.notes ≡ notes_of (meaning a.words) → b.notes ≡ notes_of (meaning b.words)
same-notes {W} meaning a b same is = subst (λ (v : CoreView W). v.notes ≡ notes_of (meaning v.words)) same is

pub same-decision : {W : Type 0} (a b : CoreView W) → a ≡ b → a.decision ≡ b.decision
same-decision {W} a b same = ap (λ (v : CoreView W). v.decision) same

pub same-moves : {W : Type 0} (a b : CoreView W) → a ≡ b → a.decision.moves ≡ b.decision.moves
same-moves {W} a b same = ap (λ (v : CoreView W). v.decision.moves) same

-- a choice that no death was told of
and_true : (b : Bool) → b ≡ (b && true)
and_true true = refl
and_true false = refl

-- an action of a thread that was decided on
pub carried_does : {W : Type 0} (script : Script) (t : ObjNo) (d : Decision) (old mid new : CoreView W)
    (outcome : Outcome) (effects : List Effect)
    → MovesRun script t d.moves (keeping mid.state.mode.keep old.state)
    → IsPerformed script t d.moves old.state mid.state old.ready mid.ready [] effects → new.state ≡ mid.state
    → ((rank : ObjNo → ℕ) → Follow rank (leave_along script mid.state t d.moves) mid.ready new.ready) → outcome
    ≡ record { step = d.step; effects = effects; answer = d.answer } → CarriesOut script t old new outcome d
carried_does script t d old mid new outcome effects runs made same follow told =
    let S = keeping mid.state.mode.keep old.state in
    let T = mid.state in
    let named : List Effect → Outcome = λ es. record { step = d.step; effects = es; answer = d.answer } in
    let there : keeping new.state.mode.keep old.state ≡ S = ap (λ (U : State). keeping U.mode.keep old.state) same in
    let tells : outcome.effects ≡ tell t d.moves S = ap (λ (o : Outcome). o.effects) told ∙ made.told in
    record {
      did =
          ap (λ (U : State). left U outcome) (same ∙ made.state)
          ∙ ap (left (perform t d.moves S)) (told ∙ ap named made.told)
          ∙ sym (ap (λ (U : State). carried_out script t U d) there);
      mode =
          ap (λ (U : State). U.mode) (same ∙ made.state)
          ∙ mode-perform S t d.moves
          ∙ ap (λ (b : Bool). record old.state.mode { keep = b })
          (made.keeps ∙ ap (λ (l : List Effect). old.state.mode.keep && is_deathless l) (sym tells));
      queues = λ qs list ready.
          let came = arrivals script t d.moves S qs in
          let stay = leave_is_filter script T t d.moves came
          (λ u listed apart. ap (λ (U : State). is_ready script U u) made.state
          ∙ stays_ready script t d.moves S qs u runs (λ there. sym (list.exact u) ∙ there) listed apart) in
          let rest : leave_along script T t d.moves came ≡ ready_after script t d.moves S qs =
          stay ∙ ap (λ (U : State). filter (is_ready script U) came) made.state in
          let left_in : AreReady (priority_of T) (ready_after script t d.moves S qs) new.ready =
          subst (λ (l : List ObjNo). AreReady (priority_of T) l new.ready) rest
          (follow (priority_of T) came (made.queues qs ready)) in
          subst (λ (U : State). AreReady (priority_of U) (ready_after script t d.moves (keeping U.mode.keep old.state) qs) new.ready) (sym same) left_in;
    }

-- what is decided in the old state is decided in the one with the choice that was made
pub planned_does : (script : Script) (t : ObjNo) (old new : State) (before after : Ready) (outcome : Outcome)
    (decide : State → Decision)
    → decide (keeping new.mode.keep old) ≡ decide old
    → Does script old before new after outcome (λ S. carried_out script t S (decide old))
    (ready_after script t (decide old).moves)
    → Does script old before new after outcome (λ S. carried_out script t S (decide S))
    (λ S. ready_after script t (decide S).moves S)
planned_does script t old new before after outcome decide same does =
    let S = keeping new.mode.keep old in
    record {
      did = does.did ∙ ap (carried_out script t S) (sym same);
      mode = does.mode;
      queues =
          λ qs list ready. subst (λ (d : Decision). AreReady (priority_of new) (ready_after script t d.moves S qs) after)
          (sym same) (does.queues qs list ready);
    }

-- one decision is another
pub does_as : (script : Script) (t : ObjNo) (old new : State) (before after : Ready) (outcome : Outcome)
    (d e : Decision)
    → d ≡ e → Does script old before new after outcome (λ S. carried_out script t S d) (ready_after script t d.moves)
    → Does script old before new after outcome (λ S. carried_out script t S e) (ready_after script t e.moves)
does_as script t old new before after outcome d e is does =
    subst (λ (x : Decision). Does script old before new after outcome (λ S. carried_out script t S x)
    (ready_after script t x.moves)) is does

-- an action that moves nothing leaves the choice as it was
still_open : (old new : State) (outcome : Outcome) → new ≡ old → outcome.effects ≡ []
    → new.mode ≡ record old.mode { keep = old.mode.keep && is_deathless outcome.effects }
still_open old new outcome same none =
    ap (λ (U : State). U.mode) same
    ∙ ap (λ (b : Bool). record old.mode { keep = b })
    (and_true old.mode.keep ∙ ap (λ (l : List Effect). old.mode.keep && is_deathless l) (sym none))

-- a time slice ends
pub tick_does : {W : Type 0} (script : Script) (old new : CoreView W) (outcome : Outcome) → new.state ≡ old.state
    → Follow (priority_of old.state) (after_tick old.state) old.ready new.ready
    → outcome ≡ record { step = Turn; effects = []; answer = None } → Acts script old new outcome Tick
tick_does script old new outcome same follow told =
    let there : keeping new.state.mode.keep old.state ≡ old.state = ap (λ (U : State). keeping U.mode.keep old.state) same in
    record {
      did = ap (λ (U : State). left U outcome) same ∙ ap (left old.state) told ∙ sym (ap (λ (U : State). transition script U Tick) there);
      mode = still_open old.state new.state outcome same (ap (λ (o : Outcome). o.effects) told);
      queues =
          λ qs list ready. subst (λ (U : State). AreReady (priority_of U)
          (after_tick (keeping U.mode.keep old.state) qs) new.ready) (sym same) (follow qs ready);
    }

-- nobody acts
pub idle_does : {W : Type 0} (script : Script) (core : CoreView W) (outcome : Outcome)
    → outcome ≡ record { step = Wait; effects = []; answer = None } → Acts script core core outcome Idle
idle_does script core outcome told = record {
  did = ap (left core.state) told;
  mode = still_open core.state core.state outcome refl (ap (λ (o : Outcome). o.effects) told);
  queues = λ qs list ready. ready;
}
