-- A kernel goes on: after an actor's action its core stands for one entry more.
use Rattle.std.proofs.Common.{◌≡◌, ℕ, ◌+◌, List, [], ◌∷◌, ◌++◌, length, Bool, true, false, None, refl, sym, ap, subst, ◌∙◌}
use Rattle.std.specs.Prelude.{◌&&◌}
use Rattle.sym_base.specs.declared.number.ObjNo.{ObjNo}
use Rattle.script_types.specs.declared.script.Script.{Script}
use Rattle.script_types.specs.Source.{IsWellFormed}
use Rattle.script_types.proofs.ShapeLaws.{formed_is_shaped}
use Rattle.entry_log.specs.declared.entry.Actor.{Actor}
use Rattle.entry_log.specs.declared.entry.Actor.TheVariants.{Idle}
use Rattle.entry_log.specs.declared.entry.Entry.{Entry}
use Rattle.entry_log.specs.declared.step.Step.TheVariants.{Wait}
use Rattle.machine.specs.declared.mode.Mode.{Mode}
use Rattle.machine.specs.declared.state.State.{State}
use Rattle.machine.specs.Arrived.{arrived_in, arrived_next}
use Rattle.machine.specs.Boot.{boot, boot_in}
use Rattle.ready_list.specs.Ready.{Ready}
use Rattle.machine.specs.Choice.{priority_of}
use Rattle.machine.specs.History.{after_in, choosing, entry_by, entry_of, is_deathless, keeping, next, next_by, CanAct, IsLegalIn}
use Rattle.machine.specs.Transition.{Transition}
use Rattle.machine.specs.WellFormed.{AreRows, IsReadyList}
use Rattle.machine_laws.proofs.Reached.AfterHistory.{well_formed-after, well_formed-keeping}
use Rattle.machine_laws.proofs.Reached.Histories.{after-push, arrived-push, legal-push}
use Rattle.machine_laws.proofs.Reached.Modes.{able-keeping, kept-same, shared-after, unkept-after}
use Rattle.kernel_tables.specs.Choosing.{sharing}
use Rattle.kernel_tables.specs.CoreView.{CoreView, RunsScript}
use Rattle.kernel_tables.specs.ReadyQueues.{AreReady}
use Rattle.kcore.specs.Acting.{Went, WentAt}
use Rattle.kcore.proofs.ActionsDone.{idle_does}

-- a core that stands for the state after a history, in which nothing is chosen yet
pub record Begins {W : Type 0} (shared : Bool) (script : Script) (history : List Entry) (core : CoreView W) : Type 0 where
  pub valid : IsWellFormed script
  pub legal : IsLegalIn shared script history
  pub state : core.state ≡ keeping shared (after_in shared script history)
  pub queues : AreReady (priority_of core.state) (arrived_in shared script history) core.ready

-- one that stands for the state that an action left
pub record Follows {W : Type 0} (shared : Bool) (script : Script) (history : List Entry) (core : CoreView W) : Type 0 where
  pub legal : IsLegalIn shared script history
  pub state : core.state ≡ after_in shared script history
  pub queues : AreReady (priority_of core.state) (arrived_in shared script history) core.ready

module _ {W : Type 0} (shared : Bool) (script : Script) (history : List Entry) (old : CoreView W) (h : Begins shared script history old) where
  abbrev S : State
  S = after_in shared script history

  -- it runs the script
  pub runs : RunsScript script old
  runs = record {
    shaped = formed_is_shaped script h.valid;
    rows =
        subst (AreRows script) (sym h.state) (well_formed-keeping script S (arrived_in shared script history) shared
        (well_formed-after shared script history h.valid)).rows;
  }

  -- an actor that may act after the history may act in the core
  pub may : (actor : Actor) → CanAct script S actor → CanAct script old.state actor
  may actor can = subst (λ (T : State). CanAct script T actor) (sym h.state) (able-keeping script S shared actor can)

  list : IsReadyList script old.state (arrived_in shared script history)
  list =
      subst (λ (T : State). IsReadyList script T (arrived_in shared script history)) (sym h.state)
      (well_formed-keeping script S (arrived_in shared script history) shared
      (well_formed-after shared script history h.valid)).ready

  module _ (new : List Entry) (core : CoreView W) (actor : Actor) (went : Went script history new old core actor) where
    e : Entry
    e = went.entry

    -- the state in which the entry acted
    chosen : keeping core.state.mode.keep old.state ≡ choosing e S
    unfolding e
    chosen =
        let kept : core.state.mode.keep ≡ (old.state.mode.keep && is_deathless went.entry.effects) = ap (λ (m : Mode). m.keep) went.does.mode in
        let first : old.state.mode.keep ≡ shared = ap (λ (T : State). T.mode.keep) h.state in
        let same_shared : shared ≡ S.mode.shared = sym (shared-after script (boot_in shared script) history) in
        let keep : core.state.mode.keep ≡ (S.mode.shared && is_deathless went.entry.effects) =
        kept ∙ ap (λ (b : Bool). b && is_deathless went.entry.effects) (first ∙ same_shared) in
        ap (λ (T : State). keeping core.state.mode.keep T) h.state ∙ ap (λ (b : Bool). keeping b S) keep

    acts : went.entry.actor ≡ actor
    acts = ap (λ (x : Entry). x.actor) went.told

    -- the entry is the one of the definitions
    pub tale : went.entry ≡ entry_by script (choosing went.entry S) (length history + 1) actor
    unfolding e
    tale =
        went.told
        ∙ (ap (λ (a : Transition). entry_of (length history + 1) actor a.outcome) went.does.did
        ∙ ap (λ (T : State). entry_by script T (length history + 1) actor) chosen)

    state-is : core.state ≡ next_by script S went.entry
    unfolding e
    state-is =
        ap (λ (d : Transition). d.state) went.does.did
        ∙ (ap (λ (T : State). next script T actor) chosen ∙ ap (next script (choosing went.entry S)) (sym acts))

    -- the core stands for the longer history
    pub follows : CanAct script S actor → Follows shared script new core
    unfolding e
    follows can = record {
      legal =
          subst (IsLegalIn shared script) (sym went.longer)
          (legal-push shared script history went.entry h.legal
          (record {
            able = subst (CanAct script S) (sym acts) can;
            told = tale ∙ ap (entry_by script (choosing went.entry S) (length history + 1)) (sym acts);
          }));
      state = state-is ∙ (sym (after-push shared script history went.entry) ∙ ap (after_in shared script) (sym went.longer));
      queues =
          let qs = arrived_in shared script history in
          let to : arrived_next script (keeping core.state.mode.keep old.state) actor qs ≡ arrived_in shared script new =
          ap (λ (T : State). arrived_next script T actor qs) chosen
          ∙ (ap (λ (a : Actor). arrived_next script (choosing went.entry S) a qs) (sym acts)
          ∙ (sym (arrived-push shared script history went.entry) ∙ ap (arrived_in shared script) (sym went.longer))) in
          subst (λ (l : List ObjNo). AreReady (priority_of core.state) l core.ready) to (went.does.queues qs list h.queues);
    }

-- where one caller calls the kernel alone, an action begins in the core as it stands
pub begins-alone : {W : Type 0} (script : Script) (history : List Entry) (core : CoreView W) → IsWellFormed script
    → Follows false script history core → Begins false script history core
begins-alone script history core valid h = record {
  valid = valid;
  legal = h.legal;
  state = h.state ∙ sym (kept-same false (after_in false script history) (unkept-after script (boot script) history refl refl));
  queues = h.queues;
}

-- where callers share it, in the core once it is told so
shares : (S : State) → S.mode.shared ≡ true → sharing S ≡ keeping true S
shares S is = ap (λ (b : Bool). record S { mode = record S.mode { shared = b; keep = true } }) (sym is)

queues-shared : {W : Type 0} (old mid : CoreView W) (qs : List ObjNo) → mid.state ≡ sharing old.state
    → mid.ready ≡ old.ready → AreReady (priority_of old.state) qs old.ready
    → AreReady (priority_of mid.state) qs mid.ready
queues-shared old mid qs state ready h =
    let same_state : AreReady (priority_of mid.state) qs old.ready = subst (λ (T : State). AreReady (priority_of T) qs old.ready) (sym state) h in
    subst (λ (r : Ready). AreReady (priority_of mid.state) qs r) (sym ready) same_state

pub begins-split : {W : Type 0} (script : Script) (history : List Entry) (old mid : CoreView W) → IsWellFormed script
    → Follows true script history old → mid.state ≡ sharing old.state → mid.ready ≡ old.ready
    → Begins true script history mid
begins-split script history old mid valid h state ready = record {
  valid = valid;
  legal = h.legal;
  state = state ∙ (ap sharing h.state ∙ shares (after_in true script history) (shared-after script (boot_in true script) history));
  queues = queues-shared old mid (arrived_in true script history) state ready h.queues;
}

pub begins-fresh : {W : Type 0} (shared : Bool) (script : Script) (old mid : CoreView W) → IsWellFormed script
    → Follows shared script [] old → mid.state ≡ sharing old.state → mid.ready ≡ old.ready → Begins true script [] mid
begins-fresh shared script old mid valid h state ready = record {
  valid = valid;
  legal = tt;
  state = state ∙ ap sharing h.state;
  queues = queues-shared old mid (arrived_in shared script []) state ready h.queues;
}

-- nobody acts: an entry of nobody, of this place, comes behind others, and the core stays
pub rested-at : {W : Type 0} (script : Script) (place : ℕ) (entries new : List Entry) (core : CoreView W)
    → new ≡ entries ++ entry_of place Idle (record { step = Wait; effects = []; answer = None }) ∷ []
    → WentAt script place entries new core core Idle
rested-at script place entries new core longer = record {
  entry = entry_of place Idle (record { step = Wait; effects = []; answer = None });
  longer = longer;
  told = refl;
  does = idle_does script core (record { step = Wait; effects = []; answer = None }) refl;
}

pub rested : {W : Type 0} (script : Script) (history new : List Entry) (core : CoreView W)
    → new ≡ history ++ entry_of (length history + 1) Idle (record { step = Wait; effects = []; answer = None }) ∷ []
    → Went script history new core core Idle
rested script history new core longer = rested-at script (length history + 1) history new core longer
