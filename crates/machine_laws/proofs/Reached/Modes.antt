-- Whether callers share the kernel is settled at boot.
use Rattle.std.proofs.Common.{◌≡◌, ℕ, List, [], ◌∷◌, Bool, true, false, refl, sym, ap, ◌∙◌}
use Rattle.std.specs.Prelude.{◌&&◌}
use Rattle.sym_base.specs.declared.number.ObjNo.{ObjNo}
use Rattle.script_types.specs.declared.script.Script.{Script}
use Rattle.entry_log.specs.declared.entry.Actor.{Actor}
use Rattle.entry_log.specs.declared.entry.Actor.TheVariants.{Thread, Irq, Idfc, Tick, Idle}
use Rattle.entry_log.specs.declared.entry.Entry.{Entry}
use Rattle.state_rows.specs.Deferred.{next_immediate}
use Rattle.state_rows.specs.declared.duty.Owed.TheVariants.{Close, Sweep}
use Rattle.machine.specs.declared.mode.Mode.{Mode}
use Rattle.machine.specs.declared.moves.Move.{Move}
use Rattle.machine.specs.declared.moves.Move.TheVariants.{Pay}
use Rattle.machine.specs.declared.plan.Body.TheVariants.{Interrupt}
use Rattle.machine.specs.declared.plan.Plan.{Plan}
use Rattle.machine.specs.declared.plan.Plan.TheVariants.{Runs}
use Rattle.machine.specs.declared.state.State.{State}
use Rattle.machine.specs.Bodies.{decision_by}
use Rattle.machine.specs.History.{after_from, choosing, is_deathless, keeping, next, next_by, CanAct}
use Rattle.machine.specs.Interrupts.{done_by, immediate, immediate_plan, interrupt, supervisor}
use Rattle.machine.specs.Moves.{moved, perform}
use Rattle.machine.specs.Steps.{decision_of}
use Rattle.machine.specs.Transition.{act}

pub mode-moved : (S : State) (t : ObjNo) (m : Move) → (moved t m S).mode ≡ S.mode
mode-moved S t (Pay (Close h o)) = refl
mode-moved S t _ = refl

pub mode-perform : (S : State) (t : ObjNo) (ms : List Move) → (perform t ms S).mode ≡ S.mode
mode-perform S t [] = refl
mode-perform S t (m ∷ ms) = mode-perform (moved t m S) t ms ∙ mode-moved S t m

mode-act : (script : Script) (S : State) (t : ObjNo) → (act script S t).state.mode ≡ S.mode
unfolding act
mode-act script S t = mode-perform S t (decision_of script S t).moves

mode-done : (script : Script) (S : State) (plan : Plan) → (done_by script S plan).state.mode ≡ S.mode
mode-done script S plan = mode-perform S supervisor (decision_by script supervisor S plan).moves

mode-interrupt : (script : Script) (S : State) (k : ℕ) → (interrupt script S k).state.mode ≡ S.mode
unfolding interrupt
mode-interrupt script S k = mode-done script S (Runs (Interrupt k))

mode-immediate : (script : Script) (S : State) → (immediate script S).state.mode ≡ S.mode
unfolding immediate
mode-immediate script S = mode-done script S (immediate_plan script S (next_immediate S.synchronization.deferred))

-- no action changes its mode
pub mode-next : (script : Script) (S : State) (actor : Actor) → (next script S actor).mode ≡ S.mode
mode-next script S (Thread t) = mode-act script S t
mode-next script S (Irq k) = mode-interrupt script S k
mode-next script S Idfc = mode-immediate script S
mode-next script S Tick = refl
mode-next script S Idle = refl

pub shared-by : (script : Script) (S : State) (e : Entry) → (next_by script S e).mode.shared ≡ S.mode.shared
shared-by script S e = ap (λ (m : Mode). m.shared) (mode-next script (choosing e S) e.actor)

pub shared-after : (script : Script) (S : State) (es : List Entry) → (after_from script S es).mode.shared ≡ S.mode.shared
shared-after script S [] = refl
shared-after script S (e ∷ es) = shared-after script (next_by script S e) es ∙ shared-by script S e

-- where one caller makes the history alone, nothing is ever kept
pub unkept-after : (script : Script) (S : State) (es : List Entry) → S.mode.shared ≡ false → S.mode.keep ≡ false → (after_from script S es).mode.keep ≡ false
unkept-after script S [] alone unkept = unkept
unkept-after script S (e ∷ es) alone unkept =
    unkept-after script (next_by script S e) es (shared-by script S e ∙ alone)
    (ap (λ (m : Mode). m.keep) (mode-next script (choosing e S) e.actor)
    ∙ ap (λ (b : Bool). b && is_deathless e.effects) alone)

-- a state whose choice is this one
pub kept-same : (keep : Bool) (S : State) → S.mode.keep ≡ keep → keeping keep S ≡ S
kept-same keep S is = ap (λ (b : Bool). keeping b S) (sym is)

-- so no entry chooses there
pub choosing-alone : (S : State) (e : Entry) → S.mode.shared ≡ false → S.mode.keep ≡ false → choosing e S ≡ S
choosing-alone S e alone unkept = ap (λ (b : Bool). keeping (b && is_deathless e.effects) S) alone ∙ kept-same false S unkept

-- and every entry of a shared history does
pub choosing-shared : (S : State) (e : Entry) → S.mode.shared ≡ true → choosing e S ≡ keeping (is_deathless e.effects) S
choosing-shared S e shared = ap (λ (b : Bool). keeping (b && is_deathless e.effects) S) shared

-- who may act is asked of no choice
pub able-keeping : (script : Script) (S : State) (keep : Bool) (actor : Actor) → CanAct script S actor → CanAct script (keeping keep S) actor
able-keeping script S keep Idle able = record { none = able.none; nobody = able.nobody }
able-keeping script S keep _ able = able

pub able-kept : (script : Script) (S : State) (keep : Bool) (actor : Actor) → CanAct script (keeping keep S) actor → CanAct script S actor
able-kept script S keep Idle able = record { none = able.none; nobody = able.nobody }
able-kept script S keep _ able = able

-- numbers are used again in each state or in none
pub reuse-after : (script : Script) (S : State) (es : List Entry) → (after_from script S es).mode.reuse ≡ S.mode.reuse
reuse-after script S [] = refl
reuse-after script S (e ∷ es) =
    reuse-after script (next_by script S e) es ∙ ap (λ (m : Mode). m.reuse) (mode-next script (choosing e S) e.actor)
