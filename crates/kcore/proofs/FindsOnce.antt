-- An entry that finds an object is a thread's, and tells nothing else.
use Rattle.std.proofs.Common.{◌≡◌, ◌<◌, ℕ, Bool, true, false, List, [], ◌∷◌, arith, refl, ap, sym, ◌∙◌, Some, None}
use Rattle.std.specs.Prelude.{if◌then◌else◌}
use Rattle.sym_base.specs.declared.number.ObjNo.{ObjNo}
use Rattle.script_types.specs.declared.script.Script.{Script}
use Rattle.script_types.specs.Shape.{IsShaped}
use Rattle.entry_log.specs.declared.effect.Effect.{Effect}
use Rattle.entry_log.specs.declared.effect.Effect.TheVariants.{Seek}
use Rattle.entry_log.specs.declared.entry.Actor.{Actor}
use Rattle.entry_log.specs.declared.entry.Actor.TheVariants.{Thread, Irq, Idfc, Tick, Idle}
use Rattle.state_rows.specs.Deferred.{next_immediate}
use Rattle.machine.specs.declared.moves.Move.{Move}
use Rattle.machine.specs.declared.plan.Body.TheVariants.{Interrupt}
use Rattle.machine.specs.declared.plan.Plan.TheVariants.{Runs}
use Rattle.machine.specs.declared.state.State.{State}
use Rattle.machine.specs.Bodies.{decision_by}
use Rattle.machine.specs.History.{transition}
use Rattle.machine.specs.Interrupts.{immediate, immediate_plan, interrupt, supervisor}
use Rattle.machine.specs.Moves.{tell}
use Rattle.machine.specs.References.{total}
use Rattle.machine.specs.SharedRun.{is_return}
use Rattle.machine.specs.Steps.{decision_of}
use Rattle.machine.specs.Told.{finds}
use Rattle.machine.specs.Transition.{act}
use Rattle.machine.specs.WellFormed.{AreRows}
use Rattle.move_laws.proofs.References.Same.{same_self}
use Rattle.machine_laws.proofs.Fitting.Interrupts.{light-immediate, light-interrupt}
use Rattle.machine_laws.proofs.Fitting.Regular.{coming_bit}
use Rattle.machine_laws.proofs.Sharing.Losses.{comes-next}
use Rattle.machine_safe.specs.FindsAndReturns.{times_found}
use Rattle.machine_safe.proofs.Finders.Actions.{finding}
use Rattle.machine_safe.proofs.Finders.Dormant.{finds-tell}
use Rattle.kcore.specs.Finds.{finders_by, found_in}

-- what effects find
pub found-some : (effects : List Effect) (o : ObjNo) → found_in effects ≡ Some o → 0 < finds effects o
found-some [] o is = absurd (cc)
found-some (Seek x ∷ rest) o is = let same_object : x ≡ o = cc in let one = same_self o in rw same_object (omega arith)
found-some (_ ∷ rest) o is = found-some rest o is

pub found-none : (effects : List Effect) (o : ObjNo) → found_in effects ≡ None → finds effects o ≡ 0
found-none [] o is = refl
found-none (Seek x ∷ rest) o is = absurd (cc)
found-none (_ ∷ rest) o is = found-none rest o is

pub times-none : (effects : List Effect) → found_in effects ≡ None → times_found effects ≡ 0
times-none [] is = refl
times-none (Seek x ∷ rest) is = absurd (cc)
times-none (_ ∷ rest) is = let none = times-none rest is in omega arith

pub finders-none : (actor : Actor) → finders_by actor None ≡ []
finders-none (Thread t) = refl
finders-none (Irq k) = refl
finders-none Idfc = refl
finders-none Tick = refl
finders-none Idle = refl

-- the find of a thread
pub record IsFind (actor : Actor) (effects : List Effect) (o : ObjNo) : Type 0 where
  pub thread : ObjNo
  pub acts : actor ≡ Thread thread
  pub tells : effects ≡ Seek o ∷ []

act-find : (script : Script) (S : State) (t o : ObjNo) → IsShaped script → AreRows script S
    → 0 < finds (act script S t).outcome.effects o → IsFind (Thread t) (act script S t).outcome.effects o
unfolding act
act-find script S t o shaped rows some =
    let bits = finds-tell t (decision_of script S t).moves S o in
    let f = finding script S t shaped rows o (omega arith) in
    record { thread = t; acts = refl; tells = ap (λ (ms : List Move). tell t ms S) f.moves }

interrupt-none : (script : Script) (S : State) (k : ℕ) (o : ObjNo) → IsShaped script → AreRows script S → finds (interrupt script S k).outcome.effects o ≡ 0
unfolding interrupt
interrupt-none script S k o shaped rows =
    finds-tell supervisor (decision_by script supervisor S (Runs (Interrupt k))).moves S o
    ∙ (light-interrupt script S k shaped rows).calm.finds o

immediate-none : (script : Script) (S : State) (o : ObjNo) → IsShaped script → AreRows script S → finds (immediate script S).outcome.effects o ≡ 0
unfolding immediate
immediate-none script S o shaped rows =
    let plan = immediate_plan script S (next_immediate S.synchronization.deferred) in
    finds-tell supervisor (decision_by script supervisor S plan).moves S o
    ∙ (light-immediate script S (next_immediate S.synchronization.deferred) shaped rows refl).calm.finds o

-- so it is no return
find-forth : (script : Script) (S : State) (t o : ObjNo) → IsShaped script → AreRows script S
    → 0 < finds (act script S t).outcome.effects o → is_return (act script S t).outcome.step ≡ false
unfolding act
find-forth script S t o shaped rows some =
    let d = decision_of script S t in
    let bits = finds-tell t d.moves S o in
    let f = finding script S t shaped rows o (omega arith) in
    let none : total coming_bit d.moves ≡ 0 = ap (total coming_bit) f.moves in
    unbit (is_return d.step) (sym (comes-next script S (Thread t) shaped rows) ∙ none)
  where
    unbit : (b : Bool) → ◌≡◌ {A = ℕ} (if b then 1 else 0) 0 → b ≡ false
    unbit true one = absurd (omega arith)
    unbit false none = refl

pub next-forth : (script : Script) (S : State) (actor : Actor) (o : ObjNo) → IsShaped script → AreRows script S
    → 0 < finds (transition script S actor).outcome.effects o
    → is_return (transition script S actor).outcome.step ≡ false
next-forth script S (Thread t) o shaped rows some = find-forth script S t o shaped rows some
next-forth script S (Irq k) o shaped rows some = let none = interrupt-none script S k o shaped rows in absurd (omega arith)
next-forth script S Idfc o shaped rows some = let none = immediate-none script S o shaped rows in absurd (omega arith)
next-forth script S Tick o shaped rows some = absurd (omega arith)
next-forth script S Idle o shaped rows some = absurd (omega arith)

pub next-find : (script : Script) (S : State) (actor : Actor) (o : ObjNo) → IsShaped script → AreRows script S
    → 0 < finds (transition script S actor).outcome.effects o
    → IsFind actor (transition script S actor).outcome.effects o
next-find script S (Thread t) o shaped rows some = act-find script S t o shaped rows some
next-find script S (Irq k) o shaped rows some = let none = interrupt-none script S k o shaped rows in absurd (omega arith)
next-find script S Idfc o shaped rows some = let none = immediate-none script S o shaped rows in absurd (omega arith)
next-find script S Tick o shaped rows some = absurd (omega arith)
next-find script S Idle o shaped rows some = absurd (omega arith)
