-- What steps come to gives facts of threads at later steps; the first is that each such step is one of the instruction.
use Rattle.machine_safe.proofs.Serving.NextActions.{IsProperly}
use Rattle.machine_safe.proofs.Serving.ServerOwners.{Owned}
use Rattle.machine_safe.proofs.Serving.Course.{has_step, IsOn, Course, strays, answers, idles, opens, stays, comes, goes}
use Rattle.machine_safe.proofs.Serving.Courses.{course, return-course}
use Rattle.machine_safe.proofs.Serving.LaterSteps.{fact-carried, going-of, Facts, FactThen, IsFact, StepsGive, answered-fact, boot-fact, early-fact, idle-fact, next-fact}
use Rattle.std.proofs.Common.{not, Bool, None, Option, Some, ap, arith, false, refl, subst, sym, true, ◌∙◌, ◌≡◌}
use Rattle.std.specs.Prelude.{is_some, ◌==◌}
use Rattle.script_types.specs.declared.instruction.Instr.{Instr}
use Rattle.script_types.specs.declared.script.Script.{Script}
use Rattle.machine.specs.declared.state.State.{State}
use Rattle.state_rows.specs.declared.thread.ThreadRow.{ThreadRow}
use Rattle.sym_base.specs.declared.number.ObjNo.{ObjNo}
use Rattle.entry_log.specs.declared.step.Part.{Part}
use Rattle.entry_log.specs.declared.step.Part.TheVariants as part
use Rattle.machine.specs.WellFormed.{AreRows}
use Rattle.machine.specs.Rows.{thread_of}
use Rattle.machine.specs.declared.decision.Decision.{Decision}
use Rattle.machine_laws.proofs.Fitting.Regular.{Kinds, advance_bit, answer_bit}
use Rattle.machine.specs.Moves.{perform}
use Rattle.machine_laws.proofs.Fitting.Actions.{FitsAction}
use Rattle.machine.specs.Task.{instruction}
use Rattle.machine_safe.proofs.Serving.OtherThreads.{at-each, same-instruction}
use Rattle.machine.specs.References.{total}
use Rattle.move_laws.proofs.References.Same.{if_zero}
use Rattle.machine.specs.Steps.{step_of, return_of}
use Rattle.state_rows.specs.declared.thread.Stage.TheVariants.{Live}
use Rattle.script_types.specs.Shape.{IsShaped}
use Rattle.entry_log.specs.declared.entry.Actor.{Actor}
use Rattle.machine.specs.History.{next}
use Rattle.machine.specs.Boot.{boot_in}
use Rattle.machine.specs.Out.{is_returning}

-- a fact follows from what the step of a thread comes to, if it holds wherever a step goes on
module _ (script : Script) (due : Option Instr → Option Part → Bool) (F : State → ObjNo → ThreadRow → Type 0)
    (fact : IsFact script due F) (S : State) (rows : AreRows script S) (own : Owned S) (has : Facts script due F S)
    (t : ObjNo) where
  -- it holds where the thread goes on to a step
  abbrev pub HoldsOn : ThreadRow → Instr → Option Part → Decision → Type 0
  HoldsOn old i p d =
      (to : Part) → has_step i to ≡ true → due (Some i) (Some to) ≡ true → (row : ThreadRow)
      → thread_of (perform t d.moves S) t ≡ Some row → instruction script row ≡ Some i
      → IsOn S t old i p (perform t d.moves S) to row → F (perform t d.moves S) t row

  abbrev Then : Decision → Type 0
  Then d = FactThen script due F S t d

  none-due : (at : Option Instr) → due at None ≡ false
  none-due at = by (due at None) refl
    where
      by : (b : Bool) → due at None ≡ b → due at None ≡ false
      by false e = e
      by true e = let later = fact.later at None e in absurd (cc)

  gone-on : {k : Kinds} (old : ThreadRow) (i : Instr) (p : Option Part) (d : Decision) (to : Part)
      → thread_of S t ≡ Some old → instruction script old ≡ Some i → has_step i to ≡ true → d.answer ≡ None
      → ((row : ThreadRow) → thread_of (perform t d.moves S) t ≡ Some row → is_some row.part ≡ true
      → IsOn S t old i p (perform t d.moves S) to row)
      → HoldsOn old i p d → FitsAction k script S t d → Then d
  gone-on old i p d to here at there silent on holds fits row is live owes =
      let w = at-each script S t d.moves fits.goes.each t.0 row is in
      let none : total advance_bit d.moves ≡ 0 = fits.regular.answers ∙ ap answer_bit silent in
      let still = if_zero (t.0 == t.0) (total advance_bit d.moves) none in
      let own : w.old ≡ old = (let a = w.was in cc) in
      let now : instruction script row ≡ Some i = same-instruction script w.old row w.role
      (let p = w.place in omega arith) ∙ (ap (instruction script) own ∙ at) in
      let reached = on row is (fact.later (instruction script row) row.part owes) in
      holds to there (ap (due (Some i)) (sym reached.part) ∙ (ap (λ (x : Option Instr). due x row.part) (sym now) ∙ owes)) row is now reached

  pub course-gives : {k : Kinds} (old : ThreadRow) (i : Instr) (p : Option Part) (d : Decision)
      → thread_of S t ≡ Some old → instruction script old ≡ Some i → ((q : Part) → p ≡ Some q → has_step i q ≡ true)
      → HoldsOn old i p d → FitsAction k script S t d → Course script S t old i p d → Then d
  course-gives old i p d here at straight holds fits (strays q e none) = let there = straight q e in absurd (cc)
  course-gives old i p d here at straight holds fits (answers code e told proper) = answered-fact script due F fact S rows own has t d code e fits
  course-gives old i p d here at straight holds fits (opens k o code what uses e told proper) = answered-fact script due F fact S rows own has t d code e fits
  course-gives old i p d here at straight holds fits (idles lacks e) = subst Then (sym e) (idle-fact script due F fact S rows own has t)
  course-gives old i p d here at straight holds fits (stays none told proper) =
      λ row is live owes. fact-carried script due F fact S rows own has t d.moves
      (going-of script due F fact S rows own has fits row is) None proper t row (λ e. absurd (cc))
      (λ _. none) is live owes
  course-gives old i p d here at straight holds fits (comes told proper back) = early-fact script due F fact S rows own has t d None back none-due
  course-gives old i p d here at straight holds fits (goes to there silent told proper on) = gone-on old i p d to here at there silent on holds fits

-- the step of a return
pub returning-part : (p : Option Part) → is_returning p ≡ true → p ≡ Some part.Return
returning-part (Some part.Return) e = refl
returning-part p e = absurd (cc)

-- each step that a live thread is at is one of its instruction
abbrev pub straying : Option Instr → Option Part → Bool
straying at None = false
straying None (Some q) = true
straying (Some i) (Some q) = not (has_step i q)

abbrev pub Nowhere : State → ObjNo → ThreadRow → Type 0
Nowhere S u row = ⊥

stray-later : (at : Option Instr) (p : Option Part) → straying at p ≡ true → is_some p ≡ true
stray-later at None e = absurd (cc)
stray-later at (Some q) e = refl

pub straight-fact : (script : Script) → IsFact script straying Nowhere
straight-fact script = record { later = stray-later; carried = λ S t ms rows has u row is c passes was. was; paid = λ S t what rows dead u row is mid was. was }

pub straight-at : (i : Instr) (p : Option Part) → (straying (Some i) p ≡ true → ⊥) → (q : Part) → p ≡ Some q → has_step i q ≡ true
straight-at i p none q e = by (has_step i q) refl
  where
    by : (b : Bool) → has_step i q ≡ b → has_step i q ≡ true
    by true is = is
    by false is = absurd (none (ap (straying (Some i)) e ∙ ap not is))

pub straight-gives : (script : Script) (S : State) (t : ObjNo) → AreRows script S → Owned S
    → Facts script straying Nowhere S → StepsGive script straying Nowhere S t
straight-gives script S t rows own has = record {
  steps =
      λ old i here live going at was fits. course-gives script straying Nowhere
      (straight-fact script) S rows own has t old i old.part (step_of script S t old i old.part) here at
      (straight-at i old.part was) (λ to there due row is at on. let no = ap not there in absurd (cc)) fits
      (course script S t old here rows i old.part live at refl fits going);
  returns =
      λ old i here live back at was fits. course-gives script straying Nowhere
      (straight-fact script) S rows own has t old i (Some part.Return) (return_of S t old i) here at
      (straight-at i (Some part.Return) (λ s. was (ap (straying (Some i)) (returning-part old.part back) ∙ s)))
      (λ to there due row is at on. let no = ap not there in absurd (cc)) fits
      (return-course script S t old here rows i);
}

-- so the steps of a live thread's instruction have their place in it
pub straight-of : (script : Script) (S : State) → Facts script straying Nowhere S
    → (t : ObjNo) (old : ThreadRow) (i : Instr) → thread_of S t ≡ Some old → old.stage ≡ Live
    → instruction script old ≡ Some i → (q : Part) → old.part ≡ Some q → has_step i q ≡ true
straight-of script S has t old i is live at = straight-at i old.part (λ s. has t old is live (ap (λ (x : Option Instr). straying x old.part) at ∙ s))

-- each action leaves it, and at boot it is so
pub straight-next : (script : Script) (S : State) → IsShaped script → AreRows script S → Owned S → IsProperly script S
    → Facts script straying Nowhere S → (actor : Actor) → Facts script straying Nowhere (next script S actor)
straight-next script S shaped rows own properly has actor =
    next-fact script straying Nowhere (straight-fact script) S rows own has shaped properly
    (λ t. straight-gives script S t rows own has) actor

pub straight-boot : (shared : Bool) (script : Script) → IsShaped script → Facts script straying Nowhere (boot_in shared script)
straight-boot shared script shaped = boot-fact shared script straying Nowhere (straight-fact script) shaped
