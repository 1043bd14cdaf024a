-- A thread at a later step of an instruction uses what its look or its return found.
use Rattle.machine_safe.proofs.Serving.ServerOwners.{Owned}
use Rattle.machine_safe.proofs.Serving.NextActions.{IsProperly}
use Rattle.machine.specs.Boot.{boot_in}
use Rattle.machine.specs.History.{next}
use Rattle.machine.specs.Steps.{return_of, step_of}
use Rattle.machine.specs.WellFormed.{AreRows}
use Rattle.machine.specs.declared.state.State.{State}
use Rattle.machine_safe.proofs.Serving.Course.{needs_use}
use Rattle.machine_safe.proofs.Serving.Courses.{course, return-course}
use Rattle.machine_safe.proofs.Serving.StepFacts.{Nowhere, course-gives, returning-part, straight-of, straying}
use Rattle.machine_safe.proofs.Serving.LaterSteps.{Facts, IsFact, StepsGive, boot-fact, next-fact}
use Rattle.script_types.specs.Shape.{IsShaped}
use Rattle.script_types.specs.declared.instruction.Instr.{Instr}
use Rattle.script_types.specs.declared.script.Script.{Script}
use Rattle.entry_log.specs.declared.entry.Actor.{Actor}
use Rattle.entry_log.specs.declared.step.Part.{Part}
use Rattle.entry_log.specs.declared.step.Part.TheVariants as part
use Rattle.state_rows.specs.declared.thread.ThreadRow.{ThreadRow}
use Rattle.std.proofs.Common.{Bool, None, Option, Some, ap, refl, sym, true, ◌∙◌, ◌≡◌}
use Rattle.std.specs.Prelude.{is_some}
use Rattle.sym_base.specs.declared.number.ObjNo.{ObjNo}

abbrev pub UsesOne : State → ObjNo → ThreadRow → Type 0
UsesOne S u row = is_some row.uses ≡ true

used-later : (at : Option Instr) (p : Option Part) → needs_use at p ≡ true → is_some p ≡ true
used-later None p e = absurd (cc)
used-later (Some i) None e = absurd (cc)
used-later (Some i) (Some p) e = refl

pub used-fact : (script : Script) → IsFact script needs_use UsesOne
used-fact script = record {
  later = used-later;
  carried = λ S t ms rows has u row is c passes was. ap is_some (sym c.mid.uses) ∙ was;
  paid = λ S t what rows dead u row is mid was. ap is_some (sym mid.uses) ∙ was;
}

-- no step strays, since the instruction has each
pub used-gives : (script : Script) (S : State) (t : ObjNo) → AreRows script S → Owned S
    → Facts script straying Nowhere S → Facts script needs_use UsesOne S → StepsGive script needs_use UsesOne S t
used-gives script S t rows own straight has = record {
  steps =
      λ old i here live going at was fits. course-gives script needs_use UsesOne
      (used-fact script) S rows own has t old i old.part (step_of script S t old i old.part) here at
      (straight-of script S straight t old i here live at) (λ to there due row is at on. on.uses due) fits
      (course script S t old here rows i old.part live at refl fits going);
  returns =
      λ old i here live back at was fits. course-gives script needs_use UsesOne
      (used-fact script) S rows own has t old i (Some part.Return) (return_of S t old i) here at
      (λ q e. straight-of script S straight t old i here live at q (returning-part old.part back ∙ e))
      (λ to there due row is at on. on.uses due) fits (return-course script S t old here rows i);
}

-- each action leaves it, and at boot nobody uses anything
pub used-next : (script : Script) (S : State) → IsShaped script → AreRows script S → Owned S → IsProperly script S
    → Facts script straying Nowhere S → Facts script needs_use UsesOne S → (actor : Actor)
    → Facts script needs_use UsesOne (next script S actor)
used-next script S shaped rows own properly straight has actor =
    next-fact script needs_use UsesOne (used-fact script) S rows own has shaped properly
    (λ t. used-gives script S t rows own straight has) actor

pub used-boot : (shared : Bool) (script : Script) → IsShaped script → Facts script needs_use UsesOne (boot_in shared script)
used-boot shared script shaped = boot-fact shared script needs_use UsesOne (used-fact script) shaped
