-- In every legal history nobody waits by mistake.
use Rattle.std.proofs.Common.{Bool, List, ap, inl, inr, subst, sym, ◌++◌, ◌∙◌, ◌∷◌, ◌≡◌}
use Rattle.std.specs.Prelude.{◌&&◌}
use Rattle.script_types.proofs.ShapeLaws.{formed_is_shaped}
use Rattle.script_types.specs.Source.{IsWellFormed}
use Rattle.script_types.specs.declared.script.Script.{Script}
use Rattle.entry_log.specs.declared.entry.Actor.TheVariants.{Idle}
use Rattle.entry_log.specs.declared.entry.Entry.{Entry}
use Rattle.entry_log.specs.declared.step.Step.TheVariants.{Wait}
use Rattle.machine.specs.Boot.{boot_in}
use Rattle.machine.specs.History.{IsLegalIn, after_in, choosing, is_deathless, transition}
use Rattle.machine_laws.proofs.Fitting.Regular.{acts}
use Rattle.machine_safe.proofs.Deaths.HistoryCuts.{cut}
use Rattle.machine_safe.proofs.Finders.Actions.{AtFinds}
use Rattle.machine_safe.proofs.Finders.Runs.{stands-rest}
use Rattle.machine_safe.proofs.LegalReferences.{stands-boot}
use Rattle.machine_safe.proofs.LegalServing.{book-after, handles-keeping}
use Rattle.machine_safe.proofs.Serving.Progress.{actor-acts, lacks-nothing}
use Rattle.machine_safe.proofs.Serving.NothingLacking.{steady-keeping}
use Rattle.machine_safe.specs.SafeDeaths.{StandsAt}
use Rattle.machine_safe.specs.SafeWaits.{IsSafeWaits}

waits : (shared : Bool) (script : Script) (history before : List Entry) (e : Entry) (later : List Entry)
    → IsWellFormed script → IsLegalIn shared script history → StandsAt history before e later → e.step ≡ Wait
    → e.actor ≡ Idle
waits shared script history before e later valid legal is waiting =
    let c = cut shared script history before e later valid legal is in
    let shaped = formed_is_shaped script valid in
    let legal_is = subst (IsLegalIn shared script) is legal in
    let books = book-after shared script before (e ∷ later) valid legal_is in
    let S = after_in shared script before in
    let keep = S.mode.shared && is_deathless e.effects in
    let stands = stands-rest script shaped (boot_in shared script) 1 before (e ∷ later) (stands-boot shared script (before ++ e ∷ later) valid legal_is) in
    let finds : AtFinds script (choosing e S) = λ t row there back. stands.1.at t row there back in
    let nothing = lacks-nothing script (choosing e S) shaped c.rows_done finds (steady-keeping script S keep books.3) (handles-keeping script S keep books.2) in
    let told : (transition script (choosing e S) e.actor).outcome.step ≡ Wait = ap (λ (x : Entry). x.step) (sym c.done.told) ∙ waiting in
    elim (actor-acts script (choosing e S) shaped c.rows_done nothing e.actor c.done.able) as (λ _. e.actor ≡ Idle) [
      | inl does ↦ let acted = ap acts told in absurd (cc)
      | inr idle ↦ idle
    ]

pub legal_waits : (shared : Bool) (script : Script) (history : List Entry) → IsWellFormed script → IsLegalIn shared script history → IsSafeWaits history
legal_waits shared script history valid legal = record { idle = λ before e later is waiting. waits shared script history before e later valid legal is waiting }
