-- A fact of a live thread at a later step of an instruction, as what it keeps: other threads' actions leave it, and so do its own unless they go on.
-- So each action leaves it, if the steps that go on give it.
use Rattle.machine_safe.proofs.Deaths.Runs.{each-dies}
use Rattle.machine_safe.proofs.Serving.ActionMoves.{IsGoing}
use Rattle.machine_safe.proofs.Serving.DoomsTold.{doom-told}
use Rattle.machine_laws.proofs.Fitting.Interrupts.{goes-immediate, goes-interrupt, sane-supervisor}
use Rattle.machine_laws.proofs.Fitting.Regular.{doomed_bit}
use Rattle.move_laws.proofs.Lists.Totals.{inside, total_within}
use Rattle.move_laws.proofs.Lives.Bits.{dead_le}
use Rattle.machine_safe.proofs.Serving.NextActions.{IsProperly, Proceeding, fits-any, proceeding, properly, returns, steps}
use Rattle.machine_safe.proofs.Serving.Proper.{AreProper, resting, stepping}
use Rattle.machine_safe.proofs.Serving.ServerOwners.{Owned}
use Rattle.machine_safe.proofs.Serving.ProperLists.{proper-body}
use Rattle.machine_safe.proofs.Serving.ProperGiving.{proper-give}
use Rattle.machine.specs.declared.plan.Body.TheVariants.{Interrupt}
use Rattle.machine_laws.proofs.Fitting.Regular.{plain}
use Rattle.machine.specs.Decide.{nothing}
use Rattle.std.proofs.Common.{Bool, List, None, Option, Some, [], ap, arith, false, get_or, inl, inr, refl, subst, sym, true, ℕ, ℤ, ◌<◌, ◌≤◌, ◌∙◌, ◌∷◌, ◌≡◌}
use Rattle.std.proofs.lemmas.Bool.{cases_eq}
use Rattle.std.specs.Prelude.{◌==◌, is_some}
use Rattle.script_types.specs.declared.instruction.Instr.{Instr}
use Rattle.sym_base.specs.declared.number.ObjNo.{ObjNo}
use Rattle.script_types.specs.declared.script.Script.{Script}
use Rattle.machine.specs.declared.state.State.{State}
use Rattle.state_rows.specs.declared.thread.ThreadRow.{ThreadRow}
use Rattle.machine.specs.WellFormed.{AreRows, IsLiveThread, is_dead, owed_sweeps}
use Rattle.script_types.specs.Shape.{IsShaped}
use Rattle.machine.specs.declared.moves.Move.{Move}
use Rattle.entry_log.specs.declared.step.Part.{Part}
use Rattle.machine.specs.Rows.{object_of, owed_of, thread_of, with_row}
use Rattle.machine.specs.Fits.{EachFits, IsAtStage}
use Rattle.state_rows.specs.declared.thread.Stage.TheVariants.{Live, Doomed, Cleaned, Buried}
use Rattle.machine_laws.proofs.Fitting.Regular.{going_late, Kinds, advance_bit, going_bit, answer_bit, kind_of, looking, kind_given}
use Rattle.move_laws.proofs.RowLaws.Threads.{map_some}
use Rattle.machine.specs.Moves.{moved, perform, advanced}
use Rattle.machine.specs.References.{total}
use Rattle.machine.specs.declared.decision.Decision.{Decision}
use Rattle.machine.specs.Out.{is_returning}
use Rattle.machine.specs.Task.{instruction}
use Rattle.move_laws.proofs.Holders.ThreadRows.{row-here}
use Rattle.machine_laws.proofs.Fitting.Actions.{FitsAction, each-action}
use Rattle.machine.specs.declared.moves.Move.TheVariants.{Advance, Pay}
use Rattle.machine_safe.proofs.Serving.OtherThreads.{Carries, carries-each, midway-pay, at-each, same-instruction, WasMidway}
use Rattle.move_laws.proofs.References.Same.{if_zero, same_object, same_self}
use Rattle.machine.specs.declared.holding.Holding.{Holding}
use Rattle.state_rows.specs.declared.duty.Owed.{Owed}
use Rattle.state_rows.specs.declared.duty.Owed.TheVariants as duty
use Rattle.machine.specs.Steps.{decision_of, return_of, step_of}
use Rattle.machine_laws.proofs.Fitting.ServerEnds.{IsGiven}
use Rattle.machine.specs.Reaping.{give_up}
use Rattle.machine.specs.declared.holding.Holding.TheVariants as holding
use Rattle.machine_safe.proofs.Serving.ActionMoves.{Doing, doing}
use Rattle.machine.specs.Transition.{act}
use Rattle.entry_log.specs.declared.entry.Actor.TheVariants.{Thread, Irq, Idfc, Tick, Idle}
use Rattle.entry_log.specs.declared.entry.Actor.{Actor}
use Rattle.machine.specs.History.{next}
use Rattle.machine.specs.Interrupts.{immediate, interrupt, supervisor}
use Rattle.machine_laws.proofs.Fitting.Interrupts.{light-interrupt, light-immediate}
use Rattle.state_rows.specs.Deferred.{next_immediate}
use Rattle.machine_safe.proofs.Deaths.Rows.{live-left, left-held, held-one, row_bit, stage_live}
use Rattle.machine.specs.Boot.{born, boot_in, boot_of}
use Rattle.machine_laws.proofs.AtBoot.Born.{born_row, each_born}
use Rattle.state_rows.specs.declared.thread.Stage.{Stage}
use Rattle.machine_safe.proofs.Deaths.Runs.{dies-next}

-- proper moves of an action that pass a thread by: it isn't the one that goes on, and isn't doomed
pub record Passes (script : Script) (S : State) (t : ObjNo) (ms : List Move) (u : ObjNo) : Type 0 where
  pub goes : IsGoing script S t ms
  pub own : Owned S
  pub on : Option ObjNo
  pub proper : AreProper script (on, S, None) ms
  pub apart : on ≡ Some u → ⊥
  pub stays : t.0 ≡ u.0 → total going_bit ms ≡ 0
  pub undoomed : total (doomed_bit u) ms ≡ 0

-- what is swept is dead
abbrev pub SweepsDead : State → Owed → Type 0
SweepsDead S (duty.Close h o) = Unit {0}
SweepsDead S (duty.Sweep o) = is_dead (object_of S o) ≡ 1

pub sweeps-dead : (script : Script) (S : State) (t : ObjNo) (what : Owed) (rest : List Owed) → AreRows script S → owed_of S t ≡ what ∷ rest → SweepsDead S what
sweeps-dead script S t (duty.Close h o) rest rows owes = tt
sweeps-dead script S t (duty.Sweep o) rest rows owes =
    let within = total_within (owed_sweeps o) S.references.owed t.0 in
    let first = ap (total (owed_sweeps o)) owes in
    let self = same_self o in
    let all = rows.lives.sweeps o in
    let few = dead_le (object_of S o) in
    omega arith

-- A fact that is due at some steps, all of them later ones of their instructions: moves that carry a thread leave it, and so does a payment.
pub record IsFact (script : Script) (due : Option Instr → Option Part → Bool) (F : State → ObjNo → ThreadRow → Type 0) : Type 0 where
  pub later : (i : Option Instr) (p : Option Part) → due i p ≡ true → is_some p ≡ true
  pub carried : (S : State) (t : ObjNo) (ms : List Move) → AreRows script S
      → ((v : ObjNo) (r : ThreadRow) → thread_of S v ≡ Some r → r.stage ≡ Live → due (instruction script r) r.part
      ≡ true → F S v r)
      → (u : ObjNo) (row : ThreadRow) → thread_of (perform t ms S) u ≡ Some row → (c : Carries S (perform t ms S) u row)
      → Passes script S t ms u → F S u c.mid.old → F (perform t ms S) u row
  pub paid : (S : State) (t : ObjNo) (what : Owed) → AreRows script S → SweepsDead S what → (u : ObjNo) (row : ThreadRow)
      → thread_of (moved t (Pay what) S) u ≡ Some row → (mid : WasMidway S.references.threads u.0 row) → F S u mid.old
      → F (moved t (Pay what) S) u row

-- it holds wherever it is due
abbrev pub Facts : Script → (Option Instr → Option Part → Bool) → (State → ObjNo → ThreadRow → Type 0) → State → Type 0
Facts script due F S = (u : ObjNo) (row : ThreadRow) → thread_of S u ≡ Some row → row.stage ≡ Live → due (instruction script row) row.part ≡ true → F S u row

-- behind the end of its instruction a thread is at no later step
ended-each : (script : Script) (S : State) (t : ObjNo) (ms : List Move) → EachFits script t ms S → going_late ms ≡ 0
    → 0 < total advance_bit ms → (row : ThreadRow) → thread_of (perform t ms S) t ≡ Some row → is_some row.part ≡ false
ended-each script S t [] fits last some row is = absurd (omega arith)
ended-each script S t (Advance u ∷ ms) fits last some row is = by (is_some row.part) refl
  where
    by : (b : Bool) → is_some row.part ≡ b → is_some row.part ≡ false
    by false e = e
    by true e =
        let c = carries-each script (moved t (Advance u) S) t ms fits.1 t row (λ _. last) e is in
        let was = map_some advanced (get_or S.references.threads u.0 None) c.mid.old
        (sym (row-here S.references.threads u advanced t.0 (ap (λ (x : ObjNo). x.0) fits.0.0)) ∙ c.mid.was) in
        let none : None ≡ row.part = ap (λ (r : ThreadRow). r.part) was.2 ∙ c.mid.part in
        let first = ap is_some none in absurd (cc)
ended-each script S t (m ∷ ms) fits last some row is = ended-each script (moved t m S) t ms fits.1 last (omega arith) row is

-- the step of a thread whose row is changed
pub part-after : (threads : List (Option ThreadRow)) (t : ObjNo) (f : ThreadRow → ThreadRow) (p : Option Part)
    → ((r : ThreadRow) → (f r).part ≡ p) → (row : ThreadRow) → get_or (with_row threads t f) t.0 None ≡ Some row
    → row.part ≡ p
part-after threads t f p same row is =
    let last = map_some f (get_or threads t.0 None) row (sym (row-here threads t f t.0 refl) ∙ is) in
    ap (λ (r : ThreadRow). r.part) (sym last.2) ∙ same last.0

-- whoever lives afterwards did before
abbrev Lived : State → State → Type 0
Lived S T = (u : ObjNo) (row : ThreadRow) → thread_of T u ≡ Some row → row.stage ≡ Live → IsLiveThread S.references.threads u

live-row : (threads : List (Option ThreadRow)) (u : ObjNo) (x : Option ThreadRow) → get_or threads u.0 None ≡ x
    → row_bit stage_live x ≡ 1 → IsLiveThread threads u
live-row threads u None e one = absurd (omega arith)
live-row threads u (Some row) e one = by row.stage refl one
  where
    by : (stage : Stage) → row.stage ≡ stage → stage_live stage ≡ 1 → IsLiveThread threads u
    by Live at one = record { row = row; is = e; live = at }
    by Doomed at one = absurd (omega arith)
    by Cleaned at one = absurd (omega arith)
    by Buried at one = absurd (omega arith)

live-one : (x : Option ThreadRow) → row_bit stage_live x ≤ 1
live-one x = let a = live-left x in let b = left-held x in let c = held-one x in omega arith

lived-next : (script : Script) (S : State) (actor : Actor) → IsShaped script → AreRows script S → Lived S (next script S actor)
lived-next script S actor shaped rows u row is live =
    let dies = (dies-next script S actor shaped rows).live u in
    let one : row_bit stage_live (thread_of (next script S actor) u) ≡ 1 = ap (row_bit stage_live) is ∙ ap stage_live live in
    let few = live-one (thread_of S u) in
    live-row S.references.threads u (thread_of S u) refl (omega arith)

-- it holds of the acting thread after a decision
abbrev pub FactThen : Script → (Option Instr → Option Part → Bool) → (State → ObjNo → ThreadRow → Type 0) → State → ObjNo → Decision → Type 0
FactThen script due F S t d =
    (row : ThreadRow) → thread_of (perform t d.moves S) t ≡ Some row → row.stage ≡ Live
    → due (instruction script row) row.part ≡ true → F (perform t d.moves S) t row

-- the steps of instructions and their returns give it, where they go on
pub record StepsGive (script : Script) (due : Option Instr → Option Part → Bool) (F : State → ObjNo → ThreadRow → Type 0) (S : State) (t : ObjNo) : Type 0 where
  pub steps : (old : ThreadRow) (i : Instr) → thread_of S t ≡ Some old → old.stage ≡ Live
      → is_returning old.part ≡ false → instruction script old ≡ Some i → (due (Some i) old.part ≡ true → F S t old)
      → FitsAction (kind_of i old.part) script S t (step_of script S t old i old.part)
      → FactThen script due F S t (step_of script S t old i old.part)
  pub returns : (old : ThreadRow) (i : Instr) → thread_of S t ≡ Some old → old.stage ≡ Live
      → is_returning old.part ≡ true → instruction script old ≡ Some i → (due (Some i) old.part ≡ true → F S t old)
      → FitsAction looking script S t (return_of S t old i) → FactThen script due F S t (return_of S t old i)

module _ (script : Script) (due : Option Instr → Option Part → Bool) (F : State → ObjNo → ThreadRow → Type 0)
    (fact : IsFact script due F) (S : State) (rows : AreRows script S) (own : Owned S) (has : Facts script due F S) where
  pub fact-carried : (t : ObjNo) (ms : List Move) → IsGoing script S t ms → (on : Option ObjNo)
      → AreProper script (on, S, None) ms → (u : ObjNo) (row : ThreadRow) → (on ≡ Some u → ⊥)
      → (t.0 ≡ u.0 → total going_bit ms ≡ 0) → thread_of (perform t ms S) u ≡ Some row → row.stage ≡ Live
      → due (instruction script row) row.part ≡ true → F (perform t ms S) u row
  fact-carried t ms goes on proper u row apart stays is live owes =
      let c = carries-each script S t ms goes.each u row stays (fact.later (instruction script row) row.part owes) is in
      let lives = (each-dies script S t ms goes.each goes.few goes.sane).live u in
      let one = ap (row_bit stage_live) is ∙ ap stage_live live in
      let few = live-one (thread_of S u) in
      let told = doom-told t ms S u in
      let at : instruction script row ≡ instruction script c.mid.old = same-instruction script c.mid.old row c.mid.role (sym c.mid.place) in
      let before : due (instruction script c.mid.old) c.mid.old.part ≡ true =
      ap (due (instruction script c.mid.old)) c.mid.part
      ∙ (ap (λ (i : Option Instr). due i row.part) (sym at) ∙ owes) in
      fact.carried S t ms rows has u row is c
      (record {
        goes = goes;
        own = own;
        on = on;
        proper = proper;
        apart = apart;
        stays = stays;
        undoomed = omega arith;
      }) (has u c.mid.old c.mid.was (c.mid.live live) before)

  -- what is owed is paid
  fact-paid : (t : ObjNo) (what : Owed) → SweepsDead S what → (u : ObjNo) (row : ThreadRow) → thread_of (moved t (Pay what) S) u ≡ Some row
      → row.stage ≡ Live → due (instruction script row) row.part ≡ true → F (moved t (Pay what) S) u row
  fact-paid t what dead u row is live owes =
      let mid = midway-pay S t what u.0 row is in
      let at : instruction script row ≡ instruction script mid.old = same-instruction script mid.old row mid.role (sym mid.place) in
      fact.paid S t what rows dead u row is mid (has u mid.old mid.was (mid.live live)
      (ap (due (instruction script mid.old)) mid.part ∙ (ap (λ (i : Option Instr). due i row.part) (sym at) ∙ owes)))

  abbrev Then : ObjNo → Decision → Type 0
  Then t d = FactThen script due F S t d

  -- who lives afterwards did before
  abbrev LivedBefore : ObjNo → Decision → Type 0
  LivedBefore t d = (row : ThreadRow) → thread_of (perform t d.moves S) t ≡ Some row → row.stage ≡ Live → IsLiveThread S.references.threads t

  -- where an instruction is answered nothing is due
  pub answered-fact : {k : Kinds} (t : ObjNo) (d : Decision) (code : ℤ) → d.answer ≡ Some code → FitsAction k script S t d → Then t d
  answered-fact t d code e fits row is live owes =
      let one = fits.regular.answers ∙ ap answer_bit e in
      let ended = ended-each script S t d.moves fits.goes.each fits.regular.last (omega arith) row is in
      let later = fact.later (instruction script row) row.part owes in absurd (cc)

  -- nor at an instruction of which it isn't at any step
  pub other-fact : {k : Kinds} (t : ObjNo) (d : Decision) (old : ThreadRow) (i : Instr) → thread_of S t ≡ Some old
      → instruction script old ≡ Some i → ((p : Option Part) → due (Some i) p ≡ false) → FitsAction k script S t d
      → Then t d
  other-fact t d old i here at other fits row is live owes = by d.answer refl
    where
      by : (x : Option ℤ) → d.answer ≡ x → F (perform t d.moves S) t row
      by (Some code) e = answered-fact t d code e fits row is live owes
      by None e =
          let w = at-each script S t d.moves fits.goes.each t.0 row is in
          let none : total advance_bit d.moves ≡ 0 = fits.regular.answers ∙ ap answer_bit e in
          let still = if_zero (t.0 == t.0) (total advance_bit d.moves) none in
          let own : w.old ≡ old = (let a = w.was in cc) in
          let now : instruction script row ≡ Some i = same-instruction script w.old row w.role
          (let p = w.place in omega arith) ∙ (ap (instruction script) own ∙ at) in
          let no = other row.part in
          let so : due (Some i) row.part ≡ true = ap (λ (x : Option Instr). due x row.part) (sym now) ∙ owes in absurd (cc)

  -- nor at a step of which it isn't at any instruction
  pub early-fact : (t : ObjNo) (d : Decision) (p : Option Part)
      → ((row : ThreadRow) → thread_of (perform t d.moves S) t ≡ Some row → row.part ≡ p)
      → ((at : Option Instr) → due at p ≡ false) → Then t d
  early-fact t d p part early row is live owes =
      let no = early (instruction script row) in
      let so : due (instruction script row) p ≡ true = ap (due (instruction script row)) (sym (part row is)) ∙ owes in absurd (cc)

  pub idle-fact : (t : ObjNo) → Then t nothing
  idle-fact t row is live owes =
      fact-carried t [] (record {
        sane = record { rows = rows; inside = inside S.references.threads t.0 row is };
        each = tt;
        few = let few = rows.references.duties.few t.0 in omega arith;
      }) None tt t row (λ e. absurd (cc))
      (λ _. refl) is live owes

  -- a doomed thread lives on no more
  dead-fact : (t : ObjNo) (d : Decision) → IsAtStage S t Doomed → LivedBefore t d → Then t d
  dead-fact t d at lived row is live owes =
      let before = lived row is live in
      let same : before.row ≡ at.row = (let a = before.is in let b = at.is in cc) in
      let both : Live ≡ Doomed = sym before.live ∙ (ap (λ (r : ThreadRow). r.stage) same ∙ at.at) in absurd (cc)

  pub going-of : {k : Kinds} {t : ObjNo} {d : Decision} → FitsAction k script S t d → (row : ThreadRow)
      → thread_of (perform t d.moves S) t ≡ Some row → IsGoing script S t d.moves
  going-of {t = t} {d = d} fits row is =
      let w = at-each script S t d.moves fits.goes.each t.0 row is in
      record {
        sane = record { rows = rows; inside = inside S.references.threads t.0 w.old w.was };
        each = fits.goes.each;
        few = fits.goes.few;
      }

  staying-fact : {k : Kinds} (t : ObjNo) (d : Decision) → k.goes ≡ false → AreProper script (resting S) d.moves → FitsAction k script S t d → Then t d
  staying-fact t d stays proper fits row is live owes =
      fact-carried t d.moves (going-of fits row is) None proper t row (λ e. absurd (cc))
      (λ _. fits.regular.goes stays) is live owes

  give-fact : (t : ObjNo) (old : ThreadRow) (what : Holding) → IsGiven S t what
      → FitsAction (kind_given what) script S t (give_up S t old what) → LivedBefore t (give_up S t old what)
      → Then t (give_up S t old what)
  give-fact t old (holding.Handle h o) given fits lived = dead-fact t (give_up S t old (holding.Handle h o)) given.1 lived
  give-fact t old (holding.Use o) given fits lived = dead-fact t (give_up S t old (holding.Use o)) given lived
  give-fact t old what given fits lived = staying-fact t (give_up S t old what) refl (proper-give script S rows t old what given) fits

  -- the row of one that lived
  live-before : (t : ObjNo) (old : ThreadRow) → thread_of S t ≡ Some old → IsLiveThread S.references.threads t → old.stage ≡ Live
  live-before t old is before =
      let same : before.row ≡ old = (let a = before.is in cc) in
      ap (λ (r : ThreadRow). r.stage) (sym same) ∙ before.live

  step-fact : (t : ObjNo) (old : ThreadRow) (i : Instr) → StepsGive script due F S t → thread_of S t ≡ Some old
      → old.stage ≡ Live → is_returning old.part ≡ false → instruction script old ≡ Some i
      → FitsAction (kind_of i old.part) script S t (step_of script S t old i old.part)
      → Then t (step_of script S t old i old.part)
  step-fact t old i gives is live going at fits =
      gives.steps old i is live going at (λ owes. has t old is live
      (ap (λ (x : Option Instr). due x old.part) at ∙ owes)) fits

  return-fact : (t : ObjNo) (old : ThreadRow) (i : Instr) → StepsGive script due F S t → thread_of S t ≡ Some old
      → is_returning old.part ≡ true → instruction script old ≡ Some i
      → FitsAction looking script S t (return_of S t old i) → LivedBefore t (return_of S t old i)
      → Then t (return_of S t old i)
  return-fact t old i gives is back at fits lived row there live owes =
      let lives = live-before t old is (lived row there live) in
      gives.returns old i is lives back at (λ needs. has t old is lives (ap (λ (x : Option Instr). due x old.part) at ∙ needs)) fits row there live owes

  -- whoever plainly does what is a step of its instruction, too, makes that
  plain-fact : (t : ObjNo) (d : Decision) → StepsGive script due F S t → FitsAction plain script S t d → Proceeding script S t d → LivedBefore t d → Then t d
  plain-fact t d gives fits (properly proper) lived = staying-fact t d refl proper fits
  plain-fact t d gives fits (steps old i is live going at e) lived =
      subst (Then t) (sym e) (step-fact t old i gives is live going at
      (subst (FitsAction (kind_of i old.part) script S t) e (fits-any fits)))
  plain-fact t d gives fits (returns old i is back at e) lived =
      subst (Then t) (sym e) (return-fact t old i gives is back at
      (subst (FitsAction looking script S t) e (fits-any fits)) (subst (LivedBefore t) e lived))

  own-fact : (t : ObjNo) → IsShaped script → StepsGive script due F S t → LivedBefore t (decision_of script S t) → Then t (decision_of script S t)
  own-fact t shaped gives = each-action script S t (λ (d : Decision). Proceeding script S t d → LivedBefore t d → Then t d) (record {
    plainly = λ d why fits proceeds lived. plain-fact t d gives fits proceeds lived;
    steps = λ old i is live going at fits proceeds lived. step-fact t old i gives is live going at fits;
    returns = λ old i is back at fits proceeds lived. return-fact t old i gives is back at fits lived;
    gives = λ old what given fits proceeds lived. give-fact t old what given fits lived;
    pays = λ what rest owed proceeds lived row is live owes. fact-paid t what (sweeps-dead script S t what rest rows owed) t row is live owes;
  }) shaped rows (proceeding script S t shaped rows)

  -- another thread's action
  others-fact : (t : ObjNo) (ms : List Move) → Doing script S t ms → AreProper script (stepping S t) ms
      → (u : ObjNo) (row : ThreadRow) → (t.0 ≡ u.0 → ⊥) → thread_of (perform t ms S) u ≡ Some row → row.stage ≡ Live
      → due (instruction script row) row.part ≡ true → F (perform t ms S) u row
  others-fact t ms does proper u row apart is live owes = elim does as (λ _. F (perform t ms S) u row) [
    | inl goes ↦
        fact-carried t ms goes (Some t) proper u row (λ e. let own : t ≡ u = cc in apart (ap (λ (x : ObjNo). x.0) own))
        (λ at. absurd (apart at)) is live owes
    | inr other ↦ elim other as (λ _. F (perform t ms S) u row) [
      | inl pays ↦
          subst (λ (l : List Move). F (perform t l S) u row) (sym pays.moves)
          (fact-paid t pays.what (sweeps-dead script S t pays.what pays.rest rows pays.owes) u row
          (ap (λ (l : List Move). thread_of (perform t l S) u) (sym pays.moves) ∙ is) live
          owes)
      | inr none ↦
          subst (λ (l : List Move). F (perform t l S) u row) (sym none)
          (has u row (ap (λ (l : List Move). thread_of (perform t l S) u) (sym none) ∙ is) live owes)
    ]
  ]

  decision-fact : (t : ObjNo) → IsShaped script → AreProper script (stepping S t) (decision_of script S t).moves
      → StepsGive script due F S t → Lived S (perform t (decision_of script S t).moves S)
      → Facts script due F (perform t (decision_of script S t).moves S)
  decision-fact t shaped proper gives lived u row is live owes = elim (cases_eq t.0 u.0) as (λ _. F (perform t (decision_of script S t).moves S) u row) [
    | inr apart ↦ others-fact t (decision_of script S t).moves (doing script S t shaped rows) proper u row apart is live owes
    | inl at ↦
        let same = same_object t u at in
        subst (λ (x : ObjNo). F (perform t (decision_of script S t).moves S) x row) same
        (own-fact t shaped gives (λ r there alive. lived t r there alive) row
        (ap (λ (n : ℕ). get_or (perform t (decision_of script S t).moves S).references.threads n None) at ∙ is) live
        owes)
  ]

  act-fact : (t : ObjNo) → IsShaped script → AreProper script (stepping S t) (decision_of script S t).moves
      → StepsGive script due F S t → Lived S (act script S t).state → Facts script due F (act script S t).state
  unfolding act
  act-fact t shaped proper gives lived = decision-fact t shaped proper gives lived

  interrupt-fact : (k : ℕ) → IsShaped script → Facts script due F (interrupt script S k).state
  unfolding interrupt
  interrupt-fact k shaped u row is live owes =
      let light = light-interrupt script S k shaped rows in
      let goes = goes-interrupt script S k shaped rows in
      fact-carried supervisor _ (record { sane = sane-supervisor script S rows; each = light.each; few = goes.few })
      None (proper-body script S supervisor (Interrupt k)) u row (λ e. absurd (cc))
      (λ _. light.calm.goes refl) is live owes

  immediate-fact : IsShaped script → IsProperly script S → Facts script due F (immediate script S).state
  unfolding immediate
  immediate-fact shaped are u row is live owes =
      let light = light-immediate script S (next_immediate S.synchronization.deferred) shaped rows refl in
      let goes = goes-immediate script S (next_immediate S.synchronization.deferred) shaped rows refl in
      fact-carried supervisor _ (record { sane = sane-supervisor script S rows; each = light.each; few = goes.few })
      None are.immediate u row (λ e. absurd (cc)) (λ _. light.calm.goes refl) is live owes

  -- each action leaves it
  pub next-fact : IsShaped script → IsProperly script S → ((t : ObjNo) → StepsGive script due F S t) → (actor : Actor)
      → Facts script due F (next script S actor)
  next-fact shaped are gives (Thread t) = act-fact t shaped (are.acts t) (gives t) (lived-next script S (Thread t) shaped rows)
  next-fact shaped are gives (Irq k) = interrupt-fact k shaped
  next-fact shaped are gives Idfc = immediate-fact shaped are
  next-fact shaped are gives Tick = has
  next-fact shaped are gives Idle = has

-- at boot it isn't due
pub boot-fact : (shared : Bool) (script : Script) (due : Option Instr → Option Part → Bool)
    (F : State → ObjNo → ThreadRow → Type 0)
    → IsFact script due F → IsShaped script → Facts script due F (boot_in shared script)
unfolding boot_of
boot-fact shared script due F fact shaped u row is live owes =
    let none = (born_row script _ (born script) u.0 row (each_born script shaped) is).part in
    let later = fact.later (instruction script row) row.part owes in
    let first = ap is_some none in absurd (cc)
