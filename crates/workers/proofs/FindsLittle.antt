-- An entry finds one object at most, and a return none.
use Rattle.std.proofs.Common.{◌≡◌, ◌≤◌, ◌<◌, ℕ, ◌+◌, List, [], ◌∷◌, ◌++◌, arith, refl, ap, sym, subst, ◌∙◌, Bool, true, false, ◌⊎◌, inl, inr}
use Rattle.std.specs.List.{AllByRecursion}
use Rattle.std.specs.Prelude.{◌&&◌, if◌then◌else◌}
use Rattle.sym_base.specs.declared.number.ObjNo.{ObjNo}
use Rattle.script_types.specs.declared.script.Script.{Script}
use Rattle.script_types.specs.Shape.{IsShaped}
use Rattle.script_types.specs.Source.{IsWellFormed}
use Rattle.script_types.proofs.ShapeLaws.{formed_is_shaped}
use Rattle.entry_log.specs.declared.effect.Effect.{Effect}
use Rattle.entry_log.specs.declared.effect.Effect.TheVariants.{Seek}
use Rattle.entry_log.specs.declared.entry.Actor.{Actor}
use Rattle.entry_log.specs.declared.entry.Actor.TheVariants.{Thread, Irq, Idfc, Tick, Idle}
use Rattle.entry_log.specs.declared.entry.Entry.{Entry}
use Rattle.state_rows.specs.declared.duty.Owed.TheVariants.{Close, Sweep}
use Rattle.machine.specs.declared.moves.Move.{Move}
use Rattle.machine.specs.declared.moves.Move.TheVariants as move
use Rattle.machine.specs.declared.state.State.{State}
use Rattle.machine.specs.Boot.{boot_in}
use Rattle.machine.specs.History.{choosing, is_deathless, next_by, transition, IsLegalFrom, IsShared}
use Rattle.machine.specs.References.{total}
use Rattle.machine.specs.SharedRun.{is_return}
use Rattle.machine.specs.WellFormed.{AreRows}
use Rattle.move_laws.proofs.References.Same.{same_self}
use Rattle.machine_laws.proofs.AtBoot.BootRows.{well_formed-boot}
use Rattle.machine_laws.proofs.Fitting.Actions.{regular-action}
use Rattle.machine_laws.proofs.Fitting.Regular.{coming_bit, find_bit, finding_bit, return_bit}
use Rattle.machine_laws.proofs.Reached.AfterHistory.{rows-keeping}
use Rattle.machine_laws.proofs.Reached.NextState.{sound-next}
use Rattle.machine_laws.proofs.Sharing.Losses.{comes-next, finds-once, keeps-immediate, keeps-interrupt, moves_of}
use Rattle.machine_laws.proofs.Sharing.Told.{IsOfCloses, is_beside, next-is, told_by, total-same}
use Rattle.machine_safe.specs.FindsAndReturns.{seek_bit, times_found}
use Rattle.machine_safe.proofs.OneLoss.{at-each}

-- what an action tells of finds is what its moves find
of-seek : IsOfCloses seek_bit
of-seek = record { none = none }
  where
    none : (e : Effect) → is_beside e ≡ true → seek_bit e ≡ 0
    none (Seek o) beside = absurd (cc)
    none _ beside = refl

seek-told : (m : Move) → told_by seek_bit m ≡ finding_bit m
seek-told (move.Find u o) = refl
seek-told (move.Pay (Close h o)) = refl
seek-told (move.Pay (Sweep o)) = refl
seek-told _ = refl

finds-told : (script : Script) (S : State) (actor : Actor)
    → times_found (transition script S actor).outcome.effects ≡ total finding_bit (moves_of script S actor)
finds-told script S actor = next-is seek_bit of-seek script S actor ∙ total-same (told_by seek_bit) finding_bit seek-told (moves_of script S actor)

-- moves that find nothing, or some object
any-find : (ms : List Move) → (total finding_bit ms ≡ 0) ⊎ ((o : ObjNo) × (0 < total (find_bit o) ms))
any-find [] = inl refl
any-find (move.Find u o ∷ ms) = inr (o, let self = same_self o in omega arith)
any-find (m ∷ ms) = elim (any-find ms) as (λ _. (total finding_bit (m ∷ ms) ≡ 0) ⊎ ((o : ObjNo) × (0 < total (find_bit o) (m ∷ ms)))) [
  | inl none ↦ inl (omega arith)
  | inr some ↦ inr (some.0, (let a = some.1 in omega arith))
]

bit-few : (b : Bool) → (if b then 1 else 0) ≤ 1
bit-few true = omega arith
bit-few false = omega arith

-- a thread finds an object only where it does nothing else
apart : (script : Script) (S : State) (t : ObjNo) → IsShaped script → AreRows script S
    → total finding_bit (moves_of script S (Thread t)) + total coming_bit (moves_of script S (Thread t)) ≤ 1
apart script S t shaped rows =
    elim (any-find (moves_of script S (Thread t))) as
    (λ _. total finding_bit (moves_of script S (Thread t)) + total coming_bit (moves_of script S (Thread t)) ≤ 1) [
      | inl none ↦ (
          let comes = comes-next script S (Thread t) shaped rows in
          let few = bit-few (is_return (transition script S (Thread t)).outcome.step) in omega arith)
      | inr some ↦ (
          let finding = (regular-action script S t shaped rows).1.finds some.0 some.1 in
          let alone : total finding_bit (move.Find t some.0 ∷ []) + total coming_bit (move.Find t some.0 ∷ []) ≤ 1 = omega arith in
          subst (λ (ms : List Move). total finding_bit ms + total coming_bit ms ≤ 1) (sym finding.moves) alone)
    ]

finds-next : (script : Script) (S : State) (actor : Actor) → IsShaped script → AreRows script S
    → total finding_bit (moves_of script S actor) + total coming_bit (moves_of script S actor) ≤ 1
finds-next script S (Thread t) shaped rows = apart script S t shaped rows
finds-next script S (Irq k) shaped rows =
    let stays = (keeps-interrupt script S k shaped rows).stays in
    let once = finds-once script S (Irq k) shaped rows in
    omega arith
finds-next script S Idfc shaped rows =
    let stays = (keeps-immediate script S shaped rows).stays in
    let once = finds-once script S Idfc shaped rows in
    omega arith
finds-next script S Tick shaped rows = omega arith
finds-next script S Idle shaped rows = omega arith

-- so does each entry of a history
record FindsLittle (e : Entry) : Type 0 where
  pub little : times_found e.effects + return_bit e.step ≤ 1

finds-little : (script : Script) (S : State) (e : Entry) → IsShaped script → AreRows script S
    → e.step ≡ (transition script S e.actor).outcome.step → e.effects ≡ (transition script S e.actor).outcome.effects
    → FindsLittle e
finds-little script S e shaped rows step effects =
    let few = finds-next script S e.actor shaped rows in
    let all : times_found e.effects ≡ total finding_bit (moves_of script S e.actor) = ap times_found effects ∙ finds-told script S e.actor in
    let comes : total coming_bit (moves_of script S e.actor) ≡ return_bit e.step = comes-next script S e.actor shaped rows ∙ ap return_bit (sym step) in
    record { little = omega arith }

each-finds : (script : Script) (S : State) (place : ℕ) (es : List Entry) → IsShaped script → AreRows script S
    → IsLegalFrom script S place es → AllByRecursion FindsLittle es
each-finds script S place [] shaped rows legal = tt
each-finds script S place (e ∷ es) shaped rows legal =
    let T = choosing e S in
    let chosen = rows-keeping script S (S.mode.shared && is_deathless e.effects) rows in (
      finds-little script T e shaped chosen (ap (λ (x : Entry). x.step) legal.0.told) (ap (λ (x : Entry). x.effects) legal.0.told),
      each-finds script (next_by script S e) (place + 1) es shaped (sound-next script T e.actor shaped chosen).rows legal.1,
    )

pub last-finds : (script : Script) (before history : List Entry) (e : Entry) → IsWellFormed script
    → IsShared script history → history ≡ before ++ e ∷ [] → times_found e.effects + return_bit e.step ≤ 1
last-finds script before history e valid legal is =
    (at-each FindsLittle history before e []
    (each-finds script (boot_in true script) 1 history (formed_is_shaped script valid)
    (well_formed-boot true script valid).rows legal) is).little
