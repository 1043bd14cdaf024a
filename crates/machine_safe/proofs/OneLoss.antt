-- Each entry takes one reference away at most, by what its actor's moves do.
use Rattle.std.proofs.Common.{◌≡◌, ◌≤◌, ℕ, ◌+◌, List, [], ◌∷◌, ◌++◌, arith, refl, ap, sym, subst, ◌∙◌, Bool, true}
use Rattle.std.specs.List.{AllByRecursion}
use Rattle.std.specs.Prelude.{◌&&◌}
use Rattle.script_types.specs.declared.script.Script.{Script}
use Rattle.script_types.specs.Shape.{IsShaped}
use Rattle.script_types.specs.Source.{IsWellFormed as IsWellFormedScript}
use Rattle.script_types.proofs.ShapeLaws.{formed_is_shaped}
use Rattle.entry_log.specs.declared.effect.Effect.{Effect}
use Rattle.entry_log.specs.declared.effect.Effect.TheVariants.{Minus}
use Rattle.entry_log.specs.declared.entry.Actor.{Actor}
use Rattle.entry_log.specs.declared.entry.Entry.{Entry}
use Rattle.state_rows.specs.declared.duty.Owed.TheVariants.{Close, Sweep}
use Rattle.machine.specs.declared.moves.Move.{Move}
use Rattle.machine.specs.declared.moves.Move.TheVariants as move
use Rattle.machine.specs.declared.state.State.{State}
use Rattle.machine.specs.History.{choosing, is_deathless, next_by, transition, IsLegalFrom, IsLegalIn}
use Rattle.machine.specs.Boot.{boot_in}
use Rattle.machine.specs.References.{total}
use Rattle.machine.specs.SharedRun.{is_return}
use Rattle.machine.specs.WellFormed.{AreRows}
use Rattle.move_laws.proofs.References.Same.{if_is}
use Rattle.machine_laws.proofs.AtBoot.BootRows.{well_formed-boot}
use Rattle.machine_laws.proofs.Sharing.Losses.{comes-next, moves_of, once-next}
use Rattle.machine_laws.proofs.Fitting.Regular.{coming_bit, return_bit}
use Rattle.machine_laws.proofs.Reached.Choices.{close_bit}
use Rattle.machine_laws.proofs.Reached.AfterHistory.{rows-keeping}
use Rattle.machine_laws.proofs.Reached.NextState.{sound-next}
use Rattle.machine_laws.proofs.Sharing.Told.{IsOfCloses, is_beside, next-is, told_by, total-same}
use Rattle.machine_safe.specs.Losses.{losses, minus_bit, TakesOneAway}

-- what an action tells takes away what its moves do
of-minus : IsOfCloses minus_bit
of-minus = record { none = none }
  where
    none : (e : Effect) → is_beside e ≡ true → minus_bit e ≡ 0
    none (Minus h o) beside = absurd (cc)
    none _ beside = refl

minus-told : (m : Move) → told_by minus_bit m ≡ close_bit m
minus-told (move.Lose h o) = refl
minus-told (move.Pay (Close h o)) = refl
minus-told _ = refl

next-loses : (script : Script) (S : State) (actor : Actor) → losses (transition script S actor).outcome.effects ≡ total close_bit (moves_of script S actor)
next-loses script S actor = next-is minus_bit of-minus script S actor ∙ total-same (told_by minus_bit) close_bit minus-told (moves_of script S actor)

-- an entry takes one reference away at most, and a return none
record LosesLittle (e : Entry) : Type 0 where
  pub once : losses e.effects ≤ 1
  pub none : is_return e.step ≡ true → losses e.effects ≡ 0

loses-little : (script : Script) (S : State) (e : Entry) → IsShaped script → AreRows script S
    → e.step ≡ (transition script S e.actor).outcome.step → e.effects ≡ (transition script S e.actor).outcome.effects
    → LosesLittle e
loses-little script S e shaped rows step effects =
    let few = once-next script S e.actor shaped rows in
    let all : losses e.effects ≡ total close_bit (moves_of script S e.actor) = ap losses effects ∙ next-loses script S e.actor in
    let comes : total coming_bit (moves_of script S e.actor) ≡ return_bit e.step = comes-next script S e.actor shaped rows ∙ ap return_bit (sym step) in
    record { once = omega arith; none = λ is. let one : return_bit e.step ≡ 1 = if_is (is_return e.step) 1 is in omega arith }

-- so do those of a legal history
each-loses : (script : Script) (S : State) (place : ℕ) (es : List Entry) → IsShaped script → AreRows script S
    → IsLegalFrom script S place es → AllByRecursion LosesLittle es
each-loses script S place [] shaped rows legal = tt
each-loses script S place (e ∷ es) shaped rows legal =
    let T = choosing e S in
    let chosen = rows-keeping script S (S.mode.shared && is_deathless e.effects) rows in (
      loses-little script T e shaped chosen (ap (λ (x : Entry). x.step) legal.0.told) (ap (λ (x : Entry). x.effects) legal.0.told),
      each-loses script (next_by script S e) (place + 1) es shaped (sound-next script T e.actor shaped chosen).rows legal.1,
    )

pub at-each : (P : Entry → Type 0) (es before : List Entry) (e : Entry) (later : List Entry) → AllByRecursion P es → es ≡ before ++ e ∷ later → P e
at-each P [] [] e later all is = absurd (cc)
at-each P [] (b ∷ before) e later all is = absurd (cc)
at-each P (x ∷ xs) [] e later all is = let same : x ≡ e = cc in subst P same all.0
at-each P (x ∷ xs) (b ∷ before) e later all is = at-each P xs before e later all.1 (let rest : xs ≡ before ++ e ∷ later = cc in rest)

pub takes-one : (shared : Bool) (script : Script) (history : List Entry) → IsWellFormedScript script → IsLegalIn shared script history → TakesOneAway history
takes-one shared script history valid legal =
    let each = each-loses script (boot_in shared script) 1 history (formed_is_shaped script valid) (well_formed-boot shared script valid).rows legal in
    record {
      once = λ before e later is. (at-each LosesLittle history before e later each is).once;
      none = λ before e later is. (at-each LosesLittle history before e later each is).none;
    }
