-- Moves of one caller alone are the same where callers share the kernel, if what they close is kept only where nothing dies.
use Rattle.std.proofs.Common.{◌≡◌, List, [], ◌∷◌, ◌++◌, refl, ap, sym, append_assoc, ◌∙◌, Bool, true, false}
use Rattle.std.specs.Prelude.{◌&&◌, ◌==◌, not, nat_lt}
use Rattle.sym_base.specs.declared.number.ObjNo.{ObjNo}
use Rattle.entry_log.specs.declared.effect.Effect.{Effect}
use Rattle.entry_log.specs.declared.effect.Effect.TheVariants.{Dead}
use Rattle.entry_log.specs.declared.effect.Holder.{Holder}
use Rattle.machine.specs.declared.mode.Mode.{Mode}
use Rattle.machine.specs.declared.moves.Move.{Move}
use Rattle.machine.specs.declared.moves.Move.TheVariants.{Lose, Pay}
use Rattle.machine.specs.declared.state.State.{State}
use Rattle.state_rows.specs.declared.duty.Owed.TheVariants.{Close, Sweep}
use Rattle.machine.specs.History.{is_deathless}
use Rattle.machine.specs.Kept.{dies}
use Rattle.machine.specs.Moves.{closed_effects, moved, perform, tell, told}
use Rattle.machine.specs.Out.{outs_of}
use Rattle.machine.specs.References.{count_of}
use Rattle.machine_laws.proofs.Reached.Modes.{mode-moved}

-- the state where callers share the kernel or don't, in an action that keeps what it closes or doesn't
abbrev pub in_mode : Bool → Bool → State → State
in_mode shared keep S = record S { mode = record S.mode { shared = shared; keep = keep } }

-- one caller is alone
abbrev pub IsAlone : State → Type 0
IsAlone S = (S.mode.shared ≡ false) × (S.mode.keep ≡ false)

pub alone-like : (S T : State) → T.mode ≡ S.mode → IsAlone S → IsAlone T
alone-like S T mode alone = (ap (λ (m : Mode). m.shared) mode ∙ alone.0, ap (λ (m : Mode). m.keep) mode ∙ alone.1)

-- an action that keeps what it closes tells of no death
abbrev pub TellsNoDeath : Bool → List Effect → Type 0
TellsNoDeath keep effects = keep ≡ true → is_deathless effects ≡ true

-- effects tell of no death if both their parts don't
deathless-front : (xs ys : List Effect) → is_deathless (xs ++ ys) ≡ true → is_deathless xs ≡ true
deathless-front [] ys e = refl
deathless-front (Dead o ∷ xs) ys e = absurd (cc)
deathless-front (_ ∷ xs) ys e = deathless-front xs ys e

deathless-rest : (xs ys : List Effect) → is_deathless (xs ++ ys) ≡ true → is_deathless ys ≡ true
deathless-rest [] ys e = e
deathless-rest (Dead o ∷ xs) ys e = absurd (cc)
deathless-rest (_ ∷ xs) ys e = deathless-rest xs ys e

pub silent-front : (keep : Bool) (xs ys : List Effect) → TellsNoDeath keep (xs ++ ys) → TellsNoDeath keep xs
silent-front keep xs ys silent kept = deathless-front xs ys (silent kept)

pub silent-rest : (keep : Bool) (xs ys : List Effect) → TellsNoDeath keep (xs ++ ys) → TellsNoDeath keep ys
silent-rest keep xs ys silent kept = deathless-rest xs ys (silent kept)

-- an object dies in both modes or in none
dies-both : (one kept sought keep out : Bool) → kept ≡ false → (keep ≡ true → (one && not (kept && sought)) ≡ false)
    → (one && not (keep && out)) ≡ (one && not (kept && sought))
dies-both false kept sought keep out alone none = refl
dies-both true true sought keep out alone none = absurd (cc)
dies-both true false sought true out alone none = absurd (let dying = none refl in cc)
dies-both true false sought false out alone none = refl

dies-mode : (keep : Bool) (S : State) (o : ObjNo) → IsAlone S → (keep ≡ true → dies S o ≡ false) → dies (in_mode true keep S) o ≡ dies S o
dies-mode keep S o alone none =
    dies-both (count_of S o == 1) S.mode.keep (nat_lt 0 (outs_of S o)) keep (nat_lt 0 (outs_of (in_mode true keep S) o))
    alone.1 none

closed-silent : (dying : Bool) (h : Holder) (o : ObjNo) → is_deathless (closed_effects dying h o) ≡ true → dying ≡ false
closed-silent true h o e = absurd (cc)
closed-silent false h o e = refl

-- a move tells the same, and makes the same change
told-mode : (keep : Bool) (m : Move) (S : State) → IsAlone S → TellsNoDeath keep (told m S) → told m (in_mode true keep S) ≡ told m S
told-mode keep (Lose h o) S alone silent =
    ap (λ (d : Bool). closed_effects d h o)
    (dies-mode keep S o alone (λ kept. closed-silent (dies S o) h o (silent kept)))
told-mode keep (Pay (Close h o)) S alone silent =
    ap (λ (d : Bool). closed_effects d h o)
    (dies-mode keep S o alone (λ kept. closed-silent (dies S o) h o (silent kept)))
told-mode keep (Pay (Sweep o)) S alone silent = refl
told-mode keep _ S alone silent = refl

moved-mode : (keep : Bool) (t : ObjNo) (m : Move) (S : State) → IsAlone S → TellsNoDeath keep (told m S)
    → moved t m (in_mode true keep S) ≡ in_mode true keep (moved t m S)
moved-mode keep t (Lose h o) S alone silent = rw (dies-mode keep S o alone (λ kept. closed-silent (dies S o) h o (silent kept))) refl
moved-mode keep t (Pay (Close h o)) S alone silent = rw (dies-mode keep S o alone (λ kept. closed-silent (dies S o) h o (silent kept))) refl
moved-mode keep t (Pay (Sweep o)) S alone silent = refl
moved-mode keep t _ S alone silent = refl

-- so do several moves
pub perform-mode : (keep : Bool) (t : ObjNo) (ms : List Move) (S : State) → IsAlone S → TellsNoDeath keep (tell t ms S)
    → perform t ms (in_mode true keep S) ≡ in_mode true keep (perform t ms S)
perform-mode keep t [] S alone silent = refl
perform-mode keep t (m ∷ ms) S alone silent =
    let T = moved t m S in
    ap (perform t ms) (moved-mode keep t m S alone (silent-front keep (told m S) (tell t ms T) silent))
    ∙ perform-mode keep t ms T (alone-like S T (mode-moved S t m) alone) (silent-rest keep (told m S) (tell t ms T) silent)

pub tell-mode : (keep : Bool) (t : ObjNo) (ms : List Move) (S : State) → IsAlone S → TellsNoDeath keep (tell t ms S)
    → tell t ms (in_mode true keep S) ≡ tell t ms S
tell-mode keep t [] S alone silent = refl
tell-mode keep t (m ∷ ms) S alone silent =
    let T = moved t m S in
    let front = silent-front keep (told m S) (tell t ms T) silent in
    ap (λ (l : List Effect). l ++ tell t ms (moved t m (in_mode true keep S))) (told-mode keep m S alone front)
    ∙ ap (λ (U : State). told m S ++ tell t ms U) (moved-mode keep t m S alone front)
    ∙ ap (λ (l : List Effect). told m S ++ l)
    (tell-mode keep t ms T (alone-like S T (mode-moved S t m) alone) (silent-rest keep (told m S) (tell t ms T) silent))

-- what moves tell, and others behind them
pub tell-both : (t : ObjNo) (xs ys : List Move) (S : State) → tell t (xs ++ ys) S ≡ tell t xs S ++ tell t ys (perform t xs S)
tell-both t [] ys S = refl
tell-both t (m ∷ xs) ys S =
    ap (λ (l : List Effect). told m S ++ l) (tell-both t xs ys (moved t m S))
    ∙ sym (append_assoc (told m S) (tell t xs (moved t m S)) (tell t ys (perform t xs (moved t m S))))
