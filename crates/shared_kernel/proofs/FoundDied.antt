-- Whoever is out is out on an object that is alive at its place, or that died: then an entry tells its death.
use Rattle.std.proofs.Common.{◌≡◌, ◌∙◌, ◌⊎◌, inl, inr, sym, ap, refl, subst, arith, ℕ, ◌+◌, ◌<◌, List, [], ◌∷◌, Bool, true, false}
use Rattle.std.specs.Prelude.{is_some}
use Rattle.std.proofs.lemmas.Bool.{cases_lt}
use Rattle.sym_base.specs.declared.number.ObjNo.{ObjNo}
use Rattle.script_types.specs.declared.script.Script.{Script}
use Rattle.script_types.specs.Shape.{IsShaped}
use Rattle.entry_log.specs.declared.entry.Entry.{Entry}
use Rattle.state_rows.specs.ObjectRows.{place_of}
use Rattle.machine.specs.declared.state.State.{State}
use Rattle.machine.specs.History.{after_from, next_by}
use Rattle.machine.specs.Out.{seeks}
use Rattle.machine.specs.Rows.{object_of, thread_of}
use Rattle.machine.specs.Told.{deaths, removals}
use Rattle.machine.specs.WellFormed.{IsAlive, is_dead}
use Rattle.move_laws.proofs.Lives.Bits.{alive_there, alive_undead, dead_le, dead_there, there_alive}
use Rattle.move_laws.proofs.Lives.LivesMove.{zero_or}
use Rattle.move_laws.proofs.References.Effects.{deaths-append}
use Rattle.machine_safe.specs.CountAfter.{effects_of, is_by}
use Rattle.machine_safe.proofs.Finders.Entries.{Turns}
use Rattle.machine_safe.proofs.Finders.Runs.{Stands, stands-next, turns}
use Rattle.machine_safe.proofs.Runs.{IsSoundRun}
use Rattle.shared_kernel.specs.Returns.{Died, Dies}

-- an object is alive at this place, or died
abbrev pub Stood : State → (ObjNo → ℕ → Type 0) → ObjNo → ℕ → Type 0
Stood S past o p = (IsAlive (object_of S o) × (place_of (object_of S o) ≡ p)) ⊎ past o p

-- what is dead died, and so did what is found, where it isn't alive
abbrev DeadDied : State → (ObjNo → ℕ → Type 0) → Type 0
DeadDied S past = (o : ObjNo) → 0 < is_dead (object_of S o) → past o (place_of (object_of S o))

abbrev FindsStand : State → (ObjNo → ℕ → Type 0) → Type 0
FindsStand S past = (u o : ObjNo) (p : ℕ) → 0 < seeks o p (thread_of S u) → Stood S past o p

-- what died before an entry, or dies in it; and what died before, or dies in one of some entries
abbrev DiedBy : Script → State → Entry → (ObjNo → ℕ → Type 0) → ObjNo → ℕ → Type 0
DiedBy script S e past o p = past o p ⊎ Dies script S e o p

abbrev DiedIn : Script → State → List Entry → (ObjNo → ℕ → Type 0) → ObjNo → ℕ → Type 0
DiedIn script S es past o p = past o p ⊎ Died script S es o p

-- what dies in the first of some entries dies in one of them
first-of : (script : Script) (S end : State) (e : Entry) (es : List Entry) (past : ObjNo → ℕ → Type 0) (o : ObjNo) (p : ℕ)
    → Stood end (DiedIn script (next_by script S e) es (DiedBy script S e past)) o p → Stood end (DiedIn script S (e ∷ es) past) o p
first-of script S end e es past o p (inl alive) = inl alive
first-of script S end e es past o p (inr (inl (inl was))) = inr (inl was)
first-of script S end e es past o p (inr (inl (inr dies))) = inr (inr (inl dies))
first-of script S end e es past o p (inr (inr died)) = inr (inr (inr died))

module _ (script : Script) (shaped : IsShaped script) where
  pub finds-stand : (S : State) (place : ℕ) (es : List Entry) (past : ObjNo → ℕ → Type 0) → Stands script S place es → IsSoundRun script S es
      → DeadDied S past → FindsStand S past → FindsStand (after_from script S es) (DiedIn script S es past)
  finds-stand S place [] past stands sound dead stand u o p out = elim (stand u o p out) as (λ _. Stood S (DiedIn script S [] past) o p) [
    | inl alive ↦ inl alive
    | inr was ↦ inr (inl was)
  ]
  finds-stand S place (e ∷ es) past stands sound dead stand u o p out =
      first-of script S (after_from script T es) e es past o p
      (finds-stand T (place + 1) es (DiedBy script S e past) (stands-next script shaped S place e es stands) sound.1 dead-next next u o p out)
    where
      T : State
      T = next_by script S e

      turn : Turns script S T e.actor e.effects
      turn = turns script shaped S place e es stands

      -- an object that isn't swept keeps its place
      kept : (x : ObjNo) → (0 < removals e.effects x → ⊥) → is_some (object_of S x) ≡ true
          → place_of (object_of T x) ≡ place_of (object_of S x)
      kept x none there = (sound.0.lives.there x there (zero_or (removals e.effects x) none)).1

      dead-next : DeadDied T (DiedBy script S e past)
      dead-next x is = elim (cases_lt 0 (deaths e.effects x)) as (λ _. DiedBy script S e past x (place_of (object_of T x))) [
        | inl dies ↦ inr (dies, refl)
        | inr none ↦
            let moved : is_dead (object_of T x) + removals e.effects x ≡ is_dead (object_of S x) + deaths e.effects x = sound.0.lives.deads x in
            let few = dead_le (object_of S x) in
            let was : 0 < is_dead (object_of S x) = omega arith in
            let same = kept x (λ some. absurd (omega arith)) (dead_there (object_of S x) was) in
            inl (subst (past x) (sym same) (dead x was))
      ]

      stays : (x : ObjNo) (q : ℕ) → IsAlive (object_of S x) × (place_of (object_of S x) ≡ q) → Stood T (DiedBy script S e past) x q
      stays x q was =
          let undead = alive_undead (object_of S x) was.0 in
          let same = kept x (λ some. let one = (sound.0.lives.removes x some).0 in absurd (omega arith)) (alive_there (object_of S x) was.0) in
          elim (cases_lt 0 (deaths e.effects x)) as (λ _. Stood T (DiedBy script S e past) x q) [
            | inl dies ↦ inr (inr (dies, same ∙ was.1))
            | inr none ↦ inl (sound.0.lives.stays x was.0 (omega arith), same ∙ was.1)
          ]

      next : FindsStand T (DiedBy script S e past)
      next u o p out = by (is_by u e.actor) refl
        where
          by : (b : Bool) → is_by u e.actor ≡ b → Stood T (DiedBy script S e past) o p
          by true acts =
              let own = turn.own u o p acts out in
              let same : place_of (object_of T o) ≡ p = ap place_of (turn.unmoved o o own.0) ∙ sym own.1 in
              elim (cases_lt 0 (is_dead (object_of T o))) as (λ _. Stood T (DiedBy script S e past) o p) [
                | inl died ↦ inr (subst (DiedBy script S e past o) same (dead-next o died))
                | inr none ↦ inl (there_alive (object_of T o) (sound.0.lives.found o own.0) (omega arith), same)
              ]
          by false other =
              let still = turn.others u o p other in
              elim (stand u o p (omega arith)) as (λ _. Stood T (DiedBy script S e past) o p) [
                | inl was ↦ stays o p was
                | inr died ↦ inr (inl died)
              ]

-- a death that is told of an object is told of its number
pub died-told : (script : Script) (S : State) (es : List Entry) (o : ObjNo) (p : ℕ) → Died script S es o p → 0 < deaths (effects_of es) o
died-told script S [] o p died = absurd died
died-told script S (e ∷ es) o p died =
    let both = deaths-append e.effects (effects_of es) o in
    elim died as (λ _. 0 < deaths (effects_of (e ∷ es)) o) [
      | inl dies ↦ (let here = dies.0 in omega arith)
      | inr rest ↦ (let behind = died-told script (next_by script S e) es o p rest in omega arith)
    ]
