-- How many references an entry takes away: one at most, so that it has one choice at most, whether what it closes is kept.
use Rattle.std.specs.Prelude.{◌≡◌, ◌≤◌, ℕ, true, List, ◌∷◌, ◌++◌}
use Rattle.entry_log.specs.declared.effect.Effect.{Effect}
use Rattle.entry_log.specs.declared.effect.Effect.TheVariants.{Minus}
use Rattle.entry_log.specs.declared.entry.Entry.{Entry}
use Rattle.machine.specs.References.{total}
use Rattle.machine.specs.SharedRun.{is_return}

-- 1 for an effect that takes a reference away; and how many of several do
abbrev pub minus_bit : Effect → ℕ
minus_bit (Minus holder o) = 1
minus_bit _ = 0

abbrev pub losses : List Effect → ℕ
losses effects = total minus_bit effects

-- each entry takes one reference away at most, and a return takes none
pub record TakesOneAway (history : List Entry) : Type 0 where
  pub once : (before : List Entry) (e : Entry) (later : List Entry) → history ≡ before ++ e ∷ later → losses e.effects ≤ 1
  pub none : (before : List Entry) (e : Entry) (later : List Entry) → history ≡ before ++ e ∷ later → is_return e.step ≡ true → losses e.effects ≡ 0
