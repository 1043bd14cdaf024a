-- What the line of an entry tells before the entry is made.
use Rattle.std.specs.Prelude.{◌≡◌, ℕ, List, ◌∷◌, ◌++◌, decimal}
use Rattle.entry_log.specs.ActorText.{actor_text}
use Rattle.entry_log.specs.IsEntry.{IsActor}
use Rattle.entry_log.specs.declared.entry.Actor.{Actor}

-- a line begins with a place and this actor, and a space, which is 32, stands behind each
pub record IsOfActor (line : List ℕ) (actor : Actor) : Type 0 where
  pub known : IsActor actor
  pub place : ℕ
  pub rest : List ℕ
  pub same : line ≡ decimal place ++ 32 ∷ (actor_text actor ++ 32 ∷ rest)
