use Rattle.std.proofs.Common.{◌≡◌, List, [], ◌++◌, map, vec_len}
use Rattle.std.specs.Prelude.{All}
use Rattle.turn_lock.specs.declared.view.Sight.{Sight}
use Rattle.turn_lock.specs.declared.view.View.TheVariants.{Free}
use Rattle.turn_lock.specs.Passes.{sight_of, IsFree}
use Rattle.turn_lock.proofs.turns.Turns.gather.Given as goal

-- what the passes that are left know, and what the seat knows, is what all passes know
abbrev pub invariant-loop-badge : goal.invariant-loop-badge
invariant-loop-badge g l = record {
  table : l.seat.table_id ≡ l.self.table;
  rest : (known : List (Sight g.row.V-Base.Denot)) × (l.seat.me ≡ (Free known, []))
      × (map (sight_of l.self) l.passes.items ++ known ≡ map (sight_of l.self) l.fn.passes.items);
  free : All (IsFree l.self) l.passes.items;
}

abbrev pub decreases-loop-badge : goal.decreases-loop-badge
decreases-loop-badge g l = vec_len l.passes
