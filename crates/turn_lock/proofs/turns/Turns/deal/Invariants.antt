use Rattle.std.proofs.Common.{◌≡◌, ◌-◌, [], map}
use Rattle.std.specs.Prelude.{All}
use Rattle.turn_lock.specs.declared.view.View.TheVariants.{Free}
use Rattle.turn_lock.specs.Passes.{caller_of, known_of, numbers, IsFree}
use Rattle.turn_lock.specs.Views.{newcomers}
use Rattle.turn_lock.proofs.turns.Turns.deal.Given as goal

-- so many passes are dealt, and the seat knows for the other callers
abbrev pub invariant-loop-caller : goal.invariant-loop-caller
invariant-loop-caller g l = record {
  table : l.seat.table_id ≡ l.fn.seat.table_id;
  others : l.seat.me ≡ (Free (newcomers l.self.base l.self.passes l.caller (l.count - l.caller)), []);
  free : All (IsFree l.self) l.dealt.items;
  callers : map caller_of l.dealt.items ≡ numbers 0 l.caller;
  known : All (λ p. known_of p ≡ []) l.dealt.items;
}
