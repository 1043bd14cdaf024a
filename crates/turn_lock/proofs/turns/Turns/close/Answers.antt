use Rattle.std.proofs.Common.{◌≡◌, sym, refl, ap, ◌∙◌, subst}
use Rattle.std.specs.Prelude.{IsSome}
use Rattle.turn_lock.proofs.Closing.{came}
use Rattle.turn_lock.proofs.Hands.{of_some}
use Rattle.turn_lock.proofs.turns.Turns.close.Goals as goal

pub unwrap-requires : goal.unwrap-requires
unwrap-requires g c =
    let end = came g.V.History.entries g.V.History.base _ _ c.args.self (sym (ap (λ z. z.base) c.self.view_is))
    (sym (ap (λ z. z.passes) c.self.view_is)) c.args.passes.items _ c.gather-seat.result.me
    c.gather-seat.ensures.all c.requires.all _ _ c.close_with-closed.ensures.values.2 _ c.take-slot.ensures.value in
    subst IsSome (sym end.slot_is) refl

pub returns : goal.returns
returns g c =
    let end = came g.V.History.entries g.V.History.base _ _ c.args.self (sym (ap (λ z. z.base) c.self.view_is))
    (sym (ap (λ z. z.passes) c.self.view_is)) c.args.passes.items _ c.gather-seat.result.me
    c.gather-seat.ensures.all c.requires.all _ _ c.close_with-closed.ensures.values.2 _ c.take-slot.ensures.value in
    let same : end.value ≡ c.unwrap.result = of_some (sym end.slot_is ∙ c.unwrap.ensures) in record {
      base = ap g.V.History.base (sym same) ∙ end.base_is;
      whole = (end.log, ap g.V.History.entries (sym same) ∙ end.list, end.whole);
    }
