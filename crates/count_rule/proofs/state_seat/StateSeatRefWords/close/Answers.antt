use Rattle.std.proofs.Common.{◌≡◌, ◌<◌, inl, inr, length, get_or, ap, refl, sym, subst, ◌∙◌}
use Rattle.std.proofs.lemmas.List.{get_or_read}
use Rattle.ref_words.specs.Words.{Words, own_at}
use Rattle.count_rule.specs.Views.{own_of}
use Rattle.count_rule.specs.Seats.{counts}
use Rattle.count_rule.proofs.Between.{whole_closed, whole_closed_last}
use Rattle.count_rule.proofs.Kept.{known_placed}
use Rattle.count_rule.proofs.state_seat.StateSeatRefWords.close.Goals as goal
use Rattle.count_rule.proofs.state_seat.StateSeatRefWords.close.Goals.{else-count-eq1-via-then-count-eq1+else-close_last, else-count-eq1-via-else-count-eq1}

pub invariant_of-self : goal.invariant_of-self
invariant_of-self c =
    let was = c.self.invariant in let k = counts c.self.inside.seat in let own = c.self.inside.own.items in let p = c.args.place in
    let known = subst (λ (w : Words). 0 < own_at w p) (sym c.self.view_is) c.requires in
    let inside : p < length own = subst (λ xs. p < length xs) was.seated.own_is (known_placed k.own p known) in
    let read = get_or_read own p _ inside c.index-count.ensures 0 in
    let one : own_of k p ≡ 1 = ap (λ xs. get_or xs p 0) was.seated.own_is ∙ sym read ∙ c.if-count-eq1.true in
    whole_closed_last _ own _ _ p _ c.self.inside.seat c.close_last.new.seat was one read c.if-close_last.ensures.knows

pub invariant_of-self-2 : goal.invariant_of-self-2
invariant_of-self-2 c =
    let was = c.self.invariant in let k = counts c.self.inside.seat in let own = c.self.inside.own.items in let p = c.args.place in
    let known = subst (λ (w : Words). 0 < own_at w p) (sym c.self.view_is) c.requires in
    let inside : p < length own = subst (λ xs. p < length xs) was.seated.own_is (known_placed k.own p known) in
    let read = get_or_read own p _ inside c.index-count.ensures 0 in
    elim c.else-count-eq1.branch [
      | else-count-eq1-via-then-count-eq1+else-close_last w ↦
          rw w.self-inside-is (whole_closed _ own _ _ p _ c.self.inside.seat w.close_last.new.seat c.close.new.seat was
          known read (inl w.if-close_last.ensures.knows) (rw w.self-inside-is at c.close.ensures))
      | else-count-eq1-via-else-count-eq1 w ↦
          rw w.self-inside-is (whole_closed _ own _ _ p _ c.self.inside.seat c.self.inside.seat c.close.new.seat was
          known read (inr refl) (rw w.self-inside-is at c.close.ensures))
    ]
