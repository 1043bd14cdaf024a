use Rattle.std.proofs.Common.{◌≡◌, ◌+◌, ◌<◌, length, get_or, ap, sym, subst, ◌∙◌, set, length-set}
use Rattle.std.proofs.lemmas.List.{get_or_read}
use Rattle.ref_words.specs.Words.{Words, own_at}
use Rattle.count_rule.specs.Views.{own_of}
use Rattle.count_rule.specs.Moves.{opening_known}
use Rattle.count_rule.specs.Seats.{counts}
use Rattle.count_rule.proofs.Kept.{kept_opened, known_placed}
use Rattle.count_rule.proofs.Between.{seated_by, out_by}
use Rattle.count_rule.proofs.state_seat.StateSeatRefWords.open_known.Goals as goal

pub invariant_of-self : goal.invariant_of-self
invariant_of-self c =
    let was = c.self.invariant in let k = counts c.self.inside.seat in let p = c.args.place in
    let known = subst (λ (w : Words). 0 < own_at w p) (sym c.self.view_is) c.requires.known in
    let low = subst (λ (w : Words). own_at w p < 2147483648) (sym c.self.view_is) c.requires.small in
    let inside : p < length c.self.inside.own.items = subst (λ xs. p < length xs) was.seated.own_is (known_placed k.own p known) in
    let read = get_or_read c.self.inside.own.items p _ inside c.index_mut.ensures.value 0 in
    let one_more : own_of k p + 1 ≡ c.index_mut.result.now + 1 = ap (λ xs. get_or xs p 0 + 1) was.seated.own_is ∙ ap (λ n. n + 1) (sym read) in
    let new = opening_known p k in record {
      seated =
          seated_by _ _ _ c.self.inside.seat c.open_known.new.seat new was.seated c.open_known.ensures was.seated.calm
          (kept_opened _ _ was.seated.kept known low)
          (ap (λ xs. set xs p (own_of k p + 1)) was.seated.own_is ∙ ap (λ n. set c.self.inside.own.items p n) one_more)
          (length-set _ _ _);
      same_table = was.same_table;
      has_room = was.has_room;
      in_all = out_by _ c.self.inside.seat c.open_known.new.seat new c.open_known.ensures was.in_all;
    }
