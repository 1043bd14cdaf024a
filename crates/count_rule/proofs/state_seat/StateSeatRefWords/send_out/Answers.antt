use Rattle.std.proofs.Common.{◌+◌, ◌<◌, [], ◌∷◌, ◌++◌, length, ap, sym, refl, subst, ◌∙◌, arith, None, length-append}
use Rattle.std.specs.Option.{option_to_list}
use Rattle.ref_words.specs.Words.{Words, own_at, IsCreated}
use Rattle.count_rule.specs.declared.view.View.TheVariants.{Ticket}
use Rattle.count_rule.specs.Moves.{sending, slip_of}
use Rattle.count_rule.specs.Seats.{counts}
use Rattle.count_rule.proofs.Kept.{kept_sent, created_placed}
use Rattle.count_rule.proofs.Shares.{all_front, all_last}
use Rattle.count_rule.proofs.Between.{seated_by, out_by}
use Rattle.count_rule.proofs.state_seat.StateSeatRefWords.send_out.Goals as goal

pub invariant_of-self : goal.invariant_of-self
invariant_of-self c =
    let was = c.self.invariant in let k = counts c.self.inside.seat in let p = c.args.place in
    let made = subst (λ (w : Words). IsCreated w p) (sym c.self.view_is) c.requires.created in
    let low = subst (λ (w : Words). own_at w p < 2147483648) (sym c.self.view_is) c.requires.small in
    let few = subst (λ (w : Words). length w.out < 64) (sym c.self.view_is) c.requires.few_out in
    let items = c.pop.ensures.items ∙ ap (λ x. c.pop.new.self.items ++ option_to_list x) c.unwrap.ensures in
    let new = sending p k in record {
      seated =
          seated_by _ _ _ c.self.inside.seat c.split-seat.new.seat new was.seated c.split-seat.ensures.knows was.seated.calm
          (kept_sent _ _ was.seated.kept made low few) was.seated.own_is refl;
      same_table = all_front _ _ _ c.unwrap.result items was.same_table;
      has_room = omega (arith, was.has_room, c.pop.ensures.capacity);
      in_all = out_by _ c.self.inside.seat c.split-seat.new.seat new c.split-seat.ensures.knows
          (omega (
            arith,
            was.in_all,
            ap length items,
            length-append c.pop.new.self.items (c.unwrap.result ∷ []),
            length-append k.out (record { place = p; number = k.made + 1 } ∷ []),
          ));
    }

pub invariant_of-result : goal.invariant_of-result
invariant_of-result c =
    let was = c.self.invariant in
    let items = c.pop.ensures.items ∙ ap (λ x. c.pop.new.self.items ++ option_to_list x) c.unwrap.ensures in
    let ticket = c.split-seat.ensures.ticket in
    let slip = ap (λ m. slip_of m.0) ticket in
    let share = all_last _ _ _ c.unwrap.result items was.same_table in
    let made = subst (λ (w : Words). IsCreated w c.args.place) (sym c.self.view_is) c.requires.created in
    let placed : c.args.place < length c.self.inside.own.items = subst
    (λ xs. c.args.place < length xs) was.seated.own_is (created_placed _ _ was.seated.kept made) in
    record {
      table_is = c.split-seat.ensures.table ∙ c.table.ensures ∙ sym share;
      ticket = ticket ∙ ap (λ slip. (Ticket slip None, [])) (sym slip);
      place_is = ap (λ s. s.place) slip;
      placed = omega (arith, placed, was.seated.words, ap (λ z. z.words) share);
    }
