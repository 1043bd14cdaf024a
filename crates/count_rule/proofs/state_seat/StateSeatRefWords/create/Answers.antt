use Rattle.std.proofs.Common.{ap, sym, subst, set, length-set}
use Rattle.ref_words.specs.Words.{Words, IsFresh}
use Rattle.count_rule.specs.Moves.{creating}
use Rattle.count_rule.specs.Seats.{counts}
use Rattle.count_rule.proofs.Kept.{kept_created}
use Rattle.count_rule.proofs.Between.{seated_by, out_by}
use Rattle.count_rule.proofs.state_seat.StateSeatRefWords.create.Goals as goal

pub invariant_of-self : goal.invariant_of-self
invariant_of-self c =
    let was = c.self.invariant in let k = counts c.self.inside.seat in
    let fresh = subst (λ (w : Words). IsFresh w c.args.place) (sym c.self.view_is) c.requires in
    let new = creating c.args.place k in record {
      seated =
          seated_by _ _ _ c.self.inside.seat c.create.new.seat new was.seated c.create.ensures was.seated.calm
          (kept_created _ _ was.seated.kept fresh) (ap (λ xs. set xs c.args.place 1) was.seated.own_is) (length-set _ _ _);
      same_table = was.same_table;
      has_room = was.has_room;
      in_all = out_by _ c.self.inside.seat c.create.new.seat new c.create.ensures was.in_all;
    }
