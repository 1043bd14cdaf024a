use Rattle.std.proofs.Common.{rules, ◌≡◌, [], ◌∷◌, ◌++◌, map, sym, ap, ◌∙◌}
use Rattle.std.proofs.lemmas.List.{append-nil}
use Rattle.turn_lock.specs.declared.view.View.TheVariants.{Free}
use Rattle.turn_lock.specs.Passes.{IsFree, sight_of}
use Rattle.turn_lock.proofs.Dealing.{popped, popped_all, gathered}
use Rattle.turn_lock.proofs.Passing.{lifted, joined}
use Rattle.turn_lock.proofs.Sharing.{joins_at}
use Rattle.turn_lock.proofs.turns.Turns.gather.Goals as goal

pub into_seat-seat-requires : goal.into_seat-seat-requires
into_seat-seat-requires g c =
    let p = popped_all (IsFree c.args.self.now) _ _ _ c.in-Some.field-0 c.pop.ensures.items c.in-Some.is
    c.requires.free in
    (_, p.1.views)

pub loop-badge-init : goal.loop-badge-init
loop-badge-init g c = let p = popped_all (IsFree c.args.self.now) _ _ _ c.in-Some.field-0 c.pop.ensures.items c.in-Some.is c.requires.free in record {
  table = c.into_seat-seat.ensures.0 ∙ p.1.table;
  rest = (
    sight_of c.args.self.now c.in-Some.field-0 ∷ [],
    lifted c.into_seat-seat.result.me _ _ c.into_seat-seat.ensures.2 c.into_seat-seat.ensures.3 p.1.views,
    gathered (sight_of c.args.self.now) c.args.passes.items c.pop.new.self.items c.in-Some.field-0 [] _
        (popped _ _ _ c.in-Some.field-0 c.pop.ensures.items c.in-Some.is) (append-nil _),
  );
  free = p.0;
}

pub into_seat-before-requires : goal.into_seat-before-requires
into_seat-before-requires g c =
    let p = popped_all (IsFree c.args.self.now) _ _ _ c.in-Some-pop.field-0 c.pop-in-loop-badge.ensures.items
    c.in-Some-pop.is c.loop-badge.invariant.free in
    (_, p.1.views)

pub join_seat-requires : goal.join_seat-requires
join_seat-requires g c =
    let p = popped_all (IsFree c.args.self.now) _ _ _ c.in-Some-pop.field-0 c.pop-in-loop-badge.ensures.items
    c.in-Some-pop.is c.loop-badge.invariant.free in (
      (let t = c.into_seat-before.ensures.0 ∙ p.1.table in search rules),
      search rules,
      ap (λ m. m.1) c.loop-badge.invariant.rest.1,
      search rules,
      joins_at _ _ _ _ _ _ _ _ _ _ (lifted c.into_seat-before.result.me _ _ c.into_seat-before.ensures.2
          c.into_seat-before.ensures.3 p.1.views) c.loop-badge.invariant.rest.1,
    )

pub loop-badge-preserved : goal.loop-badge-preserved
loop-badge-preserved g c =
    let p = popped_all (IsFree c.args.self.now) _ _ _ c.in-Some-pop.field-0 c.pop-in-loop-badge.ensures.items
    c.in-Some-pop.is c.loop-badge.invariant.free in
    let rest = c.loop-badge.invariant.rest in record {
      table = c.join_seat.ensures.0 ∙ (c.into_seat-before.ensures.0 ∙ p.1.table);
      rest = (
        sight_of c.args.self.now c.in-Some-pop.field-0 ∷ rest.0,
        joined c.into_seat-before.result.me c.loop-badge.seat.me _ _ _
            (lifted c.into_seat-before.result.me _ _ c.into_seat-before.ensures.2 c.into_seat-before.ensures.3 p.1.views)
            rest.1 c.join_seat.ensures.2,
        gathered (sight_of c.args.self.now) c.loop-badge.passes.items c.pop-in-loop-badge.new.self.items c.in-Some-pop.field-0 rest.0 _
            (popped _ _ _ c.in-Some-pop.field-0 c.pop-in-loop-badge.ensures.items c.in-Some-pop.is) rest.2,
      );
      free = p.0;
    }

pub returns : goal.returns
returns g c = let rest = c.loop-badge.invariant.rest in let none : c.loop-badge.passes.items ≡ [] = search rules in record {
  table = c.loop-badge.invariant.table;
  all = rest.1 ∙ ap (λ l. (Free l, [])) (ap (λ l. map (sight_of c.args.self.now) l ++ rest.0) (sym none) ∙ rest.2);
}
