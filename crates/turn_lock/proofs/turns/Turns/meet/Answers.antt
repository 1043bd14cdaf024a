use Rattle.std.proofs.Common.{rules, ap}
use Rattle.turn_lock.specs.Passes.{sight_of}
use Rattle.turn_lock.proofs.Passing.{lifted, put_back, joined, cut_first, cut_others, have_met}
use Rattle.turn_lock.proofs.Sharing.{meets_at, splits_at, joins_at}
use Rattle.turn_lock.proofs.turns.Turns.meet.Goals as goal

pub join_seat-requires : goal.join_seat-requires
join_seat-requires g c = (
  search rules,
  search rules,
  search rules,
  search rules,
  joins_at _ _ _ _ _ _ _ _ _ _ (lifted c.lift-seat.result.me _ _ c.lift-seat.ensures.1 c.lift-seat.ensures.2
      c.requires.one.views) (lifted c.into_seat.result.me _ _ c.into_seat.ensures.2 c.into_seat.ensures.3
      c.requires.other.views),
)

pub load-requires : goal.load-requires
load-requires g c =
    let j = joined c.lift-seat.result.me c.into_seat.result.me c.join_seat.new.seat.me _ _
    (lifted c.lift-seat.result.me _ _ c.lift-seat.ensures.1 c.lift-seat.ensures.2 c.requires.one.views)
    (lifted c.into_seat.result.me _ _ c.into_seat.ensures.2 c.into_seat.ensures.3 c.requires.other.views)
    c.join_seat.ensures.2 in
    (search rules, search rules, meets_at _ _ _ _ _ _ _ (sight_of c.args.self.now c.args.one.now) (sight_of c.args.self.now c.args.other) j)

pub split_seat-answered-requires : goal.split_seat-answered-requires
split_seat-answered-requires g c =
    let j = joined c.lift-seat.result.me c.into_seat.result.me c.join_seat.new.seat.me _ _
    (lifted c.lift-seat.result.me _ _ c.lift-seat.ensures.1 c.lift-seat.ensures.2 c.requires.one.views)
    (lifted c.into_seat.result.me _ _ c.into_seat.ensures.2 c.into_seat.ensures.3 c.requires.other.views)
    c.join_seat.ensures.2 in
    let m = c.load.ensures.2 (sight_of c.args.self.now c.args.one.now) (sight_of c.args.self.now c.args.other) j in
    (search rules, search rules, splits_at _ _ _ _ _ _ _ _ m.1)

pub into_badge-requires : goal.into_badge-requires
into_badge-requires g c =
    let j = joined c.lift-seat.result.me c.into_seat.result.me c.join_seat.new.seat.me _ _
    (lifted c.lift-seat.result.me _ _ c.lift-seat.ensures.1 c.lift-seat.ensures.2 c.requires.one.views)
    (lifted c.into_seat.result.me _ _ c.into_seat.ensures.2 c.into_seat.ensures.3 c.requires.other.views)
    c.join_seat.ensures.2 in
    let m = c.load.ensures.2 (sight_of c.args.self.now c.args.one.now) (sight_of c.args.self.now c.args.other) j in
    ap (λ m. m.1) (cut_first c.load.new.seat.me c.split_seat-answered.new.seat.me _ _ m.1
    c.split_seat-answered.ensures.2)

pub returns : goal.returns
returns g c =
    let j = joined c.lift-seat.result.me c.into_seat.result.me c.join_seat.new.seat.me _ _
    (lifted c.lift-seat.result.me _ _ c.lift-seat.ensures.1 c.lift-seat.ensures.2 c.requires.one.views)
    (lifted c.into_seat.result.me _ _ c.into_seat.ensures.2 c.into_seat.ensures.3 c.requires.other.views)
    c.join_seat.ensures.2 in
    let m = c.load.ensures.2 (sight_of c.args.self.now c.args.one.now) (sight_of c.args.self.now c.args.other) j in
    let first = cut_first c.load.new.seat.me c.split_seat-answered.new.seat.me _ _ m.1 c.split_seat-answered.ensures.2 in
    let others = cut_others c.load.new.seat.me c.split_seat-answered.result.me _ _ m.1 c.split_seat-answered.ensures.4 in
    let met = have_met c.args.self.now c.args.one.now c.args.other (record { badge = c.into_badge.result })
    (record { badge = c.into_badge-2.result }) m.0 (search rules)
    (put_back c.split_seat-answered.new.seat.me _ _ c.into_badge.ensures.2 first)
    (search rules) (put_back c.split_seat-answered.result.me _ _ c.into_badge-2.ensures.2 others) in record {
      one = met.one_free;
      other = met.other_free;
      one_caller = met.one_caller;
      other_caller = met.other_caller;
      known = met.known;
      same = met.same;
      begins = met.begins;
      other_begins = met.other_begins;
      own = met.own;
      other_own = met.other_own;
      made = met.made;
      other_made = met.other_made;
    }
