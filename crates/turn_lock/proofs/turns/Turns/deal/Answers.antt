use Rattle.std.proofs.Common.{rules, ◌≡◌, [], ◌∷◌, ◌++◌, sym, refl, ap, ◌∙◌}
use Rattle.std.proofs.lemmas.List.Elements.{All-push, All-same}
use Rattle.turn_lock.specs.declared.view.View.TheVariants.{Free}
use Rattle.turn_lock.specs.Passes.{IsFree, known_of, caller_of}
use Rattle.turn_lock.specs.Views.{sight}
use Rattle.turn_lock.proofs.Dealing.{next_is_first, numbers_next, mapped_next}
use Rattle.turn_lock.proofs.Passing.{put_back, cut_first, cut_others, free_shows, is_free}
use Rattle.turn_lock.proofs.Sharing.{splits_at}
use Rattle.turn_lock.proofs.turns.Turns.deal.Goals as goal

pub split_seat-rest-requires : goal.split_seat-rest-requires
split_seat-rest-requires g c =
    let e = next_is_first c.args.self.now.base c.args.self.now.passes c.loop-caller.caller c.args.count _
    c.loop-caller.invariant.others c.loop-caller-test.true in
    (search rules, search rules, splits_at _ _ _ _ _ _ _ _ e)

pub into_badge-requires : goal.into_badge-requires
into_badge-requires g c =
    let e = next_is_first c.args.self.now.base c.args.self.now.passes c.loop-caller.caller c.args.count _
    c.loop-caller.invariant.others c.loop-caller-test.true in
    ap (λ m. m.1) (cut_first _ c.split_seat-rest.new.seat.me _ _ e c.split_seat-rest.ensures.2)

pub loop-caller-preserved : goal.loop-caller-preserved
loop-caller-preserved g c =
    let e = next_is_first c.args.self.now.base c.args.self.now.passes c.loop-caller.caller c.args.count _
    c.loop-caller.invariant.others c.loop-caller-test.true in
    let a = sight c.args.self.now.base c.args.self.now.passes c.loop-caller.caller [] in
    let first = put_back c.split_seat-rest.new.seat.me c.into_badge.result.views (Free (a ∷ [])) c.into_badge.ensures.2
    (cut_first _ c.split_seat-rest.new.seat.me _ _ e c.split_seat-rest.ensures.2) in
    let items : c.push.new.self.items ≡ c.loop-caller.dealt.items ++ record { badge = c.into_badge.result } ∷ [] = search rules in
    let shows = free_shows c.args.self.now (record { badge = c.into_badge.result }) a first in record {
      table = search rules;
      others = cut_others _ c.split_seat-rest.result.me _ _ e c.split_seat-rest.ensures.4;
      free = All-same (IsFree c.args.self.now) _ _ items
          (All-push (IsFree c.args.self.now) c.loop-caller.dealt.items _ c.loop-caller.invariant.free
          (is_free c.args.self.now (record { badge = c.into_badge.result }) a (search rules) first refl refl));
      callers =
          mapped_next caller_of c.loop-caller.dealt.items _
          (record { badge = c.into_badge.result }) _ c.loop-caller.caller items c.loop-caller.invariant.callers shows.caller
          ∙ sym (numbers_next c.loop-caller.caller);
      known = All-same (λ p. known_of p ≡ []) _ _ items (All-push (λ p. known_of p ≡ []) c.loop-caller.dealt.items _ c.loop-caller.invariant.known shows.known);
    }
