use Rattle.std.proofs.Common.{◌≡◌, ℕ, ◌+◌, ◌<◌, List, [], ◌∷◌, length, get_or, ap, sym, refl, ◌∙◌, arith, Some, set, length-set, length-append}
use Rattle.std.proofs.lemmas.List.{get_or_read}
use Rattle.ref_words.specs.declared.answer.Found.TheVariants.{Held, Dead}
use Rattle.ref_words.specs.Words.{own_found}
use Rattle.count_rule.specs.declared.view.View.TheVariants.{Ticket}
use Rattle.count_rule.specs.Views.{words_of}
use Rattle.count_rule.specs.Moves.{slip_of, found_of}
use Rattle.count_rule.specs.Seats.{counts}
use Rattle.count_rule.proofs.Shares.{all_more, identity_tells}
use Rattle.count_rule.proofs.Between.{seated_back, out_back, small_back}
use Rattle.count_rule.proofs.state_seat.StateSeatRefWords.take_back.Goals as goal

pub invariant_of-self : goal.invariant_of-self
invariant_of-self c =
    let was = c.self.invariant in let seat = c.self.inside.seat in let k = counts seat in let note = c.note.inside in let own = c.self.inside.own.items in
    let slip = slip_of note.seat.me.0 in let found = found_of note.seat.me.0 in
    let held : found ≡ Held = ap (λ m. found_of m.0) c.note.invariant.ticket ∙ ap (λ x. found_of (Ticket slip x)) (c.unwrap.ensures ∙ ap Some c.in-Held.is) in
    let tables = identity_tells _ _ (ap (λ n. n.identity) c.note.view_is ∙ c.requires.fits ∙ sym (ap (λ w. w.identity) c.self.view_is)) in
    let share = sym c.note.invariant.table_is ∙ tables ∙ was.seated.kernels.0 in
    let inside : note.place < length own = omega (arith, c.note.invariant.placed, was.seated.words, ap (λ z. z.words) share) in
    let read = get_or_read own note.place _ inside c.index_mut.ensures.value 0 in
    let after : own_found found (words_of [] k) slip.place ≡ set own note.place (c.index_mut.result.now + 1) =
    ap (λ f. own_found f (words_of [] k) slip.place) held
    ∙ ap (λ (x : List ℕ × ℕ). set x.0 x.1 (get_or x.0 x.1 0 + 1)) (λ i. (was.seated.own_is i, c.note.invariant.place_is i))
    ∙ ap (λ (n : ℕ). set own note.place (n + 1)) (sym read) in
    let out = out_back _ _ seat c.join.new.seat c.look.new.seat slip found was.seated c.join.ensures c.look.ensures.knows c.look.ensures.was_out in record {
      seated =
          seated_back _ _ _ seat c.join.new.seat c.look.new.seat slip found was.seated c.join.ensures c.look.ensures.knows
          c.look.ensures.was_out after (length-set _ _ _);
      same_table = all_more _ _ _ note.share c.push_reserved.ensures.items was.same_table share;
      has_room = omega (arith, was.has_room, c.push_reserved.ensures.capacity);
      in_all = omega (arith, was.in_all, ap length c.push_reserved.ensures.items, length-append c.self.inside.shares.items (note.share ∷ []), out);
    }

pub invariant_of-self-in-Dead : goal.invariant_of-self-in-Dead
invariant_of-self-in-Dead c =
    let was = c.self.invariant in let seat = c.self.inside.seat in let k = counts seat in let note = c.note.inside in
    let slip = slip_of note.seat.me.0 in let found = found_of note.seat.me.0 in
    let dead : found ≡ Dead = ap (λ m. found_of m.0) c.note.invariant.ticket ∙ ap (λ x. found_of (Ticket slip x)) (c.unwrap.ensures ∙ ap Some c.in-Dead.is) in
    let tables = identity_tells _ _ (ap (λ n. n.identity) c.note.view_is ∙ c.requires.fits ∙ sym (ap (λ w. w.identity) c.self.view_is)) in
    let share = sym c.note.invariant.table_is ∙ tables ∙ was.seated.kernels.0 in
    let after = ap (λ f. own_found f (words_of [] k) slip.place) dead ∙ was.seated.own_is in
    let out = out_back _ _ seat c.join.new.seat c.look.new.seat slip found was.seated c.join.ensures c.look.ensures.knows c.look.ensures.was_out in record {
      seated =
          seated_back _ _ _ seat c.join.new.seat c.look.new.seat slip found was.seated c.join.ensures c.look.ensures.knows
          c.look.ensures.was_out after refl;
      same_table = all_more _ _ _ note.share c.push_reserved.ensures.items was.same_table share;
      has_room = omega (arith, was.has_room, c.push_reserved.ensures.capacity);
      in_all = omega (arith, was.in_all, ap length c.push_reserved.ensures.items, length-append c.self.inside.shares.items (note.share ∷ []), out);
    }

pub returns-in-Held-clause-fewer : goal.returns-in-Held-clause-fewer
returns-in-Held-clause-fewer c =
    let note = c.note.inside in
    out_back _ _ c.self.inside.seat c.join.new.seat c.look.new.seat (slip_of note.seat.me.0)
    (found_of note.seat.me.0) c.self.invariant.seated c.join.ensures c.look.ensures.knows c.look.ensures.was_out
    ∙ ap (λ w. length w.out) c.self.view_is

pub returns-in-Dead-clause-fewer : goal.returns-in-Dead-clause-fewer
returns-in-Dead-clause-fewer c =
    let note = c.note.inside in
    out_back _ _ c.self.inside.seat c.join.new.seat c.look.new.seat (slip_of note.seat.me.0)
    (found_of note.seat.me.0) c.self.invariant.seated c.join.ensures c.look.ensures.knows c.look.ensures.was_out
    ∙ ap (λ w. length w.out) c.self.view_is

pub returns-in-Held-clause-bounded : goal.returns-in-Held-clause-bounded
returns-in-Held-clause-bounded c =
    let note = c.note.inside in
    small_back _ _ c.self.inside.seat c.join.new.seat c.look.new.seat (slip_of note.seat.me.0)
    (found_of note.seat.me.0) c.self.invariant.seated c.join.ensures c.look.ensures.knows c.look.ensures.was_out
    c.args.note.slip.place
