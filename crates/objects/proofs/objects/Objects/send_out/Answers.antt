use Rattle.std.proofs.Common.{ap}
use Rattle.ref_words.specs.Words.{Words}
use Rattle.objects.proofs.Keeping.{idle_gone, kept_notes, own_is, there_created}
use Rattle.objects.proofs.objects.Objects.send_out.Goals as goal

pub send_out-requires-clause-known_or_gone : goal.send_out-requires-clause-known_or_gone
send_out-requires-clause-known_or_gone g c =
    let there = rw (← c.self.view_is) at c.requires.there in
    let known = rw (← c.self.view_is) at c.requires.known_or_gone in
    let place = rw (← c.self.view_is) at c.place_at-place.ensures in
    rw (place, ← own_is _ _ _ _ _ _ c.self.invariant.0 c.args.o.0 there)
    (λ none. idle_gone _ _ _ _ _ _ c.self.invariant.0 c.args.o.0 there (known none))

pub send_out-requires-clause-created : goal.send_out-requires-clause-created
send_out-requires-clause-created g c =
    let there = rw (← c.self.view_is) at c.requires.there in
    let place = rw (← c.self.view_is) at c.place_at-place.ensures in
    rw place (there_created _ _ _ _ _ _ c.self.invariant.0 c.args.o.0 there)

pub send_out-requires-clause-small : goal.send_out-requires-clause-small
send_out-requires-clause-small g c =
    let there = rw (← c.self.view_is) at c.requires.there in
    let small = rw (← c.self.view_is) at c.requires.small in
    let place = rw (← c.self.view_is) at c.place_at-place.ensures in
    rw (place, ← own_is _ _ _ _ _ _ c.self.invariant.0 c.args.o.0 there) small

pub invariant_of-self : goal.invariant_of-self
invariant_of-self g c =
    let sent = c.send_out.ensures.sent in (
      kept_notes _ _ _ _ _ _ c.self.invariant.0 _ (ap (λ (w : Words). w.own) sent) (ap (λ (w : Words). w.stages) sent),
      rw sent c.self.invariant.1,
      rw sent c.self.invariant.2,
      c.self.invariant.3,
    )
