use Rattle.objects.proofs.Keeping.{kept_swept}
use Rattle.objects.proofs.objects.Objects.sweep.Goals as goal

pub invariant_of-self : goal.invariant_of-self
invariant_of-self g c =
    let dead = rw (← c.self.view_is) at c.requires in (
      kept_swept _ _ _ _ _ _ c.self.invariant.0 c.args.o.0 _ dead c.give.ensures.free c.give.ensures.others,
      c.self.invariant.1,
      c.self.invariant.2,
      rw c.deref.ensures.value at c.forget.ensures,
    )
