use Rattle.std.proofs.Common.{◌∙◌, sym, arith}
use Rattle.std.proofs.lemmas.List.{get_or_read}
use Rattle.links.proofs.Owned.{StandsIn, stands_own, owned_without, without_other}
use Rattle.cleanup.proofs.Seen.{both_tests}
use Rattle.cleanup.proofs.items.ThreadItems.remove.Goals.{else-is_linked-via-then-is_linked+else-index-t, else-is_linked-via-else-is_linked}
use Rattle.cleanup.proofs.items.ThreadItems.remove.Goals as goal

pub invariant_of-self : goal.invariant_of-self
invariant_of-self c =
    let listed = rw (← c.self.view_is) at c.requires.thread in
    let item = rw (← c.self.view_is) at c.requires.item in
    let held = c.is_linked.ensures.linked.0 c.if-is_linked.true in
    let read = get_or_read c.self.inside.owners.items c.args.item c.index.result.now (omega (arith, c.self.invariant.sized)) c.index.ensures 0 in
    let stands : StandsIn c.self.inside.links c.args.item c.args.t.0 =
    rw (sym read ∙ c.if-index-t.true) at (stands_own c.self.inside.links c.self.inside.owners.items c.self.invariant
    c.args.item held) in
    rw (c.unlink.ensures.alone c.args.t.0 stands.place stands.at)
    (owned_without c.self.inside.links c.self.inside.owners.items c.self.invariant c.args.t.0 c.args.item listed)

pub returns-then-index-t : goal.returns-then-index-t
returns-then-index-t c =
    let item = rw (← c.self.view_is) at c.requires.item in
    let held = c.is_linked.ensures.linked.0 c.if-is_linked.true in
    let read = get_or_read c.self.inside.owners.items c.args.item c.index.result.now (omega (arith, c.self.invariant.sized)) c.index.ensures 0 in
    let stands : StandsIn c.self.inside.links c.args.item c.args.t.0 =
    rw (sym read ∙ c.if-index-t.true) at (stands_own c.self.inside.links c.self.inside.owners.items c.self.invariant
    c.args.item held) in
    rw (← c.self.view_is) (c.unlink.ensures.alone c.args.t.0 stands.place stands.at)

pub returns-else-is_linked : goal.returns-else-is_linked
returns-else-is_linked c =
    let listed = rw (← c.self.view_is) at c.requires.thread in
    let item = rw (← c.self.view_is) at c.requires.item in
    elim c.else-is_linked.branch [
      | else-is_linked-via-then-is_linked+else-index-t w ↦
          let read = get_or_read c.self.inside.owners.items c.args.item w.index.result.now (omega (arith, c.self.invariant.sized)) w.index.ensures 0 in
          rw (← c.self.view_is) (without_other c.self.inside.links c.self.inside.owners.items c.self.invariant
          c.args.t.0 c.args.item listed (λ held same. w.if-index-t.false (read ∙ same)))
      | else-is_linked-via-else-is_linked w ↦
          rw (← c.self.view_is) (without_other c.self.inside.links c.self.inside.owners.items c.self.invariant
          c.args.t.0 c.args.item listed (λ held same. both_tests
          (sym w.if-is_linked.false ∙ c.is_linked.ensures.linked.1 held)))
    ]
