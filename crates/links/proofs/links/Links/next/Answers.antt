use Rattle.std.proofs.Common.{suc, ◌∙◌, arith, add-one}
use Rattle.std.proofs.lemmas.Option.{slice_get_within}
use Rattle.links.proofs.Marks.{held_below, none_behind, listed_from, leads_on, here_some, here_none}
use Rattle.links.proofs.links.Links.next.Goals as goal

pub returns-then-after-self-clause-follower : goal.returns-then-after-self-clause-follower
returns-then-after-self-clause-follower c =
    rw (← c.self.view_is) (λ list place stands.
    let inside = slice_get_within _ place c.args.node stands in
    rw add-one (here_some _ _ _ _ c.self.invariant list (suc place) c.next-after.result
    (listed_from _ list place c.args.node stands) (omega arith)
    (c.next-after.ensures ∙ leads_on _ _ _ _ c.self.invariant list place c.args.node stands) (omega arith)))

pub returns-else-after-self-clause-follower : goal.returns-else-after-self-clause-follower
returns-else-after-self-clause-follower c =
    rw (← c.self.view_is) (λ list place stands.
    rw add-one (here_none _ _ _ _ c.self.invariant list (suc place) c.next-after.result
    (listed_from _ list place c.args.node stands)
    (c.next-after.ensures ∙ leads_on _ _ _ _ c.self.invariant list place c.args.node stands) (omega arith)))

pub returns-then-after-self-clause-none : goal.returns-then-after-self-clause-none
returns-then-after-self-clause-none c =
    rw (← c.self.view_is) (λ list place stands.
    let inside = slice_get_within _ place c.args.node stands in
    none_behind _ place c.args.node _ stands
    (here_some _ _ _ _ c.self.invariant list (suc place) c.next-after.result
    (listed_from _ list place c.args.node stands) (omega arith)
    (c.next-after.ensures ∙ leads_on _ _ _ _ c.self.invariant list place c.args.node stands) (omega arith)))

pub returns-else-after-self-clause-none : goal.returns-else-after-self-clause-none
returns-else-after-self-clause-none c =
    rw (← c.self.view_is) (λ list place stands.
    none_behind _ place c.args.node _ stands
    (here_none _ _ _ _ c.self.invariant list (suc place) c.next-after.result
    (listed_from _ list place c.args.node stands)
    (c.next-after.ensures ∙ leads_on _ _ _ _ c.self.invariant list place c.args.node stands) (omega arith)))

pub next-after-requires : goal.next-after-requires
next-after-requires c =
    let held = rw (← c.self.view_is) at c.requires in
    omega (arith, c.self.invariant.next_sized, held_below _ _ _ _ c.self.invariant c.args.node held)
