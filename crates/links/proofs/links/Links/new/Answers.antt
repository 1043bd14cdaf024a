use Rattle.std.proofs.Common.{◌≡◌, ◌+◌, ◌^◌, ◌<◌, ap, length, get_or, rules}
use Rattle.std.specs.Prelude.{List, ℕ}
use Rattle.links.proofs.Fresh.{fresh_leads}
use Rattle.links.proofs.links.Links.new.Goals as goal

pub invariant_of-result : goal.invariant_of-result
invariant_of-result c =
    let sum : c.in-Some.entries ≡ c.args.nodes + c.args.lists = search rules in
    let small : c.args.nodes + c.args.lists < 2 ^ 32 = search rules in
    let next : (length c.in_ok-next.next.items ≡ c.in-Some.entries)
    × ((k : ℕ) → k < c.in-Some.entries → get_or c.in_ok-next.next.items k 0 ≡ k) =
    c.in_ok-next.ensures in
    let previous : (length c.in_ok-previous.previous.items ≡ c.in-Some.entries)
    × ((k : ℕ) → k < c.in-Some.entries → get_or c.in_ok-previous.previous.items k 0 ≡ k) =
    c.in_ok-previous.ensures in
    (fresh_leads c.args.nodes c.args.lists c.in_ok-next.next.items c.in_ok-previous.previous.items small
    (rw (← sum) next.0) (rw (← sum) previous.0) (rw (← sum) next.1) (rw (← sum) previous.1)).0

pub returns : goal.returns
returns c =
    let sum : c.in-Some.entries ≡ c.args.nodes + c.args.lists = search rules in
    let small : c.args.nodes + c.args.lists < 2 ^ 32 = search rules in
    let next : (length c.in_ok-next.next.items ≡ c.in-Some.entries)
    × ((k : ℕ) → k < c.in-Some.entries → get_or c.in_ok-next.next.items k 0 ≡ k) =
    c.in_ok-next.ensures in
    let previous : (length c.in_ok-previous.previous.items ≡ c.in-Some.entries)
    × ((k : ℕ) → k < c.in-Some.entries → get_or c.in_ok-previous.previous.items k 0 ≡ k) =
    c.in_ok-previous.ensures in
    ap (λ (lists : List (List ℕ)). record { nodes = c.args.nodes; lists = lists })
    (fresh_leads c.args.nodes c.args.lists c.in_ok-next.next.items c.in_ok-previous.previous.items small
    (rw (← sum) next.0) (rw (← sum) previous.0) (rw (← sum) next.1) (rw (← sum) previous.1)).1
