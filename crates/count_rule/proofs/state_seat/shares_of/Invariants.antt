use Rattle.std.proofs.Common.{◌≡◌, ◌≤◌, vec_len, vec_capacity, All}
use Rattle.count_rule.proofs.state_seat.shares_of.Given as goal

abbrev pub invariant-loop : goal.invariant-loop
invariant-loop l = All (λ share. share ≡ l.share) l.shares.items × (vec_len l.shares ≡ l.counter) × (64 ≤ vec_capacity l.shares)
