use Rattle.std.proofs.Common.{◌≡◌, ℕ, ◌∙◌, replicate, rules}
use Rattle.count_rule.proofs.Shares.{starts}
use Rattle.count_rule.proofs.state_seat.StateSeat.new.Goals as goal

pub of_words-requires : goal.of_words-requires
of_words-requires c =
    let words : c.in_ok-words.words.items ≡ replicate {A = ℕ} c.args.count 0 = search rules in
    starts _ _ (c.as_slice.ensures.value ∙ words)
