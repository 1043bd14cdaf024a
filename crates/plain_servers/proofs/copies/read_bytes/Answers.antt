use Rattle.std.proofs.Common.{◌≡◌, ◌∙◌, ℕ, ◌+◌, ◌<◌, List, [], ◌∷◌, ◌++◌, length, refl, sym, ap, arith}
use Rattle.std.proofs.lemmas.List.{length-set, take_more_set}
use Rattle.std.proofs.lemmas.List.FromFn.{map-range_with_len_more}
use Rattle.copy_rules.specs.Memory.{byte_of, bytes_from}
use Rattle.plain_servers.proofs.copies.read_bytes.Goals as goal

pub loop-k-preserved : goal.loop-k-preserved
loop-k-preserved c =
    let size : length c.loop-k.piece ≡ 64 = c.loop-k.invariant.1 in
    let inside : c.loop-k.k < length c.loop-k.piece = omega (arith, size) in (
      take_more_set c.loop-k.piece c.loop-k.k c.byte_at.result inside
          ∙ (ap (λ (l : List ℕ). l ++ c.byte_at.result ∷ []) c.loop-k.invariant.0
          ∙ (ap (λ (b : ℕ). bytes_from c.args.memories.now
          (record { process = c.args.from.process; at = c.args.from.at }) c.loop-k.k ++ b ∷ []) c.byte_at.ensures
          ∙ sym (map-range_with_len_more (byte_of c.args.memories.now c.args.from.process) c.args.from.at c.loop-k.k (c.args.from.at + c.loop-k.k) refl))),
      length-set c.loop-k.piece c.loop-k.k c.byte_at.result ∙ size,
    )
