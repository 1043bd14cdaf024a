use Rattle.std.proofs.Common.{◌≡◌, length, take}
use Rattle.copy_rules.specs.Memory.{bytes_from}
use Rattle.plain_servers.proofs.copies.read_bytes.Given as goal

abbrev pub invariant-loop-k : goal.invariant-loop-k
invariant-loop-k l = (take l.k l.piece ≡ bytes_from l.memories (record { process = l.from.process; at = l.from.at }) l.k) × (length l.piece ≡ 64)
