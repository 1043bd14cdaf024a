use Rattle.std.proofs.Common.{length, sym, ap, arith, append-nil, append_assoc}
use Rattle.std.proofs.lemmas.Grind.{common_steps}
use Rattle.std.proofs.lemmas.List.{take_more}
use Rattle.entry_log.proofs.text.line.put.Goals as goal

pub loop-byte-init : goal.loop-byte-init
loop-byte-init c = sym (append-nil _)

pub push-requires : goal.push-requires
push-requires c =
    let long = ap length c.loop-byte.invariant in
    grind (arith, common_steps)

pub loop-byte-preserved : goal.loop-byte-preserved
loop-byte-preserved c =
    rw (
      take_more c.args.piece.now c.loop-byte.byte-index 0 c.loop-byte-test.true,
      ← append_assoc,
      ← c.loop-byte.invariant,
    ) c.push.ensures.items

pub returns : goal.returns
returns c = grind (arith, common_steps)
