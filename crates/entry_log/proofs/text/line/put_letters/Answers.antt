use Rattle.std.proofs.Common.{length, sym, ap, arith, append-nil, append_assoc}
use Rattle.std.proofs.lemmas.Grind.{common_steps}
use Rattle.std.proofs.lemmas.List.{take_more}
use Rattle.entry_log.proofs.text.line.put_letters.Goals as goal

pub loop-letter-init : goal.loop-letter-init
loop-letter-init g c = sym (append-nil _)

pub push-requires : goal.push-requires
push-requires g c =
    let long = ap length c.loop-letter.invariant in
    grind (arith, common_steps)

pub loop-letter-preserved : goal.loop-letter-preserved
loop-letter-preserved g c =
    rw (
      take_more c.args.letters.now c.loop-letter.letter-index 0
          (omega (arith, c.told-letters, c.loop-letter-test.true)),
      ← append_assoc,
      ← c.loop-letter.invariant,
    ) c.push.ensures.items

pub returns : goal.returns
returns g c = grind (arith, common_steps)
