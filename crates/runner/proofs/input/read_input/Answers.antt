use Rattle.std.proofs.Common.{ℕ, ◌++◌, take, arith}
use Rattle.std.proofs.lemmas.List.{length-take}
use Rattle.edge_io.proofs.Reading.{read_more}
use Rattle.runner.proofs.Taken.{more_few, more_many}
use Rattle.runner.proofs.input.read_input.Goals as goal

-- one byte too many was read
pub returns-then-count-limit-clause-large : goal.returns-then-count-limit-clause-large
returns-then-count-limit-clause-large g c = λ same. record {
  bytes = c.loop-count.input.items ++ take c.in-Ok.count c.read.new.buf;
  many =
      more_many c.args.limit c.loop-count.input.items c.in-Ok.count c.read.new.buf
      (omega (arith, c.in-Ok.ensures.count, length-take {A = ℕ}))
      (omega (arith, c.in-Ok.ensures.count, length-take {A = ℕ}));
  front = read_more _ _ _ c.loop-count.input.items _ c.loop-count.invariant.bytes c.in-Ok.ensures.moved;
}

-- the bytes that were read but not kept are taken too
pub returns-then-is_err-clause-few : goal.returns-then-is_err-clause-few
returns-then-is_err-clause-few g c = λ other. record {
  bytes = c.loop-count.input.items ++ take c.in-Ok.count c.read.new.buf;
  few = more_few c.args.limit c.loop-count.input.items c.in-Ok.count c.read.new.buf (omega (arith, c.in-Ok.ensures.count, length-take {A = ℕ}));
  front = read_more _ _ _ c.loop-count.input.items _ c.loop-count.invariant.bytes c.in-Ok.ensures.moved;
}
