use Rattle.std.proofs.Common.{◌≡◌, length, map, take}
use Rattle.script_words.specs.LineAt.{op_of}
use Rattle.script_words.specs.Pieces.{pieces}
use Rattle.script_words.proofs.Bodies.{parts_of}
use Rattle.script_words.proofs.body.body.Given as goal

-- the operations of the parts so far
abbrev pub invariant-loop-part : goal.invariant-loop-part
invariant-loop-part l = l.ops ≡ map (λ part. op_of (pieces part)) (take (length l.yielded) (parts_of l.fn.words))
