use Rattle.std.proofs.Common.{◌≡◌, length, take}
use Rattle.std.specs.List.{list_all}
use Rattle.script_words.specs.Faults.{fault_by}
use Rattle.script_words.specs.LineSigns.{is_op}
use Rattle.script_words.specs.Pieces.{pieces}
use Rattle.script_words.specs.Signs.{has_form, is_in_range}
use Rattle.script_words.proofs.Bodies.{parts_of}
use Rattle.script_words.proofs.line_form.body_fault.Given as goal

-- what is wrong with the parts so far
abbrev pub invariant-loop-operation : goal.invariant-loop-operation
invariant-loop-operation l =
    l.fault ≡ fault_by (list_all (λ part. is_op has_form l.fn.kind (pieces part)) (take (length l.yielded) (parts_of l.fn.words)))
    (list_all (λ part. is_op is_in_range l.fn.kind (pieces part)) (take (length l.yielded) (parts_of l.fn.words)))
