-- Which lines have the forms of their names and the ranges of their numbers.
use Rattle.std.specs.List.{list_all}
use Rattle.std.specs.Prelude.{Bool, true, false, ◌&&◌, nat_le, List, [], ◌∷◌, Option, Some, None}
use Rattle.script_types.specs.Forms.{Form, form_of, operands_of, body_of}
use Rattle.script_types.specs.ObjectName.{is_object_name}
use Rattle.script_types.specs.Operands.{is_code, are_values}
use Rattle.script_types.specs.declared.declaration.Op.{Op}
use Rattle.script_types.specs.declared.declaration.Op.TheVariants as op
use Rattle.script_types.specs.declared.operand.BodyKind.{BodyKind}
use Rattle.script_types.specs.declared.operand.BodyKind.TheVariants as body
use Rattle.script_types.specs.declared.source_line.SourceLine.{SourceLine}

-- an operation of the body of an interrupt, and one of the body of a deferred function call
abbrev pub is_irq_op : Op → Bool
is_irq_op (op.Idfc name) = is_object_name name
is_irq_op (op.Dfc name) = is_object_name name
is_irq_op _ = false

abbrev pub is_call_op : Op → Bool
is_call_op (op.Fssignal name) = is_object_name name
is_call_op (op.Device x code) = nat_le x 15 && is_code code
is_call_op (op.Queue name) = is_object_name name
is_call_op _ = false

abbrev pub is_op : BodyKind → Op → Bool
is_op body.Interrupt = is_irq_op
is_op body.Call = is_call_op

-- a body has one operation at least, and a line without a body has none
abbrev pub is_body : Option BodyKind → List Op → Bool
is_body None [] = true
is_body None (what ∷ ops) = false
is_body (Some kind) [] = false
is_body (Some kind) (what ∷ ops) = list_all (is_op kind) (what ∷ ops)

-- a line: each operand is in its range, and its body
abbrev pub is_form : Form → Bool
is_form f = are_values (operands_of f.keyword f.second) f.values && is_body (body_of f.keyword f.second) f.body

abbrev pub is_source_line : SourceLine → Bool
is_source_line l = is_form (form_of l)
