-- What the interrupts that a script declares add to the immediate queue.
use Rattle.std.specs.Prelude.{ℕ, ◌==◌, List, [], Option, Some, None, filter_map, map, option_and_then, option_map, position, slice_get}
use Rattle.script_types.specs.declared.declaration.IrqBody.{IrqBody}
use Rattle.script_types.specs.declared.declaration.Op.{Op}
use Rattle.script_types.specs.declared.declaration.Op.TheVariants as op
use Rattle.script_types.specs.declared.script.Script.{Script}
use Rattle.state_rows.specs.DeclaredCalls.{idfc_named, dfc_named}
use Rattle.state_rows.specs.declared.deferred.Item.{Item}
use Rattle.state_rows.specs.declared.deferred.Item.TheVariants.{Idfc, Move}
use Rattle.nano.specs.declared.interrupts.InterruptBody.{InterruptBody}

-- the item that an operation of an interrupt's body adds; in a valid script each adds one
abbrev pub item_of : Script → Op → Option Item
item_of script (op.Idfc name) = option_map Idfc (idfc_named script name)
item_of script (op.Dfc name) = option_map Move (dfc_named script name)
item_of script _ = None

-- an interrupt: the items that its body adds, in order
abbrev pub interrupt_of : Script → IrqBody → InterruptBody
interrupt_of script irq = record { number = irq.number; items = filter_map (item_of script) irq.body }

abbrev pub interrupts_of : Script → List InterruptBody
interrupts_of script = map (interrupt_of script) script.irqs

-- what the interrupt of a number adds; one that isn't declared adds nothing
abbrev pub added_by : Option InterruptBody → List Item
added_by None = []
added_by (Some interrupt) = interrupt.items

abbrev pub items_at : List InterruptBody → ℕ → List Item
items_at interrupts k =
    added_by (option_and_then (slice_get interrupts) (position (λ (interrupt : InterruptBody). interrupt.number == k) interrupts))
