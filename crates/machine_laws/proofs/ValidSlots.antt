-- Each slot of a well-formed script may be given to a machine, and there are few.
use Rattle.std.proofs.Common.{◌≡◌, ◌≤◌, ℕ, zero, suc, true, List, [], ◌∷◌, length, get_or}
use Rattle.std.specs.List.{list_all}
use Rattle.sym_base.specs.declared.limits.TheConstants.Limits.{SLOTS}
use Rattle.script_types.proofs.LimitLaws.{both}
use Rattle.script_types.proofs.ShapeLaws.{formed_is_shaped}
use Rattle.script_types.specs.Resolves.{slot_resolves}
use Rattle.script_types.specs.Source.{IsWellFormed}
use Rattle.script_types.specs.declared.script.Script.{Script}
use Rattle.script_types.specs.declared.script.Slot.{Slot}
use Rattle.script_types.specs.declared.script.Slot.TheVariants as slot
use Rattle.machine.specs.Slots.{IsDeclared}

declared_by : (script : Script) (s : Slot) → slot_resolves script s ≡ true → IsDeclared script s
declared_by script slot.Go h = tt
declared_by script slot.Tick h = tt
declared_by script (slot.Irq k) h = h

declared_at : (script : Script) (slots : List Slot) (i : ℕ) → list_all (slot_resolves script) slots ≡ true → IsDeclared script (get_or slots i slot.Go)
declared_at script [] i all = tt
declared_at script (s ∷ rest) zero all = declared_by script s (both (slot_resolves script s) (list_all (slot_resolves script) rest) all).0
declared_at script (s ∷ rest) (suc i) all = declared_at script rest i (both (slot_resolves script s) (list_all (slot_resolves script) rest) all).1

-- the slot at any place, where `go` stands for what is past the end
pub valid_slot_is_declared : (script : Script) (i : ℕ) → IsWellFormed script → IsDeclared script (get_or script.slots i slot.Go)
valid_slot_is_declared script i valid = declared_at script script.slots i (formed_is_shaped script valid).names.slots

pub valid_slots_few : (script : Script) → IsWellFormed script → length script.slots ≤ SLOTS
valid_slots_few script valid = (formed_is_shaped script valid).slots
