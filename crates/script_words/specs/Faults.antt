-- What is wrong with a word, or with words: their forms first.
use Rattle.std.specs.Prelude.{Bool, true, false, Option, Some, None}
use Rattle.script_words.specs.declared.fault.Fault.{Fault}
use Rattle.script_words.specs.declared.fault.Fault.TheVariants as fault

-- by whether the forms are right, and the ranges
abbrev pub fault_by : Bool → Bool → Option Fault
fault_by false range = Some fault.Form
fault_by true false = Some fault.Range
fault_by true true = None

-- a fault is one of form
abbrev pub is_of_form : Option Fault → Bool
is_of_form (Some fault.Form) = true
is_of_form (Some fault.Range) = false
is_of_form None = false

-- of two faults one of form comes first
abbrev pub both_faults : Option Fault → Option Fault → Option Fault
both_faults (Some fault.Form) other = Some fault.Form
both_faults (Some fault.Range) (Some fault.Form) = Some fault.Form
both_faults (Some fault.Range) (Some fault.Range) = Some fault.Range
both_faults (Some fault.Range) None = Some fault.Range
both_faults None other = other
