-- A run that is summed up part by part.
use Rattle.std.proofs.Common.{◌≡◌, ◌∙◌, ℕ, ◌+◌, ◌<◌, ◌≤◌, List, ◌++◌, length, take, drop, arith, sym, ap}
use Rattle.std.proofs.lemmas.List.{length-append, length-drop, length-take}
use Rattle.entry_log.specs.declared.entry.Entry.{Entry}
use Rattle.machine.specs.Run.{run}
use Rattle.kcore.proofs.Runs.{run_few}
use Rattle.script_types.specs.Source.{IsWellFormed}
use Rattle.script_types.specs.declared.script.Script.{Script}

module _ (whole history left part : List Entry) (size : ℕ) (are : history ++ left ≡ whole) (is : part ≡ take size left) where
  part-few : length history + length part ≤ length whole
  part-few = omega (arith, ap length is, length-take size left, sym (length-append history left) ∙ ap length are)

  -- a part with entries leaves fewer
  pub fewer-left : 0 < size → 0 < length part → length (drop size left) < length left
  fewer-left some more = omega (arith, ap length is, length-take size left, length-drop size left)

-- with a part of it there are no more entries than a run has
pub run-part-few : (script : Script) (history left part : List Entry) (size : ℕ) → IsWellFormed script → history ++ left ≡ run script
    → part ≡ take size left → length history + length part ≤ 65536
run-part-few script history left part size valid are is = omega (arith, part-few (run script) history left part size are is, run_few script valid)
