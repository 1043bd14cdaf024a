-- How many deferred function calls a script has, with the burials of its threads.
use Rattle.std.proofs.Common.{◌≡◌, ℕ, ◌+◌, ◌≤◌, length, arith, length-append}
use Rattle.std.specs.Prelude.{◌-◌, map, replicate}
use Rattle.std.proofs.lemmas.List.{length-map, length-replicate}
use Rattle.script_types.specs.Shape.{IsShaped}
use Rattle.script_types.specs.declared.script.Script.{Script}
use Rattle.state_rows.specs.DeclaredCalls.{calls_of, place_of}
use Rattle.state_rows.specs.DeferredChanges.{burial}

-- each has a number of 8 bits
pub few_places : (script : Script) → IsShaped script → length (calls_of script).places ≤ 256
few_places script shaped =
    let count = 64 + (1 + length script.queues + length script.threads) - length (map (place_of script) script.dfcs) in
    let both = length-append (map (place_of script) script.dfcs) (replicate count burial) in
    let declared = length-map script.dfcs (place_of script) in
    let burials = length-replicate count burial in
    let dfcs = shaped.dfcs in
    let threads = shaped.count in
    omega arith
