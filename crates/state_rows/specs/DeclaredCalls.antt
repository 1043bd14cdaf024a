-- The deferred function calls that a script declares: their numbers, and their queues at boot.
use Rattle.std.specs.Prelude.{ℕ, ◌+◌, map, List, length, Option, Some, None, position}
use Rattle.std.specs.Str.{bytes_eq}
use Rattle.script_types.specs.declared.declaration.DfcDecl.{DfcDecl}
use Rattle.script_types.specs.declared.declaration.IdfcDecl.{IdfcDecl}
use Rattle.script_types.specs.declared.declaration.QueueDecl.{QueueDecl}
use Rattle.script_types.specs.declared.script.Script.{Script}
use Rattle.state_rows.specs.declared.deferred.DeferredRows.{DeferredRows}
use Rattle.state_rows.specs.declared.deferred.DfcPlace.{DfcPlace}
use Rattle.state_rows.specs.DeferredChanges.{new_calls}

-- the number of the immediate call that is declared with this name, and of the deferred one
abbrev pub idfc_named : Script → List ℕ → Option ℕ
idfc_named script name = position (λ (d : IdfcDecl). bytes_eq name d.name) script.idfcs

abbrev pub dfc_named : Script → List ℕ → Option ℕ
dfc_named script name = position (λ (d : DfcDecl). bytes_eq name d.name) script.dfcs

-- the queue of a name: the supervisor's is queue 0
abbrev pub queue_number : Option ℕ → ℕ
queue_number None = 0
queue_number (Some k) = k + 1

abbrev pub queue_named : Script → List ℕ → ℕ
queue_named script name = queue_number (position (λ (q : QueueDecl). bytes_eq name q.name) script.queues)

-- where a deferred function call waits
abbrev pub place_of : Script → DfcDecl → DfcPlace
place_of script d = record { queue = queue_named script d.queue; priority = d.priority }

-- nothing is queued, in the supervisor's queue and in each declared one; each thread has a burial
abbrev pub calls_of : Script → DeferredRows
calls_of script =
    new_calls (1 + length script.queues) (length script.idfcs) (map (place_of script) script.dfcs)
    (1 + length script.queues + length script.threads)
