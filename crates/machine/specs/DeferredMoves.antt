-- Moves in the rows of deferred function calls: what each changes, and whose readiness it may change. They tell nothing.
use Rattle.std.specs.Prelude.{ℕ, ◌+◌, List, [], ◌∷◌}
use Rattle.sym_base.specs.declared.number.ObjNo.{ObjNo}
use Rattle.state_rows.specs.declared.deferred.DeferredRows.{DeferredRows}
use Rattle.state_rows.specs.DeferredChanges.{after_add_idfc, after_add_from_irq, after_add, after_next_idfc, after_next_dfc}
use Rattle.machine.specs.declared.deferred_move.DeferredMove.{DeferredMove}
use Rattle.machine.specs.declared.deferred_move.DeferredMove.TheVariants.{AddImmediate, AddFromInterrupt, Add, TakeImmediate, Take}

-- the rows after a move
abbrev pub deferred_moved : DeferredMove → DeferredRows → DeferredRows
deferred_moved (AddImmediate item) r = after_add_idfc r item
deferred_moved (AddFromInterrupt dfc) r = after_add_from_irq r dfc
deferred_moved (Add dfc queue) r = after_add r dfc
deferred_moved TakeImmediate r = after_next_idfc r
deferred_moved (Take queue) r = after_next_dfc r queue

-- the thread that serves a queue: the supervisor is object 1, and the threads of the others stand right behind it
abbrev pub thread_of_queue : ℕ → ObjNo
thread_of_queue queue = record { 0 = 1 + queue }

-- the threads whose queue changes
abbrev pub deferred_threads : DeferredMove → List ObjNo
deferred_threads (Add dfc queue) = thread_of_queue queue ∷ []
deferred_threads (Take queue) = thread_of_queue queue ∷ []
deferred_threads _ = []
