-- How the one who acts is printed.
use Rattle.entry_log.specs.declared.entry.Actor.{Actor}
use Rattle.entry_log.specs.declared.entry.Actor.TheVariants.{Thread, Irq, Idfc, Tick, Idle}
use Rattle.std.specs.Prelude.{ℕ, List, ◌++◌, codes, decimal}

-- `t` and the thread's object number, `irq` and the interrupt's number, or a word alone
unfoldable pub actor_text : Actor → List ℕ
actor_text (Thread thread) = codes "t" ++ decimal thread.0
actor_text (Irq number) = codes "irq" ++ decimal number
actor_text Idfc = codes "idfc"
actor_text Tick = codes "tick"
actor_text Idle = codes "idle"
