-- A number that no object has is fresh, and so is the one that a new object gets.
use Rattle.std.proofs.Common.{◌≡◌, None, ap, subst, ◌∙◌}
use Rattle.sym_base.specs.declared.number.ObjNo.{ObjNo}
use Rattle.script_types.specs.declared.script.Script.{Script}
use Rattle.machine.specs.declared.state.State.{State}
use Rattle.machine.specs.Fresh.{IsFresh}
use Rattle.machine.specs.Moves.{next_object}
use Rattle.machine.specs.References.{count_of}
use Rattle.machine.specs.Rows.{object_of}
use Rattle.machine.specs.WellFormed.{AreRows, IsAlive, is_dead}
use Rattle.move_laws.proofs.Lives.LivesMove.{zero_or}
use Rattle.move_laws.proofs.Lives.NewObjects.{next_number_is}

-- nothing refers to a number without an object
pub uncounted : (script : Script) (S : State) (o : ObjNo) → AreRows script S → object_of S o ≡ None → count_of S o ≡ 0
uncounted script S o rows none = zero_or (count_of S o) (λ some. subst IsAlive none (rows.lives.alive o some))

pub none_left : (script : Script) (S : State) (o : ObjNo) → AreRows script S → object_of S o ≡ None → IsFresh S o
none_left script S o rows none = record {
  object = none;
  thread = rows.references.spent.threads_made o.0 none;
  references = uncounted script S o rows none;
  sweeps = rows.lives.sweeps o ∙ ap is_dead none;
  owner = rows.synchronization.locks.owners_made o none;
  waiters = rows.synchronization.locks.waiters_made o none;
  count = rows.synchronization.locks.counts_made o none;
  session = rows.serving.servers.sessions_made o none;
  linked = rows.serving.servers.linked_made o none;
}

pub next_fresh : (script : Script) (S : State) → AreRows script S → IsFresh S (next_object S)
next_fresh script S rows = none_left script S (next_object S) rows (next_number_is S.mode.reuse S.references.objects).1
