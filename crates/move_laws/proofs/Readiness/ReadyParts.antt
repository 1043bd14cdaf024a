-- What a ready thread meets, each by itself.
use Rattle.std.proofs.Common.{◌≡◌, Bool, true, false}
use Rattle.std.specs.Prelude.{not, ◌&&◌, is_some}
use Rattle.std.proofs.lemmas.Bool.{and_from, and_parts}
use Rattle.sym_base.specs.declared.number.ObjNo.{ObjNo}
use Rattle.script_types.specs.declared.script.Script.{Script}
use Rattle.machine.specs.declared.state.State.{State}
use Rattle.machine.specs.Rows.{thread_of}
use Rattle.machine.specs.Task.{is_ready, is_stopped, is_unspent_row, is_waiting, task_of}

pub record MeetsReady (script : Script) (S : State) (t : ObjNo) : Type 0 where
  pub unspent : is_unspent_row (thread_of S t) ≡ true
  pub waits : not (is_waiting S t) ≡ true
  pub stopped : not (is_stopped S t) ≡ true
  pub task : is_some (task_of script S t) ≡ true

pub ready_parts : (script : Script) (S : State) (t : ObjNo) → is_ready script S t ≡ true → MeetsReady script S t
ready_parts script S t ready =
    let all = and_parts (is_unspent_row (thread_of S t) && not (is_waiting S t) && not (is_stopped S t)) (is_some (task_of script S t)) ready in
    let calm = and_parts (is_unspent_row (thread_of S t) && not (is_waiting S t)) (not (is_stopped S t)) all.0 in
    let first = and_parts (is_unspent_row (thread_of S t)) (not (is_waiting S t)) calm.0 in
    record { unspent = first.0; waits = first.1; stopped = calm.1; task = all.1 }

pub parts_ready : (script : Script) (S : State) (t : ObjNo) → MeetsReady script S t → is_ready script S t ≡ true
parts_ready script S t h =
    and_from (is_unspent_row (thread_of S t) && not (is_waiting S t) && not (is_stopped S t)) (is_some (task_of script S t))
    (and_from (is_unspent_row (thread_of S t) && not (is_waiting S t)) (not (is_stopped S t))
    (and_from (is_unspent_row (thread_of S t)) (not (is_waiting S t)) h.unspent h.waits) h.stopped) h.task
