use Rattle.std.proofs.Common.{true, List}
use Rattle.script_types.specs.declared.script.Script.{Script}
use Rattle.entry_log.specs.declared.entry.Entry.{Entry}
use Rattle.machine_safe.specs.Safe.{IsSafeIn}
use Rattle.machine.specs.SharedRun.{IsSharedPart}
use Rattle.shared_kernel.specs.declared.base.KernelBase.{KernelBase}
use Rattle.shared_kernel.specs.Draws.{Draws}
use Rattle.turn_lock.specs.Log.{entries_of}
use Rattle.turn_lock.specs.Passes.{known_of}
use Rattle.shared_kernel.proofs.Calls.{Call, call-caller, call-free, call-holds, call-made, call-turned, leaves-base, leaves-grown}
use Rattle.shared_kernel.proofs.scheduled_kernel.ScheduledKernel.draw.Goals as goal

pub enter-turn-requires : goal.enter-turn-requires
enter-turn-requires g c = rw c.self.view_is c.requires

pub leave-requires : goal.leave-requires
leave-requires g c = record {
  turn = c.enter-turn.ensures.turn;
  base =
      leaves-base c.self.inside.turns.base c.enter-turn.result.value c.value.result.now c.draw-drew.new.self
      c.enter-turn.ensures.base c.value.ensures.value c.draw-drew.ensures.base;
  grown =
      leaves-grown (entries_of (known_of c.enter-turn.new.pass)) c.enter-turn.result.value c.value.result.now
      c.draw-drew.new.self c.enter-turn.ensures.list c.value.ensures.value c.draw-drew.ensures.grown;
}

pub returns : goal.returns
returns g c =
    let turns = c.self.inside.turns in
    let lock = c.args.self.now in
    let given = c.enter-turn.result.value in
    let lent = c.value.result.now in
    let left = c.draw-drew.new.self in
    let old = c.args.pass.now in
    let mid = c.enter-turn.new.pass in
    let new = c.leave.new.pass in
    let call : Call turns lock given lent left old mid new = record {
      same = c.self.view_is;
      came = c.enter-turn.ensures.caller;
      begins = c.enter-turn.ensures.known;
      own = c.enter-turn.ensures.own;
      list = c.enter-turn.ensures.list;
      base = c.enter-turn.ensures.base;
      lends = c.value.ensures.value;
      keeps = c.draw-drew.ensures.base;
      free = c.leave.ensures.free;
      went = c.leave.ensures.caller;
      known = c.leave.ensures.known;
      shows = c.leave.ensures.list;
      made = c.leave.ensures.made;
    } in
    record {
      free = call-free turns lock given lent left old mid new call;
      caller = call-caller turns lock given lent left old mid new call;
      drew = call-turned turns lock given lent left old mid new call (λ (b : KernelBase). Draws b c.draw-drew.result) c.draw-drew.ensures.draws;
      part = call-holds turns lock given lent left old mid new call IsSharedPart c.draw-drew.ensures.part;
      safe = call-holds turns lock given lent left old mid new call (λ (s : Script) (h : List Entry). IsSafeIn true s h) c.draw-drew.ensures.safe;
      made = call-made turns lock given lent left old mid new call;
    }
