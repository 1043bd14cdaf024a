use Rattle.std.proofs.Common.{◌≡◌, ◌∙◌, ◌<◌, ap, refl, subst, sym, arith, length}
use Rattle.script_types.specs.declared.script.Script.{Script}
use Rattle.machine.specs.SharedRun.{slots_taken, IsSharedPart}
use Rattle.turn_lock.proofs.Logs.{begins_itself}
use Rattle.shared_kernel.specs.Does.{slot_after}
use Rattle.shared_kernel.specs.Values.{base_of}
use Rattle.shared_kernel.proofs.Doing.{acts-grown, draws-next}
use Rattle.shared_kernel.proofs.Drawing.{at-next, declared-next, none-next, room-next, scheduled-draw, taken-small}
use Rattle.shared_kernel.proofs.scheduled.Scheduled.draw.Goals as goal

pub entries-requires : goal.entries-requires
entries-requires c = let back = c.self.invariant.shareable.back in record { mode = c.self.invariant.shareable.mode; few = omega arith }

pub returns-then-next-len : goal.returns-then-next-len
returns-then-next-len c =
    let s = c.self.inside in
    let k = s.kernel in
    record {
      base = refl;
      grown = begins_itself c.args.self.now.history;
      draws =
          rw (← c.self.view_is) (record {
            refuses = record { same = refl; at = c.entries.ensures.entries };
            none = none-next k s.slots s.taken c.self.invariant (omega arith);
          });
      part = rw (← c.self.view_is) c.self.invariant.part;
      safe = rw (← c.self.view_is) c.entries.ensures.safe;
    }

pub slot_out-acted-requires : goal.slot_out-acted-requires
slot_out-acted-requires c =
    let s = c.self.inside in
    let k = s.kernel in
    record {
      shareable = c.self.invariant.shareable;
      declared =
          declared-next k.script (slots_taken k.history) c.get-slot.result c.self.invariant.shareable.valid
          (at-next s.slots k.script.slots s.taken
          (slots_taken k.history) c.get-slot.result c.self.invariant.slots c.self.invariant.taken c.get-slot.ensures);
      room = room-next k s.slots s.taken c.self.invariant (omega arith);
    }

pub overflow_add-self : goal.overflow_add-self
overflow_add-self c =
    let s = c.self.inside in
    let few = taken-small s.kernel s.slots s.taken c.self.invariant in omega arith

pub invariant_of-self : goal.invariant_of-self
invariant_of-self c =
    let s = c.self.inside in
    let said = c.slot_out-acted.ensures in
    scheduled-draw s.kernel s.slots s.taken c.self.invariant c.slot_out-acted.new.kernel said.shareable said.base
    said.legal c.get-slot.result c.slot_out-acted.result c.get-slot.ensures said.acts said.out

pub returns : goal.returns
returns c =
    let s = c.self.inside in
    let k = s.kernel in
    let said = c.slot_out-acted.ensures in
    let l = c.slot_out-acted.new.kernel in
    let on = scheduled-draw k s.slots s.taken c.self.invariant l said.shareable said.base said.legal c.get-slot.result
    c.slot_out-acted.result c.get-slot.ensures said.acts said.out in
    let at = at-next s.slots k.script.slots s.taken
    (slots_taken k.history) c.get-slot.result c.self.invariant.slots c.self.invariant.taken c.get-slot.ensures in
    record {
      base = said.base ∙ ap base_of c.self.view_is;
      grown =
          rw (← c.self.view_is) (acts-grown (base_of k) k.history l.history
          (slot_after k.script k.history c.get-slot.result) c.slot_out-acted.result said.acts);
      draws = rw (c.drew.ensures, ← c.self.view_is) (draws-next (base_of k) k.history l.history c.get-slot.result c.slot_out-acted.result at said.acts);
      part = on.part;
      safe = said.safe;
    }
