use Rattle.std.proofs.Common.{◌∙◌, ap, refl, sym, length, arith}
use Rattle.turn_lock.proofs.Logs.{begins_itself}
use Rattle.shared_kernel.specs.Values.{base_of}
use Rattle.shared_kernel.proofs.Doing.{undeclared-none, undeclared-some}
use Rattle.shared_kernel.proofs.free.Free.slot.Goals as goal

pub entries-requires : goal.entries-requires
entries-requires c = let back = c.self.invariant.back in record { mode = c.self.invariant.mode; few = omega arith }

pub slot_declared-requires : goal.slot_declared-requires
slot_declared-requires c = undeclared-none c.args.self.now.script c.args.slot c.in-None.ensures

pub returns-in-Some : goal.returns-in-Some
returns-in-Some c =
    let told = undeclared-some c.args.self.now.script c.args.slot c.in-Some.k c.in-Some.ensures in
    record {
      base = refl;
      grown = begins_itself c.args.self.now.history;
      does = (told.0, told.1, refl);
      legal = rw (← c.self.view_is) c.entries.ensures.legal;
      safe = rw (← c.self.view_is) c.entries.ensures.safe;
    }
