use Rattle.std.proofs.Common.{◌∙◌, ◌≤◌, ◌+◌, ap, refl, sym, length, arith}
use Rattle.turn_lock.proofs.Logs.{begins_itself}
use Rattle.shared_kernel.specs.Does.{slot_after}
use Rattle.shared_kernel.specs.Values.{base_of}
use Rattle.shared_kernel.proofs.Doing.{acts-grown, does-slot}
use Rattle.shared_kernel.proofs.Room.{full-is, room-is}
use Rattle.shared_kernel.proofs.free.Free.slot_declared.Goals as goal

pub entries-made-requires : goal.entries-made-requires
entries-made-requires c = let back = c.self.invariant.back in record { mode = c.self.invariant.mode; few = omega arith }

pub is_full-requires : goal.is_full-requires
is_full-requires c =
    let back = c.self.invariant.back in
    let many = c.notes_out-out.ensures.many in
    let made = c.entries-made.ensures.entries in
    record { few = omega arith; few_out = omega arith }

pub slot_out-requires : goal.slot_out-requires
slot_out-requires c =
    let k = c.self.inside.kernel in
    let said = c.notes_out-out.ensures in
    record {
      shareable = c.self.invariant;
      declared = rw c.self.view_is c.requires;
      room =
          (room-is k c.entries-made.result c.notes_out-out.result c.entries-made.ensures.entries
          (said.away c.self.invariant.mode) said.many (sym c.is_full.ensures ∙ c.if-is_full.false)).0;
    }

pub returns-then-is_full : goal.returns-then-is_full
returns-then-is_full c =
    let k = c.self.inside.kernel in
    let said = c.notes_out-out.ensures in
    record {
      base = refl;
      grown = begins_itself c.args.self.now.history;
      does =
          rw (← c.self.view_is) (
            rw c.self.view_is c.requires,
            full-is k c.entries-made.result c.notes_out-out.result c.entries-made.ensures.entries
                (said.away c.self.invariant.mode) said.many (sym c.is_full.ensures ∙ c.if-is_full.true),
          );
      legal = rw (← c.self.view_is) c.entries-made.ensures.legal;
      safe = rw (← c.self.view_is) c.entries-made.ensures.safe;
    }

pub returns : goal.returns
returns c =
    let k = c.self.inside.kernel in
    let l = c.slot_out.new.kernel in
    let said = c.slot_out.ensures in
    let told = c.notes_out-out.ensures in
    let room = (room-is k c.entries-made.result c.notes_out-out.result c.entries-made.ensures.entries
    (told.away c.self.invariant.mode) told.many (sym c.is_full.ensures ∙ c.if-is_full.false)).1 in
    record {
      base = said.base ∙ ap base_of c.self.view_is;
      grown = rw (← c.self.view_is) (acts-grown (base_of k) k.history l.history (slot_after k.script k.history c.args.slot) c.slot_out.result said.acts);
      does =
          rw (c.did.ensures, ← c.self.view_is) (does-slot (base_of k) k.history l.history c.args.slot c.slot_out.result
          (record { declared = rw c.self.view_is c.requires; room = room }) said.acts);
      legal = said.legal;
      safe = said.safe;
    }
