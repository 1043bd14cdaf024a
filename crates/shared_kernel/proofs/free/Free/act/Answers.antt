use Rattle.std.proofs.Common.{◌∙◌, ◌≤◌, ◌+◌, ap, refl, sym, length, arith, true}
use Rattle.entry_log.specs.declared.entry.Actor.TheVariants.{Thread}
use Rattle.turn_lock.proofs.Logs.{begins_itself}
use Rattle.shared_kernel.specs.Values.{base_of}
use Rattle.shared_kernel.proofs.Doing.{acts-grown, does-act}
use Rattle.shared_kernel.proofs.Room.{full-is, room-is}
use Rattle.shared_kernel.proofs.free.Free.act.Goals as goal

pub entries-made-requires : goal.entries-made-requires
entries-made-requires c = let back = c.self.invariant.back in record { mode = c.self.invariant.mode; few = omega arith }

pub is_full-requires : goal.is_full-requires
is_full-requires c =
    let back = c.self.invariant.back in
    let many = c.notes_out-out.ensures.many in
    let made = c.entries-made.ensures.entries in
    record { few = omega arith; few_out = omega arith }

pub act_out-requires : goal.act_out-requires
act_out-requires c =
    let k = c.self.inside.kernel in
    let said = c.notes_out-out.ensures in
    record {
      shareable = c.self.invariant;
      able = sym (c.able.ensures true c.self.invariant.mode) ∙ c.if-not-able.false;
      room =
          (room-is k c.entries-made.result c.notes_out-out.result c.entries-made.ensures.entries
          (said.away c.self.invariant.mode) said.many (sym c.is_full.ensures ∙ c.if-is_full.false)).0;
    }

pub returns-then-is_full : goal.returns-then-is_full
returns-then-is_full c =
    let k = c.self.inside.kernel in
    let said = c.notes_out-out.ensures in
    record {
      base = refl;
      grown = begins_itself c.args.self.now.history;
      does =
          rw (← c.self.view_is) (full-is k c.entries-made.result c.notes_out-out.result c.entries-made.ensures.entries
          (said.away c.self.invariant.mode) said.many (sym c.is_full.ensures ∙ c.if-is_full.true));
      legal = rw (← c.self.view_is) c.entries-made.ensures.legal;
      safe = rw (← c.self.view_is) c.entries-made.ensures.safe;
    }

pub returns-then-not-able : goal.returns-then-not-able
returns-then-not-able c =
    let k = c.self.inside.kernel in
    let told = c.notes_out-out.ensures in
    let room = (room-is k c.entries-made.result c.notes_out-out.result c.entries-made.ensures.entries
    (told.away c.self.invariant.mode) told.many (sym c.is_full.ensures ∙ c.if-is_full.false)).1 in
    record {
      base = refl;
      grown = begins_itself c.args.self.now.history;
      does =
          rw (← c.self.view_is) (record {
            refuses = record { same = refl; at = c.entries-made.ensures.entries };
            room = room;
            unable = sym (c.able.ensures true c.self.invariant.mode) ∙ c.if-not-able.true;
          });
      legal = rw (← c.self.view_is) c.entries-made.ensures.legal;
      safe = rw (← c.self.view_is) c.entries-made.ensures.safe;
    }

pub returns : goal.returns
returns c =
    let k = c.self.inside.kernel in
    let l = c.act_out.new.kernel in
    let said = c.act_out.ensures in
    let told = c.notes_out-out.ensures in
    let room = (room-is k c.entries-made.result c.notes_out-out.result c.entries-made.ensures.entries
    (told.away c.self.invariant.mode) told.many (sym c.is_full.ensures ∙ c.if-is_full.false)).1 in
    record {
      base = said.base ∙ ap base_of c.self.view_is;
      grown = rw (← c.self.view_is) (acts-grown (base_of k) k.history l.history (Thread c.args.thread) c.act_out.result said.acts);
      does =
          rw (c.did.ensures, ← c.self.view_is) (does-act (base_of k) k.history l.history c.args.thread c.act_out.result
          (record { room = room; able = sym (c.able.ensures true c.self.invariant.mode) ∙ c.if-not-able.false }) said.acts);
      legal = said.legal;
      safe = said.safe;
    }
