use Rattle.std.proofs.Common.{◌≡◌, ◌∙◌, true, false}
use Rattle.workers.proofs.Worked.{found-drawn, rested-back, rested-entry, rested-find, through-none}
use Rattle.workers.proofs.work.take_slot.Goals as goal

pub draw-requires : goal.draw-requires
draw-requires g c = c.requires.free

pub open-requires : goal.open-requires
open-requires g c =
    let said = c.in-Seek.ensures in
    record {
      free = said.free;
      found =
          found-drawn c.args.kernel.now c.args.pass.now c.draw.new.pass c.in-Seek.place c.in-Seek.thread c.in-Seek.ticket
          said.drew;
    }

pub returns-in-Entry : goal.returns-in-Entry
returns-in-Entry g c =
    let said = c.in-Entry.ensures in
    record {
      rested =
          rested-entry c.args.kernel.now c.args.pass.now c.draw.new.pass _ c.requires said.free said.caller said.drew;
      caller = said.caller;
      through = λ (no : true ≡ false). absurd (cc);
    }

pub returns-in-Seek : goal.returns-in-Seek
returns-in-Seek g c =
    let said = c.in-Seek.ensures in
    let back = c.open.ensures in
    let owed = rested-find c.args.kernel.now c.args.pass.now c.draw.new.pass c.in-Seek.place c.in-Seek.thread
    c.in-Seek.ticket c.requires said.caller said.part.shared said.drew in
    record {
      rested =
          rested-back c.args.kernel.now c.draw.new.pass c.open.new.pass c.in-Seek.thread c.open.result c.requires.valid owed
          back.free back.caller back.part.shared back.back;
      caller = back.caller ∙ said.caller;
      through = λ (no : true ≡ false). absurd (cc);
    }

pub returns-in-NoSlot : goal.returns-in-NoSlot
returns-in-NoSlot g c =
    let said = c.in-NoSlot.ensures in
    let through = through-none c.args.kernel.now c.args.pass.now c.draw.new.pass _ c.requires said.free said.caller said.drew in
    record { rested = through.rested; caller = said.caller; through = λ no. through }
