use Rattle.std.proofs.Common.{◌∙◌, ap, refl, length, arith}
use Rattle.entry_log.specs.declared.entry.Actor.TheVariants.{Thread}
use Rattle.shared_kernel.specs.Told.{slip_of}
use Rattle.shared_kernel.specs.Values.{base_of}
use Rattle.shared_kernel.proofs.Sent.{unopened}
use Rattle.shared_kernel.proofs.Shareable.{acted-base, acted-longer, acted-out, acted-shareable, acted-told}
use Rattle.shared_kernel.proofs.acting.act_out.Goals as goal

pub act_out-sent-requires-clause-mode : goal.act_out-sent-requires-clause-mode
act_out-sent-requires-clause-mode c = c.requires.shareable.mode

pub act_out-sent-requires-clause-room : goal.act_out-sent-requires-clause-room
act_out-sent-requires-clause-room c =
    let away = c.notes_out.ensures.away c.requires.shareable.mode in
    let many = c.notes_out.ensures.many in
    let room = c.requires.shareable.room in
    let space = c.requires.room in omega arith

pub told-requires-clause-few : goal.told-requires-clause-few
told-requires-clause-few c =
    let said = c.act_out-sent.ensures in
    let longer = acted-longer c.args.kernel.now c.act_out-sent.new.self (Thread c.args.thread) (slip_of c.act_out-sent.result) said.entry said.notes in
    let space = c.requires.room in omega arith

pub told-requires-clause-some : goal.told-requires-clause-some
told-requires-clause-some c = λ none.
    let said = c.act_out-sent.ensures in
    let longer = acted-longer c.args.kernel.now c.act_out-sent.new.self (Thread c.args.thread) (slip_of c.act_out-sent.result) said.entry said.notes in
    omega arith

pub told-requires-clause-unopened : goal.told-requires-clause-unopened
told-requires-clause-unopened c =
    unopened (base_of c.act_out-sent.new.self) c.act_out-sent.new.self.notes.identity _ c.act_out-sent.result refl
    c.act_out-sent.ensures.note

pub returns-clause-base : goal.returns-clause-base
returns-clause-base c =
    let said = c.act_out-sent.ensures in
    acted-base c.args.kernel.now c.act_out-sent.new.self (Thread c.args.thread) (slip_of c.act_out-sent.result) said.entry said.notes said.script

pub returns-clause-acts : goal.returns-clause-acts
returns-clause-acts c =
    let said = c.act_out-sent.ensures in
    acted-told c.args.kernel.now c.act_out-sent.new.self (Thread c.args.thread)
    (slip_of c.act_out-sent.result) said.entry said.notes c.told.result said.script c.told.ensures

pub returns-clause-out : goal.returns-clause-out
returns-clause-out c =
    let said = c.act_out-sent.ensures in
    acted-out c.args.kernel.now c.act_out-sent.new.self (Thread c.args.thread) (slip_of c.act_out-sent.result) said.entry said.notes

pub returns-clause-shareable : goal.returns-clause-shareable
returns-clause-shareable c =
    let said = c.act_out-sent.ensures in
    acted-shareable c.args.kernel.now c.act_out-sent.new.self (Thread c.args.thread)
    (slip_of c.act_out-sent.result) said.entry said.notes c.requires.shareable said.script said.room said.mode
    c.requires.room
