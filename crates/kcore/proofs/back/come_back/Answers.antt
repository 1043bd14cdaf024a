use Rattle.std.proofs.Common.{◌∙◌, ap, subst, sym}
use Rattle.machine.specs.declared.state.State.{State}
use Rattle.machine.specs.Steps.{decision_of}
use Rattle.machine.specs.WellFormed.{AreRows}
use Rattle.table_moves.specs.Notes.{IsNoteOut, Notes, notes_back}
use Rattle.kcore.specs.Sending.{MayComeBack}
use Rattle.kcore.proofs.Backs.{made-like}
use Rattle.kcore.proofs.back.come_back.Goals as goal

pub make_back-requires-clause-runs : goal.make_back-requires-clause-runs
make_back-requires-clause-runs g c = record {
  shaped = c.requires.runs.shaped;
  rows = subst (AreRows c.args.script.now) (sym c.decide_back.ensures.state) c.requires.runs.rows;
}

pub make_back-requires-clause-may : goal.make_back-requires-clause-may
make_back-requires-clause-may g c =
    let mid = c.decide_back.new.core in
    let s = g.W.RefWords.slip c.args.note in
    subst (λ (n : Notes). MayComeBack c.args.script.now s c.args.thread n mid.state) (sym c.decide_back.ensures.notes)
    (subst (λ (S : State). MayComeBack c.args.script.now s c.args.thread c.args.core.now.notes S)
    (sym c.decide_back.ensures.state) c.requires.may)

pub make_back-requires-clause-decided : goal.make_back-requires-clause-decided
make_back-requires-clause-decided g c = λ noted.
    let r = c.requires.may.out (subst (λ (n : Notes). IsNoteOut n (g.W.RefWords.slip c.args.note)) c.decide_back.ensures.notes noted) in
    c.decide_back.ensures.decision r.back.row r.word r.part r.decides
    ∙ ap (λ (S : State). decision_of c.args.script.now S c.args.thread) (sym c.decide_back.ensures.state)

pub returns-clause-does : goal.returns-clause-does
returns-clause-does g c =
    let script = c.args.script.now in
    let t = c.args.thread in
    let old = c.args.core.now in
    let mid = c.decide_back.new.core in
    let d = decision_of script old.state t in
    let r = c.requires.may.out (subst (λ (n : Notes). IsNoteOut n (g.W.RefWords.slip c.args.note)) c.decide_back.ensures.notes c.make_back.ensures.was_out) in
    c.finish.ensures.does d old (made-like script t mid.decision d mid old c.make_back.new.core c.make_back.new.effects
    c.decide_back.ensures.state c.decide_back.ensures.ready
    (c.decide_back.ensures.decision r.back.row r.word r.part r.decides) c.make_back.ensures.made)

pub returns-clause-notes : goal.returns-clause-notes
returns-clause-notes g c = c.finish.ensures.notes ∙ c.make_back.ensures.notes ∙ ap (notes_back (g.W.RefWords.slip c.args.note)) c.decide_back.ensures.notes
