use Rattle.std.proofs.Common.{◌∙◌, refl, subst, sym}
use Rattle.machine.specs.declared.state.State.{State}
use Rattle.table_moves.specs.Notes.{Notes, notes_back}
use Rattle.kernel_tables.specs.Choosing.{MayChoose}
use Rattle.kernel_tables.specs.Performed.{ActionGoes}
use Rattle.kcore.proofs.ActionsDone.{was-made}
use Rattle.kcore.proofs.Backs.{made-like, miss-goes, none_held, stands-at}
use Rattle.kcore.proofs.back.miss_back.Goals as goal

pub drop_note-requires-clause-over : goal.drop_note-requires-clause-over
drop_note-requires-clause-over g c = λ noted.
    let S = c.args.core.now.state in
    let p = (g.W.RefWords.slip c.args.note).place in
    let h = c.requires.may.out noted in
    let object = h.back.row.sought in
    none_held S.references.objects p object (stands-at c.args.script.now S c.args.thread p object c.requires.runs.rows h refl)
    (c.requires.shut h.back.row h.back.is)

pub make-requires-clause-goes : goal.make-requires-clause-goes
make-requires-clause-goes g c =
    let script = c.args.script.now in
    let old = c.args.core.now in
    let mid = c.drop_note.new.self in
    let t = c.args.thread in
    let p = (g.W.RefWords.slip c.args.note).place in
    let noted = c.drop_note.ensures.was_out in
    let h = c.requires.may.out noted in
    let goes = miss-goes script old.state t p h.back.row.sought mid.decision c.requires.runs.shaped c.requires.runs.rows
    h refl (c.requires.shut h.back.row h.back.is) (c.drop_note.ensures.decision ∙ c.requires.decided noted) in
    subst (λ (S : State). ActionGoes script t mid.decision.moves S) (sym c.drop_note.ensures.state) goes

pub make-requires-clause-may : goal.make-requires-clause-may
make-requires-clause-may g c =
    let t = c.args.thread in
    let mid = c.drop_note.new.self in
    let left = notes_back (g.W.RefWords.slip c.args.note) c.args.core.now.notes in
    let may = c.requires.may.rest c.drop_note.ensures.was_out in
    subst (λ (n : Notes). MayChoose t n mid.state) (sym c.drop_note.ensures.notes)
    (subst (λ (S : State). MayChoose t left S) (sym c.drop_note.ensures.state) may)

pub returns-clause-made : goal.returns-clause-made
returns-clause-made g c =
    let mid = c.drop_note.new.self in
    let new = c.make.new.self in
    made-like c.args.script.now c.args.thread mid.decision c.args.core.now.decision mid c.args.core.now new
    c.make.new.effects c.drop_note.ensures.state c.drop_note.ensures.ready c.drop_note.ensures.decision
    (was-made c.args.script.now c.args.thread mid.decision mid new c.make.new.effects c.make.ensures.made)

pub returns-clause-notes : goal.returns-clause-notes
returns-clause-notes g c = c.make.ensures.made.notes ∙ c.drop_note.ensures.notes

pub returns-clause-fewer : goal.returns-clause-fewer
returns-clause-fewer g c = rw c.make.ensures.made.notes c.drop_note.ensures.fewer
