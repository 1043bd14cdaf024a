use Rattle.std.proofs.Common.{◌∙◌, [], List, ap, subst, sym}
use Rattle.machine.specs.declared.decision.Decision.{Decision}
use Rattle.machine.specs.declared.moves.Move.{Move}
use Rattle.machine.specs.History.{keeping}
use Rattle.machine.specs.Rows.{object_of}
use Rattle.kernel_tables.specs.Moved.{MovesRun}
use Rattle.kernel_tables.specs.Performed.{IsPerformed}
use Rattle.kernel_tables.proofs.GoingMoves.{back_unused}
use Rattle.kcore.specs.Sending.{part_in}
use Rattle.kcore.proofs.ActionsDone.{same-moves}
use Rattle.kcore.proofs.Backs.{open-moves, open-runs, open_alive, runs_keeping, stands-at}
use Rattle.kcore.proofs.back.open_back.Goals as goal

pub open_back-requires-clause-sought : goal.open_back-requires-clause-sought
open_back-requires-clause-sought g c = λ noted.
    let h = c.requires.may.out noted in
    stands-at c.args.script.now c.args.core.now.state c.args.thread (g.W.RefWords.slip c.args.note).place c.args.object
    c.requires.runs.rows h (c.requires.object h.back.row h.back.is)

pub open_back-requires-clause-place : goal.open_back-requires-clause-place
open_back-requires-clause-place g c =
    λ noted. sym (open_alive (g.W.RefWords.slip c.args.note).place (object_of c.args.core.now.state c.args.object) c.requires.opened).1

pub open_back-requires-clause-alive : goal.open_back-requires-clause-alive
open_back-requires-clause-alive g c =
    (open_alive (g.W.RefWords.slip c.args.note).place (object_of c.args.core.now.state c.args.object) c.requires.opened).0

pub open_back-requires-clause-unused : goal.open_back-requires-clause-unused
open_back-requires-clause-unused g c = λ noted.
    let h = c.requires.may.out noted in
    back_unused c.args.script.now c.args.core.now.state c.args.thread h.found c.requires.runs.rows h.back

pub open_back-requires-clause-runs : goal.open_back-requires-clause-runs
open_back-requires-clause-runs g c = λ noted.
    let script = c.args.script.now in
    let old = c.args.core.now in
    let t = c.args.thread in
    let parts = c.part_back-part.ensures ∙ ap part_in (same-moves _ _ c.core.view_is) in
    let is = c.requires.decided noted in
    let h = c.requires.may.out noted in
    let moves = open-moves script old.state t
    (g.W.RefWords.slip c.args.note).place c.args.object c.part_back-part.result old.decision
    h (c.requires.object h.back.row h.back.is) c.requires.opened is parts in
    open-runs script old.state t c.args.object c.part_back-part.result old.decision c.requires.runs.shaped c.requires.runs.rows is moves

pub returns-clause-made : goal.returns-clause-made
returns-clause-made g c =
    let script = c.args.script.now in
    let old = c.args.core.now in
    let new = c.open_back.new.self in
    let t = c.args.thread in
    let noted = c.open_back.ensures.was_out in
    let parts = c.part_back-part.ensures ∙ ap part_in (same-moves _ _ c.core.view_is) in
    let is = c.requires.decided noted in
    let h = c.requires.may.out noted in
    let moves = open-moves script old.state t
    (g.W.RefWords.slip c.args.note).place c.args.object c.part_back-part.result old.decision
    h (c.requires.object h.back.row h.back.is) c.requires.opened is parts in
    record {
      decided = c.open_back.ensures.decision;
      runs =
          subst (λ (d : Decision). MovesRun script t d.moves (keeping new.state.mode.keep old.state)) (sym is)
          (runs_keeping script old.state t new.state.mode.keep c.requires.runs.shaped c.requires.runs.rows);
      performed =
          subst (λ (ms : List Move). IsPerformed script t ms old.state new.state old.ready new.ready []
          c.open_back.new.effects) (sym moves) c.open_back.ensures.performed;
    }
