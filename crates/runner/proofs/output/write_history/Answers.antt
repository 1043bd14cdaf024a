use Rattle.std.proofs.Common.{List, subst, codes}
use Rattle.std.proofs.lemmas.Result.{err_from_is_err_and, on_ok_weaker}
use Rattle.std.specs.List.{flat_map}
use Rattle.edge_io.specs.Written.{Wrote, WrotePrefix}
use Rattle.entry_log.specs.EntryLine.{entry_line}
use Rattle.entry_log.specs.FinalLine.{final_line}
use Rattle.entry_log.specs.declared.entry.Entry.{Entry}
use Rattle.entry_log.specs.HistoryText.{history_text}
use Rattle.machine.specs.FinalRows.{final_rows}
use Rattle.runner.proofs.Alone.{suits-split}
use Rattle.runner.specs.RunText.{is_split, shown, state_after}
use Rattle.runner.proofs.Texts.{front_1, front_2, front_3, front_4, whole_4, on_err_weaker}
use Rattle.runner.proofs.output.write_history.Goals as goal

pub returns-in_err-write_entries-clause-front : goal.returns-in_err-write_entries-clause-front
unfolding history_text
returns-in_err-write_entries-clause-front g c =
    let p = err_from_is_err_and c.from_residual.result c.from_residual.ensures.1 in
    let history = c.args.kernel.now.history in
    let entries = shown c.args.detail history in
    let rows = final_rows (state_after c.args.kernel.now) in
    rw p.1 (front_1 _ _ (flat_map entry_line entries) (codes "objects\n") (flat_map final_line rows) (codes "end\n")
    (subst (λ (es : List Entry). WrotePrefix (g.K.Sink.written c.args.sink.now)
    (g.K.Sink.written c.write_entries.new.sink) (flat_map entry_line (shown c.args.detail es)))
    c.history.ensures.entries c.in_err-write_entries.ensures.front))

pub returns-in_err-write_whole-clause-front : goal.returns-in_err-write_whole-clause-front
unfolding history_text
returns-in_err-write_whole-clause-front g c =
    let p = err_from_is_err_and c.from_residual-in_err-write_whole.result c.from_residual-in_err-write_whole.ensures.1 in
    let history = c.args.kernel.now.history in
    let entries = shown c.args.detail history in
    let rows = final_rows (state_after c.args.kernel.now) in
    rw p.1 (front_2 _ _ _ (flat_map entry_line entries) (codes "objects\n") (flat_map final_line rows) (codes "end\n")
    (subst (λ (es : List Entry). Wrote (g.K.Sink.written c.args.sink.now) (g.K.Sink.written c.write_entries.new.sink)
    (flat_map entry_line (shown c.args.detail es))) c.history.ensures.entries c.in_ok-write_entries.ensures.whole)
    c.in_err-write_whole.ensures.front)

pub returns-in_err-write_rows-clause-front : goal.returns-in_err-write_rows-clause-front
unfolding history_text
returns-in_err-write_rows-clause-front g c =
    let p = err_from_is_err_and c.from_residual-in_err-write_rows.result c.from_residual-in_err-write_rows.ensures.1 in
    let history = c.args.kernel.now.history in
    let entries = shown c.args.detail history in
    let rows = final_rows (state_after c.args.kernel.now) in
    rw p.1 (front_3 _ _ _ _ (flat_map entry_line entries) (codes "objects\n") (flat_map final_line rows) (codes "end\n")
    (subst (λ (es : List Entry). Wrote (g.K.Sink.written c.args.sink.now) (g.K.Sink.written c.write_entries.new.sink)
    (flat_map entry_line (shown c.args.detail es))) c.history.ensures.entries c.in_ok-write_entries.ensures.whole)
    c.in_ok-write_whole.ensures.whole c.in_err-write_rows.ensures.front)

pub returns-clause-whole : goal.returns-clause-whole
unfolding history_text
returns-clause-whole g c =
    let history = c.args.kernel.now.history in
    let entries = shown c.args.detail history in
    let rows = final_rows (state_after c.args.kernel.now) in
    on_ok_weaker _ (λ (last : Wrote (g.K.Sink.written c.write_rows.new.sink) (g.K.Sink.written c.write_whole-2.new.sink)
    (codes "end\n")). whole_4 _ _ _ _ _ (flat_map entry_line entries) (codes "objects\n") (flat_map final_line rows)
    (codes "end\n") (subst (λ (es : List Entry). Wrote (g.K.Sink.written c.args.sink.now)
    (g.K.Sink.written c.write_entries.new.sink) (flat_map entry_line (shown c.args.detail es)))
    c.history.ensures.entries c.in_ok-write_entries.ensures.whole) c.in_ok-write_whole.ensures.whole
    c.in_ok-write_rows.ensures.whole last) c.write_whole-2.ensures.whole

pub returns-clause-front : goal.returns-clause-front
unfolding history_text
returns-clause-front g c =
    let history = c.args.kernel.now.history in
    let entries = shown c.args.detail history in
    let rows = final_rows (state_after c.args.kernel.now) in
    on_err_weaker _ (λ (last : WrotePrefix (g.K.Sink.written c.write_rows.new.sink)
    (g.K.Sink.written c.write_whole-2.new.sink) (codes "end\n")). front_4 _ _ _ _ _ (flat_map entry_line entries)
    (codes "objects\n") (flat_map final_line rows) (codes "end\n")
    (subst (λ (es : List Entry). Wrote (g.K.Sink.written c.args.sink.now) (g.K.Sink.written c.write_entries.new.sink)
    (flat_map entry_line (shown c.args.detail es))) c.history.ensures.entries c.in_ok-write_entries.ensures.whole)
    c.in_ok-write_whole.ensures.whole c.in_ok-write_rows.ensures.whole last) c.write_whole-2.ensures.front

pub returns-clause-legal : goal.returns-clause-legal
returns-clause-legal g c = c.history.ensures.legal (is_split c.args.kernel.now.mode) (suits-split c.args.kernel.now.mode)

pub returns-clause-safe : goal.returns-clause-safe
returns-clause-safe g c = c.history.ensures.safe (is_split c.args.kernel.now.mode) (suits-split c.args.kernel.now.mode)

pub returns-in_err-write_entries-clause-legal : goal.returns-in_err-write_entries-clause-legal
returns-in_err-write_entries-clause-legal g c = c.history.ensures.legal (is_split c.args.kernel.now.mode) (suits-split c.args.kernel.now.mode)

pub returns-in_err-write_entries-clause-safe : goal.returns-in_err-write_entries-clause-safe
returns-in_err-write_entries-clause-safe g c = c.history.ensures.safe (is_split c.args.kernel.now.mode) (suits-split c.args.kernel.now.mode)

pub returns-in_err-write_whole-clause-legal : goal.returns-in_err-write_whole-clause-legal
returns-in_err-write_whole-clause-legal g c = c.history.ensures.legal (is_split c.args.kernel.now.mode) (suits-split c.args.kernel.now.mode)

pub returns-in_err-write_whole-clause-safe : goal.returns-in_err-write_whole-clause-safe
returns-in_err-write_whole-clause-safe g c = c.history.ensures.safe (is_split c.args.kernel.now.mode) (suits-split c.args.kernel.now.mode)

pub returns-in_err-write_rows-clause-legal : goal.returns-in_err-write_rows-clause-legal
returns-in_err-write_rows-clause-legal g c = c.history.ensures.legal (is_split c.args.kernel.now.mode) (suits-split c.args.kernel.now.mode)

pub returns-in_err-write_rows-clause-safe : goal.returns-in_err-write_rows-clause-safe
returns-in_err-write_rows-clause-safe g c = c.history.ensures.safe (is_split c.args.kernel.now.mode) (suits-split c.args.kernel.now.mode)
