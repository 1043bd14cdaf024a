use Rattle.std.proofs.Common.{rules, ◌∷◌, ◌+◌, drop, ap, sym, ◌∙◌}
use Rattle.std.proofs.lemmas.List.{drop_more}
use Rattle.std.proofs.lemmas.Result.{err_from_is_err_and}
use Rattle.std.specs.List.{flat_map}
use Rattle.edge_io.proofs.Writing.{all_but_next, all_but_prefix}
use Rattle.entry_log.specs.EntryLine.{entry_line}
use Rattle.entry_log.specs.declared.entry.Entry.{Entry}
use Rattle.runner.proofs.Shown.{next_shown}
use Rattle.runner.specs.RunText.{shown}
use Rattle.runner.proofs.output.write_entries.Goals as goal

pub returns-in_err-write_entry-clause-front : goal.returns-in_err-write_entry-clause-front
returns-in_err-write_entry-clause-front g c =
    let p = err_from_is_err_and c.from_residual.result c.from_residual.ensures.1 in
    let i = c.loop-entry.entry-index in
    let all = c.args.entries.now in
    let detail = c.args.detail in
    let left = drop_more all i c.entry-item.result c.loop-entry-test.true ∙ ap (λ (e : Entry). e ∷ drop (i + 1) all) (sym c.entry-item.is) in
    rw p.1 (all_but_prefix _ _ _ _ _ (flat_map entry_line (shown detail (drop (i + 1) all))) _
    c.loop-entry.invariant.all (next_shown detail (drop i all) (drop (i + 1) all) c.entry-item.result left)
    c.in_err-write_entry.ensures.front)

pub loop-entry-preserved : goal.loop-entry-preserved
loop-entry-preserved g c =
    let i = c.loop-entry.entry-index in
    let all = c.args.entries.now in
    let left = drop_more all i c.entry-item.result c.loop-entry-test.true ∙ ap (λ (e : Entry). e ∷ drop (i + 1) all) (sym c.entry-item.is) in
    record {
      all =
          all_but_next _ _ _ _ _ _ _ c.loop-entry.invariant.all
          (next_shown c.args.detail (drop i all) (drop (i + 1) all) c.entry-item.result left)
          c.in_ok-write_entry.ensures.whole;
      tells = search rules;
      never_falls = search rules;
    }
