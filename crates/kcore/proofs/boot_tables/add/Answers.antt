use Rattle.std.proofs.Common.{◌∙◌, ℕ, List, get_or, set, sym, ap, Option, Some, None}
use Rattle.std.proofs.lemmas.List.{set-get_or}
use Rattle.state_rows.specs.declared.thread.ThreadRow.{ThreadRow}
use Rattle.procs.specs.ProcsRows.{ProcsRows}
use Rattle.procs.specs.Rows.{no_bytes}
use Rattle.kcore.proofs.BootProcs.{none_of}
use Rattle.kcore.proofs.boot_tables.add.Goals as goal

pub returns-in-Some : goal.returns-in-Some
returns-in-Some c =
    let old = c.args.procs.now in
    let n = c.args.number.0 in
    let none = none_of (get_or old.processes n None) c.requires.no_process in
    rw c.in-Some.is (c.add_row.ensures ∙ ap
    (λ (l : List (Option (List ℕ))). let rows : ProcsRows = record
    { threads = set old.threads n (Some c.in-Some.row); processes = l } in rows)
    (sym (ap (set old.processes n) (sym none) ∙ set-get_or old.processes n None)))

pub returns-in-None : goal.returns-in-None
returns-in-None c =
    let old = c.args.procs.now in
    let n = c.args.number.0 in
    let none = none_of (get_or old.threads n None) c.requires.no_thread in
    rw c.in-None.is (c.add_process.ensures ∙ ap
    (λ (l : List (Option ThreadRow)). let rows : ProcsRows = record
    { threads = l; processes = set old.processes n (Some no_bytes) } in rows)
    (sym (ap (set old.threads n) (sym none) ∙ set-get_or old.threads n None)))
