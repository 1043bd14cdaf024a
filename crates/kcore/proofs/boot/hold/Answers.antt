use Rattle.std.proofs.Common.{ℕ, List, ap, sym, ◌∙◌, set}
use Rattle.std.proofs.lemmas.List.{set-get_or}
use Rattle.state_rows.specs.declared.nano.NanoRows.{NanoRows}
use Rattle.kcore.proofs.boot.hold.Goals as goal

pub returns-else-held : goal.returns-else-held
returns-else-held c =
    let r = c.args.nano.now in
    let with : List ℕ → NanoRows = λ l. record r { suspensions = l } in
    rw c.if-held.false (ap with (sym (ap (set r.suspensions c.args.thread.0) (sym c.requires.none) ∙ set-get_or r.suspensions c.args.thread.0 0)))
