use Rattle.std.proofs.Common.{◌≡◌, ℕ, List, Option, true, unwrap_or, get_or, ap, sym, subst, ◌∙◌}
use Rattle.std.proofs.lemmas.Option.{get_or_from_slice_get}
use Rattle.procs.specs.ProcsRows.{ProcsRows}
use Rattle.procs.specs.Rows.{is_process, bytes_of, no_bytes}
use Rattle.procs.proofs.Keeping.{read_some}
use Rattle.procs.proofs.procs.Procs.byte.Goals as goal

pub returns : goal.returns
returns c =
    let processes = c.self.inside.processes.items in
    let P : ProcsRows → Type 0 = λ rows. is_process rows c.args.p ≡ true in
    let found = sym c.in-Some.is ∙ read_some processes c.args.p.0 c.index.result.now c.index.ensures (subst P (sym c.self.view_is) c.requires.process) in
    let byte : Option (List ℕ) → ℕ = λ row. get_or (unwrap_or row no_bytes) c.args.at 0 in
    sym (get_or_from_slice_get c.in-Some.bytes c.args.at c.get.result 0 c.get.ensures)
    ∙ ap byte found
    ∙ ap (λ (rows : ProcsRows). get_or (bytes_of rows c.args.p) c.args.at 0) c.self.view_is
