use Rattle.std.proofs.Common.{ℕ, ◌∙◌, Bool, ap}
use Rattle.sym_base.specs.declared.number.ObjNo.{ObjNo}
use Rattle.state_rows.specs.ObjectRows.{next_number}
use Rattle.kernel_tables.proofs.reading.TablesReads.next_object.Goals as goal

pub returns : goal.returns
returns g c =
    let named : ℕ → ObjNo = λ n. record { 0 = n } in
    ap named (c.next.ensures.number ∙ ap (λ (b : Bool). next_number b c.args.self.now.objects.rows) c.requires.reuses)
