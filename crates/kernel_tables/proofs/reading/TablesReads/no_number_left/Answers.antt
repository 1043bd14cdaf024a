use Rattle.std.proofs.Common.{ℕ, ◌∙◌, Bool, ap}
use Rattle.std.specs.Prelude.{◌==◌}
use Rattle.sym_base.specs.declared.limits.TheConstants.Limits.{OBJECTS}
use Rattle.state_rows.specs.ObjectRows.{next_number}
use Rattle.kernel_tables.proofs.reading.TablesReads.no_number_left.Goals as goal

pub returns : goal.returns
returns g c =
    ap (λ (n : ℕ). n == OBJECTS) (c.next.ensures.number ∙ ap (λ (b : Bool). next_number b c.args.self.now.objects.rows) c.requires.reuses)
