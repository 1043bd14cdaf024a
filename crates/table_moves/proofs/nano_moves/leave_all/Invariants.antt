use Rattle.std.proofs.Common.{◌≡◌, ◌-◌}
use Rattle.std.specs.Prelude.{slice_set}
use Rattle.state_rows.specs.Nano.{critical_count}
use Rattle.table_moves.proofs.nano_moves.leave_all.Given as goal

abbrev pub invariant-loop-left : goal.invariant-loop-left
invariant-loop-left l =
    l.nano ≡ record l.initial.nano {
      sections = slice_set l.initial.nano.sections l.thread.0
          (critical_count l.initial.nano l.thread - l._left);
    }
