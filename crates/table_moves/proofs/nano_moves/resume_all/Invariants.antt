use Rattle.std.proofs.Common.{◌≡◌, ◌-◌}
use Rattle.std.specs.Prelude.{slice_set}
use Rattle.state_rows.specs.Nano.{suspend_count}
use Rattle.table_moves.proofs.nano_moves.resume_all.Given as goal

abbrev pub invariant-loop-left : goal.invariant-loop-left
invariant-loop-left l =
    l.nano ≡ record l.initial.nano {
      suspensions = slice_set l.initial.nano.suspensions l.thread.0
          (suspend_count l.initial.nano l.thread - l._left);
    }
