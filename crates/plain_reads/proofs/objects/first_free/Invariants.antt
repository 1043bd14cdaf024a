use Rattle.std.proofs.Common.{◌≡◌, ◌+◌, drop}
use Rattle.state_rows.specs.ObjectRows.{first_free}
use Rattle.plain_reads.proofs.objects.first_free.Given as goal

-- all numbers so far have an object
abbrev pub invariant-loop-number : goal.invariant-loop-number
invariant-loop-number l = l.number + first_free (drop l.number l.rows) ≡ first_free l.rows
