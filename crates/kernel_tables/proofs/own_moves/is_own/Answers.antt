use Rattle.std.proofs.lemmas.Bool.{leb-true}
use Rattle.sym_base.specs.declared.limits.TheConstants.Limits.{BOOT_OBJECTS}
use Rattle.kernel_tables.proofs.OwnMoves.{past_unlisted, sweep_owns}
use Rattle.kernel_tables.proofs.own_moves.is_own.Goals as goal

pub returns-in-Pay-Sweep : goal.returns-in-Pay-Sweep
returns-in-Pay-Sweep c =
    let object = c.in-Pay-Sweep.object in
    let what = rw c.in-Pay-Sweep.is at c.in-Pay-Sweep.field-0-is in
    λ past. rw (c.in-Pay-Sweep.is, what) (
      sweep_owns c.args.thread object past,
      λ qs threads. past_unlisted object qs (leb-true BOOT_OBJECTS object.0 past) threads,
    )
