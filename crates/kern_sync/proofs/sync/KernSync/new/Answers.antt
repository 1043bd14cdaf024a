use Rattle.std.proofs.Common.{◌≡◌, ℕ, replicate, refl, rules}
use Rattle.std.specs.Prelude.{Option, None}
use Rattle.state_rows.specs.declared.locks.Owner.{Owner}
use Rattle.kern_sync.proofs.Threads.{none_waiting}
use Rattle.kern_sync.proofs.sync.KernSync.new.Goals as goal

pub returns : goal.returns
returns c =
    let owners : c.in_ok-owners.owners.items ≡ replicate {A = Option Owner} c.args.objects None = search rules in
    let counts : c.in_ok-counts.counts.items ≡ replicate {A = ℕ} c.args.objects 0 = search rules in
    let priorities : c.in_ok-priorities.priorities.items ≡ replicate {A = ℕ} c.args.threads 0 = search rules in
    rw (c.in_ok-links.ensures, owners, counts, priorities, none_waiting c.args.objects) refl
