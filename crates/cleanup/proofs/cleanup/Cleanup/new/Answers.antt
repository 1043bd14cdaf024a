use Rattle.std.proofs.Common.{◌≡◌, ap, refl, replicate, rules}
use Rattle.std.specs.Prelude.{Option, None}
use Rattle.std.proofs.lemmas.List.{length-replicate}
use Rattle.sym_base.specs.declared.number.ObjNo.{ObjNo}
use Rattle.cleanup.specs.Nodes.{object, logon}
use Rattle.links.specs.Linked.{Linked}
use Rattle.links.proofs.Seen.{seen_fresh}
use Rattle.cleanup.proofs.cleanup.Cleanup.new.Goals as goal

pub returns : goal.returns
returns c =
    let temporary : c.in_ok-temporary.temporary.items ≡ replicate {A = Option ObjNo} c.args.threads None = search rules in
    rw (
      c.in_ok-duties.ensures,
      ap (λ (x : Linked × Linked × Linked). x.0) c.in_ok-mutexes.ensures,
      ap (λ (x : Linked × Linked × Linked). x.1) c.in_ok-mutexes.ensures,
      ap (λ (x : Linked × Linked × Linked). x.2) c.in_ok-mutexes.ensures,
      temporary,
      length-replicate {A = Option ObjNo} c.args.threads None,
      seen_fresh object c.args.threads,
      seen_fresh logon c.args.threads,
    ) refl
