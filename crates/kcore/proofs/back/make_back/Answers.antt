use Rattle.std.proofs.Common.{◌≡◌, ◌∙◌, ℕ, false, subst, sym}
use Rattle.sym_base.specs.declared.number.ObjNo.{ObjNo}
use Rattle.machine.specs.Find.{is_open}
use Rattle.machine.specs.Rows.{object_of}
use Rattle.kcore.proofs.back.make_back.Goals as goal

pub miss_back-requires-clause-shut : goal.miss_back-requires-clause-shut
miss_back-requires-clause-shut g c = λ row is.
    let S = c.args.core.now.state in
    subst (λ (p : ℕ). is_open p (object_of S row.sought) ≡ false) c.place_of.ensures
    (subst (λ (o : ObjNo). is_open c.place_of.result (object_of S o) ≡ false) (c.found_by-object.ensures row is)
    (sym c.is_open.ensures ∙ c.if-is_open.false))
