use Rattle.std.proofs.Common.{rules, tests, sym, ◌∙◌}
use Rattle.std.proofs.lemmas.Iterator.{YieldsList-from_slice}
use Rattle.std.proofs.lemmas.Iterator.Search.{position_from_yields_List}
use Rattle.std.specs.Str.{bytes_eq}
use Rattle.script_types.specs.declared.declaration.DfcDecl.{DfcDecl}
use Rattle.state_rows.proofs.declared_calls.dfc_named.Goals as goal

pub returns-in_err-place-clause-number : goal.returns-in_err-place-clause-number
returns-in_err-place-clause-number c =
    let is = position_from_yields_List (λ (d : DfcDecl). bytes_eq c.args.name.now d.name) _ _ _ c.position.ensures.ran
    (YieldsList-from_slice c.args.script.now.dfcs cc) (λ x b q k. search (rules, tests)) in
    rw (← is) (c.from_residual.ensures ∙ sym c.in_err-place.was)

pub returns-clause-number : goal.returns-clause-number
returns-clause-number c =
    let is = position_from_yields_List (λ (d : DfcDecl). bytes_eq c.args.name.now d.name) _ _ _ c.position.ensures.ran
    (YieldsList-from_slice c.args.script.now.dfcs cc) (λ x b q k. search (rules, tests)) in
    rw (← is) (sym c.in_ok-place.was)
