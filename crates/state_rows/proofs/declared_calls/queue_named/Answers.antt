use Rattle.std.proofs.Common.{rules, tests, sym, ap, ◌∙◌}
use Rattle.std.proofs.lemmas.Iterator.{YieldsList-from_slice}
use Rattle.std.proofs.lemmas.Iterator.Search.{position_from_yields_List}
use Rattle.std.specs.Str.{bytes_eq}
use Rattle.script_types.specs.declared.declaration.QueueDecl.{QueueDecl}
use Rattle.state_rows.specs.DeclaredCalls.{queue_number}
use Rattle.state_rows.proofs.declared_calls.queue_named.Goals as goal

pub returns-in-None-clause-number : goal.returns-in-None-clause-number
returns-in-None-clause-number c =
    let is = position_from_yields_List (λ (d : QueueDecl). bytes_eq c.args.name.now d.name) _ _ _
    c.position-place.ensures.ran (YieldsList-from_slice c.args.script.now.queues cc)
    (λ x b q k. search (rules, tests)) in
    ap queue_number (sym c.in-None.is ∙ is)

pub returns-in-Some-clause-number : goal.returns-in-Some-clause-number
returns-in-Some-clause-number c =
    let is = position_from_yields_List (λ (d : QueueDecl). bytes_eq c.args.name.now d.name) _ _ _
    c.position-place.ensures.ran (YieldsList-from_slice c.args.script.now.queues cc)
    (λ x b q k. search (rules, tests)) in
    ap queue_number (sym c.in-Some.is ∙ is)
