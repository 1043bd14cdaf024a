use Rattle.std.proofs.Common.{rules, tests, sym, ◌∙◌}
use Rattle.std.proofs.lemmas.Iterator.{YieldsList-from_slice}
use Rattle.std.proofs.lemmas.Iterator.Search.{position_from_yields_List}
use Rattle.state_rows.specs.Nano.{is_thread}
use Rattle.nano_sync.proofs.sync.NanoSync.held.Goals as goal

pub returns-in_err-place-clause-held : goal.returns-in_err-place-clause-held
returns-in_err-place-clause-held c =
    let is = position_from_yields_List (is_thread c.args.t) _ _ _ c.position.ensures.ran
    (YieldsList-from_slice c.self.inside.holders.items cc) (λ x b q k. search (rules, tests)) in
    rw (← c.self.view_is, ← is) (c.from_residual.ensures ∙ sym c.in_err-place.was)

pub returns-clause-held : goal.returns-clause-held
returns-clause-held c =
    let is = position_from_yields_List (is_thread c.args.t) _ _ _ c.position.ensures.ran
    (YieldsList-from_slice c.self.inside.holders.items cc) (λ x b q k. search (rules, tests)) in
    rw (← c.self.view_is, ← is) (sym c.in_ok-place.was)
