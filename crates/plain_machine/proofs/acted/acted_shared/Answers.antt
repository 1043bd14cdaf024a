use Rattle.std.proofs.Common.{◌≡◌, ℕ, ◌+◌, ◌∙◌, Bool, List, ap, refl, subst, sym}
use Rattle.sym_base.specs.declared.number.ObjNo.{ObjNo}
use Rattle.script_types.proofs.ShapeLaws.{formed_is_shaped}
use Rattle.entry_log.specs.declared.entry.Entry.{Entry}
use Rattle.machine.specs.History.{is_deathless, keeping}
use Rattle.machine.specs.WellFormed.{IsWellFormed}
use Rattle.plain_machine.specs.SharedActions.{choice_made}
use Rattle.plain_machine.proofs.Steps.{shares_allowed, shares_barred, shares_formed, shares_made}
use Rattle.plain_machine.proofs.acted.acted_shared.Goals as goal

pub can_act-requires : goal.can_act-requires
can_act-requires c =
    let formed = shares_formed c.args.script.now c.args.history.now c.args.state.now c.args.ready.now c.args.actor c.args.keep
    c.requires.plain c.requires.split in
    record { formed = subst (IsWellFormed c.args.script.now (choice_made c.args.keep c.args.state.now)) (sym c.as_slice.ensures) formed }

pub acted-requires-clause-shaped : goal.acted-requires-clause-shaped
acted-requires-clause-shaped c = formed_is_shaped c.args.script.now c.requires.plain.valid

pub acted-requires-clause-allowed : goal.acted-requires-clause-allowed
acted-requires-clause-allowed c =
    shares_allowed c.args.script.now c.args.history.now c.args.state.now c.args.ready.now c.args.actor c.args.keep c.requires.plain c.requires.split
    c.requires.few

pub returns-clause-made : goal.returns-clause-made
returns-clause-made c =
    let made = c.in_ok-list.ensures.told in
    let after = c.acted.new.state in
    let deathless : c.is_deathless-state.result ≡ is_deathless c.in_ok-list.entry.effects =
    c.is_deathless-state.ensures ∙ ap is_deathless c.as_slice-2.ensures.effects in
    shares_made c.args.script.now c.args.history.now c.args.state.now c.args.ready.now c.args.actor c.args.keep c.requires.plain c.requires.split
    c.push.new.self after (keeping c.is_deathless-state.result after) c.in_ok-list.list
    (c.len.result + 1) c.in_ok-list.entry c.copied-told.result
    (c.can_act.ensures.able (c.if-not-can_act.false)) (ap (λ (n : ℕ). n + 1) c.len.ensures)
    c.in_ok-list.ensures.state (ap (λ (b : Bool). keeping b after) deathless)
    (ap (λ (x : List ObjNo × Entry). x.0) made) (ap (λ (x : List ObjNo × Entry). x.1) made)
    c.in_ok-push.ensures.ok c.copied-told.ensures

pub returns-then-not-can_act-clause-barred : goal.returns-then-not-can_act-clause-barred
returns-then-not-can_act-clause-barred c =
    record {
      history = refl;
      cannot =
          shares_barred c.args.script.now c.args.history.now c.args.state.now c.args.ready.now c.args.actor c.args.keep
          c.requires.plain c.requires.split c.can_act.result (c.if-not-can_act.true) c.can_act.ensures.only;
    }
