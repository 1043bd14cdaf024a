use Rattle.std.proofs.Common.{◌≤◌, ◌∙◌, ℕ, List, set, arith, ap, sym}
use Rattle.std.specs.Prelude.{not}
use Rattle.sym_base.specs.declared.number.ObjNo.{ObjNo}
use Rattle.cleanup.specs.Lists.{Lists}
use Rattle.machine.specs.LogonMoves.{logons_on, without_logon}
use Rattle.table_moves.proofs.GoneLogons.{below_all, list_more, list_none, none_here, none_is}
use Rattle.table_moves.proofs.logon_moves.drop_on.Goals as goal

pub returns-then-is_none : goal.returns-then-is_none
returns-then-is_none c =
    let old = c.args.cleanup.now in
    let none = none_is c.first_logon.result (c.is_none.ensures ∙ ap not c.if-is_none.true) in
    ap (λ (logons : List (List (ObjNo × ℕ))). let lists : Lists = record old { logons = logons } in lists)
    (none_here old.logons c.args.on c.args.by (sym c.first_logon.ensures ∙ none))

pub loop-status-init : goal.loop-status-init
loop-status-init c =
    let old = c.args.cleanup.now in
    ap (λ (logons : List (List (ObjNo × ℕ))). let lists : Lists = record old { logons = logons } in lists) (list_none old.logons c.args.on c.args.by)

pub remove-requires : goal.remove-requires
remove-requires c =
    let lt = c.loop-status-test.true in
    rw c.loop-status.invariant (c.requires.0, c.requires.1, omega arith)

pub loop-status-preserved : goal.loop-status-preserved
loop-status-preserved c =
    let old = c.args.cleanup.now in
    let s = c.loop-status.status in
    c.remove.ensures
    ∙ (ap (λ (x : Lists). let lists : Lists = record x
    { logons = set x.logons c.args.on.0 (without_logon c.args.by s (logons_on x.logons c.args.on)) } in
    lists) c.loop-status.invariant
    ∙ ap (λ (logons : List (List (ObjNo × ℕ))). let lists : Lists = record old { logons = logons } in lists)
    (list_more old.logons c.args.on c.args.by s c.requires.2))

pub returns : goal.returns
returns c =
    let old = c.args.cleanup.now in
    let past : 16 ≤ c.loop-status.status = let a = c.loop-status-test.false in omega arith in
    c.loop-status.invariant
    ∙ ap (λ (these : List (ObjNo × ℕ)). let lists : Lists = record old { logons = set old.logons c.args.on.0 these } in
    lists) (below_all c.args.by c.loop-status.status (logons_on old.logons c.args.on) past c.requires.3)
