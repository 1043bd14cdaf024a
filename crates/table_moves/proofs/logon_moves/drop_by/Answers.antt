use Rattle.std.proofs.Common.{◌<◌, ◌≤◌, ◌++◌, ◌∙◌, ℕ, [], List, get_or, map, set, take, drop, length, arith, ap}
use Rattle.std.proofs.lemmas.List.{append-nil, drop_all, length-append, length-drop, length-map, length-take, take_all}
use Rattle.sym_base.specs.declared.number.ObjNo.{ObjNo}
use Rattle.cleanup.specs.Lists.{Lists}
use Rattle.machine.specs.LogonMoves.{without_maker}
use Rattle.machine.specs.References.{total}
use Rattle.machine.specs.WellFormed.{logon_names}
use Rattle.table_moves.proofs.GoneLogons.{counts_here, list_done, list_later}
use Rattle.table_moves.proofs.logon_moves.drop_by.Goals as goal

pub drop_on-requires : goal.drop_on-requires
drop_on-requires c =
    let lt = c.loop-on-test.true in
    let all = c.args.cleanup.now.logons in
    let inside : c.loop-on.on < length all = let long = c.requires.2 in omega arith in
    let front = map (without_maker c.args.by) (take c.loop-on.on all) in
    let more = drop c.loop-on.on all in
    rw c.loop-on.invariant (
      omega arith,
      c.requires.0,
      omega (
        arith,
        inside,
        length-append front more,
        length-map (take c.loop-on.on all) (without_maker c.args.by),
        length-take c.loop-on.on all,
        length-drop c.loop-on.on all,
      ),
      λ s some.
          let here = counts_here c.args.by s all c.loop-on.on in
          let same = list_later (without_maker c.args.by) all c.loop-on.on [] inside in
          let a = ap (total (logon_names c.args.by s)) same in
          c.requires.3 s (omega arith),
    )

pub loop-on-preserved : goal.loop-on-preserved
loop-on-preserved c =
    let lt = c.loop-on-test.true in
    let old = c.args.cleanup.now in
    let all = old.logons in
    let inside : c.loop-on.on < length all = let long = c.requires.2 in omega arith in
    c.drop_on.ensures
    ∙ (ap (λ (x : Lists). let lists : Lists = record x
    { logons = set x.logons c.loop-on.on (without_maker c.args.by (get_or x.logons c.loop-on.on [])) } in
    lists) c.loop-on.invariant
    ∙ ap (λ (logons : List (List (ObjNo × ℕ))). let lists : Lists = record old { logons = logons } in lists)
    (list_done (without_maker c.args.by) all c.loop-on.on inside))

pub returns : goal.returns
returns c =
    let old = c.args.cleanup.now in
    let all = old.logons in
    let past : length all ≤ c.loop-on.on = let a = c.loop-on-test.false in let long = c.requires.2 in omega arith in
    c.loop-on.invariant
    ∙ ap (λ (logons : List (List (ObjNo × ℕ))). let lists : Lists = record old { logons = logons } in lists)
    (ap (λ l. map (without_maker c.args.by) (take c.loop-on.on all) ++ l) (drop_all c.loop-on.on all past)
    ∙ (append-nil _ ∙ ap (map (without_maker c.args.by)) (take_all c.loop-on.on all past)))
