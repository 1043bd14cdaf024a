use Rattle.std.proofs.Common.{◌++◌, ◌∙◌, List, length, length-append, append_assoc, arith, ap, sym}
use Rattle.entry_log.specs.declared.effect.Effect.{Effect}
use Rattle.readings.specs.Dying.{dead_by, dead_told, told_alive}
use Rattle.readings.proofs.Telling.{told_dead}
use Rattle.readings.proofs.deaths.tell_whole.Goals as goal

pub tell-requires-clause-few : goal.tell-requires-clause-few
tell-requires-clause-few c =
    let few = c.requires.few in
    let whole = ap length (told_dead c.args.change.now c.args.state.now) in
    let sum = length-append (told_alive c.args.change.now c.args.state.now) (dead_told (dead_by c.args.change.now c.args.state.now)) in
    omega arith

pub tell_death-requires : goal.tell_death-requires
tell_death-requires c =
    let few = c.requires.few in
    let whole = ap length (told_dead c.args.change.now c.args.state.now) in
    let sum = length-append (told_alive c.args.change.now c.args.state.now) (dead_told (dead_by c.args.change.now c.args.state.now)) in
    let before = ap length c.tell.ensures in
    let so_far = length-append c.args.effects.now (told_alive c.args.change.now c.args.state.now) in
    rw c.requires.dead (omega arith)

pub returns : goal.returns
returns c =
    let alive = told_alive c.args.change.now c.args.state.now in
    let dead = dead_told (dead_by c.args.change.now c.args.state.now) in
    c.tell_death.ensures
    ∙ rw (c.tell.ensures, c.requires.dead)
    (append_assoc c.args.effects.now alive dead
    ∙ ap (λ (l : List Effect). c.args.effects.now ++ l) (sym (told_dead c.args.change.now c.args.state.now)))
