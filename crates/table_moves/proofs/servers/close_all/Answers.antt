use Rattle.std.proofs.Common.{◌≡◌, ◌∙◌, ap, drop, subst, sym, ◌+◌}
use Rattle.std.specs.Prelude.{Some, slice_get}
use Rattle.cleanup.specs.Lists.{list_of}
use Rattle.machine.specs.ServerMoves.{all_closing}
use Rattle.state_rows.specs.declared.servers.ServerRows.{ServerRows}
use Rattle.state_rows.specs.ServerRows.{IsServer}
use Rattle.table_moves.proofs.Owned.{closing_keeps, rest_closes}
use Rattle.table_moves.proofs.servers.close_all.Goals as goal

pub loop-place-preserved : goal.loop-place-preserved
loop-place-preserved c =
    let list = list_of c.args.cleanup.now.servers c.args.thread in
    let place = c.loop-place._place in
    let server = c.in-Some.server in
    let at = c.loop-place.invariant.at in
    let is = c.in-Some.is in
    let stands : slice_get list place ≡ Some server = cc in
    let closes = c.begin_closing.ensures in
    record {
      at = c.next_server-next-in-loop-place.ensures.walk place stands;
      rest = c.loop-place.invariant.rest ∙ (rest_closes list place server c.loop-place.servers stands ∙ ap (all_closing (drop (place + 1) list)) (sym closes));
      few = c.loop-place.invariant.few;
      kept = λ o was. subst (λ (r : ServerRows). IsServer r o) (sym closes) (closing_keeps c.loop-place.servers server o (c.loop-place.invariant.kept o was));
    }
