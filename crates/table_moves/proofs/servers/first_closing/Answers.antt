use Rattle.std.proofs.Common.{◌≡◌, ◌∙◌, false}
use Rattle.std.specs.Prelude.{Some, slice_get}
use Rattle.cleanup.specs.Lists.{list_of}
use Rattle.state_rows.specs.ServerRows.{is_closing}
use Rattle.table_moves.proofs.Owned.{rest_apart}
use Rattle.table_moves.proofs.servers.first_closing.Goals as goal

pub loop-place-preserved : goal.loop-place-preserved
loop-place-preserved c =
    let list = list_of c.args.cleanup.now.servers c.args.thread in
    let place = c.loop-place._place in
    let object = c.in_ok-object.object in
    let at = c.loop-place.invariant.at in
    let was = c.in_ok-object.was in
    let stands : slice_get list place ≡ Some object = cc in
    let told = c.is_closing.ensures in
    let stays = c.if-is_closing.false in
    let apart : is_closing c.args.servers.now object ≡ false = cc in
    record {
      at = c.next_server-next-in-loop-place.ensures.walk place stands;
      rest = c.loop-place.invariant.rest ∙ rest_apart (is_closing c.args.servers.now) list place object stands apart;
      few = c.loop-place.invariant.few;
    }
