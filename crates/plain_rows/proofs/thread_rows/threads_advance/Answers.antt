use Rattle.std.proofs.Common.{◌≡◌, ◌∙◌, ap, sym, arith, Some, None, option_map, slice_set}
use Rattle.std.specs.List.{slice_index_or}
use Rattle.std.proofs.lemmas.Option.{get_or_from_slice_get}
use Rattle.machine.specs.Moves.{advanced}
use Rattle.plain_rows.proofs.thread_rows.threads_advance.Goals as goal

pub advanced-requires : goal.advanced-requires
advanced-requires c r is =
    let here : slice_index_or c.args.threads.now c.args.thread.0 None ≡ Some r =
    get_or_from_slice_get c.args.threads.now c.args.thread.0 c.get_mut.result.now None c.get_mut.ensures.value ∙ is in
    let room = c.requires c.args.thread.0 r here in
    omega arith

pub returns-then-at-len : goal.returns-then-at-len
returns-then-at-len c =
    ap (slice_set c.args.threads.now c.args.thread.0)
    (c.advanced.ensures ∙ ap (option_map advanced)
    (sym (get_or_from_slice_get c.args.threads.now c.args.thread.0 c.get_mut.result.now None c.get_mut.ensures.value)))
