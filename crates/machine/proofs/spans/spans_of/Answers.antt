use Rattle.std.proofs.Common.{◌≡◌, arith, refl, sym, ap, ◌∙◌, Some, length}
use Rattle.std.proofs.lemmas.List.{length-set}
use Rattle.std.specs.Prelude.{slice_get}
use Rattle.machine.proofs.ThreadSpans.{item_known, process_known, spans_more}
use Rattle.machine.proofs.spans.spans_of.Goals as goal

pub bounds-spans-process : goal.bounds-spans-process
bounds-spans-process c =
    let at : slice_get c.args.script.now.threads c.loop-k.k ≡ Some c.thread-item.result =
    item_known _ c.args.script.now.threads c.loop-k.k c.thread-item.result c.as_slice-thread-items.ensures
    c.loop-k-test.true c.thread-item.is in
    process_known c.args.script.now c.requires c.loop-k.k c.thread-item.result c.in-Some.process at c.in-Some.is

pub bounds-spans-process-in-loop-k : goal.bounds-spans-process-in-loop-k
bounds-spans-process-in-loop-k c =
    let at : slice_get c.args.script.now.threads c.loop-k.k ≡ Some c.thread-item.result =
    item_known _ c.args.script.now.threads c.loop-k.k c.thread-item.result c.as_slice-thread-items.ensures
    c.loop-k-test.true c.thread-item.is in
    process_known c.args.script.now c.requires c.loop-k.k c.thread-item.result c.in-Some.process at c.in-Some.is

pub loop-k-preserved : goal.loop-k-preserved
loop-k-preserved c =
    let at : slice_get c.args.script.now.threads c.loop-k.k ≡ Some c.thread-item.result =
    item_known _ c.args.script.now.threads c.loop-k.k c.thread-item.result c.as_slice-thread-items.ensures
    c.loop-k-test.true c.thread-item.is in
    let known = process_known c.args.script.now c.requires c.loop-k.k c.thread-item.result c.in-Some.process at c.in-Some.is in
    record {
      count = length-set c.loop-k.spans c.in-Some.process c.with_place.result ∙ c.loop-k.invariant.count;
      spans =
          spans_more c.args.script.now.threads c.loop-k.k c.thread-item.result c.loop-k.spans c.in-Some.process
          c.with_place.result c.loop-k.invariant.spans at c.in-Some.is
          (omega (arith, c.loop-k.invariant.count, known)) c.with_place.ensures.more c.with_place.ensures.order
          c.with_place.ensures.all;
    }
