use Rattle.std.proofs.Common.{◌≡◌, ◌∙◌, [], get_or, take, ◌+◌, sym, ap, subst}
use Rattle.std.specs.Prelude.{slice_get, Some}
use Rattle.std.proofs.lemmas.Option.{slice_get-get_or}
use Rattle.sym_base.specs.declared.number.ObjNo.{ObjNo}
use Rattle.ready_list.specs.Ready.{Ready, added}
use Rattle.kcore.specs.BootTable.{born_priority}
use Rattle.kernel_tables.specs.ReadyQueues.{AreReady}
use Rattle.kcore.proofs.BootReady.{none_ready, one_more_ready, not_ready_yet, got_listed}
use Rattle.kcore.proofs.boot.queues_of.Goals as goal

pub loop-thread-init : goal.loop-thread-init
loop-thread-init c = subst (λ (r : Ready). AreReady (born_priority c.args.all.now) [] r) (sym c.in_ok-list.ensures) (none_ready (born_priority c.args.all.now))

pub add-requires-clause-fresh : goal.add-requires-clause-fresh
add-requires-clause-fresh c =
    let ts = c.args.threads.now in
    let k = c.loop-thread.thread-index in
    let none : ObjNo = record { 0 = 0 } in
    not_ready_yet (born_priority c.args.all.now) ts k
    (get_or ts k none) c.loop-thread.list c.requires.once c.loop-thread.invariant
    (slice_get-get_or ts k none c.loop-thread-test.true)

pub loop-thread-preserved : goal.loop-thread-preserved
loop-thread-preserved c =
    let all = c.args.all.now in
    let ts = c.args.threads.now in
    let k = c.loop-thread.thread-index in
    let none : ObjNo = record { 0 = 0 } in
    let t = get_or ts k none in
    let at : slice_get ts k ≡ Some t = slice_get-get_or ts k none c.loop-thread-test.true in
    let listed = got_listed ts k t at in
    let made : c.add.new.self ≡ added c.loop-thread.list t (born_priority all t) = c.add.ensures ∙ ap (added c.loop-thread.list t) c.priority_at.ensures in
    subst (AreReady (born_priority all) (take (k + 1) ts)) (sym made)
    (one_more_ready (born_priority all) ts k t c.loop-thread.list (c.requires.known t listed)
    (c.requires.ranged t listed) c.requires.once c.loop-thread.invariant at)
