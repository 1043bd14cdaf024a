use Rattle.std.proofs.Common.{◌≡◌, arith, refl, sym, ap, ◌∙◌, ◌++◌, ◌+◌, ◌∷◌, [], List, drop, true}
use Rattle.machine.specs.Boot.{born_thread, born_threads, is_of}
use Rattle.machine.specs.declared.boot.Born.{Born}
use Rattle.machine.proofs.ThreadSpans.{threads_more}
use Rattle.machine.proofs.boot.push_threads.Goals as goal

pub loop-k-preserved : goal.loop-k-preserved
loop-k-preserved c =
    let here : c.born_thread.result ≡ born_thread c.args.number.0 (c.args.first + c.loop-k.k) c.index-threads-k.result = search (c.born_thread.ensures) in
    let added : c.add.new.all.items ≡ c.loop-k.all.items ++ born_thread c.args.number.0 (c.args.first + c.loop-k.k) c.index-threads-k.result ∷ [] =
    c.in_ok-add.ensures.ok ∙ ap (λ (b : Born). c.loop-k.all.items ++ b ∷ []) here in
    let of : is_of c.args.process c.index-threads-k.result.process ≡ true = sym c.is_of.ensures ∙ c.if-not-is_of.false in
    let more = threads_more c.loop-k.all.items c.args.process c.args.number.0 c.args.first c.loop-k.k c.index-threads-k.result c.args.threads.now
    (c.args.all.now.items ++ born_threads c.args.process c.args.number.0 c.args.first c.args.threads.now) c.loop-k.invariant.rest c.loop-k-test.true
    c.index-threads-k.is of in
    record {
      rest =
          ap (λ (all : List Born). all ++ born_threads c.args.process c.args.number.0 (c.args.first + (c.loop-k.k + 1))
          (drop (c.loop-k.k + 1) c.args.threads.now)) added
          ∙ more;
      few = omega (arith, c.loop-k.invariant.few, c.add.ensures.few);
    }
