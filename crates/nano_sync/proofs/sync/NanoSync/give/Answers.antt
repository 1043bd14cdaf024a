use Rattle.std.proofs.Common.{◌≡◌, ◌<◌, true, length, sym, ◌∙◌}
use Rattle.std.specs.Prelude.{None}
use Rattle.std.proofs.lemmas.List.{get_or_read}
use Rattle.state_rows.specs.Nano.{is_thread}
use Rattle.state_rows.proofs.HeldMutexes.{held_by-give}
use Rattle.state_rows.proofs.Soundness.{is_thread-true}
use Rattle.nano_sync.proofs.sync.NanoSync.give.Goals as goal

pub returns-clause-own : goal.returns-clause-own
returns-clause-own c =
    let inside : c.args.f < length c.self.inside.holders.items = rw (← c.self.view_is) at c.requires.mutex in
    let read = get_or_read c.self.inside.holders.items c.args.f _ inside c.index_mut-holder.ensures.value None in
    let is : is_thread c.args.t c.index_mut-holder.result.now ≡ true = sym c.if-not-is_thread.ensures in
    λ _. held_by-give _ c.args.t c.args.f c.self.invariant inside (sym read ∙ is_thread-true c.args.t _ is)
