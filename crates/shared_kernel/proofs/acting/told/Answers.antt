use Rattle.std.proofs.Common.{◌≢◌, ◌∙◌, sym, ap, subst, length, List, Option}
use Rattle.std.specs.Prelude.{IfSome}
use Rattle.entry_log.specs.declared.entry.Entry.{Entry}
use Rattle.count_rule.specs.Seats.{Note}
use Rattle.kcore.specs.OneMore.{SendsOut}
use Rattle.shared_kernel.specs.Told.{slip_of, IsUnopened}
use Rattle.shared_kernel.specs.Values.{base_of}
use Rattle.shared_kernel.proofs.Sent.{makes-find, no-finder}
use Rattle.shared_kernel.proofs.acting.told.Goals as goal

pub last_thread-requires : goal.last_thread-requires
last_thread-requires c = subst (λ (h : List Entry). length h ≢ 0) (sym c.history-history.ensures.entries) c.requires.some

pub returns-in-None : goal.returns-in-None
returns-in-None c = λ old actor made.
    let k = c.args.kernel.now in
    record {
      made = subst (λ (s : Option Note). SendsOut k.script old k.history actor (slip_of s)) c.in-None.is made;
      at = ap length c.history-history.ensures.entries;
    }

pub returns-in-Some-last_thread : goal.returns-in-Some-last_thread
returns-in-Some-last_thread c = λ old actor made.
    let k = c.args.kernel.now in
    makes-find (base_of k) old k.history actor _ c.in-Some-last_thread.thread c.in-Some.ticket
    (subst (λ (s : Option Note). SendsOut k.script old k.history actor (slip_of s)) c.in-Some.is made)
    (λ before e longer. c.in-Some-last_thread.ensures before e (c.history-history.ensures.entries ∙ longer))
    (ap length c.history-history.ensures.entries)
    (subst (λ (s : Option Note). IfSome s (IsUnopened (base_of k))) c.in-Some.is c.requires.unopened)

pub returns-in-None-last_thread : goal.returns-in-None-last_thread
returns-in-None-last_thread c = λ old actor made.
    let k = c.args.kernel.now in
    absurd (no-finder (base_of k) old k.history actor c.in-Some.ticket.slip
    (subst (λ (s : Option Note). SendsOut k.script old k.history actor (slip_of s)) c.in-Some.is made)
    (λ before e longer. c.in-None-last_thread.ensures before e (c.history-history.ensures.entries ∙ longer)))
