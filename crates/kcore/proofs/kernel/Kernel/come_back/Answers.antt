use Rattle.std.proofs.Common.{◌∙◌, ◌+◌, ◌-◌, length, true, arith, ap, refl, sym, subst}
use Rattle.entry_log.specs.declared.entry.Actor.TheVariants.{Thread}
use Rattle.machine.specs.History.{after_in}
use Rattle.machine_safe.proofs.LegalSafety.{legal_safety}
use Rattle.machine_safe.proofs.ReadyHolders.{holders_ready}
use Rattle.table_moves.specs.Notes.{Notes}
use Rattle.kcore.specs.Outgoing.{AreNotes}
use Rattle.kcore.proofs.Goes.{runs}
use Rattle.kcore.proofs.KernelGoes.{back-can, back-notes, back-out, back-returns, out-begins, out-follows, out-kernel, out-mode, out-notes, place-left}
use Rattle.kcore.proofs.Lighter.{lighter-more}
use Rattle.kcore.proofs.ModesSuit.{split-suits}
use Rattle.kcore.proofs.OutKernel.{may-come, one-noted}
use Rattle.kcore.proofs.kernel.Kernel.come_back.Goals as goal

pub go_back-requires-clause-runs : goal.go_back-requires-clause-runs
go_back-requires-clause-runs g c =
    let k = c.self.inside in
    let suits = split-suits _ (rw (← c.self.view_is) at c.requires.mode) in
    let mid = c.share.new.self in
    let its = rw (← c.self.view_is) at c.requires.its in
    let s = g.W.RefWords.slip c.args.note in
    runs true k.script k.history.items mid (out-begins k.script k.history.items k.core mid k.out k.room _
    c.self.invariant suits c.share.ensures.state c.share.ensures.ready c.share.ensures.notes)

pub go_back-requires-clause-may : goal.go_back-requires-clause-may
go_back-requires-clause-may g c =
    let k = c.self.inside in
    let suits = split-suits _ (rw (← c.self.view_is) at c.requires.mode) in
    let mid = c.share.new.self in
    let its = rw (← c.self.view_is) at c.requires.its in
    let s = g.W.RefWords.slip c.args.note in
    let begins = out-begins k.script k.history.items k.core mid k.out k.room _ c.self.invariant suits c.share.ensures.state
    c.share.ensures.ready c.share.ensures.notes in
    let left = place-left true k.script k.history.items k.core.notes k.room begins.valid c.self.invariant.short c.self.invariant.places in
    may-come k.script k.history.items mid mid.notes s c.args.t begins (rw c.share.ensures.notes left)
    (out-notes k.script k.history.items k.core mid k.out k.room _ c.self.invariant suits c.share.ensures.state
    c.share.ensures.ready c.share.ensures.notes) its

pub go_back-requires-clause-room : goal.go_back-requires-clause-room
go_back-requires-clause-room g c =
    let k = c.self.inside in
    let suits = split-suits _ (rw (← c.self.view_is) at c.requires.mode) in
    let mid = c.share.new.self in
    let its = rw (← c.self.view_is) at c.requires.its in
    let s = g.W.RefWords.slip c.args.note in
    let room = rw (← c.self.view_is) at c.requires.room in
    let fits = c.self.invariant.fits in
    let many = (out-notes k.script k.history.items k.core mid k.out k.room _ c.self.invariant suits
    c.share.ensures.state c.share.ensures.ready c.share.ensures.notes).many in
    λ noted. let some = one-noted mid.notes.out s noted in omega arith

pub go_back-requires-clause-few : goal.go_back-requires-clause-few
go_back-requires-clause-few g c = let room = rw (← c.self.view_is) at c.requires.room in let few = c.self.invariant.few in omega arith

pub overflow_sub-self : goal.overflow_sub-self
overflow_sub-self g c =
    let fewer = c.go_back.ensures.fewer in
    let counted = c.self.invariant.counted ∙ ap (λ (n : Notes). length n.out) (sym c.share.ensures.notes) in
    omega arith

pub invariant_of-self : goal.invariant_of-self
invariant_of-self g c =
    let k = c.self.inside in
    let suits = split-suits _ (rw (← c.self.view_is) at c.requires.mode) in
    let mid = c.share.new.self in
    let its = rw (← c.self.view_is) at c.requires.its in
    let s = g.W.RefWords.slip c.args.note in
    let items = c.go_back.new.history.items in
    let core = c.go_back.new.core in
    let can = back-can k.script k.history.items k.core mid k.out k.room _ c.self.invariant suits c.share.ensures.state
    c.share.ensures.ready c.share.ensures.notes items core s c.args.t c.go_back.ensures.was_out its
    c.go_back.ensures.went in
    let fewer = sym (ap (λ (n : Notes). length n.out + 1) c.go_back.ensures.notes) ∙ c.go_back.ensures.fewer in
    let are = back-notes k.script k.history.items k.core mid k.out k.room _ c.self.invariant suits c.share.ensures.state
    c.share.ensures.ready c.share.ensures.notes items core s c.args.t c.go_back.ensures.was_out its
    c.go_back.ensures.went fewer in
    let notes = subst (λ (n : Notes). AreNotes items (after_in true k.script items) n) (sym c.go_back.ensures.notes) are in
    let counted = c.self.invariant.counted ∙ ap (λ (n : Notes). length n.out) (sym c.share.ensures.notes) in
    let last = c.go_back.ensures.fewer in
    out-kernel k.script k.history.items k.core mid k.out k.room _ c.self.invariant suits c.share.ensures.state
    c.share.ensures.ready c.share.ensures.notes items core (Thread c.args.t) can c.go_back.ensures.went core
    (k.out - 1) _ refl refl notes (omega arith) (ap (λ (n : Notes). n.places) c.go_back.ensures.notes) c.go_back.ensures.capacity
    (let room = rw (← c.self.view_is) at c.requires.room in
    let many = (out-notes k.script k.history.items k.core mid k.out k.room _ c.self.invariant suits c.share.ensures.state
    c.share.ensures.ready c.share.ensures.notes).many in
    let some = one-noted mid.notes.out s c.go_back.ensures.was_out in omega arith)

pub returns-clause-mode : goal.returns-clause-mode
returns-clause-mode g c =
    let k = c.self.inside in
    let suits = split-suits _ (rw (← c.self.view_is) at c.requires.mode) in
    let mid = c.share.new.self in
    let its = rw (← c.self.view_is) at c.requires.its in
    let s = g.W.RefWords.slip c.args.note in
    let items = c.go_back.new.history.items in
    let core = c.go_back.new.core in
    let can = back-can k.script k.history.items k.core mid k.out k.room _ c.self.invariant suits c.share.ensures.state
    c.share.ensures.ready c.share.ensures.notes items core s c.args.t c.go_back.ensures.was_out its
    c.go_back.ensures.went in
    out-mode k.script k.history.items k.core mid k.out k.room _ c.self.invariant suits c.share.ensures.state
    c.share.ensures.ready c.share.ensures.notes items core (Thread c.args.t) can c.go_back.ensures.went core refl

pub returns-clause-was_out : goal.returns-clause-was_out
returns-clause-was_out g c =
    let k = c.self.inside in
    let suits = split-suits _ (rw (← c.self.view_is) at c.requires.mode) in
    let mid = c.share.new.self in
    let its = rw (← c.self.view_is) at c.requires.its in
    let s = g.W.RefWords.slip c.args.note in
    rw (← c.self.view_is) (back-out k.script k.history.items k.core mid k.out k.room _ c.self.invariant suits
    c.share.ensures.state c.share.ensures.ready c.share.ensures.notes c.go_back.new.history.items c.go_back.new.core s
    c.args.t c.go_back.ensures.was_out its c.go_back.ensures.went)

pub returns-clause-entry : goal.returns-clause-entry
returns-clause-entry g c =
    let k = c.self.inside in
    let suits = split-suits _ (rw (← c.self.view_is) at c.requires.mode) in
    let mid = c.share.new.self in
    let its = rw (← c.self.view_is) at c.requires.its in
    let s = g.W.RefWords.slip c.args.note in
    rw (← c.self.view_is) (back-returns k.script k.history.items k.core mid k.out k.room _ c.self.invariant suits
    c.share.ensures.state c.share.ensures.ready c.share.ensures.notes c.go_back.new.history.items c.go_back.new.core s
    c.args.t c.go_back.ensures.was_out its c.go_back.ensures.went)

pub returns-clause-legal : goal.returns-clause-legal
returns-clause-legal g c =
    let k = c.self.inside in
    let suits = split-suits _ (rw (← c.self.view_is) at c.requires.mode) in
    let mid = c.share.new.self in
    let its = rw (← c.self.view_is) at c.requires.its in
    let s = g.W.RefWords.slip c.args.note in
    let items = c.go_back.new.history.items in
    let core = c.go_back.new.core in
    let can = back-can k.script k.history.items k.core mid k.out k.room _ c.self.invariant suits c.share.ensures.state
    c.share.ensures.ready c.share.ensures.notes items core s c.args.t c.go_back.ensures.was_out its
    c.go_back.ensures.went in
    (out-follows k.script k.history.items k.core mid k.out k.room _ c.self.invariant suits c.share.ensures.state
    c.share.ensures.ready c.share.ensures.notes items core (Thread c.args.t) can c.go_back.ensures.went).legal

pub returns-clause-safe : goal.returns-clause-safe
returns-clause-safe g c = legal_safety true c.self.inside.script c.go_back.new.history.items c.self.invariant.stands.valid (returns-clause-legal g c)

pub returns-clause-holders : goal.returns-clause-holders
returns-clause-holders g c = holders_ready true c.self.inside.script c.go_back.new.history.items c.self.invariant.stands.valid

pub returns-clause-lighter : goal.returns-clause-lighter
returns-clause-lighter g c =
    let k = c.self.inside in
    let suits = split-suits _ (rw (← c.self.view_is) at c.requires.mode) in
    let mid = c.share.new.self in
    let its = rw (← c.self.view_is) at c.requires.its in
    let s = g.W.RefWords.slip c.args.note in
    let items = c.go_back.new.history.items in
    let core = c.go_back.new.core in
    let back = back-returns k.script k.history.items k.core mid k.out k.room _ c.self.invariant suits
    c.share.ensures.state c.share.ensures.ready c.share.ensures.notes items core s c.args.t c.go_back.ensures.was_out
    its c.go_back.ensures.went in
    rw (← c.self.view_is) (lighter-more k.script k.history.items items c.args.t back.more (returns-clause-safe g c))
