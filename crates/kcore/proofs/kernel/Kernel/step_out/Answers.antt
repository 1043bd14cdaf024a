use Rattle.std.proofs.Common.{◌≡◌, ◌∙◌, ◌<◌, ◌∷◌, [], length, length-append, true, false, arith, ap, refl, sym, subst, Option, Some, None}
use Rattle.ref_words.specs.declared.slip.Slip.{Slip}
use Rattle.entry_log.specs.declared.entry.Entry.{Entry}
use Rattle.machine.specs.declared.state.State.{State}
use Rattle.machine.specs.History.{after_in}
use Rattle.machine_safe.specs.FindsAndReturns.{is_out_actor}
use Rattle.machine_safe.proofs.LegalSafety.{legal_safety}
use Rattle.machine_safe.proofs.ReadyHolders.{holders_ready}
use Rattle.table_moves.specs.Notes.{Notes}
use Rattle.kcore.specs.Finds.{found_in}
use Rattle.kcore.specs.Outgoing.{AreNotes}
use Rattle.kcore.specs.Sending.{notes_after, slip_after}
use Rattle.kcore.proofs.Goes.{may, runs}
use Rattle.kcore.proofs.KernelGoes.{out-begins, out-follows, out-kernel, out-may-send, out-mode, out-notes, out-notes-next, out-sends, place-left}
use Rattle.kcore.proofs.LastEntry.{last_is}
use Rattle.kcore.proofs.OutKernel.{may-shared, out-keeping}
use Rattle.kcore.proofs.kernel.Kernel.step_out.Goals as goal

-- notes that went out leave the places
notes-place : (s : Option Slip) (notes : Notes) → (notes_after s notes).places ≡ notes.places
notes-place None notes = refl
notes-place (Some s) notes = refl

pub go-requires-clause-runs : goal.go-requires-clause-runs
go-requires-clause-runs g c =
    let k = c.self.inside in
    let suits = rw (← c.self.view_is) at c.requires.mode in
    let begins = out-begins k.script k.history.items k.core c.share.new.self k.out k.room _ c.self.invariant suits
    c.share.ensures.state c.share.ensures.ready c.share.ensures.notes in
    runs true k.script k.history.items c.share.new.self begins

pub go-requires-clause-may : goal.go-requires-clause-may
go-requires-clause-may g c =
    let k = c.self.inside in
    let suits = rw (← c.self.view_is) at c.requires.mode in
    let begins = out-begins k.script k.history.items k.core c.share.new.self k.out k.room _ c.self.invariant suits
    c.share.ensures.state c.share.ensures.ready c.share.ensures.notes in
    let notes = out-notes k.script k.history.items k.core c.share.new.self k.out k.room _ c.self.invariant suits
    c.share.ensures.state c.share.ensures.ready c.share.ensures.notes in
    let left = place-left true k.script k.history.items k.core.notes k.room begins.valid c.self.invariant.short c.self.invariant.places in
    may-shared k.script k.history.items c.share.new.self c.share.new.self.notes c.args.actor begins
    (rw c.share.ensures.notes left) notes (rw (← c.self.view_is) at c.requires.stays)

pub go-requires-clause-can : goal.go-requires-clause-can
go-requires-clause-can g c =
    let k = c.self.inside in
    let suits = rw (← c.self.view_is) at c.requires.mode in
    let begins = out-begins k.script k.history.items k.core c.share.new.self k.out k.room _ c.self.invariant suits
    c.share.ensures.state c.share.ensures.ready c.share.ensures.notes in
    may true k.script k.history.items c.share.new.self begins c.args.actor (rw (← c.self.view_is) at c.requires.can)

pub go-requires-clause-stays : goal.go-requires-clause-stays
go-requires-clause-stays g c =
    let k = c.self.inside in
    let suits = rw (← c.self.view_is) at c.requires.mode in
    let begins = out-begins k.script k.history.items k.core c.share.new.self k.out k.room _ c.self.invariant suits
    c.share.ensures.state c.share.ensures.ready c.share.ensures.notes in
    let stays : is_out_actor (after_in true k.script k.history.items) c.args.actor ≡ false = rw (← c.self.view_is) at c.requires.stays in
    subst (λ (S : State). is_out_actor S c.args.actor ≡ false) (sym begins.state)
    (out-keeping (after_in true k.script k.history.items) true c.args.actor ∙ stays)

pub go-requires-clause-few : goal.go-requires-clause-few
go-requires-clause-few g c = let room = rw (← c.self.view_is) at c.requires.room in let few = c.self.invariant.few in omega arith

pub go-requires-clause-room : goal.go-requires-clause-room
go-requires-clause-room g c = let room = rw (← c.self.view_is) at c.requires.room in let fits = c.self.invariant.fits in omega arith

pub index-requires : goal.index-requires
index-requires g c =
    let k = c.self.inside in
    let at = ap length c.as_slice-at.ensures.value in
    let long = ap length c.go.ensures.went.longer in
    let sum = length-append k.history.items (c.go.ensures.went.entry ∷ []) in
    omega arith

pub send-requires-clause-may : goal.send-requires-clause-may
send-requires-clause-may g c =
    let k = c.self.inside in
    let suits = rw (← c.self.view_is) at c.requires.mode in
    let can = rw (← c.self.view_is) at c.requires.can in
    let stays = rw (← c.self.view_is) at c.requires.stays in
    let mid = c.share.new.self in
    let items = c.go.new.history.items in
    let core = c.go.new.core in
    let at : length c.as_slice-at.result.now ≡ length k.history.items = ap length c.as_slice-at.ensures.value in
    let e = c.go.ensures.went.entry in
    let told = last_is k.history.items items e (length c.as_slice-at.result.now) c.index.result.now c.go.ensures.went.longer at c.index.ensures in
    let found = c.found_in-found.ensures ∙ ap found_in (c.as_slice.ensures.effects ∙ ap (λ (x : Entry). x.effects) told) in
    let short : length k.history.items < 131072 = (let room = rw (← c.self.view_is) at c.requires.room in let few = c.self.invariant.few in omega arith) in
    out-may-send k.script k.history.items k.core mid k.out k.room _ c.self.invariant suits c.share.ensures.state
    c.share.ensures.ready c.share.ensures.notes items core c.args.actor can c.go.ensures.went stays c.go.ensures.notes
    short c.found_in-found.result found

pub send-requires-clause-counted : goal.send-requires-clause-counted
send-requires-clause-counted g c = c.self.invariant.counted ∙ ap (λ (n : Notes). length n.out) (sym (c.go.ensures.notes ∙ c.share.ensures.notes))

pub invariant_of-self : goal.invariant_of-self
invariant_of-self g c =
    let k = c.self.inside in
    let suits = rw (← c.self.view_is) at c.requires.mode in
    let can = rw (← c.self.view_is) at c.requires.can in
    let stays = rw (← c.self.view_is) at c.requires.stays in
    let mid = c.share.new.self in
    let items = c.go.new.history.items in
    let core = c.go.new.core in
    let at : length c.as_slice-at.result.now ≡ length k.history.items = ap length c.as_slice-at.ensures.value in
    let e = c.go.ensures.went.entry in
    let told = last_is k.history.items items e (length c.as_slice-at.result.now) c.index.result.now c.go.ensures.went.longer at c.index.ensures in
    let found = c.found_in-found.ensures ∙ ap found_in (c.as_slice.ensures.effects ∙ ap (λ (x : Entry). x.effects) told) in
    let are = out-notes-next k.script k.history.items k.core mid k.out k.room _ c.self.invariant suits
    c.share.ensures.state c.share.ensures.ready c.share.ensures.notes items core c.args.actor can c.go.ensures.went
    stays c.go.ensures.notes c.found_in-found.result found in
    let notes = subst (λ (n : Notes). AreNotes items (after_in true k.script items) n) (sym c.send.ensures.notes) are in
    out-kernel k.script k.history.items k.core mid k.out k.room _ c.self.invariant suits c.share.ensures.state
    c.share.ensures.ready c.share.ensures.notes items core c.args.actor can c.go.ensures.went c.send.new.core
    c.send.new.out _ c.send.ensures.state c.send.ensures.ready notes c.send.ensures.counted
    (ap (λ (n : Notes). n.places) c.send.ensures.notes
    ∙ notes-place (slip_after c.go.new.core.state c.found_in-found.result c.go.new.core.notes) c.go.new.core.notes
    ∙ ap (λ (n : Notes). n.places) c.go.ensures.notes) c.go.ensures.capacity
    (let room = rw (← c.self.view_is) at c.requires.room in omega arith)

pub returns-clause-mode : goal.returns-clause-mode
returns-clause-mode g c =
    let k = c.self.inside in
    let suits = rw (← c.self.view_is) at c.requires.mode in
    let can = rw (← c.self.view_is) at c.requires.can in
    let stays = rw (← c.self.view_is) at c.requires.stays in
    let mid = c.share.new.self in
    let items = c.go.new.history.items in
    let core = c.go.new.core in
    out-mode k.script k.history.items k.core mid k.out k.room _ c.self.invariant suits c.share.ensures.state
    c.share.ensures.ready c.share.ensures.notes items core c.args.actor can c.go.ensures.went c.send.new.core
    c.send.ensures.state

pub returns-clause-entry : goal.returns-clause-entry
returns-clause-entry g c =
    let k = c.self.inside in
    let suits = rw (← c.self.view_is) at c.requires.mode in
    let can = rw (← c.self.view_is) at c.requires.can in
    let stays = rw (← c.self.view_is) at c.requires.stays in
    let mid = c.share.new.self in
    let items = c.go.new.history.items in
    let core = c.go.new.core in
    let at : length c.as_slice-at.result.now ≡ length k.history.items = ap length c.as_slice-at.ensures.value in
    let e = c.go.ensures.went.entry in
    let told = last_is k.history.items items e (length c.as_slice-at.result.now) c.index.result.now c.go.ensures.went.longer at c.index.ensures in
    let found = c.found_in-found.ensures ∙ ap found_in (c.as_slice.ensures.effects ∙ ap (λ (x : Entry). x.effects) told) in
    rw (← c.self.view_is) (out-sends k.script k.history.items k.core mid k.out k.room _ c.self.invariant suits
    c.share.ensures.state c.share.ensures.ready c.share.ensures.notes items core c.args.actor can c.go.ensures.went
    stays c.go.ensures.notes c.found_in-found.result _ found c.send.ensures.slip)

pub returns-clause-notes : goal.returns-clause-notes
returns-clause-notes g c =
    let core = c.go.new.core in
    rw (← c.self.view_is, c.send.ensures.slip)
    (c.send.ensures.notes ∙ ap (λ (n : Notes). notes_after (slip_after core.state c.found_in-found.result core.notes) n)
    (c.go.ensures.notes ∙ c.share.ensures.notes))

pub returns-clause-legal : goal.returns-clause-legal
returns-clause-legal g c =
    let k = c.self.inside in
    let suits = rw (← c.self.view_is) at c.requires.mode in
    let can = rw (← c.self.view_is) at c.requires.can in
    let stays = rw (← c.self.view_is) at c.requires.stays in
    let mid = c.share.new.self in
    let items = c.go.new.history.items in
    let core = c.go.new.core in
    (out-follows k.script k.history.items k.core mid k.out k.room _ c.self.invariant suits c.share.ensures.state
    c.share.ensures.ready c.share.ensures.notes items core c.args.actor can c.go.ensures.went).legal

pub returns-clause-safe : goal.returns-clause-safe
returns-clause-safe g c = legal_safety true c.self.inside.script c.go.new.history.items c.self.invariant.stands.valid (returns-clause-legal g c)

pub returns-clause-holders : goal.returns-clause-holders
returns-clause-holders g c = holders_ready true c.self.inside.script c.go.new.history.items c.self.invariant.stands.valid
