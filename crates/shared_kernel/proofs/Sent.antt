-- What a caller is told of the last entry, by whether a ticket went out.
use Rattle.std.proofs.Common.{◌≡◌, ◌∙◌, sym, ap, refl, arith, ℕ, ◌+◌, ◌-◌, ◌≤◌, List, [], ◌∷◌, ◌++◌, length, length-append, get_or, Option, Some, None}
use Rattle.std.proofs.Math.Seq.{get_or-append_seam}
use Rattle.std.specs.Prelude.{IfSome}
use Rattle.sym_base.specs.declared.number.ObjNo.{ObjNo}
use Rattle.entry_log.specs.declared.entry.Actor.{Actor}
use Rattle.entry_log.specs.declared.entry.Actor.TheVariants.{Thread, Irq, Idfc, Tick, Idle}
use Rattle.entry_log.specs.declared.entry.Entry.{Entry}
use Rattle.ref_words.specs.declared.slip.Slip.{Slip}
use Rattle.count_rule.specs.Seats.{Note}
use Rattle.table_moves.specs.Notes.{Notes}
use Rattle.kcore.specs.Sending.{notes_after}
use Rattle.kcore.specs.OneMore.{IsFinder, SendsOut}
use Rattle.shared_kernel.specs.declared.base.KernelBase.{KernelBase}
use Rattle.shared_kernel.specs.Acts.{MakesFind}
use Rattle.shared_kernel.specs.Told.{thread_in, IsUnopened}

-- one note more is out at most, and the words are the same
pub out-few : (sent : Option Slip) (notes : Notes) → length (notes_after sent notes).out ≤ length notes.out + 1
out-few None notes = omega arith
out-few (Some s) notes = let more = length-append notes.out (record { place = s.place; number = notes.made + 1 } ∷ []) in omega arith

pub words-stay : (sent : Option Slip) (notes : Notes) → (notes_after sent notes).identity ≡ notes.identity
words-stay None notes = refl
words-stay (Some s) notes = refl

-- one entry more
pub one-longer : (old new : List Entry) (e : Entry) → new ≡ old ++ e ∷ [] → length new ≡ length old + 1
one-longer old new e longer = ap length longer ∙ length-append old (e ∷ [])

-- the last entry is the one that was made
last-is : (before history : List Entry) (e d : Entry) → history ≡ before ++ e ∷ [] → get_or history (length history - 1) d ≡ e
last-is before history e d longer =
    let many = one-longer before history e longer in
    let at : length history - 1 ≡ length before = omega arith in
    ap (λ (k : ℕ). get_or history k d) at ∙ (ap (λ (l : List Entry). get_or l (length before) d) longer ∙ get_or-append_seam before e [] d)

-- an actor that is no thread
none-in : (actor : Actor) → ((t : ObjNo) → actor ≡ Thread t → ⊥) → None ≡ thread_in actor
none-in (Thread t) other = absurd (other t refl)
none-in (Irq k) other = refl
none-in Idfc other = refl
none-in Tick other = refl
none-in Idle other = refl

-- so the actor of the last entry is a thread or none
pub last-thread : (before history : List Entry) (e d : Entry) (t : ObjNo) → history ≡ before ++ e ∷ []
    → (get_or history (length history - 1) d).actor ≡ Thread t → Some t ≡ thread_in e.actor
last-thread before history e d t longer is = sym (ap thread_in is) ∙ ap (λ (x : Entry). thread_in x.actor) (last-is before history e d longer)

pub last-none : (before history : List Entry) (e d : Entry) → history ≡ before ++ e ∷ []
    → ((t : ObjNo) → (get_or history (length history - 1) d).actor ≡ Thread t → ⊥) → None ≡ thread_in e.actor
last-none before history e d longer apart =
    none-in e.actor (λ (t : ObjNo) (is : e.actor ≡ Thread t). apart t
    (ap (λ (x : Entry). x.actor) (last-is before history e d longer) ∙ is))

-- a ticket that just went out is as callers are told it
pub unopened : (b : KernelBase) (identity : List ℕ) (Fits : Note → Type 0) (sent : Option Note) → identity ≡ b.identity
    → IfSome sent (λ note. (note.found ≡ None) × (note.identity ≡ identity) × Fits note) → IfSome sent (IsUnopened b)
unopened b identity Fits None same fresh = tt
unopened b identity Fits (Some ticket) same fresh = (fresh.0, fresh.1 ∙ same)

-- the actor of the entry that was made
by-actor : (b : KernelBase) (old new : List Entry) (actor : Actor) (sent : Option Slip)
    → (made : SendsOut b.script old new actor sent) → made.more.entry.actor ≡ actor
by-actor b old new actor sent made = ap (λ (e : Entry). e.actor) made.more.told

module _ (b : KernelBase) (old new : List Entry) (actor : Actor) (s : Slip) where
  -- a find is a thread's
  pub no-finder : SendsOut b.script old new actor (Some s) → ((before : List Entry) → (e : Entry) → new ≡ before ++ e ∷ [] → None ≡ thread_in e.actor) → ⊥
  no-finder made last =
      let finder : IsFinder new actor s = made.finder in
      let one : None ≡ thread_in actor = last old made.more.entry made.more.longer ∙ ap thread_in (by-actor b old new actor (Some s) made) in
      let two : thread_in actor ≡ Some finder.thread = ap thread_in finder.acts in
      cc

-- which is told with the ticket
pub makes-find : (b : KernelBase) (old new : List Entry) (actor : Actor) (place : ℕ) (thread : ObjNo) (ticket : Note)
    → SendsOut b.script old new actor (Some ticket.slip)
    → ((before : List Entry) → (e : Entry) → new ≡ before ++ e ∷ [] → Some thread ≡ thread_in e.actor) → place
    ≡ length new → IsUnopened b ticket → MakesFind b old new actor place thread ticket
makes-find b old new actor place thread ticket made last at fresh =
    let finder : IsFinder new actor ticket.slip = made.finder in
    let one : Some thread ≡ thread_in actor = last old made.more.entry made.more.longer ∙ ap thread_in (by-actor b old new actor (Some ticket.slip) made) in
    let two : thread_in actor ≡ Some finder.thread = ap thread_in finder.acts in
    let same : finder.thread ≡ thread = cc in
    record { made = made; at = at; acts = finder.acts ∙ ap Thread same; its = finder.its ∙ ap Some same; unopened = fresh.0; same_words = fresh.1 }
