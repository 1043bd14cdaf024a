-- What an action does to the history, by what it answers.
use Rattle.std.specs.Prelude.{◌≡◌, ℕ, List, length, Option, Some, None}
use Rattle.sym_base.specs.declared.number.ObjNo.{ObjNo}
use Rattle.script_types.specs.declared.script.Script.{Script}
use Rattle.entry_log.specs.declared.entry.Actor.{Actor}
use Rattle.entry_log.specs.declared.entry.Actor.TheVariants.{Thread}
use Rattle.entry_log.specs.declared.entry.Entry.{Entry}
use Rattle.count_rule.specs.Seats.{Note}
use Rattle.kcore.specs.Finds.{finder}
use Rattle.kcore.specs.OneMore.{SendsOut}
use Rattle.shared_kernel.specs.declared.acted.Acted.{Acted}
use Rattle.shared_kernel.specs.declared.acted.Acted.TheVariants.{Entry as ActedEntry, Seek as ActedSeek}
use Rattle.shared_kernel.specs.declared.answers.Did.{Did}
use Rattle.shared_kernel.specs.declared.answers.Did.TheVariants as did
use Rattle.shared_kernel.specs.declared.answers.Drew.{Drew}
use Rattle.shared_kernel.specs.declared.answers.Drew.TheVariants as drew
use Rattle.shared_kernel.specs.declared.base.KernelBase.{KernelBase}

-- the history is longer by the actor's entry, which stands at this place and finds nothing
pub record MakesEntry (b : KernelBase) (old new : List Entry) (actor : Actor) (place : ℕ) : Type 0 where
  pub made : SendsOut b.script old new actor None
  pub at : place ≡ length new

-- or it finds an object: the actor is this thread, and the ticket is the note of its find, of this kernel's words, and hasn't opened yet
pub record MakesFind (b : KernelBase) (old new : List Entry) (actor : Actor) (place : ℕ) (thread : ObjNo) (ticket : Note) : Type 0 where
  pub made : SendsOut b.script old new actor (Some ticket.slip)
  pub at : place ≡ length new
  pub acts : actor ≡ Thread thread
  pub its : finder ticket.slip.number new ≡ Some thread
  pub unopened : ticket.found ≡ None
  pub same_words : ticket.identity ≡ b.identity

abbrev pub Acts : KernelBase → List Entry → List Entry → Actor → Acted → Type 0
Acts b old new actor (ActedEntry place) = MakesEntry b old new actor place
Acts b old new actor (ActedSeek place thread ticket) = MakesFind b old new actor place thread ticket

-- as callers are told it
abbrev pub did_of : Acted → Did
did_of (ActedEntry place) = did.Entry place
did_of (ActedSeek place thread ticket) = did.Seek place thread ticket

abbrev pub drew_of : Acted → Drew
drew_of (ActedEntry place) = drew.Entry place
drew_of (ActedSeek place thread ticket) = drew.Seek place thread ticket

-- nothing is done after so many entries
pub record Refuses (old new : List Entry) (place : ℕ) : Type 0 where
  pub same : new ≡ old
  pub at : place ≡ length old
