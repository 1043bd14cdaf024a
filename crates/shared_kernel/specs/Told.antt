-- What is told of an entry: its thread, and the ticket that went out.
use Rattle.std.specs.Prelude.{◌≡◌, Some, None, Option, option_map}
use Rattle.sym_base.specs.declared.number.ObjNo.{ObjNo}
use Rattle.entry_log.specs.declared.entry.Actor.{Actor}
use Rattle.entry_log.specs.declared.entry.Actor.TheVariants.{Thread}
use Rattle.ref_words.specs.declared.slip.Slip.{Slip}
use Rattle.count_rule.specs.Seats.{Note}
use Rattle.shared_kernel.specs.declared.base.KernelBase.{KernelBase}

-- the thread that an actor is
abbrev pub thread_in : Actor → Option ObjNo
thread_in (Thread t) = Some t
thread_in _ = None

-- the notes of tickets
abbrev pub slip_of : Option Note → Option Slip
slip_of sent = option_map (λ (ticket : Note). ticket.slip) sent

-- it is of this kernel's words, and hasn't opened its object yet
abbrev pub IsUnopened : KernelBase → Note → Type 0
IsUnopened b ticket = (ticket.found ≡ None) × (ticket.identity ≡ b.identity)
