-- The seats between two calls: the kernel's, and those of tickets; and what contracts see of a ticket.
use Rattle.std.specs.Prelude.{◌≡◌, ℕ, ◌+◌, ◌<◌, ◌≤◌, List, [], ◌∷◌, length, All, Option, None}
use Rattle.atomic_table.specs.Seated.{TableId}
use Rattle.atomic_table.specs.declared.shared.Seat.{Seat}
use Rattle.ref_words.specs.declared.answer.Found.{Found}
use Rattle.ref_words.specs.declared.slip.Slip.{Slip}
use Rattle.count_rule.specs.declared.view.Counted.{Counted}
use Rattle.count_rule.specs.declared.view.View.{View}
use Rattle.count_rule.specs.declared.view.View.TheVariants.{Kernel, Ticket}
use Rattle.count_rule.specs.Views.{words_of}
use Rattle.count_rule.specs.Shows.{IsKept}
use Rattle.count_rule.specs.Moves.{counted_of, slip_of}

-- what tells a table from all others, as numbers
abbrev pub identity_of : TableId → List ℕ
identity_of z = z.words ∷ z.slots ∷ z.views_name ∷ z.atom ∷ z.block ∷ z.offset ∷ z.slot_names

-- what contracts see of a ticket: its note, what its open found, and the identity of the words that made it
pub record Note : Type 0 where
  pub slip : Slip
  pub found : Option Found
  pub identity : List ℕ

-- no close that failed waits for its close, and no ticket that was joined for its look
abbrev pub IsCalm : Counted → Type 0
IsCalm k = (k.closing ≡ None) × (k.joined ≡ None)

module _ {S : Type 0} where
  -- what the kernel's seat knows
  abbrev pub counts : Seat S View → Counted
  counts seat = counted_of seat.me.0

  -- it is the first seat of its table, and holds nothing
  abbrev pub IsKernels : TableId → Seat S View → Type 0
  IsKernels z seat = (seat.table_id ≡ z) × (seat.id ≡ 0) × (seat.me ≡ (Kernel (counts seat), []))

  -- a step of the kernel's seat: it knows k then
  abbrev pub Knows : Seat S View → Seat S View → Counted → Type 0
  Knows old new k = (new.table_id ≡ old.table_id) × (new.id ≡ old.id) × (new.me ≡ (Kernel k, []))

  -- the kernel's seat between two calls, beside the own counts that it keeps
  pub record IsSeated (z : TableId) (seat : Seat S View) (own : List ℕ) : Type 0 where
    pub kernels : IsKernels z seat
    pub calm : IsCalm (counts seat)
    pub own_is : (counts seat).own ≡ own
    pub words : length own ≡ z.words
    pub kept : IsKept (words_of [] (counts seat))

  -- a ticket's seat, its place, and what it found
  pub record IsTicket (z : TableId) (seat : Seat S View) (place : ℕ) (found : Option Found) : Type 0 where
    pub table_is : seat.table_id ≡ z
    pub ticket : seat.me ≡ (Ticket (slip_of seat.me.0) found, [])
    pub place_is : (slip_of seat.me.0).place ≡ place
    pub placed : place < z.words

-- The state seat between two calls: its seat, a share of the table for each ticket that may go out, and room for
-- those that are out.
pub record IsWhole {S : Type 0} (z : TableId) (seat : Seat S View) (own : List ℕ) (shares : List TableId) (room : ℕ) : Type 0 where
  pub seated : IsSeated z seat own
  pub same_table : All (λ share. share ≡ z) shares
  pub has_room : 64 ≤ room
  pub in_all : length shares + length (counts seat).out ≡ 64
