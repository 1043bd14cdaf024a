-- What each kind of atomic step makes of the view of its one seat.
use Rattle.std.specs.Prelude.{◌≡◌, ◌≢◌, ℕ, ◌+◌, ◌-◌, Bool, true, false, ◌==◌, nat_lt, List, [], ◌∷◌, ◌++◌, slice_set, if◌then◌else◌, IfSome, IsTrue, Some, None}
use Rattle.std.specs.List.{list_any}
use Rattle.atomic_table.specs.Table.{Step, Me}
use Rattle.ref_words.specs.declared.answer.Found.{Found}
use Rattle.ref_words.specs.declared.answer.Found.TheVariants.{Held, Dead}
use Rattle.ref_words.specs.declared.answer.Stage.TheVariants.{InUse, Gone}
use Rattle.ref_words.specs.declared.slip.Slip.{Slip}
use Rattle.ref_words.specs.Words.{without, own_found}
use Rattle.count_rule.specs.declared.view.Counted.{Counted}
use Rattle.count_rule.specs.declared.view.View.{View}
use Rattle.count_rule.specs.declared.view.View.TheVariants.{Kernel, Ticket, Spent}
use Rattle.count_rule.specs.Views.{mark, fresh_counted, words_of, own_of, late_of}
use Rattle.count_rule.specs.Shows.{WasOut, IsFoundAt}

-- create: own count 1
abbrev pub creating : ℕ → Counted → Counted
creating p k = record k { own = slice_set k.own p 1; stages = slice_set k.stages p InUse }

-- known open: one more
abbrev pub opening_known : ℕ → Counted → Counted
opening_known p k = record k { own = slice_set k.own p (own_of k p + 1) }

-- the last close: own count 0, and gone
abbrev pub closing_last : ℕ → Counted → Counted
closing_last p k = record k { own = slice_set k.own p (own_of k p - 1); stages = slice_set k.stages p Gone }

-- a last close that failed: the place is named until its close
abbrev pub failing : ℕ → Counted → Counted
failing p k = record k { closing = Some p }

-- a compare and exchange of 1 for the mark, which wins or fails
abbrev pub tried : ℕ → Bool → Counted → Counted
tried p true k = closing_last p k
tried p false k = failing p k

-- a close: one less, and no place is named
abbrev pub closing_one : ℕ → Counted → Counted
closing_one p k = record k { own = slice_set k.own p (own_of k p - 1); closing = None }

-- a split: one more note is out, with the next number
abbrev pub sending : ℕ → Counted → Counted
sending p k = record k { out = k.out ++ record { place = p; number = k.made + 1 } ∷ []; made = k.made + 1 }

-- one more ticket came back dead, where it had found its place dead
abbrev pub late_found : Found → Counted → ℕ → List ℕ
late_found Held k p = k.late
late_found Dead k p = slice_set k.late p (late_of k p + 1)

-- a join: the note is out no longer, what it held is counted, and it is noted
abbrev pub joining : Slip → Found → Counted → Counted
joining slip found k =
    record k {
      own = own_found found (words_of [] k) slip.place;
      out = without slip k.out;
      late = late_found found k slip.place;
      joined = Some record { slip = slip; found = found; before = k.out };
    }

-- a look after a join: the note was out
abbrev pub looking : Counted → Counted
looking k = record k { joined = None }

-- what a ticket finds by the word that was there: the mark tells
abbrev pub found_at : ℕ → Found
found_at n = if nat_lt n mark then Held else Dead

-- what the kernel knows, by its view
abbrev pub counted_of : View → Counted
counted_of (Kernel k) = k
counted_of (Ticket slip found) = fresh_counted 0
counted_of Spent = fresh_counted 0

-- the view of a kernel whose knowledge changes
abbrev pub in_kernel : (Counted → Counted) → View → View
in_kernel change v = Kernel (change (counted_of v))

-- the note of a ticket's view
abbrev pub slip_of : View → Slip
slip_of (Kernel k) = record { place = 0; number = 0 }
slip_of (Ticket slip found) = slip
slip_of Spent = record { place = 0; number = 0 }

-- what a ticket had found; a ticket that didn't open comes back dead
abbrev pub found_of : View → Found
found_of (Kernel k) = Dead
found_of (Ticket slip (Some found)) = found
found_of (Ticket slip None) = Dead
found_of Spent = Dead

-- the seat's view becomes another, and it holds what it held
abbrev pub Becomes : {S : Type 0} → Me S View → Me S View → View → Type 0
Becomes old new v = new ≡ (v, old.1)

module _ {S : Type 0} where
  -- open: the ticket has found its object held, or dead where the old word has the mark
  abbrev pub opens : Step S → Me S View → ℕ → Me S View → Type 0
  opens step old n new = Becomes old new (Ticket (slip_of old.0) (Some (found_at n))) × IsFoundAt (slip_of old.0) (found_at n)

  -- create: the kernel knows own count 1 at the word's place
  abbrev pub creates : Step S → Me S View → ℕ → Me S View → Type 0
  creates step old n new = Becomes old new (in_kernel (creating step.word) old.0)

  -- known open: one more
  abbrev pub opens_known : Step S → Me S View → ℕ → Me S View → Type 0
  opens_known step old n new = Becomes old new (in_kernel (opening_known step.word) old.0)

  -- a compare and exchange of 1 for the mark: it fails only where a note of the place is out
  abbrev pub tries_last : Step S → Me S View → ℕ → Me S View → Type 0
  tries_last step old n new =
      Becomes old new (in_kernel (tried step.word (n == 1)) old.0) × (n ≢ 1 → IsTrue (list_any (λ slip. slip.place == step.word) (counted_of old.0).out))

  -- close: one less
  abbrev pub closes : Step S → Me S View → ℕ → Me S View → Type 0
  closes step old n new = Becomes old new (in_kernel (closing_one step.word) old.0)

  -- a look tells besides that the note was out, and that its answer was right
  abbrev pub looks : Step S → Me S View → ℕ → Me S View → Type 0
  looks step old n new = Becomes old new (in_kernel looking old.0) × IfSome (counted_of old.0).joined (WasOut (counted_of old.0))

-- what a split leaves with the kernel
abbrev pub sent : ℕ → View → View
sent p v = in_kernel (sending p) v

-- and what the new ticket has
abbrev pub new_ticket : ℕ → View → View
new_ticket p v = Ticket (record { place = p; number = (counted_of v).made + 1 }) None

-- what a join leaves with the kernel
abbrev pub joined_with : View → View → View
joined_with v w = in_kernel (joining (slip_of w) (found_of w)) v
