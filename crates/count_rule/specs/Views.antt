-- What the seats of the table know, and how tickets are counted in a list of views.
use Rattle.std.specs.Prelude.{ℕ, ◌+◌, Bool, true, false, ◌&&◌, ◌==◌, List, [], ◌∷◌, slice_index, slice_index_or, replicate, if◌then◌else◌, Option, Some, None}
use Rattle.ref_words.specs.declared.answer.Found.{Found}
use Rattle.ref_words.specs.declared.answer.Found.TheVariants.{Held, Dead}
use Rattle.ref_words.specs.declared.answer.Stage.{Stage}
use Rattle.ref_words.specs.declared.answer.Stage.TheVariants.{Fresh}
use Rattle.ref_words.specs.declared.slip.Slip.{Slip}
use Rattle.ref_words.specs.Words.{Words}
use Rattle.count_rule.specs.declared.view.Counted.{Counted}
use Rattle.count_rule.specs.declared.view.View.{View}
use Rattle.count_rule.specs.declared.view.View.TheVariants.{Kernel, Ticket, Spent}

-- what a word has from the moment its place is gone: 2 ^ 63
abbrev pub mark : ℕ
mark = 9223372036854775808

-- a kernel with so many places, none of them created
abbrev pub fresh_counted : ℕ → Counted
fresh_counted n = record { own = replicate n 0; stages = replicate n Fresh; out = []; made = 0; late = replicate n 0; closing = None; joined = None }

-- the counts and notes that the kernel's view is of, under an identity
abbrev pub words_of : List ℕ → Counted → Words
words_of identity k = record { own = k.own; stages = k.stages; out = k.out; made = k.made; identity = identity }

-- what the kernel knows of a place: its own count
abbrev pub own_of : Counted → ℕ → ℕ
own_of k p = slice_index k.own p

-- the place's stage, fresh where there is no such place
abbrev pub stage_of : Counted → ℕ → Stage
stage_of k p = slice_index_or k.stages p Fresh

-- and how many of its tickets came back dead
abbrev pub late_of : Counted → ℕ → ℕ
late_of k p = slice_index k.late p

-- 1 where the view is that of a ticket that passes the test, and 0 else
abbrev pub ticket_bit : (Slip → Option Found → Bool) → View → ℕ
ticket_bit test (Kernel k) = 0
ticket_bit test (Ticket slip found) = if test slip found then 1 else 0
ticket_bit test Spent = 0

-- how many tickets pass a test
abbrev pub tickets : (Slip → Option Found → Bool) → List View → ℕ
tickets test [] = 0
tickets test (v ∷ vs) = ticket_bit test v + tickets test vs

-- whether a ticket has opened its object, and so holds
abbrev pub holds_open : Option Found → Bool
holds_open (Some Held) = true
holds_open (Some Dead) = false
holds_open None = false

-- whether a ticket has found its object dead
abbrev pub found_dead : Option Found → Bool
found_dead (Some Held) = false
found_dead (Some Dead) = true
found_dead None = false

-- how many tickets of a place hold
abbrev pub holding : ℕ → List View → ℕ
holding p views = tickets (λ slip found. (slip.place == p) && holds_open found) views

-- how many found it dead, and aren't back
abbrev pub too_late : ℕ → List View → ℕ
too_late p views = tickets (λ slip found. (slip.place == p) && found_dead found) views
