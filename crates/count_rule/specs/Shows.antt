-- Words and views: what the words of the table show of the kernel's counts and of the tickets.
use Rattle.std.specs.Prelude.{◌≡◌, ℕ, ◌+◌, ◌<◌, ◌≤◌, ◌↔◌, Bool, List, [], length, filter, slice_index, IfSome, None, IsTrue}
use Rattle.std.specs.List.{list_any}
use mathlib.Core.Option.{some}
use lib.ListN.{get_elem?}
use Rattle.atomic_table.specs.Table.{State}
use Rattle.ref_words.specs.declared.answer.Found.{Found}
use Rattle.ref_words.specs.declared.answer.Found.TheVariants.{Dead}
use Rattle.ref_words.specs.declared.answer.Stage.{Stage}
use Rattle.ref_words.specs.declared.answer.Stage.TheVariants.{Fresh, InUse, Gone}
use Rattle.ref_words.specs.declared.slip.Slip.{Slip}
use Rattle.ref_words.specs.Words.{Words, own_at, stage_at, IsCreated, IsOut, NoneCreated, same_slip}
use Rattle.ref_words.specs.Plain.{notes_of, copies_of}
use Rattle.count_rule.specs.declared.view.Counted.{Counted}
use Rattle.count_rule.specs.declared.view.Joined.{Joined}
use Rattle.count_rule.specs.declared.view.View.{View}
use Rattle.count_rule.specs.declared.view.View.TheVariants.{Kernel, Ticket}
use Rattle.count_rule.specs.Views.{mark, words_of, own_of, stage_of, late_of, tickets, holding, too_late}

-- What counts and notes keep at any time: only a place in use has an own count; only created places have
-- notes out, each once and with a number of those that were given; while no place is created none was made; and no
-- count comes near its type's end.
pub record IsKept (w : Words) : Type 0 where
  pub sizes : length w.stages ≡ length w.own
  pub in_use : (p : ℕ) → 0 < own_at w p → stage_at w p ≡ InUse
  pub few : length w.out ≤ 64
  pub out_created : (s : Slip) → IsOut w s → IsCreated w s.place
  pub numbered : (s : Slip) → w.made < s.number → copies_of s w.out ≡ 0
  pub once : (s : Slip) → copies_of s w.out ≤ 1
  pub unmade : NoneCreated w → w.made ≡ 0
  pub small : (p : ℕ) → own_at w p + notes_of p w.out ≤ 2147483712

-- A word, by its place's stage: nothing at a fresh place; at one in use the own count and the tickets that hold,
-- and never 0; at a gone place the mark, and the tickets that came too late, while no ticket holds.
abbrev pub IsShown : Stage → ℕ → ℕ → ℕ → ℕ → Type 0
IsShown Fresh word own holds late = (word ≡ 0) × (own ≡ 0) × (holds ≡ 0) × (late ≡ 0)
IsShown InUse word own holds late = (word ≡ own + holds) × (0 < word) × (late ≡ 0)
IsShown Gone word own holds late = (word ≡ mark + late) × (own ≡ 0) × (holds ≡ 0)

-- the word of a place shows its count, and the tickets on it
abbrev pub IsShownAt : Counted → List ℕ → List View → ℕ → Type 0
IsShownAt k words views p = IsShown (stage_of k p) (slice_index words p) (own_of k p) (holding p views) (late_of k p + too_late p views)

-- a ticket that was joined was out, and had found its object dead exactly where its place is gone
abbrev pub WasOut : Counted → Joined → Type 0
WasOut k joined = IsTrue (list_any (λ other. same_slip other joined.slip) joined.before) × ((joined.found ≡ Dead) ↔ (stage_of k joined.slip.place ≡ Gone))

-- a place whose last close failed has own count 1, and a ticket on it holds
abbrev pub IsStillHeld : Counted → List ℕ → ℕ → Type 0
IsStillHeld k words p = (p < length words) × (own_of k p ≡ 1) × (2 ≤ slice_index words p)

-- The words show what the kernel counted and what the tickets hold. The tickets are the notes that are out,
-- whichever of them are counted.
pub record Shows (k : Counted) (words : List ℕ) (views : List View) : Type 0 where
  pub as_many : length words ≡ length k.own
  pub late_sizes : length k.late ≡ length k.own
  pub shown : (p : ℕ) → p < length words → IsShownAt k words views p
  pub are_notes : (test : Slip → Bool) → tickets (λ slip found. test slip) views ≡ length (filter test k.out)
  pub kept : IsKept (words_of [] k)
  pub few_late : (p : ℕ) → late_of k p + notes_of p k.out ≤ k.made
  pub few_made : k.made < 4294967296
  pub closing : IfSome k.closing (IsStillHeld k words)
  pub joined : IfSome k.joined (WasOut k)

-- the rule of the table: the first seat is the kernel's, and the words show what it knows, beside all views
pub record Holds {S : Type 0} (s : State S View) : Type 0 where
  pub kernel : Counted
  pub seated : get_elem? s.views 0 ≡ some (Kernel kernel)
  pub shows : Shows kernel s.words s.views

-- At some moment the words showed what the kernel knew, a ticket for the note hadn't opened, and its place was gone exactly
-- where it was found dead.
pub record IsFoundAt (slip : Slip) (found : Found) : Type 0 where
  pub kernel : Counted
  pub words : List ℕ
  pub views : List View
  pub seat : ℕ
  pub shows : Shows kernel words views
  pub ticket : get_elem? views seat ≡ some (Ticket slip None)
  pub dead : (found ≡ Dead) ↔ (stage_of kernel slip.place ≡ Gone)
