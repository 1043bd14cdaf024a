-- What is kept of threads beside their rows follows the rows.
use Rattle.std.proofs.Common.{◌≡◌, ◌∙◌, inl, inr, ℕ, ◌<◌, List, length, get_or, set, refl, sym, ap, Bool}
use Rattle.std.specs.Prelude.{Option, Some, None, option_map}
use Rattle.std.proofs.lemmas.Bool.{cases_eq, cases_lt}
use Rattle.std.proofs.lemmas.List.{get_or-set_same, get_or-set_other, get_or_past, length-set, set_past}
use Rattle.sym_base.specs.declared.number.ObjNo.{ObjNo}
use Rattle.entry_log.specs.declared.effect.Holder.{Holder}
use Rattle.entry_log.specs.declared.effect.Holder.TheVariants.{InProcess, InThread, Temp, Own, Link, Message, Kernel}
use Rattle.entry_log.specs.declared.step.Part.{Part}
use Rattle.cleanup.specs.Lists.{Lists}
use Rattle.state_rows.specs.declared.thread.ThreadRow.{ThreadRow}
use Rattle.machine.specs.declared.state.State.{State}
use Rattle.machine.specs.Choice.{priority_of_row}
use Rattle.machine.specs.Moves.{threads_gain, threads_lose, threads_closed, advanced, use_of_row, with_opened, with_priority}
use Rattle.machine.specs.Rows.{thread_of, with_row}
use Rattle.move_laws.proofs.Holders.ThreadRows.{row-here, row-other}
use Rattle.kernel_tables.specs.Moved.{MayGain, UsesNothing}
use Rattle.table_moves.specs.Noted.{use_gained, use_lost, with_use}
use Rattle.kernel_tables.specs.Noted.{AreTied}
use Rattle.kernel_tables.proofs.Noting.{noted_row, noted_closed, noted_swept, noted_gained, noted_opened, noted_lost, noted_ended}
use Rattle.kernel_tables.proofs.Ranks.{rank-with_row, rank-gain, rank-lose, rank-closed, rank-other}

-- the lists are of the same objects where uses change
pub objects_gained : (s : Lists) (h : Holder) (o : ObjNo) → (use_gained h o s).objects ≡ s.objects
objects_gained s (Temp t) o = refl
objects_gained s (InProcess p i) o = refl
objects_gained s (InThread t i) o = refl
objects_gained s (Own t) o = refl
objects_gained s (Link x) o = refl
objects_gained s (Message m) o = refl
objects_gained s Kernel o = refl

pub objects_lost : (s : Lists) (h : Holder) → (use_lost h s).objects ≡ s.objects
objects_lost s (Temp t) = refl
objects_lost s (InProcess p i) = refl
objects_lost s (InThread t i) = refl
objects_lost s (Own t) = refl
objects_lost s (Link x) = refl
objects_lost s (Message m) = refl
objects_lost s Kernel = refl

-- what is taken away isn't there
none_at : {A : Type 0} (xs : List A) (i k : ℕ) (none : A) → k ≡ i → get_or (set xs i none) k none ≡ none
none_at xs i k none at = ap (λ (n : ℕ). get_or (set xs i none) n none) at ∙ elim (cases_lt i (length xs)) [
  | inl inside ↦ get_or-set_same xs i none none inside
  | inr past ↦ ap (λ l. get_or l i none) (set_past xs i none past) ∙ get_or_past xs i none past
]

module _ (s : Lists) (priorities : List ℕ) where
  -- a row changes, but for its use and its priority
  pub tied_row : (threads : List (Option ThreadRow)) (t : ObjNo) (f : ThreadRow → ThreadRow)
      → ((r : ThreadRow) → (f r).uses ≡ r.uses) → ((r : ThreadRow) → (f r).priority ≡ r.priority)
      → AreTied s.temporary s.objects priorities threads
      → AreTied s.temporary s.objects priorities (with_row threads t f)
  tied_row threads t f uses ranks h = record {
    uses = noted_row s threads t f uses h.uses;
    ranks = λ u. h.ranks u ∙ sym (rank-with_row threads t f u ranks);
    listed = h.listed;
    ranked = h.ranked;
  }

  -- a reference is closed
  pub tied_closed : (threads : List (Option ThreadRow)) (last : Bool) (o : ObjNo)
      → AreTied s.temporary s.objects priorities threads
      → AreTied s.temporary s.objects priorities (threads_closed last o threads)
  tied_closed threads last o h = record {
    uses = noted_closed s threads last o h.uses;
    ranks = λ u. h.ranks u ∙ sym (rank-closed threads last o u);
    listed = h.listed;
    ranked = h.ranked;
  }

  -- a row goes that uses nothing, and its priority with it
  pub tied_swept : (threads : List (Option ThreadRow)) (o : ObjNo) → use_of_row (get_or threads o.0 None) ≡ None
      → AreTied s.temporary s.objects priorities threads
      → AreTied s.temporary s.objects (set priorities o.0 0) (set threads o.0 None)
  tied_swept threads o unused h = record {
    uses = noted_swept s threads o unused h.uses;
    ranks = λ u. elim (cases_eq u.0 o.0) [
      | inl at ↦ none_at priorities o.0 u.0 0 at ∙ sym (ap priority_of_row (none_at threads o.0 u.0 None at))
      | inr apart ↦ get_or-set_other priorities o.0 u.0 0 0 apart ∙ (h.ranks u ∙ sym (rank-other threads o u apart))
    ];
    listed = h.listed;
    ranked = length-set priorities o.0 0 ∙ h.ranked;
  }

  -- a holder gets a reference, and gives it up
  pub tied_gained : (S : State) (h : Holder) (o : ObjNo) → MayGain S h
      → AreTied s.temporary s.objects priorities S.references.threads → let u = use_gained h o s in
      AreTied u.temporary u.objects priorities (threads_gain h o S.references.threads)
  tied_gained S h o may tied = record {
    uses = noted_gained s S h o may tied.uses;
    ranks = λ u. tied.ranks u ∙ sym (rank-gain S.references.threads h o u);
    listed = objects_gained s h o ∙ tied.listed;
    ranked = tied.ranked;
  }

  -- a thread comes back and opens an object
  pub tied_opened : (S : State) (t o : ObjNo) (part : Part) → UsesNothing (thread_of S t)
      → AreTied s.temporary s.objects priorities S.references.threads → let u = use_gained (Temp t) o s in
      AreTied u.temporary u.objects priorities (with_row S.references.threads t (with_opened o part))
  tied_opened S t o part may tied = record {
    uses = noted_opened s S t o part may tied.uses;
    ranks = λ u. tied.ranks u ∙ sym (rank-with_row S.references.threads t (with_opened o part) u (λ r. refl));
    listed = tied.listed;
    ranked = tied.ranked;
  }

  pub tied_lost : (threads : List (Option ThreadRow)) (h : Holder) → AreTied s.temporary s.objects priorities threads
      → let u = use_lost h s in AreTied u.temporary u.objects priorities (threads_lose h threads)
  tied_lost threads h tied = record {
    uses = noted_lost s threads h tied.uses;
    ranks = λ u. tied.ranks u ∙ sym (rank-lose threads h u);
    listed = objects_lost s h ∙ tied.listed;
    ranked = tied.ranked;
  }

  -- an instruction ends
  pub tied_ended : (threads : List (Option ThreadRow)) (t : ObjNo) → AreTied s.temporary s.objects priorities threads
      → let u = with_use s t None in AreTied u.temporary u.objects priorities (with_row threads t advanced)
  tied_ended threads t tied = record {
    uses = noted_ended s threads t tied.uses;
    ranks = λ u. tied.ranks u ∙ sym (rank-with_row threads t advanced u (λ r. refl));
    listed = tied.listed;
    ranked = tied.ranked;
  }

  -- a thread gets a priority
  pub tied_ranked : (threads : List (Option ThreadRow)) (t : ObjNo) (row : ThreadRow) (p : ℕ)
      → get_or threads t.0 None ≡ Some row → t.0 < length priorities → AreTied s.temporary s.objects priorities threads
      → AreTied s.temporary s.objects (set priorities t.0 p) (with_row threads t (with_priority p))
  tied_ranked threads t row p is inside tied = record {
    uses = noted_row s threads t (with_priority p) (λ r. refl) tied.uses;
    ranks = λ u. elim (cases_eq t.0 u.0) [
      | inl at ↦
          ap (λ (i : ℕ). get_or (set priorities t.0 p) i 0) (sym at) ∙ (get_or-set_same priorities t.0 p 0 inside
          ∙ sym (ap priority_of_row (row-here threads t (with_priority p) u.0 at)
          ∙ ap (λ (x : Option ThreadRow). priority_of_row (option_map (with_priority p) x)) is))
      | inr apart ↦
          get_or-set_other priorities t.0 u.0 p 0 (λ q. apart (sym q))
          ∙ (tied.ranks u ∙ sym (ap priority_of_row (row-other threads t (with_priority p) u.0 apart)))
    ];
    listed = tied.listed;
    ranked = length-set priorities t.0 p ∙ tied.ranked;
  }
