-- Priorities follow the rows of threads.
use Rattle.std.proofs.Common.{◌≡◌, ◌∙◌, inl, inr, ℕ, List, get_or, set, refl, ap, Bool, true, false}
use Rattle.std.specs.Prelude.{Option, Some, None, option_map}
use Rattle.std.proofs.lemmas.Bool.{cases_eq}
use Rattle.std.proofs.lemmas.List.{get_or-set_other}
use Rattle.sym_base.specs.declared.number.ObjNo.{ObjNo}
use Rattle.entry_log.specs.declared.effect.Holder.{Holder}
use Rattle.entry_log.specs.declared.effect.Holder.TheVariants.{Temp}
use Rattle.state_rows.specs.declared.thread.ThreadRow.{ThreadRow}
use Rattle.machine.specs.Choice.{priority_of_row}
use Rattle.machine.specs.Moves.{threads_gain, threads_lose, threads_closed, with_use, unlinked}
use Rattle.machine.specs.Rows.{with_row}
use Rattle.move_laws.proofs.Holders.ThreadRows.{row-here, row-other}

-- a change of a row that leaves its priority leaves all priorities
rank_row : (row : Option ThreadRow) (f : ThreadRow → ThreadRow) → ((r : ThreadRow) → (f r).priority ≡ r.priority)
    → priority_of_row (option_map f row) ≡ priority_of_row row
rank_row None f keeps = refl
rank_row (Some r) f keeps = keeps r

pub rank-with_row : (threads : List (Option ThreadRow)) (t : ObjNo) (f : ThreadRow → ThreadRow) (u : ObjNo)
    → ((r : ThreadRow) → (f r).priority ≡ r.priority)
    → priority_of_row (get_or (with_row threads t f) u.0 None) ≡ priority_of_row (get_or threads u.0 None)
rank-with_row threads t f u keeps = elim (cases_eq t.0 u.0) [
  | inl at ↦
      ap priority_of_row (row-here threads t f u.0 at)
      ∙ (rank_row (get_or threads t.0 None) f keeps ∙ ap (λ (n : ℕ). priority_of_row (get_or threads n None)) at)
  | inr apart ↦ ap priority_of_row (row-other threads t f u.0 apart)
]

pub rank-gain : (threads : List (Option ThreadRow)) (h : Holder) (o u : ObjNo)
    → priority_of_row (get_or (threads_gain h o threads) u.0 None) ≡ priority_of_row (get_or threads u.0 None)
rank-gain threads (Temp t) o u = rank-with_row threads t (with_use (Some o)) u (λ r. refl)
rank-gain threads _ o u = refl

pub rank-lose : (threads : List (Option ThreadRow)) (h : Holder) (u : ObjNo)
    → priority_of_row (get_or (threads_lose h threads) u.0 None) ≡ priority_of_row (get_or threads u.0 None)
rank-lose threads (Temp t) u = rank-with_row threads t (with_use None) u (λ r. refl)
rank-lose threads _ u = refl

pub rank-closed : (threads : List (Option ThreadRow)) (last : Bool) (o u : ObjNo)
    → priority_of_row (get_or (threads_closed last o threads) u.0 None) ≡ priority_of_row (get_or threads u.0 None)
rank-closed threads true o u = rank-with_row threads o unlinked u (λ r. refl)
rank-closed threads false o u = refl

-- those of the others stay where a row goes
pub rank-other : (threads : List (Option ThreadRow)) (o u : ObjNo) → (u.0 ≡ o.0 → ⊥)
    → priority_of_row (get_or (set threads o.0 None) u.0 None) ≡ priority_of_row (get_or threads u.0 None)
rank-other threads o u apart = ap priority_of_row (get_or-set_other threads o.0 u.0 None None apart)
