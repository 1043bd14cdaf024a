-- What threads owe, where the rows of sessions and messages change.
use Rattle.std.proofs.Common.{◌≡◌, ℕ, ◌<◌, ◌≤◌, List, [], ◌∷◌, get_or, arith, Option, None}
use Rattle.sym_base.specs.declared.number.ObjNo.{ObjNo}
use Rattle.entry_log.specs.declared.effect.Holder.{Holder}
use Rattle.entry_log.specs.declared.effect.Holder.TheVariants.{Temp, Own, Link, Kernel}
use Rattle.entry_log.specs.declared.effect.Holder.TheVariants as holder
use Rattle.state_rows.specs.declared.duty.Owed.{Owed}
use Rattle.state_rows.specs.declared.duty.Owed.TheVariants.{Close, Sweep}
use Rattle.state_rows.specs.ServerRows.{session_at}
use Rattle.state_rows.specs.declared.servers.ServerRows.{ServerRows}
use Rattle.state_rows.specs.declared.thread.ThreadRow.{ThreadRow}
use Rattle.machine.specs.References.{owed_names, total}
use Rattle.machine.specs.WellFormed.{AreDuties, EachMayOwe, MayOwe}
use Rattle.move_laws.proofs.References.Same.{same_self}
use Rattle.move_laws.proofs.Lists.Totals.{total_within}

-- what a duty names is no session still, and what was a session is one
each_may_owe-servers : (threads : List (Option ThreadRow)) (r new : ServerRows) (accepted more k : ℕ) (what : List Owed)
    → accepted ≤ more → ((o : ObjNo) → 0 < total (owed_names o) what → session_at r o ≡ None → session_at new o ≡ None)
    → EachMayOwe threads r accepted k what
    → EachMayOwe threads new more k what
each_may_owe-servers threads r new accepted more k [] le none own = tt
each_may_owe-servers threads r new accepted more k (Close h o ∷ rest) le none own = (
  may h own.0,
  each_may_owe-servers threads r new accepted more k rest le
      (λ x some. none x (omega arith)) own.1,
)
  where
    may : (h : Holder) → MayOwe threads r accepted k h o rest → MayOwe threads new more k h o rest
    may (Temp u) own = own
    may (Own u) own = own
    may (Link x) own = ((own.0.0, none o (let one = same_self o in omega arith) own.0.1), own.1)
    may (holder.Message m) own = omega arith
    may Kernel own = tt
    may _ own = absurd own
each_may_owe-servers threads r new accepted more k (Sweep o ∷ rest) le none own =
    each_may_owe-servers threads r new accepted more k rest le (λ x some. none x (omega arith)) own

pub duties-servers : (threads : List (Option ThreadRow)) (r new : ServerRows) (accepted more : ℕ)
    (owed : List (List Owed))
    → accepted ≤ more
    → ((o : ObjNo) → 0 < total (total (owed_names o)) owed → session_at r o ≡ None → session_at new o ≡ None)
    → AreDuties threads r accepted owed
    → AreDuties threads new more owed
duties-servers threads r new accepted more owed le none h = record {
  own =
      λ k. each_may_owe-servers threads r new accepted more k (get_or owed k []) le
      (λ o some. none o (let a = total_within (owed_names o) owed k in omega arith)) (h.own k);
  few = h.few;
  returns = h.returns;
}
