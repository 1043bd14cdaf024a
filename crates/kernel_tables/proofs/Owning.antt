-- Who may come to own a server, and whose owner may give one up.
use Rattle.std.proofs.Common.{◌≡◌, ◌<◌, [], arith, refl}
use Rattle.sym_base.specs.declared.limits.TheConstants.Limits.{OBJECTS}
use Rattle.sym_base.specs.declared.number.ObjNo.{ObjNo}
use Rattle.entry_log.specs.declared.effect.Holder.{Holder}
use Rattle.entry_log.specs.declared.effect.Holder.TheVariants.{InProcess, InThread, Temp, Own, Link, Message, Kernel}
use Rattle.cleanup.specs.Lists.{HasSome, Lists, is_object}
use Rattle.machine.specs.declared.state.State.{State}
use Rattle.machine.specs.References.{mutex_names, total, count_of}
use Rattle.move_laws.proofs.Lists.Totals.{total_any}
use Rattle.kernel_tables.specs.Moved.{MayLose}
use Rattle.kernel_tables.proofs.GoingLocks.{held_some}
use Rattle.table_moves.specs.Noted.{use_gained, use_lost}
use Rattle.table_moves.specs.Owning.{MayOwn, MayDisown}

-- what nothing refers to nobody owns
pub unowned : (S : State) (o : ObjNo) → count_of S o ≡ 0 → HasSome (is_object o) S.serving.owned → ⊥
unowned S o none some =
    let v = held_some o S.serving.owned some in
    let at = total_any (total (mutex_names o)) S.serving.owned v.thread.0 [] refl in
    let yes = v.held in omega arith

pub may_own : (s : Lists) (h : Holder) (o : ObjNo) → o.0 < s.objects → (HasSome (is_object o) s.servers → ⊥) → MayOwn s h o
may_own s (Own t) o small free = (small, free)
may_own s _ o small free = tt

pub may_disown : (s : Lists) (h : Holder) (o : ObjNo) → s.objects ≡ OBJECTS → MayLose h o → MayDisown s h o
may_disown s (Own t) o listed may = omega arith
may_disown s _ o listed may = tt

-- and so it stays where uses change
pub may_gained : (s : Lists) (h : Holder) (used o : ObjNo) → MayOwn s h o → MayOwn (use_gained h used s) h o
may_gained s (Own t) used o may = may
may_gained s _ used o may = tt

pub may_lost : (s : Lists) (h : Holder) (o : ObjNo) → MayDisown s h o → MayDisown (use_lost h s) h o
may_lost s (Own t) o may = may
may_lost s _ o may = tt
