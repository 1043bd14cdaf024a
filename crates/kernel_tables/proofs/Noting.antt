-- What is noted of threads for their deaths follows their rows.
use Rattle.std.proofs.Common.{◌≡◌, ◌∙◌, List, get_or, map, set, refl, sym, ap}
use Rattle.std.specs.Prelude.{option_map, Option, Some, None, true, false, Bool}
use Rattle.std.proofs.lemmas.List.{map-set}
use Rattle.std.proofs.Math.Seq.{map-set_same}
use Rattle.sym_base.specs.declared.number.ObjNo.{ObjNo}
use Rattle.entry_log.specs.declared.effect.Holder.{Holder}
use Rattle.entry_log.specs.declared.effect.Holder.TheVariants.{InProcess, InThread, Temp, Own, Link, Message, Kernel}
use Rattle.entry_log.specs.declared.step.Part.{Part}
use Rattle.cleanup.specs.Lists.{Lists}
use Rattle.machine.specs.declared.state.State.{State}
use Rattle.state_rows.specs.declared.thread.ThreadRow.{ThreadRow}
use Rattle.machine.specs.Moves.{use_of_row, with_use as row_with_use, threads_gain, threads_lose, threads_closed, unlinked, with_opened, advanced}
use Rattle.machine.specs.Rows.{thread_of, with_row}
use Rattle.kernel_tables.specs.Moved.{MayGain, UsesNothing}
use Rattle.table_moves.proofs.Noting.{noted_at}
use Rattle.table_moves.specs.Noted.{with_use, use_gained, use_lost, MayUse, AreNoted}

-- a row that changes otherwise leaves it
use_kept : (row : Option ThreadRow) (f : ThreadRow → ThreadRow) → ((r : ThreadRow) → (f r).uses ≡ r.uses) → use_of_row (option_map f row) ≡ use_of_row row
use_kept None f keeps = refl
use_kept (Some r) f keeps = keeps r

pub noted_row : (s : Lists) (threads : List (Option ThreadRow)) (t : ObjNo) (f : ThreadRow → ThreadRow)
    → ((r : ThreadRow) → (f r).uses ≡ r.uses) → AreNoted s threads → AreNoted s (with_row threads t f)
noted_row s threads t f keeps noted =
    noted ∙ sym (map-set_same use_of_row threads t.0 (option_map f (get_or threads t.0 None)) None (use_kept (get_or threads t.0 None) f keeps))

pub noted_closed : (s : Lists) (threads : List (Option ThreadRow)) (last : Bool) (o : ObjNo) → AreNoted s threads → AreNoted s (threads_closed last o threads)
noted_closed s threads true o noted = noted_row s threads o unlinked (λ r. refl) noted
noted_closed s threads false o noted = noted

-- and so does one that goes and uses nothing
pub noted_swept : (s : Lists) (threads : List (Option ThreadRow)) (o : ObjNo)
    → use_of_row (get_or threads o.0 None) ≡ None → AreNoted s threads → AreNoted s (set threads o.0 None)
noted_swept s threads o unused noted =
    noted ∙ sym (map-set_same use_of_row threads o.0 None None (sym unused))

-- a row whose use changes is noted so
noted_set : (s : Lists) (threads : List (Option ThreadRow)) (t : ObjNo) (row : Option ThreadRow) (uses : Option ObjNo)
    → use_of_row row ≡ uses → AreNoted s threads → AreNoted (with_use s t uses) (set threads t.0 row)
noted_set s threads t row uses is noted =
    ap (λ (l : List (Option ObjNo)). set l t.0 uses) noted ∙ (ap (set (map use_of_row threads) t.0) (sym is) ∙ sym (map-set use_of_row threads t.0 row))

-- a holder that may get a reference may be noted
pub may_use : (s : Lists) (S : State) (h : Holder) → AreNoted s S.references.threads → MayGain S h → MayUse s h
may_use s S (Temp t) noted may = noted_at s S.references.threads t noted ∙ (ap use_of_row may.is ∙ may.unused)
may_use s S (InProcess p i) noted may = tt
may_use s S (InThread t i) noted may = tt
may_use s S (Own t) noted may = tt
may_use s S (Link x) noted may = tt
may_use s S (Message m) noted may = tt
may_use s S Kernel noted may = tt

unused_row : (x : Option ThreadRow) → use_of_row (option_map (row_with_use None) x) ≡ None
unused_row None = refl
unused_row (Some row) = refl

ended_row : (x : Option ThreadRow) → use_of_row (option_map advanced x) ≡ None
ended_row None = refl
ended_row (Some row) = refl

-- a holder gets a reference, and gives it up
pub noted_gained : (s : Lists) (S : State) (h : Holder) (o : ObjNo) → MayGain S h → AreNoted s S.references.threads
    → AreNoted (use_gained h o s) (threads_gain h o S.references.threads)
noted_gained s S (Temp t) o may noted =
    noted_set s S.references.threads t (option_map (row_with_use (Some o)) (get_or S.references.threads t.0 None))
    (Some o) (ap (λ (x : Option ThreadRow). use_of_row (option_map (row_with_use (Some o)) x)) may.is) noted
noted_gained s S (InProcess p i) o may noted = noted
noted_gained s S (InThread t i) o may noted = noted
noted_gained s S (Own t) o may noted = noted
noted_gained s S (Link x) o may noted = noted
noted_gained s S (Message m) o may noted = noted
noted_gained s S Kernel o may noted = noted

-- who comes back uses what it opens
pub noted_opened : (s : Lists) (S : State) (t o : ObjNo) (part : Part) → UsesNothing (thread_of S t)
    → AreNoted s S.references.threads
    → AreNoted (use_gained (Temp t) o s) (with_row S.references.threads t (with_opened o part))
noted_opened s S t o part may noted =
    noted_set s S.references.threads t (option_map (with_opened o part) (get_or S.references.threads t.0 None)) (Some o)
    (ap (λ (x : Option ThreadRow). use_of_row (option_map (with_opened o part) x)) may.is) noted

pub noted_lost : (s : Lists) (threads : List (Option ThreadRow)) (h : Holder) → AreNoted s threads → AreNoted (use_lost h s) (threads_lose h threads)
noted_lost s threads (Temp t) noted =
    noted_set s threads t (option_map (row_with_use None) (get_or threads t.0 None)) None
    (unused_row (get_or threads t.0 None)) noted
noted_lost s threads (InProcess p i) noted = noted
noted_lost s threads (InThread t i) noted = noted
noted_lost s threads (Own t) noted = noted
noted_lost s threads (Link x) noted = noted
noted_lost s threads (Message m) noted = noted
noted_lost s threads Kernel noted = noted

pub noted_ended : (s : Lists) (threads : List (Option ThreadRow)) (t : ObjNo) → AreNoted s threads → AreNoted (with_use s t None) (with_row threads t advanced)
noted_ended s threads t noted = noted_set s threads t (option_map advanced (get_or threads t.0 None)) None (ended_row (get_or threads t.0 None)) noted

-- duties, mutexes and logons stay where uses change
pub duties_gained : (s : Lists) (h : Holder) (o : ObjNo) → (use_gained h o s).duties ≡ s.duties
duties_gained s (Temp t) o = refl
duties_gained s (InProcess p i) o = refl
duties_gained s (InThread t i) o = refl
duties_gained s (Own t) o = refl
duties_gained s (Link x) o = refl
duties_gained s (Message m) o = refl
duties_gained s Kernel o = refl

pub mutexes_gained : (s : Lists) (h : Holder) (o : ObjNo) → (use_gained h o s).mutexes ≡ s.mutexes
mutexes_gained s (Temp t) o = refl
mutexes_gained s (InProcess p i) o = refl
mutexes_gained s (InThread t i) o = refl
mutexes_gained s (Own t) o = refl
mutexes_gained s (Link x) o = refl
mutexes_gained s (Message m) o = refl
mutexes_gained s Kernel o = refl

pub mutexes_lost : (s : Lists) (h : Holder) → (use_lost h s).mutexes ≡ s.mutexes
mutexes_lost s (Temp t) = refl
mutexes_lost s (InProcess p i) = refl
mutexes_lost s (InThread t i) = refl
mutexes_lost s (Own t) = refl
mutexes_lost s (Link x) = refl
mutexes_lost s (Message m) = refl
mutexes_lost s Kernel = refl

pub duties_lost : (s : Lists) (h : Holder) → (use_lost h s).duties ≡ s.duties
duties_lost s (Temp t) = refl
duties_lost s (InProcess p i) = refl
duties_lost s (InThread t i) = refl
duties_lost s (Own t) = refl
duties_lost s (Link x) = refl
duties_lost s (Message m) = refl
duties_lost s Kernel = refl

pub logons_gained : (s : Lists) (h : Holder) (o : ObjNo) → (use_gained h o s).logons ≡ s.logons
logons_gained s (Temp t) o = refl
logons_gained s (InProcess p i) o = refl
logons_gained s (InThread t i) o = refl
logons_gained s (Own t) o = refl
logons_gained s (Link x) o = refl
logons_gained s (Message m) o = refl
logons_gained s Kernel o = refl

pub logons_lost : (s : Lists) (h : Holder) → (use_lost h s).logons ≡ s.logons
logons_lost s (Temp t) = refl
logons_lost s (InProcess p i) = refl
logons_lost s (InThread t i) = refl
logons_lost s (Own t) = refl
logons_lost s (Link x) = refl
logons_lost s (Message m) = refl
logons_lost s Kernel = refl

-- and so do the servers that threads own
pub servers_gained : (s : Lists) (h : Holder) (o : ObjNo) → (use_gained h o s).servers ≡ s.servers
servers_gained s (Temp t) o = refl
servers_gained s (InProcess p i) o = refl
servers_gained s (InThread t i) o = refl
servers_gained s (Own t) o = refl
servers_gained s (Link x) o = refl
servers_gained s (Message m) o = refl
servers_gained s Kernel o = refl

pub servers_lost : (s : Lists) (h : Holder) → (use_lost h s).servers ≡ s.servers
servers_lost s (Temp t) = refl
servers_lost s (InProcess p i) = refl
servers_lost s (InThread t i) = refl
servers_lost s (Own t) = refl
servers_lost s (Link x) = refl
servers_lost s (Message m) = refl
servers_lost s Kernel = refl
