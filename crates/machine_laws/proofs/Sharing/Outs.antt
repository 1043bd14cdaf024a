-- How many threads are between a find and their return: one more by a find, one fewer by a return, and as many by whatever else is done.
use Rattle.std.proofs.Common.{◌≡◌, ℕ, zero, suc, ◌+◌, ◌<◌, ◌≤◌, List, [], ◌∷◌, get_or, length, map, arith, refl, ap, sym, ◌∙◌, Option, Some, None, Bool, true, false}
use Rattle.std.specs.Prelude.{if◌then◌else◌, option_map}
use Rattle.sym_base.specs.declared.number.ObjNo.{ObjNo}
use Rattle.script_types.specs.declared.script.Script.{Script}
use Rattle.script_types.specs.Shape.{IsShaped}
use Rattle.entry_log.specs.declared.effect.Holder.{Holder}
use Rattle.entry_log.specs.declared.effect.Holder.TheVariants.{Temp}
use Rattle.entry_log.specs.declared.entry.Actor.{Actor}
use Rattle.entry_log.specs.declared.entry.Actor.TheVariants.{Thread, Irq, Idfc, Tick, Idle}
use Rattle.entry_log.specs.declared.step.Part.{Part}
use Rattle.entry_log.specs.declared.step.Part.TheVariants.{Return}
use Rattle.state_rows.specs.declared.duty.Owed.{Owed}
use Rattle.state_rows.specs.declared.duty.Owed.TheVariants.{Close, Sweep}
use Rattle.state_rows.specs.Deferred.{next_immediate}
use Rattle.state_rows.specs.ObjectRows.{place_of}
use Rattle.state_rows.specs.declared.thread.Stage.{Stage}
use Rattle.state_rows.specs.declared.thread.Stage.TheVariants.{Buried}
use Rattle.state_rows.specs.declared.thread.ThreadRow.{ThreadRow}
use Rattle.state_rows.specs.declared.thread.Waiting.TheVariants as waiting
use Rattle.machine.specs.declared.boot.Born.{Born}
use Rattle.machine.specs.declared.death_move.DeathMove.{DeathMove}
use Rattle.machine.specs.declared.death_move.DeathMove.TheVariants as death
use Rattle.machine.specs.declared.moves.Move.{Move}
use Rattle.machine.specs.declared.moves.Move.TheVariants as move
use Rattle.machine.specs.declared.state.State.{State}
use Rattle.machine.specs.Boot.{born, boot_in, boot_of}
use Rattle.machine.specs.DeathMoves.{death_row, death_thread}
use Rattle.machine.specs.Fits.{EachFits, FitsMove}
use Rattle.machine.specs.History.{next}
use Rattle.machine.specs.Interrupts.{immediate, interrupt, supervisor}
use Rattle.machine.specs.Kept.{dies}
use Rattle.machine.specs.Moves.{advanced, moved, next_object, perform, threads_closed, threads_gain, threads_lose, unlinked, with_found, with_kept, with_message, with_missed, with_opened, with_part, with_priority, with_register, with_use, with_waiting}
use Rattle.machine.specs.Out.{is_returning, part_of}
use Rattle.machine.specs.References.{kernel_holds, stage_holds, total}
use Rattle.machine.specs.Rows.{object_of, owed_of, thread_of, with_row}
use Rattle.machine.specs.Steps.{decision_of}
use Rattle.machine.specs.Transition.{act}
use Rattle.machine.specs.Serving.{thread_bit}
use Rattle.machine.specs.WellFormed.{AreRows, is_before_use, is_spent}
use Rattle.move_laws.proofs.Lists.Totals.{total-with}
use Rattle.move_laws.proofs.MoveLaws.Pays.{sweep-unheld}
use Rattle.move_laws.proofs.References.Same.{if_is, if_not}
use Rattle.machine_laws.proofs.AtBoot.Born.{EachBorn, each_born}
use Rattle.machine_laws.proofs.Fitting.Actions.{of_action}
use Rattle.machine_laws.proofs.Fitting.Interrupts.{goes-immediate, goes-interrupt}
use Rattle.machine_laws.proofs.Sharing.Losses.{moves_of}
use Rattle.machine_laws.proofs.Fitting.Regular.{coming_bit, finding_bit}

-- 1 where a thread is between a find and its return
abbrev pub out_bit : Option ThreadRow → ℕ
out_bit row = if is_returning (part_of row) then 1 else 0

-- a change of a row that leaves whether its thread is out
abbrev KeepsOut : (ThreadRow → ThreadRow) → Option ThreadRow → Type 0
KeepsOut f old = out_bit (option_map f old) ≡ out_bit old

kept-part : (f : ThreadRow → ThreadRow) → ((row : ThreadRow) → (f row).part ≡ row.part) → (old : Option ThreadRow) → KeepsOut f old
kept-part f keeps None = refl
kept-part f keeps (Some row) = ap (λ (p : Option Part). if is_returning p then 1 else 0) (keeps row)

-- one that wasn't, and isn't then
kept-back : (f : ThreadRow → ThreadRow) → ((row : ThreadRow) → is_returning (f row).part ≡ false)
    → (old : Option ThreadRow) → is_returning (part_of old) ≡ false → KeepsOut f old
kept-back f back None was = refl
kept-back f back (Some row) was = if_not (is_returning (f row).part) 1 (back row) ∙ sym (if_not (is_returning row.part) 1 was)

out-row : (threads : List (Option ThreadRow)) (u : ObjNo) (f : ThreadRow → ThreadRow)
    → KeepsOut f (get_or threads u.0 None) → total out_bit (with_row threads u f) ≡ total out_bit threads
out-row threads u f keeps = let a = total-with out_bit (option_map f) None threads u.0 refl in omega arith

out-part : (threads : List (Option ThreadRow)) (u : ObjNo) (f : ThreadRow → ThreadRow)
    → ((row : ThreadRow) → (f row).part ≡ row.part) → total out_bit (with_row threads u f) ≡ total out_bit threads
out-part threads u f keeps = out-row threads u f (kept-part f keeps (get_or threads u.0 None))

out-gain : (h : Holder) (o : ObjNo) (threads : List (Option ThreadRow)) → total out_bit (threads_gain h o threads) ≡ total out_bit threads
out-gain (Temp u) o threads = out-part threads u (with_use (Some o)) (λ row. refl)
out-gain _ o threads = refl

out-lose : (h : Holder) (threads : List (Option ThreadRow)) → total out_bit (threads_lose h threads) ≡ total out_bit threads
out-lose (Temp u) threads = out-part threads u (with_use None) (λ row. refl)
out-lose _ threads = refl

out-closed : (dying : Bool) (o : ObjNo) (threads : List (Option ThreadRow)) → total out_bit (threads_closed dying o threads) ≡ total out_bit threads
out-closed true o threads = out-part threads o unlinked (λ row. refl)
out-closed false o threads = refl

death-part : (m : DeathMove) (row : ThreadRow) → (death_row m row).part ≡ row.part
death-part (death.Note u exit) row = refl
death-part (death.Doom u exit) row = refl
death-part (death.Clean u) row = refl
death-part (death.Bury u) row = refl

-- a step in which something is used is no return
used_back : (part : Part) → is_before_use (Some part) ≡ false → is_returning (Some part) ≡ false
used_back Return e = absurd (cc)
used_back _ e = refl

-- a thread comes back
out-back : (threads : List (Option ThreadRow)) (u : ObjNo) (f : ThreadRow → ThreadRow) (row : ThreadRow)
    → get_or threads u.0 None ≡ Some row → is_returning row.part ≡ true → is_returning (f row).part ≡ false
    → total out_bit (with_row threads u f) + 1 ≡ total out_bit threads
out-back threads u f row is was back =
    let a = total-with out_bit (option_map f) None threads u.0 refl in
    let old : out_bit (get_or threads u.0 None) ≡ 1 = ap out_bit is ∙ if_is (is_returning row.part) 1 was in
    let new : out_bit (option_map f (get_or threads u.0 None)) ≡ 0 =
    ap (λ (r : Option ThreadRow). out_bit (option_map f r)) is ∙ if_not (is_returning (f row).part) 1 back in
    omega arith

-- each move
pub out-moved : (script : Script) (t : ObjNo) (m : Move) (S : State) → FitsMove script t m S
    → total out_bit (moved t m S).references.threads + coming_bit m ≡ total out_bit S.references.threads + finding_bit m
out-moved script t (move.Make kind name h) S fits = let a = out-gain h (next_object S) S.references.threads in omega arith
out-moved script t (move.Gain h o) S fits = let a = out-gain h o S.references.threads in omega arith
out-moved script t (move.Lose h o) S fits =
    let a = out-lose h S.references.threads in
    let b = out-closed (dies S o) o (threads_lose h S.references.threads) in
    omega arith
out-moved script t (move.Find u o) S fits =
    let f = with_found o (place_of (object_of S o)) in
    let may = fits.0 in
    let a = total-with out_bit (option_map f) None S.references.threads u.0 refl in
    let old : out_bit (thread_of S u) ≡ 0 = ap out_bit may.is ∙ if_not (is_returning may.row.part) 1 may.going in
    let new : out_bit (option_map f (thread_of S u)) ≡ 1 = ap (λ (r : Option ThreadRow). out_bit (option_map f r)) may.is in omega arith
out-moved script t (move.Open u o part) S fits =
    let back = fits.0.back in
    let a = out-back S.references.threads u (with_opened o part) back.row back.is back.returns
    (used_back part fits.0.later) in
    omega arith
out-moved script t (move.Miss u o) S fits =
    let back = fits.0.back in
    let a = out-back S.references.threads u with_missed back.row back.is back.returns refl in
    omega arith
out-moved script t (move.GoOn u part) S fits =
    let a = out-row S.references.threads u (with_part part)
    (kept-back (with_part part) (λ row. fits.0.other) (thread_of S u) fits.0.going) in
    omega arith
out-moved script t (move.Keep u number) S fits = let a = out-part S.references.threads u (with_kept number) (λ row. refl) in omega arith
out-moved script t (move.Write u x value) S fits = let a = out-part S.references.threads u (with_register x value) (λ row. refl) in omega arith
out-moved script t (move.WriteMessage u y number) S fits = let a = out-part S.references.threads u (with_message y number) (λ row. refl) in omega arith
out-moved script t (move.PutDown u) S fits = let a = out-part S.references.threads u (with_use None) (λ row. refl) in omega arith
out-moved script t (move.Advance u) S fits =
    let a = out-row S.references.threads u advanced (kept-back advanced (λ row. refl) (thread_of S u) fits.1) in
    omega arith
out-moved script t (move.Wait u what) S fits = let a = out-part S.references.threads u (with_waiting what) (λ row. refl) in omega arith
out-moved script t (move.Wake u) S fits = let a = out-part S.references.threads u (with_waiting waiting.Nothing) (λ row. refl) in omega arith
out-moved script t (move.SetPriority u priority) S fits = let a = out-part S.references.threads u (with_priority priority) (λ row. refl) in omega arith
out-moved script t (move.Death m) S fits = let a = out-part S.references.threads (death_thread m) (death_row m) (λ row. death-part m row) in omega arith
out-moved script t (move.Pay what) S fits = absurd fits
out-moved script t _ S fits = omega arith

-- moves that fit
pub out-perform : (script : Script) (t : ObjNo) (ms : List Move) (S : State) → EachFits script t ms S
    → total out_bit (perform t ms S).references.threads + total coming_bit ms
    ≡ total out_bit S.references.threads + total finding_bit ms
out-perform script t [] S fits = omega arith
out-perform script t (m ∷ ms) S fits =
    let here = out-moved script t m S fits.0 in
    let rest = out-perform script t ms (moved t m S) fits.1 in omega arith

-- what is owed is paid: a thread whose row goes isn't between a find and its return
swept-back : (script : Script) (S : State) (t o : ObjNo) (rest : List Owed) → owed_of S t ≡ Sweep o ∷ rest
    → t.0 < length S.references.owed → AreRows script S → out_bit (thread_of S o) ≡ 0
swept-back script S t o rest owes here rows = by (thread_of S o) refl
  where
    unheld : kernel_holds (thread_of S o) ≡ 0
    unheld = sweep-unheld script S t o rest owes here rows

    at : (row : ThreadRow) (stage : Stage) → thread_of S o ≡ Some row → row.stage ≡ stage → stage_holds stage ≡ 0 → out_bit (Some row) ≡ 0
    at row Buried is stage none = if_not (is_returning row.part) 1 (rows.references.spent.rows o.0 row is (ap is_spent stage)).going
    at row _ is stage none = absurd (omega arith)

    by : (row : Option ThreadRow) → thread_of S o ≡ row → out_bit row ≡ 0
    by None is = refl
    by (Some row) is = at row row.stage is refl (sym (ap kernel_holds is) ∙ unheld)

out-pay : (script : Script) (S : State) (t : ObjNo) (what : Owed) (rest : List Owed) → owed_of S t ≡ what ∷ rest
    → t.0 < length S.references.threads → AreRows script S
    → total out_bit (moved t (move.Pay what) S).references.threads ≡ total out_bit S.references.threads
out-pay script S t (Close h o) rest owes inside rows = out-closed (dies S o) o S.references.threads
out-pay script S t (Sweep o) rest owes inside rows =
    let old = swept-back script S t o rest owes (let a = rows.references.sized.duties in omega arith) rows in
    let a = total-with out_bit (λ _. None) None S.references.threads o.0 refl in omega arith

-- what a thread does in its next action
out-action : (script : Script) (S : State) (t : ObjNo) → IsShaped script → AreRows script S
    → total out_bit (perform t (decision_of script S t).moves S).references.threads + total coming_bit
    (decision_of script S t).moves ≡ total out_bit S.references.threads + total finding_bit
    (decision_of script S t).moves
out-action script S t shaped rows =
    of_action script S t (λ (ms : List Move). total out_bit (perform t ms S).references.threads + total coming_bit ms
    ≡ total out_bit S.references.threads + total finding_bit ms) shaped rows
    (λ ms sane goes. out-perform script t ms S goes.each)
    (λ what rest sane owes. let a = out-pay script S t what rest owes sane.inside rows in omega arith) (omega arith)

out-act : (script : Script) (S : State) (t : ObjNo) → IsShaped script → AreRows script S
    → total out_bit (act script S t).state.references.threads + total coming_bit (decision_of script S t).moves
    ≡ total out_bit S.references.threads + total finding_bit (decision_of script S t).moves
unfolding act
out-act script S t shaped rows = out-action script S t shaped rows

out-interrupt : (script : Script) (S : State) (k : ℕ) → IsShaped script → AreRows script S
    → total out_bit (interrupt script S k).state.references.threads + total coming_bit (moves_of script S (Irq k))
    ≡ total out_bit S.references.threads + total finding_bit (moves_of script S (Irq k))
unfolding interrupt
out-interrupt script S k shaped rows = out-perform script supervisor (moves_of script S (Irq k)) S (goes-interrupt script S k shaped rows).each

out-immediate : (script : Script) (S : State) → IsShaped script → AreRows script S
    → total out_bit (immediate script S).state.references.threads + total coming_bit (moves_of script S Idfc)
    ≡ total out_bit S.references.threads + total finding_bit (moves_of script S Idfc)
unfolding immediate
out-immediate script S shaped rows =
    out-perform script supervisor (moves_of script S Idfc) S
    (goes-immediate script S (next_immediate S.synchronization.deferred) shaped rows refl).each

-- and what any actor does
pub out-next : (script : Script) (S : State) (actor : Actor) → IsShaped script → AreRows script S
    → total out_bit (next script S actor).references.threads + total coming_bit (moves_of script S actor)
    ≡ total out_bit S.references.threads + total finding_bit (moves_of script S actor)
out-next script S (Thread t) shaped rows = out-act script S t shaped rows
out-next script S (Irq k) shaped rows = out-interrupt script S k shaped rows
out-next script S Idfc shaped rows = out-immediate script S shaped rows
out-next script S Tick shaped rows = omega arith
out-next script S Idle shaped rows = omega arith

-- at boot nobody is out
none-born : (script : Script) (n : ℕ) (bs : List Born) → EachBorn script n bs → total out_bit (map (λ b. b.thread) bs) ≡ 0
none-born script n [] born = refl
none-born script n (b ∷ bs) born = let here = by b.thread refl in let rest = none-born script n bs born.1 in omega arith
  where
    by : (thread : Option ThreadRow) → b.thread ≡ thread → out_bit thread ≡ 0
    by None is = refl
    by (Some row) is = ap (λ (p : Option Part). if is_returning p then 1 else 0) (born.0.row row is).part

pub out-boot : (shared : Bool) (script : Script) → IsShaped script → total out_bit (boot_in shared script).references.threads ≡ 0
unfolding boot_of
out-boot shared script shaped = none-born script (length (born script)) (born script) (each_born script shaped)

-- There are 64 threads at most, so fewer than 64 are out where somebody acts who isn't.
sum-le : (f g : Option ThreadRow → ℕ) → ((x : Option ThreadRow) → f x ≤ g x) → (xs : List (Option ThreadRow)) → total f xs ≤ total g xs
sum-le f g less [] = omega arith
sum-le f g less (x ∷ xs) = let here = less x in let rest = sum-le f g less xs in omega arith

sum-below : (f g : Option ThreadRow → ℕ) → ((x : Option ThreadRow) → f x ≤ g x) → g None ≡ 0
    → (xs : List (Option ThreadRow)) (i : ℕ) → f (get_or xs i None) < g (get_or xs i None) → total f xs < total g xs
sum-below f g less none [] i below = absurd (omega arith)
sum-below f g less none (x ∷ xs) zero below = let rest = sum-le f g less xs in omega arith
sum-below f g less none (x ∷ xs) (suc i) below = let here = less x in let rest = sum-below f g less none xs i below in omega arith

out-thread : (x : Option ThreadRow) → out_bit x ≤ thread_bit x
out-thread None = omega arith
out-thread (Some row) = by (is_returning row.part)
  where
    by : (b : Bool) → (if b then 1 else 0) ≤ 1
    by true = omega arith
    by false = omega arith

pub out-few : (script : Script) (S : State) → AreRows script S → total out_bit S.references.threads ≤ 64
out-few script S rows = let less = sum-le out_bit thread_bit out-thread S.references.threads in let few = rows.serving.messages.threads_few in omega arith

pub out-room : (script : Script) (S : State) (t : ObjNo) (row : ThreadRow) → AreRows script S → thread_of S t ≡ Some row
    → is_returning row.part ≡ false → total out_bit S.references.threads < 64
out-room script S t row rows is back =
    let out : out_bit (thread_of S t) ≡ 0 = ap out_bit is ∙ if_not (is_returning row.part) 1 back in
    let there : thread_bit (thread_of S t) ≡ 1 = ap thread_bit is in
    let below = sum-below out_bit thread_bit out-thread refl S.references.threads t.0 (omega arith) in
    let few = rows.serving.messages.threads_few in omega arith
