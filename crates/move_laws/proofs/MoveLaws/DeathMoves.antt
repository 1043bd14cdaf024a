-- Moves in the rows of threads that die.
use Rattle.std.proofs.Common.{◌≡◌, inr, ℕ, arith, refl, false, length, List, [], ◌∷◌, ◌+◌, ◌≤◌, sym, subst, ap, ◌∙◌, Option, Some, None, get_or, true, ◌<◌}
use Rattle.std.specs.Prelude.{◌==◌, if◌then◌else◌, is_some, option_map}
use Rattle.std.proofs.lemmas.List.{length-set}
use Rattle.sym_base.specs.declared.number.ObjNo.{ObjNo}
use Rattle.script_types.specs.declared.script.Script.{Script}
use Rattle.entry_log.specs.declared.effect.Effect.TheVariants as effect
use Rattle.entry_log.specs.declared.effect.Holder.{Holder}
use Rattle.entry_log.specs.declared.effect.Holder.TheVariants.{Kernel, Link, Temp}
use Rattle.state_rows.specs.declared.duty.Owed.TheVariants.{Close}
use Rattle.state_rows.specs.declared.thread.Stage.{Stage}
use Rattle.state_rows.specs.declared.thread.Stage.TheVariants.{Live, Doomed, Cleaned}
use Rattle.state_rows.specs.declared.thread.ThreadRow.{ThreadRow}
use Rattle.machine.specs.declared.death_move.DeathMove.{DeathMove}
use Rattle.machine.specs.declared.death_move.DeathMove.TheVariants.{Note, Doom, Clean, Bury}
use Rattle.machine.specs.declared.moves.Move.TheVariants.{Death}
use Rattle.machine.specs.declared.state.State.{State}
use Rattle.machine.specs.DeathMoves.{death_row, death_thread, death_told, death_owed}
use Rattle.machine.specs.Fits.{FitsDeath, FitsMove, IsAtStage, death_owes}
use Rattle.machine.specs.Serving.{AreServers}
use Rattle.machine.specs.ThreadCalls.{is_live}
use Rattle.machine.specs.Moves.{moved, told}
use Rattle.machine.specs.Rows.{with_row, owed_of, owing, thread_of}
use Rattle.machine.specs.Out.{is_returning}
use Rattle.machine.specs.WellFormed.{AreRows, AreServingRows, IsThread, AreSynchronized, AreSpent, is_spent, owed_sweeps, sweeps_of, weight, AreAwaited, IsUntold}
use Rattle.move_laws.proofs.RowLaws.Duties.{paid-with_row, duties-owing, duties-threads, weight-owing}
use Rattle.move_laws.proofs.RowLaws.Locks.{LeavesLocks, leaves-nowhere, leaves-with_row, leaves-owing}
use Rattle.move_laws.proofs.RowLaws.Synchronized.{synchronized-with_row, synchronized-unheld, synchronized-apart}
use Rattle.move_laws.proofs.RowLaws.Threads.{KeepsThread, length-with_row, threads-with_row}
use Rattle.move_laws.proofs.MoveLaws.RowMoves.{IsSilent, KeepsReferences, messages-row, servers-row, silent, sound-row}
use Rattle.move_laws.proofs.MoveLaws.Groups.{LeavesSynchronization, services-row, synchronization-left, synchronization-then}
use Rattle.move_laws.proofs.MoveLaws.Sound.{Sound, sound-of}
use Rattle.move_laws.proofs.RowLaws.Spent.{spent-going, spent-kept, spent-with_row}
use Rattle.machine.specs.HeldIn.{held_in, owed_by, use_names}
use Rattle.machine.specs.Holding.{is_holder, link_names, same_pair}
use Rattle.machine.specs.References.{count_of, kernel_holds, mutex_names, owed_names, same, stage_holds, thread_names, total}
use Rattle.move_laws.proofs.Holders.ThreadRows.{kernel-changed, row_holds, row_kept, rows-changed}
use Rattle.move_laws.proofs.References.Counts.{count-with_row, total-owing}
use Rattle.move_laws.proofs.References.Same.{if_zero}
use Rattle.move_laws.proofs.Lives.Kinds.{lives-quiet, quiet_of}
use Rattle.move_laws.proofs.Lives.Outs.{KeepsSeeks, outs-same, seeks-with_row}
use Rattle.move_laws.proofs.Lives.Places.{outs-found}
use Rattle.move_laws.proofs.RowLaws.MessagesKept.{KeepsMessages}
use Rattle.move_laws.proofs.RowLaws.ServersKept.{servers-with_row}
use Rattle.move_laws.proofs.Lists.Totals.{inside}
use Rattle.move_laws.proofs.RowLaws.Awaited.{awaited-kept, awaited-doom, awaited-later}
use Rattle.move_laws.proofs.MoveLaws.Silent.{silent_of}

-- a doom tells of no reference, and of no object's death
pub death_silent : (S : State) (m : DeathMove) → IsSilent S (death_told m)
death_silent S (Bury t) = silent_of S (λ o. refl) (λ o. refl) (tt, tt) (λ g x. refl)
death_silent S (Doom t exit) = silent_of S (λ o. refl) (λ o. refl) (tt, tt) (λ g x. refl)
death_silent S _ = silent S

-- references, a thread's row and its place stay
keeps-references : (m : DeathMove) → KeepsReferences (death_row m)
keeps-references (Note t exit) = record { link = λ row. refl; uses = λ row. refl }
keeps-references _ = record { link = λ row. refl; uses = λ row. refl }

keeps-thread : (script : Script) (count : ℕ) (m : DeathMove) (row : ThreadRow) → IsThread script count row → KeepsThread script count row (death_row m row)
keeps-thread script count (Note t exit) row h = record {
  thread = record {
    process = h.process;
    link = h.link;
    priority = h.priority;
    next_instruction = h.next_instruction;
    unused = h.unused;
    registers = h.registers;
    declared = h.declared;
    returns = h.returns;
  };
  process = refl;
  role = refl;
}
keeps-thread script count _ row h = record {
  thread = record {
    process = h.process;
    link = h.link;
    priority = h.priority;
    next_instruction = h.next_instruction;
    unused = h.unused;
    registers = h.registers;
    declared = h.declared;
    returns = h.returns;
  };
  process = refl;
  role = refl;
}

-- it begins no return
keeps-going : (m : DeathMove) (row : ThreadRow) → is_returning row.part ≡ false → is_returning (death_row m row).part ≡ false
keeps-going (Note t exit) row h = h
keeps-going _ row h = h

-- a thread that is there has a number of them
some-inside : (threads : List (Option ThreadRow)) (k : ℕ) (row : Option ThreadRow) → get_or threads k None ≡ row → is_some row ≡ true → k < length threads
some-inside threads k None is some = absurd (cc)
some-inside threads k (Some row) is some = inside threads k row is

-- a thread at a stage that isn't live
not-live : (stage : Stage) → stage ≡ Live → stage ≡ Cleaned → ⊥
not-live stage live cleaned = cc

pub not-doomed : (stage : Stage) → stage ≡ Live → stage ≡ Doomed → ⊥
not-doomed stage live doomed = cc

-- who isn't live holds no fast mutex: a change of its row leaves the holders
synchronized-buried : (script : Script) (S : State) (u : ObjNo) (change : ThreadRow → ThreadRow) → IsAtStage S u Cleaned
    → AreSynchronized script S.references.threads S.synchronization.nano
    → AreSynchronized script (with_row S.references.threads u change) S.synchronization.nano
synchronized-buried script S u change at h =
    synchronized-apart script S.references.threads u change S.synchronization.nano
    (λ f held. let holder = h.holders f u held in
    let same : at.row ≡ holder.row = (let a = at.is in let b = holder.is in cc) in
    not-live at.row.stage (ap (λ (r : ThreadRow). r.stage) same ∙ holder.live) at.at) h

-- who isn't live any more holds no fast mutex
synchronized-death : (script : Script) (S : State) (t : ObjNo) (m : DeathMove) → FitsDeath t m S
    → AreSynchronized script S.references.threads S.synchronization.nano
    → AreSynchronized script (with_row S.references.threads (death_thread m) (death_row m)) S.synchronization.nano
synchronized-death script S t (Note u exit) fits h =
    synchronized-with_row script S.references.threads u (death_row (Note u exit)) S.synchronization.nano
    (λ row free. free) h
synchronized-death script S t (Doom u exit) fits h = synchronized-unheld script S.references.threads u (death_row (Doom u exit)) S.synchronization.nano fits.1 h
synchronized-death script S t (Clean u) fits h = synchronized-unheld script S.references.threads u (death_row (Clean u)) S.synchronization.nano fits.1.0 h
synchronized-death script S t (Bury u) fits h = synchronized-buried script S u (death_row (Bury u)) fits.0 h

-- the row that stands there
pub row-is : {S : State} {u : ObjNo} {stage : Stage} (at : IsAtStage S u stage) (row : ThreadRow) → thread_of S u ≡ Some row → row.stage ≡ stage
row-is {stage = stage} at row is = let same : at.row ≡ row = (let a = at.is in cc) in subst (λ (r : ThreadRow). r.stage ≡ stage) same at.at

spent-death : (script : Script) (S : State) (t : ObjNo) (m : DeathMove) → FitsDeath t m S
    → AreSpent S.references.objects S.references.handles S.references.threads
    → AreSpent S.references.objects S.references.handles (with_row S.references.threads (death_thread m) (death_row m))
spent-death script S t (Note u exit) fits h =
    spent-kept S.references.objects S.references.handles S.references.threads u (death_row (Note u exit))
    (record { stage = λ row. refl; unused = λ row e. e; waits = λ row e. e; going = λ row e. e; link = λ row e. e }) h
spent-death script S t (Doom u exit) fits h =
    spent-going S.references.objects S.references.handles S.references.threads u (death_row (Doom u exit))
    (λ row is. refl) (λ row e. e) h
spent-death script S t (Clean u) fits h =
    spent-with_row S.references.objects S.references.handles S.references.threads u (death_row (Clean u))
    (λ row is after had. let has = fits.1.1 row is in
    record { unused = has.unused; waits = has.waits; going = has.going; empty = has.empty }) (λ row e. e) h
spent-death script S t (Bury u) fits h =
    spent-with_row S.references.objects S.references.handles S.references.threads u (death_row (Bury u))
    (λ row is after had. let has = had (ap is_spent (row-is fits.0 row is)) in
    record { unused = has.unused; waits = has.waits; going = has.going; empty = has.empty }) (λ row e. e) h

-- who isn't live any more awaits nothing
awaited-death : (S : State) (t : ObjNo) (m : DeathMove) → FitsDeath t m S
    → AreAwaited S.references.threads S.synchronization.requests S.synchronization.logons
    → AreAwaited (with_row S.references.threads (death_thread m) (death_row m)) S.synchronization.requests
    S.synchronization.logons
awaited-death S t (Note u exit) fits h =
    awaited-kept S.references.threads u (death_row (Note u exit)) S.synchronization.requests S.synchronization.logons
    (λ row. refl) (λ row. refl) h
awaited-death S t (Doom u exit) fits h =
    awaited-doom S.references.threads u (death_row (Doom u exit)) S.synchronization.requests S.synchronization.logons
    fits.3.requests fits.3.logons (λ row o e. cc) h
awaited-death S t (Clean u) fits h =
    awaited-later S.references.threads u (death_row (Clean u)) S.synchronization.requests S.synchronization.logons
    (λ row is live. not-doomed row.stage live (row-is fits.0 row is)) (λ row. refl) h
awaited-death S t (Bury u) fits h =
    awaited-later S.references.threads u (death_row (Bury u)) S.synchronization.requests S.synchronization.logons
    (λ row is live. not-live row.stage live (row-is fits.0 row is)) (λ row. refl) h

-- what a thread owns is closing by its doom, and it is nothing by its cleaning
serving-death : (script : Script) (S : State) (t : ObjNo) (m : DeathMove) → FitsDeath t m S → AreRows script S
    → AreServers (λ row. is_spent row.stage) S.references.objects
    (with_row S.references.threads (death_thread m) (death_row m)) S.synchronization.locks S.serving.owned
    S.serving.servers
serving-death script S t (Note u exit) fits rows = servers-row script S u (death_row (Note u exit)) (λ row. refl) (λ row p e. e) rows
serving-death script S t (Doom u exit) fits rows =
    servers-with_row (λ row. is_spent row.stage)
    S.references.objects S.references.threads S.synchronization.locks S.serving.owned S.serving.servers u
    (death_row (Doom u exit)) (λ row is has. record
    { closing = λ dead o some. fits.4 o some; none = λ gone. absurd (cc); link = has.link }) rows.serving.servers
serving-death script S t (Clean u) fits rows =
    servers-with_row (λ row. is_spent row.stage)
    S.references.objects S.references.threads S.synchronization.locks S.serving.owned S.serving.servers u
    (death_row (Clean u))
    (λ row is has. record {
      closing = λ dead o some. let none = ap (total (mutex_names o)) fits.1.3 in
          absurd (omega arith);
      none = λ gone. fits.1.3;
      link = has.link;
    }) rows.serving.servers
serving-death script S t (Bury u) fits rows =
    servers-with_row (λ row. is_spent row.stage)
    S.references.objects S.references.threads S.synchronization.locks S.serving.owned S.serving.servers u
    (death_row (Bury u))
    (λ row is has. record {
      closing = λ dead o some. has.closing (ap is_live (row-is fits.0 row is)) o some;
      none = λ gone. has.none (ap is_spent (row-is fits.0 row is));
      link = has.link;
    }) rows.serving.servers

-- nobody is brought back to life
keeps-messages : (m : DeathMove) → KeepsMessages (death_row m)
keeps-messages (Note t exit) = record { live = λ row live. live; waits = λ row live. refl; left = λ row. omega arith }
keeps-messages (Doom t exit) = record { live = λ row live. absurd (cc); waits = λ row live. absurd (cc); left = λ row. omega arith }
keeps-messages (Clean t) = record { live = λ row live. absurd (cc); waits = λ row live. refl; left = λ row. omega arith }
keeps-messages (Bury t) = record { live = λ row live. absurd (cc); waits = λ row live. refl; left = λ row. omega arith }

leaves-locks : (S : State) (t : ObjNo) (m : DeathMove) → FitsDeath t m S
    → LeavesLocks S.references.threads (with_row S.references.threads (death_thread m) (death_row m)) S.references.owed
    S.references.owed S.synchronization.locks
leaves-locks S t (Note u exit) fits = leaves-with_row S.references.threads u (death_row (Note u exit)) S.references.owed S.synchronization.locks (λ row. refl)
leaves-locks S t (Doom u exit) fits = leaves-nowhere S.references.threads u (death_row (Doom u exit)) S.references.owed S.synchronization.locks fits.2
leaves-locks S t (Clean u) fits = leaves-with_row S.references.threads u (death_row (Clean u)) S.references.owed S.synchronization.locks (λ row. refl)
leaves-locks S t (Bury u) fits = leaves-with_row S.references.threads u (death_row (Bury u)) S.references.owed S.synchronization.locks (λ row. refl)

leaves-death : (script : Script) (S : State) (t : ObjNo) (m : DeathMove) → FitsDeath t m S → AreRows script S
    → LeavesSynchronization script S (with_row S.references.threads (death_thread m) (death_row m)) S.references.owed
leaves-death script S t m fits rows = record {
  nano = synchronized-death script S t m fits rows.synchronization.nano;
  locks = leaves-locks S t m fits;
  awaited = awaited-death S t m fits rows.synchronization.awaited;
}

served-death : (script : Script) (S : State) (t : ObjNo) (m : DeathMove) → FitsDeath t m S → AreRows script S
    → AreServingRows S.references.objects
    (with_row S.references.threads (death_thread m) (death_row m)) S.synchronization.locks
    (IsUntold S.synchronization.requests S.synchronization.logons) S.serving
served-death script S t m fits rows = record {
  servers = serving-death script S t m fits rows;
  messages = messages-row script S (death_thread m) (death_row m) (keeps-messages m) rows;
}

-- any but a burial changes one row
-- and leaves whether its thread is out
keeps-seeks : (m : DeathMove) (row : ThreadRow) → KeepsSeeks (death_row m) row
keeps-seeks (Note u exit) row o place = refl
keeps-seeks _ row o place = refl

sound-dying : (script : Script) (S : State) (t : ObjNo) (m : DeathMove) → FitsDeath t m S
    → ((row : ThreadRow) → thread_of S (death_thread m) ≡ Some row → stage_holds (death_row m row).stage
    ≡ stage_holds row.stage)
    → AreRows script S
    → Sound script S (record S {
      references = record S.references
          { threads = with_row S.references.threads (death_thread m) (death_row m) };
    }) (death_told m)
sound-dying script S t m fits holds rows =
    sound-row script S (death_thread m) (death_row m) (death_told m) (λ row is. keeps-seeks m row)
    (keeps-references m) holds
    (λ row is h. keeps-thread script _ m row h)
    (λ k. inr (paid-with_row S.references.threads (death_thread m) (death_row m) (keeps-going m) k)) (death_silent S m)
    (leaves-death script S t m fits rows) (spent-death script S t m fits rows.references.spent)
    (served-death script S t m fits rows) rows

-- what the row of a cleaned thread names
buried-names : (x : Option ThreadRow) (u p : ObjNo)
    → (thread_names p (option_map (death_row (Bury u)) x) ≡ thread_names p x)
    × (use_names p (option_map (death_row (Bury u)) x) ≡ use_names p x)
    × (link_names p (option_map (death_row (Bury u)) x) ≡ link_names p x)
buried-names None u p = (refl, refl, refl)
buried-names (Some row) u p = (refl, refl, refl)

-- the kernel's reference passes to a close that is owed
passes : (u : ObjNo) (row : ThreadRow) (g : Holder) (x : ObjNo) → row.stage ≡ Cleaned → row_kept u (Some row) g x ≡ same_pair Kernel u g x
passes u row Kernel x at = ap (λ (stage : Stage). if u.0 == x.0 then stage_holds stage else 0) at
passes u row _ x at = refl

passed : (u : ObjNo) (row : ThreadRow) (g : Holder) (x : ObjNo) → row_kept u (Some (death_row (Bury u) row)) g x ≡ 0
passed u row Kernel x = if_zero (u.0 == x.0) 0 refl
passed u row _ x = refl

-- a burial
sound-bury : (script : Script) (S : State) (t u : ObjNo) → FitsDeath t (Bury u) S → total weight (owed_of S t) + 4 ≤ 12
    → AreRows script S → Sound script S (moved t (Death (Bury u)) S) (effect.Bury u ∷ [])
sound-bury script S t u fits few rows =
    let f = death_row (Bury u) in
    let T = moved t (Death (Bury u)) S in
    let at = fits.0 in
    let old = thread_of S u in
    let more = Close Kernel u ∷ [] in
    let other = with_row S.references.threads u f in
    let there : t.0 < length S.references.threads = some-inside S.references.threads t.0 (thread_of S t) refl fits.1.thread in
    let here : t.0 < length S.references.owed = let a = rows.references.sized.duties in omega arith in
    let was : kernel_holds old ≡ 1 = ap kernel_holds at.is ∙ ap stage_holds at.at in
    let now : kernel_holds (option_map f old) ≡ 0 = ap (λ (x : Option ThreadRow). kernel_holds (option_map f x)) at.is in
    let counts : (o : ObjNo) → count_of T o ≡ count_of S o = λ o.
    let a = count-with_row S.references.threads u f o in
    let b = kernel-changed S.references.threads u f o in
    let c = (buried-names old u o).0 in
    let d = total-owing (owed_names o) S.references.owed t more here in
    let e : (if u.0 == o.0 then kernel_holds old else 0) ≡ same u o = ap (λ (n : ℕ). if u.0 == o.0 then n else 0) was in
    let g : (if u.0 == o.0 then kernel_holds (option_map f old) else 0) ≡ 0 =
    ap (λ (n : ℕ). if u.0 == o.0 then n else 0) now ∙ if_zero (u.0 == o.0) 0 refl in
    omega arith in
    let sweeps : (o : ObjNo) → sweeps_of T o ≡ sweeps_of S o = λ o. let d = total-owing (owed_sweeps o) S.references.owed t more here in omega arith in
    let held : (g : Holder) (x : ObjNo) → held_in T g x ≡ held_in S g x = λ g x.
    let a = rows-changed S.references.handles S.references.threads S.synchronization.mutexes u f g x in
    let n = buried-names old u x in
    let b : row_holds u (option_map f old) g x ≡ row_holds u old g x =
    ap (λ (y : ℕ). (if is_holder (Temp u) g then y else 0) +
    (if is_holder (Link u) g then link_names x (option_map f old) else 0)) n.1
    ∙ ap (λ (y : ℕ). (if is_holder (Temp u) g then use_names x old else 0) + (if is_holder (Link u) g then y else 0))
    n.2 in
    let c : row_kept u old g x ≡ same_pair Kernel u g x = ap (λ (y : Option ThreadRow). row_kept u y g x) at.is ∙ passes u at.row g x at.at in
    let d : row_kept u (option_map f old) g x ≡ 0 = ap (λ (y : Option ThreadRow). row_kept u (option_map f y) g x) at.is ∙ passed u at.row g x in
    let e = total-owing (owed_by g x) S.references.owed t more here in omega arith in
    sound-of script S T (effect.Bury u ∷ []) rows (record {
      handles_long = refl;
      threads_long = length-with_row S.references.threads u f;
      owed_long = length-set S.references.owed t.0 _;
      objects_few = rows.references.sized.objects_few;
      tables = rows.references.tables;
      threads = threads-with_row script S.references.threads u f (λ row is h. keeps-thread script _ (Bury u) row h) rows.references.threads;
      duties =
          duties-owing other S.serving.servers S.serving.messages.accepted S.references.owed t more (tt, tt) (omega arith)
          ((paid-with_row S.references.threads u f (λ row h. h) t.0).going fits.1.going)
          (duties-threads S.references.threads other S.serving.servers S.serving.messages.accepted S.references.owed
          (λ k. inr (paid-with_row S.references.threads u f (λ row h. h) k)) rows.references.duties);
      synchronization =
          synchronization-left script S S.references.objects other (owing S.references.owed t more) (λ k none. none)
          (synchronization-then script S other S.references.owed (owing S.references.owed t more)
          (leaves-death script S t (Bury u) fits rows)
          (leaves-owing other S.references.owed t more S.synchronization.locks (λ v x. refl))) rows;
      services = services-row S.references.threads u f S.services (λ row is. refl) rows.services;
      spent = spent-death script S t (Bury u) fits rows.references.spent;
      serving = served-death script S t (Bury u) fits rows;
    })
    (lives-quiet S T (effect.Bury u ∷ []) (refl, refl, refl)
    (quiet_of (λ o. refl))
    (λ o. let a = counts o in omega arith) sweeps
    (λ o alive. let a = outs-same S other (seeks-with_row S.references.threads u f (λ row is p place. refl)) o in
    omega arith) (outs-found S T (seeks-with_row S.references.threads u f (λ row is p place. refl)))
    (λ o h. absurd (omega arith)) (λ o h. absurd (omega arith)))
    (record { fits = (tt, tt); moves = λ g x. sym (held g x) })

pub sound-death : (script : Script) (S : State) (t : ObjNo) (m : DeathMove) → FitsMove script t (Death m) S
    → total weight (owed_of S t) + death_owes m ≤ 12 → AreRows script S
    → Sound script S (moved t (Death m) S) (told (Death m) S)
sound-death script S t (Note u exit) fits few rows = sound-dying script S t (Note u exit) fits (λ row is. refl) rows
sound-death script S t (Doom u exit) fits few rows = sound-dying script S t (Doom u exit) fits (λ row is. sym (ap stage_holds (row-is fits.0 row is))) rows
sound-death script S t (Clean u) fits few rows = sound-dying script S t (Clean u) fits (λ row is. sym (ap stage_holds (row-is fits.0 row is))) rows
sound-death script S t (Bury u) fits few rows = sound-bury script S t u fits few rows

-- it adds so much to what the thread owes
pub death_weight : (S : State) (t : ObjNo) (m : DeathMove)
    → total weight (get_or (death_owed t m S.references.owed) t.0 []) ≤ total weight (owed_of S t) + death_owes m
death_weight S t (Bury u) = let a = weight-owing S.references.owed t (Close Kernel u ∷ []) in omega arith
death_weight S t _ = omega arith
