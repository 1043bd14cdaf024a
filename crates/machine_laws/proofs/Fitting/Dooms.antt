-- A doom fits where its thread is live and holds no fast mutex; and so do the steps that end what protects a thread, after
-- which it is doomed where an exit is noted.
use Rattle.std.proofs.Common.{◌≡◌, ℕ, zero, suc, ◌<◌, ◌≤◌, List, length, map, get_or, arith, refl, ap, ◌∙◌, Option, Some, None, Bool, true, false}
use Rattle.std.specs.Prelude.{pos, ◌==◌, [], ◌∷◌, ◌++◌, is_some, is_none, not}
use Rattle.std.proofs.lemmas.Bool.{and_parts, or_parts}
use Rattle.sym_base.specs.declared.error.Error.TheVariants as error
use Rattle.sym_base.specs.declared.kind.Exit.{Exit}
use Rattle.sym_base.specs.declared.number.ObjNo.{ObjNo}
use Rattle.sym_base.specs.declared.word.Word.TheVariants as word
use Rattle.script_types.specs.declared.script.Script.{Script}
use Rattle.script_types.specs.declared.instruction.Instr.{Instr}
use Rattle.script_types.specs.declared.instruction.Instr.TheVariants as instr
use Rattle.entry_log.specs.declared.step.Part.TheVariants as part
use Rattle.entry_log.specs.declared.step.Step.{Step}
use Rattle.entry_log.specs.declared.step.Step.TheVariants as step
use Rattle.state_rows.specs.Locks.{is_among, without}
use Rattle.state_rows.specs.Nano.{critical_count, held_by, holder_of, is_holder, is_protected, is_thread}
use Rattle.state_rows.specs.NanoChanges.{after_give}
use Rattle.state_rows.specs.declared.nano.NanoRows.{NanoRows}
use Rattle.state_rows.specs.declared.thread.Stage.TheVariants.{Live}
use Rattle.state_rows.specs.declared.thread.ThreadRow.{ThreadRow}
use Rattle.state_rows.proofs.HeldMutexes.{held_by-give}
use Rattle.state_rows.proofs.Soundness.{is_thread-own, is_thread-true}
use Rattle.machine.specs.declared.death_move.DeathMove.TheVariants.{Doom}
use Rattle.machine.specs.declared.moves.Move.{Move}
use Rattle.machine.specs.declared.moves.Move.TheVariants as move
use Rattle.machine.specs.declared.nano_move.NanoMove.{NanoMove}
use Rattle.machine.specs.declared.nano_move.NanoMove.TheVariants as nano
use Rattle.machine.specs.declared.state.State.{State}
use Rattle.machine.specs.CriticalSection.{flush, give_held, is_unprotected, leave_do}
use Rattle.machine.specs.DeathMoves.{death_row}
use Rattle.machine.specs.Decide.{answer}
use Rattle.machine.specs.Dooms.{doom, doom_noted, doom_where, end, killed, noted_of}
use Rattle.machine.specs.FastMutex.{funlock_do}
use Rattle.machine.specs.Fits.{EachFits, FitsMove, most_owed, most_told}
use Rattle.machine.specs.Moves.{moved, perform}
use Rattle.machine.specs.References.{total}
use Rattle.machine.specs.Rows.{thread_of}
use Rattle.machine.specs.ServerMoves.{owned_by}
use Rattle.machine.specs.Serving.{times_owned}
use Rattle.state_rows.specs.ServerRows.{IsServer}
use Rattle.machine.specs.Out.{is_returning}
use Rattle.machine.specs.WellFormed.{AreRows}
use Rattle.move_laws.proofs.Lists.Cases.{if_cases}
use Rattle.move_laws.proofs.Lists.Totals.{inside}
use Rattle.move_laws.proofs.Numbers.FewEffects.{nano-tells}
use Rattle.machine_laws.proofs.Fitting.ClosingServers.{closed_all, owned_server}
use Rattle.machine_laws.proofs.Fitting.KernelThreads.{held_holder, mutex_inside, none_is}
use Rattle.machine_laws.proofs.Fitting.Stepping.{FitsDecision, IsStepping, at-with_row, fits-answers, fits-refuse, has_signals, MayEndStep, ends_here, ends_in, leaves_at}
use Rattle.machine_laws.proofs.Fitting.Waiters.{without_apart}
use Rattle.move_laws.proofs.RowLaws.Awaited.{dropped_none, undropped}
use Rattle.machine_laws.proofs.Fitting.Regular.{IsRegular, IsTame, looking, plain}
use Rattle.machine_laws.proofs.Fitting.Tame.{may_tell, regular-moves, tame-both, tame-doom, tame-in, tame-moves}
use Rattle.move_laws.proofs.Lists.Mapped.{none_of}

-- a thread that may be doomed: it is there with all its rows, is live, and holds no fast mutex
pub record MayDie (S : State) (u : ObjNo) : Type 0 where
  pub row : ThreadRow
  pub is : thread_of S u ≡ Some row
  pub live : row.stage ≡ Live
  pub signals : u.0 < length S.synchronization.requests.signals
  pub unheld : held_by S.synchronization.nano u ≡ None
  pub servers : (o : ObjNo) → 0 < times_owned S.serving.owned u o → IsServer S.serving.servers o

pub may_die : (script : Script) (S : State) (u : ObjNo) (row : ThreadRow) → AreRows script S → thread_of S u ≡ Some row
    → row.stage ≡ Live → held_by S.synchronization.nano u ≡ None → MayDie S u
may_die script S u row rows is live unheld =
    let within = inside S.references.threads u.0 row is in
    let long = rows.synchronization.requests.sized in
    record { row = row; is = is; live = live; signals = omega arith; unheld = unheld; servers = owned_server script S u rows }

-- what nothing protects holds no fast mutex
pub unprotected_unheld : (r : NanoRows) (u : ObjNo) → is_protected r u ≡ false → held_by r u ≡ None
unprotected_unheld r u free = none_of (held_by r u) (or_parts (is_some (held_by r u)) (not (critical_count r u == 0)) free).0

-- whoever waits no longer stands among no waiters
left_nowhere : (lists : List (List ObjNo)) (u : ObjNo) (k : ℕ) → is_among u (get_or (map (without u) lists) k []) ≡ false
left_nowhere [] u k = refl
left_nowhere (queue ∷ rest) u zero = without_apart u queue
left_nowhere (queue ∷ rest) u (suc k) = left_nowhere rest u k

-- the moves of a doom fit
pub each-doom : (script : Script) (S : State) (t u : ObjNo) (exit : Exit) → MayDie S u → EachFits script t (doom u exit) S
each-doom script S t u exit h =
    let there : is_some (thread_of S u) ≡ true = ap is_some h.is in
    let within = inside S.references.threads u.0 h.row h.is in (
      there,
      (
        (there, tt),
        (
          (h.signals, tt),
          (
            within,
            (
              tt,
              (
                (
                  record { row = h.row; is = h.is; at = h.live },
                  h.unheld,
                  λ o. left_nowhere S.synchronization.locks.waiters u o.0,
                  record {
                    requests = λ d request is at. dropped_none u S.synchronization.requests.devices d request is at;
                    logons = λ s. undropped u s S.synchronization.logons;
                  },
                  λ o some. closed_all (owned_by S.serving.owned u) S.serving.servers o (h.servers o some) some,
                ),
                tt,
              ),
            ),
          ),
        ),
      ),
    )

-- and leave a thread at its instruction
doomed_at : (script : Script) (S : State) (t u : ObjNo) (exit : Exit) → MayEndStep script S t → MayEndStep script (perform t (doom u exit) S) t
doomed_at script S t u exit at =
    at-with_row script S (perform t (doom u exit) S) t u (death_row (Doom u exit))
    (leaves_at (λ r. refl)) refl at

-- moves that fit, leave a thread at its instruction, tell one effect at most, owe nothing and are tame
pub record GoOnAfter (script : Script) (S : State) (t : ObjNo) (ms : List Move) : Type 0 where
  pub each : EachFits script t ms S
  pub at : MayEndStep script S t → MayEndStep script (perform t ms S) t
  pub told : total most_told ms ≤ 1
  pub light : total most_owed ms ≡ 0
  pub calm : IsTame plain 0 ms

pub after-doom : (script : Script) (S : State) (t u : ObjNo) (exit : Exit) → MayDie S u → GoOnAfter script S t (doom u exit)
after-doom script S t u exit h = record {
  each = each-doom script S t u exit h;
  at = doomed_at script S t u exit;
  told = omega arith;
  light = refl;
  calm = tame-doom u exit;
}

after-none : (script : Script) (S : State) (t : ObjNo) → GoOnAfter script S t []
after-none script S t = record { each = tt; at = λ at. at; told = omega arith; light = refl; calm = tame-moves [] refl refl }

-- the doom of a noted exit, and where that ends the protection
after-noted : (script : Script) (S : State) (t : ObjNo) (noted : Option Exit) → MayDie S t → GoOnAfter script S t (doom_noted t noted)
after-noted script S t None h = after-none script S t
after-noted script S t (Some exit) h = after-doom script S t t exit h

after-where : (script : Script) (S : State) (t : ObjNo) (unprotected : Bool) (noted : Option Exit)
    → (unprotected ≡ true → MayDie S t) → GoOnAfter script S t (doom_where unprotected t noted)
after-where script S t unprotected noted h =
    if_cases (GoOnAfter script S t) unprotected _ _ (λ free. after-noted script S t noted (h free))
    (λ _. after-none script S t)

-- an answer after such moves
pub fits-after : {script : Script} {S : State} {t : ObjNo} {row : ThreadRow} {instr : Instr} (told : Step)
    (named : may_tell plain told ≡ true) (ms : List Move)
    → IsStepping script S t row instr → GoOnAfter script S t ms
    → FitsDecision looking script t S (answer t told ms (pos 0))
fits-after told named ms h after =
    fits-answers told named ms (pos 0) (tame-in after.calm) after.each (after.at (ends_here h))
    (let few = after.told in omega arith) (let none = after.light in omega arith)

-- an answer after a change of the rows of threads that synchronize, and the doom that may follow it
fits-then_dies : {script : Script} {S : State} {t : ObjNo} {row : ThreadRow} {instr : Instr} (told : Step)
    (named : may_tell plain told ≡ true) (m : NanoMove) (unprotected : Bool)
    → IsStepping script S t row instr → FitsMove script t (move.Nano m) S
    → (unprotected ≡ true → MayDie (moved t (move.Nano m) S) t)
    → FitsDecision looking script t S (answer t told (move.Nano m ∷ doom_where unprotected t (noted_of S t)) (pos 0))
fits-then_dies {script = script} {S = S} {t = t} {row = row} told named m unprotected h fits dies =
    let after = after-where script (moved t (move.Nano m) S) t unprotected (noted_of S t) dies in
    let one = nano-tells m in
    let few = after.told in
    let none = after.light in
    fits-answers told named (move.Nano m ∷ doom_where unprotected t (noted_of S t)) (pos 0)
    (tame-both (move.Nano m ∷ []) (doom_where unprotected t (noted_of S t)) (let few = after.calm.loses in omega arith)
    (tame-moves _ refl refl) (tame-in after.calm)) (fits, after.each) (after.at (ends_in h refl)) (omega arith)
    (omega arith)

-- whoever gives a fast mutex up holds none then
gives_unheld : (script : Script) (S : State) (t : ObjNo) (f : ℕ) → AreRows script S
    → f < length S.synchronization.nano.holders → holder_of S.synchronization.nano f ≡ Some t
    → held_by (after_give S.synchronization.nano t f) t ≡ None
gives_unheld script S t f rows known holds =
    let is : is_holder S.synchronization.nano t f ≡ true = ap (is_thread t) holds ∙ is_thread-own t in
    rw is (held_by-give S.synchronization.nano t f rows.synchronization.nano.rows known holds)

-- `funlock`
pub fits-funlock : {script : Script} {S : State} {t : ObjNo} {row : ThreadRow} (f : ℕ)
    → IsStepping script S t row (instr.Funlock f) → is_returning row.part ≡ false
    → FitsDecision looking script t S (funlock_do S t f)
fits-funlock {script = script} {S = S} {t = t} {row = row} f h going =
    if_cases (FitsDecision looking script t S) (is_holder S.synchronization.nano t f) _ _
    (λ holds. given (mutex_inside script S f h.rows h.names) (is_thread-true t (holder_of S.synchronization.nano f) holds))
    (λ _. fits-refuse (step.Of word.Funlock part.Do) refl error.General h)
  where
    given : f < length S.synchronization.nano.holders → holder_of S.synchronization.nano f ≡ Some t
        → FitsDecision looking script t S (answer t (step.Of word.Funlock part.Do)
        (move.Nano (nano.Give t f) ∷ doom_where (critical_count S.synchronization.nano t == 0) t (noted_of S t)) (pos 0))
    given known holds =
        fits-then_dies (step.Of word.Funlock part.Do) refl (nano.Give t f) (critical_count S.synchronization.nano t == 0) h (ap is_some h.is, (known, holds))
        (λ _. record {
          row = row;
          is = h.is;
          live = h.live;
          signals = has_signals h;
          unheld = gives_unheld script S t f h.rows known holds;
          servers = owned_server script S t h.rows;
        })

-- `leave`
pub fits-leave : {script : Script} {S : State} {t : ObjNo} {row : ThreadRow} {instr : Instr}
    → IsStepping script S t row instr → is_returning row.part ≡ false → FitsDecision looking script t S (leave_do S t)
fits-leave {script = script} {S = S} {t = t} {row = row} h going =
    if_cases (FitsDecision looking script t S) (critical_count S.synchronization.nano t == 0) _ _
    (λ _. fits-refuse (step.Of word.Leave part.Do) refl error.General h)
    (λ _. fits-then_dies (step.Of word.Leave part.Do) refl (nano.Leave t) (is_unprotected S t) h (ap is_some h.is, tt)
    (λ free. record {
      row = row;
      is = h.is;
      live = h.live;
      signals = has_signals h;
      unheld = none_is (held_by S.synchronization.nano t)
          (and_parts (critical_count S.synchronization.nano t == 1) (is_none (held_by S.synchronization.nano t)) free).1;
      servers = owned_server script S t h.rows;
    }))

-- at its list's end a thread gives up what protects it
pub fits-flush : (script : Script) (S : State) (t : ObjNo) (row : ThreadRow) → AreRows script S
    → thread_of S t ≡ Some row → row.stage ≡ Live → FitsDecision plain script t S (flush S t)
fits-flush script S t row rows is live = given (held_by S.synchronization.nano t) refl
  where
    there : is_some (thread_of S t) ≡ true
    there = ap is_some is

    within : t.0 < length S.synchronization.requests.signals
    within = let lt = inside S.references.threads t.0 row is in let long = rows.synchronization.requests.sized in omega arith

    flushed : (held : Option ℕ) → IsTame plain 0 (doom_noted t (noted_of S t))
        → IsRegular plain script S t (record {
          step = step.Flush;
          moves = give_held t held ++ move.Nano (nano.LeaveAll t) ∷ doom_noted t (noted_of S t);
          answer = None;
        })
    flushed None calm = regular-moves _ refl refl
        (tame-both (move.Nano (nano.LeaveAll t) ∷ []) (doom_noted t (noted_of S t)) (let few = calm.loses in omega arith)
        (tame-moves _ refl refl) calm)
    flushed (Some f) calm = regular-moves _ refl refl
        (tame-both (move.Nano (nano.Give t f) ∷ move.Nano (nano.LeaveAll t) ∷ []) (doom_noted t (noted_of S t))
        (let few = calm.loses in omega arith) (tame-moves _ refl refl) calm)

    given : (held : Option ℕ) → held_by S.synchronization.nano t ≡ held
        → FitsDecision plain script t S (record {
          step = step.Flush;
          moves = give_held t held ++ move.Nano (nano.LeaveAll t) ∷ doom_noted t (noted_of S t);
          answer = None;
        })
    given None e =
        let after = after-noted script (moved t (move.Nano (nano.LeaveAll t)) S) t (noted_of S t)
        (record {
          row = row;
          is = is;
          live = live;
          signals = within;
          unheld = e;
          servers = owned_server script S t rows;
        }) in
        record {
          each = ((there, tt), after.each);
          told = let few = after.told in omega arith;
          light = let none = after.light in omega arith;
          regular = flushed None after.calm;
        }
    given (Some f) e =
        let holds = held_holder S.synchronization.nano t f e in
        let after = after-noted script (moved t (move.Nano (nano.LeaveAll t)) (moved t (move.Nano (nano.Give t f)) S)) t (noted_of S t)
        (record {
          row = row;
          is = is;
          live = live;
          signals = within;
          unheld = gives_unheld script S t f rows holds.0 holds.1;
          servers = owned_server script S t rows;
        }) in
        record {
          each = ((there, holds), ((there, tt), after.each));
          told = let few = after.told in omega arith;
          light = let none = after.light in omega arith;
          regular = flushed (Some f) after.calm;
        }

-- at its list's end a thread that nothing protects ends
pub fits-end : (script : Script) (S : State) (t : ObjNo) (row : ThreadRow) → AreRows script S → thread_of S t ≡ Some row
    → row.stage ≡ Live → is_protected S.synchronization.nano t ≡ false → FitsDecision plain script t S (end t)
fits-end script S t row rows is live free =
    let after = after-doom script S t t (killed (pos 0)) (may_die script S t row rows is live (unprotected_unheld S.synchronization.nano t free)) in
    record {
      each = after.each;
      told = let few = after.told in omega arith;
      light = let none = after.light in omega arith;
      regular = regular-moves (end t) refl refl after.calm;
    }
