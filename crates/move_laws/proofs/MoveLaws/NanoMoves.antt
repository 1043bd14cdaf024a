-- Moves in the rows of threads that synchronize.
use Rattle.std.proofs.Common.{◌≡◌, ℕ, set, arith, refl, Some, None}
use Rattle.std.proofs.lemmas.List.{length-set}
use Rattle.sym_base.specs.declared.number.ObjNo.{ObjNo}
use Rattle.script_types.specs.declared.script.Script.{Script}
use Rattle.state_rows.specs.NanoChanges.{after_resume_all}
use Rattle.state_rows.proofs.Soundness.{held_none}
use Rattle.state_rows.proofs.SoundChanges.{sound-signals, sound-sections, sound-suspend, sound-resume, sound-resume_all}
use Rattle.machine.specs.declared.moves.Move.TheVariants.{Nano}
use Rattle.machine.specs.declared.nano_move.NanoMove.{NanoMove}
use Rattle.machine.specs.declared.nano_move.NanoMove.TheVariants.{Take, Give, Want, Enter, Leave, LeaveAll, Suspend, Resume, Release, Raise, Lower}
use Rattle.machine.specs.declared.state.State.{State}
use Rattle.machine.specs.Fits.{FitsMove, FitsNano}
use Rattle.machine.specs.Moves.{moved, told}
use Rattle.machine.specs.NanoMoves.{nano_moved, nano_told}
use Rattle.machine.specs.WellFormed.{AreRows, AreSynchronized}
use Rattle.move_laws.proofs.RowLaws.Synchronized.{synchronized-counts, synchronized-take, synchronized-give, synchronized-want}
use Rattle.move_laws.proofs.MoveLaws.RowMoves.{IsSilent, silent, sound-rest}
use Rattle.move_laws.proofs.MoveLaws.Sound.{Sound}
use Rattle.move_laws.proofs.MoveLaws.Silent.{silent_of}

in_sections : (script : Script) (S : State) (t : ObjNo) (n : ℕ)
    → AreSynchronized script S.references.threads S.synchronization.nano
    → AreSynchronized script S.references.threads
    (record S.synchronization.nano { sections = set S.synchronization.nano.sections t.0 n })
in_sections script S t n h =
    synchronized-counts script S.references.threads S.synchronization.nano S.synchronization.nano.signals
    S.synchronization.nano.suspensions (set S.synchronization.nano.sections t.0 n) refl
    (sound-sections S.synchronization.nano _ (length-set S.synchronization.nano.sections t.0 n) h.rows) h

signalled : (script : Script) (S : State) (t : ObjNo) (n : ℕ)
    → AreSynchronized script S.references.threads S.synchronization.nano
    → AreSynchronized script S.references.threads
    (record S.synchronization.nano { signals = set S.synchronization.nano.signals t.0 n })
signalled script S t n h =
    let long = length-set S.synchronization.nano.signals t.0 n in
    synchronized-counts script S.references.threads S.synchronization.nano
    (set S.synchronization.nano.signals t.0 n) S.synchronization.nano.suspensions S.synchronization.nano.sections long
    (sound-signals S.synchronization.nano _ long h.rows) h

-- a move that fits keeps them
synchronized-nano : (script : Script) (S : State) (m : NanoMove) → FitsNano m S
    → AreSynchronized script S.references.threads S.synchronization.nano
    → AreSynchronized script S.references.threads (nano_moved m S.synchronization.nano)
synchronized-nano script S (Take t f) fits h =
    let may = fits.2 in
    synchronized-take script S.references.threads S.synchronization.nano t f may.row fits.0 fits.1 may.holds may.is may.live may.serves may.waits may.going h
synchronized-nano script S (Give t f) fits h = synchronized-give script S.references.threads S.synchronization.nano t f h
synchronized-nano script S (Want t None) fits h =
    synchronized-want script S.references.threads S.synchronization.nano t None (λ f is. absurd (cc)) (λ f is. refl) h
synchronized-nano script S (Want t (Some f)) fits h =
    synchronized-want script S.references.threads S.synchronization.nano t (Some f)
    (λ g is. let same : f ≡ g = cc in let below = fits.0 in omega arith)
    (λ g is. absurd (held_none S.synchronization.nano t g fits.1 is)) h
synchronized-nano script S (Enter t) fits h = in_sections script S t _ h
synchronized-nano script S (Leave t) fits h = in_sections script S t _ h
synchronized-nano script S (LeaveAll t) fits h = in_sections script S t _ h
synchronized-nano script S (Suspend t) fits h =
    synchronized-counts script S.references.threads S.synchronization.nano S.synchronization.nano.signals _
    S.synchronization.nano.sections refl (sound-suspend S.synchronization.nano t fits h.rows) h
synchronized-nano script S (Resume t) fits h =
    synchronized-counts script S.references.threads S.synchronization.nano S.synchronization.nano.signals _
    S.synchronization.nano.sections refl (sound-resume S.synchronization.nano t h.rows) h
synchronized-nano script S (Release t) fits h =
    let resumed = synchronized-counts script S.references.threads S.synchronization.nano S.synchronization.nano.signals
    _ S.synchronization.nano.sections refl (sound-resume_all S.synchronization.nano t h.rows) h in
    synchronized-want script S.references.threads (after_resume_all S.synchronization.nano t) t None (λ f is. absurd (cc)) (λ f is. refl) resumed
synchronized-nano script S (Raise t) fits h = signalled script S t _ h
synchronized-nano script S (Lower t) fits h = signalled script S t _ h

-- a take and a give of a fast mutex tell of no reference and no death
pub nano_silent : (S : State) (m : NanoMove) → IsSilent S (nano_told m)
nano_silent S (Take t f) = silent_of S (λ o. refl) (λ o. refl) (tt, tt) (λ g x. refl)
nano_silent S (Give t f) = silent_of S (λ o. refl) (λ o. refl) (tt, tt) (λ g x. refl)
nano_silent S _ = silent S

pub sound-nano : (script : Script) (S : State) (t : ObjNo) (m : NanoMove) → FitsMove script t (Nano m) S
    → AreRows script S → Sound script S (moved t (Nano m) S) (told (Nano m) S)
sound-nano script S t m fits rows =
    let here = rows.synchronization in
    sound-rest script S (record S.synchronization { nano = nano_moved m S.synchronization.nano }) S.services (nano_told m) (nano_silent S m) (record {
      nano = synchronized-nano script S m fits.1 here.nano;
      deferred = here.deferred;
      requests = here.requests;
      locks = here.locks;
      logons = here.logons;
      awaited = here.awaited;
    }) rows.services rows.serving.messages rows
