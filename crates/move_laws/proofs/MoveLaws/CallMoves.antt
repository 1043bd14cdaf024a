-- Moves in the rows of deferred function calls, of requests and of logons.
use Rattle.std.proofs.Common.{◌≡◌, ℕ, ◌<◌, [], ap, arith, refl, length, subst, ◌∙◌}
use Rattle.std.specs.Prelude.{not}
use Rattle.sym_base.specs.declared.number.ObjNo.{ObjNo}
use Rattle.script_types.specs.declared.script.Script.{Script}
use Rattle.machine.specs.declared.deferred_move.DeferredMove.{DeferredMove}
use Rattle.machine.specs.declared.moves.Move.TheVariants.{Deferred, Requests, Logons}
use Rattle.machine.specs.declared.logon_move.LogonMove.{LogonMove}
use Rattle.machine.specs.declared.logon_move.LogonMove.TheVariants as logon
use Rattle.machine.specs.declared.request_move.RequestMove.{RequestMove}
use Rattle.machine.specs.declared.request_move.RequestMove.TheVariants.{Complete, Signal, Reply}
use Rattle.machine.specs.declared.state.State.{State}
use Rattle.machine.specs.DeferredMoves.{deferred_moved}
use Rattle.machine.specs.Fits.{FitsLogons, FitsMove, IsOfLive}
use Rattle.machine.specs.Moves.{moved, told}
use Rattle.machine.specs.LogonMoves.{is_logon, is_made_by, logons_moved, logons_on, without_logon}
use Rattle.machine.specs.RequestMoves.{request_moved, request_told}
use Rattle.machine.specs.Serving.{times_sent}
use Rattle.machine.specs.WellFormed.{AreLogons, AreRows, IsUntold, logon_names}
use Rattle.move_laws.proofs.RowLaws.Calls.{calls-moved}
use Rattle.move_laws.proofs.RowLaws.Logons.{Spares, logon-added, logons-moved, logons-requests, still_awaited, the_logon}
use Rattle.move_laws.proofs.Lives.LivesMove.{zero_or}
use Rattle.move_laws.proofs.References.Same.{same_object}
use Rattle.move_laws.proofs.RowLaws.MessagesKept.{messages-awaited}
use Rattle.move_laws.proofs.RowLaws.Requests.{requests-moved}
use Rattle.move_laws.proofs.MoveLaws.RowMoves.{IsSilent, silent, sound-rest}
use Rattle.move_laws.proofs.MoveLaws.Sound.{Sound}
use Rattle.move_laws.proofs.RowLaws.Awaited.{awaited-requests, awaited-logons}
use Rattle.move_laws.proofs.MoveLaws.Silent.{silent_of}
use Rattle.move_laws.proofs.Lists.Totals.{total-filter, filtered_each, total-at}

pub sound-deferred : (script : Script) (S : State) (t : ObjNo) (m : DeferredMove) → FitsMove script t (Deferred m) S
    → AreRows script S → Sound script S (moved t (Deferred m) S) (told (Deferred m) S)
sound-deferred script S t m fits rows =
    let here = rows.synchronization in
    sound-rest script S (record S.synchronization { deferred = deferred_moved m S.synchronization.deferred }) S.services [] (silent S) (record {
      nano = here.nano;
      deferred = calls-moved script m S.synchronization.deferred fits here.deferred;
      requests = here.requests;
      locks = here.locks;
      logons = here.logons;
      awaited = here.awaited;
    }) rows.services rows.serving.messages rows

-- a signal tells of no reference and no death
pub request_silent : (S : State) (m : RequestMove) → IsSilent S (request_told m)
request_silent S (Complete d t s code) = silent_of S (λ o. refl) (λ o. refl) (tt, tt) (λ g x. refl)
request_silent S (Signal t s code) = silent_of S (λ o. refl) (λ o. refl) (tt, tt) (λ g x. refl)
request_silent S (Reply t code) = silent_of S (λ o. refl) (λ o. refl) (tt, tt) (λ g x. refl)
request_silent S _ = silent S

-- the status of a message is no other that is completed
spares_sent : (S : State) (m : RequestMove) (u : ObjNo) (s : ℕ) → IsOfLive m S → 0 < times_sent S.serving.messages.outstanding u s → Spares m u s
spares_sent S (Signal t w code) u s fits some =
    λ thread status. let none : times_sent S.serving.messages.outstanding u s
    ≡ 0 = ap (λ (x : ObjNo). times_sent S.serving.messages.outstanding x s) (same_object u t thread)
    ∙ (ap (times_sent S.serving.messages.outstanding t) status ∙ fits.1) in absurd (omega arith)
spares_sent S _ u s fits some = tt

pub sound-requests : (script : Script) (S : State) (t : ObjNo) (m : RequestMove) → FitsMove script t (Requests m) S
    → AreRows script S → Sound script S (moved t (Requests m) S) (told (Requests m) S)
sound-requests script S t m fits rows =
    let here = rows.synchronization in
    sound-rest script S (record S.synchronization { requests = request_moved m S.synchronization.requests }) S.services
    (request_told m) (request_silent S m) (record {
      nano = here.nano;
      deferred = here.deferred;
      requests = requests-moved _ m S.synchronization.requests S.synchronization.logons fits.0 here.requests;
      locks = here.locks;
      logons = logons-requests (length S.references.threads) S.synchronization.requests m S.synchronization.logons here.requests fits.0 here.logons;
      awaited = awaited-requests S m fits.0 fits.1 here.awaited;
    }) rows.services
    (messages-awaited (IsUntold S.synchronization.requests S.synchronization.logons)
    (IsUntold (request_moved m S.synchronization.requests) S.synchronization.logons) S.references.threads
    S.serving.servers S.serving.messages
    (λ u s some untold. (
      still_awaited (length S.references.threads) S.synchronization.requests m
          S.synchronization.logons u s here.requests fits.0 (spares_sent S m u s fits.1 some) untold.0,
      untold.1,
    ))
    rows.serving.messages) rows

-- a status of a message stays untold where logons change
still_untold : (S : State) (m : LogonMove) → FitsLogons m S
    → AreLogons (length S.references.threads) S.synchronization.requests S.synchronization.logons → (u : ObjNo) (s : ℕ)
    → 0 < times_sent S.serving.messages.outstanding u s
    → IsUntold S.synchronization.requests S.synchronization.logons u s
    → IsUntold S.synchronization.requests (logons_moved m S.synchronization.logons) u s
still_untold S (logon.Add t v w) fits rows u s some untold =
    let a = logon-added S.synchronization.logons t v w (let long = rows.sized in let inside = fits.0 in omega arith) u s in
    let none = untold.1 in
    let other : logon_names u s (v, w) ≡ 0 = zero_or (logon_names u s (v, w)) (λ one. let own = the_logon u s v w one in
    let unsent : times_sent S.serving.messages.outstanding u s
    ≡ 0 = subst (λ (x : ObjNo). times_sent S.serving.messages.outstanding x s ≡ 0) own.0
    (subst (λ (n : ℕ). times_sent S.serving.messages.outstanding v n ≡ 0) own.1 fits.3) in omega arith) in
    (untold.0, omega arith)
still_untold S (logon.Remove t v w) fits rows u s some untold =
    let a = total-at (logon_names u s) S.synchronization.logons t.0
    (without_logon v w (logons_on S.synchronization.logons t))
    (total-filter (logon_names u s) (λ (x : ObjNo × ℕ). not (is_logon v w x)) (logons_on S.synchronization.logons t)) in
    let none = untold.1 in (untold.0, omega arith)
still_untold S (logon.Drop v) fits rows u s some untold =
    let a = filtered_each (logon_names u s) (λ (x : ObjNo × ℕ). not (is_made_by v x)) S.synchronization.logons in
    let none = untold.1 in (untold.0, omega arith)

pub sound-logons : (script : Script) (S : State) (t : ObjNo) (m : LogonMove) → FitsMove script t (Logons m) S
    → AreRows script S → Sound script S (moved t (Logons m) S) (told (Logons m) S)
sound-logons script S t m fits rows =
    let here = rows.synchronization in
    sound-rest script S (record S.synchronization { logons = logons_moved m S.synchronization.logons }) S.services [] (silent S) (record {
      nano = here.nano;
      deferred = here.deferred;
      requests = here.requests;
      locks = here.locks;
      logons = logons-moved S m fits here.logons;
      awaited = awaited-logons S m fits here.logons here.awaited;
    }) rows.services
    (messages-awaited (IsUntold S.synchronization.requests S.synchronization.logons)
    (IsUntold S.synchronization.requests (logons_moved m S.synchronization.logons)) S.references.threads
    S.serving.servers S.serving.messages (still_untold S m fits here.logons) rows.serving.messages) rows
