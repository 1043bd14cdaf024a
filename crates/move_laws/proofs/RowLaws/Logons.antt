-- The rows of logons, where one is made, where some go, and where requests change.
use Rattle.std.proofs.Common.{◌≡◌, inl, inr, ℕ, ℤ, ◌+◌, ◌<◌, ◌≤◌, Bool, true, false, List, [], ◌∷◌, ◌++◌, length, map, set, arith, refl, sym, ap, subst, ◌∙◌}
use Rattle.std.specs.Prelude.{Some, is_some, not, ◌==◌, if◌then◌else◌}
use Rattle.std.specs.Ordering.{int_eq}
use Rattle.std.proofs.lemmas.Bool.{and_parts, cases_lt, eqb-true}
use Rattle.std.proofs.lemmas.List.{length-map, length-set}
use Rattle.sym_base.specs.declared.number.ObjNo.{ObjNo}
use Rattle.state_rows.specs.declared.requests.Request.{Request}
use Rattle.state_rows.specs.declared.requests.RequestRows.{RequestRows}
use Rattle.state_rows.specs.RequestChanges.{with_status}
use Rattle.state_rows.specs.Requests.{is_pending, pending, request_at}
use Rattle.state_rows.proofs.SoundRequests.{status_item}
use Rattle.machine.specs.declared.logon_move.LogonMove.{LogonMove}
use Rattle.machine.specs.declared.logon_move.LogonMove.TheVariants as logon
use Rattle.machine.specs.declared.request_move.RequestMove.{RequestMove}
use Rattle.machine.specs.declared.request_move.RequestMove.TheVariants.{Begin, Complete, SetPending, Signal, DropAll, TakeSignal, Reply}
use Rattle.machine.specs.declared.state.State.{State}
use Rattle.machine.specs.Fits.{FitsLogons, FitsRequests}
use Rattle.machine.specs.LogonMoves.{is_logon, is_made_by, logons_moved, logons_on, without_logon, without_maker}
use Rattle.machine.specs.RequestMoves.{request_moved}
use Rattle.machine.specs.References.{total}
use Rattle.machine.specs.WellFormed.{AreLogons, AreRequests, IsAwaited, logon_names, times_logged}
use Rattle.move_laws.proofs.Lists.Totals.{total-append, total-set, total-filter, filtered_each, total-at}
use Rattle.move_laws.proofs.References.Same.{same_object}
use Rattle.move_laws.proofs.RowLaws.Requests.{device_had, device_is, dropped, of_status}

-- a logon with the status of another is that
pub the_logon : (u : ObjNo) (s : ℕ) (v : ObjNo) (w : ℕ) → 0 < logon_names u s (v, w) → (v ≡ u) × (w ≡ s)
the_logon u s v w some = by (is_logon u s (v, w)) refl some
  where
    by : (b : Bool) → is_logon u s (v, w) ≡ b → 0 < (if b then 1 else 0) → (v ≡ u) × (w ≡ s)
    by true is some = let parts = and_parts (v.0 == u.0) (w == s) is in (same_object v u (eqb-true v.0 u.0 parts.0), eqb-true w s parts.1)
    by false is some = absurd (omega arith)

names_few : (u : ObjNo) (s : ℕ) (x : ObjNo × ℕ) → logon_names u s x ≤ 1
names_few u s x = by (is_logon u s x)
  where
    by : (b : Bool) → (if b then 1 else 0) ≤ 1
    by true = omega arith
    by false = omega arith

-- fewer logons
logons-fewer : (count : ℕ) (r : RequestRows) (logons other : List (List (ObjNo × ℕ))) → length other ≡ length logons
    → ((u : ObjNo) (s : ℕ) → times_logged other u s ≤ times_logged logons u s) → AreLogons count r logons
    → AreLogons count r other
logons-fewer count r logons other long fewer h = record {
  sized = long ∙ h.sized;
  once = λ u s. let a = fewer u s in let b = h.once u s in omega arith;
  waits = λ u s some. let a = fewer u s in h.waits u s (omega arith);
}

-- a logon more
pub logon-added : (logons : List (List (ObjNo × ℕ))) (t u : ObjNo) (s : ℕ) → t.0 < length logons → (v : ObjNo) (w : ℕ)
    → times_logged (set logons t.0 (logons_on logons t ++ (u, s) ∷ [])) v w
    ≡ times_logged logons v w + logon_names v w (u, s)
logon-added logons t u s inside v w =
    let a = total-set (total (logon_names v w)) logons t.0 (logons_on logons t ++ (u, s) ∷ []) [] inside in
    let b = total-append (logon_names v w) (logons_on logons t) ((u, s) ∷ []) in omega arith

-- a move in the rows of logons that fits keeps them
pub logons-moved : (S : State) (m : LogonMove) → FitsLogons m S
    → AreLogons (length S.references.threads) S.synchronization.requests S.synchronization.logons
    → AreLogons (length S.references.threads) S.synchronization.requests (logons_moved m S.synchronization.logons)
logons-moved S (logon.Add t u s) fits h = record {
  sized = length-set S.synchronization.logons t.0 _ ∙ h.sized;
  once = λ v w. let a = added v w in let b = h.once v w in let c = names_few v w (u, s) in
      elim (cases_lt 0 (logon_names v w (u, s))) as (λ _. times_logged (logons_moved (logon.Add t u s) S.synchronization.logons) v w ≤ 1) [
        | inl one ↦
            let own = the_logon v w u s one in
            let none : times_logged S.synchronization.logons v w
            ≡ 0 = subst (λ (x : ObjNo). times_logged S.synchronization.logons x w ≡ 0) own.0
            (subst (λ (n : ℕ). times_logged S.synchronization.logons u n ≡ 0) own.1 fits.2) in
            omega arith
        | inr no_name ↦ omega arith
      ];
  waits = λ v w some. let a = added v w in
      elim (cases_lt 0 (logon_names v w (u, s))) as (λ _. IsAwaited S.synchronization.requests v w) [
        | inl one ↦
            let own = the_logon v w u s one in
            subst (λ (x : ObjNo). IsAwaited S.synchronization.requests x w) own.0
            (subst (λ (n : ℕ). IsAwaited S.synchronization.requests u n) own.1 fits.1)
        | inr no_name ↦ h.waits v w (omega arith)
      ];
}
  where
    added : (v : ObjNo) (w : ℕ) → times_logged (logons_moved (logon.Add t u s) S.synchronization.logons) v w
        ≡ times_logged S.synchronization.logons v w + logon_names v w (u, s)
    added v w = logon-added S.synchronization.logons t u s (let long = h.sized in let inside = fits.0 in omega arith) v w
logons-moved S (logon.Remove t u s) fits h =
    logons-fewer (length S.references.threads) S.synchronization.requests S.synchronization.logons
    (set S.synchronization.logons t.0 (without_logon u s (logons_on S.synchronization.logons t)))
    (length-set S.synchronization.logons t.0 _)
    (λ v w. total-at (logon_names v w) S.synchronization.logons t.0
    (without_logon u s (logons_on S.synchronization.logons t))
    (total-filter (logon_names v w) (λ (x : ObjNo × ℕ). not (is_logon u s x)) (logons_on S.synchronization.logons t))) h
logons-moved S (logon.Drop u) fits h =
    logons-fewer (length S.references.threads) S.synchronization.requests S.synchronization.logons
    (map (without_maker u) S.synchronization.logons) (length-map S.synchronization.logons (without_maker u))
    (λ v w. filtered_each (logon_names v w) (λ (x : ObjNo × ℕ). not (is_made_by u x)) S.synchronization.logons) h

-- statuses that are awaited stay so where a request begins or is completed, and where another status is written
abbrev pub Spares : RequestMove → ObjNo → ℕ → Type 0
Spares (Signal t w code) u s = u.0 ≡ t.0 → s ≡ w → ⊥
Spares _ u s = Unit {0}

pub still_awaited : (count : ℕ) (r : RequestRows) (m : RequestMove) (logons : List (List (ObjNo × ℕ))) (u : ObjNo)
    (s : ℕ)
    → AreRequests count r → FitsRequests m r logons → Spares m u s → IsAwaited r u s → IsAwaited (request_moved m r) u s
still_awaited count r (Begin d t w) logons u s rows fits spares h = by (is_some (request_at r d)) (ap is_some fits.free)
  where
    by : (had : Bool) → had ≡ false → IsAwaited
        (record r {
          devices = if had then r.devices else set r.devices d (Some (of_status t w));
          statuses = with_status r.statuses t w pending;
        }) u s
    by true is = absurd (cc)
    by false is = record {
      thread = h.thread;
      status = h.status;
      waits = status_item (λ (value : ℤ). int_eq value pending ≡ true) r.statuses t w pending u s (λ _ _. refl) h.waits;
      alone = λ e at. elim (device_is r.devices d (Some (of_status t w)) e (of_status u s) at) as (λ _. ⊥) [
        | inl here ↦
            let own : of_status t w ≡ of_status u s = (let same = here.1 in cc) in
            let now : is_pending r t w ≡ true = subst (λ (q : Request). is_pending r q.thread q.status ≡ true) (sym own) h.waits in
            let done = fits.done in absurd (cc)
        | inr had ↦ h.alone e had
      ];
    }
still_awaited count r (Complete d t w code) logons u s rows fits spares h = record {
  thread = let long : length (request_moved (Complete d t w code) r).signals ≡ length r.signals = length-set r.signals t.0 _ in let a = h.thread in omega arith;
  status = h.status;
  waits =
      status_item (λ (value : ℤ). int_eq value pending ≡ true) r.statuses t w code u s
      (λ thread status. absurd (h.alone d (fits.1
      ∙ ap Some (ap (λ (x : ObjNo). of_status x w) (sym (same_object u t thread)) ∙ ap (of_status u) (sym status)))))
      h.waits;
  alone = λ e at. h.alone e (device_had r.devices d e (of_status u s) fits.0 at).1;
}
still_awaited count r (SetPending t w) logons u s rows fits spares h = record {
  thread = h.thread;
  status = h.status;
  waits = status_item (λ (value : ℤ). int_eq value pending ≡ true) r.statuses t w pending u s (λ _ _. refl) h.waits;
  alone = h.alone;
}
still_awaited count r (Signal t w code) logons u s rows fits spares h = record {
  thread = let long : length (request_moved (Signal t w code) r).signals ≡ length r.signals = length-set r.signals t.0 _ in let a = h.thread in omega arith;
  status = h.status;
  waits = status_item (λ (value : ℤ). int_eq value pending ≡ true) r.statuses t w code u s
      (λ thread status. absurd (spares thread status)) h.waits;
  alone = h.alone;
}
still_awaited count r (DropAll t) logons u s rows fits spares h = record {
  thread = h.thread;
  status = h.status;
  waits = h.waits;
  alone = λ d at. h.alone d (dropped t r.devices d (of_status u s) at);
}
still_awaited count r (TakeSignal t) logons u s rows fits spares h = record {
  thread =
      let long : length (request_moved (TakeSignal t) r).signals ≡ length r.signals = length-set r.signals t.0 _ in
      let a = h.thread in
      omega arith;
  status = h.status;
  waits = h.waits;
  alone = h.alone;
}
still_awaited count r (Reply t code) logons u s rows fits spares h = record { thread = h.thread; status = h.status; waits = h.waits; alone = h.alone }

-- the status of a logon is no other that is completed
spares_logged : (r : RequestRows) (m : RequestMove) (logons : List (List (ObjNo × ℕ))) (u : ObjNo) (s : ℕ)
    → FitsRequests m r logons → 0 < times_logged logons u s → Spares m u s
spares_logged r (Signal t w code) logons u s fits some =
    λ thread status. let none : times_logged logons u s
    ≡ 0 = ap (λ (x : ObjNo). times_logged logons x s) (same_object u t thread)
    ∙ (ap (times_logged logons t) status ∙ fits.1) in absurd (omega arith)
spares_logged r _ logons u s fits some = tt

pub logons-requests : (count : ℕ) (r : RequestRows) (m : RequestMove) (logons : List (List (ObjNo × ℕ)))
    → AreRequests count r → FitsRequests m r logons → AreLogons count r logons
    → AreLogons count (request_moved m r) logons
logons-requests count r m logons rows fits h = record {
  sized = h.sized;
  once = h.once;
  waits =
      λ u s some. still_awaited count r m logons u s rows fits (spares_logged r m logons u s fits some)
      (h.waits u s some);
}

-- none at boot
pub none_logged : {B : Type 0} (u : ObjNo) (s : ℕ) (bs : List B) → times_logged (map (λ _. []) bs) u s ≡ 0
none_logged u s [] = refl
none_logged u s (b ∷ bs) = let rest = none_logged u s bs in omega arith

pub logons-boot : {B : Type 0} (bs : List B) (count : ℕ) (r : RequestRows) → length bs ≡ count → AreLogons count r (map (λ _. []) bs)
logons-boot bs count r long = record {
  sized = length-map bs (λ _. []) ∙ long;
  once = λ u s. let none = none_logged u s bs in omega arith;
  waits = λ u s some. let none = none_logged u s bs in absurd (omega arith);
}
