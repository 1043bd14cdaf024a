-- Only live threads await something, where a row, a request or a logon changes.
use Rattle.std.proofs.Common.{◌≡◌, inl, inr, ℕ, zero, suc, ◌≤◌, List, [], ◌∷◌, length, map, get_or, set, arith, refl, sym, ap, subst, ◌∙◌, Option, Some, None, Bool, true, false}
use Rattle.std.specs.Prelude.{◌==◌, if◌then◌else◌, is_some, not, option_map}
use Rattle.std.proofs.lemmas.Bool.{cases_eq, cases_lt, eq-eqb}
use Rattle.std.proofs.lemmas.List.{get_or-set_other}
use Rattle.sym_base.specs.declared.number.ObjNo.{ObjNo}
use Rattle.state_rows.proofs.SoundChanges.{set_item}
use Rattle.state_rows.specs.RequestChanges.{without}
use Rattle.state_rows.specs.Requests.{request_at}
use Rattle.state_rows.specs.declared.requests.Request.{Request}
use Rattle.state_rows.specs.declared.requests.RequestRows.{RequestRows}
use Rattle.state_rows.specs.declared.thread.Stage.TheVariants.{Live}
use Rattle.state_rows.specs.declared.thread.ThreadRow.{ThreadRow}
use Rattle.state_rows.specs.declared.thread.Waiting.TheVariants as waiting
use Rattle.machine.specs.declared.logon_move.LogonMove.{LogonMove}
use Rattle.machine.specs.declared.logon_move.LogonMove.TheVariants as logon
use Rattle.machine.specs.declared.request_move.RequestMove.{RequestMove}
use Rattle.machine.specs.declared.request_move.RequestMove.TheVariants.{Begin, Complete, SetPending, Signal, DropAll, TakeSignal, Reply}
use Rattle.machine.specs.declared.state.State.{State}
use Rattle.machine.specs.Fits.{FitsLogons, FitsRequests, IsOfLive}
use Rattle.machine.specs.LogonMoves.{is_logon, is_made_by, logons_moved, logons_on, without_logon, without_maker}
use Rattle.machine.specs.RequestMoves.{request_moved}
use Rattle.machine.specs.Rows.{with_row}
use Rattle.machine.specs.WellFormed.{AreAwaited, AreLogons, IsLiveThread, logon_names, times_logged}
use Rattle.move_laws.proofs.Holders.ThreadRows.{row-here, row-other}
use Rattle.move_laws.proofs.References.Same.{same_object}
use Rattle.move_laws.proofs.RowLaws.Logons.{logon-added, the_logon}
use Rattle.move_laws.proofs.RowLaws.Requests.{device_had, device_is, dropped, of_status}
use Rattle.move_laws.proofs.RowLaws.Threads.{was_row}
use Rattle.move_laws.proofs.Lists.Totals.{total-filter, filtered_each, total-at}

-- a live thread stays so, where a row changes that stays live if it was
live-with_row : (threads : List (Option ThreadRow)) (u : ObjNo) (f : ThreadRow → ThreadRow) (v : ObjNo)
    → ((row : ThreadRow) → get_or threads u.0 None ≡ Some row → row.stage ≡ Live → (f row).stage ≡ Live)
    → IsLiveThread threads v → IsLiveThread (with_row threads u f) v
live-with_row threads u f v keeps h = elim (cases_eq u.0 v.0) as (λ _. IsLiveThread (with_row threads u f) v) [
  | inl at ↦
      let is : get_or threads u.0 None ≡ Some h.row = ap (λ (n : ℕ). get_or threads n None) at ∙ h.is in
      record { row = f h.row; is = row-here threads u f v.0 at ∙ ap (option_map f) is; live = keeps h.row is h.live }
  | inr apart ↦ record { row = h.row; is = row-other threads u f v.0 apart ∙ h.is; live = h.live }
]

-- a change of a row that stays live if it was, and that waits for an object only if it is live
pub awaited-with_row : (threads : List (Option ThreadRow)) (u : ObjNo) (f : ThreadRow → ThreadRow) (r : RequestRows)
    (logons : List (List (ObjNo × ℕ)))
    → ((row : ThreadRow) → get_or threads u.0 None ≡ Some row → row.stage ≡ Live → (f row).stage ≡ Live)
    → ((row : ThreadRow) (o : ObjNo) → get_or threads u.0 None ≡ Some row
    → (row.waiting ≡ waiting.Lock o → row.stage ≡ Live) → (f row).waiting ≡ waiting.Lock o → (f row).stage ≡ Live)
    → AreAwaited threads r logons → AreAwaited (with_row threads u f) r logons
awaited-with_row threads u f r logons keeps waits h = record {
  requests = λ d request at. live-with_row threads u f request.thread keeps (h.requests d request at);
  logons = λ v s some. live-with_row threads u f v keeps (h.logons v s some);
  waits =
      λ k row o is. was_row threads u f (λ (n : ℕ) (r : ThreadRow). (o : ObjNo) → r.waiting ≡ waiting.Lock o → r.stage
      ≡ Live) (λ old was o e. waits old o was (h.waits u.0 old o was) e) (λ n r is o e. h.waits n r o is e) k row is o;
}

-- a change that leaves stage and wait
pub awaited-kept : (threads : List (Option ThreadRow)) (u : ObjNo) (f : ThreadRow → ThreadRow) (r : RequestRows)
    (logons : List (List (ObjNo × ℕ)))
    → ((row : ThreadRow) → (f row).stage ≡ row.stage) → ((row : ThreadRow) → (f row).waiting ≡ row.waiting)
    → AreAwaited threads r logons → AreAwaited (with_row threads u f) r logons
awaited-kept threads u f r logons stage waits h =
    awaited-with_row threads u f r logons (λ row is live. stage row ∙ live)
    (λ row o is live e. stage row ∙ live (sym (waits row) ∙ e)) h

-- a change of one that isn't live
pub awaited-later : (threads : List (Option ThreadRow)) (u : ObjNo) (f : ThreadRow → ThreadRow) (r : RequestRows)
    (logons : List (List (ObjNo × ℕ)))
    → ((row : ThreadRow) → get_or threads u.0 None ≡ Some row → row.stage ≡ Live → ⊥)
    → ((row : ThreadRow) → (f row).waiting ≡ row.waiting) → AreAwaited threads r logons
    → AreAwaited (with_row threads u f) r logons
awaited-later threads u f r logons over waits h =
    awaited-with_row threads u f r logons (λ row is live. absurd (over row is live))
    (λ row o is live e. absurd (over row is (live (sym (waits row) ∙ e)))) h

-- the end of one that awaits nothing
pub awaited-doom : (threads : List (Option ThreadRow)) (u : ObjNo) (f : ThreadRow → ThreadRow) (r : RequestRows)
    (logons : List (List (ObjNo × ℕ)))
    → ((d : ℕ) (request : Request) → request_at r d ≡ Some request → request.thread.0 ≡ u.0 → ⊥)
    → ((s : ℕ) → times_logged logons u s ≡ 0)
    → ((row : ThreadRow) (o : ObjNo) → (f row).waiting ≡ waiting.Lock o → ⊥) → AreAwaited threads r logons → AreAwaited (with_row threads u f) r logons
awaited-doom threads u f r logons unasked unlogged waits h = record {
  requests = λ d request at. other request.thread (unasked d request at) (h.requests d request at);
  logons =
      λ v s some. other v (λ e. let none : times_logged logons v s
      ≡ 0 = ap (λ (x : ObjNo). times_logged logons x s) (same_object v u e) ∙ unlogged s in omega arith)
      (h.logons v s some);
  waits =
      λ k row o is. was_row threads u f (λ (n : ℕ) (r : ThreadRow). (o : ObjNo) → r.waiting ≡ waiting.Lock o → r.stage
      ≡ Live) (λ old was o e. absurd (waits old o e)) (λ n r is o e. h.waits n r o is e) k row is o;
}
  where
    other : (v : ObjNo) → (v.0 ≡ u.0 → ⊥) → IsLiveThread threads v → IsLiveThread (with_row threads u f) v
    other v apart h = record { row = h.row; is = row-other threads u f v.0 (λ e. apart (sym e)) ∙ h.is; live = h.live }

-- the row of one that isn't live goes
pub awaited-swept : (threads : List (Option ThreadRow)) (o : ℕ) (r : RequestRows) (logons : List (List (ObjNo × ℕ)))
    → ((row : ThreadRow) → get_or threads o None ≡ Some row → row.stage ≡ Live → ⊥) → AreAwaited threads r logons
    → AreAwaited (set threads o None) r logons
awaited-swept threads o r logons over h = record {
  requests = λ d request at. left request.thread (h.requests d request at);
  logons = λ v s some. left v (h.logons v s some);
  waits = λ k row p is. h.waits k row p (there k row is);
}
  where
    left : (v : ObjNo) → IsLiveThread threads v → IsLiveThread (set threads o None) v
    left v h = elim (cases_eq v.0 o) as (λ _. IsLiveThread (set threads o None) v) [
      | inl at ↦ absurd (over h.row (subst (λ (n : ℕ). get_or threads n None ≡ Some h.row) at h.is) h.live)
      | inr apart ↦ record { row = h.row; is = get_or-set_other threads o v.0 None None apart ∙ h.is; live = h.live }
    ]

    there : (k : ℕ) (row : ThreadRow) → get_or (set threads o None) k None ≡ Some row → get_or threads k None ≡ Some row
    there k row = set_item (λ (x : Option ThreadRow). x ≡ Some row → get_or threads k None ≡ Some row) threads o k None None (λ at e. absurd (cc)) (λ e. e)

-- other requests, each of a live thread
awaited-asked : (S : State) (r : RequestRows)
    → ((d : ℕ) (request : Request) → request_at r d ≡ Some request → IsLiveThread S.references.threads request.thread)
    → AreAwaited S.references.threads S.synchronization.requests S.synchronization.logons
    → AreAwaited S.references.threads r S.synchronization.logons
awaited-asked S r each h = record { requests = each; logons = h.logons; waits = h.waits }

-- a request begins
awaited-begun : (S : State) (d : ℕ) (t : ObjNo) (s : ℕ) (had : Bool) → IsLiveThread S.references.threads t
    → AreAwaited S.references.threads S.synchronization.requests S.synchronization.logons → (e : ℕ) (request : Request)
    → get_or (if had then S.synchronization.requests.devices else set S.synchronization.requests.devices d
    (Some (of_status t s))) e None ≡ Some request
    → IsLiveThread S.references.threads request.thread
awaited-begun S d t s true live h e request at = h.requests e request at
awaited-begun S d t s false live h e request at =
    elim (device_is S.synchronization.requests.devices d (Some (of_status t s)) e request at) as
    (λ _. IsLiveThread S.references.threads request.thread) [
      | inl here ↦ let own : of_status t s ≡ request = (let same = here.1 in cc) in subst (λ (q : Request). IsLiveThread S.references.threads q.thread) own live
      | inr had ↦ h.requests e request had
    ]

-- a move in the rows of requests
pub awaited-requests : (S : State) (m : RequestMove)
    → FitsRequests m S.synchronization.requests S.synchronization.logons → IsOfLive m S
    → AreAwaited S.references.threads S.synchronization.requests S.synchronization.logons
    → AreAwaited S.references.threads (request_moved m S.synchronization.requests) S.synchronization.logons
awaited-requests S (Begin d t s) fits live h = awaited-asked S _ (awaited-begun S d t s (is_some (request_at S.synchronization.requests d)) live h) h
awaited-requests S (Complete d t s code) fits live h =
    awaited-asked S _ (λ e request at. h.requests e request
    (device_had S.synchronization.requests.devices d e request fits.0 at).1) h
awaited-requests S (SetPending t s) fits live h = awaited-asked S _ h.requests h
awaited-requests S (Signal t s code) fits live h = awaited-asked S _ h.requests h
awaited-requests S (DropAll t) fits live h =
    awaited-asked S _ (λ d request at. h.requests d request (dropped t S.synchronization.requests.devices d request at))
    h
awaited-requests S (TakeSignal t) fits live h = awaited-asked S _ h.requests h
awaited-requests S (Reply t code) fits live h = awaited-asked S _ h.requests h

-- fewer logons
awaited-fewer : (S : State) (other : List (List (ObjNo × ℕ)))
    → ((u : ObjNo) (s : ℕ) → times_logged other u s ≤ times_logged S.synchronization.logons u s)
    → AreAwaited S.references.threads S.synchronization.requests S.synchronization.logons
    → AreAwaited S.references.threads S.synchronization.requests other
awaited-fewer S other fewer h = record { requests = h.requests; logons = λ u s some. h.logons u s (let le = fewer u s in omega arith); waits = h.waits }

-- a move in the rows of logons
pub awaited-logons : (S : State) (m : LogonMove) → FitsLogons m S
    → AreLogons (length S.references.threads) S.synchronization.requests S.synchronization.logons
    → AreAwaited S.references.threads S.synchronization.requests S.synchronization.logons
    → AreAwaited S.references.threads S.synchronization.requests (logons_moved m S.synchronization.logons)
awaited-logons S (logon.Add t u s) fits rows h = record {
  requests = h.requests;
  logons = λ v w some.
      let a = logon-added S.synchronization.logons t u s (let long = rows.sized in let inside = fits.0 in omega arith) v w in
      elim (cases_lt 0 (logon_names v w (u, s))) as (λ _. IsLiveThread S.references.threads v) [
        | inl one ↦ let own = the_logon v w u s one in subst (λ (x : ObjNo). IsLiveThread S.references.threads x) own.0 fits.4
        | inr no_name ↦ h.logons v w (omega arith)
      ];
  waits = h.waits;
}
awaited-logons S (logon.Remove t u s) fits rows h =
    awaited-fewer S (set S.synchronization.logons t.0 (without_logon u s (logons_on S.synchronization.logons t)))
    (λ v w. total-at (logon_names v w) S.synchronization.logons t.0
    (without_logon u s (logons_on S.synchronization.logons t))
    (total-filter (logon_names v w) (λ (x : ObjNo × ℕ). not (is_logon u s x)) (logons_on S.synchronization.logons t))) h
awaited-logons S (logon.Drop u) fits rows h =
    awaited-fewer S (map (without_maker u) S.synchronization.logons)
    (λ v w. filtered_each (logon_names v w) (λ (x : ObjNo × ℕ). not (is_made_by u x)) S.synchronization.logons) h

-- what is dropped of a thread isn't there any more
pub dropped_none : (t : ObjNo) (devices : List (Option Request)) (d : ℕ) (request : Request)
    → get_or (map (without t) devices) d None ≡ Some request → request.thread.0 ≡ t.0 → ⊥
dropped_none t [] d request is at = cc
dropped_none t (x ∷ rest) zero request is at = by x is
  where
    by : (x : Option Request) → without t x ≡ Some request → ⊥
    by None e = cc
    by (Some own) e = test (own.thread.0 == t.0) refl e
      where
        test : (b : Bool) → (own.thread.0 == t.0) ≡ b → (if b then None else Some own) ≡ Some request → ⊥
        test true is e = cc
        test false is e = let same : own ≡ request = cc in let yes = eq-eqb own.thread.0 t.0 (ap (λ (q : Request). q.thread.0) same ∙ at) in cc
dropped_none t (x ∷ rest) (suc d) request is at = dropped_none t rest d request is at

unmade : (u : ObjNo) (s : ℕ) (logons : List (ObjNo × ℕ)) → times_logged (without_maker u logons ∷ []) u s ≡ 0
unmade u s [] = refl
unmade u s (x ∷ xs) = by (is_made_by u x) refl (unmade u s xs)
  where
    by : (b : Bool) → is_made_by u x ≡ b → times_logged (without_maker u xs ∷ []) u s ≡ 0
        → times_logged ((if not b then x ∷ without_maker u xs else without_maker u xs) ∷ []) u s ≡ 0
    by true e rest = rest
    by false e rest = let none : logon_names u s x ≡ 0 = rw e refl in omega arith

pub undropped : (u : ObjNo) (s : ℕ) (logons : List (List (ObjNo × ℕ))) → times_logged (map (without_maker u) logons) u s ≡ 0
undropped u s [] = refl
undropped u s (x ∷ xs) = let a = unmade u s x in let b = undropped u s xs in omega arith
