-- The rows of requests, where a request begins or is completed and where a signal is taken.
use Rattle.std.proofs.Common.{◌≡◌, ◌≢◌, ◌⊎◌, inl, inr, ℕ, ℤ, zero, suc, ◌<◌, Bool, true, false, List, [], ◌∷◌, length, map, get_or, set, arith, refl, sym, subst, ap, ◌∙◌}
use Rattle.std.specs.Prelude.{Option, Some, None, is_some, ◌==◌, if◌then◌else◌}
use Rattle.std.specs.Ordering.{int_eq}
use Rattle.std.proofs.lemmas.Bool.{cases_eq}
use Rattle.std.proofs.lemmas.List.{length-map, length-set, get_or-set_same, get_or-set_other}
use Rattle.sym_base.specs.declared.number.ObjNo.{ObjNo}
use Rattle.state_rows.specs.declared.requests.Request.{Request}
use Rattle.state_rows.specs.declared.requests.RequestRows.{RequestRows}
use Rattle.state_rows.specs.RequestChanges.{with_status, without}
use Rattle.state_rows.specs.Requests.{pending, request_at, is_pending}
use Rattle.state_rows.proofs.SoundRequests.{status_item, sixteen-with_status, sound-requests}
use Rattle.machine.specs.declared.request_move.RequestMove.{RequestMove}
use Rattle.machine.specs.declared.request_move.RequestMove.TheVariants.{Begin, Complete, SetPending, Signal, DropAll, TakeSignal, Reply}
use Rattle.machine.specs.RequestMoves.{request_moved}
use Rattle.machine.specs.Fits.{FitsRequests, MayBegin}
use Rattle.machine.specs.WellFormed.{AreRequests}
use Rattle.move_laws.proofs.Lists.Sets.{set_either}
use Rattle.move_laws.proofs.References.Same.{same_object}

-- the request of a thread's status
abbrev pub of_status : ObjNo → ℕ → Request
of_status t s = record { thread = t; status = s }

-- what a device has then is what it is given, or what it had
pub device_is : (devices : List (Option Request)) (d : ℕ) (new : Option Request) (e : ℕ) (request : Request)
    → get_or (set devices d new) e None ≡ Some request
    → ((e ≡ d) × (new ≡ Some request)) ⊎ (get_or devices e None ≡ Some request)
device_is devices d new e request is = elim (set_either devices d new e None) [
  | inl at ↦ inl (at.0, sym at.1 ∙ is)
  | inr other ↦ inr (sym other ∙ is)
]

-- a device that has a request after another has none had it before
pub device_had : (devices : List (Option Request)) (d e : ℕ) (request : Request) → d < length devices
    → get_or (set devices d None) e None ≡ Some request → (e ≢ d) × (get_or devices e None ≡ Some request)
device_had devices d e request inside is = elim (cases_eq e d) as (λ _. (e ≢ d) × (get_or devices e None ≡ Some request)) [
  | inl at ↦
      let none : get_or (set devices d None) e None ≡ None = ap (λ (n : ℕ). get_or (set devices d None) n None) at
      ∙ get_or-set_same devices d None None inside in
      absurd (cc)
  | inr apart ↦ (apart, sym (get_or-set_other devices d e None None apart) ∙ is)
]

-- what a status is written to
written : (r : RequestRows) (t : ObjNo) (s : ℕ) (value : ℤ) → t.0 < length r.statuses
    → s < length (get_or r.statuses t.0 []) → int_eq value pending ≡ true
    → is_pending (record r { statuses = with_status r.statuses t s value }) t s ≡ true
written r t s value inside within is = rw (get_or-set_same, get_or-set_same) is

-- a request begins: its status wasn't pending, so no other request has it
began : (count : ℕ) (r : RequestRows) (d : ℕ) (t : ObjNo) (s : ℕ) (had : Bool) → had ≡ false → MayBegin r d t s → AreRequests count r
    → AreRequests count (record r {
      devices = if had then r.devices else set r.devices d (Some (of_status t s));
      statuses = with_status r.statuses t s pending;
    })
began count r d t s true is may h = absurd (cc)
began count r d t s false is may h = record {
  rows = sound-requests r devices (with_status r.statuses t s pending) r.signals (length-set r.statuses t.0 _) refl (sixteen-with_status r t s pending h.rows)
      (λ e request at. elim (device_is r.devices d (Some (of_status t s)) e request at) [
        | inl here ↦
            let own : of_status t s ≡ request = cc in
            subst (λ (q : Request). (q.thread.0 < length r.signals) × (q.status < 16)) own (may.thread, may.status)
        | inr had ↦ h.rows.requests_known e request had
      ]) h.rows;
  sized = h.sized;
  devices = length-set r.devices d _ ∙ h.devices;
  pending = λ e request at. elim (device_is r.devices d (Some (of_status t s)) e request at) as (λ _. is_pending new request.thread request.status ≡ true) [
    | inl here ↦ let own : of_status t s ≡ request = cc in subst (λ (q : Request). is_pending new q.thread q.status ≡ true) own own_pending
    | inr had ↦
        status_item (λ (value : ℤ). int_eq value pending ≡ true) r.statuses t s pending request.thread request.status
        (λ _ _. refl) (h.pending e request had)
  ];
  apart = λ e f request at other. elim (device_is r.devices d (Some (of_status t s)) e request at) as (λ _. e ≡ f) [
    | inl here ↦ elim (device_is r.devices d (Some (of_status t s)) f request other) as (λ _. e ≡ f) [
      | inl too ↦ here.0 ∙ sym too.0
      | inr had ↦ absurd (free f request here.1 had)
    ]
    | inr had ↦ elim (device_is r.devices d (Some (of_status t s)) f request other) as (λ _. e ≡ f) [
      | inl here ↦ absurd (free e request here.1 had)
      | inr too ↦ h.apart e f request had too
    ]
  ];
}
  where
    devices : List (Option Request)
    devices = set r.devices d (Some (of_status t s))

    new : RequestRows
    new = record r { devices = devices; statuses = with_status r.statuses t s pending }

    own_pending : is_pending new t s ≡ true
    own_pending =
        let long = h.rows.statuses_sized in
        let inside = may.thread in
        let below = may.status in
        let sixteen = h.rows.sixteen t.0 inside in
        written r t s pending (omega arith) (omega arith) refl

    free : (e : ℕ) (request : Request) → Some (of_status t s) ≡ Some request → request_at r e ≡ Some request → ⊥
    free e request same had =
        let own : of_status t s ≡ request = cc in
        let was = h.pending e request had in
        let now : is_pending r t s ≡ true = subst (λ (q : Request). is_pending r q.thread q.status ≡ true) (sym own) was in
        let done = may.done in cc

-- a request is completed: no other request has its status, so the others' stay pending
completed : (count : ℕ) (r : RequestRows) (d : ℕ) (t : ObjNo) (s : ℕ) (code : ℤ) (signals : List ℕ)
    → length signals ≡ length r.signals → d < length r.devices → request_at r d ≡ Some (of_status t s)
    → AreRequests count r
    → AreRequests count (record r { devices = set r.devices d None; statuses = with_status r.statuses t s code; signals = signals })
completed count r d t s code signals long inside own h = record {
  rows =
      sound-requests r (set r.devices d None) (with_status r.statuses t s code) signals
      (length-set r.statuses t.0 _) long (sixteen-with_status r t s code h.rows)
      (λ e request at. h.rows.requests_known e request (device_had r.devices d e request inside at).1) h.rows;
  sized = long ∙ h.sized;
  devices = length-set r.devices d None ∙ h.devices;
  pending = λ e request at.
      let had = device_had r.devices d e request inside at in
      status_item (λ (value : ℤ). int_eq value pending ≡ true) r.statuses t s code request.thread request.status
      (λ thread status.
      let same : request ≡ of_status t s = ap (λ (u : ObjNo). of_status u request.status) (same_object request.thread t thread) ∙ ap (of_status t) status in
      absurd (had.0 (h.apart e d request had.1 (own ∙ ap Some (sym same))))) (h.pending e request had.1);
  apart = λ e f request at other. h.apart e f request (device_had r.devices d e request inside at).1 (device_had r.devices d f request inside other).1;
}

-- a status is written that no device has, or gets pending: the others stay as they were
rewritten : (count : ℕ) (r : RequestRows) (t : ObjNo) (s : ℕ) (value : ℤ) (signals : List ℕ) → length signals ≡ length r.signals
    → ((d : ℕ) (request : Request) → request_at r d ≡ Some request → request.thread.0 ≡ t.0 → request.status ≡ s
    → int_eq value pending ≡ true) → AreRequests count r
    → AreRequests count (record r { statuses = with_status r.statuses t s value; signals = signals })
rewritten count r t s value signals long own h = record {
  rows =
      sound-requests r r.devices (with_status r.statuses t s value) signals (length-set r.statuses t.0 _) long
      (sixteen-with_status r t s value h.rows) h.rows.requests_known h.rows;
  sized = long ∙ h.sized;
  devices = h.devices;
  pending =
      λ d request at. status_item (λ (value : ℤ). int_eq value pending ≡ true) r.statuses t s value request.thread
      request.status (own d request at) (h.pending d request at);
  apart = h.apart;
}

-- what a device has then that has no request of a thread any more it had before
kept_request : (t : ObjNo) (x : Option Request) (request : Request) → without t x ≡ Some request → x ≡ Some request
kept_request t None request is = is
kept_request t (Some own) request is = by (own.thread.0 == t.0) is
  where
    by : (b : Bool) → (if b then None else Some own) ≡ Some request → Some own ≡ Some request
    by true e = absurd (cc)
    by false e = e

pub dropped : (t : ObjNo) (devices : List (Option Request)) (d : ℕ) (request : Request)
    → get_or (map (without t) devices) d None ≡ Some request → get_or devices d None ≡ Some request
dropped t [] d request is = is
dropped t (x ∷ rest) zero request is = kept_request t x request is
dropped t (x ∷ rest) (suc d) request is = dropped t rest d request is

-- a move that fits keeps them
pub requests-moved : (count : ℕ) (m : RequestMove) (r : RequestRows) (logons : List (List (ObjNo × ℕ)))
    → FitsRequests m r logons → AreRequests count r → AreRequests count (request_moved m r)
requests-moved count (Begin d t s) r logons fits h = began count r d t s (is_some (request_at r d)) (ap is_some fits.free) fits h
requests-moved count (Complete d t s code) r logons fits h = completed count r d t s code _ (length-set r.signals t.0 _) fits.0 fits.1 h
requests-moved count (SetPending t s) r logons fits h = rewritten count r t s pending r.signals refl (λ d request at thread status. refl) h
requests-moved count (Signal t s code) r logons fits h =
    rewritten count r t s code _ (length-set r.signals t.0 _)
    (λ d request at thread status. absurd (fits.0.alone d
    (at ∙ ap Some (ap (λ (u : ObjNo). of_status u request.status) (same_object request.thread t thread)
    ∙ ap (of_status t) status)))) h
requests-moved count (DropAll t) r logons fits h = record {
  rows =
      sound-requests r (map (without t) r.devices) r.statuses r.signals refl refl h.rows.sixteen
      (λ d request at. h.rows.requests_known d request (dropped t r.devices d request at)) h.rows;
  sized = h.sized;
  devices = length-map r.devices (without t) ∙ h.devices;
  pending = λ d request at. h.pending d request (dropped t r.devices d request at);
  apart = λ d e request at other. h.apart d e request (dropped t r.devices d request at) (dropped t r.devices e request other);
}
requests-moved count (TakeSignal t) r logons fits h =
    let long = length-set r.signals t.0 _ in record {
      rows = sound-requests r r.devices r.statuses _ refl long h.rows.sixteen h.rows.requests_known h.rows;
      sized = long ∙ h.sized;
      devices = h.devices;
      pending = h.pending;
      apart = h.apart;
    }
requests-moved count (Reply t code) r logons fits h = record {
  rows = record {
    statuses_sized = h.rows.statuses_sized;
    replies_sized = length-set r.replies t.0 code ∙ h.rows.replies_sized;
    sixteen = h.rows.sixteen;
    requests_known = h.rows.requests_known;
  };
  sized = h.sized;
  devices = h.devices;
  pending = h.pending;
  apart = h.apart;
}
