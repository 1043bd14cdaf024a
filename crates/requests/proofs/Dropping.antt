-- The table stays sound where a thread's requests are dropped.
use Rattle.std.proofs.Common.{◌≡◌, ℕ, eqb, List, ◌++◌, length, take, drop, map, sym, ◌∙◌, arith, inl, inr, append-nil}
use Rattle.std.specs.Prelude.{Option, Some, None}
use Rattle.std.proofs.lemmas.Bool.{cases_Bool, cases_lt}
use Rattle.std.proofs.lemmas.List.{get_or-map, get_or_past, length-map, take_all, drop_all}
use Rattle.sym_base.specs.declared.number.ObjNo.{ObjNo}
use Rattle.state_rows.specs.declared.requests.Request.{Request}
use Rattle.state_rows.specs.declared.requests.RequestRows.{RequestRows}
use Rattle.state_rows.specs.Requests.{request_at}
use Rattle.state_rows.specs.RequestChanges.{without}
use Rattle.state_rows.specs.RequestSound.{AreRequestRows}

-- a request that is left is one that was there
without-Some : (t : ObjNo) (slot : Option Request) (request : Request) → without t slot ≡ Some request → slot ≡ Some request
without-Some t None request is = absurd (cc)
without-Some t (Some other) request is = elim (cases_Bool (eqb other.thread.0 t.0)) [
  | inl own ↦ let none : None ≡ Some request = rw own at is in absurd (cc)
  | inr kept ↦ rw kept at is
]

-- a thread's requests are dropped
pub sound_dropped : (r : RequestRows) (t : ObjNo) → AreRequestRows r → AreRequestRows (record r { devices = map (without t) r.devices })
sound_dropped r t sound = record {
  statuses_sized = sound.statuses_sized;
  replies_sized = sound.replies_sized;
  sixteen = sound.sixteen;
  requests_known = λ d request is. elim (cases_lt d (length r.devices)) [
    | inl inside ↦ sound.requests_known d request (without-Some t (request_at r d) request (sym (get_or-map (without t) r.devices d None None inside) ∙ is))
    | inr past ↦
        let none = get_or_past (map (without t) r.devices) d None (rw length-map past) in
        absurd (cc)
  ];
}

-- a list that is written back whole is the new one
pub written_back : {X : Type 0} (n : ℕ) (new old : List X) → length new ≡ length old → length old ≡ n → take n (new ++ drop (length new) old) ≡ new
written_back n new old same long =
    let rest = drop_all (length new) old (omega arith) in
    rw (rest, append-nil) (take_all n new (omega arith))
