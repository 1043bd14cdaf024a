-- Changes of statuses and of what devices have keep the rows of requests sound.
use Rattle.std.proofs.Common.{◌≡◌, ℕ, ℤ, ◌<◌, List, [], length, get_or, set, sym, ap, subst, ◌∙◌, arith, length-set}
use Rattle.std.specs.Prelude.{pos, Option, Some, None}
use Rattle.sym_base.specs.declared.number.ObjNo.{ObjNo}
use Rattle.state_rows.specs.declared.requests.Request.{Request}
use Rattle.state_rows.specs.declared.requests.RequestRows.{RequestRows}
use Rattle.state_rows.specs.RequestChanges.{with_status}
use Rattle.state_rows.specs.RequestSound.{AreRequestRows, IsKnown}
use Rattle.state_rows.proofs.SoundChanges.{set_item}

-- what holds of a status that is written, and of the old one at a place, holds of the one there then
pub status_item : (P : ℤ → Type 0) (statuses : List (List ℤ)) (t : ObjNo) (s : ℕ) (value : ℤ) (u : ObjNo) (w : ℕ)
    → (u.0 ≡ t.0 → w ≡ s → P value) → P (get_or (get_or statuses u.0 []) w (pos 0))
    → P (get_or (get_or (with_status statuses t s value) u.0 []) w (pos 0))
status_item P statuses t s value u w new old =
    set_item (λ (row : List ℤ). P (get_or row w (pos 0))) statuses t.0 u.0 (set (get_or statuses t.0 []) s value) []
    (λ at. set_item P (get_or statuses t.0 []) s w value (pos 0) (new at) (subst (λ (n : ℕ). P (get_or (get_or statuses n []) w (pos 0))) at old)) old

-- a thread has sixteen statuses, also where one is written
pub sixteen-with_status : (r : RequestRows) (t : ObjNo) (s : ℕ) (value : ℤ) → AreRequestRows r → (u : ℕ)
    → u < length r.signals → length (get_or (with_status r.statuses t s value) u []) ≡ 16
sixteen-with_status r t s value sound u inside =
    set_item (λ (row : List ℤ). length row ≡ 16) r.statuses t.0 u (set (get_or r.statuses t.0 []) s value) []
    (λ at. length-set (get_or r.statuses t.0 []) s value ∙ ap (λ (n : ℕ). length (get_or r.statuses n [])) (sym at)
    ∙ sound.sixteen u inside) (sound.sixteen u inside)

-- other devices' requests, statuses and signals, as many as there were
pub sound-requests : (r : RequestRows) (devices : List (Option Request)) (statuses : List (List ℤ)) (signals : List ℕ)
    → length statuses ≡ length r.statuses → length signals ≡ length r.signals
    → ((t : ℕ) → t < length r.signals → length (get_or statuses t []) ≡ 16)
    → ((d : ℕ) (request : Request) → get_or devices d None ≡ Some request → IsKnown r request.thread request.status)
    → AreRequestRows r → AreRequestRows (record r { devices = devices; statuses = statuses; signals = signals })
sound-requests r devices statuses signals statuses_long long sixteen known sound = record {
  statuses_sized = statuses_long ∙ sound.statuses_sized ∙ sym long;
  replies_sized = sound.replies_sized ∙ sym long;
  sixteen = λ t inside. sixteen t (omega arith);
  requests_known = λ d request is. let was = known d request is in (omega arith, was.1);
}
