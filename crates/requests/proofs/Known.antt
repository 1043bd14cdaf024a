-- A request that is read of a device is of a thread and a status of the table.
use Rattle.std.proofs.Common.{◌≡◌, ℕ, ◌<◌, length, get_or, sym, ◌∙◌}
use Rattle.std.specs.Prelude.{Option, Some, None, IfSome}
use Rattle.std.proofs.lemmas.List.{get_or_read}
use Rattle.state_rows.specs.declared.requests.Request.{Request}
use Rattle.state_rows.specs.declared.requests.RequestRows.{RequestRows}
use Rattle.state_rows.specs.RequestSound.{IsKnown, AreRequestRows}

-- where a request was read
pub known_read : (r : RequestRows) (d : ℕ) (read : Option Request) (request : Request) → AreRequestRows r
    → d < length r.devices → read ≡ get_or r.devices d read → read ≡ Some request
    → IsKnown r request.thread request.status
known_read r d read request sound inside is some =
    sound.requests_known d request (sym (get_or_read r.devices d read inside is None) ∙ some)

-- where one may have been read
pub known_if_some : (r : RequestRows) (d : ℕ) (read now : Option Request) → AreRequestRows r → d < length r.devices
    → read ≡ get_or r.devices d read → now ≡ read → IfSome now (λ request. IsKnown r request.thread request.status)
known_if_some r d read None sound inside is same = tt
known_if_some r d read (Some request) sound inside is same = known_read r d read request sound inside is (sym same)
