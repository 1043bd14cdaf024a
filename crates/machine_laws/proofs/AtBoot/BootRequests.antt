-- The rows of requests at boot: no device has a request.
use Rattle.std.proofs.Common.{◌≡◌, ℕ, pos, [], length, replicate, arith, sym, ap, ◌∙◌, Option, Some, None}
use Rattle.std.proofs.lemmas.List.{length-replicate, get_or-replicate}
use Rattle.sym_base.specs.declared.limits.TheConstants.Limits.{DEVICES}
use Rattle.state_rows.specs.declared.requests.Request.{Request}
use Rattle.state_rows.specs.Requests.{request_at}
use Rattle.state_rows.specs.RequestChanges.{new_rows}
use Rattle.machine.specs.WellFormed.{AreRequests}
use Rattle.move_laws.proofs.Lists.Copies.{copy_at}

pub no_request : (n : ℕ) (d : ℕ) (request : Request) → request_at (new_rows n DEVICES) d ≡ Some request → ⊥
no_request n d request is = let none = copy_at {A = Option Request} None DEVICES d in cc

pub requests-boot : (n : ℕ) → AreRequests n (new_rows n DEVICES)
requests-boot n =
    let signals = length-replicate {A = ℕ} n 0 in
    record {
      rows = record {
        statuses_sized = length-replicate n (replicate 16 (pos 0)) ∙ sym signals;
        replies_sized = length-replicate n (pos 0) ∙ sym signals;
        sixteen = λ t below. ap (λ l. length l) (get_or-replicate n t (replicate 16 (pos 0)) [] (omega (arith, signals, below))) ∙ length-replicate 16 (pos 0);
        requests_known = λ d request is. absurd (no_request n d request is);
      };
      sized = signals;
      devices = length-replicate {A = Option Request} DEVICES None;
      pending = λ d request is. absurd (no_request n d request is);
      apart = λ d e request is other. absurd (no_request n d request is);
    }
