-- What a piece that isn't refused leaves of the memories.
use Rattle.std.proofs.Common.{◌≡◌, ◌∙◌, ℕ, Option, None, ap}
use Rattle.procs.specs.ProcsRows.{ProcsRows}
use Rattle.copy_rules.specs.declared.ends.Ends.{Ends}
use Rattle.copy_rules.specs.declared.job.Job.{Job}
use Rattle.copy_rules.specs.declared.job.Piece.{Piece}
use Rattle.copy_rules.specs.declared.job.Place.{Place}
use Rattle.copy_rules.specs.Memory.{copied}
use Rattle.copy_rules.specs.Pieces.{caller_place, client_place, unless_refused}
use Rattle.copy_rules.specs.Refusals.{read_refusal, write_refusal}
use Rattle.copy_rules.specs.Sizes.{piece_size, read_size, write_size}
use Rattle.descopy.specs.Pieces.{after_read, after_write}

abbrev with_copied : ProcsRows → Place → Place → ℕ → ProcsRows
with_copied procs from to count = record procs { processes = copied procs.processes from to count }

pub read_leaves : (procs new : ProcsRows) (ends same : Ends) (job : Job) (from to : Place) (size count : ℕ)
    → ends ≡ same → None ≡ read_refusal ends job → size ≡ read_size ends job → from ≡ client_place ends job
    → to ≡ caller_place ends job → count ≡ piece_size size job.done
    → new ≡ record procs { processes = copied procs.processes from to count } → new ≡ after_read procs same job
read_leaves procs new ends same job from to size count is passed sized begins ends_at counted after =
    after
    ∙ (ap (λ (p : Place). with_copied procs p to count) begins
    ∙ (ap (λ (p : Place). with_copied procs (client_place ends job) p count) ends_at
    ∙ (ap (λ (n : ℕ). with_copied procs (client_place ends job) (caller_place ends job) n) counted
    ∙ (ap (λ (n : ℕ). with_copied procs (client_place ends job) (caller_place ends job) (piece_size n job.done)) sized
    ∙ (ap (λ (refusal : Option Piece). record procs {
      processes = unless_refused refusal procs.processes
          (copied procs.processes (client_place ends job) (caller_place ends job)
          (piece_size (read_size ends job) job.done));
    }) passed
    ∙ ap (λ (e : Ends). after_read procs e job) is)))))

pub write_leaves : (procs new : ProcsRows) (ends same : Ends) (job : Job) (from to : Place) (count : ℕ) → ends ≡ same
    → None ≡ write_refusal ends job → from ≡ caller_place ends job → to ≡ client_place ends job
    → count ≡ piece_size (write_size job) job.done
    → new ≡ record procs { processes = copied procs.processes from to count } → new ≡ after_write procs same job
write_leaves procs new ends same job from to count is passed begins ends_at counted after =
    after
    ∙ (ap (λ (p : Place). with_copied procs p to count) begins
    ∙ (ap (λ (p : Place). with_copied procs (caller_place ends job) p count) ends_at
    ∙ (ap (λ (n : ℕ). with_copied procs (caller_place ends job) (client_place ends job) n) counted
    ∙ (ap (λ (refusal : Option Piece). record procs {
      processes = unless_refused refusal procs.processes
          (copied procs.processes (caller_place ends job) (client_place ends job) (piece_size (write_size job) job.done));
    })
    passed
    ∙ ap (λ (e : Ends). after_write procs e job) is))))
