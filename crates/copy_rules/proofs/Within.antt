-- What the tests of a copy leave of its places: a piece lies within the memory that it is written to.
use Rattle.std.proofs.Common.{◌≡◌, ◌+◌, ◌≤◌, Bool, true, false, arith, refl, Some, None}
use Rattle.std.specs.Prelude.{not, nat_le, nat_lt, if◌then◌else◌}
use Rattle.std.proofs.lemmas.Bool.{and_parts, leb-true, ltb-false, or_parts}
use Rattle.sym_base.specs.declared.kind.Arg.{Arg}
use Rattle.sym_base.specs.declared.kind.Arg.TheVariants.{Number, Descriptor}
use Rattle.copy_rules.specs.Pieces.{caller_place, client_place}
use Rattle.copy_rules.specs.Refusals.{is_descriptor, is_live, is_outside, is_too_long, length_of, max_of, read_refusal, start_of, write_refusal}
use Rattle.copy_rules.specs.Sizes.{piece_size, read_size, write_size}
use Rattle.copy_rules.specs.declared.ends.Ends.{Ends}
use Rattle.copy_rules.specs.declared.job.Job.{Job}
use Rattle.copy_rules.specs.declared.job.Piece.TheVariants.{BadDescriptor, Argument, Overflow, Died}

-- what passes the tests that a read and a write have in common, and those of a write
pub record Passes (ends : Ends) (job : Job) : Type 0 where
  pub descriptor : is_descriptor ends.argument ≡ true
  pub outside : is_outside ends.argument job ≡ false

pub read_passes : (ends : Ends) (job : Job) → read_refusal ends job ≡ None → Passes ends job
read_passes ends job passed = by (is_live ends.stage) (is_descriptor ends.argument) (is_outside ends.argument job) refl refl passed
  where
    by : (live descriptor outside : Bool) → is_descriptor ends.argument ≡ descriptor → is_outside ends.argument job
        ≡ outside → (if not live then Some Died else if not descriptor then Some BadDescriptor else if outside then Some
        Argument else None) ≡ None → Passes ends job
    by true true false has is passed = record { descriptor = has; outside = is }
    by true true true has is passed = absurd (cc)
    by true false outside has is passed = absurd (cc)
    by false descriptor outside has is passed = absurd (cc)

pub record PassesWrite (ends : Ends) (job : Job) : Type 0 where
  pub both : Passes ends job
  pub long : is_too_long ends.argument job ≡ false

pub write_passes : (ends : Ends) (job : Job) → write_refusal ends job ≡ None → PassesWrite ends job
write_passes ends job passed =
    by (is_live ends.stage) (is_descriptor ends.argument) (is_outside ends.argument job)
    (is_too_long ends.argument job) refl refl refl passed
  where
    by : (live descriptor outside long : Bool) → is_descriptor ends.argument ≡ descriptor → is_outside ends.argument job
        ≡ outside → is_too_long ends.argument job ≡ long
        → (if not live then Some Died else if not descriptor then Some BadDescriptor else if outside then Some Argument else
        if long then Some Overflow else None) ≡ None → PassesWrite ends job
    by true true false false has is short passed = record { both = record { descriptor = has; outside = is }; long = short }
    by true true false true has is short passed = absurd (cc)
    by true true true long has is short passed = absurd (cc)
    by true false outside long has is short passed = absurd (cc)
    by false descriptor outside long has is short passed = absurd (cc)

-- the bytes that are asked for lie within the caller's memory
caller_within : (ends : Ends) (job : Job) → Passes ends job → job.at + job.len ≤ 1024
caller_within ends job h =
    ltb-false 1024 (job.at + job.len) (or_parts (nat_lt (length_of ends.argument) job.offset)
    (nat_lt 1024 (job.at + job.len)) h.outside).1

-- and those that a descriptor may have within the client's
client_within : (argument : Arg) → is_descriptor argument ≡ true → start_of argument + max_of argument ≤ 1024
client_within (Number number) is = absurd (cc)
client_within (Descriptor offset size max) is = leb-true (offset + max) 1024 (and_parts (nat_le size max) (nat_le (offset + max) 1024) is).1

pub read_within : (ends : Ends) (job : Job) → read_refusal ends job ≡ None → job.done ≤ read_size ends job
    → (caller_place ends job).at + piece_size (read_size ends job) job.done ≤ 1024
read_within ends job passed done = let a = caller_within ends job (read_passes ends job passed) in omega arith

pub write_within : (ends : Ends) (job : Job) → write_refusal ends job ≡ None → job.done ≤ write_size job
    → (client_place ends job).at + piece_size (write_size job) job.done ≤ 1024
write_within ends job passed done =
    let p = write_passes ends job passed in
    let a = client_within ends.argument p.both.descriptor in
    let b = ltb-false (max_of ends.argument) (job.offset + job.len) p.long in omega arith
