-- The tests of a copy, in their order.
use Rattle.std.specs.Prelude.{ℕ, ◌+◌, Bool, true, false, not, ◌&&◌, ◌||◌, nat_le, nat_lt, if◌then◌else◌, Option, Some, None}
use Rattle.sym_base.specs.declared.kind.Arg.{Arg}
use Rattle.sym_base.specs.declared.kind.Arg.TheVariants.{Number, Descriptor}
use Rattle.state_rows.specs.declared.thread.Stage.{Stage}
use Rattle.state_rows.specs.declared.thread.Stage.TheVariants.{Live, Doomed, Cleaned, Buried}
use Rattle.copy_rules.specs.declared.ends.Ends.{Ends}
use Rattle.copy_rules.specs.declared.job.Job.{Job}
use Rattle.copy_rules.specs.declared.job.Piece.{Piece}
use Rattle.copy_rules.specs.declared.job.Piece.TheVariants.{BadDescriptor, Argument, Overflow, Died}

-- whether a thread lives
abbrev pub is_live : Stage → Bool
is_live Live = true
is_live Doomed = false
is_live Cleaned = false
is_live Buried = false

-- whether an argument is a descriptor that has no more bytes than it may have, all within the memory of a process
abbrev pub is_descriptor : Arg → Bool
is_descriptor (Number number) = false
is_descriptor (Descriptor offset length max) = nat_le length max && nat_le (offset + max) 1024

-- where the bytes of a descriptor begin, how many it has, and how many it may have
abbrev pub start_of : Arg → ℕ
start_of (Number number) = 0
start_of (Descriptor offset length max) = offset

abbrev pub length_of : Arg → ℕ
length_of (Number number) = 0
length_of (Descriptor offset length max) = length

abbrev pub max_of : Arg → ℕ
max_of (Number number) = 0
max_of (Descriptor offset length max) = max

-- whether a copy begins behind the descriptor's bytes, or goes past the end of the caller's memory
abbrev pub is_outside : Arg → Job → Bool
is_outside argument job = nat_lt (length_of argument) job.offset || nat_lt 1024 (job.at + job.len)

-- whether a descriptor may not have the bytes that would be written
abbrev pub is_too_long : Arg → Job → Bool
is_too_long argument job = nat_lt (max_of argument) (job.offset + job.len)

-- what a read is refused for, and what a write; none where all the tests are passed
abbrev pub read_refusal : Ends → Job → Option Piece
read_refusal ends job =
    if not (is_live ends.stage) then Some Died
    else if not (is_descriptor ends.argument) then Some BadDescriptor
    else if is_outside ends.argument job then Some Argument
    else None

abbrev pub write_refusal : Ends → Job → Option Piece
write_refusal ends job =
    if not (is_live ends.stage) then Some Died
    else if not (is_descriptor ends.argument) then Some BadDescriptor
    else if is_outside ends.argument job then Some Argument
    else if is_too_long ends.argument job then Some Overflow
    else None
