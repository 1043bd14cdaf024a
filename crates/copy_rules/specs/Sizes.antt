-- How many bytes a copy has, and how many of them one piece.
use Rattle.std.specs.Prelude.{ℕ, ◌+◌, ◌-◌, ◌≤◌, ⊤, min, nat_lt, if◌then◌else◌, Option, Some, None}
use Rattle.copy_rules.specs.declared.ends.Ends.{Ends}
use Rattle.copy_rules.specs.declared.job.Job.{Job}
use Rattle.copy_rules.specs.declared.job.Piece.{Piece}
use Rattle.copy_rules.specs.declared.job.Piece.TheVariants.{More, Whole}
use Rattle.copy_rules.specs.Refusals.{length_of}

-- the bytes of a read: those that are asked for, as far as the descriptor has them
abbrev pub read_size : Ends → Job → ℕ
read_size ends job = min job.len (length_of ends.argument - job.offset)

-- the bytes of a write: those that are asked for
abbrev pub write_size : Job → ℕ
write_size job = job.len

-- the bytes of the next piece of a copy: 64, or what is left
abbrev pub piece_size : ℕ → ℕ → ℕ
piece_size size done = min 64 (size - done)

-- how many bytes are copied after that piece
abbrev pub done_after : ℕ → ℕ → ℕ
done_after size done = done + piece_size size done

-- what the piece answers
abbrev pub piece_answer : ℕ → ℕ → Piece
piece_answer size done =
    if nat_lt (done_after size done) size then More (done_after size done) else Whole size

-- and what it answers where a test refuses it
abbrev pub answer_of : Option Piece → ℕ → ℕ → Piece
answer_of (Some refusal) size done = refusal
answer_of None size done = piece_answer size done

-- the earlier pieces of a copy that isn't refused copied no more bytes than it has
abbrev pub GoesOn : Option Piece → ℕ → ℕ → Type 0
GoesOn (Some refusal) size done = ⊤
GoesOn None size done = done ≤ size
