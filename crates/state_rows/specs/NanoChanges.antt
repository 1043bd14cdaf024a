-- How the rows of threads that synchronize change, one equation a change.
use Rattle.std.specs.Prelude.{ℕ, ◌+◌, ◌-◌, ◌==◌, if◌then◌else◌, Option, Some, None, replicate, slice_set}
use Rattle.sym_base.specs.declared.number.ObjNo.{ObjNo}
use Rattle.state_rows.specs.declared.nano.NanoRows.{NanoRows}
use Rattle.state_rows.specs.Nano.{signal_count, suspend_count, critical_count, is_free, is_holder}

-- so many threads and fast mutexes: every count is 0, nobody wants a fast mutex, and nobody holds one
abbrev pub new_rows : ℕ → ℕ → NanoRows
new_rows threads fast = record {
  signals = replicate threads 0;
  suspensions = replicate threads 0;
  sections = replicate threads 0;
  wants = replicate threads None;
  holders = replicate fast None;
}

-- the thread holds the fast mutex, where that was free
abbrev pub after_take : NanoRows → ObjNo → ℕ → NanoRows
after_take r t f = record r { holders = if is_free r f then slice_set r.holders f (Some t) else r.holders }

-- the fast mutex is free, where the thread held it
abbrev pub after_give : NanoRows → ObjNo → ℕ → NanoRows
after_give r t f = record r { holders = if is_holder r t f then slice_set r.holders f None else r.holders }

-- a count that rises stands still at the end of its 64 bits
abbrev pub one_more : ℕ → ℕ
one_more n = if n == 18446744073709551615 then n else n + 1

-- the thread is in one critical section more
abbrev pub after_enter : NanoRows → ObjNo → NanoRows
after_enter r t = record r { sections = slice_set r.sections t.0 (one_more (critical_count r t)) }

-- the thread is in one critical section less, and in none where it was in none
abbrev pub after_leave : NanoRows → ObjNo → NanoRows
after_leave r t = record r { sections = slice_set r.sections t.0 (critical_count r t - 1) }

-- the thread is in no critical section
abbrev pub after_leave_all : NanoRows → ObjNo → NanoRows
after_leave_all r t = record r { sections = slice_set r.sections t.0 0 }

-- one signal more
abbrev pub after_signal : NanoRows → ObjNo → NanoRows
after_signal r t = record r { signals = slice_set r.signals t.0 (one_more (signal_count r t)) }

-- one signal less, and none where there was none
abbrev pub after_wait : NanoRows → ObjNo → NanoRows
after_wait r t = record r { signals = slice_set r.signals t.0 (signal_count r t - 1) }

-- one suspension more, unless there are 127
abbrev pub after_suspend : NanoRows → ObjNo → NanoRows
after_suspend r t = record r { suspensions = if suspend_count r t == 127 then r.suspensions else slice_set r.suspensions t.0 (suspend_count r t + 1) }

-- one suspension less, and none where there was none
abbrev pub after_resume : NanoRows → ObjNo → NanoRows
after_resume r t = record r { suspensions = slice_set r.suspensions t.0 (suspend_count r t - 1) }

-- no suspension is left
abbrev pub after_resume_all : NanoRows → ObjNo → NanoRows
after_resume_all r t = record r { suspensions = slice_set r.suspensions t.0 0 }

-- the thread wants this fast mutex, or none
abbrev pub after_want : NanoRows → ObjNo → Option ℕ → NanoRows
after_want r t f = record r { wants = slice_set r.wants t.0 f }
