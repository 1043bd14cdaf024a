-- Whether a thread has something to do at its stage.
use Rattle.std.proofs.Common.{◌≡◌, ◌∙◌, ℕ, Bool, true, false, not, ◌&&◌, ◌||◌, Option, Some, None, ap, refl}
use Rattle.std.proofs.Math.Bool.{or-false, or-true}
use Rattle.std.specs.Prelude.{is_some, option_map}
use Rattle.machine.specs.declared.task.Task.{Task}
use Rattle.machine.specs.Task.{call_task, served_queue, live_task, pay_or, return_or}
use Rattle.script_types.specs.declared.instruction.Instr.{Instr}
use Rattle.state_rows.specs.declared.duty.Owed.{Owed}
use Rattle.state_rows.specs.declared.thread.Role.{Role}
use Rattle.state_rows.specs.declared.thread.Role.TheVariants.{Declared}

called_some : (call : Option ℕ) → is_some call ≡ is_some (option_map call_task call)
called_some None = refl
called_some (Some dfc) = refl

-- who serves a queue has a call of it, and any other thread has its own
pub live_some : (role : Role) (call : Option ℕ) (own : Task) → (not (is_some (served_queue role)) || is_some call) ≡ is_some (live_task role call own)
live_some (Declared k) call own = refl
live_some _ call own = called_some call

-- what is owed comes to it
owed_some : (owed : Option Owed) (own : Option Task) → (is_some own || is_some owed) ≡ is_some (pay_or owed own)
owed_some None own = or-false (is_some own)
owed_some (Some what) own = or-true (is_some own)

-- and so does the return
back_some : (returning : Bool) (instr : Option Instr) (other : Option Task)
    → (is_some other || returning && is_some instr) ≡ is_some (return_or returning instr other)
back_some true (Some instr) other = or-true (is_some other)
back_some true None other = or-false (is_some other)
back_some false instr other = or-false (is_some other)

pub task_some : (returning : Bool) (instr : Option Instr) (owed : Option Owed) (own : Option Task)
    → (is_some own || is_some owed || returning && is_some instr)
    ≡ is_some (return_or returning instr (pay_or owed own))
task_some returning instr owed own =
    ap (λ (b : Bool). b || returning && is_some instr) (owed_some owed own) ∙ back_some returning instr (pay_or owed own)
