-- The register of each form is one of the eight.
use Rattle.std.proofs.Common.{refl, rules}
use Rattle.decisions.proofs.Registers.{register_first}
use Rattle.decisions.proofs.steps.step_of.Goals as goal

pub dup_step-requires-clause-from : goal.dup_step-requires-clause-from
dup_step-requires-clause-from g c = register_first _ _ _ c.in-Dup.is c.requires.registers refl

pub duplocal_step-requires-clause-from : goal.duplocal_step-requires-clause-from
duplocal_step-requires-clause-from g c = register_first _ _ _ c.in-DupLocal.is c.requires.registers refl

pub close_do-requires-clause-register : goal.close_do-requires-clause-register
close_do-requires-clause-register g c = register_first _ _ _ c.in-Close.is c.requires.registers refl

pub lock_step-requires-clause-register : goal.lock_step-requires-clause-register
lock_step-requires-clause-register g c = register_first _ _ _ c.in-Lock.is c.requires.registers refl

pub unlock_step-requires-clause-register : goal.unlock_step-requires-clause-register
unlock_step-requires-clause-register g c = register_first _ _ _ c.in-Unlock.is c.requires.registers refl

pub wait_step-requires-clause-register : goal.wait_step-requires-clause-register
wait_step-requires-clause-register g c = register_first _ _ _ c.in-Wait.is c.requires.registers refl

pub signal_step-requires-clause-register : goal.signal_step-requires-clause-register
signal_step-requires-clause-register g c = register_first _ _ _ c.in-Signal.is c.requires.registers refl

pub suspend_step-requires-clause-register : goal.suspend_step-requires-clause-register
suspend_step-requires-clause-register g c = register_first _ _ _ c.in-Suspend.is c.requires.registers refl

pub resume_step-requires-clause-register : goal.resume_step-requires-clause-register
resume_step-requires-clause-register g c = register_first _ _ _ c.in-Resume.is c.requires.registers refl

pub priority_step-requires-clause-register : goal.priority_step-requires-clause-register
priority_step-requires-clause-register g c = first_of (search register_first, search (register_first, c.requires), search (register_first, rules))

pub kill_step-requires-clause-register : goal.kill_step-requires-clause-register
kill_step-requires-clause-register g c = register_first _ _ _ c.in-Kill.is c.requires.registers refl

pub terminate_step-requires-clause-register : goal.terminate_step-requires-clause-register
terminate_step-requires-clause-register g c = register_first _ _ _ c.in-Terminate.is c.requires.registers refl

pub panic_step-requires-clause-register : goal.panic_step-requires-clause-register
panic_step-requires-clause-register g c = register_first _ _ _ c.in-Panic.is c.requires.registers refl

pub exittype_step-requires-clause-register : goal.exittype_step-requires-clause-register
exittype_step-requires-clause-register g c = register_first _ _ _ c.in-ExitType.is c.requires.registers refl

pub logon_step-requires-clause-register : goal.logon_step-requires-clause-register
logon_step-requires-clause-register g c = register_first _ _ _ c.in-Logon.is c.requires.registers refl

pub send_step-requires-clause-register : goal.send_step-requires-clause-register
send_step-requires-clause-register g c = register_first _ _ _ c.in-Send.is c.requires.registers refl

pub call_step-requires-clause-register : goal.call_step-requires-clause-register
call_step-requires-clause-register g c = register_first _ _ _ c.in-Call.is c.requires.registers refl

pub receive_step-requires-clause-from : goal.receive_step-requires-clause-from
receive_step-requires-clause-from g c = register_first _ _ _ c.in-Receive.is c.requires.registers refl

pub complete_do-requires-clause-register : goal.complete_do-requires-clause-register
complete_do-requires-clause-register g c = register_first _ _ _ c.in-Complete.is c.requires.registers refl

pub function_do-requires-clause-register : goal.function_do-requires-clause-register
function_do-requires-clause-register g c = first_of (search register_first, search (register_first, c.requires), search (register_first, rules))

pub read_step-requires-clause-register : goal.read_step-requires-clause-register
read_step-requires-clause-register g c = register_first _ _ _ c.in-Read.is c.requires.registers refl

pub write_step-requires-clause-register : goal.write_step-requires-clause-register
write_step-requires-clause-register g c = register_first _ _ _ c.in-Write.is c.requires.registers refl
