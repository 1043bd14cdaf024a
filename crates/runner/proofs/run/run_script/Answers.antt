use Rattle.std.proofs.Common.{Bool, List, subst}
use Rattle.edge_io.specs.Written.{Wrote, WrotePrefix}
use Rattle.entry_log.specs.declared.entry.Entry.{Entry}
use Rattle.script_types.specs.declared.script.Script.{Script}
use Rattle.machine.specs.History.{IsLegalIn}
use Rattle.machine_safe.specs.Safe.{IsSafeIn}
use Rattle.runner.proofs.Alone.{ran_holds, ran_is}
use Rattle.runner.proofs.run.run_script.Goals as goal

pub returns-in-Ok-write_kernel-clause-whole : goal.returns-in-Ok-write_kernel-clause-whole
returns-in-Ok-write_kernel-clause-whole g c =
    subst (Wrote (g.K.Sink.written c.args.sink.now) (g.K.Sink.written c.write_kernel.new.sink))
    (ran_is c.args.detail c.args.script c.in-Ok.kernel c.in-Ok.ensures) c.in-Ok-write_kernel.ensures.whole

pub returns-in-Ok-write_kernel-clause-legal : goal.returns-in-Ok-write_kernel-clause-legal
returns-in-Ok-write_kernel-clause-legal g c =
    ran_holds (λ (b : Bool) (s : Script) (h : List Entry). IsLegalIn b s h) c.args.script c.in-Ok.kernel c.in-Ok.ensures
    c.write_kernel.ensures.legal

pub returns-in-Ok-write_kernel-clause-safe : goal.returns-in-Ok-write_kernel-clause-safe
returns-in-Ok-write_kernel-clause-safe g c =
    ran_holds (λ (b : Bool) (s : Script) (h : List Entry). IsSafeIn b s h) c.args.script c.in-Ok.kernel c.in-Ok.ensures
    c.write_kernel.ensures.safe

pub returns-in-Err-clause-front : goal.returns-in-Err-clause-front
returns-in-Err-clause-front g c =
    λ same. subst (WrotePrefix (g.K.Sink.written c.args.sink.now) (g.K.Sink.written c.write_kernel.new.sink))
    (ran_is c.args.detail c.args.script c.in-Ok.kernel c.in-Ok.ensures) c.in-Err.ensures.front
