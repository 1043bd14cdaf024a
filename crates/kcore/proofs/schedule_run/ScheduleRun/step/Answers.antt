use Rattle.std.proofs.Common.{◌+◌, arith, false, length, subst, sym}
use Rattle.kernel_tables.specs.Choosing.{HasRoom}
use Rattle.kcore.specs.Acting.{acting}
use Rattle.kcore.proofs.Alone.{none_out}
use Rattle.kcore.proofs.Goes.{may, runs}
use Rattle.kcore.proofs.KernelGoes.{place-left}
use Rattle.kcore.proofs.OutKernel.{may-alone}
use Rattle.kcore.proofs.Runs.{run_longer}
use Rattle.kcore.proofs.ScheduleGoes.{H, run-begins, run-next, run-stands, takes-one}
use Rattle.kcore.proofs.schedule_run.ScheduleRun.step.Goals as goal

pub go_at-requires-clause-runs : goal.go_at-requires-clause-runs
go_at-requires-clause-runs c =
    let r = c.self.inside in
    runs false r.script (H r.script (r.before + length r.part.items) r.core c.self.invariant) r.core
    (run-begins r.script (r.before + length r.part.items) r.core c.self.invariant)

pub go_at-requires-clause-may : goal.go_at-requires-clause-may
go_at-requires-clause-may c =
    let r = c.self.inside in
    let h = c.self.invariant in
    let history = H r.script (r.before + length r.part.items) r.core h in
    let begins = run-begins r.script (r.before + length r.part.items) r.core h in
    let left = place-left false r.script history r.core.notes _ begins.valid h.kernel.short h.kernel.places in
    may-alone r.script history r.core r.core.notes (acting c.args.actor) begins (subst (HasRoom r.core.notes) (sym begins.state) left)
    (run-stands r.script (r.before + length r.part.items) r.core h).notes

pub go_at-requires-clause-can : goal.go_at-requires-clause-can
go_at-requires-clause-can c =
    let r = c.self.inside in
    may false r.script (H r.script (r.before + length r.part.items) r.core c.self.invariant) r.core
    (run-begins r.script (r.before + length r.part.items) r.core c.self.invariant) c.args.actor
    (rw (← c.self.view_is) at c.requires.can)

pub go_at-requires-clause-stays : goal.go_at-requires-clause-stays
go_at-requires-clause-stays c = none_out c.self.inside.core.state c.args.actor c.self.invariant.alone

pub go_at-requires-clause-room : goal.go_at-requires-clause-room
go_at-requires-clause-room c = rw (← c.self.view_is) at c.requires.room

pub invariant_of-self : goal.invariant_of-self
invariant_of-self c =
    let r = c.self.inside in
    run-next r.script (r.before + length r.part.items) r.core c.self.invariant (rw (← c.self.view_is) at c.requires.more) c.args.place
    (rw (← c.self.view_is) at c.requires.place) r.part.items c.go_at.new.entries.items c.go_at.new.core c.args.actor
    (rw (← c.self.view_is) at c.requires.can) (rw (← c.self.view_is) at c.requires.chosen) c.go_at.ensures.went _
    c.is_nobody-self-inside.ensures.nobody c.go_at.ensures.notes _
    (omega (arith, run_longer r.part.items c.go_at.new.entries.items c.go_at.ensures.went.entry c.go_at.ensures.went.longer))

pub returns : goal.returns
returns c =
    let r = c.self.inside in
    rw (← c.self.view_is) (takes-one r.script (r.before + length r.part.items) r.core c.self.invariant (rw (← c.self.view_is) at c.requires.more)
    c.args.place (rw (← c.self.view_is) at c.requires.place) r.part.items c.go_at.new.entries.items c.go_at.new.core c.args.actor
    (rw (← c.self.view_is) at c.requires.can) (rw (← c.self.view_is) at c.requires.chosen) c.go_at.ensures.went _ _ c.go_at.ensures.capacity _
    (omega (arith, run_longer r.part.items c.go_at.new.entries.items c.go_at.ensures.went.entry c.go_at.ensures.went.longer)))
