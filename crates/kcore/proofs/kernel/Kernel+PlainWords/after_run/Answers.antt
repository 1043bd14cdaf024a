use Rattle.std.proofs.Common.{◌∙◌, Bool, ap, arith, false, length, subst, sym, take}
use Rattle.script_types.specs.declared.script.Script.{Script}
use Rattle.machine.specs.History.{IsLegalIn}
use Rattle.machine.specs.Run.{run}
use Rattle.machine_laws.proofs.ValidSlots.{valid_slots_few}
use Rattle.machine_safe.proofs.LegalSafety.{legal_safety}
use Rattle.machine_safe.proofs.ReadyHolders.{holders_ready}
use Rattle.kcore.specs.ScheduleView.{ScheduleView}
use Rattle.kcore.proofs.Runs.{first-all}
use Rattle.kcore.proofs.ScheduleGoes.{whole-kernel}
use Rattle.kcore.proofs.kernel.Kernel+PlainWords.after_run.Goals as goal

pub overflow_cast-room : goal.overflow_cast-room
overflow_cast-room c = omega (arith, c.len-room.ensures, valid_slots_few c.args.script c.requires)

pub returns-clause-script : goal.returns-clause-script
returns-clause-script c =
    ap (λ (v : ScheduleView). v.script) c.run.view_is ∙ c.next_part.ensures.script ∙ ap (λ (v : ScheduleView). v.script) c.in_ok-run.ensures

-- the one part is the whole run
pub returns-clause-history : goal.returns-clause-history
returns-clause-history c =
    ap (λ (v : ScheduleView). v.part) c.run.view_is ∙ c.next_part.ensures.part
    ∙ (ap (λ (v : ScheduleView). take v.size v.left) c.in_ok-run.ensures ∙ first-all c.args.script c.len-room.result (omega (arith, c.len-room.ensures)))

pub invariant_of-result : goal.invariant_of-result
invariant_of-result c =
    let r = c.run.inside in
    let same = sym (returns-clause-script c) in
    let taken = ap (λ (v : ScheduleView). v.taken) c.run.view_is in
    let fresh = ap (λ (v : ScheduleView). v.taken) c.in_ok-run.ensures in
    let long = ap (λ (v : ScheduleView). length v.part) c.run.view_is in
    let room = c.len-room.ensures ∙ ap (λ (s : Script). length s.slots) same in
    let size = ap (λ (v : ScheduleView). v.size) c.run.view_is ∙ c.next_part.ensures.size ∙ ap (λ (v : ScheduleView). v.size) c.in_ok-run.ensures in
    whole-kernel r.script _ c.len-room.result _ r.core r.idle r.part.items c.run.invariant (returns-clause-history c ∙ ap run same)
    (omega (arith, taken, fresh, long, c.next_part.ensures.taken)) room (size ∙ room)

pub returns-clause-legal : goal.returns-clause-legal
returns-clause-legal c =
    let r = c.run.inside in
    subst (λ (b : Bool). IsLegalIn b r.script r.part.items) c.run.invariant.alone (invariant_of-result c).stands.legal

pub returns-clause-safe : goal.returns-clause-safe
returns-clause-safe c =
    legal_safety false c.run.inside.script c.run.inside.part.items c.run.invariant.kernel.stands.valid (returns-clause-legal c)

pub returns-clause-holders : goal.returns-clause-holders
returns-clause-holders c = holders_ready false c.run.inside.script c.run.inside.part.items c.run.invariant.kernel.stands.valid
