use Rattle.std.proofs.Common.{◌≡◌, ◌∙◌, ◌+◌, ◌++◌, List, false, ap, arith, length, sym, subst}
use Rattle.std.proofs.lemmas.List.{append_assoc, take-append-drop}
use Rattle.script_types.specs.declared.script.Script.{Script}
use Rattle.script_types.specs.Source.{IsWellFormed}
use Rattle.entry_log.specs.declared.entry.Entry.{Entry}
use Rattle.machine.specs.History.{IsLegal}
use Rattle.machine.specs.Run.{run}
use Rattle.machine_safe.proofs.LegalSafety.{legal_safety}
use Rattle.machine_safe.proofs.ReadyHolders.{holders_ready}
use Rattle.kcore.specs.ScheduleView.{ScheduleView}
use Rattle.kcore.proofs.ScheduleGoes.{left-is, left-long, legal-part, part-is}
use Rattle.kcore.proofs.schedule_run.ScheduleRun.next_part.Goals as goal

pub returns-clause-part : goal.returns-clause-part
returns-clause-part c =
    let r = c.self.inside in
    let now = c.args.self.now in
    let size = ap (λ (v : ScheduleView). v.size) c.self.view_is in
    let taken = ap (λ (v : ScheduleView). v.taken) c.self.view_is in
    let left = sym (ap (λ (v : ScheduleView). length v.left) c.self.view_is) ∙ left-long r.script (r.before + length r.part.items) in
    part-is now.left c.loop-at.self.part c.loop-at.self.left now.size c.loop-at.invariant.left (omega (arith, size, taken, left, c.min-count.ensures))

pub returns-clause-left : goal.returns-clause-left
returns-clause-left c =
    let r = c.self.inside in
    let now = c.args.self.now in
    let size = ap (λ (v : ScheduleView). v.size) c.self.view_is in
    let taken = ap (λ (v : ScheduleView). v.taken) c.self.view_is in
    let left = sym (ap (λ (v : ScheduleView). length v.left) c.self.view_is) ∙ left-long r.script (r.before + length r.part.items) in
    left-is now.left c.loop-at.self.part c.loop-at.self.left now.size c.loop-at.invariant.left (omega (arith, size, taken, left, c.min-count.ensures))

pub returns-clause-legal : goal.returns-clause-legal
returns-clause-legal c =
    let r = c.self.inside in
    let now = c.args.self.now in
    let l = c.loop-at.self in
    let same : l.script ≡ r.script = c.loop-at.invariant.script ∙ sym (ap (λ (v : ScheduleView). v.script) c.self.view_is) in
    let whole : now.history ++ now.left ≡ run r.script =
    sym (ap (λ (v : ScheduleView). v.history ++ v.left) c.self.view_is) ∙ take-append-drop (r.before + length r.part.items) (run r.script) in
    let are : l.history ++ l.left ≡ run r.script =
    ap (λ (es : List Entry). es ++ l.left) c.loop-at.invariant.history ∙ append_assoc now.history l.part l.left
    ∙ ap (λ (es : List Entry). now.history ++ es) (sym c.loop-at.invariant.left) ∙ whole in
    subst (λ (s : Script). IsLegal s l.history) (sym same) (legal-part r.script l.history l.left c.self.invariant.kernel.stands.valid are)

pub returns-clause-safe : goal.returns-clause-safe
returns-clause-safe c =
    let same = c.loop-at.invariant.script ∙ sym (ap (λ (v : ScheduleView). v.script) c.self.view_is) in
    legal_safety false c.loop-at.self.script c.loop-at.self.history (subst IsWellFormed (sym same) c.self.invariant.kernel.stands.valid)
    (returns-clause-legal c)

pub returns-clause-holders : goal.returns-clause-holders
returns-clause-holders c =
    let same = c.loop-at.invariant.script ∙ sym (ap (λ (v : ScheduleView). v.script) c.self.view_is) in
    holders_ready false c.loop-at.self.script c.loop-at.self.history (subst IsWellFormed (sym same) c.self.invariant.kernel.stands.valid)
