use Rattle.std.proofs.Common.{◌≡◌, ◌∙◌, sym, subst, map, List, ℕ, ◌<◌}
use Rattle.script_types.specs.Source.{IsWellFormed}
use Rattle.script_types.specs.declared.script.Script.{Script}
use Rattle.entry_log.specs.declared.entry.Entry.{Entry}
use Rattle.machine.specs.SharedRun.{IsSharedPart, IsSharedRun}
use Rattle.turn_lock.specs.Log.{entries_of}
use Rattle.turn_lock.specs.Passes.{caller_of}
use Rattle.turn_lock.proofs.Dealing.{contains_number}
use Rattle.workers.proofs.Whole.{all-rested, whole-run}
use Rattle.workers.proofs.share.make_shared_history.Goals as goal

pub work_all-requires-clause-rested : goal.work_all-requires-clause-rested
work_all-requires-clause-rested g c = λ lives outlive.
    let made = c.in_ok-kernel.ensures in
    all-rested c.in_ok-kernel.kernel c.in_ok-kernel.passes.items (subst IsWellFormed (sym made.script) c.requires.valid) made.free made.known

pub finish-requires : goal.finish-requires
finish-requires g c =
    let made = c.in_ok-kernel.ensures in
    let done = c.in_ok-passes.ensures in
    record {
      free = λ k d within. (done.through k d within).rested.free;
      all =
          λ caller low. contains_number (map caller_of c.in_ok-passes.passes.items) c.args.count caller
          (done.callers ∙ made.callers) (subst (λ (n : ℕ). caller < n) made.passes low);
    }

pub returns-clause-run : goal.returns-clause-run
returns-clause-run g c =
    let lock = c.in_ok-kernel.kernel in
    let made = c.in_ok-kernel.ensures in
    let done = c.in_ok-passes.ensures in
    let end = c.finish.ensures in
    let history = c.finish.result.history in
    let log = end.whole.0 in
    let is : history ≡ entries_of log = end.whole.1 in
    let valid : IsWellFormed lock.base.script = subst IsWellFormed (sym made.script) c.requires.valid in
    let part : IsSharedPart lock.base.script (entries_of log) = subst
    (λ (h : List Entry). IsSharedPart lock.base.script h) is
    (subst (λ (s : Script). IsSharedPart s history) end.script end.part) in
    let run = whole-run lock c.args.count c.in_ok-passes.passes.items log c.requires.some done.through (done.callers ∙ made.callers) end.whole.2 valid part in
    subst (λ (s : Script). IsSharedRun s history) (sym end.script) (subst (λ (h : List Entry). IsSharedRun lock.base.script h) (sym is) run)
