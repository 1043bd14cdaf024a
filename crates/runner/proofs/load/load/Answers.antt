use Rattle.std.proofs.Common.{◌≡◌, ap, subst, sym, ◌∙◌}
use Rattle.kcore.specs.ScheduleView.{ScheduleView}
use Rattle.load_maker.specs.Made.{made}
use Rattle.machine.specs.History.{IsLegal}
use Rattle.machine.specs.Run.{run}
use Rattle.machine_safe.specs.Safe.{IsSafe}
use Rattle.runner.specs.MadeText.{summary_of}
use Rattle.runner.proofs.load.load.Goals as goal
use Rattle.script_types.specs.declared.script.Script.{Script}

pub summary_of-summary-requires-clause-all : goal.summary_of-summary-requires-clause-all
summary_of-summary-requires-clause-all c =
    ap (λ (v : ScheduleView). v.left) c.in_ok-schedule.ensures ∙ ap run (sym (ap (λ (v : ScheduleView). v.script) c.in_ok-schedule.ensures))

-- the run's script is the one that was made
pub returns-clause-value : goal.returns-clause-value
returns-clause-value c =
    c.summary_of-summary.ensures.value ∙ ap summary_of (ap (λ (v : ScheduleView). v.script) c.in_ok-schedule.ensures ∙ c.in_ok-script.ensures.made)

pub returns-clause-legal : goal.returns-clause-legal
returns-clause-legal c =
    let same : c.in_ok-schedule.schedule.script ≡ made c.args.seed c.args.size =
    ap (λ (v : ScheduleView). v.script) c.in_ok-schedule.ensures ∙ c.in_ok-script.ensures.made in
    subst (λ (script : Script). IsLegal script (run script)) same c.summary_of-summary.ensures.legal

pub returns-clause-safe : goal.returns-clause-safe
returns-clause-safe c =
    let same : c.in_ok-schedule.schedule.script ≡ made c.args.seed c.args.size =
    ap (λ (v : ScheduleView). v.script) c.in_ok-schedule.ensures ∙ c.in_ok-script.ensures.made in
    subst (λ (script : Script). IsSafe script (run script)) same c.summary_of-summary.ensures.safe
