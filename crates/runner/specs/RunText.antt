-- What the run of a script prints, in whole and in brief, and what a run by callers who share the kernel prints.
use Rattle.std.specs.List.{filter}
use Rattle.std.specs.Prelude.{◌≡◌, ℕ, Bool, true, false, is_some, List}
use Rattle.entry_log.specs.HistoryText.{history_text}
use Rattle.entry_log.specs.declared.entry.Entry.{Entry}
use Rattle.kcore.specs.KernelMode.{KernelMode, Split, Suits}
use Rattle.kcore.specs.KernelView.{KernelView}
use Rattle.machine.specs.FinalRows.{final_rows}
use Rattle.machine.specs.History.{after, after_in}
use Rattle.machine.specs.Run.{run}
use Rattle.machine.specs.declared.state.State.{State}
use Rattle.runner.specs.declared.detail.Detail.{Detail}
use Rattle.runner.specs.declared.detail.Detail.TheVariants as detail
use Rattle.script_types.specs.declared.script.Script.{Script}

-- the entries that have an answer
abbrev pub answered : List Entry → List Entry
answered history = filter (λ (e : Entry). is_some e.answer) history

-- the history that the schedule makes, and the objects that are left after it
abbrev pub run_text : Script → List ℕ
run_text script = history_text (run script) (final_rows (after script (run script)))

-- the same without the entries that have no answer: those that are left keep their places
abbrev pub brief_text : Script → List ℕ
brief_text script = history_text (answered (run script)) (final_rows (after script (run script)))

-- in each detail: whether it shows an entry, the entries that it shows, and the text of a run
abbrev pub shows : Detail → Entry → Bool
shows detail.Whole e = true
shows detail.Brief e = is_some e.answer

abbrev pub shown : Detail → List Entry → List Entry
shown detail.Whole history = history
shown detail.Brief history = answered history

abbrev pub shown_text : Detail → Script → List ℕ
shown_text detail.Whole = run_text
shown_text detail.Brief = brief_text

-- a history of callers who share the kernel, and the objects that are left after it
abbrev pub shared_text : Script → List Entry → List ℕ
shared_text script history = history_text history (final_rows (after_in true script history))

-- whether callers share a kernel
abbrev pub is_split : KernelMode → Bool
is_split Split = true
is_split _ = false

-- the state after a kernel's history
abbrev pub state_after : {W : Type 0} → KernelView W → State
state_after kernel = after_in (is_split kernel.mode) kernel.script kernel.history

-- a kernel that has made the whole history of a script, for one caller alone
pub record HasRun {W : Type 0} (wanted : Script) (kernel : KernelView W) : Type 0 where
  pub script : kernel.script ≡ wanted
  pub history : kernel.history ≡ run wanted
  pub alone : Suits false kernel.mode
