-- Whether callers share a kernel, as its mode tells.
use Rattle.std.proofs.Common.{◌≡◌, ◌∙◌, Bool, true, false, List, [], ◌∷◌, ap, refl, subst}
use Rattle.std.specs.Prelude.{Result, Ok, Err, IfOk}
use Rattle.entry_log.specs.HistoryText.{history_text}
use Rattle.entry_log.specs.declared.entry.Entry.{Entry}
use Rattle.kcore.specs.KernelMode.{KernelMode, Fresh, Whole, Split, Suits, mode_of}
use Rattle.kcore.specs.KernelView.{KernelView}
use Rattle.machine.specs.FinalRows.{final_rows}
use Rattle.machine.specs.History.{after, after_in}
use Rattle.machine.specs.Run.{run}
use Rattle.machine.specs.SharedRun.{IsSharedRun}
use Rattle.machine_safe.specs.Safe.{IsSafeIn}
use Rattle.runner.proofs.Shown.{shown_is}
use Rattle.runner.specs.Outputs.{IsSharedTextOf}
use Rattle.runner.specs.RunText.{HasRun, is_split, shared_text, shown, shown_text, state_after}
use Rattle.runner.specs.declared.detail.Detail.{Detail}
use Rattle.script_types.specs.declared.script.Script.{Script}

pub suits-split : (mode : KernelMode) → Suits (is_split mode) mode
suits-split Fresh = λ (same : Fresh ≡ Split). cc
suits-split Whole = λ (same : Whole ≡ Split). cc
suits-split Split = λ (same : Split ≡ Whole). cc

alone-unsplit : (mode : KernelMode) → Suits false mode → is_split mode ≡ false
alone-unsplit Fresh alone = refl
alone-unsplit Whole alone = refl
alone-unsplit Split alone = absurd (alone refl)

-- what is written of a kernel that has run a script is the text of the run, in each detail
pub ran_is : {W : Type 0} (d : Detail) (script : Script) (kernel : KernelView W) → HasRun script kernel
    → history_text (shown d kernel.history) (final_rows (state_after kernel)) ≡ shown_text d script
ran_is d script kernel ran =
    ap (λ (b : Bool). history_text (shown d kernel.history) (final_rows (after_in b kernel.script kernel.history))) (alone-unsplit kernel.mode ran.alone)
    ∙ ap (λ (s : Script). history_text (shown d kernel.history) (final_rows (after s kernel.history))) ran.script
    ∙ ap (λ (h : List Entry). history_text (shown d h) (final_rows (after script h))) ran.history
    ∙ shown_is d script

-- and what holds of its history holds of the run
pub ran_holds : {W : Type 0} (P : Bool → Script → List Entry → Type 0) (script : Script) (kernel : KernelView W)
    → HasRun script kernel → P (is_split kernel.mode) kernel.script kernel.history → P false script (run script)
ran_holds P script kernel ran holds =
    subst (P false script) ran.history (subst (λ (s : Script). P false s kernel.history) ran.script
    (subst (λ (b : Bool). P b kernel.script kernel.history) (alone-unsplit kernel.mode ran.alone) holds))

-- before the first entry the objects are the same, whether callers will share the kernel or not
same-rows : (script : Script) (history : List Entry) (mode : KernelMode) → mode ≡ mode_of true history
    → final_rows (after_in (is_split mode) script history) ≡ final_rows (after_in true script history)
same-rows script [] mode is = by (is_split mode)
  where
    by : (b : Bool) → final_rows (after_in b script []) ≡ final_rows (after_in true script [])
    by true = refl
    by false = refl
same-rows script (e ∷ es) mode is = ap (λ (m : KernelMode). final_rows (after_in (is_split m) script (e ∷ es))) is

-- what is written of a kernel that callers share is the text of its history
pub shared_is : (script : Script) (history : List Entry) (mode : KernelMode) → mode ≡ mode_of true history
    → history_text history (final_rows (after_in (is_split mode) script history)) ≡ shared_text script history
shared_is script history mode is = ap (history_text history) (same-rows script history mode is)

-- what was written of it is a text of a run of the script by callers who share the kernel
pub is_shared_text : {W : Type 0} (script : Script) (kernel : KernelView W) → kernel.script ≡ script
    → kernel.mode ≡ mode_of true kernel.history → IsSharedRun kernel.script kernel.history
    → IsSafeIn true kernel.script kernel.history
    → IsSharedTextOf script (history_text kernel.history (final_rows (state_after kernel)))
is_shared_text script kernel same mode run safe = record {
  history = kernel.history;
  run = subst (λ (s : Script). IsSharedRun s kernel.history) same run;
  safe = subst (λ (s : Script). IsSafeIn true s kernel.history) same safe;
  same = shared_is kernel.script kernel.history kernel.mode mode ∙ ap (λ (s : Script). shared_text s kernel.history) same;
}

-- a kernel after a run has run the script
pub has-run : {W E : Type 0} (script : Script) (made : Result (KernelView W) E) → IfOk made (λ kernel. kernel.script ≡ script)
    → IfOk made (λ kernel. kernel.history ≡ run script) → IfOk made (λ kernel. Suits false kernel.mode) → IfOk made (λ kernel. HasRun script kernel)
has-run script (Ok kernel) same history alone = record { script = same; history = history; alone = alone }
has-run script (Err e) same history alone = tt
