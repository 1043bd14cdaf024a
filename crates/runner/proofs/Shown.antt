-- Entries that are shown, one after another.
use Rattle.std.proofs.Common.{◌≡◌, List, [], ◌∷◌, ◌++◌, refl, ap, ◌∙◌}
use Rattle.std.proofs.lemmas.Grind.{flat_map-append}
use Rattle.std.proofs.lemmas.List.Elements.{filter-append}
use Rattle.std.specs.List.{flat_map}
use Rattle.std.specs.Prelude.{is_some}
use Rattle.entry_log.specs.EntryLine.{entry_line}
use Rattle.entry_log.specs.declared.entry.Entry.{Entry}
use Rattle.entry_log.specs.HistoryText.{history_text}
use Rattle.machine.specs.FinalRows.{final_rows}
use Rattle.machine.specs.History.{after}
use Rattle.machine.specs.Run.{run}
use Rattle.runner.specs.RunText.{shown, shown_text}
use Rattle.runner.specs.declared.detail.Detail.{Detail}
use Rattle.runner.specs.declared.detail.Detail.TheVariants as detail
use Rattle.script_types.specs.declared.script.Script.{Script}

shown-append : (d : Detail) (es fs : List Entry) → shown d (es ++ fs) ≡ shown d es ++ shown d fs
shown-append detail.Whole es fs = refl
shown-append detail.Brief es fs = filter-append (λ (e : Entry). is_some e.answer) es fs

-- the lines of what is left: the first's, where it is shown, and then those of the rest
pub next_shown : (d : Detail) (left rest : List Entry) (e : Entry) → left ≡ e ∷ rest
    → flat_map entry_line (shown d left) ≡ flat_map entry_line (shown d (e ∷ [])) ++ flat_map entry_line (shown d rest)
next_shown d left rest e h =
    rw h (ap (flat_map entry_line) (shown-append d (e ∷ []) rest) ∙ flat_map-append entry_line (shown d (e ∷ [])) (shown d rest))

-- the text of a run, in each detail
pub shown_is : (d : Detail) (script : Script) → history_text (shown d (run script)) (final_rows (after script (run script))) ≡ shown_text d script
shown_is detail.Whole script = refl
shown_is detail.Brief script = refl
