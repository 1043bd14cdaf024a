-- What is printed of a script that is made from a seed and a size.
use Rattle.std.specs.List.{count_by, sum_by}
use Rattle.std.specs.Prelude.{ℕ, Bool, true, false, List, [], ◌∷◌, ◌++◌, length, codes, decimal}
use Rattle.entry_log.specs.declared.effect.Effect.{Effect}
use Rattle.entry_log.specs.declared.effect.Effect.TheVariants as effect
use Rattle.entry_log.specs.declared.entry.Entry.{Entry}
use Rattle.load_maker.specs.Made.{made}
use Rattle.machine.specs.FinalRows.{final_rows}
use Rattle.machine.specs.History.{after}
use Rattle.machine.specs.Run.{run}
use Rattle.runner.specs.declared.summary.Summary.{Summary}
use Rattle.script_print.specs.CanonicalText.{canonical_text}
use Rattle.script_types.specs.declared.script.Script.{Script}

-- the script itself
abbrev pub made_text : ℕ → ℕ → List ℕ
made_text seed size = canonical_text (made seed size)

-- whether an effect accepts a message, and whether it finishes one
abbrev pub is_accept : Effect → Bool
is_accept (effect.Accept message) = true
is_accept _ = false

abbrev pub is_finish : Effect → Bool
is_finish (effect.Finish message code) = true
is_finish _ = false

-- how many effects of a history pass a test
abbrev pub effects_that : (Effect → Bool) → List Entry → ℕ
effects_that test history = sum_by (λ (e : Entry). count_by test e.effects) history

-- what the run of a script comes to: the slots of its schedule, the entries of its history, the messages that were
-- accepted, those that were finished, and the objects that are left
abbrev pub summary_of : Script → Summary
summary_of script = record {
  slots = length script.slots;
  entries = length (run script);
  accepted = effects_that is_accept (run script);
  finished = effects_that is_finish (run script);
  objects = length (final_rows (after script (run script)));
}

-- the line that tells it, with its line feed, which is 10
abbrev pub summary_text : Summary → List ℕ
summary_text s =
    codes "slots " ++ decimal s.slots
    ++ (codes " entries " ++ decimal s.entries)
    ++ (codes " accepted " ++ decimal s.accepted)
    ++ (codes " finished " ++ decimal s.finished)
    ++ (codes " objects " ++ decimal s.objects)
    ++ 10 ∷ []

-- what is printed of the run of the made script
abbrev pub load_text : ℕ → ℕ → List ℕ
load_text seed size = summary_text (summary_of (made seed size))
