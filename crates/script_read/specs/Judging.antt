-- Judging one line: its tests, in the order of their reasons.
use Rattle.std.specs.Prelude.{◌≡◌, ℕ, Bool, true, if◌then◌else◌, IsTrue, List, [], ◌∷◌, Option, Some, None, ⊤}
use Rattle.script_types.specs.Keywords.{keyword_kind}
use Rattle.script_words.specs.LineAt.{line_at}
use Rattle.script_words.specs.declared.fault.Fault.{Fault}
use Rattle.script_words.specs.declared.fault.Fault.TheVariants as fault
use Rattle.script_words.specs.LineSigns.{is_counted, have_forms, are_in_range}
use Rattle.script_read.specs.Reasons.{first_reason, after_text, is_scheduled}
use Rattle.script_read.specs.declared.judge.Judged.{Judged}
use Rattle.script_read.specs.declared.judge.Judged.TheVariants as judged
use Rattle.script_types.specs.declared.keyword.Keyword.{Keyword}
use Rattle.script_read.specs.declared.reason.Reason.{Reason}
use Rattle.script_read.specs.declared.reason.Reason.TheVariants as reason
use Rattle.script_types.specs.Context.{after, is_in_order}
use Rattle.script_types.specs.Names.{Declared, is_known, is_new}
use Rattle.script_types.specs.Stands.{is_right_kind, is_within}
use Rattle.script_types.specs.declared.context.Context.{Context}
use Rattle.script_types.specs.declared.source_line.SourceLine.{SourceLine}

-- the reason of the first test that fails
abbrev pub refused : List (Bool × Reason) → Option Reason
refused [] = None
refused (test ∷ tests) = if test.0 then refused tests else Some test.1

-- the reason of what is wrong with words
abbrev pub reason_of_fault : Option Fault → Option Reason
reason_of_fault (Some fault.Form) = Some reason.Form
reason_of_fault (Some fault.Range) = Some reason.Range
reason_of_fault None = None

-- the tests of the words of a line that isn't skipped
abbrev pub word_tests : Context → Keyword → List (List ℕ) → List (Bool × Reason)
word_tests c k words =
    (is_in_order c (keyword_kind (is_scheduled c) k), reason.Order) ∷
    (is_counted (is_scheduled c) k words, reason.Count) ∷ (have_forms (is_scheduled c) k words, reason.Form) ∷
    (are_in_range (is_scheduled c) k words, reason.Range) ∷ []

-- the tests of the line that such words are. A whole file has the reason `end`, and no line
abbrev pub line_tests : List Declared → Context → SourceLine → List (Bool × Reason)
line_tests file c l =
    (is_right_kind c l, reason.Kind) ∷ (is_new c l, reason.Twice) ∷ (is_known file c l, reason.Unknown) ∷
    (is_within c l, reason.Limit) ∷ (true, reason.End) ∷ []

-- a line, unless a test of it fails
abbrev pub judged_line : SourceLine → Option Reason → Judged
judged_line l None = judged.Line l
judged_line l (Some why) = judged.Bad why

-- the line that words are, unless a test of them fails
abbrev pub judged_words : Option Reason → Judged → Judged
judged_words None later = later
judged_words (Some why) later = judged.Bad why

-- what the words of a line that isn't skipped are
abbrev pub judged_as : List Declared → Context → Keyword → List (List ℕ) → Judged
judged_as file c k words =
    judged_words (refused (word_tests c k words))
    (judged_line (line_at (is_scheduled c) k words) (refused (line_tests file c (line_at (is_scheduled c) k words))))

-- What a line is: it has this reason first, or none, and then the lines so far and it make the same as before,
-- or one line more.
abbrev pub IsJudged : List Declared → Context → List ℕ → Judged → Type 0
IsJudged file c text judged.Skipped = (first_reason file c text ≡ None) × (after_text c text ≡ c)
IsJudged file c text (judged.Line l) = (first_reason file c text ≡ None) × (after_text c text ≡ after c l)
IsJudged file c text (judged.Bad why) = first_reason file c text ≡ Some why

-- where a line is judged to be a line, it passes no limit
abbrev pub IsJudgedWithin : Context → Judged → Type 0
IsJudgedWithin c judged.Skipped = ⊤
IsJudgedWithin c (judged.Line l) = IsTrue (is_within c l)
IsJudgedWithin c (judged.Bad why) = ⊤
