-- Why a line is bad.
use Rattle.std.specs.Prelude.{ℕ, Bool, false, not, ◌&&◌, nat_le, is_none, if◌then◌else◌, List, [], ◌∷◌, Option, Some, None}
use Rattle.std.specs.List.{find}
use Rattle.script_types.specs.Keywords.{keyword_of, keyword_kind}
use Rattle.script_words.specs.LineAt.{line_at}
use Rattle.script_words.specs.LineSigns.{word_at, is_counted, have_forms, are_in_range}
use Rattle.script_types.specs.declared.keyword.Keyword.{Keyword}
use Rattle.script_read.specs.declared.reason.Reason.{Reason}
use Rattle.script_read.specs.declared.reason.Reason.TheVariants as reason
use Rattle.script_types.specs.Context.{after, is_in_order, rank_or}
use Rattle.script_types.specs.declared.context.Context.{Context}
use Rattle.script_types.specs.Names.{Declared, is_known, is_new}
use Rattle.script_types.specs.SourceText.{words_of, is_skipped, is_printed, is_short}
use Rattle.script_types.specs.Stands.{is_right_kind, is_within}
use Rattle.script_types.specs.declared.source_line.SourceLine.{SourceLine}

-- whether the lines so far have `schedule`
abbrev pub is_scheduled : Context → Bool
is_scheduled c = nat_le 9 (rank_or c.rank)

-- what a line's first word begins
abbrev pub keyword_in : List (List ℕ) → Option Keyword
keyword_in words = keyword_of (word_at words 0)

-- a test of what the first word begins, on a line that isn't skipped
abbrev pub passes : Option Keyword → (Keyword → Bool) → Bool
passes None test = false
passes (Some k) test = test k

abbrev pub of_keyword : List ℕ → (Keyword → List (List ℕ) → Bool) → Bool
of_keyword text test = not (is_skipped (words_of text)) && passes (keyword_in (words_of text)) (λ k. test k (words_of text))

-- a test of the line that a text is
abbrev pub of_line : Context → List ℕ → (SourceLine → Bool) → Bool
of_line c text test = of_keyword text (λ k words. test (line_at (is_scheduled c) k words))

-- Whether a line has a reason, each by itself. A line that is skipped has the first two at most.
abbrev pub has : Reason → List Declared → Context → List ℕ → Bool
has reason.Byte file c text = not (is_printed text)
has reason.Long file c text = not (is_short text)
has reason.Word file c text = not (is_skipped (words_of text)) && is_none (keyword_in (words_of text))
has reason.Order file c text = of_keyword text (λ k words. not (is_in_order c (keyword_kind (is_scheduled c) k)))
has reason.Count file c text = of_keyword text (λ k words. not (is_counted (is_scheduled c) k words))
has reason.Form file c text = of_keyword text (λ k words. not (have_forms (is_scheduled c) k words))
has reason.Range file c text = of_keyword text (λ k words. not (are_in_range (is_scheduled c) k words))
has reason.Kind file c text = of_line c text (λ l. not (is_right_kind c l))
has reason.Twice file c text = of_line c text (λ l. not (is_new c l))
has reason.Unknown file c text = of_line c text (λ l. not (is_known file c l))
has reason.Limit file c text = of_line c text (λ l. not (is_within c l))
has reason.End file c text = false

-- the reasons in the order in which they are tried. A whole file has the reason `end`, and no line
abbrev pub reasons : List Reason
reasons =
    reason.Byte ∷ reason.Long ∷ reason.Word ∷ reason.Order ∷ reason.Count ∷ reason.Form ∷ reason.Range ∷ reason.Kind ∷
    reason.Twice ∷ reason.Unknown ∷ reason.Limit ∷ reason.End ∷ []

-- the first reason that a line has
unfoldable pub first_reason : List Declared → Context → List ℕ → Option Reason
first_reason file c text = find (λ r. has r file c text) reasons

-- what a line makes: where it is skipped nothing
abbrev pub after_keyword : Context → List (List ℕ) → Option Keyword → Context
after_keyword c words None = c
after_keyword c words (Some k) = after c (line_at (is_scheduled c) k words)

unfoldable pub after_text : Context → List ℕ → Context
after_text c text = if is_skipped (words_of text) then c else after_keyword c (words_of text) (keyword_in (words_of text))
