-- The tests of a line, tried one by one, give its first reason.
use Rattle.std.proofs.Common.{◌≡◌, ℕ, Bool, true, false, List, [], ◌∷◌, ◌++◌, map, refl, sym, subst, ◌∙◌, Option, Some, None, Result, Ok, Err}
use Rattle.std.specs.List.{AllByRecursion, find}
use Rattle.std.specs.Prelude.{not, cond, if◌then◌else◌, IfOk}
use Rattle.script_read.specs.Judging.{refused, reason_of_fault, word_tests, line_tests, judged_line, judged_words, judged_as, IsJudged}
use Rattle.script_types.specs.Keywords.{keyword_kind}
use Rattle.script_words.specs.Faults.{fault_by}
use Rattle.script_words.specs.LineAt.{line_at}
use Rattle.script_words.specs.LineSigns.{is_counted, have_forms, are_in_range}
use Rattle.script_read.specs.Reasons.{has, first_reason, after_text, is_scheduled, keyword_in}
use Rattle.script_read.specs.declared.judge.Judged.{Judged}
use Rattle.script_read.specs.declared.judge.Judged.TheVariants as judged
use Rattle.script_types.specs.declared.keyword.Keyword.{Keyword}
use Rattle.script_read.specs.declared.reason.Reason.{Reason}
use Rattle.script_read.specs.declared.reason.Reason.TheVariants as reason
use Rattle.script_types.specs.Context.{after, is_in_order}
use Rattle.script_types.specs.Names.{Declared}
use Rattle.script_types.specs.SourceText.{words_of, is_skipped, is_printed, is_short}
use Rattle.script_types.specs.declared.context.Context.{Context}
use Rattle.script_types.specs.declared.source_line.SourceLine.{SourceLine}

-- a line without a reason
pub judged_byte : (file : List Declared) (c : Context) (text : List ℕ) → is_printed text ≡ false → IsJudged file c text (judged.Bad reason.Byte)
unfolding first_reason
judged_byte file c text p = rw p refl

pub judged_long : (file : List Declared) (c : Context) (text : List ℕ) → is_printed text ≡ true → is_short text ≡ false
    → IsJudged file c text (judged.Bad reason.Long)
unfolding first_reason
judged_long file c text p s = rw (p, s) refl

pub judged_skipped : (file : List Declared) (c : Context) (text : List ℕ) → is_printed text ≡ true
    → is_short text ≡ true → is_skipped (words_of text) ≡ true → IsJudged file c text judged.Skipped
unfolding first_reason after_text
judged_skipped file c text p s k = (rw (p, s, k) refl, rw k refl)

pub judged_word : (file : List Declared) (c : Context) (text : List ℕ) → is_printed text ≡ true → is_short text ≡ true
    → is_skipped (words_of text) ≡ false → keyword_in (words_of text) ≡ None
    → IsJudged file c text (judged.Bad reason.Word)
unfolding first_reason
judged_word file c text p s k e = rw (p, s, k, e) refl

-- the reason of what is judged bad
abbrev reason_in : Judged → Option Reason
reason_in judged.Skipped = None
reason_in (judged.Line l) = None
reason_in (judged.Bad why) = Some why

-- A reason holds where its test fails.
abbrev Tell : (Reason → Bool) → List (Bool × Reason) → Type 0
Tell holds tests = AllByRecursion (λ (test : Bool × Reason). holds test.1 ≡ not test.0) tests

abbrev reasons_of : List (Bool × Reason) → List Reason
reasons_of tests = map (λ (test : Bool × Reason). test.1) tests

-- so the first that holds is the reason of the first test that fails
first_step : (holds : Reason → Bool) (passes : Bool) (why : Reason) (tests : List (Bool × Reason))
    → holds why ≡ not passes → find holds (reasons_of tests) ≡ refused tests
    → cond (holds why) (Some why) (find holds (reasons_of tests)) ≡ (if passes then refused tests else Some why)
first_step holds true why tests h later = rw h later
first_step holds false why tests h later = rw h refl

first_failed : (holds : Reason → Bool) (tests : List (Bool × Reason)) → Tell holds tests → find holds (reasons_of tests) ≡ refused tests
first_failed holds [] tell = refl
first_failed holds (test ∷ tests) tell = first_step holds test.0 test.1 tests tell.0 (first_failed holds tests tell.1)

-- tests of words, and behind them those of a line
both_step : (l : SourceLine) (passes : Bool) (why : Reason) (words line : List (Bool × Reason))
    → refused (words ++ line) ≡ reason_in (judged_words (refused words) (judged_line l (refused line)))
    → (if passes then refused (words ++ line) else Some why)
    ≡ reason_in (judged_words (if passes then refused words else Some why) (judged_line l (refused line)))
both_step l true why words line later = later
both_step l false why words line later = refl

line_reason : (l : SourceLine) (found : Option Reason) → found ≡ reason_in (judged_line l found)
line_reason l None = refl
line_reason l (Some why) = refl

both_judged : (l : SourceLine) (words line : List (Bool × Reason))
    → refused (words ++ line) ≡ reason_in (judged_words (refused words) (judged_line l (refused line)))
both_judged l [] line = line_reason l (refused line)
both_judged l (test ∷ words) line = both_step l test.0 test.1 words line (both_judged l words line)

-- the reasons of a text, before those of its words
front : (holds : Reason → Bool) (others : List Reason) → holds reason.Byte ≡ false → holds reason.Long ≡ false
    → holds reason.Word ≡ false → find holds (reason.Byte ∷ reason.Long ∷ reason.Word ∷ others) ≡ find holds others
front holds others byte long word = rw (byte, long, word) refl

by_reasons : (file : List Declared) (c : Context) (text : List ℕ) (l : SourceLine) (words line : Option Reason)
    → after_text c text ≡ after c l → first_reason file c text ≡ reason_in (judged_words words (judged_line l line))
    → IsJudged file c text (judged_words words (judged_line l line))
by_reasons file c text l None None makes first = (first, makes)
by_reasons file c text l None (Some why) makes first = first
by_reasons file c text l (Some why) line makes first = first

judged_keyword : (file : List Declared) (c : Context) (text : List ℕ) (k : Keyword) → is_printed text ≡ true
    → is_short text ≡ true → is_skipped (words_of text) ≡ false → keyword_in (words_of text) ≡ Some k
    → IsJudged file c text (judged_as file c k (words_of text))
unfolding first_reason after_text
judged_keyword file c text k p s told e =
    let scheduled : Bool = is_scheduled c in
    let words : List (List ℕ) = words_of text in
    let l : SourceLine = line_at scheduled k words in
    let holds : Reason → Bool = λ why. has why file c text in
    let tests : List (Bool × Reason) = word_tests c k words ++ line_tests file c l in
    let tell : Tell holds tests = rw (told, e) (refl, (refl, (refl, (refl, (refl, (refl, (refl, (refl, (refl, tt))))))))) in
    let byte : holds reason.Byte ≡ false = rw p refl in
    let long : holds reason.Long ≡ false = rw s refl in
    let word : holds reason.Word ≡ false = rw (told, e) refl in
    by_reasons file c text l (refused (word_tests c k words)) (refused (line_tests file c l)) (rw (told, e) refl)
    (front holds (reasons_of tests) byte long word ∙ first_failed holds tests tell ∙ both_judged l (word_tests c k words) (line_tests file c l))

-- the same of an answer that may lack memory
pub judged_is : {E : Type 0} (file : List Declared) (c : Context) (text : List ℕ) (k : Keyword) (r : Result Judged E)
    → is_printed text ≡ true → is_short text ≡ true → is_skipped (words_of text) ≡ false
    → Some k ≡ keyword_in (words_of text) → IfOk r (λ j. j ≡ judged_as file c k (words_of text))
    → IfOk r (IsJudged file c text)
judged_is file c text k (Ok j) p s told e h = subst (λ (x : Judged). IsJudged file c text x) (sym h) (judged_keyword file c text k p s told (sym e))
judged_is file c text k (Err fault) p s told e h = tt

-- words whose tests pass have their forms, and are in range
passed_step : (passes : Bool) (why : Reason) (tests : List (Bool × Reason))
    → None ≡ (if passes then refused tests else Some why) → (passes ≡ true) × (None ≡ refused tests)
passed_step true why tests h = (refl, h)
passed_step false why tests h = absurd (cc)

abbrev AllPass : List (Bool × Reason) → Type 0
AllPass tests = AllByRecursion (λ (test : Bool × Reason). test.0 ≡ true) tests

all_pass : (tests : List (Bool × Reason)) → None ≡ refused tests → AllPass tests
all_pass [] h = tt
all_pass (test ∷ tests) h = let here = passed_step test.0 test.1 tests h in (here.0, all_pass tests here.1)

forms_pass : (c : Context) (k : Keyword) (words : List (List ℕ)) → AllPass (word_tests c k words)
    → (have_forms (is_scheduled c) k words ≡ true) × (are_in_range (is_scheduled c) k words ≡ true)
forms_pass c k words (order, (count, (form, (range, end)))) = (form, range)

pub words_pass : (c : Context) (k : Keyword) (words : List (List ℕ)) → None ≡ refused (word_tests c k words)
    → (have_forms (is_scheduled c) k words ≡ true) × (are_in_range (is_scheduled c) k words ≡ true)
words_pass c k words h = forms_pass c k words (all_pass (word_tests c k words) h)

-- words in order with their number have the reason of what is wrong with them
fault_reason : (form range : Bool) → reason_of_fault (fault_by form range) ≡ refused ((form, reason.Form) ∷ (range, reason.Range) ∷ [])
fault_reason true false = refl
fault_reason _ _ = refl

pub words_reason : (c : Context) (k : Keyword) (words : List (List ℕ))
    → is_in_order c (keyword_kind (is_scheduled c) k) ≡ true → is_counted (is_scheduled c) k words ≡ true
    → reason_of_fault (fault_by (have_forms (is_scheduled c) k words) (are_in_range (is_scheduled c) k words)) ≡ refused (word_tests c k words)
words_reason c k words order count = rw (order, count) (fault_reason (have_forms (is_scheduled c) k words) (are_in_range (is_scheduled c) k words))
