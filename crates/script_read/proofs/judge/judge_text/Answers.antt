use Rattle.std.proofs.Common.{◌≡◌, [], true, false, sym, ap, ◌∙◌, None, Some}
use Rattle.script_words.specs.Pieces.{pieces}
use Rattle.script_read.specs.Reasons.{keyword_in}
use Rattle.script_read.proofs.FirstWords.{comment_line}
use Rattle.script_read.proofs.JudgedLines.{judged_byte, judged_long, judged_skipped, judged_word, judged_is}
use Rattle.script_read.proofs.judge.judge_text.Goals as goal
use Rattle.script_types.specs.Names.{file_declares}
use Rattle.script_types.specs.SourceText.{text_lines, words_of, is_skipped, is_printed, is_short}

pub returns-then-not-is_printed-clause-judged : goal.returns-then-not-is_printed-clause-judged
returns-then-not-is_printed-clause-judged c =
    let printed : is_printed c.args.text.now ≡ false = cc in
    judged_byte (file_declares (text_lines c.args.names.now.text.now)) c.args.context.now c.args.text.now printed

pub returns-then-not-is_short-clause-judged : goal.returns-then-not-is_short-clause-judged
returns-then-not-is_short-clause-judged c =
    let printed : is_printed c.args.text.now ≡ true = cc in
    let short : is_short c.args.text.now ≡ false = cc in
    judged_long (file_declares (text_lines c.args.names.now.text.now)) c.args.context.now c.args.text.now printed short

pub returns-then-begins_comment-clause-judged : goal.returns-then-begins_comment-clause-judged
returns-then-begins_comment-clause-judged c =
    let printed : is_printed c.args.text.now ≡ true = cc in
    let short : is_short c.args.text.now ≡ true = cc in
    let skipped : is_skipped (words_of c.args.text.now) ≡ true = comment_line c.args.text.now (sym (c.begins_comment.ensures []) ∙ c.if-begins_comment.true) in
    judged_skipped (file_declares (text_lines c.args.names.now.text.now)) c.args.context.now c.args.text.now printed short skipped

pub returns-then-is_skipped-clause-judged : goal.returns-then-is_skipped-clause-judged
returns-then-is_skipped-clause-judged c =
    let printed : is_printed c.args.text.now ≡ true = cc in
    let short : is_short c.args.text.now ≡ true = cc in
    let words : pieces c.as_slice-words.result.now ≡ words_of c.args.text.now = ap pieces c.as_slice-words.ensures.value ∙ c.in_ok-take_words.ensures in
    let skipped : is_skipped (words_of c.args.text.now) ≡ true = sym (c.is_skipped.ensures ∙ ap is_skipped words) ∙ c.if-is_skipped.true in
    judged_skipped (file_declares (text_lines c.args.names.now.text.now)) c.args.context.now c.args.text.now printed short skipped

pub returns-in_default-clause-judged : goal.returns-in_default-clause-judged
returns-in_default-clause-judged c =
    let printed : is_printed c.args.text.now ≡ true = cc in
    let short : is_short c.args.text.now ≡ true = cc in
    let words : pieces c.as_slice-words.result.now ≡ words_of c.args.text.now = ap pieces c.as_slice-words.ensures.value ∙ c.in_ok-take_words.ensures in
    let told : is_skipped (words_of c.args.text.now) ≡ false = sym (c.is_skipped.ensures ∙ ap is_skipped words) ∙ c.if-is_skipped.false in
    let first : keyword_in (words_of c.args.text.now) ≡ None = ap keyword_in (sym words) ∙ sym (rw c.word_at.ensures at c.in_default.ensures) in
    judged_word (file_declares (text_lines c.args.names.now.text.now)) c.args.context.now c.args.text.now printed short told first

pub returns-clause-judged : goal.returns-clause-judged
returns-clause-judged c =
    let printed : is_printed c.args.text.now ≡ true = cc in
    let short : is_short c.args.text.now ≡ true = cc in
    let words : pieces c.as_slice-words.result.now ≡ words_of c.args.text.now = ap pieces c.as_slice-words.ensures.value ∙ c.in_ok-take_words.ensures in
    let told : is_skipped (words_of c.args.text.now) ≡ false = sym (c.is_skipped.ensures ∙ ap is_skipped words) ∙ c.if-is_skipped.false in
    let first : Some c.in-Some.keyword ≡ keyword_in (words_of c.args.text.now) = rw c.word_at.ensures at c.in-Some.ensures ∙ ap keyword_in words in
    judged_is (file_declares (text_lines c.args.names.now.text.now)) c.args.context.now c.args.text.now
    c.in-Some.keyword c.judge_words.result printed short told first (rw words at c.judge_words.ensures.judged)
