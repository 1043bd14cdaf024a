use Rattle.std.proofs.Common.{◌≡◌, ◌∙◌, false, true, drop, sym, add-one}
use Rattle.script_words.specs.Faults.{is_of_form}
use Rattle.script_words.specs.Pieces.{pieces}
use Rattle.script_words.specs.Signs.{each_passes, has_form}
use Rattle.script_words.proofs.WordFaults.{word_kept, word_bad}
use Rattle.script_words.proofs.WordPlaces.{words_gone}
use Rattle.script_words.proofs.line_form.words_fault.Goals as goal

pub returns-then-i-words : goal.returns-then-i-words
returns-then-i-words c =
    let gone : each_passes has_form (drop c.loop-i.i c.args.operands.now) (pieces (drop c.loop-i.i c.args.words.now))
    ≡ false =
    sym (words_gone has_form c.args.operands.now c.args.words.now c.loop-i.i c.loop-i-test.true c.if-i-words.true) in
    rw gone at c.loop-i.invariant

pub returns-then-is_of_form : goal.returns-then-is_of_form
returns-then-is_of_form c =
    let form : is_of_form c.word_fault-fault.result ≡ true = sym c.is_of_form.ensures ∙ c.if-is_of_form.true in
    let bad = word_bad c.args.operands.now c.args.words.now c.loop-i.i _ _ c.word_fault-fault.result c.loop-i-test.true
    c.if-i-words.false c.word_fault-fault.ensures form in
    rw bad at c.loop-i.invariant

pub loop-i-preserved : goal.loop-i-preserved
loop-i-preserved c =
    let form : is_of_form c.word_fault-fault.result ≡ false = sym c.is_of_form.ensures ∙ c.if-is_of_form.false in
    let next = word_kept c.args.operands.now c.args.words.now c.loop-i.i _ _ c.loop-i.are_in_range
    c.is_none-are_in_range.result c.word_fault-fault.result c.loop-i-test.true c.if-i-words.false
    c.word_fault-fault.ensures form c.is_none-are_in_range.ensures in
    rw add-one (sym next ∙ c.loop-i.invariant)
