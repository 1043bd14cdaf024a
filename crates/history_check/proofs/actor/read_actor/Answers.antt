use Rattle.std.proofs.Common.{List, ℕ, codes, sym, ap, subst, ◌∙◌}
use Rattle.std.specs.Str.{bytes_eq}
use Rattle.history_check.specs.FirstLines.{Begins}
use Rattle.history_check.proofs.Actors.{idfc_is, idle_is, irq_is, one_is, thread_is, tick_is}
use Rattle.history_check.proofs.actor.read_actor.Goals as goal

pub returns-then-is_word : goal.returns-then-is_word
returns-then-is_word c = λ actor known same. tick_is c.args.word.now actor known same (sym c.is_word.ensures ∙ c.if-is_word.true)

pub returns-then-is_word-2 : goal.returns-then-is_word-2
returns-then-is_word-2 c = λ actor known same. idfc_is c.args.word.now actor known same (sym c.is_word-2.ensures ∙ c.if-is_word-2.true)

pub returns-then-is_word-3 : goal.returns-then-is_word-3
returns-then-is_word-3 c = λ actor known same. idle_is c.args.word.now actor known same (sym c.is_word-3.ensures ∙ c.if-is_word-3.true)

pub returns-in-Some : goal.returns-in-Some
returns-in-Some c = λ actor known same. c.interrupt_of.ensures ∙ irq_is c.args.word.now c.in-Some.number.now actor known same c.in-Some.ensures

pub returns-in-Some-behind : goal.returns-in-Some-behind
returns-in-Some-behind c = λ actor known same.
    c.thread_of.ensures
    ∙ thread_is c.args.word.now c.in-Some-behind.number.now actor known same
    (sym c.is_word.ensures ∙ c.if-is_word.false) c.in-Some-behind.ensures

pub returns-in-None : goal.returns-in-None
returns-in-None c = λ actor known same.
    absurd (one_is actor (ap (λ (word : List ℕ). bytes_eq word (codes "idfc")) (sym same) ∙ sym c.is_word-2.ensures
    ∙ c.if-is_word-2.false) (ap (λ (word : List ℕ). bytes_eq word (codes "idle")) (sym same) ∙ sym c.is_word-3.ensures
    ∙ c.if-is_word-3.false)
    (λ begins. c.in_default.ensures (subst (λ (word : List ℕ). Begins word (codes "irq")) (sym same) begins))
    (λ begins. c.in-None.ensures (subst (λ (word : List ℕ). Begins word (codes "t")) (sym same) begins)))
