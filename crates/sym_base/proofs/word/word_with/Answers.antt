-- The words of each first byte.
use Rattle.std.proofs.Common.{refl, rules, tests}
use Rattle.sym_base.specs.WordText.{all_words, word_of, word_text, words_with}
use Rattle.sym_base.proofs.FirstBytes.{at_byte, none_begins}
use Rattle.sym_base.proofs.word.word_with.Goals as goal

pub returns-in-99 : goal.returns-in-99
unfolding word_of word_text
returns-in-99 c = at_byte word_text all_words 99 (words_with 99) c.in-99.is c.with_c.ensures (λ rest. refl)

pub returns-in-100 : goal.returns-in-100
unfolding word_of word_text
returns-in-100 c = at_byte word_text all_words 100 (words_with 100) c.in-100.is c.with_d.ensures (λ rest. refl)

pub returns-in-101 : goal.returns-in-101
unfolding word_of word_text
returns-in-101 c = at_byte word_text all_words 101 (words_with 101) c.in-101.is c.with_e.ensures (λ rest. refl)

pub returns-in-102 : goal.returns-in-102
unfolding word_of word_text
returns-in-102 c = at_byte word_text all_words 102 (words_with 102) c.in-102.is c.with_f.ensures (λ rest. refl)

pub returns-in-107 : goal.returns-in-107
unfolding word_of word_text
returns-in-107 c = at_byte word_text all_words 107 (words_with 107) c.in-107.is c.only.ensures (λ rest. refl)

pub returns-in-108 : goal.returns-in-108
unfolding word_of word_text
returns-in-108 c = at_byte word_text all_words 108 (words_with 108) c.in-108.is c.with_l.ensures (λ rest. refl)

pub returns-in-111 : goal.returns-in-111
unfolding word_of word_text
returns-in-111 c = at_byte word_text all_words 111 (words_with 111) c.in-111.is c.only-in-111.ensures (λ rest. refl)

pub returns-in-112 : goal.returns-in-112
unfolding word_of word_text
returns-in-112 c = at_byte word_text all_words 112 (words_with 112) c.in-112.is c.with_p.ensures (λ rest. refl)

pub returns-in-113 : goal.returns-in-113
unfolding word_of word_text
returns-in-113 c = at_byte word_text all_words 113 (words_with 113) c.in-113.is c.only-in-113.ensures (λ rest. refl)

pub returns-in-114 : goal.returns-in-114
unfolding word_of word_text
returns-in-114 c = at_byte word_text all_words 114 (words_with 114) c.in-114.is c.with_r.ensures (λ rest. refl)

pub returns-in-115 : goal.returns-in-115
unfolding word_of word_text
returns-in-115 c = at_byte word_text all_words 115 (words_with 115) c.in-115.is c.with_s.ensures (λ rest. refl)

pub returns-in-116 : goal.returns-in-116
unfolding word_of word_text
returns-in-116 c = at_byte word_text all_words 116 (words_with 116) c.in-116.is c.only-in-116.ensures (λ rest. refl)

pub returns-in-117 : goal.returns-in-117
unfolding word_of word_text
returns-in-117 c = at_byte word_text all_words 117 (words_with 117) c.in-117.is c.only-in-117.ensures (λ rest. refl)

pub returns-in-119 : goal.returns-in-119
unfolding word_of word_text
returns-in-119 c = at_byte word_text all_words 119 (words_with 119) c.in-119.is c.with_w.ensures (λ rest. refl)

pub returns-in_default : goal.returns-in_default
returns-in_default c =
    none_begins c.args.first c.args.text.now (search (rules, tests)) (search (rules, tests)) (search (rules, tests))
    (search (rules, tests)) (search (rules, tests)) (search (rules, tests)) (search (rules, tests))
    (search (rules, tests)) (search (rules, tests)) (search (rules, tests)) (search (rules, tests))
    (search (rules, tests)) (search (rules, tests)) (search (rules, tests))
