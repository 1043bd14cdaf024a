-- The words of each first byte.
use Rattle.std.proofs.Common.{refl, rules, tests, [], ◌∷◌}
use Rattle.script_types.specs.Keywords.{keyword_text, line_keywords}
use Rattle.script_types.specs.declared.keyword.Keyword.TheVariants as key
use Rattle.script_words.proofs.Keywords.{none_begins}
use Rattle.script_words.proofs.keyword.line_keyword_with.Goals as goal
use Rattle.sym_base.proofs.FirstBytes.{at_byte}

pub returns-in-100 : goal.returns-in-100
returns-in-100 c = at_byte keyword_text line_keywords 100 (key.Dfcq ∷ key.Dfc ∷ []) c.in-100.is c.either.ensures (λ rest. refl)

pub returns-in-101 : goal.returns-in-101
returns-in-101 c = at_byte keyword_text line_keywords 101 (key.Eka2 ∷ key.End ∷ []) c.in-101.is c.either-in-101.ensures (λ rest. refl)

pub returns-in-102 : goal.returns-in-102
returns-in-102 c = at_byte keyword_text line_keywords 102 (key.Fast ∷ []) c.in-102.is c.only.ensures (λ rest. refl)

pub returns-in-103 : goal.returns-in-103
returns-in-103 c = at_byte keyword_text line_keywords 103 (key.Go ∷ []) c.in-103.is c.only-in-103.ensures (λ rest. refl)

pub returns-in-105 : goal.returns-in-105
returns-in-105 c = at_byte keyword_text line_keywords 105 (key.Idfc ∷ key.Irq ∷ []) c.in-105.is c.either-in-105.ensures (λ rest. refl)

pub returns-in-107 : goal.returns-in-107
returns-in-107 c = at_byte keyword_text line_keywords 107 (key.Kthread ∷ []) c.in-107.is c.only-in-107.ensures (λ rest. refl)

pub returns-in-112 : goal.returns-in-112
returns-in-112 c = at_byte keyword_text line_keywords 112 (key.Pool ∷ key.Process ∷ []) c.in-112.is c.either-in-112.ensures (λ rest. refl)

pub returns-in-115 : goal.returns-in-115
returns-in-115 c = at_byte keyword_text line_keywords 115 (key.Schedule ∷ []) c.in-115.is c.only-in-115.ensures (λ rest. refl)

pub returns-in-116 : goal.returns-in-116
returns-in-116 c = at_byte keyword_text line_keywords 116 (key.Thread ∷ key.Tick ∷ []) c.in-116.is c.either-in-116.ensures (λ rest. refl)

pub returns-in_default : goal.returns-in_default
returns-in_default c =
    none_begins c.args.first c.args.word.now (search (rules, tests)) (search (rules, tests)) (search (rules, tests))
    (search (rules, tests)) (search (rules, tests)) (search (rules, tests)) (search (rules, tests))
    (search (rules, tests)) (search (rules, tests))
