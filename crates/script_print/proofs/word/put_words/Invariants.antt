use Rattle.std.proofs.Common.{◌≡◌, ℕ, List, ◌∷◌, ◌++◌, map, take}
use Rattle.std.specs.List.{flat_map}
use Rattle.script_print.specs.PrintedWord.{word_text}
use Rattle.script_print.proofs.word.put_words.Given as goal

-- the words so far
abbrev pub invariant-loop-word : goal.invariant-loop-word
invariant-loop-word l = l.out.items ≡ l.fn.out.items ++ flat_map (λ (w : List ℕ). 32 ∷ w) (map word_text (take l.word-index l.words))
