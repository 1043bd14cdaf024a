-- How a step is printed: its words, with a dot between them.
use Rattle.entry_log.specs.Joined.{joined}
use Rattle.entry_log.specs.PartText.{part_text}
use Rattle.sym_base.specs.WordText.{word_text}
use Rattle.entry_log.specs.declared.step.Step.{Step}
use Rattle.entry_log.specs.declared.step.Step.TheVariants.{Of, RunOf, MoveOf, Drop, Sweep, Finish, Detach, Stop, Free, Shut, Tell, Clean, Flush, End, Bury, Run, Turn, Wait}
use Rattle.std.specs.Prelude.{ℕ, List, [], ◌∷◌, codes}

-- a part of an instruction, or what is done with a deferred function call, has two words, and each other step one
unfoldable pub step_words : Step → List (List ℕ)
step_words (Of word part) = word_text word ∷ part_text part ∷ []
step_words (RunOf name) = name ∷ codes "run" ∷ []
step_words (MoveOf name) = name ∷ codes "move" ∷ []
step_words Drop = codes "drop" ∷ []
step_words Sweep = codes "sweep" ∷ []
step_words Finish = codes "finish" ∷ []
step_words Detach = codes "detach" ∷ []
step_words Stop = codes "stop" ∷ []
step_words Free = codes "free" ∷ []
step_words Shut = codes "shut" ∷ []
step_words Tell = codes "tell" ∷ []
step_words Clean = codes "clean" ∷ []
step_words Flush = codes "flush" ∷ []
step_words End = codes "end" ∷ []
step_words Bury = codes "bury" ∷ []
step_words Run = codes "run" ∷ []
step_words Turn = codes "turn" ∷ []
step_words Wait = codes "wait" ∷ []

-- a step's text, as `close.do`
unfoldable pub step_text : Step → List ℕ
step_text step = joined 46 (step_words step)
