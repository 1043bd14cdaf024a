-- How a holder of a reference is printed.
use Rattle.entry_log.specs.Joined.{joined}
use Rattle.entry_log.specs.declared.effect.Holder.{Holder}
use Rattle.entry_log.specs.declared.effect.Holder.TheVariants.{InProcess, InThread, Temp, Own, Link, Message, Kernel}
use Rattle.std.specs.Prelude.{ℕ, List, [], ◌∷◌, ◌++◌, codes, decimal}

-- `p2.0` and `t3.0` are the handles at index 0 of process 2 and of thread 3
unfoldable pub holder_text : Holder → List ℕ
holder_text (InProcess process index) = joined 46 ((codes "p" ++ decimal process.0) ∷ decimal index ∷ [])
holder_text (InThread thread index) = joined 46 ((codes "t" ++ decimal thread.0) ∷ decimal index ∷ [])
holder_text (Temp thread) = codes "tmp" ++ decimal thread.0
holder_text (Own thread) = codes "own" ++ decimal thread.0
holder_text (Link object) = codes "lnk" ++ decimal object.0
holder_text (Message message) = codes "msg" ++ decimal message.0
holder_text Kernel = codes "krn"
