-- How an effect is printed: its fields, with colons between them.
use Rattle.entry_log.specs.HolderText.{holder_text}
use Rattle.entry_log.specs.Joined.{joined}
use Rattle.entry_log.specs.declared.effect.Effect.{Effect}
use Rattle.entry_log.specs.declared.effect.Effect.TheVariants.{Plus, Minus, Dead, Swept, Seek, Missed, Accept, Finish, Signal, Take, Give, Terminated, Doom, Bury}
use Rattle.entry_log.specs.declared.effect.LockNo.{LockNo}
use Rattle.entry_log.specs.declared.effect.LockNo.TheVariants.{Object, Fast}
use Rattle.entry_log.specs.declared.effect.StatusNo.{StatusNo}
use Rattle.entry_log.specs.declared.effect.StatusNo.TheVariants.{Async, Sync}
use Rattle.std.specs.Fmt.{signed_decimal}
use Rattle.std.specs.Prelude.{ℕ, List, [], ◌∷◌, ◌++◌, codes, decimal}

-- a status's number, or `w` for that of a synchronous message
unfoldable pub status_text : StatusNo → List ℕ
status_text (Async status) = decimal status
status_text Sync = codes "w"

-- the number of a mutex's object, or `f` and a fast mutex's number
unfoldable pub lock_text : LockNo → List ℕ
lock_text (Object object) = decimal object.0
lock_text (Fast number) = codes "f" ++ decimal number

-- the fields of an effect
unfoldable pub effect_fields : Effect → List (List ℕ)
effect_fields (Plus holder object) = (codes "+" ++ holder_text holder) ∷ decimal object.0 ∷ []
effect_fields (Minus holder object) = (codes "-" ++ holder_text holder) ∷ decimal object.0 ∷ []
effect_fields (Dead object) = codes "dead" ∷ decimal object.0 ∷ []
effect_fields (Swept object) = codes "swept" ∷ decimal object.0 ∷ []
effect_fields (Seek object) = codes "seek" ∷ decimal object.0 ∷ []
effect_fields (Missed object) = codes "missed" ∷ decimal object.0 ∷ []
effect_fields (Accept message) = codes "accept" ∷ decimal message.0 ∷ []
effect_fields (Finish message code) = codes "finish" ∷ decimal message.0 ∷ signed_decimal code ∷ []
effect_fields (Signal thread status code) = codes "signal" ∷ decimal thread.0 ∷ status_text status ∷ signed_decimal code ∷ []
effect_fields (Take thread lock) = codes "take" ∷ decimal thread.0 ∷ lock_text lock ∷ []
effect_fields (Give thread lock) = codes "give" ∷ decimal thread.0 ∷ lock_text lock ∷ []
effect_fields (Terminated server) = codes "ended" ∷ decimal server.0 ∷ []
effect_fields (Doom thread) = codes "doom" ∷ decimal thread.0 ∷ []
effect_fields (Bury thread) = codes "bury" ∷ decimal thread.0 ∷ []

-- an effect's text, as `signal:3:0:-15`
unfoldable pub effect_text : Effect → List ℕ
effect_text effect = joined 58 (effect_fields effect)
