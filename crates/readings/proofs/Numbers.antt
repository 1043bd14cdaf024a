-- The number of the message that a server takes next.
use Rattle.std.proofs.Common.{◌<◌, List, [], ◌∷◌, length, filter, IfSome, arith}
use Rattle.std.specs.Prelude.{slice_get}
use Rattle.std.proofs.lemmas.List.Elements.{All-filter}
use Rattle.sym_base.specs.declared.number.ObjNo.{ObjNo}
use Rattle.state_rows.specs.declared.messages.Message.{Message}
use Rattle.state_rows.specs.declared.messages.MessageRows.{MessageRows}
use Rattle.state_rows.specs.MessageRows.{waits_at}
use Rattle.state_rows.specs.MessageChanges.{number_of, next_of}
use Rattle.readings.specs.Readable.{AreSmallNumbers}

-- the first message's number is small, and so is that of the first that isn't taken
small_first : (outstanding : List Message) → AreSmallNumbers outstanding → IfSome (number_of (slice_get outstanding 0)) (λ m. m.0 < 2147483648)
small_first [] small = tt
small_first (message ∷ rest) small =
    let inside : 0 < length (message ∷ rest) = omega arith
    in small 0 message inside

pub small_next : (rows : MessageRows) (server : ObjNo) → AreSmallNumbers rows.outstanding → IfSome (next_of rows server) (λ m. m.0 < 2147483648)
small_next rows server small =
    small_first (filter (waits_at server.0) rows.outstanding)
    (All-filter (waits_at server.0) (λ (message : Message). message.number.0 < 2147483648) rows.outstanding small)
