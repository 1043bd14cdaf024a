-- What the plain machine's state needs so that decisions can read it, and moves change it: the numbers there fit their
-- types. It only serves proofs: every state that a history leaves has it.
use Rattle.std.specs.Prelude.{◌<◌, ◌≤◌, List, All, length}
use Rattle.sym_base.specs.declared.number.ObjNo.{ObjNo}
use Rattle.state_rows.specs.declared.messages.Message.{Message}
use Rattle.state_rows.specs.declared.nano.NanoRows.{NanoRows}
use Rattle.state_rows.specs.Nano.{suspend_count}
use Rattle.machine.specs.declared.state.State.{State}
use Rattle.machine.specs.Room.{HasRoom}

-- there are at most 256 fast mutexes, and nobody is suspended more than 127 times
pub record AreSmallRows (r : NanoRows) : Type 0 where
  pub mutexes : length r.holders ≤ 256
  pub suspensions : (t : ObjNo) → suspend_count r t ≤ 127

-- the number of each outstanding message has 31 bits
abbrev pub AreSmallNumbers : List Message → Type 0
AreSmallNumbers outstanding = All (λ message. message.number.0 < 2147483648) outstanding

pub record IsReadable (S : State) : Type 0 where
  pub room : HasRoom 0 S
  pub nano : AreSmallRows S.synchronization.nano
  pub messages : AreSmallNumbers S.serving.messages.outstanding
