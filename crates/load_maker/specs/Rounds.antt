-- What a client does: it makes a session with the server, and then its rounds.
use Rattle.std.specs.Prelude.{ℕ, suc, zero, pos, ◌+◌, ◌%◌, if◌then◌else◌, ◌==◌, List, [], ◌∷◌, ◌++◌, codes}
use Rattle.load_maker.specs.Draws.{next, draw}
use Rattle.load_maker.specs.declared.round.Round.{Round}
use Rattle.load_maker.specs.declared.round.Round.TheVariants as round
use Rattle.script_types.specs.declared.instruction.Args.{Args}
use Rattle.script_types.specs.declared.instruction.Instr.{Instr}
use Rattle.script_types.specs.declared.instruction.Instr.TheVariants as instr
use Rattle.sym_base.specs.declared.kind.Arg.TheVariants as arg
use Rattle.sym_base.specs.declared.kind.Slots.TheVariants as slots

-- a letter and a digit, of which 0 is 48: the name of a client's process, of its thread, and of its mutex
abbrev pub numbered : ℕ → ℕ → List ℕ
numbered letter client = letter ∷ (48 + client) ∷ []

-- the kind of round that a number draws
unfoldable pub round_of : ℕ → Round
round_of n = if n % 4 == 0 then round.Call else if n % 4 == 1 then round.Send else if n % 4 == 2 then round.Create else round.Fill

-- four arguments that are 0
abbrev pub no_args : Args
no_args = record { 0 = arg.Number (pos 0); 1 = arg.Number (pos 0); 2 = arg.Number (pos 0); 3 = arg.Number (pos 0) }

-- The instructions of a client's round, which has this place among its rounds, from 0: a message and the wait for its
-- completion in one, or in two; a mutex made and closed; or 64 bytes of memory filled.
abbrev pub round_instrs : ℕ → ℕ → Round → List Instr
round_instrs client place round.Call = instr.Call 0 1 no_args ∷ []
round_instrs client place round.Send = instr.Send 0 2 0 no_args ∷ instr.WaitFor 0 ∷ []
round_instrs client place round.Create = instr.CreateMutex (numbered 120 client) 1 ∷ instr.Close 1 ∷ []
round_instrs client place round.Fill = instr.Fill 0 64 (place % 256) ∷ []

-- the messages that a round sends
abbrev pub round_messages : Round → ℕ
round_messages round.Call = 1
round_messages round.Send = 1
round_messages _ = 0

-- the round of this place, from the state before the first round's draw
abbrev pub round_drawn : ℕ → ℕ → Round
round_drawn x place = round_of (draw x place)

-- the instructions of the first rounds, and the messages that they send
abbrev pub rounds_instrs : ℕ → ℕ → ℕ → List Instr
rounds_instrs x client zero = []
rounds_instrs x client (suc n) = rounds_instrs x client n ++ round_instrs client n (round_drawn x n)

abbrev pub rounds_messages : ℕ → ℕ → ℕ
rounds_messages x zero = 0
rounds_messages x (suc n) = rounds_messages x n + round_messages (round_drawn x n)

-- The slots of a client's session, 1 to 3, from the state before the draw.
unfoldable pub slots_drawn : ℕ → ℕ
slots_drawn x = 1 + draw x 0 % 3

-- All that a client does, from the state before its draws: the first gives its slots, and each further one a round.
abbrev pub client_instrs : ℕ → ℕ → ℕ → List Instr
client_instrs x client size = instr.Connect (codes "files") (slots.Own (slots_drawn x)) 0 ∷ rounds_instrs (next x) client size

abbrev pub client_messages : ℕ → ℕ → ℕ
client_messages x size = rounds_messages (next x) size
