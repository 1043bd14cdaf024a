-- The script that is made from a seed and a size: a file server with four clients.
use Rattle.std.specs.Prelude.{ℕ, suc, zero, pos, ◌+◌, ◌*◌, false, List, [], ◌∷◌, ◌++◌, Some, codes, replicate}
use Rattle.load_maker.specs.Draws.{next, state_after}
use Rattle.load_maker.specs.Rounds.{numbered, client_instrs, client_messages}
use Rattle.script_types.specs.declared.declaration.ProcessDecl.{ProcessDecl}
use Rattle.script_types.specs.declared.declaration.ThreadDecl.{ThreadDecl}
use Rattle.script_types.specs.declared.instruction.Instr.{Instr}
use Rattle.script_types.specs.declared.instruction.Instr.TheVariants as instr
use Rattle.script_types.specs.declared.script.Script.{Script}
use Rattle.script_types.specs.declared.script.Slot.TheVariants as slot

-- so many messages are received and completed
abbrev pub served : ℕ → List Instr
served zero = []
served (suc n) = served n ++ instr.Receive 0 0 ∷ instr.Complete 0 (pos 0) ∷ []

-- the server's thread, which serves so many messages
abbrev pub server_thread : ℕ → ThreadDecl
server_thread messages = record { name = codes "sv"; priority = 30; held = false; process = Some 0; instrs = instr.Server (codes "files") 0 ∷ served messages }

-- a client's thread, from the state before its draws. The server's process is the first one
abbrev pub client_thread : ℕ → ℕ → ℕ → ThreadDecl
client_thread x client size = record {
  name = numbered 99 client;
  priority = 10 + client;
  held = false;
  process = Some (suc client);
  instrs = client_instrs x client size;
}

-- The state before a client's draws. The client before it drew its slots, and then each of its rounds.
abbrev pub client_state : ℕ → ℕ → ℕ → ℕ
client_state seed size zero = seed
client_state seed size (suc client) = state_after (next (client_state seed size client)) size

-- of the first clients: the processes, the threads, and the messages that their rounds send
abbrev pub client_processes : ℕ → List ProcessDecl
client_processes zero = []
client_processes (suc client) = client_processes client ++ record { name = numbered 112 client } ∷ []

abbrev pub client_threads : ℕ → ℕ → ℕ → List ThreadDecl
client_threads seed size zero = []
client_threads seed size (suc client) = client_threads seed size client ++ client_thread (client_state seed size client) client size ∷ []

abbrev pub clients_messages : ℕ → ℕ → ℕ → ℕ
clients_messages seed size zero = 0
clients_messages seed size (suc client) = clients_messages seed size client + client_messages (client_state seed size client) size

-- The processes: that of the server, and one for each of the four clients.
abbrev pub processes : List ProcessDecl
processes = record { name = codes "fs" } ∷ client_processes 4

-- The threads: that of the server, and those of the clients. Beside the messages of the rounds the server serves that of
-- each connection and that of each disconnection, which are eight.
abbrev pub threads : ℕ → ℕ → List ThreadDecl
threads seed size = server_thread (8 + clients_messages seed size 4) ∷ client_threads seed size 4

-- the script
unfoldable pub made : ℕ → ℕ → Script
made seed size = record {
  version = 1;
  pool = 0;
  fast = 0;
  queues = [];
  dfcs = [];
  idfcs = [];
  irqs = [];
  processes = processes;
  threads = threads seed size;
  slots = replicate (200 + 60 * size) slot.Go;
}
