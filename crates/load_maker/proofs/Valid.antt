-- Made scripts are well formed: their lines may stand where they do, and make the script.
use Rattle.std.proofs.Common.{◌≡◌, ℕ, suc, ◌+◌, ◌*◌, ◌<◌, ◌≤◌, false, List, [], ◌∷◌, ◌++◌, length, replicate, refl, arith}
use Rattle.std.proofs.lemmas.List.{length-replicate}
use Rattle.std.specs.List.{flat_map}
use Rattle.std.specs.Prelude.{codes}
use Rattle.load_maker.proofs.Allowed.{AreAllowed, served_allowed, served_short, client_allowed, client_short, messages_few}
use Rattle.load_maker.proofs.Blocks.{Makes, makes_more, behind, block, block_stands, thread_in, script_of}
use Rattle.load_maker.specs.Draws.{next}
use Rattle.load_maker.specs.Made.{served, client_state, processes, threads, made}
use Rattle.load_maker.specs.Rounds.{numbered, client_instrs, client_messages}
use Rattle.script_print.proofs.Canonical.{lines_accepted}
use Rattle.script_print.proofs.Front.{so_far}
use Rattle.script_print.proofs.NamesAgain.{twos}
use Rattle.script_print.proofs.ScheduleAgain.{at_rank, known_run, schedule_stands}
use Rattle.script_print.specs.CanonicalText.{schedule_lines, source_text}
use Rattle.script_types.specs.Context.{start, empty_script}
use Rattle.script_types.specs.Names.{Declared}
use Rattle.script_types.specs.Source.{IsWellFormed}
use Rattle.script_types.specs.declared.declaration.ProcessDecl.{ProcessDecl}
use Rattle.script_types.specs.declared.declaration.ThreadDecl.{ThreadDecl}
use Rattle.script_types.specs.declared.instruction.Instr.{Instr}
use Rattle.script_types.specs.declared.instruction.Instr.TheVariants as instr
use Rattle.script_types.specs.declared.script.Script.{Script}
use Rattle.script_types.specs.declared.script.Slot.TheVariants as slot
use Rattle.script_types.specs.declared.source_line.SourceLine.{SourceLine}
use Rattle.script_types.specs.declared.source_line.SourceLine.TheVariants as line

-- the threads of a server and of a client with these instructions
abbrev server_of : List Instr → ThreadDecl
server_of s = thread_in 0 (codes "sv") 30 s

abbrev client_of : ℕ → List Instr → ThreadDecl
client_of client instrs = thread_in (suc client) (numbered 99 client) (10 + client) instrs

-- the lines of a server and four clients with these instructions, and of so many slots
abbrev client_block : ℕ → List Instr → List SourceLine
client_block client instrs = block (numbered 112 client) (numbered 99 client) (10 + client) instrs

abbrev clients_lines : List Instr → List Instr → List Instr → List Instr → List SourceLine
clients_lines a b c d = client_block 0 a ++ (client_block 1 b ++ (client_block 2 c ++ client_block 3 d))

abbrev lines_of : List Instr → List Instr → List Instr → List Instr → List Instr → ℕ → List SourceLine
lines_of s a b c d slots =
    line.Header 1 ∷ (block (codes "fs") (codes "sv") 30 s ++
    (clients_lines a b c d ++ (schedule_lines (replicate slots slot.Go) ++ line.End ∷ [])))

abbrev script_with : List Instr → List Instr → List Instr → List Instr → List Instr → Script
script_with s a b c d = script_of processes (server_of s ∷ client_of 0 a ∷ client_of 1 b ∷ client_of 2 c ∷ client_of 3 d ∷ [])

-- instructions that may stand, so many at most
record Are (most : ℕ) (instrs : List Instr) : Type 0 where
  allowed : AreAllowed instrs
  short : length instrs ≤ most

-- lines from the schedule on
end_stands : (file : List Declared) (s : Script) (slots : ℕ) → slots ≤ 65536
    → Makes file (at_rank s 8 []) (schedule_lines (replicate slots slot.Go) ++ line.End ∷ [])
    (at_rank s 11 (replicate slots slot.Go))
end_stands file s slots few =
    let size : length (replicate slots slot.Go) ≤ 65536 = simp length-replicate few in
    let h = schedule_stands file s 8 (replicate slots slot.Go) refl refl size (known_run file slots) in
    record { stand = h.stand; makes = h.makes }

-- the lines of the clients behind the server's
clients_stand : (file : List Declared) (s a b c d : List Instr) → Are 4017 s → Are 1001 a → Are 1001 b → Are 1001 c
    → Are 1001 d
    → Makes file (behind (record { name = codes "fs" } ∷ []) (server_of s ∷ [])) (clients_lines a b c d)
    (so_far (script_with s a b c d) 8 false)
clients_stand file s a b c d es ea eb ec ed =
    let fs : ProcessDecl = record { name = codes "fs" } in
    let p0 : ProcessDecl = record { name = numbered 112 0 } in
    let p1 : ProcessDecl = record { name = numbered 112 1 } in
    let p2 : ProcessDecl = record { name = numbered 112 2 } in
    let few0 : 0 + length s + length a ≤ 65536 = omega (arith, es.short, ea.short) in
    let few1 : 0 + length s + length a + length b ≤ 65536 = omega (arith, es.short, ea.short, eb.short) in
    let few2 : 0 + length s + length a + length b + length c ≤ 65536 = omega (arith, es.short, ea.short, eb.short, ec.short) in
    let few3 : 0 + length s + length a + length b + length c + length d ≤ 65536 = omega (arith, es.short, ea.short, eb.short, ec.short, ed.short) in
    let first = block_stands file 8 (fs ∷ []) (server_of s ∷ []) (numbered 112 0) (numbered 99 0) 10 a refl refl ea.allowed (omega (arith, ea.short)) few0 in
    let second = block_stands file 8 (fs ∷ p0 ∷ []) (server_of s ∷ client_of 0 a ∷ []) (numbered 112 1)
    (numbered 99 1) 11 b refl refl eb.allowed (omega (arith, eb.short)) few1 in
    let third = block_stands file 8 (fs ∷ p0 ∷ p1 ∷ []) (server_of s ∷ client_of 0 a ∷ client_of 1 b ∷ [])
    (numbered 112 2) (numbered 99 2) 12 c refl refl ec.allowed (omega (arith, ec.short)) few2 in
    let fourth = block_stands file 8 (fs ∷ p0 ∷ p1 ∷ p2 ∷ [])
    (server_of s ∷ client_of 0 a ∷ client_of 1 b ∷ client_of 2 c ∷ []) (numbered 112 3)
    (numbered 99 3) 13 d refl refl ed.allowed (omega (arith, ed.short)) few3 in
    makes_more file _ _ _ (client_block 0 a) (client_block 1 b ++ (client_block 2 c ++ client_block 3 d)) first
    (makes_more file _ _ _ (client_block 1 b) (client_block 2 c ++ client_block 3 d) second
    (makes_more file _ _ _ (client_block 2 c) (client_block 3 d) third fourth))

-- all lines
lines_stand : (file : List Declared) (s a b c d : List Instr) (slots : ℕ) → Are 4017 s → Are 1001 a → Are 1001 b
    → Are 1001 c → Are 1001 d → slots ≤ 65536
    → Makes file start (lines_of s a b c d slots) (at_rank (script_with s a b c d) 11 (replicate slots slot.Go))
lines_stand file s a b c d slots es ea eb ec ed few =
    let short : 0 + length s ≤ 65536 = omega (arith, es.short) in
    let header : Makes file start (line.Header 1 ∷ []) (so_far empty_script 0 false) = record {
      stand = (record { order = refl; ranges = refl; kind = refl; new = refl; known = refl; within = refl }, tt);
      makes = refl;
    } in
    let server = block_stands file 0 [] [] (codes "fs") (codes "sv") 30 s refl refl es.allowed (omega (arith, es.short)) short in
    let clients = clients_stand file s a b c d es ea eb ec ed in
    let ends = end_stands file (script_with s a b c d) slots few in
    makes_more file _ _ _ (line.Header 1 ∷ []) _ header
    (makes_more file _ _ _ (block (codes "fs") (codes "sv") 30 s) _ server
    (makes_more file _ _ _ (clients_lines a b c d) _ clients ends))

-- what the server and a client do
serves : (messages : ℕ) → messages ≤ 2008 → Are 4017 (instr.Server (codes "files") 0 ∷ served messages)
serves messages few = let size = served_short messages in record { allowed = served_allowed messages; short = omega (arith, size, few) }

does : (x client size : ℕ) → client < 4 → size ≤ 500 → Are 1001 (client_instrs x client size)
does x client size few small =
    let short = client_short x client size in
    record { allowed = client_allowed x client size few; short = omega (arith, short, small) }

pub made_well_formed : (seed size : ℕ) → size ≤ 500 → IsWellFormed (made seed size)
unfolding made
made_well_formed seed size small =
    let x0 : ℕ = client_state seed size 0 in
    let x1 : ℕ = client_state seed size 1 in
    let x2 : ℕ = client_state seed size 2 in
    let x3 : ℕ = client_state seed size 3 in
    let m0 = messages_few (next x0) size in
    let m1 = messages_few (next x1) size in
    let m2 = messages_few (next x2) size in
    let m3 = messages_few (next x3) size in
    let count : ℕ = 8 + (0 + client_messages x0 size + client_messages x1 size + client_messages x2 size + client_messages x3 size) in
    let messages : count ≤ 2008 = omega (arith, m0, m1, m2, m3, small) in
    let lines : List SourceLine = lines_of (instr.Server (codes "files") 0 ∷ served count) (client_instrs x0 0 size)
    (client_instrs x1 1 size) (client_instrs x2 2 size) (client_instrs x3 3 size) (200 + 60 * size) in
    let h = lines_stand (twos lines) _ _ _ _ _ (200 + 60 * size) (serves count messages)
    (does x0 0 size (omega arith) small) (does x1 1 size (omega arith) small) (does x2 2 size (omega arith) small)
    (does x3 3 size (omega arith) small) (omega (arith, small)) in
    let s = lines_accepted lines _ h.stand h.makes refl in
    record { bytes = flat_map source_text lines; lines = s.lines; are = s.are; ended = s.ended; same = s.same }

-- a script of these parts is the made one
pub made_by : (seed size : ℕ) (script : Script) → script.version ≡ 1 → script.pool ≡ 0 → script.fast ≡ 0
    → script.queues ≡ [] → script.dfcs ≡ [] → script.idfcs ≡ [] → script.irqs ≡ [] → script.processes ≡ processes
    → script.threads ≡ threads seed size → script.slots ≡ replicate (200 + 60 * size) slot.Go → script ≡ made seed size
unfolding made
made_by seed size script version pool fast queues dfcs idfcs irqs ps ts slots = rw (version, pool, fast, queues, dfcs, idfcs, irqs, ps, ts, slots) refl
