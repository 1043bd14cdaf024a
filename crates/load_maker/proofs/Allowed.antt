-- The instructions of made scripts, kind by kind: each is in its ranges, is no instruction of kernel threads alone, and
-- names nothing that must be declared.
use Rattle.std.proofs.Common.{◌≡◌, ℕ, zero, suc, ◌+◌, ◌*◌, ◌%◌, ◌<◌, ◌≤◌, true, false, List, [], ◌∷◌, ◌++◌, length, length-append, refl, arith, pos}
use Rattle.std.proofs.Math.Nat.{mod-lt}
use Rattle.std.proofs.lemmas.Bool.{le-leb}
use Rattle.std.specs.List.{AllByRecursion}
use Rattle.std.specs.Prelude.{nat_le, codes}
use Rattle.load_maker.specs.Draws.{next, draw}
use Rattle.load_maker.specs.Made.{served}
use Rattle.load_maker.specs.Rounds.{numbered, no_args, round_instrs, round_messages, round_drawn, rounds_instrs, rounds_messages, slots_drawn, client_instrs}
use Rattle.load_maker.specs.declared.round.Round.{Round}
use Rattle.load_maker.specs.declared.round.Round.TheVariants as round
use Rattle.script_types.specs.Names.{Declared, is_known_instr}
use Rattle.script_types.specs.ObjectName.{is_object_byte}
use Rattle.script_types.specs.Ranges.{is_source_line}
use Rattle.script_types.specs.Stands.{is_kernel_only}
use Rattle.script_types.specs.declared.instruction.Instr.{Instr}
use Rattle.script_types.specs.declared.instruction.Instr.TheVariants as instr
use Rattle.script_types.specs.declared.source_line.SourceLine.TheVariants as line
use Rattle.sym_base.specs.declared.kind.Slots.TheVariants as slots

-- an instruction that may stand in any thread of a process
pub record IsAllowed (what : Instr) : Type 0 where
  pub ranges : is_source_line (line.Instr what) ≡ true
  pub kind : is_kernel_only what ≡ false
  pub known : (file : List Declared) (fast : ℕ) → is_known_instr file fast what ≡ true

abbrev pub AreAllowed : List Instr → Type 0
AreAllowed instrs = AllByRecursion IsAllowed instrs

pub allowed_append : (xs ys : List Instr) → AreAllowed xs → AreAllowed ys → AreAllowed (xs ++ ys)
allowed_append [] ys one other = other
allowed_append (x ∷ xs) ys one other = (one.0, allowed_append xs ys one.1 other)

-- a letter and a client's digit are a name
digit_allowed : (client : ℕ) → client < 4 → is_object_byte (48 + client) ≡ true
digit_allowed (suc (suc (suc (suc n)))) h = absurd (omega arith)
digit_allowed _ h = refl

-- the server's instructions
server_allowed : IsAllowed (instr.Server (codes "files") 0)
server_allowed = record { ranges = refl; kind = refl; known = λ file fast. refl }

receive_allowed : IsAllowed (instr.Receive 0 0)
receive_allowed = record { ranges = refl; kind = refl; known = λ file fast. refl }

complete_allowed : IsAllowed (instr.Complete 0 (pos 0))
complete_allowed = record { ranges = refl; kind = refl; known = λ file fast. refl }

-- those of a client
connect_allowed : (x : ℕ) → IsAllowed (instr.Connect (codes "files") (slots.Own (slots_drawn x)) 0)
unfolding slots_drawn
connect_allowed x =
    let few : draw x 0 % 3 < 3 = mod-lt (draw x 0) (omega arith) in
    let low : nat_le 1 (1 + draw x 0 % 3) ≡ true = le-leb 1 (1 + draw x 0 % 3) (omega arith) in
    let high : nat_le (1 + draw x 0 % 3) 255 ≡ true = le-leb (1 + draw x 0 % 3) 255 (omega arith) in
    record { ranges = rw (low, high) refl; kind = refl; known = λ file fast. refl }

call_allowed : IsAllowed (instr.Call 0 1 no_args)
call_allowed = record { ranges = refl; kind = refl; known = λ file fast. refl }

send_allowed : IsAllowed (instr.Send 0 2 0 no_args)
send_allowed = record { ranges = refl; kind = refl; known = λ file fast. refl }

wait_allowed : IsAllowed (instr.WaitFor 0)
wait_allowed = record { ranges = refl; kind = refl; known = λ file fast. refl }

create_allowed : (client : ℕ) → client < 4 → IsAllowed (instr.CreateMutex (numbered 120 client) 1)
create_allowed client few =
    let digit : is_object_byte (48 + client) ≡ true = digit_allowed client few in
    record { ranges = rw digit refl; kind = refl; known = λ file fast. refl }

close_allowed : IsAllowed (instr.Close 1)
close_allowed = record { ranges = refl; kind = refl; known = λ file fast. refl }

fill_allowed : (place : ℕ) → IsAllowed (instr.Fill 0 64 (place % 256))
fill_allowed place =
    let few : place % 256 < 256 = mod-lt place (omega arith) in
    let low : nat_le 0 (place % 256) ≡ true = le-leb 0 (place % 256) (omega arith) in
    let high : nat_le (place % 256) 255 ≡ true = le-leb (place % 256) 255 (omega arith) in
    record { ranges = rw (low, high) refl; kind = refl; known = λ file fast. refl }

-- whole threads, and how long they are
round_allowed : (client place : ℕ) (r : Round) → client < 4 → AreAllowed (round_instrs client place r)
round_allowed client place round.Call few = (call_allowed, tt)
round_allowed client place round.Send few = (send_allowed, (wait_allowed, tt))
round_allowed client place round.Create few = (create_allowed client few, (close_allowed, tt))
round_allowed client place round.Fill few = (fill_allowed place, tt)

round_short : (client place : ℕ) (r : Round) → length (round_instrs client place r) ≤ 2
round_short client place round.Call = omega arith
round_short client place _ = omega arith

rounds_allowed : (x client n : ℕ) → client < 4 → AreAllowed (rounds_instrs x client n)
rounds_allowed x client zero few = tt
rounds_allowed x client (suc n) few =
    allowed_append (rounds_instrs x client n) (round_instrs client n (round_drawn x n)) (rounds_allowed x client n few)
    (round_allowed client n (round_drawn x n) few)

rounds_short : (x client n : ℕ) → length (rounds_instrs x client n) ≤ 2 * n
rounds_short x client zero = omega arith
rounds_short x client (suc n) =
    let before = rounds_short x client n in
    let here = round_short client n (round_drawn x n) in
    simp length-append (omega arith)

pub client_allowed : (x client size : ℕ) → client < 4 → AreAllowed (client_instrs x client size)
client_allowed x client size few = (connect_allowed x, rounds_allowed (next x) client size few)

pub client_short : (x client size : ℕ) → length (client_instrs x client size) ≤ 2 * size + 1
client_short x client size = let rounds = rounds_short (next x) client size in omega arith

pub served_allowed : (messages : ℕ) → AreAllowed (instr.Server (codes "files") 0 ∷ served messages)
served_allowed messages = (server_allowed, pairs messages) where
  pairs : (n : ℕ) → AreAllowed (served n)
  pairs zero = tt
  pairs (suc n) = allowed_append (served n) (instr.Receive 0 0 ∷ instr.Complete 0 (pos 0) ∷ []) (pairs n) (receive_allowed, (complete_allowed, tt))

pub served_short : (messages : ℕ) → length (served messages) ≡ 2 * messages
served_short zero = refl
served_short (suc n) = let before = served_short n in simp length-append (omega arith)

-- a round sends one message at most
one_message : (r : Round) → round_messages r ≤ 1
one_message round.Call = omega arith
one_message _ = omega arith

pub messages_few : (x n : ℕ) → rounds_messages x n ≤ n
messages_few x zero = omega arith
messages_few x (suc n) =
    let before = messages_few x n in
    let here = one_message (round_drawn x n) in
    omega arith
