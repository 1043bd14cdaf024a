-- The objects at boot: each has its number as its place.
use Rattle.std.proofs.Common.{◌≡◌, ℕ, suc, zero, ◌+◌, ◌<◌, List, [], ◌∷◌, length, get_or, map, arith, refl, ap, Option, Some, None}
use Rattle.std.specs.Prelude.{◌&&◌, ◌==◌}
use Rattle.std.proofs.lemmas.Bool.{and_left}
use Rattle.sym_base.specs.declared.number.ObjNo.{ObjNo}
use Rattle.script_types.specs.declared.script.Script.{Script}
use Rattle.state_rows.specs.declared.object.ObjectRow.{ObjectRow}
use Rattle.state_rows.specs.declared.thread.ThreadRow.{ThreadRow}
use Rattle.machine.specs.declared.boot.Born.{Born}
use Rattle.machine.specs.Boot.{objects_from}
use Rattle.machine.specs.Out.{is_returning, seeks}
use Rattle.machine.specs.References.{same, total}
use Rattle.machine.specs.WellFormed.{IsAlive, dead_bit, is_dead}
use Rattle.machine_laws.proofs.AtBoot.Born.{EachBorn, IsNewThread}
use Rattle.move_laws.proofs.References.Same.{if_not}

pub length-from : (n : ℕ) (bs : List Born) → length (objects_from n bs) ≡ length bs
length-from n [] = refl
length-from n (b ∷ bs) = let r = length-from (n + 1) bs in omega arith

-- nothing is dead at boot, and each object is alive
pub born_dead : (script : Script) (m n : ℕ) (bs : List Born) (i : ℕ) → EachBorn script m bs → is_dead (get_or (objects_from n bs) i None) ≡ 0
born_dead script m n [] i h = refl
born_dead script m n (b ∷ bs) zero h = ap dead_bit h.0.alive
born_dead script m n (b ∷ bs) (suc i) h = born_dead script m (n + 1) bs i h.1

pub born_alive : (script : Script) (m n : ℕ) (bs : List Born) (i : ℕ) → EachBorn script m bs → i < length bs → IsAlive (get_or (objects_from n bs) i None)
born_alive script m n [] i h lt = absurd (omega arith)
born_alive script m n (b ∷ bs) zero h lt = h.0.alive
born_alive script m n (b ∷ bs) (suc i) h lt = born_alive script m (n + 1) bs i h.1 (omega arith)

pub place_at : (n : ℕ) (bs : List Born) (i : ℕ) (row : ObjectRow) → get_or (objects_from n bs) i None ≡ Some row → row.place ≡ n + i
place_at n [] i row is = absurd (cc)
place_at n (b ∷ bs) zero row is = let e : record b.object { place = n } ≡ row = cc in let at : n ≡ row.place = ap (λ (r : ObjectRow). r.place) e in omega arith
place_at n (b ∷ bs) (suc i) row is = let r = place_at (n + 1) bs i row is in omega arith

pub inside_at : (n : ℕ) (bs : List Born) (i : ℕ) (row : ObjectRow) → get_or (objects_from n bs) i None ≡ Some row → i < length bs
inside_at n [] i row is = absurd (cc)
inside_at n (b ∷ bs) zero row is = omega arith
inside_at n (b ∷ bs) (suc i) row is = let r = inside_at (n + 1) bs i row is in omega arith

-- where no object stands, no thread does
pub no_thread_at : (n : ℕ) (bs : List Born) (i : ℕ) → get_or (objects_from n bs) i None ≡ None → get_or (map (λ b. b.thread) bs) i None ≡ None
no_thread_at n [] i none = refl
no_thread_at n (b ∷ bs) zero none = absurd (cc)
no_thread_at n (b ∷ bs) (suc i) none = no_thread_at (n + 1) bs i none

-- no thread is between a find and its return
row_seeks : (n : ℕ) (thread : Option ThreadRow) (o : ObjNo) (place : ℕ) → ((row : ThreadRow) → thread ≡ Some row → IsNewThread n row)
    → seeks o place thread ≡ 0
row_seeks n None o place new = refl
row_seeks n (Some row) o place new =
    if_not (is_returning row.part && row.sought_place == place) (same row.sought o)
    (and_left (is_returning row.part) (row.sought_place == place) (ap is_returning (new row refl).part))

pub none_seek : (script : Script) (n : ℕ) (bs : List Born) (o : ObjNo) (place : ℕ) → EachBorn script n bs
    → total (seeks o place) (map (λ b. b.thread) bs) ≡ 0
none_seek script n [] o place h = refl
none_seek script n (b ∷ bs) o place h = let one = row_seeks n b.thread o place h.0.row in let rest = none_seek script n bs o place h.1 in omega arith
