-- No thread owes or uses anything at boot.
use Rattle.std.proofs.Common.{◌≡◌, ℕ, List, [], ◌∷◌, length, map, replicate, refl, ap}
use Rattle.std.specs.Prelude.{Option, Some, None}
use Rattle.sym_base.specs.declared.number.ObjNo.{ObjNo}
use Rattle.script_types.specs.declared.script.Script.{Script}
use Rattle.machine.specs.declared.boot.Born.{Born}
use Rattle.state_rows.specs.declared.thread.ThreadRow.{ThreadRow}
use Rattle.machine.specs.Moves.{use_of_row}
use Rattle.machine_laws.proofs.AtBoot.Born.{IsNewThread, EachBorn}

unused : (n : ℕ) (x : Option ThreadRow) → ((row : ThreadRow) → x ≡ Some row → IsNewThread n row) → use_of_row x ≡ None
unused n None new = refl
unused n (Some row) new = (new row refl).uses

pub none_used : (script : Script) (n : ℕ) (bs : List Born) → EachBorn script n bs
    → replicate (length bs) None ≡ map use_of_row (map (λ (b : Born). b.thread) bs)
none_used script n [] h = refl
none_used script n (b ∷ bs) h =
    let first = unused n b.thread h.0.row in
    let rest = none_used script n bs h.1 in
    rw first (ap (λ (l : List (Option ObjNo)). None ∷ l) rest)

-- a list for each, which has nothing
pub none_listed : {A : Type 0} (bs : List Born) → replicate {A = List A} (length bs) [] ≡ map (λ (b : Born). []) bs
none_listed [] = refl
none_listed {A} (b ∷ bs) = ap (λ (l : List (List A)). [] ∷ l) (none_listed bs)
