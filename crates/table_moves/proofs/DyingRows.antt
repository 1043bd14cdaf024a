-- Rows of threads that die.
use Rattle.std.proofs.Common.{◌≡◌, ℕ, zero, suc, List, [], ◌∷◌, get_or, set, refl, ap}
use Rattle.std.specs.Prelude.{Option, Some, None, option_map}
use Rattle.sym_base.specs.declared.number.ObjNo.{ObjNo}
use Rattle.state_rows.specs.declared.thread.ThreadRow.{ThreadRow}
use Rattle.machine.specs.Rows.{with_row}

-- a row that changes twice
map_twice : (f g : ThreadRow → ThreadRow) (x : Option ThreadRow) → option_map g (option_map f x) ≡ option_map (λ row. g (f row)) x
map_twice f g None = refl
map_twice f g (Some row) = refl

pub row_twice : (threads : List (Option ThreadRow)) (t : ObjNo) (f g : ThreadRow → ThreadRow)
    → with_row (with_row threads t f) t g ≡ with_row threads t (λ row. g (f row))
row_twice threads t f g = twice threads t.0
  where
    twice : (rows : List (Option ThreadRow)) (k : ℕ)
        → set (set rows k (option_map f (get_or rows k None))) k
        (option_map g (get_or (set rows k (option_map f (get_or rows k None))) k None))
        ≡ set rows k (option_map (λ row. g (f row)) (get_or rows k None))
    twice [] k = refl
    twice (row ∷ rows) zero = ap (λ (x : Option ThreadRow). x ∷ rows) (map_twice f g row)
    twice (row ∷ rows) (suc k) = ap (λ (rest : List (Option ThreadRow)). row ∷ rest) (twice rows k)
