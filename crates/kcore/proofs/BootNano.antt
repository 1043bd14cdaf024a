-- The threads that are held at boot are suspended one after the other.
use Rattle.std.proofs.Common.{◌≡◌, ℕ, zero, suc, ◌+◌, List, [], ◌∷◌, length, get_or, set, map, replicate, refl, ap, add-one}
use Rattle.std.specs.Prelude.{Some, slice_get}
use Rattle.machine.specs.declared.boot.Born.{Born}
use Rattle.machine.specs.Boot.{held_count}

-- the suspend counts once the first n are done
abbrev pub held_so_far : List Born → ℕ → List ℕ
held_so_far [] n = []
held_so_far (b ∷ bs) zero = 0 ∷ held_so_far bs zero
held_so_far (b ∷ bs) (suc n) = held_count b ∷ held_so_far bs n

pub none_held : (bs : List Born) → replicate (length bs) 0 ≡ held_so_far bs 0
none_held [] = refl
none_held (b ∷ bs) = ap (λ (l : List ℕ). 0 ∷ l) (none_held bs)

pub all_held : (bs : List Born) → held_so_far bs (length bs) ≡ map held_count bs
all_held [] = refl
all_held (b ∷ bs) = ap (λ (l : List ℕ). held_count b ∷ l) (all_held bs)

-- the next isn't suspended yet
pub not_yet : (bs : List Born) (n : ℕ) → get_or (held_so_far bs n) n 0 ≡ 0
not_yet [] n = refl
not_yet (b ∷ bs) zero = refl
not_yet (b ∷ bs) (suc n) = not_yet bs n

held_suc : (bs : List Born) (n : ℕ) (b : Born) → slice_get bs n ≡ Some b → set (held_so_far bs n) n (held_count b) ≡ held_so_far bs (suc n)
held_suc [] n b at = absurd (cc)
held_suc (x ∷ bs) zero b at =
    let same : b ≡ x = cc in
    ap (λ (y : Born). held_count y ∷ held_so_far bs zero) same
held_suc (x ∷ bs) (suc n) b at = ap (λ (l : List ℕ). held_count x ∷ l) (held_suc bs n b at)

pub one_held : (bs : List Born) (n : ℕ) (b : Born) → slice_get bs n ≡ Some b → set (held_so_far bs n) n (held_count b) ≡ held_so_far bs (n + 1)
one_held bs n b at = rw add-one (held_suc bs n b at)
