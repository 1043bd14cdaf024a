-- A list whose nodes are taken out one by one.
use Rattle.std.proofs.Common.{◌≡◌, ◌∙◌, ℕ, ◌<◌, List, [], ◌∷◌, ap, arith, drop, get_or-set_same, length, length-set}
use Rattle.std.specs.Prelude.{Some, slice_get}
use Rattle.std.proofs.lemmas.List.{set-set}
use Rattle.links.specs.Linked.{Linked, list_at, popped_front, with_list}

-- what is left of the list goes as before
pub popped_still : (s t first : Linked) (list : ℕ) → (list < length s.lists) × (with_list s list [] ≡ with_list first list [])
    → t ≡ popped_front s list → (list < length t.lists) × (with_list t list [] ≡ with_list first list [])
popped_still s t first list was is = rw is (
  rw length-set was.0,
  ap (λ (l : List (List ℕ)). record s { lists = l }) (set-set s.lists list (drop 1 (list_at s list)) []) ∙ was.1,
)

-- and it is shorter
pub popped_shorter : (s t : Linked) (list node : ℕ) → list < length s.lists → t ≡ popped_front s list
    → Some node ≡ slice_get (list_at s list) 0 → length (list_at t list) < length (list_at s list)
popped_shorter s t list node inside is there = rw is (rw (get_or-set_same s.lists list (drop 1 (list_at s list)) [] inside) (shorter (list_at s list) there))
  where
    shorter : (xs : List ℕ) → Some node ≡ slice_get xs 0 → length (drop 1 xs) < length xs
    shorter [] there = absurd (cc)
    shorter (x ∷ xs) there = omega arith

-- in the end there is none to take out
pub none_left : (s t first : Linked) (list : ℕ) → with_list s list [] ≡ with_list first list [] → t ≡ popped_front s list
    → list_at s list ≡ [] → t ≡ with_list first list []
none_left s t first list was is none = is ∙ ap (λ (l : List ℕ). with_list s list (drop 1 l)) none ∙ was
