-- Lines of a text, written one after another.
use Rattle.std.proofs.Common.{◌≡◌, ℕ, List, ◌∷◌, ◌++◌, refl}
use Rattle.std.specs.List.{flat_map}
use Rattle.std.specs.Prelude.{Option, Result, Ok, Err, OnErr}
use Rattle.edge_io.proofs.Writing.{wrote_both, prefix_of_more, wrote_then_prefix}
use Rattle.edge_io.specs.Written.{Wrote, WrotePrefix}

-- the lines of what is left: the first's, and then those of the rest
pub next_line : {A : Type 0} (f : A → List ℕ) (left rest : List A) (x : A) (line : List ℕ) → left ≡ x ∷ rest
    → line ≡ f x → flat_map f left ≡ line ++ flat_map f rest
next_line f left rest x line e h = rw (e, h) refl

-- a prefix of the first, second, third or fourth part of a text
pub front_1 : (a b : Option (List ℕ)) (ws xs ys zs : List ℕ) → WrotePrefix a b ws → WrotePrefix a b (ws ++ xs ++ ys ++ zs)
front_1 a b ws xs ys zs p = prefix_of_more a b (ws ++ xs ++ ys) zs (prefix_of_more a b (ws ++ xs) ys (prefix_of_more a b ws xs p))

pub front_2 : (a b c : Option (List ℕ)) (ws xs ys zs : List ℕ) → Wrote a b ws → WrotePrefix b c xs → WrotePrefix a c (ws ++ xs ++ ys ++ zs)
front_2 a b c ws xs ys zs first p = prefix_of_more a c (ws ++ xs ++ ys) zs (prefix_of_more a c (ws ++ xs) ys (wrote_then_prefix a b c ws xs first p))

pub front_3 : (a b c d : Option (List ℕ)) (ws xs ys zs : List ℕ) → Wrote a b ws → Wrote b c xs → WrotePrefix c d ys → WrotePrefix a d (ws ++ xs ++ ys ++ zs)
front_3 a b c d ws xs ys zs first second p =
    prefix_of_more a d (ws ++ xs ++ ys) zs (wrote_then_prefix a c d (ws ++ xs) ys
    (wrote_both a b c ws xs first second) p)

pub front_4 : (a b c d e : Option (List ℕ)) (ws xs ys zs : List ℕ) → Wrote a b ws → Wrote b c xs → Wrote c d ys
    → WrotePrefix d e zs → WrotePrefix a e (ws ++ xs ++ ys ++ zs)
front_4 a b c d e ws xs ys zs first second third p =
    wrote_then_prefix a d e (ws ++ xs ++ ys) zs
    (wrote_both a c d (ws ++ xs) ys (wrote_both a b c ws xs first second) third) p

-- all four parts
pub whole_4 : (a b c d e : Option (List ℕ)) (ws xs ys zs : List ℕ) → Wrote a b ws → Wrote b c xs → Wrote c d ys
    → Wrote d e zs → Wrote a e (ws ++ xs ++ ys ++ zs)
whole_4 a b c d e ws xs ys zs first second third last =
    wrote_both a d e (ws ++ xs ++ ys) zs (wrote_both a c d (ws ++ xs) ys (wrote_both a b c ws xs first second) third)
    last

-- what follows of an error
pub on_err_weaker : {T E P Q : Type 0} (r : Result T E) → (P → Q) → OnErr r P → OnErr r Q
on_err_weaker (Ok x) f h = h
on_err_weaker (Err e) f h = f h
