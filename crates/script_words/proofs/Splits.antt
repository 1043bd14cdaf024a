-- Parts of a list between the items that pass a test, joined and split again.
use Rattle.std.proofs.Common.{◌≡◌, Bool, true, false, List, [], ◌∷◌, ◌++◌, refl, sym, ap, ◌∙◌}
use Rattle.std.specs.List.{list_all}
use Rattle.std.specs.Prelude.{not}
use Rattle.script_words.proofs.Steps.{both, by_test}
use Rattle.script_types.specs.SourceText.{split, in_first}

-- parts with an item between two
abbrev pub joined : {A : Type 0} → A → List (List A) → List A
joined y [] = []
joined y (part ∷ []) = part
joined y (part ∷ next ∷ parts) = part ++ y ∷ joined y (next ∷ parts)

-- no item passes the test
abbrev pub is_clear : {A : Type 0} → (A → Bool) → List A → Bool
is_clear test xs = list_all (λ x. not (test x)) xs

pub not_true : (b : Bool) → not b ≡ true → b ≡ false
not_true true h = absurd (cc)
not_true false h = refl

pub split_clear : {A : Type 0} (test : A → Bool) (xs : List A) → is_clear test xs ≡ true → split test xs ≡ xs ∷ []
split_clear test [] h = refl
split_clear test (x ∷ xs) h =
    let parts = both (not (test x)) (is_clear test xs) h in
    rw (not_true (test x) parts.0, split_clear test xs parts.1) refl

pub split_before : {A : Type 0} (test : A → Bool) (xs : List A) (y : A) (ys : List A) → is_clear test xs ≡ true
    → test y ≡ true → split test (xs ++ y ∷ ys) ≡ xs ∷ split test ys
split_before test [] y ys h e = rw e refl
split_before test (x ∷ xs) y ys h e =
    let parts = both (not (test x)) (is_clear test xs) h in
    rw (not_true (test x) parts.0, split_before test xs y ys parts.1 e) refl

-- an item in front of the first part
front_joined : {A : Type 0} (x y : A) (parts : List (List A)) → joined y (in_first x parts) ≡ x ∷ joined y parts
front_joined x y [] = refl
front_joined x y (part ∷ []) = refl
front_joined x y (part ∷ next ∷ parts) = refl

pub in_first_some : {A : Type 0} (x : A) (parts : List (List A)) → in_first x parts ≡ [] → ⊥
in_first_some x [] h = cc
in_first_some x (p ∷ ps) h = cc

pub split_some : {A : Type 0} (test : A → Bool) (xs : List A) → split test xs ≡ [] → ⊥
split_some test [] h = cc
split_some test (x ∷ xs) h = by_test (test x) (λ e. let none = rw e at h in cc) (λ e. in_first_some x (split test xs) (rw e at h))

joined_behind : {A : Type 0} (y : A) (parts : List (List A)) → (parts ≡ [] → ⊥) → joined y ([] ∷ parts) ≡ y ∷ joined y parts
joined_behind y [] some = absurd (some refl)
joined_behind y (part ∷ parts) some = refl

-- what is split is joined again
pub split_joined : {A : Type 0} (test : A → Bool) (y : A) → ((x : A) → test x ≡ true → x ≡ y) → (xs : List A) → joined y (split test xs) ≡ xs
split_joined test y is [] = refl
split_joined test y is (x ∷ xs) =
    by_test {P = joined y (split test (x ∷ xs)) ≡ x ∷ xs} (test x)
    (λ e. rw e (joined_behind y (split test xs) (split_some test xs)
    ∙ ap (λ z. z ∷ joined y (split test xs)) (sym (is x e)) ∙ ap (λ zs. x ∷ zs) (split_joined test y is xs)))
    (λ e. rw e (front_joined x y (split test xs) ∙ ap (λ zs. x ∷ zs) (split_joined test y is xs)))
