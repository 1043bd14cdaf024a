-- The parts of a body's words between the words `;` are its operations.
use Rattle.std.proofs.Common.{◌≡◌, ℕ, zero, suc, ◌<◌, Bool, true, false, List, [], ◌∷◌, ◌++◌, length, map, take, get_or, refl, sym, subst, ap, ◌∙◌, arith}
use Rattle.std.specs.Borrow.{Bor}
use Rattle.std.specs.List.{AllByRecursion, list_all, slice_split, onto_first}
use Rattle.std.specs.Prelude.{◌&&◌, codes}
use Rattle.std.specs.Str.{bytes_eq}
use Rattle.script_words.specs.LineSigns.{operations}
use Rattle.script_words.specs.Pieces.{pieces}
use Rattle.script_words.proofs.Steps.{by_test}
use Rattle.script_types.specs.SourceText.{in_first}
use Rattle.std.proofs.Math.Bool.{and-true}

-- a word stands between two operations, and the parts between those words
abbrev pub ends : Bor (List ℕ) → Bool
ends word = bytes_eq word.now (codes ";")

abbrev pub parts_of : List (Bor (List ℕ)) → List (List (Bor (List ℕ)))
parts_of words = slice_split ends words

first_pieces : (word : Bor (List ℕ)) (parts : List (List (Bor (List ℕ)))) → map pieces (onto_first word parts) ≡ in_first word.now (map pieces parts)
first_pieces word [] = refl
first_pieces word (p ∷ ps) = refl

pub parts_are_operations : (words : List (Bor (List ℕ))) → map pieces (parts_of words) ≡ operations (pieces words)
parts_are_operations [] = refl
parts_are_operations (w ∷ ws) =
    by_test {P = map pieces (parts_of (w ∷ ws)) ≡ operations (pieces (w ∷ ws))} (ends w)
    (λ e. rw e (ap (λ (ops : List (List (List ℕ))). [] ∷ ops) (parts_are_operations ws)))
    (λ e. rw e (first_pieces w (parts_of ws) ∙ ap (in_first w.now) (parts_are_operations ws)))

-- a test of each part
all_parts : (test : List (List ℕ) → Bool) (parts : List (List (Bor (List ℕ)))) → list_all (λ part. test (pieces part)) parts ≡ list_all test (map pieces parts)
all_parts test [] = refl
all_parts test (p ∷ ps) = rw (all_parts test ps) refl

all_operations : (test : List (List ℕ) → Bool) (words : List (Bor (List ℕ)))
    → list_all (λ part. test (pieces part)) (parts_of words) ≡ list_all test (operations (pieces words))
all_operations test words = all_parts test (parts_of words) ∙ ap (list_all test) (parts_are_operations words)

-- a part that was yielded is the next
known_part : (P : List (List ℕ) → Type 0) (parts : List (List (Bor (List ℕ)))) (n : ℕ) (part : List (Bor (List ℕ)))
    → AllByRecursion P (map pieces parts) → n < length parts → part ≡ get_or parts n part → P (pieces part)
known_part P [] n part known within is = absurd (omega arith)
known_part P (p ∷ ps) zero part known within is = subst (λ (q : List (Bor (List ℕ))). P (pieces q)) (sym is) known.0
known_part P (p ∷ ps) (suc n) part known within is = known_part P ps n part known.1 (omega arith) is

pub known_operation : (P : List (List ℕ) → Type 0) (words : List (Bor (List ℕ))) (n : ℕ) (part : List (Bor (List ℕ)))
    → AllByRecursion P (operations (pieces words)) → n < length (parts_of words) → part ≡ get_or (parts_of words) n part
    → P (pieces part)
known_operation P words n part known within is =
    known_part P (parts_of words) n part (subst (λ (ops : List (List (List ℕ))). AllByRecursion P ops) (sym (parts_are_operations words)) known) within is

pub one_more : {A B : Type 0} (f : A → B) (parts : List A) (n : ℕ) (part : A) → n < length parts
    → part ≡ get_or parts n part → map f (take n parts) ++ f part ∷ [] ≡ map f (take (suc n) parts)
one_more f [] n part within is = absurd (omega arith)
one_more f (p ∷ ps) zero part within is = ap (λ q. f q ∷ []) is
one_more f (p ∷ ps) (suc n) part within is = ap (λ qs. f p ∷ qs) (one_more f ps n part (omega arith) is)

-- all parts
take_whole : {A : Type 0} (parts : List A) (n : ℕ) → n ≡ length parts → take n parts ≡ parts
take_whole [] zero h = refl
take_whole [] (suc n) h = refl
take_whole (p ∷ ps) zero h = absurd (omega arith)
take_whole (p ∷ ps) (suc n) h = ap (λ qs. p ∷ qs) (take_whole ps n (omega arith))

-- the parts so far pass a test, and one more
and_again : (b c d : Bool) → (b && (c && d)) ≡ ((b && c) && d)
and_again true c d = refl
and_again false c d = refl

pub one_more_passes : {A : Type 0} (test : A → Bool) (parts : List A) (n : ℕ) (part : A) → n < length parts
    → part ≡ get_or parts n part → list_all test (take (suc n) parts) ≡ (list_all test (take n parts) && test part)
one_more_passes test [] n part within is = absurd (omega arith)
one_more_passes test (p ∷ ps) zero part within is = and-true (test p) ∙ ap test (sym is)
one_more_passes test (p ∷ ps) (suc n) part within is =
    let later = one_more_passes test ps n part (omega arith) is in
    rw later (and_again (test p) (list_all test (take n ps)) (test part))

pub whole_passes : (test : List (List ℕ) → Bool) (words : List (Bor (List ℕ))) (n : ℕ) → n ≡ length (parts_of words)
    → list_all (λ part. test (pieces part)) (take n (parts_of words)) ≡ list_all test (operations (pieces words))
whole_passes test words n h = ap (list_all (λ part. test (pieces part))) (take_whole (parts_of words) n h) ∙ all_operations test words

map_parts : {B : Type 0} (f : List (List ℕ) → B) (parts : List (List (Bor (List ℕ)))) → map (λ part. f (pieces part)) parts ≡ map f (map pieces parts)
map_parts f [] = refl
map_parts f (p ∷ ps) = ap (λ qs. f (pieces p) ∷ qs) (map_parts f ps)

pub whole_body : {B : Type 0} (f : List (List ℕ) → B) (words : List (Bor (List ℕ))) (n : ℕ)
    → n ≡ length (parts_of words)
    → map (λ part. f (pieces part)) (take n (parts_of words)) ≡ map f (operations (pieces words))
whole_body f words n h =
    ap (map (λ part. f (pieces part))) (take_whole (parts_of words) n h) ∙ map_parts f (parts_of words) ∙ ap (map f) (parts_are_operations words)
