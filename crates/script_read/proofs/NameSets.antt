-- Sets of names and of numbers, with one more.
use Rattle.std.proofs.Common.{◌≡◌, ℕ, ◌<◌, ◌≤◌, ◌^◌, Bool, true, false, List, refl, sym, ap, ◌∙◌, arith, Some, None}
use Rattle.std.proofs.lemmas.Bool.Decides.{nat_tests}
use Rattle.std.proofs.lemmas.Map.Text.{is_eq-slice_cmp}
use Rattle.std.proofs.lemmas.Slice.Eq.{bytes_eq-Decides}
use Rattle.std.specs.BTreeMap.{is_at}
use Rattle.std.specs.BTreeSet.{BTreeSet, contains}
use Rattle.std.specs.declared.cmp.Ordering.{Ordering}
use Rattle.std.specs.Borrow.{Bor}
use Rattle.std.specs.Cmp.Lexicographic.{slice_cmp}
use Rattle.std.specs.Ordering.{is_eq, nat_cmp}
use Rattle.std.specs.Prelude.{◌||◌, ◌&&◌, cond, decimal}
use Rattle.std.specs.Str.{bytes_eq}
use Rattle.script_words.specs.Fields.{number_of}
use Rattle.script_read.specs.FileNames.{has_name}
use Rattle.script_words.proofs.Numbers.{number_takes, number_again}
use Rattle.script_words.proofs.Steps.{some_is, same_bytes}
use Rattle.std.proofs.Math.Bool.{or-true, or-false}

-- the order of names
abbrev pub by_bytes : Bor (List ℕ) → Bor (List ℕ) → Ordering
by_bytes x y = slice_cmp nat_cmp x.now y.now

or_where : (b x : Bool) → cond b true x ≡ (x || b)
or_where true x = sym (or-true x)
or_where false x = sym (or-false x)

or_nothing : (x test : Bool) → x ≡ (x || (test && false))
or_nothing false true = refl
or_nothing _ _ = refl

-- tests that pass together are equal
pub same_tests : (a b : Bool) → (a ≡ true → b ≡ true) → (b ≡ true → a ≡ true) → a ≡ b
same_tests true b there back = sym (there refl)
same_tests false true there back = back refl
same_tests false false there back = refl

-- a name more
pub name_added : (old new : BTreeSet (Bor (List ℕ))) (name : Bor (List ℕ)) (test : Bool) (q : List ℕ) → test ≡ true
    → ((p : Bor (List ℕ)) → contains by_bytes new p ≡ cond (is_at (by_bytes name) p) true (contains by_bytes old p))
    → has_name new q ≡ (has_name old q || (test && bytes_eq name.now q))
name_added old new name test q here added =
    let p : Bor (List ℕ) = record { ref_ptr = (0, 0); now = q } in
    rw here (added p ∙ or_where (is_at (by_bytes name) p) (has_name old q) ∙ ap (λ (b : Bool). has_name old q || b) (is_eq-slice_cmp name.now q))

-- equal numbers have equal digits
is_same : (n k : ℕ) → is_eq (nat_cmp n k) ≡ true → n ≡ k
is_same n k h = grind (arith, nat_tests)

same_is : (n k : ℕ) → n ≡ k → is_eq (nat_cmp n k) ≡ true
same_is n k h = grind (arith, nat_tests)

same_number : (n k : ℕ) → n ≤ 255 → k ≤ 255 → decimal n ≡ decimal k → n ≡ k
same_number n k small little same =
    let small_max : 255 < 2 ^ 32 = omega arith in
    some_is n k (sym (number_again 255 n small_max small) ∙ ap (number_of 255) same ∙ number_again 255 k small_max little)

pub same_digits : (n k : ℕ) → n ≤ 255 → k ≤ 255 → is_eq (nat_cmp n k) ≡ bytes_eq (decimal n) (decimal k)
same_digits n k small little =
    same_tests (is_eq (nat_cmp n k)) (bytes_eq (decimal n) (decimal k))
    (λ h. (bytes_eq-Decides (decimal n) (decimal k)).1 (ap decimal (is_same n k h)))
    (λ h. same_is n k (same_number n k small little (same_bytes (decimal n) (decimal k) h)))

-- a number more
pub number_added : (old new : BTreeSet ℕ) (word : List ℕ) (n : ℕ) (test : Bool) (k : ℕ) → test ≡ true
    → number_of 255 word ≡ Some n → k < 256
    → ((p : ℕ) → contains nat_cmp new p ≡ cond (is_at (nat_cmp n) p) true (contains nat_cmp old p))
    → contains nat_cmp new k ≡ (contains nat_cmp old k || (test && bytes_eq word (decimal k)))
number_added old new word n test k here found small added =
    let took = number_takes 255 word n (omega arith) found in
    rw (here, took.0) (added k ∙ or_where (is_at (nat_cmp n) k) (contains nat_cmp old k)
    ∙ ap (λ (b : Bool). contains nat_cmp old k || b) (same_digits n k took.1 (omega arith)))

-- a word that is no number
pub no_number : (word : List ℕ) (k : ℕ) → number_of 255 word ≡ None → k < 256 → bytes_eq word (decimal k) ≡ false
no_number word k none small =
    same_tests (bytes_eq word (decimal k)) false
    (λ h. let found : number_of 255 word ≡ Some k = ap (number_of 255) (same_bytes word (decimal k) h)
    ∙ number_again 255 k (omega arith) (omega arith) in absurd (cc))
    (λ h. absurd (cc))

pub none_added : (old : BTreeSet ℕ) (word : List ℕ) (test : Bool) (k : ℕ) → number_of 255 word ≡ None → k < 256
    → contains nat_cmp old k ≡ (contains nat_cmp old k || (test && bytes_eq word (decimal k)))
none_added old word test k none small = rw (no_number word k none small) (or_nothing (contains nat_cmp old k) test)
