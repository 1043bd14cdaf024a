-- Names as numbers, and a list of them in order, with one more.
use Rattle.std.proofs.Common.{◌≡◌, ℕ, zero, suc, ◌+◌, ◌-◌, ◌*◌, ◌^◌, ◌<◌, ◌≤◌, Bool, true, false, List, [], ◌∷◌, ◌++◌, length, drop, replicate, get_or}
use Rattle.std.proofs.Common.{refl, sym, ap, ◌∙◌, arith, mul-le-mul_right, add-mul, one-mul, pow-suc, inl, inr, Ok, Err}
use Rattle.std.proofs.Math.Bool.{or_comm}
use Rattle.std.proofs.lemmas.Bool.{cases_lt, cases_order, and_parts, false_from_ne_true}
use Rattle.std.proofs.lemmas.Bool.Decides.{nat_tests}
use Rattle.std.proofs.lemmas.List.{drop-replicate, get_or_default}
use Rattle.std.proofs.lemmas.List.Folds.{list_any_at, Any-from_list_any}
use Rattle.std.proofs.lemmas.List.Sorted.{searched, IsNonDecreasingBy-insert, IsPermutation-insert, list_any-IsPermutation}
use Rattle.std.proofs.lemmas.Slice.Eq.{bytes_eq-Decides}
use Rattle.std.specs.Int.{byte_worth, sum_through}
use Rattle.std.specs.List.{insert, list_all}
use Rattle.std.specs.List.Sorted.{IsBinarySearchResult, IsNonDecreasing}
use Rattle.std.specs.Ordering.{nat_cmp}
use Rattle.std.specs.Prelude.{◌==◌, ◌||◌, slice_index}
use Rattle.std.specs.Str.{bytes_eq}
use Rattle.sym_base.specs.NameText.{name_byte}
use Rattle.script_read.specs.NameNumbers.{IsNameText, padded, name_number, lists_name}
use Rattle.script_read.proofs.NameSets.{same_tests}

-- a byte of a name has 8 bits, and isn't zero
byte_of : (c : ℕ) → name_byte c ≡ true → (0 < c) × (c < 256)
byte_of c is = (grind (arith, nat_tests), grind (arith, nat_tests))

byte_small : (name : List ℕ) → list_all name_byte name ≡ true → (i : ℕ) → slice_index name i < 256
byte_small [] text i = omega arith
byte_small (b ∷ bs) text zero = (byte_of b (and_parts (name_byte b) (list_all name_byte bs) text).0).1
byte_small (b ∷ bs) text (suc i) = byte_small bs (and_parts (name_byte b) (list_all name_byte bs) text).1 i

-- zeros behind a name are what is read behind it
zeros_at : (n i : ℕ) → slice_index (replicate n 0) i ≡ 0
zeros_at zero i = refl
zeros_at (suc n) zero = refl
zeros_at (suc n) (suc i) = zeros_at n i

behind_at : (name zeros : List ℕ) → ((i : ℕ) → slice_index zeros i ≡ 0) → (i : ℕ) → slice_index (name ++ zeros) i ≡ slice_index name i
behind_at [] zeros none i = none i
behind_at (b ∷ bs) zeros none zero = refl
behind_at (b ∷ bs) zeros none (suc i) = behind_at bs zeros none i

padded_at : (name : List ℕ) (i : ℕ) → slice_index (padded name) i ≡ slice_index name i
padded_at name i = behind_at name (drop (length name) (replicate 16 0)) (λ k. rw drop-replicate (zeros_at (16 - length name) k)) i

-- bytes that write one number are the same, the highest first
same_highest : (x y p r s : ℕ) → r < p → s < p → r + x * p ≡ s + y * p → x ≡ y
same_highest x y p r s small less same =
    let more : (m : ℕ) → (m + 1) * p ≡ m * p + p = λ m. add-mul m 1 p ∙ ap (λ n. m * p + n) (one-mul p) in
    elim (cases_order x y) [
      | inl is ↦ is
      | inr (inl below) ↦ let least : (x + 1) * p ≤ y * p = mul-le-mul_right p (omega (arith, below)) in absurd (omega (arith, least, more x))
      | inr (inr above) ↦ let least : (y + 1) * p ≤ x * p = mul-le-mul_right p (omega (arith, above)) in absurd (omega (arith, least, more y))
    ]

sum_small : (f : ℕ → ℕ) → ((i : ℕ) → f i < 256) → (k : ℕ) → sum_through (λ i. byte_worth i (f i)) k < 256 ^ suc k
sum_small f small zero = omega (arith, small 0)
sum_small f small (suc k) =
    let p = 256 ^ suc k in
    let most : (f (suc k) + 1) * p ≤ 256 * p = mul-le-mul_right p (omega (arith, small (suc k))) in
    let more : (f (suc k) + 1) * p ≡ f (suc k) * p + p = add-mul (f (suc k)) 1 p ∙ ap (λ n. f (suc k) * p + n) (one-mul p) in
    omega (arith, most, more, sum_small f small k, pow-suc 256 (suc k))

same_digits_to : (f g : ℕ → ℕ) → ((i : ℕ) → f i < 256) → ((i : ℕ) → g i < 256) → (k : ℕ)
    → sum_through (λ i. byte_worth i (f i)) k ≡ sum_through (λ i. byte_worth i (g i)) k → (i : ℕ) → i < suc k → f i ≡ g i
same_digits_to f g small less zero same i inside = let first : i ≡ 0 = omega (arith, inside) in rw first same
same_digits_to f g small less (suc k) same i inside =
    let p = 256 ^ suc k in
    let highest = same_highest (f (suc k)) (g (suc k)) p (sum_through (λ i. byte_worth i (f i)) k)
    (sum_through (λ i. byte_worth i (g i)) k) (sum_small f small k) (sum_small g less k) same in
    elim (cases_lt i (suc k)) [
      | inl below ↦ same_digits_to f g small less k (omega (arith, same, ap (λ n. n * p) highest)) i below
      | inr above ↦ let last : i ≡ suc k = omega (arith, inside, above) in rw last highest
    ]

-- and so are names of which each byte is the same
same_name : (k : ℕ) (name other : List ℕ) → list_all name_byte name ≡ true → list_all name_byte other ≡ true → length name ≤ k → length other ≤ k
    → ((i : ℕ) → i < k → slice_index name i ≡ slice_index other i) → name ≡ other
same_name k [] [] text is short few same = refl
same_name zero (b ∷ bs) other text is short few same = absurd (omega arith)
same_name zero [] (c ∷ cs) text is short few same = absurd (omega arith)
same_name (suc k) [] (c ∷ cs) text is short few same =
    absurd (omega (arith, same 0 (omega arith), (byte_of c (and_parts (name_byte c) (list_all name_byte cs) is).0).0))
same_name (suc k) (b ∷ bs) [] text is short few same =
    absurd (omega (arith, same 0 (omega arith), (byte_of b (and_parts (name_byte b) (list_all name_byte bs) text).0).0))
same_name (suc k) (b ∷ bs) (c ∷ cs) text is short few same =
    let first : b ≡ c = same 0 (omega arith) in
    let rest = same_name k bs cs (and_parts (name_byte b) (list_all name_byte bs) text).1 (and_parts (name_byte c) (list_all name_byte cs) is).1
    (omega arith) (omega arith) (λ i inside. same (suc i) (omega (arith, inside))) in
    (λ j. first j ∷ rest j)

number_name : (name other : List ℕ) → IsNameText name → IsNameText other → name_number name ≡ name_number other → name ≡ other
number_name name other h k same =
    same_name 16 name other h.text k.text h.short k.short (λ i inside.
    sym (padded_at name i)
    ∙ same_digits_to (slice_index (padded name)) (slice_index (padded other))
    (λ n. rw (padded_at name n) (byte_small name h.text n)) (λ n. rw (padded_at other n) (byte_small other k.text n)) 15 same i inside
    ∙ padded_at other i)

-- two names are one where their numbers are
equal_test : (n : ℕ) → (n == n) ≡ true
equal_test n = grind (arith, nat_tests)

same_number : (name other : List ℕ) → IsNameText name → IsNameText other → (name_number name == name_number other) ≡ bytes_eq name other
same_number name other h k =
    same_tests (name_number name == name_number other) (bytes_eq name other)
    (λ test. let same : name_number name ≡ name_number other = grind (arith, nat_tests) in
    (bytes_eq-Decides name other).1 (number_name name other h k same))
    (λ test. let same = (bytes_eq-Decides name other).0 test in rw same (equal_test (name_number other)))

-- the gap for a number in numbers in order
pub record IsGap (numbers : List ℕ) (number place : ℕ) : Type 0 where
  pub within : place ≤ length numbers
  pub before : (k : ℕ) → k < place → get_or numbers k 0 < number
  pub behind : (k : ℕ) → place ≤ k → k < length numbers → number < get_or numbers k 0

pub gap_found : (numbers : List ℕ) (number place : ℕ) → IsNonDecreasing numbers
    → IsBinarySearchResult (λ n. nat_cmp n number) numbers (Err place) → IsGap numbers number place
gap_found numbers number place rising found =
    let gap = searched numbers number (Err place) found (λ i j le inside. rising i j 0 le inside) in
    record { within = gap.0; before = gap.1; behind = gap.2 }

-- a name whose number stands at a place is listed
pub listed_at : (numbers : List ℕ) (name : List ℕ) (place : ℕ) → place < length numbers → IsNonDecreasing numbers
    → IsBinarySearchResult (λ n. nat_cmp n (name_number name)) numbers (Ok place) → lists_name numbers name ≡ true
listed_at numbers name place inside rising found =
    let here = (searched numbers (name_number name) (Ok place) found (λ i j le within. rising i j 0 le within)).1 in
    let same : (name_number name == get_or numbers place 0) ≡ true = grind (arith, nat_tests, here) in
    list_any_at (λ n. name_number name == n) numbers place 0 inside same

-- one that has a gap isn't
pub gap_unlisted : (numbers : List ℕ) (name : List ℕ) (place : ℕ) → IsGap numbers (name_number name) place → lists_name numbers name ≡ false
gap_unlisted numbers name place gap = false_from_ne_true (lists_name numbers name) (λ any.
    let some = Any-from_list_any (λ n. name_number name == n) numbers any in
    let here = get_or_default numbers some.0 some.1 0 some.2 in
    let number = name_number name in
    let test : (number == some.1) ≡ true = some.4 in
    let same : number ≡ some.1 = grind (arith, nat_tests) in
    elim (cases_lt some.0 place) [
      | inl below ↦ absurd (omega (arith, gap.before some.0 below, here, some.3, same))
      | inr above ↦ absurd (omega (arith, gap.behind some.0 above some.2, here, some.3, same))
    ])

-- the number is put into its gap: the numbers are in order as before, and one name more is listed
pub rising_more : (numbers : List ℕ) (number place : ℕ) → IsNonDecreasing numbers → IsGap numbers number place → IsNonDecreasing (insert numbers place number)
rising_more numbers number place rising gap =
    IsNonDecreasingBy-insert (λ n. n) numbers place number rising gap.within
    (λ k d below. omega (arith, gap.before k below, get_or_default numbers k d 0 (omega (arith, gap.within))))
    (λ k d from inside. omega (arith, gap.behind k from inside, get_or_default numbers k d 0 inside))

pub listed_one_more : (numbers : List ℕ) (name : List ℕ) (place : ℕ) → IsNameText name → (other : List ℕ) → IsNameText other
    → lists_name (insert numbers place (name_number name)) other ≡ (lists_name numbers other || bytes_eq other name)
listed_one_more numbers name place h other k =
    let is_other : ℕ → Bool = λ n. name_number other == n in
    sym (list_any-IsPermutation is_other (name_number name ∷ numbers) (insert numbers place (name_number name))
    (IsPermutation-insert numbers place (name_number name)))
    ∙ ap (λ (b : Bool). b || lists_name numbers other) (same_number other name k h)
    ∙ or_comm (bytes_eq other name) (lists_name numbers other)
