-- The digits of a place, made of those of the place before.
use Rattle.std.proofs.Common.{◌≡◌, ◌∙◌, ℕ, ◌+◌, ◌-◌, ◌/◌, ◌%◌, ◌^◌, ◌<◌, ◌≤◌, List, [], ◌∷◌, ◌++◌, get_or, length, take, drop}
use Rattle.std.proofs.Common.{length-append, append_assoc, inl, inr, arith, refl, sym, ap}
use Rattle.std.proofs.Math.Seq.{take-append_seam, take-length}
use Rattle.std.proofs.lemmas.Bool.{cases_lt}
use Rattle.std.proofs.lemmas.Fmt.{decimal_digit, decimal_nonempty, decimal_step, length-decimal-le}
use Rattle.std.proofs.lemmas.List.{get_or_at, length-take-le, take-append-drop}
use Rattle.std.specs.Fmt.{decimal}

-- a number and the next one, which differ in their last digits alone
record SameFront (n : ℕ) : Type 0 where
  front : List ℕ
  one : decimal n ≡ front ++ (48 + n % 10) ∷ []
  next : n % 10 < 9 → decimal (n + 1) ≡ front ++ (48 + n % 10 + 1) ∷ []

same_front : (n : ℕ) → n + 1 < 2 ^ 64 → SameFront n
same_front n small =
    elim (cases_lt n 10) [
      | inl few ↦
          let same : n ≡ n % 10 = omega arith in
          record {
            front = [];
            one = decimal_digit n few ∙ ap (λ (d : ℕ). (48 + d) ∷ []) same;
            next = λ less.
                let more : 48 + (n + 1) ≡ 48 + n % 10 + 1 = omega arith in
                decimal_digit (n + 1) (omega arith) ∙ ap (λ (d : ℕ). d ∷ []) more;
          }
      | inr many ↦
          record {
            front = decimal (n / 10);
            one = decimal_step n many (omega arith);
            next = λ less.
                let tens : (n + 1) / 10 ≡ n / 10 = omega arith in
                let more : 48 + (n + 1) % 10 ≡ 48 + n % 10 + 1 = omega arith in
                decimal_step (n + 1) (omega arith) small ∙ ap (λ (t : ℕ). decimal t ++ (48 + (n + 1) % 10) ∷ []) tens
                ∙ ap (λ (d : ℕ). decimal (n / 10) ++ d ∷ []) more;
          }
    ]

-- a number has a digit
pub some_digit : (items : List ℕ) (digits n : ℕ) → digits ≤ length items → take digits items ≡ decimal n → n < 2 ^ 64 → 0 < digits
some_digit items digits n fits is small =
    let some = decimal_nonempty n small in
    let long = length-take-le digits items fits in
    let same = ap length is in
    omega arith

-- the digits in front of a list are those of the next number, if the last is below 9 and raised
raised : (items : List ℕ) (digits n x : ℕ) → digits ≤ length items → take digits items ≡ decimal n → n + 1 < 2 ^ 64
    → x ≡ get_or items (digits - 1) 0 → x < 57 → take (digits - 1) items ++ (x + 1) ∷ [] ≡ decimal (n + 1)
raised items digits n x fits is small here few =
    let s = same_front n small in
    by_front s.front (48 + n % 10) refl s.one s.next
  where
    by_front : (front : List ℕ) (d : ℕ) → d ≡ 48 + n % 10 → decimal n ≡ front ++ d ∷ []
        → (n % 10 < 9 → decimal (n + 1) ≡ front ++ (d + 1) ∷ []) → take (digits - 1) items ++ (x + 1) ∷ [] ≡ decimal (n + 1)
    by_front front d last one next =
        let rest = drop digits items in
        let whole : items ≡ front ++ d ∷ rest =
        sym (take-append-drop digits items) ∙ ap (λ (l : List ℕ). l ++ rest) (is ∙ one) ∙ append_assoc front (d ∷ []) rest in
        let long : digits ≡ length front + 1 = sym (length-take-le digits items fits) ∙ ap length (is ∙ one) ∙ length-append front (d ∷ []) in
        let at : length front ≡ digits - 1 = omega arith in
        let digit : get_or items (digits - 1) 0 ≡ d =
        ap (λ (l : List ℕ). get_or l (digits - 1) 0) whole ∙ get_or_at front d rest 0 (digits - 1) at in
        let kept : take (digits - 1) items ≡ front =
        ap (take (digits - 1)) whole ∙ ap (λ (k : ℕ). take k (front ++ d ∷ rest)) (sym at) ∙ take-append_seam front (d ∷ rest) in
        let same : x ≡ d = here ∙ digit in
        let less : n % 10 < 9 = omega arith in
        ap (λ (l : List ℕ). l ++ (x + 1) ∷ []) kept ∙ ap (λ (k : ℕ). front ++ (k + 1) ∷ []) same ∙ sym (next less)

-- a list that is a number's digits begins with them
begins : (items : List ℕ) (digits n : ℕ) → items ≡ decimal n → length items ≡ digits → (digits ≤ length items) × (take digits items ≡ decimal n)
begins items digits n is long = (omega arith, ap (λ (k : ℕ). take k items) (sym long) ∙ take-length items ∙ is)

-- the first digit
pub begins_0 : (items : List ℕ) → items ≡ decimal 0 → (1 ≤ length items) × (take 1 items ≡ decimal 0)
begins_0 items is = begins items 1 0 is (ap length (is ∙ decimal_digit 0 (omega arith)))

-- the digits of a place that stand alone, made of those of the place before
pub raised_line : (items new : List ℕ) (digits n place x : ℕ) → digits ≤ length items → take digits items ≡ decimal n → n + 1 ≡ place → place < 2 ^ 64
    → x ≡ get_or items (digits - 1) 0 → x < 57 → new ≡ take (digits - 1) items ++ (x + 1) ∷ []
    → (new ≡ decimal place) × ((digits ≤ length new) × (take digits new ≡ decimal place))
raised_line items new digits n place x fits is next small here few made =
    let some = some_digit items digits n fits is (omega arith) in
    let front = length-take-le (digits - 1) items (omega arith) in
    let sum = ap length made ∙ length-append (take (digits - 1) items) ((x + 1) ∷ []) in
    let long : length new ≡ digits = omega arith in
    let whole : new ≡ decimal place = made ∙ raised items digits n x fits is (omega arith) here few ∙ ap decimal next in
    (whole, begins new digits place whole long)

-- a place has at most 10 digits
pub at_most_ten : (n : ℕ) → n < 2 ^ 32 → length (decimal n) ≤ 10
at_most_ten n small = length-decimal-le 10 n (omega arith) (omega arith) (omega arith)
