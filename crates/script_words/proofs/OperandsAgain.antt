-- Each kind of operand: a word that has its form and its range is the word of an operand in range, and the word of
-- an operand in range has the form and the range, and is that operand.
use Rattle.std.proofs.Common.{◌≡◌, ℕ, ℤ, pos, negsuc, zero, suc, ◌<◌, ◌≤◌, ◌^◌, Bool, true, false, List, [], ◌∷◌, ◌++◌, append_assoc, length, refl, sym, subst, ap, ◌∙◌, arith}
use Rattle.std.proofs.lemmas.Bool.{leb-true, le-leb, ltb-true, and_from}
use Rattle.std.proofs.lemmas.Bool.Decides.{nat_tests}
use Rattle.std.proofs.lemmas.Fmt.{decimal_digit}
use Rattle.std.specs.Char.{is_ascii_digit}
use Rattle.std.specs.Fmt.{signed_decimal}
use Rattle.std.specs.List.{list_all}
use Rattle.std.specs.Prelude.{◌==◌, ◌&&◌, ◌||◌, not, nat_le, nat_lt, int_le, neg_ℤ, codes, decimal}
use Rattle.std.specs.Str.{bytes_eq}
use Rattle.script_words.specs.Fields.{is_number}
use Rattle.script_words.specs.LineAt.{natural, kind_named, arg_of, value_of}
use Rattle.script_words.specs.Signs.{is_signed, signed_value, is_natural, is_between, is_number_word, is_size_word, are_arg_parts, colon_parts, has_form, is_in_range}
use Rattle.script_words.proofs.Fields.{natural_takes, natural_again, natural_is_number, number_is_signed, no_sign, lettered_takes, lettered_again}
use Rattle.script_words.proofs.Splits.{joined, is_clear, split_clear, split_before, split_joined}
use Rattle.script_words.proofs.Steps.{both, by_test, same_bytes}
use Rattle.script_types.specs.Operands.{Value, is_opened, is_slots, is_arg, is_size, is_value, kind_word, arg_word, value_word}
use Rattle.script_types.specs.declared.operand.Operand.{Operand}
use Rattle.script_types.specs.declared.operand.Operand.TheVariants as operand
use Rattle.sym_base.specs.declared.kind.Arg.{Arg}
use Rattle.sym_base.specs.declared.kind.Arg.TheVariants as arg
use Rattle.sym_base.specs.declared.kind.Kind.{Kind}
use Rattle.sym_base.specs.declared.kind.Kind.TheVariants as kind
use Rattle.sym_base.specs.declared.kind.Slots.{Slots}
use Rattle.sym_base.specs.declared.kind.Slots.TheVariants as slots

-- the greatest number of an operand has 32 bits
abbrev pub is_small : Operand → Bool
is_small (operand.Number low high) = nat_lt high 4294967296
is_small (operand.Lettered letter last) = nat_lt last 4294967296
is_small _ = true

small : (n : ℕ) → nat_lt n 4294967296 ≡ true → n < 2 ^ 32
small n h = let lt = ltb-true n 4294967296 h in omega arith

pub or_right : (a b : Bool) → a ≡ false → (a || b) ≡ true → b ≡ true
or_right true b e h = absurd (cc)
or_right false b e h = h

-- a word of an operand in range
pub record Taken (what : Operand) (word : List ℕ) : Type 0 where
  pub same : word ≡ value_word what (value_of what word)
  pub range : is_value what (value_of what word) ≡ true

-- the word of an operand
pub record Again (what : Operand) (v : Value what) : Type 0 where
  pub form : has_form what (value_word what v) ≡ true
  pub range : is_in_range what (value_word what v) ≡ true
  pub value : value_of what (value_word what v) ≡ v

-- numbers
number_taken : (low high : ℕ) (word : List ℕ) → high < 2 ^ 32 → is_natural low high word ≡ true → Taken (operand.Number low high) word
number_taken low high word fits h =
    let t = natural_takes low high word fits h in
    record {
      same = t.0;
      range =
          and_from (nat_le low (natural word)) (nat_le (natural word) high) (le-leb low (natural word) t.1)
          (le-leb (natural word) high t.2);
    }

pub record NumberAgain (low high n : ℕ) : Type 0 where
  pub form : is_signed (decimal n) ≡ true
  pub range : is_natural low high (decimal n) ≡ true
  pub value : natural (decimal n) ≡ n

number_again : (low high n : ℕ) → high < 2 ^ 32 → (nat_le low n && nat_le n high) ≡ true → NumberAgain low high n
number_again low high n fits h =
    let parts = both (nat_le low n) (nat_le n high) h in
    let a = natural_again low high n fits (leb-true low n parts.0) (leb-true n high parts.1) in
    record { form = number_is_signed (decimal n) (natural_is_number low high (decimal n) a.0); range = a.0; value = a.1 }

-- numbers with a sign
negative_word : (n : ℕ) → 1 ≤ n → signed_decimal (neg_ℤ (pos n)) ≡ 45 ∷ decimal n
negative_word zero some = absurd (omega arith)
negative_word (suc n) some = refl

from_below : (low n : ℕ) → 1 ≤ n → n ≤ suc low → int_le (negsuc low) (neg_ℤ (pos n)) ≡ true
from_below low zero some le = absurd (omega arith)
from_below low (suc n) some le = le-leb n low (omega arith)

to_above : (high n : ℕ) → 1 ≤ n → int_le (neg_ℤ (pos n)) (pos high) ≡ true
to_above high zero some = absurd (omega arith)
to_above high (suc n) some = refl

minus : (c : ℕ) → (c == 45) ≡ true → c ≡ 45
minus c h = grind (arith, nat_tests)

record SignedTaken (low high : ℕ) (word : List ℕ) : Type 0 where
  same : word ≡ signed_decimal (signed_value word)
  range : (int_le (negsuc low) (signed_value word) && int_le (signed_value word) (pos high)) ≡ true

signed_taken : (low high : ℕ) (word : List ℕ) → suc low < 2 ^ 32 → high < 2 ^ 32 → is_between (suc low) high word ≡ true → SignedTaken low high word
signed_taken low high [] fits small h = absurd (cc)
signed_taken low high (c ∷ digits) fits small h =
    by_test {P = SignedTaken low high (c ∷ digits)} (c == 45)
    (λ e.
    let t = natural_takes 1 (suc low) digits fits (rw e at h) in
    let first : c ∷ digits ≡ 45 ∷ decimal (natural digits) = ap (λ (d : ℕ). d ∷ digits) (minus c e) ∙ ap (λ (ds : List ℕ). 45 ∷ ds) t.0 in
    record {
      same = rw e (first ∙ sym (negative_word (natural digits) t.1));
      range = rw (e, from_below low (natural digits) t.1 t.2, to_above high (natural digits) t.1) refl;
    })
    (λ e.
    let t = natural_takes 0 high (c ∷ digits) small (rw e at h) in
    let under : nat_le (natural (c ∷ digits)) high ≡ true = le-leb (natural (c ∷ digits)) high t.2 in
    record { same = rw e t.0; range = rw (e, under) refl })

record SignedAgain (low high : ℕ) (z : ℤ) : Type 0 where
  form : is_signed (signed_decimal z) ≡ true
  range : is_between (suc low) high (signed_decimal z) ≡ true
  value : signed_value (signed_decimal z) ≡ z

-- a number without a sign
plain_number : (low high : ℕ) (word : List ℕ) → is_number word ≡ true
    → (is_between low high word ≡ is_natural 0 high word) × (signed_value word ≡ pos (natural word))
plain_number low high [] h = absurd (cc)
plain_number low high (c ∷ digits) h =
    let parts = both (nat_lt 0 (length (c ∷ digits)) && list_all is_ascii_digit (c ∷ digits)) _ h in
    let front = both (nat_lt 0 (length (c ∷ digits))) (list_all is_ascii_digit (c ∷ digits)) parts.0 in
    (rw (no_sign c digits front.1) refl, rw (no_sign c digits front.1) refl)

not_zero : (n : ℕ) → natural (decimal (suc n)) ≡ suc n → not (bytes_eq (decimal (suc n)) (codes "0")) ≡ true
not_zero n is =
    by_test {P = not (bytes_eq (decimal (suc n)) (codes "0")) ≡ true} (bytes_eq (decimal (suc n)) (codes "0"))
    (λ e.
    let none = natural_again 0 0 0 (omega arith) (omega arith) (omega arith) in
    let same : decimal (suc n) ≡ decimal 0 = same_bytes (decimal (suc n)) (codes "0") e ∙ sym (decimal_digit 0 (omega arith)) in
    let bad : suc n ≡ 0 = sym is ∙ ap natural same ∙ none.1 in
    absurd (omega arith))
    (λ e. rw e refl)

signed_again : (low high : ℕ) (z : ℤ) → suc low < 2 ^ 32 → high < 2 ^ 32 → (int_le (negsuc low) z && int_le z (pos high)) ≡ true → SignedAgain low high z
signed_again low high (pos n) fits small h =
    let le = leb-true n high (both (int_le (negsuc low) (pos n)) (int_le (pos n) (pos high)) h).1 in
    let a = natural_again 0 high n small (omega arith) le in
    let number = natural_is_number 0 high (decimal n) a.0 in
    let p = plain_number (suc low) high (decimal n) number in
    record { form = number_is_signed (decimal n) number; range = p.0 ∙ a.0; value = p.1 ∙ ap pos a.1 }
signed_again low high (negsuc n) fits small h =
    let le = leb-true n low (both (int_le (negsuc low) (negsuc n)) (int_le (negsuc n) (pos high)) h).0 in
    let a = natural_again 1 (suc low) (suc n) fits (omega arith) (omega arith) in
    let number = natural_is_number 1 (suc low) (decimal (suc n)) a.0 in
    record {
      form =
          and_from (is_number (decimal (suc n))) (not (bytes_eq (decimal (suc n)) (codes "0"))) number (not_zero n a.1);
      range = a.0;
      value = ap (λ (m : ℕ). neg_ℤ (pos m)) a.1;
    }

-- kinds that are opened
opened : (word : List ℕ) → is_opened (kind_named word) ≡ true
opened word =
    by_test {P = is_opened (kind_named word) ≡ true} (bytes_eq word (codes "process")) (λ p. rw p refl)
    (λ p. by_test {P = is_opened (kind_named word) ≡ true} (bytes_eq word (codes "thread")) (λ t. rw (p, t) refl)
    (λ t. by_test {P = is_opened (kind_named word) ≡ true} (bytes_eq word (codes "mutex")) (λ m. rw (p, t, m) refl) (λ m. rw (p, t, m) refl)))

kind_takes : (w : List ℕ) → has_form operand.Kind w ≡ true → w ≡ kind_word (kind_named w)
kind_takes w h =
    by_test {P = w ≡ kind_word (kind_named w)} (bytes_eq w (codes "process")) (λ p. rw p (same_bytes w (codes "process") p))
    (λ p. by_test {P = w ≡ kind_word (kind_named w)} (bytes_eq w (codes "thread")) (λ t. rw (p, t) (same_bytes w (codes "thread") t))
    (λ t. by_test {P = w ≡ kind_word (kind_named w)} (bytes_eq w (codes "mutex")) (λ m. rw (p, t, m) (same_bytes w (codes "mutex") m))
    (λ m.
    let process = bytes_eq w (codes "process") in
    let thread = bytes_eq w (codes "thread") in
    let mutex = bytes_eq w (codes "mutex") in
    let semaphore = bytes_eq w (codes "semaphore") in
    let none : (process || thread || mutex) ≡ false = rw (p, t, m) refl in
    let s = or_right (process || thread || mutex) semaphore none h in
    rw (p, t, m) (same_bytes w (codes "semaphore") s))))

kind_again : (what : Kind) → is_opened what ≡ true → Again operand.Kind what
kind_again kind.Server h = absurd (cc)
kind_again kind.Session h = absurd (cc)
kind_again _ h = record { form = refl; range = refl; value = refl }

-- the slots of a session
slots_taken : (word : List ℕ) → (bytes_eq word (codes "pool") || is_natural 1 255 word) ≡ true → Taken operand.Slots word
slots_taken word h =
    by_test {P = Taken operand.Slots word} (bytes_eq word (codes "pool"))
    (λ e. record { same = rw e (same_bytes word (codes "pool") e); range = rw e refl })
    (λ e.
    let t = number_taken 1 255 word (omega arith) (or_right (bytes_eq word (codes "pool")) (is_natural 1 255 word) e h) in
    record { same = rw e t.same; range = rw e t.range })

not_pool : (word : List ℕ) → is_number word ≡ true → bytes_eq word (codes "pool") ≡ false
not_pool word h =
    by_test {P = bytes_eq word (codes "pool") ≡ false} (bytes_eq word (codes "pool"))
    (λ e. let bad : is_number (codes "pool") ≡ true = subst (λ (w : List ℕ). is_number w ≡ true) (same_bytes word (codes "pool") e) h in absurd (cc))
    (λ e. e)

slots_again : (s : Slots) → is_slots s ≡ true → Again operand.Slots s
slots_again (slots.Own n) h =
    let a = number_again 1 255 n (omega arith) h in
    let other = not_pool (decimal n) (natural_is_number 1 255 (decimal n) a.range) in
    record { form = rw (other, a.form) refl; range = rw (other, a.range) refl; value = rw other (ap slots.Own a.value) }
slots_again slots.Pool h = record { form = refl; range = refl; value = refl }

-- arguments of messages
colon_is : (b : ℕ) → (b == 58) ≡ true → b ≡ 58
colon_is b h = grind (arith, nat_tests)

of_parts : (word : List ℕ) (parts : List (List ℕ)) → colon_parts word ≡ parts → word ≡ joined 58 parts
of_parts word parts h = sym (split_joined (λ byte. byte == 58) 58 colon_is word) ∙ ap (joined 58) h

regrouped : (a b c : ℕ) → 100 ∷ 58 ∷ (decimal a ++ 58 ∷ (decimal b ++ 58 ∷ decimal c)) ≡ arg_word (arg.Descriptor a b c)
regrouped a b c = simp append_assoc

record ArgTaken (word : List ℕ) : Type 0 where
  same : word ≡ arg_word (arg_of (colon_parts word))
  range : is_arg (arg_of (colon_parts word)) ≡ true

arg_by : (word : List ℕ) (parts : List (List ℕ)) → colon_parts word ≡ parts → are_arg_parts is_number_word is_size_word parts ≡ true → ArgTaken word
arg_by word [] e h = absurd (cc)
arg_by word (w ∷ []) e h =
    let t = signed_taken 2147483647 2147483647 w (omega arith) (omega arith) h in
    record { same = of_parts word (w ∷ []) e ∙ rw e t.same; range = rw e t.range }
arg_by word (a ∷ b ∷ []) e h = absurd (cc)
arg_by word (a ∷ b ∷ c ∷ []) e h = absurd (cc)
arg_by word (d ∷ offset ∷ length ∷ max ∷ []) e h =
    let t = both (bytes_eq d (codes "d") && is_size_word offset && is_size_word length) (is_size_word max) h in
    let s = both (bytes_eq d (codes "d") && is_size_word offset) (is_size_word length) t.0 in
    let r = both (bytes_eq d (codes "d")) (is_size_word offset) s.0 in
    let first = same_bytes d (codes "d") r.0 in
    let o = natural_takes 0 1024 offset (omega arith) r.1 in
    let l = natural_takes 0 1024 length (omega arith) s.1 in
    let m = natural_takes 0 1024 max (omega arith) t.1 in
    let under_o : nat_le (natural offset) 1024 ≡ true = le-leb (natural offset) 1024 o.2 in
    let under_l : nat_le (natural length) 1024 ≡ true = le-leb (natural length) 1024 l.2 in
    let under_m : nat_le (natural max) 1024 ≡ true = le-leb (natural max) 1024 m.2 in
    record {
      same = of_parts word (d ∷ offset ∷ length ∷ max ∷ []) e ∙ ap (λ (x : List ℕ). x ++ 58 ∷ (offset ++ 58 ∷ (length ++ 58 ∷ max))) first
          ∙ ap (λ (x : List ℕ). 100 ∷ 58 ∷ (x ++ 58 ∷ (length ++ 58 ∷ max))) o.0
          ∙ ap (λ (x : List ℕ). 100 ∷ 58 ∷ (decimal (natural offset) ++ 58 ∷ (x ++ 58 ∷ max))) l.0
          ∙ ap (λ (x : List ℕ). 100 ∷ 58 ∷ (decimal (natural offset) ++ 58 ∷ (decimal (natural length) ++ 58 ∷ x))) m.0
          ∙ rw e (regrouped (natural offset) (natural length) (natural max));
      range = rw (e, under_o, under_l, under_m) refl;
    }
arg_by word (a ∷ b ∷ c ∷ d ∷ f ∷ more) e h = absurd (cc)

-- digits have no colon
digit_clear : (c : ℕ) → is_ascii_digit c ≡ true → not (c == 58) ≡ true
digit_clear c h = grind (arith, nat_tests)

digits_clear : (word : List ℕ) → list_all is_ascii_digit word ≡ true → is_clear (λ byte. byte == 58) word ≡ true
digits_clear [] h = refl
digits_clear (c ∷ cs) h =
    let parts = both (is_ascii_digit c) (list_all is_ascii_digit cs) h in
    rw (digit_clear c parts.0, digits_clear cs parts.1) refl

number_clear : (word : List ℕ) → is_number word ≡ true → is_clear (λ byte. byte == 58) word ≡ true
number_clear word h =
    let parts = both (nat_lt 0 (length word) && list_all is_ascii_digit word) _ h in
    digits_clear word (both (nat_lt 0 (length word)) (list_all is_ascii_digit word) parts.0).1

signed_clear : (word : List ℕ) → is_signed word ≡ true → is_clear (λ byte. byte == 58) word ≡ true
signed_clear [] h = refl
signed_clear (c ∷ digits) h =
    by_test {P = is_clear (λ byte. byte == 58) (c ∷ digits) ≡ true} (c == 45)
    (λ e.
    let number = both (is_number digits) (not (bytes_eq digits (codes "0"))) (rw e at h) in
    let first : c ≡ 45 = minus c e in
    let other : not (c == 58) ≡ true = rw first refl in
    rw (other, number_clear digits number.0) refl)
    (λ e. number_clear (c ∷ digits) (rw e at h))

sized : (n : ℕ) → is_size n ≡ true → NumberAgain 0 1024 n
sized n h = number_again 0 1024 n (omega arith) (and_from (nat_le 0 n) (nat_le n 1024) (le-leb 0 n (omega arith)) h)

arg_again : (a : Arg) → is_arg a ≡ true → Again operand.Argument a
arg_again (arg.Number z) h =
    let a = signed_again 2147483647 2147483647 z (omega arith) (omega arith) h in
    let parts : colon_parts (signed_decimal z) ≡ signed_decimal z ∷ [] =
    split_clear (λ byte. byte == 58) (signed_decimal z) (signed_clear (signed_decimal z) a.form) in
    record { form = rw parts a.form; range = rw parts a.range; value = rw parts (ap arg.Number a.value) }
arg_again (arg.Descriptor x y z) h =
    let parts = both (is_size x && is_size y) (is_size z) h in
    let front = both (is_size x) (is_size y) parts.0 in
    let a = sized x front.0 in
    let b = sized y front.1 in
    let c = sized z parts.1 in
    let clear : (n : ℕ) → is_natural 0 1024 (decimal n) ≡ true → is_clear (λ byte. byte == 58) (decimal n) ≡ true =
    λ n r. number_clear (decimal n) (natural_is_number 0 1024 (decimal n) r) in
    let test : ℕ → Bool = λ byte. byte == 58 in
    let cut : colon_parts (100 ∷ 58 ∷ (decimal x ++ 58 ∷ (decimal y ++ 58 ∷ decimal z))) ≡ codes "d" ∷ decimal x ∷ decimal y ∷ decimal z ∷ [] =
    ap (λ (ps : List (List ℕ)). codes "d" ∷ ps) (split_before test (decimal x) 58 (decimal y ++ 58 ∷ decimal z) (clear x a.range) refl
    ∙ ap (λ (ps : List (List ℕ)). decimal x ∷ ps) (split_before test (decimal y) 58 (decimal z) (clear y b.range) refl
    ∙ ap (λ (ps : List (List ℕ)). decimal y ∷ ps) (split_clear test (decimal z) (clear z c.range)))) in
    let is : colon_parts (arg_word (arg.Descriptor x y z)) ≡ codes "d" ∷ decimal x ∷ decimal y ∷ decimal z ∷ [] =
    ap colon_parts (sym (regrouped x y z)) ∙ cut in
    record {
      form = rw (is, a.form, b.form, c.form) refl;
      range = rw (is, a.range, b.range, c.range) refl;
      value = rw (is, a.value, b.value, c.value) refl;
    }

-- all kinds
pub taken : (what : Operand) (word : List ℕ) → is_small what ≡ true → has_form what word ≡ true → is_in_range what word ≡ true → Taken what word
taken (operand.Number low high) word fits form range = number_taken low high word (small high fits) range
taken operand.Code word fits form range =
    let t = signed_taken 2147483645 2147483647 word (omega arith) (omega arith) range in
    record { same = t.same; range = t.range }
taken (operand.Lettered letter last) word fits form range =
    let t = lettered_takes letter last word (small last fits) form range in
    record { same = t.0; range = le-leb _ last t.1 }
taken operand.Name word fits form range = record { same = refl; range = form }
taken operand.Category word fits form range = record { same = refl; range = form }
taken operand.Kind word fits form range = record { same = kind_takes word form; range = opened word }
taken operand.Mutex word fits form range = record { same = same_bytes word (codes "mutex") form; range = refl }
taken operand.Semaphore word fits form range = record { same = same_bytes word (codes "semaphore") form; range = refl }
taken operand.Held word fits form range = record { same = same_bytes word (codes "held") form; range = refl }
taken operand.Slots word fits form range = slots_taken word range
taken operand.Argument word fits form range = let t = arg_by word (colon_parts word) refl range in record { same = t.same; range = t.range }

pub again : (what : Operand) (value : Value what) → is_small what ≡ true → is_value what value ≡ true → Again what value
again (operand.Number low high) n fits h = let a = number_again low high n (small high fits) h in record { form = a.form; range = a.range; value = a.value }
again operand.Code z fits h =
    let a = signed_again 2147483645 2147483647 z (omega arith) (omega arith) h in
    record { form = a.form; range = a.range; value = a.value }
again (operand.Lettered letter last) n fits h =
    let a = lettered_again letter last n (small last fits) (leb-true n last h) in
    record { form = a.0; range = a.1; value = a.2 }
again operand.Name name fits h = record { form = h; range = refl; value = refl }
again operand.Category name fits h = record { form = h; range = refl; value = refl }
again operand.Kind what fits h = kind_again what h
again operand.Slots s fits h = slots_again s h
again operand.Argument a fits h = arg_again a h
again _ n fits h = record { form = refl; range = refl; value = refl }
