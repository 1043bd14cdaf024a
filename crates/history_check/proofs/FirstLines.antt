-- The first lines of a text, line by line.
use Rattle.history_check.proofs.Bytes.{free}
use Rattle.history_check.specs.FirstLines.{Begins, IsLine, first_lines}
use Rattle.script_words.proofs.Splits.{not_true}
use Rattle.script_words.proofs.Steps.{both}
use Rattle.std.proofs.Common.{◌≡◌, ℕ, zero, suc, ◌+◌, ◌≤◌, Bool, true, false, not, nat_eq, List, [], ◌∷◌, ◌++◌, length, take, Option, Some, None, option_map, refl, sym, ap, subst, ◌∙◌, append_assoc, arith}
use Rattle.std.proofs.lemmas.List.{append_cancel_left, take_at}
use Rattle.std.proofs.lemmas.Slice.Eq.{bytes_eq-Decides}
use Rattle.std.specs.List.{flat_map, AllByRecursion}
use Rattle.std.specs.Str.{bytes_eq}

map_twice : {A B C : Type 0} (f : B → C) (g : A → B) (x : Option A) → option_map f (option_map g x) ≡ option_map (λ a. f (g a)) x
map_twice f g None = refl
map_twice f g (Some a) = refl

map_none : (x : Option (List ℕ)) → option_map (λ more. [] ++ more) x ≡ x
map_none None = refl
map_none (Some a) = refl

-- the first line of a text, and those behind it
pub line_first : (line rest : List ℕ) (n : ℕ) → free 10 line ≡ true
    → first_lines (suc n) (line ++ 10 ∷ rest) ≡ option_map (λ more. line ++ 10 ∷ more) (first_lines n rest)
line_first [] rest n none = refl
line_first (b ∷ bs) rest n none =
    let h = both (not (nat_eq b 10)) (free 10 bs) none in
    let other : nat_eq b 10 ≡ false = not_true (nat_eq b 10) h.0 in
    rw (other, line_first bs rest n h.1, map_twice) refl

-- a text without a line feed has no line that has one
pub line_lacks : (text : List ℕ) (n : ℕ) → free 10 text ≡ true → first_lines (suc n) text ≡ None
line_lacks [] n none = refl
line_lacks (b ∷ bs) n none =
    let h = both (not (nat_eq b 10)) (free 10 bs) none in
    let other : nat_eq b 10 ≡ false = not_true (nat_eq b 10) h.0 in
    rw (other, line_lacks bs n h.1) refl

-- a front is so many whole lines, whatever stands behind it
pub record IsFront (lines : ℕ) (front : List ℕ) : Type 0 where
  pub behind : (n : ℕ) (rest : List ℕ) → first_lines (lines + n) (front ++ rest) ≡ option_map (λ more. front ++ more) (first_lines n rest)

pub front_none : IsFront 0 []
front_none = record { behind = λ (n : ℕ) (rest : List ℕ). (let h : 0 + n ≡ n = omega arith in rw h (sym (map_none (first_lines n rest)))) }

map_both : (one other : List ℕ) (x : Option (List ℕ))
    → option_map (λ more. one ++ more) (option_map (λ more. other ++ more) x) ≡ option_map (λ more. (one ++ other) ++ more) x
map_both one other None = refl
map_both one other (Some more) = ap Some (sym (append_assoc one other more))

map_line : (words line : List ℕ) (x : Option (List ℕ)) → line ≡ words ++ 10 ∷ []
    → option_map (λ more. words ++ 10 ∷ more) x ≡ option_map (λ more. line ++ more) x
map_line words line None same = refl
map_line words line (Some more) same =
    let h : words ++ 10 ∷ more ≡ line ++ more = sym (append_assoc words (10 ∷ []) more)
    ∙ ap (λ (xs : List ℕ). xs ++ more) (sym same) in
    ap Some h

pub front_one : (line : List ℕ) → IsLine line → IsFront 1 line
front_one line is = record {
  behind = λ (n : ℕ) (rest : List ℕ).
      let count : 1 + n ≡ suc n = omega arith in
      let whole : line ++ rest ≡ is.words ++ 10 ∷ rest = ap (λ (xs : List ℕ). xs ++ rest) is.same ∙ append_assoc is.words (10 ∷ []) rest in
      rw (count, whole) (line_first is.words rest n is.one ∙ map_line is.words line (first_lines n rest) is.same);
}

pub front_both : (m n : ℕ) (one other : List ℕ) → IsFront m one → IsFront n other → IsFront (m + n) (one ++ other)
front_both m n one other is too = record {
  behind = λ (k : ℕ) (rest : List ℕ).
      let count : m + n + k ≡ m + (n + k) = omega arith in
      rw (count, append_assoc one other rest)
      (is.behind (n + k) (other ++ rest) ∙ ap (option_map (λ more. one ++ more)) (too.behind k rest) ∙ map_both one other (first_lines k rest));
}

-- the texts of a list, each one line
pub front_all : {A : Type 0} (text : A → List ℕ) (xs : List A) → AllByRecursion (λ x. IsLine (text x)) xs → IsFront (length xs) (flat_map text xs)
front_all text [] known = front_none
front_all text (x ∷ xs) known =
    let count : 1 + length xs ≡ suc (length xs) = omega arith in
    subst (λ (n : ℕ). IsFront n (text x ++ flat_map text xs)) count
    (front_both 1 (length xs) (text x) (flat_map text xs) (front_one (text x) known.0) (front_all text xs known.1))

-- what an option was before it was mapped
record IsMapped (g : List ℕ → List ℕ) (x : Option (List ℕ)) (mapped : List ℕ) : Type 0 where
  before : List ℕ
  is : x ≡ Some before
  same : mapped ≡ g before

mapped_from : (g : List ℕ → List ℕ) (x : Option (List ℕ)) (mapped : List ℕ) → option_map g x ≡ Some mapped → IsMapped g x mapped
mapped_from g None mapped same = absurd (let h : None ≡ Some mapped = same in cc)
mapped_from g (Some a) mapped same = let h : g a ≡ mapped = cc in record { before = a; is = refl; same = sym h }

-- fewer lines are the front of more
pub record IsShorter (text front : List ℕ) (lines : ℕ) : Type 0 where
  pub shorter : List ℕ
  pub is : first_lines lines text ≡ Some shorter
  pub rest : List ℕ
  pub whole : front ≡ shorter ++ rest

one_shorter : (b : ℕ) (bs before front : List ℕ) (m k : ℕ) → front ≡ b ∷ before
    → first_lines (suc m) (b ∷ bs) ≡ option_map (λ more. b ∷ more) (first_lines k bs) → IsShorter bs before k
    → IsShorter (b ∷ bs) front (suc m)
one_shorter b bs before front m k same step less = record {
  shorter = b ∷ less.shorter;
  is = step ∙ ap (option_map (λ more. b ∷ more)) less.is;
  rest = less.rest;
  whole = same ∙ ap (λ more. b ∷ more) less.whole;
}

-- by whether the first byte is a line feed
fewer_by : (b : ℕ) (bs front : List ℕ) (m n : ℕ) (test : Bool) → nat_eq b 10 ≡ test → m ≤ n
    → first_lines (suc n) (b ∷ bs) ≡ Some front
    → ((f : List ℕ) (i j : ℕ) → i ≤ j → first_lines j bs ≡ Some f → IsShorter bs f i) → IsShorter (b ∷ bs) front (suc m)
fewer_by b bs front m n true test few is later =
    let at = mapped_from (λ more. b ∷ more) (first_lines n bs) front (rw test at is) in
    one_shorter b bs at.before front m m at.same (rw test refl) (later at.before m n few at.is)
fewer_by b bs front m n false test few is later =
    let at = mapped_from (λ more. b ∷ more) (first_lines (suc n) bs) front (rw test at is) in
    one_shorter b bs at.before front m (suc m) at.same (rw test refl) (later at.before (suc m) (suc n) (omega arith) at.is)

pub fewer_lines : (text front : List ℕ) (m n : ℕ) → m ≤ n → first_lines n text ≡ Some front → IsShorter text front m
fewer_lines text front zero n few is = record { shorter = []; is = refl; rest = front; whole = refl }
fewer_lines text front (suc m) zero few is = absurd (omega arith)
fewer_lines [] front (suc m) (suc n) few is = absurd (let h : None ≡ Some front = is in cc)
fewer_lines (b ∷ bs) front (suc m) (suc n) few is = fewer_by b bs front m n (nat_eq b 10) refl (omega arith) is (λ f i j. fewer_lines bs f i j)

-- what so many lines of a text are: a front of it, which has so many lines whatever stands behind it
pub record IsCutOff (lines : ℕ) (text front : List ℕ) : Type 0 where
  pub rest : List ℕ
  pub whole : text ≡ front ++ rest
  pub again : (more : List ℕ) → first_lines lines (front ++ more) ≡ Some front

one_cut : (b : ℕ) (bs before front : List ℕ) (n k : ℕ) → front ≡ b ∷ before
    → ((xs : List ℕ) → first_lines (suc n) (b ∷ xs) ≡ option_map (λ more. b ∷ more) (first_lines k xs))
    → IsCutOff k bs before → IsCutOff (suc n) (b ∷ bs) front
one_cut b bs before front n k same step less = record {
  rest = less.rest;
  whole = ap (λ more. b ∷ more) less.whole ∙ ap (λ (xs : List ℕ). xs ++ less.rest) (sym same);
  again =
      λ more. ap (λ (xs : List ℕ). first_lines (suc n) (xs ++ more)) same
      ∙ step (before ++ more)
      ∙ ap (option_map (λ xs. b ∷ xs)) (less.again more)
      ∙ ap Some (sym same);
}

cut_by : (b : ℕ) (bs front : List ℕ) (n : ℕ) (test : Bool) → nat_eq b 10 ≡ test
    → first_lines (suc n) (b ∷ bs) ≡ Some front → ((f : List ℕ) (k : ℕ) → first_lines k bs ≡ Some f → IsCutOff k bs f)
    → IsCutOff (suc n) (b ∷ bs) front
cut_by b bs front n true test is later =
    let at = mapped_from (λ more. b ∷ more) (first_lines n bs) front (rw test at is) in
    one_cut b bs at.before front n n at.same (λ xs. rw test refl) (later at.before n at.is)
cut_by b bs front n false test is later =
    let at = mapped_from (λ more. b ∷ more) (first_lines (suc n) bs) front (rw test at is) in
    one_cut b bs at.before front n (suc n) at.same (λ xs. rw test refl) (later at.before (suc n) at.is)

pub lines_cut : (text front : List ℕ) (n : ℕ) → first_lines n text ≡ Some front → IsCutOff n text front
lines_cut text front zero is = let none : [] ≡ front = cc in record { rest = text; whole = ap (λ (xs : List ℕ). xs ++ text) none; again = λ more. ap Some none }
lines_cut [] front (suc n) is = absurd (let h : None ≡ Some front = is in cc)
lines_cut (b ∷ bs) front (suc n) is = cut_by b bs front n (nat_eq b 10) refl is (λ f k. lines_cut bs f k)

-- a line is the first of a text that begins with it
pub first_is : (line more : List ℕ) → IsLine line → first_lines 1 (line ++ more) ≡ Some line
first_is line more is =
    let text : line ++ more ≡ is.words ++ 10 ∷ more = ap (λ (xs : List ℕ). xs ++ more) is.same ∙ append_assoc is.words (10 ∷ []) more in
    ap (first_lines 1) text ∙ line_first is.words more 0 is.one ∙ ap Some (sym is.same)

-- a text that goes on with so many lines, of which the first stand in front
pub record IsOneMore (front rest whole : List ℕ) : Type 0 where
  pub line : List ℕ
  pub first : first_lines 1 rest ≡ Some line
  pub behind : List ℕ
  pub same : whole ≡ front ++ (line ++ behind)

pub one_more : (lines : ℕ) (front rest all whole : List ℕ) → IsFront lines front
    → first_lines (lines + 1) (front ++ rest) ≡ Some all → Begins whole all → IsOneMore front rest whole
one_more lines front rest all whole is are begins =
    let at = mapped_from (λ more. front ++ more) (first_lines 1 rest) all (sym (is.behind 1 rest) ∙ are) in
    record {
      line = at.before;
      first = at.is;
      behind = begins.rest;
      same = begins.whole ∙ ap (λ (xs : List ℕ). xs ++ begins.rest) at.same ∙ append_assoc front at.before begins.rest;
    }

-- two texts that begin with one line, where the one is so
pub same_line : (rest line known behind more : List ℕ) → first_lines 1 rest ≡ Some line → IsLine known → line ++ behind ≡ known ++ more → Begins rest known
same_line rest line known behind more first is same =
    let cut = lines_cut rest line 1 first in
    let lines : Some line ≡ Some known = sym (cut.again behind) ∙ ap (first_lines 1) same ∙ first_is known more is in
    let one : line ≡ known = cc in
    record { rest = cut.rest; whole = cut.whole ∙ ap (λ (xs : List ℕ). xs ++ cut.rest) one }

-- so with no other line does a text go on
pub goes_nowhere : (lines : ℕ) (front rest all known more whole : List ℕ) → IsFront lines front
    → first_lines (lines + 1) (front ++ rest) ≡ Some all → Begins whole all → whole ≡ front ++ (known ++ more)
    → IsLine known → (Begins rest known → ⊥) → ⊥
goes_nowhere lines front rest all known more whole is are begins same line other =
    let one = one_more lines front rest all whole is are begins in
    let both_are : one.line ++ one.behind ≡ known ++ more = append_cancel_left front _ _ (sym one.same ∙ same) in
    other (same_line rest one.line known one.behind more one.first line both_are)

-- a text that begins with a piece has it in front
pub other_front : (text piece front : List ℕ) → front ≡ take (length piece) text → bytes_eq front piece ≡ false → Begins text piece → ⊥
other_front text piece front is other begins =
    let same : front ≡ piece = is ∙ ap (take (length piece)) begins.whole ∙ take_at piece begins.rest (length piece) refl in
    let equal : bytes_eq front piece ≡ true = (bytes_eq-Decides front piece).1 same in absurd (cc)
