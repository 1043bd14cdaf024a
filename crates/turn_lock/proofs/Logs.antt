-- Logs that begin other logs, and the entries of one caller in them.
use Rattle.std.proofs.Common.{◌≡◌, ◌≢◌, ℕ, suc, ◌+◌, ◌≤◌, ltb, Bool, true, false, List, [], ◌∷◌, ◌++◌, length, drop, ◌<◌, subst, sym, refl, ap, ◌∙◌, append_assoc, length-append, eq-eqb, ne_eqb, eqb, arith}
use Rattle.std.proofs.lemmas.List.{append-nil, map-append}
use Rattle.std.proofs.lemmas.List.Elements.{All-nil, All-cons, All-head, All-tail, All-append, All-map}
use Rattle.std.proofs.lemmas.Bool.Decides.{nat_tests}
use Rattle.entry_log.specs.declared.entry.Entry.{Entry}
use Rattle.turn_lock.specs.declared.view.Logged.{Logged}
use Rattle.turn_lock.specs.Log.{Begins, entries_of, entry_if, made_by, logged, under, gained, longer, MadeBelow}

module _ {A : Type 0} where
  pub begins_itself : (xs : List A) → Begins xs xs
  begins_itself xs = record { rest = []; is = append-nil xs }

  pub begins_longer : (xs ys : List A) → Begins xs (xs ++ ys)
  begins_longer xs ys = record { rest = ys; is = refl }

  pub begins_on : (xs ys zs : List A) → Begins xs ys → Begins ys zs → Begins xs zs
  begins_on xs ys zs a b = record { rest = a.rest ++ b.rest; is = sym (append_assoc xs a.rest b.rest) ∙ (ap (λ l. l ++ b.rest) a.is ∙ b.is) }

  of_one : (xs ys r t : List A) → xs ++ r ≡ ys ++ t → length xs ≤ length ys → Begins xs ys
  of_one [] ys r t e h = record { rest = ys; is = refl }
  of_one (x ∷ xs) [] r t e h = absurd (omega arith)
  of_one (x ∷ xs) (y ∷ ys) r t e h =
      let head : x ≡ y = cc in let tail : xs ++ r ≡ ys ++ t = cc in let more = of_one xs ys r t tail (omega arith) in
      record { rest = more.rest; is = λ i. head i ∷ more.is i }

  -- of two beginnings of one list the shorter begins the longer
  pub begins_shorter : (xs ys zs : List A) → Begins xs zs → Begins ys zs → length xs ≤ length ys → Begins xs ys
  begins_shorter xs ys zs a b h = of_one xs ys a.rest b.rest (a.is ∙ sym b.is) h

  drop_front : (xs ys : List A) → drop (length xs) (xs ++ ys) ≡ ys
  drop_front [] ys = refl
  drop_front (x ∷ xs) ys = drop_front xs ys

  pub begins_dropped : (xs ys : List A) → Begins xs ys → xs ++ drop (length xs) ys ≡ ys
  begins_dropped xs ys b = ap (λ l. xs ++ drop (length xs) l) (sym b.is) ∙ (ap (λ l. xs ++ l) (drop_front xs b.rest) ∙ b.is)

pub made_by-append : (n : ℕ) (xs ys : List Logged) → made_by n (xs ++ ys) ≡ made_by n xs ++ made_by n ys
made_by-append n [] ys = refl
made_by-append n (x ∷ xs) ys =
    ap (λ l. entry_if (eqb x.caller n) x.entry ++ l) (made_by-append n xs ys)
    ∙ sym (append_assoc (entry_if (eqb x.caller n) x.entry) (made_by n xs) (made_by n ys))

pub made_by-under : (n : ℕ) (es : List Entry) → made_by n (under n es) ≡ es
made_by-under n [] = refl
made_by-under n (e ∷ es) = ap (λ b. entry_if b e ++ made_by n (under n es)) (eq-eqb n n refl) ∙ ap (λ l. e ∷ l) (made_by-under n es)

pub made_by-under_other : (m n : ℕ) (es : List Entry) → m ≢ n → made_by m (under n es) ≡ []
made_by-under_other m n [] h = refl
made_by-under_other m n (e ∷ es) h = ap (λ b. entry_if b e ++ made_by m (under n es)) (ne_eqb n m (λ z. h (sym z))) ∙ made_by-under_other m n es h

pub entries_of-under : (n : ℕ) (es : List Entry) → entries_of (under n es) ≡ es
entries_of-under n [] = refl
entries_of-under n (e ∷ es) = ap (λ l. e ∷ l) (entries_of-under n es)

pub entries_of-append : (xs ys : List Logged) → entries_of (xs ++ ys) ≡ entries_of xs ++ entries_of ys
entries_of-append xs ys = map-append (λ x. x.entry) xs ys

empty : {A : Type 0} (xs : List A) → length xs ≡ 0 → xs ≡ []
empty [] e = refl
empty (x ∷ xs) e = absurd (omega arith)

-- a caller that made no entry beyond what it knows has made none up to any log in between
pub made_between : (n : ℕ) (known k log : List Logged) → Begins known k → Begins k log → made_by n log ≡ made_by n known → made_by n k ≡ made_by n known
made_between n known k log a b e =
    let one : made_by n k ≡ made_by n known ++ made_by n a.rest = ap (made_by n) (sym a.is) ∙ made_by-append n known a.rest in
    let two : made_by n log ≡ made_by n k ++ made_by n b.rest = ap (made_by n) (sym b.is) ∙ made_by-append n k b.rest in
    let p : length (made_by n k) ≡ length (made_by n known) + length (made_by n a.rest) = ap length one ∙ length-append (made_by n known) (made_by n a.rest) in
    let q : length (made_by n log) ≡ length (made_by n k) + length (made_by n b.rest) = ap length two ∙ length-append (made_by n k) (made_by n b.rest) in
    let r : length (made_by n log) ≡ length (made_by n known) = ap length e in
    one ∙ (ap (λ l. made_by n known ++ l) (empty (made_by n a.rest) (omega arith)) ∙ append-nil (made_by n known))

longer_if : (xs ys log : List Logged) → Begins xs log → Begins ys log → (b : Bool) → ltb (length xs) (length ys) ≡ b
    → Begins xs (longer xs ys) × Begins ys (longer xs ys) × Begins (longer xs ys) log
longer_if xs ys log p q true e = rw e (begins_shorter xs ys log p q (grind (arith, nat_tests)), begins_itself ys, q)
longer_if xs ys log p q false e = rw e (begins_itself xs, begins_shorter ys xs log q p (grind (arith, nat_tests)), p)

-- both begin the longer, which begins what both begin
pub longer_begins : (xs ys log : List Logged) → Begins xs log → Begins ys log → Begins xs (longer xs ys) × Begins ys (longer xs ys) × Begins (longer xs ys) log
longer_begins xs ys log p q = longer_if xs ys log p q (ltb (length xs) (length ys)) refl

length_entries : (xs : List Logged) → length (entries_of xs) ≡ length xs
length_entries [] = refl
length_entries (x ∷ xs) = ap suc (length_entries xs)

-- a list that begins with the entries of a log has beyond them what it gained
pub begins_gained : (known : List Logged) (es : List Entry) → Begins (entries_of known) es → es ≡ entries_of known ++ gained known es
begins_gained known es b = sym (begins_dropped (entries_of known) es b) ∙ ap (λ n. entries_of known ++ drop n es) (length_entries known)

-- whose entries are in a log
module _ (count : ℕ) where
  abbrev Low : Logged → Type 0
  Low x = x.caller < count

  made_front : (xs ys : List Logged) → MadeBelow count (xs ++ ys) → MadeBelow count xs
  made_front [] ys m = All-nil Low
  made_front (x ∷ xs) ys m = All-cons Low x xs (All-head Low x (xs ++ ys) m) (made_front xs ys (All-tail Low x (xs ++ ys) m))

  -- a log that begins another has entries of the same callers at most
  pub made_before : (xs log : List Logged) → Begins xs log → MadeBelow count log → MadeBelow count xs
  made_before xs log b m = made_front xs b.rest (subst (MadeBelow count) (sym b.is) m)

  -- and so has a log that a caller adds to
  pub made_more : (log : List Logged) (n : ℕ) (es : List Entry) → n < count → MadeBelow count log → MadeBelow count (log ++ under n es)
  made_more log n es low m = All-append Low log (under n es) m (All-map Low (logged n) es (λ k d lt. low))
