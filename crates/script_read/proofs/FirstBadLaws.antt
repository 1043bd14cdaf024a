-- A text is read exactly where no line of it is bad, and else its first bad line is told.
use Rattle.std.proofs.Common.{◌≡◌, ℕ, suc, ◌+◌, Bool, true, false, List, [], ◌∷◌, ◌++◌, length, refl, sym, subst, ap, ◌∙◌, arith, Option, Some, None, Result, Ok, Err, inl, inr}
use Rattle.std.specs.List.{AllByRecursion, find}
use Rattle.std.specs.Prelude.{◌⊎◌, cond}
use Rattle.script_read.specs.FirstBad.{HasNone, Make, IsFirstReason, IsBadLine, IsUnended, IsFirstBad, IsRead}
use Rattle.script_read.specs.LineByLine.{at_end, go_on, read_from, read_text}
use Rattle.script_read.specs.Reasons.{has, reasons, first_reason, after_text}
use Rattle.script_read.specs.declared.reason.Reason.{Reason}
use Rattle.script_read.specs.declared.reason.Reason.TheVariants as reason
use Rattle.script_types.specs.Context.{start, is_ended}
use Rattle.script_types.specs.declared.context.Context.{Context}
use Rattle.script_types.specs.Names.{Declared, file_declares}
use Rattle.script_types.specs.SourceText.{text_lines}
use Rattle.script_types.specs.declared.script.Script.{Script}

-- the first that passes a test, and those before it
pub record IsFound {A : Type 0} (test : A → Bool) (xs : List A) (x : A) : Type 0 where
  pub before : List A
  pub behind : List A
  pub order : xs ≡ before ++ x ∷ behind
  pub none : AllByRecursion (λ y. test y ≡ false) before
  pub passes : test x ≡ true

find_step : {A : Type 0} (test : A → Bool) (y : A) (ys : List A) (x : A) (b : Bool) → test y ≡ b
    → cond b (Some y) (find test ys) ≡ Some x → (find test ys ≡ Some x → IsFound test ys x) → IsFound test (y ∷ ys) x
find_step test y ys x true e h later =
    let same : y ≡ x = cc in
    record {
      before = [];
      behind = ys;
      order = ap (λ z. z ∷ ys) same;
      none = tt;
      passes = subst (λ z. test z ≡ true) same e;
    }
find_step test y ys x false e h later =
    let f = later h in
    record {
      before = y ∷ f.before;
      behind = f.behind;
      order = ap (λ zs. y ∷ zs) f.order;
      none = (e, f.none);
      passes = f.passes;
    }

pub find_is : {A : Type 0} (test : A → Bool) (xs : List A) (x : A) → find test xs ≡ Some x → IsFound test xs x
find_is test [] x h = absurd (cc)
find_is test (y ∷ ys) x h = find_step test y ys x (test y) refl h (find_is test ys x)

none_step : {A : Type 0} (test : A → Bool) (y : A) (ys : List A) (b : Bool) → test y ≡ b
    → cond b (Some y) (find test ys) ≡ None → (test y ≡ false) × (find test ys ≡ None)
none_step test y ys true e h = absurd (cc)
none_step test y ys false e h = (e, h)

find_none : {A : Type 0} (test : A → Bool) (xs : List A) → find test xs ≡ None → AllByRecursion (λ y. test y ≡ false) xs
find_none test [] h = tt
find_none test (y ∷ ys) h = let s = none_step test y ys (test y) refl h in (s.0, find_none test ys s.1)

none_again : {A : Type 0} (test : A → Bool) (xs : List A) → AllByRecursion (λ y. test y ≡ false) xs → find test xs ≡ None
none_again test [] all = refl
none_again test (y ∷ ys) all = rw all.0 (none_again test ys all.1)

find_again : {A : Type 0} (test : A → Bool) (before : List A) (x : A) (behind : List A)
    → AllByRecursion (λ y. test y ≡ false) before → test x ≡ true → find test (before ++ x ∷ behind) ≡ Some x
find_again test [] x behind all h = rw h refl
find_again test (y ∷ ys) x behind all h = rw all.0 (find_again test ys x behind all.1 h)

-- the first reason of a line
pub first_reason_is : (file : List Declared) (c : Context) (text : List ℕ) (why : Reason) → first_reason file c text ≡ Some why → IsFirstReason file c text why
unfolding first_reason
first_reason_is file c text why h =
    let f = find_is (λ r. has r file c text) reasons why h in
    record { before = f.before; behind = f.behind; order = f.order; none = f.none; has = f.passes }

pub no_reason_is : (file : List Declared) (c : Context) (text : List ℕ) → first_reason file c text ≡ None → HasNone reasons file c text
unfolding first_reason
no_reason_is file c text h = find_none (λ r. has r file c text) reasons h

pub first_reason_again : (file : List Declared) (c : Context) (text : List ℕ) (why : Reason)
    → IsFirstReason file c text why → first_reason file c text ≡ Some why
unfolding first_reason
first_reason_again file c text why f =
    let test : Reason → Bool = λ r. has r file c text in
    subst (λ (rs : List Reason). find test rs ≡ Some why) (sym f.order) (find_again test f.before why f.behind f.none f.has)

pub no_reason_again : (file : List Declared) (c : Context) (text : List ℕ) → HasNone reasons file c text → first_reason file c text ≡ None
unfolding first_reason
no_reason_again file c text all = none_again (λ r. has r file c text) reasons all

-- the same number and reason
same_place : (m n : ℕ) (one other : Reason) → ◌≡◌ {A = Result Context (ℕ × Reason)} (Err (m, one)) (Err (n, other)) → (m ≡ n) × (one ≡ other)
same_place m n one other h =
    let same : ◌≡◌ {A = ℕ × Reason} (m, one) (n, other) = cc in
    (ap (λ (p : ℕ × Reason). p.0) same, ap (λ (p : ℕ × Reason). p.1) same)

-- lines that are read
end_ok : (c made : Context) (n : ℕ) (b : Bool) → at_end c n b ≡ Ok made → (b ≡ true) × (made ≡ c)
end_ok c made n true h = (refl, cc)
end_ok c made n false h = absurd (cc)

step_ok : (n : ℕ) (found : Option Reason) (next : Result Context (ℕ × Reason)) (made : Context)
    → go_on n found next ≡ Ok made → (found ≡ None) × (next ≡ Ok made)
step_ok n None next made h = (refl, h)
step_ok n (Some why) next made h = absurd (cc)

pub read_from_ok : (file : List Declared) (c : Context) (n : ℕ) (texts : List (List ℕ)) (made : Context)
    → read_from file c n texts ≡ Ok made → Make file c texts made × (is_ended made ≡ true)
read_from_ok file c n [] made h =
    let s = end_ok c made n (is_ended c) h in
    (s.1, ap is_ended s.1 ∙ s.0)
read_from_ok file c n (text ∷ texts) made h =
    let s = step_ok n (first_reason file c text) (read_from file (after_text c text) (suc n) texts) made h in
    let later = read_from_ok file (after_text c text) (suc n) texts made s.1 in
    ((no_reason_is file c text s.0, later.0), later.1)

pub read_from_again : (file : List Declared) (c : Context) (n : ℕ) (texts : List (List ℕ)) (made : Context)
    → Make file c texts made → is_ended made ≡ true → read_from file c n texts ≡ Ok made
read_from_again file c n [] made good ended =
    let e : is_ended c ≡ true = ap is_ended (sym good) ∙ ended in
    rw e (ap Ok (sym good))
read_from_again file c n (text ∷ texts) made good ended =
    rw (no_reason_again file c text good.0) (read_from_again file (after_text c text) (suc n) texts made good.1 ended)

-- a line that is bad, or the last that is missing
abbrev pub BadAt : List Declared → Context → List (List ℕ) → ℕ → Reason → Type 0
BadAt file c texts place why = IsBadLine file c texts place why ⊎ IsUnended file c texts place why

bad_later : (file : List Declared) (c : Context) (text : List ℕ) (texts : List (List ℕ)) (place : ℕ) (why : Reason)
    → HasNone reasons file c text → BadAt file (after_text c text) texts place why
    → BadAt file c (text ∷ texts) (suc place) why
bad_later file c text texts place why none (inl b) = inl (record {
  before = text ∷ b.before;
  text = b.text;
  behind = b.behind;
  made = b.made;
  place = ap (λ (ts : List (List ℕ)). text ∷ ts) b.place;
  count = ap suc b.count;
  good = (none, b.good);
  bad = b.bad;
})
bad_later file c text texts place why none (inr u) =
    inr (record {
      made = u.made;
      good = (none, u.good);
      unended = u.unended;
      count = ap suc u.count;
      is_end = u.is_end;
    })

-- the number of a bad line, counted from n, and its place
record IsBadFrom (file : List Declared) (c : Context) (texts : List (List ℕ)) (n number : ℕ) (why : Reason) : Type 0 where
  place : ℕ
  is : number ≡ n + place
  bad : BadAt file c texts place why

end_bad : (c : Context) (n number : ℕ) (why : Reason) (b : Bool) → at_end c n b ≡ Err (number, why) → (b ≡ false) × (number ≡ n) × (why ≡ reason.End)
end_bad c n number why true h = absurd (cc)
end_bad c n number why false h = let s = same_place n number reason.End why h in (refl, sym s.0, sym s.1)

step_bad : (file : List Declared) (c : Context) (text : List ℕ) (texts : List (List ℕ)) (n number : ℕ) (why : Reason)
    (found : Option Reason) (next : Result Context (ℕ × Reason))
    → first_reason file c text ≡ found → go_on n found next ≡ Err (number, why)
    → (next ≡ Err (number, why) → IsBadFrom file (after_text c text) texts (suc n) number why) → IsBadFrom file c (text ∷ texts) n number why
step_bad file c text texts n number why None next e h later =
    let l = later h in
    let is = l.is in
    record { place = suc l.place; is = omega arith; bad = bad_later file c text texts l.place why (no_reason_is file c text e) l.bad }
step_bad file c text texts n number why (Some found) next e h later =
    let s = same_place n number found why h in
    let same = s.1 in
    let at = s.0 in
    record {
      place = 0;
      is = omega arith;
      bad =
          inl (record {
            before = [];
            text = text;
            behind = texts;
            made = c;
            place = refl;
            count = refl;
            good = refl;
            bad = first_reason_is file c text why (e ∙ ap Some same);
          });
    }

read_from_bad : (file : List Declared) (c : Context) (n : ℕ) (texts : List (List ℕ)) (number : ℕ) (why : Reason)
    → read_from file c n texts ≡ Err (number, why) → IsBadFrom file c texts n number why
read_from_bad file c n [] number why h =
    let s = end_bad c n number why (is_ended c) h in
    let at = s.1 in
    record { place = 0; is = omega arith; bad = inr (record { made = c; good = refl; unended = s.0; count = refl; is_end = s.2 }) }
read_from_bad file c n (text ∷ texts) number why h =
    step_bad file c text texts n number why (first_reason file c text) (read_from file (after_text c text) (suc n) texts) refl h
    (read_from_bad file (after_text c text) (suc n) texts number why)

-- good lines before others are read over
read_over : (file : List Declared) (c : Context) (n : ℕ) (before texts : List (List ℕ)) (made : Context)
    → Make file c before made → read_from file c n (before ++ texts) ≡ read_from file made (length before + n) texts
read_over file c n [] texts made good =
    let count : n ≡ 0 + n = omega arith in
    ap (λ (d : Context). read_from file d n texts) (sym good) ∙ ap (λ (m : ℕ). read_from file made m texts) count
read_over file c n (text ∷ before) texts made good =
    let later = read_over file (after_text c text) (suc n) before texts made good.1 in
    let count : length before + suc n ≡ suc (length before) + n = omega arith in
    rw (no_reason_again file c text good.0) (later ∙ ap (λ (m : ℕ). read_from file made m texts) count)

read_over_all : (file : List Declared) (c : Context) (n : ℕ) (texts : List (List ℕ)) (made : Context)
    → Make file c texts made → read_from file c n texts ≡ read_from file made (length texts + n) []
read_over_all file c n [] made good =
    let count : n ≡ 0 + n = omega arith in
    ap (λ (d : Context). read_from file d n []) (sym good) ∙ ap (λ (m : ℕ). read_from file made m []) count
read_over_all file c n (text ∷ texts) made good =
    let later = read_over_all file (after_text c text) (suc n) texts made good.1 in
    let count : length texts + suc n ≡ suc (length texts) + n = omega arith in
    rw (no_reason_again file c text good.0) (later ∙ ap (λ (m : ℕ). read_from file made m []) count)

bad_again : (file : List Declared) (c : Context) (texts : List (List ℕ)) (place : ℕ) (why : Reason)
    → BadAt file c texts place why → read_from file c 1 texts ≡ Err (suc place, why)
bad_again file c texts place why (inl b) =
    let over = read_over file c 1 b.before (b.text ∷ b.behind) b.made b.good in
    let here : read_from file b.made (length b.before + 1) (b.text ∷ b.behind) ≡ Err (length b.before + 1, why) =
    rw (first_reason_again file b.made b.text why b.bad) refl in
    let count = b.count in
    let number : length b.before + 1 ≡ suc place = omega arith in
    ap (λ (ts : List (List ℕ)). read_from file c 1 ts) b.place ∙ over ∙ here ∙ ap (λ (m : ℕ). Err (m, why)) number
bad_again file c texts place why (inr u) =
    let over = read_over_all file c 1 texts u.made u.good in
    let count = u.count in
    let number : length texts + 1 ≡ suc place = omega arith in
    let here : read_from file u.made (length texts + 1) [] ≡ Err (length texts + 1, reason.End) = rw u.unended refl in
    over ∙ here ∙ ap (λ (m : ℕ). Err (m, reason.End)) number ∙ ap (λ (r : Reason). Err (suc place, r)) (sym u.is_end)

-- the whole text
pub read_text_ok : (bytes : List ℕ) (made : Context) → read_text bytes ≡ Ok made → IsRead bytes made.script
unfolding read_text
read_text_ok bytes made h =
    let s = read_from_ok (file_declares (text_lines bytes)) start 1 (text_lines bytes) made h in
    record { made = made; good = s.0; ended = s.1; same = refl }

pub read_text_bad : (bytes : List ℕ) (number : ℕ) (why : Reason) → read_text bytes ≡ Err (number, why) → IsFirstBad bytes number why
unfolding read_text
read_text_bad bytes number why h =
    let b = read_from_bad (file_declares (text_lines bytes)) start 1 (text_lines bytes) number why h in
    let is = b.is in
    record { place = b.place; is = omega arith; bad = b.bad }

pub read_again : (bytes : List ℕ) (script : Script) → IsRead bytes script → (made : Context) × (read_text bytes ≡ Ok made) × (script ≡ made.script)
unfolding read_text
read_again bytes script r = (r.made, read_from_again (file_declares (text_lines bytes)) start 1 (text_lines bytes) r.made r.good r.ended, r.same)

pub first_bad_again : (bytes : List ℕ) (number : ℕ) (why : Reason) → IsFirstBad bytes number why → read_text bytes ≡ Err (number, why)
unfolding read_text
first_bad_again bytes number why b =
    bad_again (file_declares (text_lines bytes)) start (text_lines bytes) b.place why b.bad ∙ ap (λ (m : ℕ). Err (m, why)) (sym b.is)

-- Bytes are read, or they have a first bad line.
one_of : (bytes : List ℕ) (r : Result Context (ℕ × Reason)) → read_text bytes ≡ r
    → ((script : Script) × IsRead bytes script) ⊎ ((number : ℕ) × (why : Reason) × IsFirstBad bytes number why)
one_of bytes (Ok made) h = inl (made.script, read_text_ok bytes made h)
one_of bytes (Err place) h = inr (place.0, place.1, read_text_bad bytes place.0 place.1 h)

pub read_or_bad : (bytes : List ℕ) → ((script : Script) × IsRead bytes script) ⊎ ((number : ℕ) × (why : Reason) × IsFirstBad bytes number why)
read_or_bad bytes = one_of bytes (read_text bytes) refl

-- not both, and each at most once
pub read_not_bad : (bytes : List ℕ) (script : Script) (number : ℕ) (why : Reason) → IsRead bytes script → IsFirstBad bytes number why → ⊥
read_not_bad bytes script number why r b = let good = read_again bytes script r in let bad = first_bad_again bytes number why b in cc

pub one_first_bad : (bytes : List ℕ) (m n : ℕ) (one other : Reason) → IsFirstBad bytes m one → IsFirstBad bytes n other → (m ≡ n) × (one ≡ other)
one_first_bad bytes m n one other a b =
    let first = first_bad_again bytes m one a in
    let second = first_bad_again bytes n other b in
    same_place m n one other (sym first ∙ second)

pub one_script_read : (bytes : List ℕ) (one other : Script) → IsRead bytes one → IsRead bytes other → one ≡ other
one_script_read bytes one other a b =
    let first = read_again bytes one a in
    let second = read_again bytes other b in
    let same : first.0 ≡ second.0 = cc in
    first.2 ∙ ap (λ (c : Context). c.script) same ∙ sym second.2
