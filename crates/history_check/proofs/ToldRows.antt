-- The objects that are left, as far as a text tells them.
use Rattle.entry_log.specs.FinalLine.{final_line}
use Rattle.entry_log.specs.declared.entry.FinalRow.{FinalRow}
use Rattle.std.proofs.Common.{◌≡◌, inl, inr, ◌⊎◌, ℕ, ◌+◌, ◌≤◌, List, [], ◌∷◌, ◌++◌, length, length-append, map, codes, Option, Some, None, refl, sym, ap, subst, ◌∙◌, append_assoc, append-nil, arith}
use Rattle.std.proofs.lemmas.List.{length-map, map-append}
use Rattle.std.specs.List.{AllByRecursion}
use Rattle.std.specs.Prelude.{MatchOption}
use Rattle.history_check.specs.FirstLines.{Begins, IsLine}
use Rattle.history_check.specs.Rows.{IsBadEnd, IsBadFrom, IsBadLine, as_text, row_lines}
use Rattle.history_check.proofs.GoodLines.{text_append}

-- lines in front of others
all_append : (xs ys : List (List ℕ)) → AllByRecursion IsLine xs → AllByRecursion IsLine ys → AllByRecursion IsLine (xs ++ ys)
all_append [] ys known more = more
all_append (x ∷ xs) ys known more = (known.0, all_append xs ys known.1 more)

text_front : (xs before : List (List ℕ)) (text rest : List ℕ) → text ≡ as_text before ++ rest → as_text xs ++ text ≡ as_text (xs ++ before) ++ rest
text_front xs before text rest is =
    ap (λ (more : List ℕ). as_text xs ++ more) is
    ∙ sym (append_assoc (as_text xs) (as_text before) rest)
    ∙ ap (λ (more : List ℕ). more ++ rest) (sym (text_append xs before))

line_behind : (xs lines : List (List ℕ)) (text : List ℕ) (good : ℕ) → AllByRecursion IsLine xs
    → IsBadLine lines text good → IsBadLine (xs ++ lines) (as_text xs ++ text) (length xs + good)
line_behind xs lines text good known bad = record {
  before = xs ++ bad.before;
  line = bad.line;
  behind = bad.behind;
  rest = bad.rest;
  lines_are = ap (λ (more : List (List ℕ)). xs ++ more) bad.lines_are ∙ sym (append_assoc xs bad.before (bad.line ∷ bad.behind));
  count = length-append xs bad.before ∙ ap (λ (n : ℕ). length xs + n) bad.count;
  text_is = text_front xs bad.before text bad.rest bad.text_is;
  known = all_append xs bad.before known bad.known;
  is = bad.is;
  other = bad.other;
}

end_behind : (xs lines : List (List ℕ)) (text : List ℕ) (good : ℕ) → AllByRecursion IsLine xs → IsBadEnd lines text good
    → IsBadEnd (xs ++ lines) (as_text xs ++ text) (length xs + good)
end_behind xs lines text good known bad = record {
  byte = bad.byte;
  rest = bad.rest;
  count = length-append xs lines ∙ ap (λ (n : ℕ). length xs + n) bad.count;
  text_is = text_front xs lines text (bad.byte ∷ bad.rest) bad.text_is;
  known = all_append xs lines known bad.known;
}

bad_behind : (xs lines : List (List ℕ)) (text : List ℕ) (first bad : ℕ) → AllByRecursion IsLine xs
    → IsBadFrom lines text (first + length xs) bad → IsBadFrom (xs ++ lines) (as_text xs ++ text) first bad
bad_behind xs lines text first bad known is = by is.found
  where
    count : bad ≡ first + (length xs + is.good)
    count = let number = is.number in omega arith

    by : IsBadLine lines text is.good ⊎ IsBadEnd lines text is.good → IsBadFrom (xs ++ lines) (as_text xs ++ text) first bad
    by (inl found) = record { good = length xs + is.good; number = count; found = inl (line_behind xs lines text is.good known found) }
    by (inr found) = record { good = length xs + is.good; number = count; found = inr (end_behind xs lines text is.good known found) }

-- the line `end`
pub end_is_line : IsLine (codes "end\n")
end_is_line = record { words = codes "end"; same = refl; one = refl }

pub end_missing : (text : List ℕ) (line : ℕ) → (Begins text (codes "end\n") → ⊥) → IsBadFrom (codes "end\n" ∷ []) text line line
end_missing text line other = record {
  good = 0;
  number = omega arith;
  found =
      inl (record {
        before = [];
        line = codes "end\n";
        behind = [];
        rest = text;
        lines_are = refl;
        count = refl;
        text_is = refl;
        known = tt;
        is = end_is_line;
        other = other;
      });
}

pub end_followed : (text rest : List ℕ) (line : ℕ) → text ≡ codes "end\n" ++ rest → (length rest ≡ 0 → ⊥) → IsBadFrom (codes "end\n" ∷ []) text line (line + 1)
end_followed text [] line is some = absurd (some refl)
end_followed text (b ∷ bs) line is some = record {
  good = 1;
  number = refl;
  found = inr (record { byte = b; rest = bs; count = refl; text_is = is; known = (end_is_line, tt) });
}

pub end_there : (text rest : List ℕ) → text ≡ codes "end\n" ++ rest → length rest ≡ 0 → text ≡ codes "end\n"
end_there text [] is none = is
end_there text (b ∷ bs) is none = absurd (omega arith)

-- The rows so far, and those that are left: a text tells them, and goes on with what is left of it.
pub record IsToldSo (rows left : List FinalRow) (text rest : List ℕ) (first line : ℕ) : Type 0 where
  pub before : List FinalRow
  pub rows_are : rows ≡ before ++ left
  pub text_is : text ≡ as_text (map final_line before) ++ rest
  pub count : line ≡ first + length before
  pub known : AllByRecursion IsLine (map final_line before)

pub told_start : (rows : List FinalRow) (text : List ℕ) (line : ℕ) → IsToldSo rows rows text text line line
told_start rows text line = record { before = []; rows_are = refl; text_is = refl; count = omega arith; known = tt }

-- there are no more than these
pub told_few : {rows left : List FinalRow} {text rest : List ℕ} {first line : ℕ} → IsToldSo rows left text rest first line → line ≤ first + length rows
told_few {rows = rows} {left = left} so = let count = so.count in omega (arith, ap length so.rows_are, length-append so.before left)

-- one row more
pub told_more : {rows left : List FinalRow} {text rest : List ℕ} {first line : ℕ} (row : FinalRow)
    (more : List FinalRow) (behind : List ℕ)
    → IsToldSo rows left text rest first line → left ≡ row ∷ more → IsLine (final_line row)
    → rest ≡ final_line row ++ behind → IsToldSo rows more text behind first (line + 1)
told_more {rows = rows} {left = left} {text = text} {rest = rest} row more behind so is line there =
    let count = so.count in
    let lines : map final_line (so.before ++ row ∷ []) ≡ map final_line so.before ++ final_line row ∷ [] = map-append final_line so.before (row ∷ []) in
    record {
      before = so.before ++ row ∷ [];
      rows_are = so.rows_are ∙ ap (λ (xs : List FinalRow). so.before ++ xs) is ∙ sym (append_assoc so.before (row ∷ []) more);
      text_is =
          so.text_is
          ∙ text_front (map final_line so.before) (final_line row ∷ []) rest behind
          (there ∙ ap (λ (xs : List ℕ). xs ++ behind) (sym (append-nil (final_line row))))
          ∙ ap (λ (xs : List (List ℕ)). as_text xs ++ behind) (sym lines);
      count = omega (arith, length-append so.before (row ∷ []));
      known = subst (AllByRecursion IsLine) (sym lines) (all_append (map final_line so.before) (final_line row ∷ []) so.known (line, tt));
    }

lines_are : (before left : List FinalRow) → row_lines (before ++ left) ≡ map final_line before ++ row_lines left
lines_are before left =
    ap (λ (xs : List (List ℕ)). xs ++ codes "end\n" ∷ []) (map-append final_line before left)
    ∙ append_assoc (map final_line before) (map final_line left) (codes "end\n" ∷ [])

-- what is found behind them is found in all
pub told_bad : {rows left : List FinalRow} {text rest : List ℕ} {first line : ℕ} (bad : ℕ)
    → IsToldSo rows left text rest first line → IsBadFrom (row_lines left) rest line bad
    → IsBadFrom (row_lines rows) text first bad
told_bad {rows = rows} {left = left} {text = text} {rest = rest} {first = first} {line = line} bad so found =
    let from : line ≡ first + length (map final_line so.before) = so.count ∙ ap (λ (n : ℕ). first + n) (sym (length-map so.before final_line)) in
    let shifted = bad_behind (map final_line so.before) (row_lines left) rest first bad so.known
    (subst (λ (n : ℕ). IsBadFrom (row_lines left) rest n bad) from found) in
    let lines : map final_line so.before ++ row_lines left ≡ row_lines rows = sym (lines_are so.before left) ∙ ap row_lines (sym so.rows_are) in
    subst (λ (xs : List ℕ). IsBadFrom (row_lines rows) xs first bad) (sym so.text_is)
    (subst (λ (xs : List (List ℕ)). IsBadFrom xs (as_text (map final_line so.before) ++ rest) first bad) lines shifted)

pub told_all : {rows left : List FinalRow} {text rest : List ℕ} {first line : ℕ}
    → IsToldSo rows left text rest first line → rest ≡ as_text (row_lines left) → text ≡ as_text (row_lines rows)
told_all {rows = rows} {left = left} {text = text} {rest = rest} so is =
    so.text_is
    ∙ ap (λ (xs : List ℕ). as_text (map final_line so.before) ++ xs) is
    ∙ sym (text_append (map final_line so.before) (row_lines left))
    ∙ ap as_text (sym (lines_are so.before left) ∙ ap row_lines (sym so.rows_are))

-- a row that isn't told
pub row_missing : (row : FinalRow) (more : List FinalRow) (text : List ℕ) (line : ℕ) → IsLine (final_line row)
    → (Begins text (final_line row) → ⊥) → IsBadFrom (row_lines (row ∷ more)) text line line
row_missing row more text line is other = record {
  good = 0;
  number = omega arith;
  found =
      inl (record {
        before = [];
        line = final_line row;
        behind = row_lines more;
        rest = text;
        lines_are = refl;
        count = refl;
        text_is = refl;
        known = tt;
        is = is;
        other = other;
      });
}

-- so what is found behind all rows is found of them
pub told_end : {rows left : List FinalRow} {text rest : List ℕ} {first line : ℕ} (found : Option ℕ)
    → IsToldSo rows left text rest first line → left ≡ []
    → MatchOption found (rest ≡ codes "end\n") (λ bad. IsBadFrom (codes "end\n" ∷ []) rest line bad)
    → MatchOption found (text ≡ as_text (row_lines rows)) (λ bad. IsBadFrom (row_lines rows) text first bad)
told_end {rest = rest} None so none is = told_all so (subst (λ (left : List FinalRow). rest ≡ as_text (row_lines left)) (sym none) is)
told_end {rest = rest} {line = line} (Some bad) so none is =
    told_bad bad so (subst (λ (left : List FinalRow). IsBadFrom (row_lines left) rest line bad) (sym none) is)
