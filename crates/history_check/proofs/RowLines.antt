-- What a text goes on with behind the line `objects`.
use Rattle.entry_log.specs.EntryLine.{entry_line}
use Rattle.entry_log.specs.declared.entry.Entry.{Entry}
use Rattle.machine.specs.FinalRows.{final_rows}
use Rattle.machine.specs.History.{after_in, IsShared}
use Rattle.script_types.specs.Source.{IsWellFormed}
use Rattle.script_types.specs.declared.script.Script.{Script}
use Rattle.std.proofs.Common.{◌≡◌, ◌⊎◌, inl, inr, ℕ, ◌+◌, true, List, [], ◌∷◌, ◌++◌, length, codes, Some, None, refl, sym, ap, subst, ◌∙◌, append_assoc, append-nil, arith}
use Rattle.std.proofs.lemmas.List.{append_cancel_left}
use Rattle.std.specs.List.{flat_map, AllByRecursion}
use Rattle.history_check.specs.Checks.{Checks, GoesOn, IsInReach, IsTextOf, shared_text}
use Rattle.history_check.specs.FirstLines.{IsLine, first_lines}
use Rattle.history_check.specs.Legality.{IsIllegalText}
use Rattle.history_check.specs.Rows.{IsBadEnd, IsBadFrom, IsBadLine, as_text, row_lines}
use Rattle.history_check.proofs.FirstLines.{IsFront, front_all, front_both, front_one, goes_nowhere, lines_cut, one_more}
use Rattle.history_check.proofs.GoodLines.{IsSoFar, by_lines, ended, entries_front, goes_fewer, goes_on, objects_is_line, text_append}

module _ (script : Script) (es : List Entry) (text left : List ℕ) (valid : IsWellFormed script) (so : IsSoFar script es text (codes "objects\n" ++ left)) where
  abbrev lines : List (List ℕ)
  lines = row_lines (final_rows (after_in true script es))

  -- the text up to and with these lines
  abbrev up_to : List (List ℕ) → List ℕ
  up_to before = flat_map entry_line es ++ (codes "objects\n" ++ as_text before)

  reach : IsInReach script es
  reach = record { shared = so.shared; few = so.few }

  behind_up : (before : List (List ℕ)) (rest : List ℕ) → flat_map entry_line es ++ (codes "objects\n" ++ (as_text before ++ rest)) ≡ up_to before ++ rest
  behind_up before rest =
      ap (λ (xs : List ℕ). flat_map entry_line es ++ xs) (sym (append_assoc (codes "objects\n") (as_text before) rest))
      ∙ sym (append_assoc (flat_map entry_line es) (codes "objects\n" ++ as_text before) rest)

  text_up : (before : List (List ℕ)) (rest : List ℕ) → left ≡ as_text before ++ rest → text ≡ up_to before ++ rest
  text_up before rest is = so.text_is ∙ ap (λ (xs : List ℕ). flat_map entry_line es ++ (codes "objects\n" ++ xs)) is ∙ behind_up before rest

  whole_up : (before behind : List (List ℕ)) → lines ≡ before ++ behind → shared_text script es ≡ up_to before ++ as_text behind
  whole_up before behind is =
      by_lines es (final_rows (after_in true script es))
      ∙ ap (λ (xs : List ℕ). flat_map entry_line es ++ (codes "objects\n" ++ xs)) (ap as_text is ∙ text_append before behind)
      ∙ behind_up before (as_text behind)

  front_up : (before : List (List ℕ)) → AllByRecursion IsLine before → IsFront (length es + (1 + length before)) (up_to before)
  front_up before known = front_both (length es) (1 + length before) (flat_map entry_line es) (codes "objects\n" ++ as_text before) (entries_front es so.known)
      (front_both 1 (length before) (codes "objects\n") (as_text before) (front_one (codes "objects\n") objects_is_line)
      (front_all (λ (line : List ℕ). line) before known))

  -- a history whose text begins so is this one
  is_this : (history : List Entry) (before : List (List ℕ)) (more : List ℕ) → IsShared script history
      → shared_text script history ≡ up_to before ++ more → history ≡ es
  is_this history before more shared same =
      ended script es text (codes "objects\n" ++ left) valid so history (as_text before ++ more) shared (same ∙ sym (behind_up before more))

  checked_is : (checks : Checks script text) → left ≡ as_text lines
  checked_is checks =
      let same : shared_text script checks.history ≡ flat_map entry_line es ++ (codes "objects\n" ++ left) = sym checks.is.same ∙ so.text_is in
      let this = ended script es text (codes "objects\n" ++ left) valid so checks.history left checks.is.reach.shared same in
      let texts : flat_map entry_line es ++ (codes "objects\n" ++ left)
      ≡ flat_map entry_line es ++ (codes "objects\n" ++ as_text lines) =
      sym same ∙ ap (shared_text script) this ∙ by_lines es (final_rows (after_in true script es)) in
      append_cancel_left (codes "objects\n") _ _ (append_cancel_left (flat_map entry_line es) _ _ texts)

  -- its whole text
  pub legal_end : left ≡ as_text lines → IsTextOf script es text
  legal_end is = record {
    reach = reach;
    same = so.text_is ∙ ap (λ (xs : List ℕ). flat_map entry_line es ++ (codes "objects\n" ++ xs)) is ∙ sym (by_lines es (final_rows (after_in true script es)));
  }

  -- one of its lines isn't there
  module _ (good : ℕ) (bad : IsBadLine lines left good) where
    at_line : GoesOn script text (length es + (1 + length bad.before))
    at_line =
        goes_on script es (length es + (1 + length bad.before)) text (up_to bad.before) bad.rest
        (as_text (bad.line ∷ bad.behind)) (front_up bad.before bad.known) reach (text_up bad.before bad.rest bad.text_is)
        (whole_up bad.before (bad.line ∷ bad.behind) bad.lines_are)

    past_line : GoesOn script text (length es + (1 + length bad.before) + 1) → ⊥
    past_line on =
        let n = length es + (1 + length bad.before) in
        let are : first_lines (n + 1) (up_to bad.before ++ bad.rest) ≡ Some on.front =
        ap (first_lines (n + 1)) (sym (text_up bad.before bad.rest bad.text_is)) ∙ on.are in
        let one = one_more n (up_to bad.before) bad.rest on.front (shared_text script on.history) (front_up bad.before bad.known) are on.begins in
        let this = is_this on.history bad.before (one.line ++ one.behind) on.reach.shared one.same in
        let whole : shared_text script on.history ≡ up_to bad.before ++ (bad.line ++ as_text bad.behind) =
        ap (shared_text script) this ∙ whole_up bad.before (bad.line ∷ bad.behind) bad.lines_are in
        goes_nowhere n (up_to bad.before) bad.rest on.front bad.line (as_text bad.behind)
        (shared_text script on.history) (front_up bad.before bad.known) are on.begins whole bad.is bad.other

    no_line : Checks script text → ⊥
    no_line checks =
        let texts : as_text bad.before ++ bad.rest ≡ as_text bad.before ++ as_text (bad.line ∷ bad.behind) =
        sym bad.text_is
        ∙ checked_is checks
        ∙ ap as_text bad.lines_are
        ∙ text_append bad.before (bad.line ∷ bad.behind) in
        bad.other (record { rest = as_text bad.behind; whole = append_cancel_left (as_text bad.before) _ _ texts })

    illegal_line : IsIllegalText script text (length es + (1 + length bad.before) + 1)
    illegal_line = record {
      none = no_line;
      first = record { before = λ n below. goes_fewer script text n (length es + (1 + length bad.before)) (omega arith) at_line; bad = past_line };
    }

  -- something stands behind its last line
  nothing_first : (rest line : List ℕ) → first_lines 1 rest ≡ Some line → line ≡ [] → ⊥
  nothing_first rest line first none =
      let again = (lines_cut rest line 1 first).again [] in
      let empty : None ≡ Some line = ap (λ (xs : List ℕ). first_lines 1 (xs ++ [])) (sym none) ∙ again in absurd (cc)

  no_front : (one other : List ℕ) → one ++ other ≡ [] → one ≡ []
  no_front [] other same = refl
  no_front (b ∷ bs) other same = absurd (cc)

  module _ (good : ℕ) (bad : IsBadEnd lines left good) where
    whole_lines : shared_text script es ≡ up_to lines ++ []
    whole_lines = whole_up lines [] (sym (append-nil lines))

    at_end : GoesOn script text (length es + (1 + length lines))
    at_end =
        goes_on script es (length es + (1 + length lines)) text (up_to lines) (bad.byte ∷ bad.rest) []
        (front_up lines bad.known) reach (text_up lines (bad.byte ∷ bad.rest) bad.text_is) whole_lines

    past_end : GoesOn script text (length es + (1 + length lines) + 1) → ⊥
    past_end on =
        let n = length es + (1 + length lines) in
        let are : first_lines (n + 1) (up_to lines ++ bad.byte ∷ bad.rest) ≡ Some on.front =
        ap (first_lines (n + 1)) (sym (text_up lines (bad.byte ∷ bad.rest) bad.text_is)) ∙ on.are in
        let one = one_more n (up_to lines) (bad.byte ∷ bad.rest) on.front (shared_text script on.history) (front_up lines bad.known) are on.begins in
        let this = is_this on.history lines (one.line ++ one.behind) on.reach.shared one.same in
        let texts : up_to lines ++ (one.line ++ one.behind) ≡ up_to lines ++ [] = sym one.same ∙ ap (shared_text script) this ∙ whole_lines in
        let none = append_cancel_left (up_to lines) _ _ texts in
        nothing_first (bad.byte ∷ bad.rest) one.line one.first (no_front one.line one.behind none)

    no_end : Checks script text → ⊥
    no_end checks =
        let texts : as_text lines ++ bad.byte ∷ bad.rest ≡ as_text lines ++ [] = sym bad.text_is ∙ checked_is checks ∙ sym (append-nil (as_text lines)) in
        let none : bad.byte ∷ bad.rest ≡ [] = append_cancel_left (as_text lines) _ _ texts in absurd (cc)

    illegal_past : IsIllegalText script text (length es + (1 + length lines) + 1)
    illegal_past = record {
      none = no_end;
      first = record { before = λ n below. goes_fewer script text n (length es + (1 + length lines)) (omega arith) at_end; bad = past_end };
    }

  -- so the first bad line of the text is the one that was found
  pub illegal_end : (line : ℕ) → IsBadFrom lines left (length es + 2) line → IsIllegalText script text line
  illegal_end line bad = by bad.good bad.number bad.found
    where
      by : (good : ℕ) → line ≡ length es + 2 + good → IsBadLine lines left good ⊎ IsBadEnd lines left good → IsIllegalText script text line
      by good number (inl found) = let same : length es + (1 + length found.before) + 1
          ≡ line = (let count = found.count in omega arith) in
          subst (IsIllegalText script text) same (illegal_line good found)
      by good number (inr found) = let same : length es + (1 + length lines) + 1
          ≡ line = (let count = found.count in omega arith) in
          subst (IsIllegalText script text) same (illegal_past good found)
