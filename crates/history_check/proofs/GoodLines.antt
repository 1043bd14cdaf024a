-- How far a text goes on as the text of a history does.
use Rattle.entry_log.specs.EntryLine.{entry_line}
use Rattle.entry_log.specs.FinalLine.{final_line}
use Rattle.entry_log.specs.HistoryText.{history_text}
use Rattle.entry_log.specs.declared.entry.Entry.{Entry}
use Rattle.entry_log.specs.declared.entry.FinalRow.{FinalRow}
use Rattle.machine.specs.Boot.{boot_in}
use Rattle.machine.specs.FinalRows.{final_rows}
use Rattle.machine.specs.History.{after_in, IsNext, IsShared}
use Rattle.machine_laws.proofs.AtBoot.BootRows.{rows-boot}
use Rattle.script_types.specs.Source.{IsWellFormed}
use Rattle.script_types.specs.declared.script.Script.{Script}
use Rattle.std.proofs.Common.{◌≡◌, ℕ, suc, ◌+◌, ◌≤◌, Bool, true, false, nat_eq, List, [], ◌∷◌, ◌++◌, length, length-append, codes, Some, refl, sym, ap, subst, ◌∙◌, append_assoc, append-nil, arith}
use Rattle.std.specs.List.{flat_map, AllByRecursion}
use Rattle.history_check.specs.Checks.{Checks, GoesOn, IsInReach, shared_text}
use Rattle.history_check.specs.FirstLines.{Begins, IsLine, first_lines}
use Rattle.history_check.specs.Followed.{HaveOneFirst}
use Rattle.history_check.specs.Legality.{IsIllegalText}
use Rattle.history_check.specs.Rows.{as_text, row_lines}
use Rattle.history_check.proofs.EntryLines.{body, body_free, line_is}
use Rattle.history_check.proofs.FirstLines.{IsFront, fewer_lines, front_all, lines_cut, one_more, same_line}
use Rattle.history_check.proofs.Following.{GoesBehind, HasName, after_first, begins_with, legal_behind, line_more, no_objects}

-- fewer lines go on too
pub goes_fewer : (script : Script) (text : List ℕ) (m n : ℕ) → m ≤ n → GoesOn script text n → GoesOn script text m
goes_fewer script text m n few on =
    let less = fewer_lines text on.front m n few on.are in
    record {
      front = less.shorter;
      are = less.is;
      history = on.history;
      reach = on.reach;
      begins = record {
        rest = less.rest ++ on.begins.rest;
        whole = on.begins.whole ∙ ap (λ (xs : List ℕ). xs ++ on.begins.rest) less.whole ∙ append_assoc less.shorter less.rest on.begins.rest;
      };
    }

-- a front of so many lines of a history's text
pub goes_on : (script : Script) (history : List Entry) (lines : ℕ) (text front rest more : List ℕ) → IsFront lines front
    → IsInReach script history → text ≡ front ++ rest → shared_text script history ≡ front ++ more
    → GoesOn script text lines
goes_on script history lines text front rest more is reach text_is whole =
    let count : lines + 0 ≡ lines = omega arith in
    let are : first_lines lines text ≡ Some front = ap (λ (n : ℕ). first_lines n text) (sym count)
    ∙ ap (first_lines (lines + 0)) text_is ∙ is.behind 0 rest ∙ ap Some (append-nil front) in
    record { front = front; are = are; history = history; reach = reach; begins = record { rest = more; whole = whole } }

-- the line of an entry
pub entry_is_line : (e : Entry) → HasName e → IsLine (entry_line e)
entry_is_line e known = record { words = body e; same = line_is e; one = body_free e known }

entries_are_lines : (es : List Entry) → AllByRecursion HasName es → AllByRecursion (λ (e : Entry). IsLine (entry_line e)) es
entries_are_lines [] known = tt
entries_are_lines (e ∷ es) known = (entry_is_line e known.0, entries_are_lines es known.1)

pub entries_front : (es : List Entry) → AllByRecursion HasName es → IsFront (length es) (flat_map entry_line es)
entries_front es known = front_all entry_line es (entries_are_lines es known)

pub objects_is_line : IsLine (codes "objects\n")
objects_is_line = record { words = codes "objects"; same = refl; one = refl }

-- a text begins with the lines of a history, whose entries' names are name text
pub record IsSoFar (script : Script) (history : List Entry) (text rest : List ℕ) : Type 0 where
  pub shared : IsShared script history
  pub few : length history ≤ 131072
  pub known : AllByRecursion HasName history
  pub text_is : text ≡ flat_map entry_line history ++ rest

pub reach_of : (script : Script) (history : List Entry) (text rest : List ℕ) → IsSoFar script history text rest → IsInReach script history
reach_of script history text rest so = record { shared = so.shared; few = so.few }

-- the text of a history, by lines
pub rows_text : (rows : List FinalRow) → as_text (row_lines rows) ≡ flat_map final_line rows ++ codes "end\n"
rows_text [] = refl
rows_text (row ∷ rows) =
    ap (λ (text : List ℕ). final_line row ++ text) (rows_text rows)
    ∙ sym (append_assoc (final_line row) (flat_map final_line rows) (codes "end\n"))

pub by_lines : (history : List Entry) (rows : List FinalRow)
    → history_text history rows ≡ flat_map entry_line history ++ (codes "objects\n" ++ as_text (row_lines rows))
unfolding history_text
by_lines history rows =
    append_assoc (flat_map entry_line history ++ codes "objects\n") (flat_map final_line rows) (codes "end\n")
    ∙ append_assoc (flat_map entry_line history) (codes "objects\n") (flat_map final_line rows ++ codes "end\n")
    ∙ ap (λ (text : List ℕ). flat_map entry_line history ++ (codes "objects\n" ++ text)) (sym (rows_text rows))

pub text_append : (one other : List (List ℕ)) → as_text (one ++ other) ≡ as_text one ++ as_text other
text_append [] other = refl
text_append (x ∷ xs) other = ap (λ (text : List ℕ). x ++ text) (text_append xs other) ∙ sym (append_assoc x (as_text xs) (as_text other))

-- a text that has a line feed has a first line
pub record HasFirst (text : List ℕ) : Type 0 where
  pub line : List ℕ
  pub first : first_lines 1 text ≡ Some line

first_by : (b : ℕ) (bs : List ℕ) (test : Bool) → nat_eq b 10 ≡ test → HasFirst bs → HasFirst (b ∷ bs)
first_by b bs true test later = record { line = b ∷ []; first = rw test refl }
first_by b bs false test later = record { line = b ∷ later.line; first = rw (test, later.first) refl }

pub has_first : (x more : List ℕ) → HasFirst (x ++ 10 ∷ more)
has_first [] more = record { line = 10 ∷ []; first = refl }
has_first (b ∷ bs) more = first_by b (bs ++ 10 ∷ more) (nat_eq b 10) refl (has_first bs more)

-- a text that goes on behind these lines is that of a history that goes on behind this one
module _ (script : Script) (es : List Entry) (text rest : List ℕ) (valid : IsWellFormed script) (so : IsSoFar script es text rest) where
  pub begun : (history : List Entry) (s : List ℕ) → IsShared script history
      → shared_text script history ≡ flat_map entry_line es ++ s
      → GoesBehind es history s (final_rows (after_in true script history))
  begun history s shared same =
      begins_with script (boot_in true script) 1 es history s (final_rows (after_in true script history)) valid
      (rows-boot true script valid) so.known so.shared shared (sym same)

  -- it is this one, if the line `objects` stands there
  pub ended : (history : List Entry) (u : List ℕ) → IsShared script history
      → shared_text script history ≡ flat_map entry_line es ++ (codes "objects\n" ++ u) → history ≡ es
  ended history u shared same = let b = begun history (codes "objects\n" ++ u) shared same in by b.behind b.same b.text
    where
      by : (behind : List Entry) → history ≡ es ++ behind
          → codes "objects\n" ++ u ≡ history_text behind (final_rows (after_in true script history)) → history ≡ es
      by [] is text_is = is ∙ append-nil es
      by (e ∷ more) is text_is = absurd (no_objects e (history_text more (final_rows (after_in true script history))) u
          (sym (text_is ∙ after_first e more (final_rows (after_in true script history)))))

  -- an entry behind it may stand next
  next_of : (history : List Entry) (e : Entry) (more : List Entry) → IsShared script history → history ≡ es ++ e ∷ more
      → IsNext script (after_in true script es) (length es + 1) e
  next_of history e more shared is =
      let legal = legal_behind script (boot_in true script) 1 es (e ∷ more) (subst (IsShared script) is shared) in
      subst (λ (n : ℕ). IsNext script (after_in true script es) n e) (omega arith) legal.0

  so_text : shared_text script es ≡ flat_map entry_line es ++ (codes "objects\n" ++ as_text (row_lines (final_rows (after_in true script es))))
  so_text = by_lines es (final_rows (after_in true script es))

  reach : IsInReach script es
  reach = record { shared = so.shared; few = so.few }

  pub goes_so_far : GoesOn script text (length es)
  goes_so_far = goes_on script es (length es) text (flat_map entry_line es) rest _ (entries_front es so.known) reach so.text_is so_text

  -- if neither the line `objects` stands there, nor that of an entry that may stand next
  module _ (no_end : Begins rest (codes "objects\n") → ⊥)
      (nowhere : (e : Entry) (later : List Entry) (more : List ℕ)
      → IsNext script (after_in true script es) (length es + 1) e → length es + suc (length later) ≤ 131072
      → HaveOneFirst rest (entry_line e ++ more) → ⊥) where
    few_behind : (history : List Entry) (e : Entry) (later : List Entry) → length history ≤ 131072
        → history ≡ es ++ e ∷ later → length es + suc (length later) ≤ 131072
    few_behind history e later few is = omega (arith, ap length is, length-append es (e ∷ later))

    bad_behind : (history : List Entry) (line behind : List ℕ) → IsInReach script history
        → first_lines 1 rest ≡ Some line → shared_text script history ≡ flat_map entry_line es ++ (line ++ behind) → ⊥
    bad_behind history line behind within first same = let b = begun history (line ++ behind) within.shared same in by b.behind b.same b.text
      where
        by : (later : List Entry) → history ≡ es ++ later → line ++ behind ≡ history_text later (final_rows (after_in true script history)) → ⊥
        by [] is text_is = no_end (same_line rest line (codes "objects\n") behind _ first objects_is_line
            (text_is ∙ by_lines [] (final_rows (after_in true script history))))
        by (e ∷ later) is text_is =
            let more = history_text later (final_rows (after_in true script history)) in
            let lines = text_is ∙ after_first e later (final_rows (after_in true script history)) in
            nowhere e later more (next_of history e later within.shared is) (few_behind history e later within.few is)
            (record {
              line = line;
              first = first;
              too = ap (first_lines 1) (sym lines) ∙ (lines_cut rest line 1 first).again behind;
            })

    bad_next : GoesOn script text (length es + 1) → ⊥
    bad_next on =
        let are : first_lines (length es + 1) (flat_map entry_line es ++ rest) ≡ Some on.front = ap (first_lines (length es + 1)) (sym so.text_is) ∙ on.are in
        let one = one_more (length es) (flat_map entry_line es) rest on.front (shared_text script on.history) (entries_front es so.known) are on.begins in
        bad_behind on.history one.line one.behind on.reach one.first one.same

    bad_text : Checks script text → ⊥
    bad_text checks = let b = begun checks.history rest checks.is.reach.shared (sym checks.is.same ∙ so.text_is) in by b.behind b.same b.text
      where
        by : (later : List Entry) → checks.history ≡ es ++ later → rest ≡ history_text later (final_rows (after_in true script checks.history)) → ⊥
        by [] is text_is = no_end (record {
          rest = as_text (row_lines (final_rows (after_in true script checks.history)));
          whole = text_is ∙ by_lines [] (final_rows (after_in true script checks.history));
        })
        by (e ∷ later) is text_is =
            let more = history_text later (final_rows (after_in true script checks.history)) in
            let lines = text_is ∙ after_first e later (final_rows (after_in true script checks.history)) in
            let first = has_first (body e) more in
            let here : first_lines 1 (entry_line e ++ more) ≡ Some first.line = ap (first_lines 1) (line_more e more) ∙ first.first in
            nowhere e later more (next_of checks.history e later checks.is.reach.shared is)
            (few_behind checks.history e later checks.is.reach.few is)
            (record { line = first.line; first = ap (first_lines 1) lines ∙ here; too = here })

    pub illegal_next : IsIllegalText script text (length es + 1)
    illegal_next = record {
      none = bad_text;
      first = record { before = λ lines below. goes_fewer script text lines (length es) (omega arith) goes_so_far; bad = bad_next };
    }
