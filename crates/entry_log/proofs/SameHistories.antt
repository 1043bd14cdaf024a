-- Two histories with equal texts are equal.
use Rattle.entry_log.proofs.Bytes.{both, word_byte, line_byte, all_free, free, free_by, joined_all, word_is_line}
use Rattle.entry_log.proofs.Pieces.{pieces, pieces_first, pieces_joined}
use Rattle.entry_log.proofs.SameEntries.{entry_bytes, entry_same}
use Rattle.entry_log.specs.EntryLine.{entry_line, entry_words}
use Rattle.entry_log.specs.FinalLine.{final_line}
use Rattle.entry_log.specs.HistoryText.{history_text}
use Rattle.entry_log.specs.IsEntry.{IsEntry}
use Rattle.entry_log.specs.Joined.{joined}
use Rattle.entry_log.specs.declared.entry.Entry.{Entry}
use Rattle.entry_log.specs.declared.entry.FinalRow.{FinalRow}
use Rattle.std.proofs.Common.{◌≡◌, ◌<◌, ℕ, true, List, [], ◌∷◌, ◌++◌, length, map, codes, sym, ◌∙◌, ap, refl, arith, append_assoc}
use Rattle.std.proofs.lemmas.List.Elements.{All-head, All-tail}
use Rattle.std.specs.List.{All, flat_map, list_all}

-- an entry's line without its LF
abbrev body : Entry → List ℕ
body e = joined 32 (entry_words e)

some_words : (e : Entry) → 2 < length (entry_words e)
unfolding entry_words
some_words e = omega arith

-- a body is cut into its words, and has no LF
body_pieces : (e : Entry) → IsEntry e → pieces 32 (body e) ≡ entry_words e
body_pieces e known =
    let some : 2 < length (entry_words e) = some_words e in
    pieces_joined 32 (entry_words e) (omega arith) (all_free word_byte 32 (entry_words e) refl (entry_bytes e known))

body_same : (a b : Entry) → IsEntry a → IsEntry b → body a ≡ body b → a ≡ b
body_same a b known_a known_b same = entry_same a b known_a known_b (sym (body_pieces a known_a) ∙ ap (pieces 32) same ∙ body_pieces b known_b)

body_not_objects : (e : Entry) → IsEntry e → body e ≡ codes "objects" → ⊥
body_not_objects e known same =
    let one : codes "objects" ∷ [] ≡ entry_words e = rw same at (body_pieces e known) in
    let some : 2 < length (entry_words e) = some_words e in
    absurd (omega (arith, ap length one))

words_are_lines : (words : List (List ℕ)) → list_all (list_all word_byte) words ≡ true → list_all (list_all line_byte) words ≡ true
words_are_lines [] all = refl
words_are_lines (word ∷ words) all =
    let h = both (list_all word_byte word) (list_all (list_all word_byte) words) all in
    rw (word_is_line word h.0, words_are_lines words h.1) refl

body_free : (e : Entry) → IsEntry e → free 10 (body e) ≡ true
body_free e known = free_by line_byte 10 (body e) refl (joined_all line_byte 32 (entry_words e) refl (words_are_lines (entry_words e) (entry_bytes e known)))

-- the lines of a history's text
history_lines : (es : List Entry) (t : List ℕ) → All IsEntry es
    → pieces 10 (flat_map entry_line es ++ (codes "objects\n" ++ t)) ≡ map body es ++ codes "objects" ∷ pieces 10 t
unfolding entry_line
history_lines [] t known = refl
history_lines (e ∷ es) t known =
    let rest : List ℕ = flat_map entry_line es ++ (codes "objects\n" ++ t) in
    let line : ((body e ++ codes "\n") ++ flat_map entry_line es) ++ (codes "objects\n" ++ t) ≡ body e ++ 10 ∷ rest = simp append_assoc in
    rw (line, pieces_first 10 (body e) rest (body_free e (All-head IsEntry e es known)), history_lines es t (All-tail IsEntry e es known)) refl

lines_same : (es fs : List Entry) (s t : List (List ℕ)) → All IsEntry es → All IsEntry fs
    → map body es ++ codes "objects" ∷ s ≡ map body fs ++ codes "objects" ∷ t → es ≡ fs
lines_same [] [] s t known_es known_fs same = refl
lines_same [] (f ∷ fs) s t known_es known_fs same =
    let first : body f ≡ codes "objects" = cc in absurd (body_not_objects f (All-head IsEntry f fs known_fs) first)
lines_same (e ∷ es) [] s t known_es known_fs same =
    let first : body e ≡ codes "objects" = cc in absurd (body_not_objects e (All-head IsEntry e es known_es) first)
lines_same (e ∷ es) (f ∷ fs) s t known_es known_fs same =
    let head : body e ≡ body f = cc in
    let more : map body es ++ codes "objects" ∷ s ≡ map body fs ++ codes "objects" ∷ t = cc in
    let first : e ≡ f = body_same e f (All-head IsEntry e es known_es) (All-head IsEntry f fs known_fs) head in
    let rest : es ≡ fs = lines_same es fs s t (All-tail IsEntry e es known_es) (All-tail IsEntry f fs known_fs) more in
    cc

-- what follows the entries
abbrev after_entries : List FinalRow → List ℕ
after_entries rows = flat_map final_line rows ++ codes "end\n"

grouped : (es : List Entry) (rows : List FinalRow) → history_text es rows ≡ flat_map entry_line es ++ (codes "objects\n" ++ after_entries rows)
unfolding history_text
grouped es rows = simp append_assoc

text_lines : (es : List Entry) (rows : List FinalRow) → All IsEntry es
    → pieces 10 (history_text es rows) ≡ map body es ++ codes "objects" ∷ pieces 10 (after_entries rows)
text_lines es rows known = rw (grouped es rows) (history_lines es (after_entries rows) known)

-- the law over all lists of entries
pub same_histories : (one other : List Entry) → All IsEntry one → All IsEntry other → (rows other_rows : List FinalRow)
    → history_text one rows ≡ history_text other other_rows → one ≡ other
same_histories one other known_one known_other rows other_rows same =
    lines_same one other (pieces 10 (after_entries rows)) (pieces 10 (after_entries other_rows)) known_one known_other
    (sym (text_lines one rows known_one) ∙ ap (pieces 10) same ∙ text_lines other other_rows known_other)
