-- The text of an object that is left is one line.
use Rattle.entry_log.specs.FinalLine.{exit_words, final_line, final_words, kind_text, life_words, shown_name}
use Rattle.entry_log.specs.Joined.{joined}
use Rattle.entry_log.specs.declared.entry.FinalRow.{FinalRow}
use Rattle.std.proofs.Common.{◌≡◌, ℕ, true, List, [], ◌∷◌, Option, Some, None, IfSome, refl}
use Rattle.std.specs.List.{list_all}
use Rattle.std.specs.Prelude.{IsTrue}
use Rattle.sym_base.specs.NameText.{name_byte}
use Rattle.sym_base.specs.declared.kind.Exit.{Exit}
use Rattle.sym_base.specs.declared.kind.ExitKind.{ExitKind}
use Rattle.sym_base.specs.declared.kind.ExitKind.TheVariants.{Kill, Terminate, Panic}
use Rattle.sym_base.specs.declared.kind.Kind.{Kind}
use Rattle.sym_base.specs.declared.kind.Kind.TheVariants.{Process, Thread}
use Rattle.history_check.specs.FirstLines.{IsLine}
use Rattle.history_check.proofs.Bytes.{decimal_field, field_byte, fields_are_words, free_by, joined_all, line_byte, name_is_field, signed_field, words_are_lines}

kind_field : (kind : Kind) → list_all field_byte (kind_text kind) ≡ true
unfolding kind_text
kind_field Process = refl
kind_field kind = refl

shown_field : (name : List ℕ) → list_all name_byte name ≡ true → list_all field_byte (shown_name name) ≡ true
unfolding shown_name
shown_field [] known = refl
shown_field (b ∷ bs) known = name_is_field (b ∷ bs) known

exit_fields : (kind : ExitKind) (exit : Exit) → list_all name_byte exit.category ≡ true → list_all (list_all field_byte) (exit_words kind exit) ≡ true
unfolding exit_words
exit_fields Kill exit known = rw (signed_field exit.reason) refl
exit_fields Terminate exit known = rw (signed_field exit.reason) refl
exit_fields Panic exit known = rw (name_is_field exit.category known, signed_field exit.reason) refl

-- the category of an exit is name text
abbrev pub HasCategory : Option Exit → Type 0
HasCategory exit = IfSome exit (λ exit. IsTrue (list_all name_byte exit.category))

life_fields : (kind : Kind) (exit : Option Exit) → HasCategory exit → list_all (list_all field_byte) (life_words kind exit) ≡ true
unfolding life_words
life_fields Thread None known = refl
life_fields Thread (Some exit) known = exit_fields exit.kind exit known
life_fields kind exit known = refl

row_fields : (row : FinalRow) → list_all name_byte row.name ≡ true → HasCategory row.exit → list_all (list_all field_byte) (final_words row) ≡ true
unfolding final_words
row_fields row name exit =
    rw (
      decimal_field row.object.0,
      kind_field row.kind,
      shown_field row.name name,
      decimal_field row.count,
      life_fields row.kind row.exit exit,
    ) refl

pub row_is_line : (row : FinalRow) → list_all name_byte row.name ≡ true → HasCategory row.exit → IsLine (final_line row)
unfolding final_line
row_is_line row name exit = record {
  words = joined 32 (final_words row);
  same = refl;
  one =
      free_by line_byte 10 (joined 32 (final_words row)) refl
      (joined_all line_byte 32 (final_words row) refl
      (words_are_lines (final_words row) (fields_are_words (final_words row) (row_fields row name exit))));
}
