-- Lines and their words, for every form: words that have their number, their forms and their ranges are those of the line that they are,
-- and the words of a line in range have them, and are that line.
use Rattle.std.proofs.Common.{◌≡◌, ℕ, ◌+◌, ◌≤◌, Bool, true, false, List, [], ◌∷◌, ◌++◌, length, length-append, drop, zero, suc, refl, sym, subst, ap, ◌∙◌, arith, Option, Some, None}
use Rattle.std.proofs.Math.Seq.{drop-append_seam}
use Rattle.std.proofs.lemmas.List.{append-nil}
use Rattle.std.proofs.lemmas.Bool.{eqb-true, leb-true, le-leb}
use Rattle.std.proofs.lemmas.Bool.Decides.{nat_tests}
use Rattle.std.specs.List.{list_all}
use Rattle.std.specs.Prelude.{◌==◌, ◌&&◌, codes}
use Rattle.script_words.specs.LineAt.{value_of, values_at, body_in, body_at, line_as, line_at}
use Rattle.script_words.specs.LineSigns.{word_at, second_of, body_part, body_passes, is_counted_with, is_counted_as, is_counted, all_pass_as, have_forms, are_in_range}
use Rattle.script_words.specs.Signs.{each_passes, has_form, is_in_range}
use Rattle.script_words.proofs.BodiesAgain.{BodyTaken, body_taken, body_again}
use Rattle.script_words.proofs.OperandsAgain.{is_small, taken, again}
use Rattle.script_words.proofs.Steps.{both}
use Rattle.script_words.proofs.Tested.{next_word}
use Rattle.script_types.specs.Context.{kind_of}
use Rattle.script_types.specs.Forms.{instr_operands, operands_of, body_of, instr_of, line_of, form_of}
use Rattle.script_types.specs.Keywords.{keyword_text, keyword_of, keyword_kind}
use Rattle.script_types.specs.Operands.{Value, Values, value_word, value_words, is_value, are_values}
use Rattle.script_types.specs.Ranges.{is_body, is_source_line}
use Rattle.script_types.specs.SourceWords.{op_words, body_words, source_words}
use Rattle.script_types.specs.declared.declaration.Op.{Op}
use Rattle.script_types.specs.declared.declaration.Op.TheVariants as op
use Rattle.script_types.specs.declared.instruction.Instr.{Instr}
use Rattle.script_types.specs.declared.instruction.Instr.TheVariants as instr
use Rattle.script_types.specs.declared.keyword.Keyword.{Keyword}
use Rattle.script_types.specs.declared.keyword.Keyword.TheVariants as key
use Rattle.script_types.specs.declared.operand.BodyKind.{BodyKind}
use Rattle.script_types.specs.declared.operand.Operand.{Operand}
use Rattle.script_types.specs.declared.source_line.SourceLine.{SourceLine}
use Rattle.script_types.specs.declared.source_line.SourceLine.TheVariants as line
use Rattle.sym_base.specs.WordText.{word_text}
use Rattle.sym_base.specs.declared.word.Word.{Word}
use Rattle.sym_base.specs.declared.word.Word.TheVariants as word

-- each word is found among the words that begin a line
instr_word_again : (w : Word) → keyword_of (word_text w) ≡ Some (key.Instr w)
unfolding keyword_of word_text
instr_word_again word.Create = refl
instr_word_again _ = refl

pub keyword_again : (k : Keyword) → keyword_of (keyword_text k) ≡ Some k
unfolding keyword_of word_text
keyword_again (key.Instr w) = instr_word_again w
keyword_again key.Eka2 = refl
keyword_again _ = refl

-- the numbers of every form are small
instr_small : (second : Bool) (w : Word) → list_all is_small (instr_operands w second) ≡ true
instr_small true word.Create = refl
instr_small false word.Create = refl
instr_small second _ = refl

form_small : (second : Bool) (k : Keyword) → list_all is_small (operands_of k second) ≡ true
form_small true (key.Instr w) = instr_small true w
form_small false (key.Instr w) = instr_small false w
form_small _ _ = refl

-- the table and its inverse: the words of the line of a form, its range, and its kind
kept : Option BodyKind → List Op → List Op
kept None ops = []
kept (Some kind) ops = ops

pub instr_words : (second : Bool) (w : Word) (values : Values (instr_operands w second))
    → source_words (line.Instr (instr_of w second values))
    ≡ word_text w ∷ (value_words (instr_operands w second) values ++ [])
instr_words true word.Create values = refl
instr_words false word.Create values = refl
instr_words second _ values = refl

form_words : (second : Bool) (k : Keyword) (values : Values (operands_of k second)) (ops : List Op)
    → source_words (line_of k second values ops)
    ≡ keyword_text k ∷ (value_words (operands_of k second) values ++ body_words (kept (body_of k second) ops))
unfolding kept
form_words true (key.Instr w) values ops = instr_words true w values
form_words false (key.Instr w) values ops = instr_words false w values
form_words _ _ values ops = refl

instr_range : (second : Bool) (w : Word) (values : Values (instr_operands w second))
    → is_source_line (line.Instr (instr_of w second values)) ≡ (are_values (instr_operands w second) values && true)
instr_range true word.Create values = refl
instr_range false word.Create values = refl
instr_range second _ values = refl

form_range : (second : Bool) (k : Keyword) (values : Values (operands_of k second)) (ops : List Op)
    → is_source_line (line_of k second values ops)
    ≡ (are_values (operands_of k second) values && is_body (body_of k second) (kept (body_of k second) ops))
unfolding kept
form_range true (key.Instr w) values ops = instr_range true w values
form_range false (key.Instr w) values ops = instr_range false w values
form_range _ _ values ops = refl

form_kind : (second : Bool) (k : Keyword) (values : Values (operands_of k second)) (ops : List Op)
    → kind_of (line_of k second values ops) ≡ keyword_kind second k
form_kind true key.Kthread values ops = refl
form_kind false key.Kthread values ops = refl
form_kind _ _ values ops = refl

second_kind : (scheduled : Bool) (k : Keyword) (words : List (List ℕ)) → keyword_kind (second_of scheduled k words) k ≡ keyword_kind scheduled k
second_kind scheduled key.Eka2 words = refl
second_kind scheduled _ words = refl

-- the kind of the line that words are is that of their first word
pub kind_at : (scheduled : Bool) (k : Keyword) (words : List (List ℕ)) → kind_of (line_at scheduled k words) ≡ keyword_kind scheduled k
unfolding line_as
kind_at scheduled k words = form_kind (second_of scheduled k words) k _ _ ∙ second_kind scheduled k words

instr_back : (what : Instr)
    → line_of (form_of (line.Instr what)).keyword (form_of (line.Instr what)).second (form_of (line.Instr what)).values
    (form_of (line.Instr what)).body ≡ line.Instr what
instr_back instr.Enter = refl
instr_back _ = refl

form_back : (l : SourceLine) → line_of (form_of l).keyword (form_of l).second (form_of l).values (form_of l).body ≡ l
form_back (line.Instr what) = instr_back what
form_back (line.KernelThread name p true) = refl
form_back (line.Thread name p true) = refl
form_back _ = refl

-- words that have their forms and ranges
abbrev behind : List Operand → ℕ → ℕ
behind [] i = i
behind (what ∷ operands) i = behind operands (suc i)

behind_is : (operands : List Operand) (i : ℕ) → behind operands i ≡ i + length operands
behind_is [] i = omega arith
behind_is (what ∷ operands) i = let later = behind_is operands (suc i) in omega arith

next_drop : (test : Operand → List ℕ → Bool) (what : Operand) (operands : List Operand) (words : List (List ℕ)) (i : ℕ)
    → each_passes test (what ∷ operands) (drop i words) ≡ true → drop i words ≡ word_at words i ∷ drop (suc i) words
next_drop test what operands [] zero h = absurd (cc)
next_drop test what operands [] (suc i) h = absurd (cc)
next_drop test what operands (w ∷ ws) zero h = refl
next_drop test what operands (w ∷ ws) (suc i) h = next_drop test what operands ws i h

record AreTaken (operands : List Operand) (words : List (List ℕ)) (i : ℕ) : Type 0 where
  same : drop i words ≡ value_words operands (values_at operands words i) ++ drop (behind operands i) words
  range : are_values operands (values_at operands words i) ≡ true

values_taken : (operands : List Operand) (words : List (List ℕ)) (i : ℕ) → list_all is_small operands ≡ true
    → each_passes has_form operands (drop i words) ≡ true → each_passes is_in_range operands (drop i words) ≡ true
    → AreTaken operands words i
values_taken [] words i fits form range = record { same = refl; range = refl }
values_taken (what ∷ operands) words i fits form range =
    let small = both (is_small what) (list_all is_small operands) fits in
    let f = next_word has_form what operands words i form in
    let r = next_word is_in_range what operands words i range in
    let t = taken what (word_at words i) small.0 f.0 r.0 in
    let later = values_taken operands words (suc i) small.1 f.1 r.1 in
    record {
      same =
          next_drop has_form what operands words i form
          ∙ ap (λ (w : List ℕ). w ∷ drop (suc i) words) t.same
          ∙ ap (λ (ws : List (List ℕ)). value_word what (value_of what (word_at words i)) ∷ ws) later.same;
      range = rw (t.range, later.range) refl;
    }

front : (words : List (List ℕ)) → 1 ≤ length words → words ≡ word_at words 0 ∷ drop 1 words
front [] some = absurd (omega arith)
front (w ∷ ws) some = refl

drop_all : (n : ℕ) (words : List (List ℕ)) → length words ≤ n → drop n words ≡ []
drop_all zero [] h = refl
drop_all (suc n) [] h = refl
drop_all zero (w ∷ ws) h = absurd (omega arith)
drop_all (suc n) (w ∷ ws) h = drop_all n ws (omega arith)

some_words : (kind : Option BodyKind) (operands : List Operand) (words : List (List ℕ)) → is_counted_with kind operands words ≡ true → 1 ≤ length words
some_words None operands words h = let size = eqb-true (length words) (suc (length operands)) h in omega arith
some_words (Some kind) operands words h = let size = leb-true (suc (suc (length operands))) (length words) h in omega arith

kept_body : (kind : Option BodyKind) (words : List (List ℕ)) → kept kind (body_in kind words) ≡ body_in kind words
unfolding kept
kept_body None words = refl
kept_body (Some kind) words = refl

body_part_taken : (kind : Option BodyKind) (operands : List Operand) (words : List (List ℕ))
    → is_counted_with kind operands words ≡ true → body_passes has_form kind (body_part operands words) ≡ true
    → body_passes is_in_range kind (body_part operands words) ≡ true → BodyTaken kind (body_part operands words)
body_part_taken None operands words count form range =
    let size = eqb-true (length words) (suc (length operands)) count in
    record { same = drop_all (suc (length operands)) words (omega arith); range = refl }
body_part_taken (Some kind) operands words count form range = body_taken kind (body_part operands words) form range

-- the words of a line that have their forms and ranges are those of the line that they are, and it is in range
pub record LineTaken (scheduled : Bool) (k : Keyword) (words : List (List ℕ)) : Type 0 where
  pub same : words ≡ source_words (line_at scheduled k words)
  pub range : is_source_line (line_at scheduled k words) ≡ true

pub takes : (scheduled : Bool) (k : Keyword) (words : List (List ℕ)) → is_counted scheduled k words ≡ true
    → word_at words 0 ≡ keyword_text k → have_forms scheduled k words ≡ true → are_in_range scheduled k words ≡ true
    → LineTaken scheduled k words
unfolding line_as
takes scheduled k words count first forms ranges =
    let second = second_of scheduled k words in
    let operands = operands_of k second in
    let kind = body_of k second in
    let part = body_part operands words in
    let values = values_at operands words 1 in
    let f = both (each_passes has_form operands (drop 1 words)) (body_passes has_form kind part) forms in
    let r = both (each_passes is_in_range operands (drop 1 words)) (body_passes is_in_range kind part) ranges in
    let t = values_taken operands words 1 (form_small second k) f.0 r.0 in
    let b = body_part_taken kind operands words count f.1 r.1 in
    let place : behind operands 1 ≡ suc (length operands) = let is = behind_is operands 1 in omega arith in
    let same = kept_body kind part in
    record {
      same = front words (some_words kind operands words count) ∙ ap (λ (w : List ℕ). w ∷ drop 1 words) first
          ∙ ap (λ (ws : List (List ℕ)). keyword_text k ∷ ws)
          (t.same ∙ ap (λ (n : ℕ). value_words operands values ++ drop n words) place
          ∙ ap (λ (ws : List (List ℕ)). value_words operands values ++ ws) (b.same ∙ ap body_words (sym same)))
          ∙ sym (form_words second k values (body_in kind part));
      range = form_range second k values (body_in kind part) ∙ rw (t.range, same, b.range) refl;
    }

-- the words of operands in range
pub values_size : (operands : List Operand) (values : Values operands) → length (value_words operands values) ≡ length operands
values_size [] values = refl
values_size (what ∷ operands) values = ap suc (values_size operands values.1)

forms_pass : (operands : List Operand) (values : Values operands) (tail : List (List ℕ))
    → list_all is_small operands ≡ true → are_values operands values ≡ true
    → (each_passes has_form operands (value_words operands values ++ tail) ≡ true)
    × (each_passes is_in_range operands (value_words operands values ++ tail) ≡ true)
forms_pass [] values tail fits h = (refl, refl)
forms_pass (what ∷ operands) values tail fits h =
    let small = both (is_small what) (list_all is_small operands) fits in
    let parts = both (is_value what values.0) (are_values operands values.1) h in
    let a = again what values.0 small.0 parts.0 in
    let later = forms_pass operands values.1 tail small.1 parts.1 in
    (rw (a.form, later.0) refl, rw (a.range, later.1) refl)

here : (words rest : List (List ℕ)) (w : List ℕ) (i : ℕ) → drop i words ≡ w ∷ rest → (word_at words i ≡ w) × (drop (suc i) words ≡ rest)
here [] rest w zero h = absurd (cc)
here [] rest w (suc i) h = absurd (cc)
here (x ∷ xs) rest w zero h = (cc, cc)
here (x ∷ xs) rest w (suc i) h = here xs rest w i h

values_again : (operands : List Operand) (values : Values operands) (words tail : List (List ℕ)) (i : ℕ)
    → list_all is_small operands ≡ true → are_values operands values ≡ true
    → drop i words ≡ value_words operands values ++ tail → values_at operands words i ≡ values
values_again [] values words tail i fits h e = refl
values_again (what ∷ operands) values words tail i fits h e =
    let small = both (is_small what) (list_all is_small operands) fits in
    let parts = both (is_value what values.0) (are_values operands values.1) h in
    let a = again what values.0 small.0 parts.0 in
    let at = here words (value_words operands values.1 ++ tail) (value_word what values.0) i e in
    let later = values_again operands values.1 words tail (suc i) small.1 parts.1 at.1 in
    let first : value_of what (word_at words i) ≡ values.0 = ap (value_of what) at.0 ∙ a.value in
    let one : Value what → Values operands → Values (what ∷ operands) = λ v vs. (v, vs) in
    ap (λ (v : Value what). one v (values_at operands words (suc i))) first ∙ ap (λ (vs : Values operands). one values.0 vs) later

-- which form the words of a line are
instr_second : (scheduled : Bool) (what : Instr)
    → second_of scheduled (form_of (line.Instr what)).keyword (source_words (line.Instr what))
    ≡ (form_of (line.Instr what)).second
instr_second scheduled instr.Enter = refl
instr_second scheduled _ = refl

second_again : (scheduled : Bool) (l : SourceLine) → keyword_kind scheduled (form_of l).keyword ≡ kind_of l
    → second_of scheduled (form_of l).keyword (source_words l) ≡ (form_of l).second
second_again true (line.IrqBody k body) e = absurd (cc)
second_again false (line.IrqSlot k) e = absurd (cc)
second_again scheduled (line.KernelThread name p true) e = refl
second_again scheduled (line.Thread name p true) e = refl
second_again scheduled (line.Instr what) e = instr_second scheduled what
second_again _ _ e = refl

op_some : (what : Op) (rest : List (List ℕ)) → 1 ≤ length (op_words what ++ rest)
op_some (op.Idfc name) rest = omega arith
op_some _ rest = omega arith

same_size : (n : ℕ) → (n == n) ≡ true
same_size n = grind (arith, nat_tests)

body_some : (kind : BodyKind) (ops : List Op) → is_body (Some kind) ops ≡ true → 1 ≤ length (body_words ops)
body_some kind [] h = absurd (cc)
body_some kind (what ∷ []) h = subst (λ (ws : List (List ℕ)). 1 ≤ length ws) (append-nil (op_words what)) (op_some what [])
body_some kind (what ∷ next ∷ ops) h = op_some what (codes ";" ∷ body_words (next ∷ ops))

no_body : (ops : List Op) → is_body None ops ≡ true → ops ≡ []
no_body [] h = refl
no_body (what ∷ ops) h = absurd (cc)

counted : (kind : Option BodyKind) (operands : List Operand) (values : Values operands) (first : List ℕ) (ops : List Op)
    → is_body kind ops ≡ true
    → is_counted_with kind operands (first ∷ (value_words operands values ++ body_words ops)) ≡ true
counted None operands values first ops h =
    let none = no_body ops h in
    let size = values_size operands values in
    let joined = length-append (value_words operands values) (body_words ops) in
    let empty : length (body_words ops) ≡ 0 = ap (λ (os : List Op). length (body_words os)) none in
    let whole : length (first ∷ (value_words operands values ++ body_words ops)) ≡ suc (length operands) = omega arith in
    rw whole (same_size (suc (length operands)))
counted (Some kind) operands values first ops h =
    let some = body_some kind ops h in
    let size = values_size operands values in
    let joined = length-append (value_words operands values) (body_words ops) in
    le-leb (suc (suc (length operands))) (length (first ∷ (value_words operands values ++ body_words ops))) (omega arith)

-- the words of a line in range begin with this one, have their number, forms and ranges, and are the line
pub record LineAgain (scheduled : Bool) (l : SourceLine) : Type 0 where
  pub keyword : Keyword
  pub first : word_at (source_words l) 0 ≡ keyword_text keyword
  pub counted : is_counted scheduled keyword (source_words l) ≡ true
  pub forms : have_forms scheduled keyword (source_words l) ≡ true
  pub ranges : are_in_range scheduled keyword (source_words l) ≡ true
  pub same : line_at scheduled keyword (source_words l) ≡ l

pub line_again : (scheduled : Bool) (l : SourceLine) → is_source_line l ≡ true → keyword_kind scheduled (form_of l).keyword ≡ kind_of l → LineAgain scheduled l
unfolding line_as
line_again scheduled l v e =
    let f = form_of l in
    let words = source_words l in
    let operands = operands_of f.keyword f.second in
    let kind = body_of f.keyword f.second in
    let tail = body_words f.body in
    let parts = both (are_values operands f.values) (is_body kind f.body) v in
    let second = second_again scheduled l e in
    let p = forms_pass operands f.values tail (form_small f.second f.keyword) parts.0 in
    let b = body_again kind f.body parts.1 in
    let size = values_size operands f.values in
    let part : body_part operands words ≡ tail = ap (λ (n : ℕ). drop n (value_words operands f.values ++ tail))
    (sym size) ∙ drop-append_seam (value_words operands f.values) tail in
    let form : all_pass_as has_form f.keyword f.second words ≡ true = rw (p.0, part, b.form) refl in
    let range : all_pass_as is_in_range f.keyword f.second words ≡ true = rw (p.1, part, b.range) refl in
    let values = values_again operands f.values words tail 1 (form_small f.second f.keyword) parts.0 refl in
    let ops : body_at f.keyword f.second words ≡ f.body = ap (body_in kind) part ∙ b.value in
    record {
      keyword = f.keyword;
      first = refl;
      counted = ap (λ (s : Bool). is_counted_as f.keyword s words) second ∙ counted kind operands f.values (keyword_text f.keyword) f.body parts.1;
      forms = ap (λ (s : Bool). all_pass_as has_form f.keyword s words) second ∙ form;
      ranges = ap (λ (s : Bool). all_pass_as is_in_range f.keyword s words) second ∙ range;
      same =
          ap (λ (s : Bool). line_as f.keyword s words) second
          ∙ ap (λ (vs : Values operands). line_of f.keyword f.second vs (body_at f.keyword f.second words)) values
          ∙ ap (line_of f.keyword f.second f.values) ops
          ∙ form_back l;
    }
