-- A text is read exactly where it is accepted.
use Rattle.std.proofs.Common.{◌≡◌, ℕ, Bool, true, false, List, [], ◌∷◌, map, refl, sym, subst, ap, ◌∙◌, arith, Option, Some, None, inl, inr}
use Rattle.std.specs.List.{AllByRecursion}
use Rattle.std.proofs.lemmas.Bool.Decides.{nat_tests}
use Rattle.std.specs.Prelude.{◌⊎◌, nat_le}
use Rattle.std.specs.Str.{bytes_eq}
use Rattle.script_read.specs.FirstBad.{HasNone, Make, IsRead, IsFirstBad}
use Rattle.script_types.specs.Keywords.{keyword_of, keyword_text, keyword_kind, keywords}
use Rattle.script_words.specs.LineAt.{line_at}
use Rattle.script_words.specs.LineSigns.{word_at, is_counted, have_forms, are_in_range}
use Rattle.script_read.specs.Reasons.{has, reasons, keyword_in, is_scheduled, after_text}
use Rattle.script_types.specs.declared.keyword.Keyword.{Keyword}
use Rattle.script_read.specs.declared.reason.Reason.{Reason}
use Rattle.script_read.specs.declared.reason.Reason.TheVariants as reason
use Rattle.script_read.proofs.FirstBadLaws.{find_is, read_or_bad, read_not_bad, one_script_read}
use Rattle.script_words.proofs.FormsAgain.{kind_at, takes, line_again, keyword_again}
use Rattle.script_words.proofs.Steps.{by_test, same_bytes}
use Rattle.script_types.specs.Context.{start, after, after_all, may_stand, rank_or, is_in_order, is_ended, kind_of}
use Rattle.script_types.specs.Forms.{form_of}
use Rattle.script_types.specs.declared.context.Context.{Context}
use Rattle.script_types.specs.Names.{Declared, file_declares, is_known, is_new}
use Rattle.script_grammar.specs.Accepted.{IsAccepted}
use Rattle.script_types.specs.Source.{IsClean}
use Rattle.script_types.specs.SourceText.{text_lines, words_of, told_words, is_skipped, is_printed, is_short}
use Rattle.script_types.specs.SourceWords.{source_words}
use Rattle.script_types.specs.Stands.{Stands, AllStand, is_right_kind, is_within}
use Rattle.script_types.specs.declared.instruction.Instr.{Instr}
use Rattle.script_types.specs.declared.instruction.Instr.TheVariants as instr
use Rattle.script_types.specs.declared.keyword.Keyword.TheVariants as key
use Rattle.script_types.specs.declared.script.Script.{Script}
use Rattle.script_types.specs.declared.source_line.LineKind.TheVariants as of
use Rattle.script_types.specs.declared.source_line.SourceLine.{SourceLine}
use Rattle.script_types.specs.declared.source_line.SourceLine.TheVariants as line
use Rattle.std.proofs.lemmas.Bool.{not-false, not_from_true}

keyword_takes : (word : List ℕ) (k : Keyword) → keyword_of word ≡ Some k → word ≡ keyword_text k
unfolding keyword_of
keyword_takes word k h = let f = find_is (λ (k : Keyword). bytes_eq word (keyword_text k)) keywords k h in same_bytes word (keyword_text k) f.passes

-- a line has none of the reasons, each by its name
record HasNoReason (file : List Declared) (c : Context) (text : List ℕ) : Type 0 where
  byte : has reason.Byte file c text ≡ false
  long : has reason.Long file c text ≡ false
  word : has reason.Word file c text ≡ false
  order : has reason.Order file c text ≡ false
  count : has reason.Count file c text ≡ false
  form : has reason.Form file c text ≡ false
  range : has reason.Range file c text ≡ false
  kind : has reason.Kind file c text ≡ false
  twice : has reason.Twice file c text ≡ false
  unknown : has reason.Unknown file c text ≡ false
  limit : has reason.Limit file c text ≡ false
  end : has reason.End file c text ≡ false

named : (file : List Declared) (c : Context) (text : List ℕ) → HasNone reasons file c text → HasNoReason file c text
named file c text (byte, (long, (word, (order, (count, (form, (range, (kind, (twice, (unknown, (limit, (end, others)))))))))))) =
    record {
      byte = byte;
      long = long;
      word = word;
      order = order;
      count = count;
      form = form;
      range = range;
      kind = kind;
      twice = twice;
      unknown = unknown;
      limit = limit;
      end = end;
    }

-- a line of which no reason holds has none of them
none_by : (others : List Reason) (file : List Declared) (c : Context) (text : List ℕ)
    → ((why : Reason) → has why file c text ≡ false) → HasNone others file c text
none_by [] file c text none = tt
none_by (why ∷ others) file c text none = (none why, none_by others file c text none)

-- a text that isn't skipped and is a line that may stand here
record IsLine (file : List Declared) (c : Context) (text : List ℕ) : Type 0 where
  line : SourceLine
  spelled : words_of text ≡ source_words line
  stands : Stands file c line
  makes : after_text c text ≡ after c line

line_by : (file : List Declared) (c : Context) (text : List ℕ) (k : Keyword) → is_skipped (words_of text) ≡ false
    → keyword_in (words_of text) ≡ Some k → HasNone reasons file c text → IsLine file c text
unfolding after_text
line_by file c text k told e none =
    let s : Bool = is_scheduled c in
    let words : List (List ℕ) = words_of text in
    let l : SourceLine = line_at s k words in
    let no = named file c text none in
    let order : is_in_order c (keyword_kind s k) ≡ true = not-false (is_in_order c (keyword_kind s k)) (rw (told, e) at no.order) in
    let count : is_counted s k words ≡ true = not-false (is_counted s k words) (rw (told, e) at no.count) in
    let forms : have_forms s k words ≡ true = not-false (have_forms s k words) (rw (told, e) at no.form) in
    let ranges : are_in_range s k words ≡ true = not-false (are_in_range s k words) (rw (told, e) at no.range) in
    let right : is_right_kind c l ≡ true = not-false (is_right_kind c l) (rw (told, e) at no.kind) in
    let new : is_new c l ≡ true = not-false (is_new c l) (rw (told, e) at no.twice) in
    let known : is_known file c l ≡ true = not-false (is_known file c l) (rw (told, e) at no.unknown) in
    let within : is_within c l ≡ true = not-false (is_within c l) (rw (told, e) at no.limit) in
    let t = takes s k words count (keyword_takes (word_at words 0) k e) forms ranges in
    record {
      line = l;
      spelled = t.same;
      stands = record { order = ap (is_in_order c) (kind_at s k words) ∙ order; ranges = t.range; kind = right; new = new; known = known; within = within };
      makes = rw (told, e) refl;
    }

line_of_text : (file : List Declared) (c : Context) (text : List ℕ) (found : Option Keyword)
    → keyword_in (words_of text) ≡ found → is_skipped (words_of text) ≡ false → HasNone reasons file c text
    → IsLine file c text
line_of_text file c text None e told none =
    let bad : true ≡ false = rw (told, e) at (named file c text none).word in
    absurd (cc)
line_of_text file c text (Some k) e told none = line_by file c text k told e none

clean_text : (file : List Declared) (c : Context) (text : List ℕ) → HasNone reasons file c text → IsClean text
clean_text file c text none = record {
  printed = not-false (is_printed text) (named file c text none).byte;
  short = not-false (is_short text) (named file c text none).long;
}

-- the lines of texts
record HasLines (file : List Declared) (c : Context) (texts : List (List ℕ)) (made : Context) : Type 0 where
  lines : List SourceLine
  clean : AllByRecursion IsClean texts
  spelled : told_words texts ≡ map source_words lines
  stand : AllStand file c lines
  makes : after_all c lines ≡ made

told_front : (text : List ℕ) (texts : List (List ℕ)) → is_skipped (words_of text) ≡ false → told_words (text ∷ texts) ≡ words_of text ∷ told_words texts
told_front text texts h = rw h refl

skipped_front : (text : List ℕ) (texts : List (List ℕ)) → is_skipped (words_of text) ≡ true → told_words (text ∷ texts) ≡ told_words texts
skipped_front text texts h = rw h refl

both_same : {A : Type 0} (x y : A) (xs ys : List A) → x ≡ y → xs ≡ ys → x ∷ xs ≡ y ∷ ys
both_same x y xs ys h more = ap (λ z. z ∷ xs) h ∙ ap (λ zs. y ∷ zs) more

skipped_stays : (c : Context) (text : List ℕ) → is_skipped (words_of text) ≡ true → after_text c text ≡ c
unfolding after_text
skipped_stays c text h = rw h refl

make_lines : (file : List Declared) (c : Context) (texts : List (List ℕ)) (made : Context) → Make file c texts made → HasLines file c texts made
make_lines file c [] made good = record { lines = []; clean = tt; spelled = refl; stand = tt; makes = sym good }
make_lines file c (text ∷ texts) made good =
    let clean = clean_text file c text good.0 in
    by_test {P = HasLines file c (text ∷ texts) made} (is_skipped (words_of text))
    (λ skipped.
    let same = skipped_stays c text skipped in
    let h = make_lines file c texts made (subst (λ (d : Context). Make file d texts made) same good.1) in
    record { lines = h.lines; clean = (clean, h.clean); spelled = rw skipped h.spelled; stand = h.stand; makes = h.makes })
    (λ told.
    let l = line_of_text file c text (keyword_in (words_of text)) refl told good.0 in
    let h = make_lines file (after c l.line) texts made (subst (λ (d : Context). Make file d texts made) l.makes good.1) in
    let spelled = l.spelled in
    let others = h.spelled in
    record {
      lines = l.line ∷ h.lines;
      clean = (clean, h.clean);
      spelled = told_front text texts told ∙ both_same (words_of text) (source_words l.line) (told_words texts)
          (map source_words h.lines) spelled others;
      stand = (l.stands, h.stand);
      makes = h.makes;
    })

-- what is read is accepted
pub read_is_accepted : (bytes : List ℕ) (script : Script) → IsRead bytes script → IsAccepted bytes script
read_is_accepted bytes script r =
    let h = make_lines (file_declares (text_lines bytes)) start (text_lines bytes) r.made r.good in
    record {
      lines = h.lines;
      are = record { clean = h.clean; spelled = h.spelled; stand = h.stand };
      ended = ap is_ended h.makes ∙ r.ended;
      same = r.same ∙ ap (λ (c : Context). c.script) (sym h.makes);
    }

-- a skipped text has no reason
skipped_has : (file : List Declared) (c : Context) (text : List ℕ) → IsClean text → is_skipped (words_of text) ≡ true
    → (why : Reason) → has why file c text ≡ false
skipped_has file c text clean h reason.Byte = not_from_true (is_printed text) clean.printed
skipped_has file c text clean h reason.Long = not_from_true (is_short text) clean.short
skipped_has file c text clean h reason.End = refl
skipped_has file c text clean h _ = rw h refl

skipped_none : (file : List Declared) (c : Context) (text : List ℕ) → IsClean text → is_skipped (words_of text) ≡ true → HasNone reasons file c text
skipped_none file c text clean h = none_by reasons file c text (skipped_has file c text clean h)

-- A line's first word says its kind where it may stand: an interrupt's body stands before `schedule`, and its slot
-- behind.
body_before : (rank : Option ℕ) (awaits : Bool) → may_stand rank awaits of.IrqBody ≡ true → nat_le 9 (rank_or rank) ≡ false
body_before None awaits h = absurd (cc)
body_before (Some rank) true h = absurd (cc)
body_before (Some rank) false h = grind (arith, nat_tests)

slot_behind : (rank : Option ℕ) (awaits : Bool) → may_stand rank awaits of.Slot ≡ true → nat_le 9 (rank_or rank) ≡ true
slot_behind None awaits h = absurd (cc)
slot_behind (Some rank) true h = absurd (cc)
slot_behind (Some rank) false h = grind (arith, nat_tests)

instr_here : (scheduled : Bool) (what : Instr) → keyword_kind scheduled (form_of (line.Instr what)).keyword ≡ of.Instr
instr_here scheduled instr.Enter = refl
instr_here scheduled _ = refl

kind_here : (c : Context) (l : SourceLine) → is_in_order c (kind_of l) ≡ true → keyword_kind (is_scheduled c) (form_of l).keyword ≡ kind_of l
kind_here c (line.Instr what) h = instr_here (is_scheduled c) what
kind_here c (line.IrqBody k body) h = ap (λ (s : Bool). keyword_kind s key.Irq) (body_before c.rank c.awaits_thread h)
kind_here c (line.IrqSlot k) h = ap (λ (s : Bool). keyword_kind s key.Irq) (slot_behind c.rank c.awaits_thread h)
kind_here c (line.KernelThread name p true) h = refl
kind_here c (line.Thread name p true) h = refl
kind_here c _ h = refl

-- a line that may stand here has no reason
record IsGood (file : List Declared) (c : Context) (text : List ℕ) (l : SourceLine) : Type 0 where
  none : HasNone reasons file c text
  makes : after_text c text ≡ after c l

-- words pass each test, by the name of its reason
record PassEach (file : List Declared) (c : Context) (k : Keyword) (words : List (List ℕ)) : Type 0 where
  order : is_in_order c (keyword_kind (is_scheduled c) k) ≡ true
  count : is_counted (is_scheduled c) k words ≡ true
  form : have_forms (is_scheduled c) k words ≡ true
  range : are_in_range (is_scheduled c) k words ≡ true
  kind : is_right_kind c (line_at (is_scheduled c) k words) ≡ true
  twice : is_new c (line_at (is_scheduled c) k words) ≡ true
  unknown : is_known file c (line_at (is_scheduled c) k words) ≡ true
  limit : is_within c (line_at (is_scheduled c) k words) ≡ true

good_has : (file : List Declared) (c : Context) (text : List ℕ) (k : Keyword) → IsClean text
    → is_skipped (words_of text) ≡ false → keyword_in (words_of text) ≡ Some k → PassEach file c k (words_of text)
    → (why : Reason) → has why file c text ≡ false
good_has file c text k clean told e pass reason.Byte = not_from_true (is_printed text) clean.printed
good_has file c text k clean told e pass reason.Long = not_from_true (is_short text) clean.short
good_has file c text k clean told e pass reason.Word = rw (told, e) refl
good_has file c text k clean told e pass reason.Order = rw (told, e) (not_from_true _ pass.order)
good_has file c text k clean told e pass reason.Count = rw (told, e) (not_from_true _ pass.count)
good_has file c text k clean told e pass reason.Form = rw (told, e) (not_from_true _ pass.form)
good_has file c text k clean told e pass reason.Range = rw (told, e) (not_from_true _ pass.range)
good_has file c text k clean told e pass reason.Kind = rw (told, e) (not_from_true _ pass.kind)
good_has file c text k clean told e pass reason.Twice = rw (told, e) (not_from_true _ pass.twice)
good_has file c text k clean told e pass reason.Unknown = rw (told, e) (not_from_true _ pass.unknown)
good_has file c text k clean told e pass reason.Limit = rw (told, e) (not_from_true _ pass.limit)
good_has file c text k clean told e pass reason.End = refl

line_good : (file : List Declared) (c : Context) (text : List ℕ) (l : SourceLine) → IsClean text
    → is_skipped (words_of text) ≡ false → words_of text ≡ source_words l → Stands file c l → IsGood file c text l
unfolding after_text
line_good file c text l clean told spelled stands =
    let s : Bool = is_scheduled c in
    let words : List (List ℕ) = words_of text in
    let a = line_again s l stands.ranges (kind_here c l stands.order) in
    let k : Keyword = a.keyword in
    let e : keyword_in (words_of text) ≡ Some k = ap keyword_of (ap (λ (ws : List (List ℕ)). word_at ws 0) spelled ∙ a.first) ∙ keyword_again k in
    let here : line_at s k words ≡ l = ap (line_at s k) spelled ∙ a.same in
    let kind : keyword_kind s k ≡ kind_of l = sym (kind_at s k words) ∙ ap kind_of here in
    let pass : PassEach file c k words = record {
      order = ap (is_in_order c) kind ∙ stands.order;
      count = ap (is_counted s k) spelled ∙ a.counted;
      form = ap (have_forms s k) spelled ∙ a.forms;
      range = ap (are_in_range s k) spelled ∙ a.ranges;
      kind = ap (is_right_kind c) here ∙ stands.kind;
      twice = ap (is_new c) here ∙ stands.new;
      unknown = ap (is_known file c) here ∙ stands.known;
      limit = ap (is_within c) here ∙ stands.within;
    } in
    record {
      none = none_by reasons file c text (good_has file c text k clean told e pass);
      makes = let same : after_text c text ≡ after c (line_at s k words) = rw (told, e) refl in same ∙ ap (after c) here;
    }

-- the first words of lines
record AreFront (words : List (List ℕ)) (others : List (List (List ℕ))) (lines : List SourceLine) : Type 0 where
  line : SourceLine
  rest : List SourceLine
  are : lines ≡ line ∷ rest
  spelled : words ≡ source_words line
  later : others ≡ map source_words rest

front_of : (words : List (List ℕ)) (others : List (List (List ℕ))) (lines : List SourceLine)
    → words ∷ others ≡ map source_words lines → AreFront words others lines
front_of words others [] h = absurd (cc)
front_of words others (l ∷ ls) h = record { line = l; rest = ls; are = refl; spelled = cc; later = cc }

lines_make : (file : List Declared) (c : Context) (texts : List (List ℕ)) (lines : List SourceLine)
    → AllByRecursion IsClean texts → told_words texts ≡ map source_words lines → AllStand file c lines
    → Make file c texts (after_all c lines)
lines_make file c [] [] clean spelled stand = refl
lines_make file c [] (l ∷ ls) clean spelled stand = absurd (cc)
lines_make file c (text ∷ texts) lines clean spelled stand =
    by_test {P = Make file c (text ∷ texts) (after_all c lines)} (is_skipped (words_of text))
    (λ skipped.
    let later = lines_make file c texts lines clean.1 (sym (skipped_front text texts skipped) ∙ spelled) stand in
    (skipped_none file c text clean.0 skipped, subst (λ (d : Context). Make file d texts (after_all c lines)) (sym (skipped_stays c text skipped)) later))
    (λ told.
    let f = front_of (words_of text) (told_words texts) lines (sym (told_front text texts told) ∙ spelled) in
    let stand_here : AllStand file c (f.line ∷ f.rest) = subst (λ (ls : List SourceLine). AllStand file c ls) f.are stand in
    let g = line_good file c text f.line clean.0 told f.spelled stand_here.0 in
    let later = lines_make file (after c f.line) texts f.rest clean.1 f.later stand_here.1 in
    let whole : Make file c (text ∷ texts) (after_all c (f.line ∷ f.rest)) =
    (g.none, subst (λ (d : Context). Make file d texts (after_all (after c f.line) f.rest)) (sym g.makes) later) in
    subst (λ (ls : List SourceLine). Make file c (text ∷ texts) (after_all c ls)) (sym f.are) whole)

-- what is accepted is read
pub accepted_is_read : (bytes : List ℕ) (script : Script) → IsAccepted bytes script → IsRead bytes script
accepted_is_read bytes script a = record {
  made = after_all start a.lines;
  good = lines_make (file_declares (text_lines bytes)) start (text_lines bytes) a.lines a.are.clean a.are.spelled a.are.stand;
  ended = a.ended;
  same = a.same;
}

-- Each list of bytes is accepted as one script, or has one first bad line with one reason, and not both.
pub accepted_or_bad : (bytes : List ℕ) → ((script : Script) × IsAccepted bytes script) ⊎ ((number : ℕ) × (why : Reason) × IsFirstBad bytes number why)
accepted_or_bad bytes = elim (read_or_bad bytes) [ inl r ↦ inl (r.0, read_is_accepted bytes r.0 r.1) | inr b ↦ inr b ]

pub accepted_not_bad : (bytes : List ℕ) (script : Script) (number : ℕ) (why : Reason) → IsAccepted bytes script → IsFirstBad bytes number why → ⊥
accepted_not_bad bytes script number why a b = read_not_bad bytes script number why (accepted_is_read bytes script a) b

pub one_accepted : (bytes : List ℕ) (one other : Script) → IsAccepted bytes one → IsAccepted bytes other → one ≡ other
one_accepted bytes one other a b = one_script_read bytes one other (accepted_is_read bytes one a) (accepted_is_read bytes other b)
