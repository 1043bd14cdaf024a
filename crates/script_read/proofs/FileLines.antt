-- What the lines of a text declare, line by line.
use Rattle.std.proofs.Common.{◌≡◌, ℕ, ◌<◌, Bool, true, false, List, [], ◌∷◌, ◌++◌, append_assoc, length, get_or, refl, sym, subst, ap, ◌∙◌, arith, Option, Some, None}
use Rattle.std.proofs.lemmas.List.{append-nil}
use Rattle.std.specs.BTreeSet.{contains}
use Rattle.std.specs.Ordering.{nat_cmp}
use Rattle.std.specs.Prelude.{◌==◌, if◌then◌else◌, ◌||◌, ◌&&◌, not, codes}
use Rattle.std.specs.Str.{bytes_eq}
use Rattle.script_read.specs.FileNames.{Knows, declared_by, has_name}
use Rattle.script_read.proofs.FileDeclares.{knows_more}
use Rattle.script_read.specs.declared.declarations.Declarations.{Declarations}
use Rattle.script_words.proofs.SourceLines.{begins_line}
use Rattle.script_words.proofs.Steps.{some_is}
use Rattle.script_types.specs.Names.{Declared, first_two, file_declares}
use Rattle.script_types.specs.SourceText.{text_lines, words_of, is_skipped}
use Rattle.std.proofs.Math.Bool.{and-false, or-false}
use Rattle.script_types.proofs.NameLaws.{two_first}

-- what one line declares
line_by : (line : List ℕ) (test : Bool) (found : Option Declared) → is_skipped (words_of line) ≡ test
    → found ≡ (if test then None else Some (first_two (words_of line)))
    → ((found ≡ None) → file_declares (line ∷ []) ≡ []) × ((two : Declared) → found ≡ Some two → file_declares (line ∷ []) ≡ two ∷ [])
line_by line true found e h = (λ none. rw e refl, λ two some. absurd (cc))
line_by line false found e h =
    (λ none. absurd (cc), λ two some. let same : first_two (words_of line) ≡ two = some_is (first_two (words_of line)) two (sym h ∙ some) in rw (e, same) refl)

line_none : (line : List ℕ) → declared_by (words_of line) ≡ None → file_declares (line ∷ []) ≡ []
line_none line h = (line_by line (is_skipped (words_of line)) None refl (sym h)).0 refl

line_some : (line : List ℕ) (two : Declared) → declared_by (words_of line) ≡ Some two → file_declares (line ∷ []) ≡ two ∷ []
line_some line two h = (line_by line (is_skipped (words_of line)) (Some two) refl (sym h)).1 two refl

-- a skipped line
pub added_none : (d : Declarations) (line : List ℕ) → declared_by (words_of line) ≡ None → (file : List Declared)
    → Knows d file → Knows d (file ++ file_declares (line ∷ []))
added_none d line h file knows =
    subst (λ (f : List Declared). Knows d f)
    (sym (ap (λ (more : List Declared). file ++ more) (line_none line h) ∙ append-nil file)) knows

-- a line whose first word declares nothing
none_of_all : (t k q d i r s : Bool) → (t || k || q || d || i || r || s) ≡ false
    → ((t || k || q) ≡ false) × (q ≡ false) × (d ≡ false) × (i ≡ false) × (r ≡ false) × (s ≡ false)
none_of_all false false false false false false false h = (refl, refl, refl, refl, refl, refl)
none_of_all _ _ _ _ _ _ _ h = absurd (cc)

pub added_nothing : (d : Declarations) (line first : List ℕ) (words : List (List ℕ)) → declared_by (words_of line) ≡ Some (first_two (first ∷ words))
    → (bytes_eq first (codes "thread") || bytes_eq first (codes "kthread") || bytes_eq first
    (codes "dfcq") || bytes_eq first (codes "dfc") || bytes_eq first (codes "idfc") || bytes_eq first
    (codes "irq") || bytes_eq first (codes "schedule")) ≡ false
    → (file : List Declared) → Knows d file → Knows d (file ++ file_declares (line ∷ []))
added_nothing d line first words told none file knows =
    let two : Declared = first_two (first ∷ words) in
    let n = none_of_all (bytes_eq first (codes "thread")) (bytes_eq first (codes "kthread"))
    (bytes_eq first (codes "dfcq")) (bytes_eq first (codes "dfc")) (bytes_eq first (codes "idfc"))
    (bytes_eq first (codes "irq")) (bytes_eq first (codes "schedule")) none in
    let irq : false ≡ (not d.scheduled && bytes_eq first (codes "irq")) = rw n.4 (sym (and-false (not d.scheduled))) in
    let schedule : d.scheduled ≡ (d.scheduled || bytes_eq first (codes "schedule")) = rw n.5 (sym (or-false d.scheduled)) in
    let more : Knows d (file ++ (first, two.1) ∷ []) =
    knows_more d d first two.1 false false false false false
    (sym n.0) (λ name. sym (or-false (has_name d.threads name))) (sym n.1) (λ name. sym (or-false (has_name d.queues name))) (sym n.2)
    (λ name. sym (or-false (has_name d.dfcs name))) (sym n.3) (λ name. sym (or-false (has_name d.idfcs name)))
    irq (λ k small. sym (or-false (contains nat_cmp d.irqs k))) schedule file knows in
    let same : file_declares (line ∷ []) ≡ (first, two.1) ∷ [] = line_some line two told ∙ ap (λ (f : List ℕ). (f, two.1) ∷ []) (two_first first words) in
    subst (λ (more : List Declared). Knows d (file ++ more)) (sym same) more

-- a line that begins with a byte with which no word begins that declares something
declared_first : (line : List ℕ) (first : List ℕ) (words : List (List ℕ)) (test : Bool) → words_of line ≡ first ∷ words
    → is_skipped (first ∷ words) ≡ test
    → declared_by (words_of line) ≡ (if test then None else Some (first_two (first ∷ words)))
declared_first line first words test is e = rw (is, e) refl

none_by : (d : Declarations) (line : List ℕ) (b : ℕ) (u : List ℕ) (words : List (List ℕ)) (test : Bool)
    → words_of line ≡ (b ∷ u) ∷ words → is_skipped ((b ∷ u) ∷ words) ≡ test
    → (b == 100) ≡ false → (b == 105) ≡ false → (b == 107) ≡ false → (b == 115) ≡ false → (b == 116) ≡ false
    → (file : List Declared) → Knows d file → Knows d (file ++ file_declares (line ∷ []))
none_by d line b u words true is e not_d not_i not_k not_s not_t = added_none d line (declared_first line (b ∷ u) words true is e)
none_by d line b u words false is e not_d not_i not_k not_s not_t =
    added_nothing d line (b ∷ u) words (declared_first line (b ∷ u) words false is e)
    (rw (not_d, not_i, not_k, not_s, not_t) refl)

none_of_six : (s d i k c t : Bool) → (s || d || i || k || c || t) ≡ false → (s ≡ false) × (d ≡ false) × (i ≡ false) × (k ≡ false) × (c ≡ false) × (t ≡ false)
none_of_six false false false false false false h = (refl, refl, refl, refl, refl, refl)
none_of_six _ _ _ _ _ _ h = absurd (cc)

pub none_from : (line : List ℕ) (b : ℕ) → 0 < length line → b ≡ get_or line 0 0 → (b == 32 || b == 100 || b == 105 || b == 107 || b == 115 || b == 116) ≡ false
    → (d : Declarations) (file : List Declared) → Knows d file → Knows d (file ++ file_declares (line ∷ []))
none_from [] b some is h d = absurd (omega arith)
none_from (x ∷ xs) b some is h d =
    let tests : (x == 32 || x == 100 || x == 105 || x == 107 || x == 115 || x == 116) ≡ false =
    subst (λ (y : ℕ). (y == 32 || y == 100 || y == 105 || y == 107 || y == 115 || y == 116) ≡ false) is h in
    let n = none_of_six (x == 32) (x == 100) (x == 105) (x == 107) (x == 115) (x == 116) tests in
    let words = begins_line x xs n.0 in
    none_by d (x ∷ xs) x words.0 words.1 (x == 35) words.2 refl n.1 n.2 n.3 n.4 n.5

-- a line whose first two words are told
pub added_two : (old new : Declarations) (line first rest second : List ℕ)
    → declared_by (words_of line) ≡ Some (first_two (first ∷ words_of rest))
    → ((f : List ℕ) → first_two (f ∷ words_of rest) ≡ (f, second))
    → ((file : List Declared) → Knows old file → Knows new (file ++ (first, second) ∷ [])) → (file : List Declared)
    → Knows old file → Knows new (file ++ file_declares (line ∷ []))
added_two old new line first rest second told is added file knows =
    subst (λ (more : List Declared). Knows new (file ++ more))
    (sym (line_some line (first_two (first ∷ words_of rest)) told ∙ ap (λ (two : Declared). two ∷ []) (is first)))
    (added file knows)

-- the first line, and the lines behind it
front_by : (line : List ℕ) (lines : List (List ℕ)) (test : Bool) → is_skipped (words_of line) ≡ test
    → file_declares (line ∷ lines) ≡ file_declares (line ∷ []) ++ file_declares lines
front_by line lines true e = rw e refl
front_by line lines false e = rw e refl

-- what a reader knows of the lines so far, of a whole file that has these lines behind them
pub record KnowsFront (d : Declarations) (rest whole : List Declared) : Type 0 where
  pub before : List Declared
  pub joined : before ++ rest ≡ whole
  pub knows : Knows d before

pub front_more : (old new : Declarations) (text line after : List ℕ) (whole : List Declared) → text_lines text ≡ line ∷ text_lines after
    → ((file : List Declared) → Knows old file → Knows new (file ++ file_declares (line ∷ [])))
    → KnowsFront old (file_declares (text_lines text)) whole → KnowsFront new (file_declares (text_lines after)) whole
front_more old new text line after whole cut more front =
    let first : file_declares (text_lines text) ≡ file_declares (line ∷ []) ++ file_declares (text_lines after) =
    ap file_declares cut ∙ front_by line (text_lines after) (is_skipped (words_of line)) refl in
    record {
      before = front.before ++ file_declares (line ∷ []);
      joined =
          append_assoc front.before (file_declares (line ∷ [])) (file_declares (text_lines after))
          ∙ ap (λ (ds : List Declared). front.before ++ ds) (sym first)
          ∙ front.joined;
      knows = more front.before front.knows;
    }

-- before the first line, and behind the last
pub front_start : (d : Declarations) (whole : List Declared) → Knows d [] → KnowsFront d whole whole
front_start d whole knows = record { before = []; joined = refl; knows = knows }

no_lines : (text : List ℕ) → length text ≡ 0 → text_lines text ≡ []
unfolding text_lines
no_lines [] h = refl
no_lines (b ∷ bs) h = absurd (omega arith)

pub front_end : (d : Declarations) (text : List ℕ) (whole : List Declared) → length text ≡ 0
    → KnowsFront d (file_declares (text_lines text)) whole → Knows d whole
front_end d text whole none front =
    let all : front.before ≡ whole = sym (append-nil front.before)
    ∙ ap (λ (ls : List (List ℕ)). front.before ++ file_declares ls) (sym (no_lines text none)) ∙ front.joined in
    subst (λ (file : List Declared). Knows d file) all front.knows
