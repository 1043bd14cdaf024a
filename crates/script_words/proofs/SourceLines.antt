-- A text is cut into lines, and a line into words.
use Rattle.std.proofs.lemmas.List.{append-nil}
use Rattle.std.proofs.Common.{◌≡◌, ℕ, ◌<◌, Bool, true, false, List, [], ◌∷◌, ◌++◌, append_assoc, length, refl, sym, ap, ◌∙◌, arith, Option, Some, None}
use Rattle.std.specs.List.{filter}
use Rattle.std.specs.Prelude.{◌==◌, not, option_map, if◌then◌else◌}
use Rattle.script_words.specs.Fields.{cut_of}
use Rattle.script_words.specs.Pieces.{one_word}
use Rattle.script_words.proofs.Steps.{map_some}
use Rattle.script_types.specs.SourceText.{split, in_first, without_empty_end, text_lines, words_of, is_empty}
use Rattle.script_words.proofs.Splits.{in_first_some}

-- bytes of which the first is where they are cut, or not
abbrev cut_by : ℕ → List ℕ → Option (List ℕ × List ℕ) → Bool → Option (List ℕ × List ℕ)
cut_by b bs later test = if test then Some ([], bs) else option_map (λ (ps : List ℕ × List ℕ). (b ∷ ps.0, ps.1)) later

-- the parts of bytes that are cut
cut_step : (at b : ℕ) (bs : List ℕ) (x y : List ℕ) (test : Bool) → (b == at) ≡ test → cut_by b bs (cut_of at bs) test ≡ Some (x, y)
    → ((u : List ℕ) → cut_of at bs ≡ Some (u, y) → split (λ byte. byte == at) bs ≡ u ∷ split (λ byte. byte == at) y)
    → split (λ byte. byte == at) (b ∷ bs) ≡ x ∷ split (λ byte. byte == at) y
cut_step at b bs x y true e h later =
    let same : ◌≡◌ {A = List ℕ × List ℕ} ([], bs) (x, y) = cc in
    let first : [] ≡ x = ap (λ (p : List ℕ × List ℕ). p.0) same in
    let rest : bs ≡ y = ap (λ (p : List ℕ × List ℕ). p.1) same in
    rw e (ap (λ (u : List ℕ). u ∷ split (λ byte. byte == at) bs) first ∙ ap (λ (v : List ℕ). x ∷ split (λ byte. byte == at) v) rest)
cut_step at b bs x y false e h later =
    let m = map_some (λ (ps : List ℕ × List ℕ). (b ∷ ps.0, ps.1)) (cut_of at bs) (x, y) h in
    let first : b ∷ m.0.0 ≡ x = ap (λ (p : List ℕ × List ℕ). p.0) m.2 in
    let rest : m.0.1 ≡ y = ap (λ (p : List ℕ × List ℕ). p.1) m.2 in
    let found : cut_of at bs ≡ Some (m.0.0, y) = m.1 ∙ ap (λ (v : List ℕ). Some (m.0.0, v)) rest in
    rw (e, later m.0.0 found) (ap (λ (u : List ℕ). u ∷ split (λ byte. byte == at) y) first)

pub split_cut : (at : ℕ) (bytes x y : List ℕ) → cut_of at bytes ≡ Some (x, y) → split (λ byte. byte == at) bytes ≡ x ∷ split (λ byte. byte == at) y
split_cut at [] x y h = absurd (cc)
split_cut at (b ∷ bs) x y h = cut_step at b bs x y (b == at) refl h (λ u found. split_cut at bs u y found)

alone_step : (at b : ℕ) (bs : List ℕ) (test : Bool) → (b == at) ≡ test → cut_by b bs (cut_of at bs) test ≡ None
    → ((b == at) ≡ false) × (cut_by b bs (cut_of at bs) false ≡ None)
alone_step at b bs true e h = absurd (cc)
alone_step at b bs false e h = (e, h)

map_none : {A B : Type 0} (g : A → B) (found : Option A) → option_map g found ≡ None → found ≡ None
map_none g None h = refl
map_none g (Some x) h = absurd (cc)

pub split_alone : (at : ℕ) (bytes : List ℕ) → cut_of at bytes ≡ None → split (λ byte. byte == at) bytes ≡ bytes ∷ []
split_alone at [] h = refl
split_alone at (b ∷ bs) h =
    let s = alone_step at b bs (b == at) refl h in
    let none = map_none (λ (ps : List ℕ × List ℕ). (b ∷ ps.0, ps.1)) (cut_of at bs) s.1 in
    rw (s.0, split_alone at bs none) refl

-- an end that is empty goes only behind the last part
some_step : (parts : List (List ℕ)) (b : ℕ) (test : Bool) → (if test then [] ∷ parts else in_first b parts) ≡ [] → ⊥
some_step parts b true h = cc
some_step parts b false h = in_first_some b parts h

pub split_some : (at : ℕ) (bytes : List ℕ) → split (λ byte. byte == at) bytes ≡ [] → ⊥
split_some at [] h = cc
split_some at (b ∷ bs) h = some_step (split (λ byte. byte == at) bs) b (b == at) h

kept_before : (x : List ℕ) (parts : List (List ℕ)) → (parts ≡ [] → ⊥) → without_empty_end (x ∷ parts) ≡ x ∷ without_empty_end parts
kept_before [] [] some = absurd (some refl)
kept_before (b ∷ bs) [] some = absurd (some refl)
kept_before [] (p ∷ ps) some = refl
kept_before (b ∷ bs) (p ∷ ps) some = refl

-- lines
pub line_cut : (text line rest : List ℕ) → Some (line, rest) ≡ cut_of 10 text → text_lines text ≡ line ∷ text_lines rest
unfolding text_lines
line_cut text line rest h =
    let parts = split_cut 10 text line rest (sym h) in
    ap without_empty_end parts ∙ kept_before line (split (λ byte. byte == 10) rest) (split_some 10 rest)

alone_line : (text : List ℕ) → 0 < length text → without_empty_end (text ∷ []) ≡ text ∷ []
alone_line [] h = absurd (omega arith)
alone_line (b ∷ bs) h = refl

pub line_alone : (text : List ℕ) → 0 < length text → None ≡ cut_of 10 text → text_lines text ≡ text ∷ text_lines []
unfolding text_lines
line_alone text some h =
    let parts = split_alone 10 text (sym h) in
    ap without_empty_end parts ∙ alone_line text some

-- words
word_front : (word : List ℕ) (words : List (List ℕ)) → filter (λ w. not (is_empty w)) (word ∷ words) ≡ one_word word ++ filter (λ w. not (is_empty w)) words
word_front [] words = refl
word_front (b ∷ bs) words = refl

pub word_cut : (line word rest : List ℕ) → Some (word, rest) ≡ cut_of 32 line → words_of line ≡ one_word word ++ words_of rest
unfolding words_of
word_cut line word rest h =
    let parts = split_cut 32 line word rest (sym h) in
    ap (filter (λ (w : List ℕ). not (is_empty w))) parts ∙ word_front word (split (λ byte. byte == 32) rest)

pub word_alone : (line : List ℕ) → None ≡ cut_of 32 line → words_of line ≡ one_word line
unfolding words_of
word_alone line h =
    let parts = split_alone 32 line (sym h) in
    ap (filter (λ (w : List ℕ). not (is_empty w))) parts ∙ word_front line [] ∙ append-nil (one_word line)

-- one more word
pub words_more : (new old : List (List ℕ)) (word rest after : List ℕ) (whole : List (List ℕ))
    → new ≡ old ++ one_word word → Some (word, after) ≡ cut_of 32 rest → old ++ words_of rest ≡ whole
    → new ++ words_of after ≡ whole
words_more new old word rest after whole e cut so_far =
    ap (λ (ws : List (List ℕ)). ws ++ words_of after) e
    ∙ append_assoc old (one_word word) (words_of after)
    ∙ ap (λ (ws : List (List ℕ)). old ++ ws) (sym (word_cut rest word after cut))
    ∙ so_far

pub words_end : (new old : List (List ℕ)) (rest : List ℕ) (whole : List (List ℕ)) → new ≡ old ++ one_word rest
    → None ≡ cut_of 32 rest → old ++ words_of rest ≡ whole → new ≡ whole
words_end new old rest whole e cut so_far = e ∙ ap (λ (ws : List (List ℕ)). old ++ ws) (sym (word_alone rest cut)) ∙ so_far

-- a line that doesn't begin with a space begins with its first word
first_front : (b : ℕ) (parts : List (List ℕ)) → (parts ≡ [] → ⊥)
    → (u : List ℕ) × (ws : List (List ℕ)) × (filter (λ word. not (is_empty word)) (in_first b parts) ≡ (b ∷ u) ∷ ws)
first_front b [] some = absurd (some refl)
first_front b (p ∷ ps) some = (p, filter (λ word. not (is_empty word)) ps, refl)

pub begins_line : (b : ℕ) (bs : List ℕ) → (b == 32) ≡ false → (u : List ℕ) × (ws : List (List ℕ)) × (words_of (b ∷ bs) ≡ (b ∷ u) ∷ ws)
unfolding words_of
begins_line b bs other = rw other (first_front b (split (λ byte. byte == 32) bs) (split_some 32 bs))
