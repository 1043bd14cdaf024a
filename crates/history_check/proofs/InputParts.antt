-- An input is cut into a script's part and a history line by line.
use Rattle.entry_log.specs.Joined.{joined, preceded}
use Rattle.script_types.specs.SourceText.{in_first, split}
use Rattle.script_words.proofs.SourceLines.{split_alone, split_cut, split_some}
use Rattle.script_words.proofs.Steps.{by_test}
use Rattle.script_words.specs.Fields.{cut_of}
use Rattle.std.proofs.Common.{◌≡◌, ℕ, zero, suc, true, false, List, [], ◌∷◌, ◌++◌, take, drop, length, nat_eq, Some, None, refl, sym, ap, ◌∙◌, append_assoc, append-nil}
use Rattle.std.proofs.lemmas.Bool.{eqb-true}
use Rattle.std.specs.Prelude.{◌==◌, if◌then◌else◌}
use Rattle.history_check.specs.InputParts.{behind_end, history_part, is_end, script_part, to_end}

-- what is split is joined again
abbrev lines_of : List ℕ → List (List ℕ)
lines_of text = split (λ byte. byte == 10) text

joined_behind : (parts : List (List ℕ)) → (parts ≡ [] → ⊥) → joined 10 ([] ∷ parts) ≡ 10 ∷ joined 10 parts
unfolding joined preceded
joined_behind [] some = absurd (some refl)
joined_behind (part ∷ parts) some = refl

joined_front : (b : ℕ) (parts : List (List ℕ)) → (parts ≡ [] → ⊥) → joined 10 (in_first b parts) ≡ b ∷ joined 10 parts
unfolding joined
joined_front b [] some = absurd (some refl)
joined_front b (part ∷ parts) some = refl

joined_nothing : joined 10 ([] ∷ []) ≡ []
unfolding joined preceded
joined_nothing = refl

same_feed : (b : ℕ) → nat_eq b 10 ≡ true → b ≡ 10
same_feed b h = eqb-true b 10 h

joined_again : (text : List ℕ) → joined 10 (lines_of text) ≡ text
joined_again [] = joined_nothing
joined_again (b ∷ bs) =
    by_test {P = joined 10 (lines_of (b ∷ bs)) ≡ b ∷ bs} (nat_eq b 10)
    (λ e. rw e (joined_behind (lines_of bs) (split_some 10 bs) ∙ ap (λ (xs : List ℕ). 10 ∷ xs) (joined_again bs)
    ∙ ap (λ (x : ℕ). x ∷ bs) (sym (same_feed b e))))
    (λ e. rw e (joined_front b (lines_of bs) (split_some 10 bs) ∙ ap (λ (xs : List ℕ). b ∷ xs) (joined_again bs)))

-- the parts of a line with more lines behind it
to_more : (line : List ℕ) (lines : List (List ℕ)) → (lines ≡ [] → ⊥) → to_end (line ∷ lines) ≡ line ++ 10 ∷ (if is_end line then [] else to_end lines)
to_more line [] some = absurd (some refl)
to_more line (next ∷ lines) some = refl

behind_more : (line : List ℕ) (lines : List (List ℕ)) → (lines ≡ [] → ⊥)
    → behind_end (line ∷ lines) ≡ (if is_end line then joined 10 lines else behind_end lines)
behind_more line [] some = absurd (some refl)
behind_more line (next ∷ lines) some = refl

-- so far: the lines that are behind, and what the rest comes to
pub record IsPartedSo (input rest : List ℕ) : Type 0 where
  pub before : List ℕ
  pub whole : input ≡ before ++ rest
  pub script : script_part input ≡ before ++ script_part rest
  pub history : history_part input ≡ history_part rest

pub parted_start : (input : List ℕ) → IsPartedSo input input
parted_start input = record { before = []; whole = refl; script = refl; history = refl }

joined_line : (part : List ℕ) (parts : List (List ℕ)) → (parts ≡ [] → ⊥) → joined 10 (part ∷ parts) ≡ part ++ 10 ∷ joined 10 parts
unfolding joined preceded
joined_line part [] some = absurd (some refl)
joined_line part (next ∷ parts) some = refl

text_cut : (text line behind : List ℕ) → Some (line, behind) ≡ cut_of 10 text → text ≡ line ++ 10 ∷ behind
text_cut text line behind cut =
    let lines = split_cut 10 text line behind (sym cut) in
    sym (joined_again text)
    ∙ ap (joined 10) lines
    ∙ joined_line line (lines_of behind) (split_some 10 behind)
    ∙ ap (λ (xs : List ℕ). line ++ 10 ∷ xs) (joined_again behind)

script_cut : (text line behind : List ℕ) → Some (line, behind) ≡ cut_of 10 text
    → script_part text ≡ line ++ 10 ∷ (if is_end line then [] else script_part behind)
script_cut text line behind cut = ap to_end (split_cut 10 text line behind (sym cut)) ∙ to_more line (lines_of behind) (split_some 10 behind)

history_cut : (text line behind : List ℕ) → Some (line, behind) ≡ cut_of 10 text → history_part text ≡ (if is_end line then behind else history_part behind)
history_cut text line behind cut =
    ap behind_end (split_cut 10 text line behind (sym cut))
    ∙ behind_more line (lines_of behind) (split_some 10 behind)
    ∙ ap (λ (xs : List ℕ). if is_end line then xs else history_part behind) (joined_again behind)

-- at the line `end`
pub record AreParts (input behind : List ℕ) : Type 0 where
  pub script : input ≡ script_part input ++ behind
  pub history : behind ≡ history_part input

pub parted_end : (input rest line behind : List ℕ) → IsPartedSo input rest → Some (line, behind) ≡ cut_of 10 rest → is_end line ≡ true → AreParts input behind
parted_end input rest line behind so cut is =
    let text = text_cut rest line behind cut in
    let script : script_part rest ≡ line ++ 10 ∷ [] = rw is at (script_cut rest line behind cut) in
    let history : history_part rest ≡ behind = rw is at (history_cut rest line behind cut) in
    let front : script_part input ≡ so.before ++ (line ++ 10 ∷ []) = so.script ∙ ap (λ (xs : List ℕ). so.before ++ xs) script in
    let again : (so.before ++ (line ++ 10 ∷ [])) ++ behind ≡ so.before ++ (line ++ 10 ∷ behind) =
    append_assoc so.before (line ++ 10 ∷ []) behind
    ∙ ap (λ (xs : List ℕ). so.before ++ xs) (append_assoc line (10 ∷ []) behind) in
    record {
      script = so.whole ∙ ap (λ (xs : List ℕ). so.before ++ xs) text ∙ sym again ∙ ap (λ (xs : List ℕ). xs ++ behind) (sym front);
      history = sym history ∙ sym so.history;
    }

-- at another line
pub parted_more : (input rest line behind : List ℕ) → IsPartedSo input rest → Some (line, behind) ≡ cut_of 10 rest
    → is_end line ≡ false → IsPartedSo input behind
parted_more input rest line behind so cut isnt =
    let text = text_cut rest line behind cut in
    let script : script_part rest ≡ line ++ 10 ∷ script_part behind = rw isnt at (script_cut rest line behind cut) in
    let history : history_part rest ≡ history_part behind = rw isnt at (history_cut rest line behind cut) in
    let again : (more : List ℕ) → so.before ++ (line ++ 10 ∷ more) ≡ (so.before ++ (line ++ 10 ∷ [])) ++ more =
    λ more. ap (λ (xs : List ℕ). so.before ++ xs) (sym (append_assoc line (10 ∷ []) more))
    ∙ sym (append_assoc so.before (line ++ 10 ∷ []) more) in
    record {
      before = so.before ++ (line ++ 10 ∷ []);
      whole = so.whole ∙ ap (λ (xs : List ℕ). so.before ++ xs) text ∙ again behind;
      script = so.script ∙ ap (λ (xs : List ℕ). so.before ++ xs) script ∙ again (script_part behind);
      history = so.history ∙ history;
    }

-- at the last line
pub parted_last : (input rest : List ℕ) → IsPartedSo input rest → None ≡ cut_of 10 rest → AreParts input []
parted_last input rest so none =
    let alone = split_alone 10 rest (sym none) in
    let script : script_part input ≡ so.before ++ rest = so.script ∙ ap (λ (lines : List (List ℕ)). so.before ++ to_end lines) alone in
    record {
      script = so.whole ∙ sym script ∙ sym (append-nil (script_part input));
      history = sym (so.history ∙ ap behind_end alone);
    }

-- nothing stands behind a text
pub none_behind : (n : ℕ) (text : List ℕ) → take n (drop (length text) text) ≡ []
none_behind zero text = refl
none_behind (suc n) [] = refl
none_behind (suc n) (b ∷ bs) = none_behind (suc n) bs
