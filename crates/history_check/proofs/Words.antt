-- The words of a line, one by one.
use Rattle.script_types.specs.SourceText.{is_empty, words_of}
use Rattle.script_words.proofs.SourceLines.{begins_line, split_alone, split_cut, word_alone, word_cut}
use Rattle.script_words.proofs.Steps.{by_test}
use Rattle.script_words.specs.Fields.{cut_of}
use Rattle.script_words.specs.Pieces.{one_word}
use Rattle.std.proofs.Common.{◌≡◌, ◌<◌, ℕ, arith, length, Bool, true, false, ◌&&◌, ◌||◌, nat_eq, List, [], ◌∷◌, ◌++◌, codes, Some, None, refl, sym, ap, ◌∙◌}
use Rattle.std.specs.List.{list_all, list_any}
use Rattle.std.specs.Str.{bytes_eq}
use Rattle.history_check.specs.DeathText.{is_death_text, tells_death}
use Rattle.history_check.specs.InputParts.{are_end, is_end}

-- whether one of them tells a death
tells_cut : (rest word behind : List ℕ) → Some (word, behind) ≡ cut_of 32 rest → tells_death rest ≡ (is_death_text word || tells_death behind)
tells_cut rest word behind cut = ap (list_any is_death_text) (split_cut 32 rest word behind (sym cut))

pub tells_one : (rest word behind : List ℕ) → Some (word, behind) ≡ cut_of 32 rest → is_death_text word ≡ true → true ≡ tells_death rest
tells_one rest word behind cut is = sym (tells_cut rest word behind cut ∙ ap (λ (b : Bool). b || tells_death behind) is)

pub tells_more : (rest word behind : List ℕ) → Some (word, behind) ≡ cut_of 32 rest → is_death_text word ≡ false → tells_death behind ≡ tells_death rest
tells_more rest word behind cut isnt = sym (tells_cut rest word behind cut ∙ ap (λ (b : Bool). b || tells_death behind) isnt)

or_none : (b : Bool) → b ≡ (b || false)
or_none true = refl
or_none false = refl

pub tells_last : (rest : List ℕ) → None ≡ cut_of 32 rest → is_death_text rest ≡ tells_death rest
tells_last rest none = or_none (is_death_text rest) ∙ ap (list_any is_death_text) (sym (split_alone 32 rest (sym none)))

-- whether there is none
blank_is : (line : List ℕ) → list_all (λ b. nat_eq b 32) line ≡ is_empty (words_of line)
unfolding words_of
blank_is [] = refl
blank_is (b ∷ bs) =
    by_test {P = list_all (λ b. nat_eq b 32) (b ∷ bs) ≡ is_empty (words_of (b ∷ bs))} (nat_eq b 32)
    (λ e. rw e (blank_is bs))
    (λ e. let first = begins_line b bs e in
    ap (λ (test : Bool). test && list_all (λ b. nat_eq b 32) bs) e
    ∙ ap (λ (words : List (List ℕ)). is_empty words) (sym first.2))

-- whether there is one, `end`
and_true : (b : Bool) → b ≡ (b && true)
and_true true = refl
and_true false = refl

and_false : (b : Bool) → false ≡ (b && false)
and_false true = refl
and_false false = refl

end_front : (word : List ℕ) (words : List (List ℕ)) → are_end (word ∷ words) ≡ (bytes_eq word (codes "end") && is_empty words)
end_front word [] = and_true (bytes_eq word (codes "end"))
end_front word (next ∷ words) = and_false (bytes_eq word (codes "end"))

one_of : (word : List ℕ) → 0 < length word → one_word word ≡ word ∷ []
one_of [] some = absurd (omega arith)
one_of (b ∷ bs) some = refl

none_of : (word : List ℕ) → length word ≡ 0 → one_word word ≡ []
none_of [] none = refl
none_of (b ∷ bs) none = absurd (omega arith)

pub end_behind : (rest word behind : List ℕ) → Some (word, behind) ≡ cut_of 32 rest → length word ≡ 0 → is_end behind ≡ is_end rest
end_behind rest word behind cut none =
    sym (ap are_end (word_cut rest word behind cut
    ∙ ap (λ (words : List (List ℕ)). words ++ words_of behind) (none_of word none)))

end_here : (rest word behind : List ℕ) → Some (word, behind) ≡ cut_of 32 rest → 0 < length word
    → (bytes_eq word (codes "end") && is_empty (words_of behind)) ≡ is_end rest
end_here rest word behind cut some =
    sym (ap are_end (word_cut rest word behind cut
    ∙ ap (λ (words : List (List ℕ)). words ++ words_of behind) (one_of word some)) ∙ end_front word (words_of behind))

pub end_is : (rest word behind : List ℕ) → Some (word, behind) ≡ cut_of 32 rest → 0 < length word
    → bytes_eq word (codes "end") ≡ true → list_all (λ b. nat_eq b 32) behind ≡ is_end rest
end_is rest word behind cut some is = blank_is behind ∙ sym (ap (λ (b : Bool). b && is_empty (words_of behind)) is) ∙ end_here rest word behind cut some

pub end_isnt : (rest word behind : List ℕ) → Some (word, behind) ≡ cut_of 32 rest → 0 < length word → bytes_eq word (codes "end") ≡ false → false ≡ is_end rest
end_isnt rest word behind cut some isnt = sym (ap (λ (b : Bool). b && is_empty (words_of behind)) isnt) ∙ end_here rest word behind cut some

end_alone : (rest : List ℕ) → bytes_eq rest (codes "end") ≡ are_end (one_word rest)
end_alone [] = refl
end_alone (b ∷ bs) = refl

pub end_last : (rest : List ℕ) → None ≡ cut_of 32 rest → bytes_eq rest (codes "end") ≡ is_end rest
end_last rest none = end_alone rest ∙ sym (ap are_end (word_alone rest none))
