-- Notes that are out: what is out after a note went out, and after one came back.
use Rattle.std.proofs.Common.{◌≡◌, ◌≢◌, ℕ, ◌+◌, ◌≤◌, Bool, true, not, List, [], ◌∷◌, ◌++◌, length, refl, sym, ap, ◌∙◌, arith, inl, inr, ◌⊎◌, eqb, length-append, replicate}
use Rattle.std.specs.Prelude.{IsTrue}
use Rattle.std.specs.List.{list_any}
use Rattle.std.proofs.lemmas.Bool.{cases_Bool, and_parts, and_from, eqb-true, eq-eqb, not_from_true, not_from_false}
use Rattle.std.proofs.lemmas.List.Elements.{filter-append}
use Rattle.std.proofs.lemmas.List.Filters.{length-filter_both}
use Rattle.std.proofs.lemmas.Bool.{cases_lt}
use Rattle.std.proofs.lemmas.List.{get_or_past, get_or-replicate, length-replicate}
use Rattle.ref_words.specs.declared.answer.Stage.TheVariants.{Fresh}
use Rattle.ref_words.specs.declared.slip.Slip.{Slip}
use Rattle.ref_words.specs.declared.answer.Found.{Found}
use Rattle.ref_words.specs.Words.{Words, IsOut, IsCreated, NoneCreated, same_slip, without, sent_out, taken_back}
use Rattle.ref_words.specs.Plain.{fresh_words, notes_of, copies_of}
use Rattle.ref_words.proofs.Filters.{filter_none, filter_twice, length_filter, length_filter_filter}

-- whether a note is among some
abbrev is_out : Slip → List Slip → Bool
is_out s out = list_any (λ other. same_slip other s) out

-- two notes that pass the test are one
pub same_slip-true : (a b : Slip) → same_slip a b ≡ true → a ≡ b
same_slip-true a b h =
    let parts = and_parts (eqb a.place b.place) (eqb a.number b.number) h in
    let places = eqb-true a.place b.place parts.0 in
    let numbers = eqb-true a.number b.number parts.1 in
    ap (λ (n : ℕ). let s : Slip = record { place = n; number = a.number } in s) places
    ∙ ap (λ (n : ℕ). let s : Slip = record { place = b.place; number = n } in s) numbers

-- a note passes the test against itself
pub same_slip-itself : (a b : Slip) → a ≡ b → same_slip a b ≡ true
same_slip-itself a b e =
    and_from (eqb a.place b.place) (eqb a.number b.number) (eq-eqb a.place b.place (ap (λ s. s.place) e))
    (eq-eqb a.number b.number (ap (λ s. s.number) e))

-- a note that is out is counted
pub copies_out : (out : List Slip) (s : Slip) → IsTrue (is_out s out) → 1 ≤ copies_of s out
copies_out [] s h = absurd (cc)
copies_out (x ∷ xs) s h =
    elim (cases_Bool (same_slip x s)) [
      | inl same ↦ rw same (omega arith)
      | inr other ↦ rw other (copies_out xs s (rw other at h))
    ]

-- a note that is counted is out
pub out_copies : (out : List Slip) (s : Slip) → 1 ≤ copies_of s out → IsTrue (is_out s out)
out_copies [] s h = absurd (omega arith)
out_copies (x ∷ xs) s h =
    elim (cases_Bool (same_slip x s)) [
      | inl same ↦ rw same refl
      | inr other ↦ rw other (out_copies xs s (rw other at h))
    ]

-- how many are counted once one more is out
pub copies_append : (s : Slip) (out more : List Slip) → copies_of s (out ++ more) ≡ copies_of s out + copies_of s more
copies_append s out more = rw (filter-append (λ other. same_slip other s) out more, length-append) refl

pub notes_append : (p : ℕ) (out more : List Slip) → notes_of p (out ++ more) ≡ notes_of p out + notes_of p more
notes_append p out more = rw (filter-append (λ s. eqb s.place p) out more, length-append) refl

-- a note that came back isn't out
pub copies_without_itself : (s : Slip) (out : List Slip) → copies_of s (without s out) ≡ 0
copies_without_itself s out =
    ap length (filter_none (λ other. same_slip other s) (λ other. not (same_slip other s))
    (λ x same. not_from_true (same_slip x s) same) out)

-- the others are out still
pub copies_without_other : (s t : Slip) → s ≢ t → (out : List Slip) → copies_of s (without t out) ≡ copies_of s out
copies_without_other s t ne out =
    let stays = λ (x : Slip) (same : same_slip x s ≡ true). elim (cases_Bool (same_slip x t)) as (λ _. not (same_slip x t) ≡ true) [
      | inl other ↦ absurd (ne (sym (same_slip-true x s same) ∙ same_slip-true x t other))
      | inr differs ↦ not_from_false (same_slip x t) differs
    ] in
    ap length (filter_twice (λ x. same_slip x s) (λ x. not (same_slip x t)) stays out)

-- no place has more notes out after one came back
pub notes_without : (p : ℕ) (s : Slip) (out : List Slip) → notes_of p (without s out) ≤ notes_of p out
notes_without p s out = length_filter_filter (λ other. eqb other.place p) (λ other. not (same_slip other s)) out

-- and its own place has fewer
pub notes_without_itself : (s : Slip) (out : List Slip) → IsTrue (is_out s out) → notes_of s.place (without s out) + 1 ≤ notes_of s.place out
notes_without_itself s [] h = absurd (cc)
notes_without_itself s (x ∷ xs) h =
    let all = notes_without s.place s xs in
    elim (cases_Bool (same_slip x s)) [
      | inl same ↦
          let here : eqb x.place s.place ≡ true = eq-eqb x.place s.place (ap (λ n. n.place) (same_slip-true x s same)) in
          rw (same, here) (omega arith)
      | inr other ↦
          let fewer = notes_without_itself s xs (rw other at h) in
          elim (cases_Bool (eqb x.place s.place)) [
            | inl here ↦ rw (other, here) (omega arith)
            | inr there ↦ rw (other, there) fewer
          ]
    ]

-- the notes but for one, and that one, are all
pub length_without : (s : Slip) (out : List Slip) → length (without s out) + copies_of s out ≡ length out
length_without s out =
    let both = length-filter_both (λ other. same_slip other s) (λ other. not (same_slip other s)) (λ _. refl) out in
    omega arith

-- no more notes of a place are out than notes
pub notes_all : (p : ℕ) (out : List Slip) → notes_of p out ≤ length out
notes_all p out = length_filter (λ s. eqb s.place p) out

-- the note that goes out is out
pub out-sent : (w : Words) (p : ℕ) → IsOut (sent_out w p) (record { place = p; number = w.made + 1 })
out-sent w p =
    let s : Slip = record { place = p; number = w.made + 1 } in
    let here : copies_of s (s ∷ []) ≡ 1 = rw (same_slip-itself s s refl) refl in
    out_copies (w.out ++ s ∷ []) s (omega (arith, copies_append s w.out (s ∷ []), here))

-- a note is out still after another went out
pub out-after_send : (w : Words) (p : ℕ) (s : Slip) → IsOut w s → IsOut (sent_out w p) s
out-after_send w p s h =
    let last : Slip = record { place = p; number = w.made + 1 } in
    out_copies (w.out ++ last ∷ []) s (omega (arith, copies_append s w.out (last ∷ []), copies_out w.out s h))

-- a note is out still after another came back
pub out-after_take : (found : Found) (w : Words) (s t : Slip) → s ≢ t → IsOut w s → IsOut (taken_back found w t) s
out-after_take found w s t ne h = out_copies (without t w.out) s (rw copies_without_other (copies_out w.out s h))

-- a note that came back is no longer out
pub not_out-after_take : (found : Found) (w : Words) (s : Slip) → IsOut (taken_back found w s) s → ⊥
not_out-after_take found w s h = omega (arith, copies_out (without s w.out) s h, copies_without_itself s w.out)

-- what is out after a note came back was out before
pub out-before_take : (found : Found) (w : Words) (s t : Slip) → IsOut (taken_back found w t) s → IsOut w s
out-before_take found w s t h =
    out_copies w.out s (omega (
      arith,
      copies_out (without t w.out) s h,
      length_filter_filter (λ x. same_slip x s) (λ x. not (same_slip x t)) w.out,
    ))

-- nothing is out more often after a note came back
pub copies_without : (s t : Slip) (out : List Slip) → copies_of s (without t out) ≤ copies_of s out
copies_without s t out = length_filter_filter (λ x. same_slip x s) (λ x. not (same_slip x t)) out

-- what is out after a note went out was out before, or is that note
pub out-before_send : (w : Words) (p : ℕ) (s : Slip) → IsOut (sent_out w p) s → IsOut w s ⊎ (record { place = p; number = w.made + 1 } ≡ s)
out-before_send w p s h =
    let last : Slip = record { place = p; number = w.made + 1 } in
    let all = copies_out (w.out ++ last ∷ []) s h in
    elim (cases_Bool (same_slip last s)) [
      | inl same ↦ inr (same_slip-true last s same)
      | inr other ↦
          let none : copies_of s (last ∷ []) ≡ 0 = rw other refl in
          inl (out_copies w.out s (omega (arith, copies_append s w.out (last ∷ []), all, none)))
    ]

-- where none is out there is no note
none_is_out : (out : List Slip) → ((s : Slip) → IsTrue (is_out s out) → ⊥) → out ≡ []
none_is_out [] none = refl
none_is_out (x ∷ xs) none = absurd (none x (rw (same_slip-itself x x refl) refl))

-- no note is out of words of which no place is created
pub out-none_created : (w : Words) → NoneCreated w → ((s : Slip) → IsOut w s → IsCreated w s.place) → w.out ≡ []
out-none_created w none created = none_is_out w.out (λ s out. created s out (none s.place))

-- no place of fresh words is created
pub fresh-none_created : (n : ℕ) → NoneCreated (fresh_words n)
fresh-none_created n p = elim (cases_lt p n) [
  | inl inside ↦ get_or-replicate n p Fresh Fresh inside
  | inr past ↦ get_or_past (replicate n Fresh) p Fresh (rw length-replicate past)
]
