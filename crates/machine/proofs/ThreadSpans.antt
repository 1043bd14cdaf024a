-- The threads of a process are made of those that are declared where they stand.
use Rattle.std.proofs.Common.{◌≡◌, ℕ, zero, suc, ◌+◌, ◌-◌, ◌<◌, ◌≤◌, List, [], ◌∷◌, length, arith, refl, sym, ap, ◌∙◌, ◌++◌, append_assoc, Option, Some, None, Bool, true, false, take, drop, inl, inr, get_or}
use Rattle.std.proofs.lemmas.Bool.{cases_lt, cases_order}
use Rattle.std.proofs.lemmas.Bool.Decides.{nat_tests}
use Rattle.std.proofs.lemmas.List.{drop_more, get_or-set_same, get_or-set_other}
use Rattle.std.proofs.lemmas.Option.{same_Some, slice_get_within, slice_get_read}
use Rattle.std.specs.Prelude.{◌==◌, if◌then◌else◌, slice_get, slice_set}
use Rattle.script_types.specs.Shape.{IsShaped}
use Rattle.script_types.specs.declared.declaration.ThreadDecl.{ThreadDecl}
use Rattle.script_types.specs.declared.script.Script.{Script}
use Rattle.machine.specs.declared.boot.Born.{Born}
use Rattle.machine.specs.declared.spans.Span.{Span}
use Rattle.machine.specs.Boot.{born_thread, born_threads, is_of}

-- the thread at a place
pub item_known : (xs ys : List ThreadDecl) (k : ℕ) (t : ThreadDecl) → xs ≡ ys → k < length xs → t ≡ get_or xs k t → slice_get ys k ≡ Some t
item_known xs ys k t same inside is = ap (λ (l : List ThreadDecl). slice_get l k) (sym same) ∙ slice_get_read xs (length xs) k t refl inside is

-- one thread more, of those that are declared from a place on
pub threads_more : (all : List Born) (j : Option ℕ) (p first k : ℕ) (d : ThreadDecl) (ds : List ThreadDecl) (whole : List Born)
    → all ++ born_threads j p (first + k) (drop k ds) ≡ whole → k < length ds → d ≡ get_or ds k d → is_of j d.process ≡ true
    → (all ++ born_thread p (first + k) d ∷ []) ++ born_threads j p (first + (k + 1)) (drop (k + 1) ds) ≡ whole
threads_more all j p first k d ds whole same inside is of =
    let rest = born_threads j p ((first + k) + 1) (drop (k + 1) ds) in
    let e : first + (k + 1) ≡ (first + k) + 1 = omega arith in
    let left : drop k ds ≡ d ∷ drop (k + 1) ds = drop_more ds k d inside ∙ ap (λ (t : ThreadDecl). t ∷ drop (k + 1) ds) (sym is) in
    rw e (append_assoc all (born_thread p (first + k) d ∷ []) rest
    ∙ ap (λ (b : Bool). all ++ (if b then born_thread p (first + k) d ∷ rest else rest)) (sym of)
    ∙ ap (λ (l : List ThreadDecl). all ++ born_threads j p (first + k) l) (sym left) ∙ same)

-- where the threads of the j-th process stand among the first n that are declared
pub record IsSpan (threads : List ThreadDecl) (n j : ℕ) (span : Span) : Type 0 where
  pub order : span.first ≤ span.end
  pub within : span.end ≤ n
  pub every : (i : ℕ) (t : ThreadDecl) → i < n → slice_get threads i ≡ Some t → t.process ≡ Some j → (span.first ≤ i) × (i < span.end)

-- no place
abbrev pub nowhere : Span
nowhere = record { first = 0; end = 0 }

-- where those of each process stand
abbrev pub AreSpans : List ThreadDecl → ℕ → List Span → Type 0
AreSpans threads n spans = (j : ℕ) → IsSpan threads n j (get_or spans j nowhere)

pub process_known : (script : Script) → IsShaped script → (k : ℕ) (t : ThreadDecl) (p : ℕ) → slice_get script.threads k ≡ Some t
    → t.process ≡ Some p → p < 16
process_known script is k t p here of = omega (arith, (is.threads k t here).process p of, is.processes)

pub spans_none : (threads : List ThreadDecl) (spans : List Span) → ((j : ℕ) → get_or spans j nowhere ≡ nowhere) → AreSpans threads 0 spans
spans_none threads spans none j =
    let e = none j in
    record {
      order = omega (arith, ap (λ (s : Span). s.first) e, ap (λ (s : Span). s.end) e);
      within = omega (arith, ap (λ (s : Span). s.end) e);
      every = λ i t inside here of. absurd (omega (arith, inside));
    }

-- a thread that is declared next, and isn't of the process
span_kept : (threads : List ThreadDecl) (k j : ℕ) (t : ThreadDecl) (span : Span) → slice_get threads k ≡ Some t → (t.process ≡ Some j → ⊥)
    → IsSpan threads k j span → IsSpan threads (k + 1) j span
span_kept threads k j t span here isnt old = record {
  order = old.order;
  within = omega (arith, old.within);
  every = λ i u inside there of. elim (cases_lt i k) [
    | inl below ↦ old.every i u below there of
    | inr above ↦ let e : i ≡ k = omega (arith, inside, above) in
        let f : u ≡ t = same_Some u t (sym there ∙ ap (slice_get threads) e ∙ here) in
        absurd (isnt (sym (ap (λ (it : ThreadDecl). it.process) f) ∙ of))
  ];
}

-- and one that is
span_more : (threads : List ThreadDecl) (k j : ℕ) (old new : Span) → IsSpan threads k j old → new.end ≡ k + 1 → new.first ≤ k
    → ((i : ℕ) → old.first ≤ i → i < old.end → new.first ≤ i) → IsSpan threads (k + 1) j new
span_more threads k j old new was end first all = record {
  order = omega (arith, first, end);
  within = omega (arith, end);
  every = λ i u inside there of. elim (cases_lt i k) [
    | inl below ↦ let at = was.every i u below there of in (all i at.0 at.1, omega (arith, below, end))
    | inr above ↦ (omega (arith, above, first), omega (arith, inside, end))
  ];
}

pub spans_same : (threads : List ThreadDecl) (k : ℕ) (t : ThreadDecl) (spans : List Span) → AreSpans threads k spans
    → slice_get threads k ≡ Some t → t.process ≡ None → AreSpans threads (k + 1) spans
spans_same threads k t spans are here free j = span_kept threads k j t (get_or spans j nowhere) here (λ of. absurd (cc)) (are j)

pub spans_more : (threads : List ThreadDecl) (k : ℕ) (t : ThreadDecl) (spans : List Span) (p : ℕ) (new : Span) → AreSpans threads k spans
    → slice_get threads k ≡ Some t → t.process ≡ Some p → p < length spans
    → new.end ≡ k + 1 → new.first ≤ k → ((i : ℕ) → (get_or spans p nowhere).first ≤ i → i < (get_or spans p nowhere).end → new.first ≤ i)
    → AreSpans threads (k + 1) (slice_set spans p new)
spans_more threads k t spans p new are here known inside end first all j =
    let others : (j ≡ p → ⊥) → IsSpan threads (k + 1) j (get_or (slice_set spans p new) j nowhere) =
    λ isnt. rw (get_or-set_other spans p j new nowhere isnt)
    (span_kept threads k j t (get_or spans j nowhere) here (λ of. isnt (same_Some j p (sym of ∙ known))) (are j)) in
    elim (cases_order j p) [
      | inl is ↦ rw (is, get_or-set_same spans p new nowhere inside) (span_more threads k p (get_or spans p nowhere) new (are p) end first all)
      | inr (inl below) ↦ others (λ is. absurd (omega (arith, is, below)))
      | inr (inr above) ↦ others (λ is. absurd (omega (arith, is, above)))
    ]

-- none of those before a place is of the process
behind : (j p n k : ℕ) (ds : List ThreadDecl)
    → ((i : ℕ) (t : ThreadDecl) → i < n → slice_get ds i ≡ Some t → is_of (Some j) t.process ≡ false)
    → born_threads (Some j) p (k + n) (drop n ds) ≡ born_threads (Some j) p k ds
behind j p zero k ds none = let e : k + 0 ≡ k = omega arith in rw e refl
behind j p (suc n) k [] none = refl
behind j p (suc n) k (d ∷ ds) none =
    let rest = behind j p n (k + 1) ds (λ i t inside here. none (suc i) t (omega (arith, inside)) here) in
    let e : k + suc n ≡ (k + 1) + n = omega arith in
    let f = none 0 d (omega arith) refl in rw (e, f) rest

-- none of those from a place on is
before : (j p n k : ℕ) (ds : List ThreadDecl)
    → ((i : ℕ) (t : ThreadDecl) → n ≤ i → slice_get ds i ≡ Some t → is_of (Some j) t.process ≡ false)
    → born_threads (Some j) p k (take n ds) ≡ born_threads (Some j) p k ds
before j p zero k [] none = refl
before j p (suc n) k [] none = refl
before j p zero k (d ∷ ds) none =
    let rest = before j p zero (k + 1) ds (λ i t past here. none (suc i) t (omega arith) here) in
    let f = none 0 d (omega arith) refl in rw f rest
before j p (suc n) k (d ∷ ds) none =
    let rest = before j p n (k + 1) ds (λ i t past here. none (suc i) t (omega (arith, past)) here) in
    ap (λ (bs : List Born). if is_of (Some j) d.process then born_thread p k d ∷ bs else bs) rest

-- a thread that is outside of a place isn't of the process
other : (j : ℕ) (process : Option ℕ) → (process ≡ Some j → ⊥) → is_of (Some j) process ≡ false
other j None isnt = refl
other j (Some i) isnt = grind (arith, nat_tests)

get_drop : (n i : ℕ) (ds : List ThreadDecl) (t : ThreadDecl) → slice_get (drop n ds) i ≡ Some t → slice_get ds (n + i) ≡ Some t
get_drop zero i ds t here = let e : 0 + i ≡ i = omega arith in rw e here
get_drop (suc n) i [] t here = absurd (cc)
get_drop (suc n) i (d ∷ ds) t here = let e : suc n + i ≡ suc (n + i) = omega arith in rw e (get_drop n i ds t here)

pub in_span : (threads : List ThreadDecl) (j : ℕ) (span : Span) → IsSpan threads (length threads) j span → (p : ℕ)
    → born_threads (Some j) p span.first (take (span.end - span.first) (drop span.first threads)) ≡ born_threads (Some j) p 0 threads
in_span threads j span is p =
    let e : 0 + span.first ≡ span.first = omega arith in
    before j p (span.end - span.first) span.first (drop span.first threads)
    (λ i t past here. other j t.process (λ same.
    let there = get_drop span.first i threads t here in
    let last = (is.every (span.first + i) t (slice_get_within threads (span.first + i) t there) there same).1 in
    absurd (omega (arith, past, last, is.order))))
    ∙ ap (λ k. born_threads (Some j) p k (drop span.first threads)) (sym e)
    ∙ behind j p span.first 0 threads
    (λ i t inside here. other j t.process (λ same.
    let first = (is.every i t (slice_get_within threads i t here) here same).0 in absurd (omega (arith, inside, first))))
