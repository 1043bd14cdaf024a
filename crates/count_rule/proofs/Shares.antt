-- Lists of shares that are all of one table, and the table at the start.
use Rattle.std.proofs.Common.{◌≡◌, ℕ, ◌<◌, List, [], ◌∷◌, ◌++◌, length, replicate, sym, refl, ◌∙◌, subst, arith, inl, inr, get_or, length-append}
use Rattle.std.proofs.lemmas.Bool.{cases_lt}
use Rattle.std.proofs.lemmas.List.{get_or_append_left, get_or_past, get_or-replicate, length-replicate}
use Rattle.std.proofs.Math.Seq.{get_or-append_seam}
use mathlib.Core.Logic.{dite}
use native.Mathlib.Decide.{ℕ_discrete}
use Rattle.atomic_table.specs.Table.{opening}
use Rattle.atomic_table.specs.Seated.{TableId}
use Rattle.ref_words.specs.declared.answer.Stage.TheVariants.{Fresh}
use Rattle.count_rule.specs.declared.view.View.TheVariants.{Kernel}
use Rattle.count_rule.specs.Views.{fresh_counted}
use Rattle.count_rule.specs.Shows.{Shows, Holds}
use Rattle.count_rule.specs.Seats.{identity_of}
use Rattle.count_rule.proofs.Kept.{kept_fresh, fresh_none}

abbrev pub AllAre : {X : Type 0} → X → List X → Type 0
AllAre {X} z xs = (k : ℕ) (d : X) → k < length xs → get_or xs k d ≡ z

module _ {X : Type 0} where
  pub all_front : (z : X) (all xs : List X) (x : X) → all ≡ xs ++ x ∷ [] → AllAre z all → AllAre z xs
  all_front z all xs x is are k d inside =
      let whole = subst (AllAre z) is are in
      sym (get_or_append_left xs (x ∷ []) d k inside) ∙ whole k d (omega (arith, length-append xs (x ∷ [])))

  pub all_last : (z : X) (all xs : List X) (x : X) → all ≡ xs ++ x ∷ [] → AllAre z all → x ≡ z
  all_last z all xs x is are =
      let whole = subst (AllAre z) is are in
      sym (get_or-append_seam xs x [] x) ∙ whole (length xs) x (omega (arith, length-append xs (x ∷ [])))

  pub all_more : (z : X) (all xs : List X) (x : X) → all ≡ xs ++ x ∷ [] → AllAre z xs → x ≡ z → AllAre z all
  all_more z all xs x is are same = subst (AllAre z) (sym is)
      (λ k d inside. dite (ℕ_discrete k (length xs))
      (λ e. subst (λ (j : ℕ). get_or (xs ++ x ∷ []) j d ≡ z) (sym e) (get_or-append_seam xs x [] d ∙ same))
      (λ ne. let front : k < length xs = omega (arith, length-append xs (x ∷ [])) in get_or_append_left xs (x ∷ []) d k front ∙ are k d front))

-- an identity tells the table
pub identity_tells : (y z : TableId) → identity_of y ≡ identity_of z → y ≡ z
identity_tells y z e = λ i. record {
  words = (words_same y z e) i;
  slots = (slots_same y z e) i;
  views_name = (views_same y z e) i;
  atom = (atom_same y z e) i;
  block = (block_same y z e) i;
  offset = (offset_same y z e) i;
  slot_names = (names_same y z e) i;
}
  where
    words_same : (y z : TableId) → identity_of y ≡ identity_of z → y.words ≡ z.words
    words_same y z e = cc

    slots_same : (y z : TableId) → identity_of y ≡ identity_of z → y.slots ≡ z.slots
    slots_same y z e = cc

    views_same : (y z : TableId) → identity_of y ≡ identity_of z → y.views_name ≡ z.views_name
    views_same y z e = cc

    atom_same : (y z : TableId) → identity_of y ≡ identity_of z → y.atom ≡ z.atom
    atom_same y z e = cc

    block_same : (y z : TableId) → identity_of y ≡ identity_of z → y.block ≡ z.block
    block_same y z e = cc

    offset_same : (y z : TableId) → identity_of y ≡ identity_of z → y.offset ≡ z.offset
    offset_same y z e = cc

    names_same : (y z : TableId) → identity_of y ≡ identity_of z → y.slot_names ≡ z.slot_names
    names_same y z e = cc

fresh_stage : (n p : ℕ) → get_or (replicate n Fresh) p Fresh ≡ Fresh
fresh_stage n p = elim (cases_lt p n) [
  | inl inside ↦ get_or-replicate n p Fresh Fresh inside
  | inr past ↦ get_or_past (replicate n Fresh) p Fresh (rw length-replicate past)
]

fresh_shows : (n : ℕ) → Shows (fresh_counted n) (replicate n 0) (Kernel (fresh_counted n) ∷ [])
fresh_shows n = record {
  as_many = refl;
  late_sizes = refl;
  shown = λ p inside.
      let none = fresh_none n p in
      rw fresh_stage (omega arith, omega arith, omega arith, omega arith);
  are_notes = λ test. omega arith;
  kept = kept_fresh n;
  few_late = λ p. let none = fresh_none n p in omega arith;
  few_made = omega arith;
  closing = tt;
  joined = tt;
}

module _ {S : Type 0} where
  pub starts : (n : ℕ) (words : List ℕ) → words ≡ replicate n 0 → Holds (opening {S = S} words [] (Kernel (fresh_counted n)))
  starts n words is =
      subst (λ (ws : List ℕ). Holds (opening {S = S} ws [] (Kernel (fresh_counted n)))) (sym is) record
      { kernel = fresh_counted n; seated = refl; shows = fresh_shows n }
