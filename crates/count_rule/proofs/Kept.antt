-- What counts and notes keep, through each change.
use Rattle.std.proofs.Common.{◌≡◌, ℕ, ◌+◌, ◌<◌, List, [], length, replicate, refl, ap, arith, inl, inr, eqb, get_or, length-set}
use Rattle.std.proofs.lemmas.Bool.{cases_Bool, eqb-true, cases_lt}
use Rattle.std.proofs.lemmas.List.{get_or_past, get_or-replicate, length-replicate}
use Rattle.std.proofs.lemmas.Grind.{common_steps}
use Rattle.ref_words.specs.declared.slip.Slip.{Slip}
use Rattle.ref_words.specs.declared.answer.Found.TheVariants.{Held, Dead}
use Rattle.ref_words.specs.declared.answer.Stage.TheVariants.{Fresh, InUse}
use Rattle.ref_words.specs.declared.answer.Closed.TheVariants.{Stays, Last}
use Rattle.ref_words.specs.Words.{Words, own_at, stage_at, IsFresh, IsCreated, IsOut, created, opened, sent_out, taken_back, closed, without, same_slip}
use Rattle.ref_words.proofs.Notes.{notes_all, notes_append, copies_append, copies_without, copies_out, length_without, notes_without, notes_without_itself, out-before_take, out-before_send, same_slip-true}
use Rattle.count_rule.specs.Views.{words_of, fresh_counted}
use Rattle.count_rule.specs.Shows.{IsKept}

-- it doesn't speak of the identity
pub kept_under : (w : Words) (identity : List ℕ) → IsKept w → IsKept (record w { identity = identity })
kept_under w identity s = record {
  sizes = s.sizes;
  in_use = s.in_use;
  few = s.few;
  out_created = s.out_created;
  numbered = s.numbered;
  once = s.once;
  unmade = s.unmade;
  small = s.small;
}

pub fresh_none : (n p : ℕ) → ◌≡◌ {A = ℕ} (get_or (replicate n 0) p 0) 0
fresh_none n p = elim (cases_lt p n) [
  | inl inside ↦ get_or-replicate n p 0 0 inside
  | inr past ↦ get_or_past (replicate n 0) p 0 (rw length-replicate past)
]

pub kept_fresh : (n : ℕ) → IsKept (words_of [] (fresh_counted n))
kept_fresh n = record {
  sizes = rw (length-replicate n Fresh, length-replicate {A = ℕ} n 0) refl;
  in_use = λ p h. let none = fresh_none n p in absurd (omega arith);
  few = omega arith;
  out_created = λ s out. absurd (cc);
  numbered = λ s h. refl;
  once = λ s. omega arith;
  unmade = λ none. refl;
  small = λ p. let none = fresh_none n p in omega arith;
}

pub kept_created : (w : Words) (p : ℕ) → IsKept w → IsFresh w p → IsKept (created w p)
kept_created w p s fresh = record {
  sizes = simp length-set (s.sizes);
  in_use = λ q h. let old = s.in_use q in grind (arith, common_steps);
  few = s.few;
  out_created = λ n out. let made = s.out_created n out in grind (arith, common_steps);
  numbered = s.numbered;
  once = s.once;
  unmade = λ none. let here = none p in grind (arith, common_steps);
  small = λ q. let old = s.small q in let few = notes_all q w.out in let all = s.few in grind (arith, common_steps);
}

pub kept_opened : (w : Words) (p : ℕ) → IsKept w → 0 < own_at w p → own_at w p < 2147483648 → IsKept (opened w p)
kept_opened w p s known low = record {
  sizes = simp length-set (s.sizes);
  in_use = λ q h. let old = s.in_use q in let here = s.in_use p known in grind (arith, common_steps);
  few = s.few;
  out_created = s.out_created;
  numbered = s.numbered;
  once = s.once;
  unmade = s.unmade;
  small = λ q. let old = s.small q in let few = notes_all q w.out in let all = s.few in grind (arith, common_steps);
}

-- the place of a note that is out is one of the words
pub placed : (w : Words) (n : Slip) → IsKept w → IsOut w n → n.place < length w.own
placed w n s out = let made = s.out_created n out in let past = get_or_past w.stages n.place Fresh in let sizes = s.sizes in grind arith

-- so is a place with an own count, and a created one
pub known_placed : (own : List ℕ) (p : ℕ) → 0 < get_or own p 0 → p < length own
known_placed own p known = let past = get_or_past own p 0 in grind arith

pub created_placed : (w : Words) (p : ℕ) → IsKept w → IsCreated w p → p < length w.own
created_placed w p s made = let past = get_or_past w.stages p Fresh in let sizes = s.sizes in grind arith

pub kept_sent : (w : Words) (p : ℕ) → IsKept w → IsCreated w p → own_at w p < 2147483648 → length w.out < 64 → IsKept (sent_out w p)
kept_sent w p s made low few = record {
  sizes = s.sizes;
  in_use = s.in_use;
  few = grind (arith, common_steps);
  out_created = λ n out. elim (out-before_send w p n out) [
    | inl before ↦ s.out_created n before
    | inr is ↦ let here : p ≡ n.place = ap (λ x. x.place) is in rw (← here) made
  ];
  numbered = λ n above. let old = s.numbered n (omega arith) in
      elim (cases_Bool (same_slip (record { place = p; number = w.made + 1 }) n)) [
        | inl same ↦
            let is : w.made + 1 ≡ n.number = ap (λ x. x.number)
            (same_slip-true (record { place = p; number = w.made + 1 }) n same) in
            absurd (omega arith)
        | inr other ↦ rw (copies_append, other) (omega arith)
      ];
  once = λ n. let old = s.once n in
      elim (cases_Bool (same_slip (record { place = p; number = w.made + 1 }) n)) [
        | inl same ↦
            let is : w.made + 1 ≡ n.number = ap (λ x. x.number) (same_slip-true (record { place = p; number = w.made + 1 }) n same) in
            let none = s.numbered n (omega arith) in
            rw (copies_append, same) (omega arith)
        | inr other ↦ rw (copies_append, other) (omega arith)
      ];
  unmade = λ none. absurd (made (none p));
  small = λ q. let old = s.small q in let all = notes_all q w.out in
      elim (cases_Bool (eqb p q)) [
        | inl here ↦ let is = eqb-true p q here in rw (notes_append, here) (grind arith)
        | inr there ↦ rw (notes_append, there) (omega arith)
      ];
}

pub kept_held : (w : Words) (n : Slip) → IsKept w → IsOut w n → stage_at w n.place ≡ InUse → IsKept (taken_back Held w n)
kept_held w n s out used = record {
  sizes = simp length-set (s.sizes);
  in_use = λ q h. let old = s.in_use q in grind (arith, common_steps);
  few = omega (arith, s.few, length_without n w.out);
  out_created = λ m still. s.out_created m (out-before_take Held w m n still);
  numbered = λ m above. omega (arith, s.numbered m above, copies_without m n w.out);
  once = λ m. omega (arith, s.once m, copies_without m n w.out);
  unmade = s.unmade;
  small = λ q. let old = s.small q in let all = notes_without q n w.out in let fewer = notes_without_itself n w.out out in grind (arith, common_steps);
}

pub kept_dead : (w : Words) (n : Slip) → IsKept w → IsKept (taken_back Dead w n)
kept_dead w n s = record {
  sizes = s.sizes;
  in_use = s.in_use;
  few = omega (arith, s.few, length_without n w.out);
  out_created = λ m still. s.out_created m (out-before_take Dead w m n still);
  numbered = λ m above. omega (arith, s.numbered m above, copies_without m n w.out);
  once = λ m. omega (arith, s.once m, copies_without m n w.out);
  unmade = s.unmade;
  small = λ q. omega (arith, s.small q, notes_without q n w.out);
}

pub kept_closed : (w : Words) (p : ℕ) → IsKept w → 0 < own_at w p → IsKept (closed Stays w p)
kept_closed w p s known = record {
  sizes = simp length-set (s.sizes);
  in_use = λ q h. let old = s.in_use q in let here = s.in_use p known in grind (arith, common_steps);
  few = s.few;
  out_created = s.out_created;
  numbered = s.numbered;
  once = s.once;
  unmade = s.unmade;
  small = λ q. let old = s.small q in grind (arith, common_steps);
}

pub kept_closed_last : (w : Words) (p : ℕ) → IsKept w → own_at w p ≡ 1 → IsKept (closed Last w p)
kept_closed_last w p s one = record {
  sizes = simp length-set (s.sizes);
  in_use = λ q h. let old = s.in_use q in grind (arith, common_steps);
  few = s.few;
  out_created = λ n out. let made = s.out_created n out in grind (arith, common_steps);
  numbered = s.numbered;
  once = s.once;
  unmade = λ none. let here = none p in let old = s.in_use p (omega arith) in grind (arith, common_steps);
  small = λ q. let old = s.small q in grind (arith, common_steps);
}

-- one note fewer is out
pub fewer : (w : Words) (n : Slip) → IsKept w → IsOut w n → length (without n w.out) + 1 ≡ length w.out
fewer w n s out = omega (arith, length_without n w.out, copies_out w.out n out, s.once n)
