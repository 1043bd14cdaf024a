-- Each call keeps reference counts sound.
use Rattle.std.proofs.Common.{◌≡◌, ◌≢◌, ℕ, ◌+◌, ◌-◌, ◌∙◌, ◌<◌, ◌^◌, List, length, refl, sym, ap, subst, arith, inl, inr, get_or, set, length-set, get_or-set_other, get_or-set_same}
use Rattle.std.proofs.lemmas.List.{get_or_past}
use Rattle.std.proofs.lemmas.Grind.{common_steps}
use Rattle.ref_words.specs.declared.slip.Slip.{Slip}
use Rattle.ref_words.specs.declared.answer.Found.TheVariants.{Held, Dead}
use Rattle.ref_words.specs.declared.answer.Closed.TheVariants.{Stays, Last}
use Rattle.ref_words.specs.declared.answer.Stage.{Stage}
use Rattle.ref_words.specs.declared.answer.Stage.TheVariants.{Fresh, InUse, Gone}
use Rattle.ref_words.specs.Words.{Words, own_at, stage_at, IsFresh, IsCreated, IsGone, IsOut, created, opened, sent_out, taken_back, closed, without}
use Rattle.ref_words.specs.Plain.{IsSound}
use Rattle.ref_words.proofs.Notes.{notes_all, notes_append, copies_append, copies_without, copies_out, length_without, notes_without, notes_without_itself, out-before_take, out-before_send, same_slip-true}
use Rattle.std.proofs.lemmas.Bool.{cases_Bool, cases_eq, eqb-true}
use Rattle.std.proofs.Common.{eqb}
use Rattle.ref_words.specs.Words.{same_slip}

pub sound_created : (w : Words) (p : ℕ) → IsSound w → IsFresh w p → IsSound (created w p)
sound_created w p s fresh = record {
  sizes = simp length-set (s.sizes);
  in_use = λ q h. grind (arith, common_steps);
  counted = λ q h. grind (arith, common_steps);
  few = s.few;
  out_created = λ n out. let made = s.out_created n out in grind (arith, common_steps);
  numbered = s.numbered;
  once = s.once;
  unmade = λ none. let here = none p in grind (arith, common_steps);
  small = λ q. let old = s.small q in let few = notes_all q w.out in grind (arith, common_steps);
}

pub sound_opened : (w : Words) (p : ℕ) → IsSound w → 0 < own_at w p → own_at w p < 2 ^ 31 → IsSound (opened w p)
sound_opened w p s known low = record {
  sizes = simp length-set (s.sizes);
  in_use = λ q h. grind (arith, common_steps);
  counted = λ q h. grind (arith, common_steps);
  few = s.few;
  out_created = s.out_created;
  numbered = s.numbered;
  once = s.once;
  unmade = s.unmade;
  small = λ q. let old = s.small q in let few = notes_all q w.out in grind (arith, common_steps);
}

-- the place of a note that is out is one of the words
pub placed : (w : Words) (n : Slip) → IsSound w → IsOut w n → n.place < length w.own
placed w n s out = let made = s.out_created n out in let past = get_or_past w.stages n.place Fresh in grind arith

pub sound_sent : (w : Words) (p : ℕ) → IsSound w → IsCreated w p → own_at w p < 2 ^ 31 → length w.out < 64 → IsSound (sent_out w p)
sound_sent w p s made low few = record {
  sizes = s.sizes;
  in_use = s.in_use;
  counted = s.counted;
  few = grind (arith, common_steps);
  out_created = λ n out. elim (out-before_send w p n out) [
    | inl before ↦ s.out_created n before
    | inr is ↦ let here : p ≡ n.place = ap (λ x. x.place) is in rw (← here) made
  ];
  numbered = λ n above. let old = s.numbered n (omega arith) in
      elim (cases_Bool (same_slip (record { place = p; number = w.made + 1 }) n)) [
        | inl same ↦
            let is : w.made + 1 ≡ n.number = ap (λ x. x.number)
            (same_slip-true (record { place = p; number = w.made + 1 }) n same) in
            absurd (omega arith)
        | inr other ↦ rw (copies_append, other) (omega arith)
      ];
  once = λ n. let old = s.once n in
      elim (cases_Bool (same_slip (record { place = p; number = w.made + 1 }) n)) [
        | inl same ↦
            let is : w.made + 1 ≡ n.number = ap (λ x. x.number) (same_slip-true (record { place = p; number = w.made + 1 }) n same) in
            let none = s.numbered n (omega arith) in
            rw (copies_append, same) (omega arith)
        | inr other ↦ rw (copies_append, other) (omega arith)
      ];
  unmade = λ none. absurd (made (none p));
  small = λ q. let old = s.small q in let all = notes_all q w.out in
      elim (cases_Bool (eqb p q)) [
        | inl here ↦ let is = eqb-true p q here in rw (notes_append, here) (grind arith)
        | inr there ↦ rw (notes_append, there) (omega arith)
      ];
}

pub sound_held : (w : Words) (n : Slip) → IsSound w → IsOut w n → 0 < own_at w n.place → IsSound (taken_back Held w n)
sound_held w n s out known = record {
  sizes = simp length-set (s.sizes);
  in_use = λ q h. grind (arith, common_steps);
  counted = λ q h. grind (arith, common_steps);
  few = omega (arith, s.few, length_without n w.out);
  out_created = λ m still. s.out_created m (out-before_take Held w m n still);
  numbered = λ m above. omega (arith, s.numbered m above, copies_without m n w.out);
  once = λ m. omega (arith, s.once m, copies_without m n w.out);
  unmade = s.unmade;
  small = λ q. let old = s.small q in let all = notes_without q n w.out in let fewer = notes_without_itself n w.out out in grind (arith, common_steps);
}

pub sound_dead : (w : Words) (n : Slip) → IsSound w → IsSound (taken_back Dead w n)
sound_dead w n s = record {
  sizes = s.sizes;
  in_use = s.in_use;
  counted = s.counted;
  few = omega (arith, s.few, length_without n w.out);
  out_created = λ m still. s.out_created m (out-before_take Dead w m n still);
  numbered = λ m above. omega (arith, s.numbered m above, copies_without m n w.out);
  once = λ m. omega (arith, s.once m, copies_without m n w.out);
  unmade = s.unmade;
  small = λ q. omega (arith, s.small q, notes_without q n w.out);
}

-- one note fewer is out
pub fewer : (w : Words) (n : Slip) → IsSound w → IsOut w n → length (without n w.out) + 1 ≡ length w.out
fewer w n s out = omega (arith, length_without n w.out, copies_out w.out n out, s.once n)

-- a created place that isn't in use is gone
pub gone : (w : Words) (p : ℕ) → IsSound w → IsCreated w p → own_at w p ≡ 0 → IsGone w p
gone w p s made none = gone_stage (stage_at w p) made (λ h. omega (arith, s.counted p h))
  where
    gone_stage : (stage : Stage) → stage ≢ Fresh → stage ≢ InUse → stage ≡ Gone
    gone_stage Fresh a b = absurd (a refl)
    gone_stage InUse a b = absurd (b refl)
    gone_stage Gone a b = refl

-- a place with a count is one of the words
pub known_placed : (own : List ℕ) (p : ℕ) → 0 < get_or own p 0 → p < length own
known_placed own p known = let past = get_or_past own p 0 in grind arith

-- a reference goes, and others stay
pub sound_closed : (w : Words) (p : ℕ) → IsSound w → 1 < own_at w p → IsSound (closed Stays w p)
sound_closed w p s more = record {
  sizes = simp length-set (s.sizes);
  in_use = λ q h. let here = s.in_use p (omega arith) in grind (arith, common_steps);
  counted = λ q h. let old = s.counted q h in grind (arith, common_steps);
  few = s.few;
  out_created = s.out_created;
  numbered = s.numbered;
  once = s.once;
  unmade = s.unmade;
  small = λ q. let old = s.small q in grind (arith, common_steps);
}

-- the last reference goes, and the place is gone
pub sound_closed_last : (w : Words) (p : ℕ) → IsSound w → own_at w p ≡ 1 → IsSound (closed Last w p)
sound_closed_last w p s one =
    let inside : p < length w.stages = (let own = known_placed w.own p (omega arith) in let sizes = s.sizes in omega arith) in
    record {
      sizes = simp length-set (s.sizes);
      in_use = λ q h. grind (arith, common_steps);
      counted = λ q h. elim (cases_eq q p) as (λ _. 0 < get_or (set w.own p (own_at w p - 1)) q 0) [
        | inl here ↦ (let gone : get_or (set w.stages p Gone) q Fresh ≡ Gone = rw here (get_or-set_same w.stages p Gone Fresh inside) in absurd (cc))
        | inr there ↦
            subst (λ (n : ℕ). 0 < n) (sym (get_or-set_other w.own p q (own_at w p - 1) 0 there))
            (s.counted q (sym (get_or-set_other w.stages p q Gone Fresh there) ∙ h))
      ];
      few = s.few;
      out_created = λ n out. let made = s.out_created n out in grind (arith, common_steps);
      numbered = s.numbered;
      once = s.once;
      unmade = λ none. let clash : Gone ≡ Fresh = sym (get_or-set_same w.stages p Gone Fresh inside) ∙ none p in absurd (cc);
      small = λ q. let old = s.small q in grind (arith, common_steps);
    }
