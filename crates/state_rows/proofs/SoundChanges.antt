-- Each change keeps the rows of threads that synchronize sound.
use Rattle.std.proofs.Common.{◌≡◌, ℕ, ◌+◌, ◌-◌, ◌<◌, ◌≤◌, zero, suc, Bool, true, false, List, [], ◌∷◌, length, get_or, set, refl, sym, ap, ◌∙◌, arith, length-set}
use Rattle.std.specs.Prelude.{◌==◌, Option, Some, None, if◌then◌else◌}
use Rattle.sym_base.specs.declared.number.ObjNo.{ObjNo}
use Rattle.state_rows.specs.declared.nano.NanoRows.{NanoRows}
use Rattle.state_rows.specs.Nano.{suspend_count, holder_of, held_by, is_holder}
use Rattle.state_rows.specs.NanoChanges.{after_take, after_give, after_want, after_suspend, after_resume, after_resume_all}
use Rattle.state_rows.specs.NanoSound.{AreNanoRows}
use Rattle.state_rows.proofs.Soundness.{sound_taken}

-- what holds of a new item, and of the old one at an index, holds of the item there then
pub set_item : {X : Type 0} (P : X → Type 0) (xs : List X) (i j : ℕ) (y d : X) → (j ≡ i → P y) → P (get_or xs j d) → P (get_or (set xs i y) j d)
set_item P [] i j y d new old = old
set_item P (x ∷ xs) zero zero y d new old = new refl
set_item P (x ∷ xs) zero (suc j) y d new old = old
set_item P (x ∷ xs) (suc i) zero y d new old = old
set_item P (x ∷ xs) (suc i) (suc j) y d new old = set_item P xs i j y d (λ e. new (ap suc e)) old

-- other counts of signals, as many as there were
pub sound-signals : (r : NanoRows) (signals : List ℕ) → length signals ≡ length r.signals → AreNanoRows r → AreNanoRows (record r { signals = signals })
sound-signals r signals long sound = record {
  suspensions_sized = sound.suspensions_sized ∙ sym long;
  sections_sized = sound.sections_sized ∙ sym long;
  wants_sized = sound.wants_sized ∙ sym long;
  few = sound.few;
  wants_known = sound.wants_known;
  holders_known = λ f t is. let known = sound.holders_known f t is in omega arith;
  limited = sound.limited;
  one_each = sound.one_each;
}

-- other critical counts
pub sound-sections : (r : NanoRows) (sections : List ℕ) → length sections ≡ length r.sections → AreNanoRows r → AreNanoRows (record r { sections = sections })
sound-sections r sections long sound = record {
  suspensions_sized = sound.suspensions_sized;
  sections_sized = long ∙ sound.sections_sized;
  wants_sized = sound.wants_sized;
  few = sound.few;
  wants_known = sound.wants_known;
  holders_known = sound.holders_known;
  limited = sound.limited;
  one_each = sound.one_each;
}

-- another suspend count, of at most 127
sound-suspensions : (r : NanoRows) (t : ObjNo) (n : ℕ) → n ≤ 127 → AreNanoRows r → AreNanoRows (record r { suspensions = set r.suspensions t.0 n })
sound-suspensions r t n few sound = record {
  suspensions_sized = length-set r.suspensions t.0 n ∙ sound.suspensions_sized;
  sections_sized = sound.sections_sized;
  wants_sized = sound.wants_sized;
  few = sound.few;
  wants_known = sound.wants_known;
  holders_known = sound.holders_known;
  limited = λ u. set_item (λ (count : ℕ). count ≤ 127) r.suspensions t.0 u.0 n 0 (λ _. few) (sound.limited u);
  one_each = sound.one_each;
}

pub sound-suspend : (r : NanoRows) (t : ObjNo) → suspend_count r t < 127 → AreNanoRows r → AreNanoRows (after_suspend r t)
sound-suspend r t few sound = by (suspend_count r t == 127)
  where
    by : (b : Bool) → AreNanoRows (record r { suspensions = if b then r.suspensions else set r.suspensions t.0 (suspend_count r t + 1) })
    by true = sound
    by false = sound-suspensions r t (suspend_count r t + 1) (omega arith) sound

pub sound-resume : (r : NanoRows) (t : ObjNo) → AreNanoRows r → AreNanoRows (after_resume r t)
sound-resume r t sound = sound-suspensions r t (suspend_count r t - 1) (let few = sound.limited t in omega arith) sound

pub sound-resume_all : (r : NanoRows) (t : ObjNo) → AreNanoRows r → AreNanoRows (after_resume_all r t)
sound-resume_all r t sound = sound-suspensions r t 0 (omega arith) sound

-- a fast mutex that a thread wants is one of the fast mutexes
pub sound-want : (r : NanoRows) (t : ObjNo) (want : Option ℕ) → ((f : ℕ) → want ≡ Some f → f < length r.holders)
    → AreNanoRows r → AreNanoRows (after_want r t want)
sound-want r t want known sound = record {
  suspensions_sized = sound.suspensions_sized;
  sections_sized = sound.sections_sized;
  wants_sized = length-set r.wants t.0 want ∙ sound.wants_sized;
  few = sound.few;
  wants_known = λ u f. set_item (λ (w : Option ℕ). w ≡ Some f → f < length r.holders) r.wants t.0 u.0 want None (λ _. known f) (sound.wants_known u f);
  holders_known = sound.holders_known;
  limited = sound.limited;
  one_each = sound.one_each;
}

-- a free fast mutex is taken by a thread that holds none
pub sound-take : (r : NanoRows) (t : ObjNo) (f : ℕ) → t.0 < length r.signals → f < length r.holders
    → holder_of r f ≡ None → held_by r t ≡ None → AreNanoRows r → AreNanoRows (after_take r t f)
sound-take r t f known inside free none sound = rw free (sound_taken r t f sound known inside none)

-- whoever holds a fast mutex then held it before
pub was_holder : (r : NanoRows) (f g : ℕ) (u : ObjNo) → holder_of (record r { holders = set r.holders f None }) g ≡ Some u → holder_of r g ≡ Some u
was_holder r f g u = set_item (λ (h : Option ObjNo). h ≡ Some u → holder_of r g ≡ Some u) r.holders f g None None (λ _ is. absurd (cc)) (λ is. is)

-- a fast mutex is given up
pub sound-give : (r : NanoRows) (t : ObjNo) (f : ℕ) → AreNanoRows r → AreNanoRows (after_give r t f)
sound-give r t f sound = by (is_holder r t f)
  where
    by : (b : Bool) → AreNanoRows (record r { holders = if b then set r.holders f None else r.holders })
    by false = sound
    by true = let long = length-set r.holders f None in record {
      suspensions_sized = sound.suspensions_sized;
      sections_sized = sound.sections_sized;
      wants_sized = sound.wants_sized;
      few = let few = sound.few in omega arith;
      wants_known = λ u g is. let known = sound.wants_known u g is in omega arith;
      holders_known = λ g u is. sound.holders_known g u (was_holder r f g u is);
      limited = sound.limited;
      one_each = λ g h u is other. sound.one_each g h u (was_holder r f g u is) (was_holder r f h u other);
    }
