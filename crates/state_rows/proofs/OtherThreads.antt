-- A change of one thread's rows leaves what the others' say.
use Rattle.std.proofs.Common.{◌≡◌, ◌≢◌, ℕ, Bool, true, false, List, get_or, set, refl, sym, ap, ◌∙◌, get_or-set_other}
use Rattle.std.specs.Prelude.{Option, Some, None, if◌then◌else◌}
use Rattle.sym_base.specs.declared.number.ObjNo.{ObjNo}
use Rattle.state_rows.specs.declared.nano.NanoRows.{NanoRows}
use Rattle.state_rows.specs.Nano.{is_thread, holder_of, held_by, is_holder}
use Rattle.state_rows.specs.NanoChanges.{after_take, after_give}
use Rattle.state_rows.proofs.Soundness.{is_thread-true}
use Rattle.state_rows.proofs.HeldMutexes.{other_thread, held_by-other}

-- another thread holds what it held when a thread takes a fast mutex
pub held_by-after_take : (r : NanoRows) (t u : ObjNo) (f : ℕ) → u ≢ t → held_by (after_take r t f) u ≡ held_by r u
held_by-after_take r t u f apart = by (holder_of r f) refl
  where
    by : (holder : Option ObjNo) → holder_of r f ≡ holder → held_by (after_take r t f) u ≡ held_by r u
    by (Some v) is = rw is refl
    by None is = rw is (held_by-other r u f (Some t) (other_thread t u apart ∙ sym (ap (is_thread u) is)))

-- and when a thread gives one up
pub held_by-after_give : (r : NanoRows) (t u : ObjNo) (f : ℕ) → u ≢ t → held_by (after_give r t f) u ≡ held_by r u
held_by-after_give r t u f apart = by (is_holder r t f) refl
  where
    by : (b : Bool) → is_holder r t f ≡ b → held_by (record r { holders = if b then set r.holders f None else r.holders }) u ≡ held_by r u
    by false is = refl
    by true is = held_by-other r u f None (sym (ap (is_thread u) (is_thread-true t (holder_of r f) is) ∙ other_thread t u apart))

-- a count of another thread
pub count-other : (counts : List ℕ) (t u : ObjNo) (n : ℕ) → u ≢ t → get_or (set counts t.0 n) u.0 0 ≡ get_or counts u.0 0
count-other counts t u n apart =
    let named : ℕ → ObjNo = λ m. record { 0 = m } in
    get_or-set_other counts t.0 u.0 n 0 (λ e. apart (ap named e))
