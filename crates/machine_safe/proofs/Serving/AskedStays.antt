-- What an action leaves of what a thread's next step asks of the state, where another thread goes on: a status that isn't pending, the fast mutex that it
-- wants, and the kind of what it uses or found.
use Rattle.machine.specs.Kept.{dies}
use Rattle.std.proofs.Common.{Bool, List, None, Option, Some, [], ap, arith, false, get_or, get_or-set_other, inl, inr, subst, sym, true, refl, ℕ, ◌<◌, ◌≤◌, ◌∙◌, ◌∷◌, ◌≡◌, ◌⊎◌, ℤ}
use Rattle.std.proofs.lemmas.Bool.{cases_eq}
use Rattle.std.specs.Ordering.{int_eq}
use Rattle.std.specs.Prelude.{is_some, if◌then◌else◌, slice_set}
use Rattle.sym_base.specs.declared.kind.Kind.{Kind}
use Rattle.sym_base.specs.declared.number.ObjNo.{ObjNo}
use Rattle.script_types.specs.declared.script.Script.{Script}
use Rattle.state_rows.specs.Nano.{want_of}
use Rattle.state_rows.specs.Requests.{is_pending, pending, request_at}
use Rattle.state_rows.specs.declared.object.ObjectRow.{ObjectRow}
use Rattle.state_rows.specs.declared.requests.Request.{Request}
use Rattle.state_rows.proofs.SoundChanges.{set_item}
use Rattle.state_rows.proofs.SoundRequests.{status_item}
use Rattle.machine.specs.Fits.{EachFits, FitsMove}
use Rattle.machine.specs.Moves.{moved, new_object, next_object, objects_closed, perform}
use Rattle.machine.specs.Rows.{object_of}
use Rattle.machine.specs.References.{total}
use Rattle.machine.specs.declared.moves.Move.{Move}
use Rattle.machine.specs.declared.moves.Move.TheVariants.{Lose, Make, Nano, Pay, Requests}
use Rattle.machine.specs.declared.nano_move.NanoMove.TheVariants.{Release, Take, Want}
use Rattle.machine.specs.declared.request_move.RequestMove.{RequestMove}
use Rattle.machine.specs.declared.request_move.RequestMove.TheVariants.{Begin, Complete, DropAll, SetPending, Signal}
use Rattle.machine.specs.declared.state.State.{State}
use Rattle.machine_laws.proofs.Fitting.Regular.{doomed_bit}
use Rattle.machine_safe.proofs.Serving.Course.{FoundOf, IsOfKind, IsUnset}
use Rattle.machine_safe.proofs.Serving.ObjectKinds.{closed-was}
use Rattle.machine_safe.proofs.Serving.KeptRows.{next-unmade, objects-closed}
use Rattle.move_laws.proofs.Lists.Mapped.{made-here, made-other}
use Rattle.move_laws.proofs.Lives.NewObjects.{made-other as new-other, next_number_is}
use Rattle.move_laws.proofs.Lives.Places.{either-made}
use Rattle.state_rows.specs.ObjectRows.{dead_row, with_object}
use Rattle.state_rows.specs.declared.duty.Owed.{Owed}
use Rattle.state_rows.specs.declared.duty.Owed.TheVariants as duty
use Rattle.machine_safe.proofs.Serving.Proper.{AreProper, Going, IsProper, goes_on, is_kind, onward}
use Rattle.move_laws.proofs.References.Same.{same_object}
use Rattle.move_laws.proofs.RowLaws.Requests.{device_is, dropped}

-- a thread that goes on is another
other-thread : (by : Option ObjNo) (v u : ObjNo) → by ≡ Some v → (by ≡ Some u → ⊥) → u.0 ≡ v.0 → ⊥
other-thread by v u is apart at = apart (is ∙ ap Some (same_object v u (sym at)))

-- a status that isn't pending, nor a device's
abbrev of_status : ObjNo → ℕ → Request
of_status t s = record { thread = t; status = s }

another : (u v : ObjNo) (s x : ℕ) → (u.0 ≡ v.0 → s ≡ x → ⊥) → of_status v x ≡ of_status u s → ⊥
another u v s x apart same = apart (ap (λ (r : Request). r.thread.0) (sym same)) (ap (λ (r : Request). r.status) (sym same))

unset-move : (by : Going) (m : RequestMove) (ms : List Move) (script : Script) (S : State) (t u : ObjNo) (s : ℕ)
    → FitsMove script t (Requests m) S → IsProper script by (Requests m) ms → (goes_on by ≡ Some u → ⊥)
    → IsUnset S.synchronization.requests u s → IsUnset (moved t (Requests m) S).synchronization.requests u s
unset-move by (Begin d v x) ms script S t u s fits proper apart was =
    let r = S.synchronization.requests in
    let other = other-thread (goes_on by) v u proper apart in
    record {
      done = status_item (λ (value : ℤ). int_eq value pending ≡ false) r.statuses v x pending u s (λ at same. absurd (other at)) was.done;
      free = λ e is. begun e (is_some (request_at r d)) is;
    }
  where
    begun : (e : ℕ) (had : Bool)
        → get_or (if had then S.synchronization.requests.devices else slice_set S.synchronization.requests.devices d
        (Some (of_status v x))) e None ≡ Some (of_status u s)
        → ⊥
    begun e true is = was.free e is
    begun e false is = elim (device_is S.synchronization.requests.devices d (Some (of_status v x)) e (of_status u s) is) as (λ _. ⊥) [
      | inl here ↦
          let same : of_status v x ≡ of_status u s = (let both = here.1 in cc) in
          another u v s x (λ at e. other-thread (goes_on by) v u proper apart at) same
      | inr had ↦ was.free e had
    ]
unset-move by (Complete d v x code) ms script S t u s fits proper apart was =
    let r = S.synchronization.requests in
    let other : u.0 ≡ v.0 → s ≡ x → ⊥ = λ at same. was.free d
    (fits.0.1 ∙ ap Some (ap (λ (w : ObjNo). of_status w x) (same_object v u (sym at)) ∙ ap (of_status u) (sym same))) in
    record {
      done = status_item (λ (value : ℤ). int_eq value pending ≡ false) r.statuses v x code u s (λ at same. absurd (other at same)) was.done;
      free = λ e is. elim (device_is r.devices d None e (of_status u s) is) as (λ _. ⊥) [
        | inl here ↦ let none = here.1 in cc
        | inr had ↦ was.free e had
      ];
    }
unset-move by (SetPending v x) ms script S t u s fits proper apart was =
    let r = S.synchronization.requests in
    let other = other-thread (goes_on by) v u proper apart in
    record {
      done =
          status_item (λ (value : ℤ). int_eq value pending ≡ false) r.statuses v x pending u s
          (λ at same. absurd (other at)) was.done;
      free = was.free;
    }
unset-move by (Signal v x code) ms script S t u s fits proper apart was =
    let r = S.synchronization.requests in
    let waits = fits.0.0.waits in
    let other : u.0 ≡ v.0 → s ≡ x → ⊥ = λ at same.
    let own : is_pending r u s ≡ true = ap (λ (w : ObjNo). is_pending r w s) (same_object u v at) ∙ (ap (is_pending r v) same ∙ waits) in
    let not = was.done in cc in
    record {
      done =
          status_item (λ (value : ℤ). int_eq value pending ≡ false) r.statuses v x code u s
          (λ at same. absurd (other at same)) was.done;
      free = was.free;
    }
unset-move by (DropAll v) ms script S t u s fits proper apart was = record {
  done = was.done;
  free = λ e is. was.free e (dropped v S.synchronization.requests.devices e (of_status u s) is);
}
unset-move by m ms script S t u s fits proper apart was = record { done = was.done; free = was.free }

pub unset-each : (script : Script) (S : State) (t : ObjNo) (ms : List Move) (by : Going) (u : ObjNo) (s : ℕ)
    → EachFits script t ms S → AreProper script by ms → (goes_on by ≡ Some u → ⊥)
    → IsUnset S.synchronization.requests u s → IsUnset (perform t ms S).synchronization.requests u s
unset-each script S t [] by u s fits proper apart was = was
unset-each script S t (Requests m ∷ ms) by u s fits proper apart was =
    unset-each script (moved t (Requests m) S) t ms (onward by (Requests m)) u s fits.1 proper.1 apart
    (unset-move by m ms script S t u s fits.0 proper.0 apart was)
unset-each script S t (Pay what ∷ ms) by u s fits proper apart was = absurd fits.0
unset-each script S t (m ∷ ms) by u s fits proper apart was = unset-each script (moved t m S) t ms (onward by m) u s fits.1 proper.1 apart was

-- the fast mutex that a thread wants
want-set : (wants : List (Option ℕ)) (v u : ObjNo) (f : Option ℕ) → (u.0 ≡ v.0 → ⊥)
    → is_some (get_or wants u.0 None) ≡ true → is_some (get_or (slice_set wants v.0 f) u.0 None) ≡ true
want-set wants v u f apart is = ap is_some (get_or-set_other wants v.0 u.0 f None apart) ∙ is

pub want-each : (script : Script) (S : State) (t : ObjNo) (ms : List Move) (by : Going) (u : ObjNo)
    → EachFits script t ms S → AreProper script by ms → (goes_on by ≡ Some u → ⊥) → total (doomed_bit u) ms ≡ 0
    → is_some (want_of S.synchronization.nano u) ≡ true
    → is_some (want_of (perform t ms S).synchronization.nano u) ≡ true
want-each script S t [] by u fits proper apart undoomed is = is
want-each script S t (Nano (Take v f) ∷ ms) by u fits proper apart undoomed is =
    want-each script (moved t (Nano (Take v f)) S) t ms (onward by (Nano (Take v f))) u fits.1 proper.1 apart
    (omega arith) (want-set S.synchronization.nano.wants v u None (other-thread (goes_on by) v u proper.0 apart) is)
want-each script S t (Nano (Want v f) ∷ ms) by u fits proper apart undoomed is =
    want-each script (moved t (Nano (Want v f)) S) t ms (onward by (Nano (Want v f))) u fits.1 proper.1 apart
    (omega arith) (want-set S.synchronization.nano.wants v u f (other-thread (goes_on by) v u proper.0.0 apart) is)
want-each script S t (Nano (Release v) ∷ ms) by u fits proper apart undoomed is =
    let doomed = proper.0 in
    let other : u.0 ≡ v.0 → ⊥ = λ at.
    let same : 0 < total (doomed_bit u) ms = subst (λ (x : ObjNo). 0 < total (doomed_bit x) ms) (same_object v u (sym at)) doomed in omega arith in
    want-each script (moved t (Nano (Release v)) S) t ms (onward by (Nano (Release v))) u fits.1 proper.1 apart
    (omega arith) (want-set S.synchronization.nano.wants v u None other is)
want-each script S t (Nano m ∷ ms) by u fits proper apart undoomed is =
    want-each script (moved t (Nano m) S) t ms (onward by (Nano m)) u fits.1 proper.1 apart (omega arith) is
want-each script S t (Pay what ∷ ms) by u fits proper apart undoomed is = absurd fits.0
want-each script S t (m ∷ ms) by u fits proper apart undoomed is = want-each script (moved t m S) t ms (onward by m) u fits.1 proper.1 apart (omega arith) is

-- the kind of an object that stays, and of one that was found
pub kind-closed : (last : Bool) (x : ObjNo) (objects : List (Option ObjectRow)) (k : Kind) (o : ObjNo)
    → IsOfKind objects k o → IsOfKind (objects_closed last x objects) k o
kind-closed last x objects k o was = record {
  there = objects-closed last x o objects ∙ was.there;
  kind = λ row is. let w = closed-was last x o objects row is in ap (is_kind k) (sym w.2) ∙ was.kind w.0 w.1;
}

kind-made : (S : State) (new : ObjectRow) (k : Kind) (o : ObjNo) → IsOfKind S.references.objects k o
    → IsOfKind (with_object S.references.objects (next_object S).0 new) k o
kind-made S new k o was =
    let apart : o.0 ≡ (next_object S).0 → ⊥ =
    λ at. next-unmade S (ap (λ (n : ℕ). is_some (get_or S.references.objects n None)) (sym at) ∙ was.there) in
    let same = new-other S.references.objects (next_object S).0 o.0 new (next_number_is S.mode.reuse S.references.objects).0 apart in
    record { there = ap is_some same ∙ was.there; kind = λ row is. was.kind row (sym same ∙ is) }

pub kind-each : (script : Script) (S : State) (t : ObjNo) (ms : List Move) (k : Kind) (o : ObjNo)
    → EachFits script t ms S → IsOfKind S.references.objects k o → IsOfKind (perform t ms S).references.objects k o
kind-each script S t [] k o fits was = was
kind-each script S t (Make kind name h ∷ ms) k o fits was =
    kind-each script (moved t (Make kind name h) S) t ms k o fits.1
    (kind-made S (new_object kind name S.references.made) k o was)
kind-each script S t (Lose h x ∷ ms) k o fits was =
    kind-each script (moved t (Lose h x) S) t ms k o fits.1 (kind-closed (dies S x) x S.references.objects k o was)
kind-each script S t (Pay what ∷ ms) k o fits was = absurd fits.0
kind-each script S t (m ∷ ms) k o fits was = kind-each script (moved t m S) t ms k o fits.1 was

-- nor does a sweep of another change a kind
pub kind-swept : (objects : List (Option ObjectRow)) (x : ℕ) (k : Kind) (o : ObjNo) → (o.0 ≡ x → ⊥)
    → IsOfKind objects k o → IsOfKind (slice_set objects x None) k o
kind-swept objects x k o apart was =
    let same = get_or-set_other objects x o.0 None None apart in
    record { there = ap is_some same ∙ was.there; kind = λ row is. was.kind row (sym same ∙ is) }

-- an object's row that was there before, of the same kind and place, or that got a new place
abbrev Stood : State → State → Type 0
Stood S T = (o : ObjNo) (row : ObjectRow) → object_of T o ≡ Some row
    → ((old : ObjectRow) × (object_of S o ≡ Some old) × (old.kind ≡ row.kind) × (old.place ≡ row.place)) ⊎ (S.references.made ≤ row.place)

was-stood : (S T : State) (k : Kind) (place : ℕ) (o : ObjNo) → S.references.made ≤ T.references.made → Stood S T
    → FoundOf S k place o → FoundOf T k place o
was-stood S T k place o more stood was = record {
  made = let a = was.made in omega arith;
  kind = λ row is at. elim (stood o row is) as (λ _. is_kind k row.kind ≡ true) [
    | inl old ↦ ap (is_kind k) (sym old.2) ∙ was.kind old.0 old.1 (old.3 ∙ at)
    | inr new ↦ let a = was.made in absurd (omega arith)
  ];
}

-- a death leaves kind and place
dead-same : (x : Option ObjectRow) (row : ObjectRow) → dead_row x ≡ Some row
    → (old : ObjectRow) × (x ≡ Some old) × (old.kind ≡ row.kind) × (old.place ≡ row.place)
dead-same None row e = absurd (cc)
dead-same (Some old) row e =
    let same : record old { dead = true } ≡ row = cc in (old, refl, ap (λ (r : ObjectRow). r.kind) same, ap (λ (r : ObjectRow). r.place) same)

stood-closed : (last : Bool) (x o : ObjNo) (objects : List (Option ObjectRow)) (row : ObjectRow) → get_or (objects_closed last x objects) o.0 None ≡ Some row
    → (old : ObjectRow) × (get_or objects o.0 None ≡ Some old) × (old.kind ≡ row.kind) × (old.place ≡ row.place)
stood-closed false x o objects row is = (row, is, refl, refl)
stood-closed true x o objects row is = elim (cases_eq x.0 o.0) as
    (λ _. (old : ObjectRow) × (get_or objects o.0 None ≡ Some old) × (old.kind ≡ row.kind) × (old.place ≡ row.place)) [
      | inl at ↦ dead-same (get_or objects o.0 None) row (sym (made-here dead_row None objects x.0 o.0 refl at) ∙ is)
      | inr apart ↦ (row, sym (made-other dead_row None objects x.0 o.0 apart) ∙ is, refl, refl)
    ]

pub was-each : (script : Script) (S : State) (t : ObjNo) (ms : List Move) (k : Kind) (place : ℕ) (o : ObjNo)
    → EachFits script t ms S → FoundOf S k place o → FoundOf (perform t ms S) k place o
was-each script S t [] k place o fits was = was
was-each script S t (Make kind name h ∷ ms) k place o fits was =
    let T = moved t (Make kind name h) S in
    let new = new_object kind name S.references.made in
    was-each script T t ms k place o fits.1
    (was-stood S T k place o (omega arith) (λ x row is.
    elim (either-made S.references.objects T.references.objects (next_object S).0 new
    (next_number_is S.mode.reuse S.references.objects).0 refl x.0 row is) as
    (λ _. ((old : ObjectRow) × (object_of S x ≡ Some old) × (old.kind ≡ row.kind) × (old.place ≡ row.place)) ⊎ (S.references.made ≤ row.place)) [
      | inl own ↦ inr (let at : S.references.made ≡ row.place = ap (λ (r : ObjectRow). r.place) own.1 in omega arith)
      | inr old ↦ inl (row, old, refl, refl)
    ]) was)
was-each script S t (Lose h x ∷ ms) k place o fits was =
    was-each script (moved t (Lose h x) S) t ms k place o fits.1
    (was-stood S (moved t (Lose h x) S) k place o (omega arith)
    (λ y row is. inl (stood-closed (dies S x) x y S.references.objects row is)) was)
was-each script S t (Pay what ∷ ms) k place o fits was = absurd fits.0
was-each script S t (m ∷ ms) k place o fits was =
    was-each script (moved t m S) t ms k place o fits.1 was

-- what is owed is paid
pub was-paid : (S : State) (t : ObjNo) (what : Owed) (k : Kind) (place : ℕ) (o : ObjNo)
    → FoundOf S k place o → FoundOf (moved t (Pay what) S) k place o
was-paid S t (duty.Close h x) k place o was =
    was-stood S (moved t (Pay (duty.Close h x)) S) k place o (omega arith)
    (λ y row is. inl (stood-closed (dies S x) x y S.references.objects row is)) was
was-paid S t (duty.Sweep x) k place o was =
    was-stood S (moved t (Pay (duty.Sweep x)) S) k place o (omega arith)
    (λ y row is. inl (
      row,
      set_item (λ (z : Option ObjectRow). z ≡ Some row → object_of S y ≡ Some row) S.references.objects x.0 y.0 None None
          (λ at e. absurd (cc)) (λ e. e) is,
      refl,
      refl,
    )) was
