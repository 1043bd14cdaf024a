-- The rows of threads that synchronize at boot: a thread that is held is suspended once, and nothing protects a thread.
use Rattle.std.proofs.Common.{◌≡◌, ℕ, suc, zero, ◌<◌, ◌≤◌, cond, List, [], ◌∷◌, length, get_or, map, replicate, arith, refl, sym, ap, ◌∙◌, Option, Some, None, Bool, true, false}
use Rattle.std.specs.Prelude.{not, ◌&&◌, ◌==◌, is_some, if◌then◌else◌, nat_lt}
use Rattle.std.specs.List.{position_or_len}
use Rattle.std.proofs.Math.Bool.{and-true}
use Rattle.std.proofs.lemmas.Bool.{or_from, le-ltb}
use Rattle.std.proofs.lemmas.List.{length-map, length-replicate}
use Rattle.std.proofs.lemmas.List.Sums.{position_or_len_is}
use Rattle.sym_base.specs.declared.number.ObjNo.{ObjNo}
use Rattle.script_types.specs.declared.script.Script.{Script}
use Rattle.script_types.specs.Shape.{IsShaped}
use Rattle.state_rows.specs.declared.deferred.DeferredRows.{DeferredRows}
use Rattle.state_rows.specs.Nano.{is_thread, held_by, critical_count, is_protected}
use Rattle.state_rows.specs.NanoSound.{AreNanoRows}
use Rattle.state_rows.proofs.Soundness.{sound_new}
use Rattle.machine.specs.declared.boot.Born.{Born}
use Rattle.machine.specs.Boot.{boot, boot_of, born, held_count, nano_of}
use Rattle.machine.specs.Task.{is_live_row, is_stopped}
use Rattle.machine.specs.WellFormed.{AreSynchronized}
use Rattle.move_laws.proofs.Lists.Copies.{copy_at}

-- nobody holds a fast mutex
nobody_holds : (fast : ℕ) (bs : List Born) (t : ObjNo) → held_by (nano_of fast bs) t ≡ None
nobody_holds fast bs t =
    let holders : List (Option ObjNo) = replicate fast None in
    let none = position_or_len_is (is_thread t) holders (length holders) None (omega arith)
    (λ k below. ap (is_thread t) (copy_at {A = Option ObjNo} None fast k)) (λ past. absurd (omega arith)) in
    let out : nat_lt (position_or_len (is_thread t) holders) (length holders) ≡ false =
    le-ltb (position_or_len (is_thread t) holders) (length holders) (omega arith) in
    ap (λ (b : Bool). cond b (Some (position_or_len (is_thread t) holders)) None) out

-- nothing protects a thread at boot
pub unprotected : (fast : ℕ) (bs : List Born) (t : ObjNo) → is_protected (nano_of fast bs) t ≡ false
unprotected fast bs t =
    or_from (is_some (held_by (nano_of fast bs) t)) (not (critical_count (nano_of fast bs) t == 0))
    (ap is_some (nobody_holds fast bs t)) (ap (λ (n : ℕ). not (n == 0)) (copy_at 0 (length bs) t.0))

-- whether the one at a place is held
abbrev pub is_held_at : List Born → ℕ → Bool
is_held_at [] i = false
is_held_at (b ∷ bs) zero = b.held
is_held_at (b ∷ bs) (suc i) = is_held_at bs i

held_count_is : (held : Bool) → not ((if held then 1 else 0) == 0) ≡ held
held_count_is true = refl
held_count_is false = refl

suspended_at : (bs : List Born) (i : ℕ) → not (get_or (map held_count bs) i 0 == 0) ≡ is_held_at bs i
suspended_at [] i = refl
suspended_at (b ∷ bs) zero = held_count_is b.held
suspended_at (b ∷ bs) (suc i) = suspended_at bs i

-- a live thread is stopped at boot exactly where it is held
pub stopped-boot : (reuse : Bool) (pool fast : ℕ) (calls : DeferredRows) (bs : List Born) (t : ObjNo)
    → is_stopped (boot_of reuse pool fast calls bs) t ≡ (is_live_row (get_or (map (λ b. b.thread) bs) t.0 None) && is_held_at bs t.0)
unfolding boot_of
stopped-boot reuse pool fast calls bs t =
    let live : Bool = is_live_row (get_or (map (λ b. b.thread) bs) t.0 None) in
    ap (λ (protected : Bool). live && not (get_or (map held_count bs) t.0 0 == 0) && not protected) (unprotected fast bs t)
    ∙ (and-true (live && not (get_or (map held_count bs) t.0 0 == 0)) ∙ ap (λ (held : Bool). live && held) (suspended_at bs t.0))

held_count_few : (held : Bool) → (if held then 1 else 0) ≤ 127
held_count_few true = omega arith
held_count_few false = omega arith

held_few : (bs : List Born) (i : ℕ) → get_or (map held_count bs) i 0 ≤ 127
held_few [] i = omega arith
held_few (b ∷ bs) zero = held_count_few b.held
held_few (b ∷ bs) (suc i) = held_few bs i

sound-boot : (fast : ℕ) (bs : List Born) → fast < 256 → AreNanoRows (nano_of fast bs)
sound-boot fast bs small =
    let new = sound_new (length bs) fast small in
    record {
      suspensions_sized = length-map bs held_count ∙ sym (length-replicate {A = ℕ} (length bs) 0);
      sections_sized = new.sections_sized;
      wants_sized = new.wants_sized;
      few = new.few;
      wants_known = new.wants_known;
      holders_known = new.holders_known;
      limited = λ t. held_few bs t.0;
      one_each = new.one_each;
    }

-- these rows are sound, one for each that stands at boot and for each fast mutex
pub synchronized-boot : (script : Script) → IsShaped script → AreSynchronized script (boot script).references.threads (boot script).synchronization.nano
unfolding boot_of
synchronized-boot script shaped =
    let few = shaped.numbers.fast in
    let bs = born script in
    let nobody : Option ObjNo = None in
    record {
      rows = sound-boot script.fast bs (omega arith);
      sized = length-replicate {A = ℕ} (length bs) 0 ∙ sym (length-map bs (λ b. b.thread));
      mutexes = length-replicate script.fast nobody;
      holders = λ f u is. let none = copy_at {A = Option ObjNo} None script.fast f in absurd (cc);
    }
