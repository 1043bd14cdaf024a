-- What a run of a schedule keeps over a slot.
use Rattle.std.proofs.Common.{◌≡◌, ◌∙◌, ℕ, zero, suc, add-one, ◌+◌, ◌-◌, min, ◌<◌, ◌≤◌, Bool, true, false, List, [], ◌∷◌, ◌++◌, length, take, drop, get_or, arith, refl, sym, ap, subst}
use Rattle.std.proofs.Math.Seq.{take-add}
use Rattle.std.proofs.lemmas.List.{append_cancel_left, drop-drop, drop_at, drop_min, length-append, length-drop, take_at, take_min}
use Rattle.script_types.specs.Source.{IsWellFormed}
use Rattle.script_types.specs.declared.script.Script.{Script}
use Rattle.script_types.specs.declared.script.Slot.TheVariants.{Go}
use Rattle.entry_log.specs.declared.entry.Actor.{Actor}
use Rattle.entry_log.specs.declared.entry.Actor.TheVariants.{Idle}
use Rattle.entry_log.specs.declared.entry.Entry.{Entry}
use Rattle.machine.specs.Arrived.{arrived}
use Rattle.machine.specs.History.{after, entry_by, entry_of, CanAct, IsLegal}
use Rattle.machine.specs.Run.{run, slot_actor}
use Rattle.machine_laws.proofs.Reached.AfterHistory.{well_formed-after}
use Rattle.machine_laws.proofs.Reached.Histories.{slot_can}
use Rattle.machine_laws.proofs.ValidSlots.{valid_slot_is_declared}
use Rattle.kernel_tables.specs.CoreView.{CoreView}
use Rattle.kcore.specs.Acting.{Went, WentAt}
use Rattle.kcore.specs.KernelMode.{Suits, mode_of}
use Rattle.kcore.specs.KernelView.{IsKernel, Stands}
use Rattle.kcore.specs.ScheduleView.{IsScheduleRun, TakesOne, view_of}
use Rattle.kcore.specs.Told.{told_in}
use Rattle.kcore.proofs.Alone.{legal_longer}
use Rattle.kcore.proofs.Goes.{Begins}
use Rattle.kcore.proofs.KernelGoes.{alone-begins, alone-entry, alone-kernel, alone-shared, alone-stands}
use Rattle.kcore.proofs.ModesSuit.{fresh-suits, whole-suits}
use Rattle.kcore.proofs.Runs.{first-all, first-more, length-first, length-run, next_entry, run_longer}

-- one caller alone may go on
pub suits-alone : (history : List Entry) → Suits false (mode_of false history)
suits-alone [] = fresh-suits false (mode_of false []) refl
suits-alone (e ∷ es) = whole-suits (mode_of false (e ∷ es)) refl

module _ {W : Type 0} (script : Script) (taken : ℕ) (old : CoreView W) {idle : Bool} (h : IsScheduleRun script taken old idle) where
  abbrev pub H : List Entry
  H = take taken (run script)

  pub suits-run : Suits false (mode_of old.state.mode.shared H)
  suits-run = subst (λ (b : Bool). Suits false (mode_of b H)) (sym h.alone) (suits-alone H)

  pub run-stands : Stands false script H old
  run-stands = alone-stands script H old 0 (length script.slots) (length script.slots) h.kernel suits-run

  pub run-begins : Begins false script H old
  run-begins = alone-begins script H old 0 (length script.slots) (length script.slots) h.kernel suits-run

  -- the actor that the next slot lets act went, and this entry came behind those of the part
  module _ (more : taken < length script.slots) (place : ℕ) (at : place ≡ taken + 1) (part new : List Entry) (core : CoreView W) (actor : Actor)
      (can : CanAct script (after script H) actor) (is : actor ≡ slot_actor (after script H) (arrived script H) (get_or script.slots taken Go))
      (acted : WentAt script place part new old core actor) where
    long : length H ≡ taken
    long = length-first script taken h.few

    behind : Went script H (H ++ acted.entry ∷ []) old core actor
    behind = record {
      entry = acted.entry;
      longer = refl;
      told = acted.told ∙ ap (λ (n : ℕ). entry_of n actor (told_in acted.entry)) (at ∙ ap (λ (n : ℕ). n + 1) (sym long));
      does = acted.does;
    }

    longer-is : H ++ acted.entry ∷ [] ≡ take (taken + 1) (run script)
    longer-is =
        alone-entry script H old 0 (length script.slots) (length script.slots) h.kernel suits-run (H ++ acted.entry ∷ []) core actor can behind
        ∙ ap (λ (a : Actor). H ++ entry_by script (after script H) (length H + 1) a ∷ []) is
        ∙ sym (first-more script taken more)

    part-next : new ≡ part ++ take 1 (drop taken (run script))
    part-next =
        let next = append_cancel_left H (acted.entry ∷ []) (take 1 (drop taken (run script))) (longer-is ∙ take-add taken 1 (run script)) in
        acted.longer ∙ ap (λ (es : List Entry). part ++ es) next

    pub takes-one : (size more : ℕ) → more ≡ size → (n : ℕ) → n ≡ taken + 1 → TakesOne (view_of script taken part size) (view_of script n new more)
    takes-one size more same n next = record {
      script = refl;
      size = same;
      taken = next;
      part = part-next;
      longer = run_longer part new acted.entry acted.longer;
      history = ap (λ (k : ℕ). take k (run script)) next ∙ take-add taken 1 (run script);
      left = ap (λ (k : ℕ). drop k (run script)) next ∙ sym (drop-drop 1 taken (run script));
    }

    pub run-next : (rests : Bool) → (rests ≡ true → actor ≡ Idle) → core.notes ≡ old.notes → (n : ℕ) → n ≡ taken + 1
        → IsScheduleRun script n core rests
    run-next rests nobody notes n next =
        let slots = length script.slots in
        let kernel = alone-kernel script H old 0 slots slots h.kernel suits-run (H ++ acted.entry ∷ []) core actor can behind rests nobody slots
        (omega arith) notes (omega (arith, long, more)) in
        rw next (record {
          few = omega arith;
          alone = alone-shared script H old 0 slots slots h.kernel suits-run (H ++ acted.entry ∷ []) core actor can behind;
          kernel = subst (λ (es : List Entry). IsKernel script es core 0 rests slots slots) longer-is kernel;
        })

-- a run that has taken all slots in one part stands as a kernel for it
pub whole-kernel : {W : Type 0} (script : Script) (taken room capacity : ℕ) (core : CoreView W) (idle : Bool) (history : List Entry)
    → IsScheduleRun script taken core idle → history ≡ run script → taken ≡ length history → room ≡ length script.slots → capacity ≡ length script.slots
    → IsKernel script history core 0 idle room capacity
whole-kernel script taken room capacity core idle history h is many same_room same_capacity =
    let long = ap length is ∙ length-run script in
    let first : take taken (run script) ≡ run script = first-all script taken (omega (arith, many, long)) in
    rw (same_room, same_capacity) (subst (λ (es : List Entry). IsKernel script es core 0 idle (length script.slots) (length script.slots))
    (first ∙ sym is) h.kernel)

-- so many slots are left
pub left-long : (script : Script) (n : ℕ) → length (drop n (run script)) ≡ length script.slots - n
left-long script n = length-drop n (run script) ∙ ap (λ (k : ℕ). k - n) (length-run script)

-- entries that were taken from the front of those that were left, as many as a part has at most or were left
module _ (whole part left : List Entry) (size : ℕ) (is : whole ≡ part ++ left) (many : length part ≡ min size (length whole)) where
  pub part-is : part ≡ take size whole
  part-is = sym (take_at part left (length part) refl) ∙ (ap (take (length part)) (sym is) ∙ (ap (λ (k : ℕ). take k whole) many ∙ take_min size whole))

  pub left-is : left ≡ drop size whole
  left-is = sym (drop_at part left (length part) refl) ∙ (ap (drop (length part)) (sym is) ∙ (ap (λ (k : ℕ). drop k whole) many ∙ drop_min size whole))

-- the run of a valid script is legal, entry by entry
legal-first : (script : Script) → IsWellFormed script → (n : ℕ) → n ≤ length script.slots → IsLegal script (take n (run script))
legal-first script valid zero le = tt
legal-first script valid (suc n) le =
    let lt : n < length script.slots = omega arith in
    let before : n ≤ length script.slots = omega arith in
    let history = take n (run script) in
    let slot = get_or script.slots n Go in
    let can = slot_can script (after script history) (arrived script history) slot (valid_slot_is_declared script n valid)
    (well_formed-after false script history valid) in
    let longer = legal_longer script history (next_entry script history slot) (legal-first script valid n before) can refl in
    subst (λ (k : ℕ). IsLegal script (take k (run script))) (add-one n) (subst (IsLegal script) (sym (first-more script n lt)) longer)

pub legal-part : (script : Script) (history left : List Entry) → IsWellFormed script → history ++ left ≡ run script → IsLegal script history
legal-part script history left valid are =
    let few : length history ≤ length script.slots = omega (arith, ap length are, length-append history left, length-run script) in
    subst (IsLegal script) (ap (take (length history)) (sym are) ∙ take_at history left (length history) refl)
    (legal-first script valid (length history) few)
