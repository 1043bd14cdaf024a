-- The history that a schedule makes, slot by slot.
use Rattle.std.proofs.Common.{◌≡◌, ℕ, zero, suc, ◌+◌, ◌<◌, ◌≤◌, List, [], ◌∷◌, ◌++◌, length, take, drop, get_or, refl, ap, sym, ◌∙◌, append_assoc, add-one, arith}
use Rattle.std.proofs.lemmas.List.{drop_more, length-append, length-take-le, take_all, take_at}
use Rattle.sym_base.specs.declared.number.ObjNo.{ObjNo}
use Rattle.entry_log.specs.declared.entry.Entry.{Entry}
use Rattle.machine.specs.Arrived.{arrived, arrived_next}
use Rattle.machine.specs.Boot.{boot, ready_at_boot}
use Rattle.machine.specs.History.{after, next, entry_by}
use Rattle.machine.specs.declared.state.State.{State}
use Rattle.machine_laws.proofs.ValidSlots.{valid_slots_few}
use Rattle.kcore.proofs.Alone.{after_longer, arrived_longer}
use Rattle.script_types.specs.Source.{IsWellFormed}
use Rattle.machine.specs.Run.{run, run_from, slot_actor}
use Rattle.script_types.specs.declared.script.Script.{Script}
use Rattle.script_types.specs.declared.script.Slot.{Slot}
use Rattle.script_types.specs.declared.script.Slot.TheVariants.{Go}

-- the entry of the next slot
abbrev pub next_entry : Script → List Entry → Slot → Entry
next_entry script history slot = entry_by script (after script history) (length history + 1) (slot_actor (after script history) (arrived script history) slot)

-- a history and the run of the slots that are left, one slot later
pub run_next : (script : Script) (history : List Entry) (slot : Slot) (rest : List Slot) (whole : List Entry)
    → history ++ run_from script (after script history) (arrived script history) (length history + 1) (slot ∷ rest) ≡ whole
    → let longer = history ++ next_entry script history slot ∷ [] in
    longer ++ run_from script (after script longer) (arrived script longer) (length longer + 1) rest ≡ whole
run_next script history slot rest whole h =
    let e = next_entry script history slot in
    rw (append_assoc, after_longer script history e, arrived_longer script history e, length-append {A = Entry}) h

-- one slot of the schedule was taken
pub run_step : (script : Script) (history new : List Entry) (i : ℕ) (whole : List Entry) → i < length script.slots
    → new ≡ history ++ next_entry script history (get_or script.slots i Go) ∷ []
    → history ++ run_from script (after script history) (arrived script history) (length history + 1)
    (drop i script.slots) ≡ whole
    → new ++ run_from script (after script new) (arrived script new) (length new + 1) (drop (i + 1) script.slots)
    ≡ whole
run_step script history new i whole h made rest =
    let left = drop_more script.slots i Go h in
    let rest = rw left at rest in
    rw made (run_next script history (get_or script.slots i Go) (drop (i + 1) script.slots) whole rest)

-- the history has one entry more
pub run_longer : (history new : List Entry) (e : Entry) → new ≡ history ++ e ∷ [] → length new ≡ length history + 1
run_longer history new e made = ap length made ∙ length-append history (e ∷ [])

-- a run has an entry for each slot, and so few entries
length-run_from : (script : Script) (S : State) (qs : List ObjNo) (place : ℕ) (slots : List Slot) → length (run_from script S qs place slots) ≡ length slots
length-run_from script S qs place [] = refl
length-run_from script S qs place (slot ∷ slots) =
    let actor = slot_actor S qs slot in
    ap suc (length-run_from script (next script S actor) (arrived_next script S actor qs) (place + 1) slots)

pub length-run : (script : Script) → length (run script) ≡ length script.slots
length-run script = length-run_from script (boot script) (ready_at_boot script) 1 script.slots

pub run_few : (script : Script) → IsWellFormed script → length (run script) ≤ 65536
run_few script valid = omega (arith, length-run script, valid_slots_few script valid)

-- the entries of the first slots
pub length-first : (script : Script) (n : ℕ) → n ≤ length script.slots → length (take n (run script)) ≡ n
length-first script n le = length-take-le n (run script) (let long = length-run script in omega arith)

-- what holds once so many slots were taken: their entries, and the run of those that are left behind them
abbrev WithRest : Script → List Entry → ℕ → Type 0
WithRest script history n =
    history ++ run_from script (after script history) (arrived script history) (length history + 1) (drop n script.slots) ≡ run script

-- the history longer by the entry of the next slot is that of one slot more
first-by : (script : Script) (history : List Entry) (n : ℕ) → length history ≡ n → n < length script.slots → WithRest script history n
    → take (n + 1) (run script) ≡ history ++ next_entry script history (get_or script.slots n Go) ∷ []
first-by script history n many lt rest =
    let e = next_entry script history (get_or script.slots n Go) in
    let longer = history ++ e ∷ [] in
    let more = run_step script history longer n (run script) lt refl rest in
    let long : length longer ≡ n + 1 = length-append history (e ∷ []) ∙ ap (λ k. k + 1) many in
    sym (ap (take (n + 1)) more) ∙ take_at longer _ (n + 1) long

first-rest : (script : Script) (n : ℕ) → n ≤ length script.slots → WithRest script (take n (run script)) n
first-rest script zero le = refl
first-rest script (suc n) le =
    let lt : n < length script.slots = omega arith in
    let before : n ≤ length script.slots = omega arith in
    let rest = first-rest script n before in
    let made = first-by script (take n (run script)) n (length-first script n before) lt rest in
    let more = run_step script (take n (run script)) (take (n + 1) (run script)) n (run script) lt made rest in
    rw (← add-one) more

-- one slot more
pub first-more : (script : Script) (n : ℕ) → n < length script.slots
    → take (n + 1) (run script) ≡ take n (run script) ++ next_entry script (take n (run script)) (get_or script.slots n Go) ∷ []
first-more script n lt =
    let before : n ≤ length script.slots = omega arith in
    first-by script (take n (run script)) n (length-first script n before) lt (first-rest script n before)

-- of all slots the whole run
pub first-all : (script : Script) (n : ℕ) → length script.slots ≤ n → take n (run script) ≡ run script
first-all script n le = take_all n (run script) (let long = length-run script in omega arith)
