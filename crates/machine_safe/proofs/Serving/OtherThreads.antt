-- An action leaves other threads at their instruction, at its next step, with what they found and use, and with their own tables as they are; and so it
-- does its own thread, as long as that neither goes on nor gives up a handle or what it uses.
use Rattle.entry_log.specs.declared.effect.Holder.{Holder}
use Rattle.entry_log.specs.declared.effect.Holder.TheVariants.{InProcess, InThread, Own, Temp}
use Rattle.state_rows.specs.ObjectRows.{place_of}
use Rattle.machine.specs.DeathMoves.{death_row, death_thread}
use Rattle.machine.specs.Fits.{EachFits, FitsMove, Holds, IsFree, IsOwn}
use Rattle.machine.specs.Moves.{advanced, moved, next_object, perform, tables_gain, tables_lose, threads_closed, threads_gain, threads_lose, unlinked, with_found, with_kept, with_message, with_missed, with_opened, with_part, with_priority, with_register, with_use, with_waiting}
use Rattle.machine.specs.Kept.{dies}
use Rattle.machine.specs.References.{total}
use Rattle.machine.specs.Handles.{freed_slot, taken_slot, with_slot}
use Rattle.machine.specs.Rows.{object_of, table_of, thread_of, with_row}
use Rattle.machine.specs.declared.death_move.DeathMove.{DeathMove}
use Rattle.machine.specs.declared.death_move.DeathMove.TheVariants.{Bury, Clean, Doom, Note}
use Rattle.machine.specs.declared.moves.Move.{Move}
use Rattle.machine.specs.declared.moves.Move.TheVariants.{Advance, Death, Find, Gain, GoOn, Keep, Lose, Make, Miss, Open, Pay, PutDown, SetPriority, Wait, Wake, Write, WriteMessage}
use Rattle.machine.specs.declared.state.State.{State}
use Rattle.move_laws.proofs.Holders.ThreadRows.{row-other, row-here}
use Rattle.move_laws.proofs.RowLaws.Threads.{was_row, map_some}
use Rattle.script_types.specs.declared.script.Script.{Script}
use Rattle.state_rows.specs.declared.handle_slot.HandleSlot.{HandleSlot}
use Rattle.state_rows.specs.declared.thread.ThreadRow.{ThreadRow}
use Rattle.state_rows.specs.declared.thread.Waiting.TheVariants as waiting
use Rattle.std.proofs.Common.{Bool, List, None, Option, Some, [], ap, false, get_or, get_or-set_other, refl, sym, true, ℕ, ◌∙◌, ◌∷◌, ◌≡◌, arith, inl, inr}
use Rattle.std.specs.Prelude.{is_some, slice_get, ◌==◌}
use Rattle.sym_base.specs.declared.number.ObjNo.{ObjNo}
use Rattle.std.proofs.lemmas.Bool.{cases_eq}
use Rattle.machine_laws.proofs.Fitting.Regular.{going_bit, advance_bit}
use Rattle.state_rows.specs.declared.thread.Stage.TheVariants.{Live}
use Rattle.state_rows.specs.declared.duty.Owed.{Owed}
use Rattle.state_rows.specs.declared.duty.Owed.TheVariants.{Close, Sweep}
use Rattle.state_rows.proofs.SoundChanges.{set_item}
use Rattle.machine_safe.proofs.Serving.KeptRows.{at-same, at-move}
use Rattle.machine_safe.proofs.Serving.KeptServers.{WasAt, steps_of, steps-then}
use Rattle.machine.specs.Task.{instruction, instructions_of}
use Rattle.state_rows.specs.declared.thread.Role.{Role}
use Rattle.move_laws.proofs.References.Same.{if_zero}

-- a thread's row that was there before, at the same step of the same instruction, with the same find and the same use
pub record WasMidway (threads : List (Option ThreadRow)) (k : ℕ) (row : ThreadRow) : Type 0 where
  pub old : ThreadRow
  pub was : get_or threads k None ≡ Some old
  pub role : old.role ≡ row.role
  pub place : old.next_instruction ≡ row.next_instruction
  pub part : old.part ≡ row.part
  pub found : old.found ≡ row.found
  pub sought : old.sought ≡ row.sought
  pub sought_place : old.sought_place ≡ row.sought_place
  pub uses : old.uses ≡ row.uses
  pub live : row.stage ≡ Live → old.stage ≡ Live

-- a change of a row that keeps these
record KeepsMidway (f : ThreadRow → ThreadRow) : Type 0 where
  pub role : (row : ThreadRow) → (f row).role ≡ row.role
  pub place : (row : ThreadRow) → (f row).next_instruction ≡ row.next_instruction
  pub part : (row : ThreadRow) → (f row).part ≡ row.part
  pub found : (row : ThreadRow) → (f row).found ≡ row.found
  pub sought : (row : ThreadRow) → (f row).sought ≡ row.sought
  pub sought_place : (row : ThreadRow) → (f row).sought_place ≡ row.sought_place
  pub uses : (row : ThreadRow) → (f row).uses ≡ row.uses
  pub live : (row : ThreadRow) → (f row).stage ≡ Live → row.stage ≡ Live

midway-same : (threads : List (Option ThreadRow)) (k : ℕ) (row : ThreadRow) → get_or threads k None ≡ Some row → WasMidway threads k row
midway-same threads k row is = record {
  old = row;
  was = is;
  role = refl;
  place = refl;
  part = refl;
  found = refl;
  sought = refl;
  sought_place = refl;
  uses = refl;
  live = λ e. e;
}

midway-with : (threads : List (Option ThreadRow)) (u : ObjNo) (f : ThreadRow → ThreadRow) → KeepsMidway f
    → (k : ℕ) (row : ThreadRow) → get_or (with_row threads u f) k None ≡ Some row → WasMidway threads k row
midway-with threads u f keeps k row is =
    was_row threads u f (WasMidway threads)
    (λ old was. record {
      old = old;
      was = was;
      role = sym (keeps.role old);
      place = sym (keeps.place old);
      part = sym (keeps.part old);
      found = sym (keeps.found old);
      sought = sym (keeps.sought old);
      sought_place = sym (keeps.sought_place old);
      uses = sym (keeps.uses old);
      live = keeps.live old;
    })
    (midway-same threads) k row is

-- where a thread that goes on doesn't, it is another
goes-apart : (t : ObjNo) (k : ℕ) → (t.0 ≡ k → ◌≡◌ {A = ℕ} 1 0) → t.0 ≡ k → ⊥
goes-apart t k stays at = let none = stays at in absurd (omega arith)

-- a change of the acting thread's own row
midway-own : (threads : List (Option ThreadRow)) (t u : ObjNo) (f : ThreadRow → ThreadRow) (k : ℕ) (row : ThreadRow)
    → u ≡ t → (t.0 ≡ k → ⊥) → get_or (with_row threads u f) k None ≡ Some row → WasMidway threads k row
midway-own threads t u f k row own apart is =
    midway-same threads k row (sym (row-other threads u f k (λ at. apart (sym (ap (λ (x : ObjNo). x.0) own) ∙ at)))
    ∙ is)

midway-gained : (h : Holder) (o : ObjNo) (threads : List (Option ThreadRow)) (t : ObjNo) (k : ℕ) (row : ThreadRow)
    → IsOwn t h → (t.0 ≡ k → ⊥) → get_or (threads_gain h o threads) k None ≡ Some row → WasMidway threads k row
midway-gained (Temp u) o threads t k row own apart is = midway-own threads t u (with_use (Some o)) k row own apart is
midway-gained _ o threads t k row own apart is = midway-same threads k row is

midway-lost : (h : Holder) (o : ObjNo) (threads : List (Option ThreadRow)) (t : ObjNo) (k : ℕ) (row : ThreadRow)
    → IsOwn t h → (t.0 ≡ k → going_bit (Lose h o) ≡ 0) → get_or (threads_lose h threads) k None ≡ Some row
    → WasMidway threads k row
midway-lost (Temp u) o threads t k row own stays is = midway-own threads t u (with_use None) k row own (goes-apart t k stays) is
midway-lost _ o threads t k row own stays is = midway-same threads k row is

midway-closed : (last : Bool) (o : ObjNo) (threads : List (Option ThreadRow)) (k : ℕ) (row : ThreadRow)
    → get_or (threads_closed last o threads) k None ≡ Some row → WasMidway threads k row
midway-closed true o threads k row is =
    midway-with threads o unlinked (record {
      role = λ r. refl;
      place = λ r. refl;
      part = λ r. refl;
      found = λ r. refl;
      sought = λ r. refl;
      sought_place = λ r. refl;
      uses = λ r. refl;
      live = λ r e. e;
    }) k row is
midway-closed false o threads k row is = midway-same threads k row is

midway-dies : (threads : List (Option ThreadRow)) (m : DeathMove) (k : ℕ) (row : ThreadRow)
    → get_or (with_row threads (death_thread m) (death_row m)) k None ≡ Some row → WasMidway threads k row
midway-dies threads (Note u exit) k row is =
    midway-with threads u _ (record {
      role = λ r. refl;
      place = λ r. refl;
      part = λ r. refl;
      found = λ r. refl;
      sought = λ r. refl;
      sought_place = λ r. refl;
      uses = λ r. refl;
      live = λ r e. e;
    }) k row is
midway-dies threads (Doom u exit) k row is =
    midway-with threads u _ (record {
      role = λ r. refl;
      place = λ r. refl;
      part = λ r. refl;
      found = λ r. refl;
      sought = λ r. refl;
      sought_place = λ r. refl;
      uses = λ r. refl;
      live = λ r e. absurd (cc);
    }) k row is
midway-dies threads (Clean u) k row is =
    midway-with threads u _ (record {
      role = λ r. refl;
      place = λ r. refl;
      part = λ r. refl;
      found = λ r. refl;
      sought = λ r. refl;
      sought_place = λ r. refl;
      uses = λ r. refl;
      live = λ r e. absurd (cc);
    }) k row is
midway-dies threads (Bury u) k row is =
    midway-with threads u _ (record {
      role = λ r. refl;
      place = λ r. refl;
      part = λ r. refl;
      found = λ r. refl;
      sought = λ r. refl;
      sought_place = λ r. refl;
      uses = λ r. refl;
      live = λ r e. absurd (cc);
    }) k row is

midway-then : (S T : List (Option ThreadRow)) (k : ℕ) (row : ThreadRow) (later : WasMidway T k row) → WasMidway S k later.old → WasMidway S k row
midway-then S T k row later first = record {
  old = first.old;
  was = first.was;
  role = first.role ∙ later.role;
  place = first.place ∙ later.place;
  part = first.part ∙ later.part;
  found = first.found ∙ later.found;
  sought = first.sought ∙ later.sought;
  sought_place = first.sought_place ∙ later.sought_place;
  uses = first.uses ∙ later.uses;
  live = λ e. first.live (later.live e);
}

-- a thread that is at a later step of its instruction doesn't end it
midway-advanced : (threads : List (Option ThreadRow)) (t u : ObjNo) (k : ℕ) (row : ThreadRow) → u ≡ t
    → is_some row.part ≡ true → get_or (with_row threads u advanced) k None ≡ Some row → WasMidway threads k row
midway-advanced threads t u k row own later is = elim (cases_eq u.0 k) as (λ _. WasMidway threads k row) [
  | inl at ↦
      let was = map_some advanced (get_or threads u.0 None) row (sym (row-here threads u advanced k at) ∙ is) in
      let none : None ≡ row.part = ap (λ (r : ThreadRow). r.part) was.2 in
      let first = ap is_some none in absurd (cc)
  | inr apart ↦ midway-same threads k row (sym (row-other threads u advanced k apart) ∙ is)
]

pub midway-move : (script : Script) (S : State) (t : ObjNo) (m : Move) → FitsMove script t m S
    → (k : ℕ) (row : ThreadRow) → (t.0 ≡ k → going_bit m ≡ 0) → is_some row.part ≡ true
    → get_or (moved t m S).references.threads k None ≡ Some row → WasMidway S.references.threads k row
midway-move script S t (Make kind name h) fits k row stays later is =
    midway-gained h (next_object S) S.references.threads t k row fits.3 (goes-apart t k stays) is
midway-move script S t (Gain h o) fits k row stays later is = midway-gained h o S.references.threads t k row fits.2 (goes-apart t k stays) is
midway-move script S t (Lose h o) fits k row stays later is =
    let one = midway-closed (dies S o) o (threads_lose h S.references.threads) k row is in
    midway-then S.references.threads (threads_lose h S.references.threads) k row one (midway-lost h o S.references.threads t k one.old fits.2 stays one.was)
midway-move script S t (Find u o) fits k row stays later is =
    midway-own S.references.threads t u (with_found o (place_of (object_of S o))) k row fits.1 (goes-apart t k stays) is
midway-move script S t (Open u o part) fits k row stays later is =
    midway-own S.references.threads t u (with_opened o part) k row fits.1 (goes-apart t k stays) is
midway-move script S t (Miss u o) fits k row stays later is = midway-own S.references.threads t u with_missed k row fits.1 (goes-apart t k stays) is
midway-move script S t (GoOn u part) fits k row stays later is = midway-own S.references.threads t u (with_part part) k row fits.1 (goes-apart t k stays) is
midway-move script S t (Keep u number) fits k row stays later is = midway-own S.references.threads t u (with_kept number) k row fits.1 (goes-apart t k stays) is
midway-move script S t (Write u x value) fits k row stays later is =
    midway-with S.references.threads u (with_register x value)
    (record {
      role = λ r. refl;
      place = λ r. refl;
      part = λ r. refl;
      found = λ r. refl;
      sought = λ r. refl;
      sought_place = λ r. refl;
      uses = λ r. refl;
      live = λ r e. e;
    }) k row is
midway-move script S t (WriteMessage u y number) fits k row stays later is =
    midway-with S.references.threads u (with_message y number)
    (record {
      role = λ r. refl;
      place = λ r. refl;
      part = λ r. refl;
      found = λ r. refl;
      sought = λ r. refl;
      sought_place = λ r. refl;
      uses = λ r. refl;
      live = λ r e. e;
    }) k row is
midway-move script S t (PutDown u) fits k row stays later is = midway-own S.references.threads t u (with_use None) k row fits.0 (goes-apart t k stays) is
midway-move script S t (Advance u) fits k row stays later is = midway-advanced S.references.threads t u k row fits.0 later is
midway-move script S t (Wait u what) fits k row stays later is =
    midway-with S.references.threads u (with_waiting what)
    (record {
      role = λ r. refl;
      place = λ r. refl;
      part = λ r. refl;
      found = λ r. refl;
      sought = λ r. refl;
      sought_place = λ r. refl;
      uses = λ r. refl;
      live = λ r e. e;
    }) k row is
midway-move script S t (Wake u) fits k row stays later is =
    midway-with S.references.threads u (with_waiting waiting.Nothing)
    (record {
      role = λ r. refl;
      place = λ r. refl;
      part = λ r. refl;
      found = λ r. refl;
      sought = λ r. refl;
      sought_place = λ r. refl;
      uses = λ r. refl;
      live = λ r e. e;
    }) k row is
midway-move script S t (SetPriority u priority) fits k row stays later is =
    midway-with S.references.threads u (with_priority priority)
    (record {
      role = λ r. refl;
      place = λ r. refl;
      part = λ r. refl;
      found = λ r. refl;
      sought = λ r. refl;
      sought_place = λ r. refl;
      uses = λ r. refl;
      live = λ r e. e;
    }) k row is
midway-move script S t (Death m) fits k row stays later is = midway-dies S.references.threads m k row is
midway-move script S t (Pay what) fits k row stays later is = absurd fits
midway-move script S t m fits k row stays later is = midway-same S.references.threads k row is

pub midway-pay : (S : State) (t : ObjNo) (what : Owed) (k : ℕ) (row : ThreadRow)
    → get_or (moved t (Pay what) S).references.threads k None ≡ Some row → WasMidway S.references.threads k row
midway-pay S t (Close h o) k row is = midway-closed (dies S o) o S.references.threads k row is
midway-pay S t (Sweep o) k row is =
    midway-same S.references.threads k row (set_item
    (λ (x : Option ThreadRow). x ≡ Some row → get_or S.references.threads k None ≡ Some row) S.references.threads o.0 k
    None None (λ at e. absurd (cc)) (λ e. e) is)

-- another table is the same
table-other : (tables : List (List HandleSlot)) (owner : ObjNo) (i : ℕ) (f : HandleSlot → HandleSlot) (k : ObjNo)
    → (owner.0 ≡ k.0 → ⊥) → get_or (with_slot tables owner i f) k.0 [] ≡ get_or tables k.0 []
table-other tables owner i f k apart = get_or-set_other tables owner.0 k.0 _ [] (λ at. apart (sym at))

-- a place of a process's table is none of a thread's
process-apart : (S : State) (p k : ObjNo) → thread_of S p ≡ None → is_some (thread_of S k) ≡ true → p.0 ≡ k.0 → ⊥
process-apart S p k none there at =
    let same : thread_of S k ≡ None = ap (λ (n : ℕ). get_or S.references.threads n None) (sym at) ∙ none in
    let gone = ap is_some same in
    absurd (cc)

own-apart : (t u k : ObjNo) → u ≡ t → (t.0 ≡ k.0 → ⊥) → u.0 ≡ k.0 → ⊥
own-apart t u k own apart at = apart (sym (ap (λ (x : ObjNo). x.0) own) ∙ at)

gained-table : (S : State) (h : Holder) (o t k : ObjNo) → IsFree S h → IsOwn t h → (t.0 ≡ k.0 → ⊥)
    → is_some (thread_of S k) ≡ true → get_or (tables_gain h o S.references.handles) k.0 [] ≡ table_of S k
gained-table S (InProcess p i) o t k free own apart there = table-other S.references.handles p i (taken_slot o) k (process-apart S p k free.0 there)
gained-table S (InThread u i) o t k free own apart there = table-other S.references.handles u i (taken_slot o) k (own-apart t u k own apart)
gained-table S _ o t k free own apart there = refl

lost-table : (S : State) (h : Holder) (o t k : ObjNo) → Holds S h o → IsOwn t h → (t.0 ≡ k.0 → going_bit (Lose h o) ≡ 0)
    → is_some (thread_of S k) ≡ true → get_or (tables_lose h S.references.handles) k.0 [] ≡ table_of S k
lost-table S (InProcess p i) o t k holds own stays there = table-other S.references.handles p i freed_slot k (process-apart S p k holds.0 there)
lost-table S (InThread u i) o t k holds own stays there = table-other S.references.handles u i freed_slot k (own-apart t u k own (goes-apart t k.0 stays))
lost-table S _ o t k holds own stays there = refl

pub tables-move : (script : Script) (S : State) (t : ObjNo) (m : Move) → FitsMove script t m S → (k : ObjNo)
    → (t.0 ≡ k.0 → going_bit m ≡ 0) → is_some (thread_of S k) ≡ true → table_of (moved t m S) k ≡ table_of S k
tables-move script S t (Make kind name (Own u)) fits k stays there = refl
tables-move script S t (Make kind name (InProcess p i)) fits k stays there =
    gained-table S (InProcess p i) (next_object S) t k fits.1 fits.3 (goes-apart t k.0 stays) there
tables-move script S t (Make kind name (InThread u i)) fits k stays there =
    gained-table S (InThread u i) (next_object S) t k fits.1 fits.3 (goes-apart t k.0 stays) there
tables-move script S t (Make kind name h) fits k stays there = refl
tables-move script S t (Gain h o) fits k stays there = gained-table S h o t k fits.0 fits.2 (goes-apart t k.0 stays) there
tables-move script S t (Lose h o) fits k stays there = lost-table S h o t k fits.1 fits.2 stays there
tables-move script S t (Pay what) fits k stays there = absurd fits
tables-move script S t m fits k stays there = refl

-- what an action leaves of a thread that is at a later step of its instruction
pub record Carries (S T : State) (k : ObjNo) (row : ThreadRow) : Type 0 where
  pub mid : WasMidway S.references.threads k.0 row
  pub table : table_of T k ≡ table_of S k

pub carries-each : (script : Script) (S : State) (t : ObjNo) (ms : List Move) → EachFits script t ms S
    → (k : ObjNo) (row : ThreadRow) → (t.0 ≡ k.0 → total going_bit ms ≡ 0) → is_some row.part ≡ true
    → thread_of (perform t ms S) k ≡ Some row → Carries S (perform t ms S) k row
carries-each script S t [] fits k row stays later is = record { mid = midway-same S.references.threads k.0 row is; table = refl }
carries-each script S t (m ∷ ms) fits k row stays later is =
    let second = carries-each script (moved t m S) t ms fits.1 k row (λ at. let none = stays at in omega arith) later is in
    let first = midway-move script S t m fits.0 k.0 second.mid.old (λ at. let none = stays at in omega arith)
    (ap is_some second.mid.part ∙ later) second.mid.was in
    record {
      mid = midway-then S.references.threads (moved t m S).references.threads k.0 row second.mid first;
      table = second.table ∙ tables-move script S t m fits.0 k (λ at. let none = stays at in omega arith) (ap is_some first.was);
    }

-- a thread that isn't answered is at its instruction still
pub at-each : (script : Script) (S : State) (t : ObjNo) (ms : List Move) → EachFits script t ms S
    → (k : ℕ) (row : ThreadRow) → get_or (perform t ms S).references.threads k None ≡ Some row
    → WasAt S.references.threads k (steps_of t ms k) row
at-each script S t [] fits k row is =
    let same = at-same S.references.threads k row is in
    let none = if_zero (t.0 == k) (total advance_bit []) refl in
    record { old = same.old; was = same.was; role = same.role; place = let p = same.place in omega arith }
at-each script S t (m ∷ ms) fits k row is =
    let later = at-each script (moved t m S) t ms fits.1 k row is in
    let first = at-move script S t m fits.0 k later.old later.was in
    record {
      old = first.old;
      was = first.was;
      role = first.role ∙ later.role;
      place = let a = later.place in let b = first.place in let c = steps-then t m ms k in omega arith;
    }

pub same-instruction : (script : Script) (old row : ThreadRow) → old.role ≡ row.role
    → row.next_instruction ≡ old.next_instruction → instruction script row ≡ instruction script old
same-instruction script old row role place =
    ap (λ (r : Role). slice_get (instructions_of script r) row.next_instruction) (sym role)
    ∙ ap (λ (n : ℕ). slice_get (instructions_of script old.role) n) place
