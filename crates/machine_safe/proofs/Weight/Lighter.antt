-- A thread that weighs so much less, or more, after some moves, and is doomed still.
use Rattle.std.proofs.Common.{◌≡◌, ◌⊎◌, inl, inr, ℕ, ◌+◌, ◌*◌, ◌≤◌, List, [], length, get_or, arith, refl, ap, ◌∙◌, Option, Some, None}
use Rattle.std.specs.Prelude.{option_map}
use Rattle.std.proofs.lemmas.Bool.{cases_eq}
use Rattle.sym_base.specs.declared.number.ObjNo.{ObjNo}
use Rattle.entry_log.specs.declared.step.Part.{Part}
use Rattle.state_rows.specs.declared.duty.Owed.{Owed}
use Rattle.state_rows.specs.declared.handle_slot.HandleSlot.{HandleSlot}
use Rattle.state_rows.specs.declared.messages.MessageRows.{MessageRows}
use Rattle.state_rows.specs.MessageRows.{messages_at}
use Rattle.state_rows.specs.declared.thread.Stage.{Stage}
use Rattle.state_rows.specs.declared.thread.ThreadRow.{ThreadRow}
use Rattle.machine.specs.Holdings.{stage_left}
use Rattle.machine.specs.LogonMoves.{logons_on}
use Rattle.machine.specs.References.{mutex_names, total}
use Rattle.machine.specs.Rows.{owed_of, table_of, thread_of, with_row}
use Rattle.machine.specs.WellFormed.{weight}
use Rattle.machine.specs.declared.state.State.{State}
use Rattle.move_laws.proofs.Holders.ThreadRows.{row-here, row-other}
use Rattle.state_rows.proofs.SoundChanges.{set_item}
use Rattle.state_rows.specs.declared.duty.Owed.TheVariants.{Sweep}
use Rattle.machine.specs.Moves.{moved}
use Rattle.machine.specs.declared.moves.Move.TheVariants.{Pay}
use Rattle.machine_safe.specs.Weight.{GetsNoMore, find_bit, handles_in, links_left, links_to, messages_left, mutexes_of, servers_of, use_bit, weight_of}
use Rattle.machine_safe.proofs.Weight.Lists.{total-less}

-- a row whose stage and process stay, and that has nothing more
pub record RowKept (row new : ThreadRow) : Type 0 where
  pub stage : new.stage ≡ row.stage
  pub process : new.process ≡ row.process
  pub find : find_bit new.part ≤ find_bit row.part
  pub used : use_bit new.uses ≤ use_bit row.uses

pub row-same : (row : ThreadRow) → RowKept row row
row-same row = record { stage = refl; process = refl; find = omega arith; used = omega arith }

-- one that keeps its stage, its process, its part and what it uses
pub row-left : {row new : ThreadRow}
    → ◌≡◌ {A = Stage × ObjNo × Option Part × Option ObjNo} (new.stage, new.process, new.part, new.uses) (row.stage, row.process, row.part, row.uses)
    → RowKept row new
row-left same = record {
  stage = ap (λ (r : Stage × ObjNo × Option Part × Option ObjNo). r.0) same;
  process = ap (λ (r : Stage × ObjNo × Option Part × Option ObjNo). r.1) same;
  find = let part = ap (λ (r : Stage × ObjNo × Option Part × Option ObjNo). find_bit r.2) same in omega arith;
  used = let uses = ap (λ (r : Stage × ObjNo × Option Part × Option ObjNo). use_bit r.3) same in omega arith;
}

pub row-then : (row new last : ThreadRow) → RowKept row new → RowKept new last → RowKept row last
row-then row new last h g = record {
  stage = g.stage ∙ h.stage;
  process = g.process ∙ h.process;
  find = let a = h.find in let b = g.find in omega arith;
  used = let a = h.used in let b = g.used in omega arith;
}

-- the row after a change of a row: another's, or one that leaves it so
pub row-changed : (threads : List (Option ThreadRow)) (u t : ObjNo) (f : ThreadRow → ThreadRow) (row : ThreadRow)
    → get_or threads t.0 None ≡ Some row → (u.0 ≡ t.0 → ⊥) ⊎ RowKept row (f row)
    → (new : ThreadRow) × (get_or (with_row threads u f) t.0 None ≡ Some new) × RowKept row new
row-changed threads u t f row is kept =
    elim (cases_eq u.0 t.0) as (λ _. (new : ThreadRow) × (get_or (with_row threads u f) t.0 None ≡ Some new)
    × RowKept row new) [
      | inl at ↦ elim kept as (λ _. (new : ThreadRow) × (get_or (with_row threads u f) t.0 None ≡ Some new) × RowKept row new) [
        | inl apart ↦ absurd (apart at)
        | inr harmless ↦ (f row, row-here threads u f t.0 at ∙ ap (option_map f) (ap (λ (n : ℕ). get_or threads n None) at ∙ is), harmless)
      ]
      | inr apart ↦ (row, row-other threads u f t.0 apart ∙ is, row-same row)
    ]

-- a doomed thread with its row: it weighs so much less after some moves, and so much more; and so many logons on it are made. Logons aside
pub record Lighter (S T : State) (t : ObjNo) (row : ThreadRow) (less more logs : ℕ) : Type 0 where
  pub new : ThreadRow
  pub is : thread_of T t ≡ Some new
  pub stage : new.stage ≡ row.stage
  pub process : new.process ≡ row.process
  pub rest : weight_of T t new + length (logons_on S.synchronization.logons t) + less ≤ weight_of S t row + length (logons_on T.synchronization.logons t) + more
  pub logons : length (logons_on T.synchronization.logons t) ≤ length (logons_on S.synchronization.logons t) + logs
  pub gets : GetsNoMore S T t

-- no more is got where locks, owners, messages and links stay
pub gets-same : (S T : State) (t : ObjNo) → mutexes_of T t ≡ mutexes_of S t → servers_of T t ≡ servers_of S t
    → T.serving.messages ≡ S.serving.messages → T.serving.servers.linked ≡ S.serving.servers.linked → GetsNoMore S T t
gets-same S T t mutexes servers messages linked = record {
  mutexes = λ o. let e = ap (total (mutex_names o)) mutexes in omega arith;
  servers = λ o. let e = ap (total (mutex_names o)) servers in omega arith;
  messages = λ o some. let e = ap (λ (r : MessageRows). length (messages_at r o)) messages in omega arith;
  links = λ o some. let e = ap (λ (r : List (List ObjNo)). length (get_or r o.0 [])) linked in omega arith;
}

-- nor by a sweep, which leaves no more sessions linked to a server
links-swept : (S : State) (u o v : ObjNo) → links_to (moved u (Pay (Sweep o)) S) v ≤ links_to S v
links-swept S u o v =
    set_item (λ (l : List ObjNo). length l ≤ links_to S v) S.serving.servers.linked o.0 v.0 [] [] (λ at. omega arith) (omega arith)

pub links_left-swept : (S : State) (u o t : ObjNo) → links_left (moved u (Pay (Sweep o)) S) t ≤ links_left S t
links_left-swept S u o t = total-less (links_to (moved u (Pay (Sweep o)) S)) (links_to S) (servers_of S t) (λ v some. links-swept S u o v)

pub gets-swept : (S : State) (u o t : ObjNo) → GetsNoMore S (moved u (Pay (Sweep o)) S) t
gets-swept S u o t = record {
  mutexes = λ x. omega arith;
  servers = λ x. omega arith;
  messages = λ x some. omega arith;
  links = λ x some. links-swept S u o x;
}

pub gets-then : (S T U : State) (t : ObjNo) → GetsNoMore S T t → GetsNoMore T U t → GetsNoMore S U t
gets-then S T U t h g = record {
  mutexes = λ o. let one = h.mutexes o in let two = g.mutexes o in omega arith;
  servers = λ o. let one = h.servers o in let two = g.servers o in omega arith;
  messages = λ o some. let there = g.servers o in let one = h.messages o (omega arith) in let two = g.messages o some in omega arith;
  links = λ o some. let there = g.servers o in let one = h.links o (omega arith) in let two = g.links o some in omega arith;
}

-- by its parts
pub lighter-parts : (S T : State) (t : ObjNo) (row new : ThreadRow) (owes handles more logs : ℕ)
    → owes + 4 * handles ≤ more → thread_of T t ≡ Some new → RowKept row new
    → total weight (owed_of T t) ≤ total weight (owed_of S t) + owes → length (mutexes_of T t) ≤ length (mutexes_of S t)
    → length (servers_of T t) ≤ length (servers_of S t) → GetsNoMore S T t
    → messages_left T t ≤ messages_left S t → links_left T t ≤ links_left S t
    → handles_in (table_of T t) ≤ handles_in (table_of S t) → handles_in (table_of T row.process) ≤ handles_in (table_of S row.process) + handles
    → length (logons_on T.synchronization.logons t) ≤ length (logons_on S.synchronization.logons t) + logs → Lighter S T t row 0 more logs
lighter-parts S T t row new owes handles more logs most is kept owed mutexes servers gets messages links own shared logons = record {
  new = new;
  is = is;
  stage = kept.stage;
  process = kept.process;
  rest =
      let stage = ap stage_left kept.stage in
      let table : handles_in (table_of T new.process) ≡ handles_in (table_of T row.process) = ap (λ (q : ObjNo). handles_in (table_of T q)) kept.process in
      let find = kept.find in
      let used = kept.used in omega arith;
  logons = logons;
  gets = gets;
}

pub at-most : (n : ℕ) → n ≤ n
at-most n = omega arith

pub at-most_too : (n : ℕ) → n ≤ n + 0
at-most_too n = omega arith

-- where all but rows of threads stays
pub lighter-still : (S T : State) (t : ObjNo) (row new : ThreadRow) → thread_of T t ≡ Some new → RowKept row new
    → T.references.owed ≡ S.references.owed → T.synchronization.mutexes ≡ S.synchronization.mutexes
    → T.serving.owned ≡ S.serving.owned → T.serving.messages ≡ S.serving.messages → T.serving.servers.linked
    ≡ S.serving.servers.linked → T.references.handles ≡ S.references.handles → T.synchronization.logons
    ≡ S.synchronization.logons → Lighter S T t row 0 0 0
lighter-still S T t row new is kept owed mutexes owned messages linked handles logons =
    lighter-parts S T t row new 0 0 0 0 (omega arith) is kept
    (let e = ap (λ (l : List (List Owed)). total weight (get_or l t.0 [])) owed in omega arith)
    (let e = ap (λ (l : List (List ObjNo)). length (get_or l t.0 [])) mutexes in omega arith)
    (let e = ap (λ (l : List (List ObjNo)). length (get_or l t.0 [])) owned in omega arith)
    (gets-same S T t (ap (λ (l : List (List ObjNo)). get_or l t.0 []) mutexes) (ap (λ (l : List (List ObjNo)). get_or l t.0 []) owned) messages linked)
    (let e = ap (λ (l : List (List ObjNo)). total (λ (o : ObjNo). length (messages_at T.serving.messages o)) (get_or l t.0 [])) owned in
    let f = ap (λ (r : MessageRows). total (λ (o : ObjNo). length (messages_at r o)) (servers_of S t)) messages in omega arith)
    (let e = ap (λ (l : List (List ObjNo)). total (λ (o : ObjNo). length (get_or T.serving.servers.linked o.0 [])) (get_or l t.0 [])) owned in
    let f = ap (λ (r : List (List ObjNo)). total (λ (o : ObjNo). length (get_or r o.0 [])) (servers_of S t)) linked in omega arith)
    (let e = ap (λ (l : List (List HandleSlot)). handles_in (get_or l t.0 [])) handles in omega arith)
    (let e = ap (λ (l : List (List HandleSlot)). handles_in (get_or l row.process.0 [])) handles in omega arith)
    (let e = ap (λ (l : List (List (ObjNo × ℕ))). length (logons_on l t)) logons in omega arith)

-- nothing changes
pub lighter-none : (S : State) (t : ObjNo) (row : ThreadRow) → thread_of S t ≡ Some row → Lighter S S t row 0 0 0
lighter-none S t row is = lighter-still S S t row row is (row-same row) refl refl refl refl refl refl refl

-- one after the other
pub lighter-then : (S T U : State) (t : ObjNo) (row : ThreadRow) (a b m n k l less more logs : ℕ)
    (h : Lighter S T t row a m k)
    → Lighter T U t h.new b n l → less ≤ a + b → m + n ≤ more → k + l ≤ logs → Lighter S U t row less more logs
lighter-then S T U t row a b m n k l less more logs h g fewer most made = record {
  new = g.new;
  is = g.is;
  stage = g.stage ∙ h.stage;
  process = g.process ∙ h.process;
  rest = let one = h.rest in let two = g.rest in omega arith;
  logons = let one = h.logons in let two = g.logons in omega arith;
  gets = gets-then S T U t h.gets g.gets;
}

-- so much more, and no more
pub lighter-at-most : (S T : State) (t : ObjNo) (row : ThreadRow) (a m k less more logs : ℕ) → Lighter S T t row a m k
    → less ≤ a → m ≤ more → k ≤ logs → Lighter S T t row less more logs
lighter-at-most S T t row a m k less more logs h fewer most made = record {
  new = h.new;
  is = h.is;
  stage = h.stage;
  process = h.process;
  rest = let one = h.rest in omega arith;
  logons = let one = h.logons in omega arith;
  gets = h.gets;
}
