-- Moves that change a thread's row, and no reference: a find and a miss, a number that is kept, another step, a register, a wait and its end, a
-- priority; and a fill.
use Rattle.std.proofs.Common.{◌≡◌, ◌⊎◌, inl, inr, ℕ, ◌+◌, ◌<◌, ◌≤◌, Bool, true, false, List, [], ◌∷◌, length, get_or, arith, refl, sym, subst, ap, ◌∙◌, Option, Some, None}
use Rattle.std.specs.Prelude.{◌==◌, ◌&&◌, ◌%◌, is_some, option_map, if◌then◌else◌}
use Rattle.std.proofs.lemmas.Bool.{cases_eq, cases_lt}
use Rattle.std.proofs.lemmas.List.{length-set}
use Rattle.sym_base.specs.declared.number.ObjNo.{ObjNo}
use Rattle.script_types.specs.declared.script.Script.{Script}
use Rattle.entry_log.specs.declared.effect.Holder.{Holder}
use Rattle.entry_log.specs.declared.effect.Holder.TheVariants.{Temp, Link}
use Rattle.entry_log.specs.declared.effect.Effect.{Effect}
use Rattle.entry_log.specs.declared.effect.Effect.TheVariants.{Seek, Missed}
use Rattle.entry_log.specs.declared.step.Part.{Part}
use Rattle.entry_log.specs.declared.step.Part.TheVariants.{Return}
use Rattle.machine.specs.declared.moves.Move.TheVariants.{Find, Miss, GoOn, Keep, Write, WriteMessage, Wait, Wake, SetPriority, Fill}
use Rattle.state_rows.specs.ObjectRows.{place_of}
use Rattle.state_rows.specs.declared.object.ObjectRow.{ObjectRow}
use Rattle.state_rows.specs.declared.thread.Waiting.{Waiting}
use Rattle.state_rows.specs.declared.thread.Waiting.TheVariants as waiting
use Rattle.state_rows.specs.declared.thread.ThreadRow.{ThreadRow}
use Rattle.machine.specs.declared.services.Services.{Services}
use Rattle.machine.specs.declared.state.State.{State}
use Rattle.machine.specs.declared.synchronization.Synchronization.{Synchronization}
use Rattle.machine.specs.Rows.{object_of, thread_of, with_row}
use Rattle.machine.specs.Memory.{filled, with_memory}
use Rattle.machine.specs.Moves.{moved, told, with_found, with_kept, with_message, with_missed, with_register, with_waiting, with_priority}
use Rattle.machine.specs.References.{thread_names, count_of, pluses, same, stage_holds, total}
use Rattle.machine.specs.Told.{finds}
use Rattle.machine.specs.Holding.{is_holder, held_after_all, EachFitsHolders, link_names}
use Rattle.machine.specs.HeldIn.{held_in, use_names}
use Rattle.machine.specs.Task.{instructions_of}
use Rattle.machine.specs.Out.{is_returning, outs_of, part_of, seeks}
use Rattle.machine.specs.Fits.{FitsMove, IsBack, MayMiss, WaitsNowhere}
use Rattle.machine.specs.FitsServers.{IsUncalled}
use Rattle.machine.specs.Serving.{AreMessages, AreServers, begun, numbers_left}
use Rattle.machine.specs.WellFormed.{IsAlive, is_before_use, IsThread, AreSynchronized, AreSynchronizationRows, AreServiceRows, AreRows, AreServingRows, AreSpent, IsUntold, is_spent}
use Rattle.move_laws.proofs.Lives.Kinds.{IsQuiet, lives-quiet}
use Rattle.move_laws.proofs.Lives.Outs.{KeepsSeeks, out-le, outs-same, seeks-back, seeks-with_row, seeks_is}
use Rattle.move_laws.proofs.Lives.Places.{HasPlace, OutsFound, outs-found}
use Rattle.move_laws.proofs.Holders.ThreadRows.{row_holds, rows-with_row, row-other}
use Rattle.move_laws.proofs.Lists.Totals.{total-with}
use Rattle.move_laws.proofs.References.Counts.{count-with_row, kernel-with_row}
use Rattle.move_laws.proofs.References.Same.{if_not, same_is}
use Rattle.move_laws.proofs.RowLaws.Threads.{KeepsThread, length-with_row, threads-with_row, none-with_row}
use Rattle.move_laws.proofs.RowLaws.Duties.{IsPaidIn, paid-with_row, duties-threads}
use Rattle.move_laws.proofs.RowLaws.Locks.{leaves-nowhere, leaves-with_row}
use Rattle.move_laws.proofs.RowLaws.Memories.{memories-filled}
use Rattle.move_laws.proofs.RowLaws.MessagesKept.{KeepsMessages, messages-kept, messages-with_row, fewer-with_row}
use Rattle.move_laws.proofs.RowLaws.ServersKept.{servers-kept}
use Rattle.move_laws.proofs.RowLaws.Synchronized.{synchronized-with_row, synchronized-unheld}
use Rattle.move_laws.proofs.MoveLaws.Groups.{LeavesSynchronization, services-row, synchronization-kept, synchronization-left}
use Rattle.move_laws.proofs.MoveLaws.Sound.{Sound, sound-of}
use Rattle.move_laws.proofs.RowLaws.Spent.{spent-going, spent-kept}
use Rattle.move_laws.proofs.RowLaws.Awaited.{awaited-kept, awaited-with_row}
use Rattle.state_rows.specs.declared.thread.Stage.TheVariants.{Live}

-- effects that tell of no reference and no death
pub record IsSilent (S : State) (effects : List Effect) : Type 0 where
  pub quiet : IsQuiet effects
  pub pluses : (o : ObjNo) → pluses effects o ≡ 0
  pub found : (o : ObjNo) → 0 < finds effects o → is_some (object_of S o) ≡ true
  pub fits : EachFitsHolders (held_in S) effects
  pub after : (g : Holder) (x : ObjNo) → held_after_all (held_in S) effects g x ≡ held_in S g x

-- such are none
pub silent : (S : State) → IsSilent S []
silent S = record {
  quiet = record { minuses = λ o. refl; deaths = λ o. refl; removals = λ o. refl };
  pluses = λ o. refl;
  found = λ o h. absurd (omega arith);
  fits = tt;
  after = λ g x. refl;
}

-- a change of a row that leaves its references
pub record KeepsReferences (f : ThreadRow → ThreadRow) : Type 0 where
  pub link : (row : ThreadRow) → (f row).link ≡ row.link
  pub uses : (row : ThreadRow) → (f row).uses ≡ row.uses

pub names-map : (f : ThreadRow → ThreadRow) (x : Option ThreadRow) (o : ObjNo) → KeepsReferences f
    → (use_names o (option_map f x) ≡ use_names o x) × (link_names o (option_map f x) ≡ link_names o x)
    × (thread_names o (option_map f x) ≡ thread_names o x)
names-map f None o h = (refl, refl, refl)
names-map f (Some row) o h = let a = h.uses row in let b = h.link row in (cc, cc, cc)

-- a change that leaves its stage and gives it no other link leaves the rows of servers
pub servers-row : (script : Script) (S : State) (u : ObjNo) (f : ThreadRow → ThreadRow)
    → ((row : ThreadRow) → (f row).stage ≡ row.stage) → ((row : ThreadRow) (p : ObjNo) → (f row).link ≡ Some p → row.link ≡ Some p)
    → AreRows script S
    → AreServers (λ row. is_spent row.stage) S.references.objects
    (with_row S.references.threads u f) S.synchronization.locks S.serving.owned S.serving.servers
servers-row script S u f stage link rows =
    servers-kept (λ row. is_spent row.stage)
    S.references.objects S.references.threads S.synchronization.locks S.serving.owned S.serving.servers u f
    stage (λ row. ap is_spent (stage row)) link rows.serving.servers

-- and one that goes back to no step those of messages
pub messages-row : (script : Script) (S : State) (u : ObjNo) (f : ThreadRow → ThreadRow) → KeepsMessages f
    → AreRows script S
    → AreMessages (IsUntold S.synchronization.requests S.synchronization.logons)
    (with_row S.references.threads u f) S.serving.servers S.serving.messages
messages-row script S u f keeps rows =
    messages-kept (IsUntold S.synchronization.requests S.synchronization.logons) S.references.threads S.serving.servers
    S.serving.messages u f keeps rows.serving.messages

-- and one that does both, those of both
pub serving-kept : (script : Script) (S : State) (u : ObjNo) (f : ThreadRow → ThreadRow)
    → ((row : ThreadRow) → (f row).stage ≡ row.stage) → ((row : ThreadRow) (p : ObjNo) → (f row).link ≡ Some p → row.link ≡ Some p)
    → KeepsMessages f → AreRows script S
    → AreServingRows S.references.objects (with_row S.references.threads u f) S.synchronization.locks
    (IsUntold S.synchronization.requests S.synchronization.logons) S.serving
serving-kept script S u f stage link keeps rows = record { servers = servers-row script S u f stage link rows; messages = messages-row script S u f keeps rows }

-- a change after which who isn't out any more was out on what is gone
pub sound-row-out : (script : Script) (S : State) (u : ObjNo) (f : ThreadRow → ThreadRow) (effects : List Effect)
    → ((o : ObjNo) → IsAlive (object_of S o) → outs_of S o
    ≤ outs_of (record S { references = record S.references { threads = with_row S.references.threads u f } }) o)
    → OutsFound S (record S { references = record S.references { threads = with_row S.references.threads u f } })
    → KeepsReferences f
    → ((row : ThreadRow) → thread_of S u ≡ Some row → stage_holds (f row).stage ≡ stage_holds row.stage)
    → ((row : ThreadRow) → thread_of S u ≡ Some row → IsThread script (length S.references.threads) row
    → KeepsThread script (length S.references.threads) row (f row))
    → ((k : ℕ) → (get_or S.references.owed k [] ≡ [])
    ⊎ IsPaidIn S.references.threads (with_row S.references.threads u f) k)
    → IsSilent S effects → LeavesSynchronization script S (with_row S.references.threads u f) S.references.owed
    → AreSpent S.references.objects S.references.handles (with_row S.references.threads u f)
    → AreServingRows S.references.objects (with_row S.references.threads u f) S.synchronization.locks
    (IsUntold S.synchronization.requests S.synchronization.logons) S.serving
    → AreRows script S → Sound script S (record S { references = record S.references { threads = with_row S.references.threads u f } }) effects
sound-row-out script S u f effects outs sought keeps holds thread paid quiet leaves spent serving rows =
    let T : State = record S { references = record S.references { threads = with_row S.references.threads u f } } in
    let old = thread_of S u in
    let counts : (o : ObjNo) → count_of T o ≡ count_of S o = λ o.
    let a = count-with_row S.references.threads u f o in
    let b = kernel-with_row S.references.threads u f o holds in
    let c = (names-map f old o keeps).2 in omega arith in
    let held : (g : Holder) (x : ObjNo) → held_in T g x ≡ held_in S g x = λ g x.
    let a = rows-with_row S.references.handles S.references.threads S.synchronization.mutexes u f g x holds in
    let n = names-map f old x keeps in
    let b : row_holds u (option_map f old) g x ≡ row_holds u old g x =
    ap (λ (y : ℕ). (if is_holder (Temp u) g then y else 0) +
    (if is_holder (Link u) g then link_names x (option_map f old) else 0)) n.0
    ∙ ap (λ (y : ℕ). (if is_holder (Temp u) g then use_names x old else 0) + (if is_holder (Link u) g then y else 0))
    n.1 in
    omega arith in
    sound-of script S T effects rows (record {
      handles_long = refl;
      threads_long = length-with_row S.references.threads u f;
      owed_long = refl;
      objects_few = rows.references.sized.objects_few;
      tables = rows.references.tables;
      threads = threads-with_row script S.references.threads u f thread rows.references.threads;
      duties =
          duties-threads S.references.threads (with_row S.references.threads u f) S.serving.servers
          S.serving.messages.accepted S.references.owed paid rows.references.duties;
      synchronization =
          synchronization-left script S S.references.objects (with_row S.references.threads u f) S.references.owed
          (λ k none. none) leaves rows;
      services = services-row S.references.threads u f S.services (λ row is. (thread row is (rows.references.threads.rows u.0 row is)).process) rows.services;
      spent = spent;
      serving = serving;
    })
    (lives-quiet S T effects (refl, refl, refl) quiet.quiet
    (λ o. let a = counts o in let b = quiet.pluses o in let c = quiet.quiet.minuses o in omega arith) (λ o. refl)
    (λ o alive. let a = outs o alive in omega arith) sought
    (λ o h. let b = quiet.pluses o in absurd (omega arith)) quiet.found)
    (record { fits = quiet.fits; moves = λ g x. quiet.after g x ∙ sym (held g x) })

-- one that leaves who is out
pub sound-row : (script : Script) (S : State) (u : ObjNo) (f : ThreadRow → ThreadRow) (effects : List Effect)
    → ((row : ThreadRow) → thread_of S u ≡ Some row → KeepsSeeks f row) → KeepsReferences f
    → ((row : ThreadRow) → thread_of S u ≡ Some row → stage_holds (f row).stage ≡ stage_holds row.stage)
    → ((row : ThreadRow) → thread_of S u ≡ Some row → IsThread script (length S.references.threads) row
    → KeepsThread script (length S.references.threads) row (f row))
    → ((k : ℕ) → (get_or S.references.owed k [] ≡ [])
    ⊎ IsPaidIn S.references.threads (with_row S.references.threads u f) k)
    → IsSilent S effects → LeavesSynchronization script S (with_row S.references.threads u f) S.references.owed
    → AreSpent S.references.objects S.references.handles (with_row S.references.threads u f)
    → AreServingRows S.references.objects (with_row S.references.threads u f) S.synchronization.locks
    (IsUntold S.synchronization.requests S.synchronization.logons) S.serving
    → AreRows script S → Sound script S (record S { references = record S.references { threads = with_row S.references.threads u f } }) effects
sound-row script S u f effects seek keeps holds thread paid quiet leaves spent serving rows =
    let same = seeks-with_row S.references.threads u f seek in
    sound-row-out script S u f effects (λ o alive. let a = outs-same S (with_row S.references.threads u f) same o in omega arith)
    (outs-found S (record S { references = record S.references { threads = with_row S.references.threads u f } }) same)
    keeps holds thread paid quiet leaves spent serving rows

-- a return comes before the use of anything, and isn't the last step of its instruction
pub returning_before : (p : Option Part) → is_returning p ≡ true → is_before_use p ≡ true
returning_before (Some Return) e = refl
returning_before _ e = absurd (cc)

pub returning_begun : (p : Option Part) → is_returning p ≡ true → begun p ≡ 0
returning_begun (Some Return) e = refl
returning_begun _ e = absurd (cc)

-- whoever comes back to what is gone was out on nothing that isn't
missed_none : (S : State) (u o p : ObjNo) → MayMiss S u o → IsAlive (object_of S p) → seeks p (place_of (object_of S p)) (thread_of S u) ≡ 0
missed_none S u o p fits alive = elim (cases_lt 0 (seeks p (place_of (object_of S p)) (thread_of S u))) as
    (λ _. seeks p (place_of (object_of S p)) (thread_of S u) ≡ 0) [
      | inr none ↦ omega arith
      | inl some ↦
          let back = fits.back in
          let is = ap (seeks p (place_of (object_of S p))) back.is in
          let own = seeks_is p (place_of (object_of S p)) back.row (omega arith) in
          let at : o ≡ p = sym back.found ∙ own.2 in
          absurd (fits.over (subst (λ (x : ObjNo). IsAlive (object_of S x)) (sym at) alive)
          (ap (λ (x : ObjNo). place_of (object_of S x)) at ∙ sym own.1))
    ]

-- the row of a thread that isn't between a find and its return isn't at one
pub is_back : (S : State) (u : ObjNo) (row : ThreadRow) → thread_of S u ≡ Some row → IsBack S u → is_returning row.part ≡ false
is_back S u row is back = sym (ap (λ (x : Option ThreadRow). is_returning (part_of x)) is) ∙ back

-- a thread's row is one
pub one_row : (S : State) (u : ObjNo) (old row : ThreadRow) → thread_of S u ≡ Some old → thread_of S u ≡ Some row → old ≡ row
one_row S u old row a b = cc

-- an object that is there has its place
found_there : (S : State) (o p : ObjNo) (place : ℕ) → is_some (object_of S o) ≡ true → place_of (object_of S o) ≡ place
    → o ≡ p → HasPlace S p place
found_there S o p place there at own = by (object_of S o) refl
  where
    by : (x : Option ObjectRow) → object_of S o ≡ x → HasPlace S p place
    by None none = let no : is_some (object_of S o) ≡ false = ap is_some none in absurd (cc)
    by (Some row) some = record {
      row = row;
      is = subst (λ (y : ObjNo). object_of S y ≡ Some row) own some;
      place_is = sym (ap place_of some) ∙ at;
    }

-- who finds an object is out on it then, and nobody less on another
pub sound-find : (script : Script) (S : State) (t u o : ObjNo) → FitsMove script t (Find u o) S → AreRows script S
    → Sound script S (moved t (Find u o) S) (told (Find u o) S)
sound-find script S t u o fits rows =
    let may = fits.0 in
    let f = with_found o (place_of (object_of S o)) in
    let threads = S.references.threads in
    let same_row = λ (row : ThreadRow) (is : thread_of S u ≡ Some row). one_row S u may.row row may.is is in
    let before : (p : ObjNo) (place : ℕ) → seeks p place (thread_of S u) ≡ 0 = λ p place. ap (seeks p place) may.is
    ∙ if_not (is_returning may.row.part && may.row.sought_place == place) (same may.row.sought p)
    (ap (λ (b : Bool). b && may.row.sought_place == place) may.going) in
    sound-row-out script S u f (Seek o ∷ [])
    (λ p alive. let place = place_of (object_of S p) in
    out-le S.mode.shared (total (seeks p place) threads) (total (seeks p place) (with_row threads u f))
    (let a = total-with (seeks p place) (option_map f) None threads u.0 refl in let b = before p place in omega arith))
    (λ p place some. elim (cases_lt 0 (seeks p place (option_map f (thread_of S u)))) as
    (λ _. (0 < total (seeks p place) threads) ⊎ HasPlace S p place) [
      | inl here ↦
          let is = ap (λ (x : Option ThreadRow). seeks p place (option_map f x)) may.is in
          let own = seeks_is p place (f may.row) (omega arith) in
          inr (found_there S o p place may.object own.1 own.2)
      | inr nothing ↦ let a = total-with (seeks p place) (option_map f) None threads u.0 refl in let b = before p place in inl (omega arith)
    ])
    (record { link = λ row. refl; uses = λ row. refl }) (λ row is. refl)
    (λ row is h. let at = same_row row is in record {
      thread = record {
        process = h.process;
        link = h.link;
        priority = h.priority;
        next_instruction = h.next_instruction;
        unused = λ before. subst (λ (r : ThreadRow). r.uses ≡ None) at may.unused;
        registers = h.registers;
        declared = h.declared;
        returns =
            λ back. subst (λ (r : ThreadRow). r.next_instruction < length (instructions_of script r.role)) at may.at;
      };
      process = refl;
      role = refl;
    })
    (λ k. elim (cases_eq u.0 k) as (λ _. (get_or S.references.owed k [] ≡ []) ⊎ IsPaidIn threads (with_row threads u f) k) [
      | inl at ↦ inl (ap (λ (n : ℕ). get_or S.references.owed n []) (sym at) ∙ may.paid)
      | inr apart ↦ inr (record {
        long = length-with_row threads u f;
        none = none-with_row threads u f;
        going = λ h. ap (λ (y : Option ThreadRow). is_returning (part_of y)) (row-other threads u f k apart) ∙ h;
      })
    ])
    (record {
      quiet = record { minuses = λ p. refl; deaths = λ p. refl; removals = λ p. refl };
      pluses = λ p. refl;
      found = λ p h. subst (λ (y : ObjNo). is_some (object_of S y) ≡ true) (same_is o p (omega arith)) may.object;
      fits = (tt, tt);
      after = λ g x. refl;
    })
    (record {
      nano = synchronized-unheld script threads u f S.synchronization.nano may.holds rows.synchronization.nano;
      locks = leaves-with_row threads u f S.references.owed S.synchronization.locks (λ row. refl);
      awaited = awaited-kept threads u f S.synchronization.requests S.synchronization.logons (λ row. refl) (λ row. refl) rows.synchronization.awaited;
    })
    (spent-going S.references.objects S.references.handles threads u f
    (λ row is. subst (λ (r : ThreadRow). is_spent r.stage ≡ false) (same_row row is) may.unspent)
    (λ row e. e) rows.references.spent)
    (record {
      servers = servers-row script S u f (λ row. refl) (λ row p e. e) rows;
      messages =
          messages-with_row (IsUntold S.synchronization.requests S.synchronization.logons) threads S.serving.servers
          S.serving.messages u f (λ row is called was live. was live)
          (fewer-with_row numbers_left threads u f
          (λ row is. let a = subst (λ (r : ThreadRow). begun r.part ≡ 0) (same_row row is) may.begins in omega arith))
          rows.serving.messages;
    }) rows

pub sound-write : (script : Script) (S : State) (t u : ObjNo) (x value : ℕ) → FitsMove script t (Write u x value) S
    → AreRows script S → Sound script S (moved t (Write u x value) S) (told (Write u x value) S)
sound-write script S t u x value fits rows =
    sound-row script S u (with_register x value) [] (λ row is o place. refl)
    (record { link = λ row. refl; uses = λ row. refl }) (λ row is. refl)
    (λ row is h. record {
      thread = record {
        process = h.process;
        link = h.link;
        priority = h.priority;
        next_instruction = h.next_instruction;
        unused = h.unused;
        registers = length-set row.registers x value ∙ h.registers;
        declared = h.declared;
        returns = h.returns;
      };
      process = refl;
      role = refl;
    })
    (λ k. inr (paid-with_row S.references.threads u (with_register x value) (λ row h. h) k)) (silent S)
    (synchronization-kept script S u (with_register x value) (λ row h. h) (λ row. refl) (λ row. refl) rows)
    (spent-kept S.references.objects S.references.handles S.references.threads u (with_register x value)
    (record { stage = λ row. refl; unused = λ row e. e; waits = λ row e. e; going = λ row e. e; link = λ row e. e })
    rows.references.spent) (serving-kept script S u (with_register x value) (λ row. refl) (λ row p e. e)
    (record {
      live = λ row live. live;
      waits = λ row live. refl;
      left = λ row. omega arith;
    }) rows) rows

pub sound-keep : (script : Script) (S : State) (t u : ObjNo) (number : ℕ) → FitsMove script t (Keep u number) S
    → AreRows script S → Sound script S (moved t (Keep u number) S) (told (Keep u number) S)
sound-keep script S t u number fits rows =
    sound-row script S u (with_kept number) []
    (λ row is. let back = is_back S u row is fits.0 in seeks-back (with_kept number) row back back)
    (record { link = λ row. refl; uses = λ row. refl }) (λ row is. refl)
    (λ row is h. record {
      thread = record {
        process = h.process;
        link = h.link;
        priority = h.priority;
        next_instruction = h.next_instruction;
        unused = h.unused;
        registers = h.registers;
        declared = h.declared;
        returns = h.returns;
      };
      process = refl;
      role = refl;
    })
    (λ k. inr (paid-with_row S.references.threads u (with_kept number) (λ row h. h) k)) (silent S)
    (synchronization-kept script S u (with_kept number) (λ row h. h) (λ row. refl) (λ row. refl) rows)
    (spent-kept S.references.objects S.references.handles S.references.threads u (with_kept number)
    (record { stage = λ row. refl; unused = λ row e. e; waits = λ row e. e; going = λ row e. e; link = λ row e. e })
    rows.references.spent) (serving-kept script S u (with_kept number) (λ row. refl) (λ row p e. e)
    (record {
      live = λ row live. live;
      waits = λ row live. refl;
      left = λ row. omega arith;
    }) rows) rows

pub sound-write_message : (script : Script) (S : State) (t u : ObjNo) (y number : ℕ) → AreRows script S
    → Sound script S (moved t (WriteMessage u y number) S) (told (WriteMessage u y number) S)
sound-write_message script S t u y number rows =
    sound-row script S u (with_message y number) [] (λ row is o place. refl)
    (record { link = λ row. refl; uses = λ row. refl }) (λ row is. refl)
    (λ row is h. record {
      thread = record {
        process = h.process;
        link = h.link;
        priority = h.priority;
        next_instruction = h.next_instruction;
        unused = h.unused;
        registers = h.registers;
        declared = h.declared;
        returns = h.returns;
      };
      process = refl;
      role = refl;
    })
    (λ k. inr (paid-with_row S.references.threads u (with_message y number) (λ row h. h) k)) (silent S)
    (synchronization-kept script S u (with_message y number) (λ row h. h) (λ row. refl) (λ row. refl) rows)
    (spent-kept S.references.objects S.references.handles S.references.threads u (with_message y number)
    (record { stage = λ row. refl; unused = λ row e. e; waits = λ row e. e; going = λ row e. e; link = λ row e. e })
    rows.references.spent) (serving-kept script S u (with_message y number) (λ row. refl) (λ row p e. e)
    (record {
      live = λ row live. live;
      waits = λ row live. refl;
      left = λ row. omega arith;
    }) rows) rows

pub sound-go_on : (script : Script) (S : State) (t u : ObjNo) (part : Part) → FitsMove script t (GoOn u part) S
    → AreRows script S → Sound script S (moved t (GoOn u part) S) (told (GoOn u part) S)
sound-go_on script S t u part fits rows =
    let f : ThreadRow → ThreadRow = λ row. record row { part = Some part } in
    sound-row script S u f [] (λ row is. seeks-back f row (is_back S u row is fits.0.going) fits.0.other)
    (record { link = λ row. refl; uses = λ row. refl }) (λ row is. refl)
    (λ row is h. record {
      thread = record {
        process = h.process;
        link = h.link;
        priority = h.priority;
        next_instruction = h.next_instruction;
        unused = fits.0.unused row is;
        registers = h.registers;
        declared = h.declared;
        returns = λ e. let no = fits.0.other in absurd (cc);
      };
      process = refl;
      role = refl;
    })
    (λ k. inr (paid-with_row S.references.threads u f (λ row h. fits.0.other) k)) (silent S)
    (synchronization-kept script S u f (λ row h. (h.0, h.1, h.2, fits.0.other)) (λ row. refl) (λ row. refl) rows)
    (spent-going S.references.objects S.references.handles S.references.threads u f fits.0.unspent
    (λ row e. e) rows.references.spent) (record {
      servers = servers-row script S u f (λ row. refl) (λ row p e. e) rows;
      messages =
          messages-with_row (IsUntold S.synchronization.requests S.synchronization.logons) S.references.threads
          S.serving.servers S.serving.messages u f (λ row is called was live. was live)
          (fewer-with_row numbers_left S.references.threads u f (λ row is. let a = fits.0.ends row is in omega arith)) rows.serving.messages;
    }) rows

-- a change of what a thread waits for that stands among no waiters
sound-waiting : (script : Script) (S : State) (u : ObjNo) (what : Waiting) → WaitsNowhere S u → IsUncalled S u
    → AreSynchronized script (with_row S.references.threads u (with_waiting what)) S.synchronization.nano
    → AreSpent S.references.objects S.references.handles (with_row S.references.threads u (with_waiting what))
    → ((row : ThreadRow) (o : ObjNo) → thread_of S u ≡ Some row → what ≡ waiting.Lock o → row.stage ≡ Live)
    → AreRows script S
    → Sound script S (record S {
      references = record S.references
          { threads = with_row S.references.threads u (with_waiting what) };
    }) []
sound-waiting script S u what nowhere uncalled nano spent live rows =
    sound-row script S u (with_waiting what) [] (λ row is o place. refl) (record { link = λ row. refl; uses = λ row. refl })
    (λ row is. refl)
    (λ row is h. record {
      thread = record {
        process = h.process;
        link = h.link;
        priority = h.priority;
        next_instruction = h.next_instruction;
        unused = h.unused;
        registers = h.registers;
        declared = h.declared;
        returns = h.returns;
      };
      process = refl;
      role = refl;
    })
    (λ k. inr (paid-with_row S.references.threads u (with_waiting what) (λ row h. h) k)) (silent S) (record {
      nano = nano;
      locks = leaves-nowhere S.references.threads u (with_waiting what) S.references.owed S.synchronization.locks nowhere;
      awaited =
          awaited-with_row S.references.threads u (with_waiting what) S.synchronization.requests S.synchronization.logons
          (λ row is live. live) (λ row o is was e. live row o is e) rows.synchronization.awaited;
    }) spent (record {
      servers = servers-row script S u (with_waiting what) (λ row. refl) (λ row p e. e) rows;
      messages =
          messages-with_row (IsUntold S.synchronization.requests S.synchronization.logons) S.references.threads
          S.serving.servers S.serving.messages u (with_waiting what)
          (λ row is called was live. absurd (let none = uncalled row is live in omega arith))
          (fewer-with_row numbers_left S.references.threads u (with_waiting what) (λ row is. omega arith))
          rows.serving.messages;
    }) rows

pub sound-wait : (script : Script) (S : State) (t u : ObjNo) (what : Waiting) → FitsMove script t (Wait u what) S
    → AreRows script S → Sound script S (moved t (Wait u what) S) (told (Wait u what) S)
sound-wait script S t u what fits rows =
    sound-waiting script S u what fits.1 fits.3
    (synchronized-unheld script S.references.threads u
    (with_waiting what) S.synchronization.nano fits.0 rows.synchronization.nano)
    (spent-going S.references.objects S.references.handles S.references.threads u (with_waiting what)
    (λ row is. ap is_spent (fits.2 row is)) (λ row e. e) rows.references.spent) (λ row o is e. fits.2 row is) rows

pub sound-wake : (script : Script) (S : State) (t u : ObjNo) → FitsMove script t (Wake u) S → AreRows script S
    → Sound script S (moved t (Wake u) S) (told (Wake u) S)
sound-wake script S t u fits rows =
    sound-waiting script S u waiting.Nothing fits.0 fits.1
    (synchronized-with_row script S.references.threads u (with_waiting waiting.Nothing) S.synchronization.nano
    (λ row h. (refl, h.1, h.2, h.3)) rows.synchronization.nano)
    (spent-kept S.references.objects S.references.handles S.references.threads u (with_waiting waiting.Nothing)
    (record { stage = λ row. refl; unused = λ row e. e; waits = λ row e. refl; going = λ row e. e; link = λ row e. e })
    rows.references.spent) (λ row o is e. absurd (cc)) rows

pub sound-priority : (script : Script) (S : State) (t u : ObjNo) (priority : ℕ)
    → FitsMove script t (SetPriority u priority) S → AreRows script S
    → Sound script S (moved t (SetPriority u priority) S) (told (SetPriority u priority) S)
sound-priority script S t u priority fits rows =
    sound-row script S u (with_priority priority) [] (λ row is o place. refl)
    (record { link = λ row. refl; uses = λ row. refl }) (λ row is. refl)
    (λ row is h. record {
      thread = record {
        process = h.process;
        link = h.link;
        priority = fits;
        next_instruction = h.next_instruction;
        unused = h.unused;
        registers = h.registers;
        declared = h.declared;
        returns = h.returns;
      };
      process = refl;
      role = refl;
    })
    (λ k. inr (paid-with_row S.references.threads u (with_priority priority) (λ row h. h) k)) (silent S)
    (synchronization-kept script S u (with_priority priority) (λ row h. h) (λ row. refl) (λ row. refl) rows)
    (spent-kept S.references.objects S.references.handles S.references.threads u (with_priority priority)
    (record { stage = λ row. refl; unused = λ row e. e; waits = λ row e. e; going = λ row e. e; link = λ row e. e })
    rows.references.spent) (serving-kept script S u (with_priority priority) (λ row. refl) (λ row p e. e)
    (record {
      live = λ row live. live;
      waits = λ row live. refl;
      left = λ row. omega arith;
    }) rows) rows

-- a state with other rows by which threads synchronize, but for locks and mutexes, and with other services
abbrev pub with_rest : State → Synchronization → Services → State
with_rest S new services = record S {
  synchronization = record new { locks = S.synchronization.locks; mutexes = S.synchronization.mutexes };
  services = services;
}

-- such a change leaves all else
pub sound-rest : (script : Script) (S : State) (new : Synchronization) (services : Services) (effects : List Effect)
    → IsSilent S effects
    → AreSynchronizationRows script (length S.references.threads)
    S.references.objects S.references.threads S.references.owed (with_rest S new services).synchronization
    → AreServiceRows S.references.threads services
    → AreMessages (IsUntold new.requests new.logons) S.references.threads S.serving.servers S.serving.messages
    → AreRows script S → Sound script S (with_rest S new services) effects
sound-rest script S new services effects quiet synchronization kept messages rows =
    let T : State = with_rest S new services in
    sound-of script S T effects rows (record {
      handles_long = refl;
      threads_long = refl;
      owed_long = refl;
      objects_few = rows.references.sized.objects_few;
      tables = rows.references.tables;
      threads = rows.references.threads;
      duties = rows.references.duties;
      synchronization = synchronization;
      services = kept;
      spent = rows.references.spent;
      serving = record { servers = rows.serving.servers; messages = messages };
    })
    (lives-quiet S T effects (refl, refl, refl) quiet.quiet
    (λ o. let b = quiet.pluses o in let c = quiet.quiet.minuses o in omega arith) (λ o. refl)
    (λ o alive. omega arith) (outs-found S T (λ o place. refl)) (λ o h. let b = quiet.pluses o in absurd (omega arith)) quiet.found)
    (record { fits = quiet.fits; moves = quiet.after })

-- what is told while the rows stay
pub sound-silent : (script : Script) (S : State) (effects : List Effect) → IsSilent S effects → AreRows script S → Sound script S S effects
sound-silent script S effects quiet rows =
    sound-rest script S S.synchronization S.services effects quiet rows.synchronization rows.services
    rows.serving.messages rows

-- services change alone
pub sound-services : (script : Script) (S : State) (services : Services) → AreServiceRows S.references.threads services
    → AreRows script S → Sound script S (record S { services = services }) []
sound-services script S services kept rows = sound-rest script S S.synchronization services [] (silent S) rows.synchronization kept rows.serving.messages rows

-- who comes back to an object that is gone isn't out on it any more, and still on no other
pub sound-miss : (script : Script) (S : State) (t u o : ObjNo) → FitsMove script t (Miss u o) S → AreRows script S
    → Sound script S (moved t (Miss u o) S) (told (Miss u o) S)
sound-miss script S t u o fits rows =
    let f = with_missed in
    let threads = S.references.threads in
    let back = fits.0.back in
    let after : (p : ObjNo) (place : ℕ) → seeks p place (option_map f (thread_of S u)) ≡ 0 =
    λ p place. ap (λ (x : Option ThreadRow). seeks p place (option_map f x)) back.is in
    sound-row-out script S u f (Missed o ∷ [])
    (λ p alive. let place = place_of (object_of S p) in
    out-le S.mode.shared (total (seeks p place) threads) (total (seeks p place) (with_row threads u f))
    (let a = total-with (seeks p place) (option_map f) None threads u.0 refl in
    let b = missed_none S u o p fits.0 alive in omega arith))
    (λ p place some. let a = total-with (seeks p place) (option_map f) None threads u.0 refl in let b = after p place in inl (omega arith))
    (record { link = λ row. refl; uses = λ row. refl }) (λ row is. refl)
    (λ row is h. record {
      thread = record {
        process = h.process;
        link = h.link;
        priority = h.priority;
        next_instruction = h.next_instruction;
        unused =
            λ before. h.unused (let e = subst (λ (r : ThreadRow). is_returning r.part ≡ true)
            (one_row S u back.row row back.is is) back.returns in returning_before row.part e);
        registers = h.registers;
        declared = h.declared;
        returns = λ e. absurd (cc);
      };
      process = refl;
      role = refl;
    })
    (λ k. inr (paid-with_row threads u f (λ row h. refl) k))
    (record {
      quiet = record { minuses = λ p. refl; deaths = λ p. refl; removals = λ p. refl };
      pluses = λ p. refl;
      found = λ p h. absurd (omega arith);
      fits = (tt, tt);
      after = λ g x. refl;
    })
    (synchronization-kept script S u f (λ row h. (h.0, h.1, h.2, refl)) (λ row. refl) (λ row. refl) rows)
    (spent-kept S.references.objects S.references.handles threads u f
    (record { stage = λ row. refl; unused = λ row e. e; waits = λ row e. e; going = λ row e. refl; link = λ row e. e })
    rows.references.spent)
    (record {
      servers = servers-row script S u f (λ row. refl) (λ row p e. e) rows;
      messages =
          messages-with_row (IsUntold S.synchronization.requests S.synchronization.logons) threads S.serving.servers
          S.serving.messages u f (λ row is called was live. was live)
          (fewer-with_row numbers_left threads u f
          (λ row is. let e = subst (λ (r : ThreadRow). is_returning r.part ≡ true)
          (one_row S u back.row row back.is is) back.returns in let a = returning_begun row.part e in omega arith))
          rows.serving.messages;
    }) rows

pub sound-fill : (script : Script) (S : State) (t p : ObjNo) (at long byte : ℕ)
    → FitsMove script t (Fill p at long byte) S → AreRows script S
    → Sound script S (moved t (Fill p at long byte) S) (told (Fill p at long byte) S)
sound-fill script S t p at long byte fits rows =
    sound-services script S (record S.services { memories = with_memory S.services.memories p (filled at long byte) })
    (record {
      memories = memories-filled S.references.threads S.services.memories p at long byte fits
          rows.services.memories;
    }) rows
