-- The oldest duty is done: a close, or a sweep.
use Rattle.std.proofs.Common.{◌≡◌, ℕ, zero, suc, ◌+◌, ◌<◌, ◌≤◌, List, [], ◌∷◌, length, get_or, arith, refl, sym, subst, ap, ◌∙◌, Option, None, Bool, true, false, Some}
use Rattle.std.specs.Prelude.{Contains, slice_set, drop, is_some}
use Rattle.std.proofs.lemmas.List.{length-set, get_or-set_same, get_or-set_other}
use Rattle.sym_base.specs.declared.number.ObjNo.{ObjNo}
use Rattle.script_types.specs.declared.script.Script.{Script}
use Rattle.entry_log.specs.declared.effect.Effect.TheVariants.{Swept}
use Rattle.entry_log.specs.declared.effect.Holder.{Holder}
use Rattle.entry_log.specs.declared.effect.Holder.TheVariants.{Temp, Own, Link, Kernel, Message as OfMessage}
use Rattle.state_rows.specs.LockChanges.{after_sweep as locks_swept}
use Rattle.state_rows.specs.Nano.{holder_of}
use Rattle.state_rows.specs.ServerChanges.{after_sweep as servers_swept}
use Rattle.state_rows.specs.ServerRows.{link_of as link_of_session, server_of, session_at}
use Rattle.state_rows.specs.declared.duty.Owed.{Owed}
use Rattle.state_rows.specs.declared.duty.Owed.TheVariants.{Close, Sweep}
use Rattle.state_rows.specs.declared.locks.LockRows.{LockRows}
use Rattle.state_rows.specs.declared.locks.Owner.{Owner}
use Rattle.state_rows.specs.declared.messages.Message.{Message}
use Rattle.state_rows.specs.declared.object.ObjectRow.{ObjectRow}
use Rattle.state_rows.specs.declared.servers.ServerRows.{ServerRows}
use Rattle.state_rows.specs.declared.servers.SessionRow.{SessionRow}
use Rattle.state_rows.specs.declared.thread.Stage.{Stage}
use Rattle.state_rows.specs.declared.thread.Stage.TheVariants.{Buried, Live}
use Rattle.state_rows.specs.declared.thread.ThreadRow.{ThreadRow}
use Rattle.state_rows.proofs.SoundChanges.{set_item}
use Rattle.machine.specs.declared.moves.Move.TheVariants.{Pay}
use Rattle.machine.specs.declared.state.State.{State}
use Rattle.machine.specs.HeldIn.{owed_by, rows_hold, servers_hold}
use Rattle.machine.specs.Kept.{dies}
use Rattle.machine.specs.Moves.{moved, told, link_of, link_of_row, link_or, owed_by_close}
use Rattle.machine.specs.Out.{is_returning, part_of}
use Rattle.machine.specs.References.{total, count_of, kernel_holds, message_names, mutex_names, option_names, owed_names, session_names, stage_holds, thread_names}
use Rattle.machine.specs.Rows.{object_of, thread_of, owed_of, without_first}
use Rattle.machine.specs.Serving.{AreServers, disconnects_of, is_over, open_bit, unclosed_bit}
use Rattle.machine.specs.WellFormed.{AreDuties, AreRows, AreServiceRows, AreServingRows, AreSpent, AreSynchronizationRows, AreThreads, EachMayOwe, IsUntold, MayOwe, dead_bit, is_dead, is_spent, owed_sweeps, weight}
use Rattle.move_laws.proofs.Lists.Sets.{set_own}
use Rattle.move_laws.proofs.Lists.Totals.{total_any, total_at_least, total_within}
use Rattle.move_laws.proofs.Lives.Bits.{alive_undead, dead_le}
use Rattle.move_laws.proofs.Lives.Closes.{lives-swept}
use Rattle.move_laws.proofs.Lives.LivesMove.{zero_or}
use Rattle.move_laws.proofs.Lives.Outs.{SeeksSame}
use Rattle.move_laws.proofs.MoveLaws.Closes.{sound-closed, close_weight, close_weight_unlinked}
use Rattle.move_laws.proofs.MoveLaws.Groups.{LeavesSynchronization, synchronization-left, synchronization-same, synchronization-then}
use Rattle.move_laws.proofs.MoveLaws.Sound.{Sound, sound-of}
use Rattle.move_laws.proofs.References.Counts.{total-paying}
use Rattle.move_laws.proofs.References.Same.{same_object, same_self}
use Rattle.move_laws.proofs.References.Serving.{linked_names}
use Rattle.move_laws.proofs.RowLaws.Awaited.{awaited-swept}
use Rattle.move_laws.proofs.RowLaws.Duties.{duties-without_first}
use Rattle.move_laws.proofs.RowLaws.LockMoves.{locks-swept}
use Rattle.move_laws.proofs.RowLaws.Locks.{leaves-without_first}
use Rattle.move_laws.proofs.RowLaws.MessagesKept.{messages-sessions, messages-swept}
use Rattle.move_laws.proofs.RowLaws.ServerDuties.{duties-servers}
use Rattle.move_laws.proofs.RowLaws.ServersKept.{IsUnserved, servers-gone, servers-locks, servers-swept}
use Rattle.move_laws.proofs.RowLaws.Spent.{spent-swept}
use Rattle.move_laws.proofs.RowLaws.Swept.{IsOver, counts-swept, duties-swept, kernel-swept, leaves-swept, memories-swept, rows-swept, seeks-swept, synchronized-swept, threads-swept}

-- a close that is paid leaves room for what it owes: it weighs more
room_by : (threads : List (Option ThreadRow)) (servers : ServerRows) (accepted k : ℕ) (last : Bool) (h : Holder)
    (o : ObjNo) (link : Option ObjNo)
    → link_or (link_of_row (get_or threads o.0 None)) (server_of servers o) ≡ link
    → (later : List Owed) → MayOwe threads servers accepted k h o later → total weight (owed_by_close last o link) ≤ weight (Close h o)
room_by threads servers accepted k last (Temp u) o link e later own = let a = close_weight last o link in omega arith
room_by threads servers accepted k last (Own u) o link e later own = let a = close_weight last o link in omega arith
room_by threads servers accepted k last (Link x) o link e later own =
    let none : link ≡ None = sym e ∙ ap (λ (y : Option ThreadRow). link_or (link_of_row y) (server_of servers o))
    own.0.0 ∙ ap link_of_session own.0.1 in
    let a = close_weight_unlinked last o link none in
    omega arith
room_by threads servers accepted k last (OfMessage m) o link e later own = let a = close_weight last o link in omega arith
room_by threads servers accepted k last Kernel o link e later own = let a = close_weight last o link in omega arith
room_by threads servers accepted k last _ o link e later own = absurd own

not_returning : (b : Bool) {c : Bool} → c ≡ b → (what : List Owed) (first : Owed) (rest : List Owed) → what ≡ first ∷ rest → (c ≡ true → what ≡ []) → c ≡ false
not_returning true is what first rest e h = let none = h is in cc
not_returning false is what first rest e h = is

pub sound-pay_close : (script : Script) (S : State) (t : ObjNo) (h : Holder) (o : ObjNo) (rest : List Owed)
    → owed_of S t ≡ Close h o ∷ rest → t.0 < length S.references.threads → AreRows script S
    → Sound script S (moved t (Pay (Close h o)) S) (told (Pay (Close h o)) S)
sound-pay_close script S t h o rest e inside rows =
    let here : t.0 < length S.references.owed = let a = rows.references.sized.duties in omega arith in
    let own : EachMayOwe S.references.threads S.serving.servers S.serving.messages.accepted t.0 (Close h o ∷ rest) =
    subst (EachMayOwe S.references.threads S.serving.servers S.serving.messages.accepted t.0) e
    (rows.references.duties.own t.0) in
    let few : total weight (Close h o ∷ rest) ≤ 12 = subst (λ (l : List Owed). total weight l ≤ 12) e (rows.references.duties.few t.0) in
    let lighter = room_by S.references.threads S.serving.servers S.serving.messages.accepted t.0 (dies S o) h o (link_of S o) refl rest own.0 in
    let left : get_or (without_first S.references.owed t) t.0 [] ≡ rest =
    get_or-set_same S.references.owed t.0 (drop 1 (owed_of S t)) [] here ∙ ap (drop 1) e in
    sound-closed (dies S o) script S t h o S.references.handles S.references.threads
    (without_first S.references.owed t) S.serving.servers S.serving.owned refl inside
    (record {
      counts = λ p. let a = total-paying (owed_names p) S.references.owed t (Close h o) rest here e in omega arith;
      held = λ g x. let a = total-paying (owed_by g x) S.references.owed t (Close h o) rest here e in omega arith;
      sweeps = λ p. let a = total-paying (owed_sweeps p) S.references.owed t (Close h o) rest here e in omega arith;
      link = refl;
      handles_long = refl;
      seeks = λ p place. refl;
      threads_long = refl;
      owed_long = length-set S.references.owed t.0 _;
      tables = rows.references.tables;
      threads_are = rows.references.threads;
      duties = duties-without_first S.references.threads S.serving.servers S.serving.messages.accepted S.references.owed t rows.references.duties;
      synchronization =
          synchronization-then script S S.references.threads S.references.owed (without_first S.references.owed t)
          (synchronization-same script S rows) (leaves-without_first S.references.threads S.references.owed t
          S.synchronization.locks);
      services = rows.services;
      spent = rows.references.spent;
      serving = rows.serving;
      going = not_returning (is_returning (part_of (thread_of S t))) refl (owed_of S t) (Close h o) rest e (rows.references.duties.returns t.0);
      few = let a = ap (total weight) left in omega arith;
    }) rows

-- the kernel holds no thread of an object without references: it has no row, or one that was buried
over-by : (script : Script) (S : State) (o : ObjNo) (row : ThreadRow) (stage : Stage) → AreRows script S
    → thread_of S o ≡ Some row → is_dead (object_of S o) ≡ 1 → row.stage ≡ stage → stage_holds stage ≡ 0
    → IsOver S.references.handles S.references.threads o.0
over-by script S o row Buried rows is dead at none = record {
  row = row;
  is = is;
  spent = rows.references.spent.rows o.0 row is (ap is_spent at);
  unlinked = rows.references.spent.unlinked o.0 row is dead;
  unheld = ap stage_holds at;
}
over-by script S o row _ rows is dead at none = absurd (omega arith)

-- the rows that a sweep leaves of threads, locks, servers and messages
record AreSwept (script : Script) (S : State) (o : ObjNo) (threads : List (Option ThreadRow)) : Type 0 where
  pub long : length threads ≡ length S.references.threads
  pub seeks : SeeksSame S.references.threads threads
  pub names : (p : ObjNo) → total (thread_names p) threads ≡ total (thread_names p) S.references.threads
  pub kernel : (p : ObjNo) → kernel_holds (get_or threads p.0 None) ≡ kernel_holds (get_or S.references.threads p.0 None)
  pub held : (g : Holder) (x : ObjNo)
      → rows_hold S.references.handles threads S.synchronization.mutexes g x
      ≡ rows_hold S.references.handles S.references.threads S.synchronization.mutexes g x
  pub threads_are : AreThreads script threads
  pub duties : AreDuties threads S.serving.servers S.serving.messages.accepted S.references.owed
  pub synchronization : LeavesSynchronization script S threads S.references.owed
  pub services : AreServiceRows threads S.services
  pub spent : AreSpent (slice_set S.references.objects o.0 None) S.references.handles threads
  pub serving : AreServingRows S.references.objects threads S.synchronization.locks
      (IsUntold S.synchronization.requests S.synchronization.logons) S.serving

swept-none : (script : Script) (S : State) (o : ObjNo) → AreRows script S → thread_of S o ≡ None → AreSwept script S o S.references.threads
swept-none script S o rows none = record {
  long = refl;
  seeks = λ p place. refl;
  names = λ p. refl;
  kernel = λ p. refl;
  held = λ g x. refl;
  threads_are = rows.references.threads;
  duties = rows.references.duties;
  synchronization = synchronization-same script S rows;
  services = rows.services;
  spent = subst (AreSpent (slice_set S.references.objects o.0 None) S.references.handles)
      (ap (slice_set S.references.threads o.0) (sym none) ∙ set_own S.references.threads o.0 None)
      (spent-swept S.references.objects S.references.handles S.references.threads o.0 rows.references.spent);
  serving = rows.serving;
}

-- a live thread isn't one that the kernel doesn't hold
over-apart : (S : State) (o : ObjNo) → IsOver S.references.handles S.references.threads o.0 → (row : ThreadRow)
    → thread_of S o ≡ Some row → row.stage ≡ Live → ⊥
over-apart S o over row is live =
    let own : over.row ≡ row = (let a = over.is in cc) in
    let holds : stage_holds over.row.stage ≡ 1 = ap (λ (r : ThreadRow). stage_holds r.stage) own ∙ ap stage_holds live in
    let none = over.unheld in omega arith

-- a holder is live, and so isn't one that the kernel doesn't hold
holder-apart : (script : Script) (S : State) (o : ObjNo) → AreRows script S
    → IsOver S.references.handles S.references.threads o.0 → (f : ℕ) (u : ObjNo)
    → holder_of S.synchronization.nano f ≡ Some u → u.0 ≡ o.0 → ⊥
holder-apart script S o rows over f u is at =
    let held = rows.synchronization.nano.holders f u is in
    let same : Some over.row ≡ Some held.row = sym over.is ∙ ap (λ (n : ℕ). get_or S.references.threads n None) (sym at) ∙ held.is in
    let own : over.row ≡ held.row = cc in
    let holds : stage_holds over.row.stage ≡ 1 = ap (λ (row : ThreadRow). stage_holds row.stage) own ∙ ap stage_holds held.live in
    let none = over.unheld in omega arith

swept-over : (script : Script) (S : State) (o : ObjNo) → AreRows script S
    → IsOver S.references.handles S.references.threads o.0 → total (message_names o) S.serving.messages.outstanding ≡ 0
    → AreSwept script S o (slice_set S.references.threads o.0 None)
swept-over script S o rows over unnamed = record {
  long = length-set S.references.threads o.0 None;
  seeks = λ p place. seeks-swept S.references.handles S.references.threads o.0 p place over;
  names = λ p. counts-swept S.references.handles S.references.threads o.0 p over;
  kernel = λ p. kernel-swept S.references.handles S.references.threads o.0 p over;
  held = λ g x. rows-swept S.references.handles S.references.threads S.synchronization.mutexes o.0 g x over;
  threads_are = threads-swept script S.references.threads o.0 rows.references.threads;
  duties = duties-swept S.references.threads S.serving.servers S.serving.messages.accepted S.references.owed o.0 rows.references.duties;
  synchronization = record {
    nano =
        synchronized-swept script S.references.threads o S.synchronization.nano
        (holder-apart script S o rows over) rows.synchronization.nano;
    locks = leaves-swept S.references.handles S.references.threads S.references.owed o.0 S.synchronization.locks over;
    awaited =
        awaited-swept S.references.threads o.0 S.synchronization.requests S.synchronization.logons
        (λ row is live. over-apart S o over row is live) rows.synchronization.awaited;
  };
  services = record { memories = memories-swept S.references.threads S.services.memories o.0 rows.services.memories };
  spent = spent-swept S.references.objects S.references.handles S.references.threads o.0 rows.references.spent;
  serving = record {
    servers =
        servers-swept (λ row. is_spent row.stage)
        S.references.objects S.references.threads S.synchronization.locks S.serving.owned S.serving.servers o.0
        rows.serving.servers;
    messages =
        messages-swept (IsUntold S.synchronization.requests S.synchronization.logons) S.references.threads S.serving.servers
        S.serving.messages o unnamed rows.serving.messages;
  };
}

-- whose sweep is owed is dead
sweep-dead : (script : Script) (S : State) (t : ObjNo) (o : ObjNo) (rest : List Owed) → owed_of S t ≡ Sweep o ∷ rest
    → t.0 < length S.references.owed → AreRows script S → is_dead (object_of S o) ≡ 1
sweep-dead script S t o rest e here rows =
    let once = total-paying (owed_sweeps o) S.references.owed t (Sweep o) rest here e in
    let small = dead_le (object_of S o) in
    let self = same_self o in
    let owed = rows.lives.sweeps o in omega arith

-- and nothing refers to it
pub sweep-uncounted : (script : Script) (S : State) (t : ObjNo) (o : ObjNo) (rest : List Owed)
    → owed_of S t ≡ Sweep o ∷ rest → t.0 < length S.references.owed → AreRows script S → count_of S o ≡ 0
sweep-uncounted script S t o rest e here rows =
    let dead = sweep-dead script S t o rest e here rows in
    zero_or (count_of S o) (λ some. let a = alive_undead (object_of S o) (rows.lives.alive o some) in absurd (omega arith))

-- the kernel doesn't hold it
pub sweep-unheld : (script : Script) (S : State) (t : ObjNo) (o : ObjNo) (rest : List Owed)
    → owed_of S t ≡ Sweep o ∷ rest → t.0 < length S.references.owed → AreRows script S
    → kernel_holds (thread_of S o) ≡ 0
sweep-unheld script S t o rest e here rows = let none = sweep-uncounted script S t o rest e here rows in omega arith

-- a row that counts for nothing goes
total-cleared : {A : Type 0} (q : Option A → ℕ) (xs : List (Option A)) (i : ℕ) → q None ≡ 0 → q (get_or xs i None) ≡ 0
    → total q (slice_set xs i None) ≡ total q xs
total-cleared q [] i none clear = refl
total-cleared q (x ∷ xs) zero none clear = omega arith
total-cleared q (x ∷ xs) (suc i) none clear = let a = total-cleared q xs i none clear in omega arith

total-fewer : {A : Type 0} (q : Option A → ℕ) (xs : List (Option A)) (i : ℕ) → q None ≡ 0 → total q (slice_set xs i None) ≤ total q xs
total-fewer q [] i none = omega arith
total-fewer q (x ∷ xs) zero none = omega arith
total-fewer q (x ∷ xs) (suc i) none = let a = total-fewer q xs i none in omega arith

number-cleared : {A : Type 0} (q : Option A → ℕ) (xs : List (Option A)) (i j : ℕ) → q None ≡ 0 → q (get_or xs i None) ≡ 0
    → q (get_or (slice_set xs i None) j None) ≡ q (get_or xs j None)
number-cleared {A = A} q xs i j none clear = set_item (λ (x : Option A). q x ≡ q (get_or xs j None)) xs i j None None
    (λ at. none ∙ sym (ap (λ (n : ℕ). q (get_or xs n None)) at ∙ clear)) refl

dead_over : (row : Option ObjectRow) → is_dead row ≡ 1 → is_over row ≡ true
dead_over None dead = refl
dead_over (Some row) dead = by row.dead refl
  where
    by : (b : Bool) → row.dead ≡ b → row.dead ≡ true
    by true is = is
    by false is = let a : dead_bit row.dead ≡ 0 = ap dead_bit is in absurd (omega arith)

-- the sweep of an object, with these threads left
module _ (script : Script) (S : State) (t o : ObjNo) (rest : List Owed) (threads : List (Option ThreadRow))
    (e : owed_of S t ≡ Sweep o ∷ rest) (inside : t.0 < length S.references.threads) (rows : AreRows script S)
    (left : AreSwept script S o threads) where
  abbrev owed : List (List Owed)
  owed = without_first S.references.owed t

  abbrev objects : List (Option ObjectRow)
  objects = slice_set S.references.objects o.0 None

  abbrev servers : ServerRows
  servers = servers_swept S.serving.servers o

  abbrev locks : LockRows
  locks = locks_swept S.synchronization.locks o

  abbrev swept : State
  swept = record S {
    references = record S.references { objects = objects; threads = threads; owed = owed };
    synchronization = record S.synchronization { locks = locks };
    serving = record S.serving { servers = servers };
  }

  here : t.0 < length S.references.owed
  here = let a = rows.references.sized.duties in omega arith

  dead : is_dead (object_of S o) ≡ 1
  dead = sweep-dead script S t o rest e here rows

  -- nothing refers to it, so nobody holds it, owns it or is linked to it, and it is linked to nothing
  uncounted : count_of S o ≡ 0
  uncounted = sweep-uncounted script S t o rest e here rows

  unlinked : server_of S.serving.servers o ≡ None
  unlinked = rows.serving.servers.sessions_over o (dead_over (object_of S o) dead)

  names_none : (p : ObjNo) → session_names p (session_at S.serving.servers o) ≡ 0
  names_none p = linked_names (session_at S.serving.servers o) p ∙ ap (option_names p) unlinked

  unserved : IsUnserved S.references.objects S.serving.owned S.serving.servers o
  unserved = record {
    unowned = λ u. let none = uncounted in let within = total_within (mutex_names o) S.serving.owned u.0 in omega arith;
    unnamed = λ s linked.
        let none = uncounted in
        let most = total_any (session_names o) S.serving.servers.sessions s.0 None refl in
        let one : session_names o (session_at S.serving.servers s) ≡ 1 =
        linked_names (session_at S.serving.servers s) o ∙ ap (option_names o) linked ∙ same_self o in
        omega arith;
    over = dead_over (object_of S o) dead;
  }

  servers_are : AreServers (λ row. is_spent row.stage) objects threads S.synchronization.locks S.serving.owned servers
  servers_are =
      servers-gone (λ row. is_spent row.stage) S.references.objects threads S.synchronization.locks S.serving.owned
      S.serving.servers o unserved left.serving.servers

  -- no message is over it
  apart : (message : Message) → Contains S.serving.messages.outstanding message → message.row.session.0 ≡ o.0 → ⊥
  apart message among at =
      let none = uncounted in
      let named : message_names o (get_or S.serving.messages.outstanding among.0 message) ≡ message_names o message = ap (message_names o) among.2 in
      let most = total_at_least (message_names o) S.serving.messages.outstanding among.0 message among.1 in
      let one = subst (λ (x : ObjNo). message_names x message ≡ 0) (sym (same_object message.row.session o at))
      (let a : message_names o message ≡ 0 = omega arith in a) in
      let self = same_self message.row.session in omega arith

  serving_are : AreServingRows objects threads locks (IsUntold S.synchronization.requests S.synchronization.logons) swept.serving
  serving_are = record {
    servers =
        servers-locks (λ row. is_spent row.stage) objects threads S.synchronization.locks locks S.serving.owned servers
        (λ x is. set_item (λ (w : Option Owner). w ≡ None) S.synchronization.locks.owners o.0 x.0 None None (λ _. refl)
        (servers_are.unlocked x is)) servers_are;
    messages =
        messages-sessions (IsUntold S.synchronization.requests S.synchronization.logons) threads S.serving.servers servers
        S.serving.messages
        (λ message among is. ap is_some (get_or-set_other S.serving.servers.sessions o.0 message.row.session.0 None None (apart message among)) ∙ is)
        (λ x. set_item (λ (y : Option SessionRow). unclosed_bit y + total (disconnects_of x) S.serving.messages.outstanding ≤ 1)
        S.serving.servers.sessions o.0 x.0 None None (λ at. let a = left.serving.messages.closed x in omega arith) (left.serving.messages.closed x))
        (let a = total-fewer open_bit S.serving.servers.sessions o.0 refl in let b = left.serving.messages.numbered in omega arith)
        left.serving.messages;
  }

  synchronization_are : AreSynchronizationRows script (length S.references.threads) objects threads owed swept.synchronization
  synchronization_are =
      let base = synchronization-left script S S.references.objects threads owed (λ k none. none)
      (synchronization-then script S threads S.references.owed owed left.synchronization
      (leaves-without_first threads S.references.owed t S.synchronization.locks)) rows in
      record {
        nano = base.nano;
        deferred = base.deferred;
        requests = base.requests;
        locks = locks-swept S.references.objects threads
            (record { rows = S.synchronization.locks; mutexes = S.synchronization.mutexes; owed = owed }) o
            (λ u. let none = uncounted in let within = total_within (mutex_names o) S.synchronization.mutexes u.0 in omega arith) base.locks;
        logons = base.logons;
        awaited = base.awaited;
      }

  counts : (p : ObjNo) → count_of swept p ≡ count_of S p
  counts p =
      let a = total-paying (owed_names p) S.references.owed t (Sweep o) rest here e in
      let b = left.names p in
      let c = left.kernel p in
      let d = total-cleared (session_names p) S.serving.servers.sessions o.0 refl (names_none p) in omega arith

  holds : (g : Holder) (x : ObjNo)
      → servers_hold S.serving.owned servers.sessions S.serving.messages.outstanding g x
      ≡ servers_hold S.serving.owned S.serving.servers.sessions S.serving.messages.outstanding g x
  holds (Link s) x = number-cleared (session_names x) S.serving.servers.sessions o.0 s.0 refl (names_none x)
  holds _ x = refl

  sound-swept : Sound script S swept (Swept o ∷ [])
  sound-swept =
      sound-of script S swept (Swept o ∷ []) rows (record {
        handles_long = refl;
        threads_long = left.long;
        owed_long = length-set S.references.owed t.0 _;
        objects_few = let a = length-set S.references.objects o.0 None in let b = rows.references.sized.objects_few in omega arith;
        tables = rows.references.tables;
        threads = left.threads_are;
        duties =
            duties-servers threads S.serving.servers servers S.serving.messages.accepted S.serving.messages.accepted owed (omega arith)
            (λ x _ none. set_item (λ (y : Option SessionRow). y ≡ None) S.serving.servers.sessions o.0 x.0 None None (λ _. refl) none)
            (duties-without_first threads S.serving.servers S.serving.messages.accepted S.references.owed t left.duties);
        synchronization = synchronization_are;
        services = left.services;
        spent = left.spent;
        serving = serving_are;
      })
      (lives-swept S swept o dead refl refl refl counts
      (λ p. let a = total-paying (owed_sweeps p) S.references.owed t (Sweep o) rest here e in omega arith) left.seeks)
      (record {
        fits = (tt, tt);
        moves = λ g x. let a = total-paying (owed_by g x) S.references.owed t
            (Sweep o) rest here e in let b = left.held g x in let c = holds g x in omega arith;
      })

-- a thread with a row whose sweep is owed has given up all
pub sweep-over : (script : Script) (S : State) (t : ObjNo) (o : ObjNo) (rest : List Owed) (row : ThreadRow)
    → owed_of S t ≡ Sweep o ∷ rest → t.0 < length S.references.threads → AreRows script S → thread_of S o ≡ Some row
    → IsOver S.references.handles S.references.threads o.0
sweep-over script S t o rest row e inside rows is = over-by script S o row row.stage rows is dead refl (sym (ap kernel_holds is) ∙ uncounted)
  where
    here : t.0 < length S.references.owed
    here = let a = rows.references.sized.duties in omega arith

    dead : is_dead (object_of S o) ≡ 1
    dead = sweep-dead script S t o rest e here rows

    uncounted : kernel_holds (thread_of S o) ≡ 0
    uncounted = sweep-unheld script S t o rest e here rows

pub sound-pay_sweep : (script : Script) (S : State) (t : ObjNo) (o : ObjNo) (rest : List Owed)
    → owed_of S t ≡ Sweep o ∷ rest → t.0 < length S.references.threads → AreRows script S
    → Sound script S (moved t (Pay (Sweep o)) S) (told (Pay (Sweep o)) S)
sound-pay_sweep script S t o rest e inside rows =
    sound-swept script S t o rest (slice_set S.references.threads o.0 None) e inside rows (by (thread_of S o) refl)
  where
    by : (row : Option ThreadRow) → thread_of S o ≡ row → AreSwept script S o (slice_set S.references.threads o.0 None)
    by None is = subst (AreSwept script S o)
        (sym (ap (slice_set S.references.threads o.0) (sym is) ∙ set_own S.references.threads o.0 None))
        (swept-none script S o rows is)
    by (Some row) is = swept-over script S o rows (sweep-over script S t o rest row e inside rows is)
        (let here : t.0 < length S.references.owed = let a = rows.references.sized.duties in omega arith in
        let none = sweep-uncounted script S t o rest e here rows in omega arith)
