-- A holder gives its reference up.
use Rattle.std.proofs.Common.{◌≡◌, inr, sym, ℕ, ◌+◌, ◌<◌, ◌≤◌, List, length, get_or, arith, refl, ap, ◌∙◌, inl, Option, Some, None, Bool, true, false}
use Rattle.std.specs.Prelude.{option_map, is_some, if◌then◌else◌}
use Rattle.std.proofs.lemmas.Bool.{cases_eq}
use Rattle.sym_base.specs.declared.number.ObjNo.{ObjNo}
use Rattle.script_types.specs.declared.script.Script.{Script}
use Rattle.entry_log.specs.declared.effect.Holder.{Holder}
use Rattle.entry_log.specs.declared.effect.Holder.TheVariants.{InProcess, InThread, Temp, Own, Link}
use Rattle.machine.specs.declared.moves.Move.TheVariants.{Lose}
use Rattle.state_rows.specs.ServerChanges.{after_detach, detached}
use Rattle.state_rows.specs.ServerRows.{IsServer, IsSession, link_of as link_of_session, server_of, session_at}
use Rattle.state_rows.specs.declared.thread.ThreadRow.{ThreadRow}
use Rattle.machine.specs.declared.state.State.{State}
use Rattle.machine.specs.Rows.{table_of, thread_of, owed_of, with_row}
use Rattle.state_rows.specs.HandleSlots.{slot_at}
use Rattle.machine.specs.Handles.{freed_slot, with_slot}
use Rattle.machine.specs.Moves.{moved, told, tables_lose, threads_lose, link_of, link_of_row, link_or}
use Rattle.machine.specs.ServerMoves.{owned_lose, servers_lose}
use Rattle.machine.specs.Serving.{times_owned}
use Rattle.machine.specs.References.{total, thread_names, option_names, slot_names, same}
use Rattle.machine.specs.Kept.{dies}
use Rattle.machine.specs.Holding.{is_holder, same_pair}
use Rattle.machine.specs.Fits.{FitsMove, Holds, Uses}
use Rattle.machine.specs.Out.{is_returning, part_of}
use Rattle.machine.specs.WellFormed.{AreRows, IsUntold, is_spent, weight}
use Rattle.move_laws.proofs.Holders.SlotRows.{slot_holder, rows-with_slot}
use Rattle.move_laws.proofs.Holders.ThreadRows.{row_holds, rows-with_row, row-here, row-other}
use Rattle.move_laws.proofs.References.Counts.{count-with_slot, count-with_row, kernel-with_row}
use Rattle.move_laws.proofs.References.Same.{if_zero}
use Rattle.move_laws.proofs.RowLaws.Tables.{length-with_slot, tables-with_slot, freed_keeps, slot_inside, table_inside}
use Rattle.move_laws.proofs.RowLaws.Threads.{length-with_row, threads-with_row}
use Rattle.move_laws.proofs.RowLaws.Duties.{paid-with_row, duties-threads}
use Rattle.move_laws.proofs.MoveLaws.Closes.{HasLost, sound-closed, close_weight, detached_bits}
use Rattle.move_laws.proofs.MoveLaws.RowMoves.{serving-kept}
use Rattle.move_laws.proofs.Lives.Outs.{seeks-with_row}
use Rattle.move_laws.proofs.MoveLaws.Groups.{services-row, synchronization-kept, synchronization-same}
use Rattle.move_laws.proofs.MoveLaws.Sound.{Sound}
use Rattle.move_laws.proofs.RowLaws.Spent.{spent-freed, spent-kept}
use Rattle.move_laws.proofs.Holders.Serving.{holds-detached, holds-unowned}
use Rattle.move_laws.proofs.Lists.Mapped.{mapped-none, mapped-some}
use Rattle.move_laws.proofs.References.Mutexes.{count-not_holding}
use Rattle.move_laws.proofs.References.Serving.{count-detached}
use Rattle.move_laws.proofs.RowLaws.MessagesKept.{messages-sessions}
use Rattle.move_laws.proofs.RowLaws.OwnedServers.{owned_inside, servers-unowned}
use Rattle.move_laws.proofs.RowLaws.ServerDuties.{duties-servers}
use Rattle.move_laws.proofs.RowLaws.Servers.{servers-detach}

lost-slot : (script : Script) (S : State) (t : ObjNo) (thread : Bool) (owner : ObjNo) (i : ℕ) (o : ObjNo)
    → is_some (thread_of S owner) ≡ thread → (slot_at (table_of S owner) i).object ≡ Some o
    → is_returning (part_of (thread_of S t)) ≡ false → total weight (owed_of S t) + 3 ≤ 12 → AreRows script S
    → HasLost script S t (slot_holder thread owner i) o
    (with_slot S.references.handles owner i freed_slot) S.references.threads S.references.owed S.serving.servers
    S.serving.owned
lost-slot script S t thread owner i o is there going few rows =
    let h = slot_holder thread owner i in
    let slot = slot_at (table_of S owner) i in
    let inside = slot_inside (table_of S owner) i o there in
    let outside = table_inside S.references.handles owner.0 i inside in
    let light = close_weight (dies S o) o (link_of S o) in
    record {
      counts =
          λ p. let a = count-with_slot S.references.handles owner i freed_slot p outside inside in
          let b : slot_names p slot ≡ same o p = ap (option_names p) there in omega arith;
      held = λ g x.
          let a = rows-with_slot S.references.handles S.references.threads S.synchronization.mutexes owner i freed_slot thread is outside inside g x in
          let b = if_zero (is_holder h g) (slot_names x (freed_slot slot)) refl in
          let c : (if is_holder h g then slot_names x slot else 0) ≡ same_pair h o g x =
          ap (λ (y : Option ObjNo). if is_holder h g then option_names x y else 0) there in
          omega arith;
      sweeps = λ p. refl;
      link = refl;
      handles_long = length-with_slot S.references.handles owner i freed_slot;
      seeks = λ p place. refl;
      threads_long = refl;
      owed_long = refl;
      tables = tables-with_slot S.references.handles owner i freed_slot freed_keeps rows.references.tables;
      threads_are = rows.references.threads;
      duties = rows.references.duties;
      synchronization = synchronization-same script S rows;
      services = rows.services;
      spent = spent-freed S.references.objects S.references.handles S.references.threads owner i rows.references.spent;
      serving = rows.serving;
      going = going;
      few = omega arith;
    }

same_link : (f : ThreadRow → ThreadRow) (x : Option ThreadRow) → ((row : ThreadRow) → (f row).link ≡ row.link) → link_of_row (option_map f x) ≡ link_of_row x
same_link f None keeps = refl
same_link f (Some row) keeps = keeps row

-- a change of a row that leaves its link leaves all
link-with_row : (threads : List (Option ThreadRow)) (u : ObjNo) (f : ThreadRow → ThreadRow) (k : ℕ)
    → ((row : ThreadRow) → (f row).link ≡ row.link)
    → link_of_row (get_or (with_row threads u f) k None) ≡ link_of_row (get_or threads k None)
link-with_row threads u f k keeps = elim (cases_eq u.0 k) [
  | inl at ↦ ap link_of_row (row-here threads u f k at) ∙ same_link f (get_or threads u.0 None) keeps ∙ ap (λ (n : ℕ). link_of_row (get_or threads n None)) at
  | inr apart ↦ ap link_of_row (row-other threads u f k apart)
]

lost-use : (script : Script) (S : State) (t u o : ObjNo) → Uses S u o → is_returning (part_of (thread_of S t)) ≡ false
    → total weight (owed_of S t) + 3 ≤ 12 → AreRows script S
    → HasLost script S t (Temp u) o S.references.handles
    (with_row S.references.threads u (λ row. record row { uses = None })) S.references.owed S.serving.servers
    S.serving.owned
lost-use script S t u o uses going few rows =
    let f : ThreadRow → ThreadRow = λ row. record row { uses = None } in
    let row = uses.row in
    let light = close_weight (dies S o) o (link_of S o) in
    let named : (p : ObjNo) → option_names p row.uses ≡ same o p = λ p. ap (option_names p) uses.uses in
    record {
      counts = λ p.
          let a = count-with_row S.references.threads u f p in
          let b = kernel-with_row S.references.threads u f p (λ r is. refl) in
          let c : thread_names p (thread_of S u) ≡ option_names p row.link + option_names p row.uses = ap (thread_names p) uses.is in
          let d : thread_names p (option_map f (thread_of S u)) ≡ option_names p row.link + 0 =
          ap (λ (x : Option ThreadRow). thread_names p (option_map f x)) uses.is in
          let e = named p in omega arith;
      held = λ g x.
          let a = rows-with_row S.references.handles S.references.threads S.synchronization.mutexes u f g x (λ r is. refl) in
          let b : row_holds u (thread_of S u) g x
          ≡ (if is_holder (Temp u) g then option_names x row.uses else 0) +
          (if is_holder (Link u) g then option_names x row.link else 0) =
          ap (λ (y : Option ThreadRow). row_holds u y g x) uses.is in
          let c : row_holds u (option_map f (thread_of S u)) g x
          ≡ (if is_holder (Temp u) g then 0 else 0) + (if is_holder (Link u) g then option_names x row.link else 0) =
          ap (λ (y : Option ThreadRow). row_holds u (option_map f y) g x) uses.is in
          let d : (if is_holder (Temp u) g then option_names x row.uses else 0) ≡ same_pair (Temp u) o g x =
          ap (λ (y : ℕ). if is_holder (Temp u) g then y else 0) (named x) in
          let e = if_zero (is_holder (Temp u) g) 0 refl in omega arith;
      sweeps = λ p. refl;
      link = ap (λ (a : Option ObjNo). link_or a (server_of S.serving.servers o)) (link-with_row S.references.threads u f o.0 (λ r. refl));
      handles_long = refl;
      seeks = seeks-with_row S.references.threads u f (λ r is p place. refl);
      threads_long = length-with_row S.references.threads u f;
      owed_long = refl;
      tables = rows.references.tables;
      threads_are = threads-with_row script S.references.threads u f (λ r is h. record {
        thread = record {
          process = h.process;
          link = h.link;
          priority = h.priority;
          next_instruction = h.next_instruction;
          unused = λ before. refl;
          registers = h.registers;
          declared = h.declared;
          returns = h.returns;
        };
        process = refl;
        role = refl;
      }) rows.references.threads;
      duties =
          duties-threads S.references.threads (with_row S.references.threads u f) S.serving.servers
          S.serving.messages.accepted S.references.owed
          (λ k. inr (paid-with_row S.references.threads u f (λ r h. h) k)) rows.references.duties;
      synchronization = synchronization-kept script S u f (λ r h. h) (λ r. refl) (λ r. refl) rows;
      services = services-row S.references.threads u f S.services (λ r is. refl) rows.services;
      spent =
          spent-kept S.references.objects S.references.handles S.references.threads u f
          (record { stage = λ r. refl; unused = λ r e. refl; waits = λ r e. e; going = λ r e. e; link = λ r e. e })
          rows.references.spent;
      serving =
          serving-kept script S u f (λ r. refl) (λ r p e. e) (record
          { live = λ r live. live; waits = λ r live. refl; left = λ r. omega arith }) rows;
      going = (paid-with_row S.references.threads u f (λ r h. h) t.0).going going;
      few = omega arith;
    }

-- a server has no link
server_unlinked : (script : Script) (S : State) (o : ObjNo) → IsServer S.serving.servers o → AreRows script S
    → (thread_of S o ≡ None) × (session_at S.serving.servers o ≡ None) × (link_of S o ≡ None)
server_unlinked script S o is rows =
    let free = rows.serving.servers.unlinked o is in
    (free.0, free.1, ap (λ (x : Option ThreadRow). link_or (link_of_row x) (server_of S.serving.servers o)) free.0 ∙ ap link_of_session free.1)

-- a session is detached
lost-link : (script : Script) (S : State) (t s o : ObjNo) → server_of S.serving.servers s ≡ Some o
    → is_returning (part_of (thread_of S t)) ≡ false → total weight (owed_of S t) + 3 ≤ 12 → AreRows script S
    → HasLost script S t (Link s) o S.references.handles S.references.threads S.references.owed
    (after_detach S.serving.servers s) S.serving.owned
lost-link script S t s o linked going few rows =
    let new = after_detach S.serving.servers s in
    let free = server_unlinked script S o (rows.serving.servers.sessions s o linked) rows in
    let light = close_weight (dies S o) o (link_of S o) in
    let bits = detached_bits S.serving.servers s in
    let used = bits.0 in
    let still : (x : ObjNo) → IsSession S.serving.servers x → IsSession new x = λ x is. mapped-some detached S.serving.servers.sessions s.0 x.0 ∙ is in
    record {
      counts =
          λ p. let a = count-detached S.serving.servers.sessions s p in
          let b : option_names p (server_of S.serving.servers s) ≡ same o p = ap (option_names p) linked in omega arith;
      held = λ g x.
          let a = holds-detached S.serving.owned S.serving.servers.sessions S.serving.messages.outstanding s g x in
          let b : (if is_holder (Link s) g then option_names x (server_of S.serving.servers s) else 0)
          ≡ same_pair (Link s) o g x =
          ap (λ (y : Option ObjNo). if is_holder (Link s) g then option_names x y else 0) linked in
          omega arith;
      sweeps = λ p. refl;
      link =
          ap (λ (x : Option ThreadRow). link_or (link_of_row x) (server_of new o)) free.0
          ∙ ap link_of_session (mapped-none detached S.serving.servers.sessions s.0 o.0 free.1)
          ∙ sym free.2;
      handles_long = refl;
      seeks = λ p place. refl;
      threads_long = refl;
      owed_long = refl;
      tables = rows.references.tables;
      threads_are = rows.references.threads;
      duties =
          duties-servers S.references.threads S.serving.servers new S.serving.messages.accepted S.serving.messages.accepted
          S.references.owed (omega arith) (λ x _ none. mapped-none detached S.serving.servers.sessions s.0 x.0 none)
          rows.references.duties;
      synchronization = synchronization-same script S rows;
      services = rows.services;
      spent = rows.references.spent;
      serving = record {
        servers =
            servers-detach (λ row. is_spent row.stage)
            S.references.objects S.references.threads S.synchronization.locks S.serving.owned S.serving.servers s
            rows.serving.servers;
        messages =
            messages-sessions (IsUntold S.synchronization.requests S.synchronization.logons) S.references.threads
            S.serving.servers new S.serving.messages (λ message among. still message.row.session)
            (λ x. let a = bits.1 x in let b = rows.serving.messages.closed x in omega arith)
            (let a = rows.serving.messages.numbered in omega arith) rows.serving.messages;
      };
      going = going;
      few = omega arith;
    }

-- a server has no owner any more
lost-own : (script : Script) (S : State) (t u o : ObjNo) → 0 < times_owned S.serving.owned u o
    → is_returning (part_of (thread_of S t)) ≡ false → total weight (owed_of S t) + 3 ≤ 12 → AreRows script S
    → HasLost script S t (Own u) o S.references.handles S.references.threads S.references.owed S.serving.servers
    (owned_lose (Own u) o S.serving.owned)
lost-own script S t u o owns going few rows =
    let once : times_owned S.serving.owned u o ≡ 1 = let a = rows.serving.servers.once u o in omega arith in
    let inside = owned_inside S.serving.owned u o owns in
    let light = close_weight (dies S o) o (link_of S o) in
    record {
      counts = λ p. let a = count-not_holding S.serving.owned u o p inside once in omega arith;
      held = λ g x. let a = holds-unowned S.serving.owned S.serving.servers.sessions S.serving.messages.outstanding u o inside once g x in omega arith;
      sweeps = λ p. refl;
      link = refl;
      handles_long = refl;
      seeks = λ p place. refl;
      threads_long = refl;
      owed_long = refl;
      tables = rows.references.tables;
      threads_are = rows.references.threads;
      duties = rows.references.duties;
      synchronization = synchronization-same script S rows;
      services = rows.services;
      spent = rows.references.spent;
      serving = record {
        servers =
            servers-unowned (λ row. is_spent row.stage)
            S.references.objects S.references.threads S.synchronization.locks S.serving.owned S.serving.servers u o
            inside once rows.serving.servers;
        messages = rows.serving.messages;
      };
      going = going;
      few = omega arith;
    }

lost : (script : Script) (S : State) (t : ObjNo) (h : Holder) (o : ObjNo) → Holds S h o
    → is_returning (part_of (thread_of S t)) ≡ false → total weight (owed_of S t) + 3 ≤ 12 → AreRows script S
    → HasLost script S t h o (tables_lose h S.references.handles)
    (threads_lose h S.references.threads) S.references.owed (servers_lose h S.serving.servers)
    (owned_lose h o S.serving.owned)
lost script S t (InProcess p i) o holds going few rows = lost-slot script S t false p i o (ap is_some holds.0) holds.1 going few rows
lost script S t (InThread u i) o holds going few rows = lost-slot script S t true u i o holds.0 holds.1 going few rows
lost script S t (Temp u) o holds going few rows = lost-use script S t u o holds going few rows
lost script S t (Link s) o holds going few rows = lost-link script S t s o holds going few rows
lost script S t (Own u) o holds going few rows = lost-own script S t u o holds going few rows
lost script S t _ o holds going few rows = absurd holds

pub sound-lose : (script : Script) (S : State) (t : ObjNo) (h : Holder) (o : ObjNo) → FitsMove script t (Lose h o) S
    → total weight (owed_of S t) + 3 ≤ 12 → t.0 < length S.references.threads → AreRows script S
    → Sound script S (moved t (Lose h o) S) (told (Lose h o) S)
sound-lose script S t h o fits few inside rows =
    sound-closed (dies S o) script S t h o (tables_lose h S.references.handles)
    (threads_lose h S.references.threads) S.references.owed (servers_lose h S.serving.servers)
    (owned_lose h o S.serving.owned) refl inside (lost script S t h o fits.1 fits.0 few rows) rows
