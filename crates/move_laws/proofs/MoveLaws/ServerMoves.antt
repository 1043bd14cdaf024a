-- Moves in the rows of servers and sessions.
use Rattle.std.proofs.Common.{◌≡◌, inl, inr, ℕ, ◌<◌, ◌≤◌, Bool, true, false, List, [], ◌∷◌, length, get_or, arith, refl, sym, ap, subst, ◌∙◌, Option, Some, None, ◌*◌}
use Rattle.std.specs.Prelude.{◌==◌, if◌then◌else◌, is_some, option_map, slice_set}
use Rattle.std.proofs.lemmas.Bool.{cases_eq}
use Rattle.std.proofs.lemmas.List.{get_or-set_other}
use Rattle.sym_base.specs.declared.kind.Slots.{Slots}
use Rattle.sym_base.specs.declared.number.ObjNo.{ObjNo}
use Rattle.script_types.specs.declared.script.Script.{Script}
use Rattle.entry_log.specs.declared.effect.Effect.{Effect}
use Rattle.entry_log.specs.declared.effect.Effect.TheVariants.{Plus, Terminated}
use Rattle.entry_log.specs.declared.effect.Holder.{Holder}
use Rattle.entry_log.specs.declared.effect.Holder.TheVariants.{Link}
use Rattle.state_rows.proofs.SoundChanges.{set_item}
use Rattle.state_rows.specs.ServerChanges.{after_add_server, after_add_session, after_closing, after_set_open, new_session, opened}
use Rattle.state_rows.specs.ServerRows.{IsSession, is_new, is_open, is_to_open, session_at}
use Rattle.state_rows.specs.declared.messages.Message.{Message}
use Rattle.state_rows.specs.declared.messages.Way.{Way}
use Rattle.state_rows.specs.declared.messages.Way.TheVariants.{Async}
use Rattle.state_rows.specs.declared.servers.Connection.{Connection}
use Rattle.state_rows.specs.declared.servers.Connection.TheVariants.{New, Open, Closed}
use Rattle.state_rows.specs.declared.servers.ServerRow.{ServerRow}
use Rattle.state_rows.specs.declared.servers.ServerRows.{ServerRows}
use Rattle.state_rows.specs.declared.servers.SessionRow.{SessionRow}
use Rattle.sym_base.specs.declared.limits.TheConstants.Limits.{THREADS, THREAD_INSTRUCTIONS}
use Rattle.machine.specs.Fits.{FitsMove}
use Rattle.machine.specs.FitsServers.{FitsServers, MayJoinServer, MayStartServer}
use Rattle.machine.specs.HeldIn.{held_in, servers_hold}
use Rattle.machine.specs.Holding.{is_holder, link_names}
use Rattle.machine.specs.Fresh.{IsFresh}
use Rattle.machine.specs.Moves.{moved, told}
use Rattle.machine.specs.Rows.{object_of}
use Rattle.machine.specs.References.{count_of, message_names, mutex_names, option_names, owed_names, same, session_names, thread_names, total}
use Rattle.machine.specs.ServerMoves.{all_closing, owned_by, server_told}
use Rattle.machine.specs.Serving.{AreServers, disconnect_bit_of, disconnects_of, numbers_used, open_bit, times_closed, times_owned, unclosed_bit}
use Rattle.machine.specs.Told.{removals}
use Rattle.machine.specs.WellFormed.{AreRows, IsUntold, is_spent, owed_sweeps}
use Rattle.machine.specs.declared.moves.Move.TheVariants.{Servers}
use Rattle.machine.specs.declared.server_move.ServerMove.{ServerMove}
use Rattle.machine.specs.declared.server_move.ServerMove.TheVariants.{Start, Join, Close, CloseAll, SetOpen, End}
use Rattle.machine.specs.declared.state.State.{State}
use Rattle.move_laws.proofs.Holders.HoldersMove.{holders-plus}
use Rattle.move_laws.proofs.Holders.Serving.{holds-linked, holds-session}
use Rattle.move_laws.proofs.Lists.Mapped.{made-here, made-other, mapped-none, mapped-some}
use Rattle.move_laws.proofs.Lists.Totals.{total-set, total-with, total_any, total_within}
use Rattle.move_laws.proofs.Lives.Bits.{alive_there, alive_undead, there_inside}
use Rattle.move_laws.proofs.Lives.Kinds.{lives-plus, lives-quiet}
use Rattle.move_laws.proofs.Lives.Fresh.{next_fresh}
use Rattle.move_laws.proofs.Lives.Places.{outs-found}
use Rattle.move_laws.proofs.MoveLaws.RowMoves.{IsSilent, silent}
use Rattle.move_laws.proofs.MoveLaws.Sound.{Sound, sound-none, sound-of, sound-then}
use Rattle.move_laws.proofs.References.Same.{if_le, same_object, same_self}
use Rattle.move_laws.proofs.References.Serving.{count-linked, count-session, kept_names, linked_names}
use Rattle.move_laws.proofs.RowLaws.Duties.{none_owed}
use Rattle.move_laws.proofs.RowLaws.MessagesKept.{messages-sessions}
use Rattle.move_laws.proofs.RowLaws.NewServers.{servers-join, servers-start, unmade_session}
use Rattle.move_laws.proofs.RowLaws.ServerDuties.{duties-servers}
use Rattle.move_laws.proofs.RowLaws.Servers.{servers-closing, servers-session}
use Rattle.move_laws.proofs.MoveLaws.Silent.{silent_of}

-- the rows of servers and sessions change, and no reference does
record AreServed (S : State) (new : ServerRows) : Type 0 where
  pub servers : AreServers (λ row. is_spent row.stage) S.references.objects S.references.threads S.synchronization.locks S.serving.owned new
  pub none : (o : ObjNo) → session_at S.serving.servers o ≡ None → session_at new o ≡ None
  pub still : (o : ObjNo) → IsSession S.serving.servers o → IsSession new o
  pub closed : (s : ObjNo) → times_closed new S.serving.messages.outstanding s ≤ 1
  pub numbered : numbers_used S.references.threads new S.serving.messages ≤ 2 * THREAD_INSTRUCTIONS * THREADS
  pub names : (o : ObjNo) → total (session_names o) new.sessions ≡ total (session_names o) S.serving.servers.sessions
  pub holds : (g : Holder) (x : ObjNo)
      → servers_hold S.serving.owned new.sessions S.serving.messages.outstanding g x
      ≡ servers_hold S.serving.owned S.serving.servers.sessions S.serving.messages.outstanding g x

sound-served : (script : Script) (S : State) (new : ServerRows) (effects : List Effect) → IsSilent S effects
    → AreServed S new → AreRows script S
    → Sound script S (record S { serving = record S.serving { servers = new } }) effects
sound-served script S new effects quiet h rows =
    let T : State = record S { serving = record S.serving { servers = new } } in
    let counts : (o : ObjNo) → count_of T o ≡ count_of S o = λ o. let a = h.names o in omega arith in
    let held : (g : Holder) (x : ObjNo) → held_in T g x ≡ held_in S g x = λ g x. let a = h.holds g x in omega arith in
    sound-of script S T effects rows (record {
      handles_long = refl;
      threads_long = refl;
      owed_long = refl;
      objects_few = rows.references.sized.objects_few;
      tables = rows.references.tables;
      threads = rows.references.threads;
      duties =
          duties-servers S.references.threads S.serving.servers new S.serving.messages.accepted S.serving.messages.accepted
          S.references.owed (omega arith) (λ o _ none. h.none o none) rows.references.duties;
      synchronization = rows.synchronization;
      services = rows.services;
      spent = rows.references.spent;
      serving = record {
        servers = h.servers;
        messages =
            messages-sessions (IsUntold S.synchronization.requests S.synchronization.logons) S.references.threads
            S.serving.servers new S.serving.messages (λ message among. h.still message.row.session) h.closed h.numbered rows.serving.messages;
      };
    })
    (lives-quiet S T effects (refl, refl, refl) quiet.quiet
    (λ o. let a = counts o in let b = quiet.pluses o in let c = quiet.quiet.minuses o in omega arith) (λ o. refl)
    (λ o alive. omega arith) (outs-found S T (λ o place. refl)) (λ o h. let b = quiet.pluses o in absurd (omega arith)) quiet.found)
    (record { fits = quiet.fits; moves = λ g x. quiet.after g x ∙ sym (held g x) })

-- a server begins to close
sound-close : (script : Script) (S : State) (o : ObjNo) → AreRows script S
    → Sound script S (record S { serving = record S.serving { servers = after_closing S.serving.servers o } }) []
sound-close script S o rows = sound-served script S (after_closing S.serving.servers o) [] (silent S)
    (record {
      servers = servers-closing (λ row. is_spent row.stage)
          S.references.objects S.references.threads S.synchronization.locks S.serving.owned S.serving.servers o
          rows.serving.servers;
      none = λ x none. none;
      still = λ x is. is;
      closed = rows.serving.messages.closed;
      numbered = rows.serving.messages.numbered;
      names = λ x. refl;
      holds = λ g x. refl;
    }) rows

-- and several do
sound-close_all : (script : Script) (os : List ObjNo) (S : State) → AreRows script S
    → Sound script S (record S { serving = record S.serving { servers = all_closing os S.serving.servers } }) []
sound-close_all script [] S rows = sound-none script S rows
sound-close_all script (o ∷ os) S rows =
    let T : State = record S { serving = record S.serving { servers = after_closing S.serving.servers o } } in
    let first = sound-close script S o rows in
    sound-then script S T (record T { serving = record T.serving { servers = all_closing os T.serving.servers } }) [] []
    first (sound-close_all script os T first.rows) (λ p. refl) (λ p. refl)

-- a session is open from now on, or closed
opened_bits : (to : Bool) (x : Option SessionRow) → (open_bit (option_map (opened to) x) ≤ 1) × (open_bit (option_map (opened false) x) ≡ 0)
opened_bits to None = (omega arith, refl)
opened_bits true (Some row) = (omega arith, refl)
opened_bits false (Some row) = (omega arith, refl)

new_bit : (c : Connection) → is_new c ≡ true → ◌≡◌ {A = ℕ} (if is_new c then 1 else (if is_open c then 1 else 0)) 1
new_bit New e = refl
new_bit Open e = absurd (cc)
new_bit Closed e = absurd (cc)

-- it isn't to be closed if it wasn't
opened_least : (to : Bool) (x : Option SessionRow) → (to ≡ true → is_to_open x ≡ true) → unclosed_bit (option_map (opened to) x) ≤ unclosed_bit x
opened_least to None new = omega arith
opened_least true (Some row) new = let one = new_bit row.connection (new refl) in omega arith
opened_least false (Some row) new = omega arith

served_session : (script : Script) (S : State) (s : ObjNo) (to : Bool)
    → (to ≡ true → is_to_open (session_at S.serving.servers s) ≡ true)
    → numbers_used S.references.threads (after_set_open S.serving.servers s to) S.serving.messages
    ≤ 2 * THREAD_INSTRUCTIONS * THREADS
    → AreRows script S → AreServed S (after_set_open S.serving.servers s to)
served_session script S s to new numbered rows = record {
  servers =
      servers-session (λ row. is_spent row.stage)
      S.references.objects S.references.threads S.synchronization.locks S.serving.owned S.serving.servers s
      (opened to) (λ row. refl) rows.serving.servers;
  none = λ x none. mapped-none (opened to) S.serving.servers.sessions s.0 x.0 none;
  still = λ x is. mapped-some (opened to) S.serving.servers.sessions s.0 x.0 ∙ is;
  closed = λ x.
      let before = rows.serving.messages.closed x in
      elim (cases_eq s.0 x.0) as (λ _. times_closed (after_set_open S.serving.servers s to) S.serving.messages.outstanding x ≤ 1) [
        | inl at ↦
            let a = ap unclosed_bit (made-here (option_map (opened to)) None S.serving.servers.sessions s.0 x.0 refl at) in
            let b = opened_least to (session_at S.serving.servers x)
            (λ e. ap (λ (n : ℕ). is_to_open (get_or S.serving.servers.sessions n None)) (sym at) ∙ new e) in omega arith
        | inr apart ↦ let a = ap unclosed_bit (made-other (option_map (opened to)) None S.serving.servers.sessions s.0 x.0 apart) in omega arith
      ];
  numbered = numbered;
  names = λ x. count-session S.serving.servers.sessions (opened to) s x (λ row. refl);
  holds = λ g x.
      let old = session_at S.serving.servers s in
      let a = holds-session S.serving.owned S.serving.servers.sessions S.serving.messages.outstanding s (opened to) g x in
      let b = ap (λ (n : ℕ). if is_holder (Link s) g then n else 0) (kept_names (opened to) (λ row. refl) old x) in omega arith;
}

sound-set_open : (script : Script) (S : State) (s : ObjNo) (to : Bool) → FitsServers (SetOpen s to) S → AreRows script S
    → Sound script S (record S { serving = record S.serving { servers = after_set_open S.serving.servers s to } }) []
sound-set_open script S s true fits rows =
    let a = total-with open_bit (option_map (opened true)) None S.serving.servers.sessions s.0 refl in
    let c = opened_bits true (session_at S.serving.servers s) in
    let most = c.0 in let number = fits.1 in
    sound-served script S (after_set_open S.serving.servers s true) [] (silent S) (served_session script S s true (λ e. fits.0) (omega arith) rows) rows
sound-set_open script S s false fits rows =
    let a = total-with open_bit (option_map (opened false)) None S.serving.servers.sessions s.0 refl in
    let c = opened_bits false (session_at S.serving.servers s) in
    let closed = c.1 in let numbered = rows.serving.messages.numbered in
    sound-served script S (after_set_open S.serving.servers s false) [] (silent S)
    (served_session script S s false (λ e. absurd (cc)) (omega arith) rows) rows

-- an object that is made next is a server
sound-start : (script : Script) (S : State) (o u : ObjNo) → MayStartServer S o u → AreRows script S
    → Sound script S (record S { serving = record S.serving { servers = after_add_server S.serving.servers o u } }) []
sound-start script S o u may rows =
    subst (λ (new : ServerRows). Sound script S (record S { serving = record S.serving { servers = new } }) [])
    (sym same_rows) (sound-served script S new [] (silent S)
    (record {
      servers = subst (AreServers (λ row. is_spent row.stage)
          S.references.objects S.references.threads S.synchronization.locks S.serving.owned) same_rows started;
      none = λ x none. none;
      still = λ x is. is;
      closed = rows.serving.messages.closed;
      numbered = rows.serving.messages.numbered;
      names = λ x. refl;
      holds = λ g x. refl;
    }) rows)
  where
    row : ServerRow
    row = record { owner = u; is_closing = false }

    new : ServerRows
    new = record S.serving.servers { servers = slice_set S.serving.servers.servers o.0 (Some row) }

    fresh : IsFresh S o
    fresh = subst (IsFresh S) (sym may.next) (next_fresh script S rows)

    unowned : (t : ObjNo) → times_owned S.serving.owned t o ≡ 0
    unowned t = let none = fresh.references in let within = total_within (mutex_names o) S.serving.owned t.0 in omega arith

    same_rows : after_add_server S.serving.servers o u ≡ new
    same_rows =
        unmade_session (λ row. is_spent row.stage)
        S.references.objects S.references.threads S.synchronization.locks S.serving.owned S.serving.servers o u
        fresh.object rows.serving.servers

    started : AreServers (λ row. is_spent row.stage)
        S.references.objects S.references.threads S.synchronization.locks S.serving.owned
        (after_add_server S.serving.servers o u)
    started =
        servers-start (λ row. is_spent row.stage)
        S.references.objects S.references.threads S.synchronization.locks S.serving.owned S.serving.servers o u
        (record { object = fresh.object; thread = fresh.thread; unowned = unowned; unlocked = fresh.owner })
        rows.serving.servers

-- a message that disconnects a session names it
disconnects_one : (b : Bool) (way : Way) → (if b then disconnect_bit_of way else 0) ≤ (if b then 1 else 0)
disconnects_one true (Async status) = omega arith
disconnects_one _ _ = omega arith

disconnects_named : (s : ObjNo) (xs : List Message) → total (disconnects_of s) xs ≤ total (message_names s) xs
disconnects_named s [] = omega arith
disconnects_named s (x ∷ xs) = let a = disconnects_one (x.row.session.0 == s.0) x.row.way in let b = disconnects_named s xs in omega arith

unclosed_le : (x : Option SessionRow) → unclosed_bit x ≤ 1
unclosed_le None = omega arith
unclosed_le (Some row) = by (is_new row.connection)
  where
    by : (b : Bool) → (if b then 1 else (if is_open row.connection then 1 else 0)) ≤ 1
    by true = omega arith
    by false = let a = if_le (is_open row.connection) 1 in omega arith

-- an object becomes a session, which refers to its server
sound-join : (script : Script) (S : State) (s o : ObjNo) (slots : Slots) (u : ObjNo) → MayJoinServer S s o
    → AreRows script S
    → Sound script S (record S {
      serving = record S.serving
          { servers = after_add_session S.serving.servers s o slots u };
    }) (Plus (Link s) o ∷ [])
sound-join script S s o slots u may rows =
    sound-of script S T (Plus (Link s) o ∷ []) rows (record {
      handles_long = refl;
      threads_long = refl;
      owed_long = refl;
      objects_few = rows.references.sized.objects_few;
      tables = rows.references.tables;
      threads = rows.references.threads;
      duties = duties-servers S.references.threads S.serving.servers new S.serving.messages.accepted S.serving.messages.accepted S.references.owed (omega arith)
          (λ x named none. get_or-set_other S.serving.servers.sessions s.0 x.0 (Some row) None
          (λ at. let unowed : total (total (owed_names x)) S.references.owed
          ≡ 0 = ap (λ (y : ObjNo). total (total (owed_names y)) S.references.owed) (same_object x s at) ∙ may.unowed in
          absurd (omega arith)) ∙ none) rows.references.duties;
      synchronization = rows.synchronization;
      services = rows.services;
      spent = rows.references.spent;
      serving = record {
        servers =
            servers-join (λ row. is_spent row.stage)
            S.references.objects S.references.threads S.synchronization.locks S.serving.owned S.serving.servers s o
            slots u (record {
              few = rows.references.sized.objects_few;
              alive = may.alive;
              server_made = alive_there (object_of S o) (rows.lives.alive o may.counted);
              thread = may.thread;
              unlinked = λ k row is link.
                  let none = may.unlinked in
                  let most = total_any (thread_names s) S.references.threads k None refl in
                  let a = ap (thread_names s) is in
                  let b : option_names s row.link ≡ same s s = ap (option_names s) link in
                  let c = same_self s in absurd (omega arith);
              other = may.other;
              fresh = may.fresh;
              unowned = λ t. let none = may.unnamed in let within = total_within (mutex_names s) S.serving.owned t.0 in omega arith;
              unnamed = λ y linked.
                  let none = may.unnamed in
                  let most = total_any (session_names s) S.serving.servers.sessions y.0 None refl in
                  let one : session_names s (session_at S.serving.servers y) ≡ 1 =
                  linked_names (session_at S.serving.servers y) s ∙ ap (option_names s) linked ∙ same_self s in
                  omega arith;
              server = may.server;
            }) rows.serving.servers;
        messages =
            messages-sessions (IsUntold S.synchronization.requests S.synchronization.logons) S.references.threads
            S.serving.servers new S.serving.messages (λ message among. still message.row.session)
            closed_then
            (let a = total-set open_bit S.serving.servers.sessions s.0 (Some row) None inside_s in
            let c : open_bit (session_at S.serving.servers s) ≡ 0 = ap open_bit may.fresh in
            let numbered = rows.serving.messages.numbered in omega arith) rows.serving.messages;
      };
    })
    (lives-plus S T (Link s) o (refl, refl, refl) (λ p. let a = count-linked S.serving.servers.sessions s o row inside_s may.fresh
    refl p in omega arith) (λ p. refl) (λ p place. refl) (rows.lives.alive o may.counted))
    (holders-plus S T (Link s) o unheld (λ g x. let a = holds-linked S.serving.owned S.serving.servers.sessions
    S.serving.messages.outstanding s o row inside_s may.fresh refl g x in omega arith))
  where
    row : SessionRow
    row = new_session o slots u

    new : ServerRows
    new = after_add_session S.serving.servers s o slots u

    T : State
    T = record S { serving = record S.serving { servers = new } }

    inside_s : s.0 < length S.serving.servers.sessions
    inside_s = let made = there_inside S.references.objects s.0 (alive_there (object_of S s) may.alive) in let few = rows.references.sized.objects_few in let sized = rows.serving.servers.sessions_sized in omega arith

    still : (x : ObjNo) → IsSession S.serving.servers x → IsSession new x
    still x is = set_item (λ (y : Option SessionRow). is_some y ≡ true) S.serving.servers.sessions s.0 x.0 (Some row) None (λ _. refl) is

    closed_then : (x : ObjNo) → times_closed new S.serving.messages.outstanding x ≤ 1
    closed_then x =
        let before = rows.serving.messages.closed x in
        elim (cases_eq x.0 s.0) as (λ _. times_closed new S.serving.messages.outstanding x ≤ 1) [
          | inl at ↦
              let none : total (disconnects_of x) S.serving.messages.outstanding ≤ 0 =
              subst (λ (y : ObjNo). total (disconnects_of y) S.serving.messages.outstanding ≤ 0) (sym (same_object x s at))
              (let a = disconnects_named s S.serving.messages.outstanding in let b = may.unnamed in omega arith) in
              let bit = unclosed_le (session_at new x) in omega arith
          | inr apart ↦ let a = ap unclosed_bit (get_or-set_other S.serving.servers.sessions s.0 x.0 (Some row) None apart) in omega arith
        ]

    unheld : held_in S (Link s) o ≡ 0
    unheld =
        let a : link_names o (get_or S.references.threads s.0 None) ≡ 0 = ap (link_names o) may.thread in
        let b = none_owed S.references.threads S.serving.servers S.serving.messages.accepted S.references.owed
        (Link s) o rows.references.duties (λ k y later behind own.
        let some = own.1 in
        let some_owed = behind s in
        let within = total_within (owed_sweeps s) S.references.owed k in
        let sweeps = rows.lives.sweeps s in
        let alive = alive_undead (object_of S s) may.alive in omega arith) in
        let c : session_names o (session_at S.serving.servers s) ≡ 0 = ap (session_names o) may.fresh in omega arith

-- that a server ends tells of no reference and no death
pub server_silent : (S : State) (o : ObjNo) → IsSilent S (Terminated o ∷ [])
server_silent S o = silent_of S (λ o. refl) (λ o. refl) (tt, tt) (λ g x. refl)

sound-end : (script : Script) (S : State) (o : ObjNo) → AreRows script S → Sound script S S (Terminated o ∷ [])
sound-end script S o rows =
    sound-served script S S.serving.servers (Terminated o ∷ []) (server_silent S o)
    (record {
      servers = rows.serving.servers;
      none = λ x none. none;
      still = λ x is. is;
      closed = rows.serving.messages.closed;
      numbered = rows.serving.messages.numbered;
      names = λ x. refl;
      holds = λ g x. refl;
    }) rows

pub sound-servers : (script : Script) (S : State) (t : ObjNo) (m : ServerMove) → FitsMove script t (Servers m) S
    → AreRows script S → Sound script S (moved t (Servers m) S) (told (Servers m) S)
sound-servers script S t (Start o u) fits rows = sound-start script S o u fits rows
sound-servers script S t (Join s o slots u) fits rows = sound-join script S s o slots u fits rows
sound-servers script S t (Close o) fits rows = sound-close script S o rows
sound-servers script S t (CloseAll u) fits rows = sound-close_all script (owned_by S.serving.owned u) S rows
sound-servers script S t (SetOpen s to) fits rows = sound-set_open script S s to fits rows
sound-servers script S t (End o) fits rows = sound-end script S o rows

-- it sweeps nothing
pub server_removes : (m : ServerMove) (p : ObjNo) → removals (server_told m) p ≡ 0
server_removes (Join s o slots t) p = refl
server_removes _ p = refl
