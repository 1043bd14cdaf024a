-- The steps of `connect`, `send` and `call`.
use Rattle.std.proofs.Common.{◌≡◌, ℕ, ℤ, ◌<◌, List, [], ◌∷◌, length, get_or, arith, refl, sym, ap, subst, ◌∙◌, Option, Some, None, true, false, ◌+◌, ◌≤◌, Bool}
use Rattle.std.specs.Ordering.{int_eq}
use Rattle.std.specs.Prelude.{pos, is_some, option_map, if◌then◌else◌}
use Rattle.std.proofs.lemmas.Bool.{leb-true}
use Rattle.sym_base.specs.ErrorCode.{error_code}
use Rattle.sym_base.specs.declared.error.Error.TheVariants as error
use Rattle.sym_base.specs.declared.kind.Arg.{Arg}
use Rattle.sym_base.specs.declared.kind.Kind.TheVariants as kind
use Rattle.sym_base.specs.declared.kind.Slots.{Slots}
use Rattle.sym_base.specs.declared.limits.TheConstants.Limits.{OBJECTS}
use Rattle.sym_base.specs.declared.number.ObjNo.{ObjNo}
use Rattle.sym_base.specs.declared.word.Word.TheVariants as word
use Rattle.script_types.specs.declared.instruction.Args.{Args}
use Rattle.script_types.specs.declared.instruction.Instr.{Instr}
use Rattle.script_types.specs.declared.instruction.Instr.TheVariants as instr
use Rattle.script_types.specs.declared.script.Script.{Script}
use Rattle.script_types.proofs.LimitLaws.{instr_in}
use Rattle.entry_log.specs.declared.effect.Holder.TheVariants.{InThread}
use Rattle.entry_log.specs.declared.step.Part.{Part}
use Rattle.entry_log.specs.declared.step.Part.TheVariants as part
use Rattle.entry_log.specs.declared.step.Step.TheVariants.{Of}
use Rattle.state_rows.specs.MessageRows.{is_full}
use Rattle.state_rows.specs.Nano.{held_by}
use Rattle.state_rows.specs.Requests.{is_pending, reply_of}
use Rattle.state_rows.specs.ServerChanges.{opened}
use Rattle.state_rows.specs.ServerRows.{closes, is_to_open, link_of, server_at, session_at, was_opened}
use Rattle.state_rows.specs.declared.messages.Way.TheVariants.{Async, Sync}
use Rattle.state_rows.specs.declared.servers.ServerRow.{ServerRow}
use Rattle.state_rows.specs.declared.servers.ServerRows.{ServerRows}
use Rattle.state_rows.specs.declared.thread.Waiting.TheVariants as waiting
use Rattle.state_rows.specs.declared.thread.ThreadRow.{ThreadRow}
use Rattle.state_rows.specs.declared.servers.SessionRow.{SessionRow}
use Rattle.machine.specs.declared.moves.Move.TheVariants as move
use Rattle.machine.specs.declared.request_move.RequestMove.TheVariants.{SetPending}
use Rattle.machine.specs.declared.server_move.ServerMove.TheVariants.{Join, SetOpen}
use Rattle.machine.specs.declared.state.State.{State}
use Rattle.machine.specs.Fits.{IsFree, MayGoOn}
use Rattle.machine.specs.FitsServers.{MayJoinServer, HasNumber}
use Rattle.machine.specs.Handles.{holder_of}
use Rattle.machine.specs.Messaging.{connects, no_args, open_server, post, server_to_open, slots_of}
use Rattle.machine.specs.Moves.{moved, new_object, next_object, no_number_left, with_kept, with_part, with_use, with_waiting}
use Rattle.machine.specs.Rows.{thread_of}
use Rattle.machine.specs.Serving.{open_bit, begun, numbers_left}
use Rattle.machine.specs.SessionCalls.{args_of, call_do, call_step, call_to, connect_done, connect_make, connect_send, connect_step, connect_to, fail_connect, make_session, send_connect, send_do, send_step, send_to, session_made}
use Rattle.machine.specs.References.{count_of, stage_holds, total}
use Rattle.machine.specs.Out.{is_returning, part_of}
use Rattle.machine.specs.WellFormed.{IsAlive, is_before_use, is_spent}
use Rattle.move_laws.proofs.Holders.ThreadRows.{row-here, row-other}
use Rattle.move_laws.proofs.Lists.Cases.{if_cases}
use Rattle.move_laws.proofs.Lists.Mapped.{mapped-some}
use Rattle.move_laws.proofs.Lists.Totals.{total-with}
use Rattle.move_laws.proofs.Lives.Fresh.{next_fresh}
use Rattle.move_laws.proofs.Lives.NewObjects.{made-own, next_number_is}
use Rattle.move_laws.proofs.RowLaws.MessagesKept.{fewer-with_row}
use Rattle.machine_laws.proofs.Fitting.Deaths.{not_logged, set_awaited}
use Rattle.machine_laws.proofs.Fitting.KernelThreads.{fits-answer, fits-look_kind, fits-unless}
use Rattle.machine_laws.proofs.Fitting.LiveObjects.{handle_is_counted, use_is_alive, thread_is_counted, use_is_counted}
use Rattle.machine_laws.proofs.Fitting.SentMessages.{MayPost, open_session, posts, stay-post}
use Rattle.machine_laws.proofs.Fitting.Servers.{owes_more}
use Rattle.machine_laws.proofs.Fitting.Shared.{fits-seek, of_thread_handle}
use Rattle.machine_laws.proofs.Fitting.Staying.{stay-perform, stays-lose, stays-requests, stays-go_on}
use Rattle.machine_laws.proofs.Fitting.Stepping.{is_there, FitsDecision, IsStepping, fits-answers, fits-handle, fits-nothing, fits-refuse, has_signals, live-changed, stepping_live, unspent, fewer-left, ends_here, last_step}
use Rattle.machine_laws.proofs.Fitting.Steps.{handle_named, room_left}
use Rattle.machine_laws.proofs.Fitting.Uncalled.{not_sent, stepping_uncalled}
use Rattle.machine_laws.proofs.Fitting.Waiters.{stepping_nowhere}
use Rattle.machine_laws.proofs.Fitting.Regular.{kind_of, looking, calling}
use Rattle.machine_laws.proofs.Fitting.Tame.{may_tell, regular-moves, tame-at, tame-both, tame-moves, tame-going, tame-calling}

-- a session is made, where the server is one and isn't closing
module _ (script : Script) (S : State) (t : ObjNo) (row : ThreadRow) (instr : Instr) (o : ObjNo) (slots : Slots)
    (h : IsStepping script S t row instr) (going : is_returning row.part ≡ false) (server : ServerRow)
    (is : server_at S.serving.servers o ≡ Some server) (accepts : server.is_closing ≡ false)
    (room : (next_object S).0 < OBJECTS) (uses : row.uses ≡ Some o) (first : begun row.part ≡ 0) where
  abbrev made : ℕ → State
  made i = moved t (move.Make kind.Session [] (InThread t i)) S

  abbrev joined : ℕ → State
  joined i = moved t (move.Servers (Join (next_object S) o slots t)) (made i)

  abbrev put_down : ℕ → ℕ → State
  put_down i number = moved t (move.PutDown t) (moved t (move.Keep t number) (joined i))

  may_join : (i : ℕ) → MayJoinServer (made i) (next_object S) o
  may_join i =
      let s = next_object S in
      let alive = use_is_alive S t row o h.rows.lives h.is uses in
      let fresh = next_fresh script S h.rows in
      let none = fresh.references in
      record {
        alive =
            subst IsAlive (sym (made-own S.references.objects s.0 (new_object kind.Session [] S.references.made)
            (next_number_is S.mode.reuse S.references.objects).0)) refl;
        thread = fresh.thread;
        unlinked = omega arith;
        other = λ same. subst IsAlive (ap (λ (n : ℕ). get_or S.references.objects n None) (sym same) ∙ fresh.object) alive;
        fresh = fresh.session;
        alone = record { no_session = fresh.linked; no_server = ap link_of fresh.session };
        unnamed = omega arith;
        unowed = omega arith;
        server = ap is_some is;
        accepts = ap closes is ∙ accepts;
        counted = use_is_counted (made i) t row o h.is uses;
      }

  -- the thread is there then, and its step is the same
  kept_there : (i number : ℕ) → thread_of (moved t (move.Keep t number) (joined i)) t ≡ Some (with_kept number row)
  kept_there i number = row-here S.references.threads t (with_kept number) t.0 refl ∙ ap (option_map (with_kept number)) h.is

  down_there : (i number : ℕ) → thread_of (put_down i number) t ≡ Some (with_use None (with_kept number row))
  down_there i number =
      row-here (moved t (move.Keep t number) (joined i)).references.threads t (with_use None) t.0 refl
      ∙ ap (option_map (with_use None)) (kept_there i number)

  goes_on : (i number : ℕ) → MayGoOn (put_down i number) t (Some part.Send)
  goes_on i number = record {
    unused = λ r at e. absurd (cc);
    going = ap (λ (r : Option ThreadRow). is_returning (part_of r)) (down_there i number) ∙ going;
    other = refl;
    unspent =
        λ r at. let same_row : with_use None (with_kept number row) ≡ r = (let there = down_there i number in cc) in
        subst (λ (x : ThreadRow). is_spent x.stage ≡ false) same_row (unspent h row h.is);
    ends =
        λ r at. let same_row : with_use None (with_kept number row) ≡ r = (let there = down_there i number in cc) in
        subst (λ (x : ThreadRow). begun x.part ≤ 0) same_row (omega arith);
  }

  fits-made : (i number : ℕ) → IsFree S (InThread t i)
      → FitsDecision calling script t S (make_session t o slots (next_object S)
      (Some (record { holder = InThread t i; number = number })))
  fits-made i number free = record {
    each = (
      (record { room = room; new = refl }, free, λ e. refl, refl),
      (
        may_join i,
        (
          (is_there h, refl),
          (
            (
              refl,
              record {
                thread = ap is_some (kept_there i number);
                going = ap (λ (r : Option ThreadRow). is_returning (part_of r)) (kept_there i number) ∙ going;
              },
            ),
            ((goes_on i number, refl), tt),
          ),
        ),
      ),
    );
    told = omega arith;
    light = omega arith;
    regular = regular-moves _ refl refl (tame-at calling _ refl refl);
  }

fits-connect_make : {script : Script} {S : State} {t : ObjNo} {row : ThreadRow} {instr : Instr} (slots : Slots)
    (uses : Option ObjNo)
    → IsStepping script S t row instr → row.part ≡ Some part.Make → row.uses ≡ uses
    → FitsDecision calling script t S (connect_make S t slots uses)
fits-connect_make {script = script} {S = S} {t = t} slots None h at e = fits-nothing script S t
fits-connect_make {script = script} {S = S} {t = t} {row = row} {instr = instr} slots (Some o) h at e = by (server_at S.serving.servers o) refl
  where
    by : (server : Option ServerRow) → server_at S.serving.servers o ≡ server → FitsDecision calling script t S (connect_to S t slots o server)
    by None is = fits-nothing script S t
    by (Some server) is =
        if_cases (FitsDecision calling script t S) server.is_closing _ _ (λ _. fits-refuse (Of word.Connect part.Make) refl error.ServerTerminated h)
        (λ accepts. if_cases (FitsDecision calling script t S) (no_number_left S) _ _ (λ _. fits-refuse (Of word.Connect part.Make) refl error.Overflow h)
        (λ room. of_thread_handle (λ handle. FitsDecision calling script t S
        (make_session t o slots (next_object S) handle)) h
        (fits-refuse (Of word.Connect part.Make) refl error.Overflow h)
        (fits-made script S t row instr o slots h (ap is_returning at) server is accepts (room_left h room) e (ap begun at))))

-- the connection fails, and the handle goes
fits-fail : {script : Script} {S : State} {t : ObjNo} {row : ThreadRow} {instr : Instr} (p : Part)
    (named : may_tell calling (Of word.Connect p) ≡ true) (s : ObjNo) (code : ℤ)
    → IsStepping script S t row instr → is_returning row.part ≡ false → session_made S t row ≡ Some s
    → FitsDecision calling script t S (fail_connect t row p s code)
fits-fail {script = script} {S = S} {t = t} {row = row} p named s code h going is =
    let holder = holder_of t row row.found in
    let handle = handle_named row.found s h is in
    fits-answers (Of word.Connect p) named (move.Lose holder s ∷ []) code (tame-at calling _ refl refl)
    (((owes_more h going).going, handle.holds S refl (λ x. refl), handle.own), tt)
    ((stays-lose script t holder s).at S (ends_here h)) (omega arith) (omega arith)

-- a thread waits for the reply to a message, with any rows of servers
abbrev awaiting : State → ObjNo → ServerRows → State
awaiting S t servers = record (moved t (move.Wait t waiting.Reply) (moved t (move.GoOn t part.Done) S)) { serving = record S.serving { servers = servers } }

awaits_there : {script : Script} {S : State} {t : ObjNo} {row : ThreadRow} {instr : Instr} (servers : ServerRows)
    → IsStepping script S t row instr
    → thread_of (awaiting S t servers) t ≡ Some (with_waiting waiting.Reply (with_part part.Done row))
awaits_there {S = S} {t = t} servers h =
    let first = row-here S.references.threads t (with_part part.Done) t.0 refl ∙ ap (option_map (with_part part.Done)) h.is in
    row-here (moved t (move.GoOn t part.Done) S).references.threads t (with_waiting waiting.Reply) t.0 refl ∙ ap (option_map (with_waiting waiting.Reply)) first

-- and sends it
may_call : {script : Script} {S : State} {t : ObjNo} {row : ThreadRow} {instr : Instr} (servers : ServerRows)
    (s o : ObjNo)
    → IsStepping script S t row instr → is_returning row.part ≡ false → begun row.part ≡ 0
    → total open_bit servers.sessions ≤ total open_bit S.serving.servers.sessions + 1 → open_server S s ≡ Some o
    → 0 < count_of (awaiting S t servers) s → is_some (get_or servers.sessions s.0 None) ≡ true
    → MayPost script S (awaiting S t servers) t s o Sync
may_call {script = script} {S = S} {t = t} {row = row} servers s o h going first opens accepts counted session =
    let held = ap stage_holds h.live in
    let there = awaits_there servers h in
    record {
      rows = h.rows;
      row = row;
      is = h.is;
      waits = h.waits;
      held = held;
      accepts = accepts;
      counted = counted;
      client = thread_is_counted (awaiting S t servers) t (with_waiting waiting.Reply (with_part part.Done row)) (awaits_there servers h) held;
      objects = refl;
      locks = refl;
      messages = refl;
      session = session;
      owes = record { thread = ap is_some there; going = ap (λ (r : Option ThreadRow). is_returning (part_of r)) there };
      others =
          λ u apart. row-other (moved t (move.GoOn t part.Done) S).references.threads t
          (with_waiting waiting.Reply) u.0 apart
          ∙ row-other S.references.threads t (with_part part.Done) u.0 apart;
      slot = refl;
      number =
          let waits = fewer-with_row numbers_left (moved t (move.GoOn t part.Done) S).references.threads t (with_waiting waiting.Reply) (λ r at. omega arith) in
          let left = fewer-left h first in let numbered = h.rows.serving.messages.numbered in omega arith;
      sends = (
        stepping_uncalled h going,
        λ r is. let same_row : with_waiting waiting.Reply (with_part part.Done row)
            ≡ r = cc in ap (λ (x : ThreadRow). x.waiting) (sym same_row),
      );
    }

-- `connect` opens its session, which is one to open
to_open : (b : Bool) (server : Option ObjNo) (o : ObjNo) → (if b then server else None) ≡ Some o → (b ≡ true) × (server ≡ Some o)
to_open true server o e = (refl, e)
to_open false server o e = absurd (cc)

-- and has a number
opens_number : {script : Script} {S : State} {t : ObjNo} {row : ThreadRow} {instr : Instr}
    → IsStepping script S t row instr → row.part ≡ Some part.Send → HasNumber (moved t (move.GoOn t part.Done) S)
opens_number h at = let left = fewer-left h (ap begun at) in let numbered = h.rows.serving.messages.numbered in omega arith

open_one : (x : Option SessionRow) → open_bit x ≤ 1
open_one x = by (was_opened x)
  where
    by : (b : Bool) → (if b then 1 else 0) ≤ 1
    by true = omega arith
    by false = omega arith

fits-connect_send : {script : Script} {S : State} {t : ObjNo} {row : ThreadRow} {instr : Instr} (made : Option ObjNo)
    → IsStepping script S t row instr → is_returning row.part ≡ false → row.part ≡ Some part.Send
    → session_made S t row ≡ made → FitsDecision calling script t S (connect_send S t row made)
fits-connect_send {script = script} {S = S} {t = t} None h going at is = fits-nothing script S t
fits-connect_send {script = script} {S = S} {t = t} {row = row} (Some s) h going at is =
    fits-unless (Of word.Connect part.Send) refl _ h (λ none. by none (server_to_open S s) refl)
  where
    by : held_by S.synchronization.nano t ≡ None → (server : Option ObjNo) → server_to_open S s ≡ server
        → FitsDecision calling script t S (send_connect S t row s server)
    by none None opens = fits-fail part.Send refl s (error_code error.ServerTerminated) h going is
    by none (Some o) to =
        let parts = to_open (is_to_open (session_at S.serving.servers s)) (open_server S s) o to in
        let accepts = parts.1 in
        let handle = handle_named row.found s h is in
        let servers = (moved t (move.Servers (SetOpen s true)) S).serving.servers in
        let session = open_session S s o accepts in
        let bits = total-with open_bit (option_map (opened true)) None S.serving.servers.sessions s.0 refl in
        let bit = open_one (option_map (opened true) (session_at S.serving.servers s)) in
        let opens : total open_bit servers.sessions ≤ total open_bit S.serving.servers.sessions + 1 = omega arith in
        let sends = posts script S (awaiting S t servers) t s o connects no_args Sync refl
        (may_call servers s o h going (ap begun at) opens accepts
        (handle_is_counted (awaiting S t servers) handle.owner handle.index s handle.slot)
        (mapped-some (opened true) S.serving.servers.sessions s.0 s.0 ∙ session)) in
        record {
          each = (
            (last_step h, refl),
            (
              (parts.0, opens_number h at),
              (
                (
                  none,
                  stepping_nowhere h,
                  live-changed S (moved t (move.GoOn t part.Done) S) t (with_part part.Done)
                      (λ r. refl) refl (stepping_live h),
                  λ r is live. stepping_uncalled h going,
                ),
                sends.each,
              ),
            ),
          );
          told = let few = sends.told in omega arith;
          light = let few = sends.light in omega arith;
          regular =
              regular-moves _ refl refl (tame-both (move.GoOn t part.Done ∷ move.Servers
              (SetOpen s true) ∷ move.Wait t waiting.Reply ∷ []) _ (let few = sends.calm.loses in omega arith)
              (tame-going _ refl refl refl) (tame-calling sends.calm));
        }

fits-connect_done : {script : Script} {S : State} {t : ObjNo} {row : ThreadRow} {instr : Instr} (x : ℕ)
    (made : Option ObjNo)
    → IsStepping script S t row instr → is_returning row.part ≡ false → x < 8 → session_made S t row ≡ made
    → FitsDecision calling script t S (connect_done S t row x made)
fits-connect_done {script = script} {S = S} {t = t} x None h going register is = fits-nothing script S t
fits-connect_done {script = script} {S = S} {t = t} {row = row} x (Some s) h going register is =
    if_cases (FitsDecision calling script t S) (int_eq (reply_of S.synchronization.requests t) (pos 0)) _ _
    (λ _. fits-handle (Of word.Connect part.Done) refl [] x row.found (tame-moves _ refl refl) h register tt refl
    (omega arith) (omega arith)) (λ _. fits-fail part.Done refl s (reply_of S.synchronization.requests t) h going is)

pub fits-connect : {script : Script} {S : State} {t : ObjNo} {row : ThreadRow} (name : List ℕ) (slots : Slots) (x : ℕ)
    (p : Option Part)
    → IsStepping script S t row (instr.Connect name slots x) → is_returning row.part ≡ false → row.part ≡ p
    → FitsDecision (kind_of (instr.Connect name slots x) p) script t S (connect_step S t row name slots x p)
fits-connect name slots x None h going at =
    fits-unless (Of word.Connect part.Seek) refl _ h
    (λ none. fits-seek word.Connect kind.Server name refl h refl (ap is_before_use at) none)
fits-connect {row = row} name slots x (Some part.Make) h going at = fits-connect_make slots row.uses h at refl
fits-connect {S = S} {t = t} {row = row} name slots x (Some part.Send) h going at = fits-connect_send (session_made S t row) h going at refl
fits-connect {S = S} {t = t} {row = row} name slots x (Some _) h going at = fits-connect_done x (session_made S t row) h going h.registers.0 refl

-- `send`
fits-send_to : {script : Script} {S : State} {t : ObjNo} {row : ThreadRow} {instr : Instr} (s : ObjNo) (function : ℤ)
    (y : ℕ) (args : List Arg) (server : Option ObjNo)
    → IsStepping script S t row instr → is_returning row.part ≡ false → begun row.part ≡ 0 → y < 16
    → is_pending S.synchronization.requests t y ≡ false → length args ≡ 4 → row.uses ≡ Some s → open_server S s ≡ server
    → FitsDecision calling script t S (send_to S t s function y args server)
fits-send_to s function y args None h going first small done four uses accepts = fits-refuse (Of word.Send part.Do) refl error.ServerTerminated h
fits-send_to {script = script} {S = S} {t = t} {row = row} s function y args (Some o) h going first small done four uses accepts =
    if_cases (FitsDecision calling script t S) (is_full S.serving.messages s (slots_of S s)) _ _
    (λ _. fits-refuse (Of word.Send part.Do) refl error.ServerBusy h)
    (λ left.
    let pending = moved t (move.Requests (SetPending t y)) (moved t (move.GoOn t part.Done) S) in
    let there = row-here S.references.threads t (with_part part.Done) t.0 refl ∙ ap (option_map (with_part part.Done)) h.is in
    let ms = post S t s o function args (Async y) in
    let sends = posts script S pending t s o function args (Async y) four (record {
      rows = h.rows;
      row = row;
      is = h.is;
      waits = h.waits;
      held = ap stage_holds h.live;
      accepts = accepts;
      counted = use_is_counted pending t (with_part part.Done row) s there uses;
      client = thread_is_counted pending t (with_part part.Done row) there (ap stage_holds h.live);
      objects = refl;
      locks = refl;
      messages = refl;
      session = open_session S s o accepts;
      owes = record { thread = ap is_some there; going = ap (λ (r : Option ThreadRow). is_returning (part_of r)) there };
      others = λ u apart. row-other S.references.threads t (with_part part.Done) u.0 apart;
      slot = left;
      number = let left = fewer-left h first in let numbered = h.rows.serving.messages.numbered in omega arith;
      sends = (
        (
          set_awaited (length S.references.threads) S.synchronization.requests t y h.rows.synchronization.requests
              (has_signals h) small done,
          not_logged (length S.references.threads) S.synchronization.requests
              S.synchronization.logons t y h.rows.synchronization.logons done,
        ),
        not_sent script S t y h.rows done,
      );
    }) in
    fits-answers (Of word.Send part.Do) refl (move.GoOn t part.Done ∷ move.Requests (SetPending t y) ∷ ms) (pos 0)
    (tame-both (move.GoOn t part.Done ∷ move.Requests (SetPending t y) ∷ []) ms
    (let few = sends.calm.loses in omega arith) (tame-going _ refl refl refl) (tame-calling sends.calm))
    ((last_step h, refl), (((has_signals h, small), tt), sends.each))
    (stay-perform script t (move.GoOn t part.Done ∷ move.Requests (SetPending t y) ∷ ms) S (
      stays-go_on script t _ part.Done refl,
      (stays-requests script t _, stay-post script S t s o function args (Async y)),
    ) (ends_here h))
    (let few = sends.told in omega arith) (let few = sends.light in omega arith))

pub fits-send : {script : Script} {S : State} {t : ObjNo} {row : ThreadRow} (x n y : ℕ) (args : Args) (p : Option Part)
    → IsStepping script S t row (instr.Send x n y args) → is_returning row.part ≡ false → row.part ≡ p
    → FitsDecision (kind_of (instr.Send x n y args) p) script t S (send_step S t row x n y args p)
fits-send {script = script} {S = S} {t = t} x n y args None h going at =
    if_cases (FitsDecision looking script t S) (is_pending S.synchronization.requests t y) _ _
    (λ _. fits-refuse (Of word.Send part.Look) refl error.InUse h)
    (λ _. fits-look_kind kind.Session word.Send x refl refl h (ap is_before_use at))
fits-send {script = script} {S = S} {t = t} x n y args (Some part.Done) h going at = fits-nothing script S t
fits-send {script = script} {S = S} {t = t} {row = row} x n y args (Some p) h going at = over row.uses refl
  where
    over : (uses : Option ObjNo) → row.uses ≡ uses → FitsDecision calling script t S (send_do S t (pos n) y (args_of args) uses)
    over None e = fits-nothing script S t
    over (Some s) e =
        if_cases (FitsDecision calling script t S) (is_pending S.synchronization.requests t y) _ _ (λ _. fits-nothing script S t)
        (λ done. fits-send_to s (pos n) y (args_of args) (open_server S s) h going (ap begun at)
        (let few = leb-true y 15 (instr_in (instr.Send x n y args) h.ranges).1.1.0 in omega arith) done refl e refl)

-- `call`
fits-call_to : {script : Script} {S : State} {t : ObjNo} {row : ThreadRow} {instr : Instr} (s : ObjNo) (function : ℤ)
    (args : List Arg) (server : Option ObjNo)
    → IsStepping script S t row instr → is_returning row.part ≡ false → begun row.part ≡ 0
    → held_by S.synchronization.nano t ≡ None → length args ≡ 4 → row.uses ≡ Some s → open_server S s ≡ server
    → FitsDecision calling script t S (call_to S t s function args server)
fits-call_to s function args None h going first none four uses accepts = fits-refuse (Of word.Call part.Do) refl error.ServerTerminated h
fits-call_to {script = script} {S = S} {t = t} {row = row} s function args (Some o) h going first none four uses accepts =
    let sends = posts script S (awaiting S t S.serving.servers) t s o function args Sync four
    (may_call S.serving.servers s o h going first (omega arith) accepts
    (use_is_counted (awaiting S t S.serving.servers) t (with_waiting waiting.Reply (with_part part.Done row)) s
    (awaits_there S.serving.servers h) uses) (open_session S s o accepts)) in
    record {
      each = (
        (last_step h, refl),
        (
          (
            none,
            stepping_nowhere h,
            live-changed S (moved t (move.GoOn t part.Done) S) t (with_part part.Done) (λ r. refl) refl (stepping_live h),
            λ r is live. stepping_uncalled h going,
          ),
          sends.each,
        ),
      );
      told = let few = sends.told in omega arith;
      light = let few = sends.light in omega arith;
      regular =
          regular-moves _ refl refl (tame-both (move.GoOn t part.Done ∷ move.Wait t waiting.Reply ∷ []) _
          (let few = sends.calm.loses in omega arith) (tame-going _ refl refl refl) (tame-calling sends.calm));
    }

pub fits-call : {script : Script} {S : State} {t : ObjNo} {row : ThreadRow} {i : Instr} (x n : ℕ) (args : Args)
    (p : Option Part)
    → IsStepping script S t row i → is_returning row.part ≡ false → row.part ≡ p
    → FitsDecision (kind_of (instr.Call x n args) p) script t S (call_step S t row x n args p)
fits-call x n args None h going at =
    fits-unless (Of word.Call part.Look) refl _ h
    (λ _. fits-look_kind kind.Session word.Call x refl refl h (ap is_before_use at))
fits-call {script = script} {S = S} {t = t} {row = row} x n args (Some part.Do) h going at = over row.uses refl
  where
    over : (uses : Option ObjNo) → row.uses ≡ uses → FitsDecision calling script t S (call_do S t (pos n) (args_of args) uses)
    over None e = fits-nothing script S t
    over (Some s) e = fits-unless (Of word.Call part.Do) refl _ h
        (λ none. fits-call_to s (pos n) (args_of args) (open_server S s) h going (ap begun at) none refl e refl)
fits-call {S = S} {t = t} x n args (Some _) h going at = fits-answer (Of word.Call part.Done) refl (reply_of S.synchronization.requests t) h
