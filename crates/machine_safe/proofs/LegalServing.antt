-- In every legal history messages and servers are safe.
use Rattle.entry_log.specs.declared.entry.Entry.{Entry}
use Rattle.machine.specs.Boot.{boot_in, boot_of, born}
use Rattle.machine.specs.History.{after_in, choosing, is_deathless, keeping, IsLegalIn}
use Rattle.machine.specs.References.{mutex_names, total}
use Rattle.machine_laws.proofs.AtBoot.Born.{born_row, each_born}
use Rattle.machine_laws.proofs.Reached.Histories.{after_from-push}
use Rattle.machine_safe.proofs.Deaths.HistoryCuts.{cut, dies-history}
use Rattle.machine_safe.proofs.Deaths.LeftAtCleaning.{empty-cleaning}
use Rattle.machine_safe.proofs.Deaths.OnceEach.{cleans-here}
use Rattle.machine_safe.proofs.Deaths.Rows.{row_bit, stage_live}
use Rattle.machine_safe.proofs.Serving.HistoriesTold.{IsFated, book-boot, turn-entry}
use Rattle.machine_safe.proofs.Serving.ActionsTold.{Book, IsLawful, nothing-left}
use Rattle.machine_safe.specs.SafeDeaths.{StandsAt, cleanings}
use Rattle.machine_safe.specs.SafeMessages.{IsSafeMessages, NothingLeft}
use Rattle.machine_safe.specs.SafeServers.{IsSafeServers}
use Rattle.machine_safe.specs.Served.{ends_in, owner_in}
use Rattle.script_types.proofs.ShapeLaws.{formed_is_shaped}
use Rattle.script_types.specs.declared.script.Script.{Script}
use Rattle.std.proofs.Common.{Bool, List, Some, [], ap, append_assoc, arith, inl, inr, refl, subst, sym, ◌++◌, ◌<◌, ◌∙◌, ◌∷◌, ◌≡◌, false, Option, None}
use Rattle.std.specs.Prelude.{◌&&◌}
use Rattle.std.proofs.lemmas.List.{append-nil}
use Rattle.sym_base.specs.declared.number.ObjNo.{ObjNo}
use Rattle.script_types.specs.Source.{IsWellFormed}
use Rattle.machine.specs.declared.state.State.{State}
use Rattle.machine_safe.specs.SafeBusy.{IsSafeBusy}
use Rattle.machine_safe.proofs.Serving.ServerActions.{Looked}
use Rattle.machine_safe.proofs.Serving.LookedSessions.{boot-looked, entry-looked}
use Rattle.machine_safe.proofs.Serving.Connecting.{KeepHandles, kept-boot, kept-next}
use Rattle.machine_safe.proofs.Serving.ServersAsTold.{served-made}
use Rattle.machine_safe.proofs.Serving.NothingLacking.{IsSteady, sends-over, steady-boot, steady-keeping, steady-next, steady-properly}
use Rattle.machine.specs.Moves.{next_object}
use Rattle.machine_safe.proofs.Serving.KeptRows.{next-unmade}
use Rattle.state_rows.specs.ServerRows.{server_at}
use Rattle.machine_safe.proofs.Serving.ServerReading.{reading}
use Rattle.std.specs.Prelude.{is_some}
use Rattle.state_rows.specs.declared.servers.ServerRow.{ServerRow}

-- a thread that is there is live, or was doomed once
fated : (shared : Bool) (script : Script) (before : List Entry) → IsWellFormed script → IsLegalIn shared script before
    → IsFated before (after_in shared script before)
unfolding boot_of
fated shared script before valid legal u row is =
    let front = dies-history shared script before valid legal in
    let was = front.were u.0 row is in
    let live = front.live u in
    let now = ap (row_bit stage_live) is in
    let first = ap (row_bit stage_live) was.was in
    let born_live = ap stage_live (born_row script _ (born script) u.0 was.old (each_born script (formed_is_shaped script valid)) was.was).live in omega arith

-- what is made next is no server
unmade-next : (script : Script) (before : List Entry) (S : State) → Book script before S → is_some (server_at S.serving.servers (next_object S)) ≡ false
unmade-next script before S book = by (server_at S.serving.servers (next_object S)) refl
  where
    by : (x : Option ServerRow) → server_at S.serving.servers (next_object S) ≡ x → is_some x ≡ false
    by None e = refl
    by (Some row) e = absurd (next-unmade S (served-made script (reading before) S book.served (next_object S) row e))

-- what a history tells of servers and messages is asked of no choice
pub book-keeping : (script : Script) (before : List Entry) (S : State) (keep : Bool) → Book script before S → Book script before (keeping keep S)
book-keeping script before S keep h = record {
  served = record {
    rows =
        λ o row is. let row_is = h.served.rows o row is in
        record { made = row_is.made; owner = row_is.owner; closing = row_is.closing; owned = row_is.owned };
    links = h.served.links;
    same = h.served.same;
    ended = h.served.ended;
    over = h.served.over;
    made = h.served.made;
    places = h.served.places;
    told_linked = h.served.told_linked;
  };
  letters = record {
    accepted = h.letters.accepted;
    known = h.letters.known;
    all = λ m a. elim (h.letters.all m a) [
      | inl over ↦ inl over
      | inr out ↦ inr (record { post = out.post; among = out.among; number = out.number; over = out.over; at = out.at })
    ];
    later = h.letters.later;
    sends = h.letters.sends;
  };
  slotted = record { sessions = h.slotted.sessions; pool = h.slotted.pool; servers = h.slotted.servers };
}

-- nor is whether a thread keeps the handle of the session that it made
pub handles-keeping : (script : Script) (S : State) (keep : Bool) → KeepHandles script S → KeepHandles script (keeping keep S)
handles-keeping script S keep h u row is live due = let had = h u row is live due in record { own = had.own; there = had.there; other = had.other }

-- what holds after the first entries
abbrev BookAt : Bool → Script → List Entry → Type 0
BookAt shared script xs =
    Book script xs (after_in shared script xs) × Looked script xs (after_in shared script xs)
    × KeepHandles script (after_in shared script xs) × IsSteady script (after_in shared script xs)

-- after each entry
pub book-after : (shared : Bool) (script : Script) (before later : List Entry) → IsWellFormed script
    → IsLegalIn shared script (before ++ later) → BookAt shared script before
book-after shared script before later valid legal =
    by [] before refl (
      book-boot shared script (formed_is_shaped script valid),
      boot-looked script (formed_is_shaped script valid),
      kept-boot shared script (formed_is_shaped script valid),
      steady-boot shared script (formed_is_shaped script valid),
    )
  where
    by : (xs ys : List Entry) → before ≡ xs ++ ys → BookAt shared script xs → BookAt shared script before
    by xs [] e h = subst (BookAt shared script) (sym (e ∙ append-nil xs)) h
    by xs (y ∷ ys) e h =
        let cuts = cut shared script (before ++ later) xs y (ys ++ later) valid legal
        (ap (λ (l : List Entry). l ++ later) e ∙ append_assoc xs (y ∷ ys) later) in
        let S = after_in shared script xs in
        let shaped = formed_is_shaped script valid in
        let keep = S.mode.shared && is_deathless y.effects in
        let handles = handles-keeping script S keep h.2 in
        let steady = steady-keeping script S keep h.3 in
        let turn = turn-entry script xs (choosing y S) cuts.place shaped cuts.rows_done
        (book-keeping script xs S keep h.0) h.1 handles (sends-over script (choosing y S) steady)
        (fated shared script xs valid cuts.legal_before) y cuts.done in
        let looked = entry-looked script xs (choosing y S) cuts.place shaped cuts.rows_done h.1 y cuts.done in
        let kept = kept-next script (choosing y S) shaped cuts.rows_done (steady.own, steady.kinds)
        (steady-properly script (choosing y S) shaped cuts.rows_done steady) handles
        (unmade-next script xs S h.0) y.actor in
        let steady_next = steady-next script (choosing y S) shaped cuts.rows_done steady y.actor in
        let same = sym (after_from-push script (boot_in shared script) xs y) in
        by (xs ++ y ∷ []) ys (e ∙ sym (append_assoc xs (y ∷ []) ys)) (
          subst (Book script (xs ++ y ∷ [])) same turn.book,
          subst (Looked script (xs ++ y ∷ [])) same looked,
          subst (KeepHandles script) same kept,
          subst (IsSteady script) same steady_next,
        )

-- each entry is lawful
lawful : (shared : Bool) (script : Script) (history before : List Entry) (e : Entry) (later : List Entry)
    → IsWellFormed script → IsLegalIn shared script history → StandsAt history before e later → IsLawful script before e
lawful shared script history before e later valid legal is =
    let c = cut shared script history before e later valid legal is in
    let shaped = formed_is_shaped script valid in
    let book = book-after shared script before (e ∷ later) valid (subst (IsLegalIn shared script) is legal) in
    let S = after_in shared script before in
    let keep = S.mode.shared && is_deathless e.effects in
    (turn-entry script before (choosing e S) c.place shaped c.rows_done
    (book-keeping script before S keep book.0) book.1 (handles-keeping script S keep book.2)
    (sends-over script (choosing e S) (steady-keeping script S keep book.3))
    (fated shared script before valid c.legal_before) e c.done).lawful

pub legal_busy : (shared : Bool) (script : Script) (history : List Entry) → IsWellFormed script → IsLegalIn shared script history → IsSafeBusy script history
legal_busy shared script history valid legal = record {
  answers = λ before e later is sends. (lawful shared script history before e later valid legal is).send sends;
}

pub legal_messages : (shared : Bool) (script : Script) (history : List Entry) → IsWellFormed script
    → IsLegalIn shared script history → IsSafeMessages script history
legal_messages shared script history valid legal = record {
  acceptances = λ before e later is some. (lawful shared script history before e later valid legal is).acceptance some;
  finished = λ before e later m is some. (lawful shared script history before e later valid legal is).finish m some;
  ended = λ before e later v is some. (lawful shared script history before e later valid legal is).end v some;
}

-- a thread that is cleaned made servers that ended, and nothing is left of these
module _ (shared : Bool) (script : Script) (history before : List Entry) (e : Entry) (later : List Entry) (t v : ObjNo)
    (valid : IsWellFormed script) (legal : IsLegalIn shared script history) (is : StandsAt history before e later)
    (cleaned : 0 < cleanings (e ∷ []) t) (owns : owner_in before v ≡ Some t) where
  book : Book script before (after_in shared script before)
  book = (book-after shared script before (e ∷ later) valid (subst (IsLegalIn shared script) is legal)).0

  server-ended : 0 < ends_in before v
  server-ended = elim (book.served.made t v owns) as (λ _. 0 < ends_in before v) [
    | inl owned ↦
        let c = cut shared script history before e later valid legal is in
        let empty = empty-cleaning script (choosing e (after_in shared script before)) e t c.rows_done
        (cleans-here shared script before e later t (formed_is_shaped script valid) c cleaned) in
        let none = ap (total (mutex_names v)) empty.owned in absurd (omega arith)
    | inr over ↦ over
  ]

  server-left : NothingLeft before v
  server-left = nothing-left script before (after_in shared script before) book v server-ended

pub legal_servers : (shared : Bool) (script : Script) (history : List Entry) → IsWellFormed script → IsLegalIn shared script history → IsSafeServers history
legal_servers shared script history valid legal = record {
  ended = λ before e later t v is cleaned owns. server-ended shared script history before e later t v valid legal is cleaned owns;
  remade = λ before e later u v is some owns. (lawful shared script history before e later valid legal is).renewed u v some owns;
  finished = λ before e later t v is cleaned owns. server-left shared script history before e later t v valid legal is cleaned owns;
}
