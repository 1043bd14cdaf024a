-- What a thread does for its closing servers fits: it finishes their messages, detaches their sessions, and at last stops them.
use Rattle.std.proofs.Common.{◌≡◌, ◌<◌, List, [], ◌∷◌, ◌++◌, map, arith, refl, sym, ap, subst, ◌∙◌, Option, Some, None, Bool, true, false}
use Rattle.std.specs.List.{AllByRecursion}
use Rattle.std.specs.Prelude.{◌||◌, Contains, filter, is_some, if◌then◌else◌, option_map}
use Rattle.std.proofs.lemmas.Bool.{eq-eqb, eqb-true}
use Rattle.sym_base.specs.ErrorCode.{error_code}
use Rattle.sym_base.specs.declared.error.Error.TheVariants.{ServerTerminated}
use Rattle.sym_base.specs.declared.number.MsgNo.{MsgNo}
use Rattle.sym_base.specs.declared.number.ObjNo.{ObjNo}
use Rattle.script_types.specs.declared.script.Script.{Script}
use Rattle.state_rows.specs.MessageRows.{is_at, message_of, messages_at}
use Rattle.state_rows.specs.ServerRows.{holds, is_closing, linked_at, owner_of, server_of}
use Rattle.state_rows.specs.declared.servers.ServerRow.{ServerRow}
use Rattle.state_rows.specs.declared.messages.Message.{Message}
use Rattle.state_rows.specs.declared.thread.ThreadRow.{ThreadRow}
use Rattle.machine.specs.declared.holding.Holding.{Holding}
use Rattle.machine.specs.declared.holding.Holding.TheVariants.{Message as OfMessage, Link as OfLink, Server as OfServer, Handle, Use}
use Rattle.machine.specs.declared.state.State.{State}
use Rattle.machine.specs.Holdings.{closing_holdings, held_servers, server_holdings}
use Rattle.machine.specs.Reaping.{finish_message, give_up}
use Rattle.machine.specs.References.{mutex_names, total}
use Rattle.machine.specs.Rows.{thread_of}
use Rattle.machine.specs.ServerMoves.{owned_by}
use Rattle.machine.specs.Serving.{times_owned}
use Rattle.machine.specs.Out.{is_returning, part_of}
use Rattle.machine.specs.WellFormed.{AreRows}
use Rattle.move_laws.proofs.Lists.Cases.{if_cases}
use Rattle.move_laws.proofs.References.Same.{same_object, same_self}
use Rattle.machine_laws.proofs.Fitting.Finishing.{finishes}
use Rattle.machine_laws.proofs.Fitting.Stepping.{FitsDecision, fits-nothing}
use Rattle.machine_laws.proofs.Fitting.Regular.{kind_given, serving}
use Rattle.machine_laws.proofs.Fitting.Tame.{regular-moves, tame-at}
use Rattle.machine.specs.EntryWords.{is_handle}
use Rattle.move_laws.proofs.Lists.Contents.{contains_behind, contains_cases, contains_filter, contains_first, none_contained}
use Rattle.move_laws.proofs.RowLaws.Rising.{found_one}
use Rattle.machine.specs.Fits.{IsAtStage}
use Rattle.state_rows.specs.declared.thread.Stage.TheVariants.{Doomed}

-- of nothing both parts are nothing
pub empty_left : {A : Type 0} (xs ys : List A) → xs ++ ys ≡ [] → xs ≡ []
empty_left [] ys e = refl
empty_left (x ∷ xs) ys e = absurd (cc)

pub empty_right : {A : Type 0} (xs ys : List A) → xs ++ ys ≡ [] → ys ≡ []
empty_right [] ys e = e
empty_right (x ∷ xs) ys e = absurd (cc)

pub no-items : {A : Type 0} (f : A → Holding) (xs : List A) → map f xs ≡ [] → xs ≡ []
no-items f [] e = refl
no-items f (x ∷ xs) e = absurd (cc)

-- what holds of the first of some things
abbrev pub OfFirst : (Holding → Type 0) → List Holding → Type 0
OfFirst P xs = (what : Holding) (rest : List Holding) → xs ≡ what ∷ rest → P what

pub first-all : (P : Holding → Type 0) (xs : List Holding) → AllByRecursion P xs → OfFirst P xs
first-all P [] all what rest e = absurd (cc)
first-all P (x ∷ xs) all what rest e = let first : x ≡ what = cc in subst P first all.0

pub first-both : (P : Holding → Type 0) (xs ys : List Holding) → OfFirst P xs → (xs ≡ [] → OfFirst P ys) → OfFirst P (xs ++ ys)
first-both P [] ys first next what rest e = next refl what rest e
first-both P (x ∷ xs) ys first next what rest e = let one : x ≡ what = cc in subst P one (first x xs refl)

pub first-one : (P : Holding → Type 0) (x : Holding) → P x → OfFirst P (x ∷ [])
first-one P x p what rest e = let one : x ≡ what = cc in subst P one p

-- a thread that gives something up: it is there, and isn't between a find and its return
pub record IsGiving (script : Script) (S : State) (t : ObjNo) (row : ThreadRow) : Type 0 where
  pub rows : AreRows script S
  pub is : thread_of S t ≡ Some row
  pub going : is_returning row.part ≡ false

-- what is given up of closing servers: a message to one of the thread's own, a session of one; and a handle is one, which a doomed thread gives up, as it does a use
abbrev pub IsGiven : State → ObjNo → Holding → Type 0
IsGiven S t (OfMessage m) =
    (is_some (message_of S.serving.messages m) ≡ true)
    × ((message : Message) → message_of S.serving.messages m ≡ Some message
    → (owner_of S.serving.servers message.row.server ≡ Some t)
    × (is_closing S.serving.servers message.row.server ≡ true))
IsGiven S t (OfLink s o) = is_closing S.serving.servers o ≡ true
IsGiven S t (Use o) = IsAtStage S t Doomed
IsGiven S t (Handle h o) = (is_handle h ≡ true) × IsAtStage S t Doomed
IsGiven S t _ = Unit {0}

-- a message among those of a server is one to it
message-at : (o : ObjNo) (xs : List Message) (message : Message) → Contains (filter (is_at o.0) xs) message → message.row.server.0 ≡ o.0
message-at o [] message there = absurd (none_contained message there)
message-at o (x ∷ xs) message there = by (is_at o.0 x) refl (λ z. message-at o xs z) there
  where
    by : (b : Bool) → is_at o.0 x ≡ b → ((z : Message) → Contains (filter (is_at o.0) xs) z → z.row.server.0 ≡ o.0)
        → Contains (if b then x ∷ filter (is_at o.0) xs else filter (is_at o.0) xs) message → message.row.server.0 ≡ o.0
    by false is rest there = rest message there
    by true is rest there = contains_cases (λ (z : Message). z.row.server.0 ≡ o.0) x (filter (is_at o.0) xs) message there (eqb-true x.row.server.0 o.0 is) rest

module _ (script : Script) (S : State) (t : ObjNo) (row : ThreadRow) (h : IsGiving script S t row) where
  abbrev Gives : Holding → Type 0
  Gives what = FitsDecision (kind_given what) script t S (give_up S t row what) × IsGiven S t what

  going : is_returning (part_of (thread_of S t)) ≡ false
  going = ap (λ (r : Option ThreadRow). is_returning (part_of r)) h.is ∙ h.going

  -- a message is finished
  fits-message : (m : MsgNo) → FitsDecision serving script t S (give_up S t row (OfMessage m))
  fits-message m = by (message_of S.serving.messages m) refl
    where
      by : (message : Option Message) → message_of S.serving.messages m ≡ message → FitsDecision serving script t S (finish_message S message)
      by None is = fits-nothing script S t
      by (Some message) is =
          let done = finishes script S t m message (error_code ServerTerminated) h.rows (record { thread = ap is_some h.is; going = going }) is in
          record {
            each = done.each;
            told = let few = done.told in omega arith;
            light = let few = done.light in omega arith;
            regular = regular-moves _ refl refl done.calm;
          }

  owner-of : (o : ObjNo) → 0 < times_owned S.serving.owned t o → owner_of S.serving.servers o ≡ Some t
  owner-of o some =
      let made = h.rows.serving.servers.owners t o some in
      ap (option_map (λ (row : ServerRow). row.owner)) made.is ∙ ap Some (same_object made.row.owner t made.owner)

  gives-message : (o : ObjNo) → is_closing S.serving.servers o ≡ true → 0 < times_owned S.serving.owned t o
      → (first : Message) → Contains (messages_at S.serving.messages o) first → Gives (OfMessage first.number)
  gives-message o closing owned first there = (
    fits-message first.number,
    (
      ap is_some (found_one S.serving.messages.outstanding first h.rows.serving.messages.rising
          (contains_filter (is_at o.0) S.serving.messages.outstanding first there)),
      λ message is.
          let among = contains_filter (is_at o.0) S.serving.messages.outstanding first there in
          let found : message_of S.serving.messages first.number ≡ Some first =
          found_one S.serving.messages.outstanding first h.rows.serving.messages.rising among in
          let both : Some message ≡ Some first = sym is ∙ found in
          let own : message ≡ first = cc in
          let at : message.row.server ≡ o = ap (λ (z : Message). z.row.server) own
          ∙ same_object first.row.server o (message-at o S.serving.messages.outstanding first there) in
          (ap (owner_of S.serving.servers) at ∙ owner-of o owned, ap (is_closing S.serving.servers) at ∙ closing),
    ),
  )

  all-messages : (o : ObjNo) → is_closing S.serving.servers o ≡ true → 0 < times_owned S.serving.owned t o
      → (messages : List Message)
      → ((m : Message) → Contains messages m → Contains (messages_at S.serving.messages o) m)
      → AllByRecursion Gives (map (λ (m : Message). OfMessage m.number) messages)
  all-messages o closing owned [] among = tt
  all-messages o closing owned (m ∷ ms) among = (
    gives-message o closing owned m (among m (contains_first ms m)),
    all-messages o closing owned ms (λ x there. among x (contains_behind m ms x there)),
  )

  -- a session is detached
  gives-link : (s o : ObjNo) → server_of S.serving.servers s ≡ Some o → is_closing S.serving.servers o ≡ true → Gives (OfLink s o)
  gives-link s o linked closing = (
    record {
      each = ((going, linked, tt), tt);
      told = omega arith;
      light = omega arith;
      regular = regular-moves _ refl refl (tame-at serving _ refl refl);
    },
    closing,
  )

  first-link : (o : ObjNo) (links : List ObjNo) → is_closing S.serving.servers o ≡ true
      → ((s : ObjNo) → holds s links ≡ true → server_of S.serving.servers s ≡ Some o)
      → OfFirst Gives (map (λ s. OfLink s o) links)
  first-link o [] closing linked what rest e = absurd (cc)
  first-link o (s ∷ links) closing linked what rest e =
      let one : OfLink s o ≡ what = cc in
      subst Gives one (gives-link s o (linked s (ap (λ (b : Bool). b || holds s links) (eq-eqb s.0 s.0 refl))) closing)

  -- a server of which nothing is left stops
  gives-server : (o : ObjNo) → is_closing S.serving.servers o ≡ true → messages_at S.serving.messages o ≡ []
      → linked_at S.serving.servers o ≡ [] → 0 < times_owned S.serving.owned t o → Gives (OfServer o)
  gives-server o closing finished detached owned = (
    record {
      each = (
        record { closing = closing; finished = finished; detached = detached },
        ((going, owned, tt), tt),
      );
      told = omega arith;
      light = omega arith;
      regular = regular-moves _ refl refl (tame-at serving _ refl refl);
    },
    tt,
  )

  -- the first of what is left of a server
  first-server : (o : ObjNo) → is_closing S.serving.servers o ≡ true → 0 < times_owned S.serving.owned t o → OfFirst Gives (server_holdings S o)
  first-server o closing owned =
      let messages = map (λ (m : Message). OfMessage m.number) (messages_at S.serving.messages o) in
      let links = map (λ s. OfLink s o) (linked_at S.serving.servers o) in
      first-both Gives (messages ++ links) (OfServer o ∷ [])
      (first-both Gives messages links (first-all Gives messages
      (all-messages o closing owned (messages_at S.serving.messages o) (λ m there. there)))
      (λ none. first-link o (linked_at S.serving.servers o) closing
      (λ s among. h.rows.serving.servers.linked s o among)))
      (λ none. first-one Gives (OfServer o) (gives-server o closing
      (no-items (λ (m : Message). OfMessage m.number) (messages_at S.serving.messages o)
      (empty_left messages links none)) (no-items (λ s. OfLink s o) (linked_at S.serving.servers o)
      (empty_right messages links none)) owned))

  -- and of what is left of all
  first-closing : (os : List ObjNo) → ((o : ObjNo) → 0 < total (mutex_names o) os → 0 < times_owned S.serving.owned t o) → OfFirst Gives (closing_holdings S os)
  first-closing [] owned what rest e = absurd (cc)
  first-closing (o ∷ os) owned what rest e =
      first-both Gives (if is_closing S.serving.servers o then server_holdings S o else []) (closing_holdings S os)
      (if_cases (OfFirst Gives) (is_closing S.serving.servers o) (server_holdings S o) []
      (λ closing. first-server o closing (owned o (let self = same_self o in omega arith)))
      (λ other what rest e. absurd (cc)))
      (λ none. first-closing os (λ x some. owned x (omega arith))) what rest e

  first-work : OfFirst Gives (held_servers S t)
  first-work = first-closing (owned_by S.serving.owned t) (λ o some. some)

pub fits-work : {script : Script} {S : State} {t : ObjNo} {row : ThreadRow} (what : Holding) (rest : List Holding)
    → IsGiving script S t row → held_servers S t ≡ what ∷ rest
    → FitsDecision (kind_given what) script t S (give_up S t row what) × IsGiven S t what
fits-work {script = script} {S = S} {t = t} {row = row} what rest h has = first-work script S t row h what rest has

-- where nothing is left of closing servers, and all are closing, there are none
pub none-owned : (S : State) (os : List ObjNo)
    → ((o : ObjNo) → 0 < total (mutex_names o) os → is_closing S.serving.servers o ≡ true) → closing_holdings S os ≡ []
    → os ≡ []
none-owned S [] closing e = refl
none-owned S (o ∷ os) closing e =
    by (is_closing S.serving.servers o) (closing o (let self = same_self o in omega arith))
    (empty_left (if is_closing S.serving.servers o then server_holdings S o else []) (closing_holdings S os) e)
  where
    ends : server_holdings S o ≡ [] → ⊥
    ends none = let last = empty_right (map (λ (m : Message). OfMessage m.number)
        (messages_at S.serving.messages o) ++ map (λ s. OfLink s o) (linked_at S.serving.servers o))
        (OfServer o ∷ []) none in cc

    by : (b : Bool) → b ≡ true → (if b then server_holdings S o else []) ≡ [] → o ∷ os ≡ []
    by true is none = absurd (ends none)
    by false is none = absurd (cc)
