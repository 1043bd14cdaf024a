-- What changes of owned servers, of sessions and of messages do to who holds what.
use Rattle.std.proofs.Common.{◌≡◌, inl, inr, ℕ, ◌+◌, ◌<◌, Bool, true, false, List, [], ◌∷◌, ◌++◌, length, get_or, arith, refl, sym, ap, ◌∙◌, Option, Some, None}
use Rattle.std.specs.Prelude.{◌==◌, filter, find, if◌then◌else◌, not, option_map, slice_set}
use Rattle.std.proofs.lemmas.Bool.{cases_eq, eq-eqb}
use Rattle.std.proofs.lemmas.List.{get_or-set_same, get_or-set_other}
use Rattle.sym_base.specs.declared.number.MsgNo.{MsgNo}
use Rattle.sym_base.specs.declared.number.ObjNo.{ObjNo}
use Rattle.entry_log.specs.declared.effect.Holder.{Holder}
use Rattle.entry_log.specs.declared.effect.Holder.TheVariants.{Own, Link}
use Rattle.entry_log.specs.declared.effect.Holder.TheVariants.{Message as OfMessage}
use Rattle.state_rows.specs.MessageRows.{has_number}
use Rattle.state_rows.specs.ServerChanges.{detached}
use Rattle.state_rows.specs.ServerRows.{link_of}
use Rattle.state_rows.specs.declared.messages.Message.{Message}
use Rattle.state_rows.specs.declared.servers.SessionRow.{SessionRow}
use Rattle.machine.specs.HeldIn.{message_holds, owed_by, servers_hold}
use Rattle.machine.specs.Holding.{is_holder, same_pair}
use Rattle.machine.specs.MessageMoves.{closes_of}
use Rattle.machine.specs.References.{option_names, same, session_names, total}
use Rattle.machine.specs.ServerMoves.{owned_gain, owned_lose}
use Rattle.machine.specs.Serving.{AreRising, times_owned}
use Rattle.move_laws.proofs.Lists.Mapped.{number-made}
use Rattle.move_laws.proofs.Lists.Totals.{total-append}
use Rattle.move_laws.proofs.References.Mutexes.{held-holding, held-not_holding}
use Rattle.move_laws.proofs.References.Serving.{detached_names, linked_names}
use Rattle.move_laws.proofs.References.Same.{eqb_apart, if_is, if_not, if_zero}
use Rattle.move_laws.proofs.RowLaws.Rising.{one_goes}

if_sum : (b : Bool) (x y : ℕ) → (if b then x + y else 0) ≡ (if b then x else 0) + (if b then y else 0)
if_sum true x y = refl
if_sum false x y = omega arith

-- a thread owns a server more, and one less
pub holds-owned : (owned : List (List ObjNo)) (sessions : List (Option SessionRow)) (outstanding : List Message)
    (t o : ObjNo)
    → t.0 < length owned → (g : Holder) (x : ObjNo)
    → servers_hold (owned_gain (Own t) o owned) sessions outstanding g x
    ≡ servers_hold owned sessions outstanding g x + same_pair (Own t) o g x
holds-owned owned sessions outstanding t o inside (Own u) x = held-holding owned t o u x inside
holds-owned owned sessions outstanding t o inside _ x = omega arith

pub holds-unowned : (owned : List (List ObjNo)) (sessions : List (Option SessionRow)) (outstanding : List Message)
    (t o : ObjNo)
    → t.0 < length owned → times_owned owned t o ≡ 1 → (g : Holder) (x : ObjNo)
    → servers_hold (owned_lose (Own t) o owned) sessions outstanding g x + same_pair (Own t) o g x
    ≡ servers_hold owned sessions outstanding g x
holds-unowned owned sessions outstanding t o inside once (Own u) x = held-not_holding owned t o u x inside once
holds-unowned owned sessions outstanding t o inside once _ x = omega arith

-- a session's row is made from the old one
pub holds-session : (owned : List (List ObjNo)) (sessions : List (Option SessionRow)) (outstanding : List Message)
    (s : ObjNo) (f : SessionRow → SessionRow) (g : Holder) (x : ObjNo)
    → servers_hold owned (slice_set sessions s.0 (option_map f (get_or sessions s.0 None))) outstanding g x +
    (if is_holder (Link s) g then session_names x (get_or sessions s.0 None) else 0)
    ≡ servers_hold owned sessions outstanding g x +
    (if is_holder (Link s) g then session_names x (option_map f (get_or sessions s.0 None)) else 0)
holds-session owned sessions outstanding s f (Link y) x = number-made (session_names x) (option_map f) None sessions s.0 y.0 refl
holds-session owned sessions outstanding s f _ x = omega arith

-- it is detached
pub holds-detached : (owned : List (List ObjNo)) (sessions : List (Option SessionRow)) (outstanding : List Message) (s : ObjNo) (g : Holder) (x : ObjNo)
    → servers_hold owned (slice_set sessions s.0 (option_map detached (get_or sessions s.0 None))) outstanding g x +
    (if is_holder (Link s) g then option_names x (link_of (get_or sessions s.0 None)) else 0)
    ≡ servers_hold owned sessions outstanding g x
holds-detached owned sessions outstanding s g x =
    let old = get_or sessions s.0 None in
    let a = holds-session owned sessions outstanding s detached g x in
    let b = if_zero (is_holder (Link s) g) (session_names x (option_map detached old)) (detached_names old x) in
    let c : (if is_holder (Link s) g then session_names x old else 0)
    ≡ (if is_holder (Link s) g then option_names x (link_of old) else 0) =
    ap (λ (n : ℕ). if is_holder (Link s) g then n else 0) (linked_names old x) in
    omega arith

-- an object becomes a session
pub holds-linked : (owned : List (List ObjNo)) (sessions : List (Option SessionRow)) (outstanding : List Message)
    (s o : ObjNo) (row : SessionRow)
    → s.0 < length sessions → get_or sessions s.0 None ≡ None → row.server ≡ Some o → (g : Holder) (x : ObjNo)
    → servers_hold owned (slice_set sessions s.0 (Some row)) outstanding g x ≡ servers_hold owned sessions outstanding g x + same_pair (Link s) o g x
holds-linked owned sessions outstanding s o row inside fresh linked (Link y) x =
    elim (cases_eq s.0 y.0) as (λ _. session_names x (get_or (slice_set sessions s.0 (Some row)) y.0 None)
    ≡ session_names x (get_or sessions y.0 None) + same_pair (Link s) o (Link y) x) [
      | inl at ↦
          let a = if_is (s.0 == y.0) (same o x) (eq-eqb s.0 y.0 at) in
          let b : session_names x (get_or sessions y.0 None)
          ≡ 0 = ap (λ (n : ℕ). session_names x (get_or sessions n None)) (sym at) ∙ ap (session_names x) fresh in
          let c : session_names x (get_or (slice_set sessions s.0 (Some row)) y.0 None) ≡ option_names x row.server =
          ap (λ (n : ℕ). session_names x (get_or (slice_set sessions s.0 (Some row)) n None)) (sym at)
          ∙ ap (session_names x) (get_or-set_same sessions s.0 (Some row) None inside) in
          let d : option_names x row.server ≡ same o x = ap (option_names x) linked in omega arith
      | inr apart ↦
          let a = if_not (s.0 == y.0) (same o x) (eqb_apart s.0 y.0 apart) in
          let b = ap (session_names x) (get_or-set_other sessions s.0 y.0 (Some row) None (λ e. apart (sym e))) in omega arith
    ]
holds-linked owned sessions outstanding s o row inside fresh linked _ x = omega arith

-- other messages with the same references
pub holds-same : (owned : List (List ObjNo)) (sessions : List (Option SessionRow)) (outstanding other : List Message)
    (g : Holder) (x : ObjNo)
    → ((m : MsgNo) → total (message_holds m x) other ≡ total (message_holds m x) outstanding)
    → servers_hold owned sessions other g x ≡ servers_hold owned sessions outstanding g x
holds-same owned sessions outstanding other (OfMessage m) x same = same m
holds-same owned sessions outstanding other _ x same = refl

-- a message comes: it holds its session and its client
pub holds-message : (owned : List (List ObjNo)) (sessions : List (Option SessionRow)) (outstanding : List Message) (message : Message) (g : Holder) (x : ObjNo)
    → servers_hold owned sessions (outstanding ++ message ∷ []) g x
    ≡ servers_hold owned sessions outstanding g x + same_pair
    (OfMessage message.number) message.row.session g x + same_pair (OfMessage message.number) message.row.client g x
holds-message owned sessions outstanding message (OfMessage m) x =
    let a = total-append (message_holds m x) outstanding (message ∷ []) in
    let b = if_sum (message.number.0 == m.0) (same message.row.session x) (same message.row.client x) in omega arith
holds-message owned sessions outstanding message _ x = omega arith

-- one goes, and closes of its references are owed
pub holds-finished : (owned : List (List ObjNo)) (sessions : List (Option SessionRow)) (outstanding : List Message)
    (m : MsgNo) (message : Message)
    → AreRising outstanding → find (has_number m) outstanding ≡ Some message → (g : Holder) (x : ObjNo)
    → servers_hold owned sessions (filter (λ other. not (has_number m other)) outstanding) g x + total (owed_by g x)
    (closes_of (Some message)) ≡ servers_hold owned sessions outstanding g x
holds-finished owned sessions outstanding m message rising found (OfMessage n) x =
    let a = one_goes (message_holds n x) m outstanding message rising found in
    let b = if_sum (message.number.0 == n.0) (same message.row.session x) (same message.row.client x) in omega arith
holds-finished owned sessions outstanding m message rising found _ x = omega arith
