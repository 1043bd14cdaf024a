-- What no step lacks: what it uses, the session that its handle names, and the call that it names.
use Rattle.entry_log.specs.declared.step.Part.{Part}
use Rattle.entry_log.specs.declared.step.Part.TheVariants as part
use Rattle.machine.specs.Rows.{object_of}
use Rattle.machine.specs.WellFormed.{AreRows, IsAlive}
use Rattle.machine_laws.proofs.Fitting.LiveObjects.{use_is_alive}
use Rattle.machine_safe.proofs.Serving.Course.{IsMet, asks, kind_used, locks_at, logs_at, makes_at, sets_status, takes_at, wants_at}
use Rattle.machine_safe.proofs.Serving.ObjectKinds.{AreKinds}
use Rattle.machine_safe.proofs.Serving.AskedMet.{MetAt, asked, met-of}
use Rattle.machine_safe.proofs.Serving.Proper.{is_kind, message_awaited}
use Rattle.state_rows.specs.MessageChanges.{next_of}
use Rattle.state_rows.specs.declared.thread.Waiting.TheVariants as waiting
use Rattle.state_rows.specs.Nano.{want_of}
use Rattle.state_rows.specs.Requests.{is_pending}
use Rattle.state_rows.specs.ServerRows.{server_at}
use Rattle.state_rows.specs.declared.object.ObjectRow.{ObjectRow}
use Rattle.state_rows.specs.declared.servers.ServerRow.{ServerRow}
use Rattle.std.proofs.lemmas.Bool.{eqb-true}
use Rattle.sym_base.specs.KindNumber.{kind_number}
use Rattle.sym_base.specs.declared.kind.Kind.{Kind}
use Rattle.sym_base.specs.declared.kind.Kind.TheVariants as kind
use Rattle.machine.specs.Rows.{table_of, thread_of}
use Rattle.machine.specs.SessionCalls.{session_made}
use Rattle.machine_safe.proofs.Serving.Connecting.{KeepHandles, KeepsHandle, keeps_handle}
use Rattle.state_rows.specs.HandleNumbers.{is_local}
use Rattle.state_rows.specs.HandleSlots.{look}
use Rattle.machine.specs.Task.{instruction}
use Rattle.machine.specs.declared.state.State.{State}
use Rattle.machine_safe.proofs.Serving.Course.{call_name, needs_use}
use Rattle.machine_safe.proofs.Serving.LaterSteps.{Facts}
use Rattle.machine_safe.proofs.Serving.FoundUses.{UsesOne}
use Rattle.move_laws.proofs.Numbers.Registers.{has_names}
use Rattle.script_types.specs.Shape.{IsShaped}
use Rattle.script_types.specs.declared.declaration.DfcDecl.{DfcDecl}
use Rattle.script_types.specs.declared.instruction.Instr.{Instr}
use Rattle.script_types.specs.declared.instruction.Instr.TheVariants as instr
use Rattle.script_types.specs.declared.script.Script.{Script}
use Rattle.state_rows.specs.DeclaredCalls.{dfc_named}
use Rattle.state_rows.specs.declared.thread.Stage.TheVariants.{Live}
use Rattle.state_rows.specs.declared.thread.ThreadRow.{ThreadRow}
use Rattle.std.proofs.Common.{Bool, List, None, Option, Some, [], ap, arith, sym, false, inl, inr, length, lt-ltb, refl, true, ℕ, ◌+◌, ◌<◌, ◌∙◌, ◌∷◌, ◌≡◌, not}
use Rattle.std.specs.List.{list_any, position_or_len}
use Rattle.std.specs.Prelude.{bytes_eq, if◌then◌else◌, is_some, nat_lt, position, ◌||◌}
use Rattle.sym_base.specs.declared.number.ObjNo.{ObjNo}

-- the object that a step uses is there
pub unused-never : (script : Script) (S : State) → Facts script needs_use UsesOne S
    → (t : ObjNo) (old : ThreadRow) (i : Instr) → thread_of S t ≡ Some old → old.stage ≡ Live
    → instruction script old ≡ Some i → needs_use (Some i) old.part ≡ true → old.uses ≡ None → ⊥
unused-never script S used t old i is live at needs none =
    let some = used t old is live (ap (λ (x : Option Instr). needs_use x old.part) at ∙ needs) in
    let gone = ap is_some none in cc

-- the session that a `connect` made is there as long as its handle is kept
pub unkept-never : (script : Script) (S : State) → KeepHandles script S → (t : ObjNo) (old : ThreadRow) (i : Instr)
    → thread_of S t ≡ Some old → old.stage ≡ Live → instruction script old ≡ Some i
    → keeps_handle (Some i) old.part ≡ true → session_made S t old ≡ None → ⊥
unkept-never script S kept t old i is live at keeps none = by (is_local old.found) has.own none
  where
    has : KeepsHandle S t old
    has = kept t old is live (ap (λ (x : Option Instr). keeps_handle x old.part) at ∙ keeps)

    by : (b : Bool) → b ≡ true → look b (table_of S (if b then t else old.process)) old.found ≡ None → ⊥
    by true e none = let some = has.there in let gone = ap is_some none in cc
    by false e none = cc

-- what is in a list is at a place of it
inside : {A : Type 0} (f : A → Bool) (xs : List A) → list_any f xs ≡ true → position_or_len f xs < length xs
inside f [] e = absurd (cc)
inside f (x ∷ xs) e = by (f x) (λ some. inside f xs some) e
  where
    by : (b : Bool) → (list_any f xs ≡ true → position_or_len f xs < length xs) → (b || list_any f xs) ≡ true
        → (if not b then 1 + position_or_len f xs else 0) < length (x ∷ xs)
    by true rest e = omega arith
    by false rest e = let within = rest e in omega arith

placed : {A : Type 0} (f : A → Bool) (xs : List A) → list_any f xs ≡ true → position f xs ≡ None → ⊥
placed f xs some none = by (nat_lt (position_or_len f xs) (length xs)) (lt-ltb (position_or_len f xs) (length xs) (inside f xs some)) none
  where
    by : (b : Bool) → b ≡ true → (if b then Some (position_or_len f xs) else None) ≡ None → ⊥
    by true e none = cc
    by false e none = cc

-- the call that an instruction queues is declared
pub unnamed-never : (script : Script) (old : ThreadRow) (i : Instr) (name : List ℕ) → IsShaped script
    → instruction script old ≡ Some i → call_name i ≡ Some name → dfc_named script name ≡ None → ⊥
unnamed-never script old (instr.Queue word) name shaped at names none =
    let same : word ≡ name = cc in
    placed (λ (d : DfcDecl). bytes_eq word d.name) script.dfcs (has_names script old (instr.Queue word) shaped at) (ap (dfc_named script) same ∙ none)
unnamed-never script old i name shaped at names none = cc

-- what a step asks is there
asks-setting : (i : Instr) (p : Option Part) (s : ℕ) → sets_status i p ≡ Some s → asks i p ≡ true
asks-setting (instr.Send x function y args) (Some part.Do) s e = refl
asks-setting (instr.Logon x y) (Some part.Do) s e = refl
asks-setting i p s e = absurd (cc)

asks-logging : (i : Instr) (p : Option Part) → logs_at i p ≡ true → (asks i p ≡ true) × (kind_used i p ≡ Some kind.Thread)
asks-logging (instr.Logon x s) (Some part.Do) e = (refl, refl)
asks-logging i p e = absurd (cc)

asks-locking : (i : Instr) (p : Option Part) → locks_at i p ≡ true → (asks i p ≡ true) × (kind_used i p ≡ Some kind.Mutex)
asks-locking (instr.Lock x) (Some part.Do) e = (refl, refl)
asks-locking i p e = absurd (cc)

asks-making : (i : Instr) (p : Option Part) → makes_at i p ≡ true → (asks i p ≡ true) × (kind_used i p ≡ Some kind.Server)
asks-making (instr.Connect name slots x) (Some part.Make) e = (refl, refl)
asks-making i p e = absurd (cc)

asks-wanting : (i : Instr) (p : Option Part) → wants_at i p ≡ true → asks i p ≡ true
asks-wanting (instr.Flock f) (Some part.Done) e = refl
asks-wanting i p e = absurd (cc)

asks-taking : (i : Instr) (p : Option Part) → takes_at i p ≡ true → asks i p ≡ true
asks-taking (instr.Receive x y) (Some part.Done) e = refl
asks-taking i p e = absurd (cc)

module _ (script : Script) (S : State) (rows : AreRows script S) (kinds : AreKinds S)
    (has : Facts script asked (MetAt script) S) (t : ObjNo) (old : ThreadRow) (i : Instr) (is : thread_of S t ≡ Some old)
    (live : old.stage ≡ Live) (at : instruction script old ≡ Some i) where
  met : IsMet S t old i old.part
  met = met-of script S has t old i is live at

  -- the status that it sets isn't pending
  pub pending-never : (s : ℕ) → sets_status i old.part ≡ Some s → is_pending S.synchronization.requests t s ≡ true → ⊥
  pending-never s sets pends = let done = ((met (asks-setting i old.part s sets)).unset s sets).done in cc

  -- it wants a fast mutex
  pub unwanted-never : wants_at i old.part ≡ true → want_of S.synchronization.nano t ≡ None → ⊥
  unwanted-never wants none = let some = (met (asks-wanting i old.part wants)).wanted wants in let gone = ap is_some none in cc

  -- what it uses is there, and of its kind
  used-row : (k : Kind) (o : ObjNo) → asks i old.part ≡ true → kind_used i old.part ≡ Some k → old.uses ≡ Some o
      → (row : ObjectRow) × (object_of S o ≡ Some row) × (is_kind k row.kind ≡ true)
  used-row k o asked used uses = by (object_of S o) refl (use_is_alive S t old o rows.lives is uses)
    where
      by : (x : Option ObjectRow) → object_of S o ≡ x → IsAlive x → (row : ObjectRow) × (object_of S o ≡ Some row) × (is_kind k row.kind ≡ true)
      by None e alive = absurd alive
      by (Some row) e alive = (row, e, ((met asked).used k o used uses).kind row e)

  pub rowless-never : (u : ObjNo) → logs_at i old.part ≡ true → old.uses ≡ Some u → thread_of S u ≡ None → ⊥
  rowless-never u logs uses none =
      let asks_so = asks-logging i old.part logs in
      let row = used-row kind.Thread u asks_so.0 asks_so.1 uses in
      let some = kinds.threads u row.0 row.1 row.2 in
      let gone = ap is_some none in cc

  pub served-never : (o : ObjNo) (server : ServerRow) → locks_at i old.part ≡ true → old.uses ≡ Some o → server_at S.serving.servers o ≡ Some server → ⊥
  served-never o server locks uses there =
      let asks_so = asks-locking i old.part locks in
      let row = used-row kind.Mutex o asks_so.0 asks_so.1 uses in
      let is_server : is_kind kind.Server row.0.kind ≡ true = sym (kinds.servers o row.0 row.1) ∙ ap is_some there in
      let mutex = eqb-true (kind_number row.0.kind) (kind_number kind.Mutex) row.2 in
      let server_number = eqb-true (kind_number row.0.kind) (kind_number kind.Server) is_server in
      absurd (omega arith)

  pub serverless-never : (o : ObjNo) → makes_at i old.part ≡ true → old.uses ≡ Some o → server_at S.serving.servers o ≡ None → ⊥
  serverless-never o makes uses none =
      let asks_so = asks-making i old.part makes in
      let row = used-row kind.Server o asks_so.0 asks_so.1 uses in
      let some : is_some (server_at S.serving.servers o) ≡ true = kinds.servers o row.0 row.1 ∙ row.2 in
      let gone = ap is_some none in cc

  -- the message for which its thread waited is there, once it waits no longer
  pub empty-never : (o : ObjNo) → takes_at i old.part ≡ true → old.uses ≡ Some o → old.waiting ≡ waiting.Nothing → next_of S.serving.messages o ≡ None → ⊥
  empty-never o takes uses awake none = elim ((met (asks-taking i old.part takes)).came o takes uses) as (λ _. ⊥) [
    | inl waits ↦ let nothing = ap message_awaited awake in cc
    | inr there ↦ let some = there.0 in let gone = ap is_some none in cc
  ]
