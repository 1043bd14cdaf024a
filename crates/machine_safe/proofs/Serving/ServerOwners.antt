-- A server's handle is in the table of the thread that owns it, and nowhere else; and no thread's process is an owner of one.
use Rattle.std.proofs.Common.{Bool, List, None, Option, Some, [], ap, false, get_or, inl, inr, refl, subst, sym, true, ℕ, ◌∙◌, ◌∷◌, ◌≡◌, ◌⊎◌}
use Rattle.std.specs.Prelude.{is_some, option_map, slice_set}
use Rattle.sym_base.specs.declared.kind.Kind.{Kind}
use Rattle.sym_base.specs.declared.number.ObjNo.{ObjNo}
use Rattle.script_types.specs.declared.script.Script.{Script}
use Rattle.entry_log.specs.declared.effect.Holder.{Holder}
use Rattle.entry_log.specs.declared.effect.Holder.TheVariants.{InProcess, InThread, Link}
use Rattle.state_rows.specs.HandleSlots.{fresh_slot, slot_at}
use Rattle.state_rows.specs.ServerChanges.{after_closing, closing}
use Rattle.state_rows.specs.ServerRows.{server_at}
use Rattle.state_rows.specs.declared.duty.Owed.{Owed}
use Rattle.state_rows.specs.declared.duty.Owed.TheVariants as duty
use Rattle.state_rows.specs.declared.handle_slot.HandleSlot.{HandleSlot}
use Rattle.state_rows.specs.declared.servers.ServerRow.{ServerRow}
use Rattle.state_rows.specs.declared.servers.ServerRows.{ServerRows}
use Rattle.state_rows.specs.declared.thread.ThreadRow.{ThreadRow}
use Rattle.state_rows.proofs.SoundChanges.{set_item}
use Rattle.machine.specs.Fits.{FitsMove}
use Rattle.machine.specs.Handles.{freed_slot, taken_slot, with_slot}
use Rattle.machine.specs.Kept.{dies}
use Rattle.machine.specs.Moves.{moved, next_object, tables_gain, tables_lose, threads_closed, unlinked}
use Rattle.machine.specs.Rows.{object_of, table_of, thread_of}
use Rattle.machine.specs.ServerMoves.{all_closing, owned_by, servers_lose}
use Rattle.machine.specs.WellFormed.{AreRows}
use Rattle.machine.specs.declared.moves.Move.{Move}
use Rattle.machine.specs.declared.moves.Move.TheVariants.{Gain, Lose, Make, Pay, Servers}
use Rattle.machine.specs.declared.server_move.ServerMove.TheVariants.{Close, CloseAll, Join, Start}
use Rattle.machine.specs.declared.state.State.{State}
use Rattle.machine_safe.proofs.Deaths.Moves.{dies-move}
use Rattle.machine_safe.proofs.Deaths.Rows.{WasIn}
use Rattle.machine_safe.proofs.Serving.NoServers.{none-move, slot_made}
use Rattle.machine_safe.proofs.Serving.ObjectKinds.{AreKinds, KindsBefore, has_server, kinds-kept}
use Rattle.machine_safe.proofs.Serving.KeptRows.{next-unmade, objects-move}
use Rattle.machine_safe.proofs.Serving.Proper.{Going, IsOther, IsProper, MayHave, goes_on, makes_own, onward, resting, stepping}
use Rattle.machine_safe.proofs.Serving.ProperKept.{IsKept}
use Rattle.move_laws.proofs.Lives.NewObjects.{next_number_is}
use Rattle.move_laws.proofs.References.Same.{same_object}
use Rattle.move_laws.proofs.RowLaws.Threads.{map_some, was_row}

-- what stands at a place of a table
abbrev pub StandsIn : List HandleSlot → ℕ → ObjNo → Type 0
StandsIn table i o = (slot_at table i).object ≡ Some o

pub record AreOwn (S : State) : Type 0 where
  pub places : (k : ObjNo) (i : ℕ) (o : ObjNo) (row : ServerRow) → StandsIn (table_of S k) i o → server_at S.serving.servers o ≡ Some row → row.owner ≡ k
  pub apart : (o : ObjNo) (row : ServerRow) (k : ObjNo) (r : ThreadRow) → server_at S.serving.servers o ≡ Some row
      → thread_of S k ≡ Some r → r.process.0 ≡ row.owner.0 → ⊥

-- a server's row that was there before, with the same owner
abbrev pub ServerWas : ServerRows → ObjNo → ServerRow → Type 0
ServerWas r o row = (old : ServerRow) × (server_at r o ≡ Some old) × (old.owner ≡ row.owner)

-- places of tables that were there before
abbrev Fewer : State → State → Type 0
Fewer S T = (k : ObjNo) (i : ℕ) (o : ObjNo) → StandsIn (table_of T k) i o → StandsIn (table_of S k) i o

abbrev RowsWere : State → State → Type 0
RowsWere S T = (k : ℕ) (r : ThreadRow) → get_or T.references.threads k None ≡ Some r → WasIn S.references.threads k r

apart-after : (S T : State)
    → ((o : ObjNo) (row : ServerRow) → server_at T.serving.servers o ≡ Some row → ServerWas S.serving.servers o row)
    → RowsWere S T → AreOwn S
    → (o : ObjNo) (row : ServerRow) (k : ObjNo) (r : ThreadRow) → server_at T.serving.servers o ≡ Some row
    → thread_of T k ≡ Some r → r.process.0 ≡ row.owner.0 → ⊥
apart-after S T servers were own o row k r at is same =
    let v = servers o row at in
    let w = were k.0 r is in
    own.apart o v.0 k w.old v.1 w.was (ap (λ (x : ObjNo). x.0) w.process ∙ (same ∙ ap (λ (x : ObjNo). x.0) (sym v.2)))

own-after : (S T : State) → Fewer S T
    → ((o : ObjNo) (row : ServerRow) → server_at T.serving.servers o ≡ Some row → ServerWas S.serving.servers o row)
    → RowsWere S T → AreOwn S → AreOwn T
own-after S T fewer servers were own = record {
  places = λ k i o row stands at. let v = servers o row at in sym v.2 ∙ own.places k i o v.0 (fewer k i o stands) v.1;
  apart = apart-after S T servers were own;
}

-- a place that is taken, and one that is free again
place-taken : (tables : List (List HandleSlot)) (u : ObjNo) (j : ℕ) (x : ObjNo) (k i : ℕ) (o : ObjNo)
    → StandsIn (get_or (with_slot tables u j (taken_slot x)) k []) i o
    → StandsIn (get_or tables k []) i o ⊎ ((u.0 ≡ k) × (x ≡ o))
place-taken tables u j x k i o stands =
    set_item (λ (table : List HandleSlot). StandsIn table i o → Was) tables u.0 k
    (slice_set old j (taken_slot x (slot_at old j))) [] (λ at here. within at here) (λ here. inl here) stands
  where
    Was : Type 0
    Was = StandsIn (get_or tables k []) i o ⊎ ((u.0 ≡ k) × (x ≡ o))

    old : List HandleSlot
    old = get_or tables u.0 []

    own : k ≡ u.0 → (taken_slot x (slot_at old j)).object ≡ Some o → Was
    own at e = let same : x ≡ o = cc in inr (sym at, same)

    within : k ≡ u.0 → StandsIn (slice_set old j (taken_slot x (slot_at old j))) i o → Was
    within at here = set_item (λ (slot : HandleSlot). slot.object ≡ Some o → Was) old j i (taken_slot x (slot_at old j)) fresh_slot (λ _ e. own at e)
        (λ e. inl (ap (λ (n : ℕ). (slot_at (get_or tables n []) i).object) at ∙ e)) here

place-freed : (tables : List (List HandleSlot)) (u : ObjNo) (j k i : ℕ) (o : ObjNo)
    → StandsIn (get_or (with_slot tables u j freed_slot) k []) i o → StandsIn (get_or tables k []) i o
place-freed tables u j k i o stands =
    set_item (λ (table : List HandleSlot). StandsIn table i o → StandsIn (get_or tables k []) i o) tables u.0 k
    (slice_set old j (freed_slot (slot_at old j))) [] (λ at here. within at here) (λ here. here) stands
  where
    old : List HandleSlot
    old = get_or tables u.0 []

    within : k ≡ u.0 → StandsIn (slice_set old j (freed_slot (slot_at old j))) i o → StandsIn (get_or tables k []) i o
    within at here = set_item (λ (slot : HandleSlot). slot.object ≡ Some o → StandsIn (get_or tables k []) i o) old j i
        (freed_slot (slot_at old j)) fresh_slot (λ _ e. absurd (cc))
        (λ e. ap (λ (n : ℕ). (slot_at (get_or tables n []) i).object) at ∙ e) here

fewer-lost : (S : State) (h : Holder) (k : ObjNo) (i : ℕ) (o : ObjNo)
    → StandsIn (get_or (tables_lose h S.references.handles) k.0 []) i o → StandsIn (table_of S k) i o
fewer-lost S (InProcess p j) k i o stands = place-freed S.references.handles p j k.0 i o stands
fewer-lost S (InThread u j) k i o stands = place-freed S.references.handles u j k.0 i o stands
fewer-lost S h k i o stands = stands

-- the owner of a server stays
closing-was : (r : ServerRows) (x o : ObjNo) (row : ServerRow) → server_at (after_closing r x) o ≡ Some row → ServerWas r o row
closing-was r x o row is =
    set_item (λ (y : Option ServerRow). y ≡ Some row → ServerWas r o row) r.servers x.0 o.0
    (option_map closing (server_at r x)) None (λ at e. closed at e) (λ e. (row, e, refl)) is
  where
    closed : o.0 ≡ x.0 → option_map closing (server_at r x) ≡ Some row → ServerWas r o row
    closed at e =
        let was = map_some closing (server_at r x) row e in
        (was.0, ap (λ (n : ℕ). get_or r.servers n None) at ∙ was.1, ap (λ (z : ServerRow). z.owner) was.2)

all-closing-was : (os : List ObjNo) (r : ServerRows) (o : ObjNo) (row : ServerRow) → server_at (all_closing os r) o ≡ Some row → ServerWas r o row
all-closing-was [] r o row is = (row, is, refl)
all-closing-was (x ∷ xs) r o row is =
    let later = all-closing-was xs (after_closing r x) o row is in
    let first = closing-was r x o later.0 later.1 in
    (first.0, first.1, first.2 ∙ later.2)

lost-was : (h : Holder) (r : ServerRows) (o : ObjNo) (row : ServerRow) → server_at (servers_lose h r) o ≡ Some row → ServerWas r o row
lost-was (Link s) r o row is = (row, is, refl)
lost-was h r o row is = (row, is, refl)

-- before a move of an action, with the moves from that on: what is no server that was there stays none, and one that is made now is the thread's that
-- goes on
pub record OwnBefore (by : Going) (S : State) (ms : List Move) : Type 0 where
  pub own : AreOwn S
  pub kinds : KindsBefore by S ms
  pub first : AreKinds by.1
  pub stays : (o : ObjNo) → is_some (object_of by.1 o) ≡ true → is_some (object_of S o) ≡ true
  pub older : (o : ObjNo) → is_some (object_of by.1 o) ≡ true → has_server by.1 o ≡ false → has_server S o ≡ false
  pub newer : (o : ObjNo) (row : ServerRow) → server_at S.serving.servers o ≡ Some row → object_of by.1 o ≡ None → goes_on by ≡ Some row.owner

-- what is no server isn't one now
other-unserved : (by : Going) (S : State) (ms : List Move) (o : ObjNo) (row : ServerRow) → OwnBefore by S ms
    → IsOther by.1 o → server_at S.serving.servers o ≡ Some row → ⊥
other-unserved by S ms o row q other at =
    let none = q.older o (ap is_some other.1) (q.first.servers o other.0 other.1 ∙ other.2) in
    let some = ap is_some at in cc

-- whose place a server gets
had-own : (by : Going) (S : State) (ms : List Move) (h : Holder) (o : ObjNo) (k : ObjNo) (row : ServerRow)
    → OwnBefore by S ms → MayHave by h o → server_at S.serving.servers o ≡ Some row → (u : ObjNo) (j : ℕ)
    → (h ≡ InProcess u j) ⊎ (h ≡ InThread u j) → u.0 ≡ k.0 → row.owner ≡ k
had-own by S ms (InProcess p i) o k row q other at u j is same = absurd (other-unserved by S ms o row q other.0 at)
had-own by S ms (InThread v i) o k row q may at u j is same = elim may as (λ _. row.owner ≡ k) [
  | inl other ↦ absurd (other-unserved by S ms o row q other at)
  | inr made ↦
      let none = (next_number_is by.1.mode.reuse by.1.references.objects).1 in
      let going = q.newer o row at (ap (λ (n : ℕ). get_or by.1.references.objects n None) made.0 ∙ none) in
      let owner : row.owner ≡ v = (let on = made.1 in cc) in
      elim is as (λ _. row.owner ≡ k) [
        | inl other ↦ absurd (cc)
        | inr own ↦ let place : v ≡ u = cc in owner ∙ (place ∙ same_object u k same)
      ]
]
had-own by S ms h o k row q may at u j is same = elim is as (λ _. row.owner ≡ k) [
  | inl other ↦ absurd (cc)
  | inr other ↦ absurd (cc)
]

module _ (script : Script) (by : Going) (S : State) (t : ObjNo) (rows : AreRows script S) where
  abbrev Were : Move → Type 0
  Were m = (k : ℕ) (r : ThreadRow) → get_or (moved t m S).references.threads k None ≡ Some r → WasIn S.references.threads k r

  were : (m : Move) → FitsMove script t m S → Were m
  were m fits = (dies-move script S t m rows fits).were

  -- a place that a table gets
  places-gain : (ms : List Move) (h : Holder) (o : ObjNo) → OwnBefore by S ms
      → ((k : ObjNo) (row : ServerRow) → server_at S.serving.servers o ≡ Some row → (u : ObjNo) (j : ℕ)
      → (h ≡ InProcess u j) ⊎ (h ≡ InThread u j) → u.0 ≡ k.0 → row.owner ≡ k)
      → (k : ObjNo) (i : ℕ) (x : ObjNo) (row : ServerRow)
      → StandsIn (get_or (tables_gain h o S.references.handles) k.0 []) i x → server_at S.serving.servers x ≡ Some row
      → row.owner ≡ k
  places-gain ms (InProcess p j) o q has k i x row stands at = elim (place-taken S.references.handles p j o k.0 i x stands) as (λ _. row.owner ≡ k) [
    | inl was ↦ q.own.places k i x row was at
    | inr new ↦ has k row (ap (server_at S.serving.servers) new.1 ∙ at) p j (inl refl) new.0
  ]
  places-gain ms (InThread u j) o q has k i x row stands at = elim (place-taken S.references.handles u j o k.0 i x stands) as (λ _. row.owner ≡ k) [
    | inl was ↦ q.own.places k i x row was at
    | inr new ↦ has k row (ap (server_at S.serving.servers) new.1 ∙ at) u j (inr refl) new.0
  ]
  places-gain ms h o q has k i x row stands at = q.own.places k i x row stands at

  -- what is made by a handle is no server
  made-own : (k : Kind) (name : List ℕ) (h : Holder) (ms : List Move) → OwnBefore by S (Make k name h ∷ ms)
      → (v : ObjNo) (row : ServerRow) → server_at S.serving.servers (next_object S) ≡ Some row → (u : ObjNo) (j : ℕ)
      → (h ≡ InProcess u j) ⊎ (h ≡ InThread u j) → u.0 ≡ v.0 → row.owner ≡ v
  made-own k name h ms q v row at u j is same = elim q.kinds.next as (λ _. row.owner ≡ v) [
    | inl none ↦ let some = ap is_some at in absurd (cc)
    | inr owns ↦ elim is as (λ _. row.owner ≡ v) [
      | inl place ↦
          let other : makes_own (Make k name (InProcess u j) ∷ ms) ≡ true =
          ap (λ (g : Holder). makes_own (Make k name g ∷ ms)) (sym place) ∙ owns in
          absurd (cc)
      | inr place ↦
          let other : makes_own (Make k name (InThread u j) ∷ ms) ≡ true =
          ap (λ (g : Holder). makes_own (Make k name g ∷ ms)) (sym place) ∙ owns in
          absurd (cc)
    ]
  ]

  -- a server that is made
  started-was : (o u : ObjNo) (x : ObjNo) (row : ServerRow) → (x.0 ≡ o.0 → ⊥)
      → server_at (moved t (Servers (Start o u)) S).serving.servers x ≡ Some row
      → server_at S.serving.servers x ≡ Some row
  started-was o u x row apart is =
      set_item (λ (y : Option ServerRow). y ≡ Some row → server_at S.serving.servers x ≡ Some row)
      S.serving.servers.servers o.0 x.0 (Some (record { owner = u; is_closing = false })) None
      (λ at e. absurd (apart at)) (λ e. e) is

  started-owner : (o u : ObjNo) (x : ObjNo) (row : ServerRow)
      → server_at (moved t (Servers (Start o u)) S).serving.servers x ≡ Some row
      → (server_at S.serving.servers x ≡ Some row) ⊎ ((x.0 ≡ o.0) × (row.owner ≡ u))
  started-owner o u x row is =
      set_item (λ (y : Option ServerRow). y ≡ Some row → (server_at S.serving.servers x ≡ Some row)
      ⊎ ((x.0 ≡ o.0) × (row.owner ≡ u))) S.serving.servers.servers o.0 x.0
      (Some (record { owner = u; is_closing = false })) None
      (λ at e. let same : record { owner = u; is_closing = false } ≡ row = cc in inr (at, ap (λ (z : ServerRow). z.owner) (sym same))) (λ e. inl e) is

  own-started : (o u : ObjNo) → FitsMove script t (Servers (Start o u)) S → AreOwn S → AreOwn (moved t (Servers (Start o u)) S)
  own-started o u fits own = record {
    places = λ k i x row stands at.
        let made = slot_made script S k i x rows stands in
        let number = ap (λ (z : ObjNo). z.0) fits.next in
        own.places k i x row stands (started-was o u x row (λ same.
        next-unmade S (ap (λ (n : ℕ). is_some (get_or S.references.objects n None)) (sym (same ∙ number)) ∙ made)) at);
    apart = λ x row k r at is same. elim (started-owner o u x row at) as (λ _. ⊥) [
      | inl was ↦ own.apart x row k r was is same
      | inr new ↦
          let none = rows.references.threads.processes k.0 r is in
          let owner = fits.owner in
          let place : r.process.0 ≡ u.0 = same ∙ ap (λ (z : ObjNo). z.0) new.1 in
          let gone : Some owner.row ≡ None = sym owner.is ∙ (ap (λ (n : ℕ). get_or S.references.threads n None) (sym place) ∙ none) in cc
    ];
  }

  joined-was : (s o : ObjNo) (x : ObjNo) (row : ServerRow)
      → get_or (slice_set S.serving.servers.servers s.0 None) x.0 None ≡ Some row → ServerWas S.serving.servers x row
  joined-was s o x row is =
      set_item (λ (y : Option ServerRow). y ≡ Some row → ServerWas S.serving.servers x row) S.serving.servers.servers
      s.0 x.0 None None (λ at e. absurd (cc)) (λ e. (row, e, refl)) is

  -- each move leaves it so
  own-move : (m : Move) (ms : List Move) → FitsMove script t m S → IsProper script by m ms → OwnBefore by S (m ∷ ms) → AreOwn (moved t m S)
  own-move (Make k name h) ms fits proper q = record {
    places = places-gain (Make k name h ∷ ms) h (next_object S) q (made-own k name h ms q);
    apart = apart-after S (moved t (Make k name h) S) (λ x row is. (row, is, refl)) (were (Make k name h) fits) q.own;
  }
  own-move (Gain h o) ms fits proper q = record {
    places = places-gain (Gain h o ∷ ms) h o q (λ k row at u j is same. had-own by S (Gain h o ∷ ms) h o k row q proper at u j is same);
    apart = apart-after S (moved t (Gain h o) S) (λ x row is. (row, is, refl)) (were (Gain h o) fits) q.own;
  }
  own-move (Lose h o) ms fits proper q =
      own-after S (moved t (Lose h o) S) (fewer-lost S h) (λ x row is. lost-was h S.serving.servers x row is)
      (were (Lose h o) fits) q.own
  own-move (Servers (Start o u)) ms fits proper q = own-started o u fits q.own
  own-move (Servers (Join s o slots u)) ms fits proper q =
      own-after S (moved t (Servers (Join s o slots u)) S) (λ k i x stands. stands)
      (λ x row is. joined-was s o x row is) (were (Servers (Join s o slots u)) fits) q.own
  own-move (Servers (Close o)) ms fits proper q =
      own-after S (moved t (Servers (Close o)) S) (λ k i x stands. stands)
      (λ x row is. closing-was S.serving.servers o x row is) (were (Servers (Close o)) fits) q.own
  own-move (Servers (CloseAll u)) ms fits proper q =
      own-after S (moved t (Servers (CloseAll u)) S) (λ k i x stands. stands)
      (λ x row is. all-closing-was (owned_by S.serving.owned u) S.serving.servers x row is)
      (were (Servers (CloseAll u)) fits) q.own
  own-move (Pay what) ms fits proper q = absurd fits
  own-move m ms fits proper q = own-after S (moved t m S) (λ k i x stands. stands) (λ x row is. (row, is, refl)) (were m fits) q.own

  -- who owns what is made now
  new-move : (m : Move) (ms : List Move) → FitsMove script t m S → IsProper script by m ms → OwnBefore by S (m ∷ ms)
      → (o : ObjNo) (row : ServerRow) → server_at (moved t m S).serving.servers o ≡ Some row
      → object_of by.1 o ≡ None → goes_on by ≡ Some row.owner
  new-move (Lose h x) ms fits proper q o row is past = let was = lost-was h S.serving.servers o row is in q.newer o was.0 was.1 past ∙ ap Some was.2
  new-move (Servers (Start x u)) ms fits proper q o row is past = elim (started-owner x u o row is) as (λ _. goes_on by ≡ Some row.owner) [
    | inl was ↦ q.newer o row was past
    | inr new ↦ proper.2 ∙ ap Some (sym new.1)
  ]
  new-move (Servers (Join s x slots u)) ms fits proper q o row is past = let was = joined-was s x o row is in q.newer o was.0 was.1 past ∙ ap Some was.2
  new-move (Servers (Close x)) ms fits proper q o row is past = let was = closing-was S.serving.servers x o row is in q.newer o was.0 was.1 past ∙ ap Some was.2
  new-move (Servers (CloseAll u)) ms fits proper q o row is past =
      let was = all-closing-was (owned_by S.serving.owned u) S.serving.servers o row is in
      q.newer o was.0 was.1 past ∙ ap Some was.2
  new-move (Pay what) ms fits proper q o row is past = absurd fits
  new-move m ms fits proper q o row is past = q.newer o row is past

  pub before-move : (m : Move) (ms : List Move) → FitsMove script t m S → IsProper script by m ms
      → OwnBefore by S (m ∷ ms) → OwnBefore (onward by m) (moved t m S) ms
  before-move m ms fits proper q =
      record {
        own = own-move m ms fits proper q;
        kinds = (kinds-kept script).moves by S t m ms rows fits proper q.kinds;
        first = q.first;
        stays = λ o there. objects-move script S t m fits o (q.stays o there);
        older = λ o there none. none-move script S t m fits o (q.stays o there) (q.older o there none);
        newer = λ o row is past. new-move m ms fits proper q o row is past;
      }

-- what is owed is paid
paid-row : (S : State) (t : ObjNo) (what : Owed) (k : ℕ) (r : ThreadRow)
    → get_or (moved t (Pay what) S).references.threads k None ≡ Some r → WasIn S.references.threads k r
paid-row S t (duty.Close h o) k r is = by (dies S o) is
  where
    by : (last : Bool) → get_or (threads_closed last o S.references.threads) k None ≡ Some r → WasIn S.references.threads k r
    by true e = was_row S.references.threads o unlinked (WasIn S.references.threads)
        (λ old was. record { old = old; was = was; process = refl })
        (λ j row at. record { old = row; was = at; process = refl }) k r e
    by false e = record { old = r; was = e; process = refl }
paid-row S t (duty.Sweep o) k r is =
    set_item (λ (y : Option ThreadRow). y ≡ Some r → WasIn S.references.threads k r) S.references.threads o.0 k None
    None (λ at e. absurd (cc)) (λ e. record { old = r; was = e; process = refl }) is

own-paid : (S : State) (t : ObjNo) (what : Owed) → AreOwn S → AreOwn (moved t (Pay what) S)
own-paid S t (duty.Close h o) own =
    own-after S (moved t (Pay (duty.Close h o)) S) (λ k i x stands. stands) (λ x row is. (row, is, refl))
    (paid-row S t (duty.Close h o)) own
own-paid S t (duty.Sweep o) own =
    own-after S (moved t (Pay (duty.Sweep o)) S) (λ k i x stands. stands)
    (λ x row is. set_item (λ (y : Option ServerRow). y ≡ Some row → ServerWas S.serving.servers x row) S.serving.servers.servers
    o.0 x.0 None None (λ at e. absurd (cc)) (λ e. (row, e, refl)) is)
    (paid-row S t (duty.Sweep o)) own

pub before-all : (by : Going) (S : State) (ms : List Move) → by.1 ≡ S → KindsBefore by S ms → AreKinds S → AreOwn S → OwnBefore by S ms
before-all by S ms from kinds first own = record {
  own = own;
  kinds = kinds;
  first = subst AreKinds (sym from) first;
  stays = λ o there. ap (λ (z : State). is_some (object_of z o)) (sym from) ∙ there;
  older = λ o there none. ap (λ (z : State). has_server z o) (sym from) ∙ none;
  newer = λ o row is past.
      let none = first.unmade o (ap (λ (z : State). object_of z o) (sym from) ∙ past) in
      let some = ap is_some is in absurd (cc);
}

abbrev pub Owned : State → Type 0
Owned S = AreOwn S × AreKinds S

pub own-kept : (script : Script) → IsKept script Owned OwnBefore
own-kept script = record {
  begins = λ S t ms p. before-all (stepping S t) S ms refl ((kinds-kept script).begins S t ms p.1) p.1 p.0;
  rests = λ S ms p. before-all (resting S) S ms refl ((kinds-kept script).rests S ms p.1) p.1 p.0;
  ends = λ by S q. (q.own, (kinds-kept script).ends by S q.kinds);
  moves = λ by S t m ms rows fits proper q. before-move script by S t rows m ms fits proper q;
  pays = λ S t what rows p. (own-paid S t what p.0, (kinds-kept script).pays S t what rows p.1);
}
