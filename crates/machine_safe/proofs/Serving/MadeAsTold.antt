-- A server that is made, and a session that joins one: they are as what is told says.
use Rattle.sym_base.specs.declared.kind.Kind.TheVariants as kind
use Rattle.entry_log.specs.declared.effect.Effect.{Effect}
use Rattle.entry_log.specs.declared.effect.Effect.TheVariants.{Plus}
use Rattle.entry_log.specs.declared.effect.Holder.TheVariants.{Link, Own}
use Rattle.entry_log.specs.declared.step.Step.{Step}
use Rattle.machine.specs.FitsServers.{MayJoinServer, MayStartServer}
use Rattle.machine.specs.Moves.{moved, new_object, next_object}
use Rattle.machine.specs.Rows.{object_of}
use Rattle.machine.specs.Serving.{times_owned}
use Rattle.machine.specs.WellFormed.{AreRows, IsAlive}
use Rattle.machine.specs.declared.moves.Move.TheVariants.{Make, Servers}
use Rattle.machine.specs.declared.server_move.ServerMove.TheVariants.{Join, Start}
use Rattle.machine.specs.declared.state.State.{State}
use Rattle.machine_safe.proofs.Serving.EffectSums.{server_told-append}
use Rattle.machine_safe.proofs.Serving.KeptRows.{next-unmade, objects-made}
use Rattle.machine_safe.proofs.Serving.ServerReading.{Reading, closing_by, ends_by, further, is_over_by, joined-none, joined_by, made-none, made_by, owner-on, remade-on, remade_then}
use Rattle.machine_safe.proofs.Serving.ServersAsTold.{IsServed, Served, closing-count, closings-on, closings_by, ends-on, over-on}
use Rattle.machine_safe.specs.SafeDeaths.{dooms}
use Rattle.machine_safe.specs.Served.{ends, handles_lost, makes_session, one_if, or_before, server_told}
use Rattle.move_laws.proofs.Lives.Bits.{alive_there, there_inside}
use Rattle.move_laws.proofs.Lives.Fresh.{next_fresh}
use Rattle.move_laws.proofs.Lives.NewObjects.{made-own, made-other as new-other, next_number_is}
use Rattle.move_laws.proofs.References.Mutexes.{held-holding}
use Rattle.move_laws.proofs.References.Same.{eqb_apart, if_is, if_not, if_zero}
use Rattle.script_types.specs.declared.script.Script.{Script}
use Rattle.state_rows.proofs.SoundChanges.{set_item}
use Rattle.state_rows.specs.ServerChanges.{new_session}
use Rattle.state_rows.specs.ServerRows.{link_of, server_at, server_of, session_at}
use Rattle.state_rows.specs.declared.servers.ServerRow.{ServerRow}
use Rattle.state_rows.specs.declared.servers.SessionRow.{SessionRow}
use Rattle.std.proofs.Common.{Bool, List, None, Option, Some, [], ap, arith, false, get_or, get_or-set_other, get_or-set_same, inl, inr, length, refl, subst, sym, true, ℕ, ◌++◌, ◌+◌, ◌<◌, ◌∙◌, ◌∷◌, ◌≡◌, ◌≤◌, ◌⊎◌}
use Rattle.std.proofs.lemmas.Bool.{cases_eq, eq-eqb}
use Rattle.std.specs.Prelude.{if◌then◌else◌, is_some, nat_lt, ◌==◌, ◌||◌}
use Rattle.sym_base.specs.declared.kind.Slots.{Slots}
use Rattle.sym_base.specs.declared.number.ObjNo.{ObjNo}
use Rattle.machine.specs.References.{same}
use Rattle.machine.specs.EntryWords.{makes_server}

module _ (script : Script) (r : Reading) (S : State) (t : ObjNo) (done : Step) (h : Served script r S) (rows : AreRows script S) where
  -- a server is made and owned
  abbrev started : State
  started = moved t (Servers (Start (next_object S) t)) S

  abbrev made : List ℕ → State
  made name = moved t (Make kind.Server name (Own t)) started

  abbrev new_server : ServerRow
  new_server = record { owner = t; is_closing = false }

  pub served-made_server : (name : List ℕ) → MayStartServer S (next_object S) t → t.0 < length S.serving.owned
      → makes_server done ≡ true
      → Served script (further r done (Plus (Own t) (next_object S) ∷ []) (λ k. 0)) (made name)
  served-made_server name may inside makes = record {
    rows = λ o row is. elim (cases_eq o.0 (next_object S).0) as (λ _. IsServed told (made name) o row) [
      | inl at ↦ own_row o row at is
      | inr apart ↦ old_row o row apart (sym (get_or-set_other S.serving.servers.servers (next_object S).0 o.0 (Some new_server) None apart) ∙ is)
    ];
    links = λ s o is. server_told-append r.effects fs s ∙ h.links s o (link-kept s o is);
    same = λ s o is.
        let was = link-kept s o is in
        remade-on r done fs (λ k. 0) s o (unmade_by o (linked-apart s o was)) (joined-none done fs s refl) ∙ h.same s o was;
    ended = λ o row is some. elim (cases_eq o.0 (next_object S).0) as (λ _. row.is_closing ≡ true) [
      | inl at ↦ let none = none_ended o (sym at) in absurd (omega arith)
      | inr apart ↦
          let a = same_ends o (λ at. apart (sym at)) in
          h.ended o row (sym (get_or-set_other S.serving.servers.servers (next_object S).0 o.0 (Some new_server) None apart) ∙ is) (omega arith)
    ];
    over = λ u o some. elim (cases_eq (next_object S).0 o.0) as (λ _. times_owned (made name).serving.owned u o ≡ 0) [
      | inl at ↦ let none = none_ended o at in absurd (omega arith)
      | inr apart ↦
          let a = same_ends o apart in
          let count = held-holding S.serving.owned t (next_object S) u o inside in
          let none : same (next_object S) o ≡ 0 = if_not ((next_object S).0 == o.0) 1 (eqb_apart (next_object S).0 o.0 apart) in
          let zero = if_zero (t.0 == u.0) (same (next_object S) o) none in
          let old = h.over u o (omega arith) in omega arith
    ];
    made = λ u o is. elim (cases_eq (next_object S).0 o.0) as (λ _. (0 < times_owned (made name).serving.owned u o) ⊎ (0 < ends_by told o)) [
      | inl at ↦
          let now : told.owner o ≡ Some t = owner_here o at in
          let both : Some u ≡ Some t = sym is ∙ now in
          let own : u ≡ t = cc in
          inl (subst (λ (x : ObjNo). 0 < times_owned (made name).serving.owned x o) (sym own) (let own_count = owns_new o at in omega arith))
      | inr apart ↦ elim (h.made u o (sym (owner_other o apart) ∙ is)) as (λ _. (0 < times_owned (made name).serving.owned u o) ⊎ (0 < ends_by told o)) [
        | inl owned ↦ inl (let more = held-holding S.serving.owned t (next_object S) u o inside in omega arith)
        | inr over ↦ inr (let a = same_ends o apart in omega arith)
      ]
    ];
    places = λ k row is. let old = h.places k row is in record { first = old.first; is = old.is; role = old.role; place = let a = old.place in omega arith };
    told_linked = λ s v row is there alive.
        let was : server_told r.effects s ≡ Some v = sym (server_told-append r.effects fs s) ∙ is in
        let old = session-kept s row there in
        let living = subst IsAlive (new-other S.references.objects (next_object S).0 s.0 (new_object kind.Server name S.references.made)
        (next_number_is S.mode.reuse S.references.objects).0 (session-apart s row old)) alive in
        elim (h.told_linked s v row was old living) as
        (λ _. (server_of (made name).serving.servers s ≡ Some v) ⊎ (is_over_by told s v ≡ true)) [
          | inl linked ↦ inl (ap link_of there ∙ (sym (ap link_of old) ∙ linked))
          | inr over ↦ inr (still-over s v over)
        ];
  }
    where
      fs : List Effect
      fs = Plus (Own t) (next_object S) ∷ []

      told : Reading
      told = further r done fs (λ k. 0)

      -- the next object has nothing to do with those that are there
      server-apart : (o : ObjNo) (row : ServerRow) → server_at S.serving.servers o ≡ Some row → (o.0 ≡ (next_object S).0 → ⊥)
      server-apart o row is at =
          next-unmade S (ap (λ (n : ℕ). is_some (get_or S.references.objects n None)) (sym at) ∙ (h.rows o row is).made)

      linked-apart : (s o : ObjNo) → server_of S.serving.servers s ≡ Some o → ((next_object S).0 ≡ o.0 → ⊥)
      linked-apart s o is at = by (server_at S.serving.servers o) refl (rows.serving.servers.sessions s o is)
        where
          by : (x : Option ServerRow) → server_at S.serving.servers o ≡ x → is_some x ≡ true → ⊥
          by None e some = absurd (cc)
          by (Some row) e some = server-apart o row e (sym at)

      session-apart : (s : ObjNo) (row : SessionRow) → session_at S.serving.servers s ≡ Some row → (s.0 ≡ (next_object S).0 → ⊥)
      session-apart s row is at =
          let none : session_at S.serving.servers s ≡ None =
          ap (λ (n : ℕ). get_or S.serving.servers.sessions n None) at ∙ (next_fresh script S rows).session in absurd (cc)

      owner_there : (v : ObjNo) (b : Bool) → b ≡ true → (if b then one_if ((next_object S).0 == v.0) t else None) ≡ one_if ((next_object S).0 == v.0) t
      owner_there v true e = refl
      owner_there v false e = absurd (cc)

      made_there : (v : ObjNo) → made_by done fs v ≡ one_if ((next_object S).0 == v.0) t
      made_there v = owner_there v (makes_server done) makes

      made_here : (v : ObjNo) → (next_object S).0 ≡ v.0 → made_by done fs v ≡ Some t
      made_here v at = made_there v ∙ ap (λ (b : Bool). one_if b t) (eq-eqb (next_object S).0 v.0 at)

      unmade_by : (v : ObjNo) → ((next_object S).0 ≡ v.0 → ⊥) → made_by done fs v ≡ None
      unmade_by v apart = made_there v ∙ ap (λ (b : Bool). one_if b t) (eqb_apart (next_object S).0 v.0 apart)

      owner_here : (v : ObjNo) → (next_object S).0 ≡ v.0 → told.owner v ≡ Some t
      owner_here v at = ap (λ (x : Option ObjNo). or_before x (r.owner v)) (made_here v at)

      owner_other : (v : ObjNo) → ((next_object S).0 ≡ v.0 → ⊥) → told.owner v ≡ r.owner v
      owner_other v apart = owner-on r done fs (λ k. 0) v (unmade_by v apart)

      since_here : (v : ObjNo) → (next_object S).0 ≡ v.0 → told.since v ≡ fs
      since_here v at = ap (λ (x : Option ObjNo). if is_some x then fs else r.since v ++ fs) (made_here v at)

      none_ended : (v : ObjNo) → (next_object S).0 ≡ v.0 → ends_by told v ≡ 0
      none_ended v at = ap (λ (es : List Effect). ends es v) (since_here v at)

      same_ends : (v : ObjNo) → ((next_object S).0 ≡ v.0 → ⊥) → ends_by told v ≡ ends_by r v
      same_ends v apart = let a = ends-on r done fs (λ k. 0) v (unmade_by v apart) in omega arith

      owns_new : (o : ObjNo) → (next_object S).0 ≡ o.0 → 1 ≤ times_owned (made name).serving.owned t o
      owns_new o at =
          let more = held-holding S.serving.owned t (next_object S) t o inside in
          let self = if_is (t.0 == t.0) (same (next_object S) o) (eq-eqb t.0 t.0 refl) in
          let one : same (next_object S) o ≡ 1 = ap (λ (b : Bool). if b then 1 else 0) (eq-eqb (next_object S).0 o.0 at) in omega arith

      own_row : (o : ObjNo) (row : ServerRow) → o.0 ≡ (next_object S).0 → server_at (made name).serving.servers o ≡ Some row → IsServed told (made name) o row
      own_row o row at is =
          let few = may.room in
          let sized = rows.serving.servers.servers_sized in
          let here : server_at (made name).serving.servers o ≡ Some new_server =
          ap (λ (n : ℕ). get_or (made name).serving.servers.servers n None) at
          ∙ get_or-set_same S.serving.servers.servers (next_object S).0 (Some new_server) None (omega arith) in
          let both : Some row ≡ Some new_server = sym is ∙ here in
          let own : row ≡ new_server = cc in
          subst (IsServed told (made name) o) (sym own) (record {
            made =
                ap (λ (n : ℕ). is_some (get_or (made name).references.objects n None)) at
                ∙ ap is_some (made-own S.references.objects (next_object S).0 (new_object kind.Server name S.references.made)
                (next_number_is S.mode.reuse S.references.objects).0);
            owner = owner_here o (sym at);
            closing =
                sym (closing-count told o t (owner_here o (sym at))
                ∙ ap (λ (es : List Effect). nat_lt 0 (handles_lost es o + dooms es t)) (since_here o (sym at)));
            owned = λ not. let a = owns_new o (sym at) in omega arith;
          })

      old_row : (o : ObjNo) (row : ServerRow) → (o.0 ≡ (next_object S).0 → ⊥) → server_at S.serving.servers o ≡ Some row → IsServed told (made name) o row
      old_row o row apart is =
          let old = h.rows o row is in
          let other : (next_object S).0 ≡ o.0 → ⊥ = λ at. apart (sym at) in
          let owner = owner_other o other ∙ old.owner in
          record {
            made = objects-made S (new_object kind.Server name S.references.made) o old.made;
            owner = owner;
            closing =
                old.closing
                ∙ (closing-count r o row.owner old.owner
                ∙ (ap (nat_lt 0) (let a = closings-on r done fs (λ k. 0) o row.owner (unmade_by o other) in
                let same_count : closings_by r o row.owner ≡ closings_by told o row.owner = omega arith in same_count)
                ∙ sym (closing-count told o row.owner owner)));
            owned = λ not. let a = old.owned not in let more = held-holding S.serving.owned t (next_object S) row.owner o inside in omega arith;
          }

      session-kept : (s : ObjNo) (row : SessionRow) → session_at (made name).serving.servers s ≡ Some row → session_at S.serving.servers s ≡ Some row
      session-kept s row is = set_item (λ (x : Option SessionRow). x ≡ Some row → session_at S.serving.servers s ≡ Some row)
          S.serving.servers.sessions (next_object S).0 s.0 None None (λ at e. absurd (cc)) (λ e. e) is

      link-kept : (s o : ObjNo) → server_of (made name).serving.servers s ≡ Some o → server_of S.serving.servers s ≡ Some o
      link-kept s o is = set_item (λ (x : Option SessionRow). link_of x ≡ Some o
          → link_of (get_or S.serving.servers.sessions s.0 None) ≡ Some o) S.serving.servers.sessions
          (next_object S).0 s.0 None None (λ at e. absurd (cc)) (λ e. e) is

      still-over : (s v : ObjNo) → is_over_by r s v ≡ true → is_over_by told s v ≡ true
      still-over s v over = elim (cases_eq (next_object S).0 v.0) as (λ _. is_over_by told s v ≡ true) [
        | inl at ↦
            or-right (closing_by told v) (told.remade s v)
            (ap (λ (x : Option ObjNo). remade_then x (made_by done fs v) (r.remade s v)) (joined-none done fs s refl)
            ∙ ap (λ (x : Option ObjNo). remade_then None x (r.remade s v)) (made_here v at))
        | inr apart ↦ over-on r done fs (λ k. 0) s v (unmade_by v apart) refl over
      ]
        where
          or-right : (a b : Bool) → b ≡ true → (a || b) ≡ true
          or-right true b e = refl
          or-right false b e = e

  -- a session joins a server
  abbrev joined : ObjNo → ObjNo → Slots → State
  joined s v slots = moved t (Servers (Join s v slots t)) S

  pub served-joined : (s v : ObjNo) (slots : Slots) → MayJoinServer S s v → server_at S.serving.servers s ≡ None
      → makes_server done ≡ false → makes_session done ≡ true
      → Served script (further r done (Plus (Link s) v ∷ []) (λ k. 0)) (joined s v slots)
  served-joined s v slots may fresh makes joins = record {
    rows = λ o row is.
        let was = server_was o row is in
        let old = h.rows o row was in
        record {
          made = old.made;
          owner = owner_same o ∙ old.owner;
          closing =
              old.closing
              ∙ (closing-count r o row.owner old.owner
              ∙ (ap (nat_lt 0) (let a = closings-on r done fs (λ k. 0) o row.owner (unmade_by o) in
              let same_count : closings_by r o row.owner ≡ closings_by told o row.owner = omega arith in same_count)
              ∙ sym (closing-count told o row.owner (owner_same o ∙ old.owner))));
          owned = old.owned;
        };
    links = λ x o is. elim (cases_eq s.0 x.0) as (λ _. server_told told.effects x ≡ Some o) [
      | inl at ↦
          let new : server_of (joined s v slots).serving.servers x ≡ Some v =
          ap (λ (n : ℕ). link_of (get_or (joined s v slots).serving.servers.sessions n None)) (sym at)
          ∙ ap link_of (get_or-set_same S.serving.servers.sessions s.0 (Some (new_session v slots t)) None inside) in
          let both : Some o ≡ Some v = sym is ∙ new in
          let own : o ≡ v = cc in
          server_told-append r.effects fs x ∙ (ap (λ (b : Bool). or_before (one_if b v) (server_told r.effects x)) (eq-eqb s.0 x.0 at) ∙ ap Some (sym own))
      | inr apart ↦
          server_told-append r.effects fs x ∙ (ap (λ (b : Bool). or_before (one_if b v) (server_told r.effects x)) (eqb_apart s.0 x.0 apart)
          ∙ h.links x o (linked_was x o apart is))
    ];
    same = λ x o is. elim (cases_eq s.0 x.0) as (λ _. told.remade x o ≡ false) [
      | inl at ↦ ap (λ (y : Option ObjNo). remade_then y (made_by done fs o) (r.remade x o)) (joined_here x at)
      | inr apart ↦ remade-on r done fs (λ k. 0) x o (unmade_by o) (joined_other x apart) ∙ h.same x o (linked_was x o apart is)
    ];
    ended = λ o row is some. let a = same_ends o in h.ended o row (server_was o row is) (omega arith);
    over = λ u o some. let a = same_ends o in h.over u o (omega arith);
    made = λ u o is. elim (h.made u o (sym (owner_same o) ∙ is)) as (λ _. (0 < times_owned S.serving.owned u o) ⊎ (0 < ends_by told o)) [
      | inl owned ↦ inl owned
      | inr over ↦ inr (let a = same_ends o in omega arith)
    ];
    places = λ k row is. let old = h.places k row is in record { first = old.first; is = old.is; role = old.role; place = let a = old.place in omega arith };
    told_linked =
        λ x o row is there alive. elim (cases_eq s.0 x.0) as
        (λ _. (server_of (joined s v slots).serving.servers x ≡ Some o) ⊎ (is_over_by told x o ≡ true)) [
          | inl at ↦
              let new : server_of (joined s v slots).serving.servers x ≡ Some v =
              ap (λ (n : ℕ). link_of (get_or (joined s v slots).serving.servers.sessions n None)) (sym at)
              ∙ ap link_of (get_or-set_same S.serving.servers.sessions s.0 (Some (new_session v slots t)) None inside) in
              let now : server_told told.effects x ≡ Some v = server_told-append r.effects fs x
              ∙ ap (λ (b : Bool). or_before (one_if b v) (server_told r.effects x)) (eq-eqb s.0 x.0 at) in
              inl (new ∙ (sym now ∙ is))
          | inr apart ↦
              let other = get_or-set_other S.serving.servers.sessions s.0 x.0 (Some (new_session v slots t)) None (λ e. apart (sym e)) in
              elim (h.told_linked x o row (before_join x o apart is) (sym other ∙ there) alive) as
              (λ _. (server_of (joined s v slots).serving.servers x ≡ Some o) ⊎ (is_over_by told x o ≡ true)) [
                | inl linked ↦ inl (ap link_of other ∙ linked)
                | inr over ↦ inr (over-on r done fs (λ k. 0) x o (unmade_by o) (ap (λ (b : Bool). one_if b v) (eqb_apart s.0 x.0 apart)) over)
              ]
        ];
  }
    where
      fs : List Effect
      fs = Plus (Link s) v ∷ []

      told : Reading
      told = further r done fs (λ k. 0)

      unmade_by : (o : ObjNo) → made_by done fs o ≡ None
      unmade_by o = made-none done fs o (λ so x. refl)

      joined_here : (x : ObjNo) → s.0 ≡ x.0 → joined_by done fs x ≡ Some v
      joined_here x at =
          ap (λ (b : Bool). if b then server_told fs x else None) joins ∙ ap (λ (b : Bool). one_if b v) (eq-eqb s.0 x.0 at)

      joined_other : (x : ObjNo) → (s.0 ≡ x.0 → ⊥) → joined_by done fs x ≡ None
      joined_other x apart = joined-none done fs x (ap (λ (b : Bool). one_if b v) (eqb_apart s.0 x.0 apart))

      before_join : (x o : ObjNo) → (s.0 ≡ x.0 → ⊥) → server_told told.effects x ≡ Some o → server_told r.effects x ≡ Some o
      before_join x o apart is = sym (server_told-append r.effects fs x
          ∙ ap (λ (b : Bool). or_before (one_if b v) (server_told r.effects x)) (eqb_apart s.0 x.0 apart))
          ∙ is

      linked_was : (x o : ObjNo) → (s.0 ≡ x.0 → ⊥) → server_of (joined s v slots).serving.servers x ≡ Some o → server_of S.serving.servers x ≡ Some o
      linked_was x o apart is =
          sym (ap link_of (get_or-set_other S.serving.servers.sessions s.0 x.0 (Some (new_session v slots t)) None (λ e. apart (sym e)))) ∙ is

      inside : s.0 < length S.serving.servers.sessions
      inside =
          let a = there_inside S.references.objects s.0 (alive_there (object_of S s) may.alive) in
          let b = rows.references.sized.objects_few in let c = rows.serving.servers.sessions_sized in omega arith

      server_was : (o : ObjNo) (row : ServerRow) → server_at (joined s v slots).serving.servers o ≡ Some row → server_at S.serving.servers o ≡ Some row
      server_was o row is = set_item (λ (x : Option ServerRow). x ≡ Some row → get_or S.serving.servers.servers o.0 None
          ≡ Some row) S.serving.servers.servers s.0 o.0 None None (λ at e. absurd (cc)) (λ e. e) is

      owner_same : (o : ObjNo) → told.owner o ≡ r.owner o
      owner_same o = owner-on r done fs (λ k. 0) o (unmade_by o)

      same_ends : (o : ObjNo) → ends_by told o ≡ ends_by r o
      same_ends o = let a = ends-on r done fs (λ k. 0) o (unmade_by o) in omega arith
