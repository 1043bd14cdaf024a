-- A session joins a server: what is told stays as it is.
use Rattle.sym_base.specs.declared.kind.Kind.TheVariants as kind
use Rattle.entry_log.specs.declared.effect.Effect.{Effect}
use Rattle.entry_log.specs.declared.effect.Effect.TheVariants.{Plus}
use Rattle.entry_log.specs.declared.effect.Holder.TheVariants.{Link}
use Rattle.entry_log.specs.declared.entry.Entry.{Entry}
use Rattle.machine.specs.Moves.{moved, next_object, perform, tell}
use Rattle.machine.specs.References.{total}
use Rattle.machine.specs.WellFormed.{AreRows}
use Rattle.machine.specs.declared.decision.Decision.{Decision}
use Rattle.machine.specs.declared.moves.Move.{Move}
use Rattle.machine.specs.declared.moves.Move.TheVariants.{Make, Servers}
use Rattle.machine.specs.declared.server_move.ServerMove.TheVariants.{Join}
use Rattle.machine.specs.declared.state.State.{State}
use Rattle.machine_laws.proofs.Fitting.Regular.{advance_bit, closed_bit, doomed_bit, serving_bit}
use Rattle.machine_safe.proofs.Serving.ServerActions.{IsJoining}
use Rattle.machine_safe.proofs.Serving.ActionMoves.{Doing, IsGoing, going, going-then, keeps-going, quiet-doing}
use Rattle.machine_safe.proofs.Serving.EffectSums.{ends-append, server_told-append}
use Rattle.machine_safe.proofs.Serving.DoomsTold.{doom-among, doom-told}
use Rattle.machine_safe.proofs.Serving.KeptServers.{Keeps, changing-none, message-none, message_bit, steps_of, detach-none, lost-none}
use Rattle.machine_safe.proofs.Serving.KeptByMoves.{AreMade, keeps-move}
use Rattle.machine_safe.proofs.Serving.OutstandingMessages.{letters-quiet}
use Rattle.machine_safe.proofs.Serving.MadeAsTold.{served-joined}
use Rattle.machine_safe.proofs.Serving.KeptMessages.{IsQuiet, Post, post_of, posts, lost-each}
use Rattle.machine_safe.proofs.Serving.ServerReading.{IsSame, Reading, Unowned, further, reading, same-both, same-entry, same-then}
use Rattle.machine_safe.proofs.Serving.ServersAsTold.{Served, served-keeps, served-made, served-same}
use Rattle.machine_safe.proofs.Serving.ActionsTold.{Book, IsTurn, counts, entry_for, unmade-by, unrenewed, unserving}
use Rattle.machine_safe.specs.Served.{ends, one_if, or_before, owner_in, server_told}
use Rattle.move_laws.proofs.Lists.Contents.{contains_map}
use Rattle.move_laws.proofs.Lives.Fresh.{next_fresh}
use Rattle.move_laws.proofs.References.Same.{eqb_apart, if_zero}
use Rattle.script_types.specs.declared.script.Script.{Script}
use Rattle.state_rows.specs.ServerRows.{server_at, session_at}
use Rattle.state_rows.specs.declared.messages.Message.{Message}
use Rattle.state_rows.specs.declared.servers.ServerRow.{ServerRow}
use Rattle.std.proofs.Common.{Bool, List, None, Option, Some, [], arith, length, refl, sym, true, ℕ, ◌++◌, ◌+◌, ◌∙◌, ◌∷◌, ◌≡◌, subst, ap, get_or, get_or-set_other, get_or-set_same, inl, inr, ◌<◌}
use Rattle.std.specs.Prelude.{Contains, is_some, ◌==◌}
use Rattle.sym_base.specs.declared.number.ObjNo.{ObjNo}
use Rattle.machine.specs.Rows.{object_of}
use Rattle.machine_safe.proofs.Serving.KeptRows.{next-unmade}
use Rattle.move_laws.proofs.Lives.Bits.{alive_there, there_inside}
use Rattle.machine_safe.proofs.Serving.SessionSlots.{link-made, links-told, slots-joined, slots-kept}
use Rattle.machine_safe.specs.Sent.{instruction_in}
use Rattle.machine_safe.specs.Slotted.{slots_in}
use Rattle.state_rows.specs.ServerChanges.{new_session}
use Rattle.state_rows.specs.declared.servers.SessionRow.{SessionRow}
use Rattle.std.proofs.lemmas.Bool.{cases_eq, eq-eqb}
use Rattle.machine_laws.proofs.Fitting.Regular.{IsRegular, Kinds}

-- what is made next is no server
no-server : (S : State) → AreMade S → server_at S.serving.servers (next_object S) ≡ None
no-server S made = by (server_at S.serving.servers (next_object S)) refl
  where
    by : (x : Option ServerRow) → server_at S.serving.servers (next_object S) ≡ x → x ≡ None
    by None e = refl
    by (Some row) e = absurd (next-unmade S (made (next_object S) row e))

module _ (script : Script) (before : List Entry) (S : State) (place : ℕ) (t : ObjNo) (rows : AreRows script S) (book : Book script before S) where
  made : AreMade S
  made = served-made script (reading before) S book.served

  posted : (p : Post) → Contains (posts S) p → (m : Message) × Contains S.serving.messages.outstanding m × (post_of m ≡ p)
  posted p among = contains_map post_of S.serving.messages.outstanding p among

  -- a session joins a server
  pub turn-joins : {k : Kinds} (d : Decision) → IsRegular k script S t d
      → IsJoining S t (instruction_in script before t) d → Doing script S t d.moves
      → IsTurn script before (entry_for place t S d) (perform t d.moves S)
  turn-joins d regular is does = record {
    book = record {
      served = served-same script _ (reading (before ++ e ∷ [])) (perform t d.moves S) same whole;
      letters = letters-quiet script before S (perform t d.moves S) e book.letters unlinked q (λ p among. unended p.server) (λ p among. unmade p.server);
      slotted = record {
        sessions = slots;
        pool = q.pool ∙ book.slotted.pool;
        servers = λ s. links-told before e s (book.slotted.servers s) (link-made e s is.joins);
      };
    };
    lawful = unserving script before e q.accepts q.finishes unended (λ sends. let unsent = is.unsent in absurd (cc)) (unrenewed before e unmade);
  }
    where
      e : Entry
      e = entry_for place t S d

      unmade : (v : ObjNo) → owner_in (e ∷ []) v ≡ None
      unmade = unmade-by e (λ makes. let none = is.makes in absurd (cc))

      one : Move
      one = Make kind.Session [] is.holder

      two : Move
      two = Servers (Join (next_object S) is.server is.slots t)

      ms : List Move
      ms = one ∷ two ∷ is.back

      T : State
      T = moved t one S

      mid : State
      mid = moved t two T

      fs : List Effect
      fs = Plus is.holder (next_object S) ∷ []

      hs : List Effect
      hs = Plus (Link (next_object S)) is.server ∷ []

      gs : List Effect
      gs = tell t is.back mid

      goes : IsGoing script S t ms
      goes = subst (IsGoing script S t) is.moves (going script S t d.moves does (let a = ap (total serving_bit) is.moves in omega arith))

      later : IsGoing script T t (two ∷ is.back)
      later = going-then script S t one (two ∷ is.back) goes

      last : IsGoing script mid t is.back
      last = going-then script T t two is.back later

      makes : Keeps S T t (one ∷ []) fs
      makes = keeps-move script S t one rows made goes.each.0 refl

      r1 : Reading
      r1 = further (reading before) d.step fs (steps_of t (one ∷ []))

      served1 : Served script r1 T
      served1 = served-keeps script (reading before) S T t (one ∷ []) d.step fs book.served makes (λ v. omega arith) (λ v. omega arith)
          (λ v row there. refl) (λ making. refl) (λ v some. absurd (omega arith))

      r2 : Reading
      r2 = further r1 d.step hs (λ k. 0)

      served2 : Served script r2 mid
      served2 =
          served-joined script r1 T t d.step served1 later.sane.rows (next_object S) is.server is.slots later.each.0
          (no-server S made) is.makes is.joins

      keeps : Keeps mid (perform t is.back mid) t is.back gs
      keeps = keeps-going script mid t is.back last (served-made script r2 mid served2) (changing-none is.back is.quiet)

      r3 : Reading
      r3 = further r2 d.step gs (steps_of t is.back)

      whole : Served script r3 (perform t d.moves S)
      whole = subst (λ (l : List Move). Served script r3 (perform t l S)) (sym is.moves)
          (served-keeps script r2 mid (perform t is.back mid) t is.back d.step gs served2 keeps
          (λ v. let a = regular.dooms v in let b = ap (total (closed_bit v)) is.moves in
          let c = ap (total (doomed_bit v)) is.moves in let f = doom-told t is.back mid v in omega arith)
          (λ v. doom-among t is.back mid v)
          (λ v row there. let a = lost-each script mid t is.back v last.each in let b = lost-none v is.back is.quiet in omega arith)
          (λ making. absurd (cc)) (λ v some. let none = detach-none v is.back is.quiet in absurd (omega arith)))

      told_all : e.effects ≡ fs ++ (hs ++ gs)
      told_all = ap (λ (l : List Move). tell t l S) is.moves

      unowned : (es : List Effect) → Unowned d.step es
      unowned es makes = let none = is.makes in absurd (cc)

      same : IsSame r3 (reading (before ++ e ∷ []))
      same =
          same-then r3 (further r1 d.step (hs ++ gs) (λ k. 0 + steps_of t is.back k)) (reading (before ++ e ∷ []))
          (same-both r1 d.step hs gs (λ k. 0) (steps_of t is.back) (unowned gs))
          (same-then (further r1 d.step (hs ++ gs) (λ k. 0 + steps_of t is.back k))
          (further (reading before) d.step e.effects (λ k. steps_of t (one ∷ []) k + (0 + steps_of t is.back k)))
          (reading (before ++ e ∷ []))
          (subst (λ (l : List Effect). IsSame (further r1 d.step (hs ++ gs) (λ k. 0 + steps_of t is.back k))
          (further (reading before) d.step l (λ k. steps_of t (one ∷ []) k + (0 + steps_of t is.back k))))
          (sym told_all) (same-both (reading before) d.step fs (hs ++ gs) (steps_of t (one ∷ []))
          (λ k. 0 + steps_of t is.back k) (unowned (hs ++ gs))))
          (same-entry before e (λ k. steps_of t (one ∷ []) k + (0 + steps_of t is.back k))
          (λ k. let a = counts t is.back d k (let b = regular.answers in let c = ap (total advance_bit) is.moves in
          omega arith) in let none = if_zero (t.0 == k) (total advance_bit (one ∷ [])) refl in omega arith)))

      apart : (p : Post) → Contains (posts S) p → ((next_object S).0 ≡ p.session.0 → ⊥)
      apart p among at =
          let was = posted p among in
          let session : is_some (session_at S.serving.servers p.session) ≡ true =
          ap (λ (x : Post). is_some (session_at S.serving.servers x.session)) (sym was.2)
          ∙ rows.serving.messages.sessions was.0 was.1 in
          let none : session_at S.serving.servers p.session
          ≡ None = ap (λ (n : ℕ). get_or S.serving.servers.sessions n None) (sym at)
          ∙ (next_fresh script S rows).session in
          let no_session = ap is_some none in absurd (cc)

      unlinked : (p : Post) → Contains (posts S) p → server_told e.effects p.session ≡ None
      unlinked p among =
          ap (λ (l : List Effect). server_told l p.session) told_all
          ∙ (server_told-append fs (hs ++ gs) p.session
          ∙ (ap (λ (x : Option ObjNo). or_before x (server_told fs p.session)) (server_told-append hs gs p.session
          ∙ (ap (λ (x : Option ObjNo). or_before x (server_told hs p.session)) (keeps.unlinked p.session)
          ∙ ap (λ (b : Bool). one_if b is.server) (eqb_apart (next_object S).0 p.session.0 (apart p among))))
          ∙ makes.unlinked p.session))

      unended : (v : ObjNo) → ends e.effects v ≡ 0
      unended v = let a = ap (λ (l : List Effect). ends l v) told_all in let b = ends-append fs (hs ++ gs) v in
          let c = makes.unended v in let f = keeps.unended v in omega arith

      q : IsQuiet S (perform t d.moves S) e.effects
      q = quiet-doing script S t d.moves does (let a = ap (total message_bit) is.moves in let b = message-none is.back is.quiet in omega arith)

      session_room : (next_object S).0 < length T.serving.servers.sessions
      session_room =
          let a = there_inside T.references.objects (next_object S).0 (alive_there (object_of T (next_object S)) later.each.0.alive) in
          let b = later.sane.rows.references.sized.objects_few in
          let c = later.sane.rows.serving.servers.sessions_sized in
          omega arith

      link-told : (s : ObjNo) → (next_object S).0 ≡ s.0 → server_told e.effects s ≡ Some is.server
      link-told s at =
          ap (λ (l : List Effect). server_told l s) told_all
          ∙ (server_told-append fs (hs ++ gs) s
          ∙ ap (λ (x : Option ObjNo). or_before x (server_told fs s)) (server_told-append hs gs s
          ∙ (ap (λ (x : Option ObjNo). or_before x (server_told hs s)) (keeps.unlinked s)
          ∙ ap (λ (b : Bool). one_if b is.server) (eq-eqb (next_object S).0 s.0 at))))

      link-untold : (s : ObjNo) → ((next_object S).0 ≡ s.0 → ⊥) → server_told e.effects s ≡ None
      link-untold s other =
          ap (λ (l : List Effect). server_told l s) told_all
          ∙ (server_told-append fs (hs ++ gs) s
          ∙ (ap (λ (x : Option ObjNo). or_before x (server_told fs s)) (server_told-append hs gs s
          ∙ (ap (λ (x : Option ObjNo). or_before x (server_told hs s)) (keeps.unlinked s)
          ∙ ap (λ (b : Bool). one_if b is.server) (eqb_apart (next_object S).0 s.0 other))) ∙ makes.unlinked s))

      -- the session has the slots of the instruction, and the others theirs
      slots : (s : ObjNo) (row : SessionRow) → session_at (perform t d.moves S).serving.servers s ≡ Some row
          → slots_in script (before ++ e ∷ []) s ≡ Some row.slots
      slots s row is_row =
          let after = keeps.slots s row (ap (λ (l : List Move). session_at (perform t l S).serving.servers s) (sym is.moves) ∙ is_row) in
          elim (cases_eq (next_object S).0 s.0) as (λ _. slots_in script (before ++ e ∷ []) s ≡ Some row.slots) [
            | inl at ↦
                let inside : (next_object S).0 < length T.serving.servers.sessions = session_room in
                let new : session_at mid.serving.servers s ≡ Some (new_session is.server is.slots t) =
                ap (λ (n : ℕ). get_or mid.serving.servers.sessions n None) (sym at)
                ∙ get_or-set_same T.serving.servers.sessions (next_object S).0
                (Some (new_session is.server is.slots t)) None inside in
                let both : Some after.old ≡ Some (new_session is.server is.slots t) = sym after.was ∙ new in
                let own : after.old ≡ new_session is.server is.slots t = cc in
                slots-joined script before e s is.server is.slots is.joins (link-told s at) is.connects
                ∙ ap Some (sym (ap (λ (z : SessionRow). z.slots) own) ∙ after.slots)
            | inr other ↦
                let first = makes.slots s after.old
                (sym (get_or-set_other T.serving.servers.sessions (next_object S).0 s.0
                (Some (new_session is.server is.slots t)) None (λ at. other (sym at))) ∙ after.was) in
                slots-kept script before e s (link-untold s other) ∙ (book.slotted.sessions s first.old first.was ∙ ap Some (first.slots ∙ after.slots))
          ]
