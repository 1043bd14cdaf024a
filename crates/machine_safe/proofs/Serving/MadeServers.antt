-- A server is made: what is told stays as it is.
use Rattle.sym_base.specs.declared.kind.Kind.TheVariants as kind
use Rattle.entry_log.specs.declared.effect.Effect.{Effect}
use Rattle.entry_log.specs.declared.effect.Effect.TheVariants.{Plus}
use Rattle.entry_log.specs.declared.effect.Holder.TheVariants.{Own}
use Rattle.entry_log.specs.declared.entry.Entry.{Entry}
use Rattle.machine.specs.FitsServers.{MayStartServer}
use Rattle.machine.specs.Moves.{moved, next_object, perform, tell}
use Rattle.machine.specs.References.{total}
use Rattle.machine.specs.WellFormed.{AreRows}
use Rattle.machine.specs.declared.decision.Decision.{Decision}
use Rattle.machine.specs.declared.moves.Move.{Move}
use Rattle.machine.specs.declared.moves.Move.TheVariants.{Gain, Make, Servers}
use Rattle.machine.specs.declared.server_move.ServerMove.TheVariants.{Start}
use Rattle.machine.specs.declared.state.State.{State}
use Rattle.machine_laws.proofs.Fitting.Regular.{advance_bit, closed_bit, doomed_bit, mutex_bit, serving_bit}
use Rattle.machine_safe.proofs.Serving.ServerActions.{IsMaking}
use Rattle.machine_safe.proofs.Serving.ActionMoves.{Doing, IsGoing, going, going-then, keeps-going, quiet-doing}
use Rattle.machine_safe.proofs.Serving.DoomsTold.{doom-among, doom-told}
use Rattle.machine_safe.proofs.Serving.EffectSums.{owner_told-append}
use Rattle.machine_safe.proofs.Serving.KeptServers.{Keeps, changing-none, message-none, message_bit, steps_of, detach-none, WasSession, lost-none}
use Rattle.machine_safe.proofs.Serving.KeptByMoves.{AreMade}
use Rattle.machine_safe.proofs.Serving.OutstandingMessages.{letters-quiet}
use Rattle.machine_safe.proofs.Serving.MadeAsTold.{served-made_server}
use Rattle.machine_safe.proofs.Serving.KeptRows.{next-unmade}
use Rattle.machine_safe.proofs.Serving.KeptMessages.{IsQuiet, Post, lost-each, posts}
use Rattle.machine_safe.proofs.Serving.ServerReading.{IsSame, Unowned, further, reading, same-both, same-entry, same-then}
use Rattle.machine_safe.proofs.Serving.ServersAsTold.{Served, served-keeps, served-made, served-same}
use Rattle.machine_safe.proofs.Serving.ActionsTold.{Book, IsTurn, entry_for, nothing-left, unserving, counts}
use Rattle.machine_safe.specs.SafeMessages.{NothingLeft}
use Rattle.machine_safe.specs.Served.{ends, ends_in, one_if, or_before, owner_in, owner_told, server_told}
use Rattle.script_types.specs.declared.script.Script.{Script}
use Rattle.std.proofs.Common.{Bool, true, false, refl, List, None, [], ap, arith, subst, sym, inl, inr, ℕ, ◌++◌, ◌+◌, ◌<◌, ◌∙◌, ◌∷◌, ◌≡◌, Option, Some, get_or}
use Rattle.std.specs.Prelude.{Contains, if◌then◌else◌, is_some, ◌==◌}
use Rattle.std.proofs.lemmas.Bool.{eqb-true}
use Rattle.sym_base.specs.declared.number.ObjNo.{ObjNo}
use Rattle.machine_safe.proofs.Serving.SessionSlots.{slotted-keeps}
use Rattle.state_rows.proofs.SoundChanges.{set_item}
use Rattle.state_rows.specs.ServerRows.{session_at}
use Rattle.state_rows.specs.declared.servers.SessionRow.{SessionRow}
use Rattle.machine_laws.proofs.Fitting.Regular.{IsRegular, Kinds}

module _ (script : Script) (before : List Entry) (S : State) (place : ℕ) (t : ObjNo) (rows : AreRows script S) (book : Book script before S) where
  made : AreMade S
  made = served-made script (reading before) S book.served

  -- a server is made
  pub turn-makes : {k : Kinds} (d : Decision) → IsRegular k script S t d → IsMaking S t d → Doing script S t d.moves
      → IsTurn script before (entry_for place t S d) (perform t d.moves S)
  turn-makes d regular is does = record {
    book = record {
      served =
          served-same script (further (further (reading before) d.step fs (λ k. 0)) d.step gs (steps_of t rest))
          (reading (before ++ e ∷ [])) (perform t d.moves S) same whole;
      letters = letters-quiet script before S (perform t d.moves S) e book.letters (λ p among. unlinked p.session) q
          (λ p among. unended p.server) (λ p among. unmade p.server (posted-apart p among));
      slotted = slotted-keeps script before e S (perform t d.moves S) book.slotted unlinked slots q.pool;
    };
    lawful = unserving script before e q.accepts q.finishes unended (λ sends. let unsent = is.unsent in absurd (cc)) renewed;
  }
    where
      o : ObjNo
      o = next_object S

      rest : List Move
      rest = Gain is.holder (next_object S) ∷ is.back

      ms : List Move
      ms = Servers (Start (next_object S) t) ∷ Make kind.Server is.name (Own t) ∷ rest

      e : Entry
      e = entry_for place t S d

      mid : State
      mid = moved t (Make kind.Server is.name (Own t)) (moved t (Servers (Start (next_object S) t)) S)

      fs : List Effect
      fs = Plus (Own t) (next_object S) ∷ []

      gs : List Effect
      gs = tell t rest mid

      goes : IsGoing script S t ms
      goes = subst (IsGoing script S t) is.moves (going script S t d.moves does (let a = ap (total serving_bit) is.moves in omega arith))

      start : MayStartServer S (next_object S) t
      start = goes.each.0

      middle : IsGoing script mid t rest
      middle =
          going-then script (moved t (Servers (Start (next_object S) t)) S) t (Make kind.Server is.name (Own t)) rest
          (going-then script S t (Servers (Start (next_object S) t)) (Make kind.Server is.name (Own t) ∷ rest) goes)

      first : Served script (further (reading before) d.step fs (λ k. 0)) mid
      first =
          served-made_server script (reading before) S t d.step book.served rows is.name start
          (let a = goes.sane.inside in let b = rows.serving.servers.owned_sized in omega arith) is.makes

      keeps : Keeps mid (perform t rest mid) t rest gs
      keeps =
          keeps-going script mid t rest middle (served-made script (further (reading before) d.step fs (λ k. 0)) mid first)
          (changing-none rest (let a = is.quiet in omega arith))

      unowned : Unowned d.step gs
      unowned makes = keeps.unowned (let a = regular.making makes in let b = ap (total mutex_bit) is.moves in omega arith)

      whole : Served script (further (further (reading before) d.step fs (λ k. 0)) d.step gs (steps_of t rest)) (perform t d.moves S)
      whole =
          subst (λ (l : List Move). Served script
          (further (further (reading before) d.step fs (λ k. 0)) d.step gs (steps_of t rest)) (perform t l S))
          (sym is.moves)
          (served-keeps script (further (reading before) d.step fs (λ k. 0)) mid (perform t rest mid) t rest d.step gs first keeps
          (λ v. let a = regular.dooms v in let b = ap (total (closed_bit v)) is.moves in
          let c = ap (total (doomed_bit v)) is.moves in let f = doom-told t rest mid v in omega arith)
          (λ v. doom-among t rest mid v)
          (λ v row there. let a = lost-each script mid t rest v middle.each in let b = lost-none v rest (let q = is.quiet in omega arith) in omega arith)
          (λ makes. let a = regular.making makes in let b = ap (total mutex_bit) is.moves in omega arith)
          (λ v some. let none = detach-none v rest (let a = is.quiet in omega arith) in absurd (omega arith)))

      told : e.effects ≡ fs ++ gs
      told = ap (λ (l : List Move). tell t l S) is.moves

      same : IsSame (further (further (reading before) d.step fs (λ k. 0)) d.step gs (steps_of t rest)) (reading (before ++ e ∷ []))
      same = same-then _ (further (reading before) d.step e.effects (λ k. 0 + steps_of t rest k)) _
          (subst (λ (l : List Effect). IsSame (further (further (reading before) d.step fs (λ k. 0)) d.step gs
          (steps_of t rest)) (further (reading before) d.step l (λ k. 0 + steps_of t rest k))) (sym told)
          (same-both (reading before) d.step fs gs (λ k. 0) (steps_of t rest) unowned))
          (same-entry before e (λ k. 0 + steps_of t rest k)
          (λ k. let a = counts t rest d k (let a = regular.answers in let b = ap (total advance_bit) is.moves in
          omega arith) in omega arith))

      owner-told : (v : ObjNo) → owner_told e.effects v ≡ one_if (o.0 == v.0) t
      owner-told v =
          ap (λ (l : List Effect). owner_told l v) told ∙ (owner_told-append fs gs v
          ∙ ap (λ (x : Option ObjNo). or_before x (owner_told fs v))
          (keeps.unowned (let a = regular.making is.makes in let b = ap (total mutex_bit) is.moves in omega arith) v))

      owner-other : (v : ObjNo) (b : Bool) → (o.0 == v.0) ≡ b → (o.0 ≡ v.0 → ⊥) → one_if b t ≡ None
      owner-other v true same apart = absurd (apart (eqb-true o.0 v.0 same))
      owner-other v false same apart = refl

      -- it makes nobody the owner of another
      unmade : (v : ObjNo) → (o.0 ≡ v.0 → ⊥) → owner_in (e ∷ []) v ≡ None
      unmade v apart =
          ap (λ (b : Bool). if b then owner_told e.effects v else None) is.makes ∙ (owner-told v ∙ owner-other v (o.0 == v.0) refl apart)

      -- the server of a message that is outstanding is there
      posted-apart : (p : Post) → Contains (posts S) p → (o.0 ≡ p.server.0 → ⊥)
      posted-apart p among at =
          let known = book.letters.known p among in
          by (owner_in before p.server) refl known.owned
        where
          by : (x : Option ObjNo) → owner_in before p.server ≡ x → is_some x ≡ true → ⊥
          by None owns some = absurd (cc)
          by (Some u) owns some = elim (book.served.made u p.server owns) [
            | inr over ↦ let lasts = (book.letters.known p among).lasts in absurd (omega arith)
            | inl owned ↦
                let own = rows.serving.servers.owners u p.server owned in
                next-unmade S (ap (λ (n : ℕ). is_some (get_or S.references.objects n None)) at ∙ made p.server own.row own.is)
          ]

      -- a server of its number has ended
      renewed : (u v : ObjNo) → is_some (owner_in (e ∷ []) v) ≡ true → owner_in before v ≡ Some u → (0 < ends_in before v) × NothingLeft before v
      renewed u v some owns = elim (book.served.made u v owns) as (λ _. (0 < ends_in before v) × NothingLeft before v) [
        | inr over ↦ (over, nothing-left script before S book v over)
        | inl owned ↦
            let own = rows.serving.servers.owners u v owned in
            let there = made v own.row own.is in
            let none = unmade v (λ at. next-unmade S (ap (λ (n : ℕ). is_some (get_or S.references.objects n None)) at ∙ there)) in
            let gone = ap is_some none in absurd (cc)
      ]

      unlinked : (s : ObjNo) → server_told e.effects s ≡ None
      unlinked s = ap (λ (l : List Effect). server_told l s) told ∙ keeps.unlinked s

      unended : (v : ObjNo) → ends e.effects v ≡ 0
      unended v = ap (λ (l : List Effect). ends l v) told ∙ keeps.unended v

      q : IsQuiet S (perform t d.moves S) e.effects
      q =
          quiet-doing script S t d.moves does (let a = ap (total message_bit) is.moves in
          let b = message-none rest (let c = is.quiet in omega arith) in omega arith)

      slots : (s : ObjNo) (row : SessionRow) → session_at (perform t d.moves S).serving.servers s ≡ Some row → WasSession S.serving.servers s row
      slots s row is_row =
          let later = keeps.slots s row (ap (λ (l : List Move). session_at (perform t l S).serving.servers s) (sym is.moves) ∙ is_row) in
          record {
            old = later.old;
            was =
                set_item (λ (x : Option SessionRow). x ≡ Some later.old → get_or S.serving.servers.sessions s.0 None
                ≡ Some later.old) S.serving.servers.sessions (next_object S).0 s.0 None None (λ at none. absurd (cc))
                (λ same_row. same_row) later.was;
            slots = later.slots;
          }
