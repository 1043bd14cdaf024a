-- A cleaned thread has no mutex, no logon and no server from then on.
use Rattle.std.proofs.Common.{◌≡◌, inl, inr, ℕ, zero, suc, ◌<◌, length, List, [], ◌∷◌, map, get_or, arith, refl, sym, ap, ◌∙◌, None}
use Rattle.std.proofs.lemmas.Bool.{cases_eq}
use Rattle.std.proofs.lemmas.List.{get_or-set_other}
use Rattle.sym_base.specs.declared.number.ObjNo.{ObjNo}
use Rattle.script_types.specs.declared.script.Script.{Script}
use Rattle.script_types.specs.Shape.{IsShaped}
use Rattle.entry_log.specs.declared.effect.LockNo.TheVariants.{Object}
use Rattle.entry_log.specs.declared.entry.Actor.{Actor}
use Rattle.entry_log.specs.declared.entry.Entry.{Entry}
use Rattle.state_rows.specs.declared.duty.Owed.{Owed}
use Rattle.state_rows.specs.declared.duty.Owed.TheVariants.{Close, Sweep}
use Rattle.machine.specs.declared.logon_move.LogonMove.TheVariants as logon
use Rattle.machine.specs.declared.moves.Move.{Move}
use Rattle.machine.specs.declared.moves.Move.TheVariants.{Logons, Lose, Make, Pay}
use Rattle.machine.specs.declared.state.State.{State}
use Rattle.machine.specs.Fits.{FitsMove}
use Rattle.machine.specs.History.{next}
use Rattle.machine.specs.Holdings.{stage_left}
use Rattle.machine.specs.LogonMoves.{logons_on, without_logon, without_maker}
use Rattle.machine.specs.Moves.{moved}
use Rattle.machine.specs.References.{mutex_names, total}
use Rattle.machine.specs.Rows.{owed_of, thread_of}
use Rattle.machine.specs.WellFormed.{AreRows, times_held}
use Rattle.machine_laws.proofs.Fitting.Reaping.{has-nothing}
use Rattle.move_laws.proofs.Lists.Sets.{set_either}
use Rattle.machine_safe.proofs.Deaths.Moves.{dies-move, dies-pay, is-left}
use Rattle.machine_safe.proofs.Deaths.OnceEach.{Cleans, after-cleaning, left-after}
use Rattle.machine_safe.proofs.Deaths.Rows.{live-left, row_bit}
use Rattle.machine_safe.proofs.Deaths.Runs.{kept-next}
use Rattle.entry_log.specs.declared.effect.Holder.TheVariants.{Own}
use Rattle.machine.specs.ServerMoves.{owned_by}
use Rattle.machine.specs.ThreadCalls.{is_live}
use Rattle.state_rows.specs.Locks.{without}
use Rattle.machine_laws.proofs.Fitting.ServerEnds.{none-owned}
use Rattle.machine_safe.proofs.Deaths.LockMoves.{live-one}

pub record IsBare (S : State) (t : ObjNo) : Type 0 where
  pub left : row_bit stage_left (thread_of S t) ≡ 0
  pub held : (o : ObjNo) → times_held S.synchronization.mutexes t o ≡ 0
  pub logged : logons_on S.synchronization.logons t ≡ []
  pub owned : owned_by S.serving.owned t ≡ []

without-empty : (u : ObjNo) (logons : List (List (ObjNo × ℕ))) (k : ℕ) → get_or logons k [] ≡ [] → get_or (map (without_maker u) logons) k [] ≡ []
without-empty u [] k e = refl
without-empty u (x ∷ xs) zero e = ap (without_maker u) e
without-empty u (x ∷ xs) (suc k) e = without-empty u xs k e

unlogged-move : (script : Script) (S : State) (a : ObjNo) (m : Move) (t : ObjNo) → FitsMove script a m S
    → row_bit stage_left (thread_of S t) ≡ 0 → logons_on S.synchronization.logons t ≡ []
    → logons_on (moved a m S).synchronization.logons t ≡ []
unlogged-move script S a (Logons (logon.Add v w s)) t fits left h =
    elim (cases_eq t.0 v.0) as (λ _. logons_on (moved a (Logons (logon.Add v w s)) S).synchronization.logons t ≡ []) [
      | inl at ↦ absurd (is-left (thread_of S v) fits.6 fits.5 (ap (λ (n : ℕ). row_bit stage_left (get_or S.references.threads n None)) (sym at) ∙ left))
      | inr apart ↦ get_or-set_other S.synchronization.logons v.0 t.0 _ [] apart ∙ h
    ]
unlogged-move script S a (Logons (logon.Remove v w s)) t fits left h =
    elim (set_either S.synchronization.logons v.0 (without_logon w s (logons_on S.synchronization.logons v)) t.0 []) as
    (λ _. logons_on (moved a (Logons (logon.Remove v w s)) S).synchronization.logons t ≡ []) [
      | inl at ↦ at.1 ∙ ap (without_logon w s) (ap (λ (n : ℕ). get_or S.synchronization.logons n []) (sym at.0) ∙ h)
      | inr other ↦ other ∙ h
    ]
unlogged-move script S a (Logons (logon.Drop w)) t fits left h = without-empty w S.synchronization.logons t.0 h
unlogged-move script S a (Pay what) t fits left h = absurd fits
unlogged-move script S a _ t fits left h = h

-- a server that is made is a live thread's
unowned-move : (script : Script) (S : State) (a : ObjNo) (m : Move) (t : ObjNo) → FitsMove script a m S
    → row_bit stage_left (thread_of S t) ≡ 0 → owned_by S.serving.owned t ≡ []
    → owned_by (moved a m S).serving.owned t ≡ []
unowned-move script S a (Make kind name (Own u)) t fits left h =
    elim (cases_eq t.0 u.0) as (λ _. owned_by (moved a (Make kind name (Own u)) S).serving.owned t ≡ []) [
      | inl at ↦
          let same : row_bit stage_left (thread_of S u) ≡ 0 = ap (λ (n : ℕ). row_bit stage_left (get_or S.references.threads n None)) (sym at) ∙ left in
          let one = live-one S u fits.1.owner in
          let le = live-left (thread_of S u) in absurd (omega arith)
      | inr apart ↦ get_or-set_other S.serving.owned u.0 t.0 _ [] apart ∙ h
    ]
unowned-move script S a (Lose (Own u) o) t fits left h =
    elim (set_either S.serving.owned u.0 (without o (owned_by S.serving.owned u)) t.0 []) as
    (λ _. owned_by (moved a (Lose (Own u) o) S).serving.owned t ≡ []) [
      | inl at ↦ at.1 ∙ ap (without o) (ap (λ (n : ℕ). get_or S.serving.owned n []) (sym at.0) ∙ h)
      | inr other ↦ other ∙ h
    ]
unowned-move script S a (Pay what) t fits left h = absurd fits
unowned-move script S a _ t fits left h = h

bare-move : (script : Script) (t : ObjNo) (S : State) (a : ObjNo) (m : Move) → AreRows script S → FitsMove script a m S → IsBare S t → IsBare (moved a m S) t
bare-move script t S a m rows fits h =
    let d = dies-move script S a m rows fits in record {
      left = let le = d.left t in let none = h.left in omega arith;
      held =
          λ o. let moves = d.locks t (Object o) in
          let none = d.takes_none t (Object o) (let le = live-left (thread_of S t) in let gone = h.left in omega arith) in
          let was = h.held o in omega arith;
      logged = unlogged-move script S a m t fits h.left h.logged;
      owned = unowned-move script S a m t fits h.left h.owned;
    }

paid-bare : (S : State) (a : ObjNo) (what : Owed) (t : ObjNo)
    → ((moved a (Pay what) S).synchronization.logons ≡ S.synchronization.logons)
    × ((moved a (Pay what) S).serving.owned ≡ S.serving.owned)
paid-bare S a (Close h o) t = (refl, refl)
paid-bare S a (Sweep o) t = (refl, refl)

bare-pay : (script : Script) (t : ObjNo) (S : State) (a : ObjNo) (what : Owed) (rest : List Owed) → AreRows script S
    → owed_of S a ≡ what ∷ rest → a.0 < length S.references.owed → IsBare S t → IsBare (moved a (Pay what) S) t
bare-pay script t S a what rest rows owes here h =
    let d = dies-pay script S a what rest owes here rows in record {
      left = let le = d.left t in let none = h.left in omega arith;
      held =
          λ o. let moves = d.locks t (Object o) in
          let none = d.takes_none t (Object o) (let le = live-left (thread_of S t) in let gone = h.left in omega arith) in
          let was = h.held o in omega arith;
      logged = ap (λ (l : List (List (ObjNo × ℕ))). logons_on l t) (paid-bare S a what t).0 ∙ h.logged;
      owned = ap (λ (l : List (List ObjNo)). owned_by l t) (paid-bare S a what t).1 ∙ h.owned;
    }

pub bare-next : (script : Script) (t : ObjNo) (S : State) (actor : Actor) → IsShaped script → AreRows script S → IsBare S t → IsBare (next script S actor) t
bare-next script t S actor shaped rows h = kept-next script (λ (S : State). IsBare S t) (bare-move script t) (bare-pay script t) S actor shaped rows h

-- so it is after its cleaning
pub bare-cleaned : (script : Script) (S : State) (e : Entry) (t : ObjNo) → AreRows script S → Cleans script S e t → IsBare (next script S e.actor) t
bare-cleaned script S e t rows c =
    let known = c.known in
    let has = has-nothing S t known.row known.nothing in
    let later = after-cleaning script S e t c in record {
      left = left-after script S e t c;
      held = λ o. ap (λ (l : List (List ObjNo)). times_held l t o) later.mutexes ∙ ap (total (mutex_names o)) has.mutexes;
      logged = ap (λ (l : List (List (ObjNo × ℕ))). logons_on l t) later.logons ∙ has.logons;
      owned =
          ap (λ (l : List (List ObjNo)). owned_by l t) later.owned
          ∙ none-owned S (owned_by S.serving.owned t)
          (λ o some. rows.serving.servers.closing t.0 known.row o known.is (ap is_live known.doomed) some) has.servers;
    }
