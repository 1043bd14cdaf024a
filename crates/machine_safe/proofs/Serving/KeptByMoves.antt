-- What moves that fit leave of servers and sessions, one after the other, and what a payment does.
use Rattle.entry_log.specs.declared.effect.Effect.{Effect}
use Rattle.machine.specs.Fits.{EachFits, FitsMove, Sane, most_owed}
use Rattle.machine.specs.Moves.{moved, perform, tell, told}
use Rattle.machine.specs.References.{total}
use Rattle.machine.specs.Kept.{dies}
use Rattle.machine.specs.Rows.{object_of, owed_of}
use Rattle.machine.specs.WellFormed.{AreRows, weight, IsAlive}
use Rattle.machine.specs.declared.moves.Move.{Move}
use Rattle.machine.specs.declared.moves.Move.TheVariants.{Pay, Death}
use Rattle.machine.specs.declared.state.State.{State}
use Rattle.machine_safe.proofs.Serving.KeptServers.{Keeps, changing_bit, keeps-none, keeps-then, StillLinked}
use Rattle.machine_safe.proofs.Serving.KeptRows.{at-pay, at-move, at-steps, link-closed, link-move, objects-closed, objects-move, owned-move, server-move, server-same}
use Rattle.machine_safe.proofs.Serving.MovesTold.{unlinking-close, unlinking-move, unowned-close, unowned-move}
use Rattle.move_laws.proofs.Lives.Fresh.{next_fresh}
use Rattle.move_laws.proofs.Lists.Sets.{set_default}
use Rattle.move_laws.proofs.MoveLaws.Run.{sane-after, sound-move, weight-move}
use Rattle.move_laws.proofs.References.Same.{same_is}
use Rattle.script_types.specs.declared.script.Script.{Script}
use Rattle.state_rows.proofs.SoundChanges.{set_item}
use Rattle.state_rows.specs.ServerChanges.{after_sweep}
use Rattle.state_rows.specs.ServerRows.{closes, link_of, server_at, server_of, session_at}
use Rattle.state_rows.specs.declared.servers.ServerRows.{ServerRows}
use Rattle.state_rows.specs.declared.servers.SessionRow.{SessionRow}
use Rattle.state_rows.specs.declared.duty.Owed.{Owed}
use Rattle.state_rows.specs.declared.duty.Owed.TheVariants.{Close, Sweep}
use Rattle.state_rows.specs.declared.servers.ServerRow.{ServerRow}
use Rattle.std.proofs.Common.{List, None, Option, Some, [], ap, arith, get_or, get_or-set_other, refl, ℕ, ◌+◌, ◌<◌, ◌∙◌, ◌∷◌, ◌≡◌, ◌≤◌, subst, sym, true, inl, inr}
use Rattle.std.proofs.lemmas.Bool.{cases_eq}
use Rattle.std.specs.Prelude.{is_some}
use Rattle.sym_base.specs.declared.number.ObjNo.{ObjNo}
use Rattle.machine.specs.Serving.{times_owned}
use Rattle.machine_laws.proofs.Fitting.Regular.{doomed_bit}
use Rattle.machine.specs.declared.death_move.DeathMove.TheVariants.{Doom}
use Rattle.machine_safe.proofs.Serving.KeptUses.{alive-closed, alive-move, linked-closed, linked-move, session-closed, session-move}
use Rattle.state_rows.specs.declared.object.ObjectRow.{ObjectRow}

-- each server is there
abbrev pub AreMade : State → Type 0
AreMade S = (o : ObjNo) (row : ServerRow) → server_at S.serving.servers o ≡ Some row → is_some (object_of S o) ≡ true

-- who is doomed owns closing servers alone
doomed-move : (script : Script) (S : State) (t : ObjNo) (m : Move) → FitsMove script t m S → (u o : ObjNo) (row : ServerRow)
    → 0 < total (doomed_bit u) (m ∷ []) → 0 < times_owned (moved t m S).serving.owned u o
    → server_at (moved t m S).serving.servers o ≡ Some row → row.is_closing ≡ true
doomed-move script S t (Death (Doom v exit)) fits u o row some owned is =
    let own : v ≡ u = same_is v u (omega arith) in
    sym (ap closes is) ∙ fits.4 o (subst (λ (x : ObjNo). 0 < times_owned S.serving.owned x o) (sym own) owned)
doomed-move script S t m fits u o row some owned is = absurd (omega arith)

pub keeps-move : (script : Script) (S : State) (t : ObjNo) (m : Move) → AreRows script S → AreMade S
    → FitsMove script t m S → changing_bit m ≡ 0 → Keeps S (moved t m S) t (m ∷ []) (told m S)
keeps-move script S t m rows made fits none = record {
  servers = server-move script S t m rows fits none;
  links = link-move script S t m fits none;
  owned = owned-move script S t m made fits none;
  doomed = doomed-move script S t m fits;
  objects = λ o row is some. objects-move script S t m fits o some;
  alive =
      λ s row is alive. alive-move script S t m fits s (λ at.
      let was = session-move script S t m fits none s row is in
      let gone : session_at S.serving.servers s ≡ None =
      ap (λ (n : ℕ). get_or S.serving.servers.sessions n None) at ∙ (next_fresh script S rows).session in
      let there = was.was in absurd (cc)) alive;
  slots = session-move script S t m fits none;
  linked = λ s v row there is. linked-move script S t m fits none s v is;
  threads = at-move script S t m fits;
  unlinked = (unlinking-move script S t m fits none).unlinked;
  unended = (unlinking-move script S t m fits none).unended;
  unowned = λ unlocked v. unowned-move script S t m made fits none (omega arith) v;
}

pub made-kept : (S T : State) (t : ObjNo) (ms : List Move) (effects : List Effect) → AreMade S → Keeps S T t ms effects → AreMade T
made-kept S T t ms effects made keeps o row is = let was = keeps.servers o row is in keeps.objects o row is (made o was.old was.was)

pub keeps-each : (script : Script) (S : State) (t : ObjNo) (ms : List Move) → EachFits script t ms S
    → total weight (owed_of S t) + total most_owed ms ≤ 12 → Sane script t S → AreMade S → total changing_bit ms ≡ 0
    → Keeps S (perform t ms S) t ms (tell t ms S)
keeps-each script S t [] fits few s made none = keeps-none S t
keeps-each script S t (m ∷ ms) fits few s made none =
    let T = moved t m S in
    let one = sound-move script S t m fits.0 (omega arith) s in
    let w = weight-move script S t m fits.0 in
    let first = keeps-move script S t m s.rows made fits.0 (omega arith) in
    keeps-then S T (perform t ms T) t m ms (told m S) (tell t ms T) first
    (keeps-each script T t ms fits.1 (omega arith) (sane-after script S T t (told m S) s one)
    (made-kept S T t (m ∷ []) (told m S) made first) (omega arith))

-- what a sweep leaves was there
server-left : (r : ServerRows) (o x : ObjNo) (row : ServerRow) → server_at (after_sweep r o) x ≡ Some row → server_at r x ≡ Some row
server-left r o x row is = set_item (λ (y : Option ServerRow). y ≡ Some row → server_at r x ≡ Some row) r.servers o.0 x.0 None None
    (λ at e. absurd (cc)) (λ e. e) is

session-left : (r : ServerRows) (o s : ObjNo) (row : SessionRow) → session_at (after_sweep r o) s ≡ Some row → session_at r s ≡ Some row
session-left r o s row is = set_item (λ (y : Option SessionRow). y ≡ Some row → session_at r s ≡ Some row) r.sessions o.0 s.0 None None
    (λ at e. absurd (cc)) (λ e. e) is

-- a payment
pub keeps-pay : (script : Script) (S : State) (t : ObjNo) (what : Owed) (rest : List Owed) → AreRows script S
    → owed_of S t ≡ what ∷ rest → Keeps S (moved t (Pay what) S) t (Pay what ∷ []) (told (Pay what) S)
keeps-pay script S t (Close h o) rest rows owes = record {
  servers = λ x row is. server-same S.serving.servers (Pay (Close h o) ∷ []) x row is;
  links = λ s x is. link-closed (dies S o) o S.serving.servers s x is;
  owned = refl;
  doomed = λ u x row some owned is. absurd (omega arith);
  objects = λ x row is some. objects-closed (dies S o) o x S.references.objects ∙ some;
  alive = λ s row is alive. alive-closed (dies S o) o S.references.objects s alive;
  slots = λ s row is. session-closed (dies S o) o S.serving.servers s row is;
  linked =
      λ s v row there is. elim (linked-closed (dies S o) o S.references.objects S.serving.servers s v is) as
      (λ _. StillLinked (moved t (Pay (Close h o)) S) (Pay (Close h o) ∷ []) s v) [
        | inl still ↦ inl still
        | inr dead ↦ inr (inl dead)
      ];
  threads = λ k row is. at-steps S.references.threads t (Pay (Close h o) ∷ []) k row refl (at-pay S t (Close h o) k row is);
  unlinked = (unlinking-close (dies S o) h o).unlinked;
  unended = (unlinking-close (dies S o) h o).unended;
  unowned = λ none v. unowned-close (dies S o) h o v;
}
keeps-pay script S t (Sweep o) rest rows owes = record {
  servers = λ x row is. server-same S.serving.servers (Pay (Sweep o) ∷ []) x row (server-left S.serving.servers o x row is);
  links = λ s x is. set_item (λ (y : Option SessionRow). link_of y ≡ Some x → server_of S.serving.servers s ≡ Some x)
      S.serving.servers.sessions o.0 s.0 None None (λ at e. absurd (cc)) (λ e. e) is;
  owned = refl;
  doomed = λ u x row some owned is. absurd (omega arith);
  objects = λ x row is some. elim (cases_eq x.0 o.0) as (λ _. is_some (object_of (moved t (Pay (Sweep o)) S) x) ≡ true) [
    | inl at ↦ let gone = set_default S.serving.servers.servers o.0 x.0 None at in absurd (cc)
    | inr apart ↦ ap is_some (get_or-set_other S.references.objects o.0 x.0 None None apart) ∙ some
  ];
  alive =
      λ s row is alive. set_item (λ (y : Option ObjectRow). IsAlive y → IsAlive (get_or S.references.objects s.0 None))
      S.references.objects o.0 s.0 None None (λ at none. absurd none) (λ e. e) alive;
  slots = λ s row is. record { old = row; was = session-left S.serving.servers o s row is; slots = refl };
  linked = λ s v row there is. inl (ap link_of there ∙ (sym (ap link_of (session-left S.serving.servers o s row there)) ∙ is));
  threads = λ k row is. at-steps S.references.threads t (Pay (Sweep o) ∷ []) k row refl (at-pay S t (Sweep o) k row is);
  unlinked = λ s. refl;
  unended = λ v. refl;
  unowned = λ none v. refl;
}
