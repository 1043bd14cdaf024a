-- Shared histories and runs: who makes a return, and when a part of a run is the whole.
use Rattle.std.proofs.Common.{◌≡◌, ℕ, ◌+◌, List, ◌∷◌, ◌++◌, length, append_assoc, arith, refl, ap, sym, subst, ◌∙◌, Bool, true, false, Option}
use Rattle.std.proofs.lemmas.Bool.{eq-eqb, eqb-true}
use Rattle.std.specs.Prelude.{◌&&◌}
use Rattle.sym_base.specs.declared.number.ObjNo.{ObjNo}
use Rattle.script_types.specs.declared.script.Script.{Script}
use Rattle.script_types.specs.Shape.{IsShaped}
use Rattle.script_types.specs.Source.{IsWellFormed as IsWellFormedScript}
use Rattle.script_types.proofs.ShapeLaws.{formed_is_shaped}
use Rattle.entry_log.specs.declared.entry.Actor.{Actor}
use Rattle.entry_log.specs.declared.entry.Actor.TheVariants.{Thread, Irq, Idfc, Tick, Idle}
use Rattle.entry_log.specs.declared.entry.Entry.{Entry}
use Rattle.state_rows.specs.declared.thread.ThreadRow.{ThreadRow}
use Rattle.state_rows.specs.ObjectRows.{place_of}
use Rattle.machine.specs.declared.state.State.{State}
use Rattle.machine.specs.Boot.{boot_in}
use Rattle.machine.specs.History.{after_from, after_in, choosing, is_deathless, next_by, IsShared}
use Rattle.machine.specs.Out.{is_returning, part_of}
use Rattle.machine.specs.Rows.{object_of, thread_of}
use Rattle.machine.specs.SharedRun.{is_return, slots_taken, IsSharedPart, IsSharedRun}
use Rattle.move_laws.proofs.References.Same.{same_object}
use Rattle.machine_laws.proofs.Reached.AfterHistory.{rows-keeping}
use Rattle.machine_laws.proofs.Reached.Modes.{able-keeping, shared-after}
use Rattle.machine_laws.proofs.Sharing.Returns.{is_back_next, returns-exactly}
use Rattle.machine_safe.specs.CountAfter.{is_by}
use Rattle.machine_safe.specs.FindsAndReturns.{finds_in, is_out_actor, returns_in, ComesBackNext, ReturnsExactly}
use Rattle.machine_safe.proofs.Finders.Actions.{out-on}
use Rattle.machine_safe.proofs.Finders.Runs.{Stands, out-still, stands-next, stands-rest, turns}
use Rattle.machine_safe.proofs.FindsCounted.{finds-counted}
use Rattle.machine_safe.proofs.LegalReferences.{stands-boot}

-- an entry is a return exactly if its actor found something and hasn't come back
module _ (script : Script) (shaped : IsShaped script) where
  returns-here : (S : State) (place : ℕ) (e : Entry) (es : List Entry) → Stands script S place (e ∷ es) → is_return e.step ≡ is_back_next S e.actor
  returns-here S place e es h =
      let keep = S.mode.shared && is_deathless e.effects in
      ap (λ (x : Entry). is_return x.step) h.legal.0.told
      ∙ (returns-exactly script (choosing e S) e.actor shaped (rows-keeping script S keep h.rows) h.at
      (able-keeping script S keep e.actor h.legal.0.able) ∙ same e.actor)
    where
      same : (actor : Actor) → is_back_next (choosing e S) actor ≡ is_back_next S actor
      same (Thread t) = refl
      same _ = refl

-- where callers share the kernel it is out then
shared-and : (shared b : Bool) → shared ≡ true → b ≡ (shared && b)
shared-and true b e = refl
shared-and false b e = absurd (cc)

out-back : (S : State) (actor : Actor) → S.mode.shared ≡ true → is_back_next S actor ≡ is_out_actor S actor
out-back S (Thread t) shared = shared-and S.mode.shared (is_returning (part_of (thread_of S t))) shared
out-back S _ shared = refl

pub returns-all : (script : Script) (history : List Entry) → IsWellFormedScript script → IsShared script history → ReturnsExactly script history
returns-all script history valid legal before e later is =
    let shaped = formed_is_shaped script valid in
    let S = boot_in true script in
    let rest = stands-rest script shaped S 1 before (e ∷ later) (subst (Stands script S 1) is (stands-boot true script history valid legal)) in
    returns-here script shaped (after_in true script before) rest.0 e later rest.1
    ∙ out-back (after_in true script before) e.actor (shared-after script S before)

-- whoever found an object is between the find and its return until its next entry
pub comes-next-all : (script : Script) (history : List Entry) → IsWellFormedScript script → IsShared script history → ComesBackNext history
comes-next-all script history valid legal before find between back later t o is by_find found none by_back =
    let shaped = formed_is_shaped script valid in
    let all : Stands script (boot_in true script) 1 (before ++ ((find ∷ between) ++ (back ∷ later))) =
    subst (Stands script (boot_in true script) 1) (is ∙ append_assoc before (find ∷ between) (back ∷ later))
    (stands-boot true script history valid legal) in
    let first = stands-rest script shaped (boot_in true script) 1 before (find ∷ between ++ back ∷ later) all in
    let S = after_in true script before in
    let T = next_by script S find in
    let out = (turns script shaped S first.0 find (between ++ back ∷ later) first.1).found t o (ap (is_by t) by_find ∙ eq-eqb t.0 t.0 refl) found in
    let behind = stands-next script shaped S first.0 find (between ++ back ∷ later) first.1 in
    let still = out-still script shaped T (first.0 + 1) between (back ∷ later) behind t o (place_of (object_of S o)) none in
    let last = stands-rest script shaped T (first.0 + 1) between (back ∷ later) behind in
    let U = after_from script T between in
    let on = out-on U t o (place_of (object_of S o)) (omega arith) in
    returns-here script shaped U last.0 back later last.1
    ∙ acts U back.actor (ap (λ (r : Option ThreadRow). is_returning (part_of r)) on.is ∙ on.returns) by_back
  where
    acts : (U : State) (actor : Actor) → is_returning (part_of (thread_of U t)) ≡ true → is_by t actor ≡ true → is_back_next U actor ≡ true
    acts U (Thread u) returns by = subst (λ (x : ObjNo). is_returning (part_of (thread_of U x)) ≡ true) (sym (same_object u t (eqb-true u.0 t.0 by))) returns
    acts U (Irq k) returns by = absurd (cc)
    acts U Idfc returns by = absurd (cc)
    acts U Tick returns by = absurd (cc)
    acts U Idle returns by = absurd (cc)

-- a part that takes all slots and brings everybody back is the whole
pub run-whole : (script : Script) (history : List Entry) → IsWellFormedScript script → IsSharedPart script history
    → slots_taken history ≡ length script.slots → returns_in history ≡ finds_in history → IsSharedRun script history
run-whole script history valid part all back = record { part = part; all = all; back = (finds-counted script history valid part.shared).back back }
