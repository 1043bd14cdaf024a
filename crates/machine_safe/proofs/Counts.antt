-- The count that is read off a history is 0 exactly where the state's is.
use Rattle.std.proofs.Common.{◌≡◌, List, ◌++◌, arith, subst, ap, Bool, false}
use Rattle.std.specs.Prelude.{if◌then◌else◌}
use Rattle.sym_base.specs.declared.number.ObjNo.{ObjNo}
use Rattle.script_types.specs.declared.script.Script.{Script}
use Rattle.script_types.specs.Source.{IsWellFormed}
use Rattle.entry_log.specs.declared.entry.Entry.{Entry}
use Rattle.state_rows.specs.ObjectRows.{place_of}
use Rattle.machine.specs.Boot.{boot}
use Rattle.machine.specs.History.{after, IsLegal}
use Rattle.machine.specs.Out.{outs_of, seeks}
use Rattle.machine.specs.References.{count_of, total}
use Rattle.machine.specs.Rows.{object_of}
use Rattle.machine_laws.proofs.AtBoot.BootRows.{rows-boot}
use Rattle.machine_laws.proofs.Reached.AfterHistory.{well_formed-after}
use Rattle.machine_laws.proofs.Reached.Modes.{shared-after}
use Rattle.machine_safe.specs.CountAfter.{count_after, since_swept}
use Rattle.machine_safe.specs.Laws.{TellsZero}
use Rattle.machine_safe.proofs.LegalReferences.{shut-finds}
use Rattle.machine_safe.proofs.Runs.{run-front}
use Rattle.machine_safe.proofs.SafeHistories.{legal_run}
use Rattle.machine_safe.proofs.SinceSwept.{count_after-is, finds-shut, shut-since}

-- an object without a reference, on which nobody is out, isn't alive, so no later return opens it
pub count_after-zero : (script : Script) (first later : List Entry) (o : ObjNo) → IsWellFormed script
    → IsLegal script (first ++ later) → count_of (after script first) o ≡ 0 → count_after script first later o ≡ 0
count_after-zero script first later o valid legal zero =
    let T = after script first in
    let front = run-front script (boot script) first later (legal_run false script (first ++ later) valid legal) in
    let out : outs_of T o ≡ 0 =
    ap (λ (shared : Bool). if shared then total (seeks o (place_of (object_of T o))) T.references.threads else 0) (shared-after script (boot script) first) in
    let lives = (well_formed-after false script first valid).rows.lives in
    let shut = shut-finds false script first later o valid legal (λ alive. let some = lives.counted o alive in absurd (omega arith)) in
    let none = finds-shut (since_swept first o) later o (shut-since first later o shut) in
    let is = count_after-is false script first later o front (rows-boot false script valid).lives in omega arith

pub count_zero-after : (script : Script) (first later : List Entry) (o : ObjNo) → IsWellFormed script
    → IsLegal script (first ++ later) → count_after script first later o ≡ 0 → count_of (after script first) o ≡ 0
count_zero-after script first later o valid legal zero =
    let front = run-front script (boot script) first later (legal_run false script (first ++ later) valid legal) in
    let is = count_after-is false script first later o front (rows-boot false script valid).lives in omega arith

pub tells_zero : (script : Script) (history : List Entry) → IsWellFormed script → IsLegal script history → TellsZero script history
tells_zero script history valid legal = record {
  told = λ first later o is zero. count_after-zero script first later o valid (subst (IsLegal script) is legal) zero;
  counted = λ first later o is zero. count_zero-after script first later o valid (subst (IsLegal script) is legal) zero;
}
