-- A doomed thread weighs less after an action of its own.
use Rattle.std.proofs.Common.{◌≡◌, ◌<◌, Bool, true, List, [], ◌∷◌, ◌++◌, ap, refl, subst, sym, ◌∙◌}
use Rattle.std.proofs.lemmas.Bool.{eq-eqb}
use Rattle.sym_base.specs.declared.number.ObjNo.{ObjNo}
use Rattle.script_types.specs.declared.script.Script.{Script}
use Rattle.entry_log.specs.declared.entry.Actor.TheVariants.{Thread}
use Rattle.entry_log.specs.declared.entry.Entry.{Entry}
use Rattle.machine.specs.History.{after_in}
use Rattle.machine_safe.specs.CountAfter.{is_by}
use Rattle.machine_safe.specs.Safe.{IsSafeIn}
use Rattle.machine_safe.specs.SafeWeights.{is_dying}
use Rattle.machine_safe.specs.Weight.{weight_in}
use Rattle.kcore.specs.OneMore.{OneMore}

-- the last entry is its own, and the longer history is safe
pub lighter : (shared : Bool) (script : Script) (old new : List Entry) (e : Entry) (t : ObjNo) → new ≡ old ++ e ∷ []
    → e.actor ≡ Thread t → IsSafeIn shared script new → is_dying (after_in shared script old) t ≡ true
    → weight_in (after_in shared script new) t < weight_in (after_in shared script old) t
lighter shared script old new e t longer acts safe dying =
    let by : is_by t e.actor ≡ true = ap (is_by t) acts ∙ eq-eqb t.0 t.0 refl in
    subst (λ (es : List Entry). weight_in (after_in shared script es) t < weight_in (after_in shared script old) t) (sym longer)
    ((subst (IsSafeIn shared script) longer safe).weights.lowers old e [] t refl dying by)

pub lighter-more : (script : Script) (old new : List Entry) (t : ObjNo) → OneMore script old new (Thread t)
    → IsSafeIn true script new → is_dying (after_in true script old) t ≡ true
    → weight_in (after_in true script new) t < weight_in (after_in true script old) t
lighter-more script old new t more safe dying = lighter true script old new more.entry t more.longer (ap (λ (e : Entry). e.actor) more.told) safe dying
