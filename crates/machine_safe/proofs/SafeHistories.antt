-- The references of a run from boot are safe.
use Rattle.std.proofs.Common.{inl, inr, ◌≡◌, ◌+◌, ◌<◌, Bool, false, List, [], ◌∷◌, ◌++◌, arith, sym, subst, ◌∙◌, ap, ◌≤◌}
use Rattle.std.specs.Prelude.{◌&&◌, if◌then◌else◌}
use Rattle.std.proofs.lemmas.List.{append_assoc}
use Rattle.sym_base.specs.declared.number.ObjNo.{ObjNo}
use Rattle.script_types.specs.declared.script.Script.{Script}
use Rattle.script_types.specs.Shape.{IsShaped}
use Rattle.script_types.specs.Source.{IsWellFormed}
use Rattle.script_types.proofs.ShapeLaws.{formed_is_shaped}
use Rattle.entry_log.specs.declared.entry.Entry.{Entry}
use Rattle.machine.specs.Boot.{boot, boot_in, uses_again}
use Rattle.machine.specs.HeldIn.{held_in}
use Rattle.machine.specs.History.{after, after_from, after_in, choosing, is_deathless, IsLegalIn}
use Rattle.machine.specs.Holding.{EachFitsHolders, held_at_boot}
use Rattle.machine.specs.Out.{outs_of, seeks}
use Rattle.machine.specs.References.{count_of, minuses, total}
use Rattle.machine.specs.Rows.{object_of}
use Rattle.machine.specs.Told.{deaths, removals}
use Rattle.machine.specs.WellFormed.{IsAlive, is_dead}
use Rattle.state_rows.specs.ObjectRows.{place_of}
use Rattle.machine_laws.proofs.AtBoot.BootHolders.{held-boot, not_dead-boot}
use Rattle.machine_laws.proofs.AtBoot.BootRows.{rows-boot}
use Rattle.machine_laws.proofs.Reached.AfterHistory.{rows-keeping, well_formed-after}
use Rattle.move_laws.proofs.Lives.Bits.{alive_undead, dead_le, gone_le}
use Rattle.move_laws.proofs.Lives.LivesMove.{lives-dies, zero_or}
use Rattle.move_laws.proofs.MoveLaws.Sound.{Sound}
use Rattle.move_laws.proofs.References.Effects.{fits-same, removals-append}
use Rattle.machine_safe.specs.CountAfter.{effects_of, count_after, since_swept}
use Rattle.machine_safe.specs.SafeReferences.{IsSafeReferences, DiesOnceALife, HasOneLife, DiesOnlyAtZero, DiesAtZero, MissesTheDead}
use Rattle.machine_laws.proofs.Reached.Modes.{shared-after}
use Rattle.machine_safe.proofs.SinceSwept.{AreShut, count_after-is, finds-shut, shut-since}
use Rattle.machine_safe.proofs.Runs.{effects-append, IsSoundRun, legal_runs, run-front, run-rest, run-last, run-closed, run-dead, run-fits, run-gone, run-reuse, run-unopened}
use Rattle.entry_log.specs.declared.effect.Effect.{Effect}
use Rattle.std.proofs.lemmas.Bool.{cases_lt}

-- a run from boot, split at an entry: the run so far, the entry's step, and the rest
pub record IsSplit (shared : Bool) (script : Script) (before : List Entry) (e : Entry) (later : List Entry) : Type 0 where
  pub front : IsSoundRun script (boot_in shared script) before
  pub run : IsSoundRun script (boot_in shared script) (before ++ e ∷ [])
  pub step : Sound script (choosing e (after_from script (boot_in shared script) before))
      (after_from script (boot_in shared script) (before ++ e ∷ [])) e.effects
  pub rest : IsSoundRun script (after_from script (boot_in shared script) (before ++ e ∷ [])) later

pub split : (shared : Bool) (script : Script) (history before : List Entry) (e : Entry) (later : List Entry)
    → IsSoundRun script (boot_in shared script) history → history ≡ before ++ e ∷ later
    → IsSplit shared script before e later
split shared script history before e later run is =
    let at : IsSoundRun script (boot_in shared script) ((before ++ e ∷ []) ++ later) =
    subst (IsSoundRun script (boot_in shared script)) (is ∙ sym (append_assoc before (e ∷ []) later)) run in
    let first = run-front script (boot_in shared script) (before ++ e ∷ []) later at in
    record {
      front = run-front script (boot_in shared script) before (e ∷ []) first;
      run = first;
      step = run-last script (boot_in shared script) before e first;
      rest = run-rest script (boot_in shared script) (before ++ e ∷ []) later at;
    }

-- nothing is dead at boot
not_dead : (shared : Bool) (script : Script) → IsShaped script → (o : ObjNo) → is_dead (object_of (boot_in shared script) o) ≡ 0
not_dead shared script shaped o = not_dead-boot script shaped o

-- an object that died in an entry is dead after it, and isn't swept in it
dead_then : (shared : Bool) (script : Script) (before : List Entry) (e : Entry) (later : List Entry) (o : ObjNo)
    → IsSplit shared script before e later → 0 < deaths e.effects o
    → (is_dead (object_of (after_from script (boot_in shared script) (before ++ e ∷ [])) o) ≡ 1) × (removals e.effects o ≡ 0)
dead_then shared script before e later o s dead =
    let moved = s.step.lives.deads o in
    let le = dead_le (object_of (after_from script (boot_in shared script) (before ++ e ∷ [])) o) in
    let unswept = zero_or (removals e.effects o) (λ some. let none = (s.step.lives.removes o some).1 in absurd (omega arith)) in
    (omega arith, unswept)

-- it dies only where its last reference goes, if nobody who found it before opens it later
pub dies_only_at_zero : (shared : Bool) (script : Script) (history : List Entry) → IsWellFormed script
    → IsSoundRun script (boot_in shared script) history → (o : ObjNo)
    → ((first later : List Entry) → history ≡ first ++ later → (IsAlive (object_of (after_in shared script first) o) → ⊥) → AreShut first later o)
    → DiesOnlyAtZero script history o
dies_only_at_zero shared script history valid run o shut before e later is dead =
    let s = split shared script history before e later run is in
    let last = s.step.lives.last o dead in
    let one = (dead_then shared script before e later o s dead).0 in
    let T = after_in shared script (before ++ e ∷ []) in
    let behind = shut (before ++ e ∷ []) later (is ∙ sym (append_assoc before (e ∷ []) later))
    (λ alive. let undead = alive_undead (object_of T o) alive in absurd (omega arith)) in
    let none = finds-shut (since_swept (before ++ e ∷ []) o) later o (shut-since (before ++ e ∷ []) later o behind) in
    let count = count_after-is shared script (before ++ e ∷ []) later o s.run (rows-boot shared script valid).lives in
    let zero : count_of (after_from script (boot_in shared script) (before ++ e ∷ [])) o ≡ 0 = last.1 in
    (last.0, omega arith)

-- where nobody is out, it dies where its last reference goes
pub dies_unless_out : (shared : Bool) (script : Script) (before : List Entry) (e : Entry) (later : List Entry)
    (o : ObjNo)
    → IsWellFormed script → IsSplit shared script before e later → 0 < minuses e.effects o
    → count_after script (before ++ e ∷ []) later o ≡ 0 → outs_of (after_in shared script (before ++ e ∷ [])) o ≡ 0
    → 0 < deaths e.effects o
dies_unless_out shared script before e later o valid s taken zero out =
    let S = after_in shared script before in
    let T = after_in shared script (before ++ e ∷ []) in
    let count = count_after-is shared script (before ++ e ∷ []) later o s.run (rows-boot shared script valid).lives in
    let rows = rows-keeping script S (S.mode.shared && is_deathless e.effects) (well_formed-after shared script before valid).rows in
    lives-dies (choosing e S) T e.effects s.step.lives rows.lives o taken (omega arith)

-- so it does in each history that a single caller makes
pub dies_at_zero : (script : Script) (history : List Entry) → IsWellFormed script
    → IsSoundRun script (boot script) history → (o : ObjNo) → DiesAtZero false script history o
dies_at_zero script history valid run o before e later is taken zero =
    let s = split false script history before e later run is in
    let T = after script (before ++ e ∷ []) in
    let alone : T.mode.shared ≡ false = shared-after script (boot script) (before ++ e ∷ []) in
    inl (dies_unless_out false script before e later o valid s taken zero
    (ap (λ (shared : Bool). if shared then total (seeks o (place_of (object_of T o))) T.references.threads else 0) alone))

-- an object dies once a life, and nobody opens it from its death until its sweep
dies_once : (shared : Bool) (script : Script) (history : List Entry) → IsShaped script
    → IsSoundRun script (boot_in shared script) history → (o : ObjNo) → DiesOnceALife history o
dies_once shared script history shaped run o = record {
  dies = λ before e later is.
      let s = split shared script history before e later run is in
      let all = run-dead script (boot_in shared script) (before ++ e ∷ []) o s.run in
      let front = run-dead script (boot_in shared script) before o s.front in
      let undead = not_dead shared script shaped o in
      let le = dead_le (object_of (after_from script (boot_in shared script) (before ++ e ∷ [])) o) in
      let more = one_more before e o in
      elim (cases_lt 0 (removals e.effects o)) as (λ _. deaths (effects_of (before ++ e ∷ [])) o ≤ removals (effects_of before) o + 1) [
        | inl some ↦ let swept = s.step.lives.removes o some in let moved = s.step.lives.deads o in omega arith
        | inr quiet ↦ omega arith
      ];
  swept = λ before e later is.
      let s = split shared script history before e later run is in
      let front = run-dead script (boot_in shared script) before o s.front in
      let undead = not_dead shared script shaped o in
      let more = one_more before e o in
      let moved = s.step.lives.deads o in
      elim (cases_lt 0 (removals e.effects o)) as (λ _. removals (effects_of (before ++ e ∷ [])) o ≤ deaths (effects_of before) o) [
        | inl some ↦ let swept = s.step.lives.removes o some in omega arith
        | inr quiet ↦ omega arith
      ];
  closed = λ before e until later is dead unswept.
      let s = split shared script history before e (until ++ later) run is in
      let T = after_from script (boot_in shared script) (before ++ e ∷ []) in
      run-closed script T until o (run-front script T until later s.rest) (dead_then shared script before e (until ++ later) o s dead).0 unswept;
}
  where
    one_more : (before : List Entry) (e : Entry) (o : ObjNo)
        → removals (effects_of (before ++ e ∷ [])) o ≡ removals (effects_of before) o + removals e.effects o
    one_more before e o =
        let same = ap (λ (l : List Effect). removals l o) (effects-append before (e ∷ [])) in
        let both = removals-append (effects_of before) (effects_of (e ∷ [])) o in
        let last = removals-append e.effects [] o in omega arith

-- where numbers aren't used again it has one life
has_one_life : (shared : Bool) (script : Script) (history : List Entry) → IsSoundRun script (boot_in shared script) history
    → uses_again script.version ≡ false → (o : ObjNo) → HasOneLife history o
has_one_life shared script history run first o = record {
  dies =
      let a = run-gone script (boot_in shared script) history o first run in
      let b = gone_le (after_from script (boot_in shared script) history).references.objects o in omega arith;
  closed = λ before e later is dead.
      let s = split shared script history before e later run is in
      let S = after_from script (boot_in shared script) before in
      let T = after_from script (boot_in shared script) (before ++ e ∷ []) in
      let reuse = run-reuse script (boot_in shared script) before s.front ∙ first in
      let moved = (s.step.lives.once reuse).stays o in
      let le = gone_le T.references.objects o in
      run-unopened script T later o (run-reuse script (boot_in shared script) (before ++ e ∷ []) s.run ∙ first) s.rest (omega arith);
}

-- each Plus names a holder that doesn't hold the object then, and each Minus one that does
pub run-holders : (shared : Bool) (script : Script) (history : List Entry) → IsShaped script
    → IsSoundRun script (boot_in shared script) history → EachFitsHolders (held_at_boot script) (effects_of history)
run-holders shared script history shaped run =
    fits-same (held_in (boot_in shared script)) (held_at_boot script) (effects_of history) (held-boot script shaped)
    (run-fits script (boot_in shared script) history run)

-- a sound run from boot is safe
pub run-safe : (shared : Bool) (script : Script) (history : List Entry) → IsShaped script
    → IsSoundRun script (boot_in shared script) history → ((o : ObjNo) → DiesOnlyAtZero script history o)
    → ((o : ObjNo) → DiesAtZero shared script history o)
    → ((o : ObjNo) → MissesTheDead history o) → IsSafeReferences shared script history
run-safe shared script history shaped run only always missed = record {
  holders = run-holders shared script history shaped run;
  only = only;
  always = always;
  lives = dies_once shared script history shaped run;
  missed = missed;
  once = has_one_life shared script history run;
}

-- the entries of a legal history are a sound run from boot
pub legal_run : (shared : Bool) (script : Script) (history : List Entry) → IsWellFormed script
    → IsLegalIn shared script history → IsSoundRun script (boot_in shared script) history
legal_run shared script history valid legal =
    legal_runs script (boot_in shared script) 1 history (formed_is_shaped script valid)
    (rows-boot shared script valid) legal
