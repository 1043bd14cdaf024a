-- What a return tells: the thread uses what it found, or misses it where that died.
use Rattle.std.proofs.Common.{◌≡◌, ◌∙◌, ◌⊎◌, inl, inr, sym, ap, refl, subst, arith, ℕ, ◌<◌, List, [], ◌∷◌, ◌++◌, append-nil, Bool, true, false, Option, Some, None}
use Rattle.std.specs.Prelude.{◌&&◌, ◌||◌, ◌==◌, nat_lt, not, if◌then◌else◌}
use Rattle.std.proofs.lemmas.Bool.{and_from, and_parts, eq-eqb, false≢true, ltb-false, not-true, not_from_false}
use Rattle.sym_base.specs.declared.number.ObjNo.{ObjNo}
use Rattle.sym_base.specs.declared.word.Word.{Word}
use Rattle.script_types.specs.declared.instruction.Instr.{Instr}
use Rattle.script_types.specs.declared.instruction.Instr.TheVariants as instr
use Rattle.script_types.specs.declared.script.Script.{Script}
use Rattle.script_types.specs.Shape.{IsShaped}
use Rattle.script_types.specs.Source.{IsWellFormed}
use Rattle.script_types.proofs.ShapeLaws.{formed_is_shaped}
use Rattle.entry_log.specs.declared.effect.Effect.{Effect}
use Rattle.entry_log.specs.declared.effect.Effect.TheVariants.{Plus, Missed}
use Rattle.entry_log.specs.declared.effect.Holder.TheVariants.{Temp}
use Rattle.entry_log.specs.declared.entry.Actor.TheVariants.{Thread}
use Rattle.entry_log.specs.declared.entry.Entry.{Entry}
use Rattle.entry_log.specs.declared.step.Part.{Part}
use Rattle.state_rows.specs.declared.object.ObjectRow.{ObjectRow}
use Rattle.state_rows.specs.declared.thread.ThreadRow.{ThreadRow}
use Rattle.machine.specs.declared.decision.Decision.{Decision}
use Rattle.machine.specs.declared.state.State.{State}
use Rattle.state_rows.specs.ObjectRows.{place_of}
use Rattle.machine.specs.Boot.{boot_in, uses_again}
use Rattle.machine.specs.Find.{is_open, miss, return_to}
use Rattle.machine.specs.History.{after_from, after_in, choosing, entry_by, transition, IsLegalFrom, IsShared}
use Rattle.machine.specs.Moves.{tell}
use Rattle.machine.specs.Out.{is_out, is_returning, part_of, seeks}
use Rattle.machine.specs.Rows.{object_of, thread_of}
use Rattle.machine.specs.Steps.{decision_of, decision_of_row, decision_where, return_of}
use Rattle.machine.specs.Task.{instruction, is_able, may_act, task_of, task_of_row}
use Rattle.machine.specs.ThreadCalls.{is_live}
use Rattle.machine.specs.Told.{deaths, removals}
use Rattle.machine.specs.Transition.{act}
use Rattle.machine.specs.WellFormed.{IsAlive, is_dead}
use Rattle.move_laws.proofs.Lists.Cases.{if_cases}
use Rattle.move_laws.proofs.Lives.Bits.{alive_not_gone, alive_undead}
use Rattle.machine_laws.proofs.AtBoot.BootHolders.{not_dead-boot}
use Rattle.machine_laws.proofs.Sharing.Seekers.{seeks-one}
use Rattle.machine_laws.proofs.Fitting.Regular.{finds_by_name}
use Rattle.machine_safe.specs.CountAfter.{effects_of, since_swept}
use Rattle.machine_safe.proofs.Finders.Actions.{AtFinds, return-first}
use Rattle.machine_safe.proofs.Finders.Entries.{out-boot}
use Rattle.machine_safe.proofs.Finders.Runs.{Stands, stands-rest}
use Rattle.machine_safe.proofs.LegalReferences.{after_from-append, stands-boot}
use Rattle.machine_safe.proofs.Runs.{IsSoundRun, run-dead, run-gone, run-rest}
use Rattle.machine_safe.proofs.SinceSwept.{since-rest}
use Rattle.machine_safe.proofs.SafeHistories.{legal_run}
use Rattle.kcore.specs.OneMore.{ReturnsBy}
use Rattle.shared_kernel.specs.Returns.{Died, Misses, Uses}
use Rattle.shared_kernel.proofs.FoundDied.{Stood, died-told, finds-stand}

-- what an object's row says of its death
open-row : (place : ℕ) (row : Option ObjectRow) → is_open place row ≡ true → IsAlive row
open-row place None opened = absurd (cc)
open-row place (Some row) opened = not-true row.dead (and_parts (not row.dead) (row.place == place) opened).0

shut-row : (place : ℕ) (row : Option ObjectRow) → is_open place row ≡ false → IsAlive row → place_of row ≡ place → ⊥
shut-row place None shut alive same = absurd alive
shut-row place (Some row) shut alive same =
    let opened : (not row.dead && row.place == place) ≡ true =
    and_from (not row.dead) (row.place == place) (not_from_false row.dead alive) (eq-eqb row.place place same) in
    absurd (cc)

-- what the last sweep of a number leaves of a history says nothing more of a sweep
since-unswept : (es : List Entry) (o : ObjNo) → removals (effects_of (since_swept es o)) o ≡ 0
since-unswept [] o = refl
since-unswept (e ∷ es) o = by (nat_lt 0 (removals (effects_of (e ∷ es)) o)) refl (since-unswept es o)
  where
    by : (b : Bool) → nat_lt 0 (removals (effects_of (e ∷ es)) o) ≡ b → removals (effects_of (since_swept es o)) o ≡ 0
        → removals (effects_of (if b then since_swept es o else e ∷ es)) o ≡ 0
    by true some rest = rest
    by false none rest = let few = ltb-false 0 (removals (effects_of (e ∷ es)) o) none in omega arith

-- the decision of a return: its moves tell that the object is used, if that may be opened, and else that it is missed
record Back (S : State) (t : ObjNo) (row : ThreadRow) (d : Decision) : Type 0 where
  uses : is_open row.sought_place (object_of S row.sought) ≡ true → tell t d.moves S ≡ Plus (Temp t) row.sought ∷ []
  misses : is_open row.sought_place (object_of S row.sought) ≡ false → tell t d.moves S ≡ Missed row.sought ∷ []

back-to : (S : State) (t : ObjNo) (row : ThreadRow) (word : Word) (p : Part) → Back S t row (return_to S t row word p)
back-to S t row word p =
    if_cases (Back S t row) (is_open row.sought_place (object_of S row.sought)) _ _
    (λ opened. record { uses = λ _. refl; misses = λ shut. absurd (cc) }) (λ shut. missed shut (is_live row.stage))
  where
    missed : is_open row.sought_place (object_of S row.sought) ≡ false → (live : Bool) → Back S t row (miss t word row.sought live)
    missed shut true = record { uses = λ opened. absurd (cc); misses = λ _. refl }
    missed shut false = record { uses = λ opened. absurd (cc); misses = λ _. refl }

back : (S : State) (t : ObjNo) (row : ThreadRow) (i : Instr) → finds_by_name (Some i) ≡ true → Back S t row (return_of S t row i)
back S t row (instr.Open kind name x) finds = back-to S t row _ _
back S t row (instr.Connect name slots x) finds = back-to S t row _ _
back S t row i finds = absurd (cc)

back-decided : (script : Script) (S : State) (t : ObjNo) (row : ThreadRow) → AtFinds script S
    → may_act script S t ≡ true → thread_of S t ≡ Some row → is_returning row.part ≡ true
    → Back S t row (decision_of script S t)
back-decided script S t row at may is returns = by (instruction script row) refl
  where
    by : (x : Option Instr) → instruction script row ≡ x → Back S t row (decision_of script S t)
    by None e = let found = at t row is returns in let none = ap finds_by_name e in absurd (cc)
    by (Some i) e =
        let acts : decision_of script S t ≡ decision_of_row script S t (thread_of S t) (task_of script S t) =
        ap (λ (b : Bool). decision_where script b S t (task_of script S t)) may in
        let there : decision_of_row script S t (thread_of S t) (task_of script S t)
        ≡ decision_of_row script S t (Some row) (task_of_row script S t (Some row)) =
        ap (λ (x : Option ThreadRow). decision_of_row script S t x (task_of_row script S t x)) is in
        subst (Back S t row) (sym (acts ∙ (there ∙ return-first script S t row (is_returning row.part) (instruction script row) _ i returns e)))
        (back S t row i (sym (ap finds_by_name e) ∙ at t row is returns))

back-effects : (script : Script) (S : State) (t : ObjNo) (row : ThreadRow) → Back S t row (decision_of script S t)
    → (effects : List Effect) → effects ≡ (act script S t).outcome.effects
    → (is_open row.sought_place (object_of S row.sought) ≡ true → effects ≡ Plus (Temp t) row.sought ∷ [])
    × (is_open row.sought_place (object_of S row.sought) ≡ false → effects ≡ Missed row.sought ∷ [])
unfolding act
back-effects script S t row b effects told = (λ opened. told ∙ b.uses opened, λ shut. told ∙ b.misses shut)

-- who is out may act
out-may : (able shared returns : Bool) → (shared && returns) ≡ true → (able || (shared && returns)) ≡ true
out-may true shared returns out = refl
out-may false shared returns out = out

out-returns : (shared returns : Bool) → (shared && returns) ≡ true → returns ≡ true
out-returns true returns out = out
out-returns false returns out = absurd (cc)

-- what a thread that is out found, and what its return tells
pub record Comes (script : Script) (old : List Entry) (S : State) (t : ObjNo) (effects : List Effect) : Type 0 where
  pub object : ObjNo
  pub sought : ℕ
  pub found : 0 < seeks object sought (thread_of S t)
  pub tells : Uses script old t object effects ⊎ Misses script old object sought effects

module _ (script : Script) (old new : List Entry) (t : ObjNo) (valid : IsWellFormed script)
    (legal : IsShared script old) (made : ReturnsBy script old new t) where
  abbrev S : State
  S = after_in true script old

  shaped : IsShaped script
  shaped = formed_is_shaped script valid

  at-boot : Stands script (boot_in true script) 1 old
  at-boot = stands-boot true script old valid legal

  stands : AtFinds script S
  stands = (stands-rest script shaped (boot_in true script) 1 old [] (subst (Stands script (boot_in true script) 1) (sym (append-nil old)) at-boot)).1.at

  sound : IsSoundRun script (boot_in true script) old
  sound = legal_run true script old valid legal

  seen : (row : ThreadRow) → thread_of S t ≡ Some row → is_returning row.part ≡ true → 0 < seeks row.sought row.sought_place (thread_of S t)
  seen row is returns =
      let one = seeks-one S t row.sought (record { row = row; is = is; returns = returns; found = refl }) in omega arith

  stood : (row : ThreadRow) → thread_of S t ≡ Some row → is_returning row.part ≡ true
      → Stood S (λ o p. ⊥ ⊎ Died script (boot_in true script) old o p) row.sought row.sought_place
  stood row is returns =
      finds-stand script shaped (boot_in true script) 1 old (λ o p. ⊥) at-boot sound
      (λ o dead. let undead : is_dead (object_of (boot_in true script) o) ≡ 0 = not_dead-boot script shaped o in absurd (omega arith))
      (λ u o p out. let out_none = out-boot true script u o p shaped in absurd (omega arith)) t row.sought row.sought_place
      (seen row is returns)

  -- what is alive died neither since its number was last swept, nor ever where no number is used again
  since-lives : (o : ObjNo) → IsAlive (object_of S o) → deaths (effects_of (since_swept old o)) o ≡ 0
  since-lives o alive =
      let cut = since-rest old o in
      let whole : IsSoundRun script (boot_in true script) (cut.0 ++ since_swept old o) = subst (IsSoundRun script (boot_in true script)) cut.1 sound in
      let U = after_from script (boot_in true script) cut.0 in
      let moved = run-dead script U (since_swept old o) o (run-rest script (boot_in true script) cut.0 (since_swept old o) whole) in
      let unswept = since-unswept old o in
      let end : after_from script U (since_swept old o) ≡ S =
      sym (after_from-append script (boot_in true script) cut.0 (since_swept old o)) ∙ ap (after_from script (boot_in true script)) (sym cut.1) in
      let undead : is_dead (object_of (after_from script U (since_swept old o)) o) ≡ 0 =
      ap (λ (T : State). is_dead (object_of T o)) end ∙ alive_undead (object_of S o) alive in
      omega arith

  never-lives : (o : ObjNo) → IsAlive (object_of S o) → uses_again script.version ≡ false → deaths (effects_of old) o ≡ 0
  never-lives o alive first =
      let more = run-gone script (boot_in true script) old o first sound in
      let here = alive_not_gone S.references.objects o alive in omega arith

  tells-of : (row : ThreadRow) (e : Entry) → thread_of S t ≡ Some row → is_returning row.part ≡ true
      → (effects : List Effect) → effects ≡ (act script (choosing e S) t).outcome.effects → is_out S t ≡ true
      → Uses script old t row.sought effects ⊎ Misses script old row.sought row.sought_place effects
  tells-of row e is returns effects told out = by (is_open row.sought_place (object_of S row.sought)) refl
    where
      o : ObjNo
      o = row.sought

      both :
          (is_open row.sought_place (object_of S o) ≡ true → effects ≡ Plus (Temp t) o ∷ [])
          × (is_open row.sought_place (object_of S o) ≡ false → effects ≡ Missed o ∷ [])
      both =
          back-effects script (choosing e S) t row
          (back-decided script (choosing e S) t row stands
          (out-may (is_able script (choosing e S) t) S.mode.shared (is_returning (part_of (thread_of S t))) out) is returns)
          effects told

      by : (b : Bool) → is_open row.sought_place (object_of S o) ≡ b → Uses script old t o effects ⊎ Misses script old o row.sought_place effects
      by true opened =
          let alive = open-row row.sought_place (object_of S o) opened in
          inl (record { lives = since-lives o alive; never = never-lives o alive; effect = both.0 opened })
      by false shut = inr (missed (stood row is returns))
        where
          missed : Stood S (λ x q. ⊥ ⊎ Died script (boot_in true script) old x q) o row.sought_place → Misses script old o row.sought_place effects
          missed (inl was) = absurd (shut-row row.sought_place (object_of S o) shut was.0 was.1)
          missed (inr (inl before)) = absurd before
          missed (inr (inr died)) = record { died = died; told = died-told script (boot_in true script) old o row.sought_place died; effect = both.1 shut }

  pub comes-back : is_out S t ≡ true → Comes script old S t made.more.entry.effects
  comes-back out = by (thread_of S t) refl
    where
      e : Entry
      e = made.more.entry

      returns : is_returning (part_of (thread_of S t)) ≡ true
      returns = out-returns S.mode.shared (is_returning (part_of (thread_of S t))) out

      by : (x : Option ThreadRow) → thread_of S t ≡ x → Comes script old S t e.effects
      by None is = let none : is_returning (part_of (thread_of S t))
          ≡ false = ap (λ (x : Option ThreadRow). is_returning (part_of x)) is in absurd (false≢true (sym none ∙ returns))
      by (Some row) is =
          let row_returns : is_returning row.part ≡ true = sym (ap (λ (x : Option ThreadRow). is_returning (part_of x)) is) ∙ returns in
          record {
            object = row.sought;
            sought = row.sought_place;
            found = seen row is row_returns;
            tells = tells-of row e is row_returns e.effects (ap (λ (x : Entry). x.effects) made.more.told) out;
          }
