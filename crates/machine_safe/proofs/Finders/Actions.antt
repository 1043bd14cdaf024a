-- What an action does to who is out: whoever acts is out afterwards exactly on what it found, and all others as before.
use Rattle.std.proofs.Common.{◌≡◌, inl, inr, ℕ, ◌+◌, ◌<◌, List, [], ◌∷◌, arith, refl, sym, ap, subst, ◌∙◌, Bool, true, false, Option, Some, None}
use Rattle.std.specs.Prelude.{◌==◌, not, if◌then◌else◌}
use Rattle.std.proofs.lemmas.Bool.{and_from, eq-eqb, eqb-true}
use Rattle.sym_base.specs.declared.number.ObjNo.{ObjNo}
use Rattle.sym_base.specs.declared.word.Word.{Word}
use Rattle.sym_base.specs.declared.word.Word.TheVariants as word
use Rattle.script_types.specs.declared.instruction.Instr.{Instr}
use Rattle.script_types.specs.declared.instruction.Instr.TheVariants as instr
use Rattle.script_types.specs.declared.script.Script.{Script}
use Rattle.script_types.specs.Shape.{IsShaped}
use Rattle.entry_log.specs.declared.effect.Holder.TheVariants.{Temp}
use Rattle.entry_log.specs.declared.step.Part.{Part}
use Rattle.entry_log.specs.declared.step.Part.TheVariants as part
use Rattle.state_rows.specs.ObjectRows.{place_of}
use Rattle.state_rows.specs.declared.object.ObjectRow.{ObjectRow}
use Rattle.state_rows.specs.declared.thread.ThreadRow.{ThreadRow}
use Rattle.machine.specs.declared.decision.Decision.{Decision}
use Rattle.machine.specs.declared.moves.Move.{Move}
use Rattle.machine.specs.declared.moves.Move.TheVariants.{Find}
use Rattle.machine.specs.declared.state.State.{State}
use Rattle.machine.specs.declared.task.Task.{Task}
use Rattle.machine.specs.Find.{is_open, miss, return_to}
use Rattle.machine.specs.Moves.{advanced, perform, tell, with_missed, with_opened}
use Rattle.machine.specs.Out.{is_returning, seeks}
use Rattle.machine.specs.References.{count_of, pluses, same, total}
use Rattle.machine.specs.Rows.{object_of, thread_of, with_row}
use Rattle.machine.specs.Steps.{decision_of, decision_of_row, decision_where, return_of}
use Rattle.machine.specs.Task.{instruction, may_act, return_or, task_of, task_of_row}
use Rattle.machine.specs.ThreadCalls.{is_live}
use Rattle.machine.specs.Told.{finds, removals}
use Rattle.machine.specs.WellFormed.{AreRows, IsAlive}
use Rattle.move_laws.proofs.Lists.Cases.{if_cases}
use Rattle.move_laws.proofs.Lives.LivesMove.{zero_or}
use Rattle.move_laws.proofs.Lives.Outs.{seeks_is}
use Rattle.move_laws.proofs.References.Same.{if_is, same_self}
use Rattle.machine_laws.proofs.Fitting.Actions.{regular-action}
use Rattle.machine_laws.proofs.Fitting.LiveObjects.{open_is_alive}
use Rattle.machine_laws.proofs.Fitting.Regular.{IsFinding, find_bit, finds_by_name}
use Rattle.machine_safe.specs.CountAfter.{pluses_by}
use Rattle.machine_safe.proofs.Finders.Dormant.{finds-tell, plus-doing}
use Rattle.machine_safe.proofs.Finders.Moves.{seeks-doing, seeks-found, seeks-most}
use Rattle.machine_laws.proofs.Sharing.Seekers.{unseen}
use Rattle.machine_safe.proofs.Serving.ActionMoves.{Doing, doing}
use Rattle.machine_safe.proofs.Serving.LaterSteps.{part-after}

-- whoever is between a find and its return is at an instruction that finds
abbrev pub AtFinds : Script → State → Type 0
AtFinds script S = (u : ObjNo) (row : ThreadRow) → thread_of S u ≡ Some row → is_returning row.part ≡ true → finds_by_name (instruction script row) ≡ true

-- the row of a thread that is out on an object of a place
pub record IsOutOn (S : State) (u o : ObjNo) (place : ℕ) : Type 0 where
  pub row : ThreadRow
  pub is : thread_of S u ≡ Some row
  pub returns : is_returning row.part ≡ true
  pub found : row.sought ≡ o
  pub sought : row.sought_place ≡ place

out-by : (S : State) (u o : ObjNo) (place : ℕ) (x : Option ThreadRow) → thread_of S u ≡ x → 0 < seeks o place x → IsOutOn S u o place
out-by S u o place None is some = absurd (omega arith)
out-by S u o place (Some row) is some =
    let parts = seeks_is o place row some in record { row = row; is = is; returns = parts.0; found = parts.2; sought = parts.1 }

pub out-on : (S : State) (u o : ObjNo) (place : ℕ) → 0 < seeks o place (thread_of S u) → IsOutOn S u o place
out-on S u o place some = out-by S u o place (thread_of S u) refl some

-- A return: the thread isn't out after it and finds nothing; where the object may be opened it gets a reference to it, and else nobody does to
-- anything.
record Returned (S : State) (t : ObjNo) (row : ThreadRow) (d : Decision) : Type 0 where
  pub back : (x : ThreadRow) → thread_of (perform t d.moves S) t ≡ Some x → is_returning x.part ≡ false
  pub unfound : (o : ObjNo) → finds (tell t d.moves S) o ≡ 0
  pub opens : is_open row.sought_place (object_of S row.sought) ≡ true → 0 < pluses_by (tell t d.moves S) (Temp t) row.sought
  pub misses : is_open row.sought_place (object_of S row.sought) ≡ false → (x : ObjNo) → pluses (tell t d.moves S) x ≡ 0

opened-once : (t o : ObjNo) → 0 < (if t.0 == t.0 then same o o else 0) + 0
opened-once t o = let own = if_is (t.0 == t.0) (same o o) (eq-eqb t.0 t.0 refl) in let one = same_self o in omega arith

returns-to : (S : State) (t : ObjNo) (row : ThreadRow) (word : Word) (p : Part) → is_returning (Some p) ≡ false → Returned S t row (return_to S t row word p)
returns-to S t row word p other =
    if_cases (Returned S t row) (is_open row.sought_place (object_of S row.sought)) _ _
    (λ opened. record {
      back = λ x is. ap is_returning (part-after S.references.threads t (with_opened row.sought p) (Some p) (λ r. refl) x is) ∙ other;
      unfound = λ o. refl;
      opens = λ _. opened-once t row.sought;
      misses = λ shut x. absurd (cc);
    })
    (λ shut. missed shut (is_live row.stage))
  where
    missed : is_open row.sought_place (object_of S row.sought) ≡ false → (live : Bool) → Returned S t row (miss t word row.sought live)
    missed shut true = record {
      back = λ x is. ap is_returning (part-after (with_row S.references.threads t with_missed) t advanced None (λ r. refl) x is);
      unfound = λ o. refl;
      opens = λ opened. absurd (cc);
      misses = λ _ x. refl;
    }
    missed shut false = record {
      back = λ x is. ap is_returning (part-after S.references.threads t with_missed None (λ r. refl) x is);
      unfound = λ o. refl;
      opens = λ opened. absurd (cc);
      misses = λ _ x. refl;
    }

returned : (S : State) (t : ObjNo) (row : ThreadRow) (i : Instr) → finds_by_name (Some i) ≡ true → Returned S t row (return_of S t row i)
returned S t row (instr.Open kind name x) finds = returns-to S t row word.Open part.Do refl
returned S t row (instr.Connect name slots x) finds = returns-to S t row word.Connect part.Make refl
returned S t row i finds = absurd (cc)

-- the return comes before all else
pub return-first : (script : Script) (S : State) (t : ObjNo) (row : ThreadRow) (b : Bool) (at : Option Instr)
    (other : Option Task) (i : Instr)
    → b ≡ true → at ≡ Some i → decision_of_row script S t (Some row) (return_or b at other) ≡ return_of S t row i
return-first script S t row true (Some j) other i returns at = let same_instr : j ≡ i = cc in ap (return_of S t row) same_instr
return-first script S t row true None other i returns at = absurd (cc)
return-first script S t row false at other i returns is = absurd (cc)

returning : (script : Script) (S : State) (t : ObjNo) (row : ThreadRow) → AtFinds script S → may_act script S t ≡ true
    → thread_of S t ≡ Some row → is_returning row.part ≡ true → Returned S t row (decision_of script S t)
returning script S t row at may is returns = by (instruction script row) refl
  where
    by : (x : Option Instr) → instruction script row ≡ x → Returned S t row (decision_of script S t)
    by None e = let found = at t row is returns in let none = ap finds_by_name e in absurd (cc)
    by (Some i) e =
        let acts : decision_of script S t ≡ decision_of_row script S t (thread_of S t) (task_of script S t) =
        ap (λ (b : Bool). decision_where script b S t (task_of script S t)) may in
        let there : decision_of_row script S t (thread_of S t) (task_of script S t)
        ≡ decision_of_row script S t (Some row) (task_of_row script S t (Some row)) =
        ap (λ (x : Option ThreadRow). decision_of_row script S t x (task_of_row script S t x)) is in
        subst (Returned S t row) (sym (acts ∙ (there ∙ return-first script S t row (is_returning row.part) (instruction script row) _ i returns e)))
        (returned S t row i (sym (ap finds_by_name e) ∙ at t row is returns))

-- a find puts its thread out
found-out : (script : Script) (S : State) (t : ObjNo) (ms : List Move) (o : ObjNo) → Doing script S t ms
    → ms ≡ Find t o ∷ [] → (place : ℕ)
    → seeks o place (thread_of (perform t ms S) t) ≡ (if place_of (object_of S o) == place then same o o else 0)
found-out script S t ms o does is place = ap (λ (l : List Move). seeks o place (thread_of (perform t l S) t)) is ∙ by (subst (Doing script S t) is does)
  where
    Out : Type 0
    Out = seeks o place (thread_of (perform t (Find t o ∷ []) S) t) ≡ (if place_of (object_of S o) == place then same o o else 0)

    by : Doing script S t (Find t o ∷ []) → Out
    by does = elim does as (λ _. Out) [
      | inl goes ↦ seeks-found script S t t o goes.each.0 o place
      | inr other ↦ elim other as (λ _. Out) [
        | inl pays ↦ let clash = pays.moves in absurd (cc)
        | inr none ↦ absurd (cc)
      ]
    ]

module _ (script : Script) (S : State) (t : ObjNo) (shaped : IsShaped script) (rows : AreRows script S) where
  abbrev d : Decision
  d = decision_of script S t

  abbrev T : State
  T = perform t d.moves S

  does : Doing script S t d.moves
  does = doing script S t shaped rows

  pub finding : (o : ObjNo) → 0 < total (find_bit o) d.moves → IsFinding script S t d o
  finding o some = (regular-action script S t shaped rows).1.finds o some

  -- others are out as before
  pub others-out : (u o : ObjNo) (place : ℕ) → (t.0 ≡ u.0 → ⊥) → seeks o place (thread_of T u) ≡ seeks o place (thread_of S u)
  others-out u o place apart = seeks-doing script S t d.moves does rows u o place (λ at. absurd (apart at))

  -- whoever finds an object is out on it then, by its place
  found-told : (o : ObjNo) → 0 < finds (tell t d.moves S) o → 0 < seeks o (place_of (object_of S o)) (thread_of T t)
  found-told o some =
      let told = finds-tell t d.moves S o in
      let moves = (finding o (omega arith)).moves in
      let out = found-out script S t d.moves o does moves (place_of (object_of S o)) in
      let one = if_is (place_of (object_of S o) == place_of (object_of S o)) (same o o)
      (eq-eqb (place_of (object_of S o)) (place_of (object_of S o)) refl) in
      let self = same_self o in omega arith

  -- and one that wasn't out is out on nothing else
  sought-told : (o : ObjNo) (place : ℕ) → seeks o place (thread_of S t) ≡ 0 → 0 < seeks o place (thread_of T t)
      → (0 < finds (tell t d.moves S) o) × (place ≡ place_of (object_of S o))
  sought-told o place none some =
      let most = seeks-most script S t d.moves does rows o place in
      let told = finds-tell t d.moves S o in
      let moves = (finding o (omega arith)).moves in
      let out = found-out script S t d.moves o does moves place in
      (omega arith, by (place_of (object_of S o) == place) refl (omega arith))
    where
      by : (b : Bool) → (place_of (object_of S o) == place) ≡ b → 0 < (if b then same o o else 0) → place ≡ place_of (object_of S o)
      by true is more = sym (eqb-true (place_of (object_of S o)) place is)
      by false is more = absurd (omega arith)

  -- what finds an object does nothing else
  pub unswept-find : (o x : ObjNo) → 0 < finds (tell t d.moves S) o → removals (tell t d.moves S) x ≡ 0
  unswept-find o x some =
      let told = finds-tell t d.moves S o in
      ap (λ (l : List Move). removals (tell t l S) x) (finding o (omega arith)).moves

  pub unmoved-find : (o x : ObjNo) → 0 < finds (tell t d.moves S) o → object_of T x ≡ object_of S x
  unmoved-find o x some =
      let told = finds-tell t d.moves S o in
      ap (λ (l : List Move). object_of (perform t l S) x) (finding o (omega arith)).moves

  -- nobody finds what is alive without a reference, nor gets one to it, unless the thread is out on it
  pub dormant-act : (o : ObjNo) → IsAlive (object_of S o) → count_of S o ≡ 0
      → seeks o (place_of (object_of S o)) (thread_of S t) ≡ 0 → (pluses (tell t d.moves S) o ≡ 0) × (finds (tell t d.moves S) o ≡ 0)
  dormant-act o alive none away =
      let unfound = zero_or (total (find_bit o) d.moves) (λ some. let counted = (finding o some).counted alive in omega arith) in
      (plus-doing script S t d.moves does o alive none unfound (λ _. away), finds-tell t d.moves S o ∙ unfound)

  module _ (at : AtFinds script S) (may : may_act script S t ≡ true) where
    -- after its action a thread is out exactly on what it found
    abbrev IsSought : ObjNo → ℕ → Type 0
    IsSought o place = (0 < finds (tell t d.moves S) o) × (place ≡ place_of (object_of S o))

    pub own-found : (o : ObjNo) → 0 < finds (tell t d.moves S) o → 0 < seeks o (place_of (object_of S o)) (thread_of T t)
    own-found o some = found-told o some

    pub own-sought : (o : ObjNo) (place : ℕ) → 0 < seeks o place (thread_of T t) → IsSought o place
    own-sought o place some = by (thread_of S t) refl
      where
        back : (row : ThreadRow) (b : Bool) → thread_of S t ≡ Some row → is_returning row.part ≡ b → IsSought o place
        back row true is returns =
            let r = returning script S t row at may is returns in
            let none = unseen (thread_of T t) o place r.back in absurd (omega arith)
        back row false is returns =
            sought-told o place (unseen (thread_of S t) o place
            (λ r e. let same_row : row ≡ r = cc in ap (λ (x : ThreadRow). is_returning x.part) (sym same_row) ∙ returns)) some

        by : (x : Option ThreadRow) → thread_of S t ≡ x → IsSought o place
        by None is = sought-told o place (ap (seeks o place) is) some
        by (Some row) is = back row (is_returning row.part) is refl

    -- one that is out comes back: it opens an object that is alive, at the place that it found
    pub opens-act : (o : ObjNo) → IsAlive (object_of S o)
        → 0 < seeks o (place_of (object_of S o)) (thread_of S t) → 0 < pluses_by (tell t d.moves S) (Temp t) o
    opens-act o alive some =
        let out = out-on S t o (place_of (object_of S o)) some in
        let r = returning script S t out.row at may out.is out.returns in
        subst (λ (x : ObjNo). 0 < pluses_by (tell t d.moves S) (Temp t) x) out.found
        (r.opens (ap (λ (x : ObjNo). is_open out.row.sought_place (object_of S x)) out.found
        ∙ alive-open out.row.sought_place (object_of S o) alive (sym out.sought)))
      where
        alive-open : (place : ℕ) (x : Option ObjectRow) → IsAlive x → place_of x ≡ place → is_open place x ≡ true
        alive-open place None alive at = absurd alive
        alive-open place (Some row) alive at = and_from (not row.dead) (row.place == place) (ap not alive) (eq-eqb row.place place at)

    -- and gets nothing, if no object of its place is alive there
    pub misses-act : (o : ObjNo) (place : ℕ) → (IsAlive (object_of S o) → place_of (object_of S o) ≡ place → ⊥)
        → 0 < seeks o place (thread_of S t) → (x : ObjNo) → pluses (tell t d.moves S) x ≡ 0
    misses-act o place over some =
        let out = out-on S t o place some in
        (returning script S t out.row at may out.is out.returns).misses
        (by out.row.sought out.row.sought_place (is_open out.row.sought_place (object_of S out.row.sought)) refl
        (ap (λ (x : ObjNo). object_of S x) out.found) out.sought)
      where
        by : (y : ObjNo) (sought : ℕ) (b : Bool) → is_open sought (object_of S y) ≡ b → object_of S y ≡ object_of S o → sought ≡ place → b ≡ false
        by y sought true e same_row at =
            let opened = open_is_alive sought (object_of S y) e in
            absurd (over (subst IsAlive same_row opened.0) (sym (ap place_of same_row) ∙ opened.1 ∙ at))
        by y sought false e same_row at = refl
