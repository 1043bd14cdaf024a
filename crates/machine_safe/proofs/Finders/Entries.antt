-- What an entry does to who is out, whoever acts.
use Rattle.std.proofs.Common.{◌≡◌, inl, inr, ℕ, ◌<◌, List, [], get_or, arith, refl, sym, ap, subst, ◌∙◌, Bool, true, false, Option, Some, None}
use Rattle.std.specs.Prelude.{◌==◌, ◌&&◌, is_some, option_map}
use Rattle.std.proofs.lemmas.Bool.{and_from, cases_eq, eq-eqb, eqb-true}
use Rattle.sym_base.specs.declared.number.ObjNo.{ObjNo}
use Rattle.script_types.specs.declared.script.Script.{Script}
use Rattle.script_types.specs.Shape.{IsShaped}
use Rattle.entry_log.specs.declared.effect.Effect.{Effect}
use Rattle.entry_log.specs.declared.effect.Holder.TheVariants.{Temp}
use Rattle.entry_log.specs.declared.entry.Actor.{Actor}
use Rattle.entry_log.specs.declared.entry.Actor.TheVariants.{Thread, Irq, Idfc, Tick, Idle}
use Rattle.entry_log.specs.declared.step.Part.{Part}
use Rattle.state_rows.specs.Deferred.{next_immediate}
use Rattle.state_rows.specs.ObjectRows.{place_of}
use Rattle.state_rows.specs.declared.thread.ThreadRow.{ThreadRow}
use Rattle.machine.specs.declared.moves.Move.{Move}
use Rattle.machine.specs.declared.plan.Body.TheVariants.{Interrupt}
use Rattle.machine.specs.declared.plan.Plan.{Plan}
use Rattle.machine.specs.declared.plan.Plan.TheVariants.{Runs}
use Rattle.machine.specs.declared.state.State.{State}
use Rattle.machine.specs.Bodies.{decision_by}
use Rattle.machine.specs.Boot.{born, boot_in, boot_of}
use Rattle.machine.specs.History.{CanAct, next, transition}
use Rattle.machine.specs.Interrupts.{done_by, immediate, immediate_plan, interrupt, supervisor}
use Rattle.machine.specs.Moves.{perform, tell, with_found}
use Rattle.machine.specs.Out.{is_returning, seeks}
use Rattle.machine.specs.References.{count_of, pluses, same, total}
use Rattle.machine.specs.Rows.{object_of, thread_of}
use Rattle.machine.specs.Steps.{decision_of}
use Rattle.machine.specs.Task.{instruction}
use Rattle.machine.specs.Told.{finds, removals}
use Rattle.machine.specs.Transition.{act}
use Rattle.machine.specs.WellFormed.{AreRows, IsAlive}
use Rattle.move_laws.proofs.Holders.ThreadRows.{row-here}
use Rattle.move_laws.proofs.References.Same.{if_is, same_object, same_self}
use Rattle.machine_laws.proofs.AtBoot.Born.{born_row, each_born}
use Rattle.machine_laws.proofs.Fitting.Bodies.{OwesNothing, goes-light}
use Rattle.machine_laws.proofs.Fitting.Interrupts.{light-immediate, light-interrupt}
use Rattle.machine_laws.proofs.Fitting.Regular.{finds_by_name, going_bit, plain}
use Rattle.machine_safe.specs.CountAfter.{is_by, pluses_by}
use Rattle.machine_safe.proofs.Finders.Actions.{AtFinds, dormant-act, finding, misses-act, opens-act, others-out, own-found, own-sought, unmoved-find, unswept-find}
use Rattle.machine_safe.proofs.Finders.Dormant.{finds-tell, plus-doing}
use Rattle.machine_safe.proofs.Finders.Moves.{seeks-doing, turning-none}
use Rattle.machine_laws.proofs.Sharing.Seekers.{unseen}
use Rattle.machine_safe.proofs.Serving.ActionMoves.{Doing, doing, doing-by}
use Rattle.machine_safe.proofs.Serving.OtherThreads.{carries-each, midway-pay, same-instruction, WasMidway}

-- what an action tells of who is out, and does to it
pub record Turns (script : Script) (S T : State) (actor : Actor) (effects : List Effect) : Type 0 where
  -- who doesn't act is out as before, and who acts exactly on what it found
  pub others : (u o : ObjNo) (place : ℕ) → is_by u actor ≡ false → seeks o place (thread_of T u) ≡ seeks o place (thread_of S u)
  pub found : (u o : ObjNo) → is_by u actor ≡ true → 0 < finds effects o → 0 < seeks o (place_of (object_of S o)) (thread_of T u)
  pub own : (u o : ObjNo) (place : ℕ) → is_by u actor ≡ true → 0 < seeks o place (thread_of T u)
      → (0 < finds effects o) × (place ≡ place_of (object_of S o))
  -- an entry that finds sweeps nothing, and leaves all objects as they are
  pub quiet : (o x : ObjNo) → 0 < finds effects o → removals effects x ≡ 0
  pub unmoved : (o x : ObjNo) → 0 < finds effects o → object_of T x ≡ object_of S x
  -- who is out and acts opens an object that is alive at its place, and gets nothing where none is
  pub opens : (u o : ObjNo) → is_by u actor ≡ true → IsAlive (object_of S o)
      → 0 < seeks o (place_of (object_of S o)) (thread_of S u) → 0 < pluses_by effects (Temp u) o
  pub misses : (u o : ObjNo) (place : ℕ) → is_by u actor ≡ true → (IsAlive (object_of S o) → place_of (object_of S o) ≡ place → ⊥)
      → 0 < seeks o place (thread_of S u) → (x : ObjNo) → pluses effects x ≡ 0
  -- nobody else finds an object that is alive without a reference, or gets one to it
  pub dormant : (o : ObjNo) → IsAlive (object_of S o) → count_of S o ≡ 0
      → ((u : ObjNo) → is_by u actor ≡ true → seeks o (place_of (object_of S o)) (thread_of S u) ≡ 0)
      → (pluses effects o ≡ 0) × (finds effects o ≡ 0)

-- nobody acts who is a thread
turns-quiet : (script : Script) (S T : State) (actor : Actor) (effects : List Effect)
    → ((u : ObjNo) → is_by u actor ≡ false) → ((u o : ObjNo) (place : ℕ) → seeks o place (thread_of T u) ≡ seeks o place (thread_of S u))
    → ((o : ObjNo) → IsAlive (object_of S o) → count_of S o ≡ 0 → pluses effects o ≡ 0) → ((o : ObjNo) → finds effects o ≡ 0)
    → Turns script S T actor effects
turns-quiet script S T actor effects nobody same dormant unfound = record {
  others = λ u o place _. same u o place;
  found = λ u o by some. let not_by = nobody u in absurd (cc);
  own = λ u o place by some. let not_by = nobody u in absurd (cc);
  opens = λ u o by alive some. let not_by = nobody u in absurd (cc);
  misses = λ u o place by over some x. let not_by = nobody u in absurd (cc);
  quiet = λ o x some. let none = unfound o in absurd (omega arith);
  unmoved = λ o x some. let none = unfound o in absurd (omega arith);
  dormant = λ o alive none away. (dormant o alive none, unfound o);
}

turns-light : (script : Script) (S : State) (actor : Actor) (plan : Plan) → AreRows script S
    → ((u : ObjNo) → is_by u actor ≡ false)
    → OwesNothing plain script supervisor S (decision_by script supervisor S plan).moves 4
    → Turns script S (done_by script S plan).state actor (done_by script S plan).outcome.effects
turns-light script S actor plan rows nobody light =
    let ms = (decision_by script supervisor S plan).moves in
    let does = doing-by script S plan rows (goes-light script S supervisor ms rows light) in
    let still = turning-none ms (light.calm.goes refl) in
    turns-quiet script S (perform supervisor ms S) actor (tell supervisor ms S) nobody
    (λ u o place. seeks-doing script S supervisor ms does rows u o place (λ _. still))
    (λ o alive none. plus-doing script S supervisor ms does o alive none (light.calm.finds o) (λ some. absurd (omega arith)))
    (λ o. finds-tell supervisor ms S o ∙ light.calm.finds o)

turns-interrupt : (script : Script) (S : State) (k : ℕ) → IsShaped script → AreRows script S
    → Turns script S (interrupt script S k).state (Irq k) (interrupt script S k).outcome.effects
unfolding interrupt
turns-interrupt script S k shaped rows = turns-light script S (Irq k) (Runs (Interrupt k)) rows (λ u. refl) (light-interrupt script S k shaped rows)

turns-immediate : (script : Script) (S : State) → IsShaped script → AreRows script S
    → Turns script S (immediate script S).state Idfc (immediate script S).outcome.effects
unfolding immediate
turns-immediate script S shaped rows =
    let found = next_immediate S.synchronization.deferred in
    turns-light script S Idfc (immediate_plan script S found) rows (λ u. refl)
    (light-immediate script S found shaped rows refl)

-- the number of the acting thread
by-same : (u t : ObjNo) → is_by u (Thread t) ≡ true → t ≡ u
by-same u t by = same_object t u (eqb-true t.0 u.0 by)

turns-act : (script : Script) (S : State) (t : ObjNo) → IsShaped script → AreRows script S → AtFinds script S
    → CanAct script S (Thread t) → Turns script S (act script S t).state (Thread t) (act script S t).outcome.effects
unfolding act
turns-act script S t shaped rows at able =
    let effects = tell t (decision_of script S t).moves S in
    let T = perform t (decision_of script S t).moves S in
    record {
      others = λ u o place other. others-out script S t shaped rows u o place
          (λ e. let by : is_by u (Thread t) ≡ true = eq-eqb t.0 u.0 e in absurd (cc));
      found = λ u o by some. subst (λ (x : ObjNo). 0 < seeks o (place_of (object_of S o)) (thread_of T x)) (by-same u t by)
          (own-found script S t shaped rows at able o some);
      own = λ u o place by. subst (λ (x : ObjNo). 0 < seeks o place (thread_of T x) → (0 < finds effects o) × (place ≡ place_of (object_of S o)))
          (by-same u t by) (own-sought script S t shaped rows at able o place);
      quiet = λ o x some. unswept-find script S t shaped rows o x some;
      unmoved = λ o x some. unmoved-find script S t shaped rows o x some;
      opens =
          λ u o by alive. subst (λ (x : ObjNo). 0 < seeks o (place_of (object_of S o)) (thread_of S x) → 0 < pluses_by effects (Temp x) o)
          (by-same u t by) (opens-act script S t shaped rows at able o alive);
      misses =
          λ u o place by over. subst (λ (y : ObjNo). 0 < seeks o place (thread_of S y) → (x : ObjNo) → pluses effects x ≡ 0)
          (by-same u t by) (misses-act script S t shaped rows at able o place over);
      dormant = λ o alive none away. dormant-act script S t shaped rows o alive none (away t (eq-eqb t.0 t.0 refl));
    }

pub turns-next : (script : Script) (S : State) (actor : Actor) → IsShaped script → AreRows script S → AtFinds script S
    → CanAct script S actor → Turns script S (next script S actor) actor (transition script S actor).outcome.effects
turns-next script S (Thread t) shaped rows at able = turns-act script S t shaped rows at able
turns-next script S (Irq k) shaped rows at able = turns-interrupt script S k shaped rows
turns-next script S Idfc shaped rows at able = turns-immediate script S shaped rows
turns-next script S Tick shaped rows at able = turns-quiet script S S Tick [] (λ u. refl) (λ u o place. refl) (λ o alive none. refl) (λ o. refl)
turns-next script S Idle shaped rows at able = turns-quiet script S S Idle [] (λ u. refl) (λ u o place. refl) (λ o alive none. refl) (λ o. refl)

-- a return is a later step
returns-later : (p : Option Part) → is_returning p ≡ true → is_some p ≡ true
returns-later None e = absurd (cc)
returns-later (Some p) e = refl

-- whoever is out after an action, and didn't go on in it, was so before, at the same instruction
midway-doing : (script : Script) (S : State) (t : ObjNo) (ms : List Move) → Doing script S t ms
    → (u : ObjNo) (row : ThreadRow) → (t.0 ≡ u.0 → total going_bit ms ≡ 0) → is_some row.part ≡ true
    → thread_of (perform t ms S) u ≡ Some row → WasMidway S.references.threads u.0 row
midway-doing script S t ms does u row stays later is = elim does as (λ _. WasMidway S.references.threads u.0 row) [
  | inl goes ↦ (carries-each script S t ms goes.each u row stays later is).mid
  | inr other ↦ elim other as (λ _. WasMidway S.references.threads u.0 row) [
    | inl pays ↦ midway-pay S t pays.what u.0 row (sym (ap (λ (l : List Move). thread_of (perform t l S) u) pays.moves) ∙ is)
    | inr none ↦
        record {
          old = row;
          was = sym (ap (λ (l : List Move). thread_of (perform t l S) u) none) ∙ is;
          role = refl;
          place = refl;
          part = refl;
          found = refl;
          sought = refl;
          sought_place = refl;
          uses = refl;
          live = λ e. e;
        }
  ]
]

at-doing : (script : Script) (S : State) (t : ObjNo) (ms : List Move) → Doing script S t ms → AtFinds script S
    → (u : ObjNo) (row : ThreadRow) → (t.0 ≡ u.0 → total going_bit ms ≡ 0) → is_returning row.part ≡ true
    → thread_of (perform t ms S) u ≡ Some row → finds_by_name (instruction script row) ≡ true
at-doing script S t ms does at u row stays returns is =
    let mid = midway-doing script S t ms does u row stays (returns-later row.part returns) is in
    let same_instruction : instruction script row ≡ instruction script mid.old = same-instruction script mid.old row mid.role (sym mid.place) in
    ap finds_by_name same_instruction ∙ at u mid.old mid.was (ap is_returning mid.part ∙ returns)

at-light : (script : Script) (S : State) (plan : Plan) → AreRows script S → AtFinds script S
    → OwesNothing plain script supervisor S (decision_by script supervisor S plan).moves 4
    → AtFinds script (done_by script S plan).state
at-light script S plan rows at light u row is returns =
    let ms = (decision_by script supervisor S plan).moves in
    at-doing script S supervisor ms (doing-by script S plan rows (goes-light script S supervisor ms rows light)) at u row (λ _. light.calm.goes refl) returns is

at-interrupt : (script : Script) (S : State) (k : ℕ) → IsShaped script → AreRows script S → AtFinds script S → AtFinds script (interrupt script S k).state
unfolding interrupt
at-interrupt script S k shaped rows at = at-light script S (Runs (Interrupt k)) rows at (light-interrupt script S k shaped rows)

at-immediate : (script : Script) (S : State) → IsShaped script → AreRows script S → AtFinds script S → AtFinds script (immediate script S).state
unfolding immediate
at-immediate script S shaped rows at =
    let found = next_immediate S.synchronization.deferred in
    at-light script S (immediate_plan script S found) rows at (light-immediate script S found shaped rows refl)

-- who acts and is out then has just found an object, by its instruction
at-own : (script : Script) (S : State) (t : ObjNo) → IsShaped script → AreRows script S → AtFinds script S
    → CanAct script S (Thread t) → (row : ThreadRow)
    → thread_of (perform t (decision_of script S t).moves S) t ≡ Some row → is_returning row.part ≡ true
    → finds_by_name (instruction script row) ≡ true
at-own script S t shaped rows at able row is returns =
    let o = row.sought in
    let place = place_of (object_of S o) in
    let ms = (decision_of script S t).moves in
    let out : seeks o row.sought_place (thread_of (perform t ms S) t) ≡ same o o =
    ap (seeks o row.sought_place) is
    ∙ if_is (is_returning row.part && row.sought_place == row.sought_place) (same o o)
    (and_from (is_returning row.part) (row.sought_place == row.sought_place) returns (eq-eqb row.sought_place row.sought_place refl)) in
    let one = same_self o in
    let told = own-sought script S t shaped rows at able o row.sought_place (omega arith) in
    let some = told.0 in
    let bits = finds-tell t ms S o in
    let f = finding script S t shaped rows o (omega arith) in
    let there : thread_of (perform t ms S) t ≡ Some (with_found o place f.row) =
    ap (λ (l : List Move). thread_of (perform t l S) t) f.moves
    ∙ (row-here S.references.threads t (with_found o place) t.0 refl ∙ ap (option_map (with_found o place)) f.is) in
    let same_row : with_found o place f.row ≡ row = cc in
    ap (λ (r : ThreadRow). finds_by_name (instruction script r)) (sym same_row) ∙ f.at

at-act : (script : Script) (S : State) (t : ObjNo) → IsShaped script → AreRows script S → AtFinds script S
    → CanAct script S (Thread t) → AtFinds script (act script S t).state
unfolding act
at-act script S t shaped rows at able u row is returns =
    let ms = (decision_of script S t).moves in
    elim (cases_eq t.0 u.0) as (λ _. finds_by_name (instruction script row) ≡ true) [
      | inl own ↦ at-own script S t shaped rows at able row (ap (λ (n : ℕ). get_or (perform t ms S).references.threads n None) own ∙ is) returns
      | inr apart ↦ at-doing script S t ms (doing script S t shaped rows) at u row (λ own. absurd (apart own)) returns is
    ]

pub at-next : (script : Script) (S : State) (actor : Actor) → IsShaped script → AreRows script S → AtFinds script S
    → CanAct script S actor → AtFinds script (next script S actor)
at-next script S (Thread t) shaped rows at able = at-act script S t shaped rows at able
at-next script S (Irq k) shaped rows at able = at-interrupt script S k shaped rows at
at-next script S Idfc shaped rows at able = at-immediate script S shaped rows at
at-next script S Tick shaped rows at able = at
at-next script S Idle shaped rows at able = at

-- at boot nobody is out
born-back : (shared : Bool) (script : Script) (u : ObjNo) (row : ThreadRow) → IsShaped script
    → thread_of (boot_in shared script) u ≡ Some row → is_returning row.part ≡ false
unfolding boot_of
born-back shared script u row shaped is = ap is_returning (born_row script _ (born script) u.0 row (each_born script shaped) is).part

pub at-boot : (shared : Bool) (script : Script) → IsShaped script → AtFinds script (boot_in shared script)
at-boot shared script shaped u row is returns = let back = born-back shared script u row shaped is in absurd (cc)

pub out-boot : (shared : Bool) (script : Script) (u o : ObjNo) (place : ℕ) → IsShaped script → seeks o place (thread_of (boot_in shared script) u) ≡ 0
out-boot shared script u o place shaped = unseen (thread_of (boot_in shared script) u) o place (λ row is. born-back shared script u row shaped is)
