-- The references of every legal history of a well-formed script are safe.
use Rattle.std.proofs.Common.{◌≡◌, ◌⊎◌, inl, inr, ℕ, suc, ◌+◌, ◌<◌, List, [], ◌∷◌, ◌++◌, get_or, append_assoc, arith, refl, sym, ap, subst, ◌∙◌, Bool, true, false, Option, Some, None}
use Rattle.std.specs.Prelude.{◌&&◌, is_none, if◌then◌else◌}
use Rattle.std.proofs.lemmas.Bool.{cases_lt, eq-eqb}
use Rattle.sym_base.specs.declared.number.ObjNo.{ObjNo}
use Rattle.script_types.specs.declared.script.Script.{Script}
use Rattle.script_types.specs.Shape.{IsShaped}
use Rattle.script_types.specs.Source.{IsWellFormed}
use Rattle.script_types.proofs.ShapeLaws.{formed_is_shaped}
use Rattle.entry_log.specs.declared.entry.Actor.{Actor}
use Rattle.entry_log.specs.declared.entry.Actor.TheVariants.{Thread}
use Rattle.entry_log.specs.declared.entry.Entry.{Entry}
use Rattle.state_rows.specs.ObjectRows.{place_of}
use Rattle.machine.specs.declared.state.State.{State}
use Rattle.machine.specs.Boot.{boot_in}
use Rattle.machine.specs.History.{after_from, after_in, next_by, IsLegalIn}
use Rattle.machine.specs.Out.{outs_of, seeks}
use Rattle.machine.specs.References.{count_of, minuses, total}
use Rattle.machine.specs.Rows.{object_of, thread_of}
use Rattle.machine.specs.Told.{deaths, finds, removals}
use Rattle.machine.specs.WellFormed.{AreRows, IsAlive}
use Rattle.move_laws.proofs.Lists.Totals.{inside, total_at_least}
use Rattle.move_laws.proofs.Lives.Bits.{alive_undead}
use Rattle.move_laws.proofs.References.Effects.{removals-append}
use Rattle.move_laws.proofs.References.Same.{if_is}
use Rattle.machine_laws.proofs.AtBoot.BootRows.{rows-boot}
use Rattle.machine_safe.specs.CountAfter.{count_after, effects_of, finds_to_open, first_by, is_by, opens, opens_later, since_swept}
use Rattle.machine_safe.specs.LeftOut.{IsExcused}
use Rattle.machine_safe.specs.SafeReferences.{DiesAtZero, IsSafeReferences, MissesTheDead}
use Rattle.machine_safe.proofs.Finders.Actions.{out-on}
use Rattle.machine_safe.proofs.Finders.Entries.{Turns, at-boot, out-boot}
use Rattle.machine_safe.proofs.Finders.Runs.{HasFound, Stands, out-idle, out-shut, out-still, out-told, stands-next, stands-rest, turns}
use Rattle.machine_safe.proofs.Runs.{legal_runs, over-unalive, run-dead, run-front, run-unswept}
use Rattle.machine_safe.proofs.SafeHistories.{IsSplit, dies_at_zero, dies_only_at_zero, dies_unless_out, legal_run, run-safe, split}
use Rattle.machine_safe.proofs.SinceSwept.{AreShut, count_after-is, since-holds}

pub stands-boot : (shared : Bool) (script : Script) (history : List Entry) → IsWellFormed script
    → IsLegalIn shared script history → Stands script (boot_in shared script) 1 history
stands-boot shared script history valid legal = record {
  rows = rows-boot shared script valid;
  at = at-boot shared script (formed_is_shaped script valid);
  legal = legal;
}

-- the state after some entries and others behind them
pub after_from-append : (script : Script) (S : State) (xs ys : List Entry) → after_from script S (xs ++ ys) ≡ after_from script (after_from script S xs) ys
after_from-append script S [] ys = refl
after_from-append script S (x ∷ xs) ys = after_from-append script (next_by script S x) xs ys

-- a find of a thread that has no entry since: the states before and after it, and what may follow
record IsAway (shared : Bool) (script : Script) (before : List Entry) (find : Entry) (between later : List Entry) (w o : ObjNo) : Type 0 where
  pub place : ℕ
  pub turn : Turns script (after_in shared script before) (next_by script (after_in shared script before) find) find.actor find.effects
  pub behind : Stands script (next_by script (after_in shared script before) find) place (between ++ later)
  pub last : (n : ℕ) × Stands script (after_from script (next_by script (after_in shared script before) find) between) n later
  pub still : (at : ℕ) → seeks o at (thread_of (after_from script (next_by script (after_in shared script before) find) between) w)
      ≡ seeks o at (thread_of (next_by script (after_in shared script before) find) w)

away-since : (shared : Bool) (script : Script) (history before : List Entry) (find : Entry) (between later : List Entry) (w o : ObjNo)
    → IsWellFormed script → IsLegalIn shared script history → history ≡ before ++ find ∷ between ++ later → first_by w between ≡ None
    → IsAway shared script before find between later w o
away-since shared script history before find between later w o valid legal is none =
    let shaped = formed_is_shaped script valid in
    let all : Stands script (boot_in shared script) 1 (before ++ (find ∷ between ++ later)) =
    subst (Stands script (boot_in shared script) 1) (is ∙ append_assoc before (find ∷ between) later) (stands-boot shared script history valid legal) in
    let first = stands-rest script shaped (boot_in shared script) 1 before (find ∷ between ++ later) all in
    let S = after_in shared script before in
    let behind = stands-next script shaped S first.0 find (between ++ later) first.1 in
    record {
      place = first.0 + 1;
      turn = turns script shaped S first.0 find (between ++ later) first.1;
      behind = behind;
      last = stands-rest script shaped (next_by script S find) (first.0 + 1) between later behind;
      still = λ at. out-still script shaped (next_by script S find) (first.0 + 1) between later behind w o at none;
    }

-- who is out sought a place that was given
past-sought : (script : Script) (S : State) (w o : ObjNo) (at : ℕ) → AreRows script S → 0 < seeks o at (thread_of S w) → at < S.references.made
past-sought script S w o at rows some =
    let out = out-on S w o at some in
    let all = total_at_least (seeks o at) S.references.threads w.0 None (inside S.references.threads w.0 out.row out.is) in
    rows.references.places.sought o at (omega arith)

by_thread : (t : ObjNo) (e : Entry) → e.actor ≡ Thread t → is_by t e.actor ≡ true
by_thread t e is = ap (is_by t) is ∙ eq-eqb t.0 t.0 refl

-- who found an object before its death or its sweep opens nothing: he is out on it until he comes back, and misses it then
missed : (shared : Bool) (script : Script) (history : List Entry) → IsWellFormed script
    → IsLegalIn shared script history → (o : ObjNo) → MissesTheDead history o
missed shared script history valid legal o before find between back later t is by_find found none by_back ended =
    let shaped = formed_is_shaped script valid in
    let a = away-since shared script history before find between (back ∷ later) t o valid legal is none in
    let S = after_in shared script before in
    let T = next_by script S find in
    let U = after_from script T between in
    let at = place_of (object_of S o) in
    let out = a.turn.found t o (by_thread t find by_find) found in
    let still = a.still at in
    let past = past-sought script T t o at a.behind.rows out in
    let run = run-front script T between (back ∷ later) (legal_runs script T a.place (between ++ back ∷ later) shaped a.behind.rows a.behind.legal) in
    (turns script shaped U a.last.0 back later a.last.1).misses t o at by_back
    (λ alive same_place. let unswept = run-unswept script T between o at run past alive same_place in
    let dead = run-dead script T between o run in
    let undead = alive_undead (object_of U o) alive in absurd (omega arith)) (omega arith)

-- whoever found an object that isn't alive after these entries, and has no entry since, opens nothing
pub shut-finds : (shared : Bool) (script : Script) (first later : List Entry) (o : ObjNo) → IsWellFormed script
    → IsLegalIn shared script (first ++ later) → (IsAlive (object_of (after_in shared script first) o) → ⊥) → AreShut first later o
shut-finds shared script first later o valid legal unalive before find between w is by found none =
    let shaped = formed_is_shaped script valid in
    let a = away-since shared script (first ++ later) before find between later w o valid legal
    (ap (λ (l : List Entry). l ++ later) is) none in
    let S = after_in shared script before in
    let T = next_by script S find in
    let U = after_from script T between in
    let same_state : after_in shared script first ≡ U =
    ap (after_from script (boot_in shared script)) is ∙ after_from-append script (boot_in shared script) before (find ∷ between) in
    let at = place_of (object_of S o) in
    let out = a.turn.found w o (by_thread w find by) found in
    let still = a.still at in
    let past = past-sought script U w o at a.last.1.rows (omega arith) in
    out-shut script shaped U a.last.0 later a.last.1 o at
    (over-unalive U o at past (λ alive. unalive (subst (λ (V : State). IsAlive (object_of V o)) (sym same_state) alive))) w (omega arith)

-- a sum that isn't 0 has a part that isn't
some-part : {A : Type 0} (f : A → ℕ) (xs : List A) (d : A) → 0 < total f xs → (k : ℕ) × (0 < f (get_or xs k d))
some-part f [] d some = absurd (omega arith)
some-part f (x ∷ xs) d some = elim (cases_lt 0 (f x)) as (λ _. (k : ℕ) × (0 < f (get_or (x ∷ xs) k d))) [
  | inl here ↦ (0, here)
  | inr none ↦ let rest = some-part f xs d (omega arith) in (suc rest.0, rest.1)
]

-- a find whose thread opens the object later is counted
counted-find : (first : List Entry) (w : ObjNo) (between later : List Entry) (o : ObjNo) (find : Entry)
    → find.actor ≡ Thread w → 0 < finds find.effects o → first_by w between ≡ None → (before : List Entry)
    → finds_to_open (before ++ find ∷ between) later o ≡ 0 → opens w o (first_by w later) ≡ false
counted-find first w between later o find by found none [] zero = shut (opens w o (first_by w later)) refl
  where
    shut : (b : Bool) → opens w o (first_by w later) ≡ b → b ≡ false
    shut false e = refl
    shut true e =
        let later_is : opens_later find.actor between later o
        ≡ (is_none (first_by w between) && opens w o (first_by w later)) =
        ap (λ (a : Actor). opens_later a between later o) by in
        let so : (is_none (first_by w between) && opens w o (first_by w later)) ≡ true =
        ap (λ (x : Option Entry). is_none x && opens w o (first_by w later)) none ∙ e in
        let counted = if_is (opens_later find.actor between later o) (finds find.effects o) (later_is ∙ so) in absurd (omega arith)
counted-find first w between later o find by found none (x ∷ before) zero = counted-find first w between later o find by found none before (omega arith)

-- a thread that has no entry among the first ones and none later
first-both : (w : ObjNo) (xs ys : List Entry) → first_by w xs ≡ None → first_by w ys ≡ None → first_by w (xs ++ ys) ≡ None
first-both w [] ys none more = more
first-both w (x ∷ xs) ys none more = by (is_by w x.actor) none (first-both w xs ys)
  where
    by : (b : Bool) → (if b then Some x else first_by w xs) ≡ None
        → (first_by w xs ≡ None → first_by w ys ≡ None → first_by w (xs ++ ys) ≡ None)
        → (if b then Some x else first_by w (xs ++ ys)) ≡ None
    by true none rest = absurd (cc)
    by false none rest = rest none more

-- where callers share the kernel: the object dies, or somebody is left out on it
module _ (script : Script) (history : List Entry) (valid : IsWellFormed script) (legal : IsLegalIn true script history)
    (o : ObjNo) (before : List Entry) (e : Entry) (later : List Entry) (is : history ≡ before ++ e ∷ later)
    (taken : 0 < minuses e.effects o) (zero : count_after script (before ++ e ∷ []) later o ≡ 0) where
  abbrev first : List Entry
  first = before ++ e ∷ []

  abbrev S : State
  S = after_in true script before

  abbrev T : State
  T = after_in true script first

  shaped : IsShaped script
  shaped = formed_is_shaped script valid

  parts : IsSplit true script before e later
  parts = split true script history before e later (legal_run true script history valid legal) is

  all : Stands script (boot_in true script) 1 (first ++ later)
  all = subst (Stands script (boot_in true script) 1) (is ∙ sym (append_assoc before (e ∷ []) later)) (stands-boot true script history valid legal)

  counts : (count_of T o ≡ 0) × (finds_to_open (since_swept first o) later o ≡ 0)
  counts = let count = count_after-is true script first later o parts.run (rows-boot true script valid).lives in (omega arith, omega arith)

  -- it is alive still, since it had a reference
  living : deaths e.effects o ≡ 0 → IsAlive (object_of T o)
  living none =
      let lives = parts.step.lives in
      let moved = lives.counts o in
      let rows = (stands-rest script shaped (boot_in true script) 1 before (e ∷ later)
      (subst (Stands script (boot_in true script) 1) is (stands-boot true script history valid legal))).1.rows in
      elim (cases_lt 0 (count_of S o)) as (λ _. IsAlive (object_of T o)) [
        | inl some ↦ lives.stays o (rows.lives.alive o some) none
        | inr unused ↦ (lives.opens o (omega arith)).1 none
      ]

  abbrev at : ℕ
  at = place_of (object_of T o)

  has_found : (w : ObjNo) → 0 < seeks o at (thread_of T w) → HasFound first w o
  has_found w out = elim (out-told script shaped (boot_in true script) 1 first later all w o at out) as (λ _. HasFound first w o) [
    | inl at_boot ↦ let none = out-boot true script w o at shaped in let some = at_boot.0 in absurd (omega arith)
    | inr found ↦ found
  ]

  -- nothing was swept of its number since it was found
  unswept : deaths e.effects o ≡ 0 → (w : ObjNo) → 0 < seeks o at (thread_of T w) → (f : HasFound first w o)
      → (removals f.find.effects o ≡ 0) × (removals (effects_of f.between) o ≡ 0)
  unswept none w out f =
      let a = away-since true script (first ++ later) f.before f.find f.between later w o valid
      (subst (IsLegalIn true script) (is ∙ sym (append_assoc before (e ∷ []) later)) legal)
      (ap (λ (l : List Entry). l ++ later) f.stands) f.gone in
      let R = next_by script (after_in true script f.before) f.find in
      let U = after_from script R f.between in
      let same_state : T ≡ U =
      ap (after_from script (boot_in true script)) f.stands ∙ after_from-append script (boot_in true script) f.before (f.find ∷ f.between) in
      let run = run-front script R f.between later (legal_runs script R a.place (f.between ++ later) shaped a.behind.rows a.behind.legal) in
      let there = subst (λ (V : State). 0 < seeks o at (thread_of V w)) same_state out in
      let still = a.still at in
      let past = past-sought script R w o at a.behind.rows (omega arith) in (
        a.turn.quiet o o f.found,
        run-unswept script R f.between o at run past (subst (λ (V : State). IsAlive (object_of V o)) same_state (living none))
            (ap (λ (V : State). place_of (object_of V o)) (sym same_state)),
      )

  -- none of those who are out opens it
  shut : deaths e.effects o ≡ 0 → (w : ObjNo) → 0 < seeks o at (thread_of T w) → opens w o (first_by w later) ≡ false
  shut none w out =
      let f = has_found w out in
      let quiet = unswept none w out f in
      let swept : removals (effects_of (f.find ∷ f.between)) o ≡ 0 =
      (let both = removals-append f.find.effects (effects_of f.between) o in let a = quiet.0 in let b = quiet.1 in omega arith) in
      let holds = since-holds f.before (f.find ∷ f.between) o swept in
      counted-find first w f.between later o f.find f.actor f.found f.gone holds.0
      (subst (λ (l : List Entry). finds_to_open l later o ≡ 0) (ap (λ (l : List Entry). since_swept l o) f.stands ∙ holds.1) counts.1)

  left_out : deaths e.effects o ≡ 0 → (w : ObjNo) → 0 < seeks o at (thread_of T w) → IsExcused true first later o
  left_out none w out =
      let f = has_found w out in
      let last = stands-rest script shaped (boot_in true script) 1 first later all in
      let idle = out-idle script shaped T last.0 later last.1 o at (living none) refl counts.0 (shut none) w out in
      record {
        before = f.before;
        find = f.find;
        between = f.between;
        stands = f.stands;
        thread = w;
        actor = f.actor;
        found = f.found;
        stays = (unswept none w out f).1;
        gone = first-both w f.between later f.gone idle;
      }

  excused : (0 < deaths e.effects o) ⊎ IsExcused true first later o
  excused = elim (cases_lt 0 (deaths e.effects o)) as (λ _. (0 < deaths e.effects o) ⊎ IsExcused true first later o) [
    | inl died ↦ inl died
    | inr none ↦ elim (cases_lt 0 (outs_of T o)) as (λ _. (0 < deaths e.effects o) ⊎ IsExcused true first later o) [
      | inr nobody ↦ inl (dies_unless_out true script before e later o valid parts taken zero (omega arith))
      | inl some ↦
          let w = some-part (seeks o at) T.references.threads None (total_of T.mode.shared some) in
          inr (left_out (omega arith) (record { 0 = w.0 }) w.1)
    ]
  ]
    where
      total_of : (shared : Bool) → 0 < (if shared then total (seeks o at) T.references.threads else 0) → 0 < total (seeks o at) T.references.threads
      total_of true some = some
      total_of false some = absurd (omega arith)

always : (shared : Bool) (script : Script) (history : List Entry) → IsWellFormed script
    → IsLegalIn shared script history → (o : ObjNo) → DiesAtZero shared script history o
always false script history valid legal o = dies_at_zero script history valid (legal_run false script history valid legal) o
always true script history valid legal o = λ before e later is taken zero. excused script history valid legal o before e later is taken zero

pub legal_references : (shared : Bool) (script : Script) (history : List Entry) → IsWellFormed script
    → IsLegalIn shared script history → IsSafeReferences shared script history
legal_references shared script history valid legal =
    let run = legal_run shared script history valid legal in
    run-safe shared script history (formed_is_shaped script valid) run
    (λ o. dies_only_at_zero shared script history valid run o
    (λ first later is unalive. shut-finds shared script first later o valid (subst (IsLegalIn shared script) is legal) unalive))
    (always shared script history valid legal) (missed shared script history valid legal)
