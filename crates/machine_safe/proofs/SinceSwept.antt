-- The count of a number's last life that a history tells.
use Rattle.std.proofs.Common.{◌≡◌, ◌⊎◌, inl, inr, ℕ, zero, suc, ◌+◌, ◌<◌, List, [], ◌∷◌, ◌++◌, arith, append_assoc, refl, sym, ap, ◌∙◌, Bool, true, false, Option, Some, None}
use Rattle.std.specs.Prelude.{nat_lt, is_none, ◌&&◌, if◌then◌else◌}
use Rattle.std.proofs.lemmas.Bool.{le-ltb, ltb-true}
use Rattle.sym_base.specs.declared.number.ObjNo.{ObjNo}
use Rattle.script_types.specs.declared.script.Script.{Script}
use Rattle.entry_log.specs.declared.effect.Effect.{Effect}
use Rattle.entry_log.specs.declared.entry.Actor.{Actor}
use Rattle.entry_log.specs.declared.entry.Actor.TheVariants.{Thread}
use Rattle.entry_log.specs.declared.entry.Entry.{Entry}
use Rattle.machine.specs.declared.state.State.{State}
use Rattle.machine.specs.Boot.{boot_in}
use Rattle.machine.specs.History.{after_from, choosing, next_by}
use Rattle.machine.specs.References.{count_of, minuses, pluses}
use Rattle.machine.specs.Rows.{object_of}
use Rattle.machine.specs.Told.{finds, removals}
use Rattle.machine.specs.WellFormed.{AreLives, IsAlive}
use Rattle.move_laws.proofs.Lives.Bits.{alive_undead}
use Rattle.move_laws.proofs.Lives.LivesMove.{LivesMove, zero_or}
use Rattle.move_laws.proofs.References.Effects.{removals-append}
use Rattle.move_laws.proofs.References.Same.{if_zero, if_not}
use Rattle.machine_safe.specs.CountAfter.{count_after, effects_of, finds_to_open, first_by, opens, opens_later, since_swept}
use Rattle.machine_safe.proofs.Runs.{IsSoundRun, run-counts}

-- nothing refers to an object whose row goes
swept-uncounted : (S T : State) (effects : List Effect) (o : ObjNo) → LivesMove S T effects
    → (0 < count_of S o → IsAlive (object_of S o)) → 0 < removals effects o → count_of T o ≡ 0
swept-uncounted S T effects o l alive some =
    let dead = (l.removes o some).0 in
    let before : count_of S o ≡ 0 = zero_or (count_of S o) (λ more. let undead = alive_undead (object_of S o) (alive more) in absurd (omega arith)) in
    let unopened : pluses effects o ≡ 0 = zero_or (pluses effects o) (λ more. let undead = (l.opens o more).0 in absurd (omega arith)) in
    let moved = l.counts o in omega arith

-- since the last sweep counts move as the effects since then say
pub counts-since : (script : Script) (S : State) (es : List Entry) (o : ObjNo) → IsSoundRun script S es
    → (0 < count_of S o → IsAlive (object_of S o))
    → (if nat_lt 0 (removals (effects_of es) o) then 0 else count_of S o) + pluses (effects_of (since_swept es o)) o
    ≡ count_of (after_from script S es) o + minuses (effects_of (since_swept es o)) o
counts-since script S [] o h alive = refl
counts-since script S (e ∷ es) o h alive =
    by (nat_lt 0 (removals (effects_of (e ∷ es)) o)) refl (counts-since script T es o h.1 (h.0.rows.lives.alive o))
  where
    T : State
    T = next_by script S e

    Since : Bool → Type 0
    Since b = (if b then 0 else count_of S o) + pluses (effects_of (if b then since_swept es o else e ∷ es)) o
        ≡ count_of (after_from script T es) o + minuses (effects_of (if b then since_swept es o else e ∷ es)) o

    later : (b : Bool) → nat_lt 0 (removals (effects_of es) o) ≡ b → nat_lt 0 (removals (effects_of (e ∷ es)) o) ≡ true
        → (if b then 0 else count_of T o) + pluses (effects_of (since_swept es o)) o
        ≡ count_of (after_from script T es) o + minuses (effects_of (since_swept es o)) o → Since true
    later true is some rest = rest
    later false is some rest =
        let all = ltb-true 0 (removals (effects_of (e ∷ es)) o) some in
        let parts = removals-append e.effects (effects_of es) o in
        let none : removals (effects_of es) o ≡ 0 = zero_or (removals (effects_of es) o) (λ more. no more is) in
        let zero = swept-uncounted (choosing e S) T e.effects o h.0.lives alive (omega arith) in omega arith
      where
        no : 0 < removals (effects_of es) o → nat_lt 0 (removals (effects_of es) o) ≡ false → ⊥
        no more is = grind arith

    by : (b : Bool) → nat_lt 0 (removals (effects_of (e ∷ es)) o) ≡ b
        → (if nat_lt 0 (removals (effects_of es) o) then 0 else count_of T o) + pluses (effects_of (since_swept es o)) o
        ≡ count_of (after_from script T es) o + minuses (effects_of (since_swept es o)) o → Since b
    by false is rest = sym (run-counts script S (e ∷ es) o h)
    by true is rest = later (nat_lt 0 (removals (effects_of es) o)) refl is rest

-- the count read off a history is the state's, with the finds that open the object later
pub count_after-is : (shared : Bool) (script : Script) (first later : List Entry) (o : ObjNo)
    → IsSoundRun script (boot_in shared script) first → AreLives (boot_in shared script)
    → count_after script first later o
    ≡ count_of (after_from script (boot_in shared script) first) o + finds_to_open (since_swept first o) later o
count_after-is shared script first later o run born = let a = counts-since script (boot_in shared script) first o run (born.alive o) in omega arith

-- what stands behind the last sweep is the last part
pub since-rest : (xs : List Entry) (o : ObjNo) → (pre : List Entry) × (xs ≡ pre ++ since_swept xs o)
since-rest [] o = ([], refl)
since-rest (x ∷ xs) o = by (nat_lt 0 (removals (effects_of (x ∷ xs)) o)) (since-rest xs o)
  where
    by : (b : Bool) → (pre : List Entry) × (xs ≡ pre ++ since_swept xs o)
        → (pre : List Entry) × (x ∷ xs ≡ pre ++ (if b then since_swept xs o else x ∷ xs))
    by true rest = (x ∷ rest.0, ap (λ (l : List Entry). x ∷ l) rest.1)
    by false rest = ([], refl)

-- and what no sweep follows is among it
pub since-holds : (xs ys : List Entry) (o : ObjNo) → removals (effects_of ys) o ≡ 0 → (mid : List Entry) × (since_swept (xs ++ ys) o ≡ mid ++ ys)
since-holds [] [] o none = ([], refl)
since-holds [] (y ∷ ys) o none =
    let few = le-ltb 0 (removals (effects_of (y ∷ ys)) o) (omega arith) in
    ([], ap (λ (b : Bool). if b then since_swept ys o else y ∷ ys) few)
since-holds (x ∷ xs) ys o none = by (nat_lt 0 (removals (effects_of (x ∷ xs ++ ys)) o)) (since-holds xs ys o none)
  where
    by : (b : Bool) → (mid : List Entry) × (since_swept (xs ++ ys) o ≡ mid ++ ys)
        → (mid : List Entry) × ((if b then since_swept (xs ++ ys) o else x ∷ xs ++ ys) ≡ mid ++ ys)
    by true rest = rest
    by false rest = (x ∷ xs, refl)

-- whose thread has no entry since doesn't open the object later
abbrev pub AreShut : List Entry → List Entry → ObjNo → Type 0
AreShut xs later o =
    (before : List Entry) (find : Entry) (between : List Entry) (w : ObjNo) → xs ≡ before ++ find ∷ between → find.actor ≡ Thread w
    → 0 < finds find.effects o → first_by w between ≡ None → opens w o (first_by w later) ≡ false

pub shut-since : (xs later : List Entry) (o : ObjNo) → AreShut xs later o → AreShut (since_swept xs o) later o
shut-since xs later o shut before find between w is by found none =
    let rest = since-rest xs o in
    shut (rest.0 ++ before) find between w (rest.1 ∙ ap (λ (l : List Entry). rest.0 ++ l) is ∙ sym (append_assoc rest.0 before (find ∷ between))) by found none

-- so no find among them is one to open it
pub finds-shut : (xs later : List Entry) (o : ObjNo) → AreShut xs later o → finds_to_open xs later o ≡ 0
finds-shut [] later o shut = refl
finds-shut (x ∷ xs) later o shut =
    let here = own x.actor refl in
    let rest = finds-shut xs later o (λ before find between w is. shut (x ∷ before) find between w (ap (λ (l : List Entry). x ∷ l) is)) in
    omega arith
  where
    some : (n : ℕ) → (n ≡ 0) ⊎ (0 < n)
    some zero = inl refl
    some (suc n) = inr (omega arith)

    thread : (w : ObjNo) → x.actor ≡ Thread w → 0 < finds x.effects o → (first : Option Entry) → first_by w xs ≡ first
        → (is_none first && opens w o (first_by w later)) ≡ false
    thread w is found None none = shut [] x xs w refl is found none
    thread w is found (Some e) later_one = refl

    found-shut : (actor : Actor) → x.actor ≡ actor → 0 < finds x.effects o → opens_later actor xs later o ≡ false
    found-shut (Thread w) is found = thread w is found (first_by w xs) refl
    found-shut _ is found = refl

    own : (actor : Actor) → x.actor ≡ actor → (if opens_later x.actor xs later o then finds x.effects o else 0) ≡ 0
    own actor is = elim (some (finds x.effects o)) as (λ _. (if opens_later x.actor xs later o then finds x.effects o else 0) ≡ 0) [
      | inl none ↦ if_zero (opens_later x.actor xs later o) (finds x.effects o) none
      | inr found ↦ if_not (opens_later x.actor xs later o) (finds x.effects o)
          (ap (λ (a : Actor). opens_later a xs later o) is ∙ found-shut actor is found)
    ]
