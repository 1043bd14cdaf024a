-- What a history tells of who is out: each has found its object, and had no entry since; and where an object has no reference and nobody who is
-- out on it opens it, none of them has an entry any more.
use Rattle.std.proofs.Common.{◌≡◌, ◌⊎◌, inl, inr, ℕ, ◌+◌, ◌<◌, List, [], ◌∷◌, ◌++◌, arith, refl, sym, ap, subst, ◌∙◌, Bool, true, false, Option, Some, None}
use Rattle.std.specs.Prelude.{nat_lt, if◌then◌else◌}
use Rattle.std.proofs.lemmas.Bool.{le-ltb, lt-ltb}
use Rattle.sym_base.specs.declared.number.ObjNo.{ObjNo}
use Rattle.script_types.specs.declared.script.Script.{Script}
use Rattle.script_types.specs.Shape.{IsShaped}
use Rattle.entry_log.specs.declared.effect.Holder.TheVariants.{Temp}
use Rattle.entry_log.specs.declared.entry.Actor.TheVariants.{Thread}
use Rattle.entry_log.specs.declared.entry.Entry.{Entry}
use Rattle.state_rows.specs.ObjectRows.{place_of}
use Rattle.machine.specs.declared.state.State.{State}
use Rattle.machine.specs.History.{after_from, choosing, next_by, transition, IsLegalFrom, IsNext}
use Rattle.machine.specs.Out.{seeks}
use Rattle.machine.specs.References.{count_of, pluses}
use Rattle.machine.specs.Rows.{object_of, thread_of}
use Rattle.machine.specs.Told.{deaths, finds, removals}
use Rattle.machine.specs.WellFormed.{AreRows, IsAlive}
use Rattle.move_laws.proofs.Lives.Bits.{alive_there, alive_undead}
use Rattle.move_laws.proofs.Lives.LivesMove.{zero_or}
use Rattle.machine_safe.specs.CountAfter.{first_by, is_by, opens, pluses_by}
use Rattle.machine_safe.proofs.Deaths.OnceEach.{actor-is}
use Rattle.machine_safe.proofs.Done.{done-next, rows-by, rows-choosing}
use Rattle.machine_safe.proofs.Finders.Actions.{AtFinds}
use Rattle.machine_safe.proofs.Finders.Entries.{Turns, at-next, turns-next}
use Rattle.machine_safe.proofs.FindsToOpen.{pluses_by_le}
use Rattle.machine_safe.proofs.Runs.{IsOver, legal_runs, over-next, over_not_alive}

-- a state in which these entries may follow
pub record Stands (script : Script) (S : State) (place : ℕ) (es : List Entry) : Type 0 where
  pub rows : AreRows script S
  pub at : AtFinds script S
  pub legal : IsLegalFrom script S place es

-- a thread's find of an object, with no entry of that thread behind it
pub record HasFound (es : List Entry) (w o : ObjNo) : Type 0 where
  pub before : List Entry
  pub find : Entry
  pub between : List Entry
  pub stands : es ≡ before ++ find ∷ between
  pub actor : find.actor ≡ Thread w
  pub found : 0 < finds find.effects o
  pub gone : first_by w between ≡ None

module _ (script : Script) (shaped : IsShaped script) where
  -- what the first of them does to who is out
  turns-by : (S : State) (place : ℕ) (e : Entry) → AreRows script S → AtFinds script S → IsNext script S place e
      → Turns script S (next_by script S e) e.actor e.effects
  turns-by S place e rows at next =
      let done = done-next script S place e next in
      let h = turns-next script (choosing e S) e.actor shaped (rows-choosing script S e rows) at done.able in
      let told : e.effects ≡ (transition script (choosing e S) e.actor).outcome.effects = ap (λ (x : Entry). x.effects) done.told in
      subst (Turns script S (next_by script S e) e.actor) (sym told)
      (record {
        others = h.others;
        found = h.found;
        own = h.own;
        quiet = h.quiet;
        unmoved = h.unmoved;
        opens = h.opens;
        misses = h.misses;
        dormant = h.dormant;
      })

  pub turns : (S : State) (place : ℕ) (e : Entry) (es : List Entry) → Stands script S place (e ∷ es) → Turns script S (next_by script S e) e.actor e.effects
  turns S place e es h = turns-by S place e h.rows h.at h.legal.0

  -- the others follow then
  pub stands-next : (S : State) (place : ℕ) (e : Entry) (es : List Entry) → Stands script S place (e ∷ es) → Stands script (next_by script S e) (place + 1) es
  stands-next S place e es h =
      let done = done-next script S place e h.legal.0 in
      record {
        rows = rows-by script S e shaped h.rows;
        at = at-next script (choosing e S) e.actor shaped (rows-choosing script S e h.rows) h.at done.able;
        legal = h.legal.1;
      }

  pub stands-rest : (S : State) (place : ℕ) (xs ys : List Entry) → Stands script S place (xs ++ ys) → (n : ℕ) × Stands script (after_from script S xs) n ys
  stands-rest S place [] ys h = (place, h)
  stands-rest S place (x ∷ xs) ys h = stands-rest (next_by script S x) (place + 1) xs ys (stands-next S place x (xs ++ ys) h)

  -- whoever has no entry among several is out behind them as before
  first-none : (b : Bool) (e : Entry) (x : Option Entry) → (if b then Some e else x) ≡ None → (b ≡ false) × (x ≡ None)
  first-none true e x none = absurd (cc)
  first-none false e x none = (refl, none)

  pub out-still : (S : State) (place : ℕ) (xs ys : List Entry) → Stands script S place (xs ++ ys) → (w o : ObjNo) (at : ℕ)
      → first_by w xs ≡ None → seeks o at (thread_of (after_from script S xs) w) ≡ seeks o at (thread_of S w)
  out-still S place [] ys h w o at none = refl
  out-still S place (x ∷ xs) ys h w o at none =
      let parts = first-none (is_by w x.actor) x (first_by w xs) none in
      out-still (next_by script S x) (place + 1) xs ys (stands-next S place x (xs ++ ys) h) w o at parts.1
      ∙ (turns S place x (xs ++ ys) h).others w o at parts.0

  -- whoever is out has found its object among these, and has no entry since, or was out before them, and has no entry at all
  abbrev IsTold : State → List Entry → ObjNo → ObjNo → ℕ → Type 0
  IsTold S es w o at = ((0 < seeks o at (thread_of S w)) × (first_by w es ≡ None)) ⊎ HasFound es w o

  out-step : (S : State) (place : ℕ) (x : Entry) (xs ys : List Entry) → Stands script S place (x ∷ xs ++ ys)
      → (w o : ObjNo) (at : ℕ) → 0 < seeks o at (thread_of (next_by script S x) w) → first_by w xs ≡ None → (b : Bool)
      → is_by w x.actor ≡ b → IsTold S (x ∷ xs) w o at
  out-step S place x xs ys h w o at out none true by =
      let own = (turns S place x (xs ++ ys) h).own w o at by out in
      inr (record { before = []; find = x; between = xs; stands = refl; actor = actor-is w x.actor by; found = own.0; gone = none })
  out-step S place x xs ys h w o at out none false by =
      let other = (turns S place x (xs ++ ys) h).others w o at by in
      inl ((omega arith), ap (λ (b : Bool). if b then Some x else first_by w xs) by ∙ none)

  pub out-told : (S : State) (place : ℕ) (xs ys : List Entry) → Stands script S place (xs ++ ys) → (w o : ObjNo) (at : ℕ)
      → 0 < seeks o at (thread_of (after_from script S xs) w) → IsTold S xs w o at
  out-told S place [] ys h w o at out = inl (out, refl)
  out-told S place (x ∷ xs) ys h w o at out =
      elim (out-told (next_by script S x) (place + 1) xs ys (stands-next S place x (xs ++ ys) h) w o at out) as
      (λ _. IsTold S (x ∷ xs) w o at) [
        | inl still ↦ out-step S place x xs ys h w o at still.0 still.1 (is_by w x.actor) refl
        | inr f ↦
            inr (record {
              before = x ∷ f.before;
              find = f.find;
              between = f.between;
              stands = ap (λ (l : List Entry). x ∷ l) f.stands;
              actor = f.actor;
              found = f.found;
              gone = f.gone;
            })
      ]

  -- Where an object is alive without a reference, and none of those who are out on it opens it as its next entry, none of them has one.
  pub out-idle : (S : State) (place : ℕ) (es : List Entry) → Stands script S place es → (o : ObjNo) (at : ℕ)
      → IsAlive (object_of S o) → place_of (object_of S o) ≡ at → count_of S o ≡ 0
      → ((w : ObjNo) → 0 < seeks o at (thread_of S w) → opens w o (first_by w es) ≡ false) → (w : ObjNo) → 0 < seeks o at (thread_of S w)
      → first_by w es ≡ None
  out-idle S place [] h o at alive is none shut w out = refl
  out-idle S place (e ∷ es) h o at alive is none shut w out =
      by (λ later_alive later_is later_none later_shut later_out. out-idle (next_by script S e) (place + 1) es
      (stands-next S place e es h) o at later_alive later_is later_none later_shut w later_out) (is_by w e.actor) refl
    where
      T : State
      T = next_by script S e

      turn : Turns script S T e.actor e.effects
      turn = turns S place e es h

      -- its actor isn't one of them, since it would open the object
      away : (u : ObjNo) → is_by u e.actor ≡ true → seeks o at (thread_of S u) ≡ 0
      away u by = zero_or (seeks o at (thread_of S u)) (λ some.
          let here = subst (λ (n : ℕ). 0 < seeks o n (thread_of S u)) (sym is) some in
          let opened = lt-ltb 0 (pluses_by e.effects (Temp u) o) (turn.opens u o by alive here) in
          let not_opened = sym (ap (λ (b : Bool). opens u o (if b then Some e else first_by u es)) by) ∙ shut u some in absurd (cc))

      dormant : (pluses e.effects o ≡ 0) × (finds e.effects o ≡ 0)
      dormant = turn.dormant o alive none (λ u by. ap (λ (n : ℕ). seeks o n (thread_of S u)) is ∙ away u by)

      quiet : (u : ObjNo) → 0 < seeks o at (thread_of T u) → is_by u e.actor ≡ false
      quiet u some = no (is_by u e.actor) refl
        where
          no : (b : Bool) → is_by u e.actor ≡ b → b ≡ false
          no true by = let own = turn.own u o at by some in let found = own.0 in let unfound = dormant.1 in absurd (omega arith)
          no false by = refl

      still : (u : ObjNo) → 0 < seeks o at (thread_of T u) → opens u o (first_by u es) ≡ false
      still u some =
          let other = quiet u some in
          let same_out = turn.others u o at other in
          sym (ap (λ (b : Bool). opens u o (if b then Some e else first_by u es)) other) ∙ shut u (omega arith)

      by : (IsAlive (object_of T o) → place_of (object_of T o) ≡ at → count_of T o ≡ 0
          → ((u : ObjNo) → 0 < seeks o at (thread_of T u) → opens u o (first_by u es) ≡ false) → 0 < seeks o at (thread_of T w)
          → first_by w es ≡ None)
          → (b : Bool) → is_by w e.actor ≡ b → (if b then Some e else first_by w es) ≡ None
      by rest true acts = let gone_now = away w acts in absurd (omega arith)
      by rest false acts =
          let lives = (legal_runs script S place (e ∷ es) shaped h.rows h.legal).0.lives in
          let counts = lives.counts o in
          let unopened = dormant.0 in
          let undead = zero_or (deaths e.effects o) (λ some. let last = lives.last o some in omega arith) in
          let whole = alive_undead (object_of S o) alive in
          let unswept = zero_or (removals e.effects o) (λ some. let swept = lives.removes o some in omega arith) in
          let there = lives.there o (alive_there (object_of S o) alive) unswept in
          let same_out = turn.others w o at acts in
          rest (lives.stays o alive undead) (there.1 ∙ is) (omega arith) still (omega arith)

  -- Where no object of a place is alive, and none will be, nobody who is out on it opens anything as its next entry.
  pub out-shut : (S : State) (place : ℕ) (es : List Entry) → Stands script S place es → (o : ObjNo) (at : ℕ) → IsOver S o at
      → (w : ObjNo) → 0 < seeks o at (thread_of S w) → opens w o (first_by w es) ≡ false
  out-shut S place [] h o at over w out = refl
  out-shut S place (e ∷ es) h o at over w out =
      by (λ later_over later_out. out-shut (next_by script S e) (place + 1) es (stands-next S place e es h) o at later_over w later_out)
      (is_by w e.actor) refl
    where
      T : State
      T = next_by script S e

      shut : pluses e.effects o ≡ 0 → nat_lt 0 (pluses_by e.effects (Temp w) o) ≡ false
      shut none = let few = pluses_by_le e.effects (Temp w) o in le-ltb 0 (pluses_by e.effects (Temp w) o) (omega arith)

      by : (IsOver T o at → 0 < seeks o at (thread_of T w) → opens w o (first_by w es) ≡ false)
          → (b : Bool) → is_by w e.actor ≡ b → opens w o (if b then Some e else first_by w es) ≡ false
      by rest true acts = shut ((turns S place e es h).misses w o at acts (over_not_alive S o at over) out o)
      by rest false acts =
          let lives = (legal_runs script S place (e ∷ es) shaped h.rows h.legal).0.lives in
          let same_out = (turns S place e es h).others w o at acts in
          rest (over-next (choosing e S) T e.effects o at lives (record { past = over.past; over = over.over })) (omega arith)
