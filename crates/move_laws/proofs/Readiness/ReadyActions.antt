-- After each action the ready list has exactly the threads that are ready, each once.
use Rattle.std.proofs.Common.{◌≡◌, ◌+◌, ◌≤◌, arith, inl, inr, List, [], ◌∷◌, ◌++◌, refl, sym, ap, ◌∙◌, Option, Some, None, Bool, true, false}
use Rattle.std.specs.Prelude.{◌==◌, ◌&&◌, ◌||◌, not, if◌then◌else◌, filter}
use Rattle.std.proofs.lemmas.Bool.{cases_eq, cases_Bool, eq-eqb, eqb-true, eqb-false, ne_eqb, or_parts}
use Rattle.sym_base.specs.declared.number.ObjNo.{ObjNo}
use Rattle.script_types.specs.declared.script.Script.{Script}
use Rattle.state_rows.specs.declared.duty.Owed.{Owed}
use Rattle.state_rows.specs.declared.duty.Owed.TheVariants.{Sweep}
use Rattle.machine.specs.declared.deferred_move.DeferredMove.TheVariants.{Add}
use Rattle.machine.specs.declared.moves.Move.{Move}
use Rattle.machine.specs.declared.moves.Move.TheVariants.{SetPriority, Deferred, Pay}
use Rattle.machine.specs.declared.state.State.{State}
use Rattle.machine.specs.Moves.{moved, told, perform}
use Rattle.machine.specs.Fits.{FitsMove, EachFits, Sane, most_owed}
use Rattle.machine.specs.References.{total}
use Rattle.machine.specs.Rows.{owed_of}
use Rattle.machine.specs.Arrivals.{is_listed, unlisted, touched, taken_out, arrive, arrivals, ready_after}
use Rattle.machine.specs.Task.{is_ready}
use Rattle.machine.specs.Tick.{moved_behind}
use Rattle.machine.specs.WellFormed.{AreApart, AreThreads, IsReadyList, weight}
use Rattle.move_laws.proofs.MoveLaws.Run.{sound-move, weight-move, sane-after}
use Rattle.move_laws.proofs.References.Same.{same_object}
use Rattle.move_laws.proofs.Readiness.ReadyLists.{listed-filter, listed-push, listed-last, unlisted-push, apart-push, apart-filter}
use Rattle.move_laws.proofs.Readiness.Touched.{JoinsOwnQueue, untouched}

-- each thread that is ready is listed, and none twice
pub record IsComplete (script : Script) (S : State) (qs : List ObjNo) : Type 0 where
  pub listed : (u : ObjNo) → is_ready script S u ≡ true → is_listed qs u ≡ true
  pub once : AreApart qs

-- one thread comes
abbrev come : Bool → ObjNo → List ObjNo → List ObjNo
come b v qs = if b && not (is_listed qs v) then qs ++ v ∷ [] else qs

come_if : (v : ObjNo) (qs : List ObjNo) (b : Bool) (P : List ObjNo → Type 0) → (is_listed qs v ≡ false → P (qs ++ v ∷ [])) → P qs → P (come b v qs)
come_if v qs b P there stays = by b (is_listed qs v) refl
  where
    by : (b listed : Bool) → is_listed qs v ≡ listed → P (if b && not listed then qs ++ v ∷ [] else qs)
    by true false e = there e
    by true true e = stays
    by false listed e = stays

come-has : (v : ObjNo) (qs : List ObjNo) → is_listed (come true v qs) v ≡ true
come-has v qs = by (is_listed qs v) refl
  where
    by : (listed : Bool) → is_listed qs v ≡ listed → is_listed (if true && not listed then qs ++ v ∷ [] else qs) v ≡ true
    by true e = e
    by false e = listed-last qs v v refl

arrive-keeps : (script : Script) (S : State) (us qs : List ObjNo) (u : ObjNo) → is_listed qs u ≡ true → is_listed (arrive script S us qs) u ≡ true
arrive-keeps script S [] qs u h = h
arrive-keeps script S (v ∷ us) qs u h =
    arrive-keeps script S us (come (is_ready script S v) v qs) u
    (come_if v qs (is_ready script S v) (λ l. is_listed l u ≡ true) (λ _. listed-push qs v u h) h)

arrive-has : (script : Script) (S : State) (us qs : List ObjNo) (u : ObjNo) → is_listed us u ≡ true
    → is_ready script S u ≡ true → is_listed (arrive script S us qs) u ≡ true
arrive-has script S [] qs u there ready = absurd (cc)
arrive-has script S (v ∷ us) qs u there ready = elim (cases_eq v.0 u.0) as (λ _. is_listed (arrive script S (v ∷ us) qs) u ≡ true) [
  | inl at ↦
      let same = same_object u v (sym at) in
      let here : is_ready script S v ≡ true = ap (is_ready script S) (sym same) ∙ ready in
      let has : is_listed (come (is_ready script S v) v qs) u ≡ true =
      ap (is_listed (come (is_ready script S v) v qs)) same
      ∙ ap (λ (b : Bool). is_listed (come b v qs) v) here
      ∙ come-has v qs in
      arrive-keeps script S us (come (is_ready script S v) v qs) u has
  | inr apart ↦ arrive-has script S us (come (is_ready script S v) v qs) u (ap (λ (b : Bool). b || is_listed us u) (sym (ne_eqb v.0 u.0 apart)) ∙ there) ready
]

arrive-apart : (script : Script) (S : State) (us qs : List ObjNo) → AreApart qs → AreApart (arrive script S us qs)
arrive-apart script S [] qs h = h
arrive-apart script S (v ∷ us) qs h =
    arrive-apart script S us (come (is_ready script S v) v qs)
    (come_if v qs (is_ready script S v) AreApart (λ none. apart-push qs v h none) h)

-- whoever isn't the thread that is taken out is listed still
listed-unlisted : (qs : List ObjNo) (v u : ObjNo) → (u.0 == v.0) ≡ false → is_listed qs u ≡ true → is_listed (unlisted v qs) u ≡ true
listed-unlisted qs v u apart h = listed-filter (λ q. not (q.0 == v.0)) qs u ∙ rw (h, apart) refl

listed-taken_out : (t : ObjNo) (m : Move) (qs : List ObjNo) (u : ObjNo) → is_listed (touched t m) u ≡ false
    → is_listed qs u ≡ true → is_listed (taken_out m qs) u ≡ true
listed-taken_out t (SetPriority v priority) qs u none h =
    listed-unlisted qs v u (ne_eqb u.0 v.0 (λ at. eqb-false v.0 u.0 (or_parts (v.0 == u.0) false none).0 (sym at))) h
listed-taken_out t (Pay (Sweep o)) qs u none h =
    let apart = (or_parts (t.0 == u.0) ((o.0 == u.0) || false) none).1 in
    listed-unlisted qs o u (ne_eqb u.0 o.0 (λ at. eqb-false o.0 u.0 (or_parts (o.0 == u.0) false apart).0 (sym at))) h
listed-taken_out t _ qs u none h = h

apart-taken_out : (m : Move) (qs : List ObjNo) → AreApart qs → AreApart (taken_out m qs)
apart-taken_out (SetPriority v priority) qs h = apart-filter (λ q. not (q.0 == v.0)) qs h
apart-taken_out (Pay (Sweep o)) qs h = apart-filter (λ q. not (q.0 == o.0)) qs h
apart-taken_out _ qs h = h

complete-move : (script : Script) (S : State) (t : ObjNo) (m : Move) (qs : List ObjNo)
    → AreThreads script S.references.threads → JoinsOwnQueue m S → IsComplete script S qs
    → IsComplete script (moved t m S) (arrive script (moved t m S) (touched t m) (taken_out m qs))
complete-move script S t m qs threads joins h = record {
  listed = λ u ready. elim (cases_Bool (is_listed (touched t m) u)) as (λ _. is_listed (arrive script (moved t m S) (touched t m) (taken_out m qs)) u ≡ true) [
    | inl there ↦ arrive-has script (moved t m S) (touched t m) (taken_out m qs) u there ready
    | inr none ↦
        arrive-keeps script (moved t m S) (touched t m) (taken_out m qs) u
        (listed-taken_out t m qs u none (h.listed u (sym (untouched script S t m u threads joins none) ∙ ready)))
  ];
  once = arrive-apart script (moved t m S) (touched t m) (taken_out m qs) (apart-taken_out m qs h.once);
}

-- a move that fits makes a call join its own queue
pub joins_own : (script : Script) (S : State) (t : ObjNo) (m : Move) → FitsMove script t m S → JoinsOwnQueue m S
joins_own script S t (Deferred (Add dfc queue)) fits = fits.1
joins_own script S t _ fits = tt

complete-moves : (script : Script) (S : State) (t : ObjNo) (ms : List Move) (qs : List ObjNo) → EachFits script t ms S
    → total weight (owed_of S t) + total most_owed ms ≤ 12 → Sane script t S → IsComplete script S qs
    → IsComplete script (perform t ms S) (arrivals script t ms S qs)
complete-moves script S t [] qs fits few s h = h
complete-moves script S t (m ∷ ms) qs fits few s h =
    let one = sound-move script S t m fits.0 (omega arith) s in
    let w = weight-move script S t m fits.0 in
    complete-moves script (moved t m S) t ms (arrive script (moved t m S) (touched t m) (taken_out m qs)) fits.1
    (omega arith) (sane-after script S (moved t m S) t (told m S) s one)
    (complete-move script S t m qs s.rows.references.threads (joins_own script S t m fits.0) h)

-- those of them that are ready are the ready ones
ready-filter : (script : Script) (S : State) (qs : List ObjNo) → IsComplete script S qs → IsReadyList script S (filter (is_ready script S) qs)
ready-filter script S qs h = record {
  exact = λ u. listed-filter (is_ready script S) qs u ∙ by u (is_listed qs u) (is_ready script S u) refl refl;
  once = apart-filter (is_ready script S) qs h.once;
}
  where
    by : (u : ObjNo) (listed ready : Bool) → is_listed qs u ≡ listed → is_ready script S u ≡ ready → (listed && ready) ≡ ready
    by u true ready e f = refl
    by u false false e f = refl
    by u false true e f = let there = h.listed u f in cc

complete-of : (script : Script) (S : State) (qs : List ObjNo) → IsReadyList script S qs → IsComplete script S qs
complete-of script S qs h = record { listed = λ u ready. h.exact u ∙ ready; once = h.once }

-- the moves of an action leave the ready list exact
pub ready-moves : (script : Script) (S : State) (t : ObjNo) (ms : List Move) (qs : List ObjNo) → EachFits script t ms S
    → total weight (owed_of S t) + total most_owed ms ≤ 12 → Sane script t S → IsReadyList script S qs
    → IsReadyList script (perform t ms S) (ready_after script t ms S qs)
ready-moves script S t ms qs fits few s h =
    ready-filter script (perform t ms S) (arrivals script t ms S qs)
    (complete-moves script S t ms qs fits few s (complete-of script S qs h))

-- so does a payment, and so does no move
pub ready-pay : (script : Script) (S : State) (t : ObjNo) (what : Owed) (qs : List ObjNo)
    → AreThreads script S.references.threads → IsReadyList script S qs
    → IsReadyList script (perform t (Pay what ∷ []) S) (ready_after script t (Pay what ∷ []) S qs)
ready-pay script S t what qs threads h =
    ready-filter script (moved t (Pay what) S) (arrivals script t (Pay what ∷ []) S qs)
    (complete-move script S t (Pay what) qs threads tt (complete-of script S qs h))

pub ready-none : (script : Script) (S : State) (t : ObjNo) (qs : List ObjNo) → IsReadyList script S qs → IsReadyList script S (ready_after script t [] S qs)
ready-none script S t qs h = ready-filter script S qs (complete-of script S qs h)

behind_self : (t u : ObjNo) (qs : List ObjNo) → is_listed qs t ≡ true → (same : Bool) → (t.0 == u.0) ≡ same
    → is_listed (unlisted t qs ++ t ∷ []) u ≡ is_listed qs u
behind_self t u qs there true e =
    let at = eqb-true t.0 u.0 e in listed-last (unlisted t qs) t u at ∙ sym (ap (is_listed qs) (same_object u t (sym at)) ∙ there)
behind_self t u qs there false e = elim (cases_Bool (is_listed qs u)) as (λ _. is_listed (unlisted t qs ++ t ∷ []) u ≡ is_listed qs u) [
  | inl listed ↦ listed-push (unlisted t qs) t u (listed-filter (λ q. not (q.0 == t.0)) qs u ∙ both listed) ∙ sym listed
  | inr none ↦
      unlisted-push (unlisted t qs) t u (listed-filter (λ q. not (q.0 == t.0)) qs u
      ∙ ap (λ (b : Bool). b && not (u.0 == t.0)) none) (λ at. let yes = eq-eqb t.0 u.0 at in cc)
      ∙ sym none
]
  where
    other : (u.0 == t.0) ≡ false
    other = ne_eqb u.0 t.0 (λ at. let yes = eq-eqb t.0 u.0 (sym at) in cc)

    both : is_listed qs u ≡ true → (is_listed qs u && not (u.0 == t.0)) ≡ true
    both listed = rw (listed, other) refl

-- a thread that comes behind the others
pub ready-behind : (script : Script) (S : State) (qs : List ObjNo) (found : Option ObjNo)
    → ((t : ObjNo) → found ≡ Some t → is_listed qs t ≡ true) → IsReadyList script S qs
    → IsReadyList script S (moved_behind qs found)
ready-behind script S qs None there h = h
ready-behind script S qs (Some t) there h = record {
  exact = λ u. behind_self t u qs (there t refl) (t.0 == u.0) refl ∙ h.exact u;
  once = apart-push (unlisted t qs) t (apart-filter (λ q. not (q.0 == t.0)) qs h.once) (listed-filter (λ q. not (q.0 == t.0)) qs t ∙ gone (is_listed qs t));
}
  where
    gone : (b : Bool) → (b && not (t.0 == t.0)) ≡ false
    gone true = rw (eq-eqb t.0 t.0 refl) refl
    gone false = refl
