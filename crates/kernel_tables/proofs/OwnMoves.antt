-- The queues of ready threads don't change by moves that touch no thread but the acting one.
use Rattle.std.proofs.Common.{◌≡◌, ◌∙◌, ◌⊎◌, ℕ, ◌≤◌, inl, inr, Bool, true, false, ◌&&◌, ◌==◌, List, [], ◌∷◌, arith, refl, sym, ap, subst}
use Rattle.std.specs.List.{list_all}
use Rattle.std.specs.Prelude.{nat_le}
use Rattle.std.proofs.lemmas.Bool.{and_parts, cases_Bool, eq-eqb, false_from_ne_true, leb-true, or_right}
use Rattle.sym_base.specs.declared.limits.TheConstants.Limits.{BOOT_OBJECTS}
use Rattle.sym_base.specs.declared.number.ObjNo.{ObjNo}
use Rattle.script_types.specs.declared.script.Script.{Script}
use Rattle.ready_list.specs.Ready.{Ready, IsReady}
use Rattle.machine.specs.declared.moves.Move.{Move}
use Rattle.machine.specs.declared.state.State.{State}
use Rattle.machine.specs.Arrivals.{arrive, is_listed, taken_out, touched, unlisted}
use Rattle.machine.specs.Rows.{thread_of}
use Rattle.machine.specs.Task.{is_ready}
use Rattle.kernel_tables.specs.Moved.{AreKnown}
use Rattle.kernel_tables.specs.OwnMoves.{AreOwn, AreThreads, IsOwn, is_own_number}
use Rattle.kernel_tables.specs.ReadyQueues.{AreReady, Follow, leave, leave_along}
use Rattle.kernel_tables.proofs.ReadyChanges.{past_row}
use Rattle.kernel_tables.proofs.ReadyLists.{one_thread, without_unlisted}
use Rattle.kernel_tables.proofs.ReadyQueues.{ready_queued}

-- a number past those of threads stands in no list of threads, so it leaves none
pub past_unlisted : (u : ObjNo) (qs : List ObjNo) → BOOT_OBJECTS ≤ u.0 → AreThreads qs → unlisted u qs ≡ qs
past_unlisted u qs past threads =
    without_unlisted u qs (false_from_ne_true (is_listed qs u) (λ listed. let low = threads u listed in absurd (omega arith)))

-- so a sweep of such a number is the thread's own move
pub sweep_owns : (t o : ObjNo) → nat_le BOOT_OBJECTS o.0 ≡ true → list_all (is_own_number t) (t ∷ o ∷ []) ≡ true
sweep_owns t o past = rw (eq-eqb t.0 t.0 refl, or_right (o.0 == t.0) (nat_le BOOT_OBJECTS o.0) past) refl

-- a number of the two kinds
own_or_past : (t u : ObjNo) → is_own_number t u ≡ true → (u ≡ t) ⊎ (BOOT_OBJECTS ≤ u.0)
own_or_past t u own = elim (cases_Bool (u.0 == t.0)) [
  | inl same ↦ inl (one_thread u t same)
  | inr other ↦ inr (leb-true BOOT_OBJECTS u.0 (rw other at own))
]

-- of these none leaves, if the thread is ready
none_leaves : (script : Script) (S : State) (t : ObjNo) (us qs : List ObjNo) → list_all (is_own_number t) us ≡ true
    → is_ready script S t ≡ true → AreThreads qs → leave script S us qs ≡ qs
none_leaves script S t [] qs own ready threads = refl
none_leaves script S t (u ∷ us) qs own ready threads =
    let parts = and_parts (is_own_number t u) (list_all (is_own_number t) us) own in
    let rest = none_leaves script S t us qs parts.1 ready threads in
    elim (cases_Bool (is_ready script S u)) as (λ _. leave script S (u ∷ us) qs ≡ qs) [
      | inl there ↦ rw there rest
      | inr unready ↦ elim (own_or_past t u parts.0) [
        | inl same ↦ let clash : true ≡ false = sym ready ∙ (ap (is_ready script S) (sym same) ∙ unready) in absurd (cc)
        | inr past ↦ rw (unready, past_unlisted u qs past threads) rest
      ]
    ]

none_leaves_along : (script : Script) (S : State) (t : ObjNo) (ms : List Move) (qs : List ObjNo) → AreOwn t ms
    → is_ready script S t ≡ true → AreThreads qs → leave_along script S t ms qs ≡ qs
none_leaves_along script S t [] qs own ready threads = refl
none_leaves_along script S t (m ∷ ms) qs own ready threads =
    ap (λ (l : List ObjNo). leave_along script S t ms l) (none_leaves script S t (touched t m) qs own.0.0 ready threads)
    ∙ none_leaves_along script S t ms qs own.1 ready threads

pub own_leaves : (script : Script) (S : State) (rank : ObjNo → ℕ) (t : ObjNo) (ms : List Move) (r : Ready) → AreOwn t ms
    → is_ready script S t ≡ true → Follow rank (leave_along script S t ms) r r
own_leaves script S rank t ms r own ready qs h =
    subst (λ (l : List ObjNo). AreReady rank l r) (sym (none_leaves_along script S t ms qs own ready h.known)) h

-- none comes, if the thread stands in the list
none_comes : (script : Script) (S : State) (t : ObjNo) (us qs : List ObjNo) → AreKnown S → list_all (is_own_number t) us ≡ true
    → is_listed qs t ≡ true → arrive script S us qs ≡ qs
none_comes script S t [] qs known own listed = refl
none_comes script S t (u ∷ us) qs known own listed =
    let parts = and_parts (is_own_number t u) (list_all (is_own_number t) us) own in
    let rest = none_comes script S t us qs known parts.1 listed in
    elim (own_or_past t u parts.0) as (λ _. arrive script S (u ∷ us) qs ≡ qs) [
      | inl same ↦
          let there : is_listed qs u ≡ true = ap (is_listed qs) same ∙ listed in
          rw (there, never (is_ready script S u)) rest
      | inr past ↦ rw (past_row script S u (thread_of S u) known past refl) rest
    ]
  where
    never : (b : Bool) → (b && false) ≡ false
    never true = refl
    never false = refl

pub own_comes : (script : Script) (S : State) (rank : ObjNo → ℕ) (t : ObjNo) (m : Move) (r : Ready) → AreKnown S → IsOwn t m → IsReady r t
    → Follow rank (arrive script S (touched t m)) r r
own_comes script S rank t m r known own queued qs h =
    let listed : is_listed qs t ≡ true = sym (ready_queued rank qs r t h.queues) ∙ queued in
    subst (λ (l : List ObjNo). AreReady rank l r) (sym (none_comes script S t (touched t m) qs known own.0 listed)) h

-- and nobody is taken out
pub own_stays : (t : ObjNo) (m : Move) (r : Ready) → IsOwn t m → (rank : ObjNo → ℕ) → Follow rank (taken_out m) r r
own_stays t m r own rank qs h = subst (λ (l : List ObjNo). AreReady rank l r) (sym (own.1 qs h.known)) h
