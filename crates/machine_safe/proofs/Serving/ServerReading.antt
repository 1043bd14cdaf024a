-- What is read of servers off a history, and what an action adds to it.
use Rattle.entry_log.specs.declared.effect.Effect.{Effect}
use Rattle.entry_log.specs.declared.entry.Entry.{Entry}
use Rattle.entry_log.specs.declared.step.Step.{Step}
use Rattle.machine_safe.proofs.Serving.EffectSums.{or-three, owner_told-append, server_told-append}
use Rattle.machine_safe.proofs.Serving.SinceMade.{effects-push, owner_in-append, remade-push, since-push}
use Rattle.machine_safe.specs.CountAfter.{effects_of}
use Rattle.machine_safe.specs.Served.{ends, handles_lost, is_doomed, is_remade, makes_session, or_before, owner_in, owner_told, server_told, since}
use Rattle.std.proofs.Common.{Bool, List, None, Option, Some, [], ap, append_assoc, arith, false, refl, sym, true, ℕ, ◌++◌, ◌+◌, ◌∙◌, ◌∷◌, ◌≡◌}
use Rattle.std.specs.Prelude.{if◌then◌else◌, is_some, nat_lt, ◌||◌}
use Rattle.sym_base.specs.declared.number.ObjNo.{ObjNo}
use Rattle.machine_safe.specs.Sent.{answers}
use Rattle.machine.specs.EntryWords.{makes_server}

-- who owns a server, what was told since it was made, whether a number became a server's since a session was made, all effects, and how often threads
-- were answered
pub record Reading : Type 0 where
  pub owner : ObjNo → Option ObjNo
  pub since : ObjNo → List Effect
  pub remade : ObjNo → ObjNo → Bool
  pub effects : List Effect
  pub answers : ℕ → ℕ

-- what entries tell
abbrev pub reading : List Entry → Reading
reading es = record {
  owner = owner_in es;
  since = λ v. effects_of (since es v);
  remade = is_remade es;
  effects = effects_of es;
  answers = λ k. answers es (record { 0 = k });
}

-- whether a server is closing by what is told, how often it ended, and whether the server of a session is closing, or another has its number
abbrev pub closing_by : Reading → ObjNo → Bool
closing_by r v = nat_lt 0 (handles_lost (r.since v) v) || is_doomed (r.since v) (r.owner v)

abbrev pub ends_by : Reading → ObjNo → ℕ
ends_by r v = ends (r.since v) v

abbrev pub is_over_by : Reading → ObjNo → ObjNo → Bool
is_over_by r s v = closing_by r v || r.remade s v

-- whom the effects of a step make the owner of a server, and to which server they link a session
abbrev pub made_by : Step → List Effect → ObjNo → Option ObjNo
made_by done effects v = if makes_server done then owner_told effects v else None

abbrev pub joined_by : Step → List Effect → ObjNo → Option ObjNo
joined_by done effects s = if makes_session done then server_told effects s else None

abbrev pub remade_then : Option ObjNo → Option ObjNo → Bool → Bool
remade_then joined made old = if is_some joined then false else (is_some made || old)

-- what is told with more effects of an action of this step, in which threads are answered so often
abbrev pub further : Reading → Step → List Effect → (ℕ → ℕ) → Reading
further r done effects n = record {
  owner = λ v. or_before (made_by done effects v) (r.owner v);
  since = λ v. if is_some (made_by done effects v) then effects else r.since v ++ effects;
  remade = λ s v. remade_then (joined_by done effects s) (made_by done effects v) (r.remade s v);
  effects = r.effects ++ effects;
  answers = λ k. r.answers k + n k;
}

-- two readings that tell the same
pub record IsSame (r q : Reading) : Type 0 where
  pub owner : (v : ObjNo) → r.owner v ≡ q.owner v
  pub since : (v : ObjNo) → r.since v ≡ q.since v
  pub remade : (s v : ObjNo) → r.remade s v ≡ q.remade s v
  pub effects : r.effects ≡ q.effects
  pub answers : (k : ℕ) → r.answers k ≡ q.answers k

pub same-then : (r q p : Reading) → IsSame r q → IsSame q p → IsSame r p
same-then r q p h g = record {
  owner = λ v. h.owner v ∙ g.owner v;
  since = λ v. h.since v ∙ g.since v;
  remade = λ s v. h.remade s v ∙ g.remade s v;
  effects = h.effects ∙ g.effects;
  answers = λ k. h.answers k ∙ g.answers k;
}

-- effects that make nobody an owner
abbrev pub Unowned : Step → List Effect → Type 0
Unowned done effects = makes_server done ≡ true → (v : ObjNo) → owner_told effects v ≡ None

pub made-none : (done : Step) (effects : List Effect) (v : ObjNo) → Unowned done effects → made_by done effects v ≡ None
made-none done effects v unowned = by (makes_server done) refl
  where
    by : (b : Bool) → makes_server done ≡ b → (if b then owner_told effects v else None) ≡ None
    by true makes = unowned makes v
    by false makes = refl

pub joined-none : (done : Step) (effects : List Effect) (s : ObjNo) → server_told effects s ≡ None → joined_by done effects s ≡ None
joined-none done effects s none = by (makes_session done)
  where
    by : (b : Bool) → (if b then server_told effects s else None) ≡ None
    by true = none
    by false = refl

-- where some effects make no owner, what is told since
pub since-on : (r : Reading) (done : Step) (effects : List Effect) (n : ℕ → ℕ) (v : ObjNo) → made_by done effects v ≡ None
    → (further r done effects n).since v ≡ r.since v ++ effects
since-on r done effects n v none = ap (λ (x : Option ObjNo). if is_some x then effects else r.since v ++ effects) none

pub owner-on : (r : Reading) (done : Step) (effects : List Effect) (n : ℕ → ℕ) (v : ObjNo) → made_by done effects v ≡ None
    → (further r done effects n).owner v ≡ r.owner v
owner-on r done effects n v none = ap (λ (x : Option ObjNo). or_before x (r.owner v)) none

pub remade-on : (r : Reading) (done : Step) (effects : List Effect) (n : ℕ → ℕ) (s v : ObjNo) → made_by done effects v ≡ None
    → joined_by done effects s ≡ None → (further r done effects n).remade s v ≡ r.remade s v
remade-on r done effects n s v none unjoined =
    ap (λ (x : Option ObjNo). remade_then x (made_by done effects v) (r.remade s v)) unjoined
    ∙ ap (λ (x : Option ObjNo). remade_then None x (r.remade s v)) none

made-both : (done : Step) (fs gs : List Effect) (v : ObjNo) → made_by done (fs ++ gs) v ≡ or_before (made_by done gs v) (made_by done fs v)
made-both done fs gs v = by (makes_server done)
  where
    by : (b : Bool) → (if b then owner_told (fs ++ gs) v else None) ≡ or_before (if b then owner_told gs v else None) (if b then owner_told fs v else None)
    by true = owner_told-append fs gs v
    by false = refl

joined-both : (done : Step) (fs gs : List Effect) (s : ObjNo) → joined_by done (fs ++ gs) s ≡ or_before (joined_by done gs s) (joined_by done fs s)
joined-both done fs gs s = by (makes_session done)
  where
    by : (b : Bool) → (if b then server_told (fs ++ gs) s else None) ≡ or_before (if b then server_told gs s else None) (if b then server_told fs s else None)
    by true = server_told-append fs gs s
    by false = refl

-- more effects of one action, in two parts, of which the second makes no owner
pub same-both : (r : Reading) (done : Step) (fs gs : List Effect) (n m : ℕ → ℕ) → Unowned done gs
    → IsSame (further (further r done fs n) done gs m) (further r done (fs ++ gs) (λ k. n k + m k))
same-both r done fs gs n m unowned = record {
  owner =
      λ v. sym (or-three (made_by done gs v) (made_by done fs v) (r.owner v))
      ∙ ap (λ (x : Option ObjNo). or_before x (r.owner v)) (sym (made-both done fs gs v));
  since =
      λ v. since-on (further r done fs n) done gs m v (made-none done gs v unowned)
      ∙ (behind v (is_some (made_by done fs v))
      ∙ ap (λ (x : Option ObjNo). if is_some x then fs ++ gs else r.since v ++ (fs ++ gs)) (sym (first v)));
  remade =
      λ s v. ap (λ (x : Option ObjNo). remade_then (joined_by done gs s) x (remade_then (joined_by done fs s) (made_by done fs v) (r.remade s v)))
      (made-none done gs v unowned)
      ∙ (both (joined_by done gs s) (joined_by done fs s) (made_by done fs v) (r.remade s v)
      ∙ (ap (λ (x : Option ObjNo). remade_then x (made_by done fs v) (r.remade s v)) (sym (joined-both done fs gs s))
      ∙ ap (λ (x : Option ObjNo). remade_then (joined_by done (fs ++ gs) s) x (r.remade s v)) (sym (first v))));
  effects = append_assoc r.effects fs gs;
  answers = λ k. omega arith;
}
  where
    first : (v : ObjNo) → made_by done (fs ++ gs) v ≡ made_by done fs v
    first v = made-both done fs gs v ∙ ap (λ (x : Option ObjNo). or_before x (made_by done fs v)) (made-none done gs v unowned)

    behind : (v : ObjNo) (b : Bool) → (if b then fs else r.since v ++ fs) ++ gs ≡ (if b then fs ++ gs else r.since v ++ (fs ++ gs))
    behind v true = refl
    behind v false = append_assoc (r.since v) fs gs

    both : (later earlier made : Option ObjNo) (old : Bool)
        → remade_then later None (remade_then earlier made old) ≡ remade_then (or_before later earlier) made old
    both None earlier made old = refl
    both (Some o) earlier made old = refl

-- an entry behind others
pub answers-append : (xs ys : List Entry) (t : ObjNo) → answers (xs ++ ys) t ≡ answers xs t + answers ys t
answers-append [] ys t = omega arith
answers-append (x ∷ xs) ys t = let r = answers-append xs ys t in omega arith

pub same-entry : (before : List Entry) (e : Entry) (n : ℕ → ℕ) → ((k : ℕ) → n k ≡ answers (e ∷ []) (record { 0 = k }))
    → IsSame (further (reading before) e.step e.effects n) (reading (before ++ e ∷ []))
same-entry before e n counts = record {
  owner = λ v. sym (owner_in-append before (e ∷ []) v);
  since = λ v. sym (since-push before e v);
  remade = λ s v. sym (remade-push before e s v);
  effects = sym (effects-push before e);
  answers = λ k. let a = answers-append before (e ∷ []) (record { 0 = k }) in let b = counts k in omega arith;
}
