-- What the callers made, added up, is what the log has.
use Rattle.std.proofs.Common.{◌≡◌, ◌≢◌, ℕ, zero, suc, ◌+◌, ◌<◌, ◌≤◌, eqb, Bool, true, false, List, [], ◌∷◌, ◌++◌, sym, refl, ap, ◌∙◌, ne_eqb, eq-eqb, ◌⊎◌, inl, inr, arith}
use Rattle.std.specs.Prelude.{if◌then◌else◌}
use Rattle.entry_log.specs.declared.entry.Entry.{Entry}
use Rattle.machine.specs.SharedRun.{is_return}
use Rattle.machine_safe.specs.FindsAndReturns.{finds_in, returns_in, times_found}
use Rattle.turn_lock.specs.declared.view.Logged.{Logged}
use Rattle.turn_lock.specs.Log.{entries_of, entry_if, made_by}
use Rattle.std.specs.List.{AllByRecursion}

-- a sum over the callers from one on, so many of them
abbrev over : (ℕ → ℕ) → ℕ → ℕ → ℕ
over g from zero = 0
over g from (suc n) = g from + over g (from + 1) n

over-add : (g h : ℕ → ℕ) (from n : ℕ) → over (λ c. g c + h c) from n ≡ over g from n + over h from n
over-add g h from zero = refl
over-add g h from (suc n) = let rest = over-add g h (from + 1) n in omega arith

over-same : (g h : ℕ → ℕ) (from n : ℕ) → ((c : ℕ) → from ≤ c → c < from + n → g c ≡ h c) → over g from n ≡ over h from n
over-same g h from zero same = refl
over-same g h from (suc n) same =
    let here : g from ≡ h from = same from (omega arith) (omega arith) in
    let rest = over-same g h (from + 1) n (λ c low high. same c (omega arith) (omega arith)) in omega arith

over-none : (g : ℕ → ℕ) (from n : ℕ) → ((c : ℕ) → from ≤ c → g c ≡ 0) → over g from n ≡ 0
over-none g from zero none = refl
over-none g from (suc n) none = let here = none from (omega arith) in let rest = over-none g (from + 1) n (λ c low. none c (omega arith)) in omega arith

-- the weight of entries, added up
abbrev weigh : (Entry → ℕ) → List Entry → ℕ
weigh f [] = 0
weigh f (e ∷ es) = f e + weigh f es

weigh-if : (f : Entry → ℕ) (b : Bool) (e : Entry) (es : List Entry) → weigh f (entry_if b e ++ es) ≡ weigh f (entry_if b e) + weigh f es
weigh-if f true e es = omega arith
weigh-if f false e es = omega arith

if-same : (f : Entry → ℕ) (k c : ℕ) (e : Entry) → k ≡ c → weigh f (entry_if (eqb k c) e) ≡ f e
if-same f k c e same = ap (λ b. weigh f (entry_if b e)) (eq-eqb k c same) ∙ omega arith

if-other : (f : Entry → ℕ) (k c : ℕ) (e : Entry) → k ≢ c → weigh f (entry_if (eqb k c) e) ≡ 0
if-other f k c e other = ap (λ b. weigh f (entry_if b e)) (ne_eqb k c other)

-- an entry weighs with its caller alone
one-caller : (f : Entry → ℕ) (k : ℕ) (e : Entry) (from n : ℕ) → from ≤ k → k < from + n → over (λ c. weigh f (entry_if (eqb k c) e)) from n ≡ f e
one-caller f k e from zero low high = absurd (omega arith)
one-caller f k e from (suc n) low high = elim (nat_cases from k low) as (λ _. over (λ c. weigh f (entry_if (eqb k c) e)) from (suc n) ≡ f e) [
  | inl same ↦ (
      let here = if-same f k from e (sym same) in
      let rest = over-none (λ c. weigh f (entry_if (eqb k c) e)) (from + 1) n (λ c above. if-other f k c e (λ is. absurd (omega arith))) in omega arith)
  | inr above ↦ (
      let here = if-other f k from e (λ is. absurd (omega arith)) in
      let rest = one-caller f k e (from + 1) n (omega arith) (omega arith) in omega arith)
]
  where
    nat_cases : (m k : ℕ) → m ≤ k → (m ≡ k) ⊎ (m + 1 ≤ k)
    nat_cases zero zero le = inl refl
    nat_cases zero (suc k) le = inr (omega arith)
    nat_cases (suc m) zero le = absurd (omega arith)
    nat_cases (suc m) (suc k) le = elim (nat_cases m k (omega arith)) as
        (λ _. (suc m ≡ suc k) ⊎ (suc m + 1 ≤ suc k)) [ inl same ↦ inl (ap suc same) | inr more ↦ inr (omega arith) ]

weigh-log : (f : Entry → ℕ) (count : ℕ) (log : List Logged) → AllByRecursion (λ (x : Logged). x.caller < count) log
    → weigh f (entries_of log) ≡ over (λ c. weigh f (made_by c log)) 0 count
weigh-log f count [] below = sym (over-none (λ c. 0) 0 count (λ c low. refl))
weigh-log f count (x ∷ log) below =
    let here = one-caller f x.caller x.entry 0 count (omega arith) (let b = below.0 in omega arith) in
    let rest = weigh-log f count log below.1 in
    let each = over-same (λ c. weigh f (made_by c (x ∷ log)))
    (λ c. weigh f (entry_if (eqb x.caller c) x.entry) + weigh f (made_by c log)) 0 count
    (λ c low high. weigh-if f (eqb x.caller c) x.entry (made_by c log)) in
    let both = over-add (λ c. weigh f (entry_if (eqb x.caller c) x.entry)) (λ c. weigh f (made_by c log)) 0 count in omega arith

-- so where each caller's returns are as many as its finds, the log's are
abbrev return_weight : Entry → ℕ
return_weight e = if is_return e.step then 1 else 0

abbrev find_weight : Entry → ℕ
find_weight e = times_found e.effects

returns-weigh : (es : List Entry) → returns_in es ≡ weigh return_weight es
returns-weigh [] = refl
returns-weigh (e ∷ es) = let rest = returns-weigh es in omega arith

finds-weigh : (es : List Entry) → finds_in es ≡ weigh find_weight es
finds-weigh [] = refl
finds-weigh (e ∷ es) = let rest = finds-weigh es in omega arith

pub all-back : (count : ℕ) (log : List Logged) → AllByRecursion (λ (x : Logged). x.caller < count) log
    → ((c : ℕ) → c < count → returns_in (made_by c log) ≡ finds_in (made_by c log))
    → returns_in (entries_of log) ≡ finds_in (entries_of log)
all-back count log below each =
    let returns = weigh-log return_weight count log below in
    let finds = weigh-log find_weight count log below in
    let same = over-same (λ c. weigh return_weight (made_by c log)) (λ c. weigh find_weight (made_by c log)) 0 count
    (λ c low high. sym (returns-weigh (made_by c log)) ∙ (each c (omega arith) ∙ finds-weigh (made_by c log))) in
    let r = returns-weigh (entries_of log) in let f = finds-weigh (entries_of log) in omega arith
