-- What all workers left is a whole run.
use Rattle.std.proofs.Common.{◌≡◌, ◌≤◌, ◌<◌, ◌∙◌, sym, ap, subst, arith, ℕ, zero, suc, ◌+◌, List, [], ◌∷◌, length, map, get_or, refl, true}
use Rattle.std.proofs.lemmas.List.{get_or-map, length-map}
use Rattle.std.specs.List.{AllByRecursion}
use Rattle.std.specs.Prelude.{All, Contains}
use Rattle.script_types.specs.Source.{IsWellFormed}
use Rattle.machine.specs.Boot.{boot_in, ready_at_boot}
use Rattle.machine.specs.SharedRun.{slots_taken, IsSharedPart, IsSharedRun}
use Rattle.machine_safe.specs.FindsAndReturns.{finds_in, returns_in}
use Rattle.machine_safe.proofs.FindsCounted.{slots_taken-append}
use Rattle.machine_safe.proofs.SharedRuns.{run-whole}
use Rattle.turn_lock.specs.declared.pass.Pass.{Pass}
use Rattle.turn_lock.specs.declared.view.Logged.{Logged}
use Rattle.turn_lock.specs.LockId.{LockId}
use Rattle.turn_lock.specs.Log.{entries_of, made_by, Begins}
use Rattle.turn_lock.specs.Passes.{caller_of, known_of, numbers, own_of, IsFree, IsWhole}
use Rattle.turn_lock.proofs.Logs.{entries_of-append}
use Rattle.shared_kernel.specs.declared.base.KernelBase.{KernelBase}
use Rattle.shared_kernel.proofs.Taking.{taken-few}
use Rattle.workers.specs.Rested.{IsRested, IsThrough}
use Rattle.workers.proofs.Sums.{all-back}

-- the callers are numbered from 0
number-at : (from n k d : ℕ) → k < n → get_or (numbers from n) k d ≡ from + k
number-at from zero k d low = absurd (omega arith)
number-at from (suc n) zero d low = omega arith
number-at from (suc n) (suc k) d low = let rest = number-at (from + 1) n k d (omega arith) in omega arith

length-numbers : (from n : ℕ) → length (numbers from n) ≡ n
length-numbers from zero = refl
length-numbers from (suc n) = ap suc (length-numbers (from + 1) n)

contained-low : (xs : List ℕ) (n x : ℕ) → xs ≡ numbers 0 n → Contains xs x → x < n
contained-low xs n x is has =
    let many : length xs ≡ n = ap length is ∙ length-numbers 0 n in
    let within = has.1 in
    let low : has.0 < n = omega arith in
    let at : get_or (numbers 0 n) has.0 x ≡ 0 + has.0 = number-at 0 n has.0 x low in
    let same : get_or xs has.0 x ≡ get_or (numbers 0 n) has.0 x = ap (λ (l : List ℕ). get_or l has.0 x) is in
    let x-is : get_or xs has.0 x ≡ x = has.2 in omega arith

low-callers : (xs : List ℕ) (n : ℕ) (log : List Logged) → xs ≡ numbers 0 n
    → All (λ (x : Logged). Contains xs x.caller) log → AllByRecursion (λ (x : Logged). x.caller < n) log
low-callers xs n [] is all = tt
low-callers xs n (x ∷ log) is all = (
  contained-low xs n x.caller is (all 0 x (omega arith)),
  low-callers xs n log is (λ k d within. all (suc k) d (omega arith)),
)

module _ (lock : LockId KernelBase) (count : ℕ) where
  -- each caller came back from what it found
  each-back : (passes : List (Pass KernelBase)) (log : List Logged) → All (IsThrough lock) passes
      → map caller_of passes ≡ numbers 0 count → IsWhole passes log → (c : ℕ) → c < count
      → returns_in (made_by c log) ≡ finds_in (made_by c log)
  each-back [] log through callers whole c low = let many : 0 ≡ count = ap length callers ∙ length-numbers 0 count in absurd (omega arith)
  each-back (p ∷ ps) log through callers whole c low =
      let many : length (map caller_of (p ∷ ps)) ≡ count = ap length callers ∙ length-numbers 0 count in
      let within : c < length (p ∷ ps) = omega (arith, length-map (p ∷ ps) caller_of) in
      let q = get_or (p ∷ ps) c p in
      let zero-on : 0 + c ≡ c = omega arith in
      let is : caller_of q ≡ c = sym (get_or-map caller_of (p ∷ ps) c p c within)
      ∙ (ap (λ (l : List ℕ). get_or l c c) callers ∙ (number-at 0 count c c low ∙ zero-on)) in
      let own : made_by (caller_of q) log ≡ own_of q = whole.own c p within in
      let back : returns_in (own_of q) ≡ finds_in (own_of q) = (through c p within).rested.back in
      subst (λ (n : ℕ). returns_in (made_by n log) ≡ finds_in (made_by n log)) is (ap returns_in own ∙ back ∙ sym (ap finds_in own))

  -- the log begins with what each of them knows, in which all slots are taken
  all-taken : (passes : List (Pass KernelBase)) (log : List Logged) → 0 < count → All (IsThrough lock) passes
      → map caller_of passes ≡ numbers 0 count → IsWhole passes log
      → length lock.base.script.slots ≤ slots_taken (entries_of log)
  all-taken [] log some through callers whole = let many : 0 ≡ count = ap length callers ∙ length-numbers 0 count in absurd (omega arith)
  all-taken (p ∷ ps) log some through callers whole =
      let front : Begins (known_of p) log = whole.begins 0 p (omega arith) in
      let none : slots_taken (entries_of (known_of p)) ≡ length lock.base.script.slots = (through 0 p (omega arith)).none in
      let split : slots_taken (entries_of log) ≡ slots_taken (entries_of (known_of p)) + slots_taken (entries_of front.rest) =
      ap (λ (l : List Logged). slots_taken (entries_of l)) (sym front.is)
      ∙ ap slots_taken (entries_of-append (known_of p) front.rest)
      ∙ slots_taken-append (entries_of (known_of p)) (entries_of front.rest) in
      omega arith

  pub whole-run : (passes : List (Pass KernelBase)) (log : List Logged) → 0 < count → All (IsThrough lock) passes
      → map caller_of passes ≡ numbers 0 count → IsWhole passes log → IsWellFormed lock.base.script
      → IsSharedPart lock.base.script (entries_of log) → IsSharedRun lock.base.script (entries_of log)
  whole-run passes log some through callers whole valid part =
      let script = lock.base.script in
      let most = taken-few script (boot_in true script) (ready_at_boot script) script.slots (entries_of log) part.slots in
      let least = all-taken passes log some through callers whole in
      run-whole script (entries_of log) valid part (omega arith)
      (all-back count log (low-callers (map caller_of passes) count log callers whole.callers)
      (each-back passes log through callers whole))

-- before their first draw all workers are rested
pub all-rested : (lock : LockId KernelBase) (passes : List (Pass KernelBase)) → IsWellFormed lock.base.script
    → All (IsFree lock) passes → All (λ p. known_of p ≡ []) passes → All (IsRested lock) passes
all-rested lock passes valid free known = λ k d within.
    let p = get_or passes k d in
    let none : known_of p ≡ [] = known k d within in
    record {
      valid = valid;
      free = free k d within;
      back = ap (λ (l : List Logged). returns_in (made_by (caller_of p) l)) none ∙ sym (ap (λ (l : List Logged). finds_in (made_by (caller_of p) l)) none);
    }
