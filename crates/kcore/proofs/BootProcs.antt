-- Threads and processes are added at boot one after the other.
use Rattle.std.proofs.Common.{◌≡◌, ◌∙◌, inl, inr, ℕ, zero, suc, ◌+◌, ◌<◌, ◌≤◌, arith, List, [], ◌∷◌, length, get_or, set, map, replicate, refl, sym, ap, add-one, Option, Some, None, false}
use Rattle.std.specs.Prelude.{is_some, slice_get}
use Rattle.std.proofs.lemmas.Bool.{cases_eq, cases_lt}
use Rattle.std.proofs.lemmas.List.{get_or_past, get_or-set_same, get_or-set_other, length-replicate, length-set}
use Rattle.sym_base.specs.declared.limits.TheConstants.Limits.{BOOT_OBJECTS, OBJECTS}
use Rattle.sym_base.specs.declared.number.ObjNo.{ObjNo}
use Rattle.state_rows.specs.declared.thread.ThreadRow.{ThreadRow}
use Rattle.state_rows.specs.LockChanges.{new_rows}
use Rattle.kern_sync.specs.KernelLocks.{KernelLocks, after_priority, new_locks}
use Rattle.machine.specs.Choice.{priority_of_row}

-- what is nothing
pub none_of : {A : Type 0} (x : Option A) → is_some x ≡ false → x ≡ None
none_of None is = refl
none_of (Some x) is = absurd (cc)

-- what the first n rows make, and nothing for the rest
abbrev pub made_so_far : {A : Type 0} → (Option ThreadRow → Option A) → List (Option ThreadRow) → ℕ → List (Option A)
made_so_far f [] n = []
made_so_far f (x ∷ xs) zero = None ∷ made_so_far f xs zero
made_so_far f (x ∷ xs) (suc n) = f x ∷ made_so_far f xs n

pub none_made : {A : Type 0} (f : Option ThreadRow → Option A) (xs : List (Option ThreadRow)) → replicate (length xs) None ≡ made_so_far f xs 0
none_made f [] = refl
none_made f (x ∷ xs) = ap (λ l. None ∷ l) (none_made f xs)

pub all_made : {A : Type 0} (f : Option ThreadRow → Option A) (xs : List (Option ThreadRow)) → made_so_far f xs (length xs) ≡ map f xs
all_made f [] = refl
all_made f (x ∷ xs) = ap (λ l. f x ∷ l) (all_made f xs)

pub made_long : {A : Type 0} (f : Option ThreadRow → Option A) (xs : List (Option ThreadRow)) (n : ℕ) → length (made_so_far f xs n) ≡ length xs
made_long f [] n = refl
made_long f (x ∷ xs) zero = ap suc (made_long f xs zero)
made_long f (x ∷ xs) (suc n) = ap suc (made_long f xs n)

-- the next isn't made yet
pub not_made : {A : Type 0} (f : Option ThreadRow → Option A) (xs : List (Option ThreadRow)) (n : ℕ) → get_or (made_so_far f xs n) n None ≡ None
not_made f [] n = refl
not_made f (x ∷ xs) zero = refl
not_made f (x ∷ xs) (suc n) = not_made f xs n

made_suc : {A : Type 0} (f : Option ThreadRow → Option A) (xs : List (Option ThreadRow)) (n : ℕ) (x : Option ThreadRow)
    → slice_get xs n ≡ Some x → set (made_so_far f xs n) n (f x) ≡ made_so_far f xs (suc n)
made_suc f [] n x at = absurd (cc)
made_suc f (y ∷ xs) zero x at = let same : x ≡ y = cc in ap (λ z. f z ∷ made_so_far f xs zero) same
made_suc f (y ∷ xs) (suc n) x at = ap (λ l. f y ∷ l) (made_suc f xs n x at)

pub one_made : {A : Type 0} (f : Option ThreadRow → Option A) (xs : List (Option ThreadRow)) (n : ℕ)
    (x : Option ThreadRow)
    → slice_get xs n ≡ Some x → set (made_so_far f xs n) n (f x) ≡ made_so_far f xs (n + 1)
one_made f xs n x at = rw add-one (made_suc f xs n x at)

-- the rows themselves
pub same_rows : (xs : List (Option ThreadRow)) → map (λ x. x) xs ≡ xs
same_rows [] = refl
same_rows (x ∷ xs) = ap (λ l. x ∷ l) (same_rows xs)

-- the first n threads have their priorities among waiters
pub record RankedTo (locks : KernelLocks) (threads : List (Option ThreadRow)) (n : ℕ) : Type 0 where
  pub rows : locks.rows ≡ new_rows OBJECTS
  pub long : length locks.priorities ≡ BOOT_OBJECTS
  pub done : (k : ℕ) → k < n → get_or locks.priorities k 0 ≡ priority_of_row (get_or threads k None)
  pub later : (k : ℕ) → n ≤ k → get_or locks.priorities k 0 ≡ 0

pub zeros : (n k : ℕ) → let none : ℕ = 0 in get_or (replicate n none) k none ≡ none
zeros zero k = refl
zeros (suc n) zero = refl
zeros (suc n) (suc k) = zeros n k

pub none_ranked : (locks : KernelLocks) (threads : List (Option ThreadRow)) → locks ≡ new_locks OBJECTS BOOT_OBJECTS → RankedTo locks threads 0
none_ranked locks threads is = record {
  rows = ap (λ (l : KernelLocks). l.rows) is;
  long = ap (λ (l : KernelLocks). length l.priorities) is ∙ length-replicate {A = ℕ} BOOT_OBJECTS 0;
  done = λ k lt. absurd (omega arith);
  later = λ k past. ap (λ (l : KernelLocks). get_or l.priorities k 0) is ∙ zeros BOOT_OBJECTS k;
}

pub one_ranked : (locks : KernelLocks) (threads : List (Option ThreadRow)) (n p : ℕ) → n < length locks.priorities
    → p ≡ priority_of_row (get_or threads n None) → RankedTo locks threads n
    → RankedTo (after_priority locks (record { 0 = n }) p) threads (n + 1)
one_ranked locks threads n p inside is h = record {
  rows = h.rows;
  long = length-set locks.priorities n p ∙ h.long;
  done = λ k lt. elim (cases_eq n k) [
    | inl at ↦
        ap (λ (i : ℕ). get_or (set locks.priorities n p) i 0) (sym at)
        ∙ (get_or-set_same locks.priorities n p 0 inside
        ∙ (is ∙ ap (λ (i : ℕ). priority_of_row (get_or threads i None)) at))
    | inr apart ↦ get_or-set_other locks.priorities n k p 0 (λ q. apart (sym q)) ∙ h.done k (omega arith)
  ];
  later = λ k past. get_or-set_other locks.priorities n k p 0 (λ q. omega arith) ∙ h.later k (omega arith);
}

pub all_ranked : (locks : KernelLocks) (threads : List (Option ThreadRow)) (n : ℕ) → length threads ≤ n
    → RankedTo locks threads n → (u : ObjNo) → get_or locks.priorities u.0 0 ≡ priority_of_row (get_or threads u.0 None)
all_ranked locks threads n long h u = elim (cases_lt u.0 n) [
  | inl lt ↦ h.done u.0 lt
  | inr past ↦ h.later u.0 past ∙ sym (ap priority_of_row (get_or_past threads u.0 None (omega arith)))
]
