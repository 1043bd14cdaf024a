-- Words are those of one command at most.
use Rattle.std.proofs.Common.{◌≡◌, ℕ, List, ◌∷◌, inl, inr, refl, sym, ap, subst, ◌∙◌, arith}
use Rattle.std.proofs.lemmas.Fmt.{decimal_injective}
use Rattle.std.specs.Fmt.{decimal}
use Rattle.eka2_app.specs.Readings.{AreFewWorkers, AreWordsOf, IsInRange, IsReading, HasNumbers}
use Rattle.eka2_app.specs.declared.words.Command.{Command}
use Rattle.eka2_app.specs.declared.words.Command.TheVariants as command

same_seed : (a b m n : ℕ) → IsInRange a m → IsInRange b n → decimal a ≡ decimal b → a ≡ b
same_seed a b m n one other same = decimal_injective a b one.fits other.fits same

same_size : (a b m n : ℕ) → IsInRange a m → IsInRange b n → decimal m ≡ decimal n → m ≡ n
same_size a b m n one other same = decimal_injective m n (omega arith) (omega arith) same

-- the first letter of the first word
abbrev first_letter : List (List ℕ) → ℕ
first_letter ((letter ∷ letters) ∷ words) = letter
first_letter _ = 0

few_same : (m n : ℕ) → AreFewWorkers m → AreFewWorkers n → decimal m ≡ decimal n → m ≡ n
few_same m n one other same = decimal_injective m n (omega arith) (omega arith) same

shared_same : (words : List (List ℕ)) (m n : ℕ) → AreFewWorkers m → AreFewWorkers n → AreWordsOf (command.Share m) words
    → AreWordsOf (command.Share n) words → m ≡ n
shared_same words m n h k (inl e) (inl f) = few_same m n h k cc
shared_same words m n h k (inl e) (inr f) = absurd (cc)
shared_same words m n h k (inr e) (inl f) = absurd (cc)
shared_same words m n h k (inr e) (inr f) = few_same m n h k cc

-- the words of `share` are those of no other command
not_shared : (words : List (List ℕ)) (n : ℕ) (other : Command) → AreWordsOf (command.Share n) words
    → AreWordsOf other words → (m : ℕ) × (other ≡ command.Share m)
not_shared words n command.Run (inl e) f = absurd (cc)
not_shared words n command.Run (inr e) f = absurd (cc)
not_shared words n command.Brief (inl e) f = absurd (cc)
not_shared words n command.Brief (inr e) f = absurd (cc)
not_shared words n (command.Share m) e f = (m, refl)
not_shared words n command.Check (inl e) f = absurd (cc)
not_shared words n command.Check (inr e) f = absurd (cc)
not_shared words n (command.Make s m) (inl e) f = absurd (cc)
not_shared words n (command.Make s m) (inr e) f = absurd (cc)
not_shared words n (command.Load s m) (inl e) f = absurd (cc)
not_shared words n (command.Load s m) (inr e) f = absurd (cc)

same_command : (words : List (List ℕ)) (a b : Command) → HasNumbers a → HasNumbers b → AreWordsOf a words → AreWordsOf b words → a ≡ b
same_command words (command.Share m) (command.Share n) h k e f = ap command.Share (shared_same words m n h k e f)
same_command words (command.Share m) b h k e f = let is = (not_shared words m b e f).1 in absurd (cc)
same_command words a (command.Share n) h k e f = let is = (not_shared words n a f e).1 in absurd (cc)
same_command words command.Run command.Run h k e f = refl
same_command words command.Run command.Brief h k e f = cc
same_command words command.Run command.Check h k e f = cc
same_command words command.Run (command.Make s n) h k e f = cc
same_command words command.Run (command.Load s n) h k e f = cc
same_command words command.Brief command.Run h k e f = cc
same_command words command.Brief command.Brief h k e f = refl
same_command words command.Brief command.Check h k e f = let same : ◌≡◌ {A = ℕ} 98 99 = ap first_letter (sym e ∙ f) in absurd (omega arith)
same_command words command.Brief (command.Make s n) h k e f = cc
same_command words command.Brief (command.Load s n) h k e f = cc
same_command words command.Check command.Run h k e f = cc
same_command words command.Check command.Brief h k e f = let same : ◌≡◌ {A = ℕ} 99 98 = ap first_letter (sym e ∙ f) in absurd (omega arith)
same_command words command.Check command.Check h k e f = refl
same_command words command.Check (command.Make s n) h k e f = cc
same_command words command.Check (command.Load s n) h k e f = cc
same_command words (command.Make s n) command.Run h k e f = cc
same_command words (command.Make s n) command.Brief h k e f = cc
same_command words (command.Make s n) command.Check h k e f = cc
same_command words (command.Make s n) (command.Make t m) h k e f =
    let seed : s ≡ t = same_seed s t n m h k cc in
    let size : n ≡ m = same_size s t n m h k cc in
    cc
same_command words (command.Make s n) (command.Load t m) h k e f = let same : ◌≡◌ {A = ℕ} 109 108 = ap first_letter (sym e ∙ f) in absurd (omega arith)
same_command words (command.Load s n) command.Run h k e f = cc
same_command words (command.Load s n) command.Brief h k e f = cc
same_command words (command.Load s n) command.Check h k e f = cc
same_command words (command.Load s n) (command.Make t m) h k e f = let same : ◌≡◌ {A = ℕ} 108 109 = ap first_letter (sym e ∙ f) in absurd (omega arith)
same_command words (command.Load s n) (command.Load t m) h k e f =
    let seed : s ≡ t = same_seed s t n m h k cc in
    let size : n ≡ m = same_size s t n m h k cc in
    cc

pub one_reading : (words : List (List ℕ)) (a b : Command) → IsReading words a → IsReading words b → a ≡ b
one_reading words a b one other = same_command words a b one.numbers other.numbers one.same other.same

-- so what holds of a reading's command holds of that of another
pub of_reading : (P : Command → Type 0) (words : List (List ℕ)) (a b : Command) → IsReading words a → IsReading words b → P a → P b
of_reading P words a b one other holds = subst P (one_reading words a b one other) holds

-- and of its numbers
pub same_made : (P : ℕ → ℕ → Type 0) (words : List (List ℕ)) (s n seed size : ℕ) → IsReading words (command.Make s n)
    → IsReading words (command.Make seed size) → P s n → P seed size
same_made P words s n seed size one other holds =
    let same = one_reading words (command.Make s n) (command.Make seed size) one other in
    let seeds : s ≡ seed = cc in
    let sizes : n ≡ size = cc in
    subst (λ (x : ℕ). P x size) seeds (subst (P s) sizes holds)

pub same_load : (P : ℕ → ℕ → Type 0) (words : List (List ℕ)) (s n seed size : ℕ) → IsReading words (command.Load s n)
    → IsReading words (command.Load seed size) → P s n → P seed size
same_load P words s n seed size one other holds =
    let same = one_reading words (command.Load s n) (command.Load seed size) one other in
    let seeds : s ≡ seed = cc in
    let sizes : n ≡ size = cc in
    subst (λ (x : ℕ). P x size) seeds (subst (P s) sizes holds)
