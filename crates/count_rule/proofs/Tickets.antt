-- How many tickets pass a test, after a view changed or came.
use Rattle.std.proofs.Common.{◌≡◌, ◌≢◌, ℕ, zero, suc, ◌+◌, ◌≤◌, Bool, true, ◌&&◌, eqb, eq-eqb, ne_eqb, if◌then◌else◌, List, [], ◌∷◌, ◌++◌, set, sym, refl, ap, inl, inr, arith, Option}
use Rattle.std.proofs.lemmas.Bool.{cases_Bool}
use mathlib.Core.Option.{some, some-injective, some-ne-none}
use lib.ListN.{get_elem?}
use Rattle.ref_words.specs.declared.slip.Slip.{Slip}
use Rattle.ref_words.specs.declared.answer.Found.{Found}
use Rattle.count_rule.specs.declared.view.Counted.{Counted}
use Rattle.count_rule.specs.declared.view.View.{View}
use Rattle.count_rule.specs.declared.view.View.TheVariants.{Kernel, Ticket, Spent}
use Rattle.count_rule.specs.Views.{ticket_bit, tickets}

-- one view becomes another
pub tickets_set : (test : Slip → Option Found → Bool) (views : List View) (id : ℕ) (v w : View) → get_elem? views id ≡ some v
    → tickets test (set views id w) + ticket_bit test v ≡ tickets test views + ticket_bit test w
tickets_set test [] id v w at = absurd (some-ne-none v (sym at))
tickets_set test (x ∷ xs) zero v w at = let same : ticket_bit test x ≡ ticket_bit test v = ap (ticket_bit test) (some-injective x v at) in omega arith
tickets_set test (x ∷ xs) (suc id) v w at = let rest = tickets_set test xs id v w at in omega arith

-- the kernel's view becomes another of the kernel
pub tickets_kernel : (test : Slip → Option Found → Bool) (views : List View) (id : ℕ) (k k' : Counted) → get_elem? views id ≡ some (Kernel k)
    → tickets test (set views id (Kernel k')) ≡ tickets test views
tickets_kernel test views id k k' at = let e = tickets_set test views id (Kernel k) (Kernel k') at in omega arith

-- one view comes
pub tickets_snoc : (test : Slip → Option Found → Bool) (views : List View) (w : View) → tickets test (views ++ w ∷ []) ≡ tickets test views + ticket_bit test w
tickets_snoc test [] w = omega arith
tickets_snoc test (x ∷ xs) w = let rest = tickets_snoc test xs w in omega arith

-- a ticket that passes is counted
pub tickets_at : (test : Slip → Option Found → Bool) (views : List View) (id : ℕ) (v : View)
    → get_elem? views id ≡ some v → ticket_bit test v ≤ tickets test views
tickets_at test [] id v at = absurd (some-ne-none v (sym at))
tickets_at test (x ∷ xs) zero v at = let same : ticket_bit test x ≡ ticket_bit test v = ap (ticket_bit test) (some-injective x v at) in omega arith
tickets_at test (x ∷ xs) (suc id) v at = let rest = tickets_at test xs id v at in omega arith

bit_within : (t u : Slip → Option Found → Bool) → ((s : Slip) (f : Option Found) → t s f ≡ true → u s f ≡ true) → (v : View) → ticket_bit t v ≤ ticket_bit u v
bit_within t u within (Kernel k) = omega arith
bit_within t u within (Ticket s f) =
    elim (cases_Bool (t s f)) [
      | inl passes ↦ let both : u s f ≡ true = within s f passes in rw (passes, both) (omega arith)
      | inr fails ↦ rw fails (omega arith)
    ]
bit_within t u within Spent = omega arith

-- who passes the one test passes the other
pub tickets_within : (t u : Slip → Option Found → Bool) → ((s : Slip) (f : Option Found) → t s f ≡ true → u s f ≡ true)
    → (views : List View) → tickets t views ≤ tickets u views
tickets_within t u within [] = omega arith
tickets_within t u within (v ∷ vs) = let one = bit_within t u within v in let rest = tickets_within t u within vs in omega arith

-- a ticket of the place is counted by what it found, and one of another place isn't
pub bit_here : (flag : Option Found → Bool) (p : ℕ) (s : Slip) (f : Option Found) → s.place ≡ p
    → ticket_bit (λ slip found. eqb slip.place p && flag found) (Ticket s f) ≡ (if flag f then 1 else 0)
bit_here flag p s f here = rw (eq-eqb s.place p here) refl

pub bit_else : (flag : Option Found → Bool) (p : ℕ) (s : Slip) (f : Option Found) → s.place ≢ p
    → ticket_bit (λ slip found. eqb slip.place p && flag found) (Ticket s f) ≡ 0
bit_else flag p s f there = rw (ne_eqb s.place p there) refl
