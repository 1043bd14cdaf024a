-- What holds of each result of calls with the elements of a list holds of all, in their order.
use Rattle.std.proofs.Common.{◌≡◌, ◌∙◌, sym, ap, refl, arith, ℕ, suc, List, [], ◌∷◌, length, map}
use denote.Param.Members.{Shared}
use Rattle.std.specs.Fn.{FnReturns}
use Rattle.std.specs.Fork.{GivesJobs}
use Rattle.std.specs.Prelude.{All, IfOk, Result, Ok, Err}

-- what follows from two facts of a value follows of the value that a call gave, if it gave one
pub both-ok : {X E : Type 0} (P Q S : X → Type 0) (r : Result X E) → ((x : X) → P x → Q x → S x) → IfOk r P → IfOk r Q → IfOk r S
both-ok P Q S (Ok x) follows one other = follows x one other
both-ok P Q S (Err e) follows one other = tt

module _ {F J R : Type 0} (g : Shared F (J × Unit {0}) R) (f : F) where
  pub all-given : (P : R → Type 0) (js : List J) (rs : List R) → length rs ≡ length js
      → ((j : J) (r : R) → FnReturns g f (j, tt) r → P r) → GivesJobs g f js rs → All P rs
  all-given P js rs many each given = λ k d within. let job = (given k d (omega arith)).1 in each job.job _ job.call

  pub same-given : (p : R → ℕ) (q : J → ℕ) (js : List J) (rs : List R) → length rs ≡ length js
      → ((j : J) (r : R) → FnReturns g f (j, tt) r → p r ≡ q j) → GivesJobs g f js rs → map p rs ≡ map q js
  same-given p q [] [] many each given = refl
  same-given p q [] (r ∷ rs) many each given = absurd (omega arith)
  same-given p q (j ∷ js) [] many each given = absurd (omega arith)
  same-given p q (j ∷ js) (r ∷ rs) many each given =
      let first = (given 0 r (omega arith)).1 in
      let here : p r ≡ q j = each first.job r first.call ∙ ap q (sym (first.job_is j)) in
      let rest : map p rs ≡ map q js = same-given p q js rs (omega arith) each later in
      (λ i. here i ∷ rest i)
    where
      later : GivesJobs g f js rs
      later =
          λ k d low. let job = (given (suc k) d (omega arith)).1 in
          (refl, record { job = job.job; job_read = job.job_read; job_is = job.job_is; call = job.call })
