-- The ready list at boot.
use Rattle.std.proofs.Common.{◌≡◌, ℕ, suc, zero, ◌+◌, ◌<◌, List, [], ◌∷◌, length, get_or, arith, refl, sym, ap, ◌∙◌, Option, Some, None, Bool, true, false, map}
use Rattle.std.specs.Prelude.{◌||◌, ◌&&◌, not, is_some, if◌then◌else◌}
use Rattle.std.proofs.lemmas.Bool.{eq-eqb}
use Rattle.sym_base.specs.declared.number.ObjNo.{ObjNo}
use Rattle.script_types.specs.declared.script.Script.{Script}
use Rattle.script_types.specs.Shape.{IsShaped}
use Rattle.state_rows.specs.declared.duty.Owed.{Owed}
use Rattle.machine.specs.declared.boot.Born.{Born}
use Rattle.state_rows.specs.declared.thread.ThreadRow.{ThreadRow}
use Rattle.machine.specs.Arrivals.{is_listed}
use Rattle.state_rows.specs.DeclaredCalls.{calls_of}
use Rattle.machine.specs.Boot.{boot_in, boot_of, born, ready_at_boot, ready_from, uses_again}
use Rattle.machine.specs.Rows.{first_of, thread_of}
use Rattle.machine.specs.Task.{task_of, is_live_row, is_unspent, is_unspent_row, is_waiting, is_waiting_row, is_stopped}
use Rattle.machine.specs.ThreadCalls.{is_live}
use Rattle.machine.specs.WellFormed.{AreApart, IsReadyList}
use Rattle.machine_laws.proofs.AtBoot.Born.{IsNewThread, EachBorn, each_born}
use Rattle.machine_laws.proofs.AtBoot.BootNano.{is_held_at, stopped-boot}
use Rattle.move_laws.proofs.Readiness.HasTask.{has_task, task_is}
use Rattle.move_laws.proofs.References.Same.{eqb_apart}

-- whether the one at a place works
abbrev works_at : List Born → ℕ → Bool
works_at [] i = false
works_at (b ∷ bs) zero = b.works
works_at (b ∷ bs) (suc i) = works_at bs i

-- a thread before or behind the first of a list stands in it where it stands in the rest
listed_later : (n : ℕ) (rest : List ObjNo) (works : Bool) (u : ObjNo) → (n ≡ u.0 → ⊥)
    → is_listed (if works then record { 0 = n } ∷ rest else rest) u ≡ is_listed rest u
listed_later n rest true u apart = ap (λ (b : Bool). b || is_listed rest u) (eqb_apart n u.0 apart)
listed_later n rest false u apart = refl

listed_below : (n : ℕ) (bs : List Born) (u : ObjNo) → u.0 < n → is_listed (ready_from n bs) u ≡ false
listed_below n [] u lt = refl
listed_below n (b ∷ bs) u lt = listed_later n (ready_from (n + 1) bs) b.works u (λ e. absurd (omega arith)) ∙ listed_below (n + 1) bs u (omega arith)

listed_first : (n : ℕ) (rest : List ObjNo) (works : Bool) (u : ObjNo) → n ≡ u.0 → is_listed rest u ≡ false
    → is_listed (if works then record { 0 = n } ∷ rest else rest) u ≡ works
listed_first n rest true u at out = ap (λ (b : Bool). b || is_listed rest u) (eq-eqb n u.0 at)
listed_first n rest false u at out = out

listed_at : (n : ℕ) (bs : List Born) (i : ℕ) (u : ObjNo) → u.0 ≡ n + i → is_listed (ready_from n bs) u ≡ works_at bs i
listed_at n [] i u at = refl
listed_at n (b ∷ bs) zero u at = listed_first n (ready_from (n + 1) bs) b.works u (omega arith) (listed_below (n + 1) bs u (omega arith))
listed_at n (b ∷ bs) (suc i) u at = listed_later n (ready_from (n + 1) bs) b.works u (λ e. absurd (omega arith)) ∙ listed_at (n + 1) bs i u (omega arith)

-- who works isn't held and has something to do
works_is : (script : Script) (n : ℕ) (bs : List Born) (i : ℕ) → EachBorn script n bs
    → works_at bs i ≡ (not (is_held_at bs i) && has_task script (calls_of script) None
    (get_or (map (λ b. b.thread) bs) i None))
works_is script n [] i h = refl
works_is script n (b ∷ bs) zero h = h.0.works
works_is script n (b ∷ bs) (suc i) h = works_is script n bs i h.1

-- nobody waits
row_goes_on : (shared : Bool) (n : ℕ) (thread : Option ThreadRow)
    → ((row : ThreadRow) → thread ≡ Some row → IsNewThread n row) → is_waiting_row shared thread ≡ false
row_goes_on shared n None rows = refl
row_goes_on shared n (Some row) rows = let new = rows row refl in rw (new.waiting, new.part) (out shared)
  where
    out : (b : Bool) → (b && false) ≡ false
    out true = refl
    out false = refl

goes_on : (shared : Bool) (script : Script) (n : ℕ) (bs : List Born) (i : ℕ) → EachBorn script n bs
    → is_waiting_row shared (get_or (map (λ b. b.thread) bs) i None) ≡ false
goes_on shared script n [] i h = refl
goes_on shared script n (b ∷ bs) zero h = row_goes_on shared n b.thread h.0.row
goes_on shared script n (b ∷ bs) (suc i) h = goes_on shared script n bs i h.1

-- each thread is live, and what isn't a thread has nothing to do
record IsLiveAtBoot (script : Script) (thread : Option ThreadRow) : Type 0 where
  pub live : is_live_row thread ≡ is_unspent_row thread
  pub works : is_unspent_row thread ≡ false → has_task script (calls_of script) None thread ≡ false

row_lives : (script : Script) (n : ℕ) (thread : Option ThreadRow)
    → ((row : ThreadRow) → thread ≡ Some row → IsNewThread n row) → IsLiveAtBoot script thread
row_lives script n None rows = record { live = refl; works = λ _. refl }
row_lives script n (Some row) rows =
    let new = rows row refl in
    record { live = ap is_live new.live ∙ sym (ap is_unspent new.live); works = λ e. let acts = ap is_unspent new.live in absurd (cc) }

lives : (script : Script) (n : ℕ) (bs : List Born) (i : ℕ) → EachBorn script n bs
    → IsLiveAtBoot script (get_or (map (λ b. b.thread) bs) i None)
lives script n [] i h = record { live = refl; works = λ _. refl }
lives script n (b ∷ bs) zero h = row_lives script n b.thread h.0.row
lives script n (b ∷ bs) (suc i) h = lives script n bs i h.1

owes_nothing : (bs : List Born) (i : ℕ) → ◌≡◌ {A = Option Owed} None (first_of (get_or (map (λ _. []) bs) i []))
owes_nothing [] i = refl
owes_nothing (b ∷ bs) zero = refl
owes_nothing (b ∷ bs) (suc i) = owes_nothing bs i

apart_step : (n : ℕ) (rest : List ObjNo) (works : Bool) → is_listed rest (record { 0 = n }) ≡ false → AreApart rest
    → AreApart (if works then record { 0 = n } ∷ rest else rest)
apart_step n rest true out h = (out, h)
apart_step n rest false out h = h

ready_apart : (n : ℕ) (bs : List Born) → AreApart (ready_from n bs)
ready_apart n [] = tt
ready_apart n (b ∷ bs) = apart_step n (ready_from (n + 1) bs) b.works (listed_below (n + 1) bs (record { 0 = n }) (omega arith)) (ready_apart (n + 1) bs)

task-boot : (shared : Bool) (script : Script) (u : ObjNo)
    → ◌≡◌ {A = Bool} (is_some (task_of script (boot_in shared script) u))
    (has_task script (calls_of script) None (get_or (map (λ b. b.thread) (born script)) u.0 None))
unfolding boot_of
task-boot shared script u =
    let bs = born script in
    task_is script (boot_in shared script) u (thread_of (boot_in shared script) u)
    ∙ ap (λ (first : Option Owed). has_task script (calls_of script) first (get_or (map (λ b. b.thread) bs) u.0 None)) (sym (owes_nothing bs u.0))

no_work : (held work : Bool) → work ≡ false → false ≡ (not held && work)
no_work true work none = refl
no_work false work none = sym none

ready_is : (acts waits stopped task live held work : Bool) → live ≡ acts → waits ≡ false → stopped ≡ (live && held) → task ≡ work
    → (acts ≡ false → work ≡ false) → (acts && not waits && not stopped && task) ≡ (not held && work)
ready_is true waits stopped task live held work a b c d none =
    ap (λ x. not x && not stopped && task) b ∙ (ap (λ x. not x && task) (c ∙ ap (λ x. x && held) a) ∙ ap (λ x. not held && x) d)
ready_is false waits stopped task live held work a b c d none = no_work held work (none refl)

-- exactly the threads that have something to do and aren't held are listed, once
pub ready-boot : (shared : Bool) (script : Script) → IsShaped script → IsReadyList script (boot_in shared script) (ready_at_boot script)
unfolding boot_of
ready-boot shared script shaped =
    let bs = born script in
    let each = each_born script shaped in
    record {
      exact = λ u. listed_at 0 bs u.0 u (omega arith) ∙ works_is script (length bs) bs u.0 each
          ∙ (let there = lives script (length bs) bs u.0 each in
          sym (ready_is (is_unspent_row (thread_of (boot_in shared script) u)) (is_waiting (boot_in shared script) u)
          (is_stopped (boot_in shared script) u) (is_some (task_of script (boot_in shared script) u))
          (is_live_row (thread_of (boot_in shared script) u)) (is_held_at bs u.0) _ there.live
          (goes_on shared script (length bs) bs u.0 each)
          (stopped-boot (uses_again script.version) script.pool script.fast (calls_of script) bs u)
          (task-boot shared script u) there.works));
      once = ready_apart 0 bs;
    }
