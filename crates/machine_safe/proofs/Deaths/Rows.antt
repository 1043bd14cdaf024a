-- The stages of threads' rows, and their processes, where a row changes.
use Rattle.std.proofs.Common.{◌≡◌, inl, inr, ℕ, ◌+◌, ◌≤◌, List, get_or, set, arith, refl, sym, ap, ◌∙◌, Option, Some, None}
use Rattle.std.specs.Prelude.{◌==◌, if◌then◌else◌, option_map}
use Rattle.std.proofs.lemmas.Bool.{cases_eq, eq-eqb}
use Rattle.sym_base.specs.declared.number.ObjNo.{ObjNo}
use Rattle.state_rows.specs.declared.thread.Stage.{Stage}
use Rattle.state_rows.specs.declared.thread.Stage.TheVariants.{Live, Doomed, Cleaned, Buried}
use Rattle.state_rows.specs.declared.thread.ThreadRow.{ThreadRow}
use Rattle.machine.specs.Holdings.{stage_left}
use Rattle.machine.specs.References.{kernel_holds, stage_holds}
use Rattle.machine.specs.Rows.{with_row}
use Rattle.move_laws.proofs.Holders.ThreadRows.{row-here, row-other}
use Rattle.move_laws.proofs.Lists.Sets.{set_either}
use Rattle.move_laws.proofs.References.Same.{eqb_apart, if_is, if_not}
use Rattle.move_laws.proofs.RowLaws.Threads.{was_row}

-- a number of a row's stage, 0 where there is no row
abbrev pub row_bit : (Stage → ℕ) → Option ThreadRow → ℕ
row_bit b None = 0
row_bit b (Some row) = b row.stage

-- 1 where a thread is live
abbrev pub stage_live : Stage → ℕ
stage_live Live = 1
stage_live _ = 0

-- who is live isn't cleaned, and who isn't cleaned isn't buried
pub live-left : (x : Option ThreadRow) → row_bit stage_live x ≤ row_bit stage_left x
live-left None = omega arith
live-left (Some row) = by row.stage
  where
    by : (stage : Stage) → stage_live stage ≤ stage_left stage
    by Live = omega arith
    by Doomed = omega arith
    by Cleaned = omega arith
    by Buried = omega arith

pub left-held : (x : Option ThreadRow) → row_bit stage_left x ≤ row_bit stage_holds x
left-held None = omega arith
left-held (Some row) = by row.stage
  where
    by : (stage : Stage) → stage_left stage ≤ stage_holds stage
    by Live = omega arith
    by Doomed = omega arith
    by Cleaned = omega arith
    by Buried = omega arith

pub held-one : (x : Option ThreadRow) → row_bit stage_holds x ≤ 1
held-one None = omega arith
held-one (Some row) = by row.stage
  where
    by : (stage : Stage) → stage_holds stage ≤ 1
    by Live = omega arith
    by Doomed = omega arith
    by Cleaned = omega arith
    by Buried = omega arith

pub held-is : (x : Option ThreadRow) → kernel_holds x ≡ row_bit stage_holds x
held-is None = refl
held-is (Some row) = refl

-- the row that was there before, of the same process
pub record WasIn (threads : List (Option ThreadRow)) (k : ℕ) (row : ThreadRow) : Type 0 where
  pub old : ThreadRow
  pub was : get_or threads k None ≡ Some old
  pub process : old.process ≡ row.process

-- rows that leave the stages and processes of others
pub record KeepsRows (threads other : List (Option ThreadRow)) : Type 0 where
  pub stages : (b : Stage → ℕ) (k : ℕ) → row_bit b (get_or other k None) ≡ row_bit b (get_or threads k None)
  pub were : (k : ℕ) (row : ThreadRow) → get_or other k None ≡ Some row → WasIn threads k row

pub keeps-same : (threads : List (Option ThreadRow)) → KeepsRows threads threads
keeps-same threads = record { stages = λ b k. refl; were = λ k row is. record { old = row; was = is; process = refl } }

pub keeps-then : (threads other third : List (Option ThreadRow)) → KeepsRows threads other → KeepsRows other third → KeepsRows threads third
keeps-then threads other third h g = record {
  stages = λ b k. g.stages b k ∙ h.stages b k;
  were =
      λ k row is. let one = g.were k row is in let two = h.were k one.old one.was in
      record { old = two.old; was = two.was; process = two.process ∙ one.process };
}

-- a change of a row that leaves its process
pub were-with_row : (threads : List (Option ThreadRow)) (u : ObjNo) (f : ThreadRow → ThreadRow)
    → ((row : ThreadRow) → (f row).process ≡ row.process) → (k : ℕ) (row : ThreadRow)
    → get_or (with_row threads u f) k None ≡ Some row → WasIn threads k row
were-with_row threads u f process k row is =
    was_row threads u f (λ (n : ℕ) (r : ThreadRow). WasIn threads n r)
    (λ old was. record { old = old; was = was; process = sym (process old) })
    (λ n r is. record { old = r; was = is; process = refl }) k row is

-- and its stage
pub keeps-with_row : (threads : List (Option ThreadRow)) (u : ObjNo) (f : ThreadRow → ThreadRow)
    → ((row : ThreadRow) → (f row).stage ≡ row.stage) → ((row : ThreadRow) → (f row).process ≡ row.process)
    → KeepsRows threads (with_row threads u f)
keeps-with_row threads u f stage process = record {
  stages = λ b k. elim (cases_eq u.0 k) as (λ _. row_bit b (get_or (with_row threads u f) k None) ≡ row_bit b (get_or threads k None)) [
    | inl at ↦ ap (row_bit b) (row-here threads u f k at) ∙ mapped b (get_or threads u.0 None) ∙ ap (λ (n : ℕ). row_bit b (get_or threads n None)) at
    | inr apart ↦ ap (row_bit b) (row-other threads u f k apart)
  ];
  were = were-with_row threads u f process;
}
  where
    mapped : (b : Stage → ℕ) (x : Option ThreadRow) → row_bit b (option_map f x) ≡ row_bit b x
    mapped b None = refl
    mapped b (Some row) = ap b (stage row)

-- the change of a row that makes its number less
pub bit-less : (b : Stage → ℕ) (threads : List (Option ThreadRow)) (u : ObjNo) (f : ThreadRow → ThreadRow)
    (row : ThreadRow) (n : ℕ)
    → get_or threads u.0 None ≡ Some row → b (f row).stage + n ≡ b row.stage → (k : ObjNo)
    → row_bit b (get_or (with_row threads u f) k.0 None) + (if u.0 == k.0 then n else 0)
    ≡ row_bit b (get_or threads k.0 None)
bit-less b threads u f row n is less k =
    elim (cases_eq u.0 k.0) as (λ _. row_bit b (get_or (with_row threads u f) k.0 None) + (if u.0 == k.0 then n else 0)
    ≡ row_bit b (get_or threads k.0 None)) [
      | inl at ↦
          let new : row_bit b (get_or (with_row threads u f) k.0 None) ≡ b (f row).stage =
          ap (row_bit b) (row-here threads u f k.0 at ∙ ap (option_map f) is) in
          let old : row_bit b (get_or threads k.0 None) ≡ b row.stage = ap (row_bit b) (ap (λ (m : ℕ). get_or threads m None) (sym at) ∙ is) in
          let own = if_is (u.0 == k.0) n (eq-eqb u.0 k.0 at) in omega arith
      | inr apart ↦
          let same : row_bit b (get_or (with_row threads u f) k.0 None) ≡ row_bit b (get_or threads k.0 None) =
          ap (row_bit b) (row-other threads u f k.0 apart) in
          let none = if_not (u.0 == k.0) n (eqb_apart u.0 k.0 apart) in omega arith
    ]

-- a row whose number is 0 goes
pub bit-swept : (b : Stage → ℕ) (threads : List (Option ThreadRow)) (o k : ℕ) → row_bit b (get_or threads o None) ≡ 0
    → row_bit b (get_or (set threads o None) k None) ≡ row_bit b (get_or threads k None)
bit-swept b threads o k none =
    elim (set_either threads o None k None) as
    (λ _. row_bit b (get_or (set threads o None) k None) ≡ row_bit b (get_or threads k None)) [
      | inl at ↦ ap (row_bit b) at.1 ∙ (sym none ∙ ap (λ (n : ℕ). row_bit b (get_or threads n None)) (sym at.0))
      | inr other ↦ ap (row_bit b) other
    ]

pub were-swept : (threads : List (Option ThreadRow)) (o k : ℕ) (row : ThreadRow) → get_or (set threads o None) k None ≡ Some row → WasIn threads k row
were-swept threads o k row is = elim (set_either threads o None k None) as (λ _. WasIn threads k row) [
  | inl at ↦ let none = at.1 in absurd (cc)
  | inr other ↦ record { old = row; was = sym other ∙ is; process = refl }
]
