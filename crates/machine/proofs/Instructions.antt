-- What holds of each instruction of a script holds of the one that a thread is at, and of the one whose step is what a thread does
-- next.
use Rattle.std.proofs.Common.{◌≡◌, ℕ, zero, suc, Bool, true, false, List, [], ◌∷◌, refl, subst, Option, Some, None}
use Rattle.std.specs.List.{list_all}
use Rattle.std.specs.Prelude.{if◌then◌else◌, nat_lt, option_map, slice_get}
use Rattle.script_types.specs.declared.declaration.ThreadDecl.{ThreadDecl}
use Rattle.script_types.specs.declared.instruction.Instr.{Instr}
use Rattle.script_types.specs.declared.script.Script.{Script}
use Rattle.script_types.specs.declared.source_line.SourceLine.TheVariants as line
use Rattle.script_types.specs.Ranges.{is_source_line}
use Rattle.script_types.specs.Shape.{HasRegisters, IsShaped}
use Rattle.script_types.proofs.LimitLaws.{both}
use Rattle.sym_base.specs.declared.number.ObjNo.{ObjNo}
use Rattle.state_rows.specs.Nano.{is_protected}
use Rattle.state_rows.specs.declared.duty.Owed.{Owed}
use Rattle.state_rows.specs.declared.thread.Role.{Role}
use Rattle.state_rows.specs.declared.thread.Role.TheVariants.{Supervisor, Queue, Declared}
use Rattle.state_rows.specs.declared.thread.Stage.{Stage}
use Rattle.state_rows.specs.declared.thread.Stage.TheVariants.{Live, Doomed, Cleaned, Buried}
use Rattle.state_rows.specs.declared.thread.ThreadRow.{ThreadRow}
use Rattle.machine.specs.declared.holding.Holding.{Holding}
use Rattle.machine.specs.declared.state.State.{State}
use Rattle.machine.specs.declared.task.Task.{Task}
use Rattle.machine.specs.declared.task.Task.TheVariants.{Bury, RunDfc, Step}
use Rattle.machine.specs.Holdings.{holdings, held_servers}
use Rattle.machine.specs.Rows.{first_owed}
use Rattle.machine.specs.Task.{declared_of, instructions_in, instruction, next_call, by_stage, call_task, dying_task, live_task, pay_or, return_or, step_or_end, task_of_row, work_or}
use Rattle.machine.specs.Out.{is_returning}

-- what each of a list passes, the one at a place does
pub all_at : {A : Type 0} (test : A → Bool) (xs : List A) (k : ℕ) (x : A) → list_all test xs ≡ true → slice_get xs k ≡ Some x → test x ≡ true
all_at test [] k x all at = absurd (cc)
all_at test (y ∷ ys) zero x all at =
    let e : y ≡ x = cc in
    subst (λ z. test z ≡ true) e (both (test y) (list_all test ys) all).0
all_at test (y ∷ ys) (suc k) x all at = all_at test ys k x (both (test y) (list_all test ys) all).1 at

-- what holds of each instruction of a script
abbrev pub Each : Script → (Instr → Type 0) → Type 0
Each script P =
    (k : ℕ) (thread : ThreadDecl) → slice_get script.threads k ≡ Some thread → (j : ℕ) (what : Instr)
    → slice_get thread.instrs j ≡ Some what → P what

in_declaration : (script : Script) (P : Instr → Type 0) → Each script P → (role : Role) (declared : Option ThreadDecl)
    → declared_of script role ≡ declared → (place : ℕ) (instr : Instr)
    → slice_get (instructions_in declared) place ≡ Some instr → P instr
in_declaration script P each role None at place instr there = absurd (cc)
in_declaration script P each Supervisor (Some declared) at place instr there = absurd (cc)
in_declaration script P each (Queue queue) (Some declared) at place instr there = absurd (cc)
in_declaration script P each (Declared k) (Some declared) at place instr there = each k declared at place instr there

-- holds of the one that a thread is at
pub of_instruction : (script : Script) (P : Instr → Type 0) → Each script P → (row : ThreadRow) (instr : Instr) → instruction script row ≡ Some instr → P instr
of_instruction script P each row instr there = in_declaration script P each row.role _ refl row.next_instruction instr there

-- a test that each passes
pub each_test : (script : Script) (test : Instr → Bool)
    → list_all (λ (t : ThreadDecl). list_all test t.instrs) script.threads ≡ true
    → Each script (λ what. test what ≡ true)
each_test script test all k thread at j what stands =
    all_at test thread.instrs j what (all_at
    (λ (t : ThreadDecl). list_all test t.instrs) script.threads k thread all at) stands

-- of what a thread of a row does of its own
of_step : (script : Script) (P : Instr → Type 0) → Each script P
    → (protected : Bool) (row : ThreadRow) (instr : Instr) (at : Option Instr) → instruction script row ≡ at
    → step_or_end protected at ≡ Step instr → P instr
of_step script P each true row instr None is next = absurd (cc)
of_step script P each false row instr None is next = absurd (cc)
of_step script P each protected row instr (Some x) is next = of_instruction script P each row instr (cc)

of_work : (script : Script) (P : Instr → Type 0) → Each script P
    → (protected : Bool) (work : List Holding) (row : ThreadRow) (instr : Instr) (at : Option Instr)
    → instruction script row ≡ at → work_or work (step_or_end protected at) ≡ Step instr → P instr
of_work script P each protected [] row instr at is next = of_step script P each protected row instr at is next
of_work script P each protected (what ∷ rest) row instr at is next = absurd (cc)

no_call_step : (dfc : ℕ) (instr : Instr) (small : Bool) → (if small then RunDfc dfc else Bury dfc) ≡ Step instr → ⊥
no_call_step dfc instr true next = cc
no_call_step dfc instr false next = cc

no_call : (call : Option ℕ) (instr : Instr) → option_map call_task call ≡ Some (Step instr) → ⊥
no_call None instr next = cc
no_call (Some dfc) instr next = no_call_step dfc instr (nat_lt dfc 64) (cc)

of_own : (script : Script) (P : Instr → Type 0) → Each script P
    → (protected : Bool) (work : List Holding) (role : Role) (call : Option ℕ) (row : ThreadRow) (instr : Instr)
    (at : Option Instr)
    → instruction script row ≡ at → live_task role call (work_or work (step_or_end protected at)) ≡ Some (Step instr)
    → P instr
of_own script P each protected work Supervisor call row instr at is next = absurd (no_call call instr next)
of_own script P each protected work (Queue queue) call row instr at is next = absurd (no_call call instr next)
of_own script P each protected work (Declared k) call row instr at is next = of_work script P each protected work row instr at is (cc)

-- of what it does at any stage
no_dying : (has : List Holding) (instr : Instr) → Some (dying_task has) ≡ Some (Step instr) → ⊥
no_dying [] instr next = cc
no_dying (what ∷ rest) instr next = cc

of_stage : (script : Script) (P : Instr → Type 0) → Each script P
    → (stage : Stage) (has : List Holding) (own : Option Task) (instr : Instr) → (own ≡ Some (Step instr) → P instr)
    → by_stage stage has own ≡ Some (Step instr) → P instr
of_stage script P each Live has own instr of next = of next
of_stage script P each Doomed has own instr of next = absurd (no_dying has instr next)
of_stage script P each Cleaned has own instr of next = absurd (cc)
of_stage script P each Buried has own instr of next = absurd (cc)

-- of the step of a row
of_row : (P : Instr → Type 0) (returns : Bool) (at : Option Instr) (first : Option Owed) (staged : Option Task)
    (instr : Instr)
    → (staged ≡ Some (Step instr) → P instr)
    → return_or returns at (pay_or first staged) ≡ Some (Step instr) → P instr
of_row P true (Some x) first staged instr of next = absurd (cc)
of_row P true None (Some what) staged instr of next = absurd (cc)
of_row P false at (Some what) staged instr of next = absurd (cc)
of_row P true None None staged instr of next = of next
of_row P false at None staged instr of next = of next

-- of a step that a thread does next
pub of_task : (script : Script) (P : Instr → Type 0) → Each script P
    → (S : State) (t : ObjNo) (row : Option ThreadRow) (instr : Instr) → task_of_row script S t row ≡ Some (Step instr)
    → P instr
of_task script P each S t None instr next = absurd (cc)
of_task script P each S t (Some row) instr next =
    let at = instruction script row in
    let own = live_task row.role (next_call S.synchronization.deferred row.role)
    (work_or (held_servers S t) (step_or_end (is_protected S.synchronization.nano t) at)) in
    of_row P (is_returning row.part) at (first_owed S t) (by_stage row.stage (holdings S t row) own) instr
    (of_stage script P each row.stage (holdings S t row) own instr
    (of_own script P each (is_protected S.synchronization.nano t) (held_servers S t) row.role
    (next_call S.synchronization.deferred row.role) row instr at refl))
    next

-- the registers that it names are there, and its numbers are in their ranges
pub task_has_registers : (script : Script) (S : State) (t : ObjNo) (row : Option ThreadRow) (instr : Instr)
    → IsShaped script → task_of_row script S t row ≡ Some (Step instr) → HasRegisters instr
task_has_registers script S t row instr shaped next = of_task script HasRegisters (λ k thread at. (shaped.threads k thread at).registers) S t row instr next

pub task_has_ranges : (script : Script) (S : State) (t : ObjNo) (row : Option ThreadRow) (instr : Instr)
    → IsShaped script → task_of_row script S t row ≡ Some (Step instr) → is_source_line (line.Instr instr) ≡ true
task_has_ranges script S t row instr shaped next =
    of_task script (λ what. is_source_line (line.Instr what) ≡ true)
    (each_test script (λ what. is_source_line (line.Instr what)) shaped.numbers.instrs) S t row instr next
