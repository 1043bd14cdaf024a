-- How many threads are out on an object, where the rows of threads change.
use Rattle.std.proofs.Common.{◌≡◌, ℕ, ◌+◌, ◌<◌, ◌≤◌, Bool, true, false, List, get_or, arith, refl, ap, ◌∙◌, Option, Some, None}
use Rattle.std.specs.Prelude.{◌==◌, ◌&&◌, option_map, if◌then◌else◌}
use Rattle.std.proofs.lemmas.Bool.{eqb-true}
use Rattle.sym_base.specs.declared.number.ObjNo.{ObjNo}
use Rattle.state_rows.specs.ObjectRows.{place_of}
use Rattle.state_rows.specs.declared.thread.ThreadRow.{ThreadRow}
use Rattle.machine.specs.declared.mode.Mode.{Mode}
use Rattle.machine.specs.declared.state.State.{State}
use Rattle.machine.specs.Out.{is_returning, outs_of, seeks}
use Rattle.machine.specs.References.{same, total}
use Rattle.machine.specs.Rows.{object_of, with_row}
use Rattle.move_laws.proofs.Lists.Totals.{total-with}
use Rattle.move_laws.proofs.References.Same.{same_is}

-- as many threads seek the object of each number and place
abbrev pub SeeksSame : List (Option ThreadRow) → List (Option ThreadRow) → Type 0
SeeksSame threads other = (o : ObjNo) (place : ℕ) → total (seeks o place) other ≡ total (seeks o place) threads

-- a change of a row that leaves whether its thread is out, and on what
abbrev pub KeepsSeeks : (ThreadRow → ThreadRow) → ThreadRow → Type 0
KeepsSeeks f row = (o : ObjNo) (place : ℕ) → seeks o place (Some (f row)) ≡ seeks o place (Some row)

map_seeks : (x : Option ThreadRow) (f : ThreadRow → ThreadRow) (o : ObjNo) (place : ℕ)
    → ((row : ThreadRow) → x ≡ Some row → KeepsSeeks f row) → seeks o place (option_map f x) ≡ seeks o place x
map_seeks None f o place keeps = refl
map_seeks (Some row) f o place keeps = keeps row refl o place

pub seeks-with_row : (threads : List (Option ThreadRow)) (u : ObjNo) (f : ThreadRow → ThreadRow)
    → ((row : ThreadRow) → get_or threads u.0 None ≡ Some row → KeepsSeeks f row)
    → SeeksSame threads (with_row threads u f)
seeks-with_row threads u f keeps o place =
    let a = total-with (seeks o place) (option_map f) None threads u.0 refl in
    let b = map_seeks (get_or threads u.0 None) f o place keeps in omega arith

-- one that isn't out before and after it
pub seeks-back : (f : ThreadRow → ThreadRow) (row : ThreadRow) → is_returning row.part ≡ false → is_returning (f row).part ≡ false → KeepsSeeks f row
seeks-back f row before after o place = rw before (rw after refl)

-- what is out of so many, where callers share the kernel or don't
out-same : (shared : Bool) (m n : ℕ) → m ≡ n → (if shared then m else 0) ≡ (if shared then n else 0)
out-same true m n e = e
out-same false m n e = refl

pub out-le : (shared : Bool) (m n : ℕ) → m ≤ n → (if shared then m else 0) ≤ (if shared then n else 0)
out-le true m n h = h
out-le false m n h = omega arith

pub out-more : (shared : Bool) (m n k : ℕ) → m ≤ n + k → (if shared then m else 0) ≤ (if shared then n else 0) + k
out-more true m n k h = h
out-more false m n k h = omega arith

-- so as many are out on an object that has its place still
pub outs-same : (S : State) (other : List (Option ThreadRow)) → SeeksSame S.references.threads other → (o : ObjNo)
    → (if S.mode.shared then total (seeks o (place_of (object_of S o))) other else 0) ≡ outs_of S o
outs-same S other seek o =
    let place = place_of (object_of S o) in
    out-same S.mode.shared (total (seeks o place) other) (total (seeks o place) S.references.threads) (seek o place)

-- also where it isn't the same state
pub outs-moved : (S T : State) (o : ObjNo) → T.mode ≡ S.mode → place_of (object_of T o) ≡ place_of (object_of S o)
    → SeeksSame S.references.threads T.references.threads → outs_of T o ≡ outs_of S o
outs-moved S T o mode place seek =
    ap (λ (m : Mode). if m.shared then total (seeks o (place_of (object_of T o))) T.references.threads else 0) mode
    ∙ ap (λ (n : ℕ). if S.mode.shared then total (seeks o n) T.references.threads else 0) place
    ∙ outs-same S T.references.threads seek o

-- who seeks an object comes back from a find of its number and its place
pub seeks_is : (o : ObjNo) (place : ℕ) (row : ThreadRow) → 0 < seeks o place (Some row)
    → (is_returning row.part ≡ true) × (row.sought_place ≡ place) × (row.sought ≡ o)
seeks_is o place row some = by (is_returning row.part) (row.sought_place == place) refl refl some
  where
    by : (a b : Bool) → is_returning row.part ≡ a → (row.sought_place == place) ≡ b → 0 < (if a && b then same row.sought o else 0)
        → (is_returning row.part ≡ true) × (row.sought_place ≡ place) × (row.sought ≡ o)
    by true true returning at some = (returning, eqb-true row.sought_place place at, same_is row.sought o some)
    by true false returning at some = absurd (omega arith)
    by false b returning at some = absurd (omega arith)
