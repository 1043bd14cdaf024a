-- The definition of safe deaths, tried on the end of a thread: how often it is doomed, cleaned and buried there. And histories, changed by
-- hand, that aren't safe.
use Rattle.std.proofs.Common.{◌≡◌, ℕ, ◌<◌, ◌≤◌, Bool, true, false, List, [], ◌∷◌, None, refl, arith, Some}
use Rattle.std.specs.Prelude.{pos}
use Rattle.sym_base.specs.declared.number.ObjNo.{ObjNo}
use Rattle.script_types.specs.declared.script.Script.{Script}
use Rattle.entry_log.specs.declared.effect.Effect.{Effect}
use Rattle.entry_log.specs.declared.effect.Effect.TheVariants as effect
use Rattle.entry_log.specs.declared.effect.Holder.TheVariants.{InProcess, InThread, Own}
use Rattle.entry_log.specs.declared.effect.StatusNo.TheVariants.{Async, Sync}
use Rattle.entry_log.specs.declared.entry.Actor.TheVariants.{Thread}
use Rattle.entry_log.specs.declared.entry.Entry.{Entry}
use Rattle.entry_log.specs.declared.step.Step.{Step}
use Rattle.entry_log.specs.declared.step.Step.TheVariants as step
use Rattle.machine_safe.specs.CountAfter.{effects_of}
use Rattle.machine_safe.specs.SafeDeaths.{IsSafeDeaths, OthersAreCleaned, dooms, burials, cleanings}
use Rattle.machine.specs.Boot.{boot}
use Rattle.machine.specs.Rows.{owed_of, thread_of}
use Rattle.state_rows.specs.declared.thread.ThreadRow.{ThreadRow}
use Rattle.machine.specs.History.{after_in}
use Rattle.std.specs.List.{slice_index_or}
use Rattle.entry_log.specs.declared.effect.LockNo.{LockNo}
use Rattle.entry_log.specs.declared.effect.LockNo.TheVariants.{Object, Fast}
use Rattle.state_rows.specs.declared.duty.Owed.{Owed}
use Rattle.machine.specs.Holdings.{holdings}
use Rattle.machine.specs.declared.holding.Holding.{Holding}

-- object n, and an entry of thread t that isn't answered
abbrev number : ℕ → ObjNo
number n = record { 0 = n }

abbrev acts : ℕ → ℕ → Step → List Effect → Entry
acts place t done effects = record { place = place; actor = Thread (number t); step = done; effects = effects; answer = None }

-- thread 3 ends, is cleaned, and is buried by the supervisor
abbrev ends : ℕ → Entry
ends place = acts place 3 step.End (effect.Doom (number 3) ∷ [])

abbrev is_cleaned : ℕ → Entry
is_cleaned place = acts place 3 step.Clean []

abbrev is_buried : ℕ → Entry
is_buried place = acts place 1 step.Bury (effect.Bury (number 3) ∷ [])

-- that is once each
dooms_once : dooms (effects_of (ends 1 ∷ is_cleaned 2 ∷ is_buried 3 ∷ [])) (number 3) ≡ 1
dooms_once = refl

cleans_once : cleanings (ends 1 ∷ is_cleaned 2 ∷ is_buried 3 ∷ []) (number 3) ≡ 1
cleans_once = refl

buries_once : burials (effects_of (ends 1 ∷ is_cleaned 2 ∷ is_buried 3 ∷ [])) (number 3) ≡ 1
buries_once = refl

-- it isn't buried twice
buried_twice : (shared : Bool) (script : Script) → IsSafeDeaths shared script (ends 1 ∷ is_cleaned 2 ∷ is_buried 3 ∷ is_buried 4 ∷ []) → ⊥
buried_twice shared script safe = let few : 2 ≤ 1 = (safe.order (number 3)).buried in omega arith

-- nor doomed or cleaned twice
doomed_twice : (shared : Bool) (script : Script) → IsSafeDeaths shared script (ends 1 ∷ ends 2 ∷ []) → ⊥
doomed_twice shared script safe = let few : 2 ≤ 1 = (safe.order (number 3)).doomed in omega arith

cleaned_twice : (shared : Bool) (script : Script) → IsSafeDeaths shared script (ends 1 ∷ is_cleaned 2 ∷ is_cleaned 3 ∷ []) → ⊥
cleaned_twice shared script safe = let few : 2 ≤ 1 = (safe.order (number 3)).cleaned in omega arith

-- and not cleaned before its doom, or buried before its cleaning
cleaned_alive : (shared : Bool) (script : Script) → IsSafeDeaths shared script (is_cleaned 1 ∷ []) → ⊥
cleaned_alive shared script safe = let some : 0 < 0 = (safe.order (number 3)).doom_first [] (is_cleaned 1) [] refl (omega arith) in omega arith

buried_early : (shared : Bool) (script : Script) → IsSafeDeaths shared script (ends 1 ∷ is_buried 2 ∷ []) → ⊥
buried_early shared script safe = let some : 0 < 0 = (safe.order (number 3)).clean_first (ends 1 ∷ []) (is_buried 2) [] refl (omega arith) in omega arith

-- it takes no lock once it is doomed, and holds no fast mutex at its doom
abbrev takes_lock : ℕ → LockNo → Entry
takes_lock place lock = acts place 4 step.Tell (effect.Take (number 3) lock ∷ [])

locked_late : (shared : Bool) (script : Script) → IsSafeDeaths shared script (ends 1 ∷ takes_lock 2 (Object (number 5)) ∷ []) → ⊥
locked_late shared script safe =
    let none : ◌≡◌ {A = ℕ} 1 0 = (safe.doom (number 3)).takes_none [] (ends 1) (takes_lock 2 (Object (number 5)) ∷ [])
    (Object (number 5)) refl (omega arith) in
    omega arith

doomed_holding : (shared : Bool) (script : Script) → IsSafeDeaths shared script (takes_lock 1 (Fast 0) ∷ ends 2 ∷ []) → ⊥
doomed_holding shared script safe =
    let same : ◌≡◌ {A = ℕ} 1 0 = (safe.doom (number 3)).fast (takes_lock 1 (Fast 0) ∷ []) (ends 2) [] 0 refl
    (omega arith) in
    omega arith

-- it gets no signal once it is doomed
abbrev is_signalled : ℕ → Entry
is_signalled place = acts place 4 step.Tell (effect.Signal (number 3) (Async 0) (pos 0) ∷ [])

signalled_late : (shared : Bool) (script : Script) → IsSafeDeaths shared script (ends 1 ∷ is_signalled 2 ∷ []) → ⊥
signalled_late shared script safe =
    let none : ◌≡◌ {A = ℕ} 1 0 = (safe.doom (number 3)).signals_none [] (ends 1) (is_signalled 2 ∷ []) refl
    (omega arith) in
    omega arith

-- nor a reply to its synchronous message
abbrev is_answered : ℕ → Entry
is_answered place = acts place 4 step.Finish (effect.Signal (number 3) Sync (pos 0) ∷ [])

answered_late : (shared : Bool) (script : Script) → IsSafeDeaths shared script (ends 1 ∷ is_answered 2 ∷ []) → ⊥
answered_late shared script safe =
    let none : ◌≡◌ {A = ℕ} 1 0 = (safe.doom (number 3)).signals_none [] (ends 1) (is_answered 2 ∷ []) refl
    (omega arith) in
    omega arith

-- and it isn't cleaned while a handle of its own table is left
abbrev duplicates : ℕ → Entry
duplicates place = acts place 3 step.Drop (effect.Plus (InThread (number 3) 0) (number 5) ∷ [])

cleaned_early : (shared : Bool) (script : Script) → IsSafeDeaths shared script (duplicates 1 ∷ ends 2 ∷ is_cleaned 3 ∷ []) → ⊥
cleaned_early shared script safe =
    let none : ◌≡◌ {A = ℕ} 1 0 = (safe.clean (number 3)).own (duplicates 1 ∷ ends 2 ∷ []) (is_cleaned 3) []
    (InThread (number 3) 0) (number 5) refl (omega arith) refl in
    omega arith

-- or a mutex
cleaned_locking : (shared : Bool) (script : Script) → IsSafeDeaths shared script (takes_lock 1 (Object (number 5)) ∷ ends 2 ∷ is_cleaned 3 ∷ []) → ⊥
cleaned_locking shared script safe =
    let same : ◌≡◌ {A = ℕ} 1 0 = (safe.clean (number 3)).locks (takes_lock 1 (Object (number 5)) ∷ ends 2 ∷ [])
    (is_cleaned 3) [] (Object (number 5)) refl (omega arith) in
    omega arith

-- or a handle of its process, where it is the only thread of that
abbrev shares : ℕ → Entry
shares place = acts place 4 step.Drop (effect.Plus (InProcess (number 2) 7) (number 5) ∷ [])

cleaned_sharing : (shared : Bool) (script : Script) (row : ThreadRow)
    → thread_of (boot script) (number 3) ≡ Some (record row { process = number 2 })
    → OthersAreCleaned script (shares 1 ∷ ends 2 ∷ []) (number 2) (number 3)
    → IsSafeDeaths shared script (shares 1 ∷ ends 2 ∷ is_cleaned 3 ∷ []) → ⊥
cleaned_sharing shared script row is alone safe =
    let none : ◌≡◌ {A = ℕ} 1 0 = (safe.clean (number 3)).handles (shares 1 ∷ ends 2 ∷ []) (is_cleaned 3) []
    (record row { process = number 2 }) 7 (number 5) refl (omega arith) is alone in
    omega arith

-- From its cleaning on it doesn't act, and gets nothing of its own,
acted_late : (shared : Bool) (script : Script) → IsSafeDeaths shared script (ends 1 ∷ is_cleaned 2 ∷ duplicates 3 ∷ []) → ⊥
acted_late shared script safe = let nobody : true ≡ false = (safe.dead (number 3)).acts (ends 1 ∷ is_cleaned 2 ∷ []) (duplicates 3) [] refl (omega arith) in cc

gained_late : (shared : Bool) (script : Script) → IsSafeDeaths shared script (ends 1 ∷ is_cleaned 2 ∷ duplicates 3 ∷ []) → ⊥
gained_late shared script safe =
    let none : ◌≡◌ {A = ℕ} 1 0 = (safe.dead (number 3)).gains (ends 1 ∷ is_cleaned 2 ∷ []) (duplicates 3) []
    (InThread (number 3) 0) (number 5) refl (omega arith) refl in
    omega arith

-- owes nothing, and has nothing: where a state says otherwise the history isn't safe
owed_late : (shared : Bool) (script : Script) (what : Owed) (rest : List Owed)
    → owed_of (after_in shared script (ends 1 ∷ is_cleaned 2 ∷ [])) (number 3) ≡ what ∷ rest
    → IsSafeDeaths shared script (ends 1 ∷ is_cleaned 2 ∷ []) → ⊥
owed_late shared script what rest owes safe = let none = (safe.dead (number 3)).owes (ends 1 ∷ is_cleaned 2 ∷ []) [] refl (omega arith) in cc

had_late : (shared : Bool) (script : Script) (row : ThreadRow) (what : Holding) (rest : List Holding)
    → thread_of (after_in shared script (ends 1 ∷ is_cleaned 2 ∷ [])) (number 3) ≡ Some row
    → holdings (after_in shared script (ends 1 ∷ is_cleaned 2 ∷ [])) (number 3) row ≡ what ∷ rest
    → IsSafeDeaths shared script (ends 1 ∷ is_cleaned 2 ∷ []) → ⊥
had_late shared script row what rest is has safe = let none = (safe.dead (number 3)).has (ends 1 ∷ is_cleaned 2 ∷ []) [] row refl (omega arith) is in cc

-- nor does the table of its process get anything behind it, where it was the only thread of that
shared_late : (shared : Bool) (script : Script) (row : ThreadRow)
    → thread_of (boot script) (number 3) ≡ Some (record row { process = number 2 })
    → OthersAreCleaned script (ends 1 ∷ is_cleaned 2 ∷ []) (number 2) (number 3)
    → IsSafeDeaths shared script (ends 1 ∷ is_cleaned 2 ∷ shares 3 ∷ []) → ⊥
shared_late shared script row is alone safe =
    let none : ◌≡◌ {A = ℕ} 1 0 = (safe.dead (number 3)).shares (ends 1 ∷ is_cleaned 2 ∷ []) (shares 3) []
    (record row { process = number 2 }) 7 (number 5) refl (omega arith) is alone in
    omega arith

-- and where a mutex is its own after that, it wasn't cleaned as it should be
holds_late : (shared : Bool) (script : Script) (o : ObjNo) (rest : List ObjNo)
    → slice_index_or (after_in shared script (ends 1 ∷ is_cleaned 2 ∷ [])).synchronization.mutexes 3 [] ≡ o ∷ rest
    → IsSafeDeaths shared script (ends 1 ∷ is_cleaned 2 ∷ []) → ⊥
holds_late shared script o rest holds safe = let none = ((safe.dead (number 3)).none (ends 1 ∷ is_cleaned 2 ∷ []) [] refl (omega arith)).mutexes in cc

-- or a server that it made
abbrev serves : ℕ → Entry
serves place = acts place 3 step.Drop (effect.Plus (Own (number 3)) (number 5) ∷ [])

cleaned_serving : (shared : Bool) (script : Script) → IsSafeDeaths shared script (serves 1 ∷ ends 2 ∷ is_cleaned 3 ∷ []) → ⊥
cleaned_serving shared script safe =
    let none : ◌≡◌ {A = ℕ} 1 0 = (safe.clean (number 3)).own (serves 1 ∷ ends 2 ∷ []) (is_cleaned 3) [] (Own (number 3))
    (number 5) refl (omega arith) refl in
    omega arith
