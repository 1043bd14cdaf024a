-- Who is out is what was found less who came back.
use Rattle.std.proofs.Common.{◌≡◌, ℕ, suc, ◌+◌, List, [], ◌∷◌, get_or, arith, refl, ap, ◌∙◌, Option, None, Bool, true, false, ◌++◌, length}
use Rattle.std.specs.Prelude.{◌&&◌, if◌then◌else◌}
use Rattle.sym_base.specs.declared.number.ObjNo.{ObjNo}
use Rattle.script_types.specs.declared.script.Script.{Script}
use Rattle.script_types.specs.Shape.{IsShaped}
use Rattle.script_types.specs.Source.{IsWellFormed as IsWellFormedScript}
use Rattle.script_types.proofs.ShapeLaws.{formed_is_shaped}
use Rattle.entry_log.specs.declared.effect.Effect.{Effect}
use Rattle.entry_log.specs.declared.effect.Effect.TheVariants.{Seek}
use Rattle.entry_log.specs.declared.entry.Actor.{Actor}
use Rattle.entry_log.specs.declared.entry.Entry.{Entry}
use Rattle.state_rows.specs.declared.duty.Owed.TheVariants.{Close, Sweep}
use Rattle.state_rows.specs.declared.thread.ThreadRow.{ThreadRow}
use Rattle.machine.specs.declared.moves.Move.{Move}
use Rattle.machine.specs.declared.moves.Move.TheVariants as move
use Rattle.machine.specs.declared.state.State.{State}
use Rattle.machine.specs.Boot.{boot_in}
use Rattle.machine.specs.History.{after_from, after_in, choosing, is_deathless, next, next_by, transition, IsLegalFrom, IsShared}
use Rattle.machine.specs.Out.{is_out, is_returning, part_of}
use Rattle.machine.specs.References.{total}
use Rattle.machine.specs.SharedRun.{is_return, slots_taken}
use Rattle.machine.specs.Rows.{thread_of}
use Rattle.machine.specs.WellFormed.{AreRows}
use Rattle.move_laws.proofs.Lists.Totals.{total_any}
use Rattle.move_laws.proofs.References.Same.{if_not}
use Rattle.machine_laws.proofs.AtBoot.BootRows.{well_formed-boot}
use Rattle.machine_laws.proofs.Sharing.Losses.{comes-next, moves_of}
use Rattle.machine_laws.proofs.Fitting.Regular.{finding_bit, return_bit}
use Rattle.machine_laws.proofs.Reached.AfterHistory.{rows-keeping}
use Rattle.machine_laws.proofs.Reached.NextState.{sound-next}
use Rattle.machine_laws.proofs.Reached.Modes.{shared-after}
use Rattle.machine_laws.proofs.Sharing.Outs.{out-boot, out-next}
use Rattle.machine_laws.proofs.Sharing.Told.{IsOfCloses, is_beside, next-is, told_by, total-same}
use Rattle.machine_safe.specs.FindsAndReturns.{seek_bit, AreFindsCounted, away, finds_in, returning_bit, returns_in, times_found}
use Rattle.std.proofs.lemmas.Bool.{and_right}

-- what an action tells of finds is what its moves find
pub of-seek : IsOfCloses seek_bit
of-seek = record { none = none }
  where
    none : (e : Effect) → is_beside e ≡ true → seek_bit e ≡ 0
    none (Seek o) beside = absurd (cc)
    none _ beside = refl

pub seek-told : (m : Move) → told_by seek_bit m ≡ finding_bit m
seek-told (move.Find u o) = refl
seek-told (move.Pay (Close h o)) = refl
seek-told _ = refl

pub next-finds : (script : Script) (S : State) (actor : Actor)
    → times_found (transition script S actor).outcome.effects ≡ total finding_bit (moves_of script S actor)
next-finds script S actor = next-is seek_bit of-seek script S actor ∙ total-same (told_by seek_bit) finding_bit seek-told (moves_of script S actor)

-- as many threads are out as found something and haven't come back, also after one more entry
away-next : (script : Script) (S : State) (actor : Actor) → IsShaped script → AreRows script S
    → away (next script S actor) + return_bit (transition script S actor).outcome.step
    ≡ away S + times_found (transition script S actor).outcome.effects
away-next script S actor shaped rows =
    let moves = out-next script S actor shaped rows in
    let comes = comes-next script S actor shaped rows in
    let finds = next-finds script S actor in omega arith

away-after : (script : Script) (S : State) (place : ℕ) (es : List Entry) → IsShaped script → AreRows script S
    → IsLegalFrom script S place es → away (after_from script S es) + returns_in es ≡ away S + finds_in es
away-after script S place [] shaped rows legal = refl
away-after script S place (e ∷ es) shaped rows legal =
    let T = choosing e S in
    let chosen = rows-keeping script S (S.mode.shared && is_deathless e.effects) rows in
    let step : return_bit e.step ≡ return_bit (transition script T e.actor).outcome.step = ap (λ (x : Entry). return_bit x.step) legal.0.told in
    let effects : times_found e.effects ≡ times_found (transition script T e.actor).outcome.effects = ap (λ (x : Entry). times_found x.effects) legal.0.told in
    let here : away (next_by script S e) + return_bit (transition script T e.actor).outcome.step
    ≡ away S + times_found (transition script T e.actor).outcome.effects =
    away-next script T e.actor shaped chosen in
    let rest = away-after script (next_by script S e) (place + 1) es shaped (sound-next script T e.actor shaped chosen).rows legal.1 in omega arith

-- nobody is out where so many are 0, and the other way round
abbrev bit : Bool → ℕ
bit b = if b then 1 else 0

bit-none : (b : Bool) → bit b ≡ 0 → b ≡ false
bit-none true e = absurd (omega arith)
bit-none false e = refl

none-away : (T : State) (t : ObjNo) → away T ≡ 0 → is_out T t ≡ false
none-away T t none =
    let here = total_any returning_bit T.references.threads t.0 None refl in
    and_right T.mode.shared (is_returning (part_of (thread_of T t))) (bit-none (is_returning (part_of (thread_of T t))) (omega arith))

shared-out : (shared b : Bool) → shared ≡ true → (shared && b) ≡ false → b ≡ false
shared-out true b e none = none
shared-out false b e none = absurd (cc)

total-none : (threads : List (Option ThreadRow)) → ((i : ℕ) → returning_bit (get_or threads i None) ≡ 0) → total returning_bit threads ≡ 0
total-none [] none = refl
total-none (row ∷ threads) none = let here : returning_bit row ≡ 0 = none 0 in let rest = total-none threads (λ i. none (suc i)) in omega arith

away-none : (T : State) → T.mode.shared ≡ true → ((t : ObjNo) → is_out T t ≡ false) → away T ≡ 0
away-none T shared none =
    total-none T.references.threads (λ i. if_not (is_returning (part_of (thread_of T (record { 0 = i })))) 1
    (shared-out T.mode.shared (is_returning (part_of (thread_of T (record { 0 = i })))) shared
    (none (record { 0 = i }))))

pub finds-counted : (script : Script) (history : List Entry) → IsWellFormedScript script → IsShared script history → AreFindsCounted script history
finds-counted script history valid legal =
    let shaped = formed_is_shaped script valid in
    let S = boot_in true script in
    let T = after_in true script history in
    let first : away S ≡ 0 = out-boot true script shaped in
    let count : away T + returns_in history
    ≡ finds_in history = (let all = away-after script S 1 history shaped
    (well_formed-boot true script valid).rows legal in omega arith) in
    record {
      counted = count;
      back = λ same t. none-away T t (omega arith);
      all = λ none. let zero = away-none T (shared-after script S history) none in omega arith;
    }

-- finds, returns and slots of entries, and of others behind them
pub finds_in-append : (xs ys : List Entry) → finds_in (xs ++ ys) ≡ finds_in xs + finds_in ys
finds_in-append [] ys = omega arith
finds_in-append (x ∷ xs) ys = let r = finds_in-append xs ys in omega arith

pub returns_in-append : (xs ys : List Entry) → returns_in (xs ++ ys) ≡ returns_in xs + returns_in ys
returns_in-append [] ys = omega arith
returns_in-append (x ∷ xs) ys = let r = returns_in-append xs ys in omega arith

pub slots_taken-append : (xs ys : List Entry) → slots_taken (xs ++ ys) ≡ slots_taken xs + slots_taken ys
slots_taken-append [] ys = omega arith
slots_taken-append (x ∷ xs) ys = let r = slots_taken-append xs ys in omega arith

-- each entry takes a slot or is a return
one-of : (b : Bool) (m n k : ℕ) → m + n ≡ k → ((if b then 0 else 1) + m) + ((if b then 1 else 0) + n) ≡ 1 + k
one-of true m n k same = omega arith
one-of false m n k same = omega arith

pub slots-and-returns : (es : List Entry) → slots_taken es + returns_in es ≡ length es
slots-and-returns [] = refl
slots-and-returns (e ∷ es) = let here = one-of (is_return e.step) (slots_taken es) (returns_in es) (length es) (slots-and-returns es) in omega arith
