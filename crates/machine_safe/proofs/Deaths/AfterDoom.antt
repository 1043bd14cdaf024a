-- After its doom a thread takes no lock and gets no signal, and at its doom it holds no fast mutex.
use Rattle.std.proofs.Common.{◌≡◌, ℕ, ◌+◌, ◌<◌, List, [], ◌∷◌, ◌++◌, arith, refl, ap, Bool, Option, Some, None}
use Rattle.sym_base.specs.declared.number.ObjNo.{ObjNo}
use Rattle.script_types.specs.declared.script.Script.{Script}
use Rattle.script_types.specs.Source.{IsWellFormed}
use Rattle.entry_log.specs.declared.effect.Effect.{Effect}
use Rattle.entry_log.specs.declared.effect.LockNo.{LockNo}
use Rattle.entry_log.specs.declared.effect.LockNo.TheVariants.{Fast}
use Rattle.entry_log.specs.declared.entry.Entry.{Entry}
use Rattle.state_rows.specs.Nano.{holder_of}
use Rattle.machine.specs.declared.state.State.{State}
use Rattle.machine.specs.History.{after_in, next_by, IsLegalIn}
use Rattle.machine.specs.References.{option_names}
use Rattle.machine.specs.Rows.{thread_of}
use Rattle.machine.specs.WellFormed.{AreRows}
use Rattle.machine_safe.specs.CountAfter.{effects_of}
use Rattle.machine_safe.specs.SafeDeaths.{DoomEnds, dooms, gives, takes}
use Rattle.machine_safe.proofs.Deaths.HistoryCuts.{IsCut, cut, unlocked-boot}
use Rattle.machine_safe.proofs.Runs.{effects-append}
use Rattle.machine_safe.proofs.Deaths.EffectSums.{gives-append, takes-append}
use Rattle.machine_safe.proofs.Deaths.LockMoves.{only-live}
use Rattle.machine_safe.proofs.Deaths.Rows.{held-one, left-held, live-left, row_bit, stage_live}

-- a thread that is doomed in an entry isn't live after it
pub doomed-after : (shared : Bool) (script : Script) (before : List Entry) (e : Entry) (later : List Entry) (t : ObjNo)
    → IsCut shared script before e later → 0 < dooms e.effects t
    → row_bit stage_live (thread_of (next_by script (after_in shared script before) e) t) ≡ 0
doomed-after shared script before e later t c doomed =
    let S = after_in shared script before in
    let l = c.step.live t in
    let a = live-left (thread_of S t) in
    let b = left-held (thread_of S t) in
    let one = held-one (thread_of S t) in omega arith

-- whoever holds a fast mutex is live
pub unheld : (script : Script) (S : State) (t : ObjNo) (f : ℕ) → AreRows script S
    → row_bit stage_live (thread_of S t) ≡ 0 → option_names t (holder_of S.synchronization.nano f) ≡ 0
unheld script S t f rows none = by (holder_of S.synchronization.nano f) refl
  where
    by : (x : Option ObjNo) → holder_of S.synchronization.nano f ≡ x → option_names t x ≡ 0
    by None is = refl
    by (Some u) is = let held = rows.synchronization.nano.holders f u is in only-live S u t (record { row = held.row; is = held.is; live = held.live }) none

-- what the last entry tells is told behind the others
takes-last : (before : List Entry) (e : Entry) (t : ObjNo) (lock : LockNo)
    → takes (effects_of (before ++ e ∷ [])) t lock ≡ takes (effects_of before) t lock + takes e.effects t lock
takes-last before e t lock =
    let same : takes (effects_of (before ++ e ∷ [])) t lock ≡ takes (effects_of before ++ effects_of (e ∷ [])) t lock =
    ap (λ (l : List Effect). takes l t lock) (effects-append before (e ∷ [])) in
    let a = takes-append (effects_of before) (effects_of (e ∷ [])) t lock in
    let b = takes-append e.effects [] t lock in omega arith

gives-last : (before : List Entry) (e : Entry) (t : ObjNo) (lock : LockNo)
    → gives (effects_of (before ++ e ∷ [])) t lock ≡ gives (effects_of before) t lock + gives e.effects t lock
gives-last before e t lock =
    let same : gives (effects_of (before ++ e ∷ [])) t lock ≡ gives (effects_of before ++ effects_of (e ∷ [])) t lock =
    ap (λ (l : List Effect). gives l t lock) (effects-append before (e ∷ [])) in
    let a = gives-append (effects_of before) (effects_of (e ∷ [])) t lock in
    let b = gives-append e.effects [] t lock in omega arith

pub doom-ends : (shared : Bool) (script : Script) (history : List Entry) (t : ObjNo) → IsWellFormed script
    → IsLegalIn shared script history → DoomEnds history t
doom-ends shared script history t valid legal = record {
  takes_none =
      λ before e later lock is doomed. let c = cut shared script history before e later valid legal is in
      c.rest.takes_none t lock (doomed-after shared script before e later t c doomed);
  signals_none =
      λ before e later is doomed. let c = cut shared script history before e later valid legal is in
      c.rest.signals_none t (doomed-after shared script before e later t c doomed);
  fast = λ before e later f is doomed.
      let c = cut shared script history before e later valid legal is in
      let T = next_by script (after_in shared script before) e in
      let none = unheld script T t f c.rows_next (doomed-after shared script before e later t c doomed) in
      let start = unlocked-boot script t (Fast f) in
      let a = c.front.locks t (Fast f) in
      let b = c.step.locks t (Fast f) in
      let d = takes-last before e t (Fast f) in
      let g = gives-last before e t (Fast f) in omega arith;
}
