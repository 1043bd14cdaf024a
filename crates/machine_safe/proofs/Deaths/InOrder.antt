-- A thread is buried only after its cleaning, and cleaned only after its doom.
use Rattle.std.proofs.Common.{◌≡◌, inl, inr, ℕ, ◌+◌, ◌<◌, List, [], ◌∷◌, ◌++◌, arith, refl, ap, ◌∙◌, Bool, true, false}
use Rattle.std.specs.Prelude.{◌&&◌, if◌then◌else◌}
use Rattle.std.proofs.lemmas.Bool.{cases_lt, eq-eqb}
use Rattle.sym_base.specs.declared.number.ObjNo.{ObjNo}
use Rattle.script_types.specs.declared.script.Script.{Script}
use Rattle.script_types.specs.Shape.{IsShaped}
use Rattle.script_types.specs.Source.{IsWellFormed}
use Rattle.script_types.proofs.ShapeLaws.{formed_is_shaped}
use Rattle.entry_log.specs.declared.effect.Effect.{Effect}
use Rattle.entry_log.specs.declared.entry.Actor.{Actor}
use Rattle.entry_log.specs.declared.entry.Actor.TheVariants.{Thread}
use Rattle.entry_log.specs.declared.entry.Entry.{Entry}
use Rattle.machine.specs.declared.moves.Move.{Move}
use Rattle.machine.specs.declared.state.State.{State}
use Rattle.machine.specs.Boot.{boot_in}
use Rattle.machine.specs.History.{after_from, after_in, choosing, next, next_by, transition, IsLegalFrom, IsLegalIn}
use Rattle.machine.specs.Holdings.{stage_left}
use Rattle.machine.specs.Moves.{tell}
use Rattle.machine.specs.Rows.{thread_of}
use Rattle.machine.specs.Steps.{decision_of}
use Rattle.machine.specs.Transition.{act}
use Rattle.machine.specs.WellFormed.{AreRows}
use Rattle.machine_laws.proofs.AtBoot.BootRows.{rows-boot}
use Rattle.machine_safe.proofs.Done.{IsDone, done-next, rows-by, rows-choosing}
use Rattle.machine_safe.specs.CountAfter.{is_by}
use Rattle.machine_safe.specs.SafeDeaths.{DiesInOrder, burials, cleanings}
use Rattle.machine_safe.proofs.Deaths.HistoryCuts.{IsCut, cut, live-boot}
use Rattle.machine_safe.proofs.Deaths.OwnCleaning.{drop-next}
use Rattle.machine_safe.proofs.Deaths.OnceEach.{buried-once, cleaned-left, cleans, doom-first, doomed-once, left-after, left-doomed, left-entry, step-of}
use Rattle.machine_safe.proofs.Deaths.Rows.{held-one, left-held, live-left, row_bit}
use Rattle.machine.specs.EntryWords.{is_clean}
use Rattle.machine_laws.proofs.Fitting.Regular.{IsCleaning}
use Rattle.machine_laws.proofs.Fitting.Actions.{regular-action}

-- the thread's own cleaning is one that entries count
counted : (script : Script) (S : State) (place : ℕ) (e : Entry) (t : ObjNo) → IsDone script S place e
    → e.actor ≡ Thread t → is_clean (decision_of script S t).step ≡ true → (is_by t e.actor && is_clean e.step) ≡ true
counted script S place e t here by clean =
    let own : is_by t e.actor ≡ true = ap (is_by t) by ∙ eq-eqb t.0 t.0 refl in
    let told : e.step ≡ (transition script S e.actor).outcome.step = ap (λ (x : Entry). x.step) here.told in
    let step : (transition script S e.actor).outcome.step ≡ (decision_of script S t).step =
    ap (λ (a : Actor). (transition script S a).outcome.step) by ∙ step-of script S t in
    ap (λ (b : Bool). b && is_clean e.step) own ∙ (ap is_clean (told ∙ step) ∙ clean)

-- a thread is cleaned exactly in the entries that are its cleanings
left-exact : (script : Script) (S : State) (place : ℕ) (e : Entry) (t : ObjNo) → IsShaped script → AreRows script S
    → IsDone script S place e
    → row_bit stage_left (thread_of (next script S e.actor) t) + cleanings (e ∷ []) t
    ≡ row_bit stage_left (thread_of S t)
left-exact script S place e t shaped rows done = by (is_by t e.actor && is_clean e.step) refl
  where
    T : State
    T = next script S e.actor

    by : (b : Bool) → (is_by t e.actor && is_clean e.step) ≡ b
        → row_bit stage_left (thread_of T t) + ((if b then 1 else 0) + 0) ≡ row_bit stage_left (thread_of S t)
    by true is = let c = cleans script S place e t shaped rows done is in let was = left-doomed script S e t c in
        let now = left-after script S e t c in omega arith
    by false is =
        let le = left-entry script S place e t shaped rows done in
        let a = left-held (thread_of S t) in
        let one = held-one (thread_of S t) in
        elim (cases_lt 0 (row_bit stage_left (thread_of T t))) as (λ _. row_bit stage_left (thread_of T t) + (0 + 0) ≡ row_bit stage_left (thread_of S t)) [
          | inl some ↦ omega arith
          | inr none ↦
              elim (cases_lt 0 (row_bit stage_left (thread_of S t))) as
              (λ _. row_bit stage_left (thread_of T t) + (0 + 0) ≡ row_bit stage_left (thread_of S t)) [
                | inr gone ↦ omega arith
                | inl there ↦
                    let drop = drop-next script S e.actor t shaped rows (omega arith) (omega arith) in
                    let yes = counted script S place e t done drop.0 drop.1 in
                    absurd (cc)
              ]
        ]

pub exact-run : (script : Script) (S : State) (place : ℕ) (es : List Entry) (t : ObjNo) → IsShaped script
    → AreRows script S → IsLegalFrom script S place es
    → row_bit stage_left (thread_of (after_from script S es) t) + cleanings es t ≡ row_bit stage_left (thread_of S t)
exact-run script S place [] t shaped rows legal = omega arith
exact-run script S place (e ∷ es) t shaped rows legal =
    let one = left-exact script (choosing e S) place e t shaped (rows-choosing script S e rows) (done-next script S place e legal.0) in
    let more = exact-run script (next_by script S e) (place + 1) es t shaped (rows-by script S e shaped rows) legal.1 in omega arith

-- a cleaning tells nothing
silent-act : (script : Script) (S : State) (t : ObjNo) → IsCleaning script S t (decision_of script S t) → (act script S t).outcome.effects ≡ []
unfolding act
silent-act script S t c = ap (λ (ms : List Move). tell t ms S) c.moves

silent-cleaning : (script : Script) (S : State) (place : ℕ) (e : Entry) (t : ObjNo) → IsShaped script → AreRows script S
    → IsDone script S place e → e.actor ≡ Thread t → is_clean (decision_of script S t).step ≡ true → e.effects ≡ []
silent-cleaning script S place e t shaped rows here by clean =
    ap (λ (x : Entry). x.effects) here.told
    ∙ (ap (λ (a : Actor). (transition script S a).outcome.effects) by
    ∙ silent-act script S t ((regular-action script S t shaped rows).1.known clean))

-- who is buried in an entry was cleaned before it
left-buried : (shared : Bool) (script : Script) (before : List Entry) (e : Entry) (later : List Entry) (t : ObjNo)
    → IsShaped script → IsCut shared script before e later → 0 < burials e.effects t
    → row_bit stage_left (thread_of (after_in shared script before) t) ≡ 0
left-buried shared script before e later t shaped c buried =
    let S = choosing e (after_in shared script before) in
    let T = next script S e.actor in
    let h = c.step.held t in
    let one = held-one (thread_of S t) in
    let a = left-held (thread_of S t) in
    let b = left-held (thread_of T t) in
    elim (cases_lt 0 (row_bit stage_left (thread_of S t))) as (λ _. row_bit stage_left (thread_of S t) ≡ 0) [
      | inr none ↦ omega arith
      | inl some ↦
          let drop = drop-next script S e.actor t shaped c.rows_done (omega arith) (omega arith) in
          let none : burials e.effects t ≡ 0 = ap (λ (l : List Effect). burials l t)
          (silent-cleaning script S c.place e t shaped c.rows_done c.done drop.0 drop.1) in
          absurd (omega arith)
    ]

clean-first : (shared : Bool) (script : Script) (history : List Entry) (t : ObjNo) → IsWellFormed script
    → IsLegalIn shared script history → (before : List Entry) (e : Entry) (later : List Entry)
    → history ≡ before ++ e ∷ later → 0 < burials e.effects t → 0 < cleanings before t
clean-first shared script history t valid legal before e later is buried =
    let shaped = formed_is_shaped script valid in
    let c = cut shared script history before e later valid legal is in
    let none = left-buried shared script before e later t shaped c buried in
    let run = exact-run script (boot_in shared script) 1 before t shaped (rows-boot shared script valid) c.legal_before in
    let now = c.step.held t in
    let was = c.front.held t in
    let start = live-boot script t valid in
    let left = live-left (thread_of (boot_in shared script) t) in omega arith

pub dies-in-order : (shared : Bool) (script : Script) (history : List Entry) (t : ObjNo) → IsWellFormed script
    → IsLegalIn shared script history → DiesInOrder history t
dies-in-order shared script history t valid legal = record {
  doomed = doomed-once shared script history t valid legal;
  cleaned = let few = cleaned-left shared script history t valid legal in omega arith;
  buried = buried-once shared script history t valid legal;
  doom_first = doom-first shared script history t valid legal;
  clean_first = clean-first shared script history t valid legal;
}
