-- A kernel that one caller calls alone: an action of it has no choice, and nobody is out.
use Rattle.std.proofs.Common.{◌≡◌, ◌∙◌, ◌+◌, Bool, true, false, List, [], ◌∷◌, ◌++◌, length, refl, sym, ap}
use Rattle.std.specs.Prelude.{◌||◌, ◌&&◌, IsTrue}
use Rattle.sym_base.specs.declared.number.ObjNo.{ObjNo}
use Rattle.script_types.specs.declared.script.Script.{Script}
use Rattle.entry_log.specs.declared.entry.Actor.{Actor}
use Rattle.entry_log.specs.declared.entry.Actor.TheVariants.{Thread, Irq, Idfc, Tick, Idle}
use Rattle.entry_log.specs.declared.entry.Entry.{Entry}
use Rattle.machine.specs.declared.state.State.{State}
use Rattle.machine.specs.Arrived.{arrived, arrived_next}
use Rattle.machine.specs.Boot.{boot}
use Rattle.machine.specs.History.{after, choosing, entry_by, next, CanAct, IsLegal}
use Rattle.machine.specs.Out.{is_out, is_returning, part_of}
use Rattle.machine.specs.Rows.{thread_of}
use Rattle.machine.specs.Task.{is_able, may_act}
use Rattle.machine_safe.specs.FindsAndReturns.{is_out_actor}
use Rattle.machine_laws.proofs.Reached.Histories.{after-push, arrived-push, legal-push}
use Rattle.machine_laws.proofs.Reached.Modes.{choosing-alone, shared-after, unkept-after}

-- nobody shares it after any history
pub alone_after : (script : Script) (history : List Entry) → (after script history).mode.shared ≡ false
alone_after script history = shared-after script (boot script) history

-- so an entry has no choice
pub no_choice : (script : Script) (history : List Entry) (e : Entry) → choosing e (after script history) ≡ after script history
no_choice script history e = choosing-alone (after script history) e (alone_after script history) (unkept-after script (boot script) history refl refl)

-- what a history comes to that is longer by an entry: the state, the list of ready threads, and that it is legal
pub after_longer : (script : Script) (history : List Entry) (e : Entry) → after script (history ++ e ∷ []) ≡ next script (after script history) e.actor
after_longer script history e = after-push false script history e ∙ ap (λ (S : State). next script S e.actor) (no_choice script history e)

pub arrived_longer : (script : Script) (history : List Entry) (e : Entry)
    → arrived script (history ++ e ∷ []) ≡ arrived_next script (after script history) e.actor (arrived script history)
arrived_longer script history e =
    arrived-push false script history e
    ∙ ap (λ (S : State). arrived_next script S e.actor (arrived script history)) (no_choice script history e)

pub legal_longer : (script : Script) (history : List Entry) (e : Entry) → IsLegal script history
    → CanAct script (after script history) e.actor
    → e ≡ entry_by script (after script history) (length history + 1) e.actor → IsLegal script (history ++ e ∷ [])
legal_longer script history e legal can told =
    legal-push false script history e legal
    (record {
      able = can;
      told = told ∙ ap (λ (S : State). entry_by script S (length history + 1) e.actor)
          (sym (no_choice script history e));
    })

-- whoever may act and isn't out is able
pub able_or : (able out : Bool) → out ≡ false → (able || out) ≡ true → able ≡ true
able_or true out none may = refl
able_or false true none may = absurd (cc)
able_or false false none may = absurd (cc)

-- nobody is out there
pub none_out : (S : State) (actor : Actor) → S.mode.shared ≡ false → is_out_actor S actor ≡ false
none_out S (Thread t) alone = ap (λ (shared : Bool). shared && is_returning (part_of (thread_of S t))) alone
none_out S (Irq k) alone = refl
none_out S Idfc alone = refl
none_out S Tick alone = refl
none_out S Idle alone = refl

-- and whoever is able may act
pub may_act_able : (script : Script) (S : State) (t : ObjNo) → IsTrue (is_able script S t) → IsTrue (may_act script S t)
may_act_able script S t able = ap (λ (b : Bool). b || is_out S t) able
