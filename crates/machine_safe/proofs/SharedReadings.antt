-- A legal history read as one of callers who share the kernel.
use Rattle.std.proofs.Common.{◌≡◌, ℕ, ◌+◌, List, [], ◌∷◌, refl, ap, sym, subst, ◌∙◌, Some, None, Option, Bool, true, false}
use Rattle.std.specs.Prelude.{◌&&◌, ◌||◌, not}
use Rattle.script_types.specs.declared.script.Script.{Script}
use Rattle.entry_log.specs.declared.entry.Entry.{Entry}
use Rattle.state_rows.specs.declared.object.ObjectRow.{ObjectRow}
use Rattle.machine.specs.declared.state.State.{State}
use Rattle.machine.specs.Boot.{boot}
use Rattle.entry_log.specs.declared.entry.FinalRow.{FinalRow}
use Rattle.machine.specs.FinalRows.{final_row, final_rows, rows_of}
use Rattle.machine.specs.History.{after, after_from, choosing, entry_by, entry_of, is_deathless, next, next_by, transition, IsLegal, IsLegalFrom, IsNext}
use Rattle.machine.specs.Out.{is_out}
use Rattle.machine.specs.Task.{is_able}
use Rattle.machine.specs.Transition.{Transition}
use Rattle.machine_laws.proofs.Sharing.Acted.{able-mode, can-mode, transition-mode}
use Rattle.machine_laws.proofs.Reached.Modes.{choosing-alone, mode-next}
use Rattle.machine_laws.proofs.Sharing.Moved.{alone-like, in_mode, IsAlone, TellsNoDeath}
use Rattle.machine_safe.specs.SharedReading.{HasSameRows, IsSharedToo}

-- one caller alone has no choice, and stays alone
unchosen : (e : Entry) (S : State) → IsAlone S → choosing e S ≡ S
unchosen e S alone = choosing-alone S e alone.0 alone.1

alone-next : (script : Script) (e : Entry) (S : State) → IsAlone S → IsAlone (next_by script S e)
alone-next script e S alone =
    alone-like S (next_by script S e) (mode-next script (choosing e S) e.actor ∙ ap (λ (T : State). T.mode) (unchosen e S alone)) alone

alone-after : (script : Script) (S : State) (es : List Entry) → IsAlone S → IsAlone (after_from script S es)
alone-after script S [] alone = alone
alone-after script S (e ∷ es) alone = alone-after script (next_by script S e) es (alone-next script e S alone)

module _ (script : Script) (S : State) (place : ℕ) (e : Entry) (alone : IsAlone S) (n : IsNext script S place e) where
  abbrev kept : Bool
  kept = is_deathless e.effects

  told-alone : e ≡ entry_by script S place e.actor
  told-alone = n.told ∙ ap (λ (T : State). entry_by script T place e.actor) (unchosen e S alone)

  silent : TellsNoDeath kept (transition script S e.actor).outcome.effects
  silent keeps = ap (λ (x : Entry). is_deathless x.effects) (sym told-alone) ∙ keeps

  acts : transition script (in_mode true kept S) e.actor
      ≡ record { state = in_mode true kept (next script S e.actor); outcome = (transition script S e.actor).outcome }
  acts = transition-mode script kept S alone e.actor n.able silent

  -- an entry of one caller alone may stand where callers share the kernel, and leaves the same rows
  next-mode : (keep : Bool) → next_by script (in_mode true keep S) e ≡ in_mode true kept (next_by script S e)
  next-mode keep = ap (λ (done : Transition). done.state) acts ∙ ap (λ (T : State). in_mode true kept (next script T e.actor)) (sym (unchosen e S alone))

  is_next-mode : (keep : Bool) → IsNext script (in_mode true keep S) place e
  is_next-mode keep = record {
    able = can-mode script keep S alone e.actor n.able;
    told = told-alone ∙ ap (entry_of place e.actor) (sym (ap (λ (done : Transition). done.outcome) acts));
  }

-- so do entries
legal-mode : (script : Script) (keep : Bool) (S : State) (place : ℕ) (es : List Entry) → IsAlone S
    → IsLegalFrom script S place es → IsLegalFrom script (in_mode true keep S) place es
legal-mode script keep S place [] alone legal = tt
legal-mode script keep S place (e ∷ es) alone legal = (
  is_next-mode script S place e alone legal.0 keep,
  subst (λ (T : State). IsLegalFrom script T (place + 1) es) (sym (next-mode script S place e alone legal.0 keep))
      (legal-mode script (is_deathless e.effects) (next_by script S e) (place + 1) es (alone-next script e S alone) legal.1),
)

after-mode : (script : Script) (keep : Bool) (S : State) (place : ℕ) (es : List Entry) → IsAlone S
    → IsLegalFrom script S place es
    → (kept : Bool) × (after_from script (in_mode true keep S) es ≡ in_mode true kept (after_from script S es))
after-mode script keep S place [] alone legal = (keep, refl)
after-mode script keep S place (e ∷ es) alone legal =
    let r = after-mode script (is_deathless e.effects) (next_by script S e) (place + 1) es (alone-next script e S alone) legal.1 in
    (r.0, ap (λ (T : State). after_from script T es) (next-mode script S place e alone legal.0 keep) ∙ r.1)

-- the rows of the objects that are left
left-mode : (keep : Bool) (S : State) (n : ℕ) (objects : List (Option ObjectRow)) → rows_of (in_mode true keep S) n objects ≡ rows_of S n objects
left-mode keep S n [] = refl
left-mode keep S n (None ∷ rest) = left-mode keep S (n + 1) rest
left-mode keep S n (Some row ∷ rest) = ap (λ (rows : List FinalRow). final_row S n row ∷ rows) (left-mode keep S (n + 1) rest)

may_of : (able out : Bool) → ((able && not out) || out) ≡ (able || out)
may_of true true = refl
may_of _ _ = refl

same_rows : (script : Script) (keep : Bool) (S : State) → IsAlone S → HasSameRows script S (in_mode true keep S)
same_rows script keep S alone = record {
  references = refl;
  synchronization = refl;
  serving = refl;
  services = refl;
  able = able-mode script keep S alone;
  may =
      λ t. ap (λ (able : Bool). able || is_out (in_mode true keep S) t) (able-mode script keep S alone t)
      ∙ may_of (is_able script S t) (is_out (in_mode true keep S) t);
}

pub shared-too : (script : Script) (history : List Entry) → IsLegal script history → IsSharedToo script history
shared-too script history legal =
    let S = boot script in
    let T = after script history in
    let r = after-mode script false S 1 history (refl, refl) legal in record {
      shared = legal-mode script false S 1 history (refl, refl) legal;
      rows = subst (HasSameRows script T) (sym r.1) (same_rows script r.0 T (alone-after script S history (refl, refl)));
      left = ap final_rows r.1 ∙ left-mode r.0 T 0 T.references.objects;
    }
