-- How a command ends whose input was accepted, and one whose wasn't.
use Rattle.std.proofs.Common.{◌≡◌, ap, refl, subst, arith, ℕ, zero, suc, ◌<◌, ◌≤◌, ◌⊎◌, inl, inr, List, Option}
use Rattle.std.specs.Prelude.{Result, Ok, Err, OnOk, IfErr, IfSome, IsOk}
use Rattle.edge_io.specs.Faults.{Rose}
use Rattle.edge_io.specs.Written.{Wrote, WrotePrefix}
use Rattle.machine.specs.History.{IsLegal}
use Rattle.machine.specs.Run.{run}
use Rattle.machine_safe.specs.Safe.{IsSafe}
use Rattle.runner.specs.Complete.{Stayed}
use Rattle.runner.specs.Inputs.{IsInput}
use Rattle.runner.specs.Outputs.{IsSharedTextOf, WroteFront, WrotePart, WroteRefusalFront, WroteRun, WroteShared, WroteSharedFront, WroteWhole}
use Rattle.script_read.specs.declared.fault.RunFault.{RunFault}
use Rattle.script_read.specs.declared.fault.RunFault.TheVariants as fault
use Rattle.script_read.specs.declared.reason.Reason.{Reason}
use Rattle.script_types.specs.declared.script.Script.{Script}

-- it has two faults
abbrev IsOfTwo : RunFault → Type 0
IsOfTwo f = (f ≡ fault.WriteFault) ⊎ (f ≡ fault.NoMemory)

module _ (r : Result (Unit {0}) RunFault) (only : IfErr r (λ f. (f ≡ fault.WriteFault) ⊎ (f ≡ fault.NoMemory))) where
  is-of-two : (f : RunFault) → r ≡ Err f → IsOfTwo f
  is-of-two f same = subst (λ (x : Result (Unit {0}) RunFault). IfErr x IsOfTwo) same only

  pub never-refused : (line : ℕ) (why : Reason) → r ≡ Err (fault.Refused line why) → ⊥
  never-refused line why same = elim (is-of-two (fault.Refused line why) same) [ inl e ↦ cc | inr e ↦ cc ]

  pub never-large : r ≡ Err fault.TooLarge → ⊥
  never-large same = elim (is-of-two fault.TooLarge same) [ inl e ↦ cc | inr e ↦ cc ]

  pub never-read : r ≡ Err fault.ReadFault → ⊥
  never-read same = elim (is-of-two fault.ReadFault same) [ inl e ↦ cc | inr e ↦ cc ]

-- where no write failed it did all, but for want of memory
ends-err : (f : RunFault) (r : Result (Unit {0}) RunFault) → r ≡ Err f → IsOfTwo f → (r ≡ Err fault.WriteFault → ⊥) → IsOk r ⊎ (r ≡ Err fault.NoMemory)
ends-err f r is (inl write) never = absurd (never (cc))
ends-err f r is (inr memory) never = inr (cc)

pub ends-well : (r : Result (Unit {0}) RunFault) (old new : ℕ)
    → IfErr r (λ f. (f ≡ fault.WriteFault) ⊎ (f ≡ fault.NoMemory)) → (r ≡ Err fault.WriteFault → Rose old new)
    → Stayed old new → IsOk r ⊎ (r ≡ Err fault.NoMemory)
ends-well (Ok x) old new only rose stayed = inl refl
ends-well (Err f) old new only rose stayed = ends-err f (Err f) refl only (λ same. stayed (rose same))

-- a count that stayed until later stayed at first
less-or-same : (a b : ℕ) → a ≤ b → (a < b) ⊎ (a ≡ b)
less-or-same zero zero le = inr refl
less-or-same zero (suc b) le = inl (omega arith)
less-or-same (suc a) zero le = absurd (omega arith)
less-or-same (suc a) (suc b) le =
    elim (less-or-same a b (omega arith)) as
    (λ _. (suc a < suc b) ⊎ (suc a ≡ suc b)) [ inl less ↦ inl (omega arith) | inr same ↦ inr (ap suc same) ]

rises-later : (a b : ℕ) → a ≤ b → Rose a a → Rose a b
rises-later a b le (inl less) = absurd (omega arith)
rises-later a b le (inr top) = elim (less-or-same a b le) as (λ _. Rose a b) [ inl less ↦ inl less | inr same ↦ inr (omega arith) ]

pub stayed-first : (a b : ℕ) → a ≤ b → Stayed a b → Stayed a a
stayed-first a b le stayed = λ rose. stayed (rises-later a b le rose)

pub on-ok : {P : Type 0} (r : Result (Unit {0}) RunFault) → P → OnOk r P
on-ok (Ok x) holds = holds
on-ok (Err f) holds = tt

-- a fault is the same, whatever would have been answered without it
pub same-fault : {A B : Type 0} (f g : RunFault) → ◌≡◌ {A = Result A RunFault} (Err f) (Err g) → ◌≡◌ {A = Result B RunFault} (Err f) (Err g)
same-fault f g same = let is : f ≡ g = cc in ap (λ (x : RunFault). Err x) is

-- the text of a run was written, or a prefix of it
pub done-run : (r : Result (Unit {0}) RunFault) (text_of : Script → List ℕ) (input old new : Option (List ℕ))
    (script : Script)
    → IfSome input (λ bytes. IsInput bytes script)
    → OnOk r (Wrote old new (text_of script)) → OnOk r (IsLegal script (run script))
    → OnOk r (IsSafe script (run script)) → OnOk r (WroteRun text_of input old new)
done-run (Ok x) text_of input old new script accepted wrote legal safe = record {
  script = script;
  accepted = accepted;
  wrote = wrote;
  legal = legal;
  safe = safe;
}
done-run (Err f) text_of input old new script accepted wrote legal safe = tt

pub front-run : (text_of : Script → List ℕ) (input old new : Option (List ℕ)) (script : Script)
    → IfSome input (λ bytes. IsInput bytes script) → WrotePrefix old new (text_of script)
    → WroteFront text_of input old new
front-run text_of input old new script accepted wrote = record {
  text = text_of script;
  called_for = inl (record { script = script; accepted = accepted; same = refl });
  wrote = wrote;
}

-- or the text of a run by callers who share the kernel
pub done-shared : (r : Result (Unit {0}) RunFault) (input old new : Option (List ℕ)) (script : Script)
    → IfSome input (λ bytes. IsInput bytes script) → OnOk r (WroteWhole (IsSharedTextOf script) old new)
    → OnOk r (WroteShared input old new)
done-shared (Ok x) input old new script accepted wrote = record {
  text = wrote.text;
  called_for = record { script = script; accepted = accepted; made = wrote.called_for };
  wrote = wrote.wrote;
}
done-shared (Err f) input old new script accepted wrote = tt

pub front-shared : (input old new : Option (List ℕ)) (script : Script) → IfSome input (λ bytes. IsInput bytes script)
    → WrotePart (IsSharedTextOf script) old new → WroteSharedFront input old new
front-shared input old new script accepted wrote = record {
  text = wrote.text;
  called_for = inl (record { script = script; accepted = accepted; made = wrote.called_for });
  wrote = wrote.wrote;
}

-- or the line of a refusal
pub front-refused : (text_of : Script → List ℕ) (input old new : Option (List ℕ)) → WroteRefusalFront input old new → WroteFront text_of input old new
front-refused text_of input old new wrote = record { text = wrote.text; called_for = inr wrote.called_for; wrote = wrote.wrote }

pub shared-refused : (input old new : Option (List ℕ)) → WroteRefusalFront input old new → WroteSharedFront input old new
shared-refused input old new wrote = record { text = wrote.text; called_for = inr wrote.called_for; wrote = wrote.wrote }
