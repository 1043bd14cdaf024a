-- A command that ended with this status did all, or ended with this fault.
use Rattle.std.proofs.Common.{◌≡◌, ℕ, ◌⊎◌, inl, inr, refl, ap, subst, List, [], arith, rules}
use Rattle.std.specs.Prelude.{Result, Ok, Err, OnOk, IfErr, IsOk, IsSomeAnd, Option}
use Rattle.edge_io.proofs.Reading.{preceded-nil}
use Rattle.edge_io.specs.Written.{Wrote, WrotePrefix}
use Rattle.eka2_app.specs.Outcomes.{Ran, WroteText}
use Rattle.eka2_app.specs.StatusNumber.{status_of}
use Rattle.eka2_app.specs.declared.status.Status.TheVariants as status
use Rattle.runner.specs.Inputs.{IsAtEnd, IsInput, IsBadInput, IsLargeInput, TookAtMost}
use Rattle.runner.specs.Outputs.{WroteRefusalOf}
use Rattle.script_read.specs.declared.fault.RunFault.{RunFault}
use Rattle.script_read.specs.declared.fault.RunFault.TheVariants as fault
use Rattle.script_read.specs.declared.reason.Reason.{Reason}
use Rattle.script_types.specs.declared.script.Script.{Script}

pub done_is : {P : Type 0} (r : Result (Unit {0}) RunFault) → OnOk r P → status_of r ≡ status.Done → P
done_is (Ok x) holds same = holds
done_is (Err (fault.Refused l w)) holds same = cc
done_is (Err fault.ReadFault) holds same = cc
done_is (Err fault.WriteFault) holds same = cc
done_is (Err fault.NoMemory) holds same = cc
done_is (Err fault.TooLarge) holds same = cc

pub refused_is : {P : Type 0} (r : Result (Unit {0}) RunFault)
    → ((line : ℕ) → (why : Reason) → r ≡ Err (fault.Refused line why) → P) → status_of r ≡ status.Refused → P
refused_is (Ok x) holds same = cc
refused_is (Err (fault.Refused l w)) holds same = holds l w refl
refused_is (Err fault.ReadFault) holds same = cc
refused_is (Err fault.WriteFault) holds same = cc
refused_is (Err fault.NoMemory) holds same = cc
refused_is (Err fault.TooLarge) holds same = cc

pub read_fault_is : (r : Result (Unit {0}) RunFault) → status_of r ≡ status.ReadFault → r ≡ Err fault.ReadFault
read_fault_is (Ok x) same = cc
read_fault_is (Err (fault.Refused l w)) same = cc
read_fault_is (Err fault.ReadFault) same = refl
read_fault_is (Err fault.WriteFault) same = cc
read_fault_is (Err fault.NoMemory) same = cc
read_fault_is (Err fault.TooLarge) same = cc

pub write_fault_is : (r : Result (Unit {0}) RunFault) → status_of r ≡ status.WriteFault → r ≡ Err fault.WriteFault
write_fault_is (Ok x) same = cc
write_fault_is (Err (fault.Refused l w)) same = cc
write_fault_is (Err fault.ReadFault) same = cc
write_fault_is (Err fault.WriteFault) same = refl
write_fault_is (Err fault.NoMemory) same = cc
write_fault_is (Err fault.TooLarge) same = cc

pub memory_is : (r : Result (Unit {0}) RunFault) → status_of r ≡ status.NoMemory → r ≡ Err fault.NoMemory
memory_is (Ok x) same = cc
memory_is (Err (fault.Refused l w)) same = cc
memory_is (Err fault.ReadFault) same = cc
memory_is (Err fault.WriteFault) same = cc
memory_is (Err fault.NoMemory) same = refl
memory_is (Err fault.TooLarge) same = cc

pub large_is : (r : Result (Unit {0}) RunFault) → status_of r ≡ status.TooLarge → r ≡ Err fault.TooLarge
large_is (Ok x) same = cc
large_is (Err (fault.Refused l w)) same = cc
large_is (Err fault.ReadFault) same = cc
large_is (Err fault.WriteFault) same = cc
large_is (Err fault.NoMemory) same = cc
large_is (Err fault.TooLarge) same = refl

-- and the other way round
pub ok_ends : (r : Result (Unit {0}) RunFault) → IsOk r → status_of r ≡ status.Done
ok_ends (Ok x) done = refl
ok_ends (Err f) done = cc

pub ended_or : (r : Result (Unit {0}) RunFault) → IsOk r ⊎ (r ≡ Err fault.NoMemory) → (status_of r ≡ status.Done) ⊎ (status_of r ≡ status.NoMemory)
ended_or r (inl done) = inl (ok_ends r done)
ended_or r (inr same) = inr (ap status_of same)

pub refused_or : (r : Result (Unit {0}) RunFault) (line : ℕ) (why : Reason)
    → (r ≡ Err (fault.Refused line why)) ⊎ (r ≡ Err fault.NoMemory)
    → (status_of r ≡ status.Refused) ⊎ (status_of r ≡ status.NoMemory)
refused_or r line why (inl same) = inl (ap status_of same)
refused_or r line why (inr same) = inr (ap status_of same)

pub large_or : (r : Result (Unit {0}) RunFault) → (r ≡ Err fault.TooLarge) ⊎ (r ≡ Err fault.NoMemory)
    → (status_of r ≡ status.TooLarge) ⊎ (status_of r ≡ status.NoMemory)
large_or r (inl same) = inl (ap status_of same)
large_or r (inr same) = inr (ap status_of same)

-- and no command that began ended with Usage
pub not_usage : (r : Result (Unit {0}) RunFault) → status_of r ≡ status.Usage → ⊥
not_usage (Ok x) same = cc
not_usage (Err (fault.Refused l w)) same = cc
not_usage (Err fault.ReadFault) same = cc
not_usage (Err fault.WriteFault) same = cc
not_usage (Err fault.NoMemory) same = cc
not_usage (Err fault.TooLarge) same = cc

-- what a command did that reads a script
pub ran : (whole part : Type 0) (input left old new : Option (List ℕ)) (reads writes : Type 0)
    (r : Result (Unit {0}) RunFault)
    → OnOk r whole → OnOk r (IsAtEnd left)
    → ((line : ℕ) → (why : Reason) → r ≡ Err (fault.Refused line why) → WroteRefusalOf line why input old new)
    → ((line : ℕ) → (why : Reason) → r ≡ Err (fault.Refused line why) → IsAtEnd left)
    → (r ≡ Err fault.WriteFault → part)
    → ((script : Script) → IsSomeAnd input (λ bytes. IsInput bytes script) → reads → writes → IsOk r
    ⊎ (r ≡ Err fault.NoMemory))
    → ((line : ℕ) → (why : Reason) → IsSomeAnd input (λ bytes. IsBadInput bytes line why) → reads → writes
    → (r ≡ Err (fault.Refused line why)) ⊎ (r ≡ Err fault.NoMemory))
    → (IsSomeAnd input IsLargeInput → reads → (r ≡ Err fault.TooLarge) ⊎ (r ≡ Err fault.NoMemory))
    → Ran whole part input left old new reads writes (status_of r)
ran whole part input left old new reads writes r done at_end refused refused_at_end front accepted bad too_large = record {
  done = done_is r done;
  at_end = done_is r at_end;
  refused = refused_is r (λ line why same. record { line = line; why = why; refusal = refused line why same });
  refused_at_end = refused_is r refused_at_end;
  front = λ same. front (write_fault_is r same);
  accepted = λ script holds unfailed unbroken. ended_or r (accepted script holds unfailed unbroken);
  bad = λ line why holds unfailed unbroken. refused_or r line why (bad line why holds unfailed unbroken);
  too_large = λ holds unfailed. large_or r (too_large holds unfailed);
}

-- A command that reads nothing has two faults.
abbrev IsOfTwo : RunFault → Type 0
IsOfTwo f = (f ≡ fault.WriteFault) ⊎ (f ≡ fault.NoMemory)

pub never_read : (r : Result (Unit {0}) RunFault) → IfErr r (λ f. (f ≡ fault.WriteFault) ⊎ (f ≡ fault.NoMemory)) → r ≡ Err fault.ReadFault → ⊥
never_read r only same =
    let two : (fault.ReadFault ≡ fault.WriteFault) ⊎ (fault.ReadFault ≡ fault.NoMemory) =
    subst (λ (x : Result (Unit {0}) RunFault). IfErr x IsOfTwo) same only in
    elim two [ inl e ↦ cc | inr e ↦ cc ]

pub never_large : (r : Result (Unit {0}) RunFault) → IfErr r (λ f. (f ≡ fault.WriteFault) ⊎ (f ≡ fault.NoMemory)) → r ≡ Err fault.TooLarge → ⊥
never_large r only same =
    let two : (fault.TooLarge ≡ fault.WriteFault) ⊎ (fault.TooLarge ≡ fault.NoMemory) = subst (λ (x : Result (Unit {0}) RunFault). IfErr x IsOfTwo) same only in
    elim two [ inl e ↦ cc | inr e ↦ cc ]

-- it takes no byte
pub took_nothing : (limit : ℕ) (left : Option (List ℕ)) → TookAtMost limit left left
took_nothing limit left = record { bytes = []; few = omega arith; front = preceded-nil left }

-- what it did
faults_is : (r : Result (Unit {0}) RunFault) → IfErr r (λ f. (f ≡ fault.WriteFault) ⊎ (f ≡ fault.NoMemory))
    → (status_of r ≡ status.Done) ⊎ (status_of r ≡ status.WriteFault) ⊎ (status_of r ≡ status.NoMemory)
faults_is (Ok x) only = search rules
faults_is (Err f) only = search rules

pub wrote_text : (text : List ℕ) (old new : Option (List ℕ)) (writes : Type 0) (r : Result (Unit {0}) RunFault)
    → OnOk r (Wrote old new text) → (r ≡ Err fault.WriteFault → WrotePrefix old new text)
    → IfErr r (λ f. (f ≡ fault.WriteFault) ⊎ (f ≡ fault.NoMemory)) → (writes → IsOk r ⊎ (r ≡ Err fault.NoMemory))
    → WroteText text old new writes (status_of r)
wrote_text text old new writes r done front only complete = record {
  faults = faults_is r only;
  done = done_is r done;
  front = λ same. front (write_fault_is r same);
  complete = λ unbroken. ended_or r (complete unbroken);
}
