-- A check that ended with this status came to this, or met this fault.
use Rattle.std.proofs.Common.{◌≡◌, ℕ, ◌⊎◌, inl, inr, refl, ap}
use Rattle.std.specs.Prelude.{Result, Ok, Err, IfOk, IsSomeAnd, Option, List}
use Rattle.eka2_app.specs.Outcomes.{CheckedHistory}
use Rattle.eka2_app.specs.StatusNumber.{status_of_check}
use Rattle.eka2_app.specs.declared.status.Status.TheVariants as status
use Rattle.history_check.specs.declared.check.Checked.{Checked}
use Rattle.history_check.specs.declared.check.Checked.TheVariants as checked
use Rattle.runner.specs.Checking.{IsBadCheckInput, IsCheckedAs, IsLargeCheckInput, WroteCheckRefusal, WroteVerdict, WroteVerdictFront}
use Rattle.runner.specs.Inputs.{IsAtEnd}
use Rattle.script_read.specs.declared.fault.RunFault.{RunFault}
use Rattle.script_read.specs.declared.fault.RunFault.TheVariants as fault
use Rattle.script_read.specs.declared.reason.Reason.{Reason}
use Rattle.script_types.specs.declared.script.Script.{Script}

pub legal_is : {P : Type 0} (r : Result Checked RunFault) → ((entries : ℕ) → r ≡ Ok (checked.Legal entries) → P) → status_of_check r ≡ status.Done → P
legal_is (Ok (checked.Legal n)) holds same = holds n refl
legal_is (Ok (checked.Illegal l)) holds same = cc
legal_is (Ok checked.NoMemory) holds same = cc
legal_is (Err (fault.Refused l w)) holds same = cc
legal_is (Err fault.ReadFault) holds same = cc
legal_is (Err fault.WriteFault) holds same = cc
legal_is (Err fault.NoMemory) holds same = cc
legal_is (Err fault.TooLarge) holds same = cc

pub illegal_is : {P : Type 0} (r : Result Checked RunFault) → ((line : ℕ) → r ≡ Ok (checked.Illegal line) → P) → status_of_check r ≡ status.Illegal → P
illegal_is (Ok (checked.Legal n)) holds same = cc
illegal_is (Ok (checked.Illegal l)) holds same = holds l refl
illegal_is (Ok checked.NoMemory) holds same = cc
illegal_is (Err (fault.Refused l w)) holds same = cc
illegal_is (Err fault.ReadFault) holds same = cc
illegal_is (Err fault.WriteFault) holds same = cc
illegal_is (Err fault.NoMemory) holds same = cc
illegal_is (Err fault.TooLarge) holds same = cc

pub refused_is : {P : Type 0} (r : Result Checked RunFault)
    → ((line : ℕ) → (why : Reason) → r ≡ Err (fault.Refused line why) → P) → status_of_check r ≡ status.Refused → P
refused_is (Ok (checked.Legal n)) holds same = cc
refused_is (Ok (checked.Illegal l)) holds same = cc
refused_is (Ok checked.NoMemory) holds same = cc
refused_is (Err (fault.Refused l w)) holds same = holds l w refl
refused_is (Err fault.ReadFault) holds same = cc
refused_is (Err fault.WriteFault) holds same = cc
refused_is (Err fault.NoMemory) holds same = cc
refused_is (Err fault.TooLarge) holds same = cc

pub read_fault_is : (r : Result Checked RunFault) → status_of_check r ≡ status.ReadFault → r ≡ Err fault.ReadFault
read_fault_is (Ok (checked.Legal n)) same = cc
read_fault_is (Ok (checked.Illegal l)) same = cc
read_fault_is (Ok checked.NoMemory) same = cc
read_fault_is (Err (fault.Refused l w)) same = cc
read_fault_is (Err fault.ReadFault) same = refl
read_fault_is (Err fault.WriteFault) same = cc
read_fault_is (Err fault.NoMemory) same = cc
read_fault_is (Err fault.TooLarge) same = cc

pub write_fault_is : (r : Result Checked RunFault) → status_of_check r ≡ status.WriteFault → r ≡ Err fault.WriteFault
write_fault_is (Ok (checked.Legal n)) same = cc
write_fault_is (Ok (checked.Illegal l)) same = cc
write_fault_is (Ok checked.NoMemory) same = cc
write_fault_is (Err (fault.Refused l w)) same = cc
write_fault_is (Err fault.ReadFault) same = cc
write_fault_is (Err fault.WriteFault) same = refl
write_fault_is (Err fault.NoMemory) same = cc
write_fault_is (Err fault.TooLarge) same = cc

-- want of memory is a fault
pub memory_is : (r : Result Checked RunFault) → (r ≡ Ok checked.NoMemory → ⊥) → status_of_check r ≡ status.NoMemory → r ≡ Err fault.NoMemory
memory_is (Ok (checked.Legal n)) told same = cc
memory_is (Ok (checked.Illegal l)) told same = cc
memory_is (Ok checked.NoMemory) told same = absurd (told refl)
memory_is (Err (fault.Refused l w)) told same = cc
memory_is (Err fault.ReadFault) told same = cc
memory_is (Err fault.WriteFault) told same = cc
memory_is (Err fault.NoMemory) told same = refl
memory_is (Err fault.TooLarge) told same = cc

pub large_is : (r : Result Checked RunFault) → status_of_check r ≡ status.TooLarge → r ≡ Err fault.TooLarge
large_is (Ok (checked.Legal n)) same = cc
large_is (Ok (checked.Illegal l)) same = cc
large_is (Ok checked.NoMemory) same = cc
large_is (Err (fault.Refused l w)) same = cc
large_is (Err fault.ReadFault) same = cc
large_is (Err fault.WriteFault) same = cc
large_is (Err fault.NoMemory) same = cc
large_is (Err fault.TooLarge) same = refl

pub not_usage : (r : Result Checked RunFault) → status_of_check r ≡ status.Usage → ⊥
not_usage (Ok (checked.Legal n)) same = cc
not_usage (Ok (checked.Illegal l)) same = cc
not_usage (Ok checked.NoMemory) same = cc
not_usage (Err (fault.Refused l w)) same = cc
not_usage (Err fault.ReadFault) same = cc
not_usage (Err fault.WriteFault) same = cc
not_usage (Err fault.NoMemory) same = cc
not_usage (Err fault.TooLarge) same = cc

-- what holds after a check that came to an end
at_end_of : {P : Type 0} (r : Result Checked RunFault) (c : Checked) → IfOk r (λ done. P) → r ≡ Ok c → P
at_end_of (Ok x) c holds same = holds
at_end_of (Err f) c holds same = cc

or_of : (r one other : Result Checked RunFault) → (r ≡ one) ⊎ (r ≡ other)
    → (status_of_check r ≡ status_of_check one) ⊎ (status_of_check r ≡ status_of_check other)
or_of r one other (inl same) = inl (ap status_of_check same)
or_of r one other (inr same) = inr (ap status_of_check same)

-- what a check did
pub checked_history : (input left old new : Option (List ℕ)) (reads writes : Type 0) (r : Result Checked RunFault)
    → ((entries : ℕ) → r ≡ Ok (checked.Legal entries) → WroteVerdict (checked.Legal entries) input old new)
    → ((line : ℕ) → r ≡ Ok (checked.Illegal line) → WroteVerdict (checked.Illegal line) input old new)
    → IfOk r (λ done. IsAtEnd left)
    → ((line : ℕ) → (why : Reason) → r ≡ Err (fault.Refused line why) → WroteCheckRefusal line why input old new)
    → ((line : ℕ) → (why : Reason) → r ≡ Err (fault.Refused line why) → IsAtEnd left)
    → (r ≡ Err fault.WriteFault → WroteVerdictFront input old new)
    → ((script : Script) → (entries : ℕ) → IsSomeAnd input (λ bytes. IsCheckedAs bytes script (checked.Legal entries))
    → reads → writes → (r ≡ Ok (checked.Legal entries)) ⊎ (r ≡ Err fault.NoMemory))
    → ((script : Script) → (line : ℕ) → IsSomeAnd input (λ bytes. IsCheckedAs bytes script (checked.Illegal line))
    → reads → writes → (r ≡ Ok (checked.Illegal line)) ⊎ (r ≡ Err fault.NoMemory))
    → ((line : ℕ) → (why : Reason) → IsSomeAnd input (λ bytes. IsBadCheckInput bytes line why) → reads → writes
    → (r ≡ Err (fault.Refused line why)) ⊎ (r ≡ Err fault.NoMemory))
    → (IsSomeAnd input IsLargeCheckInput → reads → (r ≡ Err fault.TooLarge) ⊎ (r ≡ Err fault.NoMemory))
    → CheckedHistory input left old new reads writes (status_of_check r)
checked_history input left old new reads writes r legal illegal at_end refused refused_at_end front decided_legal decided_illegal bad too_large = record {
  done = legal_is r (λ entries same. record { entries = entries; verdict = legal entries same });
  illegal = illegal_is r (λ line same. record { line = line; verdict = illegal line same });
  refused = refused_is r (λ line why same. record { line = line; why = why; refusal = refused line why same });
  at_end = legal_is r (λ entries same. at_end_of r (checked.Legal entries) at_end same);
  illegal_at_end = illegal_is r (λ line same. at_end_of r (checked.Illegal line) at_end same);
  refused_at_end = refused_is r refused_at_end;
  front = λ same. front (write_fault_is r same);
  legal =
      λ script entries holds unfailed unbroken. or_of r (Ok (checked.Legal entries)) (Err fault.NoMemory)
      (decided_legal script entries holds unfailed unbroken);
  not_legal =
      λ script line holds unfailed unbroken. or_of r (Ok (checked.Illegal line)) (Err fault.NoMemory)
      (decided_illegal script line holds unfailed unbroken);
  bad = λ line why holds unfailed unbroken. or_of r (Err (fault.Refused line why)) (Err fault.NoMemory) (bad line why holds unfailed unbroken);
  too_large = λ holds unfailed. or_of r (Err fault.TooLarge) (Err fault.NoMemory) (too_large holds unfailed);
}
