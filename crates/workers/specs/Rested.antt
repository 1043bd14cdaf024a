-- Where a worker is between two draws, and where it stops.
use Rattle.std.specs.Prelude.{◌≡◌, length}
use Rattle.script_types.specs.Source.{IsWellFormed}
use Rattle.machine.specs.SharedRun.{slots_taken}
use Rattle.machine_safe.specs.FindsAndReturns.{finds_in, returns_in}
use Rattle.turn_lock.specs.declared.pass.Pass.{Pass}
use Rattle.turn_lock.specs.LockId.{LockId}
use Rattle.turn_lock.specs.Log.{entries_of}
use Rattle.turn_lock.specs.Passes.{known_of, own_of, IsFree}
use Rattle.shared_kernel.specs.declared.base.KernelBase.{KernelBase}

-- its kernel's script is valid, its pass is in no turn, and each of its finds has its return
pub record IsRested (lock : LockId KernelBase) (p : Pass KernelBase) : Type 0 where
  pub valid : IsWellFormed lock.base.script
  pub free : IsFree lock p
  pub back : returns_in (own_of p) ≡ finds_in (own_of p)

-- and it knows that no slot is left
pub record IsThrough (lock : LockId KernelBase) (p : Pass KernelBase) : Type 0 where
  pub rested : IsRested lock p
  pub none : slots_taken (entries_of (known_of p)) ≡ length lock.base.script.slots
