-- Kinds are told apart by a number each.
use Rattle.std.specs.Prelude.{ℕ}
use Rattle.sym_base.specs.declared.kind.Kind.{Kind}
use Rattle.sym_base.specs.declared.kind.Kind.TheVariants.{Process, Thread, Mutex, Semaphore, Server, Session}

-- the place of a kind in the list of kinds
abbrev pub kind_number : Kind → ℕ
kind_number Process = 0
kind_number Thread = 1
kind_number Mutex = 2
kind_number Semaphore = 3
kind_number Server = 4
kind_number Session = 5
