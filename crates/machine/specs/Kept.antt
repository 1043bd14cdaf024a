-- Whether an object dies as one of its references is given up, or is kept. Each move and each effect of a close asks this alone.
use Rattle.std.specs.Prelude.{nat_lt, not, ◌==◌, ◌&&◌, Bool}
use Rattle.sym_base.specs.declared.number.ObjNo.{ObjNo}
use Rattle.machine.specs.declared.state.State.{State}
use Rattle.machine.specs.Out.{outs_of}
use Rattle.machine.specs.References.{count_of}

-- an object on which somebody is out, in an action that keeps what it closes
abbrev pub is_kept : State → ObjNo → Bool
is_kept S o = S.mode.keep && nat_lt 0 (outs_of S o)

-- whether an object dies as one of its references is given up: it has no other, and isn't kept
abbrev pub dies : State → ObjNo → Bool
dies S o = count_of S o == 1 && not (is_kept S o)
