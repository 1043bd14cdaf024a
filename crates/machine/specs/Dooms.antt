-- Dooms: how a thread comes to die. While something protects it, its exit is noted, and the step that ends the protection
-- dooms it.
use Rattle.std.specs.Prelude.{ℤ, pos, Bool, if◌then◌else◌, List, [], ◌∷◌, Option, Some, None}
use Rattle.sym_base.specs.declared.number.ObjNo.{ObjNo}
use Rattle.sym_base.specs.declared.kind.Exit.{Exit}
use Rattle.sym_base.specs.declared.kind.ExitKind.{ExitKind}
use Rattle.sym_base.specs.declared.kind.ExitKind.TheVariants.{Kill}
use Rattle.entry_log.specs.declared.step.Step.TheVariants.{End}
use Rattle.state_rows.specs.Nano.{is_protected}
use Rattle.state_rows.specs.declared.thread.ThreadRow.{ThreadRow}
use Rattle.machine.specs.declared.death_move.DeathMove.TheVariants.{Note, Doom}
use Rattle.machine.specs.declared.decision.Decision.{Decision}
use Rattle.machine.specs.declared.lock_move.LockMove.TheVariants.{Leave}
use Rattle.machine.specs.declared.logon_move.LogonMove.TheVariants.{Drop}
use Rattle.machine.specs.declared.moves.Move.{Move}
use Rattle.machine.specs.declared.moves.Move.TheVariants.{Nano, Requests, Locks, Logons, Death, Servers}
use Rattle.machine.specs.declared.server_move.ServerMove.TheVariants.{CloseAll}
use Rattle.machine.specs.declared.nano_move.NanoMove.TheVariants.{Release}
use Rattle.machine.specs.declared.request_move.RequestMove.TheVariants.{DropAll}
use Rattle.machine.specs.declared.state.State.{State}
use Rattle.machine.specs.Rows.{thread_of}

-- an exit without a category, and a kill
abbrev pub plain_exit : ExitKind → ℤ → Exit
plain_exit kind reason = record { kind = kind; category = []; reason = reason }

abbrev pub killed : ℤ → Exit
killed reason = plain_exit Kill reason

-- The doom of a thread: it stands among no waiters, is suspended no more and wants no fast mutex, has no request at a
-- device, and made no logon; its servers are closing; and from then on it has the exit.
abbrev pub doom : ObjNo → Exit → List Move
doom u exit =
    Locks (Leave u)
    ∷ Nano (Release u)
    ∷ Requests (DropAll u)
    ∷ Logons (Drop u)
    ∷ Servers (CloseAll u)
    ∷ Death (Doom u exit)
    ∷ []

-- the exit that is noted of a thread
abbrev pub noted_of_row : Option ThreadRow → Option Exit
noted_of_row None = None
noted_of_row (Some row) = row.noted

abbrev pub noted_of : State → ObjNo → Option Exit
noted_of S u = noted_of_row (thread_of S u)

-- a protected thread's exit is noted; else it is doomed
abbrev pub doom_or_note : State → ObjNo → Exit → List Move
doom_or_note S u exit = if is_protected S.synchronization.nano u then Death (Note u exit) ∷ [] else doom u exit

-- the doom of a thread that nothing protects any more, where an exit is noted
abbrev pub doom_noted : ObjNo → Option Exit → List Move
doom_noted u None = []
doom_noted u (Some exit) = doom u exit

-- the doom where this ends the protection
abbrev pub doom_where : Bool → ObjNo → Option Exit → List Move
doom_where unprotected u exit = if unprotected then doom_noted u exit else []

-- at its list's end a thread that nothing protects ends
abbrev pub end : ObjNo → Decision
end t = record { step = End; moves = doom t (killed (pos 0)); answer = None }
