-- Moves in the rows of logons: what each changes. They tell nothing.
use Rattle.std.specs.Prelude.{ℕ, not, ◌==◌, ◌&&◌, Bool, filter, map, List, [], ◌∷◌, ◌++◌, slice_set}
use Rattle.std.specs.List.{slice_index_or}
use Rattle.sym_base.specs.declared.number.ObjNo.{ObjNo}
use Rattle.machine.specs.declared.logon_move.LogonMove.{LogonMove}
use Rattle.machine.specs.declared.logon_move.LogonMove.TheVariants.{Add, Remove, Drop}

-- the logons on a thread, in order of making: each is the thread that made it, and its status
abbrev pub logons_on : List (List (ObjNo × ℕ)) → ObjNo → List (ObjNo × ℕ)
logons_on logons t = slice_index_or logons t.0 []

-- whether a logon is this one, and whether this thread made it
abbrev pub is_logon : ObjNo → ℕ → ObjNo × ℕ → Bool
is_logon u s logon = logon.0.0 == u.0 && logon.1 == s

abbrev pub is_made_by : ObjNo → ObjNo × ℕ → Bool
is_made_by u logon = logon.0.0 == u.0

-- some logons without one, and without those of a thread
abbrev pub without_logon : ObjNo → ℕ → List (ObjNo × ℕ) → List (ObjNo × ℕ)
without_logon u s logons = filter (λ (logon : ObjNo × ℕ). not (is_logon u s logon)) logons

abbrev pub without_maker : ObjNo → List (ObjNo × ℕ) → List (ObjNo × ℕ)
without_maker u logons = filter (λ (logon : ObjNo × ℕ). not (is_made_by u logon)) logons

-- the logons after a move
abbrev pub logons_moved : LogonMove → List (List (ObjNo × ℕ)) → List (List (ObjNo × ℕ))
logons_moved (Add t u s) logons = slice_set logons t.0 (logons_on logons t ++ (u, s) ∷ [])
logons_moved (Remove t u s) logons = slice_set logons t.0 (without_logon u s (logons_on logons t))
logons_moved (Drop u) logons = map (without_maker u) logons
