-- One queue of threads, the first that came first.
use Rattle.std.specs.Prelude.{Bool, not, ◌==◌, List, [], ◌∷◌, ◌++◌, filter}
use Rattle.std.specs.List.{list_any}
use Rattle.sym_base.specs.declared.number.ObjNo.{ObjNo}

-- whether a thread stands in a queue
abbrev pub holds : ObjNo → List ObjNo → Bool
holds t queue = list_any (λ other. other.0 == t.0) queue

-- a queue without a thread
abbrev pub without : ObjNo → List ObjNo → List ObjNo
without t queue = filter (λ other. not (other.0 == t.0)) queue

-- a queue whose first stands behind the others
abbrev pub turned : List ObjNo → List ObjNo
turned [] = []
turned (first ∷ rest) = rest ++ first ∷ []
