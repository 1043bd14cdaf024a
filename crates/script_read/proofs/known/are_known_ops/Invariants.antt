use Rattle.std.proofs.Common.{◌≡◌, List, drop}
use Rattle.std.specs.List.{list_all}
use Rattle.script_read.specs.FileNames.{Knows}
use Rattle.script_read.proofs.known.are_known_ops.Given as goal
use Rattle.script_types.specs.Names.{Declared, is_known_op}

-- the operations that are left decide
abbrev pub invariant-loop-what : goal.invariant-loop-what
invariant-loop-what l =
    (file : List Declared) → Knows l.declarations file → list_all (is_known_op file) (drop l.what-index l.body)
    ≡ list_all (is_known_op file) l.body
