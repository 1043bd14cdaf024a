-- Linked sessions and lists of their numbers.
use Rattle.std.proofs.Common.{◌≡◌, ℕ, eqb, List, [], ◌∷◌, ◌++◌, set, get_or, replicate, refl}
use Rattle.std.specs.Prelude.{Option, option_map, slice_get}
use Rattle.sym_base.specs.declared.number.ObjNo.{ObjNo}
use Rattle.links.specs.Linked as nodes
use Rattle.links.proofs.Seen.{seen_at, seen_fresh, seen_first, seen_pushed, seen_holds, seen_removed}
use Rattle.state_rows.specs.ServerRows.{holds}
use Rattle.state_rows.specs.ServerChanges.{without}
use Rattle.server_table.specs.Kept.{object, sessions_of}

-- whether a server has a session
pub holds_at_server : (lists : List (List ℕ)) (o : ℕ) (s : ObjNo) → holds s (get_or (sessions_of lists) o []) ≡ nodes.holds s.0 (get_or lists o [])
holds_at_server lists o s =
    rw (seen_at object lists o) (seen_holds object (λ (other : ObjNo). eqb other.0 s.0) s.0 (λ m. refl) (get_or lists o []))

-- one session more, and one less
pub session_added : (lists : List (List ℕ)) (o : ℕ) (s : ObjNo)
    → sessions_of (set lists o (get_or lists o [] ++ s.0 ∷ []))
    ≡ set (sessions_of lists) o (get_or (sessions_of lists) o [] ++ s ∷ [])
session_added lists o s = seen_pushed object s.0 s refl lists o

pub session_left : (lists : List (List ℕ)) (o : ℕ) (s : ObjNo)
    → sessions_of (set lists o (nodes.without s.0 (get_or lists o [])))
    ≡ set (sessions_of lists) o (without s (get_or (sessions_of lists) o []))
session_left lists o s = seen_removed object (λ (other : ObjNo). eqb other.0 s.0) s.0 (λ m. refl) lists o

-- the first session of a server is the first of its list
pub first_session : (lists : List (List ℕ)) (o : ℕ) (r : Option ℕ) → r ≡ slice_get (get_or lists o []) 0
    → option_map object r ≡ slice_get (get_or (sessions_of lists) o []) 0
first_session lists o r is = seen_first object lists o r is

-- no server has a session at first
pub none_linked : (n : ℕ) → sessions_of (replicate n []) ≡ replicate n []
none_linked n = seen_fresh object n
