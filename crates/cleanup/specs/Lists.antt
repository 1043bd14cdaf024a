-- What each thread owes, and what its death gives up beside its handles, as lists by the number of the thread.
use Rattle.std.specs.Prelude.{◌≡◌, ◌↔◌, ℕ, ◌+◌, ◌<◌, ◌≤◌, Bool, ◌&&◌, not, ◌==◌, if◌then◌else◌, List, [], ◌∷◌, ◌++◌, drop, filter, length, map, replicate, IsTrue, IsNone, Option, Some, None, slice_get, slice_index_or, slice_set}
use Rattle.std.specs.List.{list_any}
use Rattle.sym_base.specs.declared.number.ObjNo.{ObjNo}
use Rattle.state_rows.specs.declared.duty.Owed.{Owed}
use Rattle.state_rows.specs.declared.duty.Held.{Held}
use Rattle.state_rows.specs.declared.duty.Held.TheVariants.{Mutex, Server, Temp, Logon}

-- the threads and objects are the numbers below the first two; a logon is the thread that made it and its status
pub record Lists : Type 0 where
  pub threads : ℕ
  pub objects : ℕ
  pub duties : List (List Owed)
  pub mutexes : List (List ObjNo)
  pub servers : List (List ObjNo)
  pub temporary : List (Option ObjNo)
  pub logons : List (List (ObjNo × ℕ))

-- no thread owes or has anything
abbrev pub empty_lists : ℕ → ℕ → Lists
empty_lists threads objects =
    record {
      threads = threads;
      objects = objects;
      duties = replicate threads [];
      mutexes = replicate threads [];
      servers = replicate threads [];
      temporary = replicate threads None;
      logons = replicate threads [];
    }

-- a thread's list
abbrev pub list_of : {A : Type 0} → List (List A) → ObjNo → List A
list_of lists t = slice_index_or lists t.0 []

-- a thread's list with one item more behind the others, and the other threads' as they were
abbrev pub with_last : {A : Type 0} → List (List A) → ObjNo → A → List (List A)
with_last lists t x = slice_set lists t.0 (list_of lists t ++ x ∷ [])

-- a thread's list without the items that pass a test, and the other threads' as they were
abbrev pub without : {A : Type 0} → (A → Bool) → List (List A) → ObjNo → List (List A)
without same lists t = slice_set lists t.0 (filter (λ x. not (same x)) (list_of lists t))

-- the same object, and the same logon
abbrev pub is_object : ObjNo → ObjNo → Bool
is_object o other = other.0 == o.0

abbrev pub is_logon : ObjNo → ℕ → ObjNo × ℕ → Bool
is_logon u s other = other.0.0 == u.0 && other.1 == s

-- the object that a thread's present call uses, if there is one
abbrev pub temporary_of : Lists → ObjNo → Option ObjNo
temporary_of s t = slice_index_or s.temporary t.0 None

-- nothing where it is the object, else what it was
abbrev pub unless_object : ObjNo → Option ObjNo → Option ObjNo
unless_object o None = None
unless_object o (Some other) = if is_object o other then None else Some other

-- what is listed of a thread gets one thing more, behind the others of its kind
abbrev pub pushed : Lists → ObjNo → Held → Lists
pushed s t (Mutex o) = record s { mutexes = with_last s.mutexes t o }
pushed s t (Server o) = record s { servers = with_last s.servers t o }
pushed s t (Temp o) = record s { temporary = slice_set s.temporary t.0 (Some o) }
pushed s t (Logon u status) = record s { logons = with_last s.logons t (u, status) }

-- and loses a thing, where it has it
abbrev pub removed : Lists → ObjNo → Held → Lists
removed s t (Mutex o) = record s { mutexes = without (is_object o) s.mutexes t }
removed s t (Server o) = record s { servers = without (is_object o) s.servers t }
removed s t (Temp o) = record s { temporary = slice_set s.temporary t.0 (unless_object o (temporary_of s t)) }
removed s t (Logon u status) = record s { logons = without (is_logon u status) s.logons t }

-- some thread has it
abbrev pub HasSome : {A : Type 0} → (A → Bool) → List (List A) → Type 0
HasSome same lists = IsTrue (list_any (list_any same) lists)

-- the numbers are known
abbrev pub IsKnown : Lists → Held → Type 0
IsKnown s (Mutex o) = o.0 < s.objects
IsKnown s (Server o) = o.0 < s.objects
IsKnown s (Temp o) = Unit {0}
IsKnown s (Logon u status) = (u.0 < s.threads) × (status < 16)

-- a place for it is left: a mutex has one holder, a server one owner, a call one use, and a status one logon
abbrev pub HasPlace : Lists → ObjNo → Held → Type 0
HasPlace s t (Mutex o) = HasSome (is_object o) s.mutexes → ⊥
HasPlace s t (Server o) = HasSome (is_object o) s.servers → ⊥
HasPlace s t (Temp o) = temporary_of s t ≡ None
HasPlace s t (Logon u status) = HasSome (is_logon u status) s.logons → ⊥

-- a list of one thing or none
abbrev pub listed : Option ObjNo → List Held
listed None = []
listed (Some o) = Temp o ∷ []

-- what a thread has, in the order in which its death gives it up
abbrev pub held_of : Lists → ObjNo → List Held
held_of s t =
    map (λ o. Mutex o) (list_of s.mutexes t) ++ map (λ o. Server o) (list_of s.servers t) ++ listed
    (temporary_of s t) ++ map (λ (logon : ObjNo × ℕ). Logon logon.0 logon.1) (list_of s.logons t)

-- a thread owes one thing more, behind the others
abbrev pub owed : Lists → ObjNo → Owed → Lists
owed s t what = record s { duties = with_last s.duties t what }

-- a thread has done the oldest of what it owes
abbrev pub first_done : Lists → ObjNo → Lists
first_done s t = record s { duties = slice_set s.duties t.0 (drop 1 (list_of s.duties t)) }

-- what stands behind an object
abbrev pub behind : ObjNo → List ObjNo → Option ObjNo
behind o [] = None
behind o (x ∷ rest) = if is_object o x then slice_get rest 0 else behind o rest

-- the first of a list, or the one behind an object
abbrev pub next_after : Option ObjNo → List ObjNo → Option ObjNo
next_after None list = slice_get list 0
next_after (Some o) list = behind o list

-- there is none exactly where the list is empty, or the object is its last
abbrev pub IsNoneAtEnd : Option ObjNo → List ObjNo → Option ObjNo → Type 0
IsNoneAtEnd None list next = IsNone next ↔ (list ≡ [])
IsNoneAtEnd (Some o) list next =
    (place : ℕ) → slice_get list place ≡ Some o → IsNone next ↔ (place + 1 ≡ length list)

-- a list that is walked along has no more items than there are objects; and what comes after an object of it stands at the place behind
-- it, wherever it stands
abbrev pub IsWalk : ℕ → Option ObjNo → List ObjNo → Option ObjNo → Type 0
IsWalk objects None list next = length list ≤ objects
IsWalk objects (Some o) list next = (place : ℕ) → slice_get list place ≡ Some o → next ≡ slice_get list (place + 1)
