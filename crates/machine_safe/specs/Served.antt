-- What the entries of a history tell of servers: who owns one, which server a session is at, and whether a server is
-- closing or has ended.
use Rattle.std.specs.Prelude.{ℕ, ◌+◌, ◌==◌, ◌||◌, Bool, true, false, is_some, nat_lt, if◌then◌else◌, List, [], ◌∷◌, Option, Some, None}
use Rattle.sym_base.specs.declared.number.ObjNo.{ObjNo}
use Rattle.sym_base.specs.declared.word.Word.TheVariants as word
use Rattle.entry_log.specs.declared.effect.Effect.{Effect}
use Rattle.entry_log.specs.declared.effect.Effect.TheVariants.{Plus, Minus, Terminated}
use Rattle.entry_log.specs.declared.effect.Holder.TheVariants.{Own, Link}
use Rattle.entry_log.specs.declared.entry.Entry.{Entry}
use Rattle.entry_log.specs.declared.step.Part.TheVariants as part
use Rattle.entry_log.specs.declared.step.Step.{Step}
use Rattle.entry_log.specs.declared.step.Step.TheVariants as step
use Rattle.machine.specs.References.{same}
use Rattle.machine.specs.EntryWords.{is_handle, makes_server}
use Rattle.machine_safe.specs.CountAfter.{effects_of}
use Rattle.machine_safe.specs.SafeDeaths.{dooms}

-- what is told last, where something is
abbrev pub or_before : Option ObjNo → Option ObjNo → Option ObjNo
or_before None earlier = earlier
or_before (Some o) earlier = Some o

abbrev pub one_if : Bool → ObjNo → Option ObjNo
one_if is o = if is then Some o else None

-- what effects tell that a session's link refers to
abbrev pub server_told : List Effect → ObjNo → Option ObjNo
server_told [] s = None
server_told (Plus (Link x) v ∷ rest) s = or_before (server_told rest s) (one_if (x.0 == s.0) v)
server_told (_ ∷ rest) s = server_told rest s

-- the server of a session: what the link refers to that it got in the entry that made it, which is the second step of a `connect`
abbrev pub makes_session : Step → Bool
makes_session (step.Of word.Connect part.Make) = true
makes_session _ = false

abbrev pub link_by : Entry → ObjNo → Option ObjNo
link_by e s = if makes_session e.step then server_told e.effects s else None

abbrev pub server_in : List Entry → ObjNo → Option ObjNo
server_in [] s = None
server_in (e ∷ es) s = or_before (server_in es s) (link_by e s)

-- the owner of a server: the thread that got it as its own in the entry that made it
abbrev pub owner_told : List Effect → ObjNo → Option ObjNo
owner_told [] v = None
owner_told (Plus (Own t) o ∷ rest) v = or_before (owner_told rest v) (one_if (o.0 == v.0) t)
owner_told (_ ∷ rest) v = owner_told rest v

abbrev pub owner_in : List Entry → ObjNo → Option ObjNo
owner_in [] v = None
owner_in (e ∷ es) v = or_before (owner_in es v) (if makes_server e.step then owner_told e.effects v else None)

-- The entries from the last on that made a server, or all where none did: what stands before that is told of another server of its number, and of
-- another thread of its owner's.
abbrev pub since : List Entry → ObjNo → List Entry
since [] v = []
since (e ∷ es) v = if is_some (owner_in es v) then since es v else e ∷ es

-- The entries behind the last that made a session of a number, or all where none did. A server that was made with the number of its server since is
-- another one: the session's server has ended.
abbrev pub since_joined : List Entry → ObjNo → List Entry
since_joined [] s = []
since_joined (e ∷ es) s = if is_some (server_in (e ∷ es) s) then since_joined es s else e ∷ es

abbrev pub is_remade : List Entry → ObjNo → ObjNo → Bool
is_remade es s v = is_some (owner_in (since_joined es s) v)

-- how often handles of an object go
abbrev pub handles_lost : List Effect → ObjNo → ℕ
handles_lost [] v = 0
handles_lost (Minus h o ∷ rest) v = (if is_handle h then same o v else 0) + handles_lost rest v
handles_lost (_ ∷ rest) v = handles_lost rest v

-- a server is closing once, since it was made, its handle goes or its owner is doomed
abbrev pub is_doomed : List Effect → Option ObjNo → Bool
is_doomed effects None = false
is_doomed effects (Some t) = nat_lt 0 (dooms effects t)

abbrev pub is_closing_in : List Entry → ObjNo → Bool
is_closing_in es v = nat_lt 0 (handles_lost (effects_of (since es v)) v) || is_doomed (effects_of (since es v)) (owner_in es v)

-- how often a server ended, and how often since it was made
abbrev pub ends : List Effect → ObjNo → ℕ
ends [] v = 0
ends (Terminated o ∷ rest) v = same o v + ends rest v
ends (_ ∷ rest) v = ends rest v

abbrev pub ends_in : List Entry → ObjNo → ℕ
ends_in es v = ends (effects_of (since es v)) v
