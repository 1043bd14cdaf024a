-- Safe servers: as a thread is cleaned each server that it made has ended, and each message to it is finished; and so it is where its number becomes
-- that of another server. This is read off the history alone.
use Rattle.std.specs.Prelude.{◌≡◌, ◌<◌, true, is_some, List, [], ◌∷◌, Some}
use Rattle.sym_base.specs.declared.number.ObjNo.{ObjNo}
use Rattle.entry_log.specs.declared.entry.Entry.{Entry}
use Rattle.machine_safe.specs.SafeDeaths.{StandsAt, cleanings}
use Rattle.machine_safe.specs.SafeMessages.{NothingLeft}
use Rattle.machine_safe.specs.Served.{ends_in, owner_in}

pub record IsSafeServers (history : List Entry) : Type 0 where
  pub ended : (before : List Entry) (e : Entry) (later : List Entry) (t v : ObjNo) → StandsAt history before e later
      → 0 < cleanings (e ∷ []) t → owner_in before v ≡ Some t → 0 < ends_in before v
  pub remade : (before : List Entry) (e : Entry) (later : List Entry) (u v : ObjNo) → StandsAt history before e later
      → is_some (owner_in (e ∷ []) v) ≡ true → owner_in before v ≡ Some u → (0 < ends_in before v) × NothingLeft before v
  pub finished : (before : List Entry) (e : Entry) (later : List Entry) (t v : ObjNo) → StandsAt history before e later
      → 0 < cleanings (e ∷ []) t → owner_in before v ≡ Some t → NothingLeft before v
