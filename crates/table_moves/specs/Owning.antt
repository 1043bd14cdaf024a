-- The servers that threads own, in the lists that their deaths read.
use Rattle.std.specs.Prelude.{◌<◌, List}
use Rattle.sym_base.specs.declared.number.ObjNo.{ObjNo}
use Rattle.entry_log.specs.declared.effect.Holder.{Holder}
use Rattle.entry_log.specs.declared.effect.Holder.TheVariants.{Own}
use Rattle.cleanup.specs.Lists.{Lists, HasSome, is_object}

-- the lists where threads own these servers
abbrev pub with_owned : Lists → List (List ObjNo) → Lists
with_owned s servers = record s { servers = servers }

-- an object that an owner may get: it is one of those of the lists, and nobody owns it
abbrev pub MayOwn : Lists → Holder → ObjNo → Type 0
MayOwn s (Own t) o = (o.0 < s.objects) × (HasSome (is_object o) s.servers → ⊥)
MayOwn s _ o = Unit {0}

-- an object that an owner may give up: it is one of those of the lists
abbrev pub MayDisown : Lists → Holder → ObjNo → Type 0
MayDisown s (Own t) o = o.0 < s.objects
MayDisown s _ o = Unit {0}
