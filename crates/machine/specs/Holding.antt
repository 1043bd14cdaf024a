-- Who holds what, read off effects. `held g x` is the number of references that holder g has to object x.
use Rattle.std.specs.Prelude.{◌≡◌, ℕ, ◌+◌, ◌-◌, ◌<◌, ◌==◌, ◌&&◌, Bool, true, false, if◌then◌else◌, List, [], ◌∷◌, Option, Some, None}
use Rattle.sym_base.specs.declared.number.ObjNo.{ObjNo}
use Rattle.script_types.specs.declared.script.Script.{Script}
use Rattle.entry_log.specs.declared.effect.Holder.{Holder}
use Rattle.entry_log.specs.declared.effect.Holder.TheVariants.{InProcess, InThread, Temp, Own, Link, Message, Kernel}
use Rattle.entry_log.specs.declared.effect.Effect.{Effect}
use Rattle.entry_log.specs.declared.effect.Effect.TheVariants.{Plus, Minus}
use Rattle.state_rows.specs.declared.thread.ThreadRow.{ThreadRow}
use Rattle.machine.specs.Rows.{thread_of}
use Rattle.machine.specs.References.{same, option_names, kernel_names}
use Rattle.machine.specs.Boot.{boot}

-- whether two holders are one
abbrev pub is_holder : Holder → Holder → Bool
is_holder (InProcess p i) (InProcess q j) = p.0 == q.0 && i == j
is_holder (InThread t i) (InThread u j) = t.0 == u.0 && i == j
is_holder (Temp t) (Temp u) = t.0 == u.0
is_holder (Own t) (Own u) = t.0 == u.0
is_holder (Link x) (Link y) = x.0 == y.0
is_holder (Message m) (Message n) = m.0 == n.0
is_holder Kernel Kernel = true
is_holder _ _ = false

-- 1 where the two are one pair of a holder and an object, else 0
abbrev pub same_pair : Holder → ObjNo → Holder → ObjNo → ℕ
same_pair h o g x = if is_holder h g then same o x else 0

-- who holds what after an effect: a Plus gives its holder a reference, and a Minus takes one from it
abbrev pub held_after : (Holder → ObjNo → ℕ) → Effect → Holder → ObjNo → ℕ
held_after held (Plus h o) g x = held g x + same_pair h o g x
held_after held (Minus h o) g x = held g x - same_pair h o g x
held_after held _ g x = held g x

-- who holds what after several effects
abbrev pub held_after_all : (Holder → ObjNo → ℕ) → List Effect → Holder → ObjNo → ℕ
held_after_all held [] g x = held g x
held_after_all held (e ∷ es) g x = held_after_all (held_after held e) es g x

-- a Plus names a holder that doesn't hold the object, and a Minus one that does
abbrev pub FitsHolders : (Holder → ObjNo → ℕ) → Effect → Type 0
FitsHolders held (Plus h o) = held h o ≡ 0
FitsHolders held (Minus h o) = 0 < held h o
FitsHolders held _ = Unit {0}

-- each effect fits those who hold something when its turn comes
abbrev pub EachFitsHolders : (Holder → ObjNo → ℕ) → List Effect → Type 0
EachFitsHolders held [] = Unit {0}
EachFitsHolders held (e ∷ es) = FitsHolders held e × EachFitsHolders (held_after held e) es

-- a thread's link to its process
abbrev pub link_names : ObjNo → Option ThreadRow → ℕ
link_names o None = 0
link_names o (Some row) = option_names o row.link

-- at boot each thread is linked to its process, and the kernel holds each thread
abbrev pub held_at_boot : Script → Holder → ObjNo → ℕ
held_at_boot script (Link t) o = link_names o (thread_of (boot script) t)
held_at_boot script Kernel o = kernel_names (boot script) o
held_at_boot script _ o = 0
