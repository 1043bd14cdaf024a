-- What effects tell of deaths, and what others tell behind them.
use Rattle.std.proofs.Common.{◌≡◌, ◌+◌, List, [], ◌∷◌, ◌++◌, arith}
use Rattle.sym_base.specs.declared.number.ObjNo.{ObjNo}
use Rattle.entry_log.specs.declared.effect.Effect.{Effect}
use Rattle.entry_log.specs.declared.effect.Effect.TheVariants.{Doom, Bury, Take, Give, Signal, Plus}
use Rattle.entry_log.specs.declared.effect.Holder.{Holder}
use Rattle.entry_log.specs.declared.effect.LockNo.{LockNo}
use Rattle.machine_safe.specs.CountAfter.{pluses_by}
use Rattle.machine_safe.specs.SafeDeaths.{dooms, burials, takes, gives, signals}

pub dooms-append : (xs ys : List Effect) (t : ObjNo) → dooms (xs ++ ys) t ≡ dooms xs t + dooms ys t
dooms-append [] ys t = omega arith
dooms-append (Doom u ∷ rest) ys t = let r = dooms-append rest ys t in omega arith
dooms-append (_ ∷ rest) ys t = dooms-append rest ys t

pub burials-append : (xs ys : List Effect) (t : ObjNo) → burials (xs ++ ys) t ≡ burials xs t + burials ys t
burials-append [] ys t = omega arith
burials-append (Bury u ∷ rest) ys t = let r = burials-append rest ys t in omega arith
burials-append (_ ∷ rest) ys t = burials-append rest ys t

pub takes-append : (xs ys : List Effect) (t : ObjNo) (lock : LockNo) → takes (xs ++ ys) t lock ≡ takes xs t lock + takes ys t lock
takes-append [] ys t lock = omega arith
takes-append (Take u l ∷ rest) ys t lock = let r = takes-append rest ys t lock in omega arith
takes-append (_ ∷ rest) ys t lock = takes-append rest ys t lock

pub gives-append : (xs ys : List Effect) (t : ObjNo) (lock : LockNo) → gives (xs ++ ys) t lock ≡ gives xs t lock + gives ys t lock
gives-append [] ys t lock = omega arith
gives-append (Give u l ∷ rest) ys t lock = let r = gives-append rest ys t lock in omega arith
gives-append (_ ∷ rest) ys t lock = gives-append rest ys t lock

pub signals-append : (xs ys : List Effect) (t : ObjNo) → signals (xs ++ ys) t ≡ signals xs t + signals ys t
signals-append [] ys t = omega arith
signals-append (Signal u s code ∷ rest) ys t = let r = signals-append rest ys t in omega arith
signals-append (_ ∷ rest) ys t = signals-append rest ys t

pub pluses_by-append : (xs ys : List Effect) (g : Holder) (x : ObjNo) → pluses_by (xs ++ ys) g x ≡ pluses_by xs g x + pluses_by ys g x
pluses_by-append [] ys g x = omega arith
pluses_by-append (Plus h o ∷ rest) ys g x = let r = pluses_by-append rest ys g x in omega arith
pluses_by-append (_ ∷ rest) ys g x = pluses_by-append rest ys g x
