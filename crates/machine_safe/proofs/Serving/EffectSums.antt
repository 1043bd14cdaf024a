-- What effects tell of servers and messages, and what others tell behind them.
use Rattle.std.proofs.Common.{◌≡◌, ◌+◌, List, [], ◌∷◌, ◌++◌, arith, refl, sym, ap, ◌∙◌, Option, Some, None}
use Rattle.std.specs.Prelude.{◌==◌}
use Rattle.sym_base.specs.declared.number.MsgNo.{MsgNo}
use Rattle.sym_base.specs.declared.number.ObjNo.{ObjNo}
use Rattle.entry_log.specs.declared.effect.Effect.{Effect}
use Rattle.entry_log.specs.declared.effect.Effect.TheVariants.{Plus, Minus, Accept, Finish, Terminated}
use Rattle.entry_log.specs.declared.effect.Holder.TheVariants.{Own, Link, Temp}
use Rattle.machine_safe.specs.Sent.{accepts, finishes}
use Rattle.machine_safe.specs.Served.{ends, handles_lost, one_if, or_before, owner_told, server_told}
use Rattle.machine_safe.specs.Slotted.{used_told}

-- what is told last of three
pub or-three : (a b c : Option ObjNo) → or_before (or_before a b) c ≡ or_before a (or_before b c)
or-three None b c = refl
or-three (Some o) b c = refl

pub or-none : (a : Option ObjNo) → or_before a None ≡ a
or-none None = refl
or-none (Some o) = refl

pub server_told-append : (xs ys : List Effect) (s : ObjNo) → server_told (xs ++ ys) s ≡ or_before (server_told ys s) (server_told xs s)
server_told-append [] ys s = sym (or-none (server_told ys s))
server_told-append (Plus (Link x) v ∷ rest) ys s =
    ap (λ (o : Option ObjNo). or_before o (one_if (x.0 == s.0) v)) (server_told-append rest ys s)
    ∙ or-three (server_told ys s) (server_told rest s) (one_if (x.0 == s.0) v)
server_told-append (_ ∷ rest) ys s = server_told-append rest ys s

pub owner_told-append : (xs ys : List Effect) (v : ObjNo) → owner_told (xs ++ ys) v ≡ or_before (owner_told ys v) (owner_told xs v)
owner_told-append [] ys v = sym (or-none (owner_told ys v))
owner_told-append (Plus (Own t) o ∷ rest) ys v =
    ap (λ (x : Option ObjNo). or_before x (one_if (o.0 == v.0) t)) (owner_told-append rest ys v)
    ∙ or-three (owner_told ys v) (owner_told rest v) (one_if (o.0 == v.0) t)
owner_told-append (_ ∷ rest) ys v = owner_told-append rest ys v

pub ends-append : (xs ys : List Effect) (v : ObjNo) → ends (xs ++ ys) v ≡ ends xs v + ends ys v
ends-append [] ys v = omega arith
ends-append (Terminated o ∷ rest) ys v = let r = ends-append rest ys v in omega arith
ends-append (_ ∷ rest) ys v = ends-append rest ys v

pub handles_lost-append : (xs ys : List Effect) (v : ObjNo) → handles_lost (xs ++ ys) v ≡ handles_lost xs v + handles_lost ys v
handles_lost-append [] ys v = omega arith
handles_lost-append (Minus h o ∷ rest) ys v = let r = handles_lost-append rest ys v in omega arith
handles_lost-append (_ ∷ rest) ys v = handles_lost-append rest ys v

pub accepts-append : (xs ys : List Effect) → accepts (xs ++ ys) ≡ accepts xs + accepts ys
accepts-append [] ys = omega arith
accepts-append (Accept m ∷ rest) ys = let r = accepts-append rest ys in omega arith
accepts-append (_ ∷ rest) ys = accepts-append rest ys

pub finishes-append : (xs ys : List Effect) (m : MsgNo) → finishes (xs ++ ys) m ≡ finishes xs m + finishes ys m
finishes-append [] ys m = omega arith
finishes-append (Finish n code ∷ rest) ys m = let r = finishes-append rest ys m in omega arith
finishes-append (_ ∷ rest) ys m = finishes-append rest ys m

pub used_told-append : (xs ys : List Effect) (t : ObjNo) → used_told (xs ++ ys) t ≡ or_before (used_told ys t) (used_told xs t)
used_told-append [] ys t = sym (or-none (used_told ys t))
used_told-append (Plus (Temp u) o ∷ rest) ys t =
    ap (λ (x : Option ObjNo). or_before x (one_if (u.0 == t.0) o)) (used_told-append rest ys t)
    ∙ or-three (used_told ys t) (used_told rest t) (one_if (u.0 == t.0) o)
used_told-append (_ ∷ rest) ys t = used_told-append rest ys t
