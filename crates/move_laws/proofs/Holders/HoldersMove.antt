-- What moves do to who holds what.
use Rattle.std.proofs.Common.{◌≡◌, ◌+◌, ◌-◌, ◌<◌, List, [], ◌∷◌, ◌++◌, arith, refl, sym, ◌∙◌, Bool, true, false}
use Rattle.std.proofs.lemmas.Bool.{eq-eqb}
use Rattle.sym_base.specs.declared.number.ObjNo.{ObjNo}
use Rattle.entry_log.specs.declared.effect.Holder.{Holder}
use Rattle.entry_log.specs.declared.effect.Holder.TheVariants.{InProcess, InThread, Temp, Own, Link, Message, Kernel}
use Rattle.entry_log.specs.declared.effect.Effect.{Effect}
use Rattle.entry_log.specs.declared.effect.Effect.TheVariants.{Plus}
use Rattle.machine.specs.declared.state.State.{State}
use Rattle.machine.specs.Moves.{closed_effects}
use Rattle.machine.specs.References.{same}
use Rattle.machine.specs.Holding.{is_holder, same_pair, held_after_all, EachFitsHolders}
use Rattle.machine.specs.HeldIn.{held_in}
use Rattle.move_laws.proofs.References.Effects.{fits-append, fits-same, after_all-append, after_all-same}
use Rattle.move_laws.proofs.References.Same.{same_self, if_is}

-- What moves do to who holds what: each effect fits, and together they tell it.
pub record HoldersMove (S T : State) (effects : List Effect) : Type 0 where
  pub fits : EachFitsHolders (held_in S) effects
  pub moves : (g : Holder) (x : ObjNo) → held_after_all (held_in S) effects g x ≡ held_in T g x

pub holders-then : (S T U : State) (es fs : List Effect) → HoldersMove S T es → HoldersMove T U fs → HoldersMove S U (es ++ fs)
holders-then S T U es fs h k = record {
  fits = fits-append (held_in S) es fs h.fits (fits-same (held_in T) (held_after_all (held_in S) es) fs (λ g x. sym (h.moves g x)) k.fits);
  moves = λ g x. after_all-append (held_in S) es fs g x ∙ after_all-same (held_after_all (held_in S) es) (held_in T) fs h.moves g x ∙ k.moves g x;
}

is_holder_self : (h : Holder) → is_holder h h ≡ true
is_holder_self (InProcess p i) = rw (eq-eqb p.0 p.0 refl, eq-eqb i i refl) refl
is_holder_self (InThread t i) = rw (eq-eqb t.0 t.0 refl, eq-eqb i i refl) refl
is_holder_self (Temp t) = eq-eqb t.0 t.0 refl
is_holder_self (Own t) = eq-eqb t.0 t.0 refl
is_holder_self (Link x) = eq-eqb x.0 x.0 refl
is_holder_self (Message m) = eq-eqb m.0 m.0 refl
is_holder_self Kernel = refl

pub pair_self : (h : Holder) (o : ObjNo) → same_pair h o h o ≡ 1
pair_self h o = let a = if_is (is_holder h h) (same o o) (is_holder_self h) in let b = same_self o in omega arith

-- who holds what stays
pub holders-none : (S T : State) → ((g : Holder) (x : ObjNo) → held_in T g x ≡ held_in S g x) → HoldersMove S T []
holders-none S T stays = record { fits = tt; moves = λ g x. sym (stays g x) }

-- a holder gets a reference
pub holders-plus : (S T : State) (h : Holder) (o : ObjNo) → held_in S h o ≡ 0
    → ((g : Holder) (x : ObjNo) → held_in T g x ≡ held_in S g x + same_pair h o g x) → HoldersMove S T (Plus h o ∷ [])
holders-plus S T h o none more = record { fits = (none, tt); moves = λ g x. sym (more g x) }

-- a holder gives one up
pub holders-closed : (last : Bool) (S T : State) (h : Holder) (o : ObjNo)
    → ((g : Holder) (x : ObjNo) → held_in T g x + same_pair h o g x ≡ held_in S g x)
    → HoldersMove S T (closed_effects last h o)
holders-closed last S T h o less = closed last
  where
    some : 0 < held_in S h o
    some = let a = less h o in let b = pair_self h o in omega arith

    moved : (g : Holder) (x : ObjNo) → held_in S g x - same_pair h o g x ≡ held_in T g x
    moved g x = let a = less g x in omega arith

    closed : (last : Bool) → HoldersMove S T (closed_effects last h o)
    closed true = record { fits = (some, (tt, tt)); moves = moved }
    closed false = record { fits = (some, tt); moves = moved }
