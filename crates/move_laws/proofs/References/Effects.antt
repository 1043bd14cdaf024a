-- What lists of effects tell together.
use Rattle.std.proofs.Common.{◌≡◌, ℕ, ◌+◌, List, [], ◌∷◌, ◌++◌, arith, refl}
use Rattle.sym_base.specs.declared.number.ObjNo.{ObjNo}
use Rattle.entry_log.specs.declared.effect.Holder.{Holder}
use Rattle.entry_log.specs.declared.effect.Effect.{Effect}
use Rattle.entry_log.specs.declared.effect.Effect.TheVariants.{Plus, Minus, Dead, Swept, Seek}
use Rattle.machine.specs.References.{pluses, minuses}
use Rattle.machine.specs.Told.{deaths, removals, finds}
use Rattle.machine.specs.Holding.{held_after, held_after_all, FitsHolders, EachFitsHolders}

pub pluses-append : (xs ys : List Effect) (o : ObjNo) → pluses (xs ++ ys) o ≡ pluses xs o + pluses ys o
pluses-append [] ys o = omega arith
pluses-append (Plus h x ∷ rest) ys o = let r = pluses-append rest ys o in omega arith
pluses-append (_ ∷ rest) ys o = pluses-append rest ys o

pub minuses-append : (xs ys : List Effect) (o : ObjNo) → minuses (xs ++ ys) o ≡ minuses xs o + minuses ys o
minuses-append [] ys o = omega arith
minuses-append (Minus h x ∷ rest) ys o = let r = minuses-append rest ys o in omega arith
minuses-append (_ ∷ rest) ys o = minuses-append rest ys o

pub deaths-append : (xs ys : List Effect) (o : ObjNo) → deaths (xs ++ ys) o ≡ deaths xs o + deaths ys o
deaths-append [] ys o = omega arith
deaths-append (Dead x ∷ rest) ys o = let r = deaths-append rest ys o in omega arith
deaths-append (_ ∷ rest) ys o = deaths-append rest ys o

pub removals-append : (xs ys : List Effect) (o : ObjNo) → removals (xs ++ ys) o ≡ removals xs o + removals ys o
removals-append [] ys o = omega arith
removals-append (Swept x ∷ rest) ys o = let r = removals-append rest ys o in omega arith
removals-append (_ ∷ rest) ys o = removals-append rest ys o

pub finds-append : (xs ys : List Effect) (o : ObjNo) → finds (xs ++ ys) o ≡ finds xs o + finds ys o
finds-append [] ys o = omega arith
finds-append (Seek x ∷ rest) ys o = let r = finds-append rest ys o in omega arith
finds-append (_ ∷ rest) ys o = finds-append rest ys o

-- effects that fit, and others that fit after them
pub fits-append : (held : Holder → ObjNo → ℕ) (xs ys : List Effect) → EachFitsHolders held xs
    → EachFitsHolders (held_after_all held xs) ys → EachFitsHolders held (xs ++ ys)
fits-append held [] ys h k = k
fits-append held (x ∷ xs) ys h k = (h.0, fits-append (held_after held x) xs ys h.1 k)

fits_same_one : (held other : Holder → ObjNo → ℕ) (e : Effect) → ((g : Holder) (x : ObjNo) → held g x ≡ other g x) → FitsHolders held e → FitsHolders other e
fits_same_one held other (Plus h o) same h1 = let a = same h o in omega arith
fits_same_one held other (Minus h o) same h1 = let a = same h o in omega arith
fits_same_one held other _ same h1 = tt

pub after_same_one : (held other : Holder → ObjNo → ℕ) (e : Effect) → ((g : Holder) (x : ObjNo) → held g x ≡ other g x)
    → (g : Holder) (x : ObjNo) → held_after held e g x ≡ held_after other e g x
after_same_one held other (Plus h o) same g x = let a = same g x in omega arith
after_same_one held other (Minus h o) same g x = let a = same g x in omega arith
after_same_one held other _ same g x = same g x

-- whoever holds the same, the same effects fit
pub fits-same : (held other : Holder → ObjNo → ℕ) (es : List Effect) → ((g : Holder) (x : ObjNo) → held g x ≡ other g x)
    → EachFitsHolders held es → EachFitsHolders other es
fits-same held other [] same h = tt
fits-same held other (e ∷ es) same h = (
  fits_same_one held other e same h.0,
  fits-same (held_after held e) (held_after other e) es
      (after_same_one held other e same) h.1,
)

pub after_all-append : (held : Holder → ObjNo → ℕ) (xs ys : List Effect) (g : Holder) (x : ObjNo)
    → held_after_all held (xs ++ ys) g x ≡ held_after_all (held_after_all held xs) ys g x
after_all-append held [] ys g x = refl
after_all-append held (e ∷ es) ys g x = after_all-append (held_after held e) es ys g x

pub after_all-same : (held other : Holder → ObjNo → ℕ) (es : List Effect)
    → ((g : Holder) (x : ObjNo) → held g x ≡ other g x) → (g : Holder) (x : ObjNo)
    → held_after_all held es g x ≡ held_after_all other es g x
after_all-same held other [] same g x = same g x
after_all-same held other (e ∷ es) same g x = after_all-same (held_after held e) (held_after other e) es (after_same_one held other e same) g x
