use Rattle.std.proofs.Common.{◌≡◌, ◌∙◌, ◌+◌, ◌<◌, ℕ, List, ◌∷◌, length, drop, get_or, add-one, drop-cons, ap, sym, refl}
use Rattle.std.specs.Prelude.{Some, None}
use Rattle.sym_base.specs.declared.number.ObjNo.{ObjNo}
use Rattle.entry_log.specs.declared.effect.Effect.{Effect}
use Rattle.entry_log.specs.declared.effect.Effect.TheVariants.{Plus, Seek}
use Rattle.entry_log.specs.declared.effect.Holder.TheVariants.{InProcess}
use Rattle.kernel_tables.proofs.Performing.{none_left}
use Rattle.kcore.specs.Finds.{found_in, seek_in}
use Rattle.kcore.proofs.going.found_in.Goals as goal

-- what stands where there is no effect
abbrev any : Effect
any = Plus (InProcess (record { 0 = 0 }) 0) (record { 0 = 0 })

found_here : (e : Effect) (rest : List Effect) (o : ObjNo) → Some o ≡ seek_in e → found_in (e ∷ rest) ≡ Some o
found_here (Seek x) rest o is = sym is
found_here _ rest o is = absurd (cc)

found_past : (e : Effect) (rest : List Effect) → seek_in e ≡ None → found_in (e ∷ rest) ≡ found_in rest
found_past (Seek x) rest none = absurd (cc)
found_past _ rest none = refl

next : (effects : List Effect) (k : ℕ) → k < length effects → drop k effects ≡ get_or effects k any ∷ drop (k + 1) effects
next effects k inside = rw (add-one, drop-cons effects k any) refl

pub returns-in-Some : goal.returns-in-Some
returns-in-Some c =
    let es = c.args.effects.now in
    let k = c.loop-effect.effect-index in
    let here = ap found_in (next es k c.loop-effect-test.true) ∙ found_here (get_or es k any) (drop (k + 1) es) c.in-Some.object c.in-Some.ensures in
    sym here ∙ c.loop-effect.invariant

pub loop-effect-preserved : goal.loop-effect-preserved
loop-effect-preserved c =
    let es = c.args.effects.now in
    let k = c.loop-effect.effect-index in
    let past = ap found_in (next es k c.loop-effect-test.true) ∙ found_past (get_or es k any) (drop (k + 1) es) (sym c.in_default.ensures) in
    sym past ∙ c.loop-effect.invariant

pub returns : goal.returns
returns c = sym (ap found_in (none_left c.args.effects.now c.loop-effect.effect-index c.loop-effect-test.false)) ∙ c.loop-effect.invariant
