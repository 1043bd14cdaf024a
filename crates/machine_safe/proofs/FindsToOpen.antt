-- A find of an object that nothing opens later isn't one to open it.
use Rattle.std.proofs.Common.{◌≡◌, ◌<◌, ◌≤◌, List, [], ◌∷◌, ◌++◌, arith, ltb-true, refl, Bool, true, false, Option, Some, None}
use Rattle.std.specs.Prelude.{◌&&◌, is_none, if◌then◌else◌}
use Rattle.sym_base.specs.declared.number.ObjNo.{ObjNo}
use Rattle.entry_log.specs.declared.effect.Holder.{Holder}
use Rattle.entry_log.specs.declared.effect.Holder.TheVariants.{Temp}
use Rattle.entry_log.specs.declared.effect.Effect.{Effect}
use Rattle.entry_log.specs.declared.effect.Effect.TheVariants.{Plus}
use Rattle.entry_log.specs.declared.entry.Actor.{Actor}
use Rattle.entry_log.specs.declared.entry.Actor.TheVariants.{Thread}
use Rattle.entry_log.specs.declared.entry.Entry.{Entry}
use Rattle.machine.specs.Holding.{is_holder}
use Rattle.machine.specs.References.{same, pluses}
use Rattle.move_laws.proofs.References.Effects.{pluses-append}
use Rattle.move_laws.proofs.References.Same.{if_le}
use Rattle.machine_safe.specs.CountAfter.{effects_of, is_by, first_by, pluses_by, opens, opens_later}

pub pluses_by_le : (effects : List Effect) (g : Holder) (x : ObjNo) → pluses_by effects g x ≤ pluses effects x
pluses_by_le [] g x = omega arith
pluses_by_le (Plus h o ∷ rest) g x = let a = if_le (is_holder h g) (same o x) in let r = pluses_by_le rest g x in omega arith
pluses_by_le (_ ∷ rest) g x = pluses_by_le rest g x

opens_adds_step : (b : Bool) (t o : ObjNo) (e : Entry) (es : List Entry)
    → opens t o (if b then Some e else first_by t es) ≡ true
    → (opens t o (first_by t es) ≡ true → 0 < pluses (effects_of es) o) → 0 < pluses (e.effects ++ effects_of es) o
opens_adds_step true t o e es h r =
    let a = pluses-append e.effects (effects_of es) o in
    let b = pluses_by_le e.effects (Temp t) o in
    let c : 0 < pluses_by e.effects (Temp t) o = ltb-true 0 (pluses_by e.effects (Temp t) o) h in omega arith
opens_adds_step false t o e es h r = let a = pluses-append e.effects (effects_of es) o in let b = r h in omega arith

none_opens : (t o : ObjNo) (x : Option Entry) → x ≡ None → opens t o x ≡ true → ⊥
none_opens t o None e h = cc
none_opens t o (Some x) e h = cc

-- a return that opens an object adds a reference to it
opens_adds : (t o : ObjNo) (es : List Entry) → opens t o (first_by t es) ≡ true → 0 < pluses (effects_of es) o
opens_adds t o [] h = absurd (none_opens t o None refl h)
opens_adds t o (e ∷ es) h = opens_adds_step (is_by t e.actor) t o e es h (opens_adds t o es)

and_right : (a b : Bool) → (a && b) ≡ true → b ≡ true
and_right true b h = h
and_right false b h = cc

opens_later_adds : (actor : Actor) (first later : List Entry) (o : ObjNo) → opens_later actor first later o ≡ true → 0 < pluses (effects_of later) o
opens_later_adds (Thread t) first later o h = opens_adds t o later (and_right (is_none (first_by t first)) (opens t o (first_by t later)) h)
opens_later_adds _ first later o h = cc
