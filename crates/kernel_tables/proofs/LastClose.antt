-- An object dies of a close where the words answer so, in the state with the choice that this left: it was the only reference, and nobody is
-- out on the object, or the object isn't kept.
use Rattle.std.proofs.Common.{◌≡◌, ℕ, ◌<◌, ◌∙◌, List, Bool, true, false, None, arith, refl, ap, sym}
use Rattle.std.specs.Prelude.{◌==◌, ◌&&◌, not, nat_lt, slice_index}
use Rattle.std.proofs.lemmas.Bool.{eq-eqb, eqb-true, lt-ltb}
use Rattle.sym_base.specs.declared.number.ObjNo.{ObjNo}
use Rattle.machine.specs.declared.mode.Mode.{Mode}
use Rattle.machine.specs.declared.state.State.{State}
use Rattle.machine.specs.History.{keeping}
use Rattle.machine.specs.Kept.{dies}
use Rattle.machine.specs.Out.{outs_of, seeks}
use Rattle.machine.specs.References.{count_of}
use Rattle.machine.specs.Rows.{object_of}
use Rattle.state_rows.specs.ObjectRows.{place_of}
use Rattle.move_laws.proofs.Lists.Totals.{total_any}
use Rattle.table_moves.specs.Notes.{Notes, HasNoteOf}
use Rattle.table_moves.specs.ObjectsView.{IsThere}
use Rattle.kernel_tables.specs.Choosing.{IsSoughtBy, MayClose, mode_after}
use Rattle.kernel_tables.specs.Moved.{dead_of}

-- who is out on an object counts
sought_counted : (S : State) (u o : ObjNo) → IsSoughtBy S u o → 0 < outs_of S o
sought_counted S u o sought =
    let at = total_any (seeks o (place_of (object_of S o))) S.references.threads u.0 None refl in
    let some = sought.out in
    rw sought.shared (omega arith)

-- the answer, by whether there is one reference, whether what is closed is kept, and whether somebody is out
last_by : (last one keep some : Bool) → (last ≡ true → one ≡ true) → (last ≡ true → keep ≡ false)
    → (last ≡ false → one ≡ true → (keep ≡ true) × (some ≡ true)) → last ≡ (one && not (keep && some))
last_by true true false some only unkept out = refl
last_by true true true some only unkept out = let clash = unkept refl in absurd (cc)
last_by true false keep some only unkept out = let clash = only refl in absurd (cc)
last_by false false keep some only unkept out = refl
last_by false true true true only unkept out = refl
last_by false true true false only unkept out = let clash = (out refl refl).1 in absurd (cc)
last_by false true false some only unkept out = let clash = (out refl refl).0 in absurd (cc)

pub last_chosen : (counts : List ℕ) (notes : Notes) (S : State) (o : ObjNo) (there : IsThere (object_of S o)) (last : Bool) (mode : Mode)
    → MayClose notes S → slice_index counts o.0 ≡ count_of S o → (last ≡ true → slice_index counts o.0 ≡ 1)
    → (last ≡ false → slice_index counts o.0 ≡ 1 → HasNoteOf notes (place_of (object_of S o))) → mode ≡ mode_after (dead_of last o) S.mode
    → last ≡ dies (keeping mode.keep S) o
last_chosen counts notes S o there last mode may agree only out is =
    let keep : (l : Bool) → last ≡ l → mode.keep ≡ (mode_after (dead_of l o) S.mode).keep =
    λ l e. ap (λ (m : Mode). m.keep) is ∙ ap (λ (b : Bool). (mode_after (dead_of b o) S.mode).keep) e in
    last_by last (count_of S o == 1) mode.keep (nat_lt 0 (outs_of S o)) (λ e. eq-eqb (count_of S o) 1 (sym agree ∙ only e)) (keep true)
    (λ e one. let sought = may.1 o there (out e (agree ∙ eqb-true (count_of S o) 1 one)) in
    (keep false e ∙ may.0 ∙ sought.1.shared, lt-ltb 0 (outs_of S o) (sought_counted S sought.0 o sought.1)))
