-- Changes that make objects, or leave them.
use Rattle.std.proofs.Common.{◌≡◌, inl, inr, ℕ, suc, zero, ◌+◌, ◌<◌, ◌≤◌, List, [], ◌∷◌, ◌++◌, length, get_or, arith, refl, sym, ap, subst, ◌∙◌, Option, Some, None, Bool, true, false}
use Rattle.std.specs.Prelude.{is_some}
use Rattle.std.proofs.lemmas.Bool.{cases_eq, le-ltb}
use Rattle.std.proofs.lemmas.List.{get_or_past}
use Rattle.sym_base.specs.declared.number.ObjNo.{ObjNo}
use Rattle.entry_log.specs.declared.effect.Holder.{Holder}
use Rattle.entry_log.specs.declared.effect.Effect.{Effect}
use Rattle.entry_log.specs.declared.effect.Effect.TheVariants.{Plus}
use Rattle.state_rows.specs.ObjectRows.{next_number, place_of, with_object}
use Rattle.state_rows.specs.declared.object.ObjectRow.{ObjectRow}
use Rattle.machine.specs.declared.state.State.{State}
use Rattle.machine.specs.Moves.{next_object}
use Rattle.machine.specs.Out.{outs_of}
use Rattle.machine.specs.Rows.{object_of}
use Rattle.machine.specs.References.{same, count_of, pluses, minuses}
use Rattle.machine.specs.Told.{deaths, removals, finds}
use Rattle.machine.specs.WellFormed.{IsAlive, dead_bit, is_dead, sweeps_of}
use Rattle.move_laws.proofs.Lives.Bits.{unmade, gone_bit, gone, alive_not_gone, alive_undead}
use Rattle.move_laws.proofs.Lives.LivesMove.{LivesMove}
use Rattle.move_laws.proofs.Lives.NewObjects.{made-long, made-other, made-own, next_number_is}
use Rattle.move_laws.proofs.Lives.Outs.{SeeksSame, outs-moved}
use Rattle.move_laws.proofs.Lives.Places.{OutsFound, SameObjects, outs-found, places-made, places-same, renews-made, renews-same}
use Rattle.move_laws.proofs.References.Same.{same_is, same_self}

-- effects that take no reference away, after which none dies and none is swept
pub record IsQuiet (effects : List Effect) : Type 0 where
  pub minuses : (o : ObjNo) → minuses effects o ≡ 0
  pub deaths : (o : ObjNo) → deaths effects o ≡ 0
  pub removals : (o : ObjNo) → removals effects o ≡ 0

-- what effects tell of that
abbrev pub ends_of : List Effect → ObjNo → ℕ × ℕ × ℕ
ends_of effects o = (minuses effects o, deaths effects o, removals effects o)

pub quiet_of : {effects : List Effect} → ((o : ObjNo) → ends_of effects o ≡ (0, 0, 0)) → IsQuiet effects
quiet_of none = record {
  minuses = λ o. ap (λ (n : ℕ × ℕ × ℕ). n.0) (none o);
  deaths = λ o. ap (λ (n : ℕ × ℕ × ℕ). n.1) (none o);
  removals = λ o. ap (λ (n : ℕ × ℕ × ℕ). n.2) (none o);
}

-- the objects and the owed sweeps stay, and whoever isn't out any more on a living object has opened it
pub lives-quiet : (S T : State) (effects : List Effect) → SameObjects S T → IsQuiet effects
    → ((o : ObjNo) → count_of T o + minuses effects o ≡ count_of S o + pluses effects o)
    → ((o : ObjNo) → sweeps_of T o ≡ sweeps_of S o)
    → ((o : ObjNo) → IsAlive (object_of S o) → outs_of S o ≤ outs_of T o + pluses effects o) → OutsFound S T
    → ((o : ObjNo) → 0 < pluses effects o → IsAlive (object_of S o))
    → ((o : ObjNo) → 0 < finds effects o → is_some (object_of S o) ≡ true) → LivesMove S T effects
lives-quiet S T effects same quiet counts owed outs sought opens found =
    let objects = same.1 in
    let long : length T.references.objects ≡ length S.references.objects = ap length objects in
    let row : (o : ObjNo) → object_of T o ≡ object_of S o = λ o. ap (λ (os : List (Option ObjectRow)). get_or os o.0 None) objects in
    record {
      counts = counts;
      deads = λ o. let a = ap is_dead (row o) in let b = quiet.deaths o in let c = quiet.removals o in omega arith;
      owed = λ o. let a = owed o in let b = quiet.deaths o in let c = quiet.removals o in omega arith;
      stays = λ o alive none. subst IsAlive (sym (row o)) alive;
      last = λ o h. let b = quiet.deaths o in absurd (omega arith);
      counted = λ o was alive.
          let living = subst IsAlive (row o) alive in
          let some = was living in
          let b = counts o in let c = quiet.minuses o in let d = outs o living in omega arith;
      opens = λ o h. let alive = opens o h in (alive_undead (object_of S o) alive, λ none. subst IsAlive (sym (row o)) alive);
      removes = λ o h. let b = quiet.removals o in absurd (omega arith);
      found = λ o h. ap is_some (row o) ∙ found o h;
      there = λ o is none. (ap is_some (row o) ∙ is, ap place_of (row o));
      made = omega arith;
      once = λ first. record {
        stays = λ o. let a : gone T.references.objects o
            ≡ gone S.references.objects o = ap (λ (os : List (Option ObjectRow)). gone os o) objects in
            let b = quiet.deaths o in omega arith;
        opens = λ o h. (alive_not_gone S.references.objects o (opens o h)).0;
      };
      mode = same.0;
      places = λ h. places-same S T same sought h;
      renews = renews-same S T same;
    }

-- the same where each is out as before
outs-quiet : (S T : State) → SameObjects S T → SeeksSame S.references.threads T.references.threads → (o : ObjNo) → outs_of T o ≡ outs_of S o
outs-quiet S T same seek o =
    outs-moved S T o same.0 (ap (λ (os : List (Option ObjectRow)). place_of (get_or os o.0 None)) same.1) seek

-- nothing is told
pub lives-none : (S T : State) → SameObjects S T
    → ((o : ObjNo) → count_of T o ≡ count_of S o) → ((o : ObjNo) → sweeps_of T o ≡ sweeps_of S o)
    → SeeksSame S.references.threads T.references.threads → LivesMove S T []
lives-none S T same counts owed seek =
    lives-quiet S T [] same (quiet_of (λ o. refl))
    (λ o. let a = counts o in omega arith) owed (λ o alive. let a = outs-quiet S T same seek o in omega arith) (outs-found S T seek)
    (λ o h. absurd (omega arith)) (λ o h. absurd (omega arith))

-- a living object gets a reference, from somebody who was out on it or not
pub lives-opened : (S T : State) (holder : Holder) (x : ObjNo) → SameObjects S T
    → ((o : ObjNo) → count_of T o ≡ count_of S o + same x o) → ((o : ObjNo) → sweeps_of T o ≡ sweeps_of S o)
    → ((o : ObjNo) → outs_of S o ≤ outs_of T o + same x o) → OutsFound S T → IsAlive (object_of S x)
    → LivesMove S T (Plus holder x ∷ [])
lives-opened S T holder x objects counts owed outs sought alive =
    lives-quiet S T (Plus holder x ∷ []) objects
    (quiet_of (λ o. refl))
    (λ o. let a = counts o in omega arith) owed (λ o living. let a = outs o in omega arith) sought
    (λ o h. subst (λ (y : ObjNo). IsAlive (object_of S y)) (same_is x o (omega arith)) alive)
    (λ o h. absurd (omega arith))

pub lives-plus : (S T : State) (holder : Holder) (x : ObjNo) → SameObjects S T
    → ((o : ObjNo) → count_of T o ≡ count_of S o + same x o) → ((o : ObjNo) → sweeps_of T o ≡ sweeps_of S o)
    → SeeksSame S.references.threads T.references.threads → IsAlive (object_of S x)
    → LivesMove S T (Plus holder x ∷ [])
lives-plus S T holder x objects counts owed seek alive =
    lives-opened S T holder x objects counts owed (λ o. let a = outs-quiet S T objects seek o in omega arith) (outs-found S T seek) alive

gone_push_at : (objects : List (Option ObjectRow)) (i : ℕ) (row : ObjectRow) → row.dead ≡ false
    → gone_bit (get_or (objects ++ Some row ∷ []) i unmade) ≡ gone_bit (get_or objects i unmade)
gone_push_at [] zero row h = ap dead_bit h
gone_push_at [] (suc i) row h = refl
gone_push_at (x ∷ xs) zero row h = refl
gone_push_at (x ∷ xs) (suc i) row h = gone_push_at xs i row h

-- where it comes next the rows are longer by one
pub pushed : (objects : List (Option ObjectRow)) (row : ObjectRow) → with_object objects (length objects) row ≡ objects ++ Some row ∷ []
pushed objects row = let past = le-ltb (length objects) (length objects) (omega arith) in rw past refl

-- an object is made, with its first reference
pub lives-made : (S T : State) (row : ObjectRow) (holder : Holder) → row.dead ≡ false → row.place ≡ S.references.made
    → T.mode ≡ S.mode → T.references.objects ≡ with_object S.references.objects (next_object S).0 row
    → T.references.made ≡ S.references.made + 1
    → ((o : ObjNo) → count_of T o ≡ count_of S o + same (next_object S) o) → ((o : ObjNo) → sweeps_of T o ≡ sweeps_of S o)
    → SeeksSame S.references.threads T.references.threads → LivesMove S T (Plus holder (next_object S) ∷ [])
lives-made S T row holder living place mode objects made counts owed seek =
    let rows = S.references.objects in
    let x = next_object S in
    let next = next_number_is S.mode.reuse rows in
    let long = made-long rows x.0 row next.0 in
    let length_is : length T.references.objects ≡ length (with_object rows x.0 row) = ap length objects in
    let here : object_of T x ≡ Some row = ap (λ (os : List (Option ObjectRow)). get_or os x.0 None) objects ∙ made-own rows x.0 row next.0 in
    let alive_here : IsAlive (object_of T x) = subst IsAlive (sym here) living in
    let other : (o : ObjNo) → (o.0 ≡ x.0 → ⊥) → object_of T o ≡ object_of S o =
    λ o apart. ap (λ (os : List (Option ObjectRow)). get_or os o.0 None) objects ∙ made-other rows x.0 o.0 row next.0 apart in
    let undead : (o : ObjNo) → is_dead (object_of T o) ≡ is_dead (object_of S o) = λ o. elim (cases_eq o.0 x.0) [
      | inl at ↦ ap (λ (n : ℕ). is_dead (get_or T.references.objects n None)) at ∙ ap is_dead here ∙ ap dead_bit living
          ∙ sym (ap (λ (n : ℕ). is_dead (get_or rows n None)) at ∙ ap is_dead next.1)
      | inr apart ↦ ap is_dead (other o apart)
    ] in
    let none : is_dead (object_of S x) ≡ 0 = ap is_dead next.1 in
    record {
      counts = λ o. let a = counts o in omega arith;
      deads = λ o. let a = undead o in omega arith;
      owed = λ o. let a = owed o in omega arith;
      stays = λ o alive quiet. elim (cases_eq o.0 x.0) as (λ _. IsAlive (object_of T o)) [
        | inl at ↦ subst (λ (n : ℕ). IsAlive (get_or T.references.objects n None)) (sym at) alive_here
        | inr apart ↦ subst IsAlive (sym (other o apart)) alive
      ];
      last = λ o h. absurd (omega arith);
      counted = λ o was alive. elim (cases_eq o.0 x.0) as (λ _. 0 < count_of T o + outs_of T o) [
        | inl at ↦ let one : same x o ≡ 1 = subst (λ (n : ℕ). same x (record { 0 = n }) ≡ 1) (sym at) (same_self x) in
            let moved = counts o in omega arith
        | inr apart ↦ let there = subst IsAlive (other o apart) alive in
            let some = was there in let moved = counts o in let same_outs = outs-moved S T o mode (ap place_of (other o apart)) seek in omega arith
      ];
      opens = λ o h. let at = same_is x o (omega arith) in (
        subst (λ (y : ObjNo). is_dead (object_of S y) ≡ 0) at none,
        λ quiet. subst (λ (y : ObjNo). IsAlive (object_of T y)) at alive_here,
      );
      removes = λ o h. absurd (omega arith);
      found = λ o h. absurd (omega arith);
      there = λ o is quiet. elim (cases_eq o.0 x.0) as (λ _. (is_some (object_of T o) ≡ true) × (place_of (object_of T o) ≡ place_of (object_of S o))) [
        | inl at ↦ let nobody = ap (λ (n : ℕ). is_some (get_or rows n None)) at ∙ ap is_some next.1 in absurd (cc)
        | inr apart ↦ (ap is_some (other o apart) ∙ is, ap place_of (other o apart))
      ];
      made = let a = long.least in omega arith;
      once = λ first.
          let at : x.0 ≡ length rows = ap (λ (reuse : Bool). next_number reuse rows) first in
          let is : T.references.objects ≡ rows ++ Some row ∷ [] = objects ∙ ap (λ (n : ℕ). with_object rows n row) at ∙ pushed rows row in
          record {
            stays = λ o. let a : gone T.references.objects o
                ≡ gone rows o = ap (λ (os : List (Option ObjectRow)). gone os o) is
                ∙ gone_push_at rows o.0 row living in omega arith;
            opens = λ o h.
                let e : x.0 ≡ o.0 = ap (λ (y : ObjNo). y.0) (same_is x o (omega arith)) in
                ap gone_bit (get_or_past rows o.0 unmade (omega arith));
          };
      mode = mode;
      places = λ h. places-made S T row mode place objects made seek h;
      renews = renews-made S T row place objects made;
    }
