-- A reference is given up, and an object swept.
use Rattle.std.proofs.Common.{◌≡◌, ◌⊎◌, inl, inr, ℕ, ◌+◌, ◌<◌, List, [], ◌∷◌, length, get_or, arith, refl, sym, subst, ap, ◌∙◌, Option, Some, None, Bool, true, false}
use Rattle.std.specs.Prelude.{slice_set, is_some, ◌==◌, ◌&&◌, not, nat_lt}
use Rattle.std.proofs.lemmas.List.{get_or-set_same, get_or-set_other, length-set}
use Rattle.std.proofs.lemmas.Bool.{eqb-true, cases_eq, cases_lt}
use Rattle.sym_base.specs.declared.number.ObjNo.{ObjNo}
use Rattle.entry_log.specs.declared.effect.Holder.{Holder}
use Rattle.entry_log.specs.declared.effect.Effect.TheVariants.{Swept}
use Rattle.state_rows.proofs.SoundChanges.{set_item}
use Rattle.state_rows.specs.ObjectRows.{dead_row, place_of}
use Rattle.state_rows.specs.declared.object.ObjectRow.{ObjectRow}
use Rattle.machine.specs.declared.state.State.{State}
use Rattle.machine.specs.Moves.{objects_closed, closed_effects}
use Rattle.machine.specs.References.{same, count_of}
use Rattle.machine.specs.Kept.{dies, is_kept}
use Rattle.machine.specs.Out.{outs_of}
use Rattle.machine.specs.Rows.{object_of}
use Rattle.machine.specs.Told.{deaths}
use Rattle.machine.specs.WellFormed.{IsAlive, is_dead, sweeps_of}
use Rattle.move_laws.proofs.Lives.Bits.{unmade, gone_bit, gone, alive_not_gone, alive_undead, dead_there, row_made, there_inside}
use Rattle.move_laws.proofs.Lives.LivesMove.{LivesMove}
use Rattle.move_laws.proofs.Lists.Mapped.{made-here}
use Rattle.move_laws.proofs.Lives.Outs.{SeeksSame, outs-moved}
use Rattle.move_laws.proofs.Lives.Places.{PlacesOf, StoodAs, outs-found, places-kept, places-same, renews-kept, renews-same}
use Rattle.move_laws.proofs.References.Same.{same_object, same_self, same_other, same_is, same_le}

-- a number of a row, where another row takes its place: at the row it is the new one's, elsewhere it stays
bit-set : (f : Option ObjectRow → ℕ) (objects : List (Option ObjectRow)) (o : ObjNo) (row d : Option ObjectRow) (more : ℕ)
    → o.0 < length objects → f row ≡ f (get_or objects o.0 d) + more → (p : ObjNo) (times : ℕ)
    → (same o p ≡ 0 → times ≡ 0) → (same o p ≡ 1 → times ≡ more)
    → f (get_or (slice_set objects o.0 row) p.0 d) ≡ f (get_or objects p.0 d) + times
bit-set f objects o row d more inside new p times none once =
    elim (cases_eq o.0 p.0) as (λ _. f (get_or (slice_set objects o.0 row) p.0 d) ≡ f (get_or objects p.0 d) + times) [
      | inl at ↦
          let one : same o p ≡ 1 = ap (λ (y : ObjNo). same o y) (same_object p o (sym at)) ∙ same_self o in
          let all = once one in
          let a : f (get_or (slice_set objects o.0 row) p.0 d) ≡ f row =
          ap (λ (n : ℕ). f (get_or (slice_set objects o.0 row) n d)) (sym at)
          ∙ ap f (get_or-set_same objects o.0 row d inside) in
          let b : f (get_or objects o.0 d) ≡ f (get_or objects p.0 d) = ap (λ (n : ℕ). f (get_or objects n d)) at in
          omega arith
      | inr apart ↦
          let no = none (same_other o p apart) in
          let a : f (get_or (slice_set objects o.0 row) p.0 d) ≡ f (get_or objects p.0 d) =
          ap f (get_or-set_other objects o.0 p.0 row d (λ q. apart (sym q))) in
          omega arith
    ]

dead_row_gone : (row : Option ObjectRow) → gone_bit (dead_row row) ≡ 1
dead_row_gone None = refl
dead_row_gone (Some row) = refl

dead_row_dead : (row : Option ObjectRow) → IsAlive row → is_dead (dead_row row) ≡ 1
dead_row_dead None h = absurd h
dead_row_dead (Some row) h = refl

dead_row_there : (row : Option ObjectRow) → is_some (dead_row row) ≡ is_some row
dead_row_there None = refl
dead_row_there (Some row) = refl

-- it keeps its place
pub dead_row_place : (row : Option ObjectRow) → place_of (dead_row row) ≡ place_of row
dead_row_place None = refl
dead_row_place (Some row) = refl

-- what stands at a number, where another row took the place of that at one
at-set : {A : Type 0} (q : Option ObjectRow → A) (objects : List (Option ObjectRow)) (o p : ℕ) (row : Option ObjectRow)
    → q row ≡ q (get_or objects o None) → o < length objects → q (get_or (slice_set objects o row) p None) ≡ q (get_or objects p None)
at-set q objects o p row same inside = elim (cases_eq p o) as (λ _. q (get_or (slice_set objects o row) p None) ≡ q (get_or objects p None)) [
  | inl at ↦ ap (λ (n : ℕ). q (get_or (slice_set objects o row) n None)) at ∙ ap q (get_or-set_same objects o row None inside)
      ∙ same ∙ sym (ap (λ (n : ℕ). q (get_or objects n None)) at)
  | inr apart ↦ ap q (get_or-set_other objects o p row None apart)
]

apart_by : (o p : ObjNo) → same o p ≡ 0 → p.0 ≡ o.0 → ⊥
apart_by o p zero at =
    let self : same o p ≡ 1 = ap (λ (y : ObjNo). same o y) (same_object p o at) ∙ same_self o in omega arith

dead_gone : (row : Option ObjectRow) → is_dead row ≡ 1 → gone_bit row ≡ 1
dead_gone None h = refl
dead_gone (Some row) h = h

-- where an object doesn't die it has another reference, or somebody is out on it
stays_by : (one keep some : Bool) → (one && not (keep && some)) ≡ false → (one ≡ false) ⊎ (some ≡ true)
stays_by true true true e = inr refl
stays_by true true false e = absurd (cc)
stays_by true false some e = absurd (cc)
stays_by false keep some e = inl refl

stays : (S : State) (o : ObjNo) → dies S o ≡ false → 0 < count_of S o → 1 < count_of S o + outs_of S o
stays S o e some = elim (stays_by (count_of S o == 1) S.mode.keep (nat_lt 0 (outs_of S o)) e) as (λ _. 1 < count_of S o + outs_of S o) [
  | inl other ↦ grind arith
  | inr out ↦ grind arith
]

-- and where it dies it has no other
dies_one : (one kept : Bool) → (one && not kept) ≡ true → one ≡ true
dies_one true kept e = refl
dies_one false kept e = absurd (cc)

-- a row that stands there with one dead stood there with its place, and so does one that stands there without one
died-places : (objects other : List (Option ObjectRow)) (o : ℕ) → other ≡ slice_set objects o (dead_row (get_or objects o None)) → PlacesOf objects other
died-places objects other o is k row at =
    by (ap (λ (os : List (Option ObjectRow)). get_or os k None) (sym is) ∙ at)
  where
    undead : (x : Option ObjectRow) (row : ObjectRow) → dead_row x ≡ Some row
        → (old : ObjectRow) × (x ≡ Some old) × (old.place ≡ row.place) × (old.dead ≡ true → row.dead ≡ true)
    undead None row e = absurd (cc)
    undead (Some old) row e =
        let same : record old { dead = true } ≡ row = cc in
        (old, refl, ap (λ (r : ObjectRow). r.place) same, λ _. sym (ap (λ (r : ObjectRow). r.dead) same))

    by : get_or (slice_set objects o (dead_row (get_or objects o None))) k None ≡ Some row → StoodAs objects k row
    by here = elim (cases_eq o k) as (λ _. StoodAs objects k row) [
      | inl same ↦ undead (get_or objects k None) row (sym (made-here dead_row None objects o k refl same) ∙ here)
      | inr apart ↦ (row, sym (get_or-set_other objects o k (dead_row (get_or objects o None)) None (λ e. apart (sym e))) ∙ here, refl, λ dead. dead)
    ]

swept-places : (objects other : List (Option ObjectRow)) (o : ℕ) → other ≡ slice_set objects o None → PlacesOf objects other
swept-places objects other o is k row at = (
  row,
  set_item (λ (x : Option ObjectRow). x ≡ Some row → get_or objects k None ≡ Some row) objects o k None None (λ _ e. absurd (cc)) (λ e. e)
      (ap (λ (os : List (Option ObjectRow)). get_or os k None) (sym is) ∙ at),
  refl,
  λ dead. dead,
)

-- a living object has a reference less
pub lives-closed : (last : Bool) (S T : State) (holder : Holder) (o : ObjNo) → dies S o ≡ last → IsAlive (object_of S o)
    → T.mode ≡ S.mode → T.references.objects ≡ objects_closed last o S.references.objects
    → T.references.made ≡ S.references.made
    → ((p : ObjNo) → count_of T p + same o p ≡ count_of S p)
    → ((p : ObjNo) → sweeps_of T p ≡ sweeps_of S p + deaths (closed_effects last holder o) p)
    → SeeksSame S.references.threads T.references.threads → LivesMove S T (closed_effects last holder o)
lives-closed false S T holder o e alive mode objects made counts owed seek =
    let long : length T.references.objects ≡ length S.references.objects = ap length objects in
    let row : (p : ObjNo) → object_of T p ≡ object_of S p = λ p. ap (λ (os : List (Option ObjectRow)). get_or os p.0 None) objects in
    record {
      counts = λ p. let a = counts p in omega arith;
      deads = λ p. let a = ap is_dead (row p) in omega arith;
      owed = λ p. let a = owed p in omega arith;
      stays = λ p living none. subst IsAlive (sym (row p)) living;
      last = λ p h. absurd (omega arith);
      counted = λ p was living.
          let some = was (subst IsAlive (row p) living) in
          let moved = counts p in
          let still = outs-moved S T p mode (ap place_of (row p)) seek in
          elim (cases_lt 0 (same o p)) as (λ _. 0 < count_of T p + outs_of T p) [
            | inl here ↦
                let left = subst (λ (x : ObjNo). 0 < count_of S x → 1 < count_of S x + outs_of S x) (same_is o p here) (stays S o e) (omega arith) in
                let one = same_le o p in omega arith
            | inr apart ↦ omega arith
          ];
      opens = λ p h. absurd (omega arith);
      removes = λ p h. absurd (omega arith);
      found = λ p h. absurd (omega arith);
      there = λ p is none. (ap is_some (row p) ∙ is, ap place_of (row p));
      made = omega arith;
      once = λ first. record {
        stays = λ p. let a : gone T.references.objects p
            ≡ gone S.references.objects p = ap (λ (os : List (Option ObjectRow)). gone os p) objects in omega arith;
        opens = λ p h. absurd (omega arith);
      };
      mode = mode;
      places = λ h. places-same S T (mode, objects, made) (outs-found S T seek) h;
      renews = renews-same S T (mode, objects, made);
    }
lives-closed true S T holder o e alive mode objects made counts owed seek =
    let was = alive_not_gone S.references.objects o alive in
    let inside = was.1 in
    let row = object_of S o in
    let dead = dead_row_dead row alive in
    let undead = alive_undead row alive in
    let long : length T.references.objects ≡ length S.references.objects = ap length objects ∙ length-set S.references.objects o.0 (dead_row row) in
    let one : count_of S o ≡ 1 = eqb-true (count_of S o) 1 (dies_one (count_of S o == 1) (is_kept S o) e) in
    let deads : (p : ObjNo) → is_dead (object_of T p) ≡ is_dead (object_of S p) + (same o p + 0) =
    λ p. ap (λ (os : List (Option ObjectRow)). is_dead (get_or os p.0 None)) objects
    ∙ bit-set is_dead S.references.objects o (dead_row row) None 1 inside (omega arith) p (same o p + 0) (λ z. omega arith)
    (λ z. omega arith) in
    let places : (p : ObjNo) → place_of (object_of T p) ≡ place_of (object_of S p) =
    λ p. ap (λ (os : List (Option ObjectRow)). place_of (get_or os p.0 None)) objects
    ∙ at-set place_of S.references.objects o.0 p.0 (dead_row row) (dead_row_place row) inside in
    let other : (p : ObjNo) → (same o p ≡ 0) → object_of T p ≡ object_of S p =
    λ p zero. ap (λ (os : List (Option ObjectRow)). get_or os p.0 None) objects
    ∙ get_or-set_other S.references.objects o.0 p.0 (dead_row row) None (λ at. apart_by o p zero at) in
    record {
      counts = λ p. let a = counts p in omega arith;
      deads = λ p. let a = deads p in omega arith;
      owed = λ p. let a = owed p in omega arith;
      stays = λ p living none. subst IsAlive (sym (other p (omega arith))) living;
      last = λ p h.
          let at : o ≡ p = same_is o p (omega arith) in
          let moved = counts p in
          let one_p : count_of S p ≡ 1 = subst (λ (x : ObjNo). count_of S x ≡ 1) at one in
          let self : same o p ≡ 1 = ap (λ (y : ObjNo). same o y) (sym at) ∙ same_self o in
          (omega arith, omega arith);
      counted = λ p some living.
          let still = alive_undead (object_of T p) living in
          let a = deads p in
          let there = some (subst IsAlive (other p (omega arith)) living) in
          let b = counts p in
          let c = outs-moved S T p mode (places p) seek in omega arith;
      opens = λ p h. absurd (omega arith);
      removes = λ p h. absurd (omega arith);
      found = λ p h. absurd (omega arith);
      there = λ p is none. (
        ap (λ (os : List (Option ObjectRow)). is_some (get_or os p.0 None)) objects
            ∙ at-set is_some S.references.objects o.0 p.0 (dead_row row) (dead_row_there row) inside ∙ is,
        places p,
      );
      made = omega arith;
      once = λ first.
          let gone_then = dead_row_gone row in
          let gone_was : gone S.references.objects o ≡ 0 = was.0 in
          record {
            stays = λ p. ap (λ (os : List (Option ObjectRow)). gone os p) objects
                ∙ bit-set gone_bit S.references.objects o (dead_row row) unmade 1 inside (omega arith) p (same o p + 0) (λ z. omega arith)
                (λ z. omega arith);
            opens = λ p h. absurd (omega arith);
          };
      mode = mode;
      places = λ h. places-kept S T mode made long (died-places S.references.objects T.references.objects o.0 objects) (outs-found S T seek) h;
      renews = renews-kept S T made (died-places S.references.objects T.references.objects o.0 objects);
    }

-- a dead object is swept
pub lives-swept : (S T : State) (o : ObjNo) → is_dead (object_of S o) ≡ 1
    → T.mode ≡ S.mode → T.references.objects ≡ slice_set S.references.objects o.0 None → T.references.made ≡ S.references.made
    → ((p : ObjNo) → count_of T p ≡ count_of S p) → ((p : ObjNo) → sweeps_of T p + same o p ≡ sweeps_of S p)
    → SeeksSame S.references.threads T.references.threads → LivesMove S T (Swept o ∷ [])
lives-swept S T o dead mode objects made counts owed seek =
    let inside : o.0 < length S.references.objects = there_inside S.references.objects o.0 (dead_there (object_of S o) (omega arith)) in
    let long : length T.references.objects ≡ length S.references.objects = ap length objects ∙ length-set S.references.objects o.0 None in
    let empty : object_of T o ≡ None = ap (λ (os : List (Option ObjectRow)). get_or os o.0 None) objects
    ∙ get_or-set_same S.references.objects o.0 None None inside in
    let other : (p : ObjNo) → (p.0 ≡ o.0 → ⊥) → object_of T p ≡ object_of S p =
    λ p apart. ap (λ (os : List (Option ObjectRow)). get_or os p.0 None) objects
    ∙ get_or-set_other S.references.objects o.0 p.0 None None apart in
    record {
      counts = λ p. let a = counts p in omega arith;
      deads = λ p. elim (cases_eq p.0 o.0) as (λ _. is_dead (object_of T p) + (same o p + 0) ≡ is_dead (object_of S p) + 0) [
        | inl at ↦
            let self : same o p ≡ 1 = ap (λ (y : ObjNo). same o y) (same_object p o at) ∙ same_self o in
            let a : is_dead (object_of T p) ≡ 0 = ap (λ (n : ℕ). is_dead (get_or T.references.objects n None)) at ∙ ap is_dead empty in
            let b : is_dead (object_of S p) ≡ 1 = ap (λ (n : ℕ). is_dead (get_or S.references.objects n None)) at ∙ dead in omega arith
        | inr apart ↦ let a = ap is_dead (other p apart) in let b = same_other o p (λ at. apart (sym at)) in omega arith
      ];
      owed = λ p. let a = owed p in omega arith;
      stays = λ p living none. elim (cases_eq p.0 o.0) as (λ _. IsAlive (object_of T p)) [
        | inl at ↦
            let a = alive_undead (object_of S p) living in
            let b : is_dead (object_of S p) ≡ 1 = ap (λ (n : ℕ). is_dead (get_or S.references.objects n None)) at ∙ dead in absurd (omega arith)
        | inr apart ↦ subst IsAlive (sym (other p apart)) living
      ];
      last = λ p h. absurd (omega arith);
      counted = λ p was living. elim (cases_eq p.0 o.0) as (λ _. 0 < count_of T p + outs_of T p) [
        | inl at ↦ absurd (subst IsAlive (ap (λ (n : ℕ). get_or T.references.objects n None) at ∙ empty) living)
        | inr apart ↦
            let some = was (subst IsAlive (other p apart) living) in
            let a = counts p in
            let b = outs-moved S T p mode (ap place_of (other p apart)) seek in
            omega arith
      ];
      opens = λ p h. absurd (omega arith);
      removes = λ p h. (subst (λ (x : ObjNo). is_dead (object_of S x) ≡ 1) (same_is o p (omega arith)) dead, refl);
      found = λ p h. absurd (omega arith);
      there = λ p is none. elim (cases_eq p.0 o.0) as (λ _. (is_some (object_of T p) ≡ true) × (place_of (object_of T p) ≡ place_of (object_of S p))) [
        | inl at ↦ let self : same o p ≡ 1 = ap (λ (y : ObjNo). same o y) (same_object p o at) ∙ same_self o in absurd (omega arith)
        | inr apart ↦ (ap is_some (other p apart) ∙ is, ap place_of (other p apart))
      ];
      made = omega arith;
      once = λ first.
          let bit : gone S.references.objects o ≡ 1 = ap gone_bit (row_made S.references.objects o inside) ∙ dead_gone (object_of S o) dead in
          record {
            stays = λ p. ap (λ (os : List (Option ObjectRow)). gone os p) objects
                ∙ bit-set gone_bit S.references.objects o None unmade 0 inside (omega arith) p 0 (λ z. refl) (λ z. refl);
            opens = λ p h. absurd (omega arith);
          };
      mode = mode;
      places = λ h. places-kept S T mode made long (swept-places S.references.objects T.references.objects o.0 objects) (outs-found S T seek) h;
      renews = renews-kept S T made (swept-places S.references.objects T.references.objects o.0 objects);
    }
