-- What moves do to the lives of objects, and what follows over several.
use Rattle.std.proofs.Common.{◌≡◌, inl, inr, ℕ, ◌+◌, ◌<◌, ◌≤◌, ◌++◌, length, List, true, false, arith, ap, ◌∙◌}
use Rattle.std.specs.Prelude.{is_some}
use Rattle.std.proofs.lemmas.Bool.{cases_lt}
use Rattle.sym_base.specs.declared.number.ObjNo.{ObjNo}
use Rattle.entry_log.specs.declared.effect.Effect.{Effect}
use Rattle.state_rows.specs.ObjectRows.{place_of}
use Rattle.machine.specs.declared.mode.Mode.{Mode}
use Rattle.machine.specs.declared.state.State.{State}
use Rattle.machine.specs.Out.{outs_of}
use Rattle.machine.specs.References.{count_of, pluses, minuses}
use Rattle.machine.specs.Rows.{object_of}
use Rattle.machine.specs.Told.{deaths, removals, finds}
use Rattle.machine.specs.WellFormed.{AreLives, ArePlaces, IsAlive, is_dead, sweeps_of}
use Rattle.move_laws.proofs.Lives.Bits.{gone}
use Rattle.move_laws.proofs.Lives.Places.{Renews, renews-then}
use Rattle.move_laws.proofs.References.Effects.{pluses-append, minuses-append, deaths-append, removals-append, finds-append}

-- where no number is used again, what is gone stays so, and nothing opens it
pub record IsForGood (S T : State) (effects : List Effect) : Type 0 where
  pub stays : (o : ObjNo) → gone T.references.objects o ≡ gone S.references.objects o + deaths effects o
  pub opens : (o : ObjNo) → 0 < pluses effects o → gone S.references.objects o ≡ 0

-- What moves do to the lives of objects. What holds of whole histories follows from it alone.
pub record LivesMove (S T : State) (effects : List Effect) : Type 0 where
  -- references move as the effects say
  pub counts : (o : ObjNo) → count_of T o + minuses effects o ≡ count_of S o + pluses effects o
  -- an object is dead from its death on until its sweep, which its death owes; until then it stays alive
  pub deads : (o : ObjNo) → is_dead (object_of T o) + removals effects o ≡ is_dead (object_of S o) + deaths effects o
  pub owed : (o : ObjNo) → sweeps_of T o + removals effects o ≡ sweeps_of S o + deaths effects o
  pub stays : (o : ObjNo) → IsAlive (object_of S o) → deaths effects o ≡ 0 → IsAlive (object_of T o)
  -- it dies only where its last reference is taken away; and one that is alive is referred to, or somebody is out on it, if that was so
  pub last : (o : ObjNo) → 0 < deaths effects o → (0 < minuses effects o) × (count_of T o ≡ 0)
  pub counted : (o : ObjNo) → (IsAlive (object_of S o) → 0 < count_of S o + outs_of S o) → IsAlive (object_of T o) → 0 < count_of T o + outs_of T o
  -- nothing opens an object that is dead, and what is opened is alive unless it died; only what is dead is swept
  pub opens : (o : ObjNo) → 0 < pluses effects o → (is_dead (object_of S o) ≡ 0) × (deaths effects o ≡ 0 → IsAlive (object_of T o))
  pub removes : (o : ObjNo) → 0 < removals effects o → (is_dead (object_of S o) ≡ 1) × (deaths effects o ≡ 0)
  -- only an object that is there is found, and it stays at its place until it is swept
  pub found : (o : ObjNo) → 0 < finds effects o → is_some (object_of T o) ≡ true
  pub there : (o : ObjNo) → is_some (object_of S o) ≡ true → removals effects o ≡ 0
      → (is_some (object_of T o) ≡ true) × (place_of (object_of T o) ≡ place_of (object_of S o))
  -- no number is taken back, and where none is used again no object is; and the mode stays
  pub made : length S.references.objects ≤ length T.references.objects
  pub once : S.mode.reuse ≡ false → IsForGood S T effects
  pub mode : T.mode ≡ S.mode
  -- places stay apart, and none is given again
  pub places : ArePlaces S.mode.reuse S.references → ArePlaces T.mode.reuse T.references
  pub renews : Renews S T

pub zero_or : (n : ℕ) → (0 < n → ⊥) → n ≡ 0
zero_or n h = elim (cases_lt 0 n) [ inl lt ↦ absurd (h lt) | inr le ↦ omega arith ]

for_good-then : (S T U : State) (es fs : List Effect) → IsForGood S T es → IsForGood T U fs → IsForGood S U (es ++ fs)
for_good-then S T U es fs l m = record {
  stays = λ o. let a = l.stays o in let b = m.stays o in let p = deaths-append es fs o in omega arith;
  opens = λ o h.
      let p = pluses-append es fs o in
      elim (cases_lt 0 (pluses es o)) as (λ _. gone S.references.objects o ≡ 0) [
        | inl now ↦ l.opens o now
        | inr not ↦ let a = m.opens o (omega arith) in let b = l.stays o in omega arith
      ];
}

-- Moves that sweep nothing, and others behind them that sweep nothing: a sweep is an action of its own.
pub lives-then : (S T U : State) (es fs : List Effect) → LivesMove S T es → LivesMove T U fs
    → ((o : ObjNo) → removals es o ≡ 0) → ((o : ObjNo) → removals fs o ≡ 0) → LivesMove S U (es ++ fs)
lives-then S T U es fs l m before none = record {
  counts = λ o. let a = l.counts o in let b = m.counts o in let p = pluses-append es fs o in let q = minuses-append es fs o in omega arith;
  deads = λ o. let a = l.deads o in let b = m.deads o in let p = deaths-append es fs o in let q = removals-append es fs o in omega arith;
  owed = λ o. let a = l.owed o in let b = m.owed o in let p = removals-append es fs o in let q = deaths-append es fs o in omega arith;
  stays = λ o alive h. let p = deaths-append es fs o in m.stays o (l.stays o alive (omega arith)) (omega arith);
  last = λ o h. let q = minuses-append es fs o in elim (cases_lt 0 (deaths fs o)) as (λ _. (0 < minuses (es ++ fs) o) × (count_of U o ≡ 0)) [
    | inl now ↦ let a = m.last o now in (omega arith, a.1)
    | inr not ↦
        let p = deaths-append es fs o in
        let a = l.last o (omega arith) in
        let dead = l.deads o in
        let quiet = before o in
        let counted = m.counts o in
        let unopened : pluses fs o ≡ 0 = zero_or (pluses fs o) (λ some. let b = m.opens o some in absurd (omega arith)) in (omega arith, omega arith)
  ];
  counted = λ o was alive. m.counted o (λ there. l.counted o was there) alive;
  opens = λ o h.
      let p = pluses-append es fs o in
      let q = deaths-append es fs o in
      elim (cases_lt 0 (pluses es o)) as (λ _. (is_dead (object_of S o) ≡ 0) × (deaths (es ++ fs) o ≡ 0 → IsAlive (object_of U o))) [
        | inl now ↦ let a = l.opens o now in (a.0, λ none. m.stays o (a.1 (omega arith)) (omega arith))
        | inr not ↦ let a = m.opens o (omega arith) in let b = l.deads o in let c = before o in (omega arith, λ none. a.1 (omega arith))
      ];
  removes = λ o h. let p = removals-append es fs o in let a = before o in let b = none o in absurd (omega arith);
  found = λ o h.
      let p = finds-append es fs o in
      elim (cases_lt 0 (finds es o)) as (λ _. is_some (object_of U o) ≡ true) [
        | inl now ↦ (m.there o (l.found o now) (none o)).0
        | inr not ↦ m.found o (omega arith)
      ];
  there = λ o is h. let a = l.there o is (before o) in let b = m.there o a.0 (none o) in (b.0, b.1 ∙ a.1);
  made = let a = l.made in let b = m.made in omega arith;
  once = λ first. for_good-then S T U es fs (l.once first) (m.once (ap (λ (k : Mode). k.reuse) l.mode ∙ first));
  mode = m.mode ∙ l.mode;
  places = λ h. m.places (l.places h);
  renews = renews-then S T U l.renews m.renews;
}

-- an object of which a reference is taken away dies where none is left and nobody is out on it
pub lives-dies : (S T : State) (effects : List Effect) → LivesMove S T effects → AreLives S → (o : ObjNo)
    → 0 < minuses effects o → count_of T o + outs_of T o ≡ 0 → 0 < deaths effects o
lives-dies S T effects l h o minus none = elim (cases_lt 0 (deaths effects o)) as (λ _. 0 < deaths effects o) [
  | inl some ↦ some
  | inr not ↦
      let counts = l.counts o in
      let alive : IsAlive (object_of T o) = elim (cases_lt 0 (pluses effects o)) [
        | inl opened ↦ (l.opens o opened).1 (omega arith)
        | inr closed ↦ l.stays o (h.alive o (omega arith)) (omega arith)
      ] in
      let left = l.counted o (h.counted o) alive in absurd (omega arith)
]

-- objects live by their references still
pub lives-kept : (S T : State) (effects : List Effect) → LivesMove S T effects → AreLives S → AreLives T
lives-kept S T effects l h = record {
  alive = λ o c.
      let unharmed : deaths effects o ≡ 0 = zero_or (deaths effects o) (λ d. let a = l.last o d in absurd (omega arith)) in
      elim (cases_lt 0 (pluses effects o)) as (λ _. IsAlive (object_of T o)) [
        | inl opened ↦ (l.opens o opened).1 unharmed
        | inr not ↦ let a = l.counts o in l.stays o (h.alive o (omega arith)) unharmed
      ];
  counted = λ o alive. l.counted o (h.counted o) alive;
  sweeps = λ o. let a = l.owed o in let b = h.sweeps o in let c = l.deads o in omega arith;
}
