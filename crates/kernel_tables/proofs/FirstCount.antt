-- How kept counts move where an object is made with one reference, and where a reference comes or goes.
use Rattle.std.proofs.Common.{◌≡◌, ◌⊎◌, inl, inr, ℕ, suc, zero, ◌+◌, ◌-◌, ◌<◌, Bool, true, false, List, [], ◌∷◌, length, get_or, arith, refl, sym, ap, ◌∙◌}
use Rattle.std.specs.Prelude.{slice_set, slice_index}
use Rattle.std.proofs.lemmas.Bool.{cases_eq}
use Rattle.std.proofs.lemmas.List.{get_or-set_same, get_or-set_other, length-set}
use Rattle.sym_base.specs.declared.number.ObjNo.{ObjNo}
use Rattle.entry_log.specs.declared.effect.Holder.{Holder}
use Rattle.entry_log.specs.declared.effect.Effect.TheVariants.{Plus, Accept}
use Rattle.sym_base.specs.declared.number.MsgNo.{MsgNo}
use Rattle.machine.specs.declared.nano_move.NanoMove.{NanoMove}
use Rattle.machine.specs.declared.nano_move.NanoMove.TheVariants as nano
use Rattle.machine.specs.declared.request_move.RequestMove.{RequestMove}
use Rattle.machine.specs.declared.request_move.RequestMove.TheVariants as request
use Rattle.machine.specs.Moves.{closed_effects}
use Rattle.machine.specs.NanoMoves.{nano_told}
use Rattle.machine.specs.RequestMoves.{request_told}
use Rattle.machine.specs.References.{same}
use Rattle.move_laws.proofs.References.Same.{same_self, same_other, same_object}
use Rattle.kernel_tables.specs.Counts.{CountsMove}

-- a count that changes moves only at its object
at_one : (counts : List ℕ) (x : ObjNo) (n : ℕ) (o : ObjNo) → x.0 < length counts
    → ((get_or counts o.0 0 ≡ get_or counts x.0 0) × (get_or (slice_set counts x.0 n) o.0 0 ≡ n) × (same x o ≡ 1))
    ⊎ ((get_or (slice_set counts x.0 n) o.0 0 ≡ get_or counts o.0 0) × (same x o ≡ 0))
at_one counts x n o lt = elim (cases_eq x.0 o.0) [
  | inl e ↦
      inl (
        ap (λ i. get_or counts i 0) (sym e),
        ap (λ i. get_or (slice_set counts x.0 n) i 0) (sym e) ∙ get_or-set_same counts x.0 n 0 lt,
        ap (λ p. same x p) (sym (same_object x o e)) ∙ same_self x,
      )
  | inr apart ↦ inr (get_or-set_other counts x.0 o.0 n 0 (λ q. apart (sym q)), same_other x o apart)
]

pub inside_of : (counts : List ℕ) (i : ℕ) → 0 < get_or counts i 0 → i < length counts
inside_of [] i h = absurd (omega arith)
inside_of (n ∷ counts) zero h = omega arith
inside_of (n ∷ counts) (suc i) h = let r = inside_of counts i h in omega arith

-- the first reference of an object
pub counts-first : (counts : List ℕ) (x : ObjNo) (holder : Holder) → slice_index counts x.0 ≡ 0
    → slice_index (slice_set counts x.0 1) x.0 ≡ 1 → CountsMove counts (slice_set counts x.0 1) (Plus holder x ∷ [])
counts-first counts x holder none one o =
    let long = length-set counts x.0 1 in
    let inside = inside_of (slice_set counts x.0 1) x.0 (omega arith) in
    elim (at_one counts x 1 o (omega arith)) [ inl h ↦ omega arith | inr h ↦ omega arith ]

-- one reference more
pub counts-next : (counts : List ℕ) (x : ObjNo) (holder : Holder) → x.0 < length counts
    → CountsMove counts (slice_set counts x.0 (slice_index counts x.0 + 1)) (Plus holder x ∷ [])
counts-next counts x holder within o =
    elim (at_one counts x (slice_index counts x.0 + 1) o within) [ inl h ↦ omega arith | inr h ↦ omega arith ]

pub counts-more : (counts : List ℕ) (x : ObjNo) (holder : Holder) → 0 < slice_index counts x.0
    → CountsMove counts (slice_set counts x.0 (slice_index counts x.0 + 1)) (Plus holder x ∷ [])
counts-more counts x holder some = counts-next counts x holder (inside_of counts x.0 some)

-- one less, the last or not
pub counts-less : (counts : List ℕ) (x : ObjNo) (holder : Holder) (last : Bool) → 0 < slice_index counts x.0
    → CountsMove counts (slice_set counts x.0 (slice_index counts x.0 - 1)) (closed_effects last holder x)
counts-less counts x holder true some o =
    elim (at_one counts x (slice_index counts x.0 - 1) o (inside_of counts x.0 some)) [ inl h ↦ omega arith | inr h ↦ omega arith ]
counts-less counts x holder false some o =
    elim (at_one counts x (slice_index counts x.0 - 1) o (inside_of counts x.0 some)) [ inl h ↦ omega arith | inr h ↦ omega arith ]

-- moves of threads that synchronize tell of no reference
pub nano_counts : (counts : List ℕ) (m : NanoMove) → CountsMove counts counts (nano_told m)
nano_counts counts (nano.Take t f) o = refl
nano_counts counts (nano.Give t f) o = refl
nano_counts counts _ o = refl

-- nor do moves in the table of requests
pub request_counts : (counts : List ℕ) (m : RequestMove) → CountsMove counts counts (request_told m)
request_counts counts (request.Complete d t s code) o = refl
request_counts counts (request.Signal t s code) o = refl
request_counts counts (request.Reply t code) o = refl
request_counts counts _ o = refl

-- two references more
pub counts-two : (counts : List ℕ) (x y : ObjNo) (m : MsgNo) (holder : Holder) → 0 < slice_index counts x.0
    → 0 < slice_index counts y.0 → let first = slice_set counts x.0 (slice_index counts x.0 + 1) in
    CountsMove counts (slice_set first y.0 (slice_index first y.0 + 1)) (Accept m ∷ Plus holder x ∷ Plus holder y ∷ [])
counts-two counts x y m holder some more o =
    let first = slice_set counts x.0 (slice_index counts x.0 + 1) in
    let a = counts-more counts x holder some o in
    let there = counts-more counts x holder some y in
    let b = counts-more first y holder (omega arith) o in omega arith
