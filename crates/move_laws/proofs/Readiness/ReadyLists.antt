-- Lists of threads in which each stands once.
use Rattle.std.proofs.Common.{◌≡◌, List, [], ◌∷◌, ◌++◌, refl, sym, ap, ◌∙◌, Bool, true, false}
use Rattle.std.specs.Prelude.{◌==◌, ◌&&◌, ◌||◌, if◌then◌else◌, filter}
use Rattle.std.proofs.lemmas.Bool.{eqb-true, eqb-false, eq-eqb, ne_eqb, or_parts, or_from, or_left, or_right, and_right}
use Rattle.sym_base.specs.declared.number.ObjNo.{ObjNo}
use Rattle.machine.specs.Arrivals.{is_listed}
use Rattle.machine.specs.WellFormed.{AreApart}
use Rattle.move_laws.proofs.References.Same.{same_object}

filter_step : (p : ObjNo → Bool) (q u : ObjNo) (rest kept : List ObjNo) (here pq pu : Bool) → (q.0 == u.0) ≡ here
    → p q ≡ pq → p u ≡ pu → is_listed kept u ≡ (is_listed rest u && pu)
    → is_listed (if pq then q ∷ kept else kept) u ≡ ((here || is_listed rest u) && pu)
filter_step p q u rest kept true true true e f g h = or_left (q.0 == u.0) (is_listed kept u) e
filter_step p q u rest kept true false false e f g h = h ∙ and_right (is_listed rest u) false refl
filter_step p q u rest kept true true false e f g h = let same : p q ≡ p u = ap p (same_object q u (eqb-true q.0 u.0 e)) in absurd (cc)
filter_step p q u rest kept true false true e f g h = let same : p q ≡ p u = ap p (same_object q u (eqb-true q.0 u.0 e)) in absurd (cc)
filter_step p q u rest kept false true pu e f g h = ap (λ (b : Bool). b || is_listed kept u) e ∙ h
filter_step p q u rest kept false false pu e f g h = h

-- of those that a test keeps, a thread is one where it was, and passes
pub listed-filter : (p : ObjNo → Bool) (qs : List ObjNo) (u : ObjNo) → is_listed (filter p qs) u ≡ (is_listed qs u && p u)
listed-filter p [] u = refl
listed-filter p (q ∷ qs) u = filter_step p q u qs (filter p qs) (q.0 == u.0) (p q) (p u) refl refl refl (listed-filter p qs u)

push_step : (q x u : ObjNo) (qs : List ObjNo) (here : Bool) → (q.0 == u.0) ≡ here → (here || is_listed qs u) ≡ true
    → (is_listed qs u ≡ true → is_listed (qs ++ x ∷ []) u ≡ true) → ((q.0 == u.0) || is_listed (qs ++ x ∷ []) u) ≡ true
push_step q x u qs true e h rest = or_left (q.0 == u.0) (is_listed (qs ++ x ∷ []) u) e
push_step q x u qs false e h rest = or_right (q.0 == u.0) (is_listed (qs ++ x ∷ []) u) (rest h)

-- whoever is listed is listed still with more behind
pub listed-push : (qs : List ObjNo) (x u : ObjNo) → is_listed qs u ≡ true → is_listed (qs ++ x ∷ []) u ≡ true
listed-push [] x u h = absurd (cc)
listed-push (q ∷ qs) x u h = push_step q x u qs (q.0 == u.0) refl h (listed-push qs x u)

-- and the one behind is
pub listed-last : (qs : List ObjNo) (x u : ObjNo) → x.0 ≡ u.0 → is_listed (qs ++ x ∷ []) u ≡ true
listed-last [] x u e = or_left (x.0 == u.0) false (eq-eqb x.0 u.0 e)
listed-last (q ∷ qs) x u e = or_right (q.0 == u.0) (is_listed (qs ++ x ∷ []) u) (listed-last qs x u e)

-- whoever isn't listed, and isn't the one behind, isn't listed then
pub unlisted-push : (qs : List ObjNo) (x u : ObjNo) → is_listed qs u ≡ false → (x.0 ≡ u.0 → ⊥) → is_listed (qs ++ x ∷ []) u ≡ false
unlisted-push [] x u none apart = or_from (x.0 == u.0) false (ne_eqb x.0 u.0 apart) refl
unlisted-push (q ∷ qs) x u none apart =
    let parts = or_parts (q.0 == u.0) (is_listed qs u) none in or_from (q.0 == u.0) (is_listed (qs ++ x ∷ []) u) parts.0 (unlisted-push qs x u parts.1 apart)

pub apart-push : (qs : List ObjNo) (x : ObjNo) → AreApart qs → is_listed qs x ≡ false → AreApart (qs ++ x ∷ [])
apart-push [] x h none = (refl, tt)
apart-push (q ∷ qs) x h none =
    let parts = or_parts (q.0 == x.0) (is_listed qs x) none in (unlisted-push qs x q h.0 (λ e. eqb-false q.0 x.0 parts.0 (sym e)), apart-push qs x h.1 parts.1)

apart_filter_step : (q : ObjNo) (kept : List ObjNo) (b : Bool) → is_listed kept q ≡ false → AreApart kept → AreApart (if b then q ∷ kept else kept)
apart_filter_step q kept true none h = (none, h)
apart_filter_step q kept false none h = h

pub apart-filter : (p : ObjNo → Bool) (qs : List ObjNo) → AreApart qs → AreApart (filter p qs)
apart-filter p [] h = tt
apart-filter p (q ∷ qs) h = apart_filter_step q (filter p qs) (p q) (listed-filter p qs q ∙ ap (λ (b : Bool). b && p q) h.0) (apart-filter p qs h.1)
