-- The first of the highest queue that isn't empty.
use Rattle.std.proofs.Common.{◌≡◌, ℕ, zero, suc, ◌+◌, ◌<◌, List, [], ◌∷◌, length, get_or, drop, refl, sym, ◌∙◌, add-one, drop-cons, true}
use Rattle.std.specs.Prelude.{Option, Some, None, All, slice_get, is_some}
use Rattle.std.proofs.lemmas.List.Elements.{All-nil, All-cons, All-head, All-tail}
use Rattle.sym_base.specs.declared.number.ObjNo.{ObjNo}
use Rattle.ready_list.specs.Ready.{or_else, first_of_highest}

-- one queue more
pub highest_more : (queues : List (List ObjNo)) (p : ℕ) → p < length queues
    → first_of_highest (drop p queues) ≡ or_else (first_of_highest (drop (p + 1) queues))
    (slice_get (get_or queues p []) 0)
highest_more queues p inside = rw (add-one, drop-cons queues p []) refl

-- the first of the higher queues is the first of all
pub highest_drop : (queues : List (List ObjNo)) (p : ℕ) (t : ObjNo) → first_of_highest (drop p queues) ≡ Some t → first_of_highest queues ≡ Some t
highest_drop queues zero t is = is
highest_drop [] (suc p) t is = is
highest_drop (queue ∷ queues) (suc p) t is = rw (highest_drop queues p t is) refl

-- nobody is ready where each queue is empty
pub highest_empty : (queues : List (List ObjNo)) → All (λ queue. queue ≡ []) queues → first_of_highest queues ≡ None
highest_empty [] all = refl
highest_empty (queue ∷ queues) all =
    let here : queue ≡ [] = All-head (λ (q : List ObjNo). q ≡ []) queue queues all in
    rw (here, highest_empty queues (All-tail (λ (q : List ObjNo). q ≡ []) queue queues all)) refl

-- a queue with no first is empty
empty_queue : (queue : List ObjNo) → slice_get queue 0 ≡ None → queue ≡ []
empty_queue [] none = refl
empty_queue (t ∷ queue) none = absurd (cc)

-- neither has one
neither : (a b : Option ObjNo) → or_else a b ≡ None → (a ≡ None) × (b ≡ None)
neither (Some t) b none = absurd (cc)
neither None b none = (refl, none)

-- each queue is empty where nobody is ready
pub empty_highest : (queues : List (List ObjNo)) → first_of_highest queues ≡ None → All (λ queue. queue ≡ []) queues
empty_highest [] none = All-nil (λ (q : List ObjNo). q ≡ [])
empty_highest (queue ∷ queues) none =
    let both = neither (first_of_highest queues) (slice_get queue 0) none in
    All-cons (λ (q : List ObjNo). q ≡ []) queue queues (empty_queue queue both.1) (empty_highest queues both.0)

-- the first of a queue above which all are empty is the first of the highest
pub found_highest : (queues : List (List ObjNo)) (p : ℕ) (first : Option ObjNo) → p < length queues
    → first_of_highest (drop (p + 1) queues) ≡ None → first ≡ slice_get (get_or queues p []) 0 → is_some first ≡ true
    → first ≡ first_of_highest queues
found_highest queues p None inside above is some = absurd (cc)
found_highest queues p (Some t) inside above is some =
    let here : first_of_highest (drop p queues) ≡ Some t = highest_more queues p inside ∙ rw (above, ← is) refl in
    sym (highest_drop queues p t here)
