-- The servers of an owner, one after the other.
use Rattle.std.proofs.Common.{◌≡◌, ℕ, zero, suc, ◌+◌, ◌≤◌, Bool, true, false, List, [], ◌∷◌, length, drop, get_or, set, add-one, arith, refl, sym, ap, ◌∙◌}
use Rattle.std.specs.Prelude.{Option, Some, None, is_some, option_map, slice_get, ◌==◌, ◌||◌}
use Rattle.std.specs.List.{find, list_any}
use Rattle.std.proofs.lemmas.Bool.{eq-eqb}
use Rattle.std.proofs.lemmas.List.{set-get_or}
use Rattle.sym_base.specs.declared.number.ObjNo.{ObjNo}
use Rattle.cleanup.specs.Lists.{is_object}
use Rattle.state_rows.specs.declared.servers.ServerRows.{ServerRows}
use Rattle.state_rows.specs.declared.servers.SessionRow.{SessionRow}
use Rattle.machine.specs.ServerMoves.{all_closing}
use Rattle.state_rows.specs.ServerChanges.{after_closing, after_detach, closing, detached, unlisted}
use Rattle.state_rows.specs.ServerRows.{IsServer, link_of, server_of}

-- what stands from a place on begins with what stands there
pub drop_at : {A : Type 0} (xs : List A) (k : ℕ) (x : A) → slice_get xs k ≡ Some x → drop k xs ≡ x ∷ drop (suc k) xs
drop_at [] k x at = absurd (cc)
drop_at (y ∷ xs) zero x at = let same : y ≡ x = cc in ap (λ z. z ∷ xs) same
drop_at (y ∷ xs) (suc k) x at = drop_at xs k x at

pub drop_end : {A : Type 0} (xs : List A) (k : ℕ) → slice_get xs k ≡ None → drop k xs ≡ []
drop_end [] zero at = refl
drop_end [] (suc k) at = refl
drop_end (y ∷ xs) zero at = absurd (cc)
drop_end (y ∷ xs) (suc k) at = drop_end xs k at

-- so where that fails a test, the first that passes stands behind it
pub rest_apart : {A : Type 0} (test : A → Bool) (xs : List A) (k : ℕ) (x : A) → slice_get xs k ≡ Some x → test x ≡ false
    → find test (drop k xs) ≡ find test (drop (k + 1) xs)
rest_apart test xs k x at apart = ap (find test) (drop_at xs k x at) ∙ rw (apart, add-one) refl

-- and where each comes to close, those behind it do once it is closing
pub rest_closes : (xs : List ObjNo) (k : ℕ) (x : ObjNo) (r : ServerRows) → slice_get xs k ≡ Some x
    → all_closing (drop k xs) r ≡ all_closing (drop (k + 1) xs) (after_closing r x)
rest_closes xs k x r at = ap (λ (os : List ObjNo). all_closing os r) (drop_at xs k x at) ∙ rw add-one refl

-- it is one of the list
pub owned_at : (list : List ObjNo) (k : ℕ) (o : ObjNo) → slice_get list k ≡ Some o → list_any (is_object o) list ≡ true
owned_at [] k o at = absurd (cc)
owned_at (x ∷ list) zero o at =
    let same : x ≡ o = cc in
    let is : (x.0 == o.0) ≡ true = eq-eqb x.0 o.0 (ap (λ (y : ObjNo). y.0) same) in
    rw is refl
owned_at (x ∷ list) (suc k) o at = by (x.0 == o.0) (owned_at list k o at)
  where
    by : (b : Bool) → list_any (is_object o) list ≡ true → (b || list_any (is_object o) list) ≡ true
    by true later = refl
    by false later = later

-- a list that is as long as there are places ends there
pub past_end : {A : Type 0} (xs : List A) (k : ℕ) → length xs ≤ k → slice_get xs k ≡ None
past_end [] zero few = refl
past_end [] (suc k) few = refl
past_end (x ∷ xs) zero few = absurd (omega arith)
past_end (x ∷ xs) (suc k) few = past_end xs k (omega arith)

-- a server that is closing is one still
some_map : {A : Type 0} (f : A → A) (x : Option A) → is_some (option_map f x) ≡ is_some x
some_map f None = refl
some_map f (Some x) = refl

some_kept : {A : Type 0} (f : A → A) (xs : List (Option A)) (i k : ℕ)
    → is_some (get_or (set xs i (option_map f (get_or xs i None))) k None) ≡ is_some (get_or xs k None)
some_kept f [] i k = refl
some_kept f (x ∷ xs) zero zero = some_map f x
some_kept f (x ∷ xs) zero (suc k) = refl
some_kept f (x ∷ xs) (suc i) zero = refl
some_kept f (x ∷ xs) (suc i) (suc k) = some_kept f xs i k

pub closing_keeps : (r : ServerRows) (o x : ObjNo) → IsServer r x → IsServer (after_closing r o) x
closing_keeps r o x is = some_kept closing r.servers o.0 x.0 ∙ is

-- an object that is linked to nothing is so still
same_row : (x : Option SessionRow) → link_of x ≡ None → option_map detached x ≡ x
same_row None is = refl
same_row (Some row) is = ap (λ (server : Option ObjNo). Some (record row { server = server })) (sym is)

pub detached_none : (r : ServerRows) (s : ObjNo) → server_of r s ≡ None → after_detach r s ≡ r
detached_none r s is =
    let row = same_row (get_or r.sessions s.0 None) is in
    let sessions : set r.sessions s.0 (option_map detached (get_or r.sessions s.0 None)) ≡ r.sessions =
    ap (set r.sessions s.0) row ∙ set-get_or r.sessions s.0 None in
    let linked : unlisted (server_of r s) s r.linked ≡ r.linked = ap (λ (server : Option ObjNo). unlisted server s r.linked) is in
    ap (λ (rows : List (Option SessionRow)). let made : ServerRows = record r
    { sessions = rows; linked = unlisted (server_of r s) s r.linked } in made) sessions
    ∙ ap (λ (lists : List (List ObjNo)). let made : ServerRows = record r { linked = lists } in made) linked
