-- What a thread's death gives up next.
use Rattle.std.proofs.Common.{◌≡◌, ℕ, suc, ◌+◌, ◌<◌, Bool, true, false, List, [], ◌∷◌, ◌++◌, map, refl, sym, ap, ◌∙◌, get_or, length, inl, inr, add-one}
use Rattle.std.specs.Prelude.{Option, Some, None, option_map, slice_get}
use Rattle.sym_base.specs.declared.number.ObjNo.{ObjNo}
use Rattle.state_rows.specs.declared.duty.Held.{Held}
use Rattle.state_rows.specs.declared.duty.Held.TheVariants.{Mutex, Server, Temp, Logon}
use Rattle.cleanup.specs.Lists.{listed, behind, is_object}
use Rattle.cleanup.specs.Nodes.{object}
use Rattle.links.specs.Linked.{holds}
use Rattle.links.proofs.Seen.{seen_at, seen_holds}
use Rattle.std.specs.List.{list_any}
use Rattle.std.proofs.lemmas.List.Folds.{list_any_at}
use Rattle.std.proofs.lemmas.List.{length-map}
use Rattle.std.proofs.lemmas.Bool.{cases_Bool, eqb-true}
use Rattle.std.proofs.lemmas.Option.{slice_get-map}

module _ (mutexes servers : List ObjNo) (temporary : Option ObjNo) (logons : List (ObjNo × ℕ)) where
  abbrev given_up : List Held
  given_up =
      map (λ o. Mutex o) mutexes ++ map (λ o. Server o) servers ++ listed temporary ++ map (λ (logon : ObjNo × ℕ). Logon logon.0 logon.1) logons

-- a list without a first element is empty
empty_from : {X : Type 0} (xs : List X) → None ≡ slice_get xs 0 → xs ≡ []
empty_from [] none = refl
empty_from (x ∷ xs) none = absurd (cc)

pub mutex_next : (mutexes servers : List ObjNo) (temporary : Option ObjNo) (logons : List (ObjNo × ℕ)) (o : ObjNo)
    → Some o ≡ slice_get mutexes 0 → Some (Mutex o) ≡ slice_get (given_up mutexes servers temporary logons) 0
mutex_next [] servers temporary logons o is = absurd (cc)
mutex_next (x ∷ rest) servers temporary logons o is = let same : o ≡ x = cc in rw same refl

pub server_next : (mutexes servers : List ObjNo) (temporary : Option ObjNo) (logons : List (ObjNo × ℕ)) (o : ObjNo)
    → None ≡ slice_get mutexes 0 → Some o ≡ slice_get servers 0
    → Some (Server o) ≡ slice_get (given_up mutexes servers temporary logons) 0
server_next (x ∷ rest) servers temporary logons o none is = absurd (cc)
server_next [] [] temporary logons o none is = absurd (cc)
server_next [] (x ∷ rest) temporary logons o none is = let same : o ≡ x = cc in rw same refl

pub temporary_next : (mutexes servers : List ObjNo) (temporary : Option ObjNo) (logons : List (ObjNo × ℕ)) (o : ObjNo)
    → None ≡ slice_get mutexes 0 → None ≡ slice_get servers 0 → temporary ≡ Some o
    → Some (Temp o) ≡ slice_get (given_up mutexes servers temporary logons) 0
temporary_next mutexes servers temporary logons o none none' is =
    rw (empty_from mutexes none, empty_from servers none', is) refl

pub logon_next : (mutexes servers : List ObjNo) (temporary : Option ObjNo) (logons : List (ObjNo × ℕ))
    (r : Option (ObjNo × ℕ))
    → None ≡ slice_get mutexes 0 → None ≡ slice_get servers 0 → temporary ≡ None → r ≡ slice_get logons 0
    → option_map (λ (logon : ObjNo × ℕ). Logon logon.0 logon.1) r
    ≡ slice_get (given_up mutexes servers temporary logons) 0
logon_next mutexes servers temporary logons r none none' unused is =
    rw (empty_from mutexes none, empty_from servers none', unused, is) (sym (slice_get-map (λ (logon : ObjNo × ℕ). Logon logon.0 logon.1) logons 0))

-- what stands behind an object is what stands at the place after it, wherever it stands
pub behind_is : (o : ObjNo) (list : List ObjNo) (r : Option ObjNo) → list_any (is_object o) list ≡ true
    → ((place : ℕ) → slice_get list place ≡ Some o → r ≡ slice_get list (suc place)) → r ≡ behind o list
behind_is o [] r own follows = absurd (cc)
behind_is o (x ∷ rest) r own follows =
    elim (cases_Bool (is_object o x)) [
      | inl here ↦
          let same : x.0 ≡ o.0 = eqb-true x.0 o.0 here in
          let is : x ≡ o = ap (λ (n : ℕ). let made : ObjNo = record { 0 = n } in made) same in
          rw here (follows 0 (ap Some is))
      | inr there ↦ rw there (behind_is o rest r (rw there at own) (λ place at. follows (suc place) at))
    ]

-- a node that stands for an object has its number
unseen : (o : ObjNo) (r : Option ℕ) → option_map object r ≡ Some o → r ≡ Some o.0
unseen o None is = absurd (cc)
unseen o (Some n) is = let same : object n ≡ o = cc in ap (λ (made : ObjNo). Some made.0) same

-- so what stands behind a node stands behind its object
pub behind_seen : (lists : List (List ℕ)) (l : ℕ) (o : ObjNo) (r : Option ℕ)
    → list_any (is_object o) (get_or (map (map object) lists) l []) ≡ true
    → ((list place : ℕ) → slice_get (get_or lists list []) place ≡ Some o.0 → r
    ≡ slice_get (get_or lists list []) (place + 1))
    → option_map object r ≡ behind o (get_or (map (map object) lists) l [])
behind_seen lists l o r own follows =
    let list = get_or lists l [] in
    let seen = seen_at object lists l in
    rw seen (behind_is o (map object list) (option_map object r) (rw seen at own) (λ place at.
    let stands = unseen o (slice_get list place) (sym (slice_get-map object list place) ∙ at) in
    let next : r ≡ slice_get list (suc place) = rw add-one at (follows l place stands) in
    ap (option_map object) next ∙ sym (slice_get-map object list (suc place))))

-- and a server that a thread owns is on some list
pub owned_held : (lists : List (List ℕ)) (l : ℕ) (o : ObjNo) → l < length lists
    → list_any (is_object o) (get_or (map (map object) lists) l []) ≡ true → list_any (holds o.0) lists ≡ true
owned_held lists l o listed own =
    list_any_at (holds o.0) lists l [] listed (sym (seen_holds object (is_object o) o.0 (λ m. refl) (get_or lists l [])) ∙ rw (seen_at object lists l) at own)

-- and nothing stands behind the object at the list's end alone
pub none_seen : (lists : List (List ℕ)) (l : ℕ) (o : ObjNo) (none : Bool)
    → ((list place : ℕ) → slice_get (get_or lists list []) place ≡ Some o.0
    → (none ≡ false → place + 1 ≡ length (get_or lists list []))
    × (place + 1 ≡ length (get_or lists list []) → none ≡ false))
    → (place : ℕ) → slice_get (get_or (map (map object) lists) l []) place ≡ Some o
    → (none ≡ false → place + 1 ≡ length (get_or (map (map object) lists) l []))
    × (place + 1 ≡ length (get_or (map (map object) lists) l []) → none ≡ false)
none_seen lists l o none last place at =
    let list = get_or lists l [] in
    let seen = seen_at object lists l in
    let stands = unseen o (slice_get list place) (sym (slice_get-map object list place) ∙ rw seen at at) in
    rw (seen, length-map) (last l place stands)

-- what stands behind a node's object is the object of what stands behind the node
pub walk_seen : (lists : List (List ℕ)) (l : ℕ) (o : ObjNo) (r : Option ℕ)
    → ((list place : ℕ) → slice_get (get_or lists list []) place ≡ Some o.0 → r
    ≡ slice_get (get_or lists list []) (place + 1))
    → (place : ℕ) → slice_get (get_or (map (map object) lists) l []) place ≡ Some o
    → option_map object r ≡ slice_get (get_or (map (map object) lists) l []) (place + 1)
walk_seen lists l o r follows place at =
    let list = get_or lists l [] in
    let seen = seen_at object lists l in
    let stands = unseen o (slice_get list place) (sym (slice_get-map object list place) ∙ rw seen at at) in
    rw seen (ap (option_map object) (follows l place stands) ∙ sym (slice_get-map object list (place + 1)))
