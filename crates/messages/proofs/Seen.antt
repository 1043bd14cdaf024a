-- What contracts see of the messages, as they change.
use Rattle.std.proofs.Common.{◌≡◌, ℕ, ◌≤◌, arith, Bool, true, false, not, eqb, List, [], ◌∷◌, get_or, map, refl, sym, ap, subst, ◌∙◌, inl, inr}
use Rattle.std.specs.Prelude.{Option, Some, None, is_some, option_map, All, filter, slice_get}
use Rattle.std.specs.List.{find}
use Rattle.std.proofs.lemmas.Bool.{cases_Bool, eqb-true}
use Rattle.std.proofs.lemmas.List.{get_or_past, length-map}
use Rattle.links.specs.Linked.{Linked, unlinked, without}
use Rattle.std.proofs.lemmas.List.Elements.{All-filter, All-head, All-tail}
use Rattle.sym_base.specs.declared.number.MsgNo.{MsgNo}
use Rattle.state_rows.specs.declared.messages.MsgRow.{MsgRow}
use Rattle.state_rows.specs.declared.messages.Message.{Message}
use Rattle.messages.specs.declared.records.Stored.{Stored}
use Rattle.state_rows.specs.MessageRows.{has_number}
use Rattle.state_rows.specs.MessageChanges.{after_finish, edited, number_of}
use Rattle.messages.specs.Kept.{Store, has_key, is_numbered, with_row}
use Rattle.messages.specs.Queued.{AreQueued, keys_where, rows_of}
use Rattle.messages.proofs.Lists.{filter_seen, find_seen}

abbrev pub messages : List Stored → List Message
messages stored = map (λ (one : Stored). one.message) stored

-- the row of the message of a number is changed
pub seen_edited : (m : MsgNo) (change : MsgRow → MsgRow) (one : Stored) → (stored : List Stored)
    → All (λ other. has_key one.key other ≡ is_numbered m other) stored
    → All (λ other. other.key ≡ one.key → other ≡ one) stored
    → messages (map (with_row one.key (change one.message.row)) stored) ≡ map (edited m change) (messages stored)
seen_edited m change one [] alike same = refl
seen_edited m change one (x ∷ xs) alike same =
    let rest = seen_edited m change one xs (All-tail (λ other. has_key one.key other ≡ is_numbered m other) x xs alike)
    (All-tail (λ (other : Stored). other.key ≡ one.key → other ≡ one) x xs same) in
    let here : eqb x.key one.key ≡ has_number m x.message = All-head (λ other. has_key one.key other ≡ is_numbered m other) x xs alike in
    elim (cases_Bool (eqb x.key one.key)) [
      | inl is ↦
          let it : x ≡ one = All-head (λ (other : Stored). other.key ≡ one.key → other ≡ one) x xs same (eqb-true x.key one.key is) in
          let row : record x.message { row = change one.message.row }
          ≡ record x.message { row = change x.message.row } =
          ap (λ (other : Stored). record x.message { row = change other.message.row }) (sym it) in
          let numbered : has_number m x.message ≡ true = sym here ∙ is in
          rw (is, numbered, row, rest) refl
      | inr apart ↦
          let other : has_number m x.message ≡ false = sym here ∙ apart in
          rw (apart, other, rest) refl
    ]

-- the first message that passes a test is that of the first key
pub seen_first : (test : Message → Bool) (one : Stored) (stored : List Stored)
    → slice_get (keys_where test stored) 0 ≡ Some one.key → All (λ other. other.key ≡ one.key → other ≡ one) stored
    → Some one.message.number ≡ number_of (slice_get (filter test (messages stored)) 0)
seen_first test one stored at same =
    rw (filter_seen test (λ (other : Stored). other.message) stored)
    (first (filter (λ other. test other.message) stored) at
    (All-filter (λ other. test other.message) (λ (other : Stored). other.key ≡ one.key → other ≡ one) stored same))
  where
    first : (kept : List Stored) → slice_get (map (λ (other : Stored). other.key) kept) 0 ≡ Some one.key
        → All (λ other. other.key ≡ one.key → other ≡ one) kept → Some one.message.number
        ≡ number_of (slice_get (messages kept) 0)
    first [] none all = absurd (cc)
    first (x ∷ xs) some all =
        let is : x.key ≡ one.key = cc in
        ap (λ (other : Stored). Some other.message.number) (sym (All-head (λ (other : Stored). other.key ≡ one.key → other ≡ one) x xs all is))

-- there is none exactly where there is no key
pub seen_none : (test : Message → Bool) (stored : List Stored) → slice_get (keys_where test stored) 0 ≡ None → filter test (messages stored) ≡ []
seen_none test stored at =
    rw (filter_seen test (λ (other : Stored). other.message) stored) (none (filter (λ other. test other.message) stored) at)
  where
    none : (kept : List Stored) → slice_get (map (λ (other : Stored). other.key) kept) 0 ≡ None → messages kept ≡ []
    none [] at = refl
    none (x ∷ xs) at = absurd (cc)

-- where one is seen first, some are seen
pub seen_some : (test : Message → Bool) (one : Stored) (stored : List Stored)
    → slice_get (keys_where test stored) 0 ≡ Some one.key → All (λ other. other.key ≡ one.key → other ≡ one) stored
    → (true ≡ false → filter test (messages stored) ≡ []) × (filter test (messages stored) ≡ [] → true ≡ false)
seen_some test one stored at same =
    let some = seen_first test one stored at same in
    (λ no. absurd (cc), λ empty. let no : Some one.message.number ≡ None = rw empty at some in absurd (cc))

-- the message of a number
pub seen_of : (m : MsgNo) (stored : List Stored) (r : Option Stored) → r ≡ find (is_numbered m) stored
    → find (has_number m) (messages stored) ≡ option_map (λ (one : Stored). one.message) r
seen_of m stored r is =
    find_seen (has_number m) (λ (one : Stored). one.message) stored ∙ ap (option_map (λ (one : Stored). one.message)) (sym is)

pub seen_there : (m : MsgNo) (stored : List Stored) (r : Option Stored) → r ≡ find (is_numbered m) stored
    → is_some (find (has_number m) (messages stored)) ≡ true → r ≡ None → ⊥
seen_there m stored r is some none =
    let no : false ≡ true = rw (seen_of m stored r is, none) at some in absurd (cc)

-- what is found has the number, so what tells its number from the others' tells the number that was looked for
found_number : (m : MsgNo) (stored : List Stored) (one : Stored) → Some one ≡ find (is_numbered m) stored → one.message.number.0 ≡ m.0
found_number m [] one is = absurd (cc)
found_number m (x ∷ xs) one is =
    elim (cases_Bool (has_number m x.message)) [
      | inl here ↦
          let first : Some one ≡ Some x = rw here at is in
          let it : x ≡ one = cc in
          ap (λ (other : Stored). other.message.number.0) (sym it) ∙ eqb-true x.message.number.0 m.0 here
      | inr there ↦ found_number m xs one (rw there at is)
    ]

pub alike_found : (m : MsgNo) (stored : List Stored) (one : Stored) → Some one ≡ find (is_numbered m) stored
    → All (λ other. has_key one.key other ≡ is_numbered one.message.number other) stored
    → All (λ other. has_key one.key other ≡ is_numbered m other) stored
alike_found m stored one is alike k d inside =
    alike k d inside ∙ ap (eqb (get_or stored k d).message.number.0) (found_number m stored one is)

-- what the rows are once a message is gone
pub rows_gone : (m : MsgNo) (key pool accepted : ℕ) (store : Store) (outstanding : Linked)
    → rows_of pool accepted (record store { stored = filter (λ one. not (is_numbered m one)) store.stored })
    (unlinked outstanding key) ≡ after_finish (rows_of pool accepted store outstanding) m
rows_gone m key pool accepted store outstanding =
    rw (length-map outstanding.lists (without key), filter_seen (λ message. not (has_number m message)) (λ (one : Stored). one.message) store.stored) refl

-- a server past the lists has no messages
pub past_none : (test : ℕ → Message → Bool) (store : Store) (objects server : ℕ) (links : Linked)
    → AreQueued test store objects links → objects ≤ server → filter (test server) (messages store.stored) ≡ []
past_none test store objects server links are past =
    let none : slice_get (get_or links.lists server []) 0
    ≡ None = ap (λ (keys : List ℕ). slice_get keys 0) (get_or_past links.lists server [] (omega (arith, are.lists))) in
    seen_none (test server) store.stored (rw (are.listed server) at none)

-- what holds of all messages holds of the one that is found
pub found_all : {A : Type 0} (P : A → Type 0) (test : A → Bool) (xs : List A) (x : A) → find test xs ≡ Some x → All P xs → P x
found_all P test [] x is all = absurd (cc)
found_all P test (y ∷ ys) x is all =
    elim (cases_Bool (test y)) [
      | inl passes ↦
          let some = rw passes at is in
          let same : y ≡ x = cc in
          subst P same (All-head P y ys all)
      | inr fails ↦ found_all P test ys x (rw fails at is) (All-tail P y ys all)
    ]
