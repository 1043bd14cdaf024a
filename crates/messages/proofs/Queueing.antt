-- The queues of keys, as messages come, change and go.
use Rattle.std.proofs.Common.{◌≡◌, ℕ, ◌≤◌, Bool, true, false, not, eqb, List, [], ◌∷◌, length, get_or, map, refl, sym, ap, ◌∙◌, inl, inr, eq-eqb}
use Rattle.std.specs.Prelude.{Some, is_some, All, filter, slice_get}
use Rattle.std.specs.List.{find, list_any}
use Rattle.std.proofs.Math.ListN.{get_or-map}
use Rattle.std.proofs.lemmas.Bool.{cases_Bool, eqb-true}
use Rattle.std.proofs.lemmas.List.{length-map}
use Rattle.std.proofs.lemmas.List.Elements.{All-filter, All-head, All-map, All-tail}
use Rattle.std.proofs.lemmas.Option.{slice_get_within, get_or_from_slice_get}
use Rattle.links.specs.Linked.{Linked, holds, unlinked, without}
use Rattle.links.proofs.Marks.{place_of}
use Rattle.state_rows.specs.declared.messages.MsgRow.{MsgRow}
use Rattle.state_rows.specs.declared.messages.Message.{Message}
use Rattle.messages.specs.declared.records.Stored.{Stored}
use Rattle.sym_base.specs.declared.number.MsgNo.{MsgNo}
use Rattle.state_rows.specs.MessageRows.{is_at, waits_at}
use Rattle.messages.specs.Kept.{Store, has_key, is_numbered, with_row}
use Rattle.messages.specs.Queued.{AreMessages, AreQueued, keys_where}
use Rattle.std.proofs.Math.Bool.{and-false}

module _ (test : Message → Bool) where
  -- a message that goes is gone among them
  pub where_gone : (key : ℕ) (gone : Stored → Bool) (stored : List Stored)
      → All (λ other. has_key key other ≡ gone other) stored
      → keys_where test (filter (λ one. not (gone one)) stored) ≡ without key (keys_where test stored)
  where_gone key gone [] told = refl
  where_gone key gone (x ∷ xs) told =
      let here : eqb x.key key ≡ gone x = All-head (λ other. has_key key other ≡ gone other) x xs told in
      let rest = where_gone key gone xs (All-tail (λ other. has_key key other ≡ gone other) x xs told) in
      elim (cases_Bool (gone x)) [
        | inl goes ↦
            let same : eqb x.key key ≡ true = here ∙ goes in
            elim (cases_Bool (test x.message)) [
              | inl passes ↦ rw (goes, passes, same) rest
              | inr fails ↦ rw (goes, fails) rest
            ]
        | inr stays ↦
            let apart : eqb x.key key ≡ false = here ∙ stays in
            elim (cases_Bool (test x.message)) [
              | inl passes ↦ rw (stays, passes, apart) (ap (λ (all : List ℕ). x.key ∷ all) rest)
              | inr fails ↦ rw (stays, fails) rest
            ]
      ]

  -- a row that changes and passes as before changes nothing
  pub where_same : (key : ℕ) (row : MsgRow) (stored : List Stored)
      → All (λ other. other.key ≡ key → test (record other.message { row = row }) ≡ test other.message) stored
      → keys_where test (map (with_row key row) stored) ≡ keys_where test stored
  where_same key row [] told = refl
  where_same key row (x ∷ xs) told =
      let rest = where_same key row xs (All-tail (λ other. other.key ≡ key → test (record other.message { row = row }) ≡ test other.message) x xs told) in
      elim (cases_Bool (eqb x.key key)) [
        | inl same ↦
            let here : test (record x.message { row = row }) ≡ test x.message =
            All-head (λ other. other.key ≡ key → test (record other.message { row = row }) ≡ test other.message) x xs
            told (eqb-true x.key key same) in
            elim (cases_Bool (test x.message)) [
              | inl passes ↦ rw (same, here, passes) (ap (λ (all : List ℕ). x.key ∷ all) rest)
              | inr fails ↦ rw (same, here, fails) rest
            ]
        | inr apart ↦ elim (cases_Bool (test x.message)) [
          | inl passes ↦ rw (apart, passes) (ap (λ (all : List ℕ). x.key ∷ all) rest)
          | inr fails ↦ rw (apart, fails) rest
        ]
      ]

  -- and one that passes no more is gone
  pub where_left : (key : ℕ) (row : MsgRow) → ((message : Message) → test (record message { row = row }) ≡ false)
      → (stored : List Stored) → keys_where test (map (with_row key row) stored) ≡ without key (keys_where test stored)
  where_left key row fails_now [] = refl
  where_left key row fails_now (x ∷ xs) =
      let rest = where_left key row fails_now xs in
      elim (cases_Bool (eqb x.key key)) [
        | inl same ↦ elim (cases_Bool (test x.message)) [
          | inl passes ↦ rw (same, fails_now x.message, passes, same) rest
          | inr fails ↦ rw (same, fails_now x.message, fails) rest
        ]
        | inr apart ↦ elim (cases_Bool (test x.message)) [
          | inl passes ↦ rw (apart, passes, apart) (ap (λ (all : List ℕ). x.key ∷ all) rest)
          | inr fails ↦ rw (apart, fails) rest
        ]
      ]

  -- a key that is no message's isn't among them
  where_fresh : (key : ℕ) (stored : List Stored) → All (λ one. has_key key one ≡ false) stored → (k : ℕ) → slice_get (keys_where test stored) k ≡ Some key → ⊥
  where_fresh key stored fresh k at =
      let keys = keys_where test stored in
      let none : All (λ other. eqb other key ≡ false) keys = All-map (λ other. eqb other key ≡ false)
      (λ (one : Stored). one.key) (filter (λ one. test one.message) stored)
      (All-filter (λ one. test one.message) (λ one. has_key key one ≡ false) stored fresh) in
      let inside = slice_get_within keys k key at in
      let no : false ≡ true = sym (none k key inside) ∙ eq-eqb (get_or keys k key) key (get_or_from_slice_get keys k key key at) in
      absurd (cc)

  -- the first among them is a message's key
  pub where_stands : (key : ℕ) (stored : List Stored) → slice_get (keys_where test stored) 0 ≡ Some key → is_some (find (has_key key) stored) ≡ true
  where_stands key [] at = absurd (cc)
  where_stands key (x ∷ xs) at =
      elim (cases_Bool (eqb x.key key)) [
        | inl same ↦ rw same refl
        | inr apart ↦ elim (cases_Bool (test x.message)) [
          | inl passes ↦
              let first : Some x.key ≡ Some key = rw passes at at in
              let here : x.key ≡ key = cc in
              let no : false ≡ true = sym apart ∙ eq-eqb x.key key here in
              absurd (cc)
          | inr fails ↦ rw apart (where_stands key xs (rw fails at at))
        ]
      ]

module _ (test : ℕ → Message → Bool) where
  module _ (store : Store) (objects : ℕ) (links : Linked) (queued : AreQueued test store objects links) where
    -- a key that is no message's stands on no list
    pub queued_free : (key : ℕ) → All (λ one. has_key key one ≡ false) store.stored → list_any (holds key) links.lists ≡ true → ⊥
    queued_free key fresh held =
        let place = place_of links.lists key held in
        where_fresh (test place.0) key store.stored fresh place.1 (rw (queued.listed place.0) at place.3)

    -- a key goes from its queue
    pub queued_gone : (stored : List Stored) (key : ℕ)
        → ((v : ℕ) → keys_where (test v) stored ≡ without key (keys_where (test v) store.stored))
        → AreQueued test (record store { stored = stored }) objects (unlinked links key)
    queued_gone stored key gone = record {
      nodes = queued.nodes;
      lists = rw (length-map links.lists (without key)) queued.lists;
      listed = λ v. get_or-map (without key) links.lists v [] ∙ ap (without key) (queued.listed v) ∙ sym (gone v);
    }

    -- or all stay
    pub queued_same : (stored : List Stored) → ((v : ℕ) → keys_where (test v) stored ≡ keys_where (test v) store.stored)
        → AreQueued test (record store { stored = stored }) objects links
    queued_same stored same = record { nodes = queued.nodes; lists = queued.lists; listed = λ v. queued.listed v ∙ sym (same v) }

-- a node that is on no list goes from none
stay : (node : ℕ) (list : List ℕ) → (holds node list ≡ true → ⊥) → without node list ≡ list
stay node [] unheld = refl
stay node (x ∷ xs) unheld =
    elim (cases_Bool (eqb x node)) [
      | inl same ↦ absurd (unheld (rw same refl))
      | inr apart ↦ rw apart (ap (λ (rest : List ℕ). x ∷ rest) (stay node xs (λ held. unheld (rw apart held))))
    ]

pub unheld_stay : (node : ℕ) (lists : List (List ℕ)) → (list_any (holds node) lists ≡ true → ⊥) → lists ≡ map (without node) lists
unheld_stay node [] unheld = refl
unheld_stay node (list ∷ rest) unheld =
    elim (cases_Bool (holds node list)) [
      | inl held ↦ absurd (unheld (rw held refl))
      | inr free ↦
          rw (
            stay node list (λ held. let no : false ≡ true = sym free ∙ held in absurd (cc)),
            ← unheld_stay node rest (λ held. unheld (rw free held)),
          ) refl
    ]

-- a row keeps the number of its message
row_number : (bound key : ℕ) (row : MsgRow) (one : Stored) → one.message.number.0 ≤ bound → (with_row key row one).message.number.0 ≤ bound
row_number bound key row one low =
    elim (cases_Bool (eqb one.key key)) [ inl same ↦ rw same low | inr apart ↦ rw apart low ]

-- nothing waits where it was taken
module _ (objects accepted : ℕ) (store : Store) (outstanding untaken : Linked) (are : AreMessages objects accepted store outstanding untaken) where
  -- a message goes
  pub messages_gone : (m : MsgNo) (key : ℕ) → All (λ other. has_key key other ≡ is_numbered m other) store.stored
      → AreMessages objects accepted (record store { stored = filter (λ one. not (is_numbered m one)) store.stored })
      (unlinked outstanding key) (unlinked untaken key)
  messages_gone m key alike = record {
    sized = rw (length-map outstanding.lists (without key)) are.sized;
    small = rw (length-map outstanding.lists (without key)) are.small;
    all =
        rw (length-map outstanding.lists (without key))
        (queued_gone is_at store (length outstanding.lists) outstanding are.all
        (filter (λ one. not (is_numbered m one)) store.stored) key
        (λ v. where_gone (is_at v) key (is_numbered m) store.stored alike));
    waiting =
        rw (length-map outstanding.lists (without key))
        (queued_gone waits_at store (length outstanding.lists) untaken are.waiting
        (filter (λ one. not (is_numbered m one)) store.stored) key
        (λ v. where_gone (waits_at v) key (is_numbered m) store.stored alike));
    numbers = All-filter (λ one. not (is_numbered m one)) (λ other. other.message.number.0 ≤ accepted) store.stored are.numbers;
  }

  module _ (one : Stored) (row : MsgRow) (same : All (λ other. other.key ≡ one.key → other ≡ one) store.stored)
      (at : row.server.0 ≡ one.message.row.server.0) where
    all_same : (v : ℕ) → keys_where (is_at v) (map (with_row one.key row) store.stored) ≡ keys_where (is_at v) store.stored
    all_same v = where_same (is_at v) one.key row store.stored
        (λ k d within is. rw at (ap (λ (other : Stored). eqb other.message.row.server.0 v) (sym (same k d within is))))

    numbers_same : All (λ other. other.message.number.0 ≤ accepted) (map (with_row one.key row) store.stored)
    numbers_same =
        All-map (λ other. other.message.number.0 ≤ accepted) (with_row one.key row) store.stored
        (λ k d within. row_number accepted one.key row (get_or store.stored k d) (are.numbers k d within))

    -- a message is taken
    pub messages_taken : row.taken ≡ true → AreMessages objects accepted
        (record store { stored = map (with_row one.key row) store.stored }) outstanding (unlinked untaken one.key)
    messages_taken taken = record {
      sized = are.sized;
      small = are.small;
      all = queued_same is_at store (length outstanding.lists) outstanding are.all (map (with_row one.key row) store.stored) all_same;
      waiting =
          queued_gone waits_at store (length outstanding.lists) untaken are.waiting
          (map (with_row one.key row) store.stored) one.key
          (λ v. where_left (waits_at v) one.key row (λ message. rw taken (and-false (eqb row.server.0 v))) store.stored);
      numbers = numbers_same;
    }

    -- or changes and waits as before
    pub messages_edited : row.taken ≡ one.message.row.taken
        → AreMessages objects accepted (record store { stored = map (with_row one.key row) store.stored }) outstanding
        untaken
    messages_edited taken = record {
      sized = are.sized;
      small = are.small;
      all = queued_same is_at store (length outstanding.lists) outstanding are.all (map (with_row one.key row) store.stored) all_same;
      waiting =
          queued_same waits_at store (length outstanding.lists) untaken are.waiting
          (map (with_row one.key row) store.stored)
          (λ v. where_same (waits_at v) one.key row store.stored
          (λ k d within is. rw (at, taken) (ap (λ (other : Stored). waits_at v other.message) (sym (same k d within is)))));
      numbers = numbers_same;
    }
