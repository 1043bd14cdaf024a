-- Messages that come, change and go in the slab.
use Rattle.std.proofs.Common.{◌≡◌, ◌≢◌, ◌⊎◌, ℕ, zero, suc, ◌+◌, ◌<◌, ◌^◌, true, false, not, eqb, List, [], ◌∷◌, ◌++◌, length, get_or, map, refl, sym, ap, subst, ◌∙◌, arith, inl, inr, eq-eqb, length-append}
use Rattle.std.specs.Prelude.{Option, Some, None, is_some, Result, Ok, Err, IfNone, All, filter}
use Rattle.std.specs.List.{find, remove}
use Rattle.std.proofs.lemmas.Bool.{cases_Bool, cases_eq, cases_lt, eqb-true, ne_eqb}
use Rattle.std.proofs.lemmas.List.{get_or-map, length-map, map-append}
use Rattle.std.proofs.lemmas.List.Elements.{All-append, All-cons, All-map}
use Rattle.std.proofs.lemmas.List.Kept.{AllPairs-filter}
use Rattle.std.proofs.lemmas.List.Sorted.{searched}
use Rattle.std.specs.List.Sorted.{IsBinarySearchResult}
use Rattle.std.specs.Ordering.{nat_cmp}
use Rattle.std.specs.Result.{result_ok}
use Rattle.std.proofs.lemmas.List.Quantifiers.{all_pairs_push}
use Rattle.std.proofs.lemmas.List.Edits.{length-remove}
use Rattle.std.proofs.lemmas.Grind.{get_or_default_zero}
use Rattle.slab.specs.Slab.{Slab, get, slab_len, Updates}
use Rattle.sym_base.specs.declared.number.MsgNo.{MsgNo}
use Rattle.state_rows.specs.declared.messages.MsgRow.{MsgRow}
use Rattle.state_rows.specs.declared.messages.Message.{Message}
use Rattle.messages.specs.declared.records.Stored.{Stored}
use Rattle.state_rows.specs.MessageRows.{most_messages}
use Rattle.messages.specs.Kept.{AreKept, IsRising, IsUnder, has_key, is_numbered, message_or, number_at, store_of, stored_at, stored_under, with_row}
use Rattle.messages.proofs.Lists.{removed_alone, All-others, map_alike, map_others, find_alone, find_none, found_at, all_stay}

-- a message that there is
read_message : (o : Option Message) → is_some o ≡ true → o ≡ Some (message_or o)
read_message None some = absurd (cc)
read_message (Some message) some = refl

-- a number that holds at each place holds of all elements
pub at_places : (P : ℕ → Type 0) (xs : List ℕ) → ((k : ℕ) → k < length xs → P (get_or xs k 0)) → All P xs
at_places P xs at k d inside = rw (get_or_default_zero xs k d inside) (at k inside)

-- numbers that rise are found by halving
pub absent_told : (xs : List ℕ) (x : ℕ) (r : Result ℕ ℕ) → IsBinarySearchResult (λ y. nat_cmp y x) xs r → IsRising xs
    → IfNone (result_ok r) (All (λ y. y ≢ x) xs)
absent_told xs x (Ok place) is rising = tt
absent_told xs x (Err place) is rising =
    let told = searched xs x (Err place) is
    (λ i j less inside. elim (cases_lt i j) [
      | inl before ↦ omega (arith, rising i j 0 before inside)
      | inr least ↦ let same : i ≡ j = omega arith in
          rw same (omega arith)
    ]) in
    at_places (λ y. y ≢ x) xs (λ k inside same. elim
    (cases_lt k place) [
      | inl before ↦ omega (arith, told.1 k before)
      | inr behind ↦ omega
          (arith, told.2 k behind inside)
    ])

-- nothing is kept at first
pub kept_none : (slab : Slab Message) → slab.slots ≡ [] → slab.capacity < 2 ^ 32 → AreKept [] [] slab
kept_none slab empty small = record {
  small = small;
  few = omega arith;
  as_many = rw empty refl;
  numbered = refl;
  there = λ k d inside. absurd (omega arith);
  below = λ k d inside. absurd (omega arith);
  rising = λ i j d less inside. absurd (omega arith);
}

module _ (numbers keys : List ℕ) (slab : Slab Message) (kept : AreKept numbers keys slab) where
  pub as_long : length numbers ≡ length keys
  as_long = rw kept.numbered (length-map keys (number_at slab))

  number_read : (i : ℕ) → i < length keys → get_or numbers i 0 ≡ number_at slab (get_or keys i 0)
  number_read i inside = rw kept.numbered (get_or-map (number_at slab) keys i 0 0 inside)

  -- each number and each key stands once
  one_number : (i j : ℕ) → i < length keys → j < length keys → get_or numbers i 0 ≡ get_or numbers j 0 → i ≡ j
  one_number i j first second same =
      elim (cases_lt i j) [
        | inl less ↦ absurd (omega (arith, kept.rising i j 0 less (omega (arith, as_long)), same))
        | inr more ↦ elim (cases_lt j i) [
          | inl less ↦ absurd (omega (arith, kept.rising j i 0 less (omega (arith, as_long)), same))
          | inr least ↦ omega arith
        ]
      ]

  one_key : (i j : ℕ) → i < length keys → j < length keys → get_or keys i 0 ≡ get_or keys j 0 → i ≡ j
  one_key i j first second same =
      one_number i j first second (number_read i first ∙ ap (number_at slab) same ∙ sym (number_read j second))

  -- of the keys one alone is the one at a place, and has the number there
  told : (place : ℕ) → place < length keys → All (λ key. eqb key (get_or keys place 0) ≡ eqb (number_at slab key) (number_at slab (get_or keys place 0))) keys
  told place inside =
      at_places (λ key. eqb key (get_or keys place 0) ≡ eqb (number_at slab key) (number_at slab (get_or keys place 0)))
      keys (λ k within. tells k within (cases_eq k place))
    where
      tells : (k : ℕ) → k < length keys → (k ≡ place) ⊎ (k ≢ place) → eqb (get_or keys k 0) (get_or keys place 0)
          ≡ eqb (number_at slab (get_or keys k 0)) (number_at slab (get_or keys place 0))
      tells k within (inl here) =
          rw (here, eq-eqb (get_or keys place 0) (get_or keys place 0) refl)
          (sym (eq-eqb (number_at slab (get_or keys place 0)) (number_at slab (get_or keys place 0)) refl))
      tells k within (inr there) =
          ne_eqb (get_or keys k 0) (get_or keys place 0) (λ same. there (one_key k place within inside same))
          ∙ sym (ne_eqb (number_at slab (get_or keys k 0)) (number_at slab (get_or keys place 0))
          (λ same. there (one_number k place within inside
          (number_read k within ∙ same ∙ sym (number_read place inside)))))

  -- the first under a key
  under_key : (key : ℕ) (xs : List ℕ) (k : ℕ) → k < length xs → get_or xs k 0 ≡ key → find (has_key key) (map (stored_at slab) xs) ≡ Some (stored_at slab key)
  under_key key [] k inside at = absurd (omega arith)
  under_key key (x ∷ xs) zero inside at = rw (eq-eqb x key at, at) refl
  under_key key (x ∷ xs) (suc k) inside at =
      elim (cases_Bool (eqb x key)) [
        | inl same ↦ rw (same, eqb-true x key same) refl
        | inr apart ↦ rw apart (under_key key xs k (omega arith) at)
      ]

  pub under_at : (place : ℕ) → place < length keys → IsUnder (store_of keys slab) (stored_at slab (get_or keys place 0))
  under_at place inside = record {
    stands = under_key (get_or keys place 0) keys place inside refl;
    numbered = by_number;
    below = kept.below place 0 inside;
    alike =
        All-map (λ other. has_key (get_or keys place 0) other
        ≡ eqb other.message.number.0 (number_at slab (get_or keys place 0))) (stored_at slab) keys (told place inside);
    same =
        All-map (λ (other : Stored). other.key ≡ get_or keys place 0 → other ≡ stored_at slab (get_or keys place 0))
        (stored_at slab) keys (λ k d within same. ap (stored_at slab) same);
  }
    where
      first : (k : ℕ) → k < place → eqb (get_or (map (stored_at slab) keys) k
          (stored_at slab (get_or keys place 0))).message.number.0 (number_at slab (get_or keys place 0)) ≡ false
      first k low =
          rw (get_or-map (stored_at slab) keys k 0 (stored_at slab (get_or keys place 0)) (omega (arith, inside)))
          (ne_eqb (number_at slab (get_or keys k 0)) (number_at slab (get_or keys place 0))
          (λ same. let here : k ≡ place = one_number k place (omega (arith, inside)) inside
          (number_read k (omega (arith, inside)) ∙ same ∙ sym (number_read place inside)) in omega arith))

      by_number : find (is_numbered (stored_at slab (get_or keys place 0)).message.number) (map (stored_at slab) keys)
          ≡ Some (stored_at slab (get_or keys place 0))
      by_number =
          find_alone (is_numbered (stored_at slab (get_or keys place 0)).message.number) (map (stored_at slab) keys)
          (stored_at slab (get_or keys place 0)) place (rw (length-map keys (stored_at slab)) inside)
          (get_or-map (stored_at slab) keys place 0 (stored_at slab (get_or keys place 0)) inside)
          (eq-eqb (number_at slab (get_or keys place 0)) (number_at slab (get_or keys place 0)) refl) first

  -- a key that a message stands under has a place
  pub place_of_key : (key : ℕ) → is_some (stored_under (store_of keys slab) key) ≡ true → (place : ℕ) × (place < length keys) × (get_or keys place 0 ≡ key)
  place_of_key key some =
      let found = found_at (has_key key) (map (stored_at slab) keys) some in
      let inside : found.0 < length keys = rw (length-map keys (stored_at slab)) at found.1 in
      let passes : eqb (get_or keys found.0 0) key
      ≡ true = rw (get_or-map (stored_at slab) keys found.0 0 (stored_at slab 0) inside) at
      (found.2 (stored_at slab 0)) in
      (found.0, inside, eqb-true (get_or keys found.0 0) key passes)

  pub under_key_of : (key : ℕ) → is_some (stored_under (store_of keys slab) key) ≡ true → IsUnder (store_of keys slab) (stored_at slab key)
  under_key_of key some =
      let place = place_of_key key some in
      rw place.2 at (under_at place.0 place.1)

  pub there_of_key : (key : ℕ) → is_some (stored_under (store_of keys slab) key) ≡ true → is_some (get slab key) ≡ true
  there_of_key key some =
      let place = place_of_key key some in
      rw place.2 at (kept.there place.0 0 place.1)

  -- the message at a place is found by its number
  pub under_found : (m : MsgNo) (place key : ℕ) (message : Message) → place < length numbers
      → get_or numbers place 0 ≡ m.0 → key ≡ get_or keys place 0 → get slab key ≡ Some message
      → IsUnder (store_of keys slab) (record { key = key; message = message })
      × (Some (record { key = key; message = message }) ≡ find (is_numbered m) (map (stored_at slab) keys))
  under_found m place key message short at is there =
      let inside : place < length keys = omega (arith, as_long, short) in
      let same : stored_at slab (get_or keys place 0) ≡ record { key = key; message = message } =
      ap (stored_at slab) (sym is) ∙ ap (λ o. record { key = key; message = message_or o }) there in
      let number : number_at slab (get_or keys place 0) ≡ m.0 = sym (number_read place inside) ∙ at in (
        subst (IsUnder (store_of keys slab)) same (under_at place inside),
        sym (ap (λ n. find (λ (one : Stored). eqb one.message.number.0 n) (map (stored_at slab) keys)) (sym number)
            ∙ (under_at place inside).numbered ∙ ap (λ (one : Stored). Some one) same),
      )

  -- a number that isn't there isn't found
  none_numbered : (m : MsgNo) → All (λ number. number ≢ m.0) numbers → All (λ one. is_numbered m one ≡ false) (map (stored_at slab) keys)
  none_numbered m absent =
      All-map (λ one. is_numbered m one ≡ false) (stored_at slab) keys
      (at_places (λ key. eqb (number_at slab key) m.0 ≡ false) keys
      (λ k inside. ne_eqb (number_at slab (get_or keys k 0)) m.0
      (λ same. absent k 0 (omega (arith, as_long, inside)) (number_read k inside ∙ same))))

  pub absent_stays : (m : MsgNo) → All (λ number. number ≢ m.0) numbers
      → store_of keys slab ≡ record (store_of keys slab)
      { stored = filter (λ one. not (is_numbered m one)) (map (stored_at slab) keys) }
  absent_stays m absent =
      sym (ap (λ (all : List Stored). record { keys = slab.capacity; stored = all })
      (all_stay (is_numbered m) (map (stored_at slab) keys) (none_numbered m absent)))

  pub absent_number : (m : MsgNo) → All (λ number. number ≢ m.0) numbers → find (is_numbered m) (map (stored_at slab) keys) ≡ None
  absent_number m absent = find_none (is_numbered m) (map (stored_at slab) keys) (none_numbered m absent)

  -- a message comes under a key that is free
  module _ (after : Slab Message) (key : ℕ) (message : Message) (vacant : get slab key ≡ None)
      (updates : Updates slab after key (Some message)) (room : after.capacity ≡ slab.capacity) where
    stays : All (λ old. get after old ≡ get slab old) keys
    stays =
        at_places (λ old. get after old ≡ get slab old) keys
        (λ k inside. updates.others (get_or keys k 0)
        (λ same. let no : false ≡ true = rw (same, vacant) at (kept.there k 0 inside) in absurd (cc)))

    pub store_added : store_of (keys ++ key ∷ []) after
        ≡ record (store_of keys slab) { stored = map (stored_at slab) keys ++ record { key = key; message = message } ∷ [] }
    store_added =
        rw (
          room,
          map-append (stored_at after) keys (key ∷ []),
          updates.changed,
          map_alike (stored_at after) (stored_at slab) keys
              (λ k d inside. ap (λ o. record { key = get_or keys k d; message = message_or o }) (stays k d inside)),
        ) refl

    pub kept_added : length (map (stored_at slab) keys) < most_messages → slab_len after ≡ slab_len slab + 1
        → key < after.capacity → All (λ one. one.message.number.0 < message.number.0) (map (stored_at slab) keys)
        → AreKept (numbers ++ message.number.0 ∷ []) (keys ++ key ∷ []) after
    kept_added free more below later = record {
      small = rw room kept.small;
      few = omega (arith, free, length-map keys (stored_at slab), length-append keys (key ∷ []));
      as_many = omega (arith, more, kept.as_many, length-append keys (key ∷ []));
      numbered = ap (λ (all : List ℕ). all ++ message.number.0 ∷ []) (kept.numbered ∙ numbers_stay) ∙ last;
      there =
          All-append (λ old. is_some (get after old) ≡ true) keys (key ∷ [])
          (λ k d inside. rw (stays k d inside) (kept.there k d inside))
          (All-cons (λ old. is_some (get after old) ≡ true) key [] (rw updates.changed refl)
          (λ k d inside. absurd (omega arith)));
      below =
          All-append (λ old. old < after.capacity) keys (key ∷ []) (rw room kept.below)
          (All-cons (λ old. old < after.capacity) key [] below (λ k d inside. absurd (omega arith)));
      rising =
          all_pairs_push (λ one other. one < other) numbers message.number.0 kept.rising
          (λ k d inside. let within : k < length keys = omega (arith, as_long, inside) in
          rw (get_or_default_zero numbers k d inside, number_read k within) (before k within));
    }
      where
        numbers_stay : map (number_at slab) keys ≡ map (number_at after) keys
        numbers_stay =
            map_alike (number_at slab) (number_at after) keys (λ k d inside. sym (ap (λ o. (message_or o).number.0) (stays k d inside)))

        last : map (number_at after) keys ++ message.number.0 ∷ [] ≡ map (number_at after) (keys ++ key ∷ [])
        last =
            sym (map-append (number_at after) keys (key ∷ [])
            ∙ ap (λ n. map (number_at after) keys ++ n ∷ []) (ap (λ o. (message_or o).number.0) updates.changed))

        before : (k : ℕ) → k < length keys → number_at slab (get_or keys k 0) < message.number.0
        before k inside =
            rw (get_or-map (stored_at slab) keys k 0 (stored_at slab 0) inside) at (later k (stored_at slab 0) (rw (length-map keys (stored_at slab)) inside))

    pub fresh : All (λ one. has_key key one ≡ false) (map (stored_at slab) keys)
    fresh =
        All-map (λ one. has_key key one ≡ false) (stored_at slab) keys
        (at_places (λ old. eqb old key ≡ false) keys
        (λ k inside. ne_eqb (get_or keys k 0) key
        (λ same. let no : false ≡ true = rw (same, vacant) at (kept.there k 0 inside) in absurd (cc))))

  -- a message goes from its place
  module _ (after : Slab Message) (place : ℕ) (inside : place < length keys)
      (updates : Updates slab after (get_or keys place 0) None) (room : after.capacity ≡ slab.capacity) where
    keys_gone : remove keys place ≡ filter (λ key. not (eqb key (get_or keys place 0))) keys
    keys_gone = removed_alone (get_or keys place 0) keys place inside refl (λ k within other same. other (one_key k place within inside same))

    numbers_gone : remove numbers place ≡ filter (λ number. not (eqb number (get_or numbers place 0))) numbers
    numbers_gone =
        removed_alone (get_or numbers place 0) numbers place (omega (arith, as_long, inside)) refl
        (λ k within other same. other (one_number k place (omega (arith, as_long)) inside same))

    pub store_gone : (m : MsgNo) → get_or numbers place 0 ≡ m.0 → store_of (remove keys place) after
        ≡ record (store_of keys slab) { stored = filter (λ one. not (is_numbered m one)) (map (stored_at slab) keys) }
    store_gone m at =
        let number : number_at slab (get_or keys place 0) ≡ m.0 = sym (number_read place inside) ∙ at in
        rw (room, keys_gone) (ap (λ (all : List Stored). record { keys = slab.capacity; stored = all })
        (map_others (stored_at slab) (stored_at after) (is_numbered m) (get_or keys place 0)
        (λ key other. ap (λ o. record { key = key; message = message_or o }) (updates.others key other)) keys
        (rw number at (told place inside))))

    pub kept_gone : slab_len after + 1 ≡ slab_len slab → AreKept (remove numbers place) (remove keys place) after
    kept_gone less = record {
      small = rw room kept.small;
      few = omega (arith, kept.few, length-remove keys place inside);
      as_many = omega (arith, less, kept.as_many, length-remove keys place inside);
      numbered =
          rw (numbers_gone, keys_gone) (rw (number_read place inside)
          (ap (filter (λ number. not (eqb number (number_at slab (get_or keys place 0))))) kept.numbered
          ∙ sym (map_others (number_at slab) (number_at after) (λ number. eqb number (number_at slab (get_or keys place 0)))
          (get_or keys place 0) (λ key other. ap (λ o. (message_or o).number.0) (updates.others key other)) keys
          (told place inside))));
      there =
          rw keys_gone (All-others (λ key. is_some (get slab key) ≡ true) (λ key. is_some (get after key) ≡ true)
          (get_or keys place 0) (λ key other some. rw (updates.others key other) some) keys kept.there);
      below =
          rw (keys_gone, room) (All-others (λ key. key < slab.capacity) (λ key. key < slab.capacity) (get_or keys place 0)
          (λ key other below. below) keys kept.below);
      rising = rw numbers_gone (AllPairs-filter (λ one other. one < other) (λ number. not (eqb number (get_or numbers place 0))) numbers kept.rising);
    }

  -- the row of a message is another
  module _ (after : Slab Message) (key : ℕ) (message : Message) (row : MsgRow) (was : get slab key ≡ Some message)
      (updates : Updates slab after key (Some (record message { row = row }))) (room : after.capacity ≡ slab.capacity) where
    row_at : (old : ℕ) → stored_at after old ≡ with_row key row (stored_at slab old)
    row_at old =
        elim (cases_eq old key) [
          | inl same ↦ rw (same, eq-eqb key key refl, updates.changed, was) refl
          | inr other ↦ rw (ne_eqb old key other, updates.others old other) refl
        ]

    seen_rows : (xs : List ℕ) → map (stored_at after) xs ≡ map (with_row key row) (map (stored_at slab) xs)
    seen_rows [] = refl
    seen_rows (x ∷ xs) = rw (row_at x, seen_rows xs) refl

    pub store_edited : store_of keys after ≡ record (store_of keys slab) { stored = map (with_row key row) (map (stored_at slab) keys) }
    store_edited = rw (room, seen_rows keys) refl
