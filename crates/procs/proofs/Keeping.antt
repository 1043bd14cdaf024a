-- A process that is added takes a spare memory.
use Rattle.std.proofs.Common.{◌≡◌, ℕ, ◌+◌, ◌-◌, ◌<◌, Bool, false, true, cond, List, length, set, get_or, take, ap, ◌∙◌, arith, inl, inr, Option, Some, None, is_some, count_by}
use Rattle.std.proofs.Common.{get_or-set_same, get_or-set_other, length-set}
use Rattle.std.proofs.lemmas.Bool.{cases_eq, cases_lt}
use Rattle.std.proofs.lemmas.List.{length-replicate, length-take, get_or-take, get_or_past, get_or_read}
use Rattle.std.proofs.lemmas.List.Sums.{sum_by-set, count_by-le-length}
use Rattle.state_rows.specs.declared.thread.ThreadRow.{ThreadRow}
use Rattle.procs.specs.Kept.{AreKept}
use Rattle.procs.specs.Rows.{no_bytes}

-- how many processes were added
abbrev added : List (Option (List ℕ)) → ℕ
added processes = count_by (λ (row : Option (List ℕ)). is_some row) processes

-- one more is added
added_one : (processes : List (Option (List ℕ))) (p : ℕ) → p < length processes
    → is_some (get_or processes p None) ≡ false → added (set processes p (Some no_bytes)) ≡ added processes + 1
added_one processes p inside fresh =
    let one = sum_by-set (λ (row : Option (List ℕ)). cond (is_some row) 1 0) processes p (Some no_bytes) None inside in
    let one_or_none : Bool → ℕ = λ b. cond b 1 0 in
    let none = ap one_or_none fresh in
    omega (arith, one, none)

-- a memory is left where a process isn't added
spare_left : (threads : List (Option ThreadRow)) (processes : List (Option (List ℕ))) (spare : List (List ℕ)) (p : ℕ)
    → AreKept threads processes spare → p < length processes → is_some (get_or processes p None) ≡ false
    → 0 < length spare
spare_left threads processes spare p kept inside fresh =
    let few = count_by-le-length (λ (row : Option (List ℕ)). is_some row) (set processes p (Some no_bytes)) in
    omega (arith, kept.enough, added_one processes p inside fresh, few, length-set processes p (Some no_bytes))

kept_added : (threads : List (Option ThreadRow)) (processes : List (Option (List ℕ))) (spare : List (List ℕ)) (p : ℕ)
    → AreKept threads processes spare → p < length processes → is_some (get_or processes p None) ≡ false
    → AreKept threads (set processes p (Some no_bytes)) (take (length spare - 1) spare)
kept_added threads processes spare p kept inside fresh =
    let left = length-take (length spare - 1) spare in
    record {
      few = kept.few;
      sized = λ k bytes is. elim (cases_eq k p) [
        | inl same ↦
            let here = get_or-set_same processes p (Some no_bytes) None inside in
            let whole : bytes ≡ no_bytes = cc (rw same at is) in
            rw whole (length-replicate {A = ℕ} 1024 0)
        | inr apart ↦ kept.sized k bytes (rw (get_or-set_other processes p k (Some no_bytes) None apart) at is)
      ];
      zeros = λ k h. let low : k < length spare - 1 = omega (arith, left) in get_or-take (length spare - 1) spare k no_bytes low ∙ kept.zeros k (omega arith);
      enough =
          omega (
            arith,
            kept.enough,
            added_one processes p inside fresh,
            left,
            length-set processes p (Some no_bytes),
            spare_left threads processes spare p kept inside fresh,
          );
    }

-- the last spare memory is taken: it is there, and has zeros
pub taken_zeros : (threads : List (Option ThreadRow)) (processes : List (Option (List ℕ))) (spare : List (List ℕ))
    (p n : ℕ) (taken : Option (List ℕ))
    → AreKept threads processes spare → p < length processes → is_some (get_or processes p None) ≡ false
    → n ≡ length spare → (0 < n → taken ≡ Some (get_or spare (n - 1) no_bytes)) → taken ≡ Some no_bytes
taken_zeros threads processes spare p n taken kept inside fresh size last =
    let left = spare_left threads processes spare p kept inside fresh in
    last (omega arith) ∙ ap (λ (bytes : List ℕ). Some bytes) (kept.zeros (n - 1) (omega arith))

pub kept_taken : (threads : List (Option ThreadRow)) (processes : List (Option (List ℕ))) (spare new : List (List ℕ))
    (p n : ℕ) (taken : Option (List ℕ))
    → AreKept threads processes spare → p < length processes → is_some (get_or processes p None) ≡ false
    → n ≡ length spare → taken ≡ Some no_bytes → new ≡ take (n - 1) spare → AreKept threads (set processes p taken) new
kept_taken threads processes spare new p n taken kept inside fresh size zeros rest =
    rw (zeros, rest, size) (kept_added threads processes spare p kept inside fresh)

-- the row that was read at the number of one that is there
pub read_some : {X : Type 0} (rows : List (Option X)) (p : ℕ) (row : Option X) → row ≡ get_or rows p row
    → is_some (get_or rows p None) ≡ true → row ≡ get_or rows p None
read_some rows p row read there =
    elim (cases_lt p (length rows)) [
      | inl inside ↦ get_or_read rows p row inside read None
      | inr past ↦ absurd (cc (rw (get_or_past rows p None past) at there))
    ]
