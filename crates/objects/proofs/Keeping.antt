-- Each call keeps the table's counts, places, stages, bits and names.
use Rattle.std.proofs.Common.{◌≡◌, ◌≢◌, ℕ, ◌+◌, ◌<◌, ◌≤◌, Bool, true, false, List, [], ◌∷◌, ◌++◌, length, get_or, set, replicate, refl, sym, ap, ◌∙◌, arith, inl, inr, get_or-set_same, get_or-set_other, length-set, ◌⊎◌, rules, tests}
use Rattle.std.specs.Prelude.{Option, Some, None, IsTrue, IfSome, is_none, position, ◌==◌, ◌↔◌, if◌then◌else◌}
use Rattle.std.proofs.lemmas.List.Quantifiers.{position-Some}
use Rattle.std.proofs.lemmas.Bool.{cases_Bool, cases_eq, cases_lt, not-true, not-false}
use Rattle.std.proofs.lemmas.List.{get_or_append_left, get_or_push, get_or_read, get_or_past, get_or-replicate, length-replicate, length_push}
use Rattle.std.proofs.lemmas.List.Folds.{list_any_at}
use Rattle.ref_words.specs.declared.answer.Stage.TheVariants.{Fresh, InUse, Gone}
use Rattle.ref_words.specs.declared.answer.Closed.TheVariants.{Last}
use Rattle.ref_words.specs.declared.answer.Found.{Found}
use Rattle.ref_words.specs.declared.answer.Found.TheVariants.{Held, Dead}
use Rattle.ref_words.specs.Words.{Words, own_at, own_found, stage_at, IsCreated, NoneCreated, created}
use Rattle.sym_base.specs.declared.kind.Kind.{Kind}
use Rattle.sym_base.specs.declared.number.ObjNo.{ObjNo}
use Rattle.sym_base.specs.declared.limits.TheConstants.Limits.{OBJECTS}
use Rattle.state_rows.specs.declared.object.ObjectRow.{ObjectRow}
use Rattle.objects.specs.declared.objects.Made.TheVariants.{Made as MadeObject}
use Rattle.objects.specs.Bits.{bit_of}
use Rattle.objects.specs.Rows.{StandsAt, row_at, is_there, is_alive, kept_name}
use Rattle.state_rows.specs.ObjectRows.{is_session, is_dead_row, is_taken, has_name, dead_row, next_number, place_of, with_object}
use Rattle.objects.specs.Calls.{counts_found, made_answer, new_row, next_place, rows_closed, rows_swept}
use Rattle.objects.specs.Kept.{AreKept}
use Rattle.objects.proofs.Numbers.{Rows, next_is, placed_next, row_new, row_other, row_cases, rows_few, rows_long}
use Rattle.objects.proofs.SameKind.{has_name-kind, has_name-name}

-- an unswept object was made
pub there_made : (rows : Rows) (p : ℕ) → IsTrue (is_there (row_at rows p)) → p < length rows
there_made rows p there = elim (cases_lt p (length rows)) [
  | inl inside ↦ inside
  | inr past ↦ let none = get_or_past rows p None past in absurd (cc (rw none at there))
]

-- and has a row
pub there_row : (row : Option ObjectRow) → IsTrue (is_there row) → (r : ObjectRow) × (row ≡ Some r)
there_row None there = absurd (cc)
there_row (Some r) there = (r, refl)

-- so is an object that has a row
pub row_made : (rows : Rows) (p : ℕ) (row : ObjectRow) → row_at rows p ≡ Some row → p < length rows
row_made rows p row is = there_made rows p (rw is refl)

-- a dead object isn't swept
pub dead_there : (row : Option ObjectRow) → IsTrue (is_dead_row row) → (r : ObjectRow) × (row ≡ Some r) × (r.dead ≡ true)
dead_there None dead = absurd (cc)
dead_there (Some r) dead = (r, refl, dead)

-- nor is one that isn't dead
pub alive_there : (row : Option ObjectRow) → IsTrue (is_alive row) → (r : ObjectRow) × (row ≡ Some r) × (r.dead ≡ false)
alive_there None alive = absurd (cc)
alive_there (Some r) alive = (r, refl, not-true r.dead alive)

-- an unswept object that isn't alive is dead
pub idle_dead : (row : Option ObjectRow) (r : ObjectRow) → row ≡ Some r → is_alive row ≡ false → r.dead ≡ true
idle_dead None r is idle = absurd (cc)
idle_dead (Some other) r is idle = let same : other ≡ r = cc in rw (← same) (not-false other.dead idle)

-- an object with a name was made
named_made : (rows : Rows) (p : ℕ) (kind : Kind) (name : List ℕ) → IsTrue (has_name kind name (row_at rows p)) → p < length rows
named_made rows p kind name named = elim (cases_lt p (length rows)) [
  | inl inside ↦ inside
  | inr past ↦ let none = get_or_past rows p None past in absurd (cc (rw none at named))
]

-- no count stands in a list of zeros
no_count : (n p : ℕ) → get_or (replicate {A = ℕ} n 0) p 0 ≡ 0
no_count n p = elim (cases_lt p n) [
  | inl inside ↦ get_or-replicate n p 0 0 inside
  | inr past ↦ get_or_past (replicate {A = ℕ} n 0) p 0 (rw length-replicate past)
]

-- a place that was created is one of the stages'
stage_inside : (w : Words) (p : ℕ) → IsCreated w p → p < length w.stages
stage_inside w p created = elim (cases_lt p (length w.stages)) [
  | inl inside ↦ inside
  | inr past ↦ absurd (created (get_or_past w.stages p Fresh past))
]

-- one row written anew, and the others
row_at-other : (rows : Rows) (row : Option ObjectRow) (o p : ℕ) → p ≢ o → row_at (set rows o row) p ≡ row_at rows p
row_at-other rows row o p other = get_or-set_other rows o p row None other

-- rows of one number are one
one_row : (rows : Rows) (j k : ℕ) (one other : ObjectRow) → row_at rows j ≡ Some one → row_at rows k ≡ Some other → j ≡ k → one ≡ other
one_row rows j k one other first second same =
    let both : Some one ≡ Some other = sym first ∙ ap (row_at rows) same ∙ second in
    cc

-- a number with a row isn't one without
elsewhere : (rows : Rows) (n k : ℕ) (row : ObjectRow) → row_at rows n ≡ None → row_at rows k ≡ Some row → k ≢ n
elsewhere rows n k row none is = λ same.
    let both : Some row ≡ None = sym is ∙ ap (row_at rows) same ∙ none in
    absurd (cc)

-- what isn't dead is held
pub is_held : (found : Found) → (found ≡ Dead → ⊥) → found ≡ Held
is_held Held live = refl
is_held Dead live = absurd (live refl)

-- a note that comes back leaves the words as many places
pub same_room : (found : Found) (w : Words) (p : ℕ) → length (own_found found w p) ≡ length w.own
same_room Held w p = length-set w.own p (own_at w p + 1)
same_room Dead w p = refl

-- a table of no object, over words of which no place is created
pub kept_new : (w : Words) (reuse : Bool) (free : List ℕ) → NoneCreated w → length w.stages ≡ length w.own
    → length w.own ≤ 4294967295 → ((i : ℕ) → i < 4096 → bit_of free i ≡ 1) → AreKept [] (replicate OBJECTS 0) [] reuse free w
kept_new w reuse free none sizes few all = record {
  sized = refl;
  limited = omega arith;
  counted = λ k row is. absurd (cc);
  uncounted = λ k empty. no_count OBJECTS k;
  spent = λ k row is dead. absurd (cc);
  few = few;
  long = omega arith;
  placed = omega arith;
  below = λ k row is. absurd (cc);
  numbered = λ k row is. absurd (cc);
  fresh = λ p past inside. (inside, rw sizes inside, none p);
  in_use = λ k row is alive. absurd (cc);
  gone = λ p low alive. absurd (omega arith);
  makings = λ first. refl;
  in_order = λ first k row is. absurd (cc);
  marked = λ k inside. all k inside;
  unique = λ p q kind name named one other. absurd (cc);
}

-- the name of a new object is no other's
new_name : (rows : Rows) (kind : Kind) (name : List ℕ) (made q : ℕ) (k : Kind) (n : List ℕ) → is_taken kind name rows ≡ false
    → is_session k ≡ false → IsTrue (has_name k n (Some (new_row kind name made))) → IsTrue (has_name k n (row_at rows q)) → ⊥
new_name rows kind name made q k n untaken named new old =
    let row : ObjectRow = new_row kind name made in
    let same : kind ≡ k = has_name-kind k n row new in
    let named_kind : is_session kind ≡ false = rw same named in
    let kept : kept_name kind name ≡ name = rw named_kind refl in
    let text : name ≡ n = sym kept ∙ has_name-name k n row new in
    let there : has_name kind name (row_at rows q) ≡ true = rw (same, text) old in
    let any = list_any_at (has_name kind name) rows q None (named_made rows q k n old) there in
    let taken : is_taken kind name rows ≡ true = rw (named_kind, any) refl in
    cc

-- where the name is free and a number is left, it is answered
pub answer_is : (reuse : Bool) (rows : Rows) (kind : Kind) (name : List ℕ) (n : ℕ) → is_taken kind name rows ≡ false
    → n ≡ next_number reuse rows → n < OBJECTS → MadeObject (record { 0 = n }) ≡ made_answer reuse kind name rows
answer_is reuse rows kind name n untaken is room =
    let below : (n == OBJECTS) ≡ false = search (rules, tests) in
    rw (untaken, ← is, below) refl

-- a dead row keeps its name
dead_named : (kind : Kind) (name : List ℕ) (row : Option ObjectRow) → has_name kind name (dead_row row) ≡ has_name kind name row
dead_named kind name None = refl
dead_named kind name (Some row) = refl

-- and stands
dead_none : (row : Option ObjectRow) → is_none (dead_row row) ≡ is_none row
dead_none None = refl
dead_none (Some row) = refl

-- the row of an object after its last reference went
row_at-closed : (rows : Rows) (o : ℕ) → o < length rows → row_at (rows_closed Last rows o) o ≡ dead_row (row_at rows o)
row_at-closed rows o inside = get_or-set_same rows o (dead_row (row_at rows o)) None inside

closed_none : (rows : Rows) (o k : ℕ) → o < length rows → is_none (row_at (rows_closed Last rows o) k) ≡ is_none (row_at rows k)
closed_none rows o k inside = elim (cases_eq k o) [
  | inl here ↦ rw (here, row_at-closed rows o inside) (dead_none (row_at rows o))
  | inr other ↦ ap (λ (r : Option ObjectRow). is_none r) (row_at-other rows (dead_row (row_at rows o)) o k other)
]

closed_dead : (rows : Rows) (o : ℕ) (row new : ObjectRow) → o < length rows → row_at rows o ≡ Some row
    → row_at (rows_closed Last rows o) o ≡ Some new → new.dead ≡ true
closed_dead rows o row new inside is at =
    let both : Some (record row { dead = true }) ≡ Some new = ap dead_row (sym is) ∙ sym (row_at-closed rows o inside) ∙ at in
    let same : record row { dead = true } ≡ new = cc in
    ap (λ (r : ObjectRow). r.dead) (sym same)

-- each object was there before, and has its place
closed_was : (rows : Rows) (o : ℕ) (row : ObjectRow) → o < length rows → row_at rows o ≡ Some row → (k : ℕ) (new : ObjectRow)
    → row_at (rows_closed Last rows o) k ≡ Some new → (old : ObjectRow) × (row_at rows k ≡ Some old) × (old.place ≡ new.place)
closed_was rows o row inside is k new at = elim (cases_eq k o) [
  | inl here ↦
      let both : Some (record row { dead = true }) ≡ Some new =
      ap dead_row (sym is) ∙ sym (row_at-closed rows o inside) ∙ ap (row_at (rows_closed Last rows o)) (sym here) ∙ at in
      let same : record row { dead = true } ≡ new = cc in
      (row, ap (row_at rows) here ∙ is, ap (λ (r : ObjectRow). r.place) same)
  | inr other ↦ (new, sym (row_at-other rows (dead_row (row_at rows o)) o k other) ∙ at, refl)
]

-- no name changes as a last reference goes
named_closed : (rows : Rows) (o p : ℕ) (kind : Kind) (name : List ℕ) → o < length rows
    → has_name kind name (row_at (rows_closed Last rows o) p) ≡ has_name kind name (row_at rows p)
named_closed rows o p kind name inside = elim (cases_eq p o) [
  | inl here ↦ rw (here, row_at-closed rows o inside) (dead_named kind name (row_at rows o))
  | inr other ↦ ap (has_name kind name) (row_at-other rows (dead_row (row_at rows o)) o p other)
]

-- a row that went has no name
named_swept : (rows : Rows) (o p : ℕ) (kind : Kind) (name : List ℕ) → o < length rows
    → IsTrue (has_name kind name (row_at (rows_swept rows o) p)) → IsTrue (has_name kind name (row_at rows p))
named_swept rows o p kind name inside named = elim (cases_eq p o) [
  | inl here ↦ let none = get_or-set_same rows o None None inside in absurd (cc (rw (here, none) at named))
  | inr other ↦ rw (row_at-other rows None o p other) at named
]

-- each object that stands stood before
swept_was : (rows : Rows) (o : ℕ) → o < length rows → (k : ℕ) (row : ObjectRow) → row_at (rows_swept rows o) k ≡ Some row
    → (k ≢ o) × (row_at rows k ≡ Some row)
swept_was rows o inside k row at = elim (cases_eq k o) [
  | inl here ↦
      let no : None ≡ Some row = sym (get_or-set_same rows o None None inside) ∙ ap (row_at (rows_swept rows o)) (sym here) ∙ at in
      absurd (cc)
  | inr other ↦ (other, sym (row_at-other rows None o k other) ∙ at)
]

-- the laws of the rows, counts and words of a table
module _ (rows : Rows) (counts : List ℕ) (numbers : List ℕ) (reuse : Bool) (free : List ℕ) (w : Words)
    (kept : AreKept rows counts numbers reuse free w) where
  -- no two objects have one place
  one_place : (j k : ℕ) (one other : ObjectRow) → row_at rows j ≡ Some one → row_at rows k ≡ Some other → one.place ≡ other.place → j ≡ k
  one_place j k one other first second same = sym (kept.numbered j one first) ∙ ap (λ p. get_or numbers p 0) same ∙ kept.numbered k other second

  -- the place of a dead object is gone
  dead_gone : (o : ℕ) (row : ObjectRow) → row_at rows o ≡ Some row → row.dead ≡ true → stage_at w row.place ≡ Gone
  dead_gone o row is dead = kept.gone row.place (kept.below o row is) (λ k other at alive same.
      let here = one_place k o other row at is same in
      let one = one_row rows k o other row at is here in
      let no : true ≡ false = sym dead ∙ ap (λ (r : ObjectRow). r.dead) (sym one) ∙ alive in
      cc)

  -- so the place of an unswept object is created
  pub row_created : (o : ℕ) (row : ObjectRow) → row_at rows o ≡ Some row → IsCreated w row.place
  row_created o row is = elim (cases_Bool row.dead) as (λ _. IsCreated w row.place) [
    | inl dead ↦ (let gone = dead_gone o row is dead in λ fresh. cc)
    | inr alive ↦ (let used = kept.in_use o row is alive in λ fresh. cc)
  ]

  pub there_created : (o : ℕ) → IsTrue (is_there (row_at rows o)) → IsCreated w (place_of (row_at rows o))
  there_created o there = let row = there_row (row_at rows o) there in rw row.1 (row_created o row.0 row.1)

  -- and that of one that isn't alive is gone
  pub idle_gone : (o : ℕ) → IsTrue (is_there (row_at rows o)) → is_alive (row_at rows o) ≡ false → stage_at w (place_of (row_at rows o)) ≡ Gone
  idle_gone o there idle =
      let row = there_row (row_at rows o) there in
      rw row.1 (dead_gone o row.0 row.1 (idle_dead (row_at rows o) row.0 row.1 idle))

  -- the count of an unswept object is its place's own
  pub own_is : (o : ℕ) → IsTrue (is_there (row_at rows o)) → get_or counts o 0 ≡ own_at w (place_of (row_at rows o))
  own_is o there = let row = there_row (row_at rows o) there in rw row.1 (kept.counted o row.0 row.1)

  -- an object that has a count isn't dead
  pub counted_alive : (o : ℕ) (row : ObjectRow) → row_at rows o ≡ Some row → 0 < get_or counts o 0 → row.dead ≡ false
  counted_alive o row is some = elim (cases_Bool row.dead) [
    | inl dead ↦ let none = kept.spent o row is dead in absurd (omega arith)
    | inr alive ↦ alive
  ]

  -- where an object is made the words have a place for it
  pub place_left : (kind : Kind) (name : List ℕ) (n places : ℕ) → is_taken kind name rows ≡ false → n ≡ next_number reuse rows → n < OBJECTS
      → ((o : ObjNo) → made_answer reuse kind name rows ≡ MadeObject o → next_place reuse rows (length numbers) < places)
      → length numbers < places
  place_left kind name n places untaken is room left =
      let next = left (record { 0 = n }) (sym (answer_is reuse rows kind name n untaken is room)) in
      elim (cases_Bool reuse) as (λ _. length numbers < places) [
        | inl again ↦ rw again at next
        | inr first ↦ (let last = rw first at next in let all = kept.makings first in omega arith)
      ]

  -- one more object, at the next number
  pub kept_made : (kind : Kind) (name : List ℕ) (n : ℕ) (bits : List ℕ) → n ≡ next_number reuse rows → n < OBJECTS
      → length numbers < length w.own → is_taken kind name rows ≡ false → bit_of bits n ≡ 0
      → ((i : ℕ) → i < 4096 → i ≢ n → bit_of bits i ≡ bit_of free i)
      → AreKept (with_object rows n (new_row kind name (length numbers))) (set counts n 1) (numbers ++ n ∷ []) reuse bits
      (created w (length numbers))
  kept_made kind name n bits is room left untaken taken others =
      let new : ObjectRow = new_row kind name (length numbers) in
      let more : length (numbers ++ n ∷ []) ≡ length numbers + 1 = length_push numbers n in
      let within : n ≤ length rows = rw is (next_is reuse rows).0 in
      let none : row_at rows n ≡ None = rw is (next_is reuse rows).1 in
      let inside : n < length counts = omega (arith, kept.sized) in
      let place = (kept.fresh (length numbers) (omega arith) left).1 in
      let cases = row_cases rows n new in
      record {
        sized = rw length-set kept.sized;
        limited = rows_few rows n new within room kept.limited;
        counted = λ k row at. elim (cases k row within at) [
          | inl (here, same) ↦ rw (here, same) (get_or-set_same counts n 1 0 inside ∙ sym (get_or-set_same w.own (length numbers) 1 0 left))
          | inr (apart, old) ↦
              let low = kept.below k row old in
              let off : row.place ≢ length numbers = omega arith in
              get_or-set_other counts n k 1 0 apart ∙ kept.counted k row old ∙ sym (get_or-set_other w.own (length numbers) row.place 1 0 off)
        ];
        uncounted = λ k empty. elim (cases_eq k n) [
          | inl here ↦
              let no : Some new ≡ None = sym (row_new rows n new within) ∙ ap (row_at (with_object rows n new)) (sym here) ∙ empty in
              absurd (cc)
          | inr apart ↦ get_or-set_other counts n k 1 0 apart ∙ kept.uncounted k (sym (row_other rows n new k within apart) ∙ empty)
        ];
        spent = λ k row at dead. elim (cases k row within at) [
          | inl (here, same) ↦ let no : false ≡ true = sym (ap (λ (r : ObjectRow). r.dead) same) ∙ dead in absurd (cc)
          | inr (apart, old) ↦ get_or-set_other counts n k 1 0 apart ∙ kept.spent k row old dead
        ];
        few = rw length-set kept.few;
        long = let longer = rows_long rows n new in omega (arith, kept.long, longer.1, more);
        placed = rw length-set (omega (arith, more));
        below = λ k row at. elim (cases k row within at) [
          | inl (here, same) ↦ rw same (omega (arith, more))
          | inr (apart, old) ↦ let low = kept.below k row old in omega (arith, more)
        ];
        numbered = λ k row at. elim (cases k row within at) [
          | inl (here, same) ↦ rw (here, same) (get_or_push numbers n 0 (length numbers) refl)
          | inr (apart, old) ↦ get_or_append_left numbers (n ∷ []) 0 row.place (kept.below k row old) ∙ kept.numbered k row old
        ];
        fresh = λ p past beyond.
            let f = kept.fresh p (omega (arith, more)) (rw length-set at beyond) in
            let other : p ≢ length numbers = omega (arith, more) in
            (rw length-set f.0, rw length-set f.1, rw get_or-set_other f.2);
        in_use = λ k row at alive. elim (cases k row within at) [
          | inl (here, same) ↦ rw same (get_or-set_same w.stages (length numbers) InUse Fresh place)
          | inr (apart, old) ↦
              let low = kept.below k row old in
              let off : row.place ≢ length numbers = omega arith in
              get_or-set_other w.stages (length numbers) row.place InUse Fresh off ∙ kept.in_use k row old alive
        ];
        gone = λ p low idle. elim (cases_eq p (length numbers)) [
          | inl here ↦ absurd (idle n new (row_new rows n new within) refl (sym here))
          | inr off ↦ get_or-set_other w.stages (length numbers) p InUse Fresh off ∙ kept.gone p (omega (arith, more)) (λ k row at alive same.
              idle k row (row_other rows n new k within (elsewhere rows n k row none at) ∙ at) alive same)
        ];
        makings = λ first.
            let all = kept.makings first in
            let next : n ≡ length rows = is ∙ ap (λ (b : Bool). next_number b rows) first in
            let long = length_push rows (Some new) in
            rw (placed_next rows n new (omega arith)) (omega (arith, long, more));
        in_order = λ first k row at. elim (cases k row within at) [
          | inl (here, same) ↦
              let next : n ≡ length rows = is ∙ ap (λ (b : Bool). next_number b rows) first in
              rw (here, same) (kept.makings first ∙ sym next)
          | inr (apart, old) ↦ kept.in_order first k row old
        ];
        marked = λ k low. elim (cases_eq k n) [
          | inl here ↦ rw (here, row_new rows n new within) taken
          | inr apart ↦ rw (row_other rows n new k within apart) (others k low apart ∙ kept.marked k low)
        ];
        unique = λ p q k text named one other. elim (cases_eq p n) [
          | inl here ↦ elim (cases_eq q n) [
            | inl also ↦ here ∙ sym also
            | inr off ↦
                absurd (new_name rows kind name (length numbers) q k text untaken named (rw (here, row_new rows n new within) at one)
                (rw (row_other rows n new q within off) at other))
          ]
          | inr apart ↦ elim (cases_eq q n) [
            | inl also ↦
                absurd (new_name rows kind name (length numbers) p k text untaken named (rw (also, row_new rows n new within) at other)
                (rw (row_other rows n new p within apart) at one))
            | inr off ↦ kept.unique p q k text named (rw (row_other rows n new p within apart) at one) (rw (row_other rows n new q within off) at other)
          ]
        ];
      }

  -- other notes are out
  pub kept_notes : (v : Words) → v.own ≡ w.own → v.stages ≡ w.stages → AreKept rows counts numbers reuse free v
  kept_notes v own stages = record {
    sized = kept.sized;
    limited = kept.limited;
    counted = λ k row at. rw own (kept.counted k row at);
    uncounted = kept.uncounted;
    spent = kept.spent;
    few = rw own kept.few;
    long = kept.long;
    placed = rw own kept.placed;
    below = kept.below;
    numbered = kept.numbered;
    fresh = λ p past inside. rw (own, stages) (kept.fresh p past (rw own at inside));
    in_use = λ k row at alive. rw stages (kept.in_use k row at alive);
    gone = λ p low idle. rw stages (kept.gone p low idle);
    makings = kept.makings;
    in_order = kept.in_order;
    marked = kept.marked;
    unique = kept.unique;
  }

  -- another count of an object that isn't dead, in the table and in the words
  pub kept_counts : (o : ℕ) (row : ObjectRow) (v : Words) (n m : ℕ) → row_at rows o ≡ Some row → row.dead ≡ false
      → v.own ≡ set w.own row.place m → v.stages ≡ w.stages → n ≡ m → AreKept rows (set counts o n) numbers reuse free v
  kept_counts o row v n m is live own stages same =
      let at_row = row_made rows o row is in
      let inside : o < length counts = omega (arith, kept.sized, kept.limited) in
      let low = kept.below o row is in
      let left : row.place < length w.own = omega (arith, kept.placed) in
      record {
        sized = rw length-set kept.sized;
        limited = kept.limited;
        counted = λ k other at. elim (cases_eq k o) [
          | inl here ↦
              let one = one_row rows k o other row at is here in
              rw (here, one, own) (get_or-set_same counts o n 0 inside ∙ same ∙ sym (get_or-set_same w.own row.place m 0 left))
          | inr apart ↦
              let off : other.place ≢ row.place = λ twice. apart (one_place k o other row at is twice) in
              rw own (get_or-set_other counts o k n 0 apart ∙ kept.counted k other at ∙ sym (get_or-set_other w.own row.place other.place m 0 off))
        ];
        uncounted = λ k empty.
            let apart : k ≢ o = λ here. elsewhere rows k o row empty is (sym here) in
            get_or-set_other counts o k n 0 apart ∙ kept.uncounted k empty;
        spent = λ k other at dead. elim (cases_eq k o) [
          | inl here ↦
              let one = one_row rows k o other row at is here in
              let no : true ≡ false = sym dead ∙ ap (λ (r : ObjectRow). r.dead) one ∙ live in
              absurd (cc)
          | inr apart ↦ get_or-set_other counts o k n 0 apart ∙ kept.spent k other at dead
        ];
        few = rw (own, length-set) kept.few;
        long = kept.long;
        placed = rw (own, length-set) kept.placed;
        below = kept.below;
        numbered = kept.numbered;
        fresh = λ p past beyond.
            let f = kept.fresh p past (rw (own, length-set) at beyond) in
            (rw (own, length-set) f.0, rw stages f.1, rw stages f.2);
        in_use = λ k other at alive. rw stages (kept.in_use k other at alive);
        gone = λ p low idle. rw stages (kept.gone p low idle);
        makings = kept.makings;
        in_order = kept.in_order;
        marked = kept.marked;
        unique = kept.unique;
      }

  -- the last reference of an object goes
  pub kept_dead : (o : ℕ) (row : ObjectRow) (v : Words) (n m : ℕ) → row_at rows o ≡ Some row → v.own ≡ set w.own row.place m
      → v.stages ≡ set w.stages row.place Gone → n ≡ m → n ≡ 0
      → AreKept (rows_closed Last rows o) (set counts o n) numbers reuse free v
  kept_dead o row v n m is own stages same zero =
      let at_row = row_made rows o row is in
      let inside : o < length counts = omega (arith, kept.sized, kept.limited) in
      let below = kept.below o row is in
      let left : row.place < length w.own = omega (arith, kept.placed) in
      let place = stage_inside w row.place (row_created o row is) in
      let was = closed_was rows o row at_row is in
      record {
        sized = rw length-set kept.sized;
        limited = rw length-set kept.limited;
        counted = λ k new at.
            let old = was k new at in
            elim (cases_eq k o) [
              | inl here ↦
                  let one = one_row rows k o old.0 row old.1 is here in
                  let spot : new.place ≡ row.place = sym old.2 ∙ ap (λ (r : ObjectRow). r.place) one in
                  rw (here, spot, own) (get_or-set_same counts o n 0 inside ∙ same ∙ sym (get_or-set_same w.own row.place m 0 left))
              | inr apart ↦
                  let off : new.place ≢ row.place = λ twice. apart (one_place k o old.0 row old.1 is (old.2 ∙ twice)) in
                  let count : get_or counts k 0 ≡ own_at w new.place = kept.counted k old.0 old.1 ∙ ap (own_at w) old.2 in
                  rw own (get_or-set_other counts o k n 0 apart ∙ count ∙ sym (get_or-set_other w.own row.place new.place m 0 off))
            ];
        uncounted = λ k empty. elim (cases_eq k o) [
          | inl here ↦ rw here (get_or-set_same counts o n 0 inside ∙ zero)
          | inr apart ↦ get_or-set_other counts o k n 0 apart ∙ kept.uncounted k (sym (row_at-other rows (dead_row (row_at rows o)) o k apart) ∙ empty)
        ];
        spent = λ k new at dead. elim (cases_eq k o) [
          | inl here ↦ rw here (get_or-set_same counts o n 0 inside ∙ zero)
          | inr apart ↦
              get_or-set_other counts o k n 0 apart
              ∙ kept.spent k new (sym (row_at-other rows (dead_row (row_at rows o)) o k apart) ∙ at) dead
        ];
        few = rw (own, length-set) kept.few;
        long = rw length-set kept.long;
        placed = rw (own, length-set) kept.placed;
        below = λ k new at. let old = was k new at in let low = kept.below k old.0 old.1 in let spot = old.2 in omega arith;
        numbered = λ k new at. let old = was k new at in ap (λ p. get_or numbers p 0) (sym old.2) ∙ kept.numbered k old.0 old.1;
        fresh = λ p past beyond.
            let f = kept.fresh p past (rw (own, length-set) at beyond) in
            let off : p ≢ row.place = omega arith in
            (rw (own, length-set) f.0, rw (stages, length-set) f.1, rw stages (get_or-set_other w.stages row.place p Gone Fresh off ∙ f.2));
        in_use = λ k new at alive. elim (cases_eq k o) [
          | inl here ↦
              let dead = closed_dead rows o row new at_row is (ap (row_at (rows_closed Last rows o)) (sym here) ∙ at) in
              let no : true ≡ false = sym dead ∙ alive in
              absurd (cc)
          | inr apart ↦
              let old = sym (row_at-other rows (dead_row (row_at rows o)) o k apart) ∙ at in
              let off : new.place ≢ row.place = λ twice. apart (one_place k o new row old is twice) in
              rw stages (get_or-set_other w.stages row.place new.place Gone Fresh off ∙ kept.in_use k new old alive)
        ];
        gone = λ p low idle. elim (cases_eq p row.place) [
          | inl here ↦ rw (here, stages) (get_or-set_same w.stages row.place Gone Fresh place)
          | inr off ↦ rw stages (get_or-set_other w.stages row.place p Gone Fresh off ∙ kept.gone p low (λ k other at alive spot.
              let apart : k ≢ o = λ here. off (sym spot ∙ ap (λ (r : ObjectRow). r.place) (one_row rows k o other row at is here)) in
              idle k other (row_at-other rows (dead_row (row_at rows o)) o k apart ∙ at) alive spot))
        ];
        makings = λ first. rw length-set (kept.makings first);
        in_order = λ first k new at. let old = was k new at in sym old.2 ∙ kept.in_order first k old.0 old.1;
        marked = λ k low. rw (closed_none rows o k at_row) (kept.marked k low);
        unique = λ p q kind name named one other.
            kept.unique p q kind name named (sym (named_closed rows o p kind name at_row) ∙ one) (sym (named_closed rows o q kind name at_row) ∙ other);
      }

  -- a dead object's row goes, and its number is free
  pub kept_swept : (o : ℕ) (bits : List ℕ) → IsTrue (is_dead_row (row_at rows o)) → bit_of bits o ≡ 1
      → ((i : ℕ) → i < 4096 → i ≢ o → bit_of bits i ≡ bit_of free i) → AreKept (rows_swept rows o) counts numbers reuse bits w
  kept_swept o bits was_dead given others =
      let row = dead_there (row_at rows o) was_dead in
      let inside = row_made rows o row.0 row.1 in
      let none = get_or-set_same rows o None None inside in
      let was = swept_was rows o inside in
      record {
        sized = kept.sized;
        limited = rw length-set kept.limited;
        counted = λ k other at. kept.counted k other (was k other at).1;
        uncounted = λ k empty. elim (cases_eq k o) [
          | inl here ↦ rw here (kept.spent o row.0 row.1 row.2)
          | inr apart ↦ kept.uncounted k (sym (row_at-other rows None o k apart) ∙ empty)
        ];
        spent = λ k other at. kept.spent k other (was k other at).1;
        few = kept.few;
        long = rw length-set kept.long;
        placed = kept.placed;
        below = λ k other at. kept.below k other (was k other at).1;
        numbered = λ k other at. kept.numbered k other (was k other at).1;
        fresh = kept.fresh;
        in_use = λ k other at. kept.in_use k other (was k other at).1;
        gone = λ p low idle. elim (cases_eq p row.0.place) [
          | inl here ↦ rw here (dead_gone o row.0 row.1 row.2)
          | inr off ↦ kept.gone p low (λ k other at alive spot.
              let apart : k ≢ o = λ here. off (sym spot ∙ ap (λ (r : ObjectRow). r.place) (one_row rows k o other row.0 at row.1 here)) in
              idle k other (row_at-other rows None o k apart ∙ at) alive spot)
        ];
        makings = λ first. rw length-set (kept.makings first);
        in_order = λ first k other at. kept.in_order first k other (was k other at).1;
        marked = λ k low. elim (cases_eq k o) [
          | inl here ↦ rw (here, none) given
          | inr apart ↦ rw (row_at-other rows None o k apart) (others k low apart ∙ kept.marked k low)
        ];
        unique = λ p q kind name named one other.
            kept.unique p q kind name named (named_swept rows o p kind name inside one) (named_swept rows o q kind name inside other);
      }

  -- a place that was created is that of an object that was made
  pub created_made : (p : ℕ) → IsCreated w p → p < length w.own → p < length numbers
  created_made p created inside = elim (cases_lt p (length numbers)) [
    | inl low ↦ low
    | inr past ↦ absurd (created (kept.fresh p past inside).2)
  ]

  -- if the object of a place stands, it has the number that is kept
  pub stands : (p : ℕ) → StandsAt rows p (get_or numbers p 0)
  stands p k row at spot = sym (kept.numbered k row at) ∙ ap (λ q. get_or numbers q 0) spot

  -- a place that is of no object but that of one number is held exactly where that object isn't dead
  pub held_is : (p o : ℕ) → p < length numbers → StandsAt rows p o
      → (stage_at w p ≡ Gone → ⊥) → IsTrue (is_alive (row_at rows o)) × (place_of (row_at rows o) ≡ p)
  held_is p o low sought held = elim (cases_Bool (is_alive (row_at rows o))) [
    | inl alive ↦
        let row = alive_there (row_at rows o) alive in
        elim (cases_eq row.0.place p) [
          | inl here ↦ (alive, rw row.1 here)
          | inr off ↦ absurd (held (kept.gone p low (λ k other at live spot.
              off (sym (ap (λ (r : ObjectRow). r.place) (one_row rows k o other row.0 at row.1 (sought k other at spot))) ∙ spot))))
        ]
    | inr idle ↦ absurd (held (kept.gone p low (λ k other at live spot.
        let no = idle_dead (row_at rows o) other (ap (row_at rows) (sym (sought k other at spot)) ∙ at) idle in
        let both : true ≡ false = sym no ∙ live in
        cc)))
  ]

  -- a note that comes back counts where it found its object held
  pub held_back : (found : Found) (p : ℕ) → p < length numbers → ((found ≡ Dead) ↔ (stage_at w p ≡ Gone)) → found ≡ Held
      → IsTrue (is_alive (row_at rows (get_or numbers p 0))) × (place_of (row_at rows (get_or numbers p 0)) ≡ p)
  held_back found p low dead held =
      held_is p (get_or numbers p 0) low (stands p) (λ gone. let no : Held ≡ Dead = sym held ∙ dead.1 gone in cc)

  pub kept_back : (found : Found) (p : ℕ) (v : Words) → p < length numbers → ((found ≡ Dead) ↔ (stage_at w p ≡ Gone))
      → v.own ≡ own_found found w p → v.stages ≡ w.stages → AreKept rows (counts_found found counts (get_or numbers p 0)) numbers reuse free v
  kept_back Dead p v low dead own stages = kept_notes v own stages
  kept_back Held p v low dead own stages =
      let o = get_or numbers p 0 in
      let held = held_back Held p low dead refl in
      let row = alive_there (row_at rows o) held.0 in
      let spot : row.0.place ≡ p = ap place_of (sym row.1) ∙ held.1 in
      let count : get_or counts o 0 ≡ own_at w p = kept.counted o row.0 row.1 ∙ ap (own_at w) spot in
      let here : v.own ≡ set w.own row.0.place (own_at w p + 1) = own ∙ ap (λ k. set w.own k (own_at w p + 1)) (sym spot) in
      kept_counts o row.0 v (get_or counts o 0 + 1) (own_at w p + 1) row.1 row.2 here stages (ap (λ k. k + 1) count)

  -- so the count of the object's number, whoever names it, is one more
  pub counts_back : (found : Found) (p o : ℕ) → p < length numbers → ((found ≡ Dead) ↔ (stage_at w p ≡ Gone)) → StandsAt rows p o
      → counts_found found counts (get_or numbers p 0) ≡ counts_found found counts o
  counts_back Dead p o low dead sought = refl
  counts_back Held p o low dead sought =
      let held = held_back Held p low dead refl in
      let row = alive_there (row_at rows (get_or numbers p 0)) held.0 in
      let spot : row.0.place ≡ p = ap place_of (sym row.1) ∙ held.1 in
      ap (counts_found Held counts) (sought (get_or numbers p 0) row.0 row.1 spot)

  -- that number is one of the table's, and its count is far below its type's end
  pub inside_back : (found : Found) (p : ℕ) → p < length numbers → ((found ≡ Dead) ↔ (stage_at w p ≡ Gone)) → found ≡ Held
      → get_or numbers p 0 < length counts
  inside_back found p low dead is =
      let row = alive_there (row_at rows (get_or numbers p 0)) (held_back found p low dead is).0 in
      omega (arith, kept.sized, kept.limited, row_made rows (get_or numbers p 0) row.0 row.1)

  pub small_back : (found : Found) (p : ℕ) (v : Words) → p < length numbers → ((found ≡ Dead) ↔ (stage_at w p ≡ Gone))
      → v.own ≡ own_found found w p → own_at v p ≤ 2147483712 → found ≡ Held → get_or counts (get_or numbers p 0) 0 < 4294967295
  small_back found p v low dead own few is =
      let held = held_back found p low dead is in
      let row = alive_there (row_at rows (get_or numbers p 0)) held.0 in
      let spot : row.0.place ≡ p = ap place_of (sym row.1) ∙ held.1 in
      let count : get_or counts (get_or numbers p 0) 0 ≡ own_at w p = kept.counted (get_or numbers p 0) row.0 row.1 ∙ ap (own_at w) spot in
      let inside : p < length w.own = omega (arith, kept.placed) in
      let more : own_at v p ≡ own_at w p + 1 =
      ap (λ (l : List ℕ). get_or l p 0) (own ∙ ap (λ (f : Found). own_found f w p) is) ∙ get_or-set_same w.own p (own_at w p + 1) 0 inside in
      omega arith

  pub alive_held : (p o : ℕ) → IsTrue (is_alive (row_at rows o)) × (place_of (row_at rows o) ≡ p) → stage_at w p ≡ Gone → ⊥
  alive_held p o is gone =
      let row = alive_there (row_at rows o) is.0 in
      let spot : row.0.place ≡ p = ap place_of (sym row.1) ∙ is.1 in
      let used : stage_at w p ≡ InUse = ap (stage_at w) (sym spot) ∙ kept.in_use o row.0 row.1 row.2 in
      cc

  -- the count that was read is that of the object's place
  pub read_own : (o n : ℕ) (row : ObjectRow) → row_at rows o ≡ Some row → n ≡ get_or counts o n → n ≡ own_at w row.place
  read_own o n row is read =
      let inside = row_made rows o row is in
      get_or_read counts o n (omega (arith, kept.sized, kept.limited)) read 0 ∙ kept.counted o row is

  -- the place of a name is that of an object that was made
  pub named_place : (kind : Kind) (name : List ℕ) (r : Option ℕ) → r ≡ position (has_name kind name) rows
      → IfSome r (λ p. (p < length rows) × (p < OBJECTS))
  named_place kind name None is = tt
  named_place kind name (Some p) is =
      let found = position-Some (has_name kind name) rows p None (sym is) in
      (found.0, omega (arith, kept.limited, found.0))

  -- and no other object has the name
  pub named_alone : (kind : Kind) (name : List ℕ) (r : Option ℕ) → is_session kind ≡ false → r ≡ position (has_name kind name) rows
      → IfSome r (λ p. (q : ℕ) → IsTrue (has_name kind name (row_at rows q)) → q ≡ p)
  named_alone kind name None named is = tt
  named_alone kind name (Some p) named is =
      let found = position-Some (has_name kind name) rows p None (sym is) in
      λ q other. kept.unique q p kind name named other found.1
