-- The counts of the objects at boot, one object after another.
use Rattle.std.proofs.Common.{◌≡◌, inl, inr, ℕ, zero, suc, ◌+◌, ◌<◌, ◌≤◌, List, [], ◌∷◌, ◌++◌, length, get_or, take, arith, refl, sym, ap, subst, ◌∙◌, Option, Some, None, Bool, true, false}
use Rattle.std.specs.Prelude.{slice_get, slice_index, slice_set, not}
use Rattle.std.specs.List.{list_any}
use Rattle.std.proofs.lemmas.Bool.{cases_eq, cases_lt, and_right}
use Rattle.std.proofs.lemmas.List.{get_or-set_same, get_or-set_other, set-set, length-take-le, take_all}
use Rattle.state_rows.specs.declared.object.ObjectRow.{ObjectRow}
use Rattle.state_rows.specs.ObjectRows.{first_free, has_name, is_session, is_taken, next_number, with_object}
use Rattle.script_types.specs.declared.script.Script.{Script}
use Rattle.script_types.specs.Source.{IsWellFormed}
use Rattle.script_types.proofs.ShapeLaws.{formed_is_shaped}
use Rattle.machine.specs.declared.boot.Born.{Born}
use Rattle.objects.specs.Calls.{new_row}
use Rattle.objects.specs.Rows.{kept_name}
use Rattle.machine.specs.Boot.{boot, boot_of, born, objects_from}
use Rattle.machine.specs.WellFormed.{IsAlive}
use Rattle.machine_laws.proofs.AtBoot.BootCounts.{counted-boot}
use Rattle.machine.specs.Rows.{object_of}
use Rattle.machine_laws.proofs.AtBoot.BootNames.{boot_rows, boot_names_new, boot_kinds, boot_no_session}
use Rattle.machine_laws.proofs.AtBoot.BootObjects.{length-from}
use Rattle.machine_laws.proofs.AtBoot.BootRows.{boot_count_inside}
use Rattle.move_laws.proofs.Lives.Kinds.{pushed}
use Rattle.kcore.specs.BootTable.{AreNew, FirstStand, born_count}
use Rattle.kernel_tables.specs.Counts.{Agrees}
use Rattle.kernel_tables.proofs.FirstCount.{inside_of}
use Rattle.kcore.proofs.BootCounts.{boot_count}
use Rattle.kcore.proofs.ListSteps.{take_get}

-- an item that was read is at its place
pub read_at : {A : Type 0} (xs : List A) (i : ℕ) (x : A) → i < length xs → x ≡ get_or xs i x → slice_get xs i ≡ Some x
read_at [] i x lt e = absurd (omega arith)
read_at (y ∷ ys) zero x lt e = ap Some (sym e)
read_at (y ∷ ys) (suc i) x lt e = read_at ys i x (omega arith) e

pub stand_long : (all : List Born) (rows : List (Option ObjectRow)) (counts : List ℕ) (n : ℕ) → FirstStand all rows counts n → n ≤ length all → length rows ≡ n
stand_long all rows counts n h le =
    let long = length-from 0 all in
    let inside : n ≤ length (objects_from 0 all) = omega arith in
    ap length h.rows_are ∙ length-take-le n (objects_from 0 all) inside

-- as long as each that was made stands, the next comes behind them
free_from : (m n : ℕ) (bs : List Born) → first_free (take m (objects_from n bs)) ≡ length (take m (objects_from n bs))
free_from zero n bs = refl
free_from (suc m) n [] = refl
free_from (suc m) n (b ∷ bs) = let r = free_from m (n + 1) bs in omega arith

next_of : (reuse : Bool) (rows : List (Option ObjectRow)) → first_free rows ≡ length rows → next_number reuse rows ≡ length rows
next_of true rows e = e
next_of false rows e = refl

pub stand_next : (all : List Born) (rows : List (Option ObjectRow)) (counts : List ℕ) (n : ℕ) (reuse : Bool) → FirstStand all rows counts n
    → next_number reuse rows ≡ length rows
stand_next all rows counts n reuse h =
    next_of reuse rows (ap first_free h.rows_are ∙ (free_from n 0 all ∙ sym (ap length h.rows_are)))

-- what is read of those that stand at boot has its number as its place
from_get : (n : ℕ) (bs : List Born) (k : ℕ) (b : Born) → slice_get bs k ≡ Some b
    → slice_get (objects_from n bs) k ≡ Some (Some (record b.object { place = n + k }))
from_get n [] k b at = absurd (cc)
from_get n (x ∷ xs) zero b at =
    let e : x ≡ b = cc in
    let same : n ≡ n + zero = omega arith in
    ap (λ (y : Born). Some (Some (record y.object { place = n }))) e ∙ ap (λ (p : ℕ). Some (Some (record b.object { place = p }))) same
from_get n (x ∷ xs) (suc k) b at =
    let same : n + 1 + k ≡ n + suc k = omega arith in
    from_get (n + 1) xs k b at ∙ ap (λ (p : ℕ). Some (Some (record b.object { place = p }))) same

-- one reference more of a count
pub more_counts : (counts now new : List ℕ) (n i : ℕ) → now ≡ slice_set counts n i → slice_index now n ≡ i
    → new ≡ slice_set now n (slice_index now n + 1) → new ≡ slice_set counts n (i + 1)
more_counts counts now new n i was is made =
    made
    ∙ (ap (λ (m : ℕ). slice_set now n (m + 1)) is
    ∙ (ap (λ (l : List ℕ). slice_set l n (i + 1)) was ∙ set-set counts n i (i + 1)))

pub more_last : (now new : List ℕ) (n i : ℕ) → 0 < i → slice_index now n ≡ i → new ≡ slice_set now n (slice_index now n + 1) → slice_index new n ≡ i + 1
more_last now new n i some is made =
    ap (λ (l : List ℕ). slice_index l n) made
    ∙ (get_or-set_same now n (slice_index now n + 1) 0 (inside_of now n (omega arith)) ∙ ap (λ (m : ℕ). m + 1) is)

-- no object stands yet
pub none_stand : (all : List Born) (rows : List (Option ObjectRow)) (counts : List ℕ) → rows ≡ []
    → ((k : ℕ) → slice_index counts k ≡ 0) → FirstStand all rows counts 0
none_stand all rows counts empty fresh = record {
  rows_are = empty;
  counted = λ k lt. absurd (omega arith);
  none = λ k le. fresh k;
}

-- the row that is made is the one that is given
pub made_row : (row : ObjectRow) (made n : ℕ) → row.dead ≡ false → kept_name row.kind row.name ≡ row.name → made ≡ n
    → new_row row.kind row.name made ≡ record row { place = n }
made_row row made n alive named at =
    ap (λ (name : List ℕ). record { kind = row.kind; name = name; dead = false; place = made }) named
    ∙ (ap (λ (p : ℕ). record { kind = row.kind; name = row.name; dead = false; place = p }) at
    ∙ ap (λ (d : Bool). record { kind = row.kind; name = row.name; dead = d; place = n }) (sym alive))

-- and stands behind the others
pub made_last : (rows : List (Option ObjectRow)) (n : ℕ) (row : ObjectRow) → n ≡ length rows → with_object rows n row ≡ rows ++ Some row ∷ []
made_last rows n row at = ap (λ (i : ℕ). with_object rows i row) at ∙ pushed rows row

-- one object more
pub one_more : (all : List Born) (rows : List (Option ObjectRow)) (counts new : List ℕ) (n count : ℕ) (b : Born)
    → FirstStand all rows counts n → length rows ≡ n → slice_get all n ≡ Some b
    → count ≡ born_count all (record { 0 = n }) → new ≡ slice_set counts n count → slice_index new n ≡ count
    → FirstStand all (rows ++ Some (record b.object { place = length rows }) ∷ []) new (n + 1)
one_more all rows counts new n count b h long at is made last = record {
  rows_are =
      let place : length rows ≡ 0 + n = omega arith in
      ap (λ (l : List (Option ObjectRow)). l ++ Some (record b.object { place = length rows }) ∷ []) h.rows_are
      ∙ (ap (λ (p : ℕ). take n (objects_from 0 all) ++ Some (record b.object { place = p }) ∷ []) place
      ∙ sym (take_get (objects_from 0 all) n (Some (record b.object { place = 0 + n })) (from_get 0 all n b at)));
  counted = λ k lt. elim (cases_eq k n) as (λ _. slice_index new k ≡ born_count all (record { 0 = k })) [
    | inl here ↦ ap (slice_index new) here ∙ (last ∙ (is ∙ ap (λ (i : ℕ). born_count all (record { 0 = i })) (sym here)))
    | inr other ↦ ap (λ (l : List ℕ). slice_index l k) made ∙ (get_or-set_other counts n k count 0 other ∙ h.counted k (omega arith))
  ];
  none = λ k le. ap (λ (l : List ℕ). slice_index l k) made ∙ (get_or-set_other counts n k count 0 (omega arith) ∙ h.none k (omega arith));
}

-- once all stand, the rows are theirs
pub all_stand : (all : List Born) (rows : List (Option ObjectRow)) (counts : List ℕ)
    → FirstStand all rows counts (length all) → rows ≡ objects_from 0 all
all_stand all rows counts h =
    let long : length (objects_from 0 all) ≤ length all = let e = length-from 0 all in omega arith in
    h.rows_are ∙ take_all (length all) (objects_from 0 all) long

-- the counts of the whole table are those of the state
pub agrees_at_boot : (script : Script) → IsWellFormed script
    → (all : List Born) (rows : List (Option ObjectRow)) (counts : List ℕ) → all ≡ born script
    → FirstStand all rows counts (length all) → Agrees counts (boot script)
agrees_at_boot script valid all rows counts e h o = elim (cases_lt o.0 (length all)) [
  | inl lt ↦ h.counted o.0 lt ∙ (ap (λ (bs : List Born). born_count bs o) e ∙ sym (boot_count script o))
  | inr le ↦ h.none o.0 le ∙ sym (boot_count_inside script (formed_is_shaped script valid) o (subst (λ (bs : List Born). length bs ≤ o.0) e le))
]

boot_row : (script : Script) (k : ℕ) (b : Born) → slice_get (born script) k ≡ Some b
    → slice_get (boot script).references.objects k ≡ Some (Some (record b.object { place = 0 + k }))
unfolding boot_of
boot_row script k b at = from_get 0 (born script) k b at

boot_rows_are : (script : Script) → (boot script).references.objects ≡ objects_from 0 (born script)
unfolding boot_of
boot_rows_are script = refl

alive_of : (rows : List (Option ObjectRow)) (k : ℕ) (row : ObjectRow) → slice_get rows k ≡ Some (Some row) → row.dead ≡ false → IsAlive (get_or rows k None)
alive_of [] k row at dead = cc
alive_of (x ∷ xs) zero row at dead = let e : x ≡ Some row = cc in subst IsAlive (sym e) dead
alive_of (x ∷ xs) (suc k) row at dead = alive_of xs k row at dead

alive_at_boot : (script : Script) (k : ℕ) → k < length (born script) → IsAlive (object_of (boot script) (record { 0 = k }))
alive_at_boot script k lt =
    let long : length (boot script).references.objects ≡ length (born script) =
    ap length (boot_rows_are script) ∙ length-from 0 (born script) in
    let r = boot_rows script k (omega arith) in
    alive_of (boot script).references.objects k r.0 r.1 r.2

pub new_at_boot : (script : Script) → IsWellFormed script → AreNew (born script)
new_at_boot script valid = record {
  named = λ k b at. boot_no_session script k (record b.object { place = 0 + k }) (boot_row script k b at);
  alive = λ k b at. (boot_kinds script k (record b.object { place = 0 + k }) (boot_row script k b at)).0;
  names =
      λ k b at. subst (λ (l : List (Option ObjectRow)). is_taken b.object.kind b.object.name (take k l) ≡ false)
      (boot_rows_are script) (and_right (not (is_session b.object.kind))
      (list_any (has_name b.object.kind b.object.name) (take k (boot script).references.objects))
      (boot_names_new script valid k (record b.object { place = 0 + k }) (boot_row script k b at)));
  counted =
      λ k lt. let some = counted-boot script valid (record { 0 = k }) (alive_at_boot script k lt) in
      let is = boot_count script (record { 0 = k }) in omega arith;
}
