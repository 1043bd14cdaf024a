-- References at boot, counted thread by thread.
use Rattle.std.proofs.Common.{◌≡◌, ◌⊎◌, inl, inr, ℕ, zero, suc, ◌+◌, ◌<◌, ◌≤◌, List, [], ◌∷◌, ◌++◌, length, get_or, take, replicate, arith, refl, sym, ap, subst, ◌∙◌, Option, Some, None}
use Rattle.std.specs.Prelude.{if◌then◌else◌, option_map, slice_get, slice_index, slice_set}
use Rattle.std.proofs.lemmas.Bool.{cases_eq, cases_lt, eq-eqb}
use Rattle.std.proofs.lemmas.List.{get_or_append_left, get_or_past, get_or_push, get_or-set_other, get_or-set_same, length-append, length-map, length-take-le}
use Rattle.std.proofs.lemmas.Option.{slice_get-map}
use Rattle.sym_base.specs.declared.number.ObjNo.{ObjNo}
use Rattle.script_types.specs.declared.script.Script.{Script}
use Rattle.script_types.specs.Source.{IsWellFormed}
use Rattle.script_types.proofs.ShapeLaws.{formed_is_shaped}
use Rattle.state_rows.specs.HandleSlots.{fresh_slot}
use Rattle.state_rows.specs.declared.thread.ThreadRow.{ThreadRow}
use Rattle.machine.specs.declared.boot.Born.{Born}
use Rattle.machine.specs.Boot.{boot, boot_of, born}
use Rattle.machine.specs.References.{count_of, kernel_holds, mutex_names, option_names, owed_names, same, slot_names, stage_holds, thread_names, total}
use Rattle.machine_laws.proofs.AtBoot.Born.{EachBorn, IsNewThread, each_born}
use Rattle.machine_laws.proofs.AtBoot.BootRows.{total-const}
use Rattle.machine_laws.proofs.AtBoot.BootServing.{total-replicate}
use Rattle.move_laws.proofs.Lists.Totals.{total-append}
use Rattle.move_laws.proofs.References.Same.{same_le, same_object, same_other, same_self}
use Rattle.kcore.proofs.ListSteps.{take_get}
use Rattle.kcore.specs.BootTable.{AreLinked, IsLinkedIn, born_count, born_names, born_rows}

-- nothing is owed, held or asked for at boot, so the threads and the kernel make all references
pub boot_count : (script : Script) (o : ObjNo) → count_of (boot script) o ≡ born_count (born script) o
unfolding boot_of
boot_count script o =
    let handles = total-const (total (slot_names o)) (replicate 256 fresh_slot) (born script) (total-replicate (slot_names o) fresh_slot 256 refl) in
    let owed = total-const (total (owed_names o)) [] (born script) refl in
    let mutexes = total-const (total (mutex_names o)) [] (born script) refl in
    omega arith

-- each thread is linked to its process
linked_in : (script : Script) (n : ℕ) (bs : List Born) (k : ℕ) (b : Born) (row : ThreadRow) → EachBorn script n bs
    → slice_get bs k ≡ Some b → b.thread ≡ Some row → IsLinkedIn n row
linked_in script n [] k b row h at is = absurd (cc)
linked_in script n (x ∷ xs) zero b row h at is =
    let here : x ≡ b = cc in
    let new : IsNewThread n row = h.0.row row (ap (λ (y : Born). y.thread) here ∙ is) in
    record { process = new.process; link = new.link; uses = new.uses; live = new.live }
linked_in script n (x ∷ xs) (suc k) b row h at is = linked_in script n xs k b row h.1 at is

pub linked_at_boot : (script : Script) → IsWellFormed script → AreLinked (born script)
linked_at_boot script valid k b row at is =
    linked_in script (length (born script)) (born script) k b row
    (each_born script (formed_is_shaped script valid)) at is

-- one reference more of an object
pub counted_one : (counts : List ℕ) (x o : ObjNo) → x.0 < length counts
    → slice_index (slice_set counts x.0 (slice_index counts x.0 + 1)) o.0 ≡ slice_index counts o.0 + same x o
counted_one counts x o inside =
    let more = slice_index counts x.0 + 1 in
    elim (cases_eq x.0 o.0) as (λ _. slice_index (slice_set counts x.0 more) o.0 ≡ slice_index counts o.0 + same x o) [
      | inl e ↦
          let one = same_self x in
          subst (λ (y : ObjNo). slice_index (slice_set counts x.0 more) y.0 ≡ slice_index counts y.0 + same x y)
          (same_object x o e) (get_or-set_same counts x.0 more 0 inside ∙ omega arith)
      | inr apart ↦
          let none = same_other x o apart in
          get_or-set_other counts x.0 o.0 more 0 (λ q. apart (sym q)) ∙ omega arith
    ]

-- a thread makes for two at most
pub names_few : (number : ObjNo) (x : Option ThreadRow) (o : ObjNo) → born_names number x o ≤ 2
names_few number None o = omega arith
names_few number (Some row) o = let a = same_le number o in let b = same_le row.process o in omega arith

-- the references that so many rows make
abbrev pub count_so_far : List (Option ThreadRow) → ObjNo → ℕ
count_so_far rows o = total (thread_names o) rows + kernel_holds (get_or rows o.0 None)

-- a row behind the others is read at its own place alone
at_end : (rows : List (Option ThreadRow)) (x : Option ThreadRow) (n : ℕ) (o : ObjNo) → length rows ≡ n
    → ((get_or (rows ++ x ∷ []) o.0 None ≡ x) × (get_or rows o.0 None ≡ None) × (same (record { 0 = n }) o ≡ 1))
    ⊎ ((get_or (rows ++ x ∷ []) o.0 None ≡ get_or rows o.0 None) × (same (record { 0 = n }) o ≡ 0))
at_end rows x n o long = elim (cases_eq n o.0) [
  | inl e ↦ inl (get_or_push rows x None o.0 (omega arith), get_or_past rows o.0 None (omega arith), ap (λ b. if b then 1 else 0) (eq-eqb n o.0 e))
  | inr apart ↦ elim (cases_lt o.0 n) [
    | inl lt ↦ inr (get_or_append_left rows (x ∷ []) None o.0 (omega arith), same_other (record { 0 = n }) o apart)
    | inr past ↦
        inr (
          get_or_past (rows ++ x ∷ []) o.0 None (omega (arith, length-append rows (x ∷ [])))
              ∙ sym (get_or_past rows o.0 None (omega arith)),
          same_other (record { 0 = n }) o apart,
        )
  ]
]

count_pushed : (rows : List (Option ThreadRow)) (x : Option ThreadRow) (n objects : ℕ) (o : ObjNo) → length rows ≡ n
    → ((row : ThreadRow) → x ≡ Some row → IsLinkedIn objects row)
    → count_so_far (rows ++ x ∷ []) o ≡ count_so_far rows o + born_names (record { 0 = n }) x o
count_pushed rows None n objects o long linked =
    let names = total-append (thread_names o) rows (None ∷ []) in
    elim (at_end rows None n o long) [
      | inl h ↦ let a = ap kernel_holds h.0 in let b = ap kernel_holds h.1 in let here = h.2 in omega arith
      | inr h ↦ let a = ap kernel_holds h.0 in let apart = h.1 in omega arith
    ]
count_pushed rows (Some row) n objects o long linked =
    let new = linked row refl in
    let names = total-append (thread_names o) rows (Some row ∷ []) in
    let link : option_names o row.link ≡ same row.process o = ap (option_names o) new.link in
    let uses : option_names o row.uses ≡ 0 = ap (option_names o) new.uses in
    let live : stage_holds row.stage ≡ 1 = ap stage_holds new.live in
    elim (at_end rows (Some row) n o long) [
      | inl h ↦ let a = ap kernel_holds h.0 in let b = ap kernel_holds h.1 in let here = h.2 in omega arith
      | inr h ↦ let a = ap kernel_holds h.0 in let apart = h.1 in omega arith
    ]

-- the row of an object that was read
pub row_got : (all : List Born) (n : ℕ) (b : Born) → slice_get all n ≡ Some b → slice_get (born_rows all) n ≡ Some b.thread
row_got all n b at = slice_get-map (λ (x : Born). x.thread) all n ∙ ap (option_map (λ (x : Born). x.thread)) at

-- one row more
pub counted_next : (all : List Born) (n : ℕ) (b : Born) (o : ObjNo) → n < length all → slice_get all n ≡ Some b
    → AreLinked all
    → count_so_far (take (n + 1) (born_rows all)) o
    ≡ count_so_far (take n (born_rows all)) o + born_names (record { 0 = n }) b.thread o
counted_next all n b o lt at linked =
    let rows = born_rows all in
    let got = row_got all n b at in
    let count = length-map all (λ (x : Born). x.thread) in
    ap (λ (l : List (Option ThreadRow)). count_so_far l o) (take_get rows n b.thread got)
    ∙ count_pushed (take n rows) b.thread n (length all) o (length-take-le n rows (omega arith))
    (λ row is. linked n b row at is)

-- the row of a number
pub row_at : (all : List Born) (n : ℕ) (b : Born) → slice_get all n ≡ Some b → get_or (born_rows all) n None ≡ b.thread
row_at [] n b at = absurd (cc)
row_at (x ∷ xs) zero b at = let here : x ≡ b = cc in ap (λ (y : Born). y.thread) here
row_at (x ∷ xs) (suc n) b at = row_at xs n b at

pub no_row_at : (all : List Born) (n : ℕ) → slice_get all n ≡ None → get_or (born_rows all) n None ≡ None
no_row_at [] n none = refl
no_row_at (x ∷ xs) zero none = absurd (cc)
no_row_at (x ∷ xs) (suc n) none = no_row_at xs n none
