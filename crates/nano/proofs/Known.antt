-- What interrupts add is what the queues of their script are made for.
use Rattle.std.proofs.Common.{◌≡◌, ℕ, zero, suc, ◌<◌, Bool, List, [], ◌∷◌, get_or, length, map, length-append, subst, refl, arith}
use Rattle.std.specs.List.{cons_option}
use Rattle.std.specs.Prelude.{◌==◌, Option, Some, None, All, filter_map, option_and_then, option_map, position, slice_get}
use Rattle.std.proofs.lemmas.List.{length-map}
use Rattle.std.proofs.lemmas.List.Elements.{All-nil, All-cons}
use Rattle.std.proofs.lemmas.List.Quantifiers.{position-Some}
use Rattle.std.proofs.lemmas.Option.{slice_get-get_or}
use Rattle.std.specs.Str.{bytes_eq}
use Rattle.script_types.specs.declared.declaration.DfcDecl.{DfcDecl}
use Rattle.script_types.specs.declared.declaration.IdfcDecl.{IdfcDecl}
use Rattle.script_types.specs.declared.declaration.IrqBody.{IrqBody}
use Rattle.script_types.specs.declared.declaration.Op.{Op}
use Rattle.script_types.specs.declared.declaration.Op.TheVariants as op
use Rattle.script_types.specs.declared.script.Script.{Script}
use Rattle.state_rows.specs.DeclaredCalls.{calls_of}
use Rattle.state_rows.specs.Deferred.{IsKnown}
use Rattle.state_rows.specs.DeferredChanges.{after_item}
use Rattle.state_rows.specs.declared.deferred.DeferredRows.{DeferredRows}
use Rattle.state_rows.specs.declared.deferred.Item.{Item}
use Rattle.state_rows.specs.declared.deferred.Item.TheVariants.{Idfc, Move}
use Rattle.nano.specs.Interrupts.{item_of, interrupt_of, interrupts_of, added_by, items_at}
use Rattle.nano.specs.declared.interrupts.InterruptBody.{InterruptBody}

-- an item that joins the immediate queue leaves what the queues are made for
pub item_keeps : (r : DeferredRows) (item : Item) → ((after_item r item).idfcs ≡ r.idfcs) × ((after_item r item).places ≡ r.places)
item_keeps r (Idfc item) = (refl, refl)
item_keeps r (Move dfc) = (refl, refl)

pub known_still : (r s : DeferredRows) (item : Item) → s.idfcs ≡ r.idfcs → s.places ≡ r.places → IsKnown r item → IsKnown s item
known_still r s (Idfc item) idfcs places known = rw idfcs known
known_still r s (Move dfc) idfcs places known = rw places known

-- a place that was found by a test is one of the list
found_inside : {A : Type 0} (test : A → Bool) (xs : List A) (place : ℕ) → position test xs ≡ Some place → place < length xs
found_inside test [] place is = absurd (cc)
found_inside test (x ∷ xs) place is = (position-Some test (x ∷ xs) place x is).0

-- each item that an operation adds
idfc_known : (script : Script) (place : Option ℕ) (item : Item) → ((n : ℕ) → place ≡ Some n → n < length script.idfcs)
    → option_map Idfc place ≡ Some item → IsKnown (calls_of script) item
idfc_known script None item inside is = absurd (cc)
idfc_known script (Some n) item inside is = let e : Idfc n ≡ item = cc in subst (IsKnown (calls_of script)) e (inside n refl)

dfc_known : (script : Script) (place : Option ℕ) (item : Item) → ((n : ℕ) → place ≡ Some n → n < length script.dfcs)
    → option_map Move place ≡ Some item → IsKnown (calls_of script) item
dfc_known script None item inside is = absurd (cc)
dfc_known script (Some n) item inside is =
    let low = inside n refl in
    let e : Move n ≡ item = cc in
    subst (IsKnown (calls_of script)) e (simp (length-append, length-map) (omega arith))

op_known : (script : Script) (what : Op) (item : Item) → item_of script what ≡ Some item → IsKnown (calls_of script) item
op_known script (op.Idfc name) item is = idfc_known script _ item (found_inside (λ (d : IdfcDecl). bytes_eq name d.name) script.idfcs) is
op_known script (op.Dfc name) item is = dfc_known script _ item (found_inside (λ (d : DfcDecl). bytes_eq name d.name) script.dfcs) is
op_known script _ item is = absurd (cc)

-- the items of a body
joined : (P : Item → Type 0) (first : Option Item) (items : List Item) → ((item : Item) → first ≡ Some item → P item)
    → All P items → All P (cons_option first items)
joined P None items known all = all
joined P (Some item) items known all = All-cons P item items (known item refl) all

body_known : (script : Script) (body : List Op) → All (IsKnown (calls_of script)) (filter_map (item_of script) body)
body_known script [] = All-nil (IsKnown (calls_of script))
body_known script (what ∷ body) =
    joined (IsKnown (calls_of script)) (item_of script what) (filter_map (item_of script) body) (op_known script what)
    (body_known script body)

-- the items of the interrupt at a place
place_known : (script : Script) (irqs : List IrqBody) (place : ℕ)
    → All (IsKnown (calls_of script)) (added_by (slice_get (map (interrupt_of script) irqs) place))
place_known script [] place = All-nil (IsKnown (calls_of script))
place_known script (irq ∷ irqs) zero = body_known script irq.body
place_known script (irq ∷ irqs) (suc place) = place_known script irqs place

some_known : (script : Script) (place : Option ℕ) → All (IsKnown (calls_of script)) (added_by (option_and_then (slice_get (interrupts_of script)) place))
some_known script None = All-nil (IsKnown (calls_of script))
some_known script (Some place) = place_known script script.irqs place

pub declared_known : (script : Script) (k : ℕ) → All (IsKnown (calls_of script)) (items_at (interrupts_of script) k)
declared_known script k = some_known script (position (λ (interrupt : InterruptBody). interrupt.number == k) (interrupts_of script))

-- what an interrupt adds, where it was found
pub items_found : (interrupts : List InterruptBody) (k place : ℕ) (other : InterruptBody)
    → position (λ (interrupt : InterruptBody). interrupt.number == k) interrupts ≡ Some place
    → items_at interrupts k ≡ (get_or interrupts place other).items
items_found interrupts k place other found =
    let inside = found_inside (λ (interrupt : InterruptBody). interrupt.number == k) interrupts place found in
    rw (found, slice_get-get_or interrupts place other inside) refl
