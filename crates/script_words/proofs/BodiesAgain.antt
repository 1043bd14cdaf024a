-- The words of bodies: those that have their forms and ranges are of the operations that they are, and those of
-- operations in range are those operations.
use Rattle.std.proofs.Common.{◌≡◌, ℕ, Bool, true, false, List, [], ◌∷◌, ◌++◌, length, map, refl, sym, subst, ap, ◌∙◌, arith, Option, Some, None}
use Rattle.std.proofs.lemmas.Bool.{eqb-true}
use Rattle.std.specs.Fmt.{signed_decimal}
use Rattle.std.specs.List.{list_all}
use Rattle.std.specs.Prelude.{◌==◌, ◌&&◌, not, codes, decimal}
use Rattle.std.specs.Str.{bytes_eq}
use Rattle.script_words.specs.LineAt.{op_of, body_in}
use Rattle.script_words.specs.LineSigns.{operations, are_words, is_op, body_passes}
use Rattle.script_words.specs.Signs.{each_passes, has_form, is_in_range, is_signed, lettered_value}
use Rattle.script_words.proofs.OperandsAgain.{Taken, taken, again}
use Rattle.script_words.proofs.Splits.{joined, is_clear, split_clear, split_before, split_some, split_joined}
use Rattle.script_words.proofs.Steps.{both, by_test, same_bytes}
use Rattle.script_types.specs.Forms.{device}
use Rattle.script_types.specs.ObjectName.{is_object_name}
use Rattle.script_types.specs.Ranges.{is_op as is_op_of, is_body}
use Rattle.script_types.specs.SourceWords.{op_words, body_words}
use Rattle.script_types.specs.declared.declaration.Op.{Op}
use Rattle.script_types.specs.declared.declaration.Op.TheVariants as op
use Rattle.script_types.specs.declared.operand.BodyKind.{BodyKind}
use Rattle.script_types.specs.declared.operand.BodyKind.TheVariants as body
use Rattle.script_types.specs.declared.operand.Operand.TheVariants as operand

-- the words of an operation
record OpTaken (kind : BodyKind) (words : List (List ℕ)) : Type 0 where
  same : words ≡ op_words (op_of words)
  range : is_op_of kind (op_of words) ≡ true

record IsName (words : List (List ℕ)) : Type 0 where
  name : List ℕ
  is : words ≡ name ∷ []
  right : is_object_name name ≡ true

one_name : (words : List (List ℕ)) → are_words has_form (operand.Name ∷ []) words ≡ true → IsName words
one_name [] h = absurd (cc)
one_name (name ∷ []) h =
    let parts = both (is_object_name name) true (both (length (name ∷ []) == 1) (is_object_name name && true) h).1 in
    record { name = name; is = refl; right = parts.0 }
one_name (name ∷ other ∷ words) h =
    let size = eqb-true (length (name ∷ other ∷ words)) 1
    (both (length (name ∷ other ∷ words) == 1) (each_passes has_form (operand.Name ∷ []) (name ∷ other ∷ words)) h).0 in
    absurd (omega arith)

record IsDevice (words : List (List ℕ)) : Type 0 where
  number : List ℕ
  code : List ℕ
  is : words ≡ number ∷ code ∷ []
  numbered : Taken device number
  coded : Taken operand.Code code

device_words : (words : List (List ℕ)) → are_words has_form (device ∷ operand.Code ∷ []) words ≡ true
    → are_words is_in_range (device ∷ operand.Code ∷ []) words ≡ true → IsDevice words
device_words [] form range = absurd (cc)
device_words (a ∷ []) form range =
    let size = eqb-true (length (a ∷ [])) 2 (both (length (a ∷ []) == 2) (each_passes has_form (device ∷ operand.Code ∷ []) (a ∷ [])) form).0 in
    absurd (omega arith)
device_words (a ∷ b ∷ []) form range =
    let forms : (has_form device a && (has_form operand.Code b && true)) ≡ true =
    (both (length (a ∷ b ∷ []) == 2) (each_passes has_form (device ∷ operand.Code ∷ []) (a ∷ b ∷ [])) form).1 in
    let ranges : (is_in_range device a && (is_in_range operand.Code b && true)) ≡ true =
    (both (length (a ∷ b ∷ []) == 2) (each_passes is_in_range (device ∷ operand.Code ∷ []) (a ∷ b ∷ [])) range).1 in
    let f = both (has_form device a) (has_form operand.Code b && true) forms in
    let r = both (is_in_range device a) (is_in_range operand.Code b && true) ranges in
    let g = both (has_form operand.Code b) true f.1 in
    let s = both (is_in_range operand.Code b) true r.1 in
    record { number = a; code = b; is = refl; numbered = taken device a refl f.0 r.0; coded = taken operand.Code b refl g.0 s.0 }
device_words (a ∷ b ∷ c ∷ words) form range =
    let size = eqb-true (length (a ∷ b ∷ c ∷ words)) 2
    (both (length (a ∷ b ∷ c ∷ words) == 2)
    (each_passes has_form (device ∷ operand.Code ∷ []) (a ∷ b ∷ c ∷ words)) form).0 in
    absurd (omega arith)

-- an operation whose first word is this one
abbrev TakesOp : BodyKind → List (List ℕ) → List ℕ → Type 0
TakesOp kind words first = is_op has_form kind (first ∷ words) ≡ true → is_op is_in_range kind (first ∷ words) ≡ true → OpTaken kind (first ∷ words)

of_word : (P : List ℕ → Type 0) (first word : List ℕ) → bytes_eq first word ≡ true → P word → P first
of_word P first word e p = subst P (sym (same_bytes first word e)) p

named : (kind : BodyKind) (first : List ℕ) (words : List (List ℕ))
    → ((name : List ℕ) → is_object_name name ≡ true → OpTaken kind (first ∷ name ∷ []))
    → are_words has_form (operand.Name ∷ []) words ≡ true → OpTaken kind (first ∷ words)
named kind first words go form =
    let n = one_name words form in
    subst (λ (ws : List (List ℕ)). OpTaken kind (first ∷ ws)) (sym n.is) (go n.name n.right)

device_taken : (words : List (List ℕ)) → TakesOp body.Call words (codes "device")
device_taken words form range =
    let d = device_words words form range in
    let number = d.numbered.same in
    let code = d.coded.same in
    let low = d.numbered.range in
    let right = d.coded.range in
    subst (λ (ws : List (List ℕ)). OpTaken body.Call (codes "device" ∷ ws)) (sym d.is)
    (record {
      same = ap (λ (w : List ℕ). codes "device" ∷ w ∷ d.code ∷ []) number
          ∙ ap (λ (w : List ℕ). codes "device" ∷ (100 ∷ decimal (lettered_value d.number)) ∷ w ∷ []) code;
      range = rw (low, right) refl;
    })

op_taken : (kind : BodyKind) (words : List (List ℕ)) (first : List ℕ) → TakesOp kind words first
op_taken body.Interrupt words first =
    by_test {P = TakesOp body.Interrupt words first} (bytes_eq first (codes "idfc"))
    (λ i. of_word (TakesOp body.Interrupt words) first (codes "idfc") i
    (λ form range. named body.Interrupt (codes "idfc") words (λ name h. record { same = refl; range = h }) form))
    (λ i. by_test {P = TakesOp body.Interrupt words first} (bytes_eq first (codes "dfc"))
    (λ d. of_word (TakesOp body.Interrupt words) first (codes "dfc") d
    (λ form range. named body.Interrupt (codes "dfc") words (λ name h. record { same = refl; range = h }) form))
    (λ d form range. let bad : false ≡ true = rw (i, d) at form in absurd (cc)))
op_taken body.Call words first =
    by_test {P = TakesOp body.Call words first} (bytes_eq first (codes "fssignal"))
    (λ f. of_word (TakesOp body.Call words) first (codes "fssignal") f
    (λ form range. named body.Call (codes "fssignal") words (λ name h. record { same = refl; range = h }) form))
    (λ f. by_test {P = TakesOp body.Call words first} (bytes_eq first (codes "queue"))
    (λ q. of_word (TakesOp body.Call words) first (codes "queue") q
    (λ form range. named body.Call (codes "queue") words (λ name h. record { same = refl; range = h }) form))
    (λ q. by_test {P = TakesOp body.Call words first} (bytes_eq first (codes "device"))
    (λ d. of_word (TakesOp body.Call words) first (codes "device") d (device_taken words))
    (λ d form range. let bad : false ≡ true = rw (f, q, d) at form in absurd (cc))))

part_taken : (kind : BodyKind) (words : List (List ℕ)) → is_op has_form kind words ≡ true → is_op is_in_range kind words ≡ true → OpTaken kind words
part_taken kind [] form range = absurd (cc)
part_taken kind (first ∷ words) form range = op_taken kind words first form range

-- operations
record OpsTaken (kind : BodyKind) (parts : List (List (List ℕ))) : Type 0 where
  same : parts ≡ map op_words (map op_of parts)
  range : list_all (is_op_of kind) (map op_of parts) ≡ true

ops_taken : (kind : BodyKind) (parts : List (List (List ℕ))) → list_all (is_op has_form kind) parts ≡ true
    → list_all (is_op is_in_range kind) parts ≡ true → OpsTaken kind parts
ops_taken kind [] form range = record { same = refl; range = refl }
ops_taken kind (part ∷ parts) form range =
    let f = both (is_op has_form kind part) (list_all (is_op has_form kind) parts) form in
    let r = both (is_op is_in_range kind part) (list_all (is_op is_in_range kind) parts) range in
    let t = part_taken kind part f.0 r.0 in
    let later = ops_taken kind parts f.1 r.1 in
    record {
      same =
          ap (λ (p : List (List ℕ)). p ∷ parts) t.same
          ∙ ap (λ (ps : List (List (List ℕ))). op_words (op_of part) ∷ ps) later.same;
      range = rw (t.range, later.range) refl;
    }

body_joined : (ops : List Op) → body_words ops ≡ joined (codes ";") (map op_words ops)
body_joined [] = refl
body_joined (what ∷ []) = refl
body_joined (what ∷ next ∷ ops) = ap (λ (ws : List (List ℕ)). op_words what ++ codes ";" ∷ ws) (body_joined (next ∷ ops))

-- a body
pub record BodyTaken (kind : Option BodyKind) (words : List (List ℕ)) : Type 0 where
  pub same : words ≡ body_words (body_in kind words)
  pub range : is_body kind (body_in kind words) ≡ true

some_range : (kind : BodyKind) (parts : List (List (List ℕ))) → (parts ≡ [] → ⊥)
    → list_all (is_op_of kind) (map op_of parts) ≡ true → is_body (Some kind) (map op_of parts) ≡ true
some_range kind [] some h = absurd (some refl)
some_range kind (part ∷ parts) some h = h

pub body_taken : (kind : BodyKind) (words : List (List ℕ)) → list_all (is_op has_form kind) (operations words) ≡ true
    → list_all (is_op is_in_range kind) (operations words) ≡ true → BodyTaken (Some kind) words
body_taken kind words form range =
    let t = ops_taken kind (operations words) form range in
    let ends : List ℕ → Bool = λ word. bytes_eq word (codes ";") in
    record {
      same =
          sym (split_joined ends (codes ";") (λ w e. same_bytes w (codes ";") e) words)
          ∙ ap (joined (codes ";")) t.same
          ∙ sym (body_joined (map op_of (operations words)));
      range = some_range kind (operations words) (split_some ends words) t.range;
    }

-- no word of an operation is `;`
other_word : (test : List ℕ → Bool) (word : List ℕ) → test word ≡ true → test (codes ";") ≡ false → not (bytes_eq word (codes ";")) ≡ true
other_word test word h off =
    by_test {P = not (bytes_eq word (codes ";")) ≡ true} (bytes_eq word (codes ";"))
    (λ e. let bad : false ≡ true = sym off ∙ ap test (sym (same_bytes word (codes ";") e)) ∙ h in absurd (cc))
    (λ e. rw e refl)

pub record OpAgain (kind : BodyKind) (what : Op) : Type 0 where
  pub clear : is_clear (λ word. bytes_eq word (codes ";")) (op_words what) ≡ true
  pub form : is_op has_form kind (op_words what) ≡ true
  pub range : is_op is_in_range kind (op_words what) ≡ true
  pub value : op_of (op_words what) ≡ what

op_again : (kind : BodyKind) (what : Op) → is_op_of kind what ≡ true → OpAgain kind what
op_again body.Interrupt (op.Idfc name) h =
    let o = other_word is_object_name name h refl in
    record { clear = rw o refl; form = rw h refl; range = refl; value = refl }
op_again body.Interrupt (op.Dfc name) h =
    let o = other_word is_object_name name h refl in
    record { clear = rw o refl; form = rw h refl; range = refl; value = refl }
op_again body.Call (op.Fssignal name) h =
    let o = other_word is_object_name name h refl in
    record { clear = rw o refl; form = rw h refl; range = refl; value = refl }
op_again body.Call (op.Queue name) h =
    let o = other_word is_object_name name h refl in
    record { clear = rw o refl; form = rw h refl; range = refl; value = refl }
op_again body.Call (op.Device x code) h =
    let parts = both _ _ h in
    let a = again device x refl parts.0 in
    let b = again operand.Code code refl parts.1 in
    let o = other_word is_signed (signed_decimal code) b.form refl in
    record { clear = rw o refl; form = rw (a.form, b.form) refl; range = rw (a.range, b.range) refl; value = rw (a.value, b.value) refl }
op_again _ what h = absurd (cc)

abbrev AreAgain : BodyKind → List Op → Type 0
AreAgain kind [] = Unit {0}
AreAgain kind (what ∷ ops) = OpAgain kind what × AreAgain kind ops

are_again : (kind : BodyKind) (ops : List Op) → list_all (is_op_of kind) ops ≡ true → AreAgain kind ops
are_again kind [] h = tt
are_again kind (what ∷ ops) h =
    let parts = both (is_op_of kind what) (list_all (is_op_of kind) ops) h in
    (op_again kind what parts.0, are_again kind ops parts.1)

cut_again : (kind : BodyKind) (what : Op) (ops : List Op) → AreAgain kind (what ∷ ops) → operations (body_words (what ∷ ops)) ≡ map op_words (what ∷ ops)
cut_again kind what [] all = split_clear (λ word. bytes_eq word (codes ";")) (op_words what) all.0.clear
cut_again kind what (next ∷ ops) all =
    split_before (λ word. bytes_eq word (codes ";")) (op_words what) (codes ";")
    (body_words (next ∷ ops)) all.0.clear refl
    ∙ ap (λ (ps : List (List (List ℕ))). op_words what ∷ ps) (cut_again kind next ops all.1)

forms_again : (kind : BodyKind) (ops : List Op) → AreAgain kind ops → list_all (is_op has_form kind) (map op_words ops) ≡ true
forms_again kind [] all = refl
forms_again kind (what ∷ ops) all = rw (all.0.form, forms_again kind ops all.1) refl

ranges_again : (kind : BodyKind) (ops : List Op) → AreAgain kind ops → list_all (is_op is_in_range kind) (map op_words ops) ≡ true
ranges_again kind [] all = refl
ranges_again kind (what ∷ ops) all = rw (all.0.range, ranges_again kind ops all.1) refl

values_again : (kind : BodyKind) (ops : List Op) → AreAgain kind ops → map op_of (map op_words ops) ≡ ops
values_again kind [] all = refl
values_again kind (what ∷ ops) all =
    ap (λ (o : Op). o ∷ map op_of (map op_words ops)) all.0.value
    ∙ ap (λ (os : List Op). what ∷ os) (values_again kind ops all.1)

-- a body in range
pub record BodyAgain (kind : Option BodyKind) (ops : List Op) : Type 0 where
  pub form : body_passes has_form kind (body_words ops) ≡ true
  pub range : body_passes is_in_range kind (body_words ops) ≡ true
  pub value : body_in kind (body_words ops) ≡ ops

pub body_again : (kind : Option BodyKind) (ops : List Op) → is_body kind ops ≡ true → BodyAgain kind ops
body_again None [] h = record { form = refl; range = refl; value = refl }
body_again None (what ∷ ops) h = absurd (cc)
body_again (Some kind) [] h = absurd (cc)
body_again (Some kind) (what ∷ ops) h =
    let all = are_again kind (what ∷ ops) h in
    let cut = cut_again kind what ops all in
    record {
      form = ap (list_all (is_op has_form kind)) cut ∙ forms_again kind (what ∷ ops) all;
      range = ap (list_all (is_op is_in_range kind)) cut ∙ ranges_again kind (what ∷ ops) all;
      value = ap (map op_of) cut ∙ values_again kind (what ∷ ops) all;
    }
