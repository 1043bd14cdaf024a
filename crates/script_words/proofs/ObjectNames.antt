-- A name of an object is a name.
use Rattle.std.proofs.Common.{◌≡◌, ℕ, true, List, [], ◌∷◌, length, refl, arith, Some}
use Rattle.std.proofs.lemmas.Bool.Decides.{nat_tests}
use Rattle.std.specs.List.{list_all}
use Rattle.std.specs.Prelude.{◌&&◌, nat_le}
use Rattle.script_words.proofs.Steps.{both}
use Rattle.script_types.specs.ObjectName.{is_lower_case, is_object_byte, is_object_name}
use Rattle.sym_base.specs.NameText.{name_byte, name_of}

lower_is_name_byte : (c : ℕ) → is_lower_case c ≡ true → name_byte c ≡ true
lower_is_name_byte c h = grind (arith, nat_tests)

object_is_name_byte : (c : ℕ) → is_object_byte c ≡ true → name_byte c ≡ true
object_is_name_byte c h = grind (arith, nat_tests)

object_bytes : (word : List ℕ) → list_all is_object_byte word ≡ true → list_all name_byte word ≡ true
object_bytes [] h = refl
object_bytes (c ∷ cs) h =
    let parts = both (is_object_byte c) (list_all is_object_byte cs) h in
    rw (object_is_name_byte c parts.0, object_bytes cs parts.1) refl

pub object_name_is_name : (word : List ℕ) → is_object_name word ≡ true → name_of word ≡ Some word
object_name_is_name [] h = absurd (cc)
object_name_is_name (c ∷ cs) h =
    let parts = both (is_lower_case c && nat_le (length cs) 15) (list_all is_object_byte cs) h in
    let first = both (is_lower_case c) (nat_le (length cs) 15) parts.0 in
    let at_front : nat_le 1 (length (c ∷ cs)) ≡ true = grind (arith, nat_tests) in
    let short : nat_le (length (c ∷ cs)) 16 ≡ true = grind (arith, nat_tests) in
    rw (at_front, short, lower_is_name_byte c first.0, object_bytes cs parts.1) refl
