use Rattle.std.proofs.Common.{◌≡◌, ◌<◌, List, ℕ, [], ◌∷◌, length, codes, refl, arith}
use Rattle.std.proofs.lemmas.Bool.Decides.{nat_tests}
use Rattle.entry_log.specs.FinalLine.{shown_name}
use Rattle.entry_log.proofs.text.rows.put_name.Goals as goal

shown_none : (name : List ℕ) → length name ≡ 0 → shown_name name ≡ codes "-"
unfolding shown_name
shown_none [] none = refl
shown_none (byte ∷ bytes) none = absurd (omega arith)

shown_some : (name : List ℕ) → 0 < length name → shown_name name ≡ name
unfolding shown_name
shown_some [] some = absurd (omega arith)
shown_some (byte ∷ bytes) some = refl

pub returns-then-is_empty-clause-text : goal.returns-then-is_empty-clause-text
returns-then-is_empty-clause-text c =
    let none : length c.as_slice-bytes.result.now ≡ 0 = grind (arith, nat_tests) in
    rw (← c.as_slice-bytes.ensures.bytes, shown_none _ none) c.put.ensures

pub returns-else-is_empty-clause-text : goal.returns-else-is_empty-clause-text
returns-else-is_empty-clause-text c =
    let some : 0 < length c.as_slice-bytes.result.now = grind (arith, nat_tests) in
    rw (← c.as_slice-bytes.ensures.bytes, shown_some _ some) c.put-else-is_empty.ensures
