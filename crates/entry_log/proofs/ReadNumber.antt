-- A number with a sign is read again from its text.
use Rattle.entry_log.proofs.Bytes.{decimal_digits, decimal_value}
use Rattle.entry_log.specs.IsEntry.{IsCode}
use Rattle.std.proofs.Common.{◌≡◌, ◌<◌, ◌-◌, ◌^◌, ℕ, ℤ, pos, negsuc, suc, List, drop, if◌then◌else◌, refl, ap, arith}
use Rattle.std.specs.Fmt.{signed_decimal}
use Rattle.std.specs.Int.Signed.{mag}
use Rattle.std.specs.Str.{all_ascii_digits}
use Rattle.std.specs.Str.Parse.{digits_value}

-- the number of a text: digits alone, or a sign before them
pub read_signed : List ℕ → ℤ
read_signed text = if all_ascii_digits text then pos (digits_value 10 text) else negsuc (digits_value 10 (drop 1 text) - 1)

pub signed_read : (z : ℤ) → mag z < 2 ^ 63 → read_signed (signed_decimal z) ≡ z
unfolding read_signed
signed_read (pos n) fits = let p : n < 2 ^ 64 = omega arith in rw (decimal_digits n p, decimal_value n p) refl
signed_read (negsuc n) fits = let p : suc n < 2 ^ 64 = omega arith in rw (decimal_value (suc n) p) (let e : suc n - 1 ≡ n = omega arith in ap negsuc e)

pub fits_wide : (z : ℤ) → IsCode z → mag z < 2 ^ 63
fits_wide z known = let h = known.sfits in omega arith
