use Rattle.std.proofs.Common.{◌≡◌, ◌<◌, ◌^◌, ℤ, List, ℕ, Result, Ok, FitsSigned, w64, of_z, to_z, true, sym, ◌∙◌, arith}
use Rattle.std.proofs.Math.Facts.{to_z-of_z}
use Rattle.std.proofs.lemmas.Bool.{false≢true}
use Rattle.std.proofs.lemmas.Fmt.{IsAscii-signed, parse-signed_decimal}
use Rattle.std.proofs.lemmas.Slice.Eq.{bytes_eq-Decides}
use Rattle.std.proofs.lemmas.Str.{IsUtf8-from_ascii}
use Rattle.std.specs.Fmt.{signed_decimal}
use Rattle.std.specs.Int.Signed.{mag}
use Rattle.std.specs.Str.{IsUtf8, bytes_eq}
use Rattle.std.specs.Str.Parse.{ParsesSigned}
use Rattle.sym_base.proofs.decimal.read_number.Goals as goal

-- the text of a number is UTF-8
number_utf8 : (word : List ℕ) (n : ℤ) → FitsSigned w64 n → signed_decimal n ≡ word → IsUtf8 word
number_utf8 word n fits same =
    let small : mag n < 2 ^ 63 = (let h = fits.sfits in omega arith) in
    rw (← same) (IsUtf8-from_ascii (signed_decimal n) (IsAscii-signed n small))

-- and is read as that number
number_parses : {E : Type 0} (word : List ℕ) (r : Result ℤ E) (n : ℤ) → FitsSigned w64 n → signed_decimal n ≡ word → ParsesSigned w64 10 word r → r ≡ Ok n
number_parses word r n fits same parses =
    let small : mag n < 2 ^ 63 = (let h = fits.sfits in omega arith) in
    parse-signed_decimal w64 n word r fits small (sym same) parses

ok_same : {E : Type 0} (r : Result ℤ E) (m n : ℤ) → r ≡ Ok m → r ≡ Ok n → m ≡ n
ok_same r m n one other = cc

-- a number that was read is spelt by the word that it was read from
spelt_again : (m n : ℤ) (word : List ℕ) → FitsSigned w64 n → m ≡ n → signed_decimal n ≡ word → bytes_eq (signed_decimal (to_z w64 (of_z w64 m))) word ≡ true
spelt_again m n word fits equal same = (bytes_eq-Decides (signed_decimal (to_z w64 (of_z w64 m))) word).1 (rw (equal, to_z-of_z fits) same)

pub returns-in_default : goal.returns-in_default
returns-in_default c = λ n fits same. c.in_default.ensures.cases.0 (number_utf8 _ n fits same)

pub returns-in_default-parse : goal.returns-in_default-parse
returns-in_default-parse c = λ n fits same. c.in_default-parse.not-Ok n (number_parses _ _ n fits (same ∙ sym c.in-Ok.ensures.cases.0) c.parse.ensures.value.0)

pub returns-else-is_text_of : goal.returns-else-is_text_of
returns-else-is_text_of c = λ n fits same.
    let read : c.parse.result ≡ Ok n = number_parses _ _ n fits (same ∙ sym c.in-Ok.ensures.cases.0) c.parse.ensures.value.0 in
    let number : c.in-Ok-parse.number ≡ n = ok_same c.parse.result _ n c.in-Ok-parse.is read in
    false≢true (sym c.if-is_text_of.false ∙ c.is_text_of.ensures ∙ spelt_again _ n c.args.word.now fits number same)
