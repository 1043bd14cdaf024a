use Rattle.std.proofs.Common.{◌≡◌, ◌<◌, ◌^◌, List, ℕ, Result, Ok, true, sym, ◌∙◌}
use Rattle.std.proofs.lemmas.Bool.{false≢true}
use Rattle.std.proofs.lemmas.Fmt.{parse-decimal}
use Rattle.std.proofs.lemmas.Slice.Eq.{bytes_eq-Decides}
use Rattle.std.specs.Fmt.{decimal}
use Rattle.std.specs.Str.{bytes_eq}
use Rattle.std.specs.Str.Parse.{ParsesUnsigned}
use Rattle.eka2_app.proofs.words.number_of.Goals as goal

-- the text of a number is read as that number
number_parses : {E : Type 0} (word : List ℕ) (r : Result ℕ E) (n : ℕ) → n < 2 ^ 64 → word ≡ decimal n → ParsesUnsigned 64 10 word r → r ≡ Ok n
number_parses word r n small same parses = parse-decimal 64 n word r small small same parses

ok_same : {E : Type 0} (r : Result ℕ E) (m n : ℕ) → r ≡ Ok m → r ≡ Ok n → m ≡ n
ok_same r m n one other = cc

-- and a number that was read is the one that the word spells
spelt_again : (m n : ℕ) (word : List ℕ) → m ≡ n → word ≡ decimal n → bytes_eq (decimal m) word ≡ true
spelt_again m n word equal same = (bytes_eq-Decides (decimal m) word).1 (rw equal (sym same))

pub returns-in_default : goal.returns-in_default
returns-in_default c = λ n small same. c.in_default.not-Ok n (number_parses _ _ n small same c.parse.ensures.value.0)

pub returns-else-is_text_of : goal.returns-else-is_text_of
returns-else-is_text_of c = λ n small same.
    let read : c.parse.result ≡ Ok n = number_parses _ _ n small same c.parse.ensures.value.0 in
    let number : c.in-Ok.number ≡ n = ok_same c.parse.result _ n c.in-Ok.is read in
    false≢true (sym c.if-is_text_of.false ∙ c.is_text_of.ensures ∙ spelt_again _ n c.args.word.now number same)
