-- The word at a place.
use Rattle.std.proofs.Common.{◌≡◌, ℕ, zero, suc, ◌<◌, ◌≤◌, ◌-◌, Bool, false, take, drop, List, [], ◌∷◌, length, refl, ap, arith, Some}
use Rattle.std.proofs.lemmas.List.{take_rest}
use Rattle.std.specs.Borrow.{Bor}
use Rattle.std.specs.Prelude.{slice_get}
use Rattle.script_words.specs.LineSigns.{word_at}
use Rattle.script_words.specs.Signs.{each_passes}
use Rattle.script_types.specs.declared.operand.Operand.{Operand}
use Rattle.script_words.specs.Pieces.{pieces}

pub word_at_place : (words : List (Bor (List ℕ))) (i : ℕ) (word : Bor (List ℕ)) → slice_get words i ≡ Some word → word.now ≡ word_at (pieces words) i
word_at_place [] i word h = absurd (cc)
word_at_place (w ∷ ws) zero word h = let same : word ≡ w = cc in ap (λ (b : Bor (List ℕ)). b.now) same
word_at_place (w ∷ ws) (suc i) word h = word_at_place ws i word h

pub word_past : (words : List (Bor (List ℕ))) (i : ℕ) → length words ≤ i → [] ≡ word_at (pieces words) i
word_past [] i h = refl
word_past (w ∷ ws) zero h = absurd (omega arith)
word_past (w ∷ ws) (suc i) h = word_past ws i (omega arith)

pub pieces_length : (words : List (Bor (List ℕ))) → length (pieces words) ≡ length words
pieces_length [] = refl
pieces_length (w ∷ ws) = ap suc (pieces_length ws)

-- a sign is left, and no word
signs_left : (test : Operand → List ℕ → Bool) (signs : List Operand) (i : ℕ) → i < length signs → false ≡ each_passes test (drop i signs) []
signs_left test [] i some = absurd (omega arith)
signs_left test (s ∷ ss) zero some = refl
signs_left test (s ∷ ss) (suc i) some = signs_left test ss i (omega arith)

pub words_gone : (test : Operand → List ℕ → Bool) (signs : List Operand) (words : List (Bor (List ℕ))) (i : ℕ)
    → i < length signs → length words ≤ i → false ≡ each_passes test (drop i signs) (pieces (drop i words))
words_gone test [] words i some gone = absurd (omega arith)
words_gone test (s ∷ ss) [] zero some gone = refl
words_gone test (s ∷ ss) (w ∷ ws) zero some gone = absurd (omega arith)
words_gone test (s ∷ ss) [] (suc i) some gone = signs_left test ss i (omega arith)
words_gone test (s ∷ ss) (w ∷ ws) (suc i) some gone = words_gone test ss ws i (omega arith) (omega arith)

-- the words behind so many
dropped_pieces : (words : List (Bor (List ℕ))) (count : ℕ) → pieces (drop count words) ≡ drop count (pieces words)
dropped_pieces [] zero = refl
dropped_pieces (w ∷ ws) (suc count) = dropped_pieces ws count
dropped_pieces _ _ = refl

pub pieces_behind : (words : List (Bor (List ℕ))) (count : ℕ) → pieces (take (length words - count) (drop count words)) ≡ drop count (pieces words)
pieces_behind words count = rw take_rest (dropped_pieces words count)

pub none_behind : (words : List (Bor (List ℕ))) (count : ℕ) → length words < count → [] ≡ drop count (pieces words)
none_behind [] zero h = refl
none_behind [] (suc count) h = refl
none_behind (w ∷ ws) zero h = absurd (omega arith)
none_behind (w ∷ ws) (suc count) h = none_behind ws count (omega arith)
