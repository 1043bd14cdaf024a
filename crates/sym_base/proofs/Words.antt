-- A word of at most 16 bytes, and then zeros.
use Rattle.std.proofs.Common.{ℕ, ◌≤◌, List, ◌++◌, length, drop, replicate, refl}
use Rattle.std.specs.Prelude.{IsTrue}
use Rattle.std.specs.List.{list_all}
use Rattle.std.proofs.lemmas.List.{drop-replicate}
use Rattle.std.proofs.Math.Seq.{take-append_seam}
use Rattle.sym_base.specs.NameText.{name_byte}
use Rattle.sym_base.specs.Padded.{IsPadded}

pub word_is_padded : (word : List ℕ) → length word ≤ 16 → IsTrue (list_all name_byte word)
    → IsPadded (word ++ drop (length word) (replicate 16 0)) (length word)
word_is_padded word short text = record {
  short = short;
  size = rw take-append_seam refl;
  zeros = rw (take-append_seam, drop-replicate) refl;
  text = rw take-append_seam text;
}
