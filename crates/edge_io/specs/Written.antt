-- What a sink has written.
use Rattle.std.specs.Prelude.{◌≡◌, ℕ, List, ◌++◌, Option, None, Some}

-- the bytes that were written, where they are told, and then this text
abbrev pub followed : Option (List ℕ) → List ℕ → Option (List ℕ)
followed None text = None
followed (Some written) text = Some (written ++ text)

-- this text was written, and nothing else
abbrev pub Wrote : Option (List ℕ) → Option (List ℕ) → List ℕ → Type 0
Wrote old new text = new ≡ followed old text

-- some prefix of this text was written, and nothing else
pub record WrotePrefix (old new : Option (List ℕ)) (text : List ℕ) : Type 0 where
  pub front : List ℕ
  pub rest : List ℕ
  pub split : front ++ rest ≡ text
  pub wrote : Wrote old new front
