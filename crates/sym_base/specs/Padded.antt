-- A name is kept in 16 bytes, its own and then zeros.
use Rattle.std.specs.List.{list_all}
use Rattle.std.specs.Prelude.{◌≡◌, ℕ, ◌-◌, ◌≤◌, List, ◌++◌, length, take, replicate, IsTrue}
use Rattle.sym_base.specs.NameText.{name_byte}
use Rattle.sym_base.specs.declared.name.Name.TheInside.{Inside}
use Rattle.std.proofs.Common.{refl}

-- the first of 16 bytes are a name, and zeros follow
pub record IsPadded (bytes : List ℕ) (len : ℕ) : Type 0 where
  pub short : len ≤ 16
  pub size : length (take len bytes) ≡ len
  pub zeros : take len bytes ++ replicate (16 - len) 0 ≡ bytes
  pub text : IsTrue (list_all name_byte (take len bytes))

-- the bytes come back from the name
pub padded_again : (a : Inside) → IsPadded a.bytes a.len
    → record {
      bytes = take a.len a.bytes ++ replicate (16 - length (take a.len a.bytes)) 0;
      len = length (take a.len a.bytes);
    } ≡ a
padded_again a h = rw (h.size, h.zeros) refl
