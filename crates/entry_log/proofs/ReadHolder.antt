-- A holder is read again from its text.
use Rattle.entry_log.proofs.Bytes.{field_byte, decimal_name, decimal_value, free_by, joined_all, list_all_two, name_is_field}
use Rattle.entry_log.proofs.Pieces.{pieces, pieces_joined, pieces_one}
use Rattle.entry_log.specs.HolderText.{holder_text}
use Rattle.entry_log.specs.IsEntry.{IsHolder}
use Rattle.entry_log.specs.Joined.{joined}
use Rattle.entry_log.specs.declared.effect.Holder.{Holder}
use Rattle.entry_log.specs.declared.effect.Holder.TheVariants.{InProcess, InThread, Temp, Own, Link, Message, Kernel}
use Rattle.std.proofs.Common.{◌≡◌, ◌<◌, ◌^◌, ℕ, true, List, [], ◌∷◌, ◌++◌, get_or, drop, codes, decimal, if◌then◌else◌, nat_eq, lit<, refl, arith}
use Rattle.std.specs.List.{list_all}
use Rattle.std.specs.Str.Parse.{digits_value}
use Rattle.sym_base.specs.NameText.{name_byte}

abbrev value : List ℕ → ℕ
value text = digits_value 10 text

-- the holder of one or two pieces
holder_of : List (List ℕ) → Holder
holder_of (owner ∷ index ∷ []) =
    if nat_eq (get_or owner 0 0) 112 then InProcess (record { 0 = value (drop 1 owner) }) (value index) else InThread
    (record { 0 = value (drop 1 owner) }) (value index)
holder_of (only ∷ []) =
    let number = value (drop 3 only) in
    let first = get_or only 0 0 in
    if nat_eq first 116 then Temp (record { 0 = number }) else
    (if nat_eq first 111 then Own (record { 0 = number }) else
    (if nat_eq first 108 then Link (record { 0 = number }) else
    (if nat_eq first 109 then Message (record { 0 = number }) else Kernel)))
holder_of pieces = Kernel

-- the holder of a text
pub read_holder : List ℕ → Holder
read_holder text = holder_of (pieces 46 text)

-- a word and a number, alone or before an index
numbered : (letters : List ℕ) (n : ℕ) → list_all name_byte letters ≡ true → n < 2 ^ 64 → list_all name_byte (letters ++ decimal n) ≡ true
numbered letters n names fits = list_all_two name_byte letters (decimal n) names (decimal_name n fits)

alone : (letters : List ℕ) (n : ℕ) → list_all name_byte letters ≡ true → n < 2 ^ 64 → pieces 46 (letters ++ decimal n) ≡ (letters ++ decimal n) ∷ []
alone letters n names fits = pieces_one 46 (letters ++ decimal n) (free_by name_byte 46 (letters ++ decimal n) refl (numbered letters n names fits))

handle : (letters : List ℕ) (n i : ℕ) → list_all name_byte letters ≡ true → n < 2 ^ 64 → i < 2 ^ 64
    → pieces 46 (joined 46 ((letters ++ decimal n) ∷ decimal i ∷ [])) ≡ (letters ++ decimal n) ∷ decimal i ∷ []
handle letters n i names n_fits i_fits =
    pieces_joined 46 ((letters ++ decimal n) ∷ decimal i ∷ []) (lit< tt)
    (rw (
      free_by name_byte 46 (letters ++ decimal n) refl (numbered letters n names n_fits),
      free_by name_byte 46 (decimal i) refl (decimal_name i i_fits),
    ) refl)

pub holder_read : (holder : Holder) → IsHolder holder → read_holder (holder_text holder) ≡ holder
unfolding read_holder holder_of holder_text IsHolder
holder_read (InProcess process index) known =
    let p : process.0 < 2 ^ 64 = omega arith in
    let i : index < 2 ^ 64 = omega arith in
    rw (handle (codes "p") process.0 index refl p i, decimal_value process.0 p, decimal_value index i) refl
holder_read (InThread thread index) known =
    let p : thread.0 < 2 ^ 64 = omega arith in
    let i : index < 2 ^ 64 = omega arith in
    rw (handle (codes "t") thread.0 index refl p i, decimal_value thread.0 p, decimal_value index i) refl
holder_read (Temp thread) known = let p : thread.0 < 2 ^ 64 = omega arith in rw (alone (codes "tmp") thread.0 refl p, decimal_value thread.0 p) refl
holder_read (Own thread) known = let p : thread.0 < 2 ^ 64 = omega arith in rw (alone (codes "own") thread.0 refl p, decimal_value thread.0 p) refl
holder_read (Link object) known = let p : object.0 < 2 ^ 64 = omega arith in rw (alone (codes "lnk") object.0 refl p, decimal_value object.0 p) refl
holder_read (Message message) known = let p : message.0 < 2 ^ 64 = omega arith in rw (alone (codes "msg") message.0 refl p, decimal_value message.0 p) refl
holder_read Kernel known = refl

pub holder_bytes : (holder : Holder) → IsHolder holder → list_all field_byte (holder_text holder) ≡ true
unfolding holder_text IsHolder
holder_bytes (InProcess process index) known =
    joined_all field_byte 46 ((codes "p" ++ decimal process.0) ∷ decimal index ∷ []) refl
    (rw (
      name_is_field (codes "p" ++ decimal process.0) (numbered (codes "p") process.0 refl (omega arith)),
      name_is_field (decimal index) (decimal_name index (omega arith)),
    ) refl)
holder_bytes (InThread thread index) known =
    joined_all field_byte 46 ((codes "t" ++ decimal thread.0) ∷ decimal index ∷ []) refl
    (rw (
      name_is_field (codes "t" ++ decimal thread.0) (numbered (codes "t") thread.0 refl (omega arith)),
      name_is_field (decimal index) (decimal_name index (omega arith)),
    ) refl)
holder_bytes (Temp thread) known = name_is_field (codes "tmp" ++ decimal thread.0) (numbered (codes "tmp") thread.0 refl (omega arith))
holder_bytes (Own thread) known = name_is_field (codes "own" ++ decimal thread.0) (numbered (codes "own") thread.0 refl (omega arith))
holder_bytes (Link object) known = name_is_field (codes "lnk" ++ decimal object.0) (numbered (codes "lnk") object.0 refl (omega arith))
holder_bytes (Message message) known = name_is_field (codes "msg" ++ decimal message.0) (numbered (codes "msg") message.0 refl (omega arith))
holder_bytes Kernel known = refl
