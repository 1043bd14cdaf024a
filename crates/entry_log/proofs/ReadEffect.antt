-- An effect is read again from its text.
use Rattle.entry_log.proofs.Bytes.{both, field_byte, word_byte, all_free, decimal_digits, decimal_name, decimal_value, field_is_word, joined_all, list_all_two, name_is_field, signed_name}
use Rattle.entry_log.proofs.Pieces.{pieces, pieces_joined}
use Rattle.entry_log.proofs.ReadHolder.{holder_bytes, holder_read, read_holder}
use Rattle.entry_log.proofs.ReadNumber.{fits_wide, read_signed, signed_read}
use Rattle.entry_log.specs.EffectText.{effect_fields, effect_text, lock_text, status_text}
use Rattle.entry_log.specs.HolderText.{holder_text}
use Rattle.entry_log.specs.IsEntry.{IsEffect, IsLock, IsStatus}
use Rattle.entry_log.specs.declared.effect.Effect.{Effect}
use Rattle.entry_log.specs.declared.effect.Effect.TheVariants.{Plus, Minus, Dead, Swept, Seek, Missed, Accept, Finish, Signal, Take, Give, Terminated, Doom, Bury}
use Rattle.entry_log.specs.declared.effect.LockNo.{LockNo}
use Rattle.entry_log.specs.declared.effect.LockNo.TheVariants.{Object, Fast}
use Rattle.entry_log.specs.declared.effect.StatusNo.{StatusNo}
use Rattle.entry_log.specs.declared.effect.StatusNo.TheVariants.{Async, Sync}
use Rattle.std.proofs.Common.{◌≡◌, ◌<◌, ◌≤◌, ◌^◌, ℕ, true, List, [], ◌∷◌, ◌++◌, length, get_or, drop, codes, decimal, if◌then◌else◌, nat_eq, lit≤, refl, ap, arith}
use Rattle.std.specs.List.{list_all}
use Rattle.std.specs.Str.{all_ascii_digits, bytes_eq}
use Rattle.std.specs.Str.Parse.{digits_value}
use Rattle.sym_base.specs.NameText.{name_byte}

abbrev value : List ℕ → ℕ
value text = digits_value 10 text

read_status : List ℕ → StatusNo
read_status text = if all_ascii_digits text then Async (value text) else Sync

status_read : (status : StatusNo) → IsStatus status → read_status (status_text status) ≡ status
unfolding read_status status_text IsStatus
status_read (Async number) known = let p : number < 2 ^ 64 = omega arith in rw (decimal_digits number p, decimal_value number p) refl
status_read Sync known = refl

read_lock : List ℕ → LockNo
read_lock text = if all_ascii_digits text then Object (record { 0 = value text }) else Fast (value (drop 1 text))

lock_read : (lock : LockNo) → IsLock lock → read_lock (lock_text lock) ≡ lock
unfolding read_lock lock_text IsLock
lock_read (Object object) known = let p : object.0 < 2 ^ 64 = omega arith in rw (decimal_digits object.0 p, decimal_value object.0 p) refl
lock_read (Fast number) known = let p : number < 2 ^ 64 = omega arith in rw (decimal_value number p) refl

status_name : (status : StatusNo) → IsStatus status → list_all name_byte (status_text status) ≡ true
unfolding status_text IsStatus
status_name (Async number) known = decimal_name number (omega arith)
status_name Sync known = refl

lock_name : (lock : LockNo) → IsLock lock → list_all name_byte (lock_text lock) ≡ true
unfolding lock_text IsLock
lock_name (Object object) known = decimal_name object.0 (omega arith)
lock_name (Fast number) known = list_all_two name_byte (codes "f") (decimal number) refl (decimal_name number (omega arith))

-- the effect of two fields, by the sign or the word that it begins with
simple : List ℕ → ℕ → Effect
simple word n =
    if bytes_eq word (codes "dead") then Dead (record { 0 = n }) else
    (if bytes_eq word (codes "swept") then Swept (record { 0 = n }) else
    (if bytes_eq word (codes "seek") then Seek (record { 0 = n }) else
    (if bytes_eq word (codes "missed") then Missed (record { 0 = n }) else
    (if bytes_eq word (codes "accept") then Accept (record { 0 = n }) else
    (if bytes_eq word (codes "ended") then Terminated (record { 0 = n }) else
    (if bytes_eq word (codes "doom") then Doom (record { 0 = n }) else Bury (record { 0 = n })))))))

effect_of : List (List ℕ) → Effect
effect_of (word ∷ a ∷ []) =
    if nat_eq (get_or word 0 0) 43 then Plus (read_holder (drop 1 word)) (record { 0 = value a }) else
    (if nat_eq (get_or word 0 0) 45 then Minus (read_holder (drop 1 word)) (record { 0 = value a }) else simple word
    (value a))
effect_of (word ∷ a ∷ b ∷ []) =
    if bytes_eq word (codes "finish") then Finish (record { 0 = value a }) (read_signed b) else
    (if bytes_eq word (codes "take") then Take (record { 0 = value a }) (read_lock b) else Give (record { 0 = value a })
    (read_lock b))
effect_of (word ∷ a ∷ b ∷ c ∷ []) = Signal (record { 0 = value a }) (read_status b) (read_signed c)
effect_of fields = Dead (record { 0 = 0 })

effect_again : (effect : Effect) → IsEffect effect → effect_of (effect_fields effect) ≡ effect
unfolding effect_of simple effect_fields IsEffect
effect_again (Plus holder object) known = rw (holder_read holder known.0, decimal_value object.0 (omega arith)) refl
effect_again (Minus holder object) known = rw (holder_read holder known.0, decimal_value object.0 (omega arith)) refl
effect_again (Dead object) known = rw (decimal_value object.0 (omega arith)) refl
effect_again (Swept object) known = rw (decimal_value object.0 (omega arith)) refl
effect_again (Seek object) known = rw (decimal_value object.0 (omega arith)) refl
effect_again (Missed object) known = rw (decimal_value object.0 (omega arith)) refl
effect_again (Accept message) known = rw (decimal_value message.0 (omega arith)) refl
effect_again (Finish message code) known = rw (decimal_value message.0 (omega arith), signed_read code (fits_wide code known.1)) refl
effect_again (Signal thread status code) known =
    rw (
      decimal_value thread.0 (omega arith),
      status_read status known.1,
      signed_read code (fits_wide code known.2),
    ) refl
effect_again (Take thread lock) known = rw (decimal_value thread.0 (omega arith), lock_read lock known.1) refl
effect_again (Give thread lock) known = rw (decimal_value thread.0 (omega arith), lock_read lock known.1) refl
effect_again (Terminated server) known = rw (decimal_value server.0 (omega arith)) refl
effect_again (Doom thread) known = rw (decimal_value thread.0 (omega arith)) refl
effect_again (Bury thread) known = rw (decimal_value thread.0 (omega arith)) refl

number_field : (n : ℕ) → n < 2 ^ 64 → list_all field_byte (decimal n) ≡ true
number_field n fits = name_is_field (decimal n) (decimal_name n fits)

reference_fields : (sign : List ℕ) (holder : List ℕ) (n : ℕ) → list_all field_byte sign ≡ true
    → list_all field_byte holder ≡ true → n < 2 ^ 64
    → list_all (list_all field_byte) ((sign ++ holder) ∷ decimal n ∷ []) ≡ true
reference_fields sign holder n s h fits = rw (list_all_two field_byte sign holder s h, number_field n fits) refl

effect_fields_bytes : (effect : Effect) → IsEffect effect → list_all (list_all field_byte) (effect_fields effect) ≡ true
unfolding effect_fields IsEffect
effect_fields_bytes (Plus holder object) known = reference_fields (codes "+") (holder_text holder) object.0 refl (holder_bytes holder known.0) (omega arith)
effect_fields_bytes (Minus holder object) known = reference_fields (codes "-") (holder_text holder) object.0 refl (holder_bytes holder known.0) (omega arith)
effect_fields_bytes (Dead object) known = rw (number_field object.0 (omega arith)) refl
effect_fields_bytes (Swept object) known = rw (number_field object.0 (omega arith)) refl
effect_fields_bytes (Seek object) known = rw (number_field object.0 (omega arith)) refl
effect_fields_bytes (Missed object) known = rw (number_field object.0 (omega arith)) refl
effect_fields_bytes (Accept message) known = rw (number_field message.0 (omega arith)) refl
effect_fields_bytes (Finish message code) known = rw (number_field message.0 (omega arith), name_is_field _ (signed_name code (fits_wide code known.1))) refl
effect_fields_bytes (Signal thread status code) known =
    rw (
      number_field thread.0 (omega arith),
      name_is_field (status_text status) (status_name status known.1),
      name_is_field _ (signed_name code (fits_wide code known.2)),
    ) refl
effect_fields_bytes (Take thread lock) known = rw (number_field thread.0 (omega arith), name_is_field _ (lock_name lock known.1)) refl
effect_fields_bytes (Give thread lock) known = rw (number_field thread.0 (omega arith), name_is_field _ (lock_name lock known.1)) refl
effect_fields_bytes (Terminated server) known = rw (number_field server.0 (omega arith)) refl
effect_fields_bytes (Doom thread) known = rw (number_field thread.0 (omega arith)) refl
effect_fields_bytes (Bury thread) known = rw (number_field thread.0 (omega arith)) refl

two_fields : (effect : Effect) → 2 ≤ length (effect_fields effect)
unfolding effect_fields
two_fields (Dead object) = lit≤ tt
two_fields other = lit≤ tt

pub effect_pieces : (effect : Effect) → IsEffect effect → pieces 58 (effect_text effect) ≡ effect_fields effect
unfolding effect_text
effect_pieces effect known =
    let some : 2 ≤ length (effect_fields effect) = two_fields effect in
    pieces_joined 58 (effect_fields effect) (omega arith)
    (all_free field_byte 58 (effect_fields effect) refl (effect_fields_bytes effect known))

-- the effect of a text
pub read_effect : List ℕ → Effect
read_effect text = effect_of (pieces 58 text)

pub effect_read : (effect : Effect) → IsEffect effect → read_effect (effect_text effect) ≡ effect
unfolding read_effect
effect_read effect known = rw (effect_pieces effect known) (effect_again effect known)

-- an effect's text isn't the equals sign that begins an answer
pub effect_not_answer : (effect : Effect) → IsEffect effect → effect_text effect ≡ codes "=" → ⊥
effect_not_answer effect known same =
    let one : codes "=" ∷ [] ≡ effect_fields effect = rw same at (effect_pieces effect known) in
    let some : 2 ≤ length (effect_fields effect) = two_fields effect in
    absurd (omega (arith, ap length one))

fields_are_words : (fields : List (List ℕ)) → list_all (list_all field_byte) fields ≡ true → list_all (list_all word_byte) fields ≡ true
fields_are_words [] all = refl
fields_are_words (field ∷ fields) all =
    let h = both (list_all field_byte field) (list_all (list_all field_byte) fields) all in
    rw (field_is_word field h.0, fields_are_words fields h.1) refl

pub effect_bytes : (effect : Effect) → IsEffect effect → list_all word_byte (effect_text effect) ≡ true
unfolding effect_text
effect_bytes effect known = joined_all word_byte 58 (effect_fields effect) refl (fields_are_words (effect_fields effect) (effect_fields_bytes effect known))
