-- A part is read again from its text.
use Rattle.entry_log.specs.PartText.{part_text}
use Rattle.entry_log.specs.declared.step.Part.{Part}
use Rattle.entry_log.specs.declared.step.Part.TheVariants.{Seek, Return, Look, Make, Send, Do, Done, Piece}
use Rattle.std.proofs.Common.{◌≡◌, ℕ, true, false, List, [], ◌∷◌, codes, unwrap_or, refl}
use Rattle.std.specs.List.{find, list_all}
use Rattle.std.specs.Str.{bytes_eq}
use Rattle.sym_base.specs.NameText.{name_byte}

all_parts : List Part
all_parts = Seek ∷ Return ∷ Look ∷ Make ∷ Send ∷ Do ∷ Done ∷ Piece ∷ []

-- the part of a text
pub part_of : List ℕ → Part
unfolding all_parts part_text
part_of text = unwrap_or (find (λ part. bytes_eq (part_text part) text) all_parts) Seek

pub part_again : (part : Part) → part_of (part_text part) ≡ part
unfolding part_of all_parts part_text
part_again Seek = refl
part_again part = refl

pub part_name : (part : Part) → list_all name_byte (part_text part) ≡ true
unfolding part_text
part_name Seek = refl
part_name part = refl

-- no part is a word that follows a name
pub part_not_run : (part : Part) → bytes_eq (part_text part) (codes "run") ≡ false
unfolding part_text
part_not_run Seek = refl
part_not_run part = refl

pub part_not_move : (part : Part) → bytes_eq (part_text part) (codes "move") ≡ false
unfolding part_text
part_not_move Seek = refl
part_not_move part = refl
