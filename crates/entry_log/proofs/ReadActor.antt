-- An actor is read again from its text.
use Rattle.entry_log.proofs.Bytes.{word_byte, decimal_digits, decimal_name, decimal_value, field_is_word, list_all_two, name_is_field}
use Rattle.entry_log.specs.ActorText.{actor_text}
use Rattle.entry_log.specs.IsEntry.{IsActor}
use Rattle.entry_log.specs.declared.entry.Actor.{Actor}
use Rattle.entry_log.specs.declared.entry.Actor.TheVariants.{Thread, Irq, Idfc, Tick, Idle}
use Rattle.std.proofs.Common.{◌≡◌, ◌<◌, ◌^◌, ℕ, true, List, get_or, drop, codes, decimal, if◌then◌else◌, nat_eq, refl, arith}
use Rattle.std.specs.List.{list_all}
use Rattle.std.specs.Str.{all_ascii_digits}
use Rattle.std.specs.Str.Parse.{digits_value}
use Rattle.sym_base.specs.NameText.{name_byte}

-- the actor of a text
pub read_actor : List ℕ → Actor
read_actor text =
    if nat_eq (get_or text 0 0) 116 then (if all_ascii_digits (drop 1 text) then Thread
    (record { 0 = digits_value 10 (drop 1 text) }) else Tick) else
    (if nat_eq (get_or text 1 0) 114 then Irq (digits_value 10 (drop 3 text)) else
    (if nat_eq (get_or text 2 0) 102 then Idfc else Idle))

pub actor_read : (actor : Actor) → IsActor actor → read_actor (actor_text actor) ≡ actor
unfolding read_actor actor_text IsActor
actor_read (Thread thread) known = let p : thread.0 < 2 ^ 64 = omega arith in rw (decimal_digits thread.0 p, decimal_value thread.0 p) refl
actor_read (Irq number) known = let p : number < 2 ^ 64 = omega arith in rw (decimal_value number p) refl
actor_read Idfc known = refl
actor_read Tick known = refl
actor_read Idle known = refl

actor_name : (actor : Actor) → IsActor actor → list_all name_byte (actor_text actor) ≡ true
unfolding actor_text IsActor
actor_name (Thread thread) known = list_all_two name_byte (codes "t") (decimal thread.0) refl (decimal_name thread.0 (omega arith))
actor_name (Irq number) known = list_all_two name_byte (codes "irq") (decimal number) refl (decimal_name number (omega arith))
actor_name Idfc known = refl
actor_name Tick known = refl
actor_name Idle known = refl

pub actor_bytes : (actor : Actor) → IsActor actor → list_all word_byte (actor_text actor) ≡ true
actor_bytes actor known = field_is_word (actor_text actor) (name_is_field (actor_text actor) (actor_name actor known))
