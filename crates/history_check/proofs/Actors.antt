-- The text of an actor, and the actor that a word spells.
use Rattle.entry_log.specs.ActorText.{actor_text}
use Rattle.entry_log.specs.IsEntry.{IsActor}
use Rattle.entry_log.specs.declared.entry.Actor.{Actor}
use Rattle.entry_log.specs.declared.entry.Actor.TheVariants.{Thread, Irq, Idfc, Tick, Idle}
use Rattle.script_words.proofs.Numbers.{number_again}
use Rattle.script_words.proofs.Steps.{by_test, same_bytes, some_is}
use Rattle.script_words.specs.Fields.{cut_of, number_of}
use Rattle.std.proofs.Common.{◌≡◌, ℕ, ◌≤◌, true, false, nat_eq, if◌then◌else◌, List, [], ◌∷◌, ◌++◌, get_or, drop, codes, decimal, Option, Some, None, option_map, refl, sym, ap, ◌∙◌, arith}
use Rattle.std.specs.Str.{bytes_eq}
use Rattle.history_check.specs.FirstLines.{Begins}
use Rattle.history_check.specs.OfLine.{IsOfActor}
use Rattle.history_check.proofs.Bytes.{decimal_digits, decimal_field, digits_begin, field_byte, free_by}
use Rattle.history_check.proofs.Cuts.{cut_first}
use Rattle.history_check.proofs.EntryBytes.{actor_field}

-- the actor that a text spells
spelled : List ℕ → Option Actor
spelled text =
    if nat_eq (get_or text 0 0) 116 then (if bytes_eq text (codes "tick") then Some Tick else option_map
    (λ n. Thread (record { 0 = n })) (number_of 65535 (drop 1 text))) else
    (if nat_eq (get_or text 1 0) 114 then option_map (λ n. Irq n) (number_of 255 (drop 3 text)) else
    (if nat_eq (get_or text 2 0) 102 then Some Idfc else Some Idle))

not_tick : (n : ℕ) → bytes_eq (decimal n) (codes "ick") ≡ false
not_tick n =
    by_test {P = bytes_eq (decimal n) (codes "ick") ≡ false} (bytes_eq (decimal n) (codes "ick"))
    (λ is. absurd (digits_begin (decimal n) [] (codes "ck" ++ 32 ∷ []) 105 32 refl refl (decimal_digits n)
    (ap (λ (text : List ℕ). text ++ 32 ∷ []) (same_bytes (decimal n) (codes "ick") is))))
    (λ isnt. isnt)

spelled_again : (actor : Actor) → IsActor actor → spelled (actor_text actor) ≡ Some actor
unfolding spelled actor_text IsActor
spelled_again (Thread t) known = let small : t.0 ≤ 65535 = omega arith in rw (not_tick t.0, number_again 65535 t.0 (omega arith) small) refl
spelled_again (Irq k) known = let small : k ≤ 255 = omega arith in rw (number_again 255 k (omega arith) small) refl
spelled_again Idfc known = refl
spelled_again Tick known = refl
spelled_again Idle known = refl

-- so an actor is told by its text
pub actor_same : (a b : Actor) → IsActor a → IsActor b → actor_text a ≡ actor_text b → a ≡ b
actor_same a b known_a known_b same = some_is a b (sym (spelled_again a known_a) ∙ ap spelled same ∙ spelled_again b known_b)

-- the words that spell an actor without a number
named_is : (word name : List ℕ) (found actor : Actor) → spelled name ≡ Some found → IsActor actor
    → word ≡ actor_text actor → bytes_eq word name ≡ true → Some found ≡ Some actor
named_is word name found actor names known same is = sym names ∙ sym (ap spelled (same_bytes word name is)) ∙ ap spelled same ∙ spelled_again actor known

pub tick_is : (word : List ℕ) (actor : Actor) → IsActor actor → word ≡ actor_text actor → bytes_eq word (codes "tick") ≡ true → Some Tick ≡ Some actor
unfolding spelled
tick_is word actor known same is = named_is word (codes "tick") Tick actor refl known same is

pub idfc_is : (word : List ℕ) (actor : Actor) → IsActor actor → word ≡ actor_text actor → bytes_eq word (codes "idfc") ≡ true → Some Idfc ≡ Some actor
unfolding spelled
idfc_is word actor known same is = named_is word (codes "idfc") Idfc actor refl known same is

pub idle_is : (word : List ℕ) (actor : Actor) → IsActor actor → word ≡ actor_text actor → bytes_eq word (codes "idle") ≡ true → Some Idle ≡ Some actor
unfolding spelled
idle_is word actor known same is = named_is word (codes "idle") Idle actor refl known same is

-- and those of a number behind letters
irq_spells : (number : List ℕ) → spelled (codes "irq" ++ number) ≡ option_map (λ n. Irq n) (number_of 255 number)
unfolding spelled
irq_spells number = refl

thread_spells : (number : List ℕ) → bytes_eq (codes "t" ++ number) (codes "tick") ≡ false
    → spelled (codes "t" ++ number) ≡ option_map (λ n. Thread (record { 0 = n })) (number_of 65535 number)
unfolding spelled
thread_spells number isnt = rw isnt refl

pub irq_is : (word number : List ℕ) (actor : Actor) → IsActor actor → word ≡ actor_text actor
    → word ≡ codes "irq" ++ number → option_map (λ n. Irq n) (number_of 255 number) ≡ Some actor
irq_is word number actor known same is = sym (irq_spells number) ∙ sym (ap spelled is) ∙ ap spelled same ∙ spelled_again actor known

pub thread_is : (word number : List ℕ) (actor : Actor) → IsActor actor → word ≡ actor_text actor
    → bytes_eq word (codes "tick") ≡ false → word ≡ codes "t" ++ number
    → option_map (λ n. Thread (record { 0 = n })) (number_of 65535 number) ≡ Some actor
thread_is word number actor known same isnt is =
    sym (thread_spells number (ap (λ (text : List ℕ). bytes_eq text (codes "tick")) (sym is) ∙ isnt))
    ∙ sym (ap spelled is)
    ∙ ap spelled same
    ∙ spelled_again actor known

-- each actor is spelled by one of these
pub one_is : (actor : Actor) → bytes_eq (actor_text actor) (codes "idfc") ≡ false
    → bytes_eq (actor_text actor) (codes "idle") ≡ false → (Begins (actor_text actor) (codes "irq") → ⊥)
    → (Begins (actor_text actor) (codes "t") → ⊥) → ⊥
unfolding actor_text
one_is (Thread t) idfc idle irq thread = thread (record { rest = decimal t.0; whole = refl })
one_is (Irq k) idfc idle irq thread = irq (record { rest = decimal k; whole = refl })
one_is Tick idfc idle irq thread = thread (record { rest = codes "ick"; whole = refl })
one_is Idfc idfc idle irq thread = absurd (cc)
one_is Idle idfc idle irq thread = absurd (cc)

-- the first cut of a line is behind its place, and the second behind its actor
pub first_cut : (line : List ℕ) (actor : Actor) (is : IsOfActor line actor) → cut_of 32 line ≡ Some (decimal is.place, actor_text actor ++ 32 ∷ is.rest)
first_cut line actor is =
    ap (cut_of 32) is.same
    ∙ cut_first 32 (decimal is.place) (actor_text actor ++ 32 ∷ is.rest)
    (free_by field_byte 32 (decimal is.place) refl (decimal_field is.place))

pub behind_first : (line x y : List ℕ) (actor : Actor) (is : IsOfActor line actor) → Some (x, y) ≡ cut_of 32 line → y ≡ actor_text actor ++ 32 ∷ is.rest
behind_first line x y actor is cut =
    let parts : ◌≡◌ {A = List ℕ × List ℕ} (x, y) (decimal is.place, actor_text actor ++ 32 ∷ is.rest) =
    some_is (x, y) (decimal is.place, actor_text actor ++ 32 ∷ is.rest) (cut ∙ first_cut line actor is) in
    ap (λ (p : List ℕ × List ℕ). p.1) parts

pub second_cut : (line x y : List ℕ) (actor : Actor) (is : IsOfActor line actor) → Some (x, y) ≡ cut_of 32 line → cut_of 32 y ≡ Some (actor_text actor, is.rest)
second_cut line x y actor is cut =
    ap (cut_of 32) (behind_first line x y actor is cut)
    ∙ cut_first 32 (actor_text actor) is.rest (free_by field_byte 32 (actor_text actor) refl (actor_field actor))

pub second_word : (line x y word more : List ℕ) (actor : Actor) → IsOfActor line actor → Some (x, y) ≡ cut_of 32 line
    → Some (word, more) ≡ cut_of 32 y → word ≡ actor_text actor
second_word line x y word more actor is one two =
    let parts : ◌≡◌ {A = List ℕ × List ℕ} (word, more) (actor_text actor, is.rest) =
    some_is (word, more) (actor_text actor, is.rest) (two ∙ second_cut line x y actor is one) in
    ap (λ (p : List ℕ × List ℕ). p.0) parts

no_cut : (parts : List ℕ × List ℕ) (found : Option (List ℕ × List ℕ)) → None ≡ found → found ≡ Some parts → ⊥
no_cut parts found none some = let both_are = none ∙ some in absurd (cc)

pub first_there : (line : List ℕ) (actor : Actor) → IsOfActor line actor → None ≡ cut_of 32 line → ⊥
first_there line actor is none = no_cut _ (cut_of 32 line) none (first_cut line actor is)

pub second_there : (line x y : List ℕ) (actor : Actor) → IsOfActor line actor → Some (x, y) ≡ cut_of 32 line → None ≡ cut_of 32 y → ⊥
second_there line x y actor is one none = no_cut _ (cut_of 32 y) none (second_cut line x y actor is one)
