-- Messages whose numbers rise, where one comes, where one changes and where one goes.
use Rattle.std.proofs.Common.{◌≡◌, inl, inr, ℕ, ◌+◌, ◌<◌, Bool, true, false, List, [], ◌∷◌, ◌++◌, map, arith, refl, sym, subst, ap, ◌∙◌, Some}
use Rattle.std.specs.Prelude.{Contains, cond, filter, find, if◌then◌else◌, not}
use Rattle.std.proofs.lemmas.Bool.{eq-eqb, eqb-true}
use Rattle.std.proofs.lemmas.List.Elements.{Contains-push_cases}
use Rattle.sym_base.specs.declared.number.MsgNo.{MsgNo}
use Rattle.state_rows.specs.MessageChanges.{edited}
use Rattle.state_rows.specs.MessageRows.{has_number}
use Rattle.state_rows.specs.declared.messages.Message.{Message}
use Rattle.state_rows.specs.declared.messages.MsgRow.{MsgRow}
use Rattle.machine.specs.References.{total}
use Rattle.machine.specs.Serving.{AreRising}
use Rattle.move_laws.proofs.Lists.Contents.{contains_behind, contains_cases, contains_filter, contains_first, contains_map, none_contained}
use Rattle.move_laws.proofs.References.Same.{eqb_apart}

-- a message comes behind those of lower numbers
pub rising-push : (xs : List Message) (y : Message) → ((x : Message) → Contains xs x → x.number.0 < y.number.0) → AreRising xs → AreRising (xs ++ y ∷ [])
rising-push [] y above h = (λ other there. absurd (none_contained other there), tt)
rising-push (x ∷ xs) y above h = (
  λ other there. elim (Contains-push_cases xs y other there) as (λ _. x.number.0 < other.number.0) [
    | inl was ↦ h.0 other was
    | inr new ↦ subst (λ (z : Message). x.number.0 < z.number.0) new (above x (contains_first xs x))
  ],
  rising-push xs y (λ z there. above z (contains_behind x xs z there)) h.1,
)

-- each message changes, but for its number
pub rising-map : (g : Message → Message) (xs : List Message) → ((x : Message) → (g x).number ≡ x.number) → AreRising xs → AreRising (map g xs)
rising-map g [] keeps h = tt
rising-map g (x ∷ xs) keeps h = (
  λ other there.
      let was = contains_map g xs other there in
      let below = h.0 was.0 was.1 in
      let a : (g x).number.0 ≡ x.number.0 = ap (λ (m : MsgNo). m.0) (keeps x) in
      let b : other.number.0 ≡ was.0.number.0 = ap (λ (z : Message). z.number.0) (sym was.2) ∙ ap (λ (m : MsgNo). m.0) (keeps was.0) in omega arith,
  rising-map g xs keeps h.1,
)

-- some go
pub rising-filter : (p : Message → Bool) (xs : List Message) → AreRising xs → AreRising (filter p xs)
rising-filter p [] h = tt
rising-filter p (x ∷ xs) h = by (p x) (rising-filter p xs h.1)
  where
    by : (b : Bool) → AreRising (filter p xs) → AreRising (if b then x ∷ filter p xs else filter p xs)
    by true rest = (λ other there. h.0 other (contains_filter p xs other there), rest)
    by false rest = rest

-- what is read off each message and stays where one is edited
pub edited-value : {B : Type 0} (q : Message → B) (m : MsgNo) (change : MsgRow → MsgRow) (message : Message)
    → q (record message { row = change message.row }) ≡ q message → q (edited m change message) ≡ q message
edited-value {B} q m change message keeps = by (has_number m message)
  where
    by : (b : Bool) → q (if b then record message { row = change message.row } else message) ≡ q message
    by true = keeps
    by false = refl

-- where no message has a number, none goes with it
none_goes : (f : Message → ℕ) (m : MsgNo) (xs : List Message) → ((x : Message) → Contains xs x → has_number m x ≡ false)
    → total f (filter (λ message. not (has_number m message)) xs) ≡ total f xs
none_goes f m [] none = refl
none_goes f m (x ∷ xs) none = by (has_number m x) (none x (contains_first xs x)) (none_goes f m xs (λ y there. none y (contains_behind x xs y there)))
  where
    by : (b : Bool) → b ≡ false → total f (filter (λ message. not (has_number m message)) xs) ≡ total f xs
        → total f (if not b then x ∷ filter (λ message. not (has_number m message)) xs else filter
        (λ message. not (has_number m message)) xs) ≡ f x + total f xs
    by true is rest = absurd (cc)
    by false is rest = omega arith

-- of messages with rising numbers one goes with its number
pub one_goes : (f : Message → ℕ) (m : MsgNo) (xs : List Message) (message : Message) → AreRising xs
    → find (has_number m) xs ≡ Some message
    → total f (filter (λ other. not (has_number m other)) xs) + f message ≡ total f xs
one_goes f m [] message h found = absurd (cc)
one_goes f m (x ∷ xs) message h found = by (has_number m x) refl (one_goes f m xs message h.1) found
  where
    by : (b : Bool) → has_number m x ≡ b → (find (has_number m) xs ≡ Some message
        → total f (filter (λ other. not (has_number m other)) xs) + f message ≡ total f xs)
        → cond b (Some x) (find (has_number m) xs) ≡ Some message
        → total f (if not b then x ∷ filter (λ other. not (has_number m other)) xs else filter
        (λ other. not (has_number m other)) xs) + f message ≡ f x + total f xs
    by true is rest e =
        let own : x ≡ message = cc in
        let number = eqb-true x.number.0 m.0 is in
        let a = none_goes f m xs (λ y there. let above = h.0 y there in eqb_apart y.number.0 m.0 (λ same. absurd (omega arith))) in
        let b = ap f own in omega arith
    by false is rest e = let a = rest e in omega arith

-- a message that stands among others of rising numbers is found by its number
pub found_one : (xs : List Message) (message : Message) → AreRising xs → Contains xs message → find (has_number message.number) xs ≡ Some message
found_one [] message h there = absurd (none_contained message there)
found_one (x ∷ xs) message h there = contains_cases (λ (z : Message). find (has_number z.number) (x ∷ xs) ≡ Some z) x xs message there
    (ap (λ (b : Bool). cond b (Some x) (find (has_number x.number) xs)) (eq-eqb x.number.0 x.number.0 refl))
    (λ z behind. let below = h.0 z behind in
    ap (λ (b : Bool). cond b (Some x) (find (has_number z.number) xs))
    (eqb_apart x.number.0 z.number.0 (λ same. absurd (omega arith))) ∙ found_one xs z h.1 behind)
