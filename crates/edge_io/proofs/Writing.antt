-- Writes one after another.
use Rattle.std.proofs.Common.{◌≡◌, ℕ, ◌+◌, ◌-◌, List, [], ◌++◌, length, take, drop, append_assoc, refl, sym, ◌∙◌, ap, subst}
use Rattle.std.proofs.lemmas.List.{append-nil, take-append-drop, take_rest}
use Rattle.std.proofs.Math.Seq.{take-add}
use Rattle.std.specs.Prelude.{Option, None, Some, is_some}
use Rattle.edge_io.specs.Written.{followed, Wrote, WrotePrefix}

-- what was written, and then a text in two parts
pub followed-append : (written : Option (List ℕ)) (xs ys : List ℕ) → followed written (xs ++ ys) ≡ followed (followed written xs) ys
followed-append None xs ys = refl
followed-append (Some zs) xs ys = ap Some (sym (append_assoc zs xs ys))

-- what was written, and nothing more
pub followed-nil : (written : Option (List ℕ)) → followed written [] ≡ written
followed-nil None = refl
followed-nil (Some zs) = ap Some (append-nil zs)

-- a call that wrote nothing
pub wrote_nothing : (old : Option (List ℕ)) → Wrote old old []
wrote_nothing old = sym (followed-nil old)

-- a text, and then another
pub wrote_both : (a b c : Option (List ℕ)) (xs ys : List ℕ) → Wrote a b xs → Wrote b c ys → Wrote a c (xs ++ ys)
wrote_both a b c xs ys first second = second ∙ ap (λ o. followed o ys) first ∙ sym (followed-append a xs ys)

-- a sink goes on to tell its bytes, or not to
pub wrote_tells : (a b : Option (List ℕ)) (xs : List ℕ) → Wrote a b xs → is_some b ≡ is_some a
wrote_tells None b xs wrote = ap is_some wrote
wrote_tells (Some zs) b xs wrote = ap is_some wrote

-- the whole text is a prefix of it
pub wrote_is_prefix : (a b : Option (List ℕ)) (xs : List ℕ) → Wrote a b xs → WrotePrefix a b xs
wrote_is_prefix a b xs wrote = record { front = xs; rest = []; split = append-nil xs; wrote = wrote }

-- a prefix of a text is a prefix of a longer one
pub prefix_of_more : (a b : Option (List ℕ)) (xs ys : List ℕ) → WrotePrefix a b xs → WrotePrefix a b (xs ++ ys)
prefix_of_more a b xs ys p = record {
  front = p.front;
  rest = p.rest ++ ys;
  split = sym (append_assoc p.front p.rest ys) ∙ ap (λ t. t ++ ys) p.split;
  wrote = p.wrote;
}

-- a text, and then a prefix of another
pub wrote_then_prefix : (a b c : Option (List ℕ)) (xs ys : List ℕ) → Wrote a b xs → WrotePrefix b c ys → WrotePrefix a c (xs ++ ys)
wrote_then_prefix a b c xs ys first p = record {
  front = xs ++ p.front;
  rest = p.rest;
  split = append_assoc xs p.front p.rest ∙ ap (λ t. xs ++ t) p.split;
  wrote = wrote_both a b c xs p.front first p.wrote;
}

-- Of a text all but the rest was written: what a loop that writes a long text keeps.
pub record WroteAllBut (old new : Option (List ℕ)) (rest text : List ℕ) : Type 0 where
  pub front : List ℕ
  pub split : front ++ rest ≡ text
  pub wrote : Wrote old new front

-- nothing is written yet
pub all_but_all : (old : Option (List ℕ)) (text : List ℕ) → WroteAllBut old old text text
all_but_all old text = record { front = []; split = refl; wrote = wrote_nothing old }

-- the next part was written
pub all_but_next : (a b c : Option (List ℕ)) (left part rest text : List ℕ) → WroteAllBut a b left text
    → left ≡ part ++ rest → Wrote b c part → WroteAllBut a c rest text
all_but_next a b c left part rest text before next wrote = record {
  front = before.front ++ part;
  split = append_assoc before.front part rest ∙ ap (λ t. before.front ++ t) (sym next) ∙ before.split;
  wrote = wrote_both a b c before.front part before.wrote wrote;
}

-- nothing is left to write
pub all_but_nothing : (a b : Option (List ℕ)) (text : List ℕ) → WroteAllBut a b [] text → Wrote a b text
all_but_nothing a b text before = before.wrote ∙ ap (followed a) (sym (append-nil before.front) ∙ before.split)

-- a prefix of the next part was written
pub all_but_prefix : (a b c : Option (List ℕ)) (left part rest text : List ℕ) → WroteAllBut a b left text
    → left ≡ part ++ rest → WrotePrefix b c part → WrotePrefix a c text
all_but_prefix a b c left part rest text before next p =
    let whole : WrotePrefix a c (before.front ++ (part ++ rest)) = wrote_then_prefix a b c before.front
    (part ++ rest) before.wrote (prefix_of_more b c part rest p) in
    subst (WrotePrefix a c) (ap (λ t. before.front ++ t) (sym next) ∙ before.split) whole

-- the first of a text's bytes are a prefix of it
pub prefix_of_take : (a b : Option (List ℕ)) (n : ℕ) (text : List ℕ) → Wrote a b (take n text) → WrotePrefix a b text
prefix_of_take a b n text wrote = record { front = take n text; rest = drop n text; split = take-append-drop n text; wrote = wrote }

-- the first n bytes of a text, and then m of the rest
pub wrote_more : (a b c : Option (List ℕ)) (n m : ℕ) (text : List ℕ) → Wrote a b (take n text)
    → Wrote b c (take m (take (length text - n) (drop n text))) → Wrote a c (take (n + m) text)
wrote_more a b c n m text first second =
    wrote_both a b c (take n text) _ first second ∙ ap (followed a) (ap (λ t. take n text ++ take m t) (take_rest text n) ∙ sym (take-add n m text))

-- a prefix of a text, by its length, that a call which wrote nothing left
pub prefix_left : (a b c : Option (List ℕ)) (n : ℕ) (text : List ℕ) → Wrote a b (take n text) → c ≡ b → WrotePrefix a c text
prefix_left a b c n text wrote same = prefix_of_take a c n text (same ∙ wrote)
