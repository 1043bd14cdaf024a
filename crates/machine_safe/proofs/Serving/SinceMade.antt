-- What a history tells of a server since the last entry that made it, and whether its number became another's since a session was made, with an entry
-- more.
use Rattle.entry_log.specs.declared.effect.Effect.{Effect}
use Rattle.entry_log.specs.declared.entry.Entry.{Entry}
use Rattle.machine.specs.EntryWords.{makes_server}
use Rattle.machine_safe.proofs.Runs.{effects-append}
use Rattle.machine_safe.proofs.Serving.EffectSums.{or-none, or-three}
use Rattle.machine_safe.specs.CountAfter.{effects_of}
use Rattle.machine_safe.specs.Served.{is_remade, link_by, or_before, owner_in, owner_told, server_in, since, since_joined}
use Rattle.std.proofs.Common.{Bool, List, None, Option, Some, [], ap, false, refl, sym, true, ◌++◌, ◌∙◌, ◌∷◌, ◌≡◌}
use Rattle.std.proofs.lemmas.List.{append-nil}
use Rattle.std.specs.Prelude.{if◌then◌else◌, is_some, ◌||◌}
use Rattle.sym_base.specs.declared.number.ObjNo.{ObjNo}

-- entries that stand first, and one behind them
pub owner_in-append : (xs ys : List Entry) (v : ObjNo) → owner_in (xs ++ ys) v ≡ or_before (owner_in ys v) (owner_in xs v)
owner_in-append [] ys v = sym (or-none (owner_in ys v))
owner_in-append (x ∷ xs) ys v =
    ap (λ (o : Option ObjNo). or_before o (if makes_server x.step then owner_told x.effects v else None))
    (owner_in-append xs ys v)
    ∙ or-three (owner_in ys v) (owner_in xs v) (if makes_server x.step then owner_told x.effects v else None)

pub link-push : (before : List Entry) (e : Entry) (s : ObjNo) → server_in (before ++ e ∷ []) s ≡ or_before (link_by e s) (server_in before s)
link-push [] e s = sym (or-none (link_by e s))
link-push (x ∷ xs) e s = ap (λ (o : Option ObjNo). or_before o (link_by x s)) (link-push xs e s) ∙ or-three (link_by e s) (server_in xs s) (link_by x s)

pub effects-push : (before : List Entry) (e : Entry) → effects_of (before ++ e ∷ []) ≡ effects_of before ++ e.effects
effects-push before e = effects-append before (e ∷ []) ∙ ap (λ (l : List Effect). effects_of before ++ l) (append-nil e.effects)

pub some-or : (a b : Option ObjNo) → is_some (or_before a b) ≡ (is_some a || is_some b)
some-or None b = refl
some-or (Some o) b = refl

some-first : (a b : Option ObjNo) → is_some a ≡ true → is_some (or_before a b) ≡ true
some-first None b some = absurd (cc)
some-first (Some o) b some = refl

-- an entry more, which doesn't make the server, and one that does
since-kept : (xs : List Entry) (e : Entry) (v : ObjNo) → owner_in (e ∷ []) v ≡ None → since (xs ++ e ∷ []) v ≡ since xs v ++ e ∷ []
since-kept [] e v none = refl
since-kept (x ∷ xs) e v none = by (is_some (owner_in xs v)) refl (since-kept xs e v none)
  where
    same-owner : owner_in (xs ++ e ∷ []) v ≡ owner_in xs v
    same-owner = owner_in-append xs (e ∷ []) v ∙ ap (λ (o : Option ObjNo). or_before o (owner_in xs v)) none

    by : (b : Bool) → is_some (owner_in xs v) ≡ b → since (xs ++ e ∷ []) v ≡ since xs v ++ e ∷ []
        → (if is_some (owner_in (xs ++ e ∷ []) v) then since (xs ++ e ∷ []) v else x ∷ xs ++ e ∷ [])
        ≡ (if b then since xs v else x ∷ xs) ++ e ∷ []
    by true is rest = ap (λ (b : Bool). if b then since (xs ++ e ∷ []) v else x ∷ xs ++ e ∷ []) (ap is_some same-owner ∙ is) ∙ rest
    by false is rest = ap (λ (b : Bool). if b then since (xs ++ e ∷ []) v else x ∷ xs ++ e ∷ []) (ap is_some same-owner ∙ is)

since-made : (xs : List Entry) (e : Entry) (v : ObjNo) → is_some (owner_in (e ∷ []) v) ≡ true → since (xs ++ e ∷ []) v ≡ e ∷ []
since-made [] e v some = refl
since-made (x ∷ xs) e v some =
    ap (λ (b : Bool). if b then since (xs ++ e ∷ []) v else x ∷ xs ++ e ∷ [])
    (ap is_some (owner_in-append xs (e ∷ []) v) ∙ some-first (owner_in (e ∷ []) v) (owner_in xs v) some)
    ∙ since-made xs e v some

pub since-push : (before : List Entry) (e : Entry) (v : ObjNo)
    → effects_of (since (before ++ e ∷ []) v)
    ≡ (if is_some (owner_in (e ∷ []) v) then e.effects else effects_of (since before v) ++ e.effects)
since-push before e v = by (owner_in (e ∷ []) v) refl
  where
    by : (x : Option ObjNo) → owner_in (e ∷ []) v ≡ x
        → effects_of (since (before ++ e ∷ []) v) ≡ (if is_some x then e.effects else effects_of (since before v) ++ e.effects)
    by None is = ap effects_of (since-kept before e v is) ∙ effects-push (since before v) e
    by (Some o) is = ap effects_of (since-made before e v (ap is_some is)) ∙ append-nil e.effects

-- an entry more, which doesn't make the session, and one that does
joined-kept : (xs : List Entry) (e : Entry) (s : ObjNo) → link_by e s ≡ None → since_joined (xs ++ e ∷ []) s ≡ since_joined xs s ++ e ∷ []
joined-kept [] e s none = ap (λ (o : Option ObjNo). if is_some (or_before None o) then [] else e ∷ []) none
joined-kept (x ∷ xs) e s none = by (is_some (server_in (x ∷ xs) s)) refl (joined-kept xs e s none)
  where
    same-server : server_in (x ∷ xs ++ e ∷ []) s ≡ server_in (x ∷ xs) s
    same-server = link-push (x ∷ xs) e s ∙ ap (λ (o : Option ObjNo). or_before o (server_in (x ∷ xs) s)) none

    by : (b : Bool) → is_some (server_in (x ∷ xs) s) ≡ b → since_joined (xs ++ e ∷ []) s ≡ since_joined xs s ++ e ∷ []
        → (if is_some (server_in (x ∷ xs ++ e ∷ []) s) then since_joined (xs ++ e ∷ []) s else x ∷ xs ++ e ∷ [])
        ≡ (if b then since_joined xs s else x ∷ xs) ++ e ∷ []
    by true is rest = ap (λ (b : Bool). if b then since_joined (xs ++ e ∷ []) s else x ∷ xs ++ e ∷ []) (ap is_some same-server ∙ is) ∙ rest
    by false is rest = ap (λ (b : Bool). if b then since_joined (xs ++ e ∷ []) s else x ∷ xs ++ e ∷ []) (ap is_some same-server ∙ is)

joined-made : (xs : List Entry) (e : Entry) (s : ObjNo) → is_some (link_by e s) ≡ true → since_joined (xs ++ e ∷ []) s ≡ []
joined-made [] e s some = ap (λ (b : Bool). if b then [] else e ∷ []) some
joined-made (x ∷ xs) e s some =
    ap (λ (b : Bool). if b then since_joined (xs ++ e ∷ []) s else x ∷ xs ++ e ∷ [])
    (ap is_some (link-push (x ∷ xs) e s) ∙ some-first (link_by e s) (server_in (x ∷ xs) s) some)
    ∙ joined-made xs e s some

pub remade-push : (before : List Entry) (e : Entry) (s v : ObjNo)
    → is_remade (before ++ e ∷ []) s v
    ≡ (if is_some (link_by e s) then false else (is_some (owner_in (e ∷ []) v) || is_remade before s v))
remade-push before e s v = by (link_by e s) refl
  where
    by : (x : Option ObjNo) → link_by e s ≡ x
        → is_remade (before ++ e ∷ []) s v ≡ (if is_some x then false else (is_some (owner_in (e ∷ []) v) || is_remade before s v))
    by None is =
        ap (λ (l : List Entry). is_some (owner_in l v)) (joined-kept before e s is)
        ∙ (ap is_some (owner_in-append (since_joined before s) (e ∷ []) v)
        ∙ some-or (owner_in (e ∷ []) v) (owner_in (since_joined before s) v))
    by (Some o) is = ap (λ (l : List Entry). is_some (owner_in l v)) (joined-made before e s (ap is_some is))
