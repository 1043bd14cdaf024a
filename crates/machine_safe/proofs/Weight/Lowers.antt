-- A doomed thread that weighs less after some moves of its own.
use Rattle.std.proofs.Common.{◌≡◌, ◌⊎◌, inl, inr, ℕ, ◌+◌, ◌*◌, ◌≤◌, List, [], ◌∷◌, ◌++◌, arith, refl, ap, ◌∙◌, Bool, true, Some}
use Rattle.std.specs.Prelude.{◌&&◌}
use Rattle.sym_base.specs.declared.number.ObjNo.{ObjNo}
use Rattle.script_types.specs.declared.script.Script.{Script}
use Rattle.state_rows.specs.declared.thread.Stage.TheVariants.{Doomed}
use Rattle.state_rows.specs.declared.thread.ThreadRow.{ThreadRow}
use Rattle.machine.specs.Fits.{EachFits, Sane, most_owed}
use Rattle.machine.specs.Moves.{moved, perform, told}
use Rattle.machine.specs.References.{mutex_names, total}
use Rattle.machine.specs.Rows.{owed_of, thread_of}
use Rattle.machine.specs.WellFormed.{weight}
use Rattle.machine.specs.declared.moves.Move.{Move}
use Rattle.machine.specs.declared.moves.Move.TheVariants as move
use Rattle.machine.specs.declared.state.State.{State}
use Rattle.move_laws.proofs.MoveLaws.Run.{sane-after, sound-move, weight-move}
use Rattle.machine_safe.proofs.Weight.Lighter.{Lighter, gets-then, lighter-none, lighter-then}
use Rattle.machine_safe.proofs.Weight.Moves.{gain_bit, is_aside, made_bit, post_bit}
use Rattle.machine_safe.proofs.Weight.Others.{lighter-move}
use Rattle.machine_safe.specs.Weight.{GetsNoMore, servers_of, weight_of}
use Rattle.std.proofs.lemmas.Bool.{and_parts}

-- it weighs less, and is doomed still or cleaned
pub record Lowered (S T : State) (t : ObjNo) (row : ThreadRow) : Type 0 where
  pub new : ThreadRow
  pub is : thread_of T t ≡ Some new
  pub process : new.process ≡ row.process
  pub less : weight_of T t new + 1 ≤ weight_of S t row
  pub gets : GetsNoMore S T t

-- and so with what is done before and behind
pub lowered-then : (S T U : State) (t : ObjNo) (row : ThreadRow) (h : Lowered S T t row) → Lighter T U t h.new 0 0 0 → Lowered S U t row
lowered-then S T U t row h g = record {
  new = g.new;
  is = g.is;
  process = g.process ∙ h.process;
  less = let one = h.less in let two = g.rest in let three = g.logons in omega arith;
  gets = gets-then S T U t h.gets g.gets;
}

pub then-lowered : (S T U : State) (t : ObjNo) (row : ThreadRow) (h : Lighter S T t row 0 0 0) → Lowered T U t h.new → Lowered S U t row
then-lowered S T U t row h g = record {
  new = g.new;
  is = g.is;
  process = g.process ∙ h.process;
  less = let one = h.rest in let two = g.less in let three = h.logons in omega arith;
  gets = gets-then S T U t h.gets g.gets;
}

-- whether all of some moves are aside of their own thread
abbrev pub are_aside : List Move → Bool
are_aside [] = true
are_aside (m ∷ ms) = is_aside m && are_aside ms

pub aside-both : (xs ys : List Move) → are_aside xs ≡ true → are_aside ys ≡ true → are_aside (xs ++ ys) ≡ true
aside-both [] ys one other = other
aside-both (m ∷ xs) ys one other =
    let parts = and_parts (is_aside m) (are_aside xs) one in
    let rest = aside-both xs ys parts.1 other in
    ap (λ (b : Bool). b && are_aside (xs ++ ys)) parts.0 ∙ rest

-- several moves of another's action, or aside: what they add is what they say
pub lighter-each : (script : Script) (S : State) (u t : ObjNo) (row : ThreadRow) (own : ObjNo → ℕ) (ms : List Move)
    → thread_of S t ≡ Some row → row.stage ≡ Doomed → EachFits script u ms S
    → total weight (owed_of S u) + total most_owed ms ≤ 12 → Sane script u S
    → ((o : ObjNo) → total (mutex_names o) (servers_of S t) ≤ own o) → total (post_bit own) ms ≡ 0 → (u.0 ≡ t.0 → ⊥)
    ⊎ (are_aside ms ≡ true) → Lighter S (perform u ms S) t row 0 (4 * total (gain_bit row.process) ms)
    (total (made_bit t) ms)
lighter-each script S u t row own [] is doomed fits few s below none apart = lighter-none S t row is
lighter-each script S u t row own (m ∷ ms) is doomed fits few s below none apart =
    let T = moved u m S in
    let first = lighter-move script S u t row s.rows is doomed m fits.0 own below (omega arith) (first-apart apart) in
    let one = sound-move script S u m fits.0 (omega arith) s in
    let w = weight-move script S u m fits.0 in
    let rest = lighter-each script T u t first.new own ms first.is (first.stage ∙ doomed) fits.1 (omega arith)
    (sane-after script S T u (told m S) s one) (λ o. let a = first.gets.servers o in let b = below o in omega arith)
    (omega arith) (rest-apart apart) in
    let same : total (gain_bit first.new.process) ms ≡ total (gain_bit row.process) ms = ap (λ (p : ObjNo). total (gain_bit p) ms) first.process in
    lighter-then S T (perform u ms T) t row 0 0 (4 * gain_bit row.process m) (4 * total (gain_bit first.new.process) ms)
    (made_bit t m) (total (made_bit t) ms) 0 (4 * total (gain_bit row.process) (m ∷ ms))
    (total (made_bit t) (m ∷ ms)) first rest (omega arith) (omega arith) (omega arith)
  where
    first-apart : (u.0 ≡ t.0 → ⊥) ⊎ ((is_aside m && are_aside ms) ≡ true) → (u.0 ≡ t.0 → ⊥) ⊎ (is_aside m ≡ true)
    first-apart (inl apart) = inl apart
    first-apart (inr aside) = inr (and_parts (is_aside m) (are_aside ms) aside).0

    rest-apart : (u.0 ≡ t.0 → ⊥) ⊎ ((is_aside m && are_aside ms) ≡ true) → (u.0 ≡ t.0 → ⊥) ⊎ (are_aside ms ≡ true)
    rest-apart (inl apart) = inl apart
    rest-apart (inr aside) = inr (and_parts (is_aside m) (are_aside ms) aside).1

-- moves aside gain and make nothing
pub aside-quiet : (t p : ObjNo) (ms : List Move) → are_aside ms ≡ true → (total (gain_bit p) ms ≡ 0) × (total (made_bit t) ms ≡ 0)
aside-quiet t p [] aside = (refl, refl)
aside-quiet t p (m ∷ ms) aside =
    let parts = and_parts (is_aside m) (are_aside ms) aside in
    let rest = aside-quiet t p ms parts.1 in
    let here = one m parts.0 in
    ((let a = here.0 in let b = rest.0 in omega arith), (let a = here.1 in let b = rest.1 in omega arith))
  where
    one : (m : Move) → is_aside m ≡ true → (gain_bit p m ≡ 0) × (made_bit t m ≡ 0)
    one m aside = by m aside
      where
        by : (m : Move) → is_aside m ≡ true → (gain_bit p m ≡ 0) × (made_bit t m ≡ 0)
        by (move.Make k name h) aside = absurd (cc)
        by (move.Gain h o) aside = absurd (cc)
        by (move.Logons m) aside = absurd (cc)
        by m aside = (refl, refl)
