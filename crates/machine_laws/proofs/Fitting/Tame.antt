-- Moves and decisions of which it can be seen that they are regular for their kind.
use Rattle.std.proofs.Common.{◌≡◌, ◌≤◌, ℕ, ℤ, ◌+◌, List, [], ◌∷◌, ◌++◌, arith, refl, sym, ap, subst, ◌∙◌, Bool, true, false, ◌<◌, ◌⊎◌, inl, inr, None, Option}
use Rattle.std.specs.Prelude.{◌==◌, ◌&&◌, ◌||◌, not, nat_lt}
use Rattle.std.proofs.lemmas.Bool.{and_parts, eqb-true, ltb-true, not-true}
use Rattle.sym_base.specs.declared.kind.Exit.{Exit}
use Rattle.sym_base.specs.declared.number.ObjNo.{ObjNo}
use Rattle.sym_base.specs.declared.word.Word.{Word}
use Rattle.script_types.specs.declared.script.Script.{Script}
use Rattle.entry_log.specs.declared.effect.Holder.{Holder}
use Rattle.entry_log.specs.declared.effect.Holder.TheVariants.{Temp}
use Rattle.entry_log.specs.declared.step.Part.{Part}
use Rattle.entry_log.specs.declared.step.Part.TheVariants.{Return}
use Rattle.entry_log.specs.declared.step.Step.{Step}
use Rattle.entry_log.specs.declared.step.Step.TheVariants.{Of}
use Rattle.state_rows.specs.declared.duty.Owed.{Owed}
use Rattle.state_rows.specs.declared.duty.Owed.TheVariants.{Close, Sweep}
use Rattle.machine.specs.declared.death_move.DeathMove.TheVariants.{Doom}
use Rattle.machine.specs.declared.decision.Decision.{Decision}
use Rattle.machine.specs.declared.moves.Move.{Move}
use Rattle.machine.specs.declared.moves.Move.TheVariants.{Advance, Death, Find, Gain, Make, Servers, Open, GoOn}
use Rattle.machine.specs.declared.server_move.ServerMove.TheVariants.{CloseAll}
use Rattle.machine.specs.declared.state.State.{State}
use Rattle.machine.specs.Decide.{answer, go_on, one_move}
use Rattle.machine.specs.Dooms.{doom}
use Rattle.machine.specs.Find.{miss}
use Rattle.machine.specs.Out.{is_returning, part_of}
use Rattle.machine.specs.Rows.{thread_of}
use Rattle.machine.specs.SharedRun.{is_return}
use Rattle.machine.specs.References.{same, total}
use Rattle.machine.specs.EntryWords.{is_clean, is_send, makes_server}
use Rattle.machine.specs.Steps.{pay}
use Rattle.move_laws.proofs.Lists.Totals.{total-append}
use Rattle.move_laws.proofs.References.Same.{eqb_apart, if_not, same_is}
use Rattle.machine_laws.proofs.Fitting.Regular.{Kinds, plain, cleaning_bit, advance_bit, closed_bit, doomed_bit, mutex_bit, serving_bit, gained_bit, use_bit, answer_bit, IsFinding, IsRegular, IsTame, coming_bit, find_bit, finding_bit, going_bit, serving, calling, going, going_late, once_bit, return_bit}

-- whether a kind may tell this step: it is no cleaning and no return, no `send` where the kind doesn't serve, and makes no server where it changes
-- mutexes
abbrev pub may_tell : Kinds → Step → Bool
may_tell k step = (not (makes_server step) || not k.locks) && ((not (is_send step) || k.serves) && (not (is_clean step) && not (is_return step)))

-- whether all that a kind's moves do can be seen at each of them
abbrev closing_bit : Move → ℕ
closing_bit (Servers (CloseAll u)) = 1
closing_bit (Death (Doom u exit)) = 1
closing_bit _ = 0

abbrev holding_bit : Holder → ℕ
holding_bit (Temp v) = 1
holding_bit _ = 0

abbrev using_bit : Move → ℕ
using_bit (Make kind name h) = holding_bit h
using_bit (Gain h o) = holding_bit h
using_bit (Open v o part) = 1
using_bit _ = 0

abbrev is_tame_move : Kinds → Move → Bool
is_tame_move k m =
    (cleaning_bit m + closing_bit m + using_bit m + finding_bit m + coming_bit m == 0) &&
    ((k.serves || serving_bit m == 0) && ((k.locks || mutex_bit m == 0) && (k.goes || going_bit m == 0)))

abbrev each_tame : Kinds → List Move → Bool
each_tame k [] = true
each_tame k (m ∷ ms) = is_tame_move k m && each_tame k ms

-- and one of them at most gives a reference up or makes an object
abbrev pub are_tame : Kinds → List Move → Bool
are_tame k ms = each_tame k ms && nat_lt (total once_bit ms) 2

abbrev pub is_tame : Kinds → Decision → Bool
is_tame k d = (going_late d.moves == 0) && ((total advance_bit d.moves == answer_bit d.answer) && (are_tame plain d.moves && may_tell k d.step))

second : (x y : Bool) → (x || y) ≡ true → x ≡ false → y ≡ true
second true y e none = absurd (cc)
second false y e none = e

first : (x y : Bool) → (x || y) ≡ true → y ≡ false → x ≡ true
first true y e none = refl
first false y e none = absurd (cc)

-- what can be seen so
closed-none : (v : ObjNo) (m : Move) → closing_bit m ≡ 0 → closed_bit v m ≡ 0
closed-none v (Servers (CloseAll u)) none = absurd (omega arith)
closed-none v _ none = refl

doomed-none : (v : ObjNo) (m : Move) → closing_bit m ≡ 0 → doomed_bit v m ≡ 0
doomed-none v (Death (Doom u exit)) none = absurd (omega arith)
doomed-none v _ none = refl

held-none : (u : ObjNo) (h : Holder) → holding_bit h ≡ 0 → gained_bit u h ≡ 0
held-none u (Temp v) none = absurd (omega arith)
held-none u _ none = refl

used-none : (u : ObjNo) (m : Move) → using_bit m ≡ 0 → use_bit u m ≡ 0
used-none u (Make kind name h) none = held-none u h none
used-none u (Gain h o) none = held-none u h none
used-none u (Open v o part) none = absurd (omega arith)
used-none u _ none = refl

found-none : (o : ObjNo) (m : Move) → finding_bit m ≡ 0 → find_bit o m ≡ 0
found-none o (Find u x) none = absurd (omega arith)
found-none o _ none = refl

total-none : (k : Kinds) (bit : Move → ℕ) → ((m : Move) → is_tame_move k m ≡ true → bit m ≡ 0) → (ms : List Move) → each_tame k ms ≡ true → total bit ms ≡ 0
total-none k bit none [] e = refl
total-none k bit none (m ∷ ms) e =
    let parts = and_parts (is_tame_move k m) (each_tame k ms) e in
    let here = none m parts.0 in
    let rest = total-none k bit none ms parts.1 in omega arith

module _ (k : Kinds) (ms : List Move) (e : each_tame k ms ≡ true) where
  abbrev alone : Move → Bool
  alone m = cleaning_bit m + closing_bit m + using_bit m + finding_bit m + coming_bit m == 0

  abbrev calm_move : Move → Bool
  calm_move m = k.serves || serving_bit m == 0

  abbrev free_move : Move → Bool
  free_move m = k.locks || mutex_bit m == 0

  abbrev staying_move : Move → Bool
  staying_move m = k.goes || going_bit m == 0

  abbrev rest_move : Move → Bool
  rest_move m = free_move m && staying_move m

  alone-is : (m : Move) → is_tame_move k m ≡ true → cleaning_bit m + closing_bit m + using_bit m + finding_bit m + coming_bit m ≡ 0
  alone-is m is =
      eqb-true (cleaning_bit m + closing_bit m + using_bit m + finding_bit m + coming_bit m) 0
      (and_parts (alone m) (calm_move m && rest_move m) is).0

  seen-cleans : total cleaning_bit ms ≡ 0
  seen-cleans = total-none k cleaning_bit (λ m is. let none = alone-is m is in omega arith) ms e

  seen-dooms : (v : ObjNo) → total (closed_bit v) ms ≡ total (doomed_bit v) ms
  seen-dooms v =
      total-none k (closed_bit v) (λ m is. closed-none v m (let none = alone-is m is in omega arith)) ms e
      ∙ sym (total-none k (doomed_bit v) (λ m is. doomed-none v m (let none = alone-is m is in omega arith)) ms e)

  seen-calm : k.serves ≡ false → total serving_bit ms ≡ 0
  seen-calm calm =
      total-none k serving_bit (λ m is. eqb-true (serving_bit m) 0
      (second k.serves (serving_bit m == 0) (and_parts (calm_move m) (rest_move m)
      (and_parts (alone m) (calm_move m && rest_move m) is).1).0 calm)) ms e

  seen-mutexes : k.locks ≡ false → total mutex_bit ms ≡ 0
  seen-mutexes calm =
      total-none k mutex_bit (λ m is. eqb-true (mutex_bit m) 0
      (second k.locks (mutex_bit m == 0) (and_parts (free_move m) (staying_move m)
      (and_parts (calm_move m) (rest_move m) (and_parts (alone m) (calm_move m && rest_move m) is).1).1).0 calm)) ms e

  seen-goes : k.goes ≡ false → total going_bit ms ≡ 0
  seen-goes stays =
      total-none k going_bit (λ m is. eqb-true (going_bit m) 0
      (second k.goes (going_bit m == 0) (and_parts (free_move m) (staying_move m)
      (and_parts (calm_move m) (rest_move m) (and_parts (alone m) (calm_move m && rest_move m) is).1).1).1 stays)) ms e

  seen-uses : (u : ObjNo) → total (use_bit u) ms ≡ 0
  seen-uses u = total-none k (use_bit u) (λ m is. used-none u m (let none = alone-is m is in omega arith)) ms e

  seen-finds : (o : ObjNo) → total (find_bit o) ms ≡ 0
  seen-finds o = total-none k (find_bit o) (λ m is. found-none o m (let none = alone-is m is in omega arith)) ms e

  seen-comes : total coming_bit ms ≡ 0
  seen-comes = total-none k coming_bit (λ m is. let none = alone-is m is in omega arith) ms e

-- moves of a kind, and moves that are of any
pub tame-at : (k : Kinds) {n : ℕ} (ms : List Move) → are_tame k ms ≡ true → total advance_bit ms ≡ n → IsTame k n ms
tame-at k ms e ends =
    let parts = and_parts (each_tame k ms) (nat_lt (total once_bit ms) 2) e in
    let each = parts.0 in
    let few = ltb-true (total once_bit ms) 2 parts.1 in
    record {
      cleans = seen-cleans k ms each;
      advances = ends;
      dooms = seen-dooms k ms each;
      calm = seen-calm k ms each;
      mutexes = seen-mutexes k ms each;
      goes = seen-goes k ms each;
      uses = seen-uses k ms each;
      loses = omega arith;
      finds = seen-finds k ms each;
      comes = seen-comes k ms each;
    }

pub tame-in : {k : Kinds} {n : ℕ} {ms : List Move} → IsTame plain n ms → IsTame k n ms
tame-in h = record {
  cleans = h.cleans;
  advances = h.advances;
  dooms = h.dooms;
  calm = λ _. h.calm refl;
  mutexes = λ _. h.mutexes refl;
  goes = λ _. h.goes refl;
  uses = h.uses;
  loses = h.loses;
  finds = h.finds;
  comes = h.comes;
}

pub tame-moves : {k : Kinds} {n : ℕ} (ms : List Move) → are_tame plain ms ≡ true → total advance_bit ms ≡ n → IsTame k n ms
tame-moves ms e ends = tame-in (tame-at plain ms e ends)

-- moves by which the thread goes on, in a kind that does
contrary : (b : Bool) (n : ℕ) → b ≡ true → b ≡ false → n ≡ 0
contrary b n is not_so = absurd (cc)

pub tame-going : {k : Kinds} {n : ℕ} (ms : List Move) → k.goes ≡ true → are_tame going ms ≡ true → total advance_bit ms ≡ n → IsTame k n ms
tame-going {k = k} ms goes e ends =
    let h : IsTame going _ ms = tame-at going ms e ends in
    record {
      cleans = h.cleans;
      advances = h.advances;
      dooms = h.dooms;
      calm = λ _. h.calm refl;
      mutexes = λ _. h.mutexes refl;
      goes = λ stays. contrary k.goes (total going_bit ms) goes stays;
      uses = h.uses;
      loses = h.loses;
      finds = h.finds;
      comes = h.comes;
    }

-- what serves, in a step that serves and may go on
pub tame-calling : {n : ℕ} {ms : List Move} → IsTame serving n ms → IsTame calling n ms
tame-calling h = record {
  cleans = h.cleans;
  advances = h.advances;
  dooms = h.dooms;
  calm = λ serves. absurd (cc);
  mutexes = λ _. h.mutexes refl;
  goes = λ stays. absurd (cc);
  uses = h.uses;
  loses = h.loses;
  finds = h.finds;
  comes = h.comes;
}

-- moves one behind the other
pub tame-both : {k : Kinds} {n m : ℕ} (xs ys : List Move) → total once_bit xs + total once_bit ys ≤ 1 → IsTame k n xs
    → IsTame k m ys → IsTame k (n + m) (xs ++ ys)
tame-both xs ys few h g = record {
  cleans = let both = total-append cleaning_bit xs ys in let p = h.cleans in let q = g.cleans in omega arith;
  advances = let both = total-append advance_bit xs ys in let p = h.advances in let q = g.advances in omega arith;
  dooms =
      λ v. let both = total-append (closed_bit v) xs ys in let all = total-append (doomed_bit v) xs ys in
      let p = h.dooms v in let q = g.dooms v in omega arith;
  calm = λ e. let both = total-append serving_bit xs ys in let p = h.calm e in let q = g.calm e in omega arith;
  mutexes = λ e. let both = total-append mutex_bit xs ys in let p = h.mutexes e in let q = g.mutexes e in omega arith;
  goes = λ e. let both = total-append going_bit xs ys in let p = h.goes e in let q = g.goes e in omega arith;
  uses = λ u. let both = total-append (use_bit u) xs ys in let p = h.uses u in let q = g.uses u in omega arith;
  loses = let both = total-append once_bit xs ys in omega arith;
  finds = λ o. let both = total-append (find_bit o) xs ys in let p = h.finds o in let q = g.finds o in omega arith;
  comes = let both = total-append coming_bit xs ys in let p = h.comes in let q = g.comes in omega arith;
}

doom-closes : (u : ObjNo) (exit : Exit) (v : ObjNo) → total (closed_bit v) (doom u exit) ≡ total (doomed_bit v) (doom u exit)
doom-closes u exit v = omega arith

pub tame-doom : {k : Kinds} (u : ObjNo) (exit : Exit) → IsTame k 0 (doom u exit)
tame-doom u exit = record {
  cleans = refl;
  advances = refl;
  dooms = doom-closes u exit;
  calm = λ _. refl;
  mutexes = λ _. refl;
  goes = λ _. refl;
  uses = λ u. refl;
  loses = omega arith;
  finds = λ o. refl;
  comes = refl;
}

-- what a kind may tell
module _ (k : Kinds) (step : Step) (e : may_tell k step ≡ true) where
  told-parts : ((not (makes_server step) || not k.locks) ≡ true) × (((not (is_send step) || k.serves) && (not (is_clean step) && not (is_return step))) ≡ true)
  told-parts = and_parts (not (makes_server step) || not k.locks) ((not (is_send step) || k.serves) && (not (is_clean step) && not (is_return step))) e

  told-rest : ((not (is_send step) || k.serves) ≡ true) × ((not (is_clean step) && not (is_return step)) ≡ true)
  told-rest = and_parts (not (is_send step) || k.serves) (not (is_clean step) && not (is_return step)) told-parts.1

  told-makes : makes_server step ≡ true → k.locks ≡ false
  told-makes is = not-true k.locks (second (not (makes_server step)) (not k.locks) told-parts.0 (ap not is))

  told-sends : k.serves ≡ false → is_send step ≡ false
  told-sends calm = not-true (is_send step) (first (not (is_send step)) k.serves told-rest.0 calm)

  told-cleans : is_clean step ≡ false
  told-cleans = not-true (is_clean step) (and_parts (not (is_clean step)) (not (is_return step)) told-rest.1).0

  told-returns : is_return step ≡ false
  told-returns = not-true (is_return step) (and_parts (not (is_clean step)) (not (is_return step)) told-rest.1).1

  told-comes : return_bit step ≡ 0
  told-comes = if_not (is_return step) 1 told-returns

-- a decision of such moves, an answer after them, and a decision whose moves show all
late-none : (ms : List Move) → total advance_bit ms ≡ 0 → going_late ms ≡ 0
late-none [] none = refl
late-none (Advance u ∷ ms) none = absurd (omega arith)
late-none (m ∷ ms) none = late-none ms (omega arith)

late-answer : (ms : List Move) (t : ObjNo) → total advance_bit ms ≡ 0 → going_late (ms ++ Advance t ∷ []) ≡ 0
late-answer [] t none = refl
late-answer (Advance u ∷ ms) t none = absurd (omega arith)
late-answer (m ∷ ms) t none = late-answer ms t (omega arith)

regular-by : {k : Kinds} {script : Script} {S : State} {t : ObjNo} (d : Decision) → may_tell k d.step ≡ true
    → going_late d.moves ≡ 0 → IsTame k (answer_bit d.answer) d.moves → IsRegular k script S t d
regular-by {k = k} d named last h = record {
  answers = h.advances;
  dooms = h.dooms;
  calm = h.calm;
  making = λ is. h.mutexes (told-makes k d.step named is);
  sends = told-sends k d.step named;
  goes = h.goes;
  last = last;
  cleans = λ _. h.cleans;
  known = λ is. let no = told-cleans k d.step named in absurd (cc);
  uses = λ u _. h.uses u;
  loses = h.loses;
  finds = λ o some. let none = h.finds o in absurd (omega arith);
  comes = h.comes ∙ sym (told-comes k d.step named);
  returns = λ is. let no = told-returns k d.step named in absurd (cc);
}

pub regular-moves : {k : Kinds} {script : Script} {S : State} {t : ObjNo} (d : Decision) → may_tell k d.step ≡ true
    → d.answer ≡ None → IsTame k (answer_bit d.answer) d.moves → IsRegular k script S t d
regular-moves d named silent h = regular-by d named (late-none d.moves (h.advances ∙ ap answer_bit silent)) h

pub regular-answer : {k : Kinds} {script : Script} {S : State} {t : ObjNo} (told : Step) (ms : List Move) (code : ℤ)
    → may_tell k told ≡ true → IsTame k 0 ms → IsRegular k script S t (answer t told ms code)
regular-answer {t = t} told ms code named h =
    regular-by (answer t told ms code) named (late-answer ms t h.advances)
    (tame-both ms (Advance t ∷ []) (let few = h.loses in omega arith) h (tame-moves (Advance t ∷ []) refl refl))

pub tame : {k : Kinds} {script : Script} {S : State} {t : ObjNo} (d : Decision) → is_tame k d ≡ true → IsRegular k script S t d
tame {k = k} d e =
    let late = and_parts (going_late d.moves == 0) ((total advance_bit d.moves == answer_bit d.answer) && (are_tame plain d.moves && may_tell k d.step)) e in
    let parts = and_parts (total advance_bit d.moves == answer_bit d.answer) (are_tame plain d.moves && may_tell k d.step) late.1 in
    let more = and_parts (are_tame plain d.moves) (may_tell k d.step) parts.1 in
    regular-by d more.1 (eqb-true (going_late d.moves) 0 late.0)
    (tame-moves d.moves more.0 (eqb-true (total advance_bit d.moves) (answer_bit d.answer) parts.0))

-- what is owed is paid
pub regular-pay : {script : Script} {S : State} {t : ObjNo} (what : Owed) → IsRegular plain script S t (pay what)
regular-pay (Close h o) = tame _ refl
regular-pay (Sweep o) = tame _ refl

-- a thread comes to use an object, and its instruction goes on: by a look
own_use : (k : Kinds) (t : ObjNo) (ms : List Move) → k.uses ≡ true → ((u : ObjNo) → total (use_bit u) ms ≡ same t u)
    → (u : ObjNo) → (u.0 ≡ t.0 → ⊥) ⊎ ((k.uses ≡ false) ⊎ (0 < answer_bit None)) → total (use_bit u) ms ≡ 0
own_use k t ms uses one u (inl apart) = one u ∙ if_not (t.0 == u.0) 1 (eqb_apart t.0 u.0 (λ e. apart (sym e)))
own_use k t ms uses one u (inr (inl plainly)) = absurd (cc)
own_use k t ms uses one u (inr (inr answered)) = absurd (omega arith)

pub regular-use : {k : Kinds} {script : Script} {S : State} (t : ObjNo) (told : Step) (o : ObjNo) (part : Part)
    → may_tell k told ≡ true → k.uses ≡ true → k.goes ≡ true
    → IsRegular k script S t (go_on t told (Gain (Temp t) o) part)
regular-use {k = k} t told o part named uses goes = record {
  answers = refl;
  dooms = λ v. refl;
  calm = λ _. refl;
  making = λ _. refl;
  sends = told-sends k told named;
  goes = contrary k.goes 2 goes;
  last = refl;
  cleans = λ _. refl;
  known = λ is. let unclean = told-cleans k told named in absurd (cc);
  uses = own_use k t (GoOn t part ∷ Gain (Temp t) o ∷ []) uses (λ u. omega arith);
  loses = omega arith;
  finds = λ x some. absurd (omega arith);
  comes = sym (told-comes k told named);
  returns = λ is. let no = told-returns k told named in absurd (cc);
}

-- an object is found
pub regular-find : {k : Kinds} {script : Script} {S : State} (t : ObjNo) (told : Step) (o : ObjNo)
    → may_tell k told ≡ true → k.goes ≡ true → IsFinding script S t (one_move told (Find t o)) o
    → IsRegular k script S t (one_move told (Find t o))
regular-find {k = k} {script = script} {S = S} t told o named goes finding = record {
  answers = refl;
  dooms = λ v. refl;
  calm = λ _. refl;
  making = λ _. refl;
  sends = told-sends k told named;
  goes = contrary k.goes 1 goes;
  last = refl;
  cleans = λ _. refl;
  known = λ is. let unclean = told-cleans k told named in absurd (cc);
  uses = λ u _. refl;
  loses = omega arith;
  finds = λ x some. subst (IsFinding script S t (one_move told (Find t o))) (same_is o x (omega arith)) finding;
  comes = sym (told-comes k told named);
  returns = λ is. let no = told-returns k told named in absurd (cc);
}

-- a return: to an object that is opened, and to a dead one
pub regular-open : {k : Kinds} {script : Script} {S : State} (t : ObjNo) (word : Word) (o : ObjNo) (part : Part)
    → k.uses ≡ true → k.goes ≡ true → is_returning (part_of (thread_of S t)) ≡ true
    → IsRegular k script S t (one_move (Of word Return) (Open t o part))
regular-open {k = k} t word o part uses goes returning = record {
  answers = refl;
  dooms = λ v. refl;
  calm = λ _. refl;
  making = λ _. refl;
  sends = λ _. refl;
  goes = contrary k.goes 1 goes;
  last = refl;
  cleans = λ _. refl;
  known = λ is. absurd (cc);
  uses = own_use k t (Open t o part ∷ []) uses (λ u. omega arith);
  loses = omega arith;
  finds = λ x some. absurd (omega arith);
  comes = refl;
  returns = λ _. (returning, refl);
}

-- what is missed has no use
missing : {k : Kinds} {script : Script} {S : State} (t : ObjNo) (word : Word) (ms : List Move) (answered : Option ℤ)
    → total advance_bit ms ≡ answer_bit answered → ((v : ObjNo) → total (closed_bit v) ms ≡ total (doomed_bit v) ms)
    → total serving_bit ms ≡ 0 → total mutex_bit ms ≡ 0
    → going_late ms ≡ 0 → total cleaning_bit ms ≡ 0 → ((u : ObjNo) → total (use_bit u) ms ≡ 0) → total once_bit ms ≡ 0
    → ((o : ObjNo) → total (find_bit o) ms ≡ 0) → total coming_bit ms ≡ 1 → k.goes ≡ true
    → is_returning (part_of (thread_of S t)) ≡ true
    → IsRegular k script S t (record { step = Of word Return; moves = ms; answer = answered })
missing {k = k} t word ms answered answers dooms calm making last cleans uses loses finds comes goes returning = record {
  answers = answers;
  dooms = dooms;
  calm = λ _. calm;
  making = λ _. making;
  sends = λ _. refl;
  goes = contrary k.goes (total going_bit ms) goes;
  last = last;
  cleans = λ _. cleans;
  known = λ is. absurd (cc);
  uses = λ u _. uses u;
  loses = omega arith;
  finds = λ o some. let none = finds o in absurd (omega arith);
  comes = comes;
  returns = λ _. (returning, loses);
}

pub regular-miss : {k : Kinds} {script : Script} {S : State} (t : ObjNo) (word : Word) (o : ObjNo) (live : Bool)
    → k.goes ≡ true → is_returning (part_of (thread_of S t)) ≡ true → IsRegular k script S t (miss t word o live)
regular-miss t word o true goes returning = missing t word _ _ refl (λ v. refl) refl refl refl refl (λ u. refl) refl (λ x. refl) refl goes returning
regular-miss t word o false goes returning = missing t word _ _ refl (λ v. refl) refl refl refl refl (λ u. refl) refl (λ x. refl) refl goes returning
