-- A pass's badge and the seat that is lifted from it.
use Rattle.std.proofs.Common.{◌≡◌, ℕ, List, [], ◌∷◌, ◌++◌, sym, refl, ap, ◌∙◌, subst}
use Rattle.atomic_table.specs.Table.{Me}
use Rattle.turn_lock.specs.declared.view.Logged.{Logged}
use Rattle.turn_lock.specs.declared.view.Sight.{Sight}
use Rattle.turn_lock.specs.declared.view.View.{View}
use Rattle.turn_lock.specs.declared.view.View.TheVariants.{Free, Lent}
use Rattle.turn_lock.specs.declared.pass.Pass.{Pass}
use Rattle.turn_lock.specs.LockId.{LockId}
use Rattle.entry_log.specs.declared.entry.Entry.{Entry}
use Rattle.turn_lock.specs.Log.{Begins, made_by, under, entries_of, longer, MadeBelow}
use Rattle.turn_lock.proofs.Logs.{made_by-append, made_by-under, entries_of-append, entries_of-under}
use Rattle.turn_lock.specs.Views.{sight}
use Rattle.turn_lock.specs.Shares.{both_of, first_of, others_of}
use Rattle.turn_lock.specs.Steps.{KnowsMore, Met}
use Rattle.turn_lock.specs.Passes.{caller_of, known_of, own_of, sight_of, IsFree, IsInTurn, MadeByPasses}

first_view : {A : Type 0} (a b : A) → a ∷ [] ≡ b ∷ [] → a ≡ b
first_view a b e = cc

-- the seat knows what the badge knew, and holds no slot
pub lifted : {S B : Type 0} (me : Me S (View B)) (views : List (View B)) (v : View B) → views ≡ me.0 ∷ [] → me.1 ≡ [] → views ≡ v ∷ [] → me ≡ (v, [])
lifted me views v e none f = let h = first_view me.0 v (sym e ∙ f) in λ i. (h i, none i)

-- and the other way round
pub put_back : {S B : Type 0} (me : Me S (View B)) (views : List (View B)) (v : View B) → views ≡ me.0 ∷ [] → me ≡ (v, []) → views ≡ v ∷ []
put_back {S = S} {B = B} me views v e f = e ∙ ap (λ (m : Me S (View B)). m.0 ∷ []) f

module _ {B : Type 0} (lock : LockId B) (p : Pass B) (a : Sight B) where
  -- what a pass with this view knows
  pub record Shows : Type 0 where
    pub caller : caller_of p ≡ a.caller
    pub known : known_of p ≡ a.known

  sight_is : (views : List (View B)) → a.base ≡ lock.base → a.passes ≡ lock.passes → Shows → a ≡ sight_of lock p
  sight_is views b n s i = sight (b i) (n i) (sym s.caller i) (sym s.known i)

  pub free_shows : p.badge.views ≡ Free (a ∷ []) ∷ [] → Shows
  free_shows e = record {
    caller = ap (λ (vs : List (View B)). caller_of (record p { badge = record p.badge { views = vs } })) e;
    known = ap (λ (vs : List (View B)). known_of (record p { badge = record p.badge { views = vs } })) e;
  }

  pub lent_shows : (x : ℕ) → p.badge.views ≡ Lent x a ∷ [] → Shows
  lent_shows x e = record {
    caller = ap (λ (vs : List (View B)). caller_of (record p { badge = record p.badge { views = vs } })) e;
    known = ap (λ (vs : List (View B)). known_of (record p { badge = record p.badge { views = vs } })) e;
  }

  pub is_free : p.badge.table_id ≡ lock.table → p.badge.views ≡ Free (a ∷ []) ∷ [] → a.base ≡ lock.base → a.passes ≡ lock.passes → IsFree lock p
  is_free t e b n = record { table = t; views = e ∙ ap (λ (c : Sight B). Free (c ∷ []) ∷ []) (sight_is p.badge.views b n (free_shows e)) }

  pub is_in_turn : (x : ℕ) → p.badge.table_id ≡ lock.table → p.badge.views ≡ Lent x a ∷ [] → a.base ≡ lock.base → a.passes ≡ lock.passes → IsInTurn lock p
  is_in_turn x t e b n = record { table = t; ticket = x; views = e ∙ ap (λ (c : Sight B). Lent x c ∷ []) (sight_is p.badge.views b n (lent_shows x e)) }

-- what a pass that has entered its turn knows
pub record Entered {B : Type 0} (lock : LockId B) (old new : Pass B) (b : Sight B) : Type 0 where
  pub turn : IsInTurn lock new
  pub caller : caller_of new ≡ caller_of old
  pub known : Begins (known_of old) (known_of new)
  pub own : own_of new ≡ own_of old
  pub made : MadeByPasses lock new
  pub shown : known_of new ≡ b.known
  pub base : b.base ≡ lock.base

pub entered : {B : Type 0} (lock : LockId B) (old new : Pass B) (b : Sight B) (x : ℕ) → KnowsMore (sight_of lock old) b
    → MadeBelow b.passes b.known → new.badge.table_id ≡ lock.table
    → new.badge.views ≡ Lent x b ∷ [] → Entered lock old new b
entered lock old new b x more made t e = let s = lent_shows lock new b x e in record {
  turn = is_in_turn lock new b x t e more.base more.passes;
  caller = s.caller ∙ more.caller;
  known = subst (Begins (known_of old)) (sym s.known) more.known;
  own = (λ i. made_by (s.caller i) (s.known i)) ∙ more.own;
  made = subst (MadeBelow lock.passes) (sym s.known) (subst (λ n. MadeBelow n b.known) more.passes made);
  shown = s.known;
  base = more.base;
}

-- what a pass that has left its turn knows, where the value has gained these entries
pub record LeftWith {B : Type 0} (lock : LockId B) (old new : Pass B) (gain : List Entry) : Type 0 where
  pub free : IsFree lock new
  pub caller : caller_of new ≡ caller_of old
  pub known : known_of new ≡ known_of old ++ under (caller_of old) gain
  pub own : own_of new ≡ own_of old ++ gain
  pub list : entries_of (known_of new) ≡ entries_of (known_of old) ++ gain
  pub made : MadeByPasses lock new

pub left_with : {B : Type 0} (lock : LockId B) (old new : Pass B) (gain : List Entry) → new.badge.table_id ≡ lock.table
    → new.badge.views ≡ Free (sight lock.base lock.passes (caller_of old) (known_of old ++ under (caller_of old) gain) ∷ []) ∷ []
    → MadeBelow lock.passes (known_of old ++ under (caller_of old) gain) → LeftWith lock old new gain
left_with lock old new gain t e made =
    let all : List Logged = known_of old ++ under (caller_of old) gain in
    let s = free_shows lock new (sight lock.base lock.passes (caller_of old) all) e in
    record {
      free = is_free lock new (sight lock.base lock.passes (caller_of old) all) t e refl refl;
      caller = s.caller;
      known = s.known;
      own = (λ i. made_by (s.caller i) (s.known i))
          ∙ (made_by-append (caller_of old) (known_of old) (under (caller_of old) gain) ∙ ap (λ l. own_of old ++ l) (made_by-under (caller_of old) gain));
      list =
          ap entries_of s.known
          ∙ (entries_of-append (known_of old) (under (caller_of old) gain)
          ∙ ap (λ l. entries_of (known_of old) ++ l) (entries_of-under (caller_of old) gain));
      made = subst (MadeBelow lock.passes) (sym s.known) made;
    }

-- what two passes that have met know
pub record HaveMet {B : Type 0} (lock : LockId B) (one other new answered : Pass B) : Type 0 where
  pub one_free : IsFree lock new
  pub other_free : IsFree lock answered
  pub one_caller : caller_of new ≡ caller_of one
  pub other_caller : caller_of answered ≡ caller_of other
  pub known : known_of new ≡ longer (known_of one) (known_of other)
  pub same : known_of answered ≡ known_of new
  pub begins : Begins (known_of one) (known_of new)
  pub other_begins : Begins (known_of other) (known_of new)
  pub own : own_of new ≡ own_of one
  pub other_own : own_of answered ≡ own_of other
  pub made : MadeByPasses lock new
  pub other_made : MadeByPasses lock answered

-- what a pass knows that has met another
abbrev pub after_meeting : {B : Type 0} → LockId B → Pass B → List Logged → Sight B
after_meeting lock p all = sight lock.base lock.passes (caller_of p) all

pub have_met : {B : Type 0} (lock : LockId B) (one other new answered : Pass B) → Met (sight_of lock one) (sight_of lock other)
    → new.badge.table_id ≡ lock.table → new.badge.views ≡ Free (after_meeting lock one (longer (known_of one) (known_of other)) ∷ []) ∷ []
    → answered.badge.table_id ≡ lock.table → answered.badge.views ≡ Free (after_meeting lock other (longer (known_of one) (known_of other)) ∷ []) ∷ []
    → HaveMet lock one other new answered
have_met lock one other new answered met t e t' e' = let all : List Logged = longer (known_of one) (known_of other) in
    let s = free_shows lock new (after_meeting lock one all) e in let s' = free_shows lock answered (after_meeting lock other all) e' in record {
      one_free = is_free lock new (after_meeting lock one all) t e refl refl;
      other_free = is_free lock answered (after_meeting lock other all) t' e' refl refl;
      one_caller = s.caller;
      other_caller = s'.caller;
      known = s.known;
      same = s'.known ∙ sym s.known;
      begins = subst (Begins (known_of one)) (sym s.known) met.one;
      other_begins = subst (Begins (known_of other)) (sym s.known) met.other;
      own = (λ i. made_by (s.caller i) (s.known i)) ∙ met.one_own;
      other_own = (λ i. made_by (s'.caller i) (s'.known i)) ∙ met.other_own;
      made = subst (MadeBelow lock.passes) (sym s.known) met.made;
      other_made = subst (MadeBelow lock.passes) (sym s'.known) met.made;
    }

-- what two seats know together, and the shares that it is cut into
module _ {S B : Type 0} where
  pub joined : (me them new : Me S (View B)) (one all : List (Sight B)) → me ≡ (Free one, []) → them ≡ (Free all, [])
      → new ≡ (both_of me.0 them.0, me.1) → new ≡ (Free (one ++ all), [])
  joined me them new one all e f h = h ∙ (λ i. (both_of (e i).0 (f i).0, (e i).1))

  pub cut_first : (me new : Me S (View B)) (a : Sight B) (all : List (Sight B)) → me ≡ (Free (a ∷ all), [])
      → new ≡ (first_of me.0, me.1) → new ≡ (Free (a ∷ []), [])
  cut_first me new a all e h = h ∙ (λ i. (first_of (e i).0, (e i).1))

  pub cut_others : (me new : Me S (View B)) (a : Sight B) (all : List (Sight B)) → me ≡ (Free (a ∷ all), []) → new ≡ (others_of me.0, []) → new ≡ (Free all, [])
  cut_others me new a all e h = h ∙ (λ i. (others_of (e i).0, []))
