-- The kernel's seat between two calls, through each of them.
use Rattle.std.proofs.Common.{◌≡◌, ◌≢◌, ◌⊎◌, inl, inr, ℕ, ◌+◌, ◌-◌, ◌<◌, ◌≤◌, ◌↔◌, List, [], length, get_or, set, length-set, sym, refl, ap, ◌∙◌, subst, arith, IfSome}
use Rattle.atomic_table.specs.Seated.{TableId}
use Rattle.atomic_table.specs.declared.shared.Seat.{Seat}
use Rattle.ref_words.specs.declared.answer.Found.{Found}
use Rattle.ref_words.specs.declared.answer.Found.TheVariants.{Held, Dead}
use Rattle.ref_words.specs.declared.answer.Stage.{Stage}
use Rattle.ref_words.specs.declared.answer.Stage.TheVariants.{Fresh, InUse, Gone}
use Rattle.ref_words.specs.declared.slip.Slip.{Slip}
use Rattle.ref_words.specs.Words.{IsOut, own_found}
use Rattle.count_rule.specs.declared.view.Counted.{Counted}
use Rattle.count_rule.specs.declared.view.View.{View}
use Rattle.count_rule.specs.declared.view.View.TheVariants.{Kernel}
use Rattle.count_rule.specs.Views.{words_of, own_of, stage_of}
use Rattle.count_rule.specs.Shows.{IsKept, WasOut}
use Rattle.count_rule.specs.Moves.{closing_last, closing_one, counted_of, failing, joining, looking}
use Rattle.count_rule.specs.Seats.{counts, IsCalm, Knows, IsSeated, IsWhole}
use Rattle.count_rule.proofs.Kept.{kept_closed, kept_closed_last, kept_held, kept_dead, fewer}

in_use_of : (stage : Stage) → stage ≢ Fresh → stage ≢ Gone → stage ≡ InUse
in_use_of Fresh made there = absurd (made refl)
in_use_of InUse made there = refl
in_use_of Gone made there = absurd (there refl)

kept_back : (k : Counted) (slip : Slip) (found : Found) → IsKept (words_of [] k) → IsOut (words_of [] k) slip
    → ((found ≡ Dead) ↔ (stage_of k slip.place ≡ Gone)) → IsKept (words_of [] (looking (joining slip found k)))
kept_back k slip Held kept out dead =
    kept_held (words_of [] k) slip kept out
    (in_use_of (stage_of k slip.place) (kept.out_created slip out) (λ gone. (let clash = dead.1 gone in cc)))
kept_back k slip Dead kept out dead = kept_dead (words_of [] k) slip kept

-- the own counts that are kept, once one of a place is closed
own_closed : (own : List ℕ) (k : Counted) (p count : ℕ) → k.own ≡ own → count ≡ get_or own p 0 → set k.own p (own_of k p - 1) ≡ set own p (count - 1)
own_closed own k p count own_is read = ap (λ (xs : List ℕ). set xs p (get_or xs p 0 - 1)) own_is ∙ ap (λ (n : ℕ). set own p (n - 1)) (sym read)

module _ {S : Type 0} where
  -- what the seat knows after a step
  pub knows : (old new : Seat S View) (k : Counted) → Knows old new k → counts new ≡ k
  knows old new k did = ap (λ m. counted_of m.0) did.2

  -- a step leaves a seat between two calls, where what it knows then is kept
  pub seated_by : (z : TableId) (own after : List ℕ) (old new : Seat S View) (k : Counted) → IsSeated z old own
      → Knows old new k → IsCalm k → IsKept (words_of [] k) → k.own ≡ after → length after ≡ length own
      → IsSeated z new after
  seated_by z own after old new k seated did calm kept own_is sized =
      let is : counts new ≡ k = knows old new k did in record {
        kernels = (did.0 ∙ seated.kernels.0, did.1 ∙ seated.kernels.1, did.2 ∙ ap (λ (x : Counted). (Kernel x, [])) (sym is));
        calm = subst IsCalm (sym is) calm;
        own_is = ap (λ (x : Counted). x.own) is ∙ own_is;
        words = sized ∙ seated.words;
        kept = subst (λ (x : Counted). IsKept (words_of [] x)) (sym is) kept;
      }

  -- and it counts the notes that are out then
  pub out_by : (n : ℕ) (old new : Seat S View) (k : Counted) → Knows old new k → n + length k.out ≡ 64 → n + length (counts new).out ≡ 64
  out_by n old new k did all = subst (λ (x : Counted). n + length x.out ≡ 64) (sym (knows old new k did)) all

  -- what a join and the look after it leave
  pub knows_back : (old mid new : Seat S View) (slip : Slip) (found : Found)
      → Knows old mid (joining slip found (counts old)) → Knows mid new (looking (counts mid))
      → counts new ≡ looking (joining slip found (counts old))
  knows_back old mid new slip found joined looked =
      knows mid new (looking (counts mid)) looked ∙ ap looking (knows old mid (joining slip found (counts old)) joined)

  -- and what the look tells
  pub was_out : (old mid : Seat S View) (slip : Slip) (found : Found) → Knows old mid (joining slip found (counts old))
      → IfSome (counts mid).joined (WasOut (counts mid))
      → IsOut (words_of [] (counts old)) slip × ((found ≡ Dead) ↔ (stage_of (counts old) slip.place ≡ Gone))
  was_out old mid slip found joined told = subst (λ (x : Counted). IfSome x.joined (WasOut x)) (knows old mid (joining slip found (counts old)) joined) told

  pub seated_back : (z : TableId) (own after : List ℕ) (old mid new : Seat S View) (slip : Slip) (found : Found)
      → IsSeated z old own → Knows old mid (joining slip found (counts old)) → Knows mid new (looking (counts mid))
      → IfSome (counts mid).joined (WasOut (counts mid)) → own_found found (words_of [] (counts old)) slip.place ≡ after
      → length after ≡ length own → IsSeated z new after
  seated_back z own after old mid new slip found seated joined looked told own_is sized =
      let k : Counted = counts old in let is = knows_back old mid new slip found joined looked in let out = was_out old mid slip found joined told in
      seated_by z own after old new (looking (joining slip found k)) seated (
        looked.0 ∙ joined.0,
        looked.1 ∙ joined.1,
        looked.2 ∙ ap (λ (x : Counted). (Kernel (looking x), [])) (knows old mid (joining slip found k) joined),
      )
      (seated.calm.0, refl) (kept_back k slip found seated.kept out.0 out.1) own_is sized

  -- one note fewer is out then
  pub out_back : (z : TableId) (own : List ℕ) (old mid new : Seat S View) (slip : Slip) (found : Found)
      → IsSeated z old own → Knows old mid (joining slip found (counts old)) → Knows mid new (looking (counts mid))
      → IfSome (counts mid).joined (WasOut (counts mid)) → length (counts new).out + 1 ≡ length (counts old).out
  out_back z own old mid new slip found seated joined looked told =
      let out = was_out old mid slip found joined told in
      ap (λ (x : Counted). length x.out + 1) (knows_back old mid new slip found joined looked) ∙ fewer (words_of [] (counts old)) slip seated.kept out.0

  -- and no own count comes near its type's end
  pub small_back : (z : TableId) (own : List ℕ) (old mid new : Seat S View) (slip : Slip) (found : Found)
      → IsSeated z old own → Knows old mid (joining slip found (counts old)) → Knows mid new (looking (counts mid))
      → IfSome (counts mid).joined (WasOut (counts mid)) → (p : ℕ) → own_of (counts new) p ≤ 2147483712
  small_back z own old mid new slip found seated joined looked told p =
      let out = was_out old mid slip found joined told in
      let small = (kept_back (counts old) slip found seated.kept out.0 out.1).small p in
      omega (arith, ap (λ (x : Counted). own_of x p) (knows_back old mid new slip found joined looked))

  -- a last close leaves it whole
  pub whole_closed_last : (z : TableId) (own : List ℕ) (shares : List TableId) (room p count : ℕ)
      (old new : Seat S View)
      → IsWhole z old own shares room → own_of (counts old) p ≡ 1 → count ≡ get_or own p 0
      → Knows old new (closing_last p (counts old)) → IsWhole z new (set own p (count - 1)) shares room
  whole_closed_last z own shares room p count old new was one read did = record {
    seated =
        seated_by z own (set own p (count - 1)) old new (closing_last p (counts old)) was.seated did was.seated.calm
        (kept_closed_last (words_of [] (counts old)) p was.seated.kept one)
        (own_closed own (counts old) p count was.seated.own_is read) (length-set _ _ _);
    same_table = was.same_table;
    has_room = was.has_room;
    in_all = out_by (length shares) old new (closing_last p (counts old)) did was.in_all;
  }

  -- so does another, which a last close may have tried before
  knows_closed : (old mid new : Seat S View) (p : ℕ) → Knows old mid (failing p (counts old)) ⊎ (mid ≡ old)
      → Knows mid new (closing_one p (counts mid)) → Knows old new (closing_one p (counts old))
  knows_closed old mid new p (inl failed) did = (
    did.0 ∙ failed.0,
    did.1 ∙ failed.1,
    did.2
        ∙ ap (λ (x : Counted). (Kernel (closing_one p x), [])) (knows old mid (failing p (counts old)) failed),
  )
  knows_closed old mid new p (inr same) did = subst (λ (seat : Seat S View). Knows seat new (closing_one p (counts seat))) same did

  pub whole_closed : (z : TableId) (own : List ℕ) (shares : List TableId) (room p count : ℕ) (old mid new : Seat S View)
      → IsWhole z old own shares room → 0 < own_of (counts old) p → count ≡ get_or own p 0
      → Knows old mid (failing p (counts old)) ⊎ (mid ≡ old) → Knows mid new (closing_one p (counts mid))
      → IsWhole z new (set own p (count - 1)) shares room
  whole_closed z own shares room p count old mid new was known read tried did =
      let done = knows_closed old mid new p tried did in record {
        seated =
            seated_by z own (set own p (count - 1)) old new (closing_one p (counts old)) was.seated done
            (refl, was.seated.calm.1) (kept_closed (words_of [] (counts old)) p was.seated.kept known)
            (own_closed own (counts old) p count was.seated.own_is read) (length-set _ _ _);
        same_table = was.same_table;
        has_room = was.has_room;
        in_all = out_by (length shares) old new (closing_one p (counts old)) done was.in_all;
      }
