-- A turn: what `enter`, the work under the lock, and `leave` come to.
use Rattle.std.proofs.Common.{◌≡◌, ◌∙◌, sym, ap, refl, subst, List, ◌++◌}
use Rattle.entry_log.specs.declared.entry.Entry.{Entry}
use Rattle.turn_lock.specs.declared.pass.Pass.{Pass}
use Rattle.turn_lock.specs.declared.view.Sight.{Sight}
use Rattle.turn_lock.specs.LockId.{LockId}
use Rattle.turn_lock.specs.Log.{entries_of, gained, made_by, under, Begins}
use Rattle.turn_lock.specs.Passes.{caller_of, known_of, own_of, sight_of}
use Rattle.turn_lock.proofs.Logs.{entries_of-append, entries_of-under, made_by-append, made_by-under}
use Rattle.shared_kernel.specs.Turned.{Turned}

module _ {B : Type 0} (lock : LockId B) (old mid new : Pass B) (Did : List Entry → List Entry → Type 0) where
  pub turned : (before after : List Entry) → caller_of mid ≡ caller_of old → Begins (known_of old) (known_of mid)
      → own_of mid ≡ own_of old → before ≡ entries_of (known_of mid)
      → known_of new ≡ known_of mid ++ under (caller_of mid) (gained (known_of mid) after) → entries_of (known_of new) ≡ after → Did before after
      → Turned (sight_of lock old) (sight_of lock new) Did
  turned before after caller begins own shown longer list did =
      record {
        log = known_of mid;
        begins = begins;
        own = ap (λ k. made_by k (known_of mid)) (sym caller) ∙ own;
        gain = gained (known_of mid) after;
        longer = longer ∙ ap (λ k. known_of mid ++ under k (gained (known_of mid) after)) caller;
        did = subst (λ l. Did (entries_of (known_of mid)) l) (sym list) (subst (λ l. Did l after) shown did);
      }

-- what a caller made by the end of a turn is what it had made, and then what the turn gained
pub turned-own : {B : Type 0} (lock : LockId B) (old new : Pass B) (Did : List Entry → List Entry → Type 0)
    → caller_of new ≡ caller_of old → (t : Turned (sight_of lock old) (sight_of lock new) Did)
    → own_of new ≡ own_of old ++ t.gain
turned-own lock old new Did caller t =
    ap (λ k. made_by k (known_of new)) caller
    ∙ ap (λ l. made_by (caller_of old) l) t.longer
    ∙ made_by-append (caller_of old) t.log (under (caller_of old) t.gain)
    ∙ ap (λ l. l ++ made_by (caller_of old) (under (caller_of old) t.gain)) t.own ∙ ap (λ l. own_of old ++ l) (made_by-under (caller_of old) t.gain)

-- and the log's entries are those when the turn came, and then the gain
pub turned-entries : {B : Type 0} (old new : Sight B) (Did : List Entry → List Entry → Type 0)
    → (t : Turned old new Did) → entries_of new.known ≡ entries_of t.log ++ t.gain
turned-entries old new Did t =
    ap entries_of t.longer
    ∙ entries_of-append t.log (under old.caller t.gain)
    ∙ ap (λ l. entries_of t.log ++ l) (entries_of-under old.caller t.gain)
