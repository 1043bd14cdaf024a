-- A call that takes a turn: it enters, works on the kernel that it is lent, and leaves.
use Rattle.std.proofs.Common.{◌≡◌, ◌∙◌, sym, ap, subst, List, ◌++◌}
use Rattle.sym_base.specs.declared.number.ObjNo.{ObjNo}
use Rattle.script_types.specs.declared.script.Script.{Script}
use Rattle.entry_log.specs.declared.entry.Entry.{Entry}
use Rattle.ref_words.specs.Words.{Words}
use Rattle.count_rule.specs.Seats.{Note}
use Rattle.turn_lock.specs.declared.pass.Pass.{Pass}
use Rattle.turn_lock.specs.declared.view.Logged.{Logged}
use Rattle.turn_lock.specs.LockId.{LockId}
use Rattle.turn_lock.specs.Log.{entries_of, gained, under, Begins}
use Rattle.turn_lock.specs.Passes.{caller_of, known_of, own_of, sight_of, IsFree, MadeByPasses}
use Rattle.turn_lock.proofs.Logs.{entries_of-append}
use Rattle.kcore.specs.KernelView.{KernelView}
use Rattle.shared_kernel.specs.declared.base.KernelBase.{KernelBase}
use Rattle.shared_kernel.specs.Returns.{IsOpened}
use Rattle.shared_kernel.specs.Turned.{Turned}
use Rattle.shared_kernel.specs.Values.{base_of}
use Rattle.shared_kernel.proofs.Finding.{finder-longer}
use Rattle.shared_kernel.proofs.Turning.{turned}

-- what is known of it, with the kernel as it was given, lent and left, and the pass before, within and after the turn
pub record Call (turns lock : LockId KernelBase) (given lent left : KernelView Words) (old mid new : Pass KernelBase) : Type 0 where
  pub same : turns ≡ lock
  pub came : caller_of mid ≡ caller_of old
  pub begins : Begins (known_of old) (known_of mid)
  pub own : own_of mid ≡ own_of old
  pub list : given.history ≡ entries_of (known_of mid)
  pub base : base_of given ≡ turns.base
  pub lends : lent ≡ given
  pub keeps : base_of left ≡ base_of lent
  pub free : IsFree turns new
  pub went : caller_of new ≡ caller_of mid
  pub known : known_of new ≡ known_of mid ++ under (caller_of mid) (gained (known_of mid) left.history)
  pub shows : entries_of (known_of new) ≡ left.history
  pub made : MadeByPasses turns new

module _ (turns lock : LockId KernelBase) (given lent left : KernelView Words) (old mid new : Pass KernelBase)
    (call : Call turns lock given lent left old mid new) where
  pub call-free : IsFree lock new
  call-free = subst (λ (l : LockId KernelBase). IsFree l new) call.same call.free

  pub call-caller : caller_of new ≡ caller_of old
  call-caller = call.went ∙ call.came

  pub call-made : MadeByPasses lock new
  call-made = subst (λ (l : LockId KernelBase). MadeByPasses l new) call.same call.made

  lent-base : base_of lent ≡ lock.base
  lent-base = ap base_of call.lends ∙ call.base ∙ ap (λ (l : LockId KernelBase). l.base) call.same

  -- what was done under the lock is what the caller sees
  pub call-turned : (Did : KernelBase → List Entry → List Entry → Type 0) → Did (base_of lent) lent.history left.history
      → Turned (sight_of lock old) (sight_of lock new) (Did lock.base)
  call-turned Did did =
      turned lock old mid new (Did lock.base) lent.history left.history call.came call.begins call.own
      (ap (λ (k : KernelView Words). k.history) call.lends ∙ call.list) call.known call.shows
      (subst (λ (b : KernelBase). Did b lent.history left.history) lent-base did)

  -- and what holds of the kernel's history holds of what the caller knows
  pub call-holds : (P : Script → List Entry → Type 0) → P left.script left.history → P lock.base.script (entries_of (known_of new))
  call-holds P holds =
      let script : left.script ≡ lock.base.script = ap (λ (b : KernelBase). b.script) (call.keeps ∙ lent-base) in
      subst (λ (l : List Entry). P lock.base.script l) (sym call.shows) (subst (λ (s : Script). P s left.history) script holds)

-- the kernel may be left
pub leaves-base : (base : KernelBase) (given lent left : KernelView Words) → base_of given ≡ base → lent ≡ given
    → base_of left ≡ base_of lent → base_of left ≡ base
leaves-base base given lent left is lends keeps = keeps ∙ ap base_of lends ∙ is

pub leaves-grown : (known : List Entry) (given lent left : KernelView Words) → given.history ≡ known → lent ≡ given
    → Begins lent.history left.history → Begins known left.history
leaves-grown known given lent left list lends grown =
    subst (λ (l : List Entry). Begins l left.history) (ap (λ (k : KernelView Words). k.history) lends ∙ list) grown

-- a ticket whose find the pass knew may be given back, also when others came before
entries-begin : (front whole : List Logged) → Begins front whole → Begins (entries_of front) (entries_of whole)
entries-begin front whole begins = record { rest = entries_of begins.rest; is = sym (entries_of-append front begins.rest) ∙ ap entries_of begins.is }

pub still-opened : (turns lock : LockId KernelBase) (given lent : KernelView Words) (old mid : Pass KernelBase)
    (t : ObjNo) (ticket : Note)
    → turns ≡ lock → Begins (known_of old) (known_of mid) → given.history ≡ entries_of (known_of mid)
    → base_of given ≡ turns.base → lent ≡ given
    → IsOpened lock.base (entries_of (known_of old)) t ticket → IsOpened (base_of lent) lent.history t ticket
still-opened turns lock given lent old mid t ticket same begins list base lends opened =
    let history : entries_of (known_of mid) ≡ lent.history = sym list ∙ ap (λ (k : KernelView Words). k.history) (sym lends) in
    let words : lock.base ≡ base_of lent = ap (λ (l : LockId KernelBase). l.base) (sym same) ∙ sym base ∙ ap base_of (sym lends) in
    let known : IsOpened lock.base (entries_of (known_of mid)) t ticket = record {
      opened = opened.opened;
      same_words = opened.same_words;
      its =
          finder-longer ticket.slip.number (entries_of (known_of old)) (entries_of (known_of mid)) t
          (entries-begin (known_of old) (known_of mid) begins) opened.its;
    } in
    subst (λ (l : List Entry). IsOpened (base_of lent) l t ticket) history
    (subst (λ (b : KernelBase). IsOpened b (entries_of (known_of mid)) t ticket) words known)
