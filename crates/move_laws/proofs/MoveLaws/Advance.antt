-- A thread puts down what it uses, and owes the close of it: within its instruction, or where it goes on to its next one.
use Rattle.std.proofs.Common.{◌≡◌, inr, ℕ, ◌+◌, ◌<◌, ◌≤◌, List, [], length, arith, refl, sym, subst, ap, ◌∙◌, Option, Some, None, false}
use Rattle.std.specs.Prelude.{option_map, if◌then◌else◌}
use Rattle.std.proofs.lemmas.List.{length-set}
use Rattle.sym_base.specs.declared.number.ObjNo.{ObjNo}
use Rattle.script_types.specs.declared.script.Script.{Script}
use Rattle.entry_log.specs.declared.effect.Holder.{Holder}
use Rattle.entry_log.specs.declared.effect.Holder.TheVariants.{Temp, Own, Link}
use Rattle.move_laws.proofs.RowLaws.MessagesKept.{begun_one}
use Rattle.machine.specs.declared.moves.Move.TheVariants.{Advance, PutDown}
use Rattle.state_rows.specs.declared.servers.ServerRows.{ServerRows}
use Rattle.state_rows.specs.declared.thread.ThreadRow.{ThreadRow}
use Rattle.machine.specs.declared.state.State.{State}
use Rattle.machine.specs.Rows.{thread_of, owed_of, owing, with_row}
use Rattle.machine.specs.Moves.{moved, told, advanced, owed_use, use_of, use_of_row, with_use}
use Rattle.machine.specs.References.{total, thread_names, owed_names, count_of, option_names, stage_holds}
use Rattle.machine.specs.Holding.{is_holder, link_names}
use Rattle.machine.specs.HeldIn.{held_in, use_names, owed_by}
use Rattle.machine.specs.Task.{instructions_of}
use Rattle.machine.specs.Out.{is_returning, part_of}
use Rattle.machine.specs.Fits.{FitsMove, IsBack}
use Rattle.machine.specs.Serving.{numbers_left}
use Rattle.machine.specs.WellFormed.{EachMayOwe, IsThread, AreRows, weight, owed_sweeps, sweeps_of}
use Rattle.move_laws.proofs.Lives.Kinds.{lives-none}
use Rattle.move_laws.proofs.Lives.Outs.{seeks-back, seeks-with_row}
use Rattle.move_laws.proofs.Holders.HoldersMove.{holders-none}
use Rattle.move_laws.proofs.Holders.ThreadRows.{rows-with_row, row-here}
use Rattle.move_laws.proofs.References.Counts.{count-with_row, kernel-with_row, total-owing}
use Rattle.move_laws.proofs.References.Same.{if_zero}
use Rattle.move_laws.proofs.RowLaws.Threads.{KeepsThread, length-with_row, threads-with_row}
use Rattle.move_laws.proofs.RowLaws.Duties.{paid-with_row, duties-threads, duties-owing}
use Rattle.move_laws.proofs.RowLaws.Synchronized.{IsHolding}
use Rattle.move_laws.proofs.RowLaws.Locks.{leaves-owing}
use Rattle.move_laws.proofs.MoveLaws.RowMoves.{is_back, serving-kept}
use Rattle.move_laws.proofs.MoveLaws.Groups.{services-row, synchronization-kept, synchronization-left, synchronization-then}
use Rattle.move_laws.proofs.MoveLaws.Sound.{Sound, sound-of}
use Rattle.move_laws.proofs.RowLaws.Spent.{spent-kept}

-- what the thread used is what it owes then
use_owed : (u : ObjNo) (used : Option ObjNo) (o : ObjNo)
    → (total (owed_names o) (owed_use u used) ≡ option_names o used) × (total (owed_sweeps o) (owed_use u used) ≡ 0)
use_owed u None o = (refl, refl)
use_owed u (Some x) o = (omega arith, refl)

pub use_weight : (u : ObjNo) (used : Option ObjNo) → total weight (owed_use u used) ≤ 4
use_weight u None = omega arith
use_weight u (Some x) = omega arith

use_owed_by : (u : ObjNo) (used : Option ObjNo) (g : Holder) (x : ObjNo)
    → total (owed_by g x) (owed_use u used) ≡ (if is_holder (Temp u) g then option_names x used else 0)
use_owed_by u None g x = sym (if_zero (is_holder (Temp u) g) 0 refl)
use_owed_by u (Some o) g x = omega arith

-- that is no close of an ownership
use_unowned : (u : ObjNo) (used : Option ObjNo) (t o : ObjNo) → total (owed_by (Own t) o) (owed_use u used) ≡ 0
use_unowned u None t o = refl
use_unowned u (Some x) t o = refl

-- a change of a row that puts down what its thread uses, and leaves the rest of what it holds and waits for
record PutsDown (f : ThreadRow → ThreadRow) : Type 0 where
  pub link : (row : ThreadRow) → (f row).link ≡ row.link
  pub uses : (row : ThreadRow) → (f row).uses ≡ None
  pub stage : (row : ThreadRow) → (f row).stage ≡ row.stage
  pub waits : (row : ThreadRow) → (f row).waiting ≡ row.waiting
  pub going : (row : ThreadRow) → is_returning row.part ≡ false → is_returning (f row).part ≡ false
  pub left : (row : ThreadRow) → numbers_left (Some (f row)) ≤ numbers_left (Some row)
  pub holds : (row : ThreadRow) → IsHolding row → IsHolding (f row)

put_names : (f : ThreadRow → ThreadRow) (x : Option ThreadRow) (o : ObjNo) → PutsDown f
    → thread_names o (option_map f x) + option_names o (use_of_row x) ≡ thread_names o x
put_names f None o h = refl
put_names f (Some row) o h =
    let a = ap (option_names o) (h.link row) in
    let b : option_names o (f row).uses ≡ 0 = ap (option_names o) (h.uses row) in
    omega arith

put_holds : (f : ThreadRow → ThreadRow) (x : Option ThreadRow) (o : ObjNo) → PutsDown f
    → (use_names o (option_map f x) ≡ 0) × (link_names o (option_map f x) ≡ link_names o x)
    × (use_names o x ≡ option_names o (use_of_row x))
put_holds f None o h = (refl, refl, refl)
put_holds f (Some row) o h = (ap (option_names o) (h.uses row), ap (option_names o) (h.link row), refl)

pub may_owe_use : (threads : List (Option ThreadRow)) (r : ServerRows) (accepted : ℕ) (u : ObjNo) (used : Option ObjNo)
    → EachMayOwe threads r accepted u.0 (owed_use u used)
may_owe_use threads r accepted u None = tt
may_owe_use threads r accepted u (Some o) = (refl, tt)

sound-put : (script : Script) (S : State) (u : ObjNo) (f : ThreadRow → ThreadRow) → PutsDown f
    → ((row : ThreadRow) → thread_of S u ≡ Some row → IsThread script (length S.references.threads) row
    → KeepsThread script (length S.references.threads) row (f row))
    → IsBack S u → is_returning (part_of (option_map f (thread_of S u))) ≡ false
    → total weight (owed_of S u) + 4 ≤ 12 → u.0 < length S.references.threads → AreRows script S
    → Sound script S (record S {
      references = record S.references
          { threads = with_row S.references.threads u f; owed = owing S.references.owed u (owed_use u (use_of S u)) };
    }) []
sound-put script S u f puts thread back going few inside rows =
    let used = use_of S u in
    let other = with_row S.references.threads u f in
    let T : State = record S { references = record S.references { threads = other; owed = owing S.references.owed u (owed_use u used) } } in
    let old = thread_of S u in
    let here : u.0 < length S.references.owed = let a = rows.references.sized.duties in omega arith in
    let light = use_weight u used in
    let holds = λ (row : ThreadRow) (is : old ≡ Some row). ap stage_holds (puts.stage row) in
    let counts : (o : ObjNo) → count_of T o ≡ count_of S o = λ o.
    let a = count-with_row S.references.threads u f o in
    let b = kernel-with_row S.references.threads u f o holds in
    let c = put_names f old o puts in
    let d = total-owing (owed_names o) S.references.owed u (owed_use u used) here in
    let e = (use_owed u used o).0 in omega arith in
    let sweeps : (o : ObjNo) → sweeps_of T o ≡ sweeps_of S o = λ o.
    let d = total-owing (owed_sweeps o) S.references.owed u (owed_use u used) here in
    let e = (use_owed u used o).1 in omega arith in
    let held : (g : Holder) (x : ObjNo) → held_in T g x ≡ held_in S g x = λ g x.
    let a = rows-with_row S.references.handles S.references.threads S.synchronization.mutexes u f g x holds in
    let n = put_holds f old x puts in
    let b : (if is_holder (Link u) g then link_names x (option_map f old) else 0)
    ≡ (if is_holder (Link u) g then link_names x old else 0) =
    ap (λ (y : ℕ). if is_holder (Link u) g then y else 0) n.1 in
    let c = if_zero (is_holder (Temp u) g) (use_names x (option_map f old)) n.0 in
    let k : (if is_holder (Temp u) g then use_names x old else 0)
    ≡ (if is_holder (Temp u) g then option_names x used else 0) =
    ap (λ (y : ℕ). if is_holder (Temp u) g then y else 0) n.2 in
    let d = total-owing (owed_by g x) S.references.owed u (owed_use u used) here in
    let e = use_owed_by u used g x in omega arith in
    sound-of script S T [] rows (record {
      handles_long = refl;
      threads_long = length-with_row S.references.threads u f;
      owed_long = length-set S.references.owed u.0 _;
      objects_few = rows.references.sized.objects_few;
      tables = rows.references.tables;
      threads = threads-with_row script S.references.threads u f thread rows.references.threads;
      duties = duties-owing other S.serving.servers S.serving.messages.accepted S.references.owed u (owed_use u used)
          (may_owe_use other S.serving.servers S.serving.messages.accepted u used) (omega arith)
          (ap (λ (x : Option ThreadRow). is_returning (part_of x)) (row-here S.references.threads u f u.0 refl) ∙ going)
          (duties-threads S.references.threads other S.serving.servers S.serving.messages.accepted S.references.owed
          (λ k. inr (paid-with_row S.references.threads u f puts.going k)) rows.references.duties);
      synchronization = synchronization-left script S S.references.objects other (owing S.references.owed u (owed_use u used)) (λ k none. none)
          (synchronization-then script S other S.references.owed (owing S.references.owed u (owed_use u used))
          (synchronization-kept script S u f puts.holds puts.stage puts.waits rows)
          (leaves-owing other S.references.owed u (owed_use u used) S.synchronization.locks (use_unowned u used))) rows;
      services = services-row S.references.threads u f S.services (λ row is. (thread row is (rows.references.threads.rows u.0 row is)).process) rows.services;
      spent =
          spent-kept S.references.objects S.references.handles S.references.threads u f
          (record {
            stage = puts.stage;
            unused = λ row e. puts.uses row;
            waits = λ row e. puts.waits row ∙ e;
            going = puts.going;
            link = λ row e. puts.link row ∙ e;
          }) rows.references.spent;
      serving =
          serving-kept script S u f puts.stage (λ row p e. sym (puts.link row) ∙ e) (record {
            live = λ row live. sym (puts.stage row) ∙ live;
            waits = λ row live. puts.waits row;
            left = puts.left;
          }) rows;
    }) (lives-none S T (refl, refl, refl) counts sweeps
    (seeks-with_row S.references.threads u f
    (λ row is. let before = is_back S u row is back in seeks-back f row before (puts.going row before))))
    (holders-none S T held)

going : (x : Option ThreadRow) → is_returning (part_of (option_map advanced x)) ≡ false
going None = refl
going (Some row) = refl

some_row : (old row : ThreadRow) (x : Option ThreadRow) → x ≡ Some old → x ≡ Some row → old ≡ row
some_row old row x a b = cc

pub sound-advance : (script : Script) (S : State) (t u : ObjNo) → FitsMove script t (Advance u) S
    → total weight (owed_of S u) + 4 ≤ 12 → u.0 < length S.references.threads → AreRows script S
    → Sound script S (moved t (Advance u) S) (told (Advance u) S)
sound-advance script S t u fits few inside rows =
    sound-put script S u advanced (record {
      link = λ row. refl;
      uses = λ row. refl;
      stage = λ row. refl;
      waits = λ row. refl;
      going = λ row e. refl;
      left = λ row. let a = begun_one row.part in
          omega arith;
      holds = λ row h. (h.0, h.1, h.2, refl);
    })
    (λ row is h. record {
      thread = record {
        process = h.process;
        link = h.link;
        priority = h.priority;
        next_instruction =
            let e = some_row row fits.2.row (thread_of S u) is fits.2.is in
            let below : row.next_instruction < length (instructions_of script row.role) =
            subst (λ (r : ThreadRow). r.next_instruction < length (instructions_of script r.role)) (sym e) fits.2.next in
            omega arith;
        unused = λ e. refl;
        registers = h.registers;
        declared = h.declared;
        returns = λ e. absurd (cc);
      };
      process = refl;
      role = refl;
    }) fits.1 (going (thread_of S u)) few inside rows

-- its instruction goes on
still_going : (x : Option ThreadRow) → is_returning (part_of x) ≡ false → is_returning (part_of (option_map (with_use None) x)) ≡ false
still_going None e = refl
still_going (Some row) e = e

pub sound-put_down : (script : Script) (S : State) (t u : ObjNo) → FitsMove script t (PutDown u) S
    → total weight (owed_of S u) + 4 ≤ 12 → u.0 < length S.references.threads → AreRows script S
    → Sound script S (moved t (PutDown u) S) (told (PutDown u) S)
sound-put_down script S t u fits few inside rows =
    sound-put script S u (with_use None) (record {
      link = λ row. refl;
      uses = λ row. refl;
      stage = λ row. refl;
      waits = λ row. refl;
      going = λ row e. e;
      left = λ row. omega arith;
      holds = λ row h. h;
    })
    (λ row is h. record {
      thread = record {
        process = h.process;
        link = h.link;
        priority = h.priority;
        next_instruction = h.next_instruction;
        unused = λ e. refl;
        registers = h.registers;
        declared = h.declared;
        returns = h.returns;
      };
      process = refl;
      role = refl;
    }) fits.1.going (still_going (thread_of S u) fits.1.going) few inside rows
