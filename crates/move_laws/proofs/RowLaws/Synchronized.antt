-- The rows of threads that synchronize, where they change, or the rows of threads.
use Rattle.std.proofs.Common.{◌≡◌, ℕ, ◌<◌, Bool, true, false, List, length, get_or, set, arith, refl, sym, subst, ◌∙◌, Option, Some, None}
use Rattle.std.specs.Prelude.{if◌then◌else◌}
use Rattle.std.proofs.lemmas.List.{length-set, get_or-set_same}
use Rattle.sym_base.specs.declared.number.ObjNo.{ObjNo}
use Rattle.script_types.specs.declared.script.Script.{Script}
use Rattle.state_rows.specs.declared.nano.NanoRows.{NanoRows}
use Rattle.state_rows.specs.Nano.{want_of, holder_of, held_by, is_holder}
use Rattle.state_rows.specs.NanoChanges.{after_take, after_give, after_want}
use Rattle.state_rows.specs.NanoSound.{AreNanoRows}
use Rattle.state_rows.proofs.Soundness.{held_none}
use Rattle.state_rows.proofs.SoundChanges.{set_item, was_holder, sound-take, sound-give, sound-want}
use Rattle.state_rows.specs.declared.thread.ThreadRow.{ThreadRow}
use Rattle.state_rows.specs.declared.thread.Stage.TheVariants.{Live}
use Rattle.state_rows.specs.declared.thread.Waiting.TheVariants as waiting
use Rattle.machine.specs.Rows.{with_row}
use Rattle.machine.specs.Out.{is_returning}
use Rattle.machine.specs.Task.{served_queue}
use Rattle.machine.specs.WellFormed.{IsHolder, AreSynchronized}
use Rattle.move_laws.proofs.Holders.ThreadRows.{row-other}
use Rattle.move_laws.proofs.Lists.Totals.{inside}
use Rattle.move_laws.proofs.References.Same.{same_object}
use Rattle.move_laws.proofs.RowLaws.Threads.{length-with_row, row-kept}

-- other rows of as many threads, in which each holder is one still
pub synchronized-threads : (script : Script) (threads other : List (Option ThreadRow)) (r : NanoRows)
    → length other ≡ length threads
    → ((f : ℕ) (u : ObjNo) → holder_of r f ≡ Some u → IsHolder threads r u → IsHolder other r u)
    → AreSynchronized script threads r → AreSynchronized script other r
synchronized-threads script threads other r long holders h = record {
  rows = h.rows;
  sized = h.sized ∙ sym long;
  mutexes = h.mutexes;
  holders = λ f u is. holders f u is (h.holders f u is);
}

-- what holds of the row of a thread that holds a fast mutex
abbrev pub IsHolding : ThreadRow → Type 0
IsHolding row = (row.waiting ≡ waiting.Nothing) × (row.stage ≡ Live) × (served_queue row.role ≡ None) × (is_returning row.part ≡ false)

-- a change of a row that begins no wait and no death
pub synchronized-with_row : (script : Script) (threads : List (Option ThreadRow)) (t : ObjNo)
    (change : ThreadRow → ThreadRow) (r : NanoRows)
    → ((row : ThreadRow) → IsHolding row → IsHolding (change row)) → AreSynchronized script threads r
    → AreSynchronized script (with_row threads t change) r
synchronized-with_row script threads t change r keeps h = synchronized-threads script threads (with_row threads t change) r (length-with_row threads t change)
    (λ f u is held. let kept = row-kept threads t change u.0 held.row IsHolding keeps held.is
    (held.waits, held.live, held.serves, held.going) in
    record {
      row = kept.0;
      is = kept.1;
      live = kept.2.1;
      serves = kept.2.2;
      waits = kept.2.0;
      going = kept.2.3;
      wants = held.wants;
    }) h

-- any change of the row of a thread that holds no fast mutex
pub synchronized-unheld : (script : Script) (threads : List (Option ThreadRow)) (t : ObjNo)
    (change : ThreadRow → ThreadRow) (r : NanoRows)
    → held_by r t ≡ None → AreSynchronized script threads r → AreSynchronized script (with_row threads t change) r
synchronized-unheld script threads t change r none h = synchronized-threads script threads (with_row threads t change) r (length-with_row threads t change)
    (λ f u is held. record {
      row = held.row;
      is = row-other threads t change u.0 (λ at. held_none r t f none (subst (λ (v : ObjNo). holder_of r f ≡ Some v) (sym (same_object t u at)) is)) ∙ held.is;
      live = held.live;
      serves = held.serves;
      waits = held.waits;
      going = held.going;
      wants = held.wants;
    }) h

-- any change of the row of a thread that is no holder
pub synchronized-apart : (script : Script) (threads : List (Option ThreadRow)) (t : ObjNo)
    (change : ThreadRow → ThreadRow) (r : NanoRows)
    → ((f : ℕ) → holder_of r f ≡ Some t → ⊥) → AreSynchronized script threads r
    → AreSynchronized script (with_row threads t change) r
synchronized-apart script threads t change r none h = synchronized-threads script threads (with_row threads t change) r (length-with_row threads t change)
    (λ f u is held. record {
      row = held.row;
      is = row-other threads t change u.0 (λ at. none f (subst (λ (v : ObjNo). holder_of r f ≡ Some v) (sym (same_object t u at)) is)) ∙ held.is;
      live = held.live;
      serves = held.serves;
      waits = held.waits;
      going = held.going;
      wants = held.wants;
    }) h

-- a holder in other rows that say the same of what it wants
holder-rows : {threads : List (Option ThreadRow)} {r new : NanoRows} {u : ObjNo} → want_of new u ≡ want_of r u → IsHolder threads r u → IsHolder threads new u
holder-rows same held = record {
  row = held.row;
  is = held.is;
  live = held.live;
  serves = held.serves;
  waits = held.waits;
  going = held.going;
  wants = same ∙ held.wants;
}

-- other counts of as many threads
pub synchronized-counts : (script : Script) (threads : List (Option ThreadRow)) (r : NanoRows)
    (signals suspensions sections : List ℕ)
    → length signals ≡ length r.signals
    → AreNanoRows (record r { signals = signals; suspensions = suspensions; sections = sections })
    → AreSynchronized script threads r
    → AreSynchronized script threads (record r { signals = signals; suspensions = suspensions; sections = sections })
synchronized-counts script threads r signals suspensions sections long sound h = record {
  rows = sound;
  sized = long ∙ h.sized;
  mutexes = h.mutexes;
  holders = λ f u is. holder-rows refl (h.holders f u is);
}

-- a live thread takes a free fast mutex that waits for nothing and holds none, and wants none any more
pub synchronized-take : (script : Script) (threads : List (Option ThreadRow)) (r : NanoRows) (t : ObjNo) (f : ℕ)
    (row : ThreadRow)
    → f < length r.holders → holder_of r f ≡ None → held_by r t ≡ None → get_or threads t.0 None ≡ Some row
    → row.stage ≡ Live → served_queue row.role ≡ None → row.waiting ≡ waiting.Nothing → is_returning row.part ≡ false
    → AreSynchronized script threads r → AreSynchronized script threads (after_want (after_take r t f) t None)
synchronized-take script threads r t f row below free none is live serves waits going h = rw free (record {
  rows = sound-want taken t None (λ g e. absurd (cc)) (rw free at (sound-take r t f known below free none h.rows));
  sized = h.sized;
  mutexes = length-set r.holders f (Some t) ∙ h.mutexes;
  holders = λ g u. set_item (λ (holder : Option ObjNo). holder ≡ Some u → IsHolder threads new u) r.holders f g (Some t) None
      (λ _ e. let one : t ≡ u = cc in subst (IsHolder threads new) one
      (record {
        row = row;
        is = is;
        live = live;
        serves = serves;
        waits = waits;
        going = going;
        wants = get_or-set_same r.wants t.0 None None wanting;
      }))
      (λ e. let held = h.holders g u e in record {
        row = held.row;
        is = held.is;
        live = held.live;
        serves = held.serves;
        waits = held.waits;
        going = held.going;
        wants = set_item (λ (want : Option ℕ). want ≡ None) r.wants t.0 u.0 None None (λ _. refl) held.wants;
      });
})
  where
    taken : NanoRows
    taken = record r { holders = set r.holders f (Some t) }

    new : NanoRows
    new = record taken { wants = set r.wants t.0 None }

    known : t.0 < length r.signals
    known = let lt = inside threads t.0 row is in let long = h.sized in omega arith

    wanting : t.0 < length r.wants
    wanting = let long = h.rows.wants_sized in let lt = known in omega arith

-- a thread gives a fast mutex up
pub synchronized-give : (script : Script) (threads : List (Option ThreadRow)) (r : NanoRows) (t : ObjNo) (f : ℕ)
    → AreSynchronized script threads r → AreSynchronized script threads (after_give r t f)
synchronized-give script threads r t f h = by (is_holder r t f) (sound-give r t f h.rows)
  where
    new : Bool → NanoRows
    new b = record r { holders = if b then set r.holders f None else r.holders }

    by : (b : Bool) → AreNanoRows (new b) → AreSynchronized script threads (new b)
    by false sound = record { rows = sound; sized = h.sized; mutexes = h.mutexes; holders = λ g u is. holder-rows refl (h.holders g u is) }
    by true sound = record {
      rows = sound;
      sized = h.sized;
      mutexes = length-set r.holders f None ∙ h.mutexes;
      holders = λ g u is. holder-rows refl (h.holders g u (was_holder r f g u is));
    }

-- a thread wants a fast mutex or none; one that holds one wants none
pub synchronized-want : (script : Script) (threads : List (Option ThreadRow)) (r : NanoRows) (t : ObjNo)
    (want : Option ℕ)
    → ((f : ℕ) → want ≡ Some f → f < length r.holders) → ((f : ℕ) → holder_of r f ≡ Some t → want ≡ None)
    → AreSynchronized script threads r → AreSynchronized script threads (after_want r t want)
synchronized-want script threads r t want known unless h = record {
  rows = sound-want r t want known h.rows;
  sized = h.sized;
  mutexes = h.mutexes;
  holders = λ f u is. let held = h.holders f u is in record {
    row = held.row;
    is = held.is;
    live = held.live;
    serves = held.serves;
    waits = held.waits;
    going = held.going;
    wants =
        set_item (λ (w : Option ℕ). w ≡ None) r.wants t.0 u.0 want None
        (λ at. unless f (subst (λ (v : ObjNo). holder_of r f ≡ Some v) (same_object u t at) is)) held.wants;
  };
}
