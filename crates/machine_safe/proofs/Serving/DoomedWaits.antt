-- A doomed thread waits for nothing, isn't suspended, and wants no fast mutex.
use Rattle.std.proofs.Common.{Bool, List, None, Option, Some, ap, arith, false, get_or, get_or-set_other, inl, inr, refl, subst, sym, true, ℕ, ◌+◌, ◌-◌, ◌∙◌, ◌≡◌}
use Rattle.std.proofs.lemmas.Bool.{cases_eq}
use Rattle.std.specs.Prelude.{if◌then◌else◌, slice_set, ◌==◌}
use Rattle.sym_base.specs.declared.number.ObjNo.{ObjNo}
use Rattle.script_types.specs.Shape.{IsShaped}
use Rattle.script_types.specs.declared.script.Script.{Script}
use Rattle.entry_log.specs.declared.effect.Holder.{Holder}
use Rattle.entry_log.specs.declared.effect.Holder.TheVariants.{Temp}
use Rattle.state_rows.proofs.SoundChanges.{set_item}
use Rattle.state_rows.specs.Nano.{suspend_count, want_of}
use Rattle.state_rows.specs.ObjectRows.{place_of}
use Rattle.state_rows.specs.declared.duty.Owed.{Owed}
use Rattle.state_rows.specs.declared.duty.Owed.TheVariants as duty
use Rattle.state_rows.specs.declared.nano.NanoRows.{NanoRows}
use Rattle.state_rows.specs.declared.thread.Stage.{Stage}
use Rattle.state_rows.specs.declared.thread.Stage.TheVariants.{Cleaned, Doomed, Live}
use Rattle.state_rows.specs.declared.thread.ThreadRow.{ThreadRow}
use Rattle.state_rows.specs.declared.thread.Waiting.TheVariants as waiting
use Rattle.machine.specs.Boot.{boot_in, boot_of, born}
use Rattle.machine.specs.DeathMoves.{death_row}
use Rattle.machine.specs.Fits.{FitsMove, IsAtStage, IsLive}
use Rattle.machine.specs.Kept.{dies}
use Rattle.machine.specs.Moves.{advanced, moved, next_object, threads_closed, threads_gain, threads_lose, unlinked, with_found, with_kept, with_message, with_missed, with_opened, with_part, with_priority, with_register, with_use, with_waiting}
use Rattle.machine.specs.NanoMoves.{nano_moved}
use Rattle.machine.specs.Rows.{object_of, thread_of, with_row}
use Rattle.machine.specs.declared.death_move.DeathMove.TheVariants.{Bury, Clean, Doom, Note}
use Rattle.machine.specs.declared.message_move.MessageMove.TheVariants as message
use Rattle.machine.specs.declared.moves.Move.{Move}
use Rattle.machine.specs.declared.moves.Move.TheVariants.{Advance, Death, Find, Gain, GoOn, Keep, Lose, Make, Messages, Miss, Nano, Open, Pay, PutDown, SetPriority, Wait, Wake, Write, WriteMessage}
use Rattle.machine.specs.declared.nano_move.NanoMove.{NanoMove}
use Rattle.machine.specs.declared.nano_move.NanoMove.TheVariants.{Release, Resume, Suspend, Take, Want}
use Rattle.machine.specs.declared.state.State.{State}
use Rattle.machine_laws.proofs.AtBoot.Born.{born_row, each_born}
use Rattle.machine_safe.proofs.Serving.Proper.{Going, IsProper, marked, onward, released, stop_bit}
use Rattle.machine_safe.proofs.Serving.ProperKept.{IsKept}
use Rattle.move_laws.proofs.Holders.ThreadRows.{row-here, row-other}
use Rattle.move_laws.proofs.Lists.Sets.{set_default}
use Rattle.move_laws.proofs.References.Same.{same_object}
use Rattle.move_laws.proofs.RowLaws.Threads.{map_some, was_row}

-- a thread that isn't suspended, and wants no fast mutex
pub record IsReleased (r : NanoRows) (u : ObjNo) : Type 0 where
  pub count : suspend_count r u ≡ 0
  pub wants : want_of r u ≡ None

-- between actions: each doomed thread waits for nothing, and is released
abbrev pub AreFreed : State → Type 0
AreFreed S =
    (u : ObjNo) (row : ThreadRow) → thread_of S u ≡ Some row → row.stage ≡ Doomed
    → (row.waiting ≡ waiting.Nothing) × IsReleased S.synchronization.nano u

-- and before a move of an action: whom the action released last is so, and until it releases somebody, whoever was live before it is so
pub record FreedBefore (by : Going) (S : State) : Type 0 where
  pub doomed : AreFreed S
  pub freed : (u : ObjNo) → by.2 ≡ Some (released u) → IsReleased S.synchronization.nano u
  pub live : by.2 ≡ None → (u : ObjNo) → IsLive by.1 u → IsLive S u

-- a row that was there before, at the same stage, and waits for nothing where a doomed one did
record WasFreed (threads : List (Option ThreadRow)) (k : ℕ) (row : ThreadRow) : Type 0 where
  pub old : ThreadRow
  pub was : get_or threads k None ≡ Some old
  pub stage : old.stage ≡ row.stage
  pub waits : row.stage ≡ Doomed → old.waiting ≡ waiting.Nothing → row.waiting ≡ waiting.Nothing

abbrev WereFreed : List (Option ThreadRow) → List (Option ThreadRow) → Type 0
WereFreed threads other = (k : ℕ) (row : ThreadRow) → get_or other k None ≡ Some row → WasFreed threads k row

freed-same : (threads : List (Option ThreadRow)) → WereFreed threads threads
freed-same threads k row is = record { old = row; was = is; stage = refl; waits = λ doomed none. none }

freed-then : (threads other third : List (Option ThreadRow)) → WereFreed threads other → WereFreed other third → WereFreed threads third
freed-then threads other third h g k row is =
    let two = g k row is in
    let one = h k two.old two.was in
    record {
      old = one.old;
      was = one.was;
      stage = one.stage ∙ two.stage;
      waits = λ doomed none. two.waits doomed (one.waits (two.stage ∙ doomed) none);
    }

freed-row : (threads : List (Option ThreadRow)) (u : ObjNo) (f : ThreadRow → ThreadRow) → ((row : ThreadRow) → (f row).stage ≡ row.stage)
    → ((row : ThreadRow) → get_or threads u.0 None ≡ Some row → row.stage ≡ Doomed → row.waiting ≡ waiting.Nothing → (f row).waiting ≡ waiting.Nothing)
    → WereFreed threads (with_row threads u f)
freed-row threads u f stage waits k row is =
    was_row threads u f (WasFreed threads)
    (λ old was. record { old = old; was = was; stage = sym (stage old); waits = λ doomed none. waits old was (sym (stage old) ∙ doomed) none })
    (freed-same threads) k row is

freed-gained : (h : Holder) (o : ObjNo) (threads : List (Option ThreadRow)) → WereFreed threads (threads_gain h o threads)
freed-gained (Temp u) o threads = freed-row threads u (with_use (Some o)) (λ r. refl) (λ r is doomed none. none)
freed-gained h o threads = freed-same threads

freed-lost : (h : Holder) (threads : List (Option ThreadRow)) → WereFreed threads (threads_lose h threads)
freed-lost (Temp u) threads = freed-row threads u (with_use None) (λ r. refl) (λ r is doomed none. none)
freed-lost h threads = freed-same threads

freed-closed : (last : Bool) (o : ObjNo) (threads : List (Option ThreadRow)) → WereFreed threads (threads_closed last o threads)
freed-closed true o threads = freed-row threads o unlinked (λ r. refl) (λ r is doomed none. none)
freed-closed false o threads = freed-same threads

-- a move that leaves stages and the rows of threads that synchronize
freed-leaves : (S T : State) → T.synchronization.nano ≡ S.synchronization.nano
    → WereFreed S.references.threads T.references.threads → AreFreed S → AreFreed T
freed-leaves S T nano rows freed u row is doomed =
    let was = rows u.0 row is in
    let free = freed u was.old was.was (was.stage ∙ doomed) in
    (was.waits doomed free.0, subst (λ (r : NanoRows). IsReleased r u) (sym nano) free.1)

freed-on : (by : Going) (S : State) (t : ObjNo) (m : Move) → (moved t m S).synchronization.nano ≡ S.synchronization.nano
    → ((u : ObjNo) → marked m by.2 ≡ Some (released u) → by.2 ≡ Some (released u)) → (marked m by.2 ≡ None → by.2 ≡ None)
    → WereFreed S.references.threads (moved t m S).references.threads → FreedBefore by S → FreedBefore (onward by m) (moved t m S)
freed-on by S t m nano last none rows q = record {
  doomed = freed-leaves S (moved t m S) nano rows q.doomed;
  freed = λ u e. subst (λ (r : NanoRows). IsReleased r u) (sym nano) (q.freed u (last u e));
  live = λ e u was row is. let old = rows u.0 row is in sym old.stage ∙ q.live (none e) u was old.old old.was;
}

-- a change of a thread's own row
freed-own : (by : Going) (S : State) (t : ObjNo) (m : Move) (u : ObjNo) (f : ThreadRow → ThreadRow)
    → (moved t m S).synchronization.nano ≡ S.synchronization.nano → marked m by.2 ≡ by.2
    → (moved t m S).references.threads ≡ with_row S.references.threads u f → ((row : ThreadRow) → (f row).stage ≡ row.stage)
    → ((row : ThreadRow) → row.waiting ≡ waiting.Nothing → (f row).waiting ≡ waiting.Nothing) → FreedBefore by S → FreedBefore (onward by m) (moved t m S)
freed-own by S t m u f nano last threads stage waits q =
    freed-on by S t m nano (λ v e. sym last ∙ e) (λ e. sym last ∙ e)
    (subst (WereFreed S.references.threads) (sym threads) (freed-row S.references.threads u f stage (λ r is doomed none. waits r none))) q

-- who is released stays so, unless it is suspended or comes to want a fast mutex
released-nano : (m : NanoMove) (r : NanoRows) (u : ObjNo) → stop_bit (Nano m) ≡ 0 → IsReleased r u → IsReleased (nano_moved m r) u
released-nano (Suspend t) r u none i = absurd (omega arith)
released-nano (Want t f) r u none i = absurd (omega arith)
released-nano (Take t f) r u none i =
    record { count = i.count; wants = set_item (λ (x : Option ℕ). x ≡ None) r.wants t.0 u.0 None None (λ at. refl) i.wants }
released-nano (Resume t) r u none i = record {
  count = set_item (λ (n : ℕ). n ≡ 0) r.suspensions t.0 u.0 (suspend_count r t - 1) 0
      (λ at. let same : suspend_count r t ≡ 0 = ap (λ (n : ℕ). get_or r.suspensions n 0) (sym at) ∙ i.count in omega arith) i.count;
  wants = i.wants;
}
released-nano (Release t) r u none i = record {
  count = set_item (λ (n : ℕ). n ≡ 0) r.suspensions t.0 u.0 0 0 (λ at. refl) i.count;
  wants = set_item (λ (x : Option ℕ). x ≡ None) r.wants t.0 u.0 None None (λ at. refl) i.wants;
}
released-nano m r u none i = record { count = i.count; wants = i.wants }

-- another is suspended, or comes to want one
suspended-other : (r : NanoRows) (t u : ObjNo) → (u.0 ≡ t.0 → ⊥) → IsReleased r u → IsReleased (nano_moved (Suspend t) r) u
suspended-other r t u apart i = record { count = by (suspend_count r t == 127); wants = i.wants }
  where
    by : (b : Bool) → get_or (if b then r.suspensions else slice_set r.suspensions t.0 (suspend_count r t + 1)) u.0 0 ≡ 0
    by true = i.count
    by false = get_or-set_other r.suspensions t.0 u.0 (suspend_count r t + 1) 0 apart ∙ i.count

wanting-other : (r : NanoRows) (t u : ObjNo) (f : Option ℕ) → (u.0 ≡ t.0 → ⊥) → IsReleased r u → IsReleased (nano_moved (Want t f) r) u
wanting-other r t u f apart i = record { count = i.count; wants = get_or-set_other r.wants t.0 u.0 f None apart ∙ i.wants }

-- a doomed thread is no live one
doomed-apart : (S : State) (u v : ObjNo) (row : ThreadRow) → thread_of S u ≡ Some row → row.stage ≡ Doomed → IsLive S v → u.0 ≡ v.0 → ⊥
doomed-apart S u v row is doomed live at =
    let lives = live row (ap (λ (n : ℕ). get_or S.references.threads n None) (sym at) ∙ is) in
    let both = sym doomed ∙ lives in cc

freed-calm : (by : Going) (S : State) (t : ObjNo) (m : NanoMove) → stop_bit (Nano m) ≡ 0 → marked (Nano m) by.2 ≡ by.2
    → FreedBefore by S → FreedBefore (onward by (Nano m)) (moved t (Nano m) S)
freed-calm by S t m none last q = record {
  doomed = λ u row is doomed. let free = q.doomed u row is doomed in (free.0, released-nano m S.synchronization.nano u none free.1);
  freed = λ u e. released-nano m S.synchronization.nano u none (q.freed u (sym last ∙ e));
  live = λ e u was row is. q.live (sym last ∙ e) u was row is;
}

freed-nano : (script : Script) (by : Going) (S : State) (t : ObjNo) (m : NanoMove) (ms : List Move) → IsProper script by (Nano m) ms
    → FreedBefore by S → FreedBefore (onward by (Nano m)) (moved t (Nano m) S)
freed-nano script by S t (Release v) ms proper q = record {
  doomed = λ u row is doomed. let free = q.doomed u row is doomed in (free.0, released-nano (Release v) S.synchronization.nano u refl free.1);
  freed = λ u e.
      let own : v ≡ u = cc in
      subst (IsReleased (nano_moved (Release v) S.synchronization.nano)) own (record {
        count = set_default S.synchronization.nano.suspensions v.0 v.0 0 refl;
        wants = set_default S.synchronization.nano.wants v.0 v.0 None refl;
      });
  live = λ e. absurd (cc);
}
freed-nano script by S t (Suspend v) ms proper q = record {
  doomed = λ u row is doomed.
      let free = q.doomed u row is doomed in
      (free.0, suspended-other S.synchronization.nano v u (doomed-apart S u v row is doomed (q.live proper.2 v proper.1)) free.1);
  freed = λ u e. let none = proper.2 in absurd (cc);
  live = q.live;
}
freed-nano script by S t (Want v f) ms proper q = record {
  doomed = λ u row is doomed.
      let free = q.doomed u row is doomed in
      (free.0, wanting-other S.synchronization.nano v u f (doomed-apart S u v row is doomed (q.live proper.2 v proper.1)) free.1);
  freed = λ u e. let none = proper.2 in absurd (cc);
  live = q.live;
}
freed-nano script by S t m ms proper q = freed-calm by S t m refl refl q

-- a thread that was released is doomed
freed-doom : (S : State) (v : ObjNo) (f : ThreadRow → ThreadRow) → ((row : ThreadRow) → (f row).waiting ≡ waiting.Nothing)
    → IsReleased S.synchronization.nano v → AreFreed S → (u : ObjNo) (row : ThreadRow)
    → get_or (with_row S.references.threads v f) u.0 None ≡ Some row → row.stage ≡ Doomed
    → (row.waiting ≡ waiting.Nothing) × IsReleased S.synchronization.nano u
freed-doom S v f waits free freed u row is doomed =
    elim (cases_eq v.0 u.0) as (λ _. (row.waiting ≡ waiting.Nothing) × IsReleased S.synchronization.nano u) [
      | inl at ↦
          let old = map_some f (thread_of S v) row (sym (row-here S.references.threads v f u.0 at) ∙ is) in
          (ap (λ (r : ThreadRow). r.waiting) (sym old.2) ∙ waits old.0, subst (IsReleased S.synchronization.nano) (same_object v u at) free)
      | inr apart ↦ freed u row (sym (row-other S.references.threads v f u.0 apart) ∙ is) doomed
    ]

-- a thread that isn't live any more comes past its doom
freed-past : (by : Going) (S T : State) (v : ObjNo) (f : ThreadRow → ThreadRow) (stage : Stage) → T.synchronization.nano ≡ S.synchronization.nano
    → T.references.threads ≡ with_row S.references.threads v f → ((row : ThreadRow) → (f row).stage ≡ Doomed → ⊥) → IsAtStage S v stage
    → (stage ≡ Live → ⊥) → FreedBefore by S → FreedBefore by T
freed-past by S T v f stage nano threads past at dead q = record {
  doomed = λ u row is doomed.
      let free = q.doomed u row (elsewhere u row is (λ r e. past r (ap (λ (x : ThreadRow). x.stage) e ∙ doomed))) doomed in
      (free.0, subst (λ (r : NanoRows). IsReleased r u) (sym nano) free.1);
  freed = λ u e. subst (λ (r : NanoRows). IsReleased r u) (sym nano) (q.freed u e);
  live = λ e u was row is. elim (cases_eq v.0 u.0) as (λ _. row.stage ≡ Live) [
    | inl same ↦
        let lives = q.live e u was at.row (ap (λ (n : ℕ). get_or S.references.threads n None) (sym same) ∙ at.is) in
        absurd (dead (sym at.at ∙ lives))
    | inr apart ↦
        q.live e u was row (sym (row-other S.references.threads v f u.0 apart)
        ∙ (ap (λ (l : List (Option ThreadRow)). get_or l u.0 None) (sym threads) ∙ is))
  ];
}
  where
    elsewhere : (u : ObjNo) (row : ThreadRow) → thread_of T u ≡ Some row → ((r : ThreadRow) → f r ≡ row → ⊥) → thread_of S u ≡ Some row
    elsewhere u row is other =
        let now : get_or (with_row S.references.threads v f) u.0 None ≡ Some row =
        ap (λ (l : List (Option ThreadRow)). get_or l u.0 None) (sym threads) ∙ is in
        elim (cases_eq v.0 u.0) as (λ _. thread_of S u ≡ Some row) [
          | inl same ↦
              let old = map_some f (thread_of S v) row (sym (row-here S.references.threads v f u.0 same) ∙ now) in
              absurd (other old.0 old.2)
          | inr apart ↦ sym (row-other S.references.threads v f u.0 apart) ∙ now
        ]

freed-move : (script : Script) (by : Going) (S : State) (t : ObjNo) (m : Move) (ms : List Move) → FitsMove script t m S
    → IsProper script by m ms → FreedBefore by S → FreedBefore (onward by m) (moved t m S)
freed-move script by S t (Make k name h) ms fits proper q =
    freed-on by S t (Make k name h) refl (λ u e. e) (λ e. e) (freed-gained h (next_object S) S.references.threads) q
freed-move script by S t (Gain h o) ms fits proper q = freed-on by S t (Gain h o) refl (λ u e. e) (λ e. e) (freed-gained h o S.references.threads) q
freed-move script by S t (Lose h o) ms fits proper q =
    freed-on by S t (Lose h o) refl (λ u e. e) (λ e. e)
    (freed-then S.references.threads (threads_lose h S.references.threads) (threads_closed (dies S o) o (threads_lose h S.references.threads))
    (freed-lost h S.references.threads) (freed-closed (dies S o) o (threads_lose h S.references.threads))) q
freed-move script by S t (Find u o) ms fits proper q =
    freed-own by S t (Find u o) u (with_found o (place_of (object_of S o))) refl refl refl (λ r. refl) (λ r e. e) q
freed-move script by S t (Open u o part) ms fits proper q = freed-own by S t (Open u o part) u (with_opened o part) refl refl refl (λ r. refl) (λ r e. e) q
freed-move script by S t (Miss u o) ms fits proper q = freed-own by S t (Miss u o) u with_missed refl refl refl (λ r. refl) (λ r e. e) q
freed-move script by S t (GoOn u part) ms fits proper q = freed-own by S t (GoOn u part) u (with_part part) refl refl refl (λ r. refl) (λ r e. e) q
freed-move script by S t (Keep u number) ms fits proper q = freed-own by S t (Keep u number) u (with_kept number) refl refl refl (λ r. refl) (λ r e. e) q
freed-move script by S t (Write u x value) ms fits proper q =
    freed-own by S t (Write u x value) u (with_register x value) refl refl refl (λ r. refl) (λ r e. e) q
freed-move script by S t (WriteMessage u y number) ms fits proper q =
    freed-own by S t (WriteMessage u y number) u (with_message y number) refl refl refl (λ r. refl) (λ r e. e) q
freed-move script by S t (PutDown u) ms fits proper q = freed-own by S t (PutDown u) u (with_use None) refl refl refl (λ r. refl) (λ r e. e) q
freed-move script by S t (Advance u) ms fits proper q = freed-own by S t (Advance u) u advanced refl refl refl (λ r. refl) (λ r e. e) q
freed-move script by S t (Wait u what) ms fits proper q =
    freed-on by S t (Wait u what) refl (λ v e. e) (λ e. e)
    (freed-row S.references.threads u (with_waiting what) (λ r. refl)
    (λ r is doomed none. let both = sym doomed ∙ fits.2 r is in absurd (cc))) q
freed-move script by S t (Wake u) ms fits proper q =
    freed-own by S t (Wake u) u (with_waiting waiting.Nothing) refl refl refl (λ r. refl) (λ r e. refl) q
freed-move script by S t (SetPriority u priority) ms fits proper q =
    freed-own by S t (SetPriority u priority) u (with_priority priority) refl refl refl (λ r. refl) (λ r e. e) q
freed-move script by S t (Nano m) ms fits proper q = freed-nano script by S t m ms proper q
freed-move script by S t (Death (Note u exit)) ms fits proper q =
    freed-own by S t (Death (Note u exit)) u (death_row (Note u exit)) refl refl refl (λ r. refl) (λ r e. e) q
freed-move script by S t (Death (Doom u exit)) ms fits proper q = record {
  doomed = freed-doom S u (death_row (Doom u exit)) (λ r. refl) (q.freed u proper) q.doomed;
  freed = q.freed;
  live = λ e. let none = sym proper ∙ e in absurd (cc);
}
freed-move script by S t (Death (Clean u)) ms fits proper q =
    freed-past by S (moved t (Death (Clean u)) S) u (death_row (Clean u)) Doomed refl refl (λ r e. cc) fits.0 (λ e. cc) q
freed-move script by S t (Death (Bury u)) ms fits proper q =
    freed-past by S (moved t (Death (Bury u)) S) u (death_row (Bury u)) Cleaned refl refl (λ r e. cc) fits.0 (λ e. cc) q
freed-move script by S t (Messages (message.Accept slots row)) ms fits proper q =
    freed-on by S t (Messages (message.Accept slots row)) refl (λ u e. absurd (cc)) (λ e. absurd (cc)) (freed-same S.references.threads) q
freed-move script by S t (Pay what) ms fits proper q = absurd fits
freed-move script by S t m ms fits proper q = freed-on by S t m refl (λ u e. e) (λ e. e) (freed-same S.references.threads) q

-- what is owed is paid
freed-pay : (S : State) (t : ObjNo) (what : Owed) → AreFreed S → AreFreed (moved t (Pay what) S)
freed-pay S t (duty.Close h o) freed =
    freed-leaves S (moved t (Pay (duty.Close h o)) S) refl (freed-closed (dies S o) o S.references.threads) freed
freed-pay S t (duty.Sweep o) freed = freed-leaves S (moved t (Pay (duty.Sweep o)) S) refl
    (λ k row is. freed-same S.references.threads k row (set_item
    (λ (x : Option ThreadRow). x ≡ Some row → get_or S.references.threads k None ≡ Some row) S.references.threads o.0 k
    None None (λ at e. absurd (cc)) (λ e. e) is)) freed

pub freed-kept : (script : Script) → IsKept script AreFreed (λ by S ms. FreedBefore by S)
freed-kept script = record {
  begins = λ S t ms freed. record { doomed = freed; freed = λ u e. absurd (cc); live = λ e u live. live };
  rests = λ S ms freed. record { doomed = freed; freed = λ u e. absurd (cc); live = λ e u live. live };
  ends = λ by S q. q.doomed;
  moves = λ by S t m ms rows fits proper q. freed-move script by S t m ms fits proper q;
  pays = λ S t what rows freed. freed-pay S t what freed;
}

-- at boot nobody is doomed
pub freed-boot : (shared : Bool) (script : Script) → IsShaped script → AreFreed (boot_in shared script)
unfolding boot_of
freed-boot shared script shaped u row is doomed =
    let both = sym doomed ∙ (born_row script _ (born script) u.0 row (each_born script shaped) is).live in
    absurd (cc)
